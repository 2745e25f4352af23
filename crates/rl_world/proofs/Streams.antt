-- The lines of streams, one more.
use Rattle.std.proofs.Common.{◌≡◌, ℕ, zero, suc, ◌+◌, ◌<◌, List, [], ◌∷◌, ◌++◌, length, take, get_or, refl, ap, sym, ◌∙◌, arith}
use Rattle.rl_nodes.specs.declared.view.StreamView.{StreamView}
use Rattle.rl_report.specs.declared.line.StreamLine.{StreamLine}
use Rattle.rl_world.specs.Reported.{stream_lines_from}

-- the line of one
abbrev pub stream_line : (s : ℕ) → StreamView → StreamLine
stream_line s x = record { stream = s; ballot = x.ballot; len = x.len; known = x.known }

next_from : (s : ℕ) (xs : List StreamView) (i : ℕ) (d : StreamView) → i < length xs
    → stream_lines_from s (take (suc i) xs) ≡ stream_lines_from s (take i xs) ++ stream_line (s + i) (get_or xs i d) ∷ []
next_from s [] i d within = absurd (omega arith)
next_from s (x ∷ xs) zero d within = ap (λ n. stream_line n x ∷ []) (omega arith)
next_from s (x ∷ xs) (suc i) d within =
    let at : suc s + i ≡ s + suc i = omega arith in
    ap (λ ys. stream_line s x ∷ ys)
    (next_from (suc s) xs i d (omega arith) ∙ ap (λ n. stream_lines_from (suc s) (take i xs) ++ stream_line n (get_or xs i d) ∷ []) at)

pub next_line : (xs : List StreamView) (i : ℕ) (d x : StreamView) (old new : List StreamLine) → i < length xs → x ≡ get_or xs i d
    → old ≡ stream_lines_from 1 (take i xs) → new ≡ old ++ stream_line (i + 1) x ∷ [] → new ≡ stream_lines_from 1 (take (i + 1) xs)
next_line xs i d x old new within is before more =
    let one : i + 1 ≡ 1 + i = omega arith in
    let first : old ++ stream_line (i + 1) x ∷ [] ≡ stream_lines_from 1 (take i xs) ++ stream_line (1 + i) (get_or xs i d) ∷ [] = rw (before, one, is) refl in
    let at : suc i ≡ i + 1 = omega arith in
    more ∙ first ∙ sym (next_from 1 xs i d within) ∙ ap (λ n. stream_lines_from 1 (take n xs)) at
