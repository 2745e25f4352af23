-- The numbers that words are, one word after another.
use Rattle.std.proofs.Common.{◌≡◌, ℕ, ◌+◌, ◌-◌, ◌^◌, ◌<◌, ◌≤◌, List, [], ◌∷◌, ◌++◌, length, map, drop, get_or, Result, Ok, Err, refl, ap, sym, ◌∙◌, append_assoc, append-nil}
use Rattle.std.proofs.lemmas.List.{at_drop_more, at_drop_all}
use denote.Bor.{Bor}
use Rattle.rl_base.specs.Results.{◌>>=◌}
use Rattle.rl_text.specs.Numbers.{number_within}
use Rattle.rl_text.specs.Printed.{Line}
use Rattle.rl_report.specs.declared.fault.LineError.{LineError}
use Rattle.rl_report.specs.declared.fault.LineError.TheVariants as errors
use Rattle.rl_report.specs.declared.fault.ReportFault.{ReportFault}
use Rattle.rl_report.specs.declared.fault.ReportFault.TheVariants.{Form}
use Rattle.rl_report.specs.Answers.{FailsAs}
use Rattle.rl_report.specs.Words.{longs}

-- what was read before, and then more
abbrev pub numbers_onto : List ℕ → Result (List ℕ × Line) ReportFault → Result (List ℕ × Line) ReportFault
numbers_onto before r = r >>= λ x. Ok (before ++ x.0, x.1)

one_more : (before : List ℕ) (word : List ℕ) (words : Line) (n : ℕ) → number_within 0 (2 ^ 64 - 1) Form Form word ≡ Ok n → numbers_onto before (longs (word ∷ words)) ≡ numbers_onto (before ++ n ∷ []) (longs words)
unfolding longs
one_more before word words n is = ap (λ (r : Result ℕ ReportFault). numbers_onto before (r >>= λ n. longs words >>= λ ns. Ok (n ∷ ns.0, ns.1))) is ∙ here (longs words)
  where
    here : (r : Result (List ℕ × Line) ReportFault) → numbers_onto before (r >>= λ ns. Ok (n ∷ ns.0, ns.1)) ≡ numbers_onto (before ++ n ∷ []) r
    here (Ok x) = ap (λ ns. Ok (ns, x.1)) (sym (append_assoc before (n ∷ []) x.0))
    here (Err kind) = refl

pub numbers_more : (before : List ℕ) (words : List (Bor (List ℕ))) (i : ℕ) (d : Bor (List ℕ)) (n : ℕ) → i < length words → number_within 0 (2 ^ 64 - 1) Form Form (get_or words i d).now ≡ Ok n
    → numbers_onto before (longs (map (λ w. w.now) (drop i words))) ≡ numbers_onto (before ++ n ∷ []) (longs (map (λ w. w.now) (drop (i + 1) words)))
numbers_more before words i d n within is =
    at_drop_more (λ ws. numbers_onto before (longs (map (λ w. w.now) ws))) words i d within ∙ one_more before (get_or words i d).now (map (λ w. w.now) (drop (i + 1) words)) n is

pub numbers_wrong : (before : List ℕ) (words : List (Bor (List ℕ))) (i : ℕ) (d : Bor (List ℕ)) (kind : ReportFault) → i < length words → number_within 0 (2 ^ 64 - 1) Form Form (get_or words i d).now ≡ Err kind
    → numbers_onto before (longs (map (λ w. w.now) (drop i words))) ≡ Err kind
unfolding longs
numbers_wrong before words i d kind within is =
    at_drop_more (λ ws. numbers_onto before (longs (map (λ w. w.now) ws))) words i d within
    ∙ ap (λ (r : Result ℕ ReportFault). numbers_onto before (r >>= λ n. longs (map (λ w. w.now) (drop (i + 1) words)) >>= λ ns. Ok (n ∷ ns.0, ns.1))) is

pub numbers_first : (r : Result (List ℕ × Line) ReportFault) → numbers_onto [] r ≡ r
numbers_first (Ok x) = refl
numbers_first (Err kind) = refl

pub numbers_last : (before : List ℕ) (words : List (Bor (List ℕ))) (i : ℕ) → length words ≤ i → numbers_onto before (longs (map (λ w. w.now) (drop i words))) ≡ Ok (before, [])
unfolding longs
numbers_last before words i past = at_drop_all (λ ws. numbers_onto before (longs (map (λ w. w.now) ws))) words i past ∙ ap (λ ns. Ok (ns, [])) (append-nil before)

-- a fault of a word is what is wrong with its line
pub failed : {A : Type 0} (e : LineError) (kind : ReportFault) (r : Result A ReportFault) → e ≡ errors.Fault kind → r ≡ Err kind → FailsAs e r
failed e kind r is wrong = rw (is, wrong) refl

pub ruleset numbers_read = (numbers_more, numbers_first, numbers_last)
