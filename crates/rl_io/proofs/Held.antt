-- What a sink holds after one more piece, and what a source has left.
use Rattle.std.proofs.Common.{◌≡◌, ℕ, ◌+◌, List, ◌++◌, take, drop, Option, None, Some, refl, ap, sym, ◌∙◌, take-add, append_assoc, take-append-drop}
use Rattle.std.proofs.lemmas.List.{drop-drop}
use Rattle.std.specs.Io.KnownBytes.{append_known}

-- a prefix of what is still to go makes the prefix that has gone longer
pub held_more : (held : Option (List ℕ)) (bytes : List ℕ) (at n : ℕ) → append_known (append_known held (take at bytes)) (take n (drop at bytes)) ≡ append_known held (take (at + n) bytes)
held_more None bytes at n = refl
held_more (Some held) bytes at n =
    ap Some (append_assoc held (take at bytes) (take n (drop at bytes)) ∙ ap (λ more. held ++ more) (sym (take-add at n bytes)))

-- the bytes from one index on are the next n and those after them
pub rest_parts : (bytes : List ℕ) (at n : ℕ) → drop at bytes ≡ take n (drop at bytes) ++ drop (at + n) bytes
rest_parts bytes at n = rw (← drop-drop n at bytes) (sym (take-append-drop n (drop at bytes)))
