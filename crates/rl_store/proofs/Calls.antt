-- What the calls know of the words of a record.
use Rattle.std.proofs.Common.{◌≡◌, ℕ, zero, suc, ◌+◌, ◌*◌, ◌<◌, ◌≤◌, List, [], ◌∷◌, length, get_or, refl, ap, sym, subst, arith}
use Rattle.atomic_table.specs.Seated.{TableId}
use Rattle.rl_store.specs.declared.rule.Start.{Start}
use Rattle.rl_store.specs.Opening.{Made, made_of}
use Rattle.rl_store.specs.Passes.{StoreFits}

-- a place in the list tells the same whatever stands past the end
pub in_range : (l : List ℕ) (i d e : ℕ) → i < length l → get_or l i d ≡ get_or l i e
in_range [] i d e h = absurd (omega arith)
in_range (x ∷ l) zero d e h = refl
in_range (x ∷ l) (suc i) d e h = in_range l i d e (omega arith)

module _ (table : TableId) (key : Start) (kept : List ℕ) (dated : ℕ) (fits : StoreFits table key kept dated) where
  pub some_words : 0 < table.words
  some_words = let w = fits.words in omega arith

  -- a record of the store is one of the rule's, and its words are there
  pub record_of : (made : Made) → made_of key ≡ made → (r : ℕ) → r < length made.columns → (r < length key.columns.items) × (6 * r + 7 ≤ table.words)
  record_of made is r less =
      let l : r < length key.columns.items = subst (λ (m : Made). r < length m.columns) (sym is) less in
      let same = ap length fits.columns in
      let w = fits.words in
      (l, omega arith)
