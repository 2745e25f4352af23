-- Rows that fit the tables, as one more is put.
use Rattle.std.proofs.Common.{◌≡◌, ◌⊎◌, ℕ, ◌%◌, ◌<◌, List, length, cond, true, false, refl, sym, ap, ◌∙◌, subst, inl, inr}
use Rattle.std.proofs.Math.Nat.{mod-lt}
use Rattle.std.specs.Prelude.{Some, None}
use Rattle.std.specs.FinMap.{get, insert, get-insert, empty, get-empty}
use Rattle.std.proofs.lemmas.Bool.{cases_Bool}
use Rattle.rl_replay.proofs.Places.{at_is, at_same}
use Rattle.rl_replay.specs.Replay.{is_at}
use Rattle.rl_txn.specs.declared.write.Write.{Write}
use Rattle.rl_value.proofs.PlacesLemmas.{places_total}
use Rattle.rl_value.specs.Fits.{RowsFit}
use Rattle.rl_value.specs.Rows.{Rows, place_cmp}
use Rattle.rl_value.specs.Tables.{Table, size_of, columns_of}

Some-injective : (x y : List ℕ) → Some x ≡ Some y → x ≡ y
Some-injective x y e = cc

pub fit_none : (tables : List Table) → RowsFit tables empty
fit_none tables t k row e = absurd (none row (sym (get-empty place_cmp (t, k)) ∙ e))
  where
    none : (row : List ℕ) → None ≡ Some row → ⊥
    none row e = absurd cc

pub fit_more : (tables : List Table) (m : Rows) (t k : ℕ) (row : List ℕ) → RowsFit tables m → t < length tables → k < size_of tables t → length row ≡ columns_of tables t → RowsFit tables (insert m (t, k) row)
fit_more tables m t k row fit l n c u j x e = elim (cases_Bool (is_at (u, j) w)) [
  | inl s ↦ (let same = at_same (u, j) w s in let r = Some-injective row x (sym (found ∙ ap (λ b. cond b (Some row) (get m (u, j))) s) ∙ e) in
      subst (λ (z : (ℕ × ℕ) × List ℕ). (z.0.0 < length tables) × (z.0.1 < size_of tables z.0.0) × (length z.1 ≡ columns_of tables z.0.0)) (λ i. (sym same i, r i)) (l, n, c))
  | inr s ↦ fit u j x (sym (found ∙ ap (λ b. cond b (Some row) (get m (u, j))) s) ∙ e)
]
  where
    w : Write
    w = record { table = t; key = k; row = None }

    found : get (insert m (t, k) row) (u, j) ≡ cond (is_at (u, j) w) (Some row) (get m (u, j))
    found = get-insert places_total m (t, k) row (u, j) ∙ ap (λ b. cond b (Some row) (get m (u, j))) (at_is (u, j) w)

-- at a key that was taken modulo the size
pub fit_mod : (tables : List Table) (m : Rows) (key size : ℕ) (row : List ℕ) → RowsFit tables m → 0 < length tables → size ≡ size_of tables 0 → 0 < size → length row ≡ columns_of tables 0 → RowsFit tables (insert m (0, key % size) row)
fit_mod tables m key size row fit l is some c = fit_more tables m 0 (key % size) row fit l (subst (λ n. key % size < n) is (mod-lt key some)) c
