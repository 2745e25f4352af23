-- What is settled, and the stores of one write.
use Rattle.std.proofs.Common.{◌≡◌, ℕ, zero, suc, ◌+◌, ◌*◌, ◌/◌, ◌%◌, ◌<◌, ◌≤◌, List, [], ◌∷◌, ◌++◌, length, get_or, take, Contains, refl, sym, ap, ◌∙◌, subst, arith, inl, le_refl, replicate}
use Rattle.std.specs.Prelude.{Option, Some, None}
use Rattle.std.proofs.lemmas.List.{take_more, take_all, length-take-le}
use mathlib.Core.Option.{none}
use Rattle.atomic_table.specs.Table.{step, Allows}
use Rattle.rl_base.specs.Words.{stamp_in}
use Rattle.rl_value.specs.Cells.{cells_of}
use Rattle.rl_shared_replay.specs.declared.rule.Start.{Start}
use Rattle.rl_shared_replay.specs.declared.update.Update.{Update}
use Rattle.rl_shared_replay.specs.declared.view.Version.{Version}
use Rattle.rl_shared_replay.specs.declared.view.Seen.{Seen}
use Rattle.rl_shared_replay.specs.declared.view.Held.{Held}
use Rattle.rl_shared_replay.specs.declared.view.View.{View}
use Rattle.rl_shared_replay.specs.Layout.{RowOf, place, cell_place}
use Rattle.rl_shared_replay.specs.Rule.{ReplayRule}
use Rattle.rl_shared_replay.specs.Start.{Made, made_of, plan_of}
use Rattle.rl_shared_replay.specs.Calls.{IsPlanned, IsStoring, IsHolding, KeepsSettled, version_in}
use Rattle.rl_shared_replay.specs.Steps.{Mine, ColumnStore, Close}
use Rattle.rl_shared_replay.specs.Views.{Settled, with_cell}
use Rattle.rl_shared_replay.proofs.Lists.{has_front, has_last}
use Rattle.rl_shared_replay.proofs.Allowed.{stores, closes_old, closes_new}

-- what was settled stays so as more is seen
pub seen_more : (v w : View) (ys : List Seen) → w.seen ≡ v.seen ++ ys → KeepsSettled v w
seen_more v w ys e x s = (s.0, subst (λ (l : List Seen). Contains l s.0) (sym e) (has_front v.seen ys s.0 s.1), s.2, s.3)

pub seen_same : (v w : View) → w.seen ≡ v.seen → KeepsSettled v w
seen_same v w e x s = (s.0, subst (λ (l : List Seen). Contains l s.0) (sym e) s.1, s.2, s.3)

pub seen_last : (w : View) (ys : List Seen) (y : Seen) (x : Version) → w.seen ≡ ys ++ y ∷ [] → y.rec ≡ x.rec → x.stamp ≤ y.stamp → Settled w x
seen_last w ys y x e r l = (y, subst (λ (l : List Seen). Contains l y) (sym e) (has_last ys y), r, l)

zeros_at : (n k : ℕ) → (let z : ℕ = 0 in get_or (replicate n z) k z ≡ z)
zeros_at zero k = refl
zeros_at (suc n) zero = refl
zeros_at (suc n) (suc k) = zeros_at n k

-- past the last column there are zeros, in any number
pub cells_any : (c d : ℕ) (row : RowOf) (k : ℕ) → get_or (cells_of c row) k 0 ≡ get_or (cells_of d row) k 0
cells_any c d None zero = refl
cells_any c d None (suc k) = zeros_at c k ∙ sym (zeros_at d k)
cells_any c d (Some row) k = refl

pub taken_at : (n : ℕ) (xs : List ℕ) (j : ℕ) → j < length (take n xs) → get_or (take n xs) j 0 ≡ get_or xs j 0
taken_at zero xs j l = absurd (omega arith)
taken_at (suc n) [] j l = absurd (omega arith)
taken_at (suc n) (x ∷ xs) zero l = refl
taken_at (suc n) (x ∷ xs) (suc j) l = taken_at n xs j (omega arith)

abbrev held_with : (u : Update) (old : ℕ) (stored : List ℕ) → Option Held
held_with u old stored = Some (record { rec = u.rec; old = old; stored = stored })

-- what is held, with the first k cells stored
abbrev pub hold_of : (x : Version) (columns old k : ℕ) → Held
hold_of x columns old k = record { rec = x.rec; old = old; stored = take k (cells_of columns x.row) }

module _ (start : Start) (u : Update) (planned : IsPlanned (made_of start) u) (slots id : ℕ) (me : Mine) where
  abbrev columns : ℕ
  columns = get_or start.columns.items u.rec 0

  abbrev cells : List ℕ
  cells = cells_of columns u.row

  one_more : (k value : ℕ) → k < 1 + columns → value ≡ get_or cells k 0 → take k cells ++ value ∷ [] ≡ take (k + 1) cells
  one_more k value l e = ap (λ v. take k cells ++ v ∷ []) e ∙ sym (take_more cells k 0 (let w = planned.wide in omega arith))

  pub may_store : (k value i : ℕ) → IsStoring (made_of start) (version_in u) k me.0 → k < 1 + columns → value ≡ get_or cells k 0 → i ≡ cell_place u.rec k
      → Allows (ReplayRule (plan_of start)) slots id me i (λ _. value) (λ _. ColumnStore (step slots i value 0 none) me value)
  may_store k value i s l e at_place =
      let long : length (take k cells) ≡ k = length-take-le k cells (let w = planned.wide in omega arith) in
      stores (plan_of start) slots id me (hold_of (version_in u) columns s.old k) i value s.held (at_place ∙ ap (cell_place u.rec) (sym long)) (omega arith) (version_in u) planned.among refl s.below
      (λ j m. let same = one_more k value l e in ap (λ (l : List ℕ). get_or l j 0) same ∙ taken_at (k + 1) cells j (subst (λ (l : List ℕ). j < length l) same m))

  pub has_stored : (k value : ℕ) (after : Mine) → (s : IsStoring (made_of start) (version_in u) k me.0) → k < 1 + columns → value ≡ get_or cells k 0
      → after ≡ (with_cell me.0 (hold_of (version_in u) columns s.old k) value, me.1) → IsStoring (made_of start) (version_in u) (k + 1) after.0
  has_stored k value after s l e is = record {
    old = s.old;
    below = s.below;
    held = ap (λ (m : Mine). m.0.held) is ∙ ap (held_with u s.old) (one_more k value l e);
  }

  pub may_close : (value : ℕ) → (s : IsStoring (made_of start) (version_in u) (1 + columns) me.0) → value ≡ 2 * u.stamp
      → Allows (ReplayRule (plan_of start)) slots id me (place u.rec) (λ _. value) (λ _. Close (step slots (place u.rec) value 0 none) me value)
  may_close value s e =
      closes_new (plan_of start) slots id me (hold_of (version_in u) columns s.old (1 + columns)) value (version_in u) s.held planned.among refl s.below e
      (length-take-le (1 + columns) cells (let w = planned.wide in omega arith)) (take_all (1 + columns) cells (let w = planned.wide in omega arith))

pub may_let_go : (start : Start) (slots id : ℕ) (me : Mine) (rec word : ℕ) → IsHolding rec word me.0
    → Allows (ReplayRule (plan_of start)) slots id me (place rec) (λ _. word) (λ _. Close (step slots (place rec) word 0 none) me word)
may_let_go start slots id me rec word h =
    closes_old (plan_of start) slots id me (record { rec = rec; old = stamp_in word; stored = [] }) word h.held refl (let f = h.free in omega arith)
