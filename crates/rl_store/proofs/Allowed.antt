-- Each kind of step is allowed under the rule.
use Rattle.std.proofs.Common.{◌≡◌, ℕ, ◌+◌, ◌%◌, ◌^◌, ◌<◌, ◌*◌, List, [], length, sym, subst}
use Rattle.std.specs.Prelude.{Some, None, bit_or}
use mathlib.Core.Option.{none}
use Rattle.atomic_table.specs.Table.{step, Allows}
use Rattle.rl_store.specs.declared.view.Reading.{Reading}
use Rattle.rl_store.specs.declared.view.Read.{Read}
use Rattle.rl_store.specs.declared.view.Held.{Held}
use Rattle.rl_store.specs.Entries.{In, RowOf, IsDecided}
use Rattle.rl_value.specs.Cells.{cells_of}
use Rattle.rl_store.specs.Layout.{Opening, place, cell_place}
use Rattle.rl_store.specs.Passes.{HasStored}
use Rattle.rl_store.specs.Rule.{StoreRule}
use Rattle.rl_store.specs.Steps.{Mine, FirstLoad, ColumnLoad, Confirm, Rest, Lock, Draw, DrawBelow, Validate, ColumnStore, CloseNew, CloseOld}
use Rattle.rl_store.specs.Views.{HasNotRead}
use Rattle.rl_store.proofs.Grouped.{allows}
use Rattle.rl_store.proofs.Loads.{looks_first, looks_cell, looks_again}
use Rattle.rl_store.proofs.Seating.{rests}
use Rattle.rl_store.proofs.Locking.{takes}
use Rattle.rl_store.proofs.Draws.{gets}
use Rattle.rl_store.proofs.Limits.{gets_below}
use Rattle.rl_store.proofs.Unlocking.{opens}
use Rattle.rl_store.proofs.Puts.{puts, shuts}
use Rattle.rl_store.proofs.Refusing.{Tells, checks}

module _ (b : Opening) (slots id : ℕ) (me : Mine) where
  pub first_load : (r : ℕ) → r < b.records → me.0.attempt.drawn ≡ None → me.0.attempt.held ≡ []
      → Allows (StoreRule b) slots id me (place r) (λ n. n) (FirstLoad (step slots (place r) 0 0 none) me)
  first_load r inside drawn held =
      allows b slots id me (place r) (λ n. n) (FirstLoad (step slots (place r) 0 0 none) me) (looks_first b slots id me r inside drawn held)

  pub column_load : (x : Reading) (i : ℕ) → me.0.attempt.reading ≡ Some x → i ≡ cell_place x.rec (length x.cells) → length x.cells < 1 + b.columns x.rec → me.0.attempt.drawn ≡ None → me.0.attempt.held ≡ []
      → Allows (StoreRule b) slots id me i (λ n. n) (ColumnLoad (step slots i 0 0 none) me)
  column_load x i reading here more drawn held =
      allows b slots id me i (λ n. n) (ColumnLoad (step slots i 0 0 none) me) (looks_cell b slots id me x i reading here more drawn held)

  pub confirm : (x : Reading) → me.0.attempt.reading ≡ Some x → length x.cells ≡ 1 + b.columns x.rec → HasNotRead me.0 x.rec → me.0.attempt.drawn ≡ None → me.0.attempt.held ≡ []
      → Allows (StoreRule b) slots id me (place x.rec) (λ n. n) (Confirm (step slots (place x.rec) 0 0 none) me)
  confirm x reading full once drawn held =
      allows b slots id me (place x.rec) (λ n. n) (Confirm (step slots (place x.rec) 0 0 none) me) (looks_again b slots id me x reading full once drawn held)

  pub rest : me.0.attempt.held ≡ [] → (IsDecided me.0.attempt → ⊥) → Allows (StoreRule b) slots id me 0 (λ n. n) (Rest (step slots 0 0 0 none) me)
  rest held undecided = allows b slots id me 0 (λ n. n) (Rest (step slots 0 0 0 none) me) (rests b slots id me held undecided)

  pub lock : (r : ℕ) → r < b.records → me.0.attempt.drawn ≡ None → Allows (StoreRule b) slots id me (place r) (λ n. bit_or n 1) (Lock (step slots (place r) 1 0 none) me)
  lock r inside drawn = allows b slots id me (place r) (λ n. bit_or n 1) (Lock (step slots (place r) 1 0 none) me) (takes b slots id me r inside drawn)

  pub draw : (base : ℕ) → base ≡ b.base → me.0.attempt.drawn ≡ None → 0 < me.0.tries → Allows (StoreRule b) slots id me 0 (λ n. (n + 1) % 2 ^ 64) (Draw base (step slots 0 1 0 none) me)
  draw base is drawn left = allows b slots id me 0 (λ n. (n + 1) % 2 ^ 64) (Draw base (step slots 0 1 0 none) me) (gets b base slots id me is drawn left)

  pub validate : (held t r : ℕ) (x : Read) → x.rec ≡ r → me.0.attempt.drawn ≡ Some t → In x me.0.attempt.reads → (In r me.0.attempt.validated → ⊥) → Tells held me.0 r
      → Allows (StoreRule b) slots id me (place r) (λ n. n) (Validate held (step slots (place r) 0 0 none) me)
  validate held t r x is drawn read new tells =
      subst (λ (q : ℕ). (In q me.0.attempt.validated → ⊥) → Tells held me.0 q → Allows (StoreRule b) slots id me (place q) (λ n. n) (Validate held (step slots (place q) 0 0 none) me)) is
      (λ new tells. allows b slots id me (place x.rec) (λ n. n) (Validate held (step slots (place x.rec) 0 0 none) me) (checks b slots id me held t x drawn read new tells)) new tells

  pub unlock : (r old : ℕ) (y : Held) → y.rec ≡ r → y.old ≡ old → In y me.0.attempt.held → (IsDecided me.0.attempt → ⊥) → Allows (StoreRule b) slots id me (place r) (λ _. old) (λ _. CloseOld (step slots (place r) old 0 none) me old)
  unlock r old y is was held bare =
      subst (λ (p : ℕ × ℕ). Allows (StoreRule b) slots id me (place p.0) (λ _. p.1) (λ _. CloseOld (step slots (place p.0) p.1 0 none) me p.1)) (λ i. (is i, was i))
      (allows b slots id me (place y.rec) (λ _. y.old) (λ _. CloseOld (step slots (place y.rec) y.old 0 none) me y.old) (opens b slots id me y held bare))

  pub column_store : (r k n : ℕ) (xs : List ℕ) → k < 1 + b.columns r → length xs ≡ k → HasStored me.0 r xs → IsDecided me.0.attempt
      → Allows (StoreRule b) slots id me (cell_place r k) (λ _. n) (λ _. ColumnStore (step slots (cell_place r k) n 0 none) me n)
  column_store r k n xs more long held sure = allows b slots id me (cell_place r k) (λ _. n) (λ _. ColumnStore (step slots (cell_place r k) n 0 none) me n) (puts b slots id me r k n xs more long held sure)

  pub close_new : (r x t : ℕ) (row : RowOf) → x ≡ t → length (cells_of (b.columns r) row) ≡ 1 + b.columns r → HasStored me.0 r (cells_of (b.columns r) row) → me.0.attempt.drawn ≡ Some t → IsDecided me.0.attempt
      → Allows (StoreRule b) slots id me (place r) (λ _. 2 * x) (λ _. CloseNew (step slots (place r) (2 * x) 0 none) me (2 * x))
  close_new r x t row e full held drawn sure =
      subst (λ z. Allows (StoreRule b) slots id me (place r) (λ _. 2 * z) (λ _. CloseNew (step slots (place r) (2 * z) 0 none) me (2 * z))) (sym e)
      (allows b slots id me (place r) (λ _. 2 * t) (λ _. CloseNew (step slots (place r) (2 * t) 0 none) me (2 * t)) (shuts b slots id me r t row full held drawn sure))

  pub draw_below : (base limit : ℕ) → base ≡ b.base → me.0.attempt.drawn ≡ None → 0 < me.0.tries → Allows (StoreRule b) slots id me 0 (λ n. (n + 1) % 2 ^ 64) (DrawBelow base limit (step slots 0 1 0 none) me)
  draw_below base limit is drawn left = allows b slots id me 0 (λ n. (n + 1) % 2 ^ 64) (DrawBelow base limit (step slots 0 1 0 none) me) (gets_below b base limit slots id me is drawn left)
