-- An unlock, as the table asks for it.
use Rattle.std.proofs.Common.{◌≡◌, ℕ, ◌+◌, ◌*◌, List, [], ◌∷◌, refl, ap, arith}
use mathlib.Core.Option.{none}
use Rattle.atomic_table.specs.Table.{step, keeps, Allows}
use Rattle.rl_store.specs.declared.view.Held.{Held}
use Rattle.rl_store.specs.declared.view.View.{View}
use Rattle.rl_store.specs.Entries.{In, IsDecided}
use Rattle.rl_store.specs.Layout.{Opening, place}
use Rattle.rl_store.specs.Steps.{Mine, CloseOld}
use Rattle.rl_store.specs.Views.{without, unlocked_with}
use Rattle.rl_store.proofs.Grouped.{Kept}
use Rattle.rl_store.proofs.Giving.{unlocks}

pub opens : (b : Opening) (slots id : ℕ) (me : Mine) (y : Held) → In y me.0.attempt.held → (IsDecided me.0.attempt → ⊥) → Allows (Kept b) slots id me (place y.rec) (λ _. y.old) (λ _. CloseOld (step slots (place y.rec) y.old 0 none) me y.old)
opens b slots id me y held bare s h _ at _ = (
  unlocked_with (without y.rec me.0.attempt.held) me.0 y.rec,
  keeps,
  tt,
  unlocks b s h id me.0 at bare y held,
  λ q e. ap (λ z. (unlocked_with (without z me.0.attempt.held) me.0 z, me.1)) (let p : 1 + 6 * y.rec ≡ 1 + 6 * q = e in omega arith),
)

pub unlock_tries : (hs : List Held) (v : View) (r : ℕ) → (unlocked_with hs v r).tries ≡ v.tries
unlock_tries [] v r = refl
unlock_tries (h ∷ hs) v r = refl
