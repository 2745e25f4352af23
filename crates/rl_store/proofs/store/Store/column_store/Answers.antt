use Rattle.std.proofs.Common.{◌≡◌, ℕ, ◌+◌, ◌<◌, ◌≤◌, List, length, slice_index, refl, ap, sym, ◌∙◌, subst, arith}
use Rattle.rl_store.specs.declared.view.View.{View}
use Rattle.rl_store.specs.Entries.{IsDecided}
use Rattle.rl_store.specs.Opening.{Made}
use Rattle.rl_store.specs.Passes.{HasStored}
use Rattle.rl_store.specs.Views.{with_cell}
use Rattle.rl_store.proofs.Calls.{record_of}
use Rattle.rl_store.proofs.Allowed.{column_store}
use Rattle.rl_store.proofs.store.Store.column_store.Goals as goal

pub store-requires : goal.store-requires
store-requires c =
    let is = ap (λ z. z.view) c.pass.view_is in
    let made = ap (λ z. z.made) c.self.view_is in
    let r = record_of _ _ _ _ c.self.invariant _ made c.args.rec c.requires.record in
    let held : (xs : List ℕ) × (length xs ≡ c.args.cell) × HasStored c.pass.inside.inner.me.0 c.args.rec xs = subst (λ (v : View). (xs : List ℕ) × (length xs ≡ c.args.cell) × HasStored v c.args.rec xs) (sym is) c.requires.held in
    let more = subst (λ (m : Made). c.args.cell < 1 + slice_index m.columns c.args.rec) (sym made) c.requires.more in
    let few = c.self.invariant.few c.args.rec in
    let kept = c.self.invariant.columns in
    let five : slice_index c.self.inside.table.shared.key.value.columns.items c.args.rec ≡ slice_index c.self.inside.columns.items c.args.rec = ap (λ (l : List ℕ). slice_index l c.args.rec) kept in (
      ap (λ z. z.table) c.pass.view_is ∙ c.requires.table ∙ sym (ap (λ z. z.table) c.self.view_is),
      (let l = r.1 in omega arith),
      column_store _ _ _ _ c.args.rec c.args.cell c.args.value held.0 more held.1 held.2 (subst (λ (v : View). IsDecided v.attempt) (sym is) c.requires.decided),
    )

five_cells : (kept columns : List ℕ) (rec cell : ℕ) → columns ≡ kept → cell < 1 + slice_index columns rec → slice_index kept rec ≤ 4 → cell < 5
five_cells kept columns rec cell e more few = let same = ap (λ (l : List ℕ). slice_index l rec) e in omega arith

pub invariant_of-pass : goal.invariant_of-pass
invariant_of-pass c =
    let more = subst (λ (m : Made). c.args.cell < 1 + slice_index m.columns c.args.rec) (sym (ap (λ z. z.made) c.self.view_is)) c.requires.more in
    let t = c.store.ensures.2 c.args.rec c.args.cell (five_cells _ _ c.args.rec c.args.cell c.self.invariant.columns more (c.self.invariant.few c.args.rec)) refl in
    record { no_slots = ap (λ z. z.1) t ∙ c.pass.invariant.no_slots; tries = c.pass.invariant.tries ∙ sym (ap (λ z. z.0.tries) t) }

pub returns-clause-stored : goal.returns-clause-stored
returns-clause-stored c =
    let more = subst (λ (m : Made). c.args.cell < 1 + slice_index m.columns c.args.rec) (sym (ap (λ z. z.made) c.self.view_is)) c.requires.more in
    ap (λ z. z.0) (c.store.ensures.2 c.args.rec c.args.cell (five_cells _ _ c.args.rec c.args.cell c.self.invariant.columns more (c.self.invariant.few c.args.rec)) refl)
    ∙ ap (λ z. with_cell z.view c.args.rec c.args.value) c.pass.view_is
