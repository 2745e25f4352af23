use Rattle.std.proofs.Common.{◌≡◌, ℕ, ◌+◌, ◌*◌, ◌<◌, List, [], length, slice_index, ap, sym, ◌∙◌, subst, arith}
use Rattle.rl_value.specs.Cells.{cells_of, row_of}
use Rattle.rl_store.specs.declared.view.View.{View}
use Rattle.rl_store.specs.Entries.{IsDecided}
use Rattle.rl_store.specs.Layout.{FitsColumns}
use Rattle.rl_store.specs.Opening.{Made}
use Rattle.rl_store.specs.Passes.{HasStored}
use Rattle.rl_store.specs.Storing.{with_cells}
use Rattle.rl_store.specs.Views.{without, closed_with}
use Rattle.rl_store.proofs.Allowed.{close_new}
use Rattle.rl_store.proofs.Calls.{record_of, in_range}
use Rattle.rl_store.proofs.Filling.{cells_length}
use Rattle.rl_store.proofs.Loads.{row_back}
use Rattle.rl_store.proofs.Puts.{all_in, close_tries, closes_stored}
use Rattle.rl_store.proofs.store.Store.install.Goals as goal

pub store-requires : goal.store-requires
store-requires c =
    let v = c.args.pass.now.view in
    let r = c.args.rec in
    let row = c.args.row in
    let made = ap (λ z. z.made) c.self.view_is in
    let inside = record_of _ _ _ _ c.self.invariant _ made r c.requires.record in
    let is : c.pass.inside.inner.me.0 ≡ with_cells v r c.of_row-cells.result = ap (λ z. z.view) c.pass.view_is ∙ c.column_stores.ensures.stored in
    let cells : c.of_row-cells.result ≡ cells_of (slice_index c.self.inside.table.shared.key.value.columns.items r) row = c.of_row-cells.ensures ∙ ap (λ n. cells_of n row) (c.index.ensures ∙ in_range c.self.inside.columns.items r c.index.result.now 0 (subst (λ (l : List ℕ). r < length l) c.self.invariant.columns inside.0) ∙ sym (ap (λ (l : List ℕ). slice_index l r) c.self.invariant.columns)) in
    let fits = subst (λ (m : Made). FitsColumns (slice_index m.columns r) row) (sym made) c.requires.fits in
    let held : HasStored c.pass.inside.inner.me.0 r c.of_row-cells.result = subst (λ (v : View). HasStored v r c.of_row-cells.result) (sym is) (all_in r c.of_row-cells.result [] v c.requires.held) in (
      ap (λ z. z.table) c.pass.view_is ∙ (c.column_stores.ensures.table ∙ c.requires.table) ∙ sym (ap (λ z. z.table) c.self.view_is),
      (let l = inside.1 in omega arith),
      close_new _ _ _ _ r (c.from.result * 1099511627776 + c.args.seq) (c.args.self.now.made.epoch * 1099511627776 + c.args.seq) row
          (ap (λ n. n * 1099511627776 + c.args.seq) (c.from.ensures ∙ sym c.self.invariant.epoch ∙ ap (λ (m : Made). m.epoch) made))
          (cells_length (slice_index c.self.inside.table.shared.key.value.columns.items r) row fits)
          (subst (HasStored c.pass.inside.inner.me.0 r) cells held)
          (ap (λ (v : View). v.attempt.drawn) is ∙ c.requires.drawn)
          (subst (λ (v : View). IsDecided v.attempt) (sym is) c.requires.decided),
    )

pub invariant_of-pass : goal.invariant_of-pass
invariant_of-pass c =
    let v = c.args.pass.now.view in
    let r = c.args.rec in
    let cells = c.of_row-cells.result in
    let is : c.pass.inside.inner.me.0 ≡ with_cells v r cells = ap (λ z. z.view) c.pass.view_is ∙ c.column_stores.ensures.stored in
    let held : HasStored c.pass.inside.inner.me.0 r cells = subst (λ (v : View). HasStored v r cells) (sym is) (all_in r cells [] v c.requires.held) in
    let t : ℕ = c.args.self.now.made.epoch * 1099511627776 + c.args.seq in
    let told = c.store.ensures.2 held.0 t held.1 (ap (λ (q : ℕ). 1 + 6 * q) (sym held.2)) (ap (λ n. 2 * (n * 1099511627776 + c.args.seq)) (c.from.ensures ∙ sym c.self.invariant.epoch ∙ ap (λ (m : Made). m.epoch) (ap (λ z. z.made) c.self.view_is))) in
    record { no_slots = ap (λ z. z.1) told ∙ c.pass.invariant.no_slots; tries = c.pass.invariant.tries ∙ sym (ap (λ z. z.0.tries) told ∙ close_tries _ _ _ _ _) }

pub returns-clause-installed : goal.returns-clause-installed
returns-clause-installed c =
    let v = c.args.pass.now.view in
    let r = c.args.rec in
    let cells = c.of_row-cells.result in
    let is : c.pass.inside.inner.me.0 ≡ with_cells v r cells = ap (λ z. z.view) c.pass.view_is ∙ c.column_stores.ensures.stored in
    let held : HasStored c.pass.inside.inner.me.0 r cells = subst (λ (v : View). HasStored v r cells) (sym is) (all_in r cells [] v c.requires.held) in
    let t : ℕ = c.args.self.now.made.epoch * 1099511627776 + c.args.seq in
    let told = c.store.ensures.2 held.0 t held.1 (ap (λ (q : ℕ). 1 + 6 * q) (sym held.2)) (ap (λ n. 2 * (n * 1099511627776 + c.args.seq)) (c.from.ensures ∙ sym c.self.invariant.epoch ∙ ap (λ (m : Made). m.epoch) (ap (λ z. z.made) c.self.view_is))) in
    let row = c.args.row in
    let row_is : row_of held.0.stored ≡ row = ap row_of (held.3 ∙ c.of_row-cells.ensures) ∙ row_back c.index.result.now row in
    ap (λ z. z.0) told
    ∙ (λ i. closed_with (without (held.2 i) (is i).attempt.held) (is i) t (held.2 i) (row_is i))
    ∙ closes_stored v t r cells row
