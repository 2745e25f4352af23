use Rattle.std.proofs.Common.{◌+◌, ◌*◌, ◌<◌, sym, ap, ◌∙◌, refl, subst, arith}
use Rattle.std.specs.Prelude.{slice_index}
use Rattle.rl_shared_replay.specs.declared.update.Update.{Update}
use Rattle.rl_shared_replay.specs.declared.view.View.{View}
use Rattle.rl_value.specs.Cells.{cells_of}
use Rattle.rl_shared_replay.specs.Layout.{RowOf}
use Rattle.rl_shared_replay.specs.Start.{Made, made_of}
use Rattle.rl_shared_replay.specs.Calls.{IsStoring, IsPlanned, version_in}
use Rattle.rl_shared_replay.proofs.Calls.{record_in, few_columns}
use Rattle.rl_shared_replay.proofs.Settling.{may_store, has_stored, cells_any, hold_of}
use Rattle.rl_shared_replay.proofs.records.Records.store_cell.Goals as goal

pub store-requires : goal.store-requires
store-requires c =
    let made = ap (λ z. z.made) c.self.view_is in
    let view = ap (λ z. z.view) c.seat.view_is in
    let u = c.args.update.now in
    let k = c.args.k in
    let r = record_in _ _ _ _ c.self.invariant _ made u.rec c.requires.record in
    let f = few_columns _ _ _ _ c.self.invariant _ made u.rec in
    let more = c.requires.more in (
      ap (λ z. z.table) c.seat.view_is ∙ c.requires.table ∙ sym (ap (λ z. z.table) c.self.view_is),
      (let l = r.1 in omega arith),
      may_store c.self.inside.table.shared.key.value u (subst (λ m. IsPlanned m u) (sym made) c.requires.planned) _ _ _ k _ _
          (subst (λ (x : Made × View). IsStoring x.0 (version_in u) k x.1) (λ i. (sym made i, sym view i)) c.requires.storing)
          (subst (λ (m : Made). k < 1 + slice_index m.columns u.rec) (sym made) more)
          (c.cell_of-value.ensures ∙ (ap (λ (x : RowOf). slice_index (cells_of 4 x) k) c.as_ref.ensures.value ∙ cells_any 4 _ u.row k)) refl,
    )

pub invariant_of-seat : goal.invariant_of-seat
invariant_of-seat c =
    let s = c.requires.storing in
    ap (λ m. m.1) (c.store.ensures.2 _ (ap (λ z. z.view.held) c.seat.view_is ∙ s.held)) ∙ c.seat.invariant

pub returns-clause-seen : goal.returns-clause-seen
returns-clause-seen c =
    let s = c.requires.storing in
    ap (λ m. m.0.seen) (c.store.ensures.2 _ (ap (λ z. z.view.held) c.seat.view_is ∙ s.held)) ∙ ap (λ z. z.view.seen) c.seat.view_is

pub returns-clause-stored : goal.returns-clause-stored
returns-clause-stored c =
    let made = ap (λ z. z.made) c.self.view_is in
    let view = ap (λ z. z.view) c.seat.view_is in
    let u = c.args.update.now in
    let k = c.args.k in
    let s = subst (λ (x : Made × View). IsStoring x.0 (version_in u) k x.1) (λ i. (sym made i, sym view i)) c.requires.storing in
    subst (λ (m : Made). IsStoring m (version_in u) (k + 1) c.store.new.seat.me.0) made
    (has_stored c.self.inside.table.shared.key.value u (subst (λ m. IsPlanned m u) (sym made) c.requires.planned) 0 0 c.seat.inside.inner.me k _ c.store.new.seat.me s
    (subst (λ (m : Made). k < 1 + slice_index m.columns u.rec) (sym made) c.requires.more)
    (c.cell_of-value.ensures ∙ (ap (λ (x : RowOf). slice_index (cells_of 4 x) k) c.as_ref.ensures.value ∙ cells_any 4 _ u.row k)) (c.store.ensures.2 _ s.held))
