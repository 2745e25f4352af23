use Rattle.std.proofs.Common.{◌≡◌, ℕ, ◌+◌, ◌^◌, ◌<◌, List, ◌++◌, [], ◌∷◌, length, map, get_or, take, Contains, sym, ap, ◌∙◌, subst, arith}
use Rattle.std.specs.Prelude.{slice_index}
use Rattle.std.proofs.lemmas.List.{take_all}
use Rattle.rl_base.specs.Stamps.{packed}
use Rattle.rl_tables.specs.Numbers.{record_of}
use Rattle.rl_txn.specs.declared.write.Write.{Write}
use Rattle.rl_value.specs.Cells.{cells_of}
use Rattle.rl_shared_replay.specs.declared.update.Update.{Update}
use Rattle.rl_shared_replay.specs.declared.view.Version.{Version}
use Rattle.rl_shared_replay.specs.Calls.{AllSettled, IsPlanned}
use Rattle.rl_shared_replay.specs.Start.{version_of}
use Rattle.rl_shared_replay.specs.Views.{Settled}
use Rattle.rl_shared_replay.proofs.Items.{settled_more, settled_one, writes_next, write_in}
use Rattle.rl_shared_replay.proofs.work.settle_item.Goals as goal

pub settle-requires-clause-planned : goal.settle-requires-clause-planned
settle-requires-clause-planned g c =
    let made = c.args.records.now.made in
    let w = c.write-item.result in
    let ws = c.args.item.now.writes in
    let f = version_of made.sizes (packed c.args.item.now.stamp) in
    let items = c.as_slice-write-items.ensures in
    let inside = subst (λ (l : List Write). c.loop-write.write-index < length l) items c.loop-write-test.true in
    let at = subst (λ (l : List Write). w ≡ get_or l c.loop-write.write-index w) items c.write-item.is in
    let sizes_is : c.records.inside.layout ≡ made.sizes = sym c.records.invariant.sizes ∙ ap (λ z. z.made.sizes) c.records.view_is in
    let rec_is = c.record.ensures.number ∙ ap (λ (s : List ℕ). record_of s w.table w.key) sizes_is in
    let row_is = c.copy_row.ensures in
    let stamp_is = c.pack-stamp.ensures.packed in
    let fits = c.requires.planned.writes c.loop-write.write-index w inside in
    subst (IsPlanned made) (λ i. record { rec = sym rec_is i; stamp = sym stamp_is i; row = sym row_is i })
    record {
      among = c.requires.planned.among (f w) (write_in f ws c.loop-write.write-index w inside at);
      small = subst (λ n. n < 2 ^ 60) stamp_is c.pack-stamp.ensures.small;
      wide = subst (λ (x : Write). (let columns = slice_index made.columns (record_of made.sizes x.table x.key) in length (cells_of columns x.row) ≡ 1 + columns)) (sym at) fits.wide;
    }

pub loop-write-preserved : goal.loop-write-preserved
loop-write-preserved g c =
    let made = c.args.records.now.made in
    let w = c.write-item.result in
    let f = version_of made.sizes (packed c.args.item.now.stamp) in
    let i = c.loop-write.invariant in
    let done = c.settle.ensures in
    let sizes_is : c.records.inside.layout ≡ made.sizes = sym c.records.invariant.sizes ∙ ap (λ z. z.made.sizes) c.records.view_is in
    let rec_is = c.record.ensures.number ∙ ap (λ (s : List ℕ). record_of s w.table w.key) sizes_is in
    let row_is = c.copy_row.ensures in
    let stamp_is = c.pack-stamp.ensures.packed in
    let this : Settled c.settle.new.seat.view (f w) = subst (Settled c.settle.new.seat.view) (λ j. record { rec = rec_is j; stamp = stamp_is j; row = row_is j }) done.settled in (
      done.table ∙ i.0,
      done.free,
      (λ x s. done.kept x (i.2 x s)),
      subst (AllSettled c.settle.new.seat.view) (sym (writes_next f c.as_slice-write-items.result.now c.loop-write.write-index w c.loop-write-test.true c.write-item.is))
          (settled_more c.loop-write.seat.view c.settle.new.seat.view _ _ i.3 done.kept (settled_one c.settle.new.seat.view (f w) this)),
    )

pub returns-clause-settled : goal.returns-clause-settled
returns-clause-settled g c =
    let made = c.args.records.now.made in
    let f = version_of made.sizes (packed c.args.item.now.stamp) in
    subst (λ (ws : List Write). AllSettled c.loop-write.seat.view (map f ws)) (take_all c.loop-write.write-index c.as_slice-write-items.result.now (let t = c.loop-write-test.false in omega arith) ∙ c.as_slice-write-items.ensures) c.loop-write.invariant.3
