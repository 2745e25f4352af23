use Rattle.std.proofs.Common.{◌≡◌, ℕ, ◌<◌, ◌+◌, ◌*◌, List, [], suc, length, slice_index, ap, sym, ◌∙◌, subst, arith}
use Rattle.rl_tables.specs.Numbers.{record_of}
use Rattle.rl_value.specs.Tables.{columns_of}
use Rattle.rl_store.specs.declared.view.View.{View}
use Rattle.rl_store.specs.Entries.{RowOf, IsDecided}
use Rattle.rl_store.specs.Layout.{FitsColumns}
use Rattle.rl_store.specs.Passes.{HasStored}
use Rattle.rl_store.specs.Views.{closed_with, settled, without}
use Rattle.rl_occ.specs.Fits.{rec_of}
use Rattle.rl_occ.proofs.Installations.{closes_one, first_closed, goes_on, has_stored, row_fits}
use Rattle.rl_occ.proofs.Locks.{write_key, write_table}
use Rattle.rl_occ.proofs.Places.{of_get}
use Rattle.rl_occ.proofs.commit.install_all.Goals as goal

pub record-rec-requires-clause-table : goal.record-rec-requires-clause-table
record-rec-requires-clause-table c =
    let w = c.get-write.result.now in
    write_table c.args.schema.now c.args.layout.now w c.requires.layout (c.requires.writes.fit w (c.loop-i.i, of_get c.args.writes.now c.loop-i.i w c.get-write.ensures))

pub record-rec-requires-clause-key : goal.record-rec-requires-clause-key
record-rec-requires-clause-key c =
    let w = c.get-write.result.now in
    write_key c.args.schema.now c.args.layout.now w c.requires.layout (c.requires.writes.fit w (c.loop-i.i, of_get c.args.writes.now c.loop-i.i w c.get-write.ensures))

pub install-requires-clause-held : goal.install-requires-clause-held
install-requires-clause-held c =
    let tables = c.args.schema.now in
    let w = c.get-write.result.now in
    let at = of_get c.args.writes.now c.loop-i.i w c.get-write.ensures in
    let number : c.record-rec.result ≡ rec_of tables w = c.record-rec.ensures.number ∙ ap (λ (l : List ℕ). record_of l w.table w.key) c.requires.layout in
    let is = c.loop-i.invariant.1 ∙ goes_on tables c.args.pass.now.view _ c.args.writes.now c.requires.writes c.requires.decided c.loop-i.i w at in
    subst (λ (p : View × ℕ). HasStored p.0 p.1 []) (λ j. (sym is j, sym number j)) (has_stored tables c.args.pass.now.view _ c.args.writes.now c.requires.writes c.requires.decided c.loop-i.i w at)

pub install-requires-clause-decided : goal.install-requires-clause-decided
install-requires-clause-decided c =
    let w = c.get-write.result.now in
    let at = of_get c.args.writes.now c.loop-i.i w c.get-write.ensures in
    let is = c.loop-i.invariant.1 ∙ goes_on c.args.schema.now c.args.pass.now.view _ c.args.writes.now c.requires.writes c.requires.decided c.loop-i.i w at in
    let some_ : 0 < length c.args.writes.now = (let t = c.loop-i-test.true in omega arith) in
    subst (λ (u : View). IsDecided u.attempt) (sym is) (c.requires.decided.decided some_)

pub install-requires-clause-drawn : goal.install-requires-clause-drawn
install-requires-clause-drawn c =
    let w = c.get-write.result.now in
    let at = of_get c.args.writes.now c.loop-i.i w c.get-write.ensures in
    let is = c.loop-i.invariant.1 ∙ goes_on c.args.schema.now c.args.pass.now.view _ c.args.writes.now c.requires.writes c.requires.decided c.loop-i.i w at in
    let some_ : 0 < length c.args.writes.now = (let t = c.loop-i-test.true in omega arith) in
    ap (λ (u : View). u.attempt.drawn) is ∙ c.requires.decided.drawn some_

pub install-requires-clause-fits : goal.install-requires-clause-fits
install-requires-clause-fits c =
    let tables = c.args.schema.now in
    let w = c.get-write.result.now in
    let at = of_get c.args.writes.now c.loop-i.i w c.get-write.ensures in
    let fit = c.requires.writes.fit w (c.loop-i.i, at) in
    let number : c.record-rec.result ≡ rec_of tables w = c.record-rec.ensures.number ∙ ap (λ (l : List ℕ). record_of l w.table w.key) c.requires.layout in
    let columns = ap (λ r. slice_index c.args.store.now.made.columns r) number ∙ c.requires.store.columns w.table w.key fit.0 fit.1 in
    subst (λ (p : ℕ × RowOf). FitsColumns p.0 p.1) (λ j. (sym columns j, sym c.copy_row.ensures j)) (row_fits (columns_of tables w.table) w.row fit.2)

pub loop-i-preserved : goal.loop-i-preserved
loop-i-preserved c =
    let tables = c.args.schema.now in
    let v = c.args.pass.now.view in
    let writes = c.args.writes.now in
    let w = c.get-write.result.now in
    let at = of_get writes c.loop-i.i w c.get-write.ensures in
    let number : c.record-rec.result ≡ rec_of tables w = c.record-rec.ensures.number ∙ ap (λ (l : List ℕ). record_of l w.table w.key) c.requires.layout in
    let is = c.loop-i.invariant.1 ∙ goes_on tables v _ writes c.requires.writes c.requires.decided c.loop-i.i w at in
    let some_ : 0 < length writes = (let t = c.loop-i-test.true in omega arith) in
    let t : ℕ = c.args.store.now.made.epoch * 1099511627776 + c.args.seq in (
      c.install.ensures.table ∙ c.loop-i.invariant.0,
      c.install.ensures.installed
          ∙ (λ j. closed_with (without (number j) (is j).attempt.held) (is j) t (number j) (c.copy_row.ensures j))
          ∙ closes_one tables v t writes c.requires.writes c.requires.decided c.loop-i.i w at some_
          ∙ ap (λ n. settled (first_closed tables v writes n)) (let z : suc c.loop-i.i ≡ c.loop-i.i + 1 = omega arith in z),
    )
