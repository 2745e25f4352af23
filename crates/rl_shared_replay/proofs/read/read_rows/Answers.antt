use Rattle.std.proofs.Common.{◌≡◌, ◌+◌, ◌<◌, length, get_or, ap, sym, ◌∙◌, subst, arith}
use Rattle.std.specs.Mem.Slots.{slots_items}
use Rattle.rl_shared_replay.specs.Ends.{ReadBelow}
use Rattle.rl_shared_replay.specs.Layout.{RowOf, Shows}
use Rattle.rl_shared_replay.proofs.Ending.{read_none, read_more}
use Rattle.rl_shared_replay.proofs.read.read_rows.Goals as goal

pub loop-r-init : goal.loop-r-init
loop-r-init c = subst (ReadBelow c.args.layout.now c.args.columns.now (slots_items c.args.closed.now.words) 0) (sym c.new-map.ensures) (read_none _ _ _)

pub loop-r-preserved : goal.loop-r-preserved
loop-r-preserved c = subst (ReadBelow c.args.layout.now c.args.columns.now (slots_items c.args.closed.now.words) (c.loop-r.r + 1)) (sym c.in_ok-put_row.ensures)
    (read_more _ _ _ c.loop-r.r c.loop-r.map c.place-t.result.0 c.place-t.result.1 c.row_at-row.result c.loop-r.invariant c.place-t.ensures.is c.row_at-row.ensures)
