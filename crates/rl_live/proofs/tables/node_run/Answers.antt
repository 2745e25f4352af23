use Rattle.std.proofs.Common.{map, All, ap, sym, subst, ◌∙◌}
use Rattle.rl_txn.specs.Serial.{rows_after}
use Rattle.rl_families.specs.Order.{in_order}
use Rattle.rl_replay.specs.Replay.{AreDistinct}
use Rattle.rl_shared_replay.specs.Replayable.{IsReplayable}
use Rattle.rl_shared_replay.specs.Start.{all_items}
use Rattle.rl_live.specs.Reading.{counted_of}
use Rattle.rl_live.proofs.ReadLogs.{counted_items, parts_fit, parts_distinct}
use Rattle.rl_live.proofs.tables.node_run.Goals as goal

pub replay-requires-clause-items : goal.replay-requires-clause-items
replay-requires-clause-items g c κs within =
    let family = c.args.family.now in
    let read = c.requires.read in
    let is = c.in_ok-parts.ensures ∙ ap (map (counted_of family)) (c.in_ok-logs.ensures read.0 read.1 family read.2) in
    subst (All (All (IsReplayable c.args.script.now.schema))) (sym is) (parts_fit (IsReplayable c.args.script.now.schema) family family c.requires.replayed.fit)

pub replay-requires-clause-stamps : goal.replay-requires-clause-stamps
replay-requires-clause-stamps g c κs within =
    let family = c.args.family.now in
    let read = c.requires.read in
    let is = c.in_ok-parts.ensures ∙ ap (map (counted_of family)) (c.in_ok-logs.ensures read.0 read.1 family read.2) in
    subst (λ p. AreDistinct (all_items p)) (sym is) (parts_distinct family family c.requires.replayed.distinct)

pub returns-clause-maps : goal.returns-clause-maps
returns-clause-maps g c =
    let family = c.args.family.now in
    let read = c.requires.read in
    let is = c.in_ok-parts.ensures ∙ ap (map (counted_of family)) (c.in_ok-logs.ensures read.0 read.1 family read.2) in
    let rows = c.args.script.now.rows in
    c.in_ok-map.ensures ∙ (ap (λ p. rows_after rows (in_order (all_items p))) is ∙ ap (λ l. rows_after rows (in_order l)) (counted_items family family))
