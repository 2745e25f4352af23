use Rattle.std.proofs.Common.{sym, ap, ◌∙◌}
use Rattle.std.specs.FinMap.{entries}
use Rattle.rl_world.proofs.Showings.{up_rows, away_rows}
use Rattle.rl_world.proofs.showing.rows_of.Goals as goal

pub returns-then-is_up-clause-rows : goal.returns-then-is_up-clause-rows
returns-then-is_up-clause-rows c setup a x st =
    ap entries (c.map.ensures.rows setup a x st) ∙ sym (up_rows x.node x.node.state (sym (c.is_up.ensures.stands setup a x st) ∙ c.if-is_up.true))

pub returns-then-is_up-clause-fit : goal.returns-then-is_up-clause-fit
returns-then-is_up-clause-fit c setup a x st sized = c.map.ensures.fit setup a x st sized

pub returns-else-is_up-clause-rows : goal.returns-else-is_up-clause-rows
returns-else-is_up-clause-rows c setup a x st =
    sym (away_rows x.node x.node.state (sym (c.is_up.ensures.stands setup a x st) ∙ c.if-is_up.false))
