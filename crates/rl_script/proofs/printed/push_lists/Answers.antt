use Rattle.std.proofs.Common.{take, ◌+◌}
use Rattle.rl_text.proofs.Texts.{text_joined}
use Rattle.rl_script.specs.Printed.{list_lines}
use Rattle.rl_script.proofs.PrintLemmas.{list_more}
use Rattle.rl_script.proofs.printed.push_lists.Goals as goal

pub loop-i-preserved : goal.loop-i-preserved
loop-i-preserved c =
    text_joined (list_lines c.args.schema.now 1 (take c.loop-i.i c.args.lists.now)) _ (list_lines c.args.schema.now 1 (take (c.loop-i.i + 1) c.args.lists.now)) _ _ _
    (list_more c.args.schema.now c.args.lists.now c.loop-i.i c.get.result.now c.get.ensures) c.loop-i.invariant c.in_ok-push_list.ensures
