use Rattle.std.proofs.Common.{None, sym, ◌∙◌}
use Rattle.rl_nodes.specs.Elections.{crashed}
use Rattle.rl_node.specs.SetupOf.{setup_of}
use Rattle.rl_node_tests.proofs.group.crash_node.Goals as goal

pub returns-then-is_up : goal.returns-then-is_up
returns-then-is_up c =
    let setup = setup_of c.args.setup.now in
    let was = c.requires in (
      was.0,
      (record { node = crashed setup was.1.node; failed = None }),
      c.crash.ensures.up (sym c.is_up.ensures.up ∙ c.if-is_up.true) setup was.0 was.1 was.2,
    )
