use Rattle.std.proofs.Common.{All, sym, subst}
use Rattle.rl_node.specs.SetupOf.{setup_of}
use Rattle.rl_report.specs.Forms.{IsEffect, IsSimulated, AreNodes}
use Rattle.rl_world.proofs.Shown.{is_report}
use Rattle.rl_world.proofs.run.Run.report.Goals as goal

pub returns-clause-form : goal.returns-clause-form
returns-clause-form c w st =
    let setup = setup_of c.args.self.now.setup in
    let blocks = c.in_ok-blocks.ensures.blocks w st in
    let whole = is_report setup c.requires.safe.fits w (subst (All IsEffect) st.told.lines st.told.effects) (subst (All IsSimulated) blocks c.in_ok-blocks.ensures.form) in
    (subst (All IsEffect) (sym c.in_ok-copy_lines.ensures) st.told.effects, c.new.ensures, subst (AreNodes IsSimulated) (sym blocks) whole.2)
