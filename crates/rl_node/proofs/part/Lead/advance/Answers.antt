use Rattle.std.proofs.Common.{◌∙◌, List, None, sym, ap, drop}
use Rattle.rl_txn.specs.declared.item.Item.{Item}
use Rattle.rl_node.specs.declared.answer.Out.{Out}
use Rattle.rl_node.specs.SetupOf.{setup_of}
use Rattle.rl_node.proofs.Advancing.{did_release, did_wait, advance_opens, is_closed}
use Rattle.rl_node.proofs.part.Lead.advance.Goals as goal

pub returns-then-is_some : goal.returns-then-is_some
returns-then-is_some c = λ core x before messages h len adds.
    did_release (setup_of c.args.setup.now) c.requires.setup c.args.self.now c.requires.fits c.args.sends c.args.told core x before messages h len adds
    (sym c.is_some.ensures ∙ c.if-is_some.true) c.releasing.result (c.releasing.ensures
    ∙ ap (λ (items : List Item). let out : Out = record { sends = c.args.sends; opened = None; denied = None; released = items } in out)
    (c.in_ok-released.ensures ∙ ap (drop c.args.told) (c.as_slice.ensures ∙ c.kept_history.ensures.history)))

pub returns-then-not-marks_are_acknowledged : goal.returns-then-not-marks_are_acknowledged
returns-then-not-marks_are_acknowledged c = λ core x before messages h len adds.
    did_wait (setup_of c.args.setup.now) c.requires.setup c.args.self.now c.requires.fits c.args.sends c.args.told core x before messages h len adds
    (sym c.is_some.ensures ∙ c.if-is_some.false) (sym c.marks_are_acknowledged.ensures ∙ c.if-not-marks_are_acknowledged.true) c.sending.result c.sending.ensures

pub open_epoch-requires-clause-closed : goal.open_epoch-requires-clause-closed
open_epoch-requires-clause-closed c =
    let l = c.args.self.now in
    is_closed (setup_of c.args.setup.now) l l.works c.requires.works.0 c.requires.works.1 (sym c.is_some.ensures ∙ c.if-is_some.false)

pub returns : goal.returns
returns c =
    advance_opens (setup_of c.args.setup.now) c.requires.setup c.args.self.now c.requires.fits c.args.sends c.args.told c.open_epoch.new.self c.open_epoch.result
    c.open_epoch.ensures.opened c.open_epoch.ensures.out (sym c.is_some.ensures ∙ c.if-is_some.false)
    (sym c.marks_are_acknowledged.ensures ∙ c.if-not-marks_are_acknowledged.false)
