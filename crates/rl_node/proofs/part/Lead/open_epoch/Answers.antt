use Rattle.std.proofs.Common.{◌∙◌, sym, ap, subst, refl, arith, length}
use Rattle.rl_node.specs.Opening.{MayOpen, AreOpening}
use Rattle.rl_node.specs.SetupOf.{setup_of}
use Rattle.rl_node.proofs.Histories.{may_open}
use Rattle.rl_node.proofs.part.Lead.open_epoch.Goals as goal

pub new-requires-clause-items : goal.new-requires-clause-items
new-requires-clause-items c =
    let setup = setup_of c.args.setup.now in
    subst (MayOpen setup c.args.self.now.epoch) (sym (c.in_ok-items.ensures ∙ c.kept_history.ensures.history))
    (may_open setup c.args.self.now c.requires.fits c.requires.setup c.requires.closed)

pub overflow_cast-opened : goal.overflow_cast-opened
overflow_cast-opened c =
    let setup = setup_of c.args.setup.now in
    let few = (may_open setup c.args.self.now c.requires.fits c.requires.setup c.requires.closed).few in
    let same = ap length (c.in_ok-items.ensures ∙ c.kept_history.ensures.history) in
    omega (arith, few, same)

pub returns-clause-opened : goal.returns-clause-opened
returns-clause-opened c =
    let setup = setup_of c.args.setup.now in
    record {
      works = c.in_ok-new.field-0;
      same = refl;
      opening = subst (λ items. AreOpening setup c.args.self.now.epoch items c.in_ok-new.field-0) (c.in_ok-items.ensures ∙ c.kept_history.ensures.history) c.in_ok-new.ensures;
    }
