use Rattle.std.proofs.Common.{sym, ap, subst}
use Rattle.rl_node.specs.SetupOf.{setup_of}
use Rattle.rl_node.specs.Stepping.{core_stepped, HasEnded, HasOpenWorks}
use Rattle.rl_node.specs.declared.part.Lead.{Lead}
use Rattle.rl_node.proofs.part.Lead.make_step.Goals as goal

pub step-requires-clause-works : goal.step-requires-clause-works
step-requires-clause-works c =
    (c.args.self.now, c.requires.open.0, subst (λ o. HasOpenWorks (setup_of c.args.setup.now) c.args.self.now o c.requires.open.0) c.in-Some.is c.requires.open.1)

pub returns-clause-moved : goal.returns-clause-moved
returns-clause-moved c = λ core runs.
    let setup = setup_of c.args.setup.now in
    let l : Lead = c.args.self.now in
    let new : Lead = c.keep_ended.new.self in
    let has = c.in_ok-moved.ensures.step l core (subst (λ o. HasOpenWorks setup l o core) c.in-Some.is runs) in
    let now = c.in_ok-keep_ended.ensures in
    let ended : HasEnded l new c.args.worker c.in_ok-moved.moved = record { epoch = now.ended.epoch; streams = now.ended.streams; pending = now.ended.pending } in
    record {
      ended = ended;
      acknowledged = ap (λ (z : Lead). z.acknowledged) now.same;
      works = subst (λ o. HasOpenWorks setup new o (core_stepped setup l.epoch core c.args.worker)) (sym (ap (λ (z : Lead). z.works) now.same))
          (has.stands new c.requires.fits.pending ended);
      tells = has.tells;
      own = has.own;
    }
