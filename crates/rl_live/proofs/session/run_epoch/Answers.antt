use Rattle.std.proofs.Common.{◌/◌, ap, sym, subst, ◌∙◌, arith}
use Rattle.rl_store.specs.declared.view.View.{View}
use Rattle.rl_live.specs.declared.open.TheConstants.{TRIES}
use Rattle.rl_live.proofs.Finishing.{fresh_none, has_run, enough_tries}
use Rattle.rl_live.specs.Handing.{IsJoined}
use Rattle.rl_live.proofs.Opens.{ok_two}
use Rattle.rl_live.proofs.session.run_epoch.Goals as goal

pub hand_out-requires-clause-fresh : goal.hand_out-requires-clause-fresh
hand_out-requires-clause-fresh g c = fresh_none c.args.store.now _ TRIES c.args.pass c.requires.own c.requires.view

pub hand_out-requires-clause-enough : goal.hand_out-requires-clause-enough
hand_out-requires-clause-enough g c =
    enough_tries c.args.script.now.workers c.from-tries.result TRIES c.args.pass.view.tries (let e = c.from-tries.ensures in omega arith) (ap (λ (v : View). v.tries) c.requires.view)

pub run_all-requires-clause-ready : goal.run_all-requires-clause-ready
run_all-requires-clause-ready g c κs within = (_, c.in_ok-workers.ensures.ready)

pub join_all-requires-clause-many : goal.join_all-requires-clause-many
join_all-requires-clause-many g c = c.in_ok-results.ensures.many ∙ (c.in_ok-workers.ensures.many ∙ sym c.requires.stage.live.fits.one_list_each)

pub join_all-requires-clause-ended : goal.join_all-requires-clause-ended
join_all-requires-clause-ended g c = (c.in_ok-progress.progress, _, c.in_ok-results.ensures.ended _ c.in_ok-workers.ensures.ready)

pub returns : goal.returns
returns g c =
    let script = c.args.script.now in
    let many = c.in_ok-results.ensures.many ∙ c.in_ok-workers.ensures.many in
    let lists = c.requires.stage.live.fits.one_list_each in
    ok_two c.join_all.result _ _ _ c.join_all.ensures c.join_all.ensures (λ run h i.
    has_run script c.args.store.now c.in_ok-progress.progress (TRIES / c.from-tries.result) TRIES script.workers c.args.pass c.hand_out.new.pass run.0 run.1 c.requires.view c.in_ok-workers.ensures.fresh (sym lists)
    (subst (λ k. IsJoined script c.args.store.now c.in_ok-progress.progress (TRIES / c.from-tries.result) k c.hand_out.new.pass run.0 run.1) many (h c.in_ok-progress.progress (TRIES / c.from-tries.result) (c.in_ok-results.ensures.ended (TRIES / c.from-tries.result) c.in_ok-workers.ensures.ready))))
