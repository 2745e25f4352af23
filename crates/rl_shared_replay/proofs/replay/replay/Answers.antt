use Rattle.std.proofs.Common.{◌≡◌, ap, sym, ◌∙◌, refl, subst, All}
use Rattle.rl_shared_replay.specs.Calls.{ItemPlanned}
use Rattle.rl_shared_replay.proofs.Planning.{all_planned, all_settled}
use Rattle.rl_shared_replay.proofs.Newest.{replayed}
use Rattle.rl_shared_replay.proofs.Results.{ok_more}
use Rattle.rl_shared_replay.proofs.replay.replay.Goals as goal

pub hand_out-requires-clause-planned : goal.hand_out-requires-clause-planned
hand_out-requires-clause-planned g c = subst (All (All (ItemPlanned c.in_ok-records.records.made))) (sym c.in_ok-records.ensures.parts) (all_planned c.args.schema.now c.args.opening.now c.args.parts _ c.in_ok-records.ensures.start c.requires.items)

pub into_map-requires-clause-settled : goal.into_map-requires-clause-settled
into_map-requires-clause-settled g c =
    all_settled c.in_ok-records.records c.in_ok-records.parts c.in_ok-jobs.jobs.items c.in_ok-seats.seats.items c.join_all-seat.result.view c.in_ok-jobs.ensures.ready c.in_ok-seats.ensures c.join_all-seat.ensures.seen
    (c.in_ok-records.ensures.start.parts ∙ sym c.in_ok-records.ensures.parts)

pub returns : goal.returns
returns g c = ok_more c.into_map.result _ _ c.into_map.ensures
    (λ map newest. replayed c.args.schema.now c.args.opening.now c.args.parts c.in_ok-records.records.made c.in_ok-records.ensures.start c.requires.opening c.requires.items map c.requires.stamps newest)
