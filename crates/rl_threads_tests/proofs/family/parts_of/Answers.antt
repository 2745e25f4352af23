use Rattle.std.proofs.Common.{◌≡◌, ℕ, ◌+◌, List, ◌++◌, [], ◌∷◌, length, length-append, get_or, take, All, ap, sym, ◌∙◌, subst, arith, Vec, Global}
use Rattle.std.specs.Prelude.{sum_by}
use Rattle.std.proofs.lemmas.List.Sums.{sum_by_more}
use Rattle.rl_txn.specs.declared.item.Item.{Item}
use Rattle.rl_shared_replay.proofs.Wholes.{all_more}
use Rattle.rl_shared_replay.specs.Replayable.{IsReplayable}
use Rattle.rl_shared_replay.specs.Start.{all_items}
use Rattle.rl_threads_tests.specs.Numbered.{IsNumbered}
use Rattle.rl_threads_tests.specs.declared.family.Step.{Step}
use Rattle.rl_threads_tests.proofs.Numbers.{numbered_join, numbered_none, numbered_distinct, all_items_more}
use Rattle.rl_threads_tests.proofs.family.parts_of.Goals as goal

abbrev steps_in : Vec Step Global → ℕ
steps_in plan = length plan.items

pub loop-plan-preserved : goal.loop-plan-preserved
loop-plan-preserved c =
    let i = c.loop-plan.invariant in
    let parts = c.loop-plan.parts in
    let items = c.in_ok-items.items in
    let plan = c.plan-item.result in
    let pushed : c.push.new.self ≡ parts ++ items ∷ [] = c.in_ok-push.ensures.ok in
    let flat : all_items c.push.new.self ≡ all_items parts ++ items = ap all_items pushed ∙ all_items_more parts items in
    let many : length items ≡ length plan.items = c.in_ok-items.ensures.many ∙ ap length c.as_slice.ensures.value in
    let long : length (all_items parts ++ items) ≡ length (all_items parts) + length items = length-append (all_items parts) items in
    record {
      items = subst (All (All (IsReplayable c.args.schema.now))) (sym pushed) (all_more (All (IsReplayable c.args.schema.now)) parts items i.items c.in_ok-items.ensures.items);
      seqs = subst (IsNumbered 2) (sym flat) (numbered_join 2 c.loop-plan.seq (all_items parts) items i.seqs i.next c.in_ok-items.ensures.seqs);
      next = (let a = ap length flat in let b = c.len.ensures in let d = plan.ok.0 in let e = i.next in omega (arith, a, b, d, e, many, long));
      many = ap length flat ∙ (long ∙ ((let e = i.many in omega (arith, e, many)) ∙ sym (sum_by_more steps_in c.args.plans.now c.loop-plan.plan-index plan c.loop-plan-test.true ∙ ap (λ p. sum_by steps_in (take c.loop-plan.plan-index c.args.plans.now) + steps_in p) (sym c.plan-item.is))));
    }
