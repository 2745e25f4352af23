use Rattle.std.proofs.Common.{◌≡◌, List, ◌++◌, [], ◌∷◌, map, All, ap, sym, ◌∙◌, refl, subst}
use Rattle.std.proofs.lemmas.List.{append_assoc, map-append}
use Rattle.std.specs.Vec.Iter.{into_iter_items}
use Rattle.rl_txn.specs.declared.item.Item.{Item}
use Rattle.rl_shared_replay.specs.declared.work.Job.{Job}
use Rattle.rl_shared_replay.specs.Calls.{ItemPlanned}
use Rattle.rl_shared_replay.specs.Jobs.{AllReady, IsReady}
use Rattle.rl_shared_replay.proofs.Wholes.{all_more, all_middle}
use Rattle.rl_shared_replay.proofs.run.hand_out.Goals as goal

abbrev job_items : Job → List Item
job_items j = j.items

pub loop-items-preserved : goal.loop-items-preserved
loop-items-preserved c =
    let i = c.loop-items.invariant in
    let x = c.in-Some.items in
    let rest = into_iter_items c.next.new.self in
    let job : Job = record { seat = c.split.result; items = x } in
    let pushed = c.in_ok-push.ensures.items in
    let whole : c.loop-items.yielded ++ (x ∷ rest) ≡ c.args.parts = ap (λ z. c.loop-items.yielded ++ z) (sym c.in-Some.ensures.steps.0) ∙ i.all in
    let ready : IsReady c.args.records.now job = record {
      table = c.split.ensures.table;
      free = ap (λ v. v.held) c.split.ensures.blank;
      items = all_middle (All (ItemPlanned c.args.records.now.made)) c.loop-items.yielded x rest (subst (All (All (ItemPlanned c.args.records.now.made))) (sym whole) c.requires.planned);
    } in
    record {
      seat = c.split.ensures.unchanged ∙ i.seat;
      all = append_assoc c.loop-items.yielded (x ∷ []) rest ∙ whole;
      ready = subst (AllReady c.args.records.now (c.loop-items.yielded ++ x ∷ [])) (sym pushed) record {
        ready = all_more (IsReady c.args.records.now) c.loop-items.jobs.items job i.ready.ready ready;
        items = map-append job_items c.loop-items.jobs.items (job ∷ []) ∙ ap (λ z. z ++ x ∷ []) i.ready.items;
      };
    }
