use Rattle.std.proofs.Common.{◌≡◌, List, ◌++◌, [], ◌∷◌, All, ap, sym, ◌∙◌, refl, subst}
use Rattle.std.proofs.lemmas.List.{append_assoc}
use Rattle.std.specs.Vec.Iter.{into_iter_items}
use Rattle.rl_txn.specs.Fits.{TxnFits}
use Rattle.rl_store_tests.specs.declared.threads.Job.{Job}
use Rattle.rl_store_tests.specs.Jobs.{IsReady}
use Rattle.rl_store_tests.proofs.Wholes.{all_more, all_middle}
use Rattle.rl_store_tests.proofs.threads.hand_out.Goals as goal

pub loop-list-preserved : goal.loop-list-preserved
loop-list-preserved c =
    let i = c.loop-list.invariant in
    let x = c.in-Some.list in
    let rest = into_iter_items c.next.new.self in
    let tables = c.args.schema.now in
    let whole : c.loop-list.yielded ++ (x ∷ rest) ≡ c.args.lists.items = ap (λ z. c.loop-list.yielded ++ z) (sym c.in-Some.ensures.steps.0) ∙ i.all in
    let fits = all_middle (All (TxnFits tables)) c.loop-list.yielded x rest (subst (All (All (TxnFits tables))) (sym whole) c.requires.fits) in
    record {
      table = c.split-own.ensures.tables.0 ∙ i.table;
      rest = ap (λ v. v.attempt) c.split-own.ensures.left ∙ i.rest;
      all = append_assoc c.loop-list.yielded (x ∷ []) rest ∙ whole;
      ready = subst (All (IsReady c.args.store.now tables)) (sym c.in_ok-push.ensures.items)
          (all_more (IsReady c.args.store.now tables) c.loop-list.jobs.items _ i.ready
          (record { table = c.split-own.ensures.tables.1 ∙ i.table; rest = ap (λ v. v.attempt) c.split-own.ensures.right; fits = fits }));
    }
