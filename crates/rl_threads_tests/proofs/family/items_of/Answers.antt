use Rattle.std.proofs.Common.{◌≡◌, ◌+◌, List, ◌++◌, [], ◌∷◌, length, length-append, All, ap, sym, ◌∙◌, subst, arith}
use Rattle.rl_txn.specs.declared.item.Item.{Item}
use Rattle.rl_shared_replay.proofs.Wholes.{all_more}
use Rattle.rl_shared_replay.specs.Replayable.{IsReplayable}
use Rattle.rl_threads_tests.specs.Numbered.{IsNumbered}
use Rattle.rl_threads_tests.proofs.Numbers.{numbered_more}
use Rattle.rl_threads_tests.proofs.family.items_of.Goals as goal

pub loop-k-preserved : goal.loop-k-preserved
loop-k-preserved c =
    let i = c.loop-k.invariant in
    let x = c.in_ok-item_of.field-0 in
    let xs = c.loop-k.items in
    let pushed : c.push.new.self ≡ xs ++ x ∷ [] = c.in_ok-push.ensures.ok in
    record {
      items = subst (All (IsReplayable c.args.schema.now)) (sym pushed) (all_more (IsReplayable c.args.schema.now) xs x i.items c.in_ok-item_of.ensures.replayable);
      seqs = subst (IsNumbered c.args.first) (sym pushed) (numbered_more c.args.first xs x i.seqs (c.in_ok-item_of.ensures.seq ∙ ap (λ n. c.args.first + n) (sym i.many)));
      many = ap length pushed ∙ (let a = length-append xs (x ∷ []) in let b = i.many in omega arith);
    }
