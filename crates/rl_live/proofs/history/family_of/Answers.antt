use Rattle.std.proofs.Common.{◌≡◌, List, [], ◌∷◌, ◌++◌, ◌<◌, length, ap, sym, ◌∙◌, subst, arith, length-append}
use Rattle.std.proofs.lemmas.List.{append_assoc}
use Rattle.std.specs.Vec.Iter.{into_iter_items}
use Rattle.rl_txn.specs.declared.batch.Batch.{Batch}
use Rattle.rl_families.specs.Families.{AllRise}
use Rattle.rl_families.specs.Logs.{stamps_along, IsRising}
use Rattle.rl_shared_replay.proofs.Wholes.{all_middle}
use Rattle.rl_live.proofs.ReadLogs.{one_log}
use Rattle.rl_live.proofs.history.family_of.Goals as goal

pub extend-requires-clause-rising : goal.extend-requires-clause-rising
extend-requires-clause-rising c =
    let y = c.loop-log.yielded in
    let b = c.in-Some.log in
    let rest = into_iter_items c.next.new.self in
    let whole : y ++ (b ∷ rest) ≡ c.args.logs = ap (λ z. y ++ z) (sym c.in-Some.ensures.steps.0) ∙ c.loop-log.invariant.all in
    all_middle (λ (l : List Batch). IsRising (stamps_along l)) y b rest (subst (λ l. AllRise l) (sym whole) c.requires.rising)

pub loop-log-preserved : goal.loop-log-preserved
loop-log-preserved c =
    let i = c.loop-log.invariant in
    let y = c.loop-log.yielded in
    let b = c.in-Some.log in
    let rest = into_iter_items c.next.new.self in
    let n = length c.args.logs in
    let whole : y ++ (b ∷ rest) ≡ c.args.logs = ap (λ z. y ++ z) (sym c.in-Some.ensures.steps.0) ∙ i.all in
    let inside : c.loop-log.stream < n = (let a = ap length whole in let d = length-append y (b ∷ rest) in let e = i.count in omega arith) in
    record {
      count = (let d = length-append y (b ∷ []) in let e = i.count in omega arith);
      all = append_assoc y (b ∷ []) rest ∙ whole;
      logs = one_log c.loop-log.family c.extend.new.family y n c.loop-log.stream b i.logs i.count inside c.in_ok-extend.ensures;
    }
