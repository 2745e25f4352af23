use Rattle.std.proofs.Common.{◌≡◌, ℕ, List, [], ◌∷◌, length, take, ap, ◌∙◌, Ok, Err}
use Rattle.std.specs.Result.{OnErr}
use Rattle.rl_txn.specs.declared.write.Write.{Write}
use Rattle.rl_txn.specs.Serial.{after_writes}
use Rattle.rl_replay.specs.Newest.{fresh}
use Rattle.rl_replay.proofs.Stamped.{rows_more, stamps_more, prefix_made}
use Rattle.rl_replay.proofs.newest.apply_newest.Goals as goal

pub loop-write-preserved : goal.loop-write-preserved
loop-write-preserved c =
    let ws : List Write = c.as_slice-write-items.result.now in
    let i = c.loop-write.write-index in
    let w = c.write-item.result in
    let s = c.args.item.now.stamp in
    record {
      rows = c.in_ok-apply_one.ensures.rows ∙ ap (λ m. after_writes m (fresh c.loop-write.newest s (w ∷ []))) c.loop-write.invariant.rows
          ∙ rows_more c.args.newest.now c.loop-write.newest s ws i w c.loop-write-test.true c.write-item.is c.loop-write.invariant.stamps c.args.map.now;
      stamps = λ q. c.in_ok-apply_one.ensures.stamps q ∙ stamps_more c.args.newest.now c.loop-write.newest s ws i w c.loop-write-test.true c.write-item.is c.loop-write.invariant.stamps q;
    }

pub returns-in_err-apply_one-clause-prefix : goal.returns-in_err-apply_one-clause-prefix
returns-in_err-apply_one-clause-prefix c =
    let ws : List Write = c.as_slice-write-items.result.now in
    let i = c.loop-write.write-index in
    let s = c.args.item.now.stamp in
    let made = fresh c.args.newest.now s (take i ws) in
    let is = c.in_err-apply_one.ensures.unchanged ∙ c.loop-write.invariant.rows ∙ ap (after_writes c.args.map.now) (prefix_made c.args.newest.now s ws i)
    ∙ ap (λ v. after_writes c.args.map.now (take (length made) (fresh c.args.newest.now s v))) c.as_slice-write-items.ensures in
    elim c.from_residual.result as (λ r. OnErr r ((n : ℕ) × (c.apply_one.new.map ≡ after_writes c.args.map.now (take n (fresh c.args.newest.now s c.args.item.now.writes))))) [
      | Ok _ ↦ tt
      | Err _ ↦ (length made, is)
    ]
