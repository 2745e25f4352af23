use Rattle.std.proofs.Common.{◌≡◌, ℕ, Some, length, slice_get, subst, sym, arith}
use Rattle.rl_worker.specs.declared.worker.Worker.{Worker}
use Rattle.rl_app.specs.Running.{IsFresh}
use Rattle.rl_app.proofs.Runs.{pushed}
use Rattle.rl_app.proofs.run.workers.Goals as goal

pub loop-before-preserved : goal.loop-before-preserved
loop-before-preserved c =
    let n = c.loop-before.before in
    let items = c.in_ok-push.ensures.items in
    let new : IsFresh (length c.loop-before.workers.items) c.new.result = subst (λ k. IsFresh k c.new.result) (sym c.loop-before.invariant.count) (record {
      number = c.new.ensures.number;
      epoch = c.new.ensures.epoch;
      rests = c.new.ensures.rests;
      fits = λ tables lists l. c.new.ensures.fits tables lists (omega arith) (omega (arith, l)) (omega arith);
    }) in
    record {
      count = omega (arith, c.loop-before.invariant.count, c.in_ok-push.ensures.len);
      each = subst (λ xs. (i : ℕ) (w : Worker) → slice_get xs i ≡ Some w → IsFresh i w) (sym items) (pushed IsFresh c.loop-before.workers.items c.new.result c.loop-before.invariant.each new);
    }
