use Rattle.std.proofs.Common.{rules, of_calls, ◌≡◌, ℕ, ◌<◌, length, get_or, arith, subst, sym, ◌∙◌}
use Rattle.rl_shared_replay.specs.declared.work.Job.{Job}
use Rattle.rl_shared_replay.specs.Calls.{SeatOf}
use Rattle.rl_shared_replay.specs.Jobs.{AllDone, IsDone}
use Rattle.rl_shared_replay.proofs.Wholes.{pick}
use Rattle.rl_shared_replay.proofs.run.run_all.Goals as goal

pub returns : goal.returns
returns g c =
    let jobs = c.args.jobs.items in
    let seats = c.in_ok-seats.seats.items in
    let records = c.args.records.now in
    let long : length seats ≡ length jobs = (let n = c.in_ok-seats.ensures.len in let a = c.in_ok-seats.seats.ok.0 in let b = c.args.jobs.ok.0 in omega arith) in
    let done : (k : ℕ) (j : Job) (s : SeatOf) → k < length jobs → IsDone records (get_or jobs k j) (get_or seats k s) =
    (λ k j s l.
    let z = (c.in_ok-seats.ensures.each k s l).1 in
    let met = z.call.met in
    let said : IsDone records z.job (get_or seats k s) = search of_calls in
    subst (λ (x : Job). IsDone records x (get_or seats k s)) (sym (z.job_is j)) said) in
    record {
      tables = λ k s l. (let m : k < length jobs = omega arith in (done k (pick jobs k m) s m).table);
      free = λ k s l. (let m : k < length jobs = omega arith in (done k (pick jobs k m) s m).free);
      long = long;
      settled = λ k j s l. (done k j s l).settled;
    }
