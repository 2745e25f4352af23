use Rattle.std.proofs.Common.{of_calls, ◌≡◌, ◌+◌, ◌<◌, length, get_or, arith, subst, sym}
use Rattle.std.specs.Prelude.{IfOk}
use Rattle.rl_live.specs.declared.worker.Worker.{Worker}
use Rattle.rl_live.specs.Handing.{IsDoneAs, IsReadyAs}
use Rattle.rl_live.specs.Workers.{HasDone, IsSetUp}
use Rattle.rl_shared_replay.proofs.Wholes.{pick}
use Rattle.rl_live.proofs.Opens.{ok_two}
use Rattle.rl_live.proofs.session.run_all.Goals as goal

pub map_vec-requires-after_bounds : goal.map_vec-requires-after_bounds
map_vec-requires-after_bounds g c κs within i x l e = (
  (c.requires.layout, subst (λ (w : Worker). IsSetUp c.args.script.now.schema c.args.store.now c.args.progress.now w) (sym e) (c.requires.ready.1 i x l).set_up),
  (record { shared = c.type_bounds.sync-R.shared }, record { shared = c.type_bounds.sync-G.shared }),
)

pub returns : goal.returns
returns g c =
    let workers = c.args.workers.items in
    let results = c.in_ok-results.results.items in
    let script = c.args.script.now in
    let store = c.args.store.now in
    let progress = c.args.progress.now in
    let long : length results ≡ length workers = (let n = c.in_ok-results.ensures.len in let a = c.in_ok-results.results.ok.0 in let b = c.args.workers.ok.0 in omega arith) in
    record {
      many = long;
      ended = λ tries ready k d l.
          let inside : k < length workers = omega arith in
          let w = pick workers k inside in
          let z = (c.in_ok-results.ensures.each k d inside).1 in
          let met = z.call.met in
          let said : IfOk (get_or results k d) (HasDone script.schema store z.job) = search of_calls in
          let is : IsReadyAs script store progress tries (1 + k) z.job = subst (IsReadyAs script store progress tries (1 + k)) (z.job_is w) (ready k w inside) in
          ok_two (get_or results k d) (HasDone script.schema store z.job) (HasDone script.schema store z.job) (λ v. IsDoneAs script store progress tries (1 + k) v) said said (λ v p q. (z.job, is, p));
    }
