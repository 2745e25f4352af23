use Rattle.std.proofs.Common.{◌≡◌, ◌+◌, ◌-◌, ◌<◌, refl, sym, ap, subst, ◌∙◌, arith}
use Rattle.rl_nodes.specs.Events.{for_each}
use Rattle.rl_nodes.specs.Setups.{stream_numbers}
use Rattle.rl_node.specs.Fits.{IsStream}
use Rattle.rl_node.specs.SetupOf.{setup_of}
use Rattle.rl_world.specs.Standing.{IsNumberOf}
use Rattle.rl_world.proofs.Playing.{refused, plays_at, playing_begins, playing_ends, played_next, played_fails}
use Rattle.rl_world.proofs.run.Run.play_all.Goals as goal

pub loop-before-init : goal.loop-before-init
loop-before-init c = record {
  safe = c.requires.safe;
  setup = refl;
  all = c.workers-workers.ensures;
  played = λ w st. playing_begins (setup_of c.args.self.now.setup) c.args.a c.args.self.now w st;
}

pub play-requires-clause-node : goal.play-requires-clause-node
play-requires-clause-node c = subst (λ s. IsNumberOf (setup_of s) c.args.a) (sym c.loop-before.invariant.setup) c.requires.node

pub play-requires-clause-stream : goal.play-requires-clause-stream
play-requires-clause-stream c =
    let i = c.loop-before.invariant in
    let below = c.loop-before-test.true in
    let all = i.all in
    subst (λ s. IsStream (setup_of s) (c.loop-before.before + 1)) (sym i.setup) (omega arith, omega (arith, below, all))

pub loop-before-preserved : goal.loop-before-preserved
loop-before-preserved c =
    let i = c.loop-before.invariant in
    let setup = setup_of c.args.self.now.setup in
    let below : c.loop-before.before < setup.workers = let p = c.loop-before-test.true in let q = i.all in omega (arith, p, q) in
    record {
      safe = c.in_ok-play.ensures.safe;
      setup = c.in_ok-play.ensures.setup ∙ i.setup;
      all = i.all;
      played = λ w st.
          played_next setup c.args.a c.loop-before.self c.play.new.self w c.loop-before.before (ap setup_of i.setup) below (i.played w st)
          tt c.in_ok-play.ensures.runs;
    }

pub returns-in_err-play-clause-runs : goal.returns-in_err-play-clause-runs
returns-in_err-play-clause-runs c w st =
    let i = c.loop-before.invariant in
    let setup = setup_of c.args.self.now.setup in
    let below : c.loop-before.before < setup.workers = let p = c.loop-before-test.true in let q = i.all in omega (arith, p, q) in
    refused c.play.new.self (for_each (stream_numbers setup) (plays_at setup c.args.a) w) c.in_err-play.field-0.0 c.from_residual.result c.from_residual.ensures.1
    (played_fails setup c.args.a c.loop-before.self c.play.new.self w c.loop-before.before (ap setup_of i.setup) below (i.played w st)
    c.in_err-play.field-0.0 c.in_err-play.ensures.runs)

pub returns-clause-runs : goal.returns-clause-runs
returns-clause-runs c w st =
    let i = c.loop-before.invariant in
    let setup = setup_of c.args.self.now.setup in
    let none : setup.workers - c.loop-before.before ≡ 0 = let p = c.loop-before-test.false in let q = i.all in omega (arith, p, q) in
    playing_ends setup c.args.a c.loop-before.self w c.loop-before.before none (i.played w st)
