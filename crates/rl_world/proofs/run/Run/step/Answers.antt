use Rattle.std.proofs.Common.{◌≡◌, ◌+◌, ◌-◌, subst, ◌∙◌, arith}
use Rattle.rl_nodes.specs.Events.{for_each}
use Rattle.std.specs.Prelude.{replicate}
use Rattle.rl_world.specs.Standing.{TriesRun}
use Rattle.rl_world.proofs.Results.{known_result}
use Rattle.rl_world.proofs.Steps.{IsAmidSteps, makes_step, steps_begin, one_is_left, none_is_left, number_still, worker_still, room_still, steps_next, steps_fail, steps_end}
use Rattle.rl_world.proofs.run.Run.step.Goals as goal

pub loop-step-init : goal.loop-step-init
loop-step-init c =
    let all : c.args.count ≡ c.args.count - 0 = omega arith in
    subst (IsAmidSteps c.args.self.now c.args.self.now c.args.a c.args.worker c.args.count) all
    (steps_begin c.args.self.now c.args.a c.args.worker c.args.count c.requires.safe c.requires.room)

pub step_once-requires-clause-safe : goal.step_once-requires-clause-safe
step_once-requires-clause-safe c = c.loop-step.invariant.safe

pub step_once-requires-clause-room : goal.step_once-requires-clause-room
step_once-requires-clause-room c =
    let i = c.loop-step._step in
    let amid = one_is_left c.args.self.now c.loop-step.self c.args.a c.args.worker c.args.count i c.loop-step-test.true c.loop-step.invariant in
    room_still c.args.self.now c.loop-step.self c.args.a c.args.worker c.args.count (c.args.count - (i + 1)) amid

pub step_once-requires-clause-node : goal.step_once-requires-clause-node
step_once-requires-clause-node c =
    let i = c.loop-step._step in
    let amid = one_is_left c.args.self.now c.loop-step.self c.args.a c.args.worker c.args.count i c.loop-step-test.true c.loop-step.invariant in
    number_still c.args.self.now c.loop-step.self c.args.a c.args.worker c.args.count (c.args.count - (i + 1)) amid c.requires.node

pub step_once-requires-clause-worker : goal.step_once-requires-clause-worker
step_once-requires-clause-worker c =
    let i = c.loop-step._step in
    let amid = one_is_left c.args.self.now c.loop-step.self c.args.a c.args.worker c.args.count i c.loop-step-test.true c.loop-step.invariant in
    worker_still c.args.self.now c.loop-step.self c.args.a c.args.worker c.args.count (c.args.count - (i + 1)) amid c.requires.worker

pub loop-step-preserved : goal.loop-step-preserved
loop-step-preserved c =
    let i = c.loop-step._step in
    let amid = one_is_left c.args.self.now c.loop-step.self c.args.a c.args.worker c.args.count i c.loop-step-test.true c.loop-step.invariant in
    steps_next c.args.self.now c.loop-step.self c.args.a c.args.worker c.args.count (c.args.count - (i + 1)) amid c.step_once.new.self
    c.requires.node c.requires.worker c.step_once.ensures.safe c.step_once.ensures.setup c.in_ok-step_once.ensures.runs

pub returns-in_err-step_once-clause-runs : goal.returns-in_err-step_once-clause-runs
returns-in_err-step_once-clause-runs c =
    let i = c.loop-step._step in
    let amid = one_is_left c.args.self.now c.loop-step.self c.args.a c.args.worker c.args.count i c.loop-step-test.true c.loop-step.invariant in
    let failed =
    steps_fail c.args.self.now c.loop-step.self c.args.a c.args.worker c.args.count (c.args.count - (i + 1)) amid c.step_once.new.self
    c.in_err-step_once.field-0.0 c.in_err-step_once.ensures.runs in
    known_result
    (TriesRun c.args.self.now c.step_once.new.self (for_each (replicate c.args.count c.args.worker) (makes_step c.args.self.now.setup c.args.a)))
    c.in_err-step_once.field-0.0 c.from_residual.result c.from_residual.ensures.1 failed

pub returns-in_err-step_once-clause-safe : goal.returns-in_err-step_once-clause-safe
returns-in_err-step_once-clause-safe c = c.step_once.ensures.safe

pub returns-in_err-step_once-clause-setup : goal.returns-in_err-step_once-clause-setup
returns-in_err-step_once-clause-setup c = c.step_once.ensures.setup ∙ c.loop-step.invariant.setup

pub returns-clause-runs : goal.returns-clause-runs
returns-clause-runs c =
    steps_end c.args.self.now c.loop-step.self c.args.a c.args.worker c.args.count
    (none_is_left c.args.self.now c.loop-step.self c.args.a c.args.worker c.args.count c.loop-step._step c.loop-step-test.false c.loop-step.invariant)

pub returns-clause-safe : goal.returns-clause-safe
returns-clause-safe c = c.loop-step.invariant.safe

pub returns-clause-setup : goal.returns-clause-setup
returns-clause-setup c = c.loop-step.invariant.setup
