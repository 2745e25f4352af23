use Rattle.std.proofs.Common.{◌≡◌, ◌∙◌, Bool, None, refl, ap, sym, subst, is_some, true, false, arith, IsSomeAnd}
use Rattle.std.specs.Option.{option_copied}
use Rattle.rl_txn.specs.Serial.{request}
use Rattle.rl_worker.specs.declared.worker.Stage.{Stage}
use Rattle.rl_worker.specs.declared.worker.Stage.TheVariants as stage
use Rattle.rl_worker.specs.Opening.{setting_of}
use Rattle.rl_worker.specs.Workers.{is_resting, StageFits}
use Rattle.rl_worker.proofs.Settings.{request_fits}
use Rattle.rl_worker.proofs.Steps.{is_rest, index_few, asks_it, stage_fits, makes_step, tells_step, rests_step}
use Rattle.rl_worker.proofs.worker.Worker.step.Goals as goal

pub returns-in_default-clause-step : goal.returns-in_default-clause-step
returns-in_default-clause-step c = λ core st.
    let self = c.args.self.now in
    let s = setting_of c.args.schema.now c.args.lists.now self.epoch in
    let none : request c.args.lists.now self.number self.index ≡ None = sym c.request.ensures ∙ ap option_copied c.in_default.is in
    rests_step c.args.schema.now s self c.args.words.now core st c.by.result (go self.stage refl none (is_resting self.stage) refl) (ap is_some none) c.by.ensures
  where
    go : (st : Stage) → c.args.self.now.stage ≡ st → request c.args.lists.now c.args.self.now.number c.args.self.now.index ≡ None → (b : Bool) → is_resting c.args.self.now.stage ≡ b → c.args.self.now.stage ≡ stage.Resting
    go st e none true r = is_rest c.args.self.now.stage r
    go st e none false r = absurd (subst (λ o. IsSomeAnd o (λ t. StageFits c.args.schema.now t c.args.self.now c.args.self.now.stage)) none (c.requires.fits.stage r))

pub begin-requires-clause-txn : goal.begin-requires-clause-txn
begin-requires-clause-txn c = request_fits c.args.schema.now c.args.lists.now c.requires.lists c.args.self.now.number c.args.self.now.index c.in-Some.txn.now (sym c.in-Some.ensures)

pub begin-requires-clause-fits : goal.begin-requires-clause-fits
begin-requires-clause-fits c = stage_fits c.args.schema.now c.args.lists.now c.args.self.now c.in-Some.txn.now c.in-Some.ensures c.requires.fits

pub act-requires-clause-txn : goal.act-requires-clause-txn
act-requires-clause-txn c = request_fits c.args.schema.now c.args.lists.now c.requires.lists c.args.self.now.number c.args.self.now.index c.in-Some.txn.now (sym c.in-Some.ensures)

pub act-requires-clause-index : goal.act-requires-clause-index
act-requires-clause-index c =
    let few = index_few c.args.schema.now c.args.lists.now c.requires.lists c.args.self.now.number c.args.self.now.index c.in-Some.txn.now (sym c.in-Some.ensures) in
    omega (arith, few, c.in_ok-begin.ensures.same.index)

pub returns-clause-step : goal.returns-clause-step
returns-clause-step c = λ core st.
    let self = c.args.self.now in
    let tables = c.args.schema.now in
    let s = setting_of tables c.args.lists.now self.epoch in
    makes_step tables s self c.args.words.now core st c.in-Some.txn.now c.begin.new.self c.act.new.self c.act.new.words c.act.result c.in_ok-begin.ensures.same (ap is_some (sym c.in-Some.ensures))
    (asks_it tables c.args.lists.now self.epoch self.number self.index c.in-Some.txn.now c.in-Some.ensures) c.act.ensures.acted c.in_ok-begin.ensures.fits c.in_ok-begin.ensures.begun

pub returns-clause-act : goal.returns-clause-act
returns-clause-act c = λ core st.
    let self = c.args.self.now in
    let tables = c.args.schema.now in
    let s = setting_of tables c.args.lists.now self.epoch in
    tells_step tables s self c.args.words.now core st c.in-Some.txn.now c.begin.new.self c.act.new.self c.act.new.words c.act.result c.in_ok-begin.ensures.same (ap is_some (sym c.in-Some.ensures))
    (asks_it tables c.args.lists.now self.epoch self.number self.index c.in-Some.txn.now c.in-Some.ensures) c.act.ensures.acted c.in_ok-begin.ensures.begun
