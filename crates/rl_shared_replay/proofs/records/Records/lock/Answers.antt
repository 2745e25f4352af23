use Rattle.std.proofs.Common.{◌%◌, sym, ap, ◌∙◌, refl, arith}
use mathlib.Core.Logic.{dite}
use native.Mathlib.Decide.{ℕ_discrete}
use Rattle.rl_base.specs.Words.{stamp_in}
use Rattle.rl_shared_replay.specs.Views.{with_hold}
use Rattle.rl_shared_replay.proofs.Calls.{record_in}
use Rattle.rl_shared_replay.proofs.Keeping.{locks}
use Rattle.rl_shared_replay.proofs.records.Records.lock.Goals as goal

pub fetch_or-requires : goal.fetch_or-requires
fetch_or-requires c =
    let r = record_in _ _ _ _ c.self.invariant _ (ap (λ z. z.made) c.self.view_is) c.args.rec c.requires.record in (
      ap (λ z. z.table) c.seat.view_is ∙ c.requires.table ∙ sym (ap (λ z. z.table) c.self.view_is),
      (let l = r.1 in omega arith),
      locks _ _ _ _ c.args.rec r.0 (ap (λ z. z.view.held) c.seat.view_is ∙ c.requires.free),
    )

pub invariant_of-seat : goal.invariant_of-seat
invariant_of-seat c =
    let t = c.fetch_or.ensures.2 c.args.rec refl in
    dite (ℕ_discrete (c.fetch_or.result % 2) 1)
    (λ odd. ap (λ m. m.1) (t.0 odd) ∙ c.seat.invariant)
    (λ ne. ap (λ m. m.1) (t.1 (omega arith)) ∙ c.seat.invariant)

pub returns-clause-busy : goal.returns-clause-busy
returns-clause-busy c odd = ap (λ m. m.0) ((c.fetch_or.ensures.2 c.args.rec refl).0 odd) ∙ ap (λ z. z.view) c.seat.view_is

pub returns-clause-locked : goal.returns-clause-locked
returns-clause-locked c even =
    ap (λ m. m.0) ((c.fetch_or.ensures.2 c.args.rec refl).1 even) ∙ ap (λ z. with_hold z.view c.args.rec (stamp_in c.fetch_or.result)) c.seat.view_is
