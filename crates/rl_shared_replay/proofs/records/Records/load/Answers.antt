use Rattle.std.proofs.Common.{sym, ap, ◌∙◌, refl, arith}
use Rattle.rl_shared_replay.proofs.Calls.{record_in}
use Rattle.rl_shared_replay.proofs.Keeping.{loads}
use Rattle.rl_shared_replay.proofs.records.Records.load.Goals as goal

pub load-requires : goal.load-requires
load-requires c =
    let r = record_in _ _ _ _ c.self.invariant _ (ap (λ z. z.made) c.self.view_is) c.args.rec c.requires.record in (
      ap (λ z. z.table) c.seat.view_is ∙ c.requires.table ∙ sym (ap (λ z. z.table) c.self.view_is),
      (let l = r.1 in omega arith),
      loads _ _ _ _ c.args.rec,
    )

pub invariant_of-seat : goal.invariant_of-seat
invariant_of-seat c = ap (λ m. m.1) (c.load.ensures.2 c.args.rec refl) ∙ c.seat.invariant
