use Rattle.std.proofs.Common.{arith, ◌≡◌, ◌+◌, ap, ◌∙◌}
use Rattle.rl_tables.specs.Numbers.{record_of, place_of}
use Rattle.rl_tables.proofs.Places.{place_of_record}
use Rattle.rl_tables.proofs.layout.Layout.record.Goals as goal

pub returns-clause-place : goal.returns-clause-place
returns-clause-place c =
    let is : c.before-2.result + c.args.k ≡ record_of c.args.self.now c.args.t c.args.k = omega (arith, c.before-2.ensures.first) in
    ap (place_of c.args.self.now) is ∙ place_of_record c.args.self.now c.args.t c.args.k c.requires.table c.requires.key
