use Rattle.std.proofs.Common.{arith}
use Rattle.rl_tables.proofs.Places.{place_of_record, place_there}
use Rattle.rl_tables.proofs.Sizes.{sum_before}
use Rattle.rl_tables.proofs.laws.records_and_places.Goals as goal

pub returns-clause-record_of_key : goal.returns-clause-record_of_key
returns-clause-record_of_key c = place_of_record

pub returns-clause-place_of_number : goal.returns-clause-place_of_number
returns-clause-place_of_number c = place_there

pub returns-clause-there : goal.returns-clause-there
returns-clause-there c = λ sizes t k within key. omega (arith, sum_before sizes t within)
