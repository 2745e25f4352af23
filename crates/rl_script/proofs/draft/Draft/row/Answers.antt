use Rattle.std.proofs.Common.{◌≡◌, ◌<◌, length, arith, ap}
use Rattle.rl_value.specs.Tables.{size_of, columns_of}
use Rattle.rl_script.proofs.FitsLemmas.{fits_with_row}
use Rattle.rl_script.proofs.draft.Draft.row.Goals as goal

pub returns-clause-fits : goal.returns-clause-fits
returns-clause-fits c =
    let within : c.in_ok-key.key < size_of c.args.self.now.schema c.in_ok-t.t = omega (arith, c.in_ok-key.ensures.high, c.size.ensures.size, c.size.ensures.some) in
    let all : length c.from_slice.result ≡ columns_of c.args.self.now.schema c.in_ok-t.t = omega (arith, ap length c.from_slice.ensures, c.as_slice.ensures.len, c.in_ok-cells.ensures.count, c.in_ok-t.ensures.columns) in
    fits_with_row c.args.self.now c.in_ok-t.t c.in_ok-key.key c.from_slice.result c.put.new.self c.requires.fits c.requires.first c.in_ok-t.ensures.there within all (rw (c.from_slice.ensures, c.as_slice.ensures.value) c.in_ok-cells.ensures.each) c.in_ok-put.ensures.ok
