use Rattle.std.proofs.Common.{◌≡◌, ◌<◌, ◌^◌, drop}
use Rattle.rl_text.specs.Numbers.{value_onto}
use Rattle.rl_text.proofs.number.value.Given as goal

abbrev pub invariant-loop-digit : goal.invariant-loop-digit
invariant-loop-digit l =
    record { fits : l.value < 2 ^ 64; same : value_onto l.value (drop l.digit-index l.digits) ≡ value_onto 0 l.digits }
