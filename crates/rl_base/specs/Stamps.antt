-- Stamps as numbers, after the transaction identifiers of Silo.
use Rattle.std.specs.Prelude.{ℕ, ◌+◌, ◌*◌, ◌^◌}
use Rattle.rl_base.specs.declared.stamp.Stamp.{Stamp}

-- the epoch above the lower forty bits, which hold the seq
abbrev pub packed : Stamp → ℕ
packed s = s.epoch * 2 ^ 40 + s.seq
