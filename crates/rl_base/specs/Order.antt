-- The order of stamps, and so of all commits (Silo's transaction identifiers, Rolis's timestamps).
use Rattle.std.specs.Prelude.{◌≡◌, ◌⊎◌, ◌<◌, Bool, ◌&&◌, ◌||◌, ◌==◌, nat_lt}
use Rattle.rl_base.specs.declared.stamp.Stamp.{Stamp}

-- stamps are ordered by epoch, then by seq
abbrev pub IsBelow : Stamp → Stamp → Type 0
IsBelow s t = (s.epoch < t.epoch) ⊎ ((s.epoch ≡ t.epoch) × (s.seq < t.seq))

-- the same as a test
abbrev pub is_below : Stamp → Stamp → Bool
is_below s t = nat_lt s.epoch t.epoch || ((s.epoch == t.epoch) && nat_lt s.seq t.seq)
