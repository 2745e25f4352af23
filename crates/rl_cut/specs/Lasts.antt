-- How the last stamps of a stream change with a batch, and are put back. No public contract cites it.
use Rattle.std.specs.Prelude.{◌≡◌, ◌-◌, ◌≤◌, List, [], ◌∷◌, ◌++◌, ◌==◌, if◌then◌else◌, length, take, Option, Some, None}
use Rattle.std.specs.Option.{option_map}
use Rattle.rl_base.specs.declared.stamp.Stamp.{Stamp}
use Rattle.rl_families.specs.Logs.{last_stamp}
use Rattle.rl_cut.specs.declared.lasts.Tail.{Tail}

-- one more stamp: in place of the last, where that is of the same epoch
abbrev pub noted : List Stamp → Stamp → List Stamp
noted [] s = s ∷ []
noted (l ∷ []) s = if l.epoch == s.epoch then s ∷ [] else l ∷ s ∷ []
noted (l ∷ (m ∷ ls)) s = l ∷ noted (m ∷ ls) s

-- one after the other
abbrev pub all_noted : (lasts stamps : List Stamp) → List Stamp
all_noted lasts [] = lasts
all_noted lasts (s ∷ ss) = all_noted (noted lasts s) ss

-- how many stamps there are, and the last of them
abbrev pub tail_of : List Stamp → Option Tail
tail_of stamps = option_map (λ s. record { count = length stamps; last = s }) (last_stamp stamps)

-- there are as many stamps
abbrev pub IsWithin : Option Tail → List Stamp → Type 0
IsWithin None stamps = Unit {0}
IsWithin (Some tail) stamps = (1 ≤ tail.count) × (tail.count ≤ length stamps)

-- as many of them, of which the last is again what it was
abbrev pub rolled_back : Option Tail → List Stamp → List Stamp
rolled_back None stamps = []
rolled_back (Some tail) stamps = take (tail.count - 1) stamps ++ tail.last ∷ []

-- stamps that this tail puts back to what they were
pub record LeadsBack (tail : Option Tail) (now before : List Stamp) : Type 0 where
  pub within : IsWithin tail now
  pub back : rolled_back tail now ≡ before
