-- The parts of a record's word, after the record words of Silo.
use Rattle.std.specs.Prelude.{◌≡◌, ℕ, ◌+◌, ◌*◌, ◌/◌, ◌%◌}

-- the lock bit is the lowest
abbrev pub IsLocked : ℕ → Type 0
IsLocked word = word % 2 ≡ 1

-- the packed stamp is what lies above the lock bit
abbrev pub stamp_in : ℕ → ℕ
stamp_in word = word / 2

-- the word of the same stamp, locked
abbrev pub with_lock : ℕ → ℕ
with_lock word = 2 * stamp_in word + 1

-- the word of the same stamp, not locked
abbrev pub without_lock : ℕ → ℕ
without_lock word = 2 * stamp_in word
