-- Faults, by how many bytes were left there.
use Rattle.std.specs.Prelude.{ℕ, ◌-◌, List, length, Result, Ok, Err}
use Rattle.rl_base.specs.declared.flaw.Flaw.{Flaw}
use Rattle.rl_fields.specs.declared.fault.Fault.{Fault}

-- the fault of a kind at the first of these bytes
abbrev pub fault_at : List ℕ → Flaw → Fault
fault_at bytes kind = record { left = length bytes; kind = kind }

-- the same answer with the offset of its fault, counted from the first of all bytes
abbrev pub with_offset : {A : Type 0} → (bytes : List ℕ) → Result A Fault → Result A (ℕ × Flaw)
with_offset bytes (Ok x) = Ok x
with_offset bytes (Err fault) = Err (length bytes - fault.left, fault.kind)
