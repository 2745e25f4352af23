-- What a function over bytes answers, beside what reading them says.
use Rattle.std.specs.Prelude.{◌≡◌, ℕ, ◌-◌, Result, Ok, Err}
use Rattle.rl_base.specs.declared.flaw.Flaw.{Flaw}
use Rattle.rl_fields.specs.declared.decode_error.DecodeError.{DecodeError}
use Rattle.rl_fields.specs.declared.decode_error.DecodeError.TheVariants as decode
use Rattle.rl_fields.specs.declared.fault.Fault.{Fault}
use Rattle.rl_fields.specs.declared.fault.ReadError.{ReadError}
use Rattle.rl_fields.specs.declared.fault.ReadError.TheVariants as errors

-- a function's answer, seen by `view`, is what reading says
abbrev pub IsRead : {X Y : Type 0} → (view : X → Y) → Result X Fault → (read : Result Y Fault) → Type 0
IsRead view (Ok x) read = read ≡ Ok (view x)
IsRead view (Err fault) read = read ≡ Err fault

-- what a function found wrong is what reading finds, unless memory ran out
abbrev pub FailsAs : {Y : Type 0} → ReadError → (read : Result Y Fault) → Type 0
FailsAs errors.Memory read = Unit {0}
FailsAs (errors.Fault fault) read = read ≡ Err fault

-- a function's answer, seen by `view`, is what reading says, unless memory ran out
abbrev pub IsReadUnlessMemory : {X Y : Type 0} → (view : X → Y) → Result X ReadError → (read : Result Y Fault) → Type 0
IsReadUnlessMemory view (Ok x) read = read ≡ Ok (view x)
IsReadUnlessMemory view (Err e) read = FailsAs e read

-- an error of so many bytes, with the offset of its fault
abbrev pub decode_error : (len : ℕ) → ReadError → DecodeError
decode_error len (errors.Fault fault) = decode.Fault (len - fault.left) fault.kind
decode_error len errors.Memory = decode.Memory

-- a decoder's answer is what reading says of all the bytes, unless memory ran out
abbrev pub IsDecoded : {X : Type 0} → (read : Result X (ℕ × Flaw)) → Result X DecodeError → Type 0
IsDecoded read (Ok x) = read ≡ Ok x
IsDecoded read (Err (decode.Fault at kind)) = read ≡ Err (at, kind)
IsDecoded read (Err decode.Memory) = Unit {0}
