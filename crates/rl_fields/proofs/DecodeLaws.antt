-- What a decoder and an encoder of whole values owe: what is decoded is encoded by these bytes and in range, and what is encoded is read again.
use Rattle.std.proofs.Common.{◌≡◌, ℕ, List, ◌++◌, Result, Ok, Err, ap, subst, ◌∙◌}
use Rattle.std.specs.Prelude.{IfOk}
use Rattle.std.proofs.lemmas.List.{append-nil}
use Rattle.rl_base.specs.Numbers.{IsBytes}
use Rattle.rl_base.specs.declared.flaw.Flaw.{Flaw}
use Rattle.rl_base.specs.declared.memory.Memory.{Memory}
use Rattle.rl_fields.specs.declared.decode_error.DecodeError.{DecodeError}
use Rattle.rl_fields.specs.declared.fault.Fault.{Fault}
use Rattle.rl_fields.specs.Answers.{IsDecoded}
use Rattle.rl_fields.specs.Faults.{with_offset}
use Rattle.rl_fields.specs.Fields.{alone, whole}
use Rattle.rl_fields.proofs.FieldLaws.{bind_ok, Takes, alone_takes, with_offset_ok}

-- a reader takes a value in range from the bytes that encode it
pub record IsWholeReader {A : Type 0} (read : List ℕ → Result (A × List ℕ) Fault) (encoding : A → List ℕ) (InRange : A → Type 0) : Type 0 where
  pub takes : (bytes : List ℕ) (x : A × List ℕ) → IsBytes bytes → read bytes ≡ Ok x → Takes bytes (encoding x.0) x.1 × InRange x.0

module _ {A : Type 0} (read : List ℕ → Result (A × List ℕ) Fault) (encoding : A → List ℕ) (InRange : A → Type 0) (reader : IsWholeReader read encoding InRange) where
  whole_takes : (bytes : List ℕ) (y : A) → IsBytes bytes → whole read bytes ≡ Ok y → (bytes ≡ encoding y) × InRange y
  unfolding whole
  whole_takes bytes y fits e =
      let a = bind_ok (read bytes) (λ x. alone x.0 x.1) y e in
      let t = reader.takes bytes a.0 fits a.1 in
      let g = alone_takes a.0.0 y a.0.1 a.2 in
      let parts : bytes ≡ encoding a.0.0 = t.0.parts ∙ ap (λ (rest : List ℕ). encoding a.0.0 ++ rest) g.1 ∙ append-nil (encoding a.0.0) in
      subst (λ (z : A). (bytes ≡ encoding z) × InRange z) g.0 (parts, t.1)

  -- what is read is encoded by the bytes, and in range
  pub read_encoded : (bytes : List ℕ) (y : A) → IsBytes bytes → with_offset bytes (whole read bytes) ≡ Ok y → (bytes ≡ encoding y) × InRange y
  read_encoded bytes y fits e = whole_takes bytes y fits (with_offset_ok bytes (whole read bytes) y e)

  pub decoded_encoded : (bytes : List ℕ) (answer : Result A DecodeError) → IsBytes bytes → IsDecoded (with_offset bytes (whole read bytes)) answer → IfOk answer (λ y. bytes ≡ encoding y)
  decoded_encoded bytes (Ok y) fits said = (read_encoded bytes y fits said).0
  decoded_encoded bytes (Err e) fits said = tt

  pub decoded_in_range : (bytes : List ℕ) (answer : Result A DecodeError) → IsBytes bytes → IsDecoded (with_offset bytes (whole read bytes)) answer → IfOk answer InRange
  decoded_in_range bytes (Ok y) fits said = (read_encoded bytes y fits said).1
  decoded_in_range bytes (Err e) fits said = tt

-- where an encoding is read again, so is each answer that is it
pub encoded_reads : {A : Type 0} (read : List ℕ → Result A (ℕ × Flaw)) (encoding : A → List ℕ) (y : A) (answer : Result (List ℕ) Memory) → read (encoding y) ≡ Ok y → IfOk answer (λ bytes. bytes ≡ encoding y) → IfOk answer (λ bytes. read bytes ≡ Ok y)
encoded_reads read encoding y (Ok bytes) back e = ap read e ∙ back
encoded_reads read encoding y (Err e) back said = tt
