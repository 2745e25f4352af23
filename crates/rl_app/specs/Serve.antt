-- What a call of the program reads and writes, whatever the command.
use Rattle.std.specs.Prelude.{◌≡◌, ℕ, ◌<◌, ◌≤◌, ◌⊎◌, List, [], ◌∷◌, ◌++◌, length, take, codes, Option, Some, IfSome}
use Rattle.std.specs.Io.KnownBytes.{append_known}
use Rattle.std.specs.Fmt.{decimal}
use Rattle.rl_io.specs.Faults.{Rose}

-- ---- what a source and a sink tell of a call ----

-- the bytes that a source has left or that a sink holds, before and after a call, where it tells them, and its counts of faults
pub record Side : Type 0 where
  pub before : Option (List ℕ)
  pub after : Option (List ℕ)
  pub faults_before : ℕ
  pub faults_after : ℕ

-- what a source or a sink tells by its two meanings, of its values before and after a call
abbrev pub side : {V : Type 0} → (V → Option (List ℕ)) → (V → ℕ) → V → V → Side
side bytes faults old new = record {
  before = bytes old;
  after = bytes new;
  faults_before = faults old;
  faults_after = faults new;
}

-- a read or a write failed
abbrev pub FaultsRose : Side → Type 0
FaultsRose side = Rose side.faults_before side.faults_after

-- an input was read to its end: where the source tells what it had left, that is this input
abbrev pub WasRead : Side → List ℕ → Type 0
WasRead source input = IfSome source.before (λ left. (left ≡ input) × (source.after ≡ Some []))

-- a text was written whole
abbrev pub Wrote : Side → List ℕ → Type 0
Wrote sink text = sink.after ≡ append_known sink.before text

-- a prefix of a text was written
abbrev pub WrotePrefix : Side → List ℕ → Type 0
WrotePrefix sink text = (n : ℕ) × (sink.after ≡ append_known sink.before (take n text))

-- ---- lines that no command chooses ----

-- the line of a limit that is passed
abbrev pub limit_line : List ℕ → ℕ → List ℕ
limit_line name limit = codes "limit " ++ name ++ 32 ∷ decimal limit ++ 10 ∷ []

-- the line of a read that failed
abbrev pub read_fault_line : List ℕ
read_fault_line = codes "read fault\n"

-- the line where there was no memory
abbrev pub memory_line : List ℕ
memory_line = codes "memory\n"

-- ---- a call that only writes ----

-- the text of a status was written whole, or, at status 6, a write failed after a prefix of it
abbrev pub Delivers : Side → ℕ → List ℕ → ℕ → Type 0
Delivers sink composed text status =
    ((status ≡ composed) × Wrote sink text)
    ⊎ ((status ≡ 6) × FaultsRose sink × WrotePrefix sink text)

-- a call composed a status and a text, as A says or, without memory, 7 and its line, and then wrote the text;
-- where no write failed, the status is one that A says, or 7
pub record Writes (A : ℕ → List ℕ → Type 0) (sink : Side) (status : ℕ) : Type 0 where
  pub composed : ℕ
  pub text : List ℕ
  pub composes : A composed text ⊎ ((composed ≡ 7) × (text ≡ memory_line))
  pub delivers : Delivers sink composed text status
  pub complete : (FaultsRose sink → ⊥) → A status text ⊎ (status ≡ 7)

-- ---- a call that reads, and then writes ----

-- the statuses of an answer: all is well (0), what was to be checked is wrong (1), the input has a fault (3), a limit is passed (4)
abbrev pub IsAnswered : ℕ → Type 0
IsAnswered status = (status ≡ 0) ⊎ (status ≡ 1) ⊎ (status ≡ 3) ⊎ (status ≡ 4)

-- an input was read whole, keeps the limit, and has this answer, as A says
pub record IsAnswer (A : List ℕ → ℕ → List ℕ → Type 0) (limit : ℕ) (source : Side) (status : ℕ) (text : List ℕ) : Type 0 where
  pub input : List ℕ
  pub was_read : WasRead source input
  pub within : length input ≤ limit
  pub answer : A input status text
  pub answered : IsAnswered status

-- an input is too long (4), or a read failed (5)
abbrev pub Stops : ℕ → Side → ℕ → List ℕ → Type 0
Stops limit source status text =
    ((status ≡ 4) × IfSome source.before (λ input. limit < length input) × (text ≡ limit_line (codes "input") limit))
    ⊎ ((status ≡ 5) × FaultsRose source × (text ≡ read_fault_line))

-- what a call that reads composes
abbrev pub Reads : (List ℕ → ℕ → List ℕ → Type 0) → ℕ → Side → ℕ → List ℕ → Type 0
Reads A limit source status text = IsAnswer A limit source status text ⊎ Stops limit source status text

-- a call read an input and wrote the answer to it that A says, or the line of what went wrong; where the source tells an
-- input within the limit, and no read and no write failed, the status is that of an answer, or 7
pub record Serves (A : List ℕ → ℕ → List ℕ → Type 0) (limit : ℕ) (source sink : Side) (status : ℕ) : Type 0 where
  pub writes : Writes (Reads A limit source) sink status
  pub complete : IfSome source.before (λ input. length input ≤ limit → (FaultsRose source → ⊥) → (FaultsRose sink → ⊥)
      → ((text : List ℕ) × A input status text) ⊎ (status ≡ 7))
