-- What the private calls need of records and seats.
use Rattle.std.proofs.Common.{◌≡◌, ℕ, ◌+◌, ◌*◌, ◌<◌, ◌≤◌, List, length, sym, ap, ◌∙◌, subst, arith}
use Rattle.std.specs.Prelude.{slice_index}
use Rattle.atomic_table.specs.Seated.{TableId}
use Rattle.rl_shared_replay.specs.declared.rule.Start.{Start}
use Rattle.rl_shared_replay.specs.Start.{Made, made_of}
use Rattle.rl_shared_replay.specs.Calls.{RecordsFit}

-- a record is there, and so are its words
pub record_in : (table : TableId) (key : Start) (columns sizes : List ℕ) → RecordsFit table key columns sizes → (made : Made) → made_of key ≡ made → (r : ℕ) → r < length made.columns
    → (r < length key.columns.items) × (6 + 6 * r < table.words)
record_in table key columns sizes fit made is r l =
    let a = ap (λ (m : Made). length m.columns) is in
    let b = ap length fit.columns in
    let c = fit.words in
    (omega arith, omega arith)

pub some_words : (table : TableId) (key : Start) (columns sizes : List ℕ) → RecordsFit table key columns sizes → 0 < table.words
some_words table key columns sizes fit = let c = fit.words in omega arith

pub few_columns : (table : TableId) (key : Start) (columns sizes : List ℕ) → RecordsFit table key columns sizes → (made : Made) → made_of key ≡ made → (r : ℕ) → slice_index made.columns r ≤ 4
few_columns table key columns sizes fit made is r =
    let a = ap (λ (m : Made). slice_index m.columns r) is in
    let b = ap (λ (l : List ℕ). slice_index l r) fit.columns in
    let c = fit.few r in
    omega arith
