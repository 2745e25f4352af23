-- What is read takes lines away.
use Rattle.std.proofs.Common.{◌≡◌, ℕ, ◌<◌, ◌==◌, ◌||◌, not, Bool, List, codes, length, Ok, refl, ap, arith, length-append}
use Rattle.rl_text.specs.Printed.{Line}
use Rattle.rl_report.specs.declared.block.Block.{Block}
use Rattle.rl_report.specs.declared.block.Head.{Head}
use Rattle.rl_report.specs.declared.block.Head.TheVariants.{Plain}
use Rattle.rl_report.specs.declared.line.RowLine.{RowLine}
use Rattle.rl_report.specs.declared.line.StreamLine.{StreamLine}
use Rattle.rl_report.specs.declared.middle.Middle.{Middle}
use Rattle.rl_report.specs.LineForms.{row, stream, simulated, node, refused}
use Rattle.rl_report.specs.Read.{OfLines, one, next_begins, block, any_effect}
use Rattle.rl_report.specs.Readers.{Reader, always}
use Rattle.rl_report.specs.Words.{OfWords, exactly}
use Rattle.rl_report.proofs.Loops.{Shorter}
use Rattle.rl_report.proofs.ReaderLaws.{IsReader}
use Rattle.rl_report.proofs.WordLaws.{Is, exactly_reader, whole_reader}
use Rattle.rl_report.proofs.LineLaws.{row_reader, stream_reader, simulated_reader, plain_reader, refused_reader, node_reader, SmallHead, IsPlainHead}
use Rattle.rl_report.proofs.SectionLaws.{line_reader, block_reader, some_lines, any_effect_reader}

shorter_by : {X E A : Type 0} {r : Reader X E A} {p : A → List X} {F : A → Type 0} {S : List X → Type 0} → IsReader r p F S → ((a : A) → F a → 0 < length (p a))
    → (xs : List X) (a : A × List X) → r xs ≡ Ok a → length a.1 < length xs
shorter_by {p = p} reads some xs a e = let t = reads.takes xs a e in omega (arith, ap length t.0, length-append (p a.0) a.1, some a.0 t.1)

-- when each of the values that are counted comes, and how it is read

abbrev pub more_rows : ℕ → List Line → Bool
more_rows n lines = next_begins (codes "row") lines

abbrev pub read_row : ℕ → OfLines RowLine
read_row n = one row

pub rows_shorter : Shorter read_row
rows_shorter n = shorter_by (line_reader (whole_reader row_reader refl)) (λ a fits. omega arith)

abbrev pub more_streams : ℕ → List Line → Bool
more_streams n lines = (n == 1) || next_begins (codes "stream") lines

abbrev pub read_stream : ℕ → OfLines StreamLine
read_stream n = one (stream n)

pub streams_shorter : Shorter read_stream
streams_shorter n = shorter_by (line_reader (whole_reader (stream_reader n) tt)) (λ a fits. omega arith)

abbrev pub more_nodes : ℕ → List Line → Bool
more_nodes n lines = (n == 1) || not (length lines == 0)

abbrev pub read_node : OfWords Head → ℕ → OfLines Block
read_node head n = block (node (exactly n) head)

pub simulated_shorter : Shorter (read_node simulated)
simulated_shorter n = shorter_by (block_reader (Is n) SmallHead (node_reader (exactly_reader n) simulated_reader)) (λ a fits. omega arith)

pub plain_shorter : Shorter (read_node (always Plain))
plain_shorter n = shorter_by (block_reader (Is n) IsPlainHead (node_reader (exactly_reader n) plain_reader)) (λ a fits. omega arith)

abbrev pub before_items : ℕ → List Line → Bool
before_items n lines = not (next_begins (codes "items") lines)

abbrev pub read_refusal : ℕ → OfLines Middle
read_refusal n = one refused

pub refusals_shorter : Shorter read_refusal
refusals_shorter n = shorter_by (line_reader (whole_reader refused_reader tt)) (λ a fits. omega arith)

abbrev pub read_effect : ℕ → OfLines Middle
read_effect n = any_effect

pub effects_shorter : Shorter read_effect
effects_shorter n = shorter_by any_effect_reader some_lines
