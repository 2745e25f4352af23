-- Which reports there are: one form for each command that reports.
use Rattle.std.specs.Prelude.{◌≡◌, ℕ, ◌<◌, ◌≤◌, List, [], length, map, All}
use Rattle.std.specs.List.{range_with_len}
use Rattle.rl_report.specs.declared.line.RowLine.{RowLine}
use Rattle.rl_report.specs.declared.line.StreamLine.{StreamLine}
use Rattle.rl_report.specs.declared.block.Head.{Head}
use Rattle.rl_report.specs.declared.block.Head.TheVariants.{Up, Down, Lost, Plain}
use Rattle.rl_report.specs.declared.block.Block.{Block}
use Rattle.rl_report.specs.declared.middle.Middle.{Middle}
use Rattle.rl_report.specs.declared.middle.Middle.TheVariants.{Locked, Changed, Shown}
use Rattle.rl_report.specs.declared.report.Title.{Title}
use Rattle.rl_report.specs.declared.report.Title.TheVariants.{Serial, Steps, Sim, Live}
use Rattle.rl_report.specs.declared.report.Report.{Report}

-- a word of printable bytes without a space
abbrev pub IsWord : List ℕ → Type 0
IsWord word = (0 < length word) × All (λ b. (33 ≤ b) × (b ≤ 126)) word

-- rows whose tables have names
abbrev pub AreNamed : List RowLine → Type 0
AreNamed rows = All (λ x. IsWord x.table) rows

-- streams by number, from 1 on
abbrev pub AreStreams : List StreamLine → Type 0
AreStreams streams = map (λ x. x.stream) streams ≡ range_with_len 1 (length streams)

-- what a node of a simulated run has, by its state: streams unless it is lost, and rows where it is up
abbrev pub HasParts : Head → List StreamLine → List RowLine → Type 0
HasParts (Up promised role watermark at) streams rows = 0 < length streams
HasParts (Down promised) streams rows = (0 < length streams) × (rows ≡ [])
HasParts Lost streams rows = (streams ≡ []) × (rows ≡ [])
HasParts Plain streams rows = ⊥

-- a node of a simulated run
pub record IsSimulated (b : Block) : Type 0 where
  pub parts : HasParts b.head b.streams b.rows
  pub streams : AreStreams b.streams
  pub named : AreNamed b.rows

-- a node of a run of threads
pub record IsPlain (b : Block) : Type 0 where
  pub head : b.head ≡ Plain
  pub streams : b.streams ≡ []
  pub named : AreNamed b.rows

-- a refused attempt, with the name of its table
abbrev pub IsRefused : Middle → Type 0
IsRefused (Locked e w i t k word) = IsWord t
IsRefused (Changed e w i t k seen found) = IsWord t
IsRefused _ = ⊥

-- what can become of an event of a simulated run
abbrev pub IsEffect : Middle → Type 0
IsEffect (Locked e w i t k word) = IsWord t
IsEffect (Changed e w i t k seen found) = IsWord t
IsEffect (Shown block) = IsSimulated block
IsEffect _ = Unit {0}

-- one or more nodes by number, from 1 on
abbrev pub AreNodes : (Block → Type 0) → List Block → Type 0
AreNodes P blocks =
    (0 < length blocks) × (map (λ b. b.node) blocks ≡ range_with_len 1 (length blocks)) × All P blocks

-- the parts of each form, and no others
abbrev pub HasForm : Title → Report → Type 0
HasForm Serial r = (r.middle ≡ []) × AreNamed r.tables × (r.blocks ≡ [])
HasForm Steps r = All IsRefused r.middle × AreNamed r.tables × (r.blocks ≡ [])
HasForm Sim r = All IsEffect r.middle × (r.tables ≡ []) × AreNodes IsSimulated r.blocks
HasForm Live r = (r.middle ≡ []) × (r.tables ≡ []) × AreNodes IsPlain r.blocks

-- a report of one of the four forms
abbrev pub IsReport : Report → Type 0
IsReport r = HasForm r.title r
