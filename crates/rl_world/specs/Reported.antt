-- What a world reports, in the parts of a report that is printed.
use Rattle.std.specs.Prelude.{ℕ, suc, List, [], ◌∷◌, map}
use Rattle.std.specs.List.{flat_map}
use Rattle.rl_base.specs.declared.refusal.Refusal.{Refusal}
use Rattle.rl_base.specs.declared.refusal.Refusal.TheVariants as refusal
use Rattle.rl_value.specs.Tables.{Table, name_of}
use Rattle.rl_tables.specs.Numbers.{sizes_of, place_of}
use Rattle.rl_paxos.specs.declared.refused.Refused.{Refused}
use Rattle.rl_paxos.specs.declared.refused.Refused.TheVariants.{Promised, OtherBallot, OutOfOrder, Memory}
use Rattle.rl_nodes.specs.declared.view.State.{State}
use Rattle.rl_nodes.specs.declared.view.State.TheVariants.{Up, Down, Lost}
use Rattle.rl_nodes.specs.declared.view.Role.{Role}
use Rattle.rl_nodes.specs.declared.view.Role.TheVariants.{Follower, Candidate, Opening, Leading}
use Rattle.rl_nodes.specs.declared.view.StreamView.{StreamView}
use Rattle.rl_nodes.specs.declared.view.NodeView.{NodeView}
use Rattle.rl_nodes.specs.World as world
use Rattle.rl_nodes.specs.Reports as reports
use Rattle.rl_report.specs.Lines.{item_line}
use Rattle.rl_report.specs.declared.block.Block.{Block}
use Rattle.rl_report.specs.declared.block.Head.{Head}
use Rattle.rl_report.specs.declared.block.Head.TheVariants as head
use Rattle.rl_report.specs.declared.block.RoleLine.{RoleLine}
use Rattle.rl_report.specs.declared.block.RoleLine.TheVariants as role
use Rattle.rl_report.specs.declared.line.RowLine.{RowLine}
use Rattle.rl_report.specs.declared.line.StreamLine.{StreamLine}
use Rattle.rl_report.specs.declared.middle.Middle.{Middle}
use Rattle.rl_report.specs.declared.middle.Middle.TheVariants as middle
use Rattle.rl_report.specs.declared.report.Report.{Report}
use Rattle.rl_report.specs.declared.report.Title.TheVariants.{Sim}

-- ---- nodes ----

-- a role
abbrev pub role_line : Role → RoleLine
role_line Follower = role.Follower
role_line (Candidate epoch have need) = role.Candidate epoch have need
role_line (Opening epoch) = role.Opening epoch
role_line (Leading epoch) = role.Leading epoch

-- a node that is up, down or lost
abbrev pub head_in : NodeView → State → Head
head_in v Up = head.Up v.promised (role_line v.role) v.watermark v.at
head_in v Down = head.Down v.promised
head_in v Lost = head.Lost

-- the streams of a node, where the first of some has a number
abbrev pub stream_lines_from : (s : ℕ) → List StreamView → List StreamLine
stream_lines_from s [] = []
stream_lines_from s (x ∷ xs) =
    record { stream = s; ballot = x.ballot; len = x.len; known = x.known } ∷ stream_lines_from (suc s) xs

-- a row at a table and a key, with the table's name
abbrev pub row_line : List Table → (ℕ × ℕ) × List ℕ → RowLine
row_line tables entry = record { table = name_of tables entry.0.0; key = entry.0.1; row = entry.1 }

-- a node with its streams and rows
abbrev pub block_reported : List Table → world.Block → Block
block_reported tables b = record {
  node = b.node;
  head = head_in b.view b.view.state;
  streams = stream_lines_from 1 b.view.streams;
  rows = map (row_line tables) b.rows;
}

-- ---- lines ----

-- a refused attempt, with the name of the table and the key of the record
abbrev pub refused_line : List Table → (epoch worker index : ℕ) → Refusal → Middle
refused_line tables e w i (refusal.Locked r word) =
    let place = place_of (sizes_of tables) r in middle.Locked e w i (name_of tables place.0) place.1 word
refused_line tables e w i (refusal.Changed r seen found) =
    let place = place_of (sizes_of tables) r in middle.Changed e w i (name_of tables place.0) place.1 seen found

-- a message that a node refused; no node refuses one because memory ran out
abbrev pub denied_lines : (number node : ℕ) → Refused → List Middle
denied_lines number node (Promised promised) = middle.DeniedPromised number node promised ∷ []
denied_lines number node (OtherBallot ballot) = middle.DeniedBallot number node ballot ∷ []
denied_lines number node (OutOfOrder len) = middle.DeniedOrder number node len ∷ []
denied_lines number node Memory = []

-- any line
abbrev pub line_reported : List Table → world.Line → List Middle
line_reported tables (world.AttemptRefused e w i f) = refused_line tables e w i f ∷ []
line_reported tables (world.MessageDenied number node f) = denied_lines number node f
line_reported tables (world.NoMessage number) = middle.NoMessage number ∷ []
line_reported tables (world.LeaderOpened e node count) = middle.Opened e node count ∷ []
line_reported tables (world.NodeShown b) = middle.Shown (block_reported tables b) ∷ []

-- ---- all of it ----

-- the report of a simulated run
abbrev pub reported : List Table → reports.Report → Report
reported tables r = record {
  title = Sim;
  middle = flat_map (line_reported tables) r.lines;
  items = map item_line r.items;
  tables = [];
  blocks = map (block_reported tables) r.blocks;
}
