-- The text of a report: its lines, and the words of each.
use Rattle.std.specs.Prelude.{ℕ, Bool, true, false, List, [], ◌∷◌, ◌++◌, length, map, codes}
use Rattle.std.specs.List.{flat_map}
use Rattle.std.specs.Fmt.{decimal}
use Rattle.rl_txn.specs.declared.write.End.{End}
use Rattle.rl_txn.specs.declared.write.End.TheVariants.{Done, Declined}
use Rattle.rl_text.specs.Printed.{Line, text_of}
use Rattle.rl_report.specs.declared.line.ItemLine.{ItemLine}
use Rattle.rl_report.specs.declared.line.RowLine.{RowLine}
use Rattle.rl_report.specs.declared.line.StreamLine.{StreamLine}
use Rattle.rl_report.specs.declared.block.RoleLine.{RoleLine}
use Rattle.rl_report.specs.declared.block.RoleLine.TheVariants.{Follower, Candidate, Opening, Leading}
use Rattle.rl_report.specs.declared.block.Head.{Head}
use Rattle.rl_report.specs.declared.block.Head.TheVariants.{Up, Down, Lost, Plain}
use Rattle.rl_report.specs.declared.block.Block.{Block}
use Rattle.rl_report.specs.declared.middle.Middle.{Middle}
use Rattle.rl_report.specs.declared.middle.Middle.TheVariants.{Locked, Changed, DeniedPromised, DeniedBallot, DeniedOrder, NoMessage, Opened, Shown}
use Rattle.rl_report.specs.declared.report.Title.{Title}
use Rattle.rl_report.specs.declared.report.Title.TheVariants.{Serial, Steps, Sim, Live}
use Rattle.rl_report.specs.declared.report.Report.{Report}

-- how a transaction ended
abbrev pub end_words : End → Line
end_words Done = codes "done" ∷ []
end_words (Declined op) = codes "declined" ∷ decimal op ∷ []

-- an item: its stamp, its worker and index, how it ended, and its outputs
abbrev pub item_words : ItemLine → Line
item_words x =
    codes "item" ∷ decimal x.stamp.epoch ∷ decimal x.stamp.seq ∷ decimal x.worker ∷ decimal x.index
    ∷ end_words x.reply.end ++ map decimal x.reply.outs

-- a row: its table, its key and its columns
abbrev pub row_words : RowLine → Line
row_words x = codes "row" ∷ x.table ∷ decimal x.key ∷ map decimal x.row

-- a stream at a node
abbrev pub stream_words : StreamLine → Line
stream_words x =
    codes "stream" ∷ decimal x.stream ∷ codes "ballot" ∷ decimal x.ballot ∷ codes "len" ∷ decimal x.len
    ∷ codes "known" ∷ decimal x.known ∷ []

-- the role of a node
abbrev pub role_words : RoleLine → Line
role_words Follower = codes "follower" ∷ []
role_words (Candidate epoch have need) = codes "candidate" ∷ decimal epoch ∷ decimal have ∷ decimal need ∷ []
role_words (Opening epoch) = codes "leader" ∷ decimal epoch ∷ codes "opening" ∷ []
role_words (Leading epoch) = codes "leader" ∷ decimal epoch ∷ codes "open" ∷ []

-- whether a replica has come to the watermark
abbrev pub at_word : Bool → List ℕ
at_word true = codes "at"
at_word false = codes "behind"

-- the state of a node
abbrev pub head_words : Head → Line
head_words (Up promised role watermark at) =
    codes "up" ∷ codes "promised" ∷ decimal promised ∷ role_words role
    ++ codes "watermark" ∷ decimal watermark.0 ∷ decimal watermark.1 ∷ at_word at ∷ []
head_words (Down promised) = codes "down" ∷ codes "promised" ∷ decimal promised ∷ []
head_words Lost = codes "lost" ∷ []
head_words Plain = []

-- a node: its line, its streams, and the rows of its replica
abbrev pub block_lines : Block → List Line
block_lines b =
    (codes "node" ∷ decimal b.node ∷ head_words b.head)
    ∷ map stream_words b.streams ++ map row_words b.rows

-- a message that was refused at a node
abbrev pub denied_words : (number node : ℕ) → Line → Line
denied_words number node why = codes "denied" ∷ decimal number ∷ decimal node ∷ why

-- what became of an event
abbrev pub middle_lines : Middle → List Line
middle_lines (Locked e w i t k word) =
    (codes "refused" ∷ decimal e ∷ decimal w ∷ decimal i ∷ codes "locked" ∷ t ∷ decimal k ∷ decimal word ∷ []) ∷ []
middle_lines (Changed e w i t k seen found) =
    (codes "refused" ∷ decimal e ∷ decimal w ∷ decimal i ∷ codes "changed" ∷ t ∷ decimal k ∷ decimal seen ∷ decimal found ∷ []) ∷ []
middle_lines (DeniedPromised m n promised) = denied_words m n (codes "promised" ∷ decimal promised ∷ []) ∷ []
middle_lines (DeniedBallot m n ballot) = denied_words m n (codes "ballot" ∷ decimal ballot ∷ []) ∷ []
middle_lines (DeniedOrder m n len) = denied_words m n (codes "order" ∷ decimal len ∷ []) ∷ []
middle_lines (NoMessage m) = (codes "nomessage" ∷ decimal m ∷ []) ∷ []
middle_lines (Opened e n count) = (codes "opened" ∷ decimal e ∷ decimal n ∷ decimal count ∷ []) ∷ []
middle_lines (Shown block) = block_lines block

-- the command that reports
abbrev pub title_word : Title → List ℕ
title_word Serial = codes "serial"
title_word Steps = codes "steps"
title_word Sim = codes "sim"
title_word Live = codes "live"

-- the tables, in the two forms that have them
abbrev pub table_lines : Title → List RowLine → List Line
table_lines Serial rows = (codes "tables" ∷ []) ∷ map row_words rows
table_lines Steps rows = (codes "tables" ∷ []) ∷ map row_words rows
table_lines _ rows = []

-- all lines: the title, what became of events, the items behind their count, the tables and the nodes
abbrev pub report_lines : Report → List Line
report_lines r =
    (codes "rolis" ∷ title_word r.title ∷ []) ∷ flat_map middle_lines r.middle
    ++ (codes "items" ∷ decimal (length r.items) ∷ []) ∷ map item_words r.items
    ++ table_lines r.title r.tables ++ flat_map block_lines r.blocks

-- the text of a report
abbrev pub printed : Report → List ℕ
printed r = text_of (report_lines r)
