-- Scripts and their reports as values, for the worked examples.
use Rattle.std.proofs.Common.{◌≡◌, ℕ, List, [], ◌∷◌, map, Bool, false, Result, Ok, Option, Some, refl, codes, ap, sym, ◌∙◌}
use Rattle.std.specs.FinMap as finite
use Rattle.std.specs.FinMap.Entries as list
use Rattle.rl_base.specs.Results.{◌>>=◌}
use Rattle.rl_base.specs.declared.limit.LimitName.{LimitName}
use Rattle.rl_base.specs.declared.stamp.Stamp.{Stamp}
use Rattle.rl_value.specs.Rows.{Rows, place_cmp}
use Rattle.rl_value.proofs.PlacesLemmas.{places_total}
use Rattle.rl_value.specs.Tables.{Table}
use Rattle.rl_txn.specs.Eval.{rows_from}
use Rattle.rl_txn.specs.declared.op.Op.{Op}
use Rattle.rl_txn.specs.declared.item.Item.{Item}
use Rattle.rl_txn.specs.declared.write.End.TheVariants.{Done, Declined}
use Rattle.rl_txn.specs.declared.write.Reply.{Reply}
use Rattle.rl_events.specs.declared.event.Event.{Event}
use Rattle.rl_nodes.proofs.Listed.{Written, no_length, work_listed, program_of, work_same}
use Rattle.rl_nodes.specs.declared.view.State.TheVariants.{Up, Down, Lost}
use Rattle.rl_nodes.specs.declared.view.Role.{Role}
use Rattle.rl_nodes.specs.declared.view.Role.TheVariants.{Follower}
use Rattle.rl_nodes.specs.declared.view.StreamView.{StreamView}
use Rattle.rl_nodes.specs.Events.{world_after}
use Rattle.rl_nodes.specs.Reports.{report_of}
use Rattle.rl_nodes.specs.Setups.{Setup, new_setup}
use Rattle.rl_nodes.specs.World.{World, Line, Block}

-- ---- rows ----

-- the rows at some places
abbrev pub Present : Type 0
Present = List ((ℕ × ℕ) × List ℕ)

-- as entries of a program
abbrev entries_of : Present → Written
entries_of rows = map {B = (ℕ × ℕ) × Option (List ℕ)} (λ x. (x.0, Some x.1)) rows

-- some rows in the order of their places
abbrev in_place : Present → Present
in_place [] = []
in_place (x ∷ xs) = list.put place_cmp x.0 x.1 (in_place xs)

-- the same after some writes, one after another
abbrev put_all : Present → Present → Present
put_all rows [] = rows
put_all rows (w ∷ ws) = put_all (list.put place_cmp w.0 w.1 rows) ws

-- some rows as a finite map, after some writes
abbrev insert_all : Rows → Present → Rows
insert_all rows [] = rows
insert_all rows (w ∷ ws) = insert_all (finite.insert rows w.0 w.1) ws

no_rows : finite.entries (finite.empty {K = ℕ × ℕ} {X = List ℕ} {R = place_cmp}) ≡ []
no_rows = no_length _ (sym (finite.len-entries (finite.empty {K = ℕ × ℕ} {X = List ℕ} {R = place_cmp})) ∙ finite.len-empty place_cmp (List ℕ))

rows_in_place : (rows : Present) → finite.entries (rows_from (entries_of rows)) ≡ in_place rows
rows_in_place [] = no_rows
rows_in_place (x ∷ xs) =
    finite.entries-insert places_total (rows_from (entries_of xs)) x.0 x.1 ∙ ap (list.put place_cmp x.0 x.1) (rows_in_place xs)

all_put : (rows : Rows) (ws : Present) → finite.entries (insert_all rows ws) ≡ put_all (finite.entries rows) ws
all_put rows [] = refl
all_put rows (w ∷ ws) =
    all_put (finite.insert rows w.0 w.1) ws ∙ ap (λ es. put_all es ws) (finite.entries-insert places_total rows w.0 w.1)

-- ---- scripts ----

-- a script without its events: nodes, the sizes of both quorums, workers, items a batch, the sizes and columns of the tables, opening rows, and lists
pub record Script : Type 0 where
  pub nodes : ℕ
  pub quorums : ℕ × ℕ
  pub workers : ℕ
  pub batch : ℕ
  pub tables : List (ℕ × ℕ)
  pub rows : Present
  pub lists : List (List (List Op))

-- tables of some sizes and columns
abbrev pub tables_from : List (ℕ × ℕ) → List Table
tables_from xs = map (λ x. record { name = codes "t"; size = x.0; columns = x.1 }) xs

-- the setup of a script
abbrev pub setup_of : Script → Setup
setup_of s =
    record (new_setup s.nodes s.workers s.batch (program_of (tables_from s.tables) (entries_of s.rows) s.lists)) {
      first_quorum = s.quorums.0;
      second_quorum = s.quorums.1;
    }

-- the same where its work computes
abbrev pub listed_setup : Script → Setup
listed_setup s = record (setup_of s) { work = work_listed (tables_from s.tables) (entries_of s.rows) s.lists }

same_setup : (s : Script) → listed_setup s ≡ setup_of s
same_setup s = λ i. record (setup_of s) { work = work_same (tables_from s.tables) (entries_of s.rows) s.lists i }

-- ---- reports ----

-- an item without its writes, as a report has it
pub record ItemLine : Type 0 where
  pub stamp : Stamp
  pub worker : ℕ
  pub index : ℕ
  pub reply : Reply

-- the line of an item
abbrev pub item_line : Item → ItemLine
item_line x = record { stamp = x.stamp; worker = x.worker; index = x.index; reply = x.reply }

-- `item E S W I done OUTS`
abbrev pub done : (e s w i : ℕ) → List ℕ → ItemLine
done e s w i outs =
    record { stamp = record { epoch = e; seq = s }; worker = w; index = i; reply = record { outs = outs; end = Done } }

-- `item E S W I declined OP OUTS`
abbrev pub declined : (e s w i op : ℕ) → List ℕ → ItemLine
declined e s w i op outs = record {
  stamp = record { epoch = e; seq = s };
  worker = w;
  index = i;
  reply = record { outs = outs; end = Declined op };
}

-- `ballot B len L known K` of a stream
abbrev pub stream : (ballot len known : ℕ) → StreamView
stream ballot len known = record { ballot = ballot; len = len; known = known }

-- the block of a node that is up, with its rows
abbrev pub up : (node promised : ℕ) → Role → ℕ × ℕ → Bool → List StreamView → List ((ℕ × ℕ) × List ℕ) → Block
up node promised role watermark at streams rows = record {
  node = node;
  view = record { state = Up; promised = promised; role = role; watermark = watermark; at = at; streams = streams };
  rows = rows;
}

-- the block of a node that is down
abbrev pub down : (node promised : ℕ) → List StreamView → Block
down node promised streams = record {
  node = node;
  view = record { state = Down; promised = promised; role = Follower; watermark = (0, 0); at = false; streams = streams };
  rows = [];
}

-- the block of a node that is lost
abbrev pub lost : (node : ℕ) → Block
lost node = record {
  node = node;
  view = record { state = Lost; promised = 0; role = Follower; watermark = (0, 0); at = false; streams = [] };
  rows = [];
}

-- a report: the lines before the items, the items, and the blocks of the nodes
pub record Shown : Type 0 where
  pub lines : List Line
  pub items : List ItemLine
  pub blocks : List Block

-- what a run reports, or the limit that it passes
abbrev pub reported_from : Setup → List Event → Result Shown LimitName
reported_from setup events =
    world_after setup events >>= λ (w : World).
    let report = report_of setup w in
    Ok (record { lines = report.lines; items = map item_line report.items; blocks = report.blocks })

-- what a script reports
abbrev pub reported : Script → List Event → Result Shown LimitName
reported s events = reported_from (setup_of s) events

-- a report, and as a function of what some writes leave of the opening rows
abbrev pub shown : List Line → List ItemLine → List Block → Result Shown LimitName
shown lines items blocks = Ok (record { lines = lines; items = items; blocks = blocks })

abbrev pub ByWrites : Type 0
ByWrites = (Present → Present) → Result Shown LimitName

-- the rows that some writes, one after another, leave of the opening rows of a script: as a list, and as a finite map has them
abbrev left : Script → Present → Present
left s ws = put_all (in_place s.rows) ws

abbrev left_in_map : Script → Present → Present
left_in_map s ws = finite.entries (insert_all (rows_from (entries_of s.rows)) ws)

left_same : (s : Script) → left_in_map s ≡ left s
left_same s = λ i ws. (all_put (rows_from (entries_of s.rows)) ws ∙ ap (λ es. put_all es ws) (rows_in_place s.rows)) i

-- a script reports this
abbrev pub Reports : Script → List Event → ByWrites → Type 0
Reports s events report = reported s events ≡ report (left s)

-- it reports what it is computed to report
pub computed : (s : Script) (events : List Event) (report : ByWrites)
    → reported_from (listed_setup s) events ≡ report (left_in_map s) → Reports s events report
computed s events report e =
    ap (λ setup. reported_from setup events) (sym (same_setup s)) ∙ e ∙ ap report (left_same s)
