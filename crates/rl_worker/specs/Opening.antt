-- The core of an open leader: real tables, request lists and rows.
use Rattle.std.specs.Prelude.{ℕ, zero, suc, ◌+◌, ◌-◌, ◌*◌, ◌^◌, ◌<◌, List, [], ◌∷◌, map, sum, slice_index, Option, None, is_some}
use Rattle.std.specs.Option.{option_map_or}
use Rattle.std.specs.List.{range_with_len}
use Rattle.std.specs.FinMap as finite
use Rattle.rl_base.specs.declared.stamp.Stamp.{Stamp}
use Rattle.rl_value.specs.Cells.{cells_of, row_of}
use Rattle.rl_value.specs.Fits.{RowsFit}
use Rattle.rl_value.specs.Rows.{Rows}
use Rattle.rl_value.specs.Tables.{Table, IsSchema, columns_of}
use Rattle.rl_tables.specs.Numbers.{sizes_of, record_of, place_of}
use Rattle.rl_txn.specs.Fits.{ListsFit}
use Rattle.rl_txn.specs.Run.{Overlay, run}
use Rattle.rl_txn.specs.Eval.{rows_of, wants}
use Rattle.rl_txn.specs.Serial.{request}
use Rattle.rl_txn.specs.declared.op.Op.{Op}
use Rattle.rl_txn.specs.declared.eval.Wants as eval
use Rattle.rl_txn.specs.declared.eval.Wants.TheVariants.{Read as WantsRead, Ended as WantsEnded}
use Rattle.rl_txn.specs.declared.write.Write.{Write}
use Rattle.rl_txn.specs.declared.item.Item.{Item}
use Rattle.rl_worker.specs.Phases.{Read, Install, Rec, Outcome, Wants, Ends, Phase, Rest, Setting}
use Rattle.rl_worker.specs.Items.{CoreItem}
use Rattle.rl_worker.specs.Acts.{Core, Turn, opening_core, after_turns}

-- the rows that were read, by place
abbrev pub overlay_of : List Table → List Read → Overlay
overlay_of tables [] = finite.empty
overlay_of tables (x ∷ xs) = finite.insert (overlay_of tables xs) (place_of (sizes_of tables) x.rec) (row_of x.row)

-- a write as it is installed in its record
abbrev pub install_of : List Table → Write → Install
install_of tables w =
    record { rec = record_of (sizes_of tables) w.table w.key; row = cells_of (columns_of tables w.table) w.row }

-- what a transaction does next that has these reads: it wants a record, or it ends by its run on the rows read
abbrev pub outcome_of : List Table → List Op → List Read → eval.Wants → Outcome
outcome_of tables txn reads (WantsRead t k) = Wants (record_of (sizes_of tables) t k)
outcome_of tables txn reads (WantsEnded end) =
    let answer = run tables txn (rows_of (overlay_of tables reads)) in
    Ends answer (map (install_of tables) answer.1)

-- what a transaction does next, given the records that it has read
abbrev pub outcome : List Table → List Op → List Read → Outcome
outcome tables txn reads = outcome_of tables txn reads (wants tables txn (overlay_of tables reads))

-- a worker begins no request that is not there; such a one would never end
abbrev pub asks : List Table → List (List (List Op)) → (w q : ℕ) → List Read → Outcome
asks tables lists w q reads = option_map_or (λ txn. outcome tables txn reads) (request lists w q) (Wants 0)

-- a record as it opens: the stamp of its last write, or 0, and its row
abbrev pub opening_rec : List Table → Rows → (stamps : List ℕ) → (r : ℕ) → Rec
opening_rec tables rows stamps r =
    let place = place_of (sizes_of tables) r in
    let cells = cells_of (columns_of tables place.0) (finite.get rows place) in
    record { stamp = slice_index stamps r; holder = None; cells = cells }

-- the records as they open
abbrev pub opening_recs : List Table → Rows → (stamps : List ℕ) → List Rec
opening_recs tables rows stamps = map (opening_rec tables rows stamps) (range_with_len 0 (sum (sizes_of tables)))

-- the first stamp of an epoch that is drawn is that of seq 2, and the last that of 2^40 - 2
abbrev pub setting_of : List Table → List (List (List Op)) → (epoch : ℕ) → Setting
setting_of tables lists epoch = record {
  there = λ w q. is_some (request lists w q);
  ask = asks tables lists;
  base = epoch * 2 ^ 40 + 2;
  last = epoch * 2 ^ 40 + (2 ^ 40 - 1);
}

-- the index that a worker begins with. Workers are counted from 1: nobody is at place 0
abbrev pub first_of : (firsts : List ℕ) → (w : ℕ) → ℕ
first_of firsts zero = 0
first_of firsts (suc w) = slice_index firsts w

-- the workers at rest, each before the request that it begins with
abbrev pub at_rest : (firsts : List ℕ) → List Phase
at_rest firsts = Rest 0 ∷ map Rest firsts

-- a leader as it opens: tables and request lists, the rows and each record's stamp, the epoch, and the index that
-- each worker begins with
pub record OpenLeader : Type 0 where
  pub tables : List Table
  pub lists : List (List (List Op))
  pub rows : Rows
  pub stamps : List ℕ
  pub epoch : ℕ
  pub firsts : List ℕ

-- the core of a leader after some steps and idle draws of its workers
abbrev pub core_after : OpenLeader → List Turn → Core
core_after l turns =
    let setting = setting_of l.tables l.lists l.epoch in
    after_turns setting (opening_core setting (opening_recs l.tables l.rows l.stamps) (at_rest l.firsts)) turns

-- an item of the core as the layers above see it
abbrev pub item_seen : (epoch : ℕ) → CoreItem → Item
item_seen epoch x =
    let stamp : Stamp = record { epoch = epoch; seq = x.stamp - epoch * 2 ^ 40 } in
    record { stamp = stamp; worker = x.worker; index = x.index; reply = x.answer.0; writes = x.answer.1 }

-- items of the core as the layers above see them
abbrev pub items_seen : (epoch : ℕ) → List CoreItem → List Item
items_seen epoch xs = map (item_seen epoch) xs

-- what a core may open with: the stamps are of earlier epochs, or 0
pub record CoreFits (l : OpenLeader) : Type 0 where
  pub schema : IsSchema l.tables
  pub lists_fit : ListsFit l.tables l.lists
  pub rows_fit : RowsFit l.tables l.rows
  pub earlier : (r : ℕ) → slice_index l.stamps r < l.epoch * 2 ^ 40
