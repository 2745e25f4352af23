-- A replica: it goes over the known prefixes of the streams in any order, applies what counts, and
-- lets the newer stamp win on each key (Rolis).
use Rattle.std.specs.Prelude.{◌≡◌, ◌≢◌, ℕ, ◌+◌, ◌-◌, List, [], ◌∷◌, ◌++◌, Bool, true, not, ◌&&◌, ◌==◌, nat_le, if◌then◌else◌, filter, take, slice_index, slice_set, AllPairs, All, Any, Contains, Option, option_to_list, option_and_then}
use Rattle.std.specs.List.{list_any}
use Rattle.std.specs.Option.{option_map_or}
use Rattle.rl_base.specs.declared.stamp.Stamp.{Stamp}
use Rattle.rl_base.specs.declared.bound.Bound.{Bound}
use Rattle.rl_base.specs.declared.bound.Bound.TheVariants.{Final, Rising, Beyond}
use Rattle.rl_value.specs.Rows.{Rows}
use Rattle.rl_txn.specs.declared.item.Item.{Item}
use Rattle.rl_txn.specs.declared.write.Write.{Write}
use Rattle.rl_txn.specs.declared.batch.Batch.{Batch}
use Rattle.rl_txn.specs.Serial.{rows_after, after_writes}
use Rattle.rl_base.specs.Order.{is_below}
use Rattle.rl_families.specs.Order.{in_order}
use Rattle.rl_replay.specs.Entries.{Entry, entry_at}
use Rattle.rl_replay.specs.declared.played.Played.{Played}
use Rattle.rl_replay.specs.declared.played.Played.TheVariants.{Applied, Passed, Above, Empty}

-- a replica: the items that it has applied, how many entries of each stream it has played, its
-- rows, and whether it was ever out of memory
pub record Replaying : Type 0 where
  pub applied : List Item
  pub played : List ℕ
  pub rows : Rows
  pub failed : Bool

-- the entry that is next on a stream, in a prefix of its log that is known; streams are numbered
-- from 1
abbrev pub next_entry : Replaying → (s : ℕ) → (known : List Batch) → Option Entry
next_entry r s known = entry_at known (slice_index r.played (s - 1))

-- what becomes of an item: one of a settled epoch counts up to that epoch's bound, one of the epoch
-- of the watermark up to the watermark, and a later one does not count yet
abbrev pub item_answer : Stamp → Bound → (watermark : ℕ) → Played
item_answer s (Final seq) w = if nat_le s.seq seq then Applied s else Passed s
item_answer s (Rising seq) w = if nat_le s.seq w then Applied s else Above s w
item_answer s Beyond w = Above s w

-- what becomes of an entry: every mark is skipped
abbrev pub entry_answer : Entry → Bound → (watermark : ℕ) → Played
entry_answer e bound w = option_map_or (λ x. item_answer e.stamp bound w) e.item (Passed e.stamp)

-- what becomes of the next entry, if there is one
abbrev pub play_answer : (next : Option Entry) → Bound → (watermark : ℕ) → Played
play_answer next bound w = option_map_or (λ e. entry_answer e bound w) next Empty

-- the item of an entry, if it is one
abbrev pub item_in : Option Entry → Option Item
item_in next = option_and_then (λ e. e.item) next

-- the items that an answer adds
abbrev pub items_added : Played → (next : Option Entry) → List Item
items_added (Applied s) next = option_to_list (item_in next)
items_added _ next = []

-- the entries that an answer leaves behind
abbrev pub entries_played : Played → ℕ
entries_played (Applied s) = 1
entries_played (Passed s) = 1
entries_played _ = 0

-- a write is at a place: a table and a key
abbrev pub is_at : ℕ × ℕ → Write → Bool
is_at q w = (q.0 == w.table) && (q.1 == w.key)

-- an item writes at a place
abbrev pub writes_at : ℕ × ℕ → Item → Bool
writes_at q x = list_any (is_at q) x.writes

-- an item with a greater stamp has written there
abbrev pub is_overwritten : List Item → Stamp → ℕ × ℕ → Bool
is_overwritten applied s q = list_any (λ y. is_below s y.stamp && writes_at q y) applied

-- the writes of an item that are newest on their keys
abbrev pub newest_writes : List Item → Item → List Write
newest_writes applied x =
    filter (λ w. not (is_overwritten applied x.stamp (w.table, w.key))) x.writes

-- the writes that an answer makes
abbrev pub writes_made : (applied added : List Item) → List Write
writes_made applied [] = []
writes_made applied (x ∷ xs) = newest_writes applied x

-- the replica after an answer
abbrev pub after_answer : Replaying → (s : ℕ) → Option Entry → Played → Replaying
after_answer r s next p = record {
  applied = r.applied ++ items_added p next;
  played = slice_set r.played (s - 1) (slice_index r.played (s - 1) + entries_played p);
  rows = after_writes r.rows (writes_made r.applied (items_added p next));
  failed = r.failed;
}

-- no two items have one stamp
abbrev pub AreDistinct : List Item → Type 0
AreDistinct xs = AllPairs (λ x y. x.stamp ≢ y.stamp) xs

-- the rows are what the applied items leave of the opening rows, in the order of their stamps
abbrev pub IsReplay : Rows → Replaying → Type 0
IsReplay opening r = AreDistinct r.applied → r.rows ≡ rows_after opening (in_order r.applied)

-- out of memory: a prefix of the writes that the answer would have made is made, and nothing else
-- has changed
pub record HasFailed (p : Played) (next : Option Entry) (old new : Replaying) : Type 0 where
  pub failed : new.failed ≡ true
  pub applied : new.applied ≡ old.applied
  pub played : new.played ≡ old.played
  pub prefix : (n : ℕ)
      × (new.rows ≡ after_writes old.rows (take n (writes_made old.applied (items_added p next))))

-- some item has this stamp
abbrev pub HasStamp : List Item → Stamp → Type 0
HasStamp xs s = Any (λ x. (x.stamp.epoch ≡ s.epoch) × (x.stamp.seq ≡ s.seq)) xs

-- each item of one list has the stamp of an item of the other, both ways
abbrev pub HaveSameStamps : List Item → List Item → Type 0
HaveSameStamps xs ys = All (λ y. HasStamp xs y.stamp) ys × All (λ x. HasStamp ys x.stamp) xs

-- both lists have the same items
abbrev pub IsSameSet : List Item → List Item → Type 0
IsSameSet xs ys =
    ((x : Item) → Contains xs x → Contains ys x) × ((x : Item) → Contains ys x → Contains xs x)

-- no two different items of both lists have one stamp
abbrev pub StampsIdentify : List Item → List Item → Type 0
StampsIdentify xs ys = (x y : Item) → Contains xs x → Contains ys y → x.stamp ≡ y.stamp → x ≡ y
