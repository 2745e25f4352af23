-- A script with one request, and a run of it that is right.
use Rattle.std.proofs.Common.{◌≡◌, ℕ, zero, suc, ◌+◌, ◌*◌, ◌^◌, ◌<◌, List, [], ◌∷◌, map, All, Ok, Some, None, codes, refl, sym, ap, ◌∙◌, arith, inl, inr}
use Rattle.std.specs.Prelude.{slice_index, slice_index_or}
use Rattle.std.specs.FinMap as finite
use Rattle.rl_base.specs.Words.{without_lock}
use Rattle.rl_base.proofs.Members as members
use Rattle.rl_batch.specs.Encoding.{batch_bytes}
use Rattle.rl_batch.specs.Ranges.{BatchInRange, HasWords, ItemHasWords, ItemInRange, ItemsInRange, WriteHasWords, WriteInRange}
use Rattle.rl_batch.specs.Reading.{read_batch}
use Rattle.rl_batch.proofs.BatchLaws.{reads_back}
use Rattle.rl_families.specs.Families.{history}
use Rattle.rl_families.specs.Leaders.{open_mark}
use Rattle.rl_paxos.specs.Logs as bytes
use Rattle.rl_tables.specs.Numbers.{sizes_of, place_of}
use Rattle.rl_script.specs.declared.script.Script.{Script}
use Rattle.rl_txn.specs.Serial.{rows_after}
use Rattle.rl_txn.specs.declared.batch.Batch.{Batch}
use Rattle.rl_txn.specs.declared.batch.Batch.TheVariants.{Items}
use Rattle.rl_txn.specs.declared.item.Item.{Item}
use Rattle.rl_txn.specs.declared.op.Op.TheVariants.{Put}
use Rattle.rl_txn.specs.declared.op.Operand.TheVariants.{Num}
use Rattle.rl_txn.specs.declared.write.End.TheVariants.{Done}
use Rattle.rl_txn.specs.declared.write.Write.{Write}
use Rattle.rl_value.proofs.PlacesLemmas.{places_total}
use Rattle.rl_value.specs.Rows.{place_cmp}
use Rattle.rl_worker.specs.Stamping.{last_stamp}
use Rattle.rl_live.specs.Ended.{IsWholeLog}
use Rattle.rl_live.specs.Run.{acceptor_at, IsClosedAfter, IsNodeWith, IsReadAs, RunOk}
use Rattle.rl_live.specs.Workers.{IsCommit, end_mark}
use Rattle.rl_live.specs.declared.run.LiveRun.{LiveRun}
use Rattle.rl_live.specs.declared.run.NodeRun.{NodeRun}
use Rattle.rl_live.proofs.Ending.{are_logs, history_is, marked, whole_of}

-- one worker puts 5 at the one key of the one table
abbrev pub script : Script
script = record {
  schema = record { name = codes "t"; size = 1; columns = 1 } ∷ [];
  rows = finite.empty {K = ℕ × ℕ} {X = List ℕ} {R = place_cmp};
  nodes = 1;
  workers = 1;
  batch = 1;
  loss = 0;
  seed = 0;
  stops = [];
  lists = ((Put 0 (Num 0) (Num 5 ∷ []) ∷ []) ∷ []) ∷ [];
  events = [];
}

abbrev put : Write
put = record { table = 0; key = 0; row = Some (5 ∷ []) }

abbrev pub item : Item
item = record {
  stamp = record { epoch = 1; seq = 2 };
  worker = 1;
  index = 1;
  reply = record { outs = []; end = Done };
  writes = put ∷ [];
}

abbrev log : List Batch
log = marked 1 (Items (item ∷ []) ∷ [])

abbrev kept : bytes.Log
kept = map batch_bytes log

abbrev node : NodeRun
node = record { acceptors = acceptor_at 1 kept ∷ []; map = rows_after script.rows (item ∷ []) }

abbrev pub run : LiveRun
run = record {
  items = item ∷ [];
  nodes = node ∷ [];
  closed = record { epoch = 1; words = 2 * (2 ^ 40 + 2) ∷ []; rows = Some (5 ∷ []) ∷ [] };
}

one : {X : Type 0} (P : X → Type 0) (x : X) → P x → All P (x ∷ [])
one P x p zero d l = p
one P x p (suc k) d l = absurd (omega arith)

-- each batch has an encoding
abbrev AreInRange : List Batch → Type 0
AreInRange [] = Unit {0}
AreInRange (b ∷ bs) = BatchInRange b × HasWords b × AreInRange bs

all_read : (bs : List Batch) → AreInRange bs → IsReadAs (map batch_bytes bs) bs
all_read [] h = refl
all_read (b ∷ bs) h = ap (λ z. z ∷ map read_batch (map batch_bytes bs)) (reads_back b h.0 h.1) ∙ ap (λ z. Ok b ∷ z) (all_read bs h.2)

item_in_range : ItemInRange item
item_in_range = record {
  seq_low = omega arith;
  seq_high = omega arith;
  index_low = omega arith;
  index_high = omega arith;
  end = tt;
  outs = omega arith;
  writes = omega arith;
  each_write = one WriteInRange put record { table = omega arith; key = omega arith; some_columns = omega arith; few_columns = omega arith };
  rising = λ i j d l m. absurd (omega arith);
}

item_has_words : ItemHasWords item
item_has_words = record { outs = λ k d l. absurd (omega arith); writes = one WriteHasWords put (one (λ (n : ℕ). n < 2 ^ 64) 5 (omega arith)) }

items_in_range : ItemsInRange (item ∷ [])
items_in_range = record {
  some = omega arith;
  few = omega arith;
  epoch_low = omega arith;
  epoch_high = omega arith;
  worker_low = omega arith;
  worker_high = omega arith;
  one_epoch = one (λ (x : Item). x.stamp.epoch ≡ 1) item refl;
  one_worker = one (λ (x : Item). x.worker ≡ 1) item refl;
  each = one ItemInRange item item_in_range;
  rising = λ i j d l m. absurd (omega arith);
}

first_in_range : BatchInRange (open_mark 1)
first_in_range = record { epoch_low = omega arith; epoch_high = omega arith; seq_low = omega arith; seq_high = omega arith }

last_in_range : BatchInRange (end_mark 1)
last_in_range = record { epoch_low = omega arith; epoch_high = omega arith; seq_low = omega arith; seq_high = omega arith }

in_range : AreInRange log
in_range = (first_in_range, tt, (items_in_range, one ItemHasWords item item_has_words, (last_in_range, tt, tt)))

is_whole : IsWholeLog 1 1 1 log
is_whole = whole_of 1 1 1 (Items (item ∷ []) ∷ []) refl (λ i j d l m. absurd (omega arith))
    (one (IsCommit 1 1) item record { own = refl; dated = refl; low = omega arith; high = omega arith }) refl

is_history : run.items ≡ history (log ∷ [])
is_history = sym (history_is 1 1 script.lists (log ∷ []) (omega arith) (is_whole, tt) small)
  where
    small : (x : Item) → members.In x (item ∷ []) → x.stamp.seq < 2 ^ 40
    small x i = elim i [ inl q ↦ (let e = ap (λ (y : Item). y.stamp.seq) q in omega arith) | inr z ↦ absurd z ]

words_after : (r : ℕ) → r < 1 → without_lock (slice_index run.closed.words r) ≡ 2 * last_stamp (sizes_of script.schema) r 0 run.items
words_after zero l = refl
words_after (suc r) l = absurd (omega arith)

rows_closed : (r : ℕ) → r < 1 → slice_index_or run.closed.rows r None ≡ finite.get (rows_after script.rows run.items) (place_of (sizes_of script.schema) r)
rows_closed zero l = sym (finite.get-insert places_total script.rows (0, 0) (5 ∷ []) (0, 0))
rows_closed (suc r) l = absurd (omega arith)

is_closed : IsClosedAfter script.schema script.rows run.items run.closed
is_closed = record { many_words = refl; many_rows = refl; words = words_after; rows_are = rows_closed }

pub right : RunOk script run
right = record {
  epoch = 1;
  begun = omega arith;
  few = omega arith;
  logs = kept ∷ [];
  family = log ∷ [];
  streams = refl;
  read = (all_read log in_range, tt);
  logs_are = are_logs 1 script.lists (log ∷ []) (is_whole, tt);
  items_are = is_history;
  nodes = refl;
  each_node = one (IsNodeWith 1 (kept ∷ []) (rows_after script.rows run.items)) node record { acceptors = refl; rows_are = refl };
  closed_epoch = refl;
  closed = is_closed;
}
