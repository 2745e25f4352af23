-- What is wrong with a log, batch by batch. No public contract cites it.
use Rattle.std.specs.Prelude.{ℕ, Bool, true, false, not, ◌&&◌, ◌||◌, ◌==◌, nat_lt, List, [], ◌∷◌, Option, Some, None}
use Rattle.std.specs.List.{list_any, list_all}
use Rattle.std.specs.Option.{option_map_or}
use Rattle.rl_base.specs.Order.{is_below}
use Rattle.rl_base.specs.declared.stamp.Stamp.{Stamp}
use Rattle.rl_families.specs.Logs.{stamps_in_batch, items_in_batch}
use Rattle.rl_msg.specs.declared.msg.Msg.{Msg}
use Rattle.rl_msg.specs.declared.msg.Msg.TheVariants.{Accept}
use Rattle.rl_paxos.specs.Logs as bytes
use Rattle.rl_txn.specs.declared.item.Item.{Item}
use Rattle.rl_txn.specs.declared.batch.Batch.{Batch}
use Rattle.rl_value.specs.Tables.{Table}
use Rattle.rl_nodes.specs.BadMessages.{write_fits}
use Rattle.rl_nodes.specs.Batches.{batch_of}

-- each of some stamps is above the one before it
abbrev pub is_chain : (last : Option Stamp) → List Stamp → Bool
is_chain last [] = true
is_chain last (s ∷ ss) = option_map_or (λ l. is_below l s) last true && is_chain (Some s) ss

-- the last of some stamps behind others
abbrev pub last_from : (last : Option Stamp) → List Stamp → Option Stamp
last_from last [] = last
last_from last (s ∷ ss) = last_from (Some s) ss

-- an item is another worker's
abbrev pub is_other : (s : ℕ) → Item → Bool
is_other s x = not (x.worker == s)

-- a stamp is of a later epoch
abbrev pub is_later : (e : ℕ) → Stamp → Bool
is_later e t = nat_lt e t.epoch

-- a write of an item does not fit the tables
abbrev pub is_misfit : List Table → Item → Bool
is_misfit tables x = not (list_all (write_fits tables) x.writes)

-- something is wrong with a batch of stream s behind a stamp
abbrev pub is_wrong_batch : List Table → (s e : ℕ) → (last : Option Stamp) → Batch → Bool
is_wrong_batch tables s e last b =
    list_any (is_other s) (items_in_batch b) || list_any (is_later e) (stamps_in_batch b)
    || not (is_chain last (stamps_in_batch b)) || list_any (is_misfit tables) (items_in_batch b)

-- something is wrong with the rest of a log behind a stamp
abbrev pub is_wrong_behind : List Table → (s e : ℕ) → (last : Option Stamp) → bytes.Log → Bool
is_wrong_behind tables s e last [] = false
is_wrong_behind tables s e last (x ∷ xs) =
    option_map_or (λ b. is_wrong_batch tables s e last b || is_wrong_behind tables s e (last_from last (stamps_in_batch b)) xs)
    (batch_of x) true

-- the batch that a message sends alone, where it sends one and that is a batch
abbrev pub sent_batch : Msg → Option Batch
sent_batch (Accept from to e s slot batch) = batch_of batch
sent_batch other = None
