-- What logs have that are prefixes of leaders' logs.
use Rattle.std.specs.Prelude.{◌≡◌, ◌⊎◌, ℕ, ◌+◌, ◌^◌, ◌<◌, ◌≤◌, List, [], ◌∷◌, ◌++◌, length, map, Contains}
use Rattle.std.specs.List.{range_with_len}
use Rattle.rl_base.specs.Lists.{IsPrefix}
use Rattle.rl_base.specs.declared.stamp.Stamp.{Stamp}
use Rattle.rl_value.specs.Rows.{Rows}
use Rattle.rl_value.specs.Tables.{Table}
use Rattle.rl_txn.specs.declared.op.Op.{Op}
use Rattle.rl_txn.specs.declared.item.Item.{Item}
use Rattle.rl_txn.specs.declared.batch.Batch.{Batch}
use Rattle.rl_txn.specs.Serial.{rows_after, Runs, indexes_of, IsSerial, IsInLists}
use Rattle.rl_families.specs.Logs.{stamps_along, items_along, IsRising}
use Rattle.rl_families.specs.Families.{history}
use Rattle.rl_families.specs.Streams.{IsStamped}
use Rattle.rl_families.specs.Leaders.{Leaders, logs_of_streams, open_mark, opening_list}

-- what an epoch has in a log of a stream: nothing, or its open mark and then a prefix of what its
-- leader proposed; all before is of earlier epochs and all behind of later ones
pub record EpochPart (l : Leaders) (epoch stream : ℕ) (log : List Batch) : Type 0 where
  pub before : List Batch
  pub part : List Batch
  pub later : List Batch
  pub joins : before ++ (part ++ later) ≡ log
  pub below : (t : Stamp) → Contains (stamps_along before) t → t.epoch < epoch
  pub above : (t : Stamp) → Contains (stamps_along later) t → epoch < t.epoch
  pub is : IsPrefix part (open_mark epoch ∷ l.proposed epoch stream)
  -- and where it has something, it stands behind what the leader recovered
  pub behind : (part ≡ []) ⊎ (before ≡ l.recovered epoch stream)

-- what the logs of streams 1 to n have, each a prefix of a leader's log
pub record LogsOfLeaders (l : Leaders) (n : ℕ) (log : ℕ → List Batch) : Type 0 where
  -- stamps rise along each, and no two items have one stamp
  pub stamped : IsStamped (logs_of_streams n log)
  pub rising : IsRising (map (λ x. x.stamp) (history (logs_of_streams n log)))
  -- each item is the stream's worker's, and decided in its epoch
  pub items : (s : ℕ) (x : Item) → 1 ≤ s → s ≤ n → Contains (items_along (log s)) x
      → (x.worker ≡ s) × Contains (l.decided x.stamp.epoch) x
  pub parts : (epoch s : ℕ) → 0 < epoch → 1 ≤ s → s ≤ n → EpochPart l epoch s (log s)

-- each worker's items go on with the request behind those of its items before
abbrev pub FollowOn : (before items : List Item) → Type 0
FollowOn before items = (worker : ℕ) → indexes_of worker items
    ≡ range_with_len (1 + length (indexes_of worker before)) (length (indexes_of worker items))

module _ (tables : List Table) (lists : List (List (List Op))) (opening : Rows) where
  -- what each epoch decided one thread could have run on the rows after its opening list, each
  -- worker's requests in order
  pub record AreSerialLeaders (l : Leaders) (n : ℕ) : Type 0 where
    pub small : (e : ℕ) (x : Item) → Contains (l.decided e) x → x.stamp.seq < 2 ^ 40
    pub runs : (e : ℕ) → 0 < e
        → Runs tables lists (rows_after opening (opening_list l n e)) (l.decided e)
    pub follow : (e : ℕ) → 0 < e → FollowOn (opening_list l n e) (l.decided e)

  -- one thread could have run a history, each worker's requests from its first
  pub record IsSerialHistory (items : List Item) : Type 0 where
    pub serial : IsSerial tables lists opening items
    pub in_lists : IsInLists items
