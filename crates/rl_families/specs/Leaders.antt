-- What the leaders of all epochs have proposed, at one moment. No node and no worker is in it.
use Rattle.std.specs.Prelude.{◌≡◌, ℕ, zero, suc, ◌<◌, ◌≤◌, List, [], ◌∷◌, ◌++◌, nat_le, filter, Contains, map}
use Rattle.rl_base.specs.Lists.{IsPrefix}
use Rattle.rl_base.specs.declared.stamp.Stamp.{Stamp}
use Rattle.rl_txn.specs.declared.item.Item.{Item}
use Rattle.rl_txn.specs.declared.batch.Batch.{Batch}
use Rattle.rl_txn.specs.declared.batch.Batch.TheVariants.{Opened}
use Rattle.rl_families.specs.Logs.{stamps_along, items_along, IsRising, last_seq}
use Rattle.rl_families.specs.Families.{all_reached, history}

-- the logs of streams 1 to n
abbrev pub logs_of_streams : (n : ℕ) → (ℕ → List Batch) → List (List Batch)
logs_of_streams zero log = []
logs_of_streams (suc n) log = logs_of_streams n log ++ log (suc n) ∷ []

-- by epoch and stream: the log that the epoch's leader recovered, what it proposed since, and what
-- is decided but not proposed yet; by epoch: all that is decided, by rising stamp
pub record Leaders : Type 0 where
  pub recovered : (epoch stream : ℕ) → List Batch
  pub proposed : (epoch stream : ℕ) → List Batch
  pub pending : (epoch stream : ℕ) → List Item
  pub decided : (epoch : ℕ) → List Item

-- the mark that opens an epoch
abbrev pub open_mark : (epoch : ℕ) → Batch
open_mark epoch = Opened (record { epoch = epoch; seq = 1 })

module _ (l : Leaders) where
  -- the log with which a leader begins
  abbrev pub initial_log : (epoch stream : ℕ) → List Batch
  initial_log epoch stream = l.recovered epoch stream ++ open_mark epoch ∷ []

  -- and its log now; epoch 0 has no leader
  abbrev pub leader_log : (epoch stream : ℕ) → List Batch
  leader_log zero stream = []
  leader_log (suc epoch) stream =
      l.recovered (suc epoch) stream ++ (open_mark (suc epoch) ∷ l.proposed (suc epoch) stream)

  -- the opening list of an epoch: the history of its initial logs, also before it opens
  abbrev pub opening_list : (n epoch : ℕ) → List Item
  opening_list n epoch = history (logs_of_streams n (initial_log epoch))

  -- the stamps that a stream has or will have in an epoch
  abbrev pub own_stamps : (epoch stream : ℕ) → List Stamp
  own_stamps epoch stream =
      stamps_along (open_mark epoch ∷ l.proposed epoch stream)
      ++ map (λ x. x.stamp) (l.pending epoch stream)

  -- how the leaders of n streams stand to each other
  pub record AreLeaders (n : ℕ) : Type 0 where
    -- what was recovered begins an earlier leader's log
    pub recovers : (e s : ℕ) → 0 < e
        → (before : ℕ) × (before < e) × IsPrefix (l.recovered e s) (leader_log before s)
    -- what a leader proposes and has still to propose is of its epoch, and its stamps rise along each
    -- stream
    pub rising : (e s : ℕ) → IsRising (own_stamps e s)
    pub own : (e s : ℕ) (t : Stamp) → Contains (own_stamps e s) t → t.epoch ≡ e
    -- the items that it proposes are decided ones of the stream's worker
    pub proposes : (e s : ℕ) (x : Item) → Contains (items_along (l.proposed e s)) x
        → Contains (l.decided e) x × (x.worker ≡ s)
    -- each decided item is proposed by its worker's stream, or still to be proposed there
    pub decides : (e : ℕ) (x : Item) → Contains (l.decided e) x
        → (1 ≤ x.worker) × (x.worker ≤ n)
        × Contains (items_along (l.proposed e x.worker) ++ l.pending e x.worker) x
    -- no two decided items of an epoch have one stamp
    pub serial : (e : ℕ) → IsRising (map (λ x. x.stamp) (l.decided e))

  -- each log of a family is a prefix of some leader's log
  abbrev pub ArePrefixesOfLeaders : (n : ℕ) → (log : ℕ → List Batch) → Type 0
  ArePrefixesOfLeaders n log =
      (s : ℕ) → 1 ≤ s → s ≤ n → (epoch : ℕ) × IsPrefix (log s) (leader_log epoch s)

  -- a family's history is an opening list, and then what that epoch's leader decided, as far as all
  -- streams have come in the epoch
  pub record ExtendsOpening (n : ℕ) (log : ℕ → List Batch) : Type 0 where
    pub epoch : ℕ
    pub begun : 0 < epoch
    -- every stream has come to that epoch
    pub common : (s : ℕ) → 1 ≤ s → s ≤ n → 0 < last_seq (log s) epoch
    pub is : history (logs_of_streams n log)
        ≡ opening_list n epoch
        ++ filter (λ x. nat_le x.stamp.seq (all_reached (logs_of_streams n log) epoch))
        (l.decided epoch)
    -- and the opening list is the history of what was recovered
    pub opens : opening_list n epoch ≡ history (logs_of_streams n (l.recovered epoch))
