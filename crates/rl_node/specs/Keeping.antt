-- What a leader keeps of each of its streams, before it opens and after.
use Rattle.std.specs.Prelude.{◌≡◌, ◌⊎◌, ℕ, ◌<◌, List, [], ◌++◌, map, true, option_to_list, All, Contains}
use Rattle.rl_base.specs.declared.stamp.Stamp.{Stamp}
use Rattle.rl_base.specs.Stamps.{packed}
use Rattle.rl_families.specs.Logs.{stamps_along, items_along, IsRising}
use Rattle.rl_paxos.specs.Logs.{Log}
use Rattle.rl_txn.specs.declared.item.Item.{Item}
use Rattle.rl_worker.specs.Acts.{Core, phase_of, is_done}
use Rattle.rl_worker.specs.Laws.{stamps_by}
use Rattle.rl_worker.specs.OneTurn.{SeenInRange}
use Rattle.rl_worker.specs.Opening.{OpenLeader, setting_of}
use Rattle.rl_worker.specs.Workers.{decided_item}
use Rattle.rl_worker.specs.declared.worker.Worker.{Worker}
use Rattle.rl_nodes.specs.Batches.{batches_of, END_SEQ}

-- the stamps along a log of bytes, and behind them those of some items
abbrev pub stamps_with : Log → List Item → List Stamp
stamps_with log items = stamps_along (batches_of log) ++ map (λ (x : Item). x.stamp) items

-- ---- before it opens ----

-- a stamp of an earlier epoch, or that of the open mark
abbrev pub IsEarly : (e : ℕ) → Stamp → Type 0
IsEarly e t = (t.epoch < e) ⊎ ((t.epoch ≡ e) × (t.seq ≡ 1))

-- a log in which an epoch has begun and nothing more: the stamps are early, and each item is of an earlier epoch
pub record HasBegun (e : ℕ) (log : Log) : Type 0 where
  pub stamps : All (IsEarly e) (stamps_along (batches_of log))
  pub items : All (λ (x : Item). x.stamp.epoch < e) (items_along (batches_of log))

-- ---- once it has opened ----

-- the items of a worker that are decided and not proposed: those that are pending, and the one that it installs
abbrev pub unproposed : List Item → Worker → List Item
unproposed pending x = pending ++ option_to_list (decided_item x)

-- worker w made the stamp, or it is that of the end mark
abbrev pub IsMade : (e w : ℕ) → Core → Stamp → Type 0
IsMade e w core t = (t.epoch ≡ e) × ((t.seq ≡ END_SEQ) ⊎ Contains (stamps_by w core.made) (packed t))

-- a stream of a leader, where worker w of the code is x: the stamps along the log and of what is decided and not proposed rise, and are
-- early or made; and behind the end mark the worker is done
pub record KeepsStream (l : OpenLeader) (w : ℕ) (log : Log) (pending : List Item) (x : Worker) (core : Core) : Type 0 where
  pub fit : All (SeenInRange l) (unproposed pending x)
  pub own : All (λ (i : Item). i.worker ≡ w) (unproposed pending x)
  pub rising : IsRising (stamps_with log (unproposed pending x))
  pub made : All (λ t. IsEarly l.epoch t ⊎ IsMade l.epoch w core t) (stamps_with log (unproposed pending x))
  pub over : Contains (stamps_along (batches_of log)) (record { epoch = l.epoch; seq = END_SEQ })
      → (is_done (setting_of l.tables l.lists l.epoch) w (phase_of core w) ≡ true) × (pending ≡ [])
