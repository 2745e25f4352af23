-- What several elections leave true of a run: what an epoch has in its logs, with what epochs open, what their leaders decided, and
-- what is settled.
use Rattle.std.specs.Prelude.{◌≡◌, ℕ, ◌<◌, ◌≤◌, ◌++◌, ◌==◌, nat_le, List, filter, map, All, Contains, Ok}
use Rattle.rl_base.specs.Lists.{IsPrefix}
use Rattle.rl_events.specs.Fits.{EventFits}
use Rattle.rl_events.specs.declared.event.Event.{Event}
use Rattle.rl_election.specs.Chosen.{IsInitialLog, IsLeaderLog, IsChosen}
use Rattle.rl_families.specs.Families.{all_reached}
use Rattle.rl_families.specs.Leaders.{Leaders}
use Rattle.rl_families.specs.LeadersLogs.{EpochPart}
use Rattle.rl_families.specs.Logs.{items_along, top_epoch, last_seq}
use Rattle.rl_paxos.specs.Acceptors.{kept_log}
use Rattle.rl_paxos.specs.Logs as bytes
use Rattle.rl_txn.specs.declared.item.Item.{Item}
use Rattle.rl_nodes.specs.Batches.{batches_of}
use Rattle.rl_nodes.specs.Events.{world_after}
use Rattle.rl_nodes.specs.Safe.{history_of, AreChosen}
use Rattle.rl_nodes.specs.Setups.{cluster_of, node_numbers, stream_numbers}
use Rattle.rl_nodes.specs.Streams.{stream_world}
use Rattle.rl_nodes.specs.World.{World, Opened, Given, node_of}
use Rattle.rl_safe.specs.Led.{HasOpened, IsLed}
use Rattle.rl_safe.specs.Runs.{Run}

-- ---- the logs of a run ----

-- a log on a stream that a node keeps, that the leader of an epoch has or last had, or that is chosen at an epoch
pub data IsLog (run : Run) (s : ℕ) (log : bytes.Log) : Type 0 where
  IsKept : (a : ℕ) → Contains (node_numbers run.setup) a → kept_log (node_of run.setup run.world a).acceptor s ≡ log → IsLog run s log
  IsLeaders : (epoch : ℕ) → IsLeaderLog (stream_world run.setup run.world) epoch s log → IsLog run s log
  IsChosenAt : (epoch : ℕ) → IsChosen (cluster_of run.setup) (stream_world run.setup run.world) epoch s log → IsLog run s log

-- a log of a run
pub record RunLog (run : Run) : Type 0 where
  pub stream : ℕ
  pub log : bytes.Log
  pub in_setup : Contains (stream_numbers run.setup) stream
  pub is : IsLog run stream log

-- the longest chosen log of each stream
pub record ChosenLogs (run : Run) : Type 0 where
  pub log : ℕ → bytes.Log
  pub are : AreChosen run.setup run.world log

-- the log of each stream with which an epoch's leader began
pub record InitialLogs (run : Run) : Type 0 where
  pub epoch : ℕ
  pub log : ℕ → bytes.Log
  pub are : (s : ℕ) → Contains (stream_numbers run.setup) s → IsInitialLog (stream_world run.setup run.world) epoch s (log s)

-- a run that goes on with more events
pub record Stretch : Type 0 where
  pub run : Run
  pub more : List Event
  pub world : World
  pub all_fit : All (EventFits run.setup.nodes run.setup.workers) (run.events ++ more)
  pub ends : world_after run.setup (run.events ++ more) ≡ Ok world

-- the longer run
abbrev pub longer_run : Stretch → Run
longer_run s = record {
  setup = s.run.setup;
  events = s.run.events ++ s.more;
  world = s.world;
  setup_fits = s.run.setup_fits;
  events_fit = s.all_fit;
  ends = s.ends;
}

-- for each run and its leaders
abbrev pub ForLedRuns : ((run : Run) → Leaders → Type 0) → Type 0
ForLedRuns P = (run : Run) (led : IsLed run.setup run.world) → P run led.leaders

-- ---- what an epoch has in a log ----

-- nothing, or its open mark and then a prefix of what its leader proposed on that stream
abbrev pub LogsHaveWhatIsProposed : Type 0
LogsHaveWhatIsProposed = ForLedRuns (λ run l. (x : RunLog run) (epoch : ℕ) → 0 < epoch → EpochPart l epoch x.stream (batches_of x.log))

-- so a log has items of an epoch only where a leader of it has opened
abbrev pub ItemsAreOfOpenedEpochs : Type 0
ItemsAreOfOpenedEpochs = (run : Run) (x : RunLog run) (item : Item) → Contains (items_along (batches_of x.log)) item
    → HasOpened run.world item.stamp.epoch

-- an item that an epoch's leader decided for the worker of a stream, up to the last seq of that epoch in a log of the stream
pub record IsReached (run : Run) (l : Leaders) (x : RunLog run) (item : Item) : Type 0 where
  pub epoch : ℕ
  pub decided : Contains (l.decided epoch) item
  pub worker : item.worker ≡ x.stream
  pub reached : item.stamp.seq ≤ last_seq (batches_of x.log) epoch

-- the log has each such item
abbrev pub LogsHaveAllUpToTheLast : Type 0
LogsHaveAllUpToTheLast =
    ForLedRuns (λ run l. (x : RunLog run) (item : Item) → IsReached run l x item → Contains (items_along (batches_of x.log)) item)

-- ---- opening lists ----

-- an epoch opens with one list: no leader of it opens with another, also later
abbrev pub OpeningListsStand : Type 0
OpeningListsStand = (s : Stretch) (o later : Opened) → Contains s.run.world.openings o → Contains s.world.openings later
    → later.epoch ≡ o.epoch → later.items ≡ o.items

-- what a leader opens with or releases from begins the history of the initial logs of each later epoch
pub record LaterLogsBegin (run : Run) (initial : InitialLogs run) : Type 0 where
  pub opened : (o : Opened) → Contains run.world.openings o → o.epoch < initial.epoch
      → IsPrefix o.items (history_of run.setup initial.log)
  pub released : (g : Given) → Contains run.world.gave g → g.epoch < initial.epoch
      → IsPrefix g.history (history_of run.setup initial.log)

abbrev pub LaterLogsBeginOpeningLists : Type 0
LaterLogsBeginOpeningLists = (run : Run) (initial : InitialLogs run) → LaterLogsBegin run initial

-- ---- what epochs decide ----

-- the items of an epoch
abbrev pub items_of : (epoch : ℕ) → List Item → List Item
items_of epoch items = filter (λ x. x.stamp.epoch == epoch) items

-- the least last seq of an epoch in the chosen logs
abbrev pub least_last : (run : Run) → ChosenLogs run → (epoch : ℕ) → ℕ
least_last run chosen epoch = all_reached (map (λ s. batches_of (chosen.log s)) (stream_numbers run.setup)) epoch

-- the items of an epoch in the history of the chosen logs are all that its leader decided up to the least last seq
abbrev pub EpochsDecide : Type 0
EpochsDecide = ForLedRuns (λ run l. (chosen : ChosenLogs run) (epoch : ℕ)
    → items_of epoch (history_of run.setup chosen.log)
    ≡ filter (λ x. nat_le x.stamp.seq (least_last run chosen epoch)) (l.decided epoch))

-- ---- what is settled ----

-- each chosen log has an entry of a later epoch
abbrev pub IsPast : (run : Run) → ChosenLogs run → (epoch : ℕ) → Type 0
IsPast run chosen epoch = (s : ℕ) → Contains (stream_numbers run.setup) s → epoch < top_epoch (batches_of (chosen.log s))

-- then the history of the chosen logs has the same items of that epoch for good
abbrev pub EpochsSettle : Type 0
EpochsSettle = (s : Stretch) (chosen : ChosenLogs s.run) (later : ChosenLogs (longer_run s)) (epoch : ℕ) → IsPast s.run chosen epoch
    → items_of epoch (history_of s.run.setup later.log) ≡ items_of epoch (history_of s.run.setup chosen.log)

-- and what was released is never cut: it begins the history of the chosen logs at each later moment
abbrev pub ReleasedIsNeverCut : Type 0
ReleasedIsNeverCut = (s : Stretch) (later : ChosenLogs (longer_run s)) → IsPrefix s.run.world.released (history_of s.run.setup later.log)
