-- What one step adds to a core, and what any turns keep in range.
use Rattle.std.specs.Prelude.{◌≡◌, ℕ, suc, ◌+◌, ◌-◌, ◌*◌, ◌^◌, ◌<◌, ◌≤◌, List, [], ◌∷◌, ◌++◌, length, set, reverse, slice_get, ◌==◌, nat_lt, if◌then◌else◌, Option, Some, None, IfSome, option_to_list, All, Contains}
use Rattle.std.specs.Option.{option_map}
use Rattle.rl_base.specs.declared.limit.TheConstants.{REQUESTS}
use Rattle.rl_txn.specs.Fits.{ItemFits}
use Rattle.rl_txn.specs.declared.item.Item.{Item}
use Rattle.rl_worker.specs.Items.{CoreItem}
use Rattle.rl_worker.specs.Phases.{Phase, Storing}
use Rattle.rl_worker.specs.Acts.{CoreRefusal, Core, phase_of}
use Rattle.rl_worker.specs.Opening.{OpenLeader, item_seen}
use Rattle.rl_worker.specs.Workers.{epoch_of, with_item, stamp_made}
use Rattle.rl_worker.specs.Told.{refused}
use Rattle.rl_worker.specs.declared.act.Moved.{Moved}
use Rattle.rl_worker.specs.declared.worker.Worker.{Worker}

-- ---- one step ----
-- a step of worker w: it changes no other worker, draws at most one stamp, and adds an item or none to what is decided
-- and made, an item or none to what has ended, and a refusal or none
pub record IsOneStep (w : ℕ) (c c' : Core) : Type 0 where
  pub workers : c'.workers ≡ set c.workers w (phase_of c' w)
  pub item : Option CoreItem
  pub decided : c'.decided ≡ with_item item c.decided
  pub made : c'.made ≡ option_to_list (option_map stamp_made item) ++ c.made
  pub of_item : IfSome item (λ x. x.worker ≡ w)
  pub over : Option CoreItem
  pub ended : c'.ended ≡ option_to_list over ++ c.ended
  pub refusal : Option CoreRefusal
  pub refusals : c'.refusals ≡ option_to_list refusal ++ c.refusals
  pub of_refusal : IfSome refusal (λ f. f.worker ≡ w)
  pub next_low : c.next ≤ c'.next
  pub next_high : c'.next ≤ suc c.next

-- the item that ended between two cores, if one did
abbrev pub newly_ended : (before after : Core) → Option CoreItem
newly_ended before after = if nat_lt (length before.ended) (length after.ended) then slice_get after.ended 0 else None

-- the attempt that was refused between two cores, if one was
abbrev pub newly_refused : (before after : Core) → Option CoreRefusal
newly_refused before after =
    if nat_lt (length before.refusals) (length after.refusals) then slice_get after.refusals 0 else None

-- what ended and was refused in a step of the core is what the code tells, as it is seen and told
pub record TellsNews (w : Worker) (told : Moved) (before after : Core) : Type 0 where
  pub ended : told.ended ≡ option_map (item_seen (epoch_of w)) (newly_ended before after)
  pub refused : told.refused ≡ option_map refused (newly_refused before after)

-- ---- any turns ----
-- a worker that is there made a stamp from one on, below another
pub record MadeBetween (workers low high : ℕ) (made : ℕ × ℕ) : Type 0 where
  pub first : 1 ≤ made.0
  pub there : made.0 ≤ workers
  pub above : low ≤ made.1
  pub below : made.1 < high

-- the next stamp is from the first of the epoch up to the end mark's, and past the first by no more than the turns; what was
-- made lies between; and what is decided was made
pub record IsInRange (l : OpenLeader) (turns : ℕ) (c : Core) : Type 0 where
  pub low : l.epoch * 2 ^ 40 + 2 ≤ c.next
  pub high : c.next ≤ l.epoch * 2 ^ 40 + (2 ^ 40 - 1)
  pub few : c.next ≤ l.epoch * 2 ^ 40 + 2 + turns
  pub made : All (MadeBetween (length l.firsts) (l.epoch * 2 ^ 40 + 2) c.next) c.made
  pub decided : All (λ x. Contains c.made (stamp_made x)) c.decided

-- an item as it is seen: of the epoch, with a seq between the marks' and a worker and an index that are there, and it fits its
-- request
pub record SeenInRange (l : OpenLeader) (item : Item) : Type 0 where
  pub epoch : item.stamp.epoch ≡ l.epoch
  pub seq_low : 2 ≤ item.stamp.seq
  pub seq_high : item.stamp.seq ≤ 2 ^ 40 - 2
  pub worker_low : 1 ≤ item.worker
  pub worker_high : item.worker ≤ length l.firsts
  pub index_low : 1 ≤ item.index
  pub index_high : item.index ≤ REQUESTS
  pub fits : ItemFits l.tables l.lists item

-- the items of one worker
abbrev pub items_by : (w : ℕ) → List CoreItem → List CoreItem
items_by w [] = []
items_by w (x ∷ xs) = if x.worker == w then x ∷ items_by w xs else items_by w xs

-- the item that a worker installs: decided, and not ended yet
abbrev pub installing : Phase → Option CoreItem
installing (Storing item j todo) = Some item
installing p = None

-- the items of a worker that have ended, in their order
abbrev pub ended_by : (w : ℕ) → Core → List CoreItem
ended_by w c = reverse (items_by w c.ended)
