-- Workers of an epoch that have done all of their requests, and their store as it was closed.
use Rattle.std.specs.Prelude.{◌≡◌, ℕ, suc, ◌^◌, ◌<◌, ◌≤◌, List, [], ◌∷◌, ◌++◌, length, map, All}
use Rattle.std.specs.List.{AllZip, range_with_len}
use Rattle.rl_value.specs.Rows.{Rows}
use Rattle.rl_value.specs.Tables.{Table}
use Rattle.rl_txn.specs.Serial.{IsSerial, IsInLists, IsWhole}
use Rattle.rl_txn.specs.declared.batch.Batch.{Batch}
use Rattle.rl_txn.specs.declared.op.Op.{Op}
use Rattle.rl_families.specs.Families.{history}
use Rattle.rl_families.specs.Leaders.{open_mark}
use Rattle.rl_families.specs.Logs.{stamps_along, items_along, IsRising}
use Rattle.rl_store.specs.declared.view.Item as store
use Rattle.rl_store.specs.declared.view.View.{View}
use Rattle.rl_store.specs.Ends.{EndsAfter}
use Rattle.rl_store.specs.Entries.{RowOf}
use Rattle.rl_store.specs.Opening.{Made, opening_of}
use Rattle.rl_store.specs.Views.{IsAtRest}
use Rattle.rl_live.specs.Decided.{OpensWithRows, AreItemsOf, IsStoreAfter}
use Rattle.rl_live.specs.Reading.{CanReplay}
use Rattle.rl_live.specs.Run.{AreLogsOf, IsCommitStamp}
use Rattle.rl_live.specs.Workers.{end_mark, IsCommit}

-- a log of a worker with all of its requests: it begins with the epoch's open mark and ends with its end mark, and has an
-- item of each request between, in order
pub record IsWholeLog (epoch worker count : ℕ) (log : List Batch) : Type 0 where
  pub rest : List Batch
  pub begins : log ≡ open_mark epoch ∷ rest
  pub front : List Batch
  pub ends : log ≡ front ++ end_mark epoch ∷ []
  pub rising : IsRising (stamps_along log)
  pub epochs : All (λ t. t.epoch ≡ epoch) (stamps_along log)
  pub commits : All (IsCommit epoch worker) (items_along log)
  pub indexes : map (λ x. x.index) (items_along log) ≡ range_with_len 1 count

-- the logs of workers n, n + 1 and so on, each with all requests of its list
abbrev pub WholeLogs : (epoch n : ℕ) → (lists : List (List (List Op))) → (family : List (List Batch)) → Type 0
WholeLogs epoch n [] [] = Unit {0}
WholeLogs epoch n [] (log ∷ logs) = ⊥
WholeLogs epoch n (list ∷ lists) [] = ⊥
WholeLogs epoch n (list ∷ lists) (log ∷ logs) = IsWholeLog epoch n (length list) log × WholeLogs epoch (suc n) lists logs

-- the items of all passes
abbrev pub together : List (List store.Item) → List store.Item
together [] = []
together (k ∷ ks) = k ++ together ks

-- all workers of an epoch have done their lists, the items of each log are those of a pass, and the store was closed with
-- a pass that has the items of all
pub record HaveEnded (tables : List Table) (lists : List (List (List Op))) (rows : Rows) (epoch : ℕ) (family : List (List Batch)) : Type 0 where
  pub made : Made
  pub view : View
  pub words : List ℕ
  pub closed : List RowOf
  pub begun : 1 ≤ epoch
  pub few : epoch < 2 ^ 20
  pub opens : OpensWithRows tables rows made
  pub rest : IsAtRest view
  pub ends : EndsAfter (opening_of made) view words closed
  pub whole : WholeLogs epoch 1 lists family
  pub passes : List (List store.Item)
  pub kept : AllZip (λ log pass. AreItemsOf tables lists (items_along log) pass) family passes
  pub items : view.items ≡ together passes

-- then the history of their logs is what one thread could have made of all requests, and the store ends as after it
pub record HasServed (tables : List Table) (lists : List (List (List Op))) (rows : Rows) (epoch : ℕ) (family : List (List Batch)) (e : HaveEnded tables lists rows epoch family) : Type 0 where
  pub logs : AreLogsOf epoch family
  pub serial : IsSerial tables lists rows (history family)
  pub in_lists : IsInLists (history family)
  pub whole : IsWhole lists (history family)
  pub stamps : All (λ x. IsCommitStamp epoch x.stamp) (history family)
  pub store : IsStoreAfter tables rows e.made (history family) e.words e.closed
  pub replays : CanReplay tables family
