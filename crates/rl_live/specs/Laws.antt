-- What is true of all that the workers of one epoch have decided.
use Rattle.std.specs.Prelude.{◌≡◌, ℕ, List, [], ◌∷◌, map}
use Rattle.rl_value.specs.Rows.{Rows}
use Rattle.rl_value.specs.Tables.{Table}
use Rattle.rl_txn.specs.Serial.{Runs}
use Rattle.rl_txn.specs.declared.batch.Batch.{Batch}
use Rattle.rl_txn.specs.declared.item.Item.{Item}
use Rattle.rl_txn.specs.declared.op.Op.{Op}
use Rattle.rl_families.specs.Logs.{IsRising}
use Rattle.rl_script.specs.declared.script.Script.{Script}
use Rattle.rl_store.specs.declared.view.View.{View}
use Rattle.rl_store.specs.Ends.{EndsAfter}
use Rattle.rl_store.specs.Entries.{RowOf}
use Rattle.rl_store.specs.Opening.{Made, opening_of}
use Rattle.rl_store.specs.Views.{IsAtRest}
use Rattle.rl_live.specs.Decided.{OpensWithRows, AreItemsOf, IsStoreAfter}
use Rattle.rl_live.specs.Ended.{HaveEnded, HasServed}
use Rattle.rl_live.specs.Run.{RunOk}
use Rattle.rl_live.specs.declared.run.LiveRun.{LiveRun}

-- a store that was closed with a pass at rest which has all items, and the items by rising stamp
pub record IsClosedWith (tables : List Table) (lists : List (List (List Op))) (rows : Rows) (items : List Item) : Type 0 where
  pub made : Made
  pub view : View
  pub words : List ℕ
  pub closed : List RowOf
  pub opens : OpensWithRows tables rows made
  pub rest : IsAtRest view
  pub ends : EndsAfter (opening_of made) view words closed
  pub rising : IsRising (map (λ x. x.stamp) items)
  pub are : AreItemsOf tables lists items view.items

-- each item is what its request does on the rows after the items before it, and the store ends as after all of them
abbrev pub DecidedItemsAreSerial : Type 0
DecidedItemsAreSerial = (tables : List Table) (lists : List (List (List Op))) (rows : Rows) (items : List Item)
    → (c : IsClosedWith tables lists rows items)
    → Runs tables lists rows items × IsStoreAfter tables rows c.made items c.words c.closed

-- where all workers of an epoch have ended, the history of their logs serves all requests
abbrev pub EndedWorkersHaveServed : Type 0
EndedWorkersHaveServed = (tables : List Table) (lists : List (List (List Op))) (rows : Rows) (epoch : ℕ) (family : List (List Batch))
    → (e : HaveEnded tables lists rows epoch family) → HasServed tables lists rows epoch family e

-- some script has a run that is right, with an item
pub record SomeRunIsRight : Type 0 where
  pub script : Script
  pub run : LiveRun
  pub item : Item
  pub items : run.items ≡ item ∷ []
  pub right : RunOk script run
