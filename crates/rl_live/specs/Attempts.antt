-- What an attempt at a transaction leaves of a pass that was at rest.
use Rattle.std.specs.Prelude.{◌≡◌, ℕ, ◌+◌, ◌^◌, ◌<◌, ◌≤◌, List, [], ◌∷◌, ◌++◌, map, sum}
use Rattle.rl_base.specs.Stamps.{packed}
use Rattle.rl_value.specs.Rows.{Rows}
use Rattle.rl_value.specs.Tables.{Table}
use Rattle.rl_tables.specs.Numbers.{sizes_of}
use Rattle.rl_txn.specs.Fits.{AnswerFits}
use Rattle.rl_txn.specs.Run.{run}
use Rattle.rl_txn.specs.declared.op.Op.{Op}
use Rattle.rl_occ.specs.Outcomes.{write_at}
use Rattle.rl_occ.specs.Reading.{HasRowsRead}
use Rattle.rl_occ.specs.declared.outcome.Decided.{Decided}
use Rattle.rl_store.specs.Entries.{In}
use Rattle.rl_store.specs.Views.{IsAtRest}
use Rattle.rl_store.specs.declared.view.Item as store
use Rattle.rl_store.specs.declared.view.Read.{Read}
use Rattle.rl_store.specs.declared.view.View.{View}
use Rattle.rl_live.specs.Workers.{right_of}

-- the pass rests, with as many tries and draws together
pub record IsQuiet (v w : View) : Type 0 where
  pub rest : IsAtRest w
  pub right : right_of w ≡ right_of v

-- nothing was decided
pub record IsUndecided (v w : View) : Type 0 where
  pub quiet : IsQuiet v w
  pub same : w.items ≡ v.items

-- the item of a decision, as the store keeps it
abbrev pub kept_item : (tables : List Table) → (reads : List Read) → (d : Decided) → store.Item
kept_item tables reads d = record { stamp = packed d.stamp; reads = reads; writes = map (write_at tables) d.writes }

-- a transaction was decided under a stamp above those of the items before, and the pass has its item
pub record HasDecided (tables : List Table) (epoch : ℕ) (txn : List Op) (v w : View) (d : Decided) : Type 0 where
  pub quiet : IsQuiet v w
  pub reads : List Read
  pub inside : (x : Read) → In x reads → x.rec < sum (sizes_of tables)
  pub run : (rows : Rows) → HasRowsRead tables reads rows → (d.reply, d.writes) ≡ run tables txn rows
  pub fits : AnswerFits tables txn d.reply d.writes
  pub dated : d.stamp.epoch ≡ epoch
  pub seq : (2 ≤ d.stamp.seq) × (d.stamp.seq + 2 ≤ 2 ^ 40)
  pub above : (i : store.Item) → In i v.items → i.stamp < packed d.stamp
  pub items : w.items ≡ v.items ++ kept_item tables reads d ∷ []
