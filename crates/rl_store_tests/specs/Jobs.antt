-- What a thread is given, and what it gives back.
use Rattle.std.specs.Prelude.{◌≡◌, List, All, Result, IfOk}
use Rattle.rl_base.specs.declared.memory.Memory.{Memory}
use Rattle.rl_value.specs.Tables.{Table}
use Rattle.rl_txn.specs.Fits.{TxnFits}
use Rattle.rl_store.specs.Passes.{StoreOf}
use Rattle.rl_store.specs.Views.{IsAtRest}
use Rattle.rl_store_tests.specs.declared.threads.Job.{Job}
use Rattle.rl_store_tests.specs.declared.threads.Done.{Done}

-- a pass at rest, and requests that fit the tables
pub record IsReady (store : StoreOf) (tables : List Table) (job : Job) : Type 0 where
  pub table : job.pass.table ≡ store.table
  pub rest : IsAtRest job.pass.view
  pub fits : All (TxnFits tables) job.list

-- the pass is at rest again, if there was memory
abbrev pub IsDone : (store : StoreOf) → Result Done Memory → Type 0
IsDone store ended = IfOk ended (λ done. (done.pass.table ≡ store.table) × IsAtRest done.pass.view)
