-- A leader that opens, step by step. No public contract cites it.
use Rattle.std.specs.Prelude.{◌≡◌, ℕ, ◌-◌, ◌^◌, ◌<◌, ◌≤◌, List, length, slice_get, All, Some, None}
use Rattle.rl_families.specs.Families.{history}
use Rattle.rl_tables.specs.Numbers.{sizes_of}
use Rattle.rl_txn.specs.Fits.{ItemWritesFit}
use Rattle.rl_txn.specs.Serial.{rows_after}
use Rattle.rl_txn.specs.declared.item.Item.{Item}
use Rattle.rl_worker.specs.Opening.{CoreFits, opening_recs}
use Rattle.rl_worker.specs.Phases.{Rest}
use Rattle.rl_worker.specs.Stamping.{HasStamp, opening_stamps}
use Rattle.rl_worker.specs.Workers.{number_of, epoch_of, phase_of_worker, decided_item, WorkerFits, RecordsFit}
use Rattle.rl_worker.specs.declared.worker.Worker.{Worker}
use Rattle.rl_nodes.specs.Openings.{next_request, opening_leader}
use Rattle.rl_nodes.specs.Setups.{Setup}
use Rattle.rl_node.specs.declared.answer.Opened.{Opened}
use Rattle.rl_node.specs.declared.answer.Out.{Out}
use Rattle.rl_node.specs.declared.answer.Sent.{Sent}
use Rattle.rl_node.specs.declared.part.Lead.{Lead}
use Rattle.rl_node.specs.declared.part.Works.{Works}

-- items with which an epoch may open: few enough, of earlier epochs, in range, and what they write fits the tables
pub record MayOpen (setup : Setup) (e : ℕ) (items : List Item) : Type 0 where
  pub few : length items < 2 ^ 32 - 1
  pub earlier : All (λ (x : Item). x.stamp.epoch < e) items
  pub stamps : All HasStamp items
  pub fit : All (ItemWritesFit setup.program.tables) items

-- worker w of an epoch that opens with some items: at rest before its next request
pub record IsAtRest (setup : Setup) (e w : ℕ) (items : List Item) (x : Worker) : Type 0 where
  pub number : number_of x ≡ w
  pub epoch : epoch_of x ≡ e
  pub fits : WorkerFits setup.program.tables setup.program.lists x
  pub rests : phase_of_worker setup.program.tables x ≡ Rest (next_request items w)
  pub undecided : decided_item x ≡ None

-- workers 1 to n of it
pub record AreAtRest (setup : Setup) (e n : ℕ) (items : List Item) (workers : List Worker) : Type 0 where
  pub count : length workers ≡ n
  pub each : (w : ℕ) (x : Worker) → 1 ≤ w → slice_get workers (w - 1) ≡ Some x → IsAtRest setup e w items x

-- its records and workers: those of a core that may open with these items
pub record AreOpening (setup : Setup) (e : ℕ) (items : List Item) (works : Works) : Type 0 where
  pub layout : works.layout ≡ sizes_of setup.program.tables
  pub records : works.words.records.items ≡ opening_recs setup.program.tables (rows_after setup.program.rows items)
      (opening_stamps (sizes_of setup.program.tables) items)
  pub fit : RecordsFit setup.program.tables works.words.records.items
  pub next : works.words.next ≡ 2
  pub workers : AreAtRest setup e setup.workers items works.workers.items
  pub opens : CoreFits (opening_leader setup.program e items)

-- a leader has opened with its history
pub record HasOpened (setup : Setup) (old new : Lead) : Type 0 where
  pub works : Works
  pub same : new ≡ record old { works = Some works }
  pub opening : AreOpening setup old.epoch (history old.acknowledged) works

-- what it hands out then, besides some messages
abbrev pub out_of_opening : Lead → (sends : List Sent) → Out
out_of_opening l sends =
    let items = history l.acknowledged in
    let opened : Opened = record { epoch = l.epoch; count = length items } in
    record { sends = sends; opened = Some opened; denied = None; released = items }
