-- How the workers of a leader begin when it opens.
use Rattle.std.specs.Prelude.{ℕ, ◌+◌, List, [], map, length}
use Rattle.std.specs.List.{range_with_len}
use Rattle.rl_value.specs.Rows.{Rows}
use Rattle.rl_value.specs.Tables.{Table}
use Rattle.rl_tables.specs.Numbers.{sizes_of}
use Rattle.rl_txn.specs.declared.item.Item.{Item}
use Rattle.rl_txn.specs.declared.op.Op.{Op}
use Rattle.rl_txn.specs.Serial.{rows_after, indexes_of}
use Rattle.rl_worker.specs.Acts.{Core}
use Rattle.rl_worker.specs.Opening.{OpenLeader, core_after, setting_of}
use Rattle.rl_worker.specs.Phases.{Setting}
use Rattle.rl_worker.specs.Stamping.{opening_stamps}

-- the request of worker w behind its items in an opening list
abbrev pub next_request : List Item → (w : ℕ) → ℕ
next_request items w = 1 + length (indexes_of w items)

-- the tables with their opening rows, and each worker's requests
pub record Program : Type 0 where
  pub tables : List Table
  pub rows : Rows
  pub lists : List (List (List Op))

-- a leader that opens with a list has its records as after that list, and each worker before its next request
abbrev pub opening_leader : Program → (epoch : ℕ) → List Item → OpenLeader
opening_leader p epoch items = record {
  tables = p.tables;
  lists = p.lists;
  rows = rows_after p.rows items;
  stamps = opening_stamps (sizes_of p.tables) items;
  epoch = epoch;
  firsts = map (next_request items) (range_with_len 1 (length p.lists));
}

-- what the workers of leaders do: the core with which an epoch opens after its opening list, and what stays the same in its turns
pub record Work : Type 0 where
  pub opening : (epoch : ℕ) → List Item → Core
  pub setting : (epoch : ℕ) → Setting

-- what they do that run the requests of a program: when its epoch opens no worker has made a step
abbrev pub work_of : Program → Work
work_of p = record {
  opening = λ epoch items. core_after (opening_leader p epoch items) [];
  setting = setting_of p.tables p.lists;
}
