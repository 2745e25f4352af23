-- The script that is generated from a number.
use Rattle.std.specs.Prelude.{ℕ, List, [], ◌∷◌, map, codes, nat_lt, Option, Some, None, if◌then◌else◌}
use Rattle.std.specs.FinMap as finite
use Rattle.std.specs.List.{range_with_len}
use Rattle.rl_base.specs.declared.limit.LimitName.{LimitName}
use Rattle.rl_base.specs.declared.limit.LimitName.TheVariants.{Nodes, Workers, Requests}
use Rattle.rl_base.specs.declared.limit.TheConstants.{GENERATED, NODES, WORKERS}
use Rattle.rl_value.specs.Rows.{Rows}
use Rattle.rl_value.specs.Tables.{Table}
use Rattle.rl_script.specs.declared.script.Script.{Script}
use Rattle.rl_gen.specs.Events.{events_of}
use Rattle.rl_gen.specs.Requests.{lists_of}

-- the first limit that is passed, if one is
abbrev pub passed_limit : (nodes workers requests : ℕ) → Option (LimitName × ℕ)
passed_limit nodes workers requests =
    if nat_lt NODES nodes then Some (Nodes, NODES)
    else (if nat_lt WORKERS workers then Some (Workers, WORKERS)
    else (if nat_lt GENERATED requests then Some (Requests, GENERATED) else None))

-- one table of 64 accounts
abbrev pub accounts : List Table
accounts = record { name = codes "acct"; size = 64; columns = 1 } ∷ []

-- the first accounts have 1000 each
unfoldable pub balances : (count : ℕ) → Rows
balances count = finite.from_entries (map (λ account. ((0, account), 1000 ∷ [])) (range_with_len 0 count))

-- the script of a seed: transfers between accounts that all have the same at first
abbrev pub generated : (seed nodes workers requests : ℕ) → Script
generated seed nodes workers requests = record {
  schema = accounts;
  rows = balances 64;
  nodes = nodes;
  workers = workers;
  batch = 8;
  loss = 0;
  seed = seed;
  stops = [];
  lists = lists_of seed workers requests;
  events = events_of seed nodes workers requests;
}
