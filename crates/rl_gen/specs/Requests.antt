-- The requests of a generated script: each moves some money from one account to another.
use Rattle.std.specs.Prelude.{ℕ, ◌+◌, ◌-◌, ◌*◌, ◌%◌, List, [], ◌∷◌, map, filter, ◌==◌, if◌then◌else◌}
use Rattle.std.specs.List.{range_with_len}
use Rattle.rl_txn.specs.declared.op.Op.{Op}
use Rattle.rl_txn.specs.declared.op.Op.TheVariants as op
use Rattle.rl_txn.specs.declared.op.Operand.TheVariants.{Reg, Num}
use Rattle.rl_txn.specs.declared.op.Rel.TheVariants.{Ge}

-- the account that a request takes from
abbrev pub from_account : (seed request : ℕ) → ℕ
from_account seed request = (seed + request) % 64

-- another one than this, and the next where they are the same
abbrev pub other_account : (from to : ℕ) → ℕ
other_account from to = if from == to then (to + 1) % 64 else to

-- the account that it goes to
abbrev pub to_account : (seed request : ℕ) → ℕ
to_account seed request = other_account (from_account seed request) ((seed + 3 * request + 1) % 64)

-- how much, 1 to 9
abbrev pub amount : (request : ℕ) → ℕ
amount request = request % 9 + 1

-- an amount goes from one account to another, where there is as much
unfoldable pub transfer : (from to much : ℕ) → List Op
transfer from to much =
    op.Get 0 (Num from) 0 0 ∷ op.Need (Reg 0) Ge (Num much) ∷ op.Sub 0 (Reg 0) (Num much) ∷ op.Put 0 (Num from) (Reg 0 ∷ [])
    ∷ op.Get 0 (Num to) 0 1 ∷ op.Add 1 (Reg 1) (Num much) ∷ op.Put 0 (Num to) (Reg 1 ∷ []) ∷ []

-- the request of a number, counted from 1
abbrev pub request_of : (seed request : ℕ) → List Op
request_of seed request = transfer (from_account seed request) (to_account seed request) (amount request)

-- the requests that are dealt to a worker: they go to the workers in turn
unfoldable pub list_of : (seed workers requests worker : ℕ) → List (List Op)
list_of seed workers requests worker =
    map (request_of seed) (filter (λ request. (request - 1) % workers + 1 == worker) (range_with_len 1 requests))

-- the requests of all workers
unfoldable pub lists_of : (seed workers requests : ℕ) → List (List (List Op))
lists_of seed workers requests = map (list_of seed workers requests) (range_with_len 1 workers)
