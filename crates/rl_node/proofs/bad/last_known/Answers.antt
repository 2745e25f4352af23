use Rattle.std.proofs.Common.{◌≡◌, ◌-◌, List, length, take, Some, IfSome, sym, subst}
use Rattle.std.specs.Prelude.{slice_get}
use Rattle.rl_families.specs.Logs.{stamps_along, last_stamp}
use Rattle.rl_txn.specs.declared.batch.Batch.{Batch}
use Rattle.rl_node.proofs.Bads.{ends_with, last_some}
use Rattle.rl_node.proofs.bad.last_known.Goals as goal

pub returns : goal.returns
returns c =
    let known = c.args.known.now in
    let batch = c.in_ok-batch.batch.now in
    let last : slice_get known (length known - 1) ≡ Some batch =
    sym (subst (λ (l : List Batch). Some batch ≡ slice_get l (length l - 1)) c.as_slice.ensures c.in_ok-batch.ensures.value) in
    subst (λ (l : List Batch). IfSome c.last_behind.result (λ t. last_stamp (stamps_along l) ≡ Some t)) (sym (ends_with known batch last))
    (last_some (take (length known - 1) known) batch c.last_behind.result c.last_behind.ensures)
