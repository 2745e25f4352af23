use Rattle.std.proofs.Common.{◌≡◌, ◌+◌, ◌++◌, take, slice_get, Some}
use Rattle.rl_txn.specs.Serial.{requests_from}
use Rattle.rl_txn.proofs.SerialLemmas.{AreDone, names_upto}
use Rattle.rl_txn.proofs.serial.run_serially.Given as goal

abbrev pub invariant-loop-txn : goal.invariant-loop-txn
invariant-loop-txn l = record {
  worker : l.worker ≡ l.list-index + 1;
  index : l.index ≡ l.txn-index;
  list : slice_get l.lists l.list-index ≡ Some l.txn-items;
  done : AreDone l.schema l.lists l.fn.m (requests_from 1 (take l.list-index l.lists) ++ names_upto (l.list-index + 1) l.txn-index) l.items l.m;
}

abbrev pub invariant-loop-list : goal.invariant-loop-list
invariant-loop-list l = record {
  worker : l.worker ≡ l.list-index;
  done : AreDone l.schema l.lists l.fn.m (requests_from 1 (take l.list-index l.lists)) l.items l.m;
}
