use Rattle.std.proofs.Common.{ℕ, List, ◌≤◌, ◌≡◌, ◌+◌, ◌++◌, length, get_or, take, ap, sym, ◌∙◌, subst, refl, arith}
use Rattle.std.proofs.lemmas.List.{take_all}
use Rattle.std.proofs.lemmas.Option.{slice_get_read}
use Rattle.rl_base.specs.declared.stamp.Stamp.{Stamp}
use Rattle.rl_txn.specs.declared.op.Op.{Op}
use Rattle.rl_txn.specs.Serial.{requests_from}
use Rattle.rl_txn.proofs.SerialLemmas.{AreDone, names_upto, all_done, next_done, list_begun, list_done, few_done}
use Rattle.rl_txn.proofs.serial.run_serially.Goals as goal

abbrev stamp_after : ℕ → Stamp
stamp_after n = record { epoch = 1; seq = n + 2 }

list_at : (lists : List (List (List Op))) (x list : List (List Op)) (i : ℕ) → list ≡ x → x ≡ get_or lists i x → list ≡ get_or lists i list
list_at lists x list i same at = same ∙ at ∙ ap (λ y. get_or lists i y) (sym same)

pub loop-txn-init : goal.loop-txn-init
loop-txn-init c =
    let lists = c.args.lists.now in
    record {
      worker = omega arith;
      index = refl;
      list = rw c.as_slice-txn-items.ensures (slice_get_read lists (length lists) c.loop-list.list-index c.list-item.result refl (rw c.as_slice-list-items.ensures at c.loop-list-test.true) (rw c.as_slice-list-items.ensures at c.list-item.is));
      done = list_begun c.args.schema.now lists c.args.m (take c.loop-list.list-index lists) c.loop-list.items c.loop-list.m (c.loop-list.list-index + 1) c.loop-list.invariant.done;
    }

pub overflow_add-stamp : goal.overflow_add-stamp
overflow_add-stamp c =
    let done = c.loop-txn.invariant in
    omega (arith, few_done c.args.schema.now c.args.lists.now c.args.m c.loop-txn.items c.loop-txn.m _ c.loop-list.list-index c.loop-txn.txn-index (rw c.as_slice-list-items.ensures at c.loop-list-test.true) done.list c.loop-txn-test.true done.done, c.len.ensures)

pub loop-txn-preserved : goal.loop-txn-preserved
loop-txn-preserved c =
    let done = c.loop-txn.invariant in
    let item = c.in_ok-run_one.field-0 in
    let request = c.in_ok-run_one.ensures.request in
    record {
      worker = omega arith;
      index = omega arith;
      list = done.list;
      done = rw (c.in_ok-push.ensures.ok, c.in_ok-run_one.ensures.rows)
          (next_done c.args.schema.now c.args.lists.now c.args.m (take c.loop-list.list-index c.args.lists.now) c.loop-txn.items c.loop-txn.m item c.as_slice-txn-items.result.now c.txn-item.result c.loop-list.list-index c.loop-txn.txn-index
          done.done done.list (slice_get_read _ _ c.loop-txn.txn-index c.txn-item.result refl c.loop-txn-test.true c.txn-item.is) (request.0 ∙ ap (λ (n : ℕ). stamp_after n) c.len.ensures) (request.1 ∙ omega arith) (request.2 ∙ omega arith) c.in_ok-run_one.ensures.run);
    }

pub loop-list-preserved : goal.loop-list-preserved
loop-list-preserved c =
    let lists = c.args.lists.now in
    let list = c.as_slice-txn-items.result.now in
    record {
      worker = omega arith;
      done = list_done c.args.schema.now lists c.args.m c.loop-txn.items c.loop-txn.m list c.loop-list.list-index (rw c.as_slice-list-items.ensures at c.loop-list-test.true)
          (list_at lists c.list-item.result list c.loop-list.list-index c.as_slice-txn-items.ensures (rw c.as_slice-list-items.ensures at c.list-item.is))
          (let all : c.loop-txn.txn-index ≡ length list = omega arith in subst (λ (n : ℕ). AreDone c.args.schema.now lists c.args.m (requests_from 1 (take c.loop-list.list-index lists) ++ names_upto (c.loop-list.list-index + 1) n) c.loop-txn.items c.loop-txn.m) all c.loop-txn.invariant.done);
    }

pub returns-clause-items : goal.returns-clause-items
returns-clause-items c =
    let lists = c.args.lists.now in
    let past : length lists ≤ c.loop-list.list-index = rw c.as_slice-list-items.ensures at c.loop-list-test.false in
    all_done c.args.schema.now lists c.args.m c.loop-list.items c.loop-list.m
    (subst (λ (done : List (List (List Op))). AreDone c.args.schema.now lists c.args.m (requests_from 1 done) c.loop-list.items c.loop-list.m) (take_all c.loop-list.list-index lists past) c.loop-list.invariant.done)
