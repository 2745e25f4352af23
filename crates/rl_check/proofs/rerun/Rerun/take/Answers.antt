use Rattle.std.proofs.Common.{◌≡◌, List, length, subst, sym, ap, ◌∙◌, arith}
use Rattle.rl_txn.specs.Run.{run}
use Rattle.rl_txn.specs.declared.item.Item.{Item}
use Rattle.rl_txn.specs.declared.write.Reply.{Reply}
use Rattle.rl_txn.specs.declared.write.Write.{Write}
use Rattle.rl_value.specs.Rows.{Rows}
use Rattle.rl_report.specs.declared.line.ItemLine.{ItemLine}
use Rattle.rl_check.specs.Counts.{CountsItems}
use Rattle.rl_check.specs.Reruns.{with_rows}
use Rattle.rl_check.proofs.RerunLemmas.{next_of, next_in, request_fits, worker_within, ran_more}
use Rattle.rl_check.proofs.rerun.Rerun.take.Goals as goal

abbrev line_with : ItemLine → Reply → ItemLine
line_with x reply = record { stamp = x.stamp; worker = x.worker; index = x.index; reply = reply }

abbrev item_with : ItemLine → Reply → List Write → Item
item_with x reply writes = record { stamp = x.stamp; worker = x.worker; index = x.index; reply = reply; writes = writes }

pub returns-then-not-may_follow : goal.returns-then-not-may_follow
returns-then-not-may_follow c = λ opening items is. c.if-not-may_follow.ensures.no items is.last

pub returns-in_default : goal.returns-in_default
returns-in_default c = λ opening items is.
    let counted = subst (CountsItems (length c.args.script.now.lists) items) (sym c.as_slice.ensures.value) is.counts in (
      c.if-not-may_follow.ensures.yes items is.last,
      λ txn next. c.in_default.ensures.none txn (next_in (with_rows c.args.script.now opening) items c.as_slice.result.now counted c.args.line.now txn next),
    )

pub run-requires : goal.run-requires
run-requires c =
    let x = c.args.line.now in
    request_fits c.args.script.now.schema c.args.script.now.lists x.worker x.index c.in-Some.txn.now c.requires.fits.1.lists c.in-Some.ensures.some.request

pub returns-then-not-is_same_reply : goal.returns-then-not-is_same_reply
returns-then-not-is_same_reply c = λ opening items is.
    let script = with_rows c.args.script.now opening in
    let txn = c.in-Some.txn.now in
    let counted = subst (CountsItems (length script.lists) items) (sym c.as_slice.ensures.value) is.counts in (
      c.if-not-may_follow.ensures.yes items is.last,
      (
        txn,
        record {
          next = next_of script items c.as_slice.result.now counted c.args.line.now txn c.in-Some.ensures.some;
          other = λ e. c.if-not-is_same_reply.ensures.no (ap (λ (p : Reply × List Write). p.0) c.in_ok-reply.ensures ∙ ap (λ (r : Rows). (run script.schema txn r).0) is.rows ∙ e);
        },
      ),
    )

pub join-requires-clause-epoch : goal.join-requires-clause-epoch
join-requires-clause-epoch c = (c.if-not-may_follow.ensures.yes c.requires.ran.1 c.requires.ran.2.last).given.range.few_epochs

pub join-requires-clause-seq : goal.join-requires-clause-seq
join-requires-clause-seq c =
    let high = (c.if-not-may_follow.ensures.yes c.requires.ran.1 c.requires.ran.2.last).given.range.high in
    omega (arith, high)

pub join-requires-clause-few_workers : goal.join-requires-clause-few_workers
join-requires-clause-few_workers c =
    let x = c.args.line.now in
    let within = worker_within c.args.script.now.lists x.worker x.index c.in-Some.txn.now c.in-Some.ensures.some.request in
    omega (arith, within.1, c.requires.ran.2.counts.one_each)

pub returns : goal.returns
returns c = λ opening items is.
    let script = with_rows c.args.script.now opening in
    let x = c.args.line.now in
    let txn = c.in-Some.txn.now in
    let item = item_with x c.in_ok-reply.reply c.in_ok-reply.writes in
    let line : x ≡ line_with x c.in_ok-reply.reply = ap (line_with x) (sym c.if-not-is_same_reply.ensures.yes) in
    let counted = subst (CountsItems (length script.lists) items) (sym c.as_slice.ensures.value) is.counts in
    let next = next_of script items c.as_slice.result.now counted x txn c.in-Some.ensures.some in
    record {
      item = item;
      line = line;
      ran = ran_more script items c.args.self.now c.join.new.self item txn is (c.if-not-may_follow.ensures.yes items is.last) (record { request = next.request; next = next.next })
          c.in_ok-reply.ensures c.in_ok-join.ensures.rows c.in_ok-join.ensures.last c.in_ok-join.ensures.counts;
    }
