use Rattle.std.proofs.Common.{◌≡◌, ℕ, sym, ap, ◌∙◌, subst, rules}
use Rattle.std.specs.FinMap as finite
use Rattle.rl_txn.specs.Eval.{HasRows, rows_given}
use Rattle.rl_txn.proofs.Evals.{have_none, have_given}
use Rattle.rl_txn.proofs.run.run.Goals as goal

pub loop-table-init : goal.loop-table-init
loop-table-init c = record {
  of = c.in_ok-eval.ensures.begun;
  has = subst (λ read. HasRows read c.args.m.now) (sym c.in_ok-eval.ensures.none) (have_none c.args.m.now);
}

pub loop-table-preserved : goal.loop-table-preserved
loop-table-preserved c =
    let m = c.args.m.now in
    let place : ℕ × ℕ = (c.in-Read.table, c.in-Read.key) in
    let is : c.map.result ≡ finite.get m place = search rules in
    let asked = c.in-Read.ensures.stands.1 in
    let given = c.give.ensures.known ∙ ap (λ q. finite.insert (rows_given c.advance.new.self) q c.map.result) asked in
    record {
      of = c.give.ensures.of c.args.schema.now c.args.txn.now c.in-Read.ensures.of;
      has = subst (λ read. HasRows read m) (sym given) (have_given (rows_given c.advance.new.self) place c.map.result m is (subst (λ read. HasRows read m) (sym c.advance.ensures.known) c.loop-table.invariant.has));
    }
