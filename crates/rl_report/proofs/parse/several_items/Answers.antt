use Rattle.std.proofs.Common.{sym, ap, ◌∙◌, arith}
use Rattle.std.proofs.lemmas.Result.{err_from_is_err_and}
use Rattle.rl_report.specs.Read.{one_line, due_item}
use Rattle.rl_report.specs.Readers.{several}
use Rattle.rl_report.specs.Words.{lines_in}
use Rattle.rl_report.proofs.Loops.{onto, onto_nothing, another, another_wrong, none_left, stopped}
use Rattle.rl_report.proofs.parse.several_items.Goals as goal

pub items-init : goal.items-init
items-init c = record {
  same = ap (λ xs. onto xs (several c.args.count (one_line due_item) (lines_in c.args.text.now))) c.new-items.ensures ∙ onto_nothing _;
  shorter = omega arith;
}

pub returns-in_err-item-clause-items : goal.returns-in_err-item-clause-items
returns-in_err-item-clause-items c =
    let p = err_from_is_err_and c.from_residual.result c.from_residual.ensures.1 in
    rw (p.1, p.2) (stopped c.in_err-item.field-0.0 _ _
    (λ fault wrong. sym c.items.invariant.same ∙ another_wrong (one_line due_item) c.items.left c.items.items (lines_in c.items.rest.now) fault (omega arith) wrong) c.in_err-item.ensures.item)

pub items-preserved : goal.items-preserved
items-preserved c = record {
  same = another (one_line due_item) c.items.left _ c.items.items c.push.new.self c.in_ok-item.item (lines_in c.items.rest.now) (lines_in c.in_ok-item.after.now) c.in_ok-item.ensures.item c.in_ok-push.ensures.ok (omega arith)
      ∙ c.items.invariant.same;
  shorter = omega (arith, c.items.invariant.shorter, c.in_ok-item.ensures.shorter);
}

pub returns-clause-items : goal.returns-clause-items
returns-clause-items c = sym c.items.invariant.same ∙ none_left (one_line due_item) c.items.left c.items.items (lines_in c.items.rest.now) (omega arith)
