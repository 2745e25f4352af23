use Rattle.std.proofs.Common.{sym, ◌∙◌, subst}
use Rattle.rl_cut.specs.Lasts.{LeadsBack}
use Rattle.rl_cut.proofs.Noting.{leads_back}
use Rattle.rl_cut.proofs.lasts.note_batch.Goals as goal

pub returns-in-Err-clause-err : goal.returns-in-Err-clause-err
returns-in-Err-clause-err c =
    let lasts = c.args.lasts.now in
    let leads : LeadsBack c.tail_of-tail.result lasts lasts = subst (λ t. LeadsBack t lasts lasts) (sym c.tail_of-tail.ensures) (leads_back lasts) in
    c.roll_back.ensures ∙ (c.note_all.ensures.back c.tail_of-tail.result lasts leads).back

pub returns-clause-tail : goal.returns-clause-tail
returns-clause-tail c =
    let lasts = c.args.lasts.now in
    let leads : LeadsBack c.tail_of-tail.result lasts lasts = subst (λ t. LeadsBack t lasts lasts) (sym c.tail_of-tail.ensures) (leads_back lasts) in
    c.note_all.ensures.back c.tail_of-tail.result lasts leads

pub roll_back-requires : goal.roll_back-requires
roll_back-requires c =
    let lasts = c.args.lasts.now in
    let leads : LeadsBack c.tail_of-tail.result lasts lasts = subst (λ t. LeadsBack t lasts lasts) (sym c.tail_of-tail.ensures) (leads_back lasts) in
    (c.note_all.ensures.back c.tail_of-tail.result lasts leads).within
