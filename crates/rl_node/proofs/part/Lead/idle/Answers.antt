use Rattle.std.proofs.Common.{◌∙◌, [], refl, sym, ap, subst, arith, is_some}
use Rattle.rl_nodes.specs.Answers.{Answer}
use Rattle.rl_nodes.specs.Works.{idles}
use Rattle.rl_node.specs.Idling.{MayMark}
use Rattle.rl_node.specs.Leads.{LeadTries}
use Rattle.rl_node.specs.Outs.{Adds}
use Rattle.rl_node.specs.SetupOf.{setup_of}
use Rattle.rl_node.specs.Stepping.{HasOpenWorks}
use Rattle.rl_node.specs.declared.part.Lead.{Lead}
use Rattle.rl_node.proofs.Flushes.{stays_quiet}
use Rattle.rl_node.proofs.Idles.{idle_not, idle_ends, idle_draws, idle_quiet}
use Rattle.rl_node.proofs.Steps.{core_now, open_now, few_now, part_now}
use Rattle.rl_node.proofs.part.Lead.idle.Goals as goal

pub may_mark-requires-clause-fits : goal.may_mark-requires-clause-fits
may_mark-requires-clause-fits c = c.requires.stands.1.fits

pub may_mark-requires-clause-open : goal.may_mark-requires-clause-open
may_mark-requires-clause-open c =
    let setup = setup_of c.args.setup.now in
    let s = c.requires.stands in
    (core_now setup c.args.self.now s.0 s.1 (ap is_some c.in-Some.is), open_now setup c.args.self.now s.0 s.1 (ap is_some c.in-Some.is))

pub is_done-requires-clause-last : goal.is_done-requires-clause-last
is_done-requires-clause-last c =
    let setup = setup_of c.args.setup.now in
    let l = c.args.self.now in
    let s = c.requires.stands in
    let some = ap is_some c.in-Some.is in
    let are = subst (λ o. HasOpenWorks setup l o (core_now setup l s.0 s.1 some)) c.in-Some.is (open_now setup l s.0 s.1 some) in
    let count = are.count in
    let is = c.requires.worker in
    omega (arith, count, is.1)

pub returns-in_default : goal.returns-in_default
returns-in_default c = λ x s.
    idle_quiet (setup_of c.args.setup.now) c.args.id c.args.worker c.args.self.now x s c.in_default.is c.sending.result
    (c.sending.ensures [] (subst (λ sends. Adds [] sends []) (sym c.new.ensures) (record { sends = refl; in_range = λ k d less. absurd (omega (arith, less)) })))

pub returns-then-is_done : goal.returns-then-is_done
returns-then-is_done c = λ x s.
    let setup = setup_of c.args.setup.now in
    let l : Lead = c.args.self.now in
    let w = c.args.worker in
    let some = ap is_some c.in-Some.is in
    let core = core_now setup l x.part s some in
    let runs = open_now setup l x.part s some in
    let is = part_now setup l x.part s some in
    let may : MayMark setup l w core = record { opened = runs; few = few_now setup l x.part s some; may = sym (c.in_ok-may_mark.ensures.may core runs) ∙ c.if-not-branch.false } in
    let done = sym (c.is_done.ensures l core (subst (λ o. HasOpenWorks setup l o core) c.in-Some.is runs)) ∙ c.if-is_done.true in
    subst (λ (answer : Answer). LeadTries setup c.propose_end_mark.new.self x answer c.propose_end_mark.result)
    (sym (idle_ends setup c.requires.setup c.args.id w l x core is may.may done)) (c.propose_end_mark.ensures x core may done)

pub returns-else-is_done : goal.returns-else-is_done
returns-else-is_done c = λ x s.
    let setup = setup_of c.args.setup.now in
    let l : Lead = c.args.self.now in
    let w = c.args.worker in
    let some = ap is_some c.in-Some.is in
    let core = core_now setup l x.part s some in
    let runs = open_now setup l x.part s some in
    let is = part_now setup l x.part s some in
    let may : MayMark setup l w core = record { opened = runs; few = few_now setup l x.part s some; may = sym (c.in_ok-may_mark.ensures.may core runs) ∙ c.if-not-branch.false } in
    let done = sym (c.is_done.ensures l core (subst (λ o. HasOpenWorks setup l o core) c.in-Some.is runs)) ∙ c.if-is_done.false in
    subst (λ (answer : Answer). LeadTries setup c.propose_idle_mark.new.self x answer c.propose_idle_mark.result)
    (sym (idle_draws setup c.requires.setup c.args.id w l x core is may.may done)) (c.propose_idle_mark.ensures x core may)

pub returns-then-not-branch : goal.returns-then-not-branch
returns-then-not-branch c = λ x s.
    let setup = setup_of c.args.setup.now in
    let l : Lead = c.args.self.now in
    let w = c.args.worker in
    let some = ap is_some c.in-Some.is in
    let core = core_now setup l x.part s some in
    let is = part_now setup l x.part s some in
    stays_quiet setup l x x.part s (idles setup c.args.id x w)
    (idle_not setup c.requires.setup c.args.id w l x core is (sym (c.in_ok-may_mark.ensures.may core (open_now setup l x.part s some)) ∙ c.if-not-branch.true))
    c.sending-then-not-branch.result
    (c.sending-then-not-branch.ensures [] (subst (λ sends. Adds [] sends []) (sym c.new-then-not-branch.ensures) (record { sends = refl; in_range = λ k d less. absurd (omega (arith, less)) })))

pub propose_idle_mark-requires-clause-open : goal.propose_idle_mark-requires-clause-open
propose_idle_mark-requires-clause-open c =
    let setup = setup_of c.args.setup.now in
    let s = c.requires.stands in
    (core_now setup c.args.self.now s.0 s.1 (ap is_some c.in-Some.is), open_now setup c.args.self.now s.0 s.1 (ap is_some c.in-Some.is))
