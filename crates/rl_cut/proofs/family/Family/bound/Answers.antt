use Rattle.std.proofs.Common.{◌≡◌, ◌<◌, ap, sym, ◌∙◌, arith, ℕ}
use Rattle.rl_base.specs.declared.bound.Bound.TheVariants.{Final, Rising}
use Rattle.rl_families.specs.Logs.{last_seq_among}
use Rattle.rl_families.specs.Families.{all_reached, bound_of, least_top}
use Rattle.rl_cut.proofs.LastStamps.{least_seq_is}
use Rattle.rl_cut.proofs.Growing.{bound_final, bound_rising}
use Rattle.rl_cut.proofs.family.Family.bound.Goals as goal

pub returns-then-epoch-top-2 : goal.returns-then-epoch-top-2
returns-then-epoch-top-2 c =
    let logs = c.self.inside.logs.items in
    let k = c.self.invariant in
    let e = c.args.epoch in
    let top : c.self.inside.mark.0 ≡ least_top logs = ap (λ (m : ℕ × ℕ). m.0) k.mark in
    let under : e < c.self.inside.mark.0 = omega (arith, c.if-epoch-top-2.true) in
    let below : e < least_top logs = omega (arith, c.if-epoch-top-2.true) in
    let seq = c.last_seq.ensures ∙ ap (λ z. last_seq_among z e) c.deref.ensures.value ∙ k.fits.settled.bounds e under ∙ least_seq_is logs c.self.inside.reached.items k.fits.streams k.fits.reached e in
    ap Final seq ∙ bound_final logs e below ∙ ap (λ f. bound_of f e) c.self.view_is

pub returns-else-epoch-top-2 : goal.returns-else-epoch-top-2
returns-else-epoch-top-2 c =
    let logs = c.self.inside.logs.items in
    let k = c.self.invariant in
    let e = c.args.epoch in
    let top : c.self.inside.mark.0 ≡ least_top logs = ap (λ (m : ℕ × ℕ). m.0) k.mark in
    let here : e ≡ least_top logs = omega (arith, c.if-epoch-top-2.false, c.if-epoch-top.false) in
    let same : e ≡ least_top c.args.self.now = here ∙ ap least_top c.self.view_is in
    ap Rising (c.seq_at_top.ensures ∙ ap (all_reached c.args.self.now) (sym same)) ∙ bound_rising c.args.self.now e same
