use Rattle.std.proofs.Common.{◌≡◌, ℕ, ap, sym, ◌∙◌}
use Rattle.rl_families.specs.Families.{all_reached, least_top}
use Rattle.rl_cut.specs.Kept.{least_seq}
use Rattle.rl_cut.proofs.LastStamps.{least_seq_is}
use Rattle.rl_cut.proofs.family.Family.seq_at_top.Goals as goal

pub returns-then-self-eq0 : goal.returns-then-self-eq0
returns-then-self-eq0 c =
    let logs = c.self.inside.logs.items in
    let k = c.self.invariant in
    let top : least_top logs ≡ 0 = sym (ap (λ (m : ℕ × ℕ). m.0) k.mark) ∙ c.if-self-eq0.true in
    c.least_seq.ensures ∙ ap (λ z. least_seq z 0) c.deref.ensures.value ∙ least_seq_is logs c.self.inside.reached.items k.fits.streams k.fits.reached 0
    ∙ ap (all_reached logs) (sym top) ∙ ap (λ f. all_reached f (least_top f)) c.self.view_is
