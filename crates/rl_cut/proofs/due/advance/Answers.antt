use Rattle.std.proofs.Common.{◌<◌, [], length, get_or, sym, subst, ◌∙◌, arith, inl, inr}
use Rattle.std.specs.Prelude.{slice_set}
use Rattle.std.proofs.lemmas.List.{length-set, get_or-set_same, get_or-set_other, get_or_read}
use Rattle.std.proofs.lemmas.Bool.Decides.{eqb_tells}
use Rattle.rl_cut.specs.Kept.{AreUpTo}
use Rattle.rl_cut.proofs.due.advance.Goals as goal

pub loop-i-preserved : goal.loop-i-preserved
loop-i-preserved c =
    let logs = c.args.logs.now in
    let counted = c.loop-i.counted.items in
    let i = c.loop-i.i in
    let n = c.advanced.result in
    let within : i < length counted = omega (arith, c.loop-i.invariant.places, c.requires.places, c.loop-i-test.true) in
    let log = get_or_read logs i c.index-logs-i.result c.loop-i-test.true c.index-logs-i.is [] in
    record {
      places = length-set counted i n ∙ c.loop-i.invariant.places;
      counted = λ k. elim (eqb_tells k i) [
        | inl e ↦ subst (λ z. AreUpTo c.args.mark (get_or logs z []) (get_or (slice_set counted i n) z 0)) (sym e.1)
            (subst (AreUpTo c.args.mark (get_or logs i [])) (sym (get_or-set_same counted i n 0 within)) (subst (λ z. AreUpTo c.args.mark z n) log c.advanced.ensures))
        | inr d ↦ subst (AreUpTo c.args.mark (get_or logs k [])) (sym (get_or-set_other counted i k n 0 d.1)) (c.loop-i.invariant.counted k)
      ];
    }
