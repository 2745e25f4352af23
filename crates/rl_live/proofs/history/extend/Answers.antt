use Rattle.std.proofs.Common.{◌≡◌, [], ◌∷◌, ◌++◌, ap, sym, ◌∙◌, subst}
use Rattle.std.proofs.lemmas.List.{append_assoc}
use Rattle.std.specs.Prelude.{IfNone, IsOkUnless, Err}
use Rattle.std.specs.Vec.Iter.{into_iter_items}
use Rattle.rl_families.specs.Logs.{stamps_along, IsRising}
use Rattle.rl_cut.specs.declared.family.ExtendError.TheVariants.{Memory}
use Rattle.rl_live.proofs.ReadLogs.{batch_rises, no_refusal, one_batch, wrong_kind}
use Rattle.rl_live.proofs.history.extend.Goals as goal

pub extend-requires-clause-rising : goal.extend-requires-clause-rising
extend-requires-clause-rising c =
    let y = c.loop-batch.yielded in
    let b = c.in-Some.batch in
    let rest = into_iter_items c.next.new.self in
    let whole : y ++ (b ∷ rest) ≡ c.args.log = ap (λ z. y ++ z) (sym c.in-Some.ensures.steps.0) ∙ c.loop-batch.invariant.all in
    batch_rises y rest b (subst (λ l. IsRising (stamps_along l)) (sym whole) c.requires.rising)

pub loop-batch-preserved : goal.loop-batch-preserved
loop-batch-preserved c =
    let y = c.loop-batch.yielded in
    let b = c.in-Some.batch in
    let rest = into_iter_items c.next.new.self in
    record {
      all = append_assoc y (b ∷ []) rest ∙ (ap (λ z. y ++ z) (sym c.in-Some.ensures.steps.0) ∙ c.loop-batch.invariant.all);
      logs = one_batch c.loop-batch.family c.extend.new.self c.args.family.now c.args.stream y b c.loop-batch.invariant.logs c.requires.first c.requires.last c.in-Ok.ensures.extended;
    }

pub unreachable-requires : goal.unreachable-requires
unreachable-requires c =
    let y = c.loop-batch.yielded in
    let b = c.in-Some.batch in
    let rest = into_iter_items c.next.new.self in
    let whole : y ++ (b ∷ rest) ≡ c.args.log = ap (λ z. y ++ z) (sym c.in-Some.ensures.steps.0) ∙ c.loop-batch.invariant.all in
    let none = no_refusal c.loop-batch.family c.args.family.now c.args.stream y rest b (subst (λ l. IsRising (stamps_along l)) (sym whole) c.requires.rising) c.loop-batch.invariant.logs c.requires.first c.requires.last in
    let told = subst (λ o. IfNone o (IsOkUnless c.extend.result Memory)) none c.extend.ensures.else_memory in
    wrong_kind c.extend.result c.in-Err-Order.field-0-0 c.in-Err-Order.field-0-1 (c.in-Err-Order.is ∙ ap (λ e. Err e) c.in-Err-Order.field-0-is) told
