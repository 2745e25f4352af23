use Rattle.std.proofs.Common.{◌≡◌, [], get_or, sym, ap, ◌∙◌, subst, arith}
use Rattle.std.specs.Prelude.{slice_set}
use Rattle.std.proofs.lemmas.List.{get_or_read, get_or-set_same, length-set}
use Rattle.rl_cut.specs.Lasts.{IsWithin, rolled_back}
use Rattle.rl_cut.proofs.Growing.{set_back}
use Rattle.rl_cut.proofs.family.push_noted.Goals as goal

pub returns-in-Err-clause-same_lasts : goal.returns-in-Err-clause-same_lasts
returns-in-Err-clause-same_lasts c =
    let reached = c.args.reached.now.items in
    let at = c.args.at in
    let now = c.note_batch.new.lasts in
    let there : c.index_mut-in-Err.result.now ≡ now = get_or_read (slice_set reached at now) at c.index_mut-in-Err.result.now (omega (arith, length-set reached at now, c.requires.lasts)) c.index_mut-in-Err.ensures.value [] ∙ get_or-set_same reached at now [] c.requires.lasts in
    let before : c.index_mut.result.now ≡ get_or reached at [] = get_or_read reached at c.index_mut.result.now c.requires.lasts c.index_mut.ensures.value [] in
    let back : c.roll_back.new.lasts ≡ get_or reached at [] = c.roll_back.ensures ∙ ap (rolled_back c.in_ok-tail.tail) there ∙ c.in_ok-tail.ensures.tail.back ∙ before in
    ap (slice_set (slice_set reached at now) at) back ∙ set_back reached at now []

pub roll_back-requires : goal.roll_back-requires
roll_back-requires c =
    let reached = c.args.reached.now.items in
    let at = c.args.at in
    let now = c.note_batch.new.lasts in
    let there : c.index_mut-in-Err.result.now ≡ now = get_or_read (slice_set reached at now) at c.index_mut-in-Err.result.now (omega (arith, length-set reached at now, c.requires.lasts)) c.index_mut-in-Err.ensures.value [] ∙ get_or-set_same reached at now [] c.requires.lasts in
    subst (IsWithin c.in_ok-tail.tail) (sym there) c.in_ok-tail.ensures.tail.within
