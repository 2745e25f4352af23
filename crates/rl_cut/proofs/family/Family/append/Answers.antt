use Rattle.std.proofs.Common.{◌≡◌, ◌<◌, ◌-◌, List, [], ◌∷◌, ◌++◌, length, get_or, sym, ap, ◌∙◌, subst, arith, None}
use Rattle.std.specs.Prelude.{slice_set}
use Rattle.std.proofs.lemmas.List.{get_or_read, get_or-set_same, length-set}
use Rattle.std.proofs.lemmas.List.Elements.{All-get_or}
use Rattle.rl_base.specs.declared.stamp.Stamp.{Stamp}
use Rattle.rl_txn.specs.declared.batch.Batch.{Batch}
use Rattle.rl_families.specs.Logs.{stamps_in_batch}
use Rattle.rl_families.proofs.Rising.{Rises}
use Rattle.rl_cut.specs.Refusals.{extend_refusal}
use Rattle.rl_cut.specs.Kept.{AreByEpoch, AreLastOf, HasGrown, Keeps}
use Rattle.rl_cut.specs.Lasts.{all_noted, IsWithin, rolled_back}
use Rattle.rl_cut.proofs.Appending.{extended_rises, noted_from}
use Rattle.rl_cut.proofs.ByEpoch.{climbs_from, from_climbs}
use Rattle.rl_cut.proofs.Noting.{noted_are_last, noted_climb}
use Rattle.rl_cut.proofs.Settling.{first_again}
use Rattle.rl_cut.proofs.Growing.{has_grown, set_back}
use Rattle.rl_cut.proofs.family.Family.append.Goals as goal

pub count-counted-requires : goal.count-counted-requires
count-counted-requires c =
    let logs : List (List Batch) = c.self.inside.logs.items in
    let reached : List (List Stamp) = c.self.inside.reached.items in
    let settled = c.self.inside.settled.items in
    let counted = c.self.inside.counted.items in
    let mark = c.self.inside.mark in
    let items = c.self.inside.history in
    let i = c.args.stream - 1 in
    let b = c.args.batch in
    let k = c.self.invariant in
    let within : i < length logs = omega (arith, ap (λ (x : List (List Batch)). length x) c.self.view_is) in
    let some : i < length reached = omega (arith, k.fits.streams) in
    let free : extend_refusal logs c.args.stream b ≡ None = subst (λ x. extend_refusal x c.args.stream b ≡ None) (sym c.self.view_is) c.requires.free in
    let rising = extended_rises logs i b within k.fits.rising c.requires.rising free in
    let lasts : List Stamp = all_noted (get_or reached i []) (stamps_in_batch b) in
    let climb = climbs_from (get_or reached i []) (All-get_or AreByEpoch reached i [] some k.fits.epochs) in
    let rise : Rises (get_or reached i [] ++ stamps_in_batch b) = noted_from logs reached i b within (k.fits.reached i) k.fits.rising climb c.requires.rising free in
    let known : AreLastOf (get_or reached i [] ++ stamps_in_batch b) lasts = noted_are_last (get_or reached i []) (stamps_in_batch b) rise in
    let climbs : AreByEpoch lasts = from_climbs lasts (noted_climb (get_or reached i []) (stamps_in_batch b) climb rise) in
    subst (λ z. HasGrown z c.deref-2.result.now settled counted mark items) (sym (c.deref.ensures.value ∙ c.in_ok-tail.ensures.logs))
    (subst (λ z. HasGrown (slice_set logs i (get_or logs i [] ++ b ∷ [])) z settled counted mark items) (sym (c.deref-2.ensures.value ∙ c.in_ok-tail.ensures.lasts))
    (has_grown logs reached settled counted mark items k i b lasts within known climbs rising))

pub roll_back-requires : goal.roll_back-requires
roll_back-requires c =
    let reached : List (List Stamp) = c.self.inside.reached.items in
    let i = c.args.stream - 1 in
    let lasts : List Stamp = all_noted (get_or reached i []) (stamps_in_batch c.args.batch) in
    let logs : List (List Batch) = c.self.inside.logs.items in
    let within : i < length logs = omega (arith, ap (λ (x : List (List Batch)). length x) c.self.view_is) in
    let some : i < length reached = omega (arith, c.self.invariant.fits.streams) in
    let long : i < length c.push_noted.new.reached.items = omega (arith, ap (λ (x : List (List Stamp)). length x) c.in_ok-tail.ensures.lasts, length-set reached i lasts) in
    let there : c.index_mut.result.now ≡ lasts = get_or_read c.push_noted.new.reached.items i c.index_mut.result.now long c.index_mut.ensures.value [] ∙ ap (λ z. get_or z i []) c.in_ok-tail.ensures.lasts ∙ get_or-set_same reached i lasts [] some in
    subst (IsWithin c.in_ok-tail.tail) (sym there) c.in_ok-tail.ensures.tail.within

pub invariant_of-self-in-Err : goal.invariant_of-self-in-Err
invariant_of-self-in-Err c =
    let logs : List (List Batch) = c.self.inside.logs.items in
    let reached : List (List Stamp) = c.self.inside.reached.items in
    let settled = c.self.inside.settled.items in
    let i = c.args.stream - 1 in
    let b = c.args.batch in
    let log = get_or logs i [] in
    let lasts : List Stamp = all_noted (get_or reached i []) (stamps_in_batch b) in
    let within : i < length logs = omega (arith, ap (λ (x : List (List Batch)). length x) c.self.view_is) in
    let some : i < length reached = omega (arith, c.self.invariant.fits.streams) in
    let long : i < length c.push_noted.new.reached.items = omega (arith, ap (λ (x : List (List Stamp)). length x) c.in_ok-tail.ensures.lasts, length-set reached i lasts) in
    let there : c.index_mut.result.now ≡ lasts = get_or_read c.push_noted.new.reached.items i c.index_mut.result.now long c.index_mut.ensures.value [] ∙ ap (λ z. get_or z i []) c.in_ok-tail.ensures.lasts ∙ get_or-set_same reached i lasts [] some in
    let pushed = c.in_ok-tail.ensures.logs in
    let logs_back : c.pop_batch.new.logs.items ≡ logs = c.pop_batch.ensures log b (ap (λ z. get_or z i []) pushed ∙ get_or-set_same logs i (log ++ b ∷ []) [] within)
    ∙ ap (λ z. slice_set z i log) pushed ∙ set_back logs i (log ++ b ∷ []) [] in
    let before : c.roll_back.new.lasts ≡ get_or reached i [] = c.roll_back.ensures ∙ ap (rolled_back c.in_ok-tail.tail) there ∙ c.in_ok-tail.ensures.tail.back in
    let reached_back : slice_set c.push_noted.new.reached.items i c.roll_back.new.lasts ≡ reached = ap (λ z. slice_set z i c.roll_back.new.lasts) c.in_ok-tail.ensures.lasts ∙ ap (slice_set (slice_set reached i lasts) i) before ∙ set_back reached i lasts [] in
    let settled_back : c.truncate.new.self.items ≡ settled = c.truncate.ensures.items ∙ first_again settled c.count-counted.new.settled.items c.len-len.result c.count-counted.ensures.settled (omega (arith, c.len-len.ensures, c.self.inside.settled.ok.0)) in
    subst (λ z. Keeps z (slice_set c.push_noted.new.reached.items i c.roll_back.new.lasts) c.truncate.new.self.items c.count-counted.new.counted.items c.count-counted.new.mark c.count-counted.new.history) (sym logs_back)
    (subst (λ z. Keeps logs z c.truncate.new.self.items c.count-counted.new.counted.items c.count-counted.new.mark c.count-counted.new.history) (sym reached_back)
    (subst (λ z. Keeps logs reached z c.count-counted.new.counted.items c.count-counted.new.mark c.count-counted.new.history) (sym settled_back)
    (subst (λ z. Keeps logs reached settled z c.count-counted.new.mark c.count-counted.new.history) (sym c.in-Err.ensures.counted)
    (subst (λ z. Keeps logs reached settled c.self.inside.counted.items z c.count-counted.new.history) (sym c.in-Err.ensures.mark)
    (subst (λ z. Keeps logs reached settled c.self.inside.counted.items c.self.inside.mark z) (sym c.in-Err.ensures.history) c.self.invariant)))))

pub returns-in-Err-clause-unchanged : goal.returns-in-Err-clause-unchanged
returns-in-Err-clause-unchanged c =
    let logs : List (List Batch) = c.self.inside.logs.items in
    let i = c.args.stream - 1 in
    let b = c.args.batch in
    let log = get_or logs i [] in
    let within : i < length logs = omega (arith, ap (λ (x : List (List Batch)). length x) c.self.view_is) in
    let pushed = c.in_ok-tail.ensures.logs in
    c.pop_batch.ensures log b (ap (λ z. get_or z i []) pushed ∙ get_or-set_same logs i (log ++ b ∷ []) [] within)
    ∙ ap (λ z. slice_set z i log) pushed ∙ set_back logs i (log ++ b ∷ []) [] ∙ c.self.view_is
