use Rattle.std.proofs.Common.{◌<◌, ◌≤◌, length, sym, subst, List, ℕ}
use Rattle.std.proofs.lemmas.Result.{IfOk-weaker}
use Rattle.std.specs.Prelude.{None, slice_index, slice_index_or}
use Rattle.rl_store.specs.Opening.{Filled, Made, OpensWith}
use Rattle.rl_store.specs.Layout.{FitsColumns}
use Rattle.rl_store.proofs.Filling.{can_open, opens_with, past_end}
use Rattle.rl_store.proofs.store.Store.make.Goals as goal

pub open-requires-clause-ready : goal.open-requires-clause-ready
open-requires-clause-ready c =
    let same = c.in_ok-columns.ensures.items in
    let filled = subst (λ (l : List ℕ). Filled (length l) l c.args.stamps.now c.args.rows.now c.in_ok-words.words.items) (sym same) c.in_ok-words.ensures in
    can_open _ c.args.stamps.now c.args.rows.now filled
    (λ r l. subst (λ (l : List ℕ). FitsColumns (slice_index l r) (slice_index_or c.args.rows.now r None)) (sym same) (c.requires.rows r (subst (λ (l : List ℕ). r < length l) same l)))
    (λ r l. c.requires.earlier r (subst (λ (l : List ℕ). r < length l) same l)) c.requires.tries
    (subst (λ (l : List ℕ). (r : ℕ) → slice_index l r ≤ 4) (sym same) (past_end c.args.columns.now (λ r l. (c.requires.columns r l).1)))

pub returns-clause-opens : goal.returns-clause-opens
returns-clause-opens c =
    let same = c.in_ok-columns.ensures.items in
    let filled = subst (λ (l : List ℕ). Filled (length l) l c.args.stamps.now c.args.rows.now c.in_ok-words.words.items) (sym same) c.in_ok-words.ensures in
    IfOk-weaker c.open.result _ _
    (λ x made r l. subst (λ (m : Made). OpensWith m r (slice_index c.args.stamps.now r) (slice_index_or c.args.rows.now r None)) (sym made)
    (opens_with _ c.args.stamps.now c.args.rows.now filled
    (λ q m. subst (λ (l : List ℕ). FitsColumns (slice_index l q) (slice_index_or c.args.rows.now q None)) (sym same) (c.requires.rows q (subst (λ (l : List ℕ). q < length l) same m)))
    r (subst (λ (l : List ℕ). r < length l) (sym same) l)))
    c.open.ensures.made
