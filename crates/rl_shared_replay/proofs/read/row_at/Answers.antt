use Rattle.std.proofs.Common.{◌≡◌, ◌+◌, ◌*◌, ◌<◌, length, get_or, ap, sym, ◌∙◌, subst, arith}
use Rattle.std.specs.Mem.Slots.{slots_items}
use Rattle.rl_shared_replay.specs.Layout.{cell_place}
use Rattle.rl_shared_replay.proofs.Reading.{at_get, no_row, some_row, columns_at}
use Rattle.rl_shared_replay.proofs.read.row_at.Goals as goal

pub returns-then-word-eq0 : goal.returns-then-word-eq0
returns-then-word-eq0 c row =
    let ws = slots_items c.args.closed.now.words in
    let here : get_or ws (2 + 6 * c.args.r) 0 ≡ c.word.result = at_get ws _ _ c.word.ensures in
    let same : 2 + (6 * c.args.r + 0) ≡ 2 + 6 * c.args.r = omega arith in
    no_row c.args.columns ws c.args.r row (ap (λ n. get_or ws n 0) same ∙ (here ∙ c.if-word-eq0.true))

pub returns : goal.returns
returns c row =
    let ws = slots_items c.args.closed.now.words in
    let here : get_or ws (2 + 6 * c.args.r) 0 ≡ c.word.result = at_get ws _ _ c.word.ensures in
    let same : 2 + (6 * c.args.r + 0) ≡ 2 + 6 * c.args.r = omega arith in
    let at = columns_at ws c.args.r _ _ _ _ c.args.columns c.requires.columns.1 (at_get ws _ _ c.word-2.ensures) (at_get ws _ _ c.word-3.ensures) (at_get ws _ _ c.word-4.ensures) (at_get ws _ _ c.word-5.ensures) c.from_slice.result c.from_slice.ensures in
    some_row c.args.columns ws c.args.r row c.from_slice.result (λ e. c.if-word-eq0.false (sym here ∙ (ap (λ n. get_or ws n 0) (sym same) ∙ e))) at.0 at.1
