use Rattle.std.proofs.Common.{◌+◌, ◌∙◌, [], ◌∷◌, ◌++◌, length, get_or, refl, sym, ap, arith}
use Rattle.std.proofs.lemmas.List.FromFn.{map-range_with_len_more}
use Rattle.rl_node.specs.Showing.{shown_stream}
use Rattle.rl_node.proofs.Shown.{same_stream}
use Rattle.rl_node.proofs.viewing.view_streams.Goals as goal

pub loop-i-preserved : goal.loop-i-preserved
loop-i-preserved c =
    let acceptor = c.args.acceptor.now in
    let known = c.args.known.now in
    let i = c.loop-i.i in
    let view = shown_stream acceptor known (i + 1) in
    c.in_ok-push.ensures.ok
    ∙ ap (λ v. c.loop-i.views ++ v ∷ [])
    (same_stream acceptor known i c.ballot.result c.len.result (get_or known i 0) c.ballot.ensures (c.len.ensures ∙ ap length c.log.ensures.kept) refl)
    ∙ ap (λ vs. vs ++ view ∷ []) c.loop-i.invariant
    ∙ sym (map-range_with_len_more (shown_stream acceptor known) 1 i (i + 1) (omega arith))
