use Rattle.std.proofs.Common.{◌≡◌, ◌+◌, ◌-◌, ◌∙◌, [], ◌∷◌, ◌++◌, map, sym, ap, arith}
use Rattle.std.specs.List.{range_with_len}
use Rattle.std.proofs.lemmas.List.{length-map}
use Rattle.std.proofs.lemmas.List.FromFn.{map-range_with_len_more}
use Rattle.rl_paxos.specs.Acceptors.{Kept, nothing_kept, kept_ballot}
use Rattle.rl_node.proofs.Shown.{by_streams, get_or_map}
use Rattle.rl_node.proofs.node.Node.ballots.Goals as goal

pub loop-before-preserved : goal.loop-before-preserved
loop-before-preserved c =
    let acceptor = c.args.self.now.acceptor in
    let before = c.loop-before.before in
    c.in_ok-push.ensures.ok ∙ ap (λ x. c.loop-before.ballots ++ x ∷ []) (c.ballot.ensures)
    ∙ ap (λ xs. xs ++ kept_ballot acceptor (before + 1) ∷ []) c.loop-before.invariant
    ∙ sym (map-range_with_len_more (λ s. kept_ballot acceptor s) 1 before (before + 1) (omega arith))

pub returns : goal.returns
returns c =
    let streams = c.args.self.now.acceptor.streams in
    let all : c.loop-before.before ≡ c.args.workers = omega arith in
    c.loop-before.invariant ∙ ap (λ n. map (λ s. kept_ballot c.args.self.now.acceptor s) (range_with_len 1 n)) all
    ∙ sym (by_streams (λ s. kept_ballot c.args.self.now.acceptor s) (map (λ (k : Kept). k.ballot) streams) c.args.workers nothing_kept.ballot
    (length-map streams (λ (k : Kept). k.ballot) ∙ sym c.requires) (λ s low high. get_or_map (λ (k : Kept). k.ballot) streams (s - 1) nothing_kept))
