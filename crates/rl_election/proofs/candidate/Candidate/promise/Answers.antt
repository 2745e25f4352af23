use Rattle.std.proofs.Common.{◌≡◌, [], ◌∷◌, ◌++◌, ◌∙◌, ◌&&◌, not, true, is_ok, sym, arith}
use Rattle.rl_paxos.specs.Quorums.{is_node}
use Rattle.rl_paxos.specs.Recovery.{HasStreams, has_promised}
use Rattle.rl_election.proofs.Room.{has_room, more_fits}
use Rattle.rl_election.proofs.candidate.Candidate.promise.Goals as goal

is_new : (c : goal.After-push) → (is_node c.self.inside.nodes c.args.node && not (has_promised c.self.inside.promises.items c.args.node)) ≡ true
is_new c =
    let t : (is_node c.args.self.now.nodes c.args.node && not (has_promised c.args.self.now.promises c.args.node)) ≡ true = sym c.is_new.ensures ∙ c.if-is_new.true in
    rw (← c.self.view_is) at t

whole : (c : goal.After-push) → HasStreams c.self.inside.streams c.new.result
whole c = rw c.new.ensures (rw (← c.self.view_is) at c.requires.ballots, rw (← c.self.view_is) at c.requires.logs)

pub unwrap-requires : goal.unwrap-requires
unwrap-requires c = c.push.ensures.succeeds (omega (arith, has_room c.self.inside.nodes c.self.inside.streams c.self.inside.need _ c.args.node c.self.inside.promises.items c.self.invariant (is_new c)))

pub invariant_of-self : goal.invariant_of-self
invariant_of-self c =
    let added : c.push.new.self.items ≡ c.self.inside.promises.items ++ c.new.result ∷ [] = (let ok : is_ok c.push.result ≡ true = unwrap-requires c in rw ok at c.push.ensures.items) in
    rw added (more_fits c.self.inside.nodes c.self.inside.streams c.self.inside.need _ _ c.self.inside.promises.items c.new.result c.self.invariant (rw c.new.ensures (is_new c)) (whole c) c.push.ensures.capacity)
