use Rattle.std.proofs.Common.{◌≡◌, ℕ, [], ◌∷◌, ◌++◌, ◌+◌, ◌/◌, Err, ◌≤◌, ◌<◌, length, map, ap, sym, subst, ◌∙◌, arith, length-append, append-nil}
use Rattle.std.proofs.lemmas.List.{append_assoc}
use Rattle.std.specs.Vec.Iter.{into_iter_items}
use Rattle.rl_election.specs.declared.recover_error.RecoverError.TheVariants.{NotYet}
use Rattle.rl_paxos.specs.Recovery.{Candidate, recovered_logs}
use Rattle.rl_live.specs.Elections.{promising}
use Rattle.rl_live.proofs.Firsts.{map_more, map_long}
use Rattle.rl_live.proofs.Promises.{promises_from, counted, recovered_same, promises_long}
use Rattle.rl_shared_replay.proofs.Wholes.{no_more}
use Rattle.rl_live.proofs.election.recover.Goals as goal

pub loop-node-preserved : goal.loop-node-preserved
loop-node-preserved g c =
    let i = c.loop-node.invariant in
    let y = c.loop-node.yielded in
    let x = c.in-Some.node in
    let n = length c.args.nodes.items in
    let rest = into_iter_items c.next.new.self in
    let whole : y ++ (x ∷ rest) ≡ c.args.nodes.items = ap (λ z. y ++ z) (sym c.in-Some.ensures.steps.0) ∙ i.all in
    let number : ℕ = c.len.result in
    let many : number ≡ 1 + length y = (
    let a = c.len.ensures in let b = ap length c.in_ok-push.ensures.items in let d = length-append c.loop-node.promised.items (c.in_ok-node.node ∷ []) in
    let e = ap length i.nodes in let f = map_long (promising c.args.epoch) y in let v = c.push.new.self.ok.0 in omega arith) in
    let few : number ≤ n = (let a = ap length whole in let b = length-append y (x ∷ rest) in omega arith) in
    record {
      all = append_assoc y (x ∷ []) rest ∙ whole;
      nodes = c.in_ok-push.ensures.items ∙ (ap (λ z. z ++ c.in_ok-node.node ∷ []) i.nodes ∙ (ap (λ z. map (promising c.args.epoch) y ++ z ∷ []) c.in_ok-node.ensures.node ∙ sym (map_more (promising c.args.epoch) y x)));
      candidate = counted c.args.epoch n c.args.streams (n / 2 + 1) number y x c.loop-node.candidate c.promise-in-loop-node.new.self c.in_ok-node.ballots c.in_ok-node.logs i.candidate c.in_ok-node.ensures.ballots c.in_ok-node.ensures.logs c.promise-in-loop-node.ensures.counted many few;
    }

pub returns-in-Ok-clause-logs : goal.returns-in-Ok-clause-logs
returns-in-Ok-clause-logs g c = λ logs same.
    let i = c.loop-node.invariant in
    let y = c.loop-node.yielded in
    let none : into_iter_items c.loop-node.node-iterator ≡ [] = no_more (into_iter_items c.loop-node.node-iterator) (let a = c.loop-node.node-iterator.rest.ok.0 in let b = c.in-None.ensures.steps.0 in omega arith) in
    let whole : y ≡ c.args.nodes.items = sym (append-nil y) ∙ (ap (λ z. y ++ z) (sym none) ∙ i.all) in
    c.in-Ok.ensures.ok
    ∙ (ap (λ (x : Candidate). recovered_logs x.promises x.streams) i.candidate
    ∙ (ap (λ ys. recovered_logs (promises_from 1 ys) c.args.streams) whole
    ∙ subst (λ k. recovered_logs (promises_from 1 c.args.nodes.items) k ≡ logs) same.streams_are (recovered_same logs 1 c.args.nodes.items same.each c.requires.some)))

pub unreachable-requires : goal.unreachable-requires
unreachable-requires g c =
    let i = c.loop-node.invariant in
    let y = c.loop-node.yielded in
    let n = length c.args.nodes.items in
    let none : into_iter_items c.loop-node.node-iterator ≡ [] = no_more (into_iter_items c.loop-node.node-iterator) (let a = c.loop-node.node-iterator.rest.ok.0 in let b = c.in-None.ensures.steps.0 in omega arith) in
    let whole : y ≡ c.args.nodes.items = sym (append-nil y) ∙ (ap (λ z. y ++ z) (sym none) ∙ i.all) in
    let x = c.in-Err-NotYet.ensures.exact c.in-Err-NotYet.field-0-0 c.in-Err-NotYet.field-0-1 (ap (λ z. Err z) c.in-Err-NotYet.field-0-is) in
    let less = c.in-Err-NotYet.ensures.early.0 (ap (λ z. Err z) (c.in-Err-NotYet.field-0-is ∙ (ap (λ h. NotYet h c.in-Err-NotYet.field-0-1) x.0 ∙ ap (λ k. NotYet (length c.loop-node.candidate.promises) k) x.1))) in
    let many = ap (λ (z : Candidate). length z.promises) i.candidate ∙ (promises_long 1 y ∙ ap length whole) in
    let need = ap (λ (z : Candidate). z.need) i.candidate in
    too_many n (length c.loop-node.candidate.promises) c.loop-node.candidate.need c.requires.some less many need
  where
    too_many : (n have need : ℕ) → 1 ≤ n → have < need → have ≡ n → need ≡ n / 2 + 1 → ⊥
    too_many n have need a b d e = omega arith
