use Rattle.std.proofs.Common.{◌≡◌, ◌∙◌, List, ap, subst}
use Rattle.rl_txn.specs.declared.batch.Batch.{Batch}
use Rattle.rl_node.specs.Replaying.{StaysOf, HasMoved, HasStopped, HasPlayedNext}
use Rattle.rl_node.specs.declared.running.Running.{Running}
use Rattle.rl_node.proofs.Replays.{stays_on, one_played, stopped_played, stopped_now}
use Rattle.rl_node.proofs.running.Running.play.Goals as goal

pub returns-in_err-play_next-clause-stays : goal.returns-in_err-play_next-clause-stays
returns-in_err-play_next-clause-stays c =
    let inv = c.loop-count.invariant in
    let mid = c.loop-count.self.replica in
    let new = c.play_next.new.self.replica in
    let known : c.loop-count.self.known ≡ c.args.self.now.known = ap (λ (z : Running). z.known) inv.same in
    stays_on c.args.self.now.known c.args.stream c.args.self.now.replica mid new inv.some.stays
    (subst (λ (family : List (List Batch)). StaysOf family c.args.stream mid new) known c.in_err-play_next.ensures.stays)

pub loop-count-preserved : goal.loop-count-preserved
loop-count-preserved c =
    let inv = c.loop-count.invariant in
    let mid = c.loop-count.self.replica in
    let new = c.play_next.new.self.replica in
    let known : c.loop-count.self.known ≡ c.args.self.now.known = ap (λ (z : Running). z.known) inv.same in
    let moved : HasMoved c.loop-count.self.known c.args.stream mid new =
    subst (HasPlayedNext c.loop-count.self.known c.args.stream mid new) c.if-branch.true c.in_ok-play_next.ensures.next in
    record {
      same = c.in_ok-play_next.ensures.same ∙ ap (λ (z : Running). record z { replica = new }) inv.same;
      some = one_played c.args.self.now.known c.args.stream c.args.self.now.replica mid new c.loop-count.count inv.some
          (subst (λ (family : List (List Batch)). HasMoved family c.args.stream mid new) known moved);
    }

pub returns-clause-played : goal.returns-clause-played
returns-clause-played c =
    let inv = c.loop-count.invariant in
    let mid = c.loop-count.self.replica in
    let new = c.play_next.new.self.replica in
    let known : c.loop-count.self.known ≡ c.args.self.now.known = ap (λ (z : Running). z.known) inv.same in
    let stopped : HasStopped c.loop-count.self.known c.args.stream mid new =
    subst (HasPlayedNext c.loop-count.self.known c.args.stream mid new) c.if-branch.false c.in_ok-play_next.ensures.next in
    stopped_played c.args.self.now.known c.args.stream c.args.self.now.replica mid new c.loop-count.count inv.some
    (subst (λ (family : List (List Batch)). HasStopped family c.args.stream mid new) known stopped)

pub returns-clause-stopped : goal.returns-clause-stopped
returns-clause-stopped c =
    let inv = c.loop-count.invariant in
    let mid = c.loop-count.self.replica in
    let new = c.play_next.new.self.replica in
    let known : c.loop-count.self.known ≡ c.args.self.now.known = ap (λ (z : Running). z.known) inv.same in
    let stopped : HasStopped c.loop-count.self.known c.args.stream mid new =
    subst (HasPlayedNext c.loop-count.self.known c.args.stream mid new) c.if-branch.false c.in_ok-play_next.ensures.next in
    stopped_now c.args.self.now.known c.args.stream mid new
    (subst (λ (family : List (List Batch)). HasStopped family c.args.stream mid new) known stopped)

pub returns-clause-stays : goal.returns-clause-stays
returns-clause-stays c =
    let inv = c.loop-count.invariant in
    let mid = c.loop-count.self.replica in
    let new = c.play_next.new.self.replica in
    let known : c.loop-count.self.known ≡ c.args.self.now.known = ap (λ (z : Running). z.known) inv.same in
    stays_on c.args.self.now.known c.args.stream c.args.self.now.replica mid new inv.some.stays
    (subst (λ (family : List (List Batch)). StaysOf family c.args.stream mid new) known c.in_ok-play_next.ensures.stays)
