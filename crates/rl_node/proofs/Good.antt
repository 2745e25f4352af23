-- What is known of a message that is not bad.
use Rattle.std.proofs.Common.{◌≡◌, ℕ, [], ◌∷◌, Bool, true, false, not, ◌||◌, ◌==◌, refl, true≢false}
use Rattle.std.specs.List.{list_any}
use Rattle.rl_base.proofs.Tests.{neither}
use Rattle.rl_msg.specs.declared.msg.Msg.{Msg}
use Rattle.rl_msg.specs.declared.msg.Msg.TheVariants as msg
use Rattle.rl_paxos.specs.Logs.{Log, Batch}
use Rattle.rl_paxos.specs.Quorums.{is_node}
use Rattle.rl_nodes.proofs.ChangesInStreams.{by_node}
use Rattle.rl_nodes.specs.BadMessages.{is_astray, is_usurped, is_partial, is_wrong, is_untrue, is_bad, carried}
use Rattle.rl_nodes.specs.Nodes.{NodeState}
use Rattle.rl_nodes.specs.Setups.{Setup}
use Rattle.rl_node.specs.Fits.{IsStream}

pub not_false : (b : Bool) → not b ≡ false → b ≡ true
not_false true h = refl
not_false false h = absurd (true≢false h)

-- none of what makes a message bad
pub record IsGood (setup : Setup) (a : ℕ) (x : NodeState) (m : Msg) : Type 0 where
  pub astray : is_astray setup a m ≡ false
  pub usurped : is_usurped setup m ≡ false
  pub partial : is_partial setup m ≡ false
  pub wrong : list_any (is_wrong setup.program.tables) (carried m) ≡ false
  pub untrue : is_untrue x m ≡ false

pub is_good : (setup : Setup) (a : ℕ) (x : NodeState) (m : Msg) → is_bad setup a x m ≡ false → IsGood setup a x m
is_good setup a x m h =
    let A = is_astray setup a m in
    let B = is_usurped setup m in
    let C = is_partial setup m in
    let D = list_any (is_wrong setup.program.tables) (carried m) in
    let four = neither (A || B || C || D) (is_untrue x m) h in
    let three = neither (A || B || C) D four.0 in
    let two = neither (A || B) C three.0 in
    let one = neither A B two.0 in
    record { astray = one.0; usurped = one.1; partial = two.1; wrong = three.1; untrue = four.1 }

-- ---- a Sync, and an Accept ----

alone : {X : Type 0} (f : X → Bool) (x : X) → list_any f (x ∷ []) ≡ false → f x ≡ false
alone f x h = (neither (f x) false h).0

module _ (setup : Setup) (a from to e s : ℕ) (x : NodeState) where
  pub sync_stream : (log : Log) → IsGood setup a x (msg.Sync from to e s log) → IsStream setup s
  sync_stream log g =
      let parts = neither (not (to == a) || not (is_node setup.nodes from)) (not (is_node setup.workers s)) g.astray in
      by_node setup.workers s (not_false (is_node setup.workers s) parts.1)

  pub sync_log : (log : Log) → IsGood setup a x (msg.Sync from to e s log)
      → is_wrong setup.program.tables (record { stream = s; epoch = e; log = log }) ≡ false
  sync_log log g = alone (is_wrong setup.program.tables) (record { stream = s; epoch = e; log = log }) g.wrong

  pub accept_stream : (slot : ℕ) (batch : Batch) → IsGood setup a x (msg.Accept from to e s slot batch) → IsStream setup s
  accept_stream slot batch g =
      let parts = neither (not (to == a) || not (is_node setup.nodes from)) (not (is_node setup.workers s)) g.astray in
      by_node setup.workers s (not_false (is_node setup.workers s) parts.1)

  pub accept_log : (slot : ℕ) (batch : Batch) → IsGood setup a x (msg.Accept from to e s slot batch)
      → is_wrong setup.program.tables (record { stream = s; epoch = e; log = batch ∷ [] }) ≡ false
  accept_log slot batch g = alone (is_wrong setup.program.tables) (record { stream = s; epoch = e; log = batch ∷ [] }) g.wrong
