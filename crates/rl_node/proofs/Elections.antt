-- Elections, and what is sent again.
use Rattle.std.proofs.Common.{◌≡◌, ℕ, ◌^◌, ◌<◌, ◌≤◌, List, map, true, false, nat_lt, cond, refl, sym, ap, ◌∙◌, subst, arith, inl, Ok, Err}
use Rattle.std.specs.List.{range_with_len}
use Rattle.rl_base.proofs.Tests.{lt_true, lt_false}
use Rattle.rl_base.specs.Epochs.{next_epoch_of}
use Rattle.rl_election.specs.StreamEvents.{candidate_of}
use Rattle.rl_msg.specs.declared.msg.Msg.{Msg}
use Rattle.rl_msg.specs.declared.msg.Msg.TheVariants.{Prepare}
use Rattle.rl_paxos.specs.Acceptors.{Acceptor, prepared}
use Rattle.rl_paxos.specs.Recovery.{Candidate, new_candidate}
use Rattle.rl_nodes.specs.Answers.{sending, to_each}
use Rattle.rl_nodes.specs.Elections.{elects, stands, ticks, sends_again}
use Rattle.rl_nodes.specs.Nodes.{NodeState, Part, Stands as StandsFor}
use Rattle.rl_nodes.specs.Setups.{Setup, cluster_of}
use Rattle.rl_nodes.specs.declared.node_error.NodeError.TheVariants.{NoEpoch}
use Rattle.rl_node.specs.Changing.{with_part}
use Rattle.rl_node.specs.Fits.{AcceptorFits, CandidateFits}
use Rattle.rl_node.specs.Inner.{well, Tries}
use Rattle.rl_node.specs.Outs.{IsOut, IsSending}
use Rattle.rl_node.specs.Standing.{StandsPart, StandsIn, StandsUp, Stands, IsNode, IsPart, is_running}
use Rattle.rl_node.specs.declared.answer.Out.{Out}
use Rattle.rl_node.specs.declared.node.Node.{Node}
use Rattle.rl_node.specs.declared.node.Phase.{Phase}
use Rattle.rl_node.specs.declared.node.Phase.TheVariants as phase
use Rattle.rl_node.specs.declared.part.Part.TheVariants as part
use Rattle.rl_node.specs.declared.running.Running.{Running}
use Rattle.rl_node.proofs.Beginnings.{acceptor_is}
use Rattle.rl_node.proofs.Changes.{changed}

-- what is handed out where a node sends and tells nothing else
pub sends_out : (x : NodeState) (messages : List Msg) (out : Out) → IsSending messages out → IsOut (sending x messages) out
sends_out x messages out s = record { sends = s.sends; in_range = s.in_range; opened = s.opened; denied = s.denied; released = s.released }

module _ (setup : Setup) (a : ℕ) (n : Node) (x : NodeState) (s : Stands setup a n (well x)) (up : is_running n ≡ true) where
  acceptor : x.acceptor ≡ n.acceptor
  acceptor = acceptor_is setup a n (well x) s

  epoch_is : next_epoch_of x.acceptor.promised a setup.nodes ≡ next_epoch_of n.acceptor.promised n.id setup.nodes
  epoch_is = ap (λ (y : Acceptor). next_epoch_of y.promised a setup.nodes) acceptor
      ∙ ap (λ b. next_epoch_of n.acceptor.promised b setup.nodes) (sym s.number)

  -- no epoch is left
  pub no_epoch : (promised : ℕ) → promised ≡ n.acceptor.promised → 2 ^ 20 ≤ next_epoch_of promised n.id setup.nodes
      → Tries setup a n n x (elects setup a x) (Err (NoEpoch promised))
  no_epoch promised e past = record {
    node = x;
    stands = s;
    up = up;
    keeps = inl refl;
    reason = (due, refl);
  }
    where
      late : nat_lt (next_epoch_of x.acceptor.promised a setup.nodes) (2 ^ 20) ≡ false
      late = lt_false (next_epoch_of x.acceptor.promised a setup.nodes) (2 ^ 20)
          (subst (λ k. 2 ^ 20 ≤ k) (ap (λ p. next_epoch_of p n.id setup.nodes) e ∙ sym epoch_is) past)

      due : elects setup a x ≡ Err (NoEpoch promised)
      due = ap (λ b. cond b (Ok (stands setup a x (next_epoch_of x.acceptor.promised a setup.nodes))) (Err (NoEpoch x.acceptor.promised))) late
          ∙ ap (λ p. Err (NoEpoch p)) (ap (λ (y : Acceptor). y.promised) acceptor ∙ sym e)

  -- it stands for an epoch
  pub stood : (e : ℕ) (c : Candidate) (out : Out) → e ≡ next_epoch_of n.acceptor.promised n.id setup.nodes → e < 2 ^ 20
      → c ≡ new_candidate e setup.nodes setup.workers setup.first_quorum
      → IsSending (map (λ to. Prepare n.id to e) (range_with_len 1 setup.nodes)) out
      → Tries setup a n (with_part (record n { acceptor = prepared n.acceptor e }) (part.Stands c)) x (elects setup a x) (Ok out)
  stood e c out is few candidate sends = record {
    did = stands setup a x e;
    due = due;
    stands =
        subst (λ acc. Stands setup a (with_part (record n { acceptor = prepared n.acceptor e }) (part.Stands c))
        (well (record x { acceptor = prepared acc e; part = StandsFor (candidate_of (cluster_of setup) e) }))) (sym acceptor)
        (changed setup a n x up s (prepared n.acceptor e) fits (λ r f. record {
          known_streams = f.known_streams;
          known = f.known;
          played_streams = f.played_streams;
          begins = f.begins;
          rows = f.rows;
        }) (part.Stands c) (StandsFor (candidate_of (cluster_of setup) e)) (ap StandsFor (sym candidate), stands_fits));
    hands_out = sends_out (stands setup a x e).node (to_each setup (λ to. Prepare a to e)) out
        (subst (λ b. IsSending (map (λ to. Prepare b to e) (range_with_len 1 setup.nodes)) out) s.number sends);
  }
    where
      due : elects setup a x ≡ Ok (stands setup a x e)
      due =
          ap (λ k. cond (nat_lt k (2 ^ 20)) (Ok (stands setup a x k)) (Err (NoEpoch x.acceptor.promised))) (epoch_is ∙ sym is)
          ∙ ap (λ b. cond b (Ok (stands setup a x e)) (Err (NoEpoch x.acceptor.promised))) (lt_true e (2 ^ 20) few)

      fits : AcceptorFits setup (prepared n.acceptor e)
      fits = record { streams = s.acceptor.streams; promised = omega arith; each = s.acceptor.each }

      new_fits : CandidateFits setup (new_candidate e setup.nodes setup.workers setup.first_quorum)
      new_fits = record {
        epoch = record { low = omega arith; high = omega arith };
        nodes = refl;
        streams = refl;
        need = refl;
        promises = λ k d l. absurd (omega (arith, l));
      }

      stands_fits : CandidateFits setup c
      stands_fits = subst (CandidateFits setup) (sym candidate) new_fits

-- ---- parts ----

part_in : (setup : Setup) (acc : Acceptor) (ph : Phase) (x : NodeState) (r : Running) → ph ≡ phase.Up r
    → StandsIn setup acc ph (well x) → StandsPart setup r.part x.part
part_in setup acc ph x r e s =
    let up : StandsUp setup acc r (well x) = subst (λ p. StandsIn setup acc p (well x)) e s in
    subst (λ y. StandsPart setup r.part y.node.part) (sym up.is) up.stands

-- what the part of a node that is up stands for
pub part_of : (setup : Setup) (a : ℕ) (n : Node) (x : NodeState) (r : Running) → n.phase ≡ phase.Up r → Stands setup a n (well x)
    → StandsPart setup r.part x.part
part_of setup a n x r e s = part_in setup n.acceptor n.phase x r e s.phase

pub is_part : (setup : Setup) (n : Node) (r : Running) → n.phase ≡ phase.Up r → IsNode setup n → IsPart setup r.part
is_part setup n r e s =
    let stands : StandsIn setup n.acceptor n.phase s.1 = s.2.phase in
    let up : StandsUp setup n.acceptor r s.1 = subst (λ p. StandsIn setup n.acceptor p s.1) e stands in
    (up.part, up.stands)

-- it sends again
pub resent : (setup : Setup) (a : ℕ) (n : Node) (x : NodeState) (r : Running) → n.phase ≡ phase.Up r → Stands setup a n (well x)
    → (out : Out) → ((p : Part) → StandsPart setup r.part p → IsSending (sends_again setup n.id p) out)
    → Tries setup a n n x (ticks setup a x) (Ok out)
resent setup a n x r e s out sends = record {
  did = sending x (sends_again setup a x.part);
  due = refl;
  stands = s;
  hands_out = sends_out x (sends_again setup a x.part) out
      (subst (λ b. IsSending (sends_again setup b x.part) out) s.number (sends x.part (part_of setup a n x r e s)));
}
