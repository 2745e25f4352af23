-- A node that takes a Promise.
use Rattle.std.proofs.Common.{◌≡◌, ℕ, List, [], true, false, cond, ◌==◌, Option, Some, None, Ok, Err, refl, sym, ap, ◌∙◌, subst, arith, inl}
use Rattle.std.proofs.lemmas.Bool.Decides.{nat_tests}
use Rattle.rl_base.proofs.Tests.{by_bool, true_same}
use Rattle.rl_msg.specs.declared.msg.Msg.{Msg}
use Rattle.rl_msg.specs.declared.msg.Msg.TheVariants as msg
use Rattle.rl_paxos.specs.Logs as bytes
use Rattle.rl_paxos.specs.Recovery.{Promise, Candidate, with_promise}
use Rattle.rl_nodes.specs.Answers.{Answer, sending, quiet}
use Rattle.rl_nodes.specs.Handles.{stands_or_leads, takes_promise, takes}
use Rattle.rl_nodes.specs.Nodes.{NodeState, Part, Follows, Stands as StandsFor}
use Rattle.rl_nodes.specs.Setups.{Setup}
use Rattle.rl_nodes.specs.declared.node_error.NodeError.{NodeError}
use Rattle.rl_nodes.specs.declared.node_error.NodeError.TheVariants.{BadMessage, StreamFull, NoEpoch, Memory}
use Rattle.rl_node.specs.Changing.{with_part, with_part_in}
use Rattle.rl_node.specs.Fits.{CandidateFits}
use Rattle.rl_node.specs.Inner.{well, HasNot, Tries}
use Rattle.rl_node.specs.Outs.{Adds, IsSending}
use Rattle.rl_node.specs.Recovering.{HasBecome, FailsToLead}
use Rattle.rl_node.specs.Standing.{StandsPart, Stands, is_running, is_up_in}
use Rattle.rl_node.specs.Taken.{HasGiven, HasKept, is_candidate, candidate_of, without_candidate, candidate_in, without_candidate_in, GivesCandidate}
use Rattle.rl_node.specs.declared.answer.Out.{Out}
use Rattle.rl_node.specs.declared.node.Node.{Node}
use Rattle.rl_node.specs.declared.node.Phase.{Phase}
use Rattle.rl_node.specs.declared.node.Phase.TheVariants as phase
use Rattle.rl_node.specs.declared.part.Part as code
use Rattle.rl_node.specs.declared.part.Part.TheVariants as part
use Rattle.rl_node.specs.declared.recovering.Elected.{Elected}
use Rattle.rl_node.specs.declared.running.Running.{Running}
use Rattle.rl_node.proofs.Beginnings.{acceptor_is}
use Rattle.rl_node.proofs.Changes.{changed}
use Rattle.rl_node.proofs.Elections.{part_of, sends_out}

same_numbers : (a b : ℕ) → a ≡ b → (a == b) ≡ true
same_numbers a b e = grind (arith, nat_tests)

pub twice_in : (ph : Phase) (p q : code.Part) → with_part_in (with_part_in ph p) q ≡ with_part_in ph q
twice_in (phase.Up r) p q = refl
twice_in phase.Down p q = refl
twice_in phase.Lost p q = refl

pub up_then : (ph : Phase) (p : code.Part) → is_up_in ph ≡ true → is_up_in (with_part_in ph p) ≡ true
up_then (phase.Up r) p up = refl
up_then phase.Down p up = absurd (cc)
up_then phase.Lost p up = absurd (cc)

-- whether it is up with another part
pub still_up : (n m : Node) (p : code.Part) → is_running n ≡ true → m ≡ with_part n p → is_running m ≡ true
still_up n m p up is = subst (λ (k : Node). is_running k ≡ true) (sym is) (up_then n.phase p up)

module _ (setup : Setup) (a : ℕ) (n : Node) (x : NodeState) (s : Stands setup a n (well x)) (up : is_running n ≡ true) where
  -- with another part it stands for the node with that
  pub other_part : (p : code.Part) (y : Part) → StandsPart setup p y → Stands setup a (with_part n p) (well (record x { part = y }))
  other_part p y stands =
      subst (λ acc. Stands setup a (with_part n p) (well (record x { acceptor = acc; part = y }))) (sym (acceptor_is setup a n (well x) s))
      (changed setup a n x up s n.acceptor s.acceptor (λ r f. f) p y stands)

  -- the candidate that it was
  pub given_candidate : (m : Node) (c : Candidate) → HasGiven n m (part.Stands c) → (x.part ≡ StandsFor c) × CandidateFits setup c
  given_candidate m c g = subst (λ p. StandsPart setup p x.part) g.was (part_of setup a n x g.running g.up s)

  module _ (from e : ℕ) (ballots : List ℕ) (logs : List bytes.Log) where
    abbrev promise : Promise
    promise = record { node = from; ballots = ballots; logs = logs }

    abbrev due : Answer
    due = takes setup a x (msg.Promise from n.id e ballots logs)

    skips : (p : code.Part) (y : Part) → StandsPart setup p y → is_candidate e p ≡ false
        → takes_promise setup a x e (record { node = from; ballots = ballots; logs = logs }) y ≡ Ok (quiet x)
    skips part.Follows y h o = ap (takes_promise setup a x e (record { node = from; ballots = ballots; logs = logs })) h
    skips (part.Stands c) y h o = ap (takes_promise setup a x e (record { node = from; ballots = ballots; logs = logs })) h.0
        ∙ ap (λ b. cond b (stands_or_leads setup a x (with_promise c (record { node = from; ballots = ballots; logs = logs }))) (Ok (quiet x))) o
    skips (part.Leads l) y h o = ap (takes_promise setup a x e (record { node = from; ballots = ballots; logs = logs })) h.is

    -- it is no candidate of that epoch
    pub promise_skipped : (new : Node) → HasKept n new (is_candidate e) → (out : Out) → IsSending [] out
        → Tries setup a n new x (takes setup a x (msg.Promise from n.id e ballots logs)) (Ok out)
    promise_skipped new k out none = record {
      did = quiet x;
      due = skips k.running.part x.part (part_of setup a n x k.running k.up s) k.other;
      stands = subst (λ m. Stands setup a m (well x)) (sym k.same) s;
      hands_out = sends_out x [] out none;
    }

    module _ (m : Node) (c : Candidate) (g : HasGiven n m (part.Stands c)) (epoch : c.epoch ≡ e) where
      counted : takes setup a x (msg.Promise from n.id e ballots logs)
          ≡ stands_or_leads setup a x (with_promise c (record { node = from; ballots = ballots; logs = logs }))
      counted = ap (takes_promise setup a x e (record { node = from; ballots = ballots; logs = logs })) (given_candidate m c g).0
          ∙ ap (λ b. cond b (stands_or_leads setup a x (with_promise c (record { node = from; ballots = ballots; logs = logs }))) (Ok (quiet x))) (same_numbers c.epoch e epoch)

      number_is : m.id ≡ a
      number_is = ap (λ (k : Node). k.id) g.now ∙ s.number

      part_now : (new : Node) (p : code.Part) → new ≡ with_part m p → new ≡ with_part n p
      part_now new p is = is ∙ ap (λ k. with_part k p) g.now ∙ ap (λ ph. record n { phase = ph }) (twice_in n.phase part.Follows p)

      -- it stands on or leads
      pub promise_counted : (elected : Elected) → HasBecome setup m.id (with_promise c (record { node = from; ballots = ballots; logs = logs })) elected
          → (new : Node) → new ≡ with_part m elected.part → (out : Out)
          → ((messages : List Msg) → Adds [] elected.sends messages → IsSending messages out)
          → Tries setup a n new x (takes setup a x (msg.Promise from n.id e ballots logs)) (Ok out)
      promise_counted elected b new is out sends =
          let h : HasBecome setup a (with_promise c (record { node = from; ballots = ballots; logs = logs })) elected =
          subst (λ k. HasBecome setup k (with_promise c (record { node = from; ballots = ballots; logs = logs })) elected) number_is b in
          record {
            did = sending (record x { part = h.part }) h.messages;
            due = counted ∙ h.due x;
            stands = subst (λ k. Stands setup a k (well (record x { part = h.part }))) (sym (part_now new elected.part is)) (other_part elected.part h.part h.stands);
            hands_out = sends_out (record x { part = h.part }) h.messages out (sends h.messages h.sends);
          }

      fails_as : (error : NodeError) → FailsToLead setup a (with_promise c (record { node = from; ballots = ballots; logs = logs })) error
          → HasNot setup a n (with_part n part.Follows) x (takes setup a x (msg.Promise from n.id e ballots logs)) error
      fails_as (StreamFull slots) h = record {
        node = record x { part = Follows };
        stands = other_part part.Follows Follows refl;
        up = up_then n.phase part.Follows up;
        keeps = inl refl;
        reason = counted ∙ h x;
      }
      fails_as Memory h = record {
        node = record x { part = Follows };
        stands = other_part part.Follows Follows refl;
        up = up_then n.phase part.Follows up;
        keeps = inl refl;
        reason = tt;
      }
      fails_as BadMessage h = absurd h
      fails_as (NoEpoch promised) h = absurd h

      -- or it can't
      pub promise_fails : (error : NodeError) → FailsToLead setup m.id (with_promise c (record { node = from; ballots = ballots; logs = logs })) error
          → Tries setup a n m x (takes setup a x (msg.Promise from n.id e ballots logs)) (Err error)
      promise_fails error h =
          subst (λ k. HasNot setup a n k x (takes setup a x (msg.Promise from n.id e ballots logs)) error) (sym g.now)
          (fails_as error (subst (λ k. FailsToLead setup k (with_promise c (record { node = from; ballots = ballots; logs = logs })) error) number_is h))

-- ---- the candidate that is taken out ----

module _ (n m : Node) (e : ℕ) (r : Running) (up : n.phase ≡ phase.Up r) where
  back : (p : code.Part) → r.part ≡ p → record n { phase = phase.Up (record r { part = p }) } ≡ n
  back p is = ap (λ q. record n { phase = phase.Up (record r { part = q }) }) (sym is) ∙ ap (λ ph. record n { phase = ph }) (sym up)

  kept_part : (p : code.Part) → r.part ≡ p → is_candidate e p ≡ false → m ≡ record n { phase = phase.Up (record r { part = p }) } → HasKept n m (is_candidate e)
  kept_part p is none me = record { running = r; up = up; other = ap (is_candidate e) is ∙ none; same = me ∙ back p is }

  given_part : (c : Candidate) → r.part ≡ part.Stands c → m ≡ record n { phase = phase.Up (record r { part = part.Follows }) } → HasGiven n m (part.Stands c)
  given_part c is me = record { running = r; up = up; was = is; now = me ∙ sym (ap (λ ph. record n { phase = with_part_in ph part.Follows }) up) }

  by_part : (p : code.Part) → r.part ≡ p → (o : Option Candidate) → o ≡ candidate_of e p
      → m ≡ record n { phase = phase.Up (record r { part = without_candidate e p }) } → GivesCandidate n m e o
  by_part part.Follows is o oe me = subst (GivesCandidate n m e) (sym oe) (kept_part part.Follows is refl me)
  by_part (part.Leads l) is o oe me = subst (GivesCandidate n m e) (sym oe) (kept_part (part.Leads l) is refl me)
  by_part (part.Stands c) is o oe me =
      by_bool (λ b. ((c.epoch == e) ≡ b) → o ≡ cond b (Some c) None
      → m ≡ record n { phase = phase.Up (record r { part = cond b part.Follows (part.Stands c) }) } → GivesCandidate n m e o) (c.epoch == e)
      (λ t k oe me. subst (GivesCandidate n m e) (sym oe) (given_part c is me, true_same c.epoch e k))
      (λ t k oe me. subst (GivesCandidate n m e) (sym oe) (kept_part (part.Stands c) is k me)) refl oe me

by_phase : (n m : Node) (e : ℕ) (ph : Phase) → n.phase ≡ ph → is_up_in ph ≡ true → (o : Option Candidate) → o ≡ candidate_in e ph
    → m ≡ record n { phase = without_candidate_in e ph } → GivesCandidate n m e o
by_phase n m e (phase.Up r) is up o oe me = by_part n m e r is r.part refl o oe me
by_phase n m e phase.Down is up o oe me = absurd (cc)
by_phase n m e phase.Lost is up o oe me = absurd (cc)

pub gives_candidate : (n m : Node) (e : ℕ) → is_running n ≡ true → (o : Option Candidate) → o ≡ candidate_in e n.phase
    → m ≡ record n { phase = without_candidate_in e n.phase } → GivesCandidate n m e o
gives_candidate n m e up o oe me = by_phase n m e n.phase refl up o oe me
