-- A node that works as its leader does.
use Rattle.std.proofs.Common.{◌≡◌, ℕ, ◌-◌, ◌^◌, ◌<◌, ◌≤◌, [], true, Option, Some, None, Result, Ok, Err, false, IsErrAnd, refl, sym, ap, ◌∙◌, subst, arith, inl}
use Rattle.std.specs.Result.{is_err}
use Rattle.rl_paxos.specs.Acceptors.{Acceptor}
use Rattle.rl_worker.specs.Acts.{Core}
use Rattle.rl_nodes.specs.Answers.{Answer, quiet}
use Rattle.rl_nodes.specs.Calls.{Standing}
use Rattle.rl_nodes.specs.Nodes.{NodeState, Part, Follows, Leads}
use Rattle.rl_nodes.specs.Setups.{Setup, SetupFits}
use Rattle.rl_nodes.specs.Works.{next_seq}
use Rattle.rl_nodes.specs.declared.node_error.NodeError.{NodeError}
use Rattle.rl_nodes.specs.declared.node_error.NodeError.TheVariants.{BadMessage, StreamFull, NoEpoch, Memory}
use Rattle.rl_node.specs.Changing.{with_part, with_part_in}
use Rattle.rl_node.specs.Inner.{well, HasNot, Tries}
use Rattle.rl_node.specs.Leads.{LeadFailed, LeadTries}
use Rattle.rl_node.specs.Outs.{IsSending}
use Rattle.rl_node.specs.Parts.{PartTries, PartTriesDue}
use Rattle.rl_node.specs.Seqs.{seq_in, seq_of_part, seq_of_phase, seq_of}
use Rattle.rl_node.specs.Moves.{out_of}
use Rattle.rl_node.specs.Standing.{StandsPart, StandsIn, Stands, IsNode, HasWorksOf, lead_with, is_running}
use Rattle.rl_node.specs.declared.answer.Out.{Out}
use Rattle.rl_node.specs.declared.answer.Stepped.{Stepped}
use Rattle.rl_node.specs.declared.node.Node.{Node}
use Rattle.rl_node.specs.declared.node.Phase.{Phase}
use Rattle.rl_node.specs.declared.node.Phase.TheVariants as phase
use Rattle.rl_node.specs.declared.part.Lead as leads
use Rattle.rl_node.specs.declared.part.Part as parts
use Rattle.rl_node.specs.declared.part.Part.TheVariants as part
use Rattle.rl_node.specs.declared.part.Works.{Works}
use Rattle.rl_node.specs.declared.running.Running.{Running}
use Rattle.rl_node.proofs.Elections.{part_of, sends_out}
use Rattle.rl_node.proofs.NoLeaders.{IsNoLeader, no_follower, no_candidate}
use Rattle.rl_node.proofs.Promising.{other_part, up_then}
use Rattle.rl_node.proofs.Turns.{next_is}

-- ---- a part ----

-- a part that is no leader
pub no_leader : (setup : Setup) (p : parts.Part) (x : Part) → ((l : leads.Lead) → p ≡ part.Leads l → ⊥) → StandsPart setup p x → IsNoLeader x
no_leader setup part.Follows x none s = subst IsNoLeader (sym s) no_follower
no_leader setup (part.Stands c) x none s = subst IsNoLeader (sym s.0) (no_candidate c)
no_leader setup (part.Leads l) x none s = absurd (none l refl)

-- it does nothing
pub does_nothing : (setup : Setup) (p : parts.Part) (x : NodeState) (out : Out) → IsSending [] out → StandsPart setup p x.part → (answer : Answer)
    → answer ≡ Ok (quiet x) → PartTries setup p x answer (Ok out)
does_nothing setup p x out sends s answer due = record {
  did = quiet x;
  part = x.part;
  due = due;
  is = refl;
  stands = s;
  hands_out = sends_out x [] out sends;
}

-- it did what its leader did
pub does_as_leader : (setup : Setup) (l : leads.Lead) (x : NodeState) (answer : Answer) (result : Result Out NodeError) → false ≡ is_err result
    → LeadTries setup l x answer result → PartTries setup (part.Leads l) x answer result
does_as_leader setup l x answer (Ok out) ok d = record {
  did = d.did;
  part = d.part;
  due = d.due;
  is = d.is;
  stands = d.stands;
  hands_out = d.hands_out;
}
does_as_leader setup l x answer (Err error) ok h = absurd (cc)

-- the same of a step
pub steps_as_leader : (setup : Setup) (l : leads.Lead) (x : NodeState) (answer : Answer) (result : Result Stepped NodeError) → false ≡ is_err result
    → LeadTries setup l x answer (out_of result) → PartTries setup (part.Leads l) x answer (out_of result)
steps_as_leader setup l x answer (Ok stepped) ok d = does_as_leader setup l x answer (Ok stepped.out) refl d
steps_as_leader setup l x answer (Err error) ok h = absurd (cc)

-- ---- its node ----

pub first_id : (setup : Setup) (n : Node) → IsNode setup n → 1 ≤ n.id
first_id setup n node = let number = node.2.number in let first = node.2.first in omega (arith, number, first)

pub last_id : (setup : Setup) (n : Node) → IsNode setup n → n.id ≤ setup.nodes
last_id setup n node = let number = node.2.number in let last = node.2.last in omega (arith, number, last)

-- its next seq
pub seq_left : (n : Node) (r : Running) → n.phase ≡ phase.Up r → seq_of n < 2 ^ 40 - 1 → seq_of_part r.part < 2 ^ 40 - 1
seq_left n r up left = subst (λ k. k < 2 ^ 40 - 1) (ap seq_of_phase up) left

module _ (setup : Setup) (a : ℕ) (n : Node) (x : NodeState) (s : Stands setup a n (well x)) (up : is_running n ≡ true) where
  -- what its leader failed in leaves a follower
  fails_as : (answer : Answer) (error : NodeError) → LeadFailed answer error → HasNot setup a n (with_part n part.Follows) x answer error
  fails_as answer BadMessage h = absurd h
  fails_as answer (NoEpoch promised) h = absurd h
  fails_as answer (StreamFull slots) h = record {
    node = record x { part = Follows };
    stands = other_part setup a n x s up part.Follows Follows refl;
    up = up_then n.phase part.Follows up;
    keeps = inl refl;
    reason = h;
  }
  fails_as answer Memory h = record {
    node = record x { part = Follows };
    stands = other_part setup a n x s up part.Follows Follows refl;
    up = up_then n.phase part.Follows up;
    keeps = inl refl;
    reason = tt;
  }

  tries_as : (p : parts.Part) (answer : Answer) (result : Result Out NodeError) → PartTries setup p x answer result
      → Tries setup a n (with_part n p) x answer result
  tries_as p answer (Ok out) d = record {
    did = d.did;
    due = d.due;
    stands = subst (λ y. Stands setup a (with_part n p) (well y)) (sym d.is) (other_part setup a n x s up p d.part d.stands);
    hands_out = d.hands_out;
  }
  tries_as p answer (Err error) h = subst (λ q. HasNot setup a n (with_part n q) x answer error) (sym h.1) (fails_as answer error h.0)

  -- it does what its part does
  pub works_as : (r : Running) → n.phase ≡ phase.Up r → (p : parts.Part) (due : ℕ → NodeState → Answer) (result : Result Out NodeError)
      → PartTriesDue setup (due n.id) r.part p result → Tries setup a n (record n { phase = phase.Up (record r { part = p }) }) x (due a x) result
  works_as r is p due result tries =
      subst (λ m. Tries setup a n m x (due a x) result) (ap (λ ph. record n { phase = with_part_in ph p }) is)
      (tries_as p (due a x) result (subst (λ k. PartTries setup p x (due k x) result) s.number (tries x (part_of setup a n x r is s))))

-- ---- its next seq ----

of_works : (setup : Setup) → SetupFits setup → (l : leads.Lead) (o : Option Works) (c : Option Core) → HasWorksOf setup l o c → seq_in o ≡ next_seq (Leads (lead_with l c))
of_works setup sized l None None h = refl
of_works setup sized l None (Some core) h = absurd h
of_works setup sized l (Some works) None h = absurd h
of_works setup sized l (Some works) (Some core) h = let next = next_is setup l works core 1 (omega arith, sized.some_workers) h.0 in omega (arith, next)

of_part : (setup : Setup) → SetupFits setup → (p : parts.Part) (x : Part) → StandsPart setup p x → seq_of_part p ≡ next_seq x
of_part setup sized part.Follows x s = ap next_seq (sym s)
of_part setup sized (part.Stands c) x s = ap next_seq (sym s.0)
of_part setup sized (part.Leads l) x s = of_works setup sized l l.works s.core s.works ∙ ap next_seq (sym s.is)

of_phase : (setup : Setup) → SetupFits setup → (acceptor : Acceptor) (ph : Phase) (x : Standing) → StandsIn setup acceptor ph x → seq_of_phase ph ≡ next_seq x.node.part
of_phase setup sized acceptor (phase.Up r) x s = of_part setup sized r.part s.part s.stands ∙ ap (λ (y : Standing). next_seq y.node.part) (sym s.is)
of_phase setup sized acceptor phase.Down x s = ap (λ (y : Standing). next_seq y.node.part) (sym s)
of_phase setup sized acceptor phase.Lost x s = ap (λ (y : Standing). next_seq y.node.part) (sym s)

pub seq_is : (setup : Setup) → SetupFits setup → (a : ℕ) (n : Node) (x : Standing) → Stands setup a n x → seq_of n ≡ next_seq x.node.part
seq_is setup sized a n x s = of_phase setup sized n.acceptor n.phase x s.phase

-- a step that was refused hands out nothing
pub out_err : (P : NodeError → Type 0) (r : Result Stepped NodeError) → IsErrAnd r P → IsErrAnd (out_of r) P
out_err P (Ok s) h = absurd h
out_err P (Err e) h = h
