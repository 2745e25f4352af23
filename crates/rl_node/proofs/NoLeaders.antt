-- A node that is no open leader does nothing in the turns of workers.
use Rattle.std.proofs.Common.{◌≡◌, ℕ, Option, Some, None, IfSome, option_map, IfOk, Ok, refl, sym, ap, ◌∙◌, subst}
use Rattle.std.specs.Option.{option_and_then}
use Rattle.rl_paxos.specs.Recovery.{Candidate}
use Rattle.rl_worker.specs.Acts.{Core}
use Rattle.rl_worker.specs.Told.{NamesRecord}
use Rattle.rl_worker.specs.declared.act.Moved.{Moved}
use Rattle.rl_nodes.specs.Answers.{Did, Answer, quiet}
use Rattle.rl_nodes.specs.Calls.{turn_of}
use Rattle.rl_nodes.specs.Nodes.{Lead, NodeState, Part, Follows, Stands as StandsFor, Leads}
use Rattle.rl_nodes.specs.Setups.{Setup}
use Rattle.rl_nodes.specs.Works.{if_open, next_seq}
use Rattle.rl_nodes.specs.World.{AttemptRefused, attempt_of, refused_line}
use Rattle.rl_node.specs.Moves.{moved_of, line_of, Tells}
use Rattle.rl_node.specs.Standing.{StandsLead, HasWorksOf, lead_with}
use Rattle.rl_node.specs.declared.answer.Stepped.{Stepped}
use Rattle.rl_node.specs.declared.part.Lead as leads
use Rattle.rl_node.specs.declared.part.Works.{Works}

-- a part that is no open leader
pub record IsNoLeader (p : Part) : Type 0 where
  pub does_nothing : (x : NodeState) (does : Lead → Core → Answer) → if_open x p does ≡ Ok (quiet x)
  pub moves_nothing : (setup : Setup) (w : ℕ) → moved_of setup p w ≡ None
  pub turn : (w : ℕ) → turn_of p w ≡ (0, 0)
  pub seq : next_seq p ≡ 2

pub no_follower : IsNoLeader Follows
no_follower = record { does_nothing = λ x does. refl; moves_nothing = λ setup w. refl; turn = λ w. refl; seq = refl }

pub no_candidate : (c : Candidate) → IsNoLeader (StandsFor c)
no_candidate c = record { does_nothing = λ x does. refl; moves_nothing = λ setup w. refl; turn = λ w. refl; seq = refl }

pub not_opened : (l : leads.Lead) → IsNoLeader (Leads (lead_with l None))
not_opened l = record { does_nothing = λ x does. refl; moves_nothing = λ setup w. refl; turn = λ w. refl; seq = refl }

-- it tells nothing of a step
pub tells_nothing : (setup : Setup) (a : ℕ) (x : NodeState) (w : ℕ) (s : Stepped) → IsNoLeader x.part → s.moved ≡ None → s.epoch ≡ 0 → s.index ≡ 0
    → Tells setup a x w s
tells_nothing setup a x w s none moved epoch index = record {
  moved = moved ∙ sym (none.moves_nothing setup w);
  turn = (λ i. (epoch i, index i)) ∙ sym (none.turn w);
  line = subst (λ (answer : Answer). IfOk answer (λ (did : Did). option_map refused_line (attempt_of did) ≡ line_of w s)) (sym (none.does_nothing x _))
      (ap (option_map (AttemptRefused s.epoch w s.index)) (ap (option_and_then (λ (m : Moved). m.refused)) (sym moved)));
  names = subst (λ (o : Option Moved). IfSome o (λ (m : Moved). NamesRecord setup.program.tables m.refused)) (sym moved) tt;
}

-- a leader that has not opened is none
pub not_open : (setup : Setup) (l : leads.Lead) (x : Part) (s : StandsLead setup l x) → l.works ≡ None → IsNoLeader x
not_open setup l x s none = subst IsNoLeader (sym (s.is ∙ ap (λ c. Leads (lead_with l c)) (by_works l.works s.core s.works none))) (not_opened l)
  where
    by_works : (o : Option Works) (c : Option Core) → HasWorksOf setup l o c → o ≡ None → c ≡ None
    by_works None None h e = refl
    by_works None (Some core) h e = absurd h
    by_works (Some works) c h e = absurd (cc)
