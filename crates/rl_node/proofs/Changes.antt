-- A node with another acceptor and another part.
use Rattle.std.proofs.Common.{◌≡◌, ℕ, true, refl, subst}
use Rattle.rl_paxos.specs.Acceptors.{Acceptor}
use Rattle.rl_nodes.specs.Calls.{Standing}
use Rattle.rl_nodes.specs.Nodes.{NodeState, Part}
use Rattle.rl_nodes.specs.Setups.{Setup}
use Rattle.rl_node.specs.Changing.{with_part_in}
use Rattle.rl_node.specs.Fits.{AcceptorFits, RunningFits}
use Rattle.rl_node.specs.Inner.{well}
use Rattle.rl_node.specs.Standing.{StandsPart, StandsIn, Stands, is_up_in, is_running}
use Rattle.rl_node.specs.declared.node.Node.{Node}
use Rattle.rl_node.specs.declared.node.Phase.{Phase}
use Rattle.rl_node.specs.declared.node.Phase.TheVariants.{Up, Down, Lost}
use Rattle.rl_node.specs.declared.part.Part as code
use Rattle.rl_node.specs.declared.running.Running.{Running}

-- what a node has while it is up is also of another acceptor
abbrev pub KeepsRunning : Setup → (old new : Acceptor) → Type 0
KeepsRunning setup old new = (r : Running) → RunningFits setup old r → RunningFits setup new r

module _ (setup : Setup) (acceptor acceptor' : Acceptor) (keeps : KeepsRunning setup acceptor acceptor') where
  changed_in : (phase : Phase) (x : NodeState) → is_up_in phase ≡ true → StandsIn setup acceptor phase (well x)
      → (p : code.Part) (part : Part) → StandsPart setup p part
      → StandsIn setup acceptor' (with_part_in phase p) (well (record x { acceptor = acceptor'; part = part }))
  changed_in (Up r) x up s p part stands = record {
    fits = let f = keeps r s.fits in record { known_streams = f.known_streams; known = f.known; played_streams = f.played_streams; begins = f.begins; rows = f.rows };
    part = part;
    stands = stands;
    is =
        let P : Standing → Type 0 = λ y. well (record x { acceptor = acceptor'; part = part }) ≡ record y { node = record y.node { acceptor = acceptor'; part = part } } in
        subst P s.is refl;
  }
  changed_in Down x up s p part stands = absurd (cc)
  changed_in Lost x up s p part stands = absurd (cc)

-- a node that changes its acceptor and its part
pub changed : (setup : Setup) (a : ℕ) (n : Node) (x : NodeState) → is_running n ≡ true → Stands setup a n (well x)
    → (acceptor' : Acceptor) → AcceptorFits setup acceptor' → KeepsRunning setup n.acceptor acceptor'
    → (p : code.Part) (part : Part) → StandsPart setup p part
    → Stands setup a (record n { acceptor = acceptor'; phase = with_part_in n.phase p }) (well (record x { acceptor = acceptor'; part = part }))
changed setup a n x up s acceptor' fits keeps p part stands = record {
  number = s.number;
  first = s.first;
  last = s.last;
  acceptor = fits;
  phase = changed_in setup n.acceptor acceptor' keeps n.phase x up s.phase p part stands;
}
