use Rattle.std.proofs.Common.{refl, sym, subst}
use Rattle.rl_paxos.specs.Acceptors.{new_acceptor}
use Rattle.rl_election.specs.World.{Up}
use Rattle.rl_node.specs.Fits.{AcceptorFits}
use Rattle.rl_node.specs.SetupOf.{setup_of}
use Rattle.rl_node.specs.Standing.{StandsUp, away_with}
use Rattle.rl_node.proofs.Beginnings.{new_fits, new_stands}
use Rattle.rl_node.proofs.node.Node.new.Goals as goal

pub returns : goal.returns
returns c =
    let setup = setup_of c.args.setup.now in
    let r = c.in_ok-new-2.field-0 in
    record {
      number = refl;
      first = c.requires.first;
      last = c.requires.last;
      acceptor = subst (AcceptorFits setup) (sym c.in_ok-new.ensures) (new_fits setup);
      phase = subst (λ acceptor. StandsUp setup acceptor r (away_with setup (new_acceptor setup.workers) Up)) (sym c.in_ok-new.ensures)
          (new_stands setup (new_acceptor setup.workers) r c.in_ok-new-2.ensures);
    }
