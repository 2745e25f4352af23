use Rattle.rl_nodes.proofs.ChangesInStreams as changes
use Rattle.rl_nodes.proofs.laws.changes_are_streams.Goals as goal

pub returns-clause-alone : goal.returns-clause-alone
returns-clause-alone c = changes.nodes_change_as_streams

pub returns-clause-proposes : goal.returns-clause-proposes
returns-clause-proposes c = changes.leaders_propose_as_streams
