use Rattle.rl_nodes.proofs.InStreams as streams
use Rattle.rl_nodes.proofs.laws.nodes_are_streams.Goals as goal

pub returns : goal.returns
returns c = streams.nodes_take_as_streams
