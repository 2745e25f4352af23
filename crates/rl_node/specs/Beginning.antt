-- A node that has just begun. No public contract cites it.
use Rattle.std.specs.Prelude.{◌≡◌, ℕ, [], replicate, None}
use Rattle.rl_replay.specs.Standing.{BeginsWithPlayed}
use Rattle.rl_nodes.specs.Nodes.{opening_replica}
use Rattle.rl_nodes.specs.Setups.{Setup}
use Rattle.rl_node.specs.Fits.{IsStream}
use Rattle.rl_node.specs.declared.part.Part.TheVariants.{Follows}
use Rattle.rl_node.specs.declared.running.Running.{Running}

-- a follower that knows of nothing and has played nothing
pub record IsNew (setup : Setup) (r : Running) : Type 0 where
  pub failed : r.failed ≡ None
  pub known : r.known ≡ replicate setup.workers []
  pub replica : r.replica.replaying ≡ opening_replica setup
  pub begins : (s : ℕ) → IsStream setup s → BeginsWithPlayed r.replica s []
  pub part : r.part ≡ Follows
