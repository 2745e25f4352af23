-- What a network keeps beside its messages.
use Rattle.std.specs.Prelude.{◌≡◌, ℕ, ◌≤◌, List}
use Rattle.std.specs.Ordering.{nat_cmp}
use Rattle.std.specs.BTreeSet.{BTreeSet, contains}
use Rattle.rl_base.specs.declared.limit.TheConstants.{BYTES}
use Rattle.rl_net.specs.declared.message.Message.{Message}
use Rattle.rl_net.specs.Messages.{is_pending, bytes_sent}

-- the count of all bytes, which is within the limit, and the numbers of the pending messages
pub record IsKept (net : List Message) (bytes : ℕ) (pending : BTreeSet ℕ) : Type 0 where
  pub counted : bytes ≡ bytes_sent net
  pub few : bytes ≤ BYTES
  pub listed : (number : ℕ) → contains nat_cmp pending number ≡ is_pending net number
