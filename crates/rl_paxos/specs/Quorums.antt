-- Nodes and quorums. A first quorum promises and a second one accepts: as in Flexible Paxos, only two of different kinds have to meet.
use Rattle.std.specs.Prelude.{ℕ, zero, suc, ◌+◌, Bool, ◌&&◌, nat_le, if◌then◌else◌}

-- nodes are numbered from 1
abbrev pub is_node : (nodes node : ℕ) → Bool
is_node nodes node = nat_le 1 node && nat_le node nodes

-- how many of the nodes pass a test
abbrev pub count : (ℕ → Bool) → (nodes : ℕ) → ℕ
count test zero = 0
count test (suc n) = (if test (suc n) then 1 else 0) + count test n

-- whether those that pass are a quorum of a size
abbrev pub is_quorum : (size nodes : ℕ) → (ℕ → Bool) → Bool
is_quorum size nodes test = nat_le size (count test nodes)
