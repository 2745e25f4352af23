-- Laws of the definitions.
use Rattle.std.specs.Prelude.{◌≡◌, ◌<◌, ◌≤◌, ◌+◌, ◌^◌, ◌↔◌, ℕ, List, length, take}
use Rattle.byteorder.specs.Endian.{big_bytes, big_number}
use Rattle.rl_base.specs.Epochs.{next_epoch_of, IsNextEpoch}
use Rattle.rl_base.specs.Numbers.{IsBytes}
use Rattle.rl_base.specs.Order.{IsBelow}
use Rattle.rl_base.specs.Stamps.{packed}
use Rattle.rl_base.specs.declared.stamp.Stamp.{Stamp}

-- the first n bytes are the n bytes of the number that they are
abbrev pub BytesOfNumber : Type 0
BytesOfNumber =
    (n : ℕ) (bytes : List ℕ) → n ≤ length bytes → IsBytes bytes
    → big_bytes n (big_number n bytes) ≡ take n bytes

-- a node's next epoch is its least one above the promise, and at most a round above it
abbrev pub NextEpochs : Type 0
NextEpochs =
    (promised node nodes : ℕ) → 1 ≤ node → node ≤ nodes
    → IsNextEpoch promised node nodes (next_epoch_of promised node nodes)
    × (next_epoch_of promised node nodes ≤ promised + nodes)

-- of stamps whose seqs fit forty bits, one is below another exactly where its number is less
abbrev pub PackedOrder : Type 0
PackedOrder =
    (s t : Stamp) → s.seq < 2 ^ 40 → t.seq < 2 ^ 40 → IsBelow s t ↔ (packed s < packed t)
