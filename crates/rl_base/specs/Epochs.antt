-- Which node an epoch belongs to.
use Rattle.std.specs.Prelude.{◌≡◌, ℕ, ◌+◌, ◌-◌, ◌%◌, ◌<◌, ◌≤◌}

-- epoch 1 is the first node's, epoch 2 the second's, and so on in turn
abbrev pub owner_of : ℕ → ℕ → ℕ
owner_of epoch nodes = (epoch - 1) % nodes + 1

-- the least epoch of a node above a promised one: the turns passed over are those before its own
abbrev pub next_epoch_of : ℕ → ℕ → ℕ → ℕ
next_epoch_of promised node nodes =
    promised + 1 + (node - 1 + (nodes - promised % nodes)) % nodes

-- the least epoch above a promised one that belongs to a node
pub record IsNextEpoch (promised node nodes epoch : ℕ) : Type 0 where
  pub above : promised < epoch
  pub own : owner_of epoch nodes ≡ node
  pub least : (e : ℕ) → promised < e → owner_of e nodes ≡ node → epoch ≤ e
