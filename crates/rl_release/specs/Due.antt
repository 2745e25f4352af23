-- When a reply may leave: once the watermark has reached its stamp, as in Rolis.
use Rattle.std.specs.Prelude.{ℕ, ◌≤◌, List, [], ◌∷◌}
use Rattle.rl_base.specs.Stamps.{packed}
use Rattle.rl_txn.specs.declared.item.Item.{Item}

-- the first item of the queue has a stamp up to this one
abbrev pub IsDue : ℕ → List Item → Type 0
IsDue upto [] = ⊥
IsDue upto (x ∷ xs) = packed x.stamp ≤ upto
