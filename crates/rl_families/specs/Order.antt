-- Items in the order of their stamps.
use Rattle.std.specs.Prelude.{◌≡◌, List, [], ◌∷◌, if◌then◌else◌, false, AllPairs}
use Rattle.rl_base.specs.Order.{is_below}
use Rattle.rl_txn.specs.declared.item.Item.{Item}

-- an item among others in order: it goes before the first that is not below it
abbrev pub insert_by_stamp : Item → List Item → List Item
insert_by_stamp x [] = x ∷ []
insert_by_stamp x (y ∷ ys) =
    if is_below y.stamp x.stamp then y ∷ insert_by_stamp x ys else x ∷ y ∷ ys

-- the items by rising stamp, and those of one stamp as they stood
abbrev pub in_order : List Item → List Item
in_order [] = []
in_order (x ∷ xs) = insert_by_stamp x (in_order xs)

-- no item has a stamp below that of one before it
abbrev pub IsInOrder : List Item → Type 0
IsInOrder items = AllPairs (λ x y. is_below y.stamp x.stamp ≡ false) items
