-- Families of logs, one log for each worker's stream, and what they decide together, after Rolis:
-- nothing above the watermark counts.
use Rattle.std.specs.Prelude.{ℕ, min, List, [], ◌∷◌, Bool, ◌&&◌, ◌==◌, nat_lt, nat_le, if◌then◌else◌, map, filter, All}
use Rattle.std.specs.List.{flat_map, AllZip}
use Rattle.rl_base.specs.Lists.{IsPrefix}
use Rattle.rl_base.specs.declared.stamp.Stamp.{Stamp}
use Rattle.rl_base.specs.declared.bound.Bound.{Bound}
use Rattle.rl_base.specs.declared.bound.Bound.TheVariants.{Final, Rising, Beyond}
use Rattle.rl_txn.specs.declared.item.Item.{Item}
use Rattle.rl_txn.specs.declared.batch.Batch.{Batch}
use Rattle.rl_families.specs.Logs.{stamps_along, items_along, IsRising, top_epoch, last_seq}
use Rattle.rl_families.specs.Order.{in_order}

-- the least of some numbers, and 0 of none
abbrev pub least : List ℕ → ℕ
least [] = 0
least (n ∷ []) = n
least (n ∷ (m ∷ ms)) = min n (least (m ∷ ms))

-- the least top: every log has come to this epoch
abbrev pub least_top : (family : List (List Batch)) → ℕ
least_top family = least (map top_epoch family)

-- the least last seq of an epoch: every log has come so far in it
abbrev pub all_reached : (family : List (List Batch)) → (epoch : ℕ) → ℕ
all_reached family epoch = least (map (λ log. last_seq log epoch) family)

-- how far the items of an epoch count
abbrev pub bound_of : (family : List (List Batch)) → (epoch : ℕ) → Bound
bound_of family epoch =
    if nat_lt epoch (least_top family) then Final (all_reached family epoch)
    else (if epoch == least_top family then Rising (all_reached family epoch) else Beyond)

-- the watermark: the least top, and how far every log has come in that epoch
abbrev pub watermark : (family : List (List Batch)) → ℕ × ℕ
watermark family =
    (least_top family, (if least_top family == 0 then 0 else all_reached family (least_top family)))

-- what counts: in each epoch as much as every log has reached, and nothing of an epoch that some
-- log has not come to
abbrev pub is_counted : (family : List (List Batch)) → Stamp → Bool
is_counted family s =
    nat_lt 0 s.epoch
    && (nat_le s.epoch (least_top family) && nat_le s.seq (all_reached family s.epoch))

-- the history: every item that counts, by rising stamp, and those of one stamp by stream
abbrev pub history : (family : List (List Batch)) → List Item
history family = in_order (filter (λ x. is_counted family x.stamp) (flat_map items_along family))

-- a family inside another: each of its logs is a prefix of the other's
abbrev pub IsInside : (family larger : List (List Batch)) → Type 0
IsInside family larger = AllZip IsPrefix family larger

-- the stamps rise along each log
abbrev pub AllRise : (family : List (List Batch)) → Type 0
AllRise family = All (λ log. IsRising (stamps_along log)) family
