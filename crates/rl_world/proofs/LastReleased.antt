-- The last released stamp.
use Rattle.std.proofs.Common.{◌≡◌, ℕ, zero, suc, ◌+◌, ◌-◌, List, [], ◌∷◌, length, map, slice_get, Option, refl, sym, ap, ◌∙◌, arith}
use Rattle.std.specs.Option.{option_map}
use Rattle.rl_base.specs.declared.stamp.Stamp.{Stamp}
use Rattle.rl_families.specs.Logs.{last_stamp}
use Rattle.rl_txn.specs.declared.item.Item.{Item}

abbrev stamp_of : Item → Stamp
stamp_of x = x.stamp

last_read : (xs : List Item) (i : ℕ) → i + 1 ≡ length xs → last_stamp (map stamp_of xs) ≡ option_map stamp_of (slice_get xs i)
last_read [] i e = absurd (omega arith)
last_read (x ∷ []) zero e = refl
last_read (x ∷ []) (suc i) e = absurd (omega arith)
last_read (x ∷ (y ∷ xs)) zero e = absurd (omega arith)
last_read (x ∷ (y ∷ xs)) (suc i) e = last_read (y ∷ xs) i (omega arith)

-- the stamp of the last of some items
pub last_is : (xs : List Item) (o : Option Item) → o ≡ slice_get xs (length xs - 1) → option_map stamp_of o ≡ last_stamp (map stamp_of xs)
last_is [] o e = ap (option_map stamp_of) e
last_is (x ∷ xs) o e =
    let end : length (x ∷ xs) - 1 + 1 ≡ length (x ∷ xs) = omega arith in
    ap (option_map stamp_of) e ∙ sym (last_read (x ∷ xs) (length (x ∷ xs) - 1) end)
