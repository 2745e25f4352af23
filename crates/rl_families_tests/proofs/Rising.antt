-- Items with one stamp after the other.
use Rattle.std.proofs.Common.{◌≡◌, ℕ, zero, suc, ◌+◌, ◌<◌, List, [], ◌∷◌, length, get_or, map, refl, sym, ap, ◌∙◌, subst, arith, inl, inr}
use Rattle.rl_base.specs.declared.stamp.Stamp.{Stamp}
use Rattle.rl_base.specs.Order.{IsBelow}
use Rattle.rl_txn.specs.declared.item.Item.{Item}
use Rattle.rl_families.specs.Logs.{IsRising}

stamp_at : (items : List Item) (k : ℕ) (d : Stamp) → k < length (map (λ (x : Item). x.stamp) items) → (x : Item) × (k < length items) × ((e : Item) → get_or items k e ≡ x) × (get_or (map (λ (x : Item). x.stamp) items) k d ≡ x.stamp)
stamp_at [] k d l = absurd (omega arith)
stamp_at (x ∷ xs) zero d l = (x, omega arith, λ e. refl, refl)
stamp_at (x ∷ xs) (suc k) d l = let t = stamp_at xs k d (omega arith) in (t.0, (let m = t.1 in omega arith), t.2, t.3)

pub rise_from : (items : List Item) (epoch seq : ℕ) → ((k : ℕ) (d : Item) → k < length items → (get_or items k d).stamp ≡ record { epoch = epoch; seq = seq + k }) → IsRising (map (λ (x : Item). x.stamp) items)
rise_from items epoch seq h i j d a l =
    let s = stamp_at items i d (omega arith) in
    let t = stamp_at items j d l in
    let x : s.0.stamp ≡ record { epoch = epoch; seq = seq + i } = ap (λ (z : Item). z.stamp) (sym (s.2 s.0)) ∙ h i s.0 s.1 in
    let y : t.0.stamp ≡ record { epoch = epoch; seq = seq + j } = ap (λ (z : Item). z.stamp) (sym (t.2 t.0)) ∙ h j t.0 t.1 in
    subst (λ u. IsBelow u (get_or (map (λ (z : Item). z.stamp) items) j d)) (sym (s.3 ∙ x)) (subst (λ u. IsBelow (record { epoch = epoch; seq = seq + i }) u) (sym (t.3 ∙ y)) (inr (refl, omega arith)))
