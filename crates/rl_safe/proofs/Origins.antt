-- Where each batch of a leader's log was proposed.
use Rattle.std.proofs.Common.{ℕ, zero, suc, ◌<◌, ◌≤◌, ◌∷◌, subst, arith, inl, inr}
use Rattle.rl_base.specs.Lists.{IsPrefix}
use Rattle.rl_base.specs.declared.stamp.Stamp.{Stamp}
use Rattle.rl_base.proofs.Members.{In, in_split}
use Rattle.rl_base.proofs.Prefixes.{prefix_in}
use Rattle.rl_txn.specs.declared.batch.Batch.{Batch}
use Rattle.rl_txn.specs.declared.item.Item.{Item}
use Rattle.rl_families.specs.Leaders.{Leaders, leader_log, open_mark}
use Rattle.rl_families.specs.Logs.{stamps_in_batch, items_in_batch, stamps_along, items_along}
use Rattle.rl_nodes.proofs.Deliveries.{flat_in}
use Rattle.rl_safe.proofs.Listed.{in_flat}

-- what was recovered begins an earlier leader's log
abbrev pub Recovers : Leaders → Type 0
Recovers l = (e s : ℕ) → 0 < e → (before : ℕ) × (before < e) × IsPrefix (l.recovered e s) (leader_log l before s)

module _ (l : Leaders) (recovers : Recovers l) where
  -- it is the open mark of an epoch, or its leader proposed it
  abbrev Told : (s : ℕ) → (below : ℕ) → Batch → Type 0
  Told s below b = (f : ℕ) × (0 < f) × (f < below) × In b (open_mark f ∷ l.proposed f s)

  told_up : (s low high : ℕ) (b : Batch) → low ≤ high → Told s low b → Told s high b
  told_up s low high b h t = (t.0, t.1, omega (arith, t.2, h), t.3)

  told_at : (bound e s : ℕ) → e < bound → (b : Batch) → In b (leader_log l e s) → Told s (suc e) b
  told_at zero e s h b i = absurd (omega (arith, h))
  told_at (suc bound) zero s h b i = absurd i
  told_at (suc bound) (suc e) s h b i = elim (in_split (l.recovered (suc e) s) (open_mark (suc e) ∷ l.proposed (suc e) s) b i) [
    | inl j ↦ (let from = recovers (suc e) s (omega arith) in
        told_up s (suc from.0) (suc (suc e)) b (omega (arith, from.1))
        (told_at bound from.0 s (omega (arith, from.1, h)) b (prefix_in b (l.recovered (suc e) s) (leader_log l from.0 s) from.2 j)))
    | inr j ↦ (suc e, omega arith, omega arith, j)
  ]

  told : (e s : ℕ) → 0 < e → (b : Batch) → In b (l.recovered e s) → Told s e b
  told e s h b i =
      let from = recovers e s h in
      told_up s (suc from.0) e b (omega (arith, from.1))
      (told_at (suc from.0) from.0 s (omega arith) b (prefix_in b (l.recovered e s) (leader_log l from.0 s) from.2 i))

  -- an item that was recovered was proposed at an earlier epoch
  pub item_from : (e s : ℕ) → 0 < e → (x : Item) → In x (items_along (l.recovered e s))
      → (f : ℕ) × (0 < f) × (f < e) × In x (items_along (l.proposed f s))
  item_from e s h x i =
      let b = flat_in items_in_batch (l.recovered e s) x i in
      let t = told e s h b.0 b.1 in
      (t.0, t.1, t.2, proposed_item t.0 b.0 t.3 b.2)
    where
      proposed_item : (f : ℕ) (b : Batch) → In b (open_mark f ∷ l.proposed f s) → In x (items_in_batch b) → In x (items_along (l.proposed f s))
      proposed_item f b i j = elim i [
        | inl e ↦ absurd (subst (λ c. In x (items_in_batch c)) e j)
        | inr k ↦ in_flat items_in_batch (l.proposed f s) b x k j
      ]

  -- and so with a stamp, which may be that of an open mark
  pub stamp_from : (e s : ℕ) → 0 < e → (t : Stamp) → In t (stamps_along (l.recovered e s))
      → (f : ℕ) × (0 < f) × (f < e) × In t (stamps_along (open_mark f ∷ l.proposed f s))
  stamp_from e s h t i =
      let b = flat_in stamps_in_batch (l.recovered e s) t i in
      let k = told e s h b.0 b.1 in
      (k.0, k.1, k.2, in_flat stamps_in_batch (open_mark k.0 ∷ l.proposed k.0 s) b.0 t k.3 b.2)
