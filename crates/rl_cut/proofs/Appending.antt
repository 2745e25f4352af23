-- A batch that is not refused keeps the stamps of its log rising.
use Rattle.std.proofs.Common.{◌≡◌, ◌⊎◌, ℕ, ◌<◌, List, [], ◌∷◌, ◌++◌, length, get_or, Some, None, sym, ap, ◌∙◌, subst, inl, inr}
use Rattle.std.specs.Prelude.{slice_set}
use Rattle.std.proofs.lemmas.Bool.{cases_Bool}
use Rattle.std.proofs.lemmas.List.{append-nil}
use Rattle.std.proofs.lemmas.List.Elements.{All-set, All-get_or}
use Rattle.rl_base.specs.declared.stamp.Stamp.{Stamp}
use Rattle.rl_txn.specs.declared.batch.Batch.{Batch}
use Rattle.rl_base.specs.Order.{IsBelow, is_below}
use Rattle.rl_base.proofs.OrderLemmas.{is_below_tells, below_trans}
use Rattle.rl_families.specs.Logs.{stamps_in_batch, stamps_along, IsRising, first_stamp, last_stamp}
use Rattle.rl_families.specs.Families.{AllRise}
use Rattle.rl_base.proofs.Members.{In}
use Rattle.rl_families.proofs.Logs.{stamps_along-append}
use Rattle.rl_families.proofs.Rising.{Above, Rises, rises_from, from_rises, above_in, above_append, rises_append, last_is, below_last}
use Rattle.rl_cut.specs.Refusals.{order_refusal}
use Rattle.rl_cut.specs.Kept.{AreLastOf}
use Rattle.rl_cut.proofs.ByEpoch.{Climbs, Later}

first_is : (s : Stamp) (ss : List Stamp) → Rises (s ∷ ss) → (t : Stamp) → In t (s ∷ ss) → (t ≡ s) ⊎ IsBelow s t
first_is s ss r t i = elim i [ inl e ↦ inl e | inr j ↦ inr (above_in s ss t r.0 j) ]

joins : (ss ts : List Stamp) → Rises ss → Rises ts → order_refusal (last_stamp ss) (first_stamp ts) ≡ None → Rises (ss ++ ts)
joins [] ts a b h = b
joins (s ∷ ss) [] a b h = subst Rises (sym (append-nil (s ∷ ss))) a
joins (s ∷ ss) (t ∷ ts) a b h =
    let k = last_is s ss in
    let h2 : order_refusal (Some k.0) (Some t) ≡ None = rw k.2 at h in
    let below : IsBelow k.0 t = elim (cases_Bool (is_below k.0 t)) [ inl p ↦ is_below_tells k.0 t p | inr p ↦ absurd (let n = rw p at h2 in cc) ] in
    rises_append (s ∷ ss) (t ∷ ts) a b (λ u v i j. across u k.0 t v (below_last s ss a k.0 k.2 u i) below (first_is t ts b v j))
  where
    across : (u l f v : Stamp) → (u ≡ l) ⊎ IsBelow u l → IsBelow l f → (v ≡ f) ⊎ IsBelow f v → IsBelow u v
    across u l f v p q r = elim p [
      | inl e ↦ rw e (elim r [ inl g ↦ rw g q | inr g ↦ below_trans l f v q g ])
      | inr e ↦ elim r [ inl g ↦ rw g (below_trans u l f e q) | inr g ↦ below_trans u f v (below_trans u l f e q) g ]
    ]

pub extended_rises : (family : List (List Batch)) (i : ℕ) (batch : Batch) → i < length family → AllRise family → IsRising (stamps_in_batch batch)
    → order_refusal (last_stamp (stamps_along (get_or family i []))) (first_stamp (stamps_in_batch batch)) ≡ None → AllRise (slice_set family i (get_or family i [] ++ batch ∷ []))
extended_rises family i batch l a b h =
    let log = get_or family i [] in
    let all : Rises (stamps_along log ++ stamps_in_batch batch) = joins (stamps_along log) (stamps_in_batch batch) (rises_from (stamps_along log) (All-get_or (λ x. IsRising (stamps_along x)) family i [] l a)) (rises_from (stamps_in_batch batch) b) h in
    let same : stamps_along (log ++ batch ∷ []) ≡ stamps_along log ++ stamps_in_batch batch = stamps_along-append log (batch ∷ []) ∙ ap (λ z. stamps_along log ++ z) (append-nil (stamps_in_batch batch)) in
    All-set (λ x. IsRising (stamps_along x)) family i (log ++ batch ∷ []) (from_rises (stamps_along (log ++ batch ∷ [])) (subst Rises (sym same) all)) a

-- the last stamps of its log and then those of the batch rise
pub noted_from : (family : List (List Batch)) (reached : List (List Stamp)) (i : ℕ) (batch : Batch) → i < length family → AreLastOf (stamps_along (get_or family i [])) (get_or reached i []) → AllRise family → Climbs (get_or reached i []) → IsRising (stamps_in_batch batch)
    → order_refusal (last_stamp (stamps_along (get_or family i []))) (first_stamp (stamps_in_batch batch)) ≡ None → Rises (get_or reached i [] ++ stamps_in_batch batch)
noted_from family reached i batch l h a c b free =
    joins (get_or reached i []) (stamps_in_batch batch) (climbs_rise (get_or reached i []) c) (rises_from (stamps_in_batch batch) b) (ap (λ o. order_refusal o (first_stamp (stamps_in_batch batch))) h.last ∙ free)
  where
    above_later : (s : Stamp) (ss : List Stamp) → Later s.epoch ss → Above s ss
    above_later s ss h = above_append s [] ss tt (λ u i. inl (h u i))

    climbs_rise : (ss : List Stamp) → Climbs ss → Rises ss
    climbs_rise [] c = tt
    climbs_rise (s ∷ ss) c = (above_later s ss c.0, climbs_rise ss c.1)
