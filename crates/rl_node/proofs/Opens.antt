-- With some items an epoch may open: what its records and its core are made of is in range.
use Rattle.std.proofs.Common.{◌≡◌, ◌⊎◌, ℕ, zero, suc, ◌+◌, ◌-◌, ◌*◌, ◌^◌, ◌<◌, ◌≤◌, List, [], ◌∷◌, ◌++◌, length, filter, get_or, ◌==◌, All, Some, refl, sym, ap, ◌∙◌, subst, arith, inl, inr, length-append}
use Rattle.std.specs.Prelude.{slice_get, slice_index}
use Rattle.std.proofs.lemmas.List.{length-map}
use Rattle.std.proofs.lemmas.Option.{slice_get_within}
use Rattle.rl_base.specs.Stamps.{packed}
use Rattle.rl_tables.specs.Numbers.{sizes_of}
use Rattle.rl_txn.specs.Laws.{RowsGoOnFitting}
use Rattle.rl_txn.specs.Serial.{rows_after, indexes_of}
use Rattle.rl_txn.specs.declared.item.Item.{Item}
use Rattle.rl_value.specs.Fits.{RowsFit}
use Rattle.rl_worker.specs.Opening.{CoreFits}
use Rattle.rl_worker.specs.Laws.{OpeningStampsAreEarly, FittingWritesAreThere}
use Rattle.rl_worker.specs.Stamping.{WritesAreThere, opening_stamps}
use Rattle.rl_worker.specs.declared.worker.Worker.{Worker}
use Rattle.rl_nodes.specs.Openings.{opening_leader}
use Rattle.rl_nodes.specs.Setups.{Setup, SetupFits}
use Rattle.rl_node.specs.Fits.{IsEpoch}
use Rattle.rl_node.specs.Opening.{MayOpen, IsAtRest, AreAtRest}
use Rattle.rl_node.proofs.Histories.{filter_length}

at_any : (b : ℕ) → 0 < b → (xs : List ℕ) → All (λ n. n < b) xs → (r : ℕ) → slice_index xs r < b
at_any b some [] h r = some
at_any b some (x ∷ xs) h zero = h 0 x (omega arith)
at_any b some (x ∷ xs) h (suc r) = at_any b some xs (λ k d less. h (suc k) d (omega (arith, less))) r

module _ (there : FittingWritesAreThere) (early : OpeningStampsAreEarly) (go_on : RowsGoOnFitting) (setup : Setup) (sized : SetupFits setup)
    (e : ℕ) (epoch : IsEpoch e) (items : List Item) (may : MayOpen setup e items) where
  pub writes_there : All (WritesAreThere (sizes_of setup.program.tables)) items
  writes_there = λ k d less. there setup.program.tables (get_or items k d) (may.fit k d less)

  below : All (λ (x : Item). packed x.stamp < e * 2 ^ 40) items
  below = λ k d less. under (get_or items k d).stamp.epoch (get_or items k d).stamp.seq (may.earlier k d less) (may.stamps k d less).1
    where
      under : (f s : ℕ) → f < e → s < 2 ^ 40 → f * 2 ^ 40 + s < e * 2 ^ 40
      under f s p q = omega (arith, p, q)

  some : 0 < e * 2 ^ 40
  some = let low = epoch.low in omega (arith, low)

  stamps_early : All (λ n. n < e * 2 ^ 40) (opening_stamps (sizes_of setup.program.tables) items)
  stamps_early = early (sizes_of setup.program.tables) items (e * 2 ^ 40) some below

  pub stamps_small : All (λ n. n < 2 ^ 60) (opening_stamps (sizes_of setup.program.tables) items)
  stamps_small = λ k d less. let small = stamps_early k d less in let high = epoch.high in omega (arith, small, high)

  pub rows_fit : RowsFit setup.program.tables (rows_after setup.program.rows items)
  rows_fit = go_on setup.program.tables setup.program.rows items sized.rows_fit may.fit

  pub core_fits : CoreFits (opening_leader setup.program e items)
  core_fits = record {
    schema = sized.schema;
    lists_fit = sized.lists_fit;
    rows_fit = rows_fit;
    earlier = at_any (e * 2 ^ 40) some (opening_stamps (sizes_of setup.program.tables) items) stamps_early;
  }

-- ---- workers ----

-- what stands at a place of a list with one more
got_more : {X : Type 0} (xs : List X) (x y : X) (i : ℕ) → slice_get (xs ++ x ∷ []) i ≡ Some y → (slice_get xs i ≡ Some y) ⊎ ((i ≡ length xs) × (y ≡ x))
got_more [] x y zero e = inr (refl, let same : x ≡ y = cc in sym same)
got_more [] x y (suc i) e = absurd (cc)
got_more (z ∷ zs) x y zero e = inl e
got_more (z ∷ zs) x y (suc i) e = elim (got_more zs x y i e) [ inl k ↦ inl k | inr k ↦ inr (ap suc k.0, k.1) ]

module _ (setup : Setup) (e n : ℕ) (items : List Item) (workers : List Worker) where
  pub none_at_rest : AreAtRest setup e 0 items []
  none_at_rest = record { count = refl; each = λ w x first got. absurd (let inside = slice_get_within [] (w - 1) x got in omega (arith, inside)) }

  pub one_more_at_rest : AreAtRest setup e n items workers → (x : Worker) → IsAtRest setup e (n + 1) items x
      → AreAtRest setup e (n + 1) items (workers ++ x ∷ [])
  one_more_at_rest h x is = record {
    count = length-append workers (x ∷ []) ∙ ap (λ k. k + 1) h.count;
    each = λ w y first got. elim (got_more workers x y (w - 1) got) [
      | inl k ↦ h.each w y first k
      | inr k ↦ (let count = h.count in let at = k.0 in
          subst (IsAtRest setup e w items) (sym k.1) (subst (λ v. IsAtRest setup e v items x) (let same : n + 1 ≡ w = omega (arith, count, at, first) in same) is))
    ];
  }

pub few_indexes : (w : ℕ) (items : List Item) → length (indexes_of w items) ≤ length items
few_indexes w items =
    let mine = filter (λ (x : Item). x.worker == w) items in
    let same = length-map mine (λ (x : Item). x.index) in
    let few = filter_length (λ (x : Item). x.worker == w) items in omega (arith, same, few)
