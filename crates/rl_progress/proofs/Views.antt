-- What holds of each view, or of any two, after a view is set or one more comes.
use Rattle.std.proofs.Common.{◌≡◌, ◌≢◌, ◌⊎◌, ℕ, zero, suc, ◌<◌, List, [], ◌∷◌, ◌++◌, length, set, refl, sym, ap, ◌∙◌, subst, inl, inr, ⊎_elim, arith}
use mathlib.Core.Option.{some, some-injective, some-ne-none}
use mathlib.Core.Logic.{dite}
use native.Mathlib.Decide.{ℕ_discrete}
use lib.ListN.{get_elem?}
use Rattle.atomic_table.proofs.Lists.{at_set, set_here, set_else, at_longer}

module _ {V : Type 0} where
  pub at_end : (l : List V) (a b : V) (j : ℕ) → get_elem? (l ++ a ∷ []) j ≡ some b → (get_elem? l j ≡ some b) ⊎ ((j ≡ length l) × (a ≡ b))
  at_end [] a b zero e = inr (refl, some-injective a b e)
  at_end [] a b (suc j) e = absurd (some-ne-none b (sym e))
  at_end (x ∷ xs) a b zero e = inl e
  at_end (x ∷ xs) a b (suc j) e = ⊎_elim (λ h. inl h) (λ t. inr (ap suc t.0, t.1)) (at_end xs a b j e)

  pub at_below : (l : List V) (b : V) (j : ℕ) → get_elem? l j ≡ some b → j < length l
  at_below [] b j e = absurd (some-ne-none b (sym e))
  at_below (x ∷ xs) b zero e = omega arith
  at_below (x ∷ xs) b (suc j) e = let h = at_below xs b j e in omega arith

  pub each_set : (P : ℕ → V → Type 0) (views : List V) (id : ℕ) (w : V) → ((j : ℕ) (u : V) → j ≢ id → get_elem? views j ≡ some u → P j u) → P id w → (j : ℕ) (u : V) → get_elem? (set views id w) j ≡ some u → P j u
  each_set P views id w others mine j u e =
      ⊎_elim
      (λ (x : (j ≡ id) × (w ≡ u)). subst (λ (y : ℕ × V). P y.0 y.1) (λ i. (sym x.0 i, x.1 i)) mine)
      (λ (x : (j ≢ id) × (get_elem? views j ≡ some u)). others j u x.0 x.1)
      (at_set views id j w u e)

  pub each_snoc : (P : ℕ → V → Type 0) (views : List V) (w : V) → ((j : ℕ) (u : V) → get_elem? views j ≡ some u → P j u) → P (length views) w → (j : ℕ) (u : V) → get_elem? (views ++ w ∷ []) j ≡ some u → P j u
  each_snoc P views w others mine j u e =
      ⊎_elim
      (λ (h : get_elem? views j ≡ some u). others j u h)
      (λ (x : (j ≡ length views) × (w ≡ u)). subst (λ (y : ℕ × V). P y.0 y.1) (λ i. (sym x.0 i, x.1 i)) mine)
      (at_end views w u j e)

  -- P holds of any two views
  abbrev pub Pairs : (V → V → Type 0) → List V → Type 0
  Pairs P views = (i j : ℕ) (v w : V) → i ≢ j → get_elem? views i ≡ some v → get_elem? views j ≡ some w → P v w

  pub pairs_set : (P : V → V → Type 0) (views : List V) (id : ℕ) (w : V) → Pairs P views → ((j : ℕ) (u : V) → j ≢ id → get_elem? views j ≡ some u → P w u × P u w) → Pairs P (set views id w)
  pairs_set P views id w old mine i j a b apart ea eb =
      ⊎_elim
      (λ (x : (i ≡ id) × (w ≡ a)).
      ⊎_elim
      (λ (y : (j ≡ id) × (w ≡ b)). absurd (apart (x.0 ∙ sym y.0)))
      (λ (y : (j ≢ id) × (get_elem? views j ≡ some b)). subst (λ z. P z b) x.1 (mine j b y.0 y.1).0)
      (at_set views id j w b eb))
      (λ (x : (i ≢ id) × (get_elem? views i ≡ some a)).
      ⊎_elim
      (λ (y : (j ≡ id) × (w ≡ b)). subst (λ z. P a z) y.1 (mine i a x.0 x.1).1)
      (λ (y : (j ≢ id) × (get_elem? views j ≡ some b)). old i j a b apart x.1 y.1)
      (at_set views id j w b eb))
      (at_set views id i w a ea)

  pub pairs_snoc : (P : V → V → Type 0) (views : List V) (w : V) → Pairs P views → ((j : ℕ) (u : V) → get_elem? views j ≡ some u → P w u × P u w) → Pairs P (views ++ w ∷ [])
  pairs_snoc P views w old mine i j a b apart ea eb =
      ⊎_elim
      (λ (x : get_elem? views i ≡ some a).
      ⊎_elim
      (λ (y : get_elem? views j ≡ some b). old i j a b apart x y)
      (λ (y : (j ≡ length views) × (w ≡ b)). subst (λ z. P a z) y.1 (mine i a x).1)
      (at_end views w b j eb))
      (λ (x : (i ≡ length views) × (w ≡ a)).
      ⊎_elim
      (λ (y : get_elem? views j ≡ some b). subst (λ z. P z b) x.1 (mine j b y).0)
      (λ (y : (j ≡ length views) × (w ≡ b)). absurd (apart (x.0 ∙ sym y.0)))
      (at_end views w b j eb))
      (at_end views w a i ea)

  -- P holds of some view
  abbrev pub OfSome : (V → Type 0) → List V → Type 0
  OfSome P views = (id : ℕ) × (v : V) × (get_elem? views id ≡ some v) × P v

  pub some_set : (P : V → Type 0) (views : List V) (id : ℕ) (v w : V) → get_elem? views id ≡ some v → (P v → P w) → OfSome P views → OfSome P (set views id w)
  some_set P views id v w at more h = dite (ℕ_discrete h.0 id)
      (λ e. (id, w, set_here views id w (at_below views v id at), more (subst P (some-injective h.1 v (sym h.2 ∙ (ap (get_elem? views) e ∙ at))) h.3)))
      (λ ne. (h.0, h.1, set_else views id h.0 w ne ∙ h.2, h.3))

  pub some_longer : (P : V → Type 0) (views : List V) (w : V) → OfSome P views → OfSome P (views ++ w ∷ [])
  some_longer P views w h = (h.0, h.1, at_longer views (w ∷ []) h.0 h.1 h.2, h.3)
