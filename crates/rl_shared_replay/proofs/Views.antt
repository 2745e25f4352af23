-- What holds of each view, of any two or of some one, after a view is set or one more comes.
use Rattle.std.proofs.Common.{◌≡◌, ◌≢◌, ◌⊎◌, ℕ, zero, suc, ◌<◌, List, [], ◌∷◌, ◌++◌, length, set, refl, sym, ap, ◌∙◌, subst, inl, inr, ⊎_elim, arith}
use mathlib.Core.Option.{some, some-injective, some-ne-none}
use mathlib.Core.Logic.{dite}
use native.Mathlib.Decide.{ℕ_discrete}
use lib.ListN.{get_elem?}
use Rattle.atomic_table.proofs.Lists.{at_set, set_here, set_else, at_longer}
use Rattle.rl_shared_replay.specs.declared.view.View.{View}
use Rattle.rl_shared_replay.specs.Rule.{OfSome}

pub at_end : (l : List View) (a b : View) (j : ℕ) → get_elem? (l ++ a ∷ []) j ≡ some b → (get_elem? l j ≡ some b) ⊎ ((j ≡ length l) × (a ≡ b))
at_end [] a b zero e = inr (refl, some-injective a b e)
at_end [] a b (suc j) e = absurd (some-ne-none b (sym e))
at_end (x ∷ xs) a b zero e = inl e
at_end (x ∷ xs) a b (suc j) e = ⊎_elim (λ h. inl h) (λ t. inr (ap suc t.0, t.1)) (at_end xs a b j e)

pub at_below : (l : List View) (b : View) (j : ℕ) → get_elem? l j ≡ some b → j < length l
at_below [] b j e = absurd (some-ne-none b (sym e))
at_below (x ∷ xs) b zero e = omega arith
at_below (x ∷ xs) b (suc j) e = let h = at_below xs b j e in omega arith

-- P holds of each view
abbrev pub Each : (P : View → Type 0) (views : List View) → Type 0
Each P views = (id : ℕ) (v : View) → get_elem? views id ≡ some v → P v

pub each_set : (P : View → Type 0) (views : List View) (id : ℕ) (w : View) → ((j : ℕ) (u : View) → j ≢ id → get_elem? views j ≡ some u → P u) → P w → Each P (set views id w)
each_set P views id w others mine j u e =
    ⊎_elim
    (λ (x : (j ≡ id) × (w ≡ u)). subst P x.1 mine)
    (λ (x : (j ≢ id) × (get_elem? views j ≡ some u)). others j u x.0 x.1)
    (at_set views id j w u e)

pub each_snoc : (P : View → Type 0) (views : List View) (w : View) → Each P views → P w → Each P (views ++ w ∷ [])
each_snoc P views w others mine j u e =
    ⊎_elim
    (λ (h : get_elem? views j ≡ some u). others j u h)
    (λ (x : (j ≡ length views) × (w ≡ u)). subst P x.1 mine)
    (at_end views w u j e)

-- P holds of any two views
abbrev pub Pairs : (P : View → View → Type 0) (views : List View) → Type 0
Pairs P views = (i j : ℕ) (v w : View) → i ≢ j → get_elem? views i ≡ some v → get_elem? views j ≡ some w → P v w

pub pairs_set : (P : View → View → Type 0) (views : List View) (id : ℕ) (w : View) → Pairs P views → ((j : ℕ) (u : View) → j ≢ id → get_elem? views j ≡ some u → P w u × P u w) → Pairs P (set views id w)
pairs_set P views id w old mine i j a b apart ea eb =
    ⊎_elim
    (λ (x : (i ≡ id) × (w ≡ a)).
    ⊎_elim
    (λ (y : (j ≡ id) × (w ≡ b)). absurd (apart (x.0 ∙ sym y.0)))
    (λ (y : (j ≢ id) × (get_elem? views j ≡ some b)). subst (λ z. P z b) x.1 (mine j b y.0 y.1).0)
    (at_set views id j w b eb))
    (λ (x : (i ≢ id) × (get_elem? views i ≡ some a)).
    ⊎_elim
    (λ (y : (j ≡ id) × (w ≡ b)). subst (λ z. P a z) y.1 (mine i a x.0 x.1).1)
    (λ (y : (j ≢ id) × (get_elem? views j ≡ some b)). old i j a b apart x.1 y.1)
    (at_set views id j w b eb))
    (at_set views id i w a ea)

pub pairs_snoc : (P : View → View → Type 0) (views : List View) (w : View) → Pairs P views → ((j : ℕ) (u : View) → get_elem? views j ≡ some u → P w u × P u w) → Pairs P (views ++ w ∷ [])
pairs_snoc P views w old mine i j a b apart ea eb =
    ⊎_elim
    (λ (x : get_elem? views i ≡ some a).
    ⊎_elim
    (λ (y : get_elem? views j ≡ some b). old i j a b apart x y)
    (λ (y : (j ≡ length views) × (w ≡ b)). subst (λ z. P a z) y.1 (mine i a x).1)
    (at_end views w b j eb))
    (λ (x : (i ≡ length views) × (w ≡ a)).
    ⊎_elim
    (λ (y : get_elem? views j ≡ some b). subst (λ z. P z b) x.1 (mine j b y).0)
    (λ (y : (j ≡ length views) × (w ≡ b)). absurd (apart (x.0 ∙ sym y.0)))
    (at_end views w b j eb))
    (at_end views w a i ea)

-- a view in which P holds is still there, or is w
pub some_set : (P : View → Type 0) (views : List View) (id : ℕ) (v w : View) → get_elem? views id ≡ some v → (P v → P w) → OfSome P views → OfSome P (set views id w)
some_set P views id v w at more h = dite (ℕ_discrete h.0 id)
    (λ e. (id, w, set_here views id w (at_below views v id at), more (subst P (some-injective h.1 v (sym h.2 ∙ (ap (get_elem? views) e ∙ at))) h.3)))
    (λ ne. (h.0, h.1, set_else views id h.0 w ne ∙ h.2, h.3))

pub some_back : (P : View → Type 0) (views : List View) (id : ℕ) (v w : View) → get_elem? views id ≡ some v → (P w → P v) → OfSome P (set views id w) → OfSome P views
some_back P views id v w at less h = ⊎_elim
    (λ (t : (h.0 ≡ id) × (w ≡ h.1)). (id, v, at, less (subst P (sym t.1) h.3)))
    (λ (t : (h.0 ≢ id) × (get_elem? views h.0 ≡ some h.1)). (h.0, h.1, t.1, h.3))
    (at_set views id h.0 w h.1 h.2)

pub some_longer : (P : View → Type 0) (views : List View) (w : View) → OfSome P views → OfSome P (views ++ w ∷ [])
some_longer P views w h = (h.0, h.1, at_longer views (w ∷ []) h.0 h.1 h.2, h.3)

pub some_shorter : (P : View → Type 0) (views : List View) (w : View) → (P w → ⊥) → OfSome P (views ++ w ∷ []) → OfSome P views
some_shorter P views w none h = ⊎_elim
    (λ (e : get_elem? views h.0 ≡ some h.1). (h.0, h.1, e, h.3))
    (λ (x : (h.0 ≡ length views) × (w ≡ h.1)). absurd (none (subst P (sym x.1) h.3)))
    (at_end views w h.1 h.0 h.2)
