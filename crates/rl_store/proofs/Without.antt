-- The records that are held but for one.
use Rattle.std.proofs.Common.{◌≡◌, ◌≢◌, ℕ, zero, suc, ◌≤◌, List, [], ◌∷◌, refl, sym, ap, ◌∙◌, subst, arith, eq-eqb, ne_eqb}
use Rattle.std.specs.Prelude.{if◌then◌else◌}
use mathlib.Core.Logic.{dite}
use mathlib.Core.Option.{some, some-ne-none, some-injective}
use native.Mathlib.Decide.{ℕ_discrete}
use lib.ListN.{get_elem?}
use Rattle.rl_store.specs.declared.view.Held.{Held}
use Rattle.rl_store.specs.Entries.{In}
use Rattle.rl_store.specs.Views.{without}

pub skip : (r : ℕ) (h : Held) (hs : List Held) → h.rec ≡ r → without r (h ∷ hs) ≡ without r hs
skip r h hs e = ap (λ b. if b then without r hs else (h ∷ without r hs)) (eq-eqb h.rec r e)

pub stay : (r : ℕ) (h : Held) (hs : List Held) → h.rec ≢ r → without r (h ∷ hs) ≡ h ∷ without r hs
stay r h hs e = ap (λ b. if b then without r hs else (h ∷ without r hs)) (ne_eqb h.rec r e)

-- each stood at a place, which tells places apart
pub stood : (r : ℕ) (hs : List Held) (i : ℕ) (x : Held) → get_elem? (without r hs) i ≡ some x → (k : ℕ) × (get_elem? hs k ≡ some x) × (x.rec ≢ r) × (i ≤ k)
stood r [] i x e = absurd (some-ne-none x (sym e))
stood r (h ∷ hs) i x e = dite (ℕ_discrete h.rec r)
    (λ same. let y = stood r hs i x (subst (λ l. get_elem? l i ≡ some x) (skip r h hs same) e) in (suc y.0, y.1, y.2, (let a = y.3 in omega arith)))
    (λ ne. go i (λ k p. stood r hs k x p) (subst (λ l. get_elem? l i ≡ some x) (stay r h hs ne) e) ne)
  where
    go : (i : ℕ) → ((k : ℕ) → get_elem? (without r hs) k ≡ some x → (n : ℕ) × (get_elem? hs n ≡ some x) × (x.rec ≢ r) × (k ≤ n)) → get_elem? (h ∷ without r hs) i ≡ some x → h.rec ≢ r → (k : ℕ) × (get_elem? (h ∷ hs) k ≡ some x) × (x.rec ≢ r) × (i ≤ k)
    go zero again e ne = (0, e, (λ z. ne (ap (λ (h : Held). h.rec) (some-injective h x e) ∙ z)), omega arith)
    go (suc i) again e ne = let y = again i e in (suc y.0, y.1, y.2, (let a = y.3 in omega arith))

pub stays : (r : ℕ) (hs : List Held) (k : ℕ) (x : Held) → get_elem? hs k ≡ some x → x.rec ≢ r → In x (without r hs)
stays r [] k x e ne = absurd (some-ne-none x (sym e))
stays r (h ∷ hs) zero x e ne = let z = some-injective h x e in subst (In x) (sym (stay r h hs (λ y. ne (ap (λ (h : Held). h.rec) (sym z) ∙ y)))) (0, e)
stays r (h ∷ hs) (suc k) x e ne = let y = stays r hs k x e ne in dite (ℕ_discrete h.rec r)
    (λ same. subst (In x) (sym (skip r h hs same)) y)
    (λ ne'. subst (In x) (sym (stay r h hs ne')) (suc y.0, y.1))

abbrev pub Once : List Held → Type 0
Once hs = (h g : Held) (i j : ℕ) → get_elem? hs i ≡ some h → get_elem? hs j ≡ some g → h.rec ≡ g.rec → i ≡ j

pub once_without : (r : ℕ) (hs : List Held) → Once hs → Once (without r hs)
once_without r [] o h g i j p q e = absurd (some-ne-none h (sym p))
once_without r (x ∷ hs) o h g i j p q e = dite (ℕ_discrete x.rec r)
    (λ same. once_without r hs tail h g i j (subst (λ l. get_elem? l i ≡ some h) (skip r x hs same) p) (subst (λ l. get_elem? l j ≡ some g) (skip r x hs same) q) e)
    (λ ne. go h g i j (λ h g i j. once_without r hs tail h g i j) (subst (λ l. get_elem? l i ≡ some h) (stay r x hs ne) p) (subst (λ l. get_elem? l j ≡ some g) (stay r x hs ne) q) e)
  where
    tail : Once hs
    tail h g i j p q e = let z : suc i ≡ suc j = o h g (suc i) (suc j) p q e in omega arith

    go : (h g : Held) (i j : ℕ) → Once (without r hs) → get_elem? (x ∷ without r hs) i ≡ some h → get_elem? (x ∷ without r hs) j ≡ some g → h.rec ≡ g.rec → i ≡ j
    go h g zero zero again p q e = refl
    go h g zero (suc j) again p q e = let y = stood r hs j g q in absurd (let z : zero ≡ suc y.0 = o h g zero (suc y.0) p y.1 e in omega arith)
    go h g (suc i) zero again p q e = let y = stood r hs i h p in absurd (let z : suc y.0 ≡ zero = o h g (suc y.0) zero y.1 q e in omega arith)
    go h g (suc i) (suc j) again p q e = ap suc (again h g i j p q e)
