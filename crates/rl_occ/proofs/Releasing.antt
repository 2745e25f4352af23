-- One lock less.
use Rattle.std.proofs.Common.{◌≡◌, ◌≢◌, ℕ, suc, List, [], ◌∷◌, map, length, refl, sym, ap, ◌∙◌, subst, true≢false, arith}
use mathlib.Core.Option.{some}
use lib.ListN.{get_elem?}
use Rattle.rl_store.specs.declared.view.Held.{Held}
use Rattle.rl_store.specs.declared.view.View.{View}
use Rattle.rl_store.specs.Entries.{IsDecided}
use Rattle.rl_store.specs.Passes.{HoldsWord}
use Rattle.rl_store.specs.Views.{blank, rested, without, unlocked_with}
use Rattle.rl_store.proofs.Loads.{Some≢None}
use Rattle.rl_store.proofs.Without.{skip, stay}
use Rattle.rl_occ.specs.declared.sets.Lock.{Lock}
use Rattle.rl_occ.specs.Locking.{AreApart, held_of}

-- the locks of other records stay
pub others_stay : (r : ℕ) (ls : List Lock) → ((j : ℕ) (y : Lock) → get_elem? ls j ≡ some y → y.rec ≢ r) → without r (map held_of ls) ≡ map held_of ls
others_stay r [] h = refl
others_stay r (l ∷ ls) h = stay r (held_of l) (map held_of ls) (h 0 l refl) ∙ ap (λ xs. held_of l ∷ xs) (others_stay r ls (λ j y e. h (suc j) y e))

-- the first of the locks goes
pub first_goes : (l : Lock) (ls : List Lock) → AreApart (l ∷ ls) → without l.rec (map held_of (l ∷ ls)) ≡ map held_of ls
first_goes l ls apart = skip l.rec (held_of l) (map held_of ls) refl ∙ others_stay l.rec ls (λ j y e same. absurd (let z : suc j ≡ 0 = apart (suc j) 0 y l e refl same in omega arith))

pub apart_rest : (l : Lock) (ls : List Lock) → AreApart (l ∷ ls) → AreApart ls
apart_rest l ls apart i j x y p q e = let z : suc i ≡ suc j = apart (suc i) (suc j) x y p q e in omega arith

-- what holds of a view between the unlocks of an attempt
pub record IsLettingGo (v w : View) (ls : List Lock) : Type 0 where
  pub apart : AreApart ls
  pub rest : rested w ≡ rested v
  pub held : w.attempt.held ≡ map held_of ls
  pub undecided : IsDecided w.attempt → ⊥
  pub over : ls ≡ [] → w.attempt ≡ blank

pub holds_first : (w : View) (l : Lock) (ls : List Lock) → w.attempt.held ≡ map held_of (l ∷ ls) → HoldsWord w l.rec l.old
holds_first w l ls e = (held_of l, (0, ap (λ hs. get_elem? hs 0) e), refl, refl)

pub lets_one_go : (v w : View) (l : Lock) (ls : List Lock) → IsLettingGo v w (l ∷ ls) → IsLettingGo v (unlocked_with (without l.rec w.attempt.held) w l.rec) ls
lets_one_go v w l ls h = subst (λ (hs : List Held). IsLettingGo v (unlocked_with hs w l.rec) ls) (sym left) (go ls left (apart_rest l ls h.apart))
  where
    left : without l.rec w.attempt.held ≡ map held_of ls
    left = ap (without l.rec) h.held ∙ first_goes l ls h.apart

    go : (ms : List Lock) → without l.rec w.attempt.held ≡ map held_of ms → AreApart ms → IsLettingGo v (unlocked_with (map held_of ms) w l.rec) ms
    go [] e a = record { apart = a; rest = h.rest; held = refl; undecided = λ d. Some≢None d.0 (sym d.1); over = λ _. refl }
    go (m ∷ ms) e a = record { apart = a; rest = h.rest; held = e; undecided = λ d. true≢false (sym d.2.0); over = λ z. absurd (let n = ap length z in omega arith) }

-- with no lock left the attempt is over
pub all_went : (v w : View) → IsLettingGo v w [] → w ≡ rested v
all_went v w h = (λ i. record w { attempt = h.over refl i }) ∙ h.rest
