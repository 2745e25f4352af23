-- What holds once the words below k were loaded.
use Rattle.std.proofs.Common.{◌≡◌, ℕ, ◌+◌, ◌^◌, ◌<◌, ◌≤◌, List, length, map, get_or, set, refl, sym, ap, ◌∙◌, subst, arith, length-set, get_or-set_other, get_or-set_same, le_refl}
use Rattle.std.proofs.lemmas.List.{length-map}
use mathlib.Core.Logic.{dite}
use native.Mathlib.Decide.{ℕ_discrete}
use Rattle.rl_progress.specs.declared.rule.View.{View}
use Rattle.rl_progress.specs.Rule.{loaded}
use Rattle.rl_progress.specs.Seats.{IsLeast, LoadedEach}
use Rattle.rl_progress.proofs.Lists.{same_at_each, get_or-raised}

pub record LoadedBelow (k : ℕ) (v w : View) : Type 0 where
  pub first : w.first ≡ v.first
  pub end : w.end ≡ v.end
  pub last : w.last ≡ v.last
  pub wide : length w.seen ≡ length v.seen
  pub long : length w.loads ≡ length v.loads
  pub seen : (i : ℕ) → get_or v.seen i 0 ≤ get_or w.seen i 0
  pub done : (i : ℕ) → i < k → i < length v.loads → get_or w.loads i 0 ≡ get_or v.loads i 0 + 1
  pub later : (i : ℕ) → k ≤ i → get_or w.loads i 0 ≡ get_or v.loads i 0

-- the least of the first k, and the greatest number where k is 0
pub record LeastBelow (k : ℕ) (xs : List ℕ) (least : ℕ) : Type 0 where
  pub below : (i : ℕ) → i < k → least ≤ get_or xs i 0
  pub among : 0 < k → (i : ℕ) × (i < k) × (get_or xs i 0 ≡ least)
  pub top : k ≡ 0 → least ≡ 18446744073709551615
  pub small : 0 < k → least < 2 ^ 40

pub loaded_nothing : (v : View) → LoadedBelow 0 v v
loaded_nothing v = record {
  first = refl;
  end = refl;
  last = refl;
  wide = refl;
  long = refl;
  seen = λ i. le_refl _;
  done = λ i l. absurd (omega arith);
  later = λ i _. refl;
}

pub loaded_more : (k : ℕ) (v w : View) (n : ℕ) → k < length w.seen → k < length w.loads → LoadedBelow k v w → get_or w.seen k 0 ≤ n → LoadedBelow (k + 1) v (loaded w k n)
loaded_more k v w n inside within h up = record {
  first = h.first;
  end = h.end;
  last = h.last;
  wide = length-set w.seen k n ∙ h.wide;
  long = length-set w.loads k (get_or w.loads k 0 + 1) ∙ h.long;
  seen = λ i. let old = h.seen i in dite (ℕ_discrete i k)
      (λ e. let here : get_or (set w.seen k n) k 0 ≡ n = get_or-set_same w.seen k n 0 inside in subst (λ j. get_or v.seen j 0 ≤ get_or (set w.seen k n) j 0) (sym e) (let o = h.seen k in omega arith))
      (λ ne. subst (λ m. get_or v.seen i 0 ≤ m) (sym (get_or-set_other w.seen k i n 0 ne)) old);
  done = λ i l m. dite (ℕ_discrete i k)
      (λ e. subst (λ j. get_or (set w.loads k (get_or w.loads k 0 + 1)) j 0 ≡ get_or v.loads j 0 + 1) (sym e) (get_or-set_same w.loads k (get_or w.loads k 0 + 1) 0 within ∙ ap (λ x. x + 1) (h.later k (le_refl k))))
      (λ ne. get_or-set_other w.loads k i (get_or w.loads k 0 + 1) 0 ne ∙ h.done i (omega arith) m);
  later = λ i l. get_or-set_other w.loads k i (get_or w.loads k 0 + 1) 0 (λ e. omega arith) ∙ h.later i (omega arith);
}

pub loaded_all : (k : ℕ) (v w : View) → k ≡ length v.loads → LoadedBelow k v w → LoadedEach v w
loaded_all k v w all h = record {
  first = h.first;
  end = h.end;
  last = h.last;
  counted = same_at_each w.loads (map (λ n. n + 1) v.loads) (h.long ∙ sym (length-map v.loads (λ n. n + 1)))
      (λ i l. let m : i < length v.loads = subst (λ n. i < n) h.long l in h.done i (subst (λ n. i < n) (sym all) m) m ∙ sym (get_or-raised v.loads i m));
  seen = h.seen;
}

pub least_less : (k : ℕ) (xs : List ℕ) (m n : ℕ) → k < length xs → LeastBelow k xs m → n < m → n < 2 ^ 40 → LeastBelow (k + 1) (set xs k n) n
least_less k xs m n inside h less small = let here : get_or (set xs k n) k 0 ≡ n = get_or-set_same xs k n 0 inside in record {
  below = λ i l. dite (ℕ_discrete i k)
      (λ e. subst (λ j. n ≤ get_or (set xs k n) j 0) (sym e) (omega arith))
      (λ ne. subst (λ x. n ≤ x) (sym (get_or-set_other xs k i n 0 ne)) (let b = h.below i (omega arith) in omega arith));
  among = λ _. (k, omega arith, here);
  top = λ e. absurd (omega arith);
  small = λ _. small;
}

pub least_more : (k : ℕ) (xs : List ℕ) (m n : ℕ) → k < length xs → LeastBelow k xs m → m ≤ n → n < 2 ^ 40 → LeastBelow (k + 1) (set xs k n) m
least_more k xs m n inside h less small = let here : get_or (set xs k n) k 0 ≡ n = get_or-set_same xs k n 0 inside in dite (ℕ_discrete k 0)
    (λ z. let top = h.top z in absurd (omega arith))
    (λ more. let before : 0 < k = omega arith in record {
      below = λ i l. dite (ℕ_discrete i k)
          (λ e. subst (λ j. m ≤ get_or (set xs k n) j 0) (sym e) (omega arith))
          (λ ne. subst (λ x. m ≤ x) (sym (get_or-set_other xs k i n 0 ne)) (h.below i (omega arith)));
      among = λ _. let a = h.among before in (a.0, (let l = a.1 in omega arith), get_or-set_other xs k a.0 n 0 (λ e. let l = a.1 in omega arith) ∙ a.2);
      top = λ e. absurd (omega arith);
      small = λ _. h.small before;
    })

pub least_all : (k : ℕ) (xs : List ℕ) (least : ℕ) → k ≡ length xs → 0 < k → LeastBelow k xs least → IsLeast xs least
least_all k xs least all some_ h = record {
  below = λ i l. h.below i (subst (λ n. i < n) (sym all) l);
  among = let a = h.among some_ in (a.0, subst (λ n. a.0 < n) all a.1, a.2);
}
