-- The best of some promises.
use Rattle.std.proofs.Common.{◌≡◌, ◌⊎◌, ℕ, ◌<◌, ◌≤◌, List, [], ◌∷◌, length, Bool, true, false, cond, ◌||◌, ◌&&◌, ◌==◌, nat_lt, refl, arith, inl, inr}
use Rattle.std.proofs.lemmas.Bool.{cond_both}
use Rattle.std.proofs.lemmas.Bool.Decides.{nat_tests}
use Rattle.std.specs.List.{best_of}
use Rattle.rl_paxos.specs.Recovery.{Promise, recovered, is_better, promised_ballot, promised_log, IsRecovered}
use Rattle.rl_base.proofs.Members.{In, in_contains, contains_in}

-- by ballot, length and node, q is not better than p
abbrev pub NoBetterThan : (ballot len node ballot2 len2 node2 : ℕ) → Type 0
NoBetterThan b l i c m j = (b < c) ⊎ ((b ≡ c) × ((l < m) ⊎ ((l ≡ m) × (j ≤ i))))

abbrev pub NoBetter : ℕ → Promise → Promise → Type 0
NoBetter s q p = NoBetterThan (promised_ballot s q) (length (promised_log s q)) q.node (promised_ballot s p) (length (promised_log s p)) p.node

-- the test on numbers
abbrev beats : (ballot len node ballot2 len2 node2 : ℕ) → Bool
beats b l i c m j = nat_lt c b || ((c == b) && (nat_lt m l || ((m == l) && nat_lt i j)))

beats_not : (b l i c m j : ℕ) → beats b l i c m j ≡ false → NoBetterThan b l i c m j
beats_not b l i c m j h = grind (arith, nat_tests)

beats_back : (b l i c m j : ℕ) → beats b l i c m j ≡ true → NoBetterThan c m j b l i
beats_back b l i c m j h = grind (arith, nat_tests)

no_better_trans : (b l i c m j d n k : ℕ) → NoBetterThan b l i c m j → NoBetterThan c m j d n k → NoBetterThan b l i d n k
no_better_trans b l i c m j d n k x y = grind arith

pub no_better_self : (s : ℕ) (p : Promise) → NoBetter s p p
no_better_self s p = inr (refl, inr (refl, omega arith))

-- the better of two
abbrev pub better : ℕ → Promise → Promise → Promise
better s p q = cond (is_better s q p) q p

better_in : (s : ℕ) (p q : Promise) → (better s p q ≡ p) ⊎ (better s p q ≡ q)
better_in s p q = cond_both (is_better s q p) q p (λ z. (z ≡ p) ⊎ (z ≡ q)) (λ t. inr refl) (λ t. inl refl)

better_top : (s : ℕ) (p q : Promise) → NoBetter s p (better s p q) × NoBetter s q (better s p q)
better_top s p q = cond_both (is_better s q p) q p (λ z. NoBetter s p z × NoBetter s q z)
    (λ t. (beats_back (promised_ballot s q) (length (promised_log s q)) q.node (promised_ballot s p) (length (promised_log s p)) p.node t, no_better_self s q))
    (λ t. (no_better_self s p, beats_not (promised_ballot s q) (length (promised_log s q)) q.node (promised_ballot s p) (length (promised_log s p)) p.node t))

-- the best is one of them
pub best_in : (s : ℕ) (p : Promise) (ps : List Promise) → In (best_of (is_better s) p ps) (p ∷ ps)
best_in s p [] = inl refl
best_in s p (q ∷ qs) = elim (best_in s (better s p q) qs) [
  | inl e ↦ elim (better_in s p q) [ inl f ↦ inl (rw (e, f) refl) | inr f ↦ inr (inl (rw (e, f) refl)) ]
  | inr i ↦ inr (inr i)
]

-- and none is better
pub best_top : (s : ℕ) (p : Promise) (ps : List Promise) (x : Promise) → In x (p ∷ ps) → NoBetter s x (best_of (is_better s) p ps)
best_top s p [] x i = elim i [ inl e ↦ rw e (no_better_self s p) | inr j ↦ absurd j ]
best_top s p (q ∷ qs) x i =
    let b : Promise = best_of (is_better s) (better s p q) qs in
    let up : NoBetter s (better s p q) b = best_top s (better s p q) qs (better s p q) (inl refl) in
    let step : (y : Promise) → NoBetter s y (better s p q) → NoBetter s y b =
    λ y h. no_better_trans (promised_ballot s y) (length (promised_log s y)) y.node (promised_ballot s (better s p q)) (length (promised_log s (better s p q))) (better s p q).node (promised_ballot s b) (length (promised_log s b)) b.node h up in
    elim i [
      | inl e ↦ rw e (step p (better_top s p q).0)
      | inr j ↦ elim j [
        | inl e ↦ rw e (step q (better_top s p q).1)
        | inr k ↦ best_top s (better s p q) qs x (inr k)
      ]
    ]

-- what is recovered is recovered by the rule in full
pub best_is_recovered : (p : Promise) (ps : List Promise) (s : ℕ) → IsRecovered (p ∷ ps) s (recovered (p ∷ ps) s)
best_is_recovered p ps s =
    let b : Promise = best_of (is_better s) p ps in
    record {
      from = b;
      promised = in_contains (p ∷ ps) b (best_in s p ps);
      log_is = refl;
      highest = λ q i. let t : NoBetter s q b = best_top s p ps q (contains_in (p ∷ ps) q i) in elim t [ inl h ↦ omega arith | inr h ↦ omega (arith, h.0) ];
      longest = λ q i e. let t : NoBetter s q b = best_top s p ps q (contains_in (p ∷ ps) q i) in elim t [ inl h ↦ absurd (omega arith) | inr h ↦ elim h.1 [ inl l ↦ omega arith | inr l ↦ omega (arith, l.0) ] ];
      least = λ q i e m. let t : NoBetter s q b = best_top s p ps q (contains_in (p ∷ ps) q i) in elim t [ inl h ↦ absurd (omega arith) | inr h ↦ elim h.1 [ inl l ↦ absurd (omega arith) | inr l ↦ l.1 ] ];
    }
