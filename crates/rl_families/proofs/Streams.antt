-- The logs of streams 1 to n, and what their history has.
use Rattle.std.proofs.Common.{◌≡◌, ◌≢◌, ◌⊎◌, ℕ, zero, suc, ◌+◌, ◌<◌, ◌≤◌, max, List, [], ◌∷◌, ◌++◌, true, ◌&&◌, nat_lt, nat_le, refl, sym, ap, ◌∙◌, subst, arith, inl, inr}
use Rattle.std.specs.List.{filter, flat_map}
use Rattle.std.proofs.lemmas.List.Elements.{AllZip-push, All-push, All-nil}
use Rattle.std.proofs.lemmas.Bool.Decides.{nat_tests, eqb_tells}
use Rattle.std.proofs.lemmas.Bool.{and_parts}
use Rattle.rl_base.specs.declared.stamp.Stamp.{Stamp}
use Rattle.rl_txn.specs.declared.item.Item.{Item}
use Rattle.rl_txn.specs.declared.batch.Batch.{Batch}
use Rattle.rl_base.specs.Lists.{IsPrefix}
use Rattle.rl_families.specs.Logs.{stamps_along, items_along, IsRising, top_epoch, last_seq, last_seq_among}
use Rattle.rl_families.specs.Families.{least_top, all_reached, is_counted, history, IsInside, AllRise}
use Rattle.rl_families.specs.Leaders.{logs_of_streams}
use Rattle.rl_base.proofs.Members.{In, in_prefix, in_suffix, in_split, in_filter, filter_in}
use Rattle.rl_families.proofs.Sorting.{in_in_order, in_order_in}
use Rattle.rl_families.proofs.Logs.{stamps_along-append, last_seq_among-append}
use Rattle.rl_families.proofs.Rising.{Rises, from_rises, last_seq_among_in}
use Rattle.rl_families.proofs.Nesting.{Low, counts_tells, counts_from, history_nests}

pub in_streams : (n : ℕ) (f : ℕ → List Batch) (log : List Batch) → In log (logs_of_streams n f) → (s : ℕ) × (1 ≤ s) × (s ≤ n) × (log ≡ f s)
in_streams zero f log i = absurd i
in_streams (suc n) f log i = elim (in_split (logs_of_streams n f) (f (suc n) ∷ []) log i) [
  | inl j ↦ (let k = in_streams n f log j in (k.0, k.1, omega (arith, k.2), k.3))
  | inr j ↦ elim j [ inl e ↦ (suc n, omega arith, omega arith, e) | inr a ↦ absurd a ]
]

pub at_last : (s n : ℕ) → s ≤ suc n → (s ≡ suc n) ⊎ (s ≤ n)
at_last s n h = grind arith

pub streams_in : (n : ℕ) (f : ℕ → List Batch) (s : ℕ) → 1 ≤ s → s ≤ n → In (f s) (logs_of_streams n f)
streams_in zero f s a b = absurd (omega arith)
streams_in (suc n) f s a b = elim (at_last s n b) [
  | inl e ↦ in_suffix (logs_of_streams n f) (f (suc n) ∷ []) (f s) (inl (ap f e))
  | inr m ↦ in_prefix (logs_of_streams n f) (f (suc n) ∷ []) (f s) (streams_in n f s a m)
]

pub in_logs : (x : Item) (logs : List (List Batch)) → In x (flat_map items_along logs) → (log : List Batch) × In log logs × In x (items_along log)
in_logs x [] i = absurd i
in_logs x (l ∷ ls) i = elim (in_split (items_along l) (flat_map items_along ls) x i) [
  | inl j ↦ (l, inl refl, j)
  | inr j ↦ (let k = in_logs x ls j in (k.0, inr k.1, k.2))
]

pub logs_in : (x : Item) (logs : List (List Batch)) (log : List Batch) → In log logs → In x (items_along log) → In x (flat_map items_along logs)
logs_in x [] log i j = absurd i
logs_in x (l ∷ ls) log i j = elim i [
  | inl e ↦ in_prefix (items_along l) (flat_map items_along ls) x (subst (λ z. In x (items_along z)) e j)
  | inr k ↦ in_suffix (items_along l) (flat_map items_along ls) x (logs_in x ls log k j)
]

counts_all : (family : List (List Batch)) (log : List Batch) (s : Stamp) → In log family → 0 < s.epoch → ((l : List Batch) → In l family → Low l s) → is_counted family s ≡ true
counts_all [] log s i b h = absurd i
counts_all (l ∷ ls) log s i b h = counts_from l ls s b h

-- ---- the history of all streams ----
-- a member of a history
pub record Member (n : ℕ) (f : ℕ → List Batch) (x : Item) : Type 0 where
  pub stream : ℕ
  pub low : 1 ≤ stream
  pub high : stream ≤ n
  pub has : In x (items_along (f stream))
  pub born : 0 < x.stamp.epoch
  pub within : (s : ℕ) → 1 ≤ s → s ≤ n → Low (f s) x.stamp
  pub far : x.stamp.seq ≤ all_reached (logs_of_streams n f) x.stamp.epoch

pub in_history : (n : ℕ) (f : ℕ → List Batch) (x : Item) → In x (history (logs_of_streams n f)) → Member n f x
in_history n f x i =
    let a = in_filter (λ (y : Item). is_counted (logs_of_streams n f) y.stamp) x (flat_map items_along (logs_of_streams n f)) (in_in_order x (filter (λ (y : Item). is_counted (logs_of_streams n f) y.stamp) (flat_map items_along (logs_of_streams n f))) i) in
    let b = in_logs x (logs_of_streams n f) a.0 in
    let s = in_streams n f b.0 b.1 in
    let c = counts_tells (logs_of_streams n f) x.stamp a.1 in
    record {
      stream = s.0;
      low = s.1;
      high = s.2;
      has = subst (λ z. In x (items_along z)) s.3 b.2;
      born = c.0;
      within = λ r p q. c.1 (f r) (streams_in n f r p q);
      far = far_of n f x a.1;
    }
  where
    far_of : (n : ℕ) (f : ℕ → List Batch) (x : Item) → is_counted (logs_of_streams n f) x.stamp ≡ true → x.stamp.seq ≤ all_reached (logs_of_streams n f) x.stamp.epoch
    far_of n f x t = le x.stamp.seq (all_reached (logs_of_streams n f) x.stamp.epoch)
        (and_parts (nat_le x.stamp.epoch (least_top (logs_of_streams n f))) (nat_le x.stamp.seq (all_reached (logs_of_streams n f) x.stamp.epoch))
        (and_parts (nat_lt 0 x.stamp.epoch) (nat_le x.stamp.epoch (least_top (logs_of_streams n f)) && nat_le x.stamp.seq (all_reached (logs_of_streams n f) x.stamp.epoch)) t).1).1
      where
        le : (a b : ℕ) → nat_le a b ≡ true → a ≤ b
        le a b t = grind (arith, nat_tests)

pub history_in : (n : ℕ) (f : ℕ → List Batch) (x : Item) (s : ℕ) → 1 ≤ s → s ≤ n → In x (items_along (f s)) → 0 < x.stamp.epoch → ((r : ℕ) → 1 ≤ r → r ≤ n → Low (f r) x.stamp) → In x (history (logs_of_streams n f))
history_in n f x s p q i born low =
    in_order_in x (filter (λ (y : Item). is_counted (logs_of_streams n f) y.stamp) (flat_map items_along (logs_of_streams n f)))
    (filter_in (λ (y : Item). is_counted (logs_of_streams n f) y.stamp) x (flat_map items_along (logs_of_streams n f)) (logs_in x (logs_of_streams n f) (f s) (streams_in n f s p q) i)
    (counts_all (logs_of_streams n f) (f s) x.stamp (streams_in n f s p q) born (λ log j. let k = in_streams n f log j in subst (λ z. Low z x.stamp) (sym k.3) (low k.0 k.1 k.2))))

inside_streams : (n : ℕ) (f h : ℕ → List Batch) → ((s : ℕ) → 1 ≤ s → s ≤ n → IsPrefix (f s) (h s)) → IsInside (logs_of_streams n f) (logs_of_streams n h)
inside_streams zero f h p = tt
inside_streams (suc n) f h p = AllZip-push IsPrefix (logs_of_streams n f) (logs_of_streams n h) (f (suc n)) (h (suc n)) (inside_streams n f h (λ s a b. p s a (omega arith))) (p (suc n) (omega arith) (omega arith))

pub rise_streams : (n : ℕ) (f : ℕ → List Batch) → ((s : ℕ) → 1 ≤ s → s ≤ n → Rises (stamps_along (f s))) → AllRise (logs_of_streams n f)
rise_streams zero f r = All-nil (λ (log : List Batch). IsRising (stamps_along log))
rise_streams (suc n) f r = All-push (λ (log : List Batch). IsRising (stamps_along log)) (logs_of_streams n f) (f (suc n)) (rise_streams n f (λ s a b. r s a (omega arith))) (from_rises (stamps_along (f (suc n))) (r (suc n) (omega arith) (omega arith)))

-- histories of streamwise prefixes nest
pub nests : (n : ℕ) (f h : ℕ → List Batch) → ((s : ℕ) → 1 ≤ s → s ≤ n → IsPrefix (f s) (h s)) → ((s : ℕ) → 1 ≤ s → s ≤ n → Rises (stamps_along (h s))) → IsPrefix (history (logs_of_streams n f)) (history (logs_of_streams n h))
nests n f h p r = history_nests (logs_of_streams n f) (logs_of_streams n h) (inside_streams n f h p) (rise_streams n h r)

pub has_last : (log : List Batch) (e : ℕ) → 0 < last_seq log e → (t : Stamp) × In t (stamps_along log) × (t.epoch ≡ e) × (t.seq ≡ last_seq log e)
has_last log e h = elim (last_seq_among_in (stamps_along log) e) [ inl z ↦ absurd (omega arith) | inr k ↦ k ]

pub last_other : (log : List Batch) (m : Batch) (s : Stamp) (e : ℕ) → stamps_along (m ∷ []) ≡ s ∷ [] → s.epoch ≢ e → last_seq (log ++ m ∷ []) e ≡ last_seq log e
last_other log m s e is other =
    ap (λ z. last_seq_among z e) (stamps_along-append log (m ∷ []) ∙ ap (λ z. stamps_along log ++ z) is) ∙ last_seq_among-append (stamps_along log) (s ∷ []) e ∙ alone
  where
    alone : max (last_seq_among (s ∷ []) e) (last_seq_among (stamps_along log) e) ≡ last_seq_among (stamps_along log) e
    alone = elim (eqb_tells s.epoch e) [ inl t ↦ absurd (other t.1) | inr t ↦ rw t.0 (omega arith) ]

-- all of the first logs_of_streams have come to an epoch, or one has not
all_or_one : (m : ℕ) (f : ℕ → List Batch) (e : ℕ) → ((s : ℕ) → 1 ≤ s → s ≤ m → 0 < last_seq (f s) e) ⊎ ((s : ℕ) × (1 ≤ s) × (s ≤ m) × (last_seq (f s) e ≡ 0))
all_or_one zero f e = inl (λ s p q. absurd (omega arith))
all_or_one (suc m) f e = elim (none_or (last_seq (f (suc m)) e)) [
  | inl z ↦ inr (suc m, omega arith, omega arith, z)
  | inr p ↦ elim (all_or_one m f e) [
    | inl a ↦ inl (λ s u v. elim (at_last s m v) [ inl i ↦ subst (λ z. 0 < last_seq (f z) e) (sym i) p | inr w ↦ a s u w ])
    | inr o ↦ inr (o.0, o.1, omega (arith, o.2), o.3)
  ]
]
  where
    none_or : (x : ℕ) → (x ≡ 0) ⊎ (0 < x)
    none_or x = grind arith

abbrev pub OneLacks : ℕ → (ℕ → List Batch) → ℕ → Type 0
OneLacks n f d = (s : ℕ) × (1 ≤ s) × (s ≤ n) × (last_seq (f s) d ≡ 0)

-- the greatest epoch up to some one that all logs_of_streams have come to
pub greatest_common : (m n : ℕ) (f : ℕ → List Batch)
    → ((e : ℕ) × (0 < e) × ((s : ℕ) → 1 ≤ s → s ≤ n → 0 < last_seq (f s) e) × ((d : ℕ) → e < d → d ≤ m → OneLacks n f d))
    ⊎ ((d : ℕ) → 0 < d → d ≤ m → OneLacks n f d)
greatest_common zero n f = inr (λ d p q. absurd (omega arith))
greatest_common (suc m) n f = elim (all_or_one n f (suc m)) [
  | inl a ↦ inl (suc m, omega arith, a, λ d p q. absurd (omega arith))
  | inr o ↦ elim (greatest_common m n f) [
    | inl g ↦ inl (g.0, g.1, g.2, λ d p q. elim (at_last d m q) [ inl i ↦ subst (λ z. OneLacks n f z) (sym i) o | inr w ↦ g.3 d p w ])
    | inr g ↦ inr (λ d p q. elim (at_last d m q) [ inl i ↦ subst (λ z. OneLacks n f z) (sym i) o | inr w ↦ g d p w ])
  ]
]

pub tops_bound : (m : ℕ) (f : ℕ → List Batch) → (b : ℕ) × ((s : ℕ) → 1 ≤ s → s ≤ m → top_epoch (f s) ≤ b)
tops_bound zero f = (0, λ s p q. absurd (omega arith))
tops_bound (suc m) f = let k = tops_bound m f in (
  k.0 + top_epoch (f (suc m)),
  λ s p q. elim (at_last s m q) [
    | inl i ↦ subst (λ z. top_epoch (f z) ≤ k.0 + top_epoch (f (suc m))) (sym i) (omega arith)
    | inr w ↦ omega (arith, k.1 s p w)
  ],
)
