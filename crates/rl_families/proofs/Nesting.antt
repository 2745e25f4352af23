-- The history of logs that are inside others is a prefix of theirs.
use Rattle.std.proofs.Common.{◌≡◌, ◌⊎◌, ℕ, ◌<◌, ◌≤◌, List, [], ◌∷◌, ◌++◌, map, Bool, true, false, ◌&&◌, ◌||◌, ◌==◌, nat_lt, nat_le, cond, refl, sym, ap, ◌∙◌, subst, arith, inl, inr, true≢false}
use Rattle.std.specs.List.{filter, flat_map}
use Rattle.std.proofs.lemmas.List.{append-nil}
use Rattle.std.proofs.lemmas.List.Elements.{filter-append, filter_agree}
use Rattle.std.proofs.lemmas.Bool.Decides.{nat_tests, eqb_tells}
use Rattle.std.proofs.lemmas.Bool.{cases_Bool, and_from, and_parts}
use Rattle.rl_base.specs.declared.stamp.Stamp.{Stamp}
use Rattle.rl_txn.specs.declared.item.Item.{Item}
use Rattle.rl_txn.specs.declared.batch.Batch.{Batch}
use Rattle.rl_base.specs.Lists.{IsPrefix}
use Rattle.rl_base.specs.Order.{is_below}
use Rattle.rl_families.specs.Order.{in_order}
use Rattle.rl_families.specs.Logs.{stamps_along, items_along, IsRising, top_epoch, last_seq, last_seq_among}
use Rattle.rl_families.specs.Families.{least, least_top, all_reached, watermark, is_counted, history, IsInside}
use Rattle.rl_families.specs.Laws.{is_up_to_watermark, HistoriesNest, WatermarkCuts}
use Rattle.rl_base.proofs.Members.{In, all_in, in_map, map_in}
use Rattle.rl_families.proofs.Sorting.{lower, Least, Sorted, in_order_sorted, in_order-filter}
use Rattle.rl_families.proofs.Logs.{stamps_along-append, items_along-append, item_stamp}
use Rattle.rl_families.proofs.Rising.{top_among, Rises, rises_from, behind_high, top_up, last_seq_among_up, settled}

pub least_le : (n : ℕ) (ns : List ℕ) → In n ns → least ns ≤ n
least_le n [] i = absurd i
least_le n (m ∷ []) i = elim i [ inl e ↦ omega arith | inr j ↦ absurd j ]
least_le n (m ∷ (l ∷ ls)) i = elim i [ inl e ↦ omega arith | inr j ↦ (let k = least_le n (l ∷ ls) j in omega arith) ]

pub least_from : (m n : ℕ) (ns : List ℕ) → ((k : ℕ) → In k (n ∷ ns) → m ≤ k) → m ≤ least (n ∷ ns)
least_from m n [] h = h n (inl refl)
least_from m n (l ∷ ls) h = let a = h n (inl refl) in let b = least_from m l ls (λ k i. h k (inr i)) in omega arith

-- ---- what counts, log by log ----
-- a stamp is within the cut of a log
abbrev pub Low : List Batch → Stamp → Type 0
Low log s = (s.epoch ≤ top_epoch log) × (s.seq ≤ last_seq log s.epoch)

pub counts_tells : (family : List (List Batch)) (s : Stamp) → is_counted family s ≡ true → (0 < s.epoch) × ((log : List Batch) → In log family → Low log s)
counts_tells family s h =
    let born = and_parts (nat_lt 0 s.epoch) (nat_le s.epoch (least_top family) && nat_le s.seq (all_reached family s.epoch)) h in
    let both = and_parts (nat_le s.epoch (least_top family)) (nat_le s.seq (all_reached family s.epoch)) born.1 in
    let e = le s.epoch (least_top family) both.0 in
    let q = le s.seq (all_reached family s.epoch) both.1 in (
      lt 0 s.epoch born.0,
      λ log i.
          let t = least_le (top_epoch log) (map top_epoch family) (in_map top_epoch log family i) in
          let u = least_le (last_seq log s.epoch) (map (λ l. last_seq l s.epoch) family) (in_map (λ l. last_seq l s.epoch) log family i) in
          (trans s.epoch (least_top family) (top_epoch log) e t, trans s.seq (all_reached family s.epoch) (last_seq log s.epoch) q u),
    )
  where
    le : (a b : ℕ) → nat_le a b ≡ true → a ≤ b
    le a b t = grind (arith, nat_tests)

    lt : (a b : ℕ) → nat_lt a b ≡ true → a < b
    lt a b t = grind (arith, nat_tests)

    trans : (a b c : ℕ) → a ≤ b → b ≤ c → a ≤ c
    trans a b c p q = omega arith

pub counts_from : (log : List Batch) (logs : List (List Batch)) (s : Stamp) → 0 < s.epoch → ((l : List Batch) → In l (log ∷ logs) → Low l s) → is_counted (log ∷ logs) s ≡ true
counts_from log logs s born h =
    and_from (nat_lt 0 s.epoch) (nat_le s.epoch (least_top (log ∷ logs)) && nat_le s.seq (all_reached (log ∷ logs) s.epoch)) (lt 0 s.epoch born)
    (and_from (nat_le s.epoch (least_top (log ∷ logs))) (nat_le s.seq (all_reached (log ∷ logs) s.epoch))
    (le s.epoch (least_top (log ∷ logs)) (least_from s.epoch (top_epoch log) (map top_epoch logs) (λ k i. let m = map_in top_epoch k (log ∷ logs) i in subst (λ n. s.epoch ≤ n) m.2 (h m.0 m.1).0)))
    (le s.seq (all_reached (log ∷ logs) s.epoch) (least_from s.seq (last_seq log s.epoch) (map (λ l. last_seq l s.epoch) logs) (λ k i. let m = map_in (λ l. last_seq l s.epoch) k (log ∷ logs) i in subst (λ n. s.seq ≤ n) m.2 (h m.0 m.1).1))))
  where
    le : (a b : ℕ) → a ≤ b → nat_le a b ≡ true
    le a b t = grind (arith, nat_tests)

    lt : (a b : ℕ) → a < b → nat_lt a b ≡ true
    lt a b t = grind (arith, nat_tests)

pub none_counts : (s : Stamp) → is_counted [] s ≡ true → ⊥
none_counts s h = elim (cases_Bool (nat_lt 0 s.epoch)) [
  | inl t ↦ (let both : (nat_le s.epoch 0 && nat_le s.seq 0) ≡ true = rw t at h in let p = and_parts (nat_le s.epoch 0) (nat_le s.seq 0) both in absurd (no s.epoch t p.0))
  | inr t ↦ absurd (true≢false (sym (rw t at h)))
]
  where
    no : (e : ℕ) → nat_lt 0 e ≡ true → nat_le e 0 ≡ true → ⊥
    no e a b = grind (arith, nat_tests)

-- ---- a log and one that it begins ----
module _ (log more : List Batch) (p : IsPrefix log more) (r : Rises (stamps_along more)) where
  parts : Rises (stamps_along log ++ stamps_along p.0)
  parts = subst Rises (sym (sym (stamps_along-append log p.0) ∙ ap stamps_along p.1)) r

  is_more : stamps_along log ++ stamps_along p.0 ≡ stamps_along more
  is_more = sym (stamps_along-append log p.0) ∙ ap stamps_along p.1

  pub top_grows : top_epoch log ≤ top_epoch more
  top_grows = subst (λ z. top_among (stamps_along log) ≤ top_among z) is_more (top_up (stamps_along log) (stamps_along p.0) parts)

  pub last_grows : (e : ℕ) → last_seq log e ≤ last_seq more e
  last_grows e = subst (λ z. last_seq_among (stamps_along log) e ≤ last_seq_among z e) is_more (last_seq_among_up (stamps_along log) (stamps_along p.0) e)

  pub last_settled : (e : ℕ) → e < top_epoch log → last_seq more e ≤ last_seq log e
  last_settled e h = subst (λ z. last_seq_among z e ≤ last_seq_among (stamps_along log) e) is_more (settled (stamps_along log) (stamps_along p.0) parts e h)

  -- what stands behind is not within the cut
  pub rest_high : (x : Item) → In x (items_along p.0) → 0 < x.stamp.epoch → Low log x.stamp → ⊥
  rest_high x i born low = behind_high (stamps_along log) (stamps_along p.0) parts x.stamp (item_stamp p.0 x i) born low.0 low.1

-- ---- a family and one that it is inside ----
pub inside_at : (family larger : List (List Batch)) → IsInside family larger → (more : List Batch) → In more larger → (log : List Batch) × In log family × IsPrefix log more
inside_at [] [] h more i = absurd i
inside_at [] (m ∷ ms) h more i = absurd h
inside_at (l ∷ ls) [] h more i = absurd h
inside_at (l ∷ ls) (m ∷ ms) h more i = elim i [
  | inl e ↦ (l, inl refl, subst (λ z. IsPrefix l z) (sym e) h.0)
  | inr j ↦ (let k = inside_at ls ms h.1 more j in (k.0, inr k.1, k.2))
]

pub at_inside : (family larger : List (List Batch)) → IsInside family larger → (log : List Batch) → In log family → (more : List Batch) × In more larger × IsPrefix log more
at_inside [] ms h log i = absurd i
at_inside (l ∷ ls) [] h log i = absurd h
at_inside (l ∷ ls) (m ∷ ms) h log i = elim i [
  | inl e ↦ (m, inl refl, subst (λ z. IsPrefix z m) (sym e) h.0)
  | inr j ↦ (let k = at_inside ls ms h.1 log j in (k.0, inr k.1, k.2))
]

module _ (family larger : List (List Batch)) (h : IsInside family larger) (r : (log : List Batch) → In log larger → Rises (stamps_along log)) where
  -- what is_counted goes on counting
  pub counts_up : (s : Stamp) → is_counted family s ≡ true → is_counted larger s ≡ true
  counts_up s c = go larger h r (counts_tells family s c)
    where
      go : (ms : List (List Batch)) → IsInside family ms → ((log : List Batch) → In log ms → Rises (stamps_along log)) → (0 < s.epoch) × ((log : List Batch) → In log family → Low log s) → is_counted ms s ≡ true
      go [] g q t = absurd (none_counts s (subst (λ z. is_counted z s ≡ true) (empty family g) c))
        where
          empty : (ls : List (List Batch)) → IsInside ls [] → ls ≡ []
          empty [] g = refl
          empty (l ∷ ls) g = absurd g
      go (m ∷ ms) g q t = counts_from m ms s t.0 (λ more i.
          let a = inside_at family (m ∷ ms) g more i in
          let low = t.1 a.0 a.1 in
          (le_trans s.epoch (top_epoch a.0) (top_epoch more) low.0 (top_grows a.0 more a.2 (q more i)), le_trans s.seq (last_seq a.0 s.epoch) (last_seq more s.epoch) low.1 (last_grows a.0 more a.2 (q more i) s.epoch)))
        where
          le_trans : (a b c : ℕ) → a ≤ b → b ≤ c → a ≤ c
          le_trans a b c p q = omega arith

  -- what is_counted is at most the watermark
  pub counts_low : (s : Stamp) → is_counted family s ≡ true → is_up_to_watermark (watermark family) s ≡ true
  counts_low s c =
      let born = and_parts (nat_lt 0 s.epoch) (nat_le s.epoch (least_top family) && nat_le s.seq (all_reached family s.epoch)) c in
      let both = and_parts (nat_le s.epoch (least_top family)) (nat_le s.seq (all_reached family s.epoch)) born.1 in
      fits s.epoch (least_top family) s.seq (all_reached family) born.0 both.0 both.1
    where
      fits : (e t q : ℕ) (f : ℕ → ℕ) → nat_lt 0 e ≡ true → nat_le e t ≡ true → nat_le q (f e) ≡ true → (nat_lt e t || ((e == t) && nat_le q (cond (t == 0) 0 (f t)))) ≡ true
      fits e t q f a b d = elim (eqb_tells e t) [
        | inl same ↦ (let d2 : nat_le q (f t) ≡ true = subst (λ n. nat_le q (f n) ≡ true) same.1 d in let a2 : nat_lt 0 t ≡ true = subst (λ n. nat_lt 0 n ≡ true) same.1 a in at_top e t q (f t) same.1 a2 d2)
        | inr other ↦ below e t q (cond (t == 0) 0 (f t)) other.1 b
      ]
        where
          at_top : (e t q m : ℕ) → e ≡ t → nat_lt 0 t ≡ true → nat_le q m ≡ true → (nat_lt e t || ((e == t) && nat_le q (cond (t == 0) 0 m))) ≡ true
          at_top e t q m s a d = grind (arith, nat_tests)

          below : (e t q m : ℕ) → (e ≡ t → ⊥) → nat_le e t ≡ true → (nat_lt e t || ((e == t) && nat_le q m)) ≡ true
          below e t q m n b = grind (arith, nat_tests)

  -- what is_counted in the larger family and is at most the watermark is_counted in the smaller one
  pub counts_down : (s : Stamp) → is_up_to_watermark (watermark family) s ≡ true → is_counted larger s ≡ true → is_counted family s ≡ true
  counts_down s u c = go family h u
    where
      tells : (e t q : ℕ) (f : ℕ → ℕ) → 0 < e → (nat_lt e t || ((e == t) && nat_le q (cond (t == 0) 0 (f t)))) ≡ true → (e < t) ⊎ ((e ≡ t) × (q ≤ f t))
      tells e t q f b h = by_value e t q (f t) b h
        where
          by_value : (e t q m : ℕ) → 0 < e → (nat_lt e t || ((e == t) && nat_le q (cond (t == 0) 0 m))) ≡ true → (e < t) ⊎ ((e ≡ t) × (q ≤ m))
          by_value e t q m b h = grind (arith, nat_tests)

      go : (ls : List (List Batch)) → IsInside ls larger → is_up_to_watermark (watermark ls) s ≡ true → is_counted ls s ≡ true
      go [] g v = absurd (none_counts s (subst (λ z. is_counted z s ≡ true) (empty larger g) c))
        where
          empty : (ms : List (List Batch)) → IsInside [] ms → ms ≡ []
          empty [] g = refl
          empty (m ∷ ms) g = absurd g
      go (l ∷ ls) g v =
          let t = counts_tells larger s c in
          let w = tells s.epoch (least_top (l ∷ ls)) s.seq (all_reached (l ∷ ls)) t.0 v in
          counts_from l ls s t.0 (λ log i.
          let a = at_inside (l ∷ ls) larger g log i in
          let low = t.1 a.0 a.1 in
          let tops = least_le (top_epoch log) (map top_epoch (l ∷ ls)) (in_map top_epoch log (l ∷ ls) i) in
          elim w [
            | inl p ↦ (let e = lt_of s.epoch (least_top (l ∷ ls)) (top_epoch log) p tops in (lt_le s.epoch (top_epoch log) e, le_trans s.seq (last_seq a.0 s.epoch) (last_seq log s.epoch) low.1 (last_settled log a.0 a.2 (r a.0 a.1) s.epoch e)))
            | inr p ↦ (
              at_le s.epoch (least_top (l ∷ ls)) (top_epoch log) p.0 tops,
              subst (λ n. s.seq ≤ last_seq log n) (sym p.0) (le_trans s.seq (all_reached (l ∷ ls) (least_top (l ∷ ls))) (last_seq log (least_top (l ∷ ls))) p.1
                  (least_le (last_seq log (least_top (l ∷ ls))) (map (λ k. last_seq k (least_top (l ∷ ls))) (l ∷ ls)) (in_map (λ k. last_seq k (least_top (l ∷ ls))) log (l ∷ ls) i))),
            )
          ])
        where
          le_trans : (a b c : ℕ) → a ≤ b → b ≤ c → a ≤ c
          le_trans a b c p q = omega arith

          lt_of : (a b c : ℕ) → a < b → b ≤ c → a < c
          lt_of a b c p q = omega arith

          lt_le : (a b : ℕ) → a < b → a ≤ b
          lt_le a b p = omega arith

          at_le : (a b c : ℕ) → a ≡ b → b ≤ c → a ≤ c
          at_le a b c p q = omega arith

-- what passes a test only where it is within the cuts of the shorter logs stands in these
pub filter_inside : (f : Item → Bool) (family larger : List (List Batch)) → IsInside family larger → ((log : List Batch) → In log larger → Rises (stamps_along log))
    → ((x : Item) → f x ≡ true → (0 < x.stamp.epoch) × ((log : List Batch) → In log family → Low log x.stamp)) → filter f (flat_map items_along family) ≡ filter f (flat_map items_along larger)
filter_inside f [] [] h r low = refl
filter_inside f [] (m ∷ ms) h r low = absurd h
filter_inside f (l ∷ ls) [] h r low = absurd h
filter_inside f (l ∷ ls) (m ∷ ms) h r low =
    let rest = h.0.0 in
    let none : filter f (items_along rest) ≡ [] = filter_none f (items_along rest) (λ x i t. let k = low x t in rest_high l m h.0 (r m (inl refl)) x i k.0 (k.1 l (inl refl))) in
    let front : filter f (items_along m) ≡ filter f (items_along l) =
    ap (λ z. filter f (items_along z)) (sym h.0.1) ∙ ap (filter f) (items_along-append l rest) ∙ filter-append f (items_along l) (items_along rest) ∙ ap (λ z. filter f (items_along l) ++ z) none ∙ append-nil (filter f (items_along l)) in
    let more = filter_inside f ls ms h.1 (λ log i. r log (inr i)) (λ x t. let k = low x t in (k.0, λ log i. k.1 log (inr i))) in
    filter-append f (items_along l) (flat_map items_along ls) ∙ ap (λ z. filter f (items_along l) ++ z) more ∙ ap (λ z. z ++ filter f (flat_map items_along ms)) (sym front) ∙ sym (filter-append f (items_along m) (flat_map items_along ms))
  where
    filter_none : (f : Item → Bool) (xs : List Item) → ((x : Item) → In x xs → f x ≡ true → ⊥) → filter f xs ≡ []
    filter_none f [] h = refl
    filter_none f (x ∷ xs) h = elim (cases_Bool (f x)) [ inl t ↦ absurd (h x (inl refl) t) | inr t ↦ rw t (filter_none f xs (λ y i. h y (inr i))) ]

-- two filters are one
filter-filter : (f g : Item → Bool) (xs : List Item) → filter (λ x. f x && g x) xs ≡ filter f (filter g xs)
filter-filter f g [] = refl
filter-filter f g (x ∷ xs) = elim (cases_Bool (g x)) [
  | inl t ↦ elim (cases_Bool (f x)) [ inl u ↦ rw (t, u) (ap (λ z. x ∷ z) (filter-filter f g xs)) | inr u ↦ rw (t, u) (filter-filter f g xs) ]
  | inr t ↦ elim (cases_Bool (f x)) [ inl u ↦ rw (t, u) (filter-filter f g xs) | inr u ↦ rw (t, u) (filter-filter f g xs) ]
]

-- a filter that passes with an item all that are not above it takes the front of a list in order
pub filter_front : (f : Item → Bool) (xs : List Item) → Sorted xs → ((x y : Item) → lower y x ≡ false → f y ≡ true → f x ≡ true) → IsPrefix (filter f xs) xs
filter_front f [] s down = ([], refl)
filter_front f (x ∷ xs) s down = elim (cases_Bool (f x)) [
  | inl t ↦ (let k = filter_front f xs s.1 down in rw t (k.0, ap (λ z. x ∷ z) k.1))
  | inr t ↦ rw (t, nothing xs s.0 t) (x ∷ xs, refl)
]
  where
    nothing : (ys : List Item) → Least x ys → f x ≡ false → filter f ys ≡ []
    nothing [] h t = refl
    nothing (y ∷ ys) h t = elim (cases_Bool (f y)) [
      | inl v ↦ absurd (true≢false (sym (down x y h.0 v) ∙ t))
      | inr v ↦ rw v (nothing ys h.1 t)
    ]

pub history_cut : WatermarkCuts
history_cut family larger h a =
    let r : (log : List Batch) → In log larger → Rises (stamps_along log) = λ log i. rises_from (stamps_along log) (all_in (λ z. IsRising (stamps_along z)) larger a log i) in
    let few : Item → Bool = λ x. is_counted family x.stamp in
    let more : Item → Bool = λ x. is_counted larger x.stamp in
    let low : Item → Bool = λ x. is_up_to_watermark (watermark family) x.stamp in
    let same : (x : Item) → few x ≡ (low x && more x) = λ x. by_cases (few x) (low x) (more x) (counts_low family larger h r x.stamp) (counts_up family larger h r x.stamp) (counts_down family larger h r x.stamp) in
    ap in_order (filter_inside few family larger h r (λ x t. counts_tells family x.stamp t))
    ∙ in_order-filter few (flat_map items_along larger)
    ∙ filter_agree few (λ x. low x && more x) same (in_order (flat_map items_along larger))
    ∙ filter-filter low more (in_order (flat_map items_along larger))
    ∙ ap (filter low) (sym (in_order-filter more (flat_map items_along larger)))
  where
    by_cases : (a b c : Bool) → (a ≡ true → b ≡ true) → (a ≡ true → c ≡ true) → (b ≡ true → c ≡ true → a ≡ true) → a ≡ (b && c)
    by_cases true b c p q z = sym (and_from b c (p refl) (q refl))
    by_cases false true true p q z = z refl refl
    by_cases false true false p q z = refl
    by_cases false false c p q z = refl

-- a stamp that is not above one up to a watermark is up to it
pub up_to_down : (mark : ℕ × ℕ) (s t : Stamp) → is_below t s ≡ false → is_up_to_watermark mark t ≡ true → is_up_to_watermark mark s ≡ true
up_to_down mark s t a b = go mark.0 mark.1 s.epoch s.seq t.epoch t.seq a b
  where
    go : (e q a b c d : ℕ) → (nat_lt c a || ((c == a) && nat_lt d b)) ≡ false → (nat_lt c e || ((c == e) && nat_le d q)) ≡ true → (nat_lt a e || ((a == e) && nat_le b q)) ≡ true
    go e q a b c d h k = grind (arith, nat_tests)

pub history_nests : HistoriesNest
history_nests family larger h a =
    let cut = history_cut family larger h a in
    let low : Item → Bool = λ x. is_up_to_watermark (watermark family) x.stamp in
    subst (λ z. IsPrefix z (history larger)) (sym cut)
    (filter_front low (history larger) (in_order_sorted (filter (λ x. is_counted larger x.stamp) (flat_map items_along larger))) (λ x y b t. up_to_down (watermark family) x.stamp y.stamp b t))
