-- What counts now, as a family grows.
use Rattle.std.proofs.Common.{◌≡◌, ◌⊎◌, ℕ, suc, zero, ◌<◌, ◌≤◌, List, [], ◌∷◌, ◌++◌, map, cond, Bool, true, false, ◌&&◌, ◌||◌, ◌==◌, nat_lt, nat_le, refl, sym, ap, ◌∙◌, subst, arith, inl, inr, true≢false}
use Rattle.std.specs.Prelude.{not}
use Rattle.std.specs.List.{filter, flat_map}
use Rattle.std.proofs.lemmas.Bool.{cases_Bool, and_parts}
use Rattle.std.proofs.lemmas.Bool.Decides.{nat_tests, eqb_tells}
use Rattle.rl_base.specs.declared.stamp.Stamp.{Stamp}
use Rattle.rl_base.specs.Order.{is_below}
use Rattle.rl_txn.specs.declared.item.Item.{Item}
use Rattle.rl_txn.specs.declared.batch.Batch.{Batch}
use Rattle.rl_families.specs.Order.{in_order}
use Rattle.rl_families.specs.Logs.{stamps_along, items_along, IsRising, top_epoch, last_seq, last_seq_among}
use Rattle.rl_families.specs.Families.{least, least_top, all_reached, watermark, is_counted, history, IsInside, AllRise}
use Rattle.rl_families.specs.Laws.{is_up_to_watermark}
use Rattle.rl_base.proofs.Members.{In, all_in, in_map, map_in}
use Rattle.rl_families.proofs.Logs.{stamps_along-append}
use Rattle.rl_families.proofs.Rising.{Rises, rises_from, last_seq_among_up, settled}
use Rattle.rl_families.proofs.Sorting.{lower, Sorted, Least, in_order_sorted, in_order-filter}
use Rattle.rl_families.proofs.Nesting.{least_le, least_from, inside_at, top_grows, last_grows, history_cut, up_to_down}
use Rattle.rl_cut.specs.Kept.{least_epoch, least_seq, counts_now, mark_of, AreSettled}

-- ---- lists ----
-- what passes and what does not, where what passes stands first
pub split_front : (f : Item → Bool) (xs : List Item) → Sorted xs → ((x y : Item) → lower y x ≡ false → f y ≡ true → f x ≡ true) → filter f xs ++ filter (λ x. not (f x)) xs ≡ xs
split_front f [] s down = refl
split_front f (x ∷ xs) s down = elim (cases_Bool (f x)) [
  | inl t ↦ rw t (ap (λ z. x ∷ z) (split_front f xs s.1 down))
  | inr t ↦ (let n = nothing xs s.0 t in rw (t, n.0, n.1) refl)
]
  where
    nothing : (ys : List Item) → Least x ys → f x ≡ false → (filter f ys ≡ []) × (filter (λ y. not (f y)) ys ≡ ys)
    nothing [] h t = (refl, refl)
    nothing (y ∷ ys) h t = elim (cases_Bool (f y)) [
      | inl v ↦ absurd (true≢false (sym (down x y h.0 v) ∙ t))
      | inr v ↦ (let k = nothing ys h.1 t in (rw v k.0, rw v (ap (λ z. y ∷ z) k.1)))
    ]

filter_not : (f g : Item → Bool) (xs : List Item) → filter (λ x. not (g x)) (filter f xs) ≡ filter (λ x. f x && not (g x)) xs
filter_not f g [] = refl
filter_not f g (x ∷ xs) = elim (cases_Bool (f x)) [
  | inl t ↦ elim (cases_Bool (g x)) [ inl u ↦ rw (t, u) (filter_not f g xs) | inr u ↦ rw (t, u) (ap (λ z. x ∷ z) (filter_not f g xs)) ]
  | inr t ↦ rw t (filter_not f g xs)
]

pub filter_none : (f : Item → Bool) (xs : List Item) → ((x : Item) → In x xs → f x ≡ false) → filter f xs ≡ []
filter_none f [] h = refl
filter_none f (x ∷ xs) h = rw (h x (inl refl)) (filter_none f xs (λ y i. h y (inr i)))

-- ---- watermarks ----
-- the history of a larger family is that of the smaller one, and then what counts now
pub history_grows : (family larger : List (List Batch)) → IsInside family larger → AllRise larger
    → history larger ≡ history family ++ in_order (filter (λ x. is_counted larger x.stamp && not (is_up_to_watermark (watermark family) x.stamp)) (flat_map items_along larger))
history_grows family larger h a =
    let low : Item → Bool = λ x. is_up_to_watermark (watermark family) x.stamp in
    let more : Item → Bool = λ x. is_counted larger x.stamp in
    let all = filter more (flat_map items_along larger) in
    sym (split_front low (history larger) (in_order_sorted all) (λ x y b t. up_to_down (watermark family) x.stamp y.stamp b t))
    ∙ ap (λ z. z ++ filter (λ x. not (low x)) (history larger)) (sym (history_cut family larger h a))
    ∙ ap (λ z. history family ++ z) (sym (in_order-filter (λ x. not (low x)) all) ∙ ap in_order (filter_not more low (flat_map items_along larger)))

-- the least top does not fall
pub top_rises : (family larger : List (List Batch)) → IsInside family larger → AllRise larger → least_top family ≤ least_top larger
top_rises [] [] h a = omega arith
top_rises [] (m ∷ ms) h a = absurd h
top_rises (l ∷ ls) [] h a = absurd h
top_rises (l ∷ ls) (m ∷ ms) h a = least_from (least_top (l ∷ ls)) (top_epoch m) (map top_epoch ms) (λ k i.
    let p = map_in top_epoch k (m ∷ ms) i in
    let b = inside_at (l ∷ ls) (m ∷ ms) h p.0 p.1 in
    subst (λ n. least_top (l ∷ ls) ≤ n) p.2 (trans (least_top (l ∷ ls)) (top_epoch b.0) (top_epoch p.0) (least_le (top_epoch b.0) (map top_epoch (l ∷ ls)) (in_map top_epoch b.0 (l ∷ ls) b.1)) (top_grows b.0 p.0 b.2 (rises p.0 p.1))))
  where
    rises : (log : List Batch) → In log (m ∷ ms) → Rises (stamps_along log)
    rises log i = rises_from (stamps_along log) (all_in (λ z. IsRising (stamps_along z)) (m ∷ ms) a log i)

    trans : (a b c : ℕ) → a ≤ b → b ≤ c → a ≤ c
    trans a b c p q = omega arith

-- how far all streams have come in an epoch that they have left stays as it is
pub settled_stays : (family larger : List (List Batch)) → IsInside family larger → AllRise larger → (e : ℕ) → e < least_top family → all_reached larger e ≡ all_reached family e
settled_stays family larger h a e l = ap least (go family larger h (λ log i. rises_from (stamps_along log) (all_in (λ z. IsRising (stamps_along z)) larger a log i)) (λ log i. over (least_top family) (top_epoch log) l (least_le (top_epoch log) (map top_epoch family) (in_map top_epoch log family i))))
  where
    over : (t u : ℕ) → e < t → t ≤ u → e < u
    over t u a b = omega arith

    go : (fs ls : List (List Batch)) → IsInside fs ls → ((log : List Batch) → In log ls → Rises (stamps_along log)) → ((log : List Batch) → In log fs → e < top_epoch log) → map (λ log. last_seq log e) ls ≡ map (λ log. last_seq log e) fs
    go [] [] h r t = refl
    go [] (l ∷ ls) h r t = absurd h
    go (f ∷ fs) [] h r t = absurd h
    go (f ∷ fs) (l ∷ ls) h r t = ap (λ n. n ∷ map (λ log. last_seq log e) ls) same ∙ ap (λ ns. last_seq f e ∷ ns) (go fs ls h.1 (λ log i. r log (inr i)) (λ log i. t log (inr i)))
      where
        joined : stamps_along f ++ stamps_along h.0.0 ≡ stamps_along l
        joined = sym (stamps_along-append f h.0.0) ∙ ap stamps_along h.0.1

        between : (m n : ℕ) → m ≤ n → n ≤ m → m ≡ n
        between m n a b = omega arith

        same : last_seq l e ≡ last_seq f e
        same = sym (ap (λ ss. last_seq_among ss e) joined)
            ∙ between (last_seq_among (stamps_along f ++ stamps_along h.0.0) e) (last_seq f e) (settled (stamps_along f) (stamps_along h.0.0) (subst Rises (sym joined) (r l (inl refl))) e (t f (inl refl))) (last_seq_among_up (stamps_along f) (stamps_along h.0.0) e)

-- a watermark does not fall
pub mark_grows : (family larger : List (List Batch)) → IsInside family larger → AllRise larger → (s : Stamp) → is_up_to_watermark (watermark family) s ≡ true → is_up_to_watermark (watermark larger) s ≡ true
mark_grows [] [] h a s u = u
mark_grows [] (m ∷ ms) h a s u = absurd h
mark_grows (l ∷ ls) [] h a s u = absurd h
mark_grows (l ∷ ls) (m ∷ ms) h a s u =
    go (least_top (l ∷ ls)) (all_reached (l ∷ ls)) (least_top (m ∷ ms)) (all_reached (m ∷ ms)) s.epoch s.seq (top_rises (l ∷ ls) (m ∷ ms) h a) seqs u
  where
    rises : (log : List Batch) → In log (m ∷ ms) → Rises (stamps_along log)
    rises log i = rises_from (stamps_along log) (all_in (λ z. IsRising (stamps_along z)) (m ∷ ms) a log i)

    trans : (a b c : ℕ) → a ≤ b → b ≤ c → a ≤ c
    trans a b c p q = omega arith

    seqs : (e : ℕ) → all_reached (l ∷ ls) e ≤ all_reached (m ∷ ms) e
    seqs e = least_from (all_reached (l ∷ ls) e) (last_seq m e) (map (λ log. last_seq log e) ms) (λ k i.
        let p = map_in (λ log. last_seq log e) k (m ∷ ms) i in
        let b = inside_at (l ∷ ls) (m ∷ ms) h p.0 p.1 in
        subst (λ n. all_reached (l ∷ ls) e ≤ n) p.2 (trans (all_reached (l ∷ ls) e) (last_seq b.0 e) (last_seq p.0 e) (least_le (last_seq b.0 e) (map (λ log. last_seq log e) (l ∷ ls)) (in_map (λ log. last_seq log e) b.0 (l ∷ ls) b.1)) (last_grows b.0 p.0 b.2 (rises p.0 p.1) e)))

    go : (t : ℕ) (f : ℕ → ℕ) (u : ℕ) (g : ℕ → ℕ) (e q : ℕ) → t ≤ u → ((n : ℕ) → f n ≤ g n) → (nat_lt e t || ((e == t) && nat_le q (cond (t == 0) 0 (f t)))) ≡ true → (nat_lt e u || ((e == u) && nat_le q (cond (u == 0) 0 (g u)))) ≡ true
    go t f u g e q h k b = elim (eqb_tells t u) [
      | inl same ↦ subst (λ z. (nat_lt e z || ((e == z) && nat_le q (cond (z == 0) 0 (g z)))) ≡ true) same.1 (at_one e q t (f t) (g t) (k t) b)
      | inr other ↦ above e q t (cond (t == 0) 0 (f t)) u (cond (u == 0) 0 (g u)) h other.1 b
    ]
      where
        at_one : (e q t x y : ℕ) → x ≤ y → (nat_lt e t || ((e == t) && nat_le q (cond (t == 0) 0 x))) ≡ true → (nat_lt e t || ((e == t) && nat_le q (cond (t == 0) 0 y))) ≡ true
        at_one e q t x y h b = grind (arith, nat_tests)

        above : (e q t x u y : ℕ) → t ≤ u → (t ≡ u → ⊥) → (nat_lt e t || ((e == t) && nat_le q x)) ≡ true → (nat_lt e u || ((e == u) && nat_le q y)) ≡ true
        above e q t x u y h n b = grind (arith, nat_tests)

-- ---- what counts now ----
module _ (before now : ℕ × ℕ) (settled : List Stamp) where
  -- it is up to the watermark, and was not up to that before
  pub now_low : (s : Stamp) → counts_now before now settled s ≡ true → is_up_to_watermark now s ≡ true
  now_low s c = (and_parts (is_up_to_watermark now s) ((s.epoch == now.0) || nat_le s.seq (last_seq_among settled s.epoch)) (and_parts (nat_lt 0 s.epoch && not (is_up_to_watermark before s)) (is_up_to_watermark now s && ((s.epoch == now.0) || nat_le s.seq (last_seq_among settled s.epoch))) c).1).0

  pub not_again : (s : Stamp) → is_up_to_watermark before s ≡ true → counts_now before now settled s ≡ false
  not_again s u = go (nat_lt 0 s.epoch) (is_up_to_watermark before s) (is_up_to_watermark now s && ((s.epoch == now.0) || nat_le s.seq (last_seq_among settled s.epoch))) u
    where
      go : (a b c : Bool) → b ≡ true → ((a && not b) && c) ≡ false
      go true true c h = refl
      go false true c h = refl
      go a false c h = absurd (true≢false (sym h))

-- and within what all streams have reached
pub now_tells : (reached : List (List Stamp)) (before now : ℕ × ℕ) (settled : List Stamp) (s : Stamp) → now ≡ mark_of reached → AreSettled reached now.0 settled
    → counts_now before now settled s ≡ ((nat_lt 0 s.epoch && (nat_le s.epoch (least_epoch reached) && nat_le s.seq (least_seq reached s.epoch))) && not (is_up_to_watermark before s))
now_tells reached before now settled s m h =
    subst (λ n. ((nat_lt 0 s.epoch && not (is_up_to_watermark before s)) && (is_up_to_watermark n s && ((s.epoch == n.0) || nat_le s.seq (last_seq_among settled s.epoch))))
    ≡ ((nat_lt 0 s.epoch && (nat_le s.epoch (least_epoch reached) && nat_le s.seq (least_seq reached s.epoch))) && not (is_up_to_watermark before s))) (sym m)
    (go s.epoch s.seq (least_epoch reached) (least_seq reached) (last_seq_among settled s.epoch) (is_up_to_watermark before s) (λ l. h.bounds s.epoch (subst (λ n. s.epoch < n.0) (sym m) l)))
  where
    go : (e q t : ℕ) (f : ℕ → ℕ) (k : ℕ) (b : Bool) → (e < t → k ≡ f e)
        → ((nat_lt 0 e && not b) && ((nat_lt e t || ((e == t) && nat_le q (cond (t == 0) 0 (f t)))) && ((e == t) || nat_le q k))) ≡ ((nat_lt 0 e && (nat_le e t && nat_le q (f e))) && not b)
    go e q t f k b h = elim (eqb_tells e t) [
      | inl same ↦ subst (λ z. ((nat_lt 0 e && not b) && ((nat_lt e z || ((e == z) && nat_le q (cond (z == 0) 0 (f z)))) && ((e == z) || nat_le q k))) ≡ ((nat_lt 0 e && (nat_le e z && nat_le q (f e))) && not b)) same.1 (at_top e q (f e) k b)
      | inr other ↦ elim (apart e t other.1) [ inl l ↦ below e q t (f e) (cond (t == 0) 0 (f t)) k b l (h l) | inr g ↦ above e q t (f e) (cond (t == 0) 0 (f t)) k b g ]
    ]
      where
        apart : (e t : ℕ) → (e ≡ t → ⊥) → (e < t) ⊎ (t < e)
        apart e t n = grind arith

        at_top : (e q m k : ℕ) (b : Bool) → ((nat_lt 0 e && not b) && ((nat_lt e e || ((e == e) && nat_le q (cond (e == 0) 0 m))) && ((e == e) || nat_le q k))) ≡ ((nat_lt 0 e && (nat_le e e && nat_le q m)) && not b)
        at_top zero q m k true = refl
        at_top zero q m k false = refl
        at_top (suc e) q m k true = grind (arith, nat_tests)
        at_top (suc e) q m k false = grind (arith, nat_tests)

        below : (e q t m n k : ℕ) (b : Bool) → e < t → k ≡ m → ((nat_lt 0 e && not b) && ((nat_lt e t || ((e == t) && nat_le q n)) && ((e == t) || nat_le q k))) ≡ ((nat_lt 0 e && (nat_le e t && nat_le q m)) && not b)
        below e q t m n k true l h = grind (arith, nat_tests)
        below e q t m n k false l h = grind (arith, nat_tests)

        above : (e q t m n k : ℕ) (b : Bool) → t < e → ((nat_lt 0 e && not b) && ((nat_lt e t || ((e == t) && nat_le q n)) && ((e == t) || nat_le q k))) ≡ ((nat_lt 0 e && (nat_le e t && nat_le q m)) && not b)
        above e q t m n k true l = grind (arith, nat_tests)
        above e q t m n k false l = grind (arith, nat_tests)
