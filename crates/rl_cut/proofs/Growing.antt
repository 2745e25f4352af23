-- A family with one more batch, and going over its logs.
use Rattle.std.proofs.Common.{◌≡◌, ℕ, suc, zero, ◌+◌, ◌-◌, ◌<◌, ◌≤◌, List, [], ◌∷◌, ◌++◌, length, get_or, take, drop, replicate, Bool, true, false, ◌&&◌, ◌||◌, All, refl, sym, ap, ◌∙◌, subst, arith, inl, inr, true≢false, length-append, drop-cons, cond, ◌==◌, nat_lt, nat_le}
use Rattle.std.specs.Prelude.{not, slice_set}
use Rattle.std.specs.List.{filter, flat_map}
use Rattle.std.specs.Option.{option_map_or}
use Rattle.std.proofs.lemmas.Bool.{cases_Bool}
use Rattle.std.proofs.lemmas.Bool.Decides.{nat_tests, eqb_tells}
use Rattle.std.proofs.lemmas.List.{append-nil, take-append-drop, take_all, length-drop, take_more, take-append-le, length-set, get_or-set_same, get_or-set_other, length-replicate, get_or-replicate}
use Rattle.std.proofs.lemmas.List.Elements.{filter_agree, All-append, All-set, Contains-get_or}
use Rattle.rl_base.specs.declared.bound.Bound.TheVariants.{Final, Rising, Beyond}
use Rattle.rl_base.specs.declared.stamp.Stamp.{Stamp}
use Rattle.rl_base.specs.Order.{is_below}
use Rattle.rl_base.proofs.OrderLemmas.{is_below_from, below_one_way}
use Rattle.rl_txn.specs.declared.item.Item.{Item}
use Rattle.rl_txn.specs.declared.batch.Batch.{Batch}
use Rattle.rl_families.specs.Order.{in_order, IsInOrder}
use Rattle.rl_families.specs.Logs.{stamps_in_batch, stamps_along, items_along, IsRising, first_stamp, last_stamp, last_seq_among}
use Rattle.rl_families.specs.Families.{least_top, all_reached, watermark, is_counted, bound_of, history, IsInside, AllRise}
use Rattle.rl_families.specs.Laws.{is_up_to_watermark}
use Rattle.rl_base.proofs.Members.{In, contains_in, all_in}
use Rattle.rl_families.proofs.Logs.{item_stamp, stamps_along-append, items_along-append}
use Rattle.rl_families.proofs.Rising.{Rises, rises_from, rises_front, rises_back, above_in, below_last, last_is}
use Rattle.rl_families.proofs.Sorting.{Sorted, Least}
use Rattle.rl_cut.specs.Kept.{AreByEpoch, AreLastOf, least_epoch, least_seq, counts_now, mark_of, AreSettled, AreUpTo, FitsLogs, Keeps, HasGrown}
use Rattle.rl_cut.proofs.LastStamps.{last_same, lasts_trans, lasts_append, least_epoch_is, least_seq_is, mark_is}
use Rattle.rl_families.proofs.Nesting.{up_to_down}
use Rattle.rl_cut.proofs.Counting.{filter_none, history_grows, top_rises, settled_stays, mark_grows, now_low, not_again, now_tells}

filter-append : (f : Item → Bool) (xs ys : List Item) → filter f (xs ++ ys) ≡ filter f xs ++ filter f ys
filter-append f [] ys = refl
filter-append f (x ∷ xs) ys = elim (cases_Bool (f x)) [ inl t ↦ rw t (ap (λ z. x ∷ z) (filter-append f xs ys)) | inr t ↦ rw t (filter-append f xs ys) ]

-- items in order, by places
pub sorted_in_order : (xs : List Item) → Sorted xs → IsInOrder xs
sorted_in_order [] h i j d a l = absurd (omega arith)
sorted_in_order (x ∷ xs) h zero zero d a l = absurd (omega arith)
sorted_in_order (x ∷ xs) h zero (suc j) d a l = later xs j h.0 (omega arith)
  where
    later : (ys : List Item) (k : ℕ) → Least x ys → k < length ys → is_below (get_or ys k d).stamp x.stamp ≡ false
    later [] k g m = absurd (omega arith)
    later (y ∷ ys) zero g m = g.0
    later (y ∷ ys) (suc k) g m = later ys k g.1 (omega arith)
sorted_in_order (x ∷ xs) h (suc i) zero d a l = absurd (omega arith)
sorted_in_order (x ∷ xs) h (suc i) (suc j) d a l = sorted_in_order xs h.1 i j d (omega arith) (omega arith)

-- ---- one log ----
-- what stands behind a stamp that is above a watermark is above it too
above_all : (mark : ℕ × ℕ) (ss rest : List Stamp) → Rises (ss ++ rest) → option_map_or (λ s. not (is_up_to_watermark mark s)) (first_stamp ss) false ≡ true
    → (t : Stamp) → In t (ss ++ rest) → is_up_to_watermark mark t ≡ false
above_all mark [] rest r h t i = absurd (true≢false (sym h))
above_all mark (s ∷ ss) rest r h t i = elim (cases_Bool (is_up_to_watermark mark t)) [
  | inr n ↦ n
  | inl u ↦ absurd (true≢false (sym h ∙ ap not (first i u)))
]
  where
    first : In t (s ∷ (ss ++ rest)) → is_up_to_watermark mark t ≡ true → is_up_to_watermark mark s ≡ true
    first i u = elim i [
      | inl e ↦ subst (λ z. is_up_to_watermark mark z ≡ true) e u
      | inr j ↦ up_to_down mark s t (below_one_way s t (is_below_from s t (above_in s (ss ++ rest) t r.0 j))) u
    ]

all_from : (P : Stamp → Type 0) (xs : List Stamp) → ((x : Stamp) → In x xs → P x) → All P xs
all_from P xs h k d l = h (get_or xs k d) (contains_in xs (get_or xs k d) (Contains-get_or xs k d l))

stamps_split : (log : List Batch) (n : ℕ) → stamps_along (take n log) ++ stamps_along (drop n log) ≡ stamps_along log
stamps_split log n = sym (stamps_along-append (take n log) (drop n log)) ∙ ap stamps_along (take-append-drop n log)

items_split : (log : List Batch) (n : ℕ) → items_along (take n log) ++ items_along (drop n log) ≡ items_along log
items_split log n = sym (items_along-append (take n log) (drop n log)) ∙ ap items_along (take-append-drop n log)

pub rises_drop : (log : List Batch) (n : ℕ) → IsRising (stamps_along log) → Rises (stamps_along (drop n log))
rises_drop log n r = rises_back (stamps_along (take n log)) (stamps_along (drop n log)) (subst Rises (sym (stamps_split log n)) (rises_from (stamps_along log) r))

module _ (before now : ℕ × ℕ) (settled : List Stamp) where
  -- what is up to the watermark before does not count now
  pub skips_counted : (log : List Batch) (n : ℕ) → AreUpTo before log n
      → filter (λ x. counts_now before now settled x.stamp) (items_along (drop n log)) ≡ filter (λ x. counts_now before now settled x.stamp) (items_along log)
  skips_counted log n u =
      let test : Item → Bool = λ x. counts_now before now settled x.stamp in
      let none : filter test (items_along (take n log)) ≡ [] = filter_none test (items_along (take n log)) (λ x i. not_again before now settled x.stamp (all_in (λ z. is_up_to_watermark before z ≡ true) (stamps_along (take n log)) u.up_to x.stamp (item_stamp (take n log) x i))) in
      sym (ap (filter test) (sym (items_split log n)) ∙ filter-append test (items_along (take n log)) (items_along (drop n log)) ∙ ap (λ z. z ++ filter test (items_along (drop n log))) none)

  -- nor does what stands behind a batch that begins above the watermark
  pub stops_above : (log : List Batch) (n : ℕ) (b : Batch) → n < length log → b ≡ get_or log n b → IsRising (stamps_along log)
      → true ≡ option_map_or (λ s. not (is_up_to_watermark now s)) (first_stamp (stamps_in_batch b)) false
      → filter (λ x. counts_now before now settled x.stamp) (items_along (take n log)) ≡ filter (λ x. counts_now before now settled x.stamp) (items_along log)
  stops_above log n b l e r h =
      let test : Item → Bool = λ x. counts_now before now settled x.stamp in
      let rest = drop n log in
      let is : rest ≡ b ∷ drop (suc n) log = drop-cons log n b l ∙ ap (λ z. z ∷ drop (suc n) log) (sym e) in
      let rising : Rises (stamps_in_batch b ++ stamps_along (drop (suc n) log)) = subst (λ z. Rises (stamps_along z)) is (rises_drop log n r) in
      let high : (t : Stamp) → In t (stamps_along rest) → is_up_to_watermark now t ≡ false = λ t i. above_all now (stamps_in_batch b) (stamps_along (drop (suc n) log)) rising (sym h) t (subst (λ z. In t (stamps_along z)) is i) in
      let none : filter test (items_along rest) ≡ [] = filter_none test (items_along rest) (λ x i. late x (high x.stamp (item_stamp rest x i))) in
      sym (ap (filter test) (sym (items_split log n)) ∙ filter-append test (items_along (take n log)) (items_along rest) ∙ ap (λ z. filter test (items_along (take n log)) ++ z) none ∙ append-nil (filter test (items_along (take n log))))
    where
      late : (x : Item) → is_up_to_watermark now x.stamp ≡ false → counts_now before now settled x.stamp ≡ false
      late x f = elim (cases_Bool (counts_now before now settled x.stamp)) [
        | inr n ↦ n
        | inl t ↦ absurd (true≢false (sym (now_low before now settled x.stamp t) ∙ f))
      ]

-- one more batch that ends up to a watermark
pub up_to_more : (mark : ℕ × ℕ) (log : List Batch) (n : ℕ) (b : Batch) → n < length log → b ≡ get_or log n b → IsRising (stamps_along log)
    → true ≡ option_map_or (λ s. is_up_to_watermark mark s) (last_stamp (stamps_in_batch b)) true → AreUpTo mark log n → AreUpTo mark log (n + 1)
up_to_more mark log n b l e r h u = record {
  within = omega arith;
  up_to = subst (All (λ s. is_up_to_watermark mark s ≡ true)) (sym (ap stamps_along (take_more log n b l) ∙ stamps_along-append (take n log) (get_or log n b ∷ []) ∙ ap (λ z. stamps_along (take n log) ++ z) (append-nil (stamps_in_batch (get_or log n b)) ∙ ap stamps_in_batch (sym e))))
      (All-append (λ s. is_up_to_watermark mark s ≡ true) (stamps_along (take n log)) (stamps_in_batch b) u.up_to
      (all_from (λ s. is_up_to_watermark mark s ≡ true) (stamps_in_batch b) (low (stamps_in_batch b) mine h)));
}
  where
    mine : Rises (stamps_in_batch b)
    mine = rises_front (stamps_in_batch b) (stamps_along (drop (suc n) log)) (subst (λ z. Rises (stamps_along z)) (drop-cons log n b l ∙ ap (λ z. z ∷ drop (suc n) log) (sym e)) (rises_drop log n r))

    low : (ss : List Stamp) → Rises ss → true ≡ option_map_or (λ s. is_up_to_watermark mark s) (last_stamp ss) true → (t : Stamp) → In t ss → is_up_to_watermark mark t ≡ true
    low [] g k t i = absurd i
    low (s ∷ ss) g k t i =
        let last = last_is s ss in
        let top : is_up_to_watermark mark last.0 ≡ true = sym (k ∙ ap (λ o. option_map_or (λ s. is_up_to_watermark mark s) o true) last.2) in
        elim (below_last s ss g last.0 last.2 t i) [
          | inl same ↦ subst (λ z. is_up_to_watermark mark z ≡ true) (sym same) top
          | inr under ↦ up_to_down mark t last.0 (below_one_way t last.0 (is_below_from t last.0 under)) top
        ]

pub up_to_later : (before now : ℕ × ℕ) (log : List Batch) (n : ℕ) → ((s : Stamp) → is_up_to_watermark before s ≡ true → is_up_to_watermark now s ≡ true) → AreUpTo before log n → AreUpTo now log n
up_to_later before now log n h u = record { within = u.within; up_to = λ k d l. h (get_or (stamps_along (take n log)) k d) (u.up_to k d l) }

pub tail_is : (xs : List Batch) (n : ℕ) → n ≤ length xs → take (length xs - n) (drop n xs) ≡ drop n xs
tail_is xs n h = take_all (length xs - n) (drop n xs) (omega (arith, length-drop n xs))

-- ---- all logs ----
inside_set : (logs : List (List Batch)) (i : ℕ) (b : Batch) → IsInside logs (slice_set logs i (get_or logs i [] ++ b ∷ []))
inside_set [] i b = tt
inside_set (l ∷ ls) zero b = ((b ∷ [], refl), all_same ls)
  where
    all_same : (ls : List (List Batch)) → IsInside ls ls
    all_same [] = tt
    all_same (l ∷ ls) = (([], append-nil l), all_same ls)
inside_set (l ∷ ls) (suc i) b = (([], append-nil l), inside_set ls i b)

-- what is kept, once a log has one more batch and its last stamps are known
module _ (logs : List (List Batch)) (reached : List (List Stamp)) (settled : List Stamp) (counted : List ℕ) (mark : ℕ × ℕ) (items : List Item) (k : Keeps logs reached settled counted mark items)
    (i : ℕ) (b : Batch) (lasts : List Stamp) (l : i < length logs) (a : AreLastOf (get_or reached i [] ++ stamps_in_batch b) lasts) (climb : AreByEpoch lasts) (rising : AllRise (slice_set logs i (get_or logs i [] ++ b ∷ []))) where
  same : get_or (slice_set logs i (get_or logs i [] ++ b ∷ [])) i [] ≡ get_or logs i [] ++ b ∷ []
  same = get_or-set_same logs i (get_or logs i [] ++ b ∷ []) [] l

  stamps : stamps_along (get_or logs i [] ++ b ∷ []) ≡ stamps_along (get_or logs i []) ++ stamps_in_batch b
  stamps = stamps_along-append (get_or logs i []) (b ∷ []) ∙ ap (λ z. stamps_along (get_or logs i []) ++ z) (append-nil (stamps_in_batch b))

  here : AreLastOf (stamps_along (get_or (slice_set logs i (get_or logs i [] ++ b ∷ [])) i [])) (get_or (slice_set reached i lasts) i [])
  here =
      let known : AreLastOf (stamps_along (get_or logs i []) ++ stamps_in_batch b) lasts =
      lasts_trans (stamps_along (get_or logs i []) ++ stamps_in_batch b) (get_or reached i [] ++ stamps_in_batch b) lasts (lasts_append (stamps_along (get_or logs i [])) (get_or reached i []) (stamps_in_batch b) (k.fits.reached i)) a in
      let within : i < length reached = omega (arith, k.fits.streams) in
      subst (λ z. AreLastOf (stamps_along z) (get_or (slice_set reached i lasts) i [])) (sym same)
      (subst (AreLastOf (stamps_along (get_or logs i [] ++ b ∷ []))) (sym (get_or-set_same reached i lasts [] within)) (subst (λ z. AreLastOf z lasts) (sym stamps) known))

  longer : (log : List Batch) (n : ℕ) → AreUpTo mark log n → AreUpTo mark (log ++ b ∷ []) n
  longer log n u = record {
    within = (let w = u.within in omega (arith, length-append log (b ∷ [])));
    up_to = (let w = u.within in subst (λ z. All (λ s. is_up_to_watermark mark s ≡ true) (stamps_along z)) (sym (take-append-le n log (b ∷ []) w)) u.up_to);
  }

  streams_now : length (slice_set reached i lasts) ≡ length (slice_set logs i (get_or logs i [] ++ b ∷ []))
  streams_now = length-set reached i lasts ∙ k.fits.streams ∙ sym (length-set logs i (get_or logs i [] ++ b ∷ []))

  reached_now : (j : ℕ) → AreLastOf (stamps_along (get_or (slice_set logs i (get_or logs i [] ++ b ∷ [])) j [])) (get_or (slice_set reached i lasts) j [])
  reached_now j = elim (eqb_tells j i) [
    | inl e ↦ subst (λ z. AreLastOf (stamps_along (get_or (slice_set logs i (get_or logs i [] ++ b ∷ [])) z [])) (get_or (slice_set reached i lasts) z [])) (sym e.1) here
    | inr n ↦ subst (λ z. AreLastOf (stamps_along z) (get_or (slice_set reached i lasts) j [])) (sym (get_or-set_other logs i j (get_or logs i [] ++ b ∷ []) [] n.1))
        (subst (AreLastOf (stamps_along (get_or logs j []))) (sym (get_or-set_other reached i j lasts [] n.1)) (k.fits.reached j))
  ]

  top_is : mark.0 ≡ least_top logs
  top_is = ap (λ (m : ℕ × ℕ). m.0) k.mark

  settled_now : AreSettled (slice_set reached i lasts) mark.0 settled
  settled_now = record {
    epochs = k.fits.settled.epochs;
    below = k.fits.settled.below;
    bounds = λ e u. k.fits.settled.bounds e u ∙ least_seq_is logs reached k.fits.streams k.fits.reached e
        ∙ sym (settled_stays logs (slice_set logs i (get_or logs i [] ++ b ∷ [])) (inside_set logs i b) rising e (subst (λ n. e < n) top_is u))
        ∙ sym (least_seq_is (slice_set logs i (get_or logs i [] ++ b ∷ [])) (slice_set reached i lasts) streams_now reached_now e);
  }

  fits_now : FitsLogs (slice_set logs i (get_or logs i [] ++ b ∷ [])) (slice_set reached i lasts) settled counted mark
  fits_now = record {
    rising = rising;
    streams = streams_now;
    places = k.fits.places ∙ sym (length-set logs i (get_or logs i [] ++ b ∷ []));
    reached = reached_now;
    epochs = All-set AreByEpoch reached i lasts climb k.fits.epochs;
    settled = settled_now;
    counted = λ j. elim (eqb_tells j i) [
      | inl e ↦ subst (λ z. AreUpTo mark (get_or (slice_set logs i (get_or logs i [] ++ b ∷ [])) z []) (get_or counted z 0)) (sym e.1)
          (subst (λ z. AreUpTo mark z (get_or counted i 0)) (sym same) (longer (get_or logs i []) (get_or counted i 0) (k.fits.counted i)))
      | inr n ↦ subst (λ z. AreUpTo mark z (get_or counted j 0)) (sym (get_or-set_other logs i j (get_or logs i [] ++ b ∷ []) [] n.1)) (k.fits.counted j)
    ];
  }

  pub has_grown : HasGrown (slice_set logs i (get_or logs i [] ++ b ∷ [])) (slice_set reached i lasts) settled counted mark items
  has_grown = record {
    fits = fits_now;
    rises = subst (λ n. n ≤ least_epoch (slice_set reached i lasts)) (sym top_is)
        (subst (λ n. least_top logs ≤ n) (sym (least_epoch_is (slice_set logs i (get_or logs i [] ++ b ∷ [])) (slice_set reached i lasts) streams_now reached_now))
        (top_rises logs (slice_set logs i (get_or logs i [] ++ b ∷ [])) (inside_set logs i b) rising));
    smaller = logs;
    inside = inside_set logs i b;
    mark = k.mark;
    history = k.history;
  }

-- what counts now, behind the history that was kept, is the history
module _ (logs : List (List Batch)) (reached : List (List Stamp)) (settled more : List Stamp) (counted : List ℕ) (mark now : ℕ × ℕ) (items : List Item)
    (g : HasGrown logs reached settled counted mark items) (n : now ≡ mark_of reached) (bounds : AreSettled reached now.0 more) where
  history_now : items ++ in_order (filter (λ x. counts_now mark now more x.stamp) (flat_map items_along logs)) ≡ history logs
  history_now =
      let new : Item → Bool = λ x. counts_now mark now more x.stamp in
      let later : Item → Bool = λ x. is_counted logs x.stamp && not (is_up_to_watermark (watermark g.smaller) x.stamp) in
      let agree : (x : Item) → new x ≡ later x = λ x. now_tells reached mark now more x.stamp n bounds ∙ tests (least_epoch reached) (least_top logs) (least_seq reached x.stamp.epoch) (all_reached logs x.stamp.epoch) mark (watermark g.smaller) x.stamp
      (least_epoch_is logs reached g.fits.streams g.fits.reached) (least_seq_is logs reached g.fits.streams g.fits.reached x.stamp.epoch) g.mark in
      ap (λ z. z ++ in_order (filter new (flat_map items_along logs))) g.history
      ∙ ap (λ z. history g.smaller ++ in_order z) (filter_agree new later agree (flat_map items_along logs))
      ∙ sym (history_grows g.smaller logs g.inside g.fits.rising)
    where
      tests : (t u q r : ℕ) (m n : ℕ × ℕ) (s : Stamp) → t ≡ u → q ≡ r → m ≡ n
          → ((nat_lt 0 s.epoch && (nat_le s.epoch t && nat_le s.seq q)) && not (is_up_to_watermark m s)) ≡ ((nat_lt 0 s.epoch && (nat_le s.epoch u && nat_le s.seq r)) && not (is_up_to_watermark n s))
      tests t u q r m n s a b c =
          ap (λ z. (nat_lt 0 s.epoch && (nat_le s.epoch z && nat_le s.seq q)) && not (is_up_to_watermark m s)) a
          ∙ ap (λ z. (nat_lt 0 s.epoch && (nat_le s.epoch u && nat_le s.seq z)) && not (is_up_to_watermark m s)) b
          ∙ ap (λ z. (nat_lt 0 s.epoch && (nat_le s.epoch u && nat_le s.seq r)) && not (is_up_to_watermark z s)) c

  pub keeps_now : (counts : List ℕ) (all : List Item) → length counts ≡ length counted → ((i : ℕ) → AreUpTo now (get_or logs i []) (get_or counts i 0)) → all ≡ items ++ in_order (filter (λ x. counts_now mark now more x.stamp) (flat_map items_along logs))
      → Keeps logs reached more counts now all
  keeps_now counts all l u h = record {
    fits = record {
      rising = g.fits.rising;
      streams = g.fits.streams;
      places = l ∙ g.fits.places;
      reached = g.fits.reached;
      epochs = g.fits.epochs;
      settled = bounds;
      counted = u;
    };
    mark = n ∙ mark_is logs reached g.fits.streams g.fits.reached;
    history = h ∙ history_now;
  }

-- two pairs of numbers that compare as equal
pub same_pair : (m n : ℕ × ℕ) → ((m.0 == n.0) && (m.1 == n.1)) ≡ true → m ≡ n
same_pair m n h = grind (arith, nat_tests)

-- where the watermark is still the same, nothing counts anew
pub keeps_same : (logs : List (List Batch)) (reached : List (List Stamp)) (settled : List Stamp) (counted : List ℕ) (mark : ℕ × ℕ) (items : List Item) → HasGrown logs reached settled counted mark items → mark ≡ mark_of reached
    → Keeps logs reached settled counted mark items
keeps_same logs reached settled counted mark items g n =
    keeps_now logs reached settled settled counted mark mark items g n g.fits.settled counted items refl g.fits.counted
    (sym (ap (λ z. items ++ in_order z) none ∙ append-nil items))
  where
    go : (a b c : Bool) → ((a && not b) && (b && c)) ≡ false
    go true true c = refl
    go true false c = refl
    go false b c = refl

    never : (s : Stamp) → counts_now mark mark settled s ≡ false
    never s = go (nat_lt 0 s.epoch) (is_up_to_watermark mark s) ((s.epoch == mark.0) || nat_le s.seq (last_seq_among settled s.epoch))

    none : filter (λ x. counts_now mark mark settled x.stamp) (flat_map items_along logs) ≡ []
    none = filter_none (λ x. counts_now mark mark settled x.stamp) (flat_map items_along logs) (λ x i. never x.stamp)

pub now_grown : (logs : List (List Batch)) (reached : List (List Stamp)) (settled : List Stamp) (counted : List ℕ) (mark now : ℕ × ℕ) (items : List Item) → HasGrown logs reached settled counted mark items → now ≡ mark_of reached
    → (i : ℕ) → AreUpTo now (get_or logs i []) (get_or counted i 0)
now_grown logs reached settled counted mark now items g n i =
    up_to_later mark now (get_or logs i []) (get_or counted i 0)
    (λ s u. subst (λ z. is_up_to_watermark z s ≡ true) (sym (n ∙ mark_is logs reached g.fits.streams g.fits.reached)) (mark_grows g.smaller logs g.inside g.fits.rising s (subst (λ z. is_up_to_watermark z s ≡ true) g.mark u)))
    (g.fits.counted i)

-- ---- at the start ----
pub keeps_none : (logs : List (List Batch)) (reached : List (List Stamp)) (settled : List Stamp) (counted : List ℕ) (items : List Item) (n : ℕ) → logs ≡ replicate n [] → reached ≡ replicate n [] → settled ≡ [] → counted ≡ replicate n 0 → items ≡ []
    → Keeps logs reached settled counted (0, 0) items
keeps_none logs reached settled counted items n a b d c e =
    subst (λ z. Keeps z reached settled counted (0, 0) items) (sym a)
    (subst (λ z. Keeps (replicate n []) z settled counted (0, 0) items) (sym b)
    (subst (λ z. Keeps (replicate n []) (replicate n []) z counted (0, 0) items) (sym d)
    (subst (λ z. Keeps (replicate n []) (replicate n []) [] z (0, 0) items) (sym c)
    (subst (Keeps (replicate n []) (replicate n []) [] (replicate n 0) (0, 0)) (sym e) (record {
      fits = record {
        rising = λ k d l. subst (λ z. IsRising (stamps_along z)) (sym (get_or-replicate n k [] d (omega (arith, length-replicate n none)))) nothing;
        streams = length-replicate n none_stamps ∙ sym (length-replicate n none);
        places = length-replicate n 0 ∙ sym (length-replicate n none);
        reached = λ i. subst (λ z. AreLastOf (stamps_along z) (get_or (replicate n []) i [])) (sym (empty n i)) (subst (AreLastOf []) (sym (empty_stamps n i)) (last_same []));
        counted = λ i. subst (λ z. AreUpTo (0, 0) z (get_or (replicate n 0) i 0)) (sym (empty n i)) (subst (AreUpTo (0, 0) []) (sym (zeros n i)) (record { within = omega arith; up_to = λ k d l. absurd (omega arith) }));
        epochs = λ k d l. subst AreByEpoch (sym (get_or-replicate n k [] d (omega (arith, length-replicate n none_stamps)))) no_pairs;
        settled = record { epochs = no_pairs; below = λ k d l. absurd (omega arith); bounds = λ k l. absurd (omega arith) };
      };
      mark = sym (first n);
      history = sym (no_history n);
    })))))
  where
    none : List Batch
    none = []

    none_stamps : List Stamp
    none_stamps = []

    nothing : IsRising []
    nothing i j d a l = absurd (omega arith)

    no_pairs : AreByEpoch []
    no_pairs i j d a l = absurd (omega arith)

    empty : (n i : ℕ) → get_or (replicate n []) i none ≡ []
    empty zero i = refl
    empty (suc n) zero = refl
    empty (suc n) (suc i) = empty n i

    empty_stamps : (n i : ℕ) → get_or (replicate n []) i none_stamps ≡ []
    empty_stamps zero i = refl
    empty_stamps (suc n) zero = refl
    empty_stamps (suc n) (suc i) = empty_stamps n i

    zeros : (n i : ℕ) → get_or (replicate n (0 + 0)) i (0 + 0) ≡ 0 + 0
    zeros zero i = refl
    zeros (suc n) zero = refl
    zeros (suc n) (suc i) = zeros n i

    tops : (n : ℕ) → least_top (replicate n none) ≡ 0
    tops zero = refl
    tops (suc zero) = refl
    tops (suc (suc n)) = rw (tops (suc n)) refl

    first : (n : ℕ) → watermark (replicate n none) ≡ (0, 0)
    first n = let make : ℕ → ℕ × ℕ = λ t. (t, cond (t == 0) 0 (all_reached (replicate n none) t)) in ap make (tops n)

    no_items : (n : ℕ) → flat_map items_along (replicate n none) ≡ []
    no_items zero = refl
    no_items (suc n) = no_items n

    no_history : (n : ℕ) → history (replicate n none) ≡ []
    no_history n = ap (λ z. in_order (filter (λ x. is_counted (replicate n none) x.stamp) z)) (no_items n)

-- an element put back
pub set_back : {X : Type 0} (xs : List X) (i : ℕ) (x d : X) → slice_set (slice_set xs i x) i (get_or xs i d) ≡ xs
set_back [] i x d = refl
set_back (y ∷ ys) zero x d = refl
set_back (y ∷ ys) (suc i) x d = ap (λ z. y ∷ z) (set_back ys i x d)

-- ---- how far an epoch counts ----
pub bound_final : (family : List (List Batch)) (e : ℕ) → e < least_top family → Final (all_reached family e) ≡ bound_of family e
bound_final family e l = sym (ap (λ b. cond b (Final (all_reached family e)) (cond (e == least_top family) (Rising (all_reached family e)) Beyond)) (lt_of e (least_top family) l))
  where
    lt_of : (a b : ℕ) → a < b → nat_lt a b ≡ true
    lt_of a b h = grind (arith, nat_tests)

pub bound_rising : (family : List (List Batch)) (e : ℕ) → e ≡ least_top family → Rising (all_reached family e) ≡ bound_of family e
bound_rising family e same =
    sym (ap (λ b. cond b (Final (all_reached family e)) (cond (e == least_top family) (Rising (all_reached family e)) Beyond)) (not_lt e (least_top family) same)
    ∙ ap (λ b. cond b (Rising (all_reached family e)) Beyond) (is_eq e (least_top family) same))
  where
    not_lt : (a b : ℕ) → a ≡ b → nat_lt a b ≡ false
    not_lt a b h = grind (arith, nat_tests)

    is_eq : (a b : ℕ) → a ≡ b → (a == b) ≡ true
    is_eq a b h = grind (arith, nat_tests)
