-- Serial epochs, each behind its opening list, have serial histories.
use Rattle.std.proofs.Common.{◌≡◌, ◌⊎◌, ℕ, zero, suc, ◌+◌, ◌^◌, ◌<◌, List, [], ◌∷◌, ◌++◌, length, map, true, nat_le, ◌==◌, refl, sym, ap, ◌∙◌, subst, arith, inl, inr, length-append}
use Rattle.std.specs.Prelude.{slice_index}
use Rattle.std.specs.List.{filter, range_with_len}
use Rattle.std.specs.List.Sorted.{IsStrictlyIncreasing}
use Rattle.std.proofs.lemmas.List.{map-append}
use Rattle.std.proofs.lemmas.List.Elements.{filter-append}
use Rattle.std.proofs.lemmas.Bool.Decides.{nat_tests}
use Rattle.rl_base.specs.Lists.{IsPrefix}
use Rattle.rl_base.specs.Stamps.{packed}
use Rattle.rl_value.specs.Rows.{Rows}
use Rattle.rl_value.specs.Tables.{Table}
use Rattle.rl_txn.specs.declared.op.Op.{Op}
use Rattle.rl_txn.specs.declared.item.Item.{Item}
use Rattle.rl_txn.specs.declared.batch.Batch.{Batch}
use Rattle.rl_txn.specs.Serial.{after_writes, rows_after, Runs, indexes_of, IsInLists}
use Rattle.rl_families.specs.Families.{history}
use Rattle.rl_families.specs.Leaders.{logs_of_streams, Leaders, opening_list, AreLeaders, ArePrefixesOfLeaders}
use Rattle.rl_families.specs.LeadersLogs.{AreSerialLeaders}
use Rattle.rl_families.specs.Laws.{HistoriesAreSerial}
use Rattle.rl_base.proofs.Members.{In, in_contains, in_filter, filter_in}
use Rattle.rl_families.proofs.Strict.{Strict, Less, strict_filter, down_prefix}
use Rattle.rl_families.proofs.Streams.{in_history}
use Rattle.rl_families.proofs.Extending.{decided_strict, decided_epoch, f_item, hist_strict, good_history}

-- ---- stamps as numbers ----
below_packed : (x y : Item) → x.stamp.seq < 2 ^ 40 → Less x y → packed x.stamp < packed y.stamp
below_packed x y h l = elim l [ inl a ↦ omega arith | inr a ↦ omega (arith, a.0, a.1) ]

packed_rises : (xs : List Item) → Strict xs → ((x : Item) → In x xs → x.stamp.seq < 2 ^ 40) → IsStrictlyIncreasing (map (λ (x : Item). packed x.stamp) xs)
packed_rises [] s h k a = absurd (omega arith)
packed_rises (x ∷ []) s h k a = absurd (omega arith)
packed_rises (x ∷ (y ∷ ys)) s h zero a = below_packed x y (h x (inl refl)) (s.0 y (inl refl))
packed_rises (x ∷ (y ∷ ys)) s h (suc k) a =
    let e : suc k + 1 ≡ suc (k + 1) = omega arith in
    subst (λ z. slice_index (map (λ (i : Item). packed i.stamp) (y ∷ ys)) k < slice_index (map (λ (i : Item). packed i.stamp) (x ∷ (y ∷ ys))) z) (sym e)
    (packed_rises (y ∷ ys) s.1 (λ z i. h z (inr i)) k (omega arith))

-- ---- runs ----
module _ (tables : List Table) (lists : List (List (List Op))) where
  runs_append : (rows : Rows) (xs ys : List Item) → Runs tables lists rows xs → Runs tables lists (rows_after rows xs) ys → Runs tables lists rows (xs ++ ys)
  runs_append rows [] ys a b = b
  runs_append rows (x ∷ xs) ys a b = (a.0, runs_append (after_writes rows x.writes) xs ys a.1 b)

  runs_front : (rows : Rows) (xs ys : List Item) → Runs tables lists rows (xs ++ ys) → Runs tables lists rows xs
  runs_front rows [] ys a = tt
  runs_front rows (x ∷ xs) ys a = (a.0, runs_front (after_writes rows x.writes) xs ys a.1)

-- ---- indexes ----
indexes-append : (w : ℕ) (xs ys : List Item) → indexes_of w (xs ++ ys) ≡ indexes_of w xs ++ indexes_of w ys
indexes-append w xs ys = ap (map (λ (x : Item). x.index)) (filter-append (λ (x : Item). x.worker == w) xs ys)
    ∙ map-append (λ (x : Item). x.index) (filter (λ (x : Item). x.worker == w) xs) (filter (λ (x : Item). x.worker == w) ys)

range_front : (xs ys : List ℕ) (a m : ℕ) → xs ++ ys ≡ range_with_len a m → xs ≡ range_with_len a (length xs)
range_front [] ys a m h = refl
range_front (x ∷ xs) ys a zero h = absurd (let n = h in cc)
range_front (x ∷ xs) ys a (suc m) h =
    let first : x ≡ a = (let n = h in cc) in
    let rest : xs ++ ys ≡ range_with_len (a + 1) m = (let n = h in cc) in
    ap (λ z. z ∷ xs) first ∙ ap (λ z. a ∷ z) (range_front xs ys (a + 1) m rest)

range-append : (a i j : ℕ) → range_with_len a i ++ range_with_len (a + i) j ≡ range_with_len a (i + j)
range-append a zero j = let e : a + 0 ≡ a = omega arith in let f : j ≡ 0 + j = omega arith in ap (λ z. range_with_len z j) e ∙ ap (range_with_len a) f
range-append a (suc i) j =
    let e : a + suc i ≡ (a + 1) + i = omega arith in
    let f : suc (i + j) ≡ suc i + j = omega arith in
    ap (λ z. range_with_len a (suc i) ++ range_with_len z j) e ∙ ap (λ z. a ∷ z) (range-append (a + 1) i j) ∙ ap (range_with_len a) f

-- ---- one epoch more ----
module _ (tables : List Table) (lists : List (List (List Op))) (opening : Rows) (l : Leaders) (n : ℕ) (g : AreLeaders l n) (serial : AreSerialLeaders tables lists opening l n) where
  abbrev Good : List Item → Type 0
  Good items = Runs tables lists opening items × IsInLists items

  decided_front : (e seq : ℕ) → IsPrefix (filter (λ (x : Item). nat_le x.stamp.seq seq) (l.decided e)) (l.decided e)
  decided_front e seq = down_prefix (filter (λ (x : Item). nat_le x.stamp.seq seq) (l.decided e)) (l.decided e)
      (strict_filter (λ (x : Item). nat_le x.stamp.seq seq) (l.decided e) (decided_strict l n g e)) (decided_strict l n g e)
      (λ x i. (in_filter (λ (z : Item). nat_le z.stamp.seq seq) x (l.decided e) i).0)
      (λ x y i j less. let k = in_filter (λ (z : Item). nat_le z.stamp.seq seq) x (l.decided e) i in
      filter_in (λ (z : Item). nat_le z.stamp.seq seq) y (l.decided e) j (down x.stamp.epoch y.stamp.epoch x.stamp.seq y.stamp.seq (decided_epoch l n g e x k.0 ∙ sym (decided_epoch l n g e y j)) less k.1))
    where
      down : (a b p q : ℕ) → a ≡ b → (b < a) ⊎ ((b ≡ a) × (q < p)) → nat_le p seq ≡ true → nat_le q seq ≡ true
      down a b p q same less h = grind (arith, nat_tests)

  step : (e seq : ℕ) → 0 < e → Good (opening_list l n e) → Good (opening_list l n e ++ filter (λ (x : Item). nat_le x.stamp.seq seq) (l.decided e))
  step e seq born good =
      let first = filter (λ (x : Item). nat_le x.stamp.seq seq) (l.decided e) in
      let pre = decided_front e seq in (
        runs_append tables lists opening (opening_list l n e) first good.0
            (runs_front tables lists (rows_after opening (opening_list l n e)) first pre.0 (subst (Runs tables lists (rows_after opening (opening_list l n e))) (sym pre.1) (serial.runs e born))),
        λ w. joined w (opening_list l n e) first pre.0 (l.decided e) pre.1 (good.1 w) (serial.follow e born w),
      )
    where
      joined : (w : ℕ) (before first rest all : List Item) → first ++ rest ≡ all → indexes_of w before ≡ range_with_len 1 (length (indexes_of w before))
          → indexes_of w all ≡ range_with_len (1 + length (indexes_of w before)) (length (indexes_of w all)) → indexes_of w (before ++ first) ≡ range_with_len 1 (length (indexes_of w (before ++ first)))
      joined w before first rest all is a b =
          let k = length (indexes_of w before) in
          let j = length (indexes_of w first) in
          let front : indexes_of w first ≡ range_with_len (1 + length (indexes_of w before)) (length (indexes_of w first)) =
          range_front (indexes_of w first) (indexes_of w rest) (1 + length (indexes_of w before)) (length (indexes_of w all)) (sym (indexes-append w first rest) ∙ ap (indexes_of w) is ∙ b) in
          let count : length (indexes_of w (before ++ first)) ≡ length (indexes_of w before) + length (indexes_of w first) = ap length (indexes-append w before first) ∙ length-append (indexes_of w before) (indexes_of w first) in
          indexes-append w before first ∙ ap (λ z. z ++ indexes_of w first) a ∙ ap (λ z. range_with_len 1 (length (indexes_of w before)) ++ z) front
          ∙ range-append 1 (length (indexes_of w before)) (length (indexes_of w first)) ∙ ap (range_with_len 1) (sym count)

  pub good : (f : ℕ → List Batch) → ArePrefixesOfLeaders l n f → Good (history (logs_of_streams n f))
  good f told = good_history l n g Good (tt, λ w. refl) step f told

pub histories_are_serial : HistoriesAreSerial
histories_are_serial tables lists opening l n g f told serial =
    let k = good tables lists opening l n g serial f told in
    record {
      serial = record {
        rising = packed_rises (history (logs_of_streams n f)) (hist_strict l n g f told) (λ x i.
            let m = in_history n f x i in
            serial.small x.stamp.epoch x (in_contains (l.decided x.stamp.epoch) x (f_item l n g f told m.stream m.low m.high x m.has).0));
        runs = k.0;
      };
      in_lists = k.1;
    }
