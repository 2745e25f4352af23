-- The stamps with which records open, item by item and write by write.
use Rattle.std.proofs.Common.{◌≡◌, ℕ, ◌+◌, ◌<◌, List, [], ◌∷◌, ◌++◌, length, sum, take, set, get_or, slice_index, replicate, Bool, true, false, ◌||◌, if◌then◌else◌, All, EachIndex, refl, sym, ap, ◌∙◌, subst, arith, inl, inr}
use Rattle.std.specs.List.{list_any, AllByRecursion}
use Rattle.std.proofs.lemmas.Bool.Decides.{eqb_tells}
use Rattle.std.proofs.lemmas.List.{take_more, ext_get_or, get_or-set_same, get_or-set_other, get_or-replicate, length-map, length-replicate}
use Rattle.std.proofs.lemmas.List.FromFn.{get_or-map-range_with_len, length-map-range_with_len}
use Rattle.std.proofs.lemmas.List.Elements.{recursion_from_All}
use Rattle.rl_base.specs.Stamps.{packed}
use Rattle.rl_value.specs.Tables.{Table}
use Rattle.rl_tables.specs.Numbers.{sizes_of, record_of}
use Rattle.rl_tables.proofs.Sizes.{size_at}
use Rattle.rl_txn.specs.Fits.{ItemWritesFit}
use Rattle.rl_txn.specs.declared.item.Item.{Item}
use Rattle.rl_txn.specs.declared.write.Write.{Write}
use Rattle.rl_worker.specs.Stamping.{WritesAreThere, is_at, stamp_after, last_stamp, opening_stamps}

any_push : {X : Type 0} (p : X → Bool) (xs : List X) (x : X) → list_any p (xs ++ x ∷ []) ≡ (list_any p xs || p x)
any_push p [] x = go (p x)
  where
    go : (b : Bool) → (b || false) ≡ (false || b)
    go true = refl
    go false = refl
any_push p (y ∷ ys) x = ap (λ b. p y || b) (any_push p ys x) ∙ go (p y)
  where
    go : (b : Bool) → (b || (list_any p ys || p x)) ≡ ((b || list_any p ys) || p x)
    go true = refl
    go false = refl

or_true : (b : Bool) → (b || true) ≡ true
or_true true = refl
or_true false = refl

or_false : (b : Bool) → (b || false) ≡ b
or_false true = refl
or_false false = refl

any_more : {X : Type 0} (p : X → Bool) (xs : List X) (i : ℕ) (x : X) → i < length xs → x ≡ get_or xs i x → list_any p (take (i + 1) xs) ≡ (list_any p (take i xs) || p x)
any_more p xs i x l e = ap (list_any p) (take_more xs i x l) ∙ any_push p (take i xs) (get_or xs i x) ∙ ap (λ z. list_any p (take i xs) || p z) (sym e)

-- ---- one more write ----
pub write_more : (sizes : List ℕ) (writes : List Write) (stamp n : ℕ) (now : List ℕ) (i r : ℕ) (w : Write) → i < length writes → w ≡ get_or writes i w → r < length now
    → get_or now r 0 ≡ (if list_any (is_at sizes r) (take i writes) then stamp else n)
    → get_or (set now (record_of sizes w.table w.key) stamp) r 0 ≡ (if list_any (is_at sizes r) (take (i + 1) writes) then stamp else n)
write_more sizes writes stamp n now i r w l e there before = elim (eqb_tells (record_of sizes w.table w.key) r) [
  | inl k ↦ (
      let all : list_any (is_at sizes r) (take (i + 1) writes) ≡ true =
      any_more (is_at sizes r) writes i w l e ∙ ap (λ b. list_any (is_at sizes r) (take i writes) || b) k.0 ∙ or_true (list_any (is_at sizes r) (take i writes)) in
      ap (λ j. get_or (set now j stamp) r 0) k.1 ∙ get_or-set_same now r stamp 0 there ∙ ap (λ b. if b then stamp else n) (sym all))
  | inr k ↦ (
      let same : list_any (is_at sizes r) (take (i + 1) writes) ≡ list_any (is_at sizes r) (take i writes) =
      any_more (is_at sizes r) writes i w l e ∙ ap (λ b. list_any (is_at sizes r) (take i writes) || b) k.0 ∙ or_false (list_any (is_at sizes r) (take i writes)) in
      get_or-set_other now (record_of sizes w.table w.key) r stamp 0 (λ h. k.1 (sym h)) ∙ before ∙ ap (λ b. if b then stamp else n) (sym same))
]

-- ---- one more item ----
last_push : (sizes : List ℕ) (r n : ℕ) (items : List Item) (item : Item) → last_stamp sizes r n (items ++ item ∷ []) ≡ stamp_after sizes r (last_stamp sizes r n items) item
last_push sizes r n [] item = refl
last_push sizes r n (x ∷ items) item = last_push sizes r (stamp_after sizes r n x) items item

stamp_at : (sizes : List ℕ) (items : List Item) (r : ℕ) → r < sum sizes → get_or (opening_stamps sizes items) r 0 ≡ last_stamp sizes r 0 items
stamp_at sizes items r h = get_or-map-range_with_len (λ r. last_stamp sizes r 0 items) 0 (sum sizes) r r 0 h (omega arith)

pub count_is : (sizes : List ℕ) (items : List Item) → length (opening_stamps sizes items) ≡ sum sizes
count_is sizes items = length-map-range_with_len (λ r. last_stamp sizes r 0 items) 0 (sum sizes)

pub item_more : (sizes : List ℕ) (items : List Item) (i : ℕ) (item : Item) (old new : List ℕ) → i < length items → item ≡ get_or items i item
    → old ≡ opening_stamps sizes (take i items) → length new ≡ length old → EachIndex new (λ r. slice_index new r ≡ stamp_after sizes r (slice_index old r) item)
    → new ≡ opening_stamps sizes (take (i + 1) items)
item_more sizes items i item old new l e was count each =
    let n_old : length old ≡ sum sizes = ap length was ∙ count_is sizes (take i items) in
    let n_new : length new ≡ length (opening_stamps sizes (take (i + 1) items)) = count ∙ n_old ∙ sym (count_is sizes (take (i + 1) items)) in
    ext_get_or 0 new (opening_stamps sizes (take (i + 1) items)) n_new (λ r h.
    let within : r < sum sizes = omega (arith, h, count, n_old) in
    each r h ∙ ap (λ z. stamp_after sizes r (get_or z r 0) item) was ∙ ap (λ z. stamp_after sizes r z item) (stamp_at sizes (take i items) r within)
    ∙ ap (stamp_after sizes r (last_stamp sizes r 0 (take i items))) e ∙ sym (last_push sizes r 0 (take i items) (get_or items i item))
    ∙ ap (last_stamp sizes r 0) (sym (take_more items i item l)) ∙ sym (stamp_at sizes (take (i + 1) items) r within))

-- before all items
pub none_stamped : (sizes : List ℕ) (n : ℕ) → n ≡ sum sizes → replicate n 0 ≡ opening_stamps sizes []
none_stamped sizes n is =
    ext_get_or 0 (replicate n 0) (opening_stamps sizes []) (length-replicate {A = ℕ} n 0 ∙ is ∙ sym (count_is sizes [])) (λ r h.
    let within : r < n = omega (arith, h, length-replicate {A = ℕ} n 0) in
    get_or-replicate n r 0 0 within ∙ sym (stamp_at sizes [] r (omega (arith, within, is))))

-- ---- stamps that are early ----
early_after : (sizes : List ℕ) (r n bound : ℕ) (item : Item) → n < bound → packed item.stamp < bound → stamp_after sizes r n item < bound
early_after sizes r n bound item a b = go (list_any (is_at sizes r) item.writes)
  where
    go : (t : Bool) → (if t then packed item.stamp else n) < bound
    go true = b
    go false = a

early_last : (sizes : List ℕ) (r n bound : ℕ) (items : List Item) → n < bound → AllByRecursion (λ (item : Item). packed item.stamp < bound) items → last_stamp sizes r n items < bound
early_last sizes r n bound [] a h = a
early_last sizes r n bound (item ∷ items) a h = early_last sizes r (stamp_after sizes r n item) bound items (early_after sizes r n bound item a h.0) h.1

pub early : (sizes : List ℕ) (items : List Item) (bound : ℕ) → 0 < bound → All (λ (item : Item). packed item.stamp < bound) items → All (λ stamp. stamp < bound) (opening_stamps sizes items)
early sizes items bound some h r d l =
    let within : r < sum sizes = omega (arith, l, count_is sizes items) in
    let at : get_or (opening_stamps sizes items) r d ≡ last_stamp sizes r 0 items = get_or-map-range_with_len (λ r. last_stamp sizes r 0 items) 0 (sum sizes) r r d within (omega arith) in
    rw at (early_last sizes r 0 bound items some (recursion_from_All (λ (item : Item). packed item.stamp < bound) items h))

-- ---- what fits is there ----
pub fits_there : (tables : List Table) (item : Item) → ItemWritesFit tables item → WritesAreThere (sizes_of tables) item
fits_there tables item h k d l =
    let f = h k d l in
    (omega (arith, f.0, length-map tables (λ (t : Table). t.size)), subst (λ n. (get_or item.writes k d).key < n) (sym (size_at tables (get_or item.writes k d).table)) f.1)
