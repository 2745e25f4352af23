-- What a closed store tells of the items of its pass: they are serial by stamp, and it ends as after them.
use Rattle.std.proofs.Common.{◌≡◌, ◌⊎◌, ℕ, zero, suc, ◌+◌, ◌^◌, ◌<◌, ◌≤◌, List, [], ◌∷◌, ◌++◌, length, map, sum, get_or, AllPairs, Bool, true, false, cond, ◌==◌, Option, refl, sym, ap, ◌∙◌, subst, inl, inr, ⊎_elim, arith}
use Rattle.std.specs.Prelude.{Some, None, slice_index, slice_index_or, IsSomeAnd}
use Rattle.std.specs.List.{list_any}
use Rattle.std.specs.FinMap.{get}
use Rattle.std.proofs.lemmas.Bool.{cases_Bool}
use Rattle.std.proofs.lemmas.Bool.Decides.{nat_tests}
use Rattle.std.proofs.lemmas.List.{append_assoc, length-map}
use mathlib.Core.Option.{some, some-ne-none, some-injective}
use lib.ListN.{get_elem?}
use Rattle.rl_base.specs.Stamps.{packed}
use Rattle.rl_base.specs.Words.{stamp_in}
use Rattle.rl_base.proofs.Members as members
use Rattle.rl_base.proofs.OrderLemmas.{packed_below}
use Rattle.rl_value.specs.Cells.{row_of}
use Rattle.rl_value.specs.Rows.{Rows}
use Rattle.rl_value.specs.Tables.{Table}
use Rattle.rl_tables.specs.Numbers.{sizes_of, record_of, place_of}
use Rattle.rl_tables.proofs.Places.{place_of_record, place_there}
use Rattle.rl_tables.proofs.Sizes.{size_at}
use Rattle.rl_txn.proofs.Folds.{rows_after-append}
use Rattle.rl_txn.specs.Fits.{AnswerFits}
use Rattle.rl_txn.specs.Run.{run}
use Rattle.rl_txn.specs.Serial.{Runs, request_of, rows_after}
use Rattle.rl_txn.specs.declared.item.Item.{Item}
use Rattle.rl_txn.specs.declared.op.Op.{Op}
use Rattle.rl_txn.specs.declared.write.Write.{Write}
use Rattle.rl_families.proofs.Strict.{Less, Strict, strict_cross}
use Rattle.rl_replay.specs.Replay.{is_at}
use Rattle.rl_replay.proofs.Places.{left_by, left_not, get-rows_after, at_same, at_self}
use Rattle.rl_worker.specs.Stamping as stamping
use Rattle.rl_store.specs.declared.view.Item as store
use Rattle.rl_store.specs.declared.view.View.{View}
use Rattle.rl_store.specs.declared.view.Write as stored
use Rattle.rl_store.specs.Ends.{EndsAfter, IsNewest}
use Rattle.rl_store.specs.Entries.{In, Entry, RowOf, Decided, entries, drawn_entry, of_item}
use Rattle.rl_store.specs.Layout.{Closes, Shows, Version, stamp_at}
use Rattle.rl_store.specs.Opening.{Made, opening_of}
use Rattle.rl_store.specs.Views.{IsAtRest}
use Rattle.rl_store.proofs.Loads.{same_cells, row_back}
use Rattle.rl_store.proofs.Marks.{at_map, in_map}
use Rattle.rl_store.proofs.Seating.{append_none}
use Rattle.rl_shared_replay.specs.Replayable.{AreApart}
use Rattle.rl_shared_replay.proofs.Newest.{newest_left}
use Rattle.rl_occ.proofs.Runs.{are_writes}
use Rattle.rl_occ.specs.Fits.{AreWrites, rec_of}
use Rattle.rl_occ.specs.Outcomes.{write_at}
use Rattle.rl_occ.specs.Reading.{HasRowsRead}
use Rattle.rl_live.specs.Decided.{OpensWithRows, IsItemOf, AreItemsOf, IsStoreAfter}

-- ---- places and members ----
pub member : {X : Type 0} (xs : List X) (x : X) → In x xs → members.In x xs
member {X} xs x i = go xs i.0 i.1
  where
    go : (ys : List X) (k : ℕ) → get_elem? ys k ≡ some x → members.In x ys
    go [] k e = absurd (some-ne-none x (sym e))
    go (y ∷ ys) zero e = inl (sym (some-injective y x e))
    go (y ∷ ys) (suc k) e = inr (go ys k e)

pub placed : {X : Type 0} (xs : List X) (x : X) → members.In x xs → In x xs
placed [] x i = absurd i
placed (y ∷ ys) x i = elim i [
  | inl e ↦ (0, ap some (sym e))
  | inr j ↦ (let k = placed ys x j in (suc k.0, k.1))
]

-- writes of different records are at different keys
pub apart_keys : (tables : List Table) (writes : List Write) → AreWrites tables writes → AllPairs AreApart writes
apart_keys tables writes a i j d l m = λ t k.
    let p = place_at writes i d (omega arith) in
    let q = place_at writes j d m in
    let e : i ≡ j = a.apart i j (get_or writes i d) (get_or writes j d) p q (ap (λ n. record_of (sizes_of tables) n (get_or writes i d).key) t ∙ ap (record_of (sizes_of tables) (get_or writes j d).table) k) in
    omega arith
  where
    place_at : (ws : List Write) (n : ℕ) (d : Write) → n < length ws → get_elem? ws n ≡ some (get_or ws n d)
    place_at [] n d l = absurd (omega arith)
    place_at (w ∷ ws) zero d l = refl
    place_at (w ∷ ws) (suc n) d l = place_at ws n d (omega arith)

-- ---- the last stamp of a record ----
writes_at : (sizes : List ℕ) (r : ℕ) (x : Item) → Bool
writes_at sizes r x = list_any (stamping.is_at sizes r) x.writes

stamp_none : (sizes : List ℕ) (r n : ℕ) (xs : List Item) → ((x : Item) → members.In x xs → list_any (stamping.is_at sizes r) x.writes ≡ false) → stamping.last_stamp sizes r n xs ≡ n
stamp_none sizes r n [] h = refl
stamp_none sizes r n (x ∷ xs) h = ap (λ b. stamping.last_stamp sizes r (cond b (packed x.stamp) n) xs) (h x (inl refl)) ∙ stamp_none sizes r n xs (λ y i. h y (inr i))

stamp_left : (sizes : List ℕ) (r n : ℕ) (xs : List Item) → Strict xs → (x : Item) → members.In x xs → list_any (stamping.is_at sizes r) x.writes ≡ true
    → ((y : Item) → members.In y xs → list_any (stamping.is_at sizes r) y.writes ≡ true → Less x y → ⊥) → stamping.last_stamp sizes r n xs ≡ packed x.stamp
stamp_left sizes r n [] s x i w top = absurd i
stamp_left sizes r n (z ∷ zs) s x i w top = elim i [
  | inl e ↦ ap (λ b. stamping.last_stamp sizes r (cond b (packed z.stamp) n) zs) (ap (λ (u : Item). list_any (stamping.is_at sizes r) u.writes) (sym e) ∙ w) ∙ (stamp_none sizes r (packed z.stamp) zs (λ y k. below y k e (cases_Bool (list_any (stamping.is_at sizes r) y.writes))) ∙ ap (λ (u : Item). packed u.stamp) (sym e))
  | inr k ↦ stamp_left sizes r (stamping.stamp_after sizes r n z) zs s.1 x k w (λ y m. top y (inr m))
]
  where
    below : (y : Item) → members.In y zs → x ≡ z → (list_any (stamping.is_at sizes r) y.writes ≡ true) ⊎ (list_any (stamping.is_at sizes r) y.writes ≡ false) → list_any (stamping.is_at sizes r) y.writes ≡ false
    below y k e c = elim c [
      | inl u ↦ absurd (top y (inr k) u (subst (λ (v : Item). Less v y) (sym e) (s.0 y k)))
      | inr u ↦ u
    ]

-- ---- one store ----
some_and : {X : Type 0} (o : Option X) (P Q : X → Type 0) → IsSomeAnd o P → ((x : X) → P x → Q x) → IsSomeAnd o Q
some_and None P Q p f = p
some_and (Some x) P Q p f = f x p

module _ (tables : List Table) (lists : List (List (List Op))) (rows : Rows) (made : Made) (v : View) (words : List ℕ) (closed : List RowOf) (H : List Item)
    (opens : OpensWithRows tables rows made) (rest : IsAtRest v) (ends : EndsAfter (opening_of made) v words closed) (strict : Strict H) (are : AreItemsOf tables lists H v.items) where
  abbrev sizes : List ℕ
  sizes = sizes_of tables

  abbrev Stands : Entry → Type 0
  Stands e = In e (entries v)

  same_entries : entries v ≡ map of_item v.items
  same_entries = ap (λ a. map of_item v.items ++ drawn_entry a a.drawn) rest ∙ append_none (map of_item v.items)

  stands : (i : store.Item) → In i v.items → Stands (of_item i)
  stands i p = subst (λ l. In (of_item i) l) (sym same_entries) (p.0, at_map of_item v.items p.0 i p.1)

  -- the item of an entry
  record Known (e : Entry) : Type 0 where
    pub x : Item
    pub i : store.Item
    pub among : members.In x H
    pub item : IsItemOf tables lists x i
    pub is : of_item i ≡ e

  known : (e : Entry) → Stands e → Known e
  known e p =
      let q = subst (λ l. In e l) same_entries p in
      let j = in_map of_item v.items q.0 e q.1 in
      let k = are.item_of j.0 j.1 in
      record { x = k.0; i = j.0; among = members.contains_in H k.0 k.1; item = k.2; is = j.2 }

  kept : (x : Item) → members.In x H → (i : store.Item) × In i v.items × IsItemOf tables lists x i
  kept x m = are.kept_of x (members.in_contains H x m)

  writes_of : (x : Item) (i : store.Item) → IsItemOf tables lists x i → AreWrites tables x.writes
  writes_of x i it = go (request_of lists x) it.fits
    where
      go : (o : Option (List Op)) → IsSomeAnd o (λ txn. AnswerFits tables txn x.reply x.writes) → AreWrites tables x.writes
      go None f = absurd f
      go (Some txn) f = are_writes tables place_of_record x.writes f.fit f.rising

  seq_of : (x : Item) → members.In x H → x.stamp.seq < 2 ^ 40
  seq_of x m = (kept x m).2.seq

  less_packed : (x y : Item) → members.In x H → members.In y H → Less x y → packed x.stamp < packed y.stamp
  less_packed x y m n l = packed_below x.stamp y.stamp (seq_of x m) (seq_of y n) l

  -- a write is at the place of its record, and no other
  there : (w : Write) (x : Item) → members.In x H → members.In w x.writes → place_of sizes (rec_of tables w) ≡ (w.table, w.key)
  there w x m n =
      let f = (writes_of x (kept x m).0 (kept x m).2).fit w (placed x.writes w n) in
      place_of_record sizes w.table w.key
      (let a = length-map tables (λ (t : Table). t.size) in let c = f.0 in omega arith)
      (let b = size_at tables w.table in let c = f.1 in omega arith)

  at_record : (r : ℕ) (w : Write) (x : Item) → members.In x H → members.In w x.writes → rec_of tables w ≡ r → is_at (place_of sizes r) w ≡ true
  at_record r w x m n e = ap (λ p. is_at p w) (ap (place_of sizes) (sym e) ∙ there w x m n) ∙ at_self w

  record_at : (r : ℕ) → r < sum sizes → (w : Write) → is_at (place_of sizes r) w ≡ true → rec_of tables w ≡ r
  record_at r l w t = ap (λ (p : ℕ × ℕ). record_of sizes p.0 p.1) (sym (at_same (place_of sizes r) w t)) ∙ (place_there sizes r l).number

  -- what an item writes, its entry has closed
  closes : (x : Item) (i : store.Item) → IsItemOf tables lists x i → (w : Write) → members.In w x.writes → Closes (of_item i) (rec_of tables w) w.row
  closes x i it w m =
      let p = placed x.writes w m in
      (write_at tables w, subst (λ l. In (write_at tables w) l) (sym it.writes) (p.0, at_map (write_at tables) x.writes p.0 w p.1), refl, refl)

  wrote : (x : Item) (i : store.Item) → IsItemOf tables lists x i → (r : ℕ) (row : RowOf) → Closes (of_item i) r row → (w : Write) × members.In w x.writes × (rec_of tables w ≡ r) × (w.row ≡ row)
  wrote x i it r row c =
      let p = subst (λ l. In c.0 l) it.writes c.1 in
      let q = in_map (write_at tables) x.writes p.0 c.0 p.1 in
      (q.0, member x.writes q.0 q.1, ap (λ (y : stored.Write). y.rec) q.2 ∙ c.2, ap (λ (y : stored.Write). y.row) q.2 ∙ c.3)

  -- ---- the row and the stamp of a version ----
  module _ (P : List Item) (strictly : Strict P) (inside : (x : Item) → members.In x P → members.In x H)
      (r : ℕ) (l : r < sum sizes) (stamp : ℕ) (row : RowOf)
      (before : (x : Item) → members.In x H → packed x.stamp ≡ stamp → members.In x P)
      (newest : (x : Item) → members.In x P → (w : Write) → members.In w x.writes → rec_of tables w ≡ r → packed x.stamp ≤ stamp) where
    -- no item before writes where the version is the opening one
    nobody : stamp ≡ stamp_at made.words r → (x : Item) → members.In x P → (w : Write) → members.In w x.writes → rec_of tables w ≡ r → ⊥
    nobody o x m w n e =
        let k = kept x (inside x m) in
        let a = newest x m w n e in
        let low = ends.from (of_item k.0) (stands k.0 k.1) in
        let early = ends.opening r (subst (λ n. r < n) (sym opens.records.records) l) in
        let s = k.2.stamp in
        omega arith

    -- the stamps of what is written above are none
    none_above : (x : Item) → members.In x P → packed x.stamp ≡ stamp → (y : Item) → members.In y P → (w : Write) → members.In w y.writes → rec_of tables w ≡ r → Less x y → ⊥
    none_above x m e y n w o f less = let a = less_packed x y (inside x m) (inside y n) less in let b = newest y n w o f in omega arith

    same_row : (row' : RowOf) → Shows (opening_of made) made.words r row → Shows (opening_of made) made.words r row' → row ≡ row'
    same_row row' a b =
        let columns = slice_index made.columns r in
        sym (row_back columns row) ∙ (ap row_of (same_cells _ _ (1 + columns) a.0 b.0 (λ k m. sym (a.1 k m) ∙ b.1 k m)) ∙ row_back columns row')

    pub row_left : Version (opening_of made) Stands r stamp row → get (rows_after rows P) (place_of sizes r) ≡ row
    row_left version = get-rows_after rows P (place_of sizes r) ∙ ⊎_elim
        (λ (o : (stamp ≡ stamp_at made.words r) × Shows (opening_of made) made.words r row).
        nobody_at o.0 ∙ sym (same_row (get rows (place_of sizes r)) o.1 (opens.shown r l)))
        (λ (o : (e : Entry) × Stands e × Decided e × (e.stamp ≡ stamp) × Closes e r row).
        let k = known o.0 o.1 in
        let at : packed k.x.stamp ≡ stamp = sym k.item.stamp ∙ (ap (λ (e : Entry). e.stamp) k.is ∙ o.3) in
        let w = wrote k.x k.i k.item r row (subst (λ (e : Entry). Closes e r row) (sym k.is) o.4) in
        let m = before k.x k.among at in
        newest_left (place_of sizes r) (get rows (place_of sizes r)) P strictly k.x m w.0 w.1 (at_record r w.0 k.x k.among w.1 w.2) (apart_keys tables k.x.writes (writes_of k.x k.i k.item))
        (λ y n t. let u = members.true_any (is_at (place_of sizes r)) y.writes t in none_above k.x m at y n u.0 u.1 (record_at r l u.0 u.2))
        ∙ w.3)
        version
      where
        nobody_at : stamp ≡ stamp_at made.words r → left_by (get rows (place_of sizes r)) (place_of sizes r) P ≡ get rows (place_of sizes r)
        nobody_at o = left_not (place_of sizes r) P (get rows (place_of sizes r))
            (members.any_false (λ (y : Item). list_any (is_at (place_of sizes r)) y.writes) P (λ y n. members.any_false (is_at (place_of sizes r)) y.writes (λ w m. not_at y n w m (cases_Bool (is_at (place_of sizes r) w)))))
          where
            not_at : (y : Item) → members.In y P → (w : Write) → members.In w y.writes → (is_at (place_of sizes r) w ≡ true) ⊎ (is_at (place_of sizes r) w ≡ false) → is_at (place_of sizes r) w ≡ false
            not_at y n w m c = elim c [
              | inl t ↦ absurd (nobody o y n w m (record_at r l w t))
              | inr f ↦ f
            ]

    -- whether an item writes the record, as its stamps are told
    hits : (x : Item) → members.In x P → (w : Write) → members.In w x.writes → rec_of tables w ≡ r → list_any (stamping.is_at sizes r) x.writes ≡ true
    hits x m w n e = members.any_true (stamping.is_at sizes r) x.writes w n (same e)
      where
        same : rec_of tables w ≡ r → (rec_of tables w == r) ≡ true
        same f = grind (arith, nat_tests, f)

    hit : (x : Item) → list_any (stamping.is_at sizes r) x.writes ≡ true → (w : Write) × members.In w x.writes × (rec_of tables w ≡ r)
    hit x t = let u = members.true_any (stamping.is_at sizes r) x.writes t in (u.0, u.1, same u.0 u.2)
      where
        same : (w : Write) → (rec_of tables w == r) ≡ true → rec_of tables w ≡ r
        same w f = grind (arith, nat_tests, f)

    pub stamp_is : Version (opening_of made) Stands r stamp row → stamping.last_stamp sizes r (stamp_at made.words r) P ≡ stamp
    stamp_is version = ⊎_elim
        (λ (o : (stamp ≡ stamp_at made.words r) × Shows (opening_of made) made.words r row).
        stamp_none sizes r (stamp_at made.words r) P (λ y n. none o.0 y n (cases_Bool (list_any (stamping.is_at sizes r) y.writes))) ∙ sym o.0)
        (λ (o : (e : Entry) × Stands e × Decided e × (e.stamp ≡ stamp) × Closes e r row).
        let k = known o.0 o.1 in
        let at : packed k.x.stamp ≡ stamp = sym k.item.stamp ∙ (ap (λ (e : Entry). e.stamp) k.is ∙ o.3) in
        let w = wrote k.x k.i k.item r row (subst (λ (e : Entry). Closes e r row) (sym k.is) o.4) in
        let m = before k.x k.among at in
        stamp_left sizes r (stamp_at made.words r) P strictly k.x m (hits k.x m w.0 w.1 w.2) (λ y n t. let u = hit y t in none_above k.x m at y n u.0 u.1 u.2) ∙ at)
        version
      where
        none : stamp ≡ stamp_at made.words r → (y : Item) → members.In y P → (list_any (stamping.is_at sizes r) y.writes ≡ true) ⊎ (list_any (stamping.is_at sizes r) y.writes ≡ false) → list_any (stamping.is_at sizes r) y.writes ≡ false
        none o y n c = elim c [
          | inl t ↦ (let u = hit y t in absurd (nobody o y n u.0 u.1 u.2))
          | inr f ↦ f
        ]

  -- ---- all items ----
  -- the rows before an item have what it read
  reads_of : (P S : List Item) (x : Item) → P ++ x ∷ S ≡ H → (m : members.In x H) → HasRowsRead tables (kept x m).0.reads (rows_after rows P)
  reads_of P S x cut m read there =
      let k = kept x m in
      let i = k.0 in
      let s = ends.serial (of_item i) read (stands i k.1) there in
      let split : Strict (P ++ x ∷ S) = subst (λ z. Strict z) (sym cut) strict in
      let inside : (y : Item) → members.In y P → members.In y H = (λ y n. subst (λ z. members.In y z) cut (members.in_prefix P (x ∷ S) y n)) in
      let stamp : i.stamp ≡ packed x.stamp = k.2.stamp in
      let below : (y : Item) → members.In y P → packed y.stamp < packed x.stamp = (λ y n. less_packed y x (inside y n) m (strict_cross P (x ∷ S) split y x n (inl refl))) in
      row_left P (front P (x ∷ S) split) inside read.rec (k.2.inside read there) read.stamp read.row
      (λ y n e. earlier split y n (let b = s.before in let g = stamp in let h = e in omega arith))
      (λ y n w o e. let j = kept y (inside y n) in
      let c = subst (λ q. Closes (of_item j.0) q w.row) e (closes y j.0 j.2 w o) in
      let g : j.0.stamp ≡ packed y.stamp = j.2.stamp in
      let a = s.newest (of_item j.0) w.row (stands j.0 j.1) c (let b = below y n in let h = stamp in omega arith) in omega arith)
      s.version
    where
      front : (A B : List Item) → Strict (A ++ B) → Strict A
      front [] B s = tt
      front (a ∷ A) B s = ((λ y i. s.0 y (members.in_prefix A B y i)), front A B s.1)

      behind : (A : List Item) (B : List Item) → Strict (A ++ x ∷ B) → (y : Item) → members.In y B → Less x y
      behind [] B s y i = s.0 y i
      behind (a ∷ A) B s y i = behind A B s.1 y i

      earlier : Strict (P ++ x ∷ S) → (y : Item) → members.In y H → packed y.stamp < packed x.stamp → members.In y P
      earlier split y n less = elim (members.in_split P (x ∷ S) y (subst (λ z. members.In y z) (sym cut) n)) [
        | inl i ↦ i
        | inr i ↦ elim i [
          | inl e ↦ absurd (let f : packed y.stamp ≡ packed x.stamp = ap (λ (z : Item). packed z.stamp) e in omega arith)
          | inr j ↦ absurd (let f = less_packed x y m n (behind P S split y j) in omega arith)
        ]
      ]

  runs_from : (P S : List Item) → P ++ S ≡ H → Runs tables lists (rows_after rows P) S
  runs_from P [] cut = tt
  runs_from P (x ∷ S) cut =
      let m : members.In x H = subst (λ z. members.In x z) cut (members.in_suffix P (x ∷ S) x (inl refl)) in (
        some_and (request_of lists x) (λ txn. (others : Rows) → HasRowsRead tables (kept x m).0.reads others → run tables txn others ≡ (x.reply, x.writes)) (λ txn. run tables txn (rows_after rows P) ≡ (x.reply, x.writes)) (kept x m).2.runs (λ txn f. f (rows_after rows P) (reads_of P S x cut m)),
        subst (λ z. Runs tables lists z S) (rows_after-append rows P (x ∷ [])) (runs_from (P ++ x ∷ []) S (append_assoc P (x ∷ []) S ∙ cut)),
      )

  pub runs_all : Runs tables lists rows H
  runs_all = runs_from [] H refl

  pub store_after : IsStoreAfter tables rows made H words closed
  store_after = record {
    row = λ r l. let n = last r l in sym (row_left H strict (λ x m. m) r l (stamp_in (slice_index words r)) (slice_index_or closed r None) (λ x m e. m) (newest r l) n.version);
    stamp = λ r l. let n = last r l in sym (stamp_is H strict (λ x m. m) r l (stamp_in (slice_index words r)) (slice_index_or closed r None) (λ x m e. m) (newest r l) n.version);
  }
    where
      last : (r : ℕ) → r < sum sizes → IsNewest (opening_of made) Stands r (slice_index words r) (slice_index_or closed r None)
      last r l = ends.records r (subst (λ n. r < n) (sym opens.records.records) l)

      newest : (r : ℕ) → r < sum sizes → (x : Item) → members.In x H → (w : Write) → members.In w x.writes → rec_of tables w ≡ r → packed x.stamp ≤ stamp_in (slice_index words r)
      newest r l x m w n e =
          let j = kept x m in
          let c = subst (λ q. Closes (of_item j.0) q w.row) e (closes x j.0 j.2 w n) in
          let g : j.0.stamp ≡ packed x.stamp = j.2.stamp in
          let a = (last r l).newest (of_item j.0) w.row (stands j.0 j.1) c in omega arith
