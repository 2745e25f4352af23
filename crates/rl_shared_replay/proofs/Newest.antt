-- The newest row of each key is the one after all items in the order of their stamps.
use Rattle.std.proofs.Common.{◌≡◌, ◌≢◌, ◌⊎◌, ℕ, zero, suc, ◌+◌, ◌*◌, ◌^◌, ◌<◌, ◌≤◌, List, [], ◌∷◌, ◌++◌, length, get_or, map, sum, All, AllPairs, Contains, Bool, true, false, cond, Option, refl, sym, ap, ◌∙◌, subst, inl, inr, ⊎_elim, arith, true≢false}
use Rattle.std.specs.Prelude.{Some, None}
use Rattle.std.specs.List.{list_any}
use Rattle.std.specs.FinMap.{get}
use Rattle.std.proofs.lemmas.Bool.{cases_Bool}
use Rattle.rl_base.specs.Stamps.{packed}
use Rattle.rl_families.specs.Order.{in_order}
use Rattle.rl_base.proofs.Members.{In, contains_in, in_contains, any_false, true_any, in_split, map_in}
use Rattle.rl_families.proofs.Sorting.{in_in_order, in_order_in}
use Rattle.rl_families.proofs.StampedLogs.{distinct_diff}
use Rattle.rl_families.proofs.Strict.{Less, Strict, in_order_strict}
use Rattle.rl_replay.specs.Replay.{is_at, AreDistinct}
use Rattle.rl_replay.proofs.Places.{written, left_by, left_not, written_not, get-rows_after, same_rows, at_same, at_self}
use Rattle.rl_tables.specs.Numbers.{record_of, place_of}
use Rattle.rl_txn.specs.Serial.{rows_after}
use Rattle.rl_txn.specs.declared.item.Item.{Item}
use Rattle.rl_txn.specs.declared.write.Write.{Write}
use Rattle.rl_value.specs.Fits.{RowsFit}
use Rattle.rl_value.specs.Rows.{Rows}
use Rattle.rl_value.specs.Tables.{Table, size_of, columns_of}
use Rattle.rl_tables.proofs.Sizes.{size_at}
use Rattle.std.proofs.lemmas.List.{length-map}
use Rattle.rl_shared_replay.specs.declared.view.Version.{Version}
use Rattle.rl_shared_replay.specs.Ends.{IsNewest, IsKey, IsNewestMap}
use Rattle.rl_shared_replay.specs.Layout.{RowOf, Shows}
use Rattle.rl_shared_replay.specs.Opening.{IsStart, row_of_record}
use Rattle.rl_shared_replay.specs.Replayable.{IsReplayable, AreApart}
use Rattle.rl_shared_replay.specs.Start.{Made, plan_in, all_items, version_of, item_versions, versions_of}
use Rattle.rl_shared_replay.proofs.Ending.{shows_one}
use Rattle.rl_shared_replay.proofs.Filling.{opening_shows}
use Rattle.rl_shared_replay.proofs.Items.{write_in}
use Rattle.rl_shared_replay.proofs.Keys.{is_key, one_key, record_below}
use Rattle.rl_shared_replay.proofs.Lists.{has_split, has_none}
use Rattle.rl_shared_replay.proofs.Planning.{place_of_record, versions_in, write_key, in_all_items}
use Rattle.rl_shared_replay.proofs.Wholes.{no_more}

-- ---- one item ----
apart_head : (u : Write) (us : List Write) → AllPairs AreApart (u ∷ us) → (v : Write) → In v us → AreApart u v
apart_head u us h v i = let c = in_contains us v i in subst (AreApart u) c.2 (h 0 (suc c.0) v (omega arith) (let l = c.1 in omega arith))

apart_tail : (u : Write) (us : List Write) → AllPairs AreApart (u ∷ us) → AllPairs AreApart us
apart_tail u us h i j d l m = h (suc i) (suc j) d (omega arith) (omega arith)

-- the row of the one write at a key
written_one : (q : ℕ × ℕ) (o : RowOf) (ws : List Write) (w : Write) → In w ws → is_at q w ≡ true → AllPairs AreApart ws → written o q ws ≡ w.row
written_one q o [] w i t h = absurd i
written_one q o (u ∷ us) w i t h = elim i [
  | inl e ↦ ap (λ b. written (cond b u.row o) q us) (ap (is_at q) (sym e) ∙ t) ∙ (written_not q us u.row (any_false (is_at q) us (λ v j. other v j e (cases_Bool (is_at q v)))) ∙ ap (λ (x : Write). x.row) (sym e))
  | inr j ↦ written_one q (cond (is_at q u) u.row o) us w j t (apart_tail u us h)
]
  where
    other : (v : Write) → In v us → w ≡ u → (is_at q v ≡ true) ⊎ (is_at q v ≡ false) → is_at q v ≡ false
    other v j e c = elim c [
      | inl s ↦ (let a = at_same q v s in let b = at_same q w t in
          absurd (apart_head u us h v j (ap (λ (x : Write). x.table) (sym e) ∙ (ap (λ (p : ℕ × ℕ). p.0) (sym b ∙ a))) (ap (λ (x : Write). x.key) (sym e) ∙ (ap (λ (p : ℕ × ℕ). p.1) (sym b ∙ a)))))
      | inr f ↦ f
    ]

-- an item writes at a key
abbrev writes_there : (q : ℕ × ℕ) (x : Item) → Bool
writes_there q x = list_any (is_at q) x.writes

-- the newest item that writes at a key leaves its row there
pub newest_left : (q : ℕ × ℕ) (o : RowOf) (xs : List Item) → Strict xs → (x : Item) → In x xs → (w : Write) → In w x.writes → is_at q w ≡ true → AllPairs AreApart x.writes
    → ((y : Item) → In y xs → writes_there q y ≡ true → Less x y → ⊥) → left_by o q xs ≡ w.row
newest_left q o [] s x i w j t apart top = absurd i
newest_left q o (z ∷ zs) s x i w j t apart top = elim i [
  | inl e ↦ left_not q zs (written o q z.writes) (any_false (writes_there q) zs (λ y k. below y k e (cases_Bool (writes_there q y)))) ∙ (ap (λ (u : Item). written o q u.writes) (sym e) ∙ written_one q o x.writes w j t apart)
  | inr k ↦ newest_left q (written o q z.writes) zs s.1 x k w j t apart (λ y m. top y (inr m))
]
  where
    below : (y : Item) → In y zs → x ≡ z → (writes_there q y ≡ true) ⊎ (writes_there q y ≡ false) → writes_there q y ≡ false
    below y k e c = elim c [
      | inl u ↦ absurd (top y (inr k) u (subst (λ (v : Item). Less v y) (sym e) (s.0 y k)))
      | inr u ↦ u
    ]

-- where nobody writes at a key, its row stays
nobody_left : (q : ℕ × ℕ) (o : RowOf) (xs : List Item) → ((x : Item) → In x xs → (w : Write) → In w x.writes → is_at q w ≡ true → ⊥) → left_by o q (in_order xs) ≡ o
nobody_left q o xs none = left_not q (in_order xs) o (any_false (writes_there q) (in_order xs) (λ y i. any_false (is_at q) y.writes (λ w j. other y i w j (cases_Bool (is_at q w)))))
  where
    other : (y : Item) → In y (in_order xs) → (w : Write) → In w y.writes → (is_at q w ≡ true) ⊎ (is_at q w ≡ false) → is_at q w ≡ false
    other y i w j c = elim c [
      | inl t ↦ absurd (none y (in_in_order y xs i) w j t)
      | inr f ↦ f
    ]

-- ---- all items ----
all_of : (P : Item → Type 0) (parts : List (List Item)) → All (All P) parts → (x : Item) → In x (all_items parts) → P x
all_of P [] h x i = absurd i
all_of P (p ∷ parts) h x i = ⊎_elim
    (λ (j : In x p). let c = in_contains p x j in subst P c.2 (h 0 p (omega arith) c.0 x c.1))
    (λ (j : In x (all_items parts)). all_of P parts (λ k d l. h (suc k) d (omega arith)) x j)
    (in_split p (all_items parts) x i)

-- the item and the write of a version
version_from : (sizes : List ℕ) (xs : List Item) (v : Version) → Contains (versions_of sizes xs) v → (x : Item) × (w : Write) × In x xs × In w x.writes × (v ≡ version_of sizes (packed x.stamp) w)
version_from sizes [] v c = absurd (has_none v c)
version_from sizes (x ∷ xs) v c = ⊎_elim
    (λ h. let y = map_in (version_of sizes (packed x.stamp)) v x.writes (contains_in (item_versions sizes x) v h) in (x, y.0, inl refl, y.1, sym y.2))
    (λ h. let y = version_from sizes xs v h in (y.0, y.1, inr y.2, y.3, y.4))
    (has_split (item_versions sizes x) (versions_of sizes xs) v c)

module _ (tables : List Table) (rows : Rows) (parts : List (List Item)) (made : Made) (start : IsStart tables rows parts made) (fit : RowsFit tables rows) (items : All (All (IsReplayable tables)) parts) where
  abbrev xs : List Item
  xs = all_items parts

  good : (x : Item) → In x xs → IsReplayable tables x
  good x i = all_of (IsReplayable tables) parts items x i

  key_of : (x : Item) → In x xs → (w : Write) → In w x.writes → IsKey made.sizes (w.table, w.key)
  key_of x i w j = let c = in_contains x.writes w j in subst (λ (u : Write). IsKey made.sizes (u.table, u.key)) c.2 (write_key tables rows parts made start (get_or x.writes c.0 w) ((good x i).fit c.0 w c.1))

  -- the version of a write is of the plan
  version_in_plan : (x : Item) → In x xs → (w : Write) → In w x.writes → Contains (plan_in made).versions (version_of made.sizes (packed x.stamp) w)
  version_in_plan x i w j =
      let c = in_contains x.writes w j in
      subst (λ (ps : List (List Item)). Contains (versions_of made.sizes (all_items ps)) (version_of made.sizes (packed x.stamp) w)) (sym start.parts)
      (versions_in made.sizes xs x _ i (write_in (version_of made.sizes (packed x.stamp)) x.writes c.0 w c.1 (sym c.2)))

  -- no write at a key is above its newest
  top_of : (q : ℕ × ℕ) (row : RowOf) → IsKey made.sizes q → (n : IsNewest (plan_in made) (record_of made.sizes q.0 q.1) row) → (x : Item) → In x xs → (w : Write) → In w x.writes → is_at q w ≡ true → packed x.stamp ≤ n.stamp
  top_of q row k n x i w j t = n.newest (version_of made.sizes (packed x.stamp) w) (version_in_plan x i w j) (ap (λ (p : ℕ × ℕ). record_of made.sizes p.0 p.1) (sym (at_same q w t)))

  not_less : (x y : Item) → In x xs → In y xs → packed y.stamp ≤ packed x.stamp → Less x y → ⊥
  not_less x y i j l b = elim b [
    | inl e ↦ (let p = (good x i).seq in let q = (good y j).seq in omega arith)
    | inr e ↦ (let a = e.0 in let c = e.1 in omega arith)
  ]

  row_at_key : (q : ℕ × ℕ) (row : RowOf) → AreDistinct xs → IsKey made.sizes q → IsNewest (plan_in made) (record_of made.sizes q.0 q.1) row → row ≡ left_by (get rows q) q (in_order xs)
  row_at_key q row distinct k n = ⊎_elim
      (λ (a : (n.stamp ≡ 0) × Shows (get_or made.columns (record_of made.sizes q.0 q.1) 0) made.words (record_of made.sizes q.0 q.1) row).
      let same : row ≡ get rows q = shows_one (get_or made.columns (record_of made.sizes q.0 q.1) 0) made.words (record_of made.sizes q.0 q.1) row (row_of_record made.sizes rows (record_of made.sizes q.0 q.1)) a.1 (opening_shows tables rows made fit start.columns start.words (record_of made.sizes q.0 q.1) below) ∙ ap (get rows) (place_of_record made.sizes q k) in
      same ∙ sym (nobody_left q (get rows q) xs (λ x i w j t. let l = top_of q row k n x i w j t in let z = a.0 in let g = (good x i).epoch_low in omega arith)))
      (λ (b : (v : Version) × Contains (plan_in made).versions v × (v.rec ≡ record_of made.sizes q.0 q.1) × (v.stamp ≡ n.stamp) × (v.row ≡ row)).
      let from = version_from made.sizes xs b.0 (subst (λ (ps : List (List Item)). Contains (versions_of made.sizes (all_items ps)) b.0) start.parts b.1) in
      let x = from.0 in
      let w = from.1 in
      let rec_is : record_of made.sizes w.table w.key ≡ record_of made.sizes q.0 q.1 = ap (λ (v : Version). v.rec) (sym from.4) ∙ b.2 in
      let at_q : is_at q w ≡ true = ap (λ (p : ℕ × ℕ). is_at p w) (sym (one_key made.sizes (w.table, w.key) q (key_of x from.2 w from.3) k rec_is)) ∙ at_self w in
      let newest : packed x.stamp ≡ n.stamp = ap (λ (v : Version). v.stamp) (sym from.4) ∙ b.3 in
      let w_row : row ≡ w.row = sym b.4 ∙ ap (λ (v : Version). v.row) from.4 in
      w_row ∙ sym (newest_left q (get rows q) (in_order xs) (in_order_strict xs (distinct_diff xs distinct)) x (in_order_in x xs from.2) w from.3 at_q (good x from.2).apart
      (λ y i t less. let y_in = in_in_order y xs i in let u = true_any (is_at q) y.writes t in
      not_less x y from.2 y_in (let l = top_of q row k n y y_in u.0 u.1 u.2 in omega arith) less)))
      n.version
    where
      below : record_of made.sizes q.0 q.1 < sum made.sizes
      below = record_below made.sizes q k

  no_row : (q : ℕ × ℕ) → (IsKey made.sizes q → ⊥) → (row : RowOf) → get rows q ≡ row → row ≡ None
  no_row q none None e = refl
  no_row q none (Some row) e = let f = fit q.0 q.1 row e in absurd (none (key f))
    where
      key : (q.0 < length tables) × (q.1 < size_of tables q.0) × (length row ≡ columns_of tables q.0) → IsKey made.sizes q
      key f = record {
        table = (let a = ap length start.sizes in let b = length-map tables (λ (t : Table). t.size) in let c = f.0 in omega arith);
        key = (let a = ap (λ (l : List ℕ). get_or l q.0 0) start.sizes in let b = size_at tables q.0 in let c = f.1 in omega arith);
      }

  pub replayed : (m : Rows) → AreDistinct xs → IsNewestMap made m → m ≡ rows_after rows (in_order xs)
  replayed m distinct newest = same_rows m (rows_after rows (in_order xs)) (λ q. one q (is_key made.sizes q) ∙ sym (get-rows_after rows (in_order xs) q))
    where
      one : (q : ℕ × ℕ) → IsKey made.sizes q ⊎ (IsKey made.sizes q → ⊥) → get m q ≡ left_by (get rows q) q (in_order xs)
      one q c = ⊎_elim
          (λ (k : IsKey made.sizes q). row_at_key q (get m q) distinct k (newest.rows q k))
          (λ (none : IsKey made.sizes q → ⊥). newest.none q none ∙ (sym (no_row q none (get rows q) refl) ∙ sym (nobody_left q (get rows q) xs (λ x i w j t. none (subst (IsKey made.sizes) (sym (at_same q w t)) (key_of x i w j))))))
          c
