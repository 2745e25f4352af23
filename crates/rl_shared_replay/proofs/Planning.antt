-- The items that are handed in are the plan, and what all threads have settled is all of it.
use Rattle.std.proofs.Common.{◌≡◌, ◌⊎◌, ℕ, zero, suc, ◌+◌, ◌-◌, ◌<◌, ◌≤◌, List, [], ◌∷◌, ◌++◌, length, get_or, map, take, sum, All, Contains, cond, true, false, refl, sym, ap, ◌∙◌, subst, inl, inr, ⊎_elim, arith}
use Rattle.std.specs.Prelude.{Some, None, nat_lt, IfSome}
use Rattle.std.proofs.lemmas.Bool.Decides.{nat_tests}
use Rattle.std.proofs.lemmas.List.{length-map, length-replicate}
use Rattle.std.proofs.lemmas.List.Sums.{sum_by-cons}
use Rattle.rl_base.proofs.Members.{In, contains_in, in_contains, in_prefix, in_suffix}
use Rattle.rl_tables.proofs.Sizes.{size_at}
use Rattle.rl_tables.specs.Numbers.{sizes_of, record_of, place_of, place_from}
use Rattle.rl_txn.specs.Fits.{WriteFits}
use Rattle.rl_txn.specs.declared.item.Item.{Item}
use Rattle.rl_txn.specs.declared.write.Write.{Write}
use Rattle.rl_value.specs.Cells.{cells_of}
use Rattle.rl_value.specs.Rows.{Rows}
use Rattle.rl_value.specs.Tables.{Table, columns_of, size_of}
use Rattle.rl_shared_replay.specs.declared.view.Version.{Version}
use Rattle.rl_shared_replay.specs.declared.view.View.{View}
use Rattle.rl_shared_replay.specs.declared.work.Job.{Job}
use Rattle.rl_shared_replay.specs.Calls.{RecordsOf, SeatOf, ItemPlanned, WriteFitsWords, AllSettled}
use Rattle.rl_shared_replay.specs.Ends.{IsKey}
use Rattle.rl_shared_replay.specs.Jobs.{AllReady, AllDone, SeesAll}
use Rattle.rl_shared_replay.specs.Layout.{RowOf}
use Rattle.rl_shared_replay.specs.Opening.{IsStart}
use Rattle.rl_shared_replay.specs.Replayable.{IsReplayable}
use Rattle.rl_shared_replay.specs.Start.{Made, plan_in, all_items, item_versions, versions_of}
use Rattle.rl_shared_replay.specs.Views.{Settled}
use Rattle.rl_shared_replay.proofs.Items.{versions_append}
use Rattle.rl_shared_replay.proofs.Keys.{record_below}
use Rattle.rl_shared_replay.proofs.Lists.{has_front, has_back, has_split, has_none}
use Rattle.rl_shared_replay.proofs.Wholes.{pick, map_at}

-- the place of a key's record is the key
pub place_from_record : (u : ℕ) (sizes : List ℕ) (t k : ℕ) → t < length sizes → k < get_or sizes t 0 → ◌≡◌ {A = ℕ × ℕ} (place_from u sizes (sum (take t sizes) + k)) (u + t, k)
place_from_record u [] t k l m = absurd (omega arith)
place_from_record u (s ∷ ss) zero k l m = here (less k s m)
  where
    less : (a b : ℕ) → a < b → nat_lt a b ≡ true
    less a b l = grind (arith, nat_tests)

    here : nat_lt k s ≡ true → ◌≡◌ {A = ℕ × ℕ} (place_from u (s ∷ ss) (0 + k)) (u + 0, k)
    here e = ap (place_from u (s ∷ ss)) (let z : 0 + k ≡ k = omega arith in z) ∙ (ap (λ b. cond {A = ℕ × ℕ} b (u, k) (place_from (u + 1) ss (k - s))) e) ∙ (λ i. ((let z : u ≡ u + 0 = omega arith in z) i, k))
place_from_record u (s ∷ ss) (suc t) k l m =
    let n : ℕ = sum (take t ss) + k in
    let total : sum (s ∷ take t ss) + k ≡ s + n = (let a = sum_by-cons (λ x. x) s (take t ss) in omega arith) in
    ap (place_from u (s ∷ ss)) total ∙ (past (not_less n s) ∙ (ap (place_from (u + 1) ss) (let z : (s + n) - s ≡ n = omega arith in z) ∙ (place_from_record (u + 1) ss t k (omega arith) m ∙ (λ i. ((let z : u + 1 + t ≡ u + suc t = omega arith in z) i, k)))))
  where
    not_less : (a b : ℕ) → nat_lt (b + a) b ≡ false
    not_less a b = grind (arith, nat_tests)

    past : nat_lt (s + (sum (take t ss) + k)) s ≡ false → ◌≡◌ {A = ℕ × ℕ} (place_from u (s ∷ ss) (s + (sum (take t ss) + k))) (place_from (u + 1) ss ((s + (sum (take t ss) + k)) - s))
    past e = ap (λ b. cond {A = ℕ × ℕ} b (u, s + (sum (take t ss) + k)) (place_from (u + 1) ss ((s + (sum (take t ss) + k)) - s))) e

pub place_of_record : (sizes : List ℕ) (q : ℕ × ℕ) → IsKey sizes q → place_of sizes (record_of sizes q.0 q.1) ≡ q
place_of_record sizes q i = place_from_record 0 sizes q.0 q.1 i.table i.key ∙ (λ j. ((let z : 0 + q.0 ≡ q.0 = omega arith in z) j, q.1))

-- ---- the plan ----
pub in_all_items : (parts : List (List Item)) (items : List Item) (x : Item) → In items parts → In x items → In x (all_items parts)
in_all_items [] items x i j = absurd i
in_all_items (p ∷ parts) items x i j = elim i [
  | inl e ↦ in_prefix p (all_items parts) x (subst (λ (l : List Item). In x l) e j)
  | inr m ↦ in_suffix p (all_items parts) x (in_all_items parts items x m j)
]

pub versions_in : (sizes : List ℕ) (xs : List Item) (x : Item) (v : Version) → In x xs → Contains (item_versions sizes x) v → Contains (versions_of sizes xs) v
versions_in sizes [] x v i c = absurd i
versions_in sizes (y ∷ ys) x v i c = elim i [
  | inl e ↦ has_front (item_versions sizes y) (versions_of sizes ys) v (subst (λ (z : Item). Contains (item_versions sizes z) v) e c)
  | inr m ↦ has_back (item_versions sizes y) (versions_of sizes ys) v (versions_in sizes ys x v m c)
]

pub in_at : {X : Type 0} (xs : List X) (k : ℕ) (d : X) → k < length xs → In (get_or xs k d) xs
in_at [] k d l = absurd (omega arith)
in_at (x ∷ xs) zero d l = inl refl
in_at (x ∷ xs) (suc k) d l = inr (in_at xs k d (omega arith))

module _ (tables : List Table) (rows : Rows) (parts : List (List Item)) (made : Made) (start : IsStart tables rows parts made) where
  -- the key of a write that fits is there
  pub write_key : (w : Write) → WriteFits tables w → IsKey made.sizes (w.table, w.key)
  write_key w f = record {
    table = (let a = ap length start.sizes in let b = length-map tables (λ (t : Table). t.size) in let c = f.0 in omega arith);
    key = (let a = ap (λ (l : List ℕ). get_or l w.table 0) start.sizes in let b = size_at tables w.table in let c = f.1 in omega arith);
  }

  cells_wide : (columns : ℕ) (row : RowOf) → IfSome row (λ cells. length cells ≡ columns) → length (cells_of columns row) ≡ 1 + columns
  cells_wide columns None f = let a = length-replicate columns 0 in (let z : suc columns ≡ 1 + columns = omega arith in ap suc a ∙ z)
  cells_wide columns (Some row) f = let z : suc (length row) ≡ 1 + columns = omega (arith, f) in z

  write_fits : (w : Write) → WriteFits tables w → WriteFitsWords made w
  write_fits w f =
      let i = write_key w f in
      let r = record_of made.sizes w.table w.key in
      let c : get_or made.columns r 0 ≡ columns_of tables w.table = start.columns.each r (record_below made.sizes (w.table, w.key) i) ∙ ap (λ (q : ℕ × ℕ). columns_of tables q.0) (place_of_record made.sizes (w.table, w.key) i) in
      record {
        table = i.table;
        key = i.key;
        wide = cells_wide (get_or made.columns r 0) w.row (subst (λ n. IfSome w.row (λ cells. length cells ≡ n)) (sym c) f.2);
      }

  item_planned : (x : Item) → IsReplayable tables x → In x (all_items parts) → ItemPlanned made x
  item_planned x f i = record {
    epoch = f.epoch_high;
    seq = f.seq;
    writes = λ k d l. write_fits (get_or x.writes k d) (f.fit k d l);
    among = λ v c. subst (λ (ps : List (List Item)). Contains (versions_of made.sizes (all_items ps)) v) (sym start.parts) (versions_in made.sizes (all_items parts) x v i c);
  }

  pub all_planned : All (All (IsReplayable tables)) parts → All (All (ItemPlanned made)) parts
  all_planned f k d l j e m = item_planned (get_or (get_or parts k d) j e) (f k d l j e m)
      (in_all_items parts (get_or parts k d) (get_or (get_or parts k d) j e) (in_at parts k d l) (in_at (get_or parts k d) j e m))

-- a version of all items is one of some part
part_of : (sizes : List ℕ) (parts : List (List Item)) (v : Version) → Contains (versions_of sizes (all_items parts)) v → (k : ℕ) × (k < length parts) × ((d : List Item) → Contains (versions_of sizes (get_or parts k d)) v)
part_of sizes [] v c = absurd (has_none v c)
part_of sizes (p ∷ parts) v c = ⊎_elim
    (λ h. (0, omega arith, (λ d. h)))
    (λ h. let y = part_of sizes parts v h in (suc y.0, (let l = y.1 in omega arith), y.2))
    (has_split (versions_of sizes p) (versions_of sizes (all_items parts)) v (subst (λ (l : List Version). Contains l v) (versions_append sizes p (all_items parts)) c))

abbrev job_items : Job → List Item
job_items j = j.items

-- every write of the parts is settled for one who sees what all threads have seen
pub all_settled : (records : RecordsOf) (parts : List (List Item)) (jobs : List Job) (seats : List SeatOf) (v : View) → AllReady records parts jobs → AllDone records jobs seats → SeesAll v seats → records.made.parts ≡ parts
    → AllSettled v (plan_in records.made).versions
all_settled records parts jobs seats v ready done sees is x c =
    let y = part_of records.made.sizes parts x (subst (λ (ps : List (List Item)). Contains (versions_of records.made.sizes (all_items ps)) x) is c) in
    let k = y.0 in
    let many : length jobs ≡ length parts = sym (length-map jobs job_items) ∙ ap length ready.items in
    let l : k < length jobs = (let a = y.1 in omega arith) in
    let m : k < length seats = (let a = done.long in omega arith) in
    let job = pick jobs k l in
    let seat = pick seats k m in
    let part : get_or parts k (job_items job) ≡ job_items (get_or jobs k job) = ap (λ (ps : List (List Item)). get_or ps k (job_items job)) (sym ready.items) ∙ map_at job_items jobs k job in
    sees k seat m x (done.settled k job seat l x (subst (λ (xs : List Item). Contains (versions_of records.made.sizes xs) x) part (y.2 (job_items job))))
