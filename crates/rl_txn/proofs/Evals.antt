-- An evaluation on its way: the rows that it was given say as much as any rows that have them.
use Rattle.std.proofs.Common.{◌≡◌, ℕ, ◌+◌, ◌%◌, ◌^◌, ◌<◌, ◌≤◌, min, List, [], ◌∷◌, ◌++◌, length, take, drop, filter, get_or, slice_get, Bool, true, false, not, ◌&&◌, cond, if◌then◌else◌, is_some, nat_lt, nat_le, Option, Some, None, IfSome, IfNone, vec_capacity, refl, ap, sym, ◌∙◌, subst, zero, suc, arith, sum_by, append_assoc, inl, inr, ◌⊎◌}
use mathlib.Core.Bool.{false≢true}
use Rattle.std.specs.Option.{option_map_or}
use Rattle.std.specs.List.{find, range_with_len, list_any}
use Rattle.std.specs.FinMap as finite
use Rattle.std.proofs.lemmas.List.{drop-drop}
use Rattle.std.proofs.Math.ListN.{drop_of_length-le}
use Rattle.std.proofs.lemmas.List.Sums.{sum_by-cons, sum_by-take-drop}
use Rattle.rl_value.specs.Rows.{Rows, place_cmp}
use Rattle.rl_value.specs.Tables.{Table, size_of}
use Rattle.rl_txn.specs.Run.{Overlay, Progress, row_seen, column_of, only_if, with_reg, value_of, op_done, passes, ops_done, beginning, run}
use Rattle.rl_txn.specs.Eval.{rows_of, HasRows, is_new, unknown, places, places_read, reads_at_most, read_by, progress_of, wants, rows_given, IsOnWay, AreKnown, IsNext, IsAsked, IsEval}
use Rattle.rl_txn.specs.declared.op.Op.{Op}
use Rattle.rl_txn.specs.declared.op.Op.TheVariants.{Set, Add, Sub, Mul, Get, Has, Put, Del, Scan, Need, Skip, Out}
use Rattle.rl_txn.specs.declared.workspace.Workspace.{Workspace}
use Rattle.rl_txn.specs.declared.eval.Eval.{Eval}
use Rattle.rl_txn.specs.declared.eval.Wants.{Wants}
use Rattle.rl_txn.specs.declared.eval.Wants.TheVariants.{Read, Ended}
use Rattle.rl_txn.specs.declared.write.Reply.{Reply}
use Rattle.rl_txn.specs.declared.write.Write.{Write}
use Rattle.rl_txn.specs.declared.write.End.{End}
use Rattle.rl_txn.specs.declared.write.End.TheVariants.{Done, Declined}
use Rattle.std.specs.Ordering.{eq_by_cmp, is_eq}
use Rattle.std.specs.Cmp.{tied_itself}
use Rattle.rl_txn.specs.Fits.{OpFits, TxnFits}
use Rattle.rl_txn.specs.Run.{writes_of}
use Rattle.rl_txn.specs.Eval.{StandsAt, HasRoom}
use Rattle.rl_txn.specs.Steps.{UsesRoom, AllKnown}
use Rattle.rl_base.proofs.Tests.{by_bool, both, neither, or_false, and_true, and_false, is_equal}
use Rattle.rl_value.proofs.PlacesLemmas.{places_total}
use Rattle.rl_txn.proofs.Known.{get_rows_of}

any_append : {X : Type 0} (p : X → Bool) (xs ys : List X) → list_any p xs ≡ false → list_any p ys ≡ false → list_any p (xs ++ ys) ≡ false
any_append p [] ys h k = k
any_append p (x ∷ xs) ys h k = let n = neither (p x) (list_any p xs) h in or_false (p x) (list_any p (xs ++ ys)) n.0 (any_append p xs ys n.1 k)

find_append : {X : Type 0} (p : X → Bool) (xs ys : List X) → list_any p xs ≡ false → find p (xs ++ ys) ≡ find p ys
find_append p [] ys h = refl
find_append p (x ∷ xs) ys h = let n = neither (p x) (list_any p xs) h in rw n.0 (find_append p xs ys n.1)

find_none : {X : Type 0} (p : X → Bool) (xs : List X) → list_any p xs ≡ false → find p xs ≡ None
find_none p [] h = refl
find_none p (x ∷ xs) h = let n = neither (p x) (list_any p xs) h in rw n.0 (find_none p xs n.1)

-- ---- known places ----
pub has_rows_of : (read : Overlay) → HasRows read (rows_of read)
has_rows_of read q = go (finite.get read q) refl
  where
    go : (o : Option (Option (List ℕ))) → finite.get read q ≡ o → IfSome o (λ row. finite.get (rows_of read) q ≡ row)
    go None e = tt
    go (Some row) e = get_rows_of read q ∙ ap (λ o. option_map_or (λ row. row) o None) e

seen_same : (read written : Overlay) (rows : Rows) → HasRows read rows → (t k : ℕ) → unknown read written (t, k) ≡ false → row_seen rows written t k ≡ row_seen (rows_of read) written t k
seen_same read written rows has t k u = go (finite.get written (t, k)) (finite.get read (t, k)) refl refl u
  where
    go : (w r : Option (Option (List ℕ))) → finite.get written (t, k) ≡ w → finite.get read (t, k) ≡ r → (not (is_some (finite.get read (t, k))) && not (is_some (finite.get written (t, k)))) ≡ false → row_seen rows written t k ≡ row_seen (rows_of read) written t k
    go (Some row) r e f v = rw e refl
    go None None e f v = absurd (false≢true (sym (rw (f, e) at v)))
    go None (Some row) e f v =
        let there : finite.get rows (t, k) ≡ row = rw f at (has (t, k)) in
        rw e (there ∙ sym (get_rows_of read (t, k) ∙ ap (λ o. option_map_or (λ row. row) o None) f))

only_if_same : (b : Bool) (x y : Progress) → (b ≡ true → x ≡ y) → only_if b x ≡ only_if b y
only_if_same true x y e = ap Some (e refl)
only_if_same false x y e = refl

head_known : (read written : Overlay) (b : Bool) (t k : ℕ) → b ≡ true → list_any (unknown read written) (if b then places t k 1 else []) ≡ false → unknown read written (t, k) ≡ false
head_known read written b t k e h = (neither (unknown read written (t, k)) false (rw e at h)).0

sums_same : (read written : Overlay) (rows : Rows) → HasRows read rows → (t c k n : ℕ) → list_any (unknown read written) (places t k n) ≡ false
    → sum_by (λ key. column_of (row_seen rows written t key) c) (range_with_len k n) ≡ sum_by (λ key. column_of (row_seen (rows_of read) written t key) c) (range_with_len k n)
sums_same read written rows has t c k zero h = refl
sums_same read written rows has t c k (suc n) h =
    let f : ℕ → ℕ = λ key. column_of (row_seen rows written t key) c in
    let g : ℕ → ℕ = λ key. column_of (row_seen (rows_of read) written t key) c in
    let both = neither (unknown read written (t, k)) (list_any (unknown read written) (places t (k + 1) n)) h in
    let first : f k ≡ g k = ap (λ row. column_of row c) (seen_same read written rows has t k both.0) in
    let rest : sum_by f (range_with_len (k + 1) n) ≡ sum_by g (range_with_len (k + 1) n) = sums_same read written rows has t c (k + 1) n both.1 in
    sum_by-cons f k (range_with_len (k + 1) n) ∙ ap (λ x. x + sum_by f (range_with_len (k + 1) n)) first ∙ ap (λ x. g k + x) rest ∙ sym (sum_by-cons g k (range_with_len (k + 1) n))

-- an op whose places are known does the same on any rows that have what was read
pub op_same : (tables : List Table) (read : Overlay) (rows : Rows) → HasRows read rows → (op : Op) (p : Progress) → list_any (unknown read p.written) (places_read tables op p) ≡ false
    → op_done tables rows op p ≡ op_done tables (rows_of read) op p
unfolding op_done
op_same tables read rows has (Set d a) p h = refl
op_same tables read rows has (Add d a b) p h = refl
op_same tables read rows has (Sub d a b) p h = refl
op_same tables read rows has (Mul d a b) p h = refl
op_same tables read rows has (Get t k c d) p h = only_if_same (nat_lt (value_of p k) (size_of tables t)) _ _
    (λ e. ap (λ row. with_reg p d (column_of row c)) (seen_same read p.written rows has t (value_of p k) (head_known read p.written (nat_lt (value_of p k) (size_of tables t)) t (value_of p k) e h)))
op_same tables read rows has (Has t k d) p h = only_if_same (nat_lt (value_of p k) (size_of tables t)) _ _
    (λ e. ap (λ row. with_reg p d (if is_some row then 1 else 0)) (seen_same read p.written rows has t (value_of p k) (head_known read p.written (nat_lt (value_of p k) (size_of tables t)) t (value_of p k) e h)))
op_same tables read rows has (Put t k values) p h = refl
op_same tables read rows has (Del t k) p h = refl
op_same tables read rows has (Scan t k n c d) p h = only_if_same (nat_le (value_of p k + n) (size_of tables t)) _ _
    (λ e. ap (λ x. with_reg p d (x % 2 ^ 64)) (sums_same read p.written rows has t c (value_of p k) n (rw e at h)))
op_same tables read rows has (Need a rel b) p h = refl
op_same tables read rows has (Skip a rel b n) p h = refl
op_same tables read rows has (Out a) p h = refl

-- what was scanned and what was read leave as much room together
room_still : (txn : List Op) (e : Eval) (scanned : ℕ) (read : Overlay × ℕ) (wants : Option Wants) → HasRoom txn e
    → e.scanned + e.work.read.1 ≤ scanned + read.1
    → HasRoom txn (record e { work = record e.work { read = read }; scanned = scanned; wants = wants })
room_still txn e scanned read wants room more = record {
  done = room.done;
  outs = room.outs;
  outs_room = room.outs_room;
  writes = room.writes;
  writes_room = room.writes_room;
  empty = room.empty;
  finish = room.finish;
  reads = omega (arith, room.reads, more);
}

-- ---- from one op to the next ----
reads_jump : (tables : List Table) (rows : Rows) (k : ℕ) (ops : List Op) (p : Progress) → read_by tables rows k ops p ≡ read_by tables rows 0 (drop k ops) p
unfolding read_by
reads_jump tables rows zero ops p = refl
reads_jump tables rows (suc k) [] p = refl
reads_jump tables rows (suc k) (op ∷ ops) p = reads_jump tables rows k ops p

run_none : (tables : List Table) (rows : Rows) (n k : ℕ) (p : Progress) → ops_done tables rows n k [] p ≡ (p, Done)
unfolding ops_done
run_none tables rows n k p = refl

run_jump : (tables : List Table) (rows : Rows) (n k m : ℕ) (ops : List Op) (p : Progress) → (k ≤ length ops → m ≡ n + k) → ops_done tables rows n k ops p ≡ ops_done tables rows m 0 (drop k ops) p
unfolding ops_done
run_jump tables rows n zero m ops p e = ap (λ x. ops_done tables rows x 0 ops p) (sym (e (omega arith) ∙ omega arith))
run_jump tables rows n (suc k) m [] p e = refl
run_jump tables rows n (suc k) m (op ∷ ops) p e = run_jump tables rows (n + 1) k m ops p (λ l. e (omega arith) ∙ omega arith)

drop_past : {X : Type 0} (xs : List X) (n : ℕ) → length xs ≤ n → drop n xs ≡ []
drop_past xs n h = drop_of_length-le xs h

drop_drop : {X : Type 0} (xs : List X) (i k : ℕ) → drop (i + k) xs ≡ drop k (drop i xs)
drop_drop xs i k = sym (drop-drop k i xs)

length_rest : {X : Type 0} (xs : List X) (i : ℕ) (x : X) (ys : List X) → drop i xs ≡ x ∷ ys → length xs ≡ i + 1 + length ys
length_rest [] zero x ys e = absurd (cc)
length_rest [] (suc i) x ys e = absurd (cc)
length_rest (y ∷ xs) zero x ys e = let n : length (y ∷ xs) ≡ length (x ∷ ys) = ap length e in omega arith
length_rest (y ∷ xs) (suc i) x ys e = let n = length_rest xs i x ys e in omega arith

drop_next : {X : Type 0} (xs : List X) (i k : ℕ) (x : X) (ys : List X) → drop i xs ≡ x ∷ ys → drop (min (i + 1 + k) (length xs)) xs ≡ drop k ys
drop_next xs i k x ys e =
    let n = length_rest xs i x ys e in
    let sum : i + 1 + k ≡ i + suc k = omega arith in
    let rest : drop (i + 1 + k) xs ≡ drop k ys = ap (λ m. drop m xs) sum ∙ drop_drop xs i (suc k) ∙ ap (λ zs. drop (suc k) zs) e in
    go n rest (either_way (i + 1 + k) (length xs))
  where
    either_way : (a b : ℕ) → ((a ≤ b) × (min a b ≡ a)) ⊎ ((b ≤ a) × (min a b ≡ b))
    either_way a b = grind arith

    go : length xs ≡ i + 1 + length ys → drop (i + 1 + k) xs ≡ drop k ys → ((i + 1 + k ≤ length xs) × (min (i + 1 + k) (length xs) ≡ i + 1 + k)) ⊎ ((length xs ≤ i + 1 + k) × (min (i + 1 + k) (length xs) ≡ length xs)) → drop (min (i + 1 + k) (length xs)) xs ≡ drop k ys
    go n rest (inl a) = ap (λ m. drop m xs) a.1 ∙ rest
    go n rest (inr b) = ap (λ m. drop m xs) b.1 ∙ drop_past xs (length xs) (omega arith) ∙ sym (drop_past ys k (omega (arith, b.0)))

each_more : (a n m : ℕ) → n ≡ a + m → m ≤ n
each_more a n m e = omega arith

sum_rest : (txn : List Op) (i k : ℕ) (op : Op) (ops : List Op) → drop i txn ≡ op ∷ ops → sum_by reads_at_most (take i txn) + reads_at_most op ≤ sum_by reads_at_most (take (min (i + 1 + k) (length txn)) txn)
sum_rest txn i k op ops e =
    let before = sum_by-take-drop reads_at_most txn i in
    let after = sum_by-take-drop reads_at_most txn (min (i + 1 + k) (length txn)) in
    let rest : sum_by reads_at_most (drop (min (i + 1 + k) (length txn)) txn) ≡ sum_by reads_at_most (drop k ops) = ap (sum_by reads_at_most) (drop_next txn i k op ops e) in
    let parts = sum_by-take-drop reads_at_most ops k in
    let here : sum_by reads_at_most (drop i txn) ≡ reads_at_most op + sum_by reads_at_most ops = ap (sum_by reads_at_most) e ∙ sum_by-cons reads_at_most op ops in
    omega arith

-- ---- the op at hand ----
filter_known : (read written : Overlay) (xs : List (ℕ × ℕ)) → list_any (unknown read written) xs ≡ false → list_any (is_new read) (filter (is_new written) xs) ≡ false
filter_known read written [] h = refl
filter_known read written (q ∷ xs) h =
    let n = neither (unknown read written q) (list_any (unknown read written) xs) h in
    let rest = filter_known read written xs n.1 in
    by_bool (λ b. (is_new read q && b) ≡ false → list_any (is_new read) (cond b (q ∷ filter (is_new written) xs) (filter (is_new written) xs)) ≡ false) (is_new written q)
    (λ e u. or_false (is_new read q) _ (and_true (is_new read q) u) rest) (λ e u. rest) n.0

module _ (tables : List Table) (txn : List Op) where
  -- the ops before the next one, where the one at hand was done
  next_way : (rows : Rows) (e : Eval) (op : Op) (ops : List Op) (work : Workspace) (k : ℕ) → IsOnWay tables txn rows e → drop e.done txn ≡ op ∷ ops → e.done < length txn
      → list_any (unknown e.work.read.0 e.work.written.0) (places_read tables op (progress_of e.work)) ≡ false
      → op_done tables rows op (progress_of e.work) ≡ Some (progress_of work) → work.read ≡ e.work.read → k ≡ passes op (progress_of e.work)
      → IsOnWay tables txn rows (record e { work = work; done = min (e.done + 1 + k) (length txn); scanned = 0 })
  unfolding read_by ops_done
  next_way rows e op ops work k way at less all went same is =
      let here = filter (is_new e.work.written.0) (places_read tables op (progress_of e.work)) in
      let rest : drop (min (e.done + 1 + k) (length txn)) txn ≡ drop k ops = drop_next txn e.done k op ops at in
      let length_is = length_rest txn e.done op ops at in
      let reads : read_by tables rows 0 (op ∷ ops) (progress_of e.work) ≡ here ++ read_by tables rows 0 (drop k ops) (progress_of work) =
      ap (λ o. here ++ option_map_or (λ next. read_by tables rows (passes op (progress_of e.work)) ops next) o []) went
      ∙ ap (λ m. here ++ read_by tables rows m ops (progress_of work)) (sym is) ∙ ap (λ z. here ++ z) (reads_jump tables rows k ops (progress_of work)) in
      let ran : ops_done tables rows (e.done + 1) 0 (op ∷ ops) (progress_of e.work) ≡ ops_done tables rows (min (e.done + 1 + k) (length txn) + 1) 0 (drop k ops) (progress_of work) =
      ap (λ o. option_map_or (λ next. ops_done tables rows (e.done + 1 + 1) (passes op (progress_of e.work)) ops next) o (progress_of e.work, Declined (e.done + 1))) went
      ∙ ap (λ m. ops_done tables rows (e.done + 1 + 1) m ops (progress_of work)) (sym is)
      ∙ run_jump tables rows (e.done + 1 + 1) k (min (e.done + 1 + k) (length txn) + 1) ops (progress_of work) (λ l. number e.done k (length txn) (length ops) length_is l) in
      record {
        before = way.before ++ here;
        reads = way.reads ∙ ap (λ z. way.before ++ read_by tables rows 0 z (progress_of e.work)) at ∙ ap (λ z. way.before ++ z) reads ∙ sym (append_assoc way.before here _)
            ∙ ap (λ z. (way.before ++ here) ++ read_by tables rows 0 z (progress_of work)) (sym rest);
        given = subst (λ r. list_any (is_new r.0) (way.before ++ here) ≡ false) (sym same) (any_append (is_new e.work.read.0) way.before here way.given (filter_known e.work.read.0 e.work.written.0 (places_read tables op (progress_of e.work)) all));
        run = ap (λ z. ops_done tables rows (min (e.done + 1 + k) (length txn) + 1) 0 z (progress_of work)) rest ∙ sym ran ∙ ap (λ z. ops_done tables rows (e.done + 1) 0 z (progress_of e.work)) (sym at) ∙ way.run;
      }
    where
      number : (i k n m : ℕ) → n ≡ i + 1 + m → k ≤ m → min (i + 1 + k) n + 1 ≡ (i + 1 + 1) + k
      number i k n m e l = grind arith

  are_known_none : (ops : List Op) (e : Eval) → e.scanned ≡ 0 → AreKnown tables ops e
  are_known_none [] e z = tt
  are_known_none (op ∷ ops) e z = (omega arith, ap (λ n. list_any (unknown e.work.read.0 e.work.written.0) (take n (places_read tables op (progress_of e.work)))) z)

  pub after_op : (e : Eval) (op : Op) (ops : List Op) (work : Workspace) (k : ℕ) → IsEval tables txn e → e.wants ≡ None → drop e.done txn ≡ op ∷ ops → e.done < length txn
      → AllKnown tables (drop e.done txn) e → op_done tables (rows_of e.work.read.0) op (progress_of e.work) ≡ Some (progress_of work) → UsesRoom e.work work → k ≡ passes op (progress_of e.work)
      → IsEval tables txn (record e { work = work; done = min (e.done + 1 + k) (length txn); scanned = 0 })
  after_op e op ops work k ev none at less all went uses is =
      let here : list_any (unknown e.work.read.0 e.work.written.0) (places_read tables op (progress_of e.work)) ≡ false = subst (λ z. AllKnown tables z e) at all in
      let first : AreKnown tables (op ∷ ops) e = subst (λ z. AreKnown tables z e) at ev.known in
      let sums = sum_rest txn e.done k op ops at in
      record {
        way = λ rows has.
            let has2 : HasRows e.work.read.0 rows = subst (λ r. HasRows r.0 rows) uses.read has in
            next_way rows e op ops work k (ev.way rows has2) at less here (op_same tables e.work.read.0 rows has2 op (progress_of e.work) here ∙ went) uses.read is;
        known = are_known_none (drop (min (e.done + 1 + k) (length txn)) txn) (record e { work = work; done = min (e.done + 1 + k) (length txn); scanned = 0 }) refl;
        asked = rw none tt;
        room = record {
          done = least (e.done + 1 + k) (length txn);
          outs = at_least (e.done + 1 + k) (length txn) (length work.outs.items) (omega (arith, uses.outs, ev.room.outs)) (omega (arith, uses.outs, ev.room.outs));
          outs_room = omega (arith, uses.capacity, ev.room.outs_room);
          writes = at_least (e.done + 1 + k) (length txn) (length (finite.entries work.written.0)) (omega (arith, uses.writes, ev.room.writes)) (omega (arith, uses.writes, ev.room.writes));
          writes_room = room_left (e.done + 1 + k) (length txn) work.written.1 (omega (arith, uses.room, ev.room.writes_room));
          empty = ev.room.empty;
          finish = ev.room.finish;
          reads = let same : work.read.1 ≡ e.work.read.1 = ap (λ r. r.1) uses.read in omega (arith, ev.room.reads, first.0);
        };
      }
    where
      least : (a b : ℕ) → min a b ≤ b
      least a b = omega arith

      at_least : (a b n : ℕ) → n ≤ a → n ≤ b → n ≤ min a b
      at_least a b n h k = omega arith

      room_left : (a b r : ℕ) → b ≤ a + r → b ≤ min a b + r
      room_left a b r h = omega arith

  -- how the run ends on any rows that have what was read
  ends_by : (e : Eval) (ops : List Op) (end : End) → IsEval tables txn e → drop e.done txn ≡ ops
      → ((rows : Rows) → HasRows e.work.read.0 rows → ops_done tables rows (e.done + 1) 0 ops (progress_of e.work) ≡ (progress_of e.work, end))
      → find (is_new e.work.read.0) (read_by tables (rows_of e.work.read.0) 0 ops (progress_of e.work)) ≡ None
      → (Ended end ≡ wants tables txn (rows_given e)) × IsAsked tables txn e (Some (Ended end))
  unfolding run
  ends_by e ops end ev at ran none =
      let all : (rows : Rows) → HasRows e.work.read.0 rows → ops_done tables rows 1 0 txn beginning ≡ (progress_of e.work, end) =
      λ rows has. sym (ev.way rows has).run ∙ ap (λ z. ops_done tables rows (e.done + 1) 0 z (progress_of e.work)) at ∙ ran rows has in
      let own = rows_of e.work.read.0 in
      let way = ev.way own (has_rows_of e.work.read.0) in
      let nothing : find (is_new e.work.read.0) (read_by tables own 0 txn beginning) ≡ None =
      ap (find (is_new e.work.read.0)) way.reads ∙ find_append (is_new e.work.read.0) way.before _ way.given ∙ ap (λ z. find (is_new e.work.read.0) (read_by tables own 0 z (progress_of e.work))) at ∙ none in
      (sym (ap (λ o. option_map_or (λ (q : ℕ × ℕ). Read q.0 q.1) o (Ended (run tables txn own).0.end)) nothing ∙ ap (λ (d : Progress × End). Ended d.1) (all own (has_rows_of e.work.read.0))), all)

  pub declined : (e : Eval) (op : Op) (ops : List Op) → IsEval tables txn e → drop e.done txn ≡ op ∷ ops → AllKnown tables (drop e.done txn) e
      → op_done tables (rows_of e.work.read.0) op (progress_of e.work) ≡ None → (Ended (Declined (e.done + 1)) ≡ wants tables txn (rows_given e)) × IsAsked tables txn e (Some (Ended (Declined (e.done + 1))))
  unfolding read_by ops_done
  declined e op ops ev at all stopped =
      let here : list_any (unknown e.work.read.0 e.work.written.0) (places_read tables op (progress_of e.work)) ≡ false = subst (λ z. AllKnown tables z e) at all in
      let own = rows_of e.work.read.0 in
      let reads = filter (is_new e.work.written.0) (places_read tables op (progress_of e.work)) in
      ends_by e (op ∷ ops) (Declined (e.done + 1)) ev at
      (λ rows has. ap (λ o. option_map_or (λ next. ops_done tables rows (e.done + 1 + 1) (passes op (progress_of e.work)) ops next) o (progress_of e.work, Declined (e.done + 1)))
      (op_same tables e.work.read.0 rows has op (progress_of e.work) here ∙ stopped))
      (ap (λ o. find (is_new e.work.read.0) (reads ++ option_map_or (λ next. read_by tables own (passes op (progress_of e.work)) ops next) o [])) stopped
      ∙ find_none (is_new e.work.read.0) (reads ++ []) (any_append (is_new e.work.read.0) reads [] (filter_known e.work.read.0 e.work.written.0 (places_read tables op (progress_of e.work)) here) refl))

  pub ended : (e : Eval) → IsEval tables txn e → length txn ≤ e.done → (Ended Done ≡ wants tables txn (rows_given e)) × IsAsked tables txn e (Some (Ended Done))
  unfolding read_by ops_done
  ended e ev past = ends_by e [] Done ev (drop_past txn e.done past) (λ rows has. refl) refl

-- ---- keys that are known from the first on ----
to_each : (u : ℕ × ℕ → Bool) (t f n s : ℕ) → s ≤ n → list_any u (take s (places t f n)) ≡ false → (j : ℕ) → j < s → u (t, f + j) ≡ false
to_each u t f n zero l h j less = absurd (omega arith)
to_each u t f zero (suc s) l h j less = absurd (omega arith)
to_each u t f (suc n) (suc s) l h zero less = let e : f + 0 ≡ f = omega arith in rw e (neither (u (t, f)) _ h).0
to_each u t f (suc n) (suc s) l h (suc j) less = let e : f + suc j ≡ f + 1 + j = omega arith in rw e (to_each u t (f + 1) n s (omega arith) (neither (u (t, f)) _ h).1 j (omega arith))

from_each : (u : ℕ × ℕ → Bool) (t f n s : ℕ) → s ≤ n → ((j : ℕ) → j < s → u (t, f + j) ≡ false) → list_any u (take s (places t f n)) ≡ false
from_each u t f n zero l h = refl
from_each u t f zero (suc s) l h = absurd (omega arith)
from_each u t f (suc n) (suc s) l h =
    let e : f + 0 ≡ f = omega arith in
    or_false (u (t, f)) _ (rw e at (h 0 (omega arith)))
    (from_each u t (f + 1) n s (omega arith) (λ j less. let k : f + suc j ≡ f + 1 + j = omega arith in rw k at (h (suc j) (omega arith))))

all_places : (u : ℕ × ℕ → Bool) (t f n : ℕ) → ((j : ℕ) → j < n → u (t, f + j) ≡ false) → list_any u (places t f n) ≡ false
all_places u t f zero h = refl
all_places u t f (suc n) h =
    let e : f + 0 ≡ f = omega arith in
    or_false (u (t, f)) _ (rw e at (h 0 (omega arith)))
    (all_places u t (f + 1) n (λ j less. let k : f + suc j ≡ f + 1 + j = omega arith in rw k at (h (suc j) (omega arith))))

get_place : (t f n s : ℕ) → s < n → slice_get (places t f n) s ≡ Some (t, f + s)
get_place t f zero s l = absurd (omega arith)
get_place t f (suc n) zero l = ap (λ k. Some (t, k)) (omega arith)
get_place t f (suc n) (suc s) l = get_place t (f + 1) n s (omega arith) ∙ ap (λ k. Some (t, k)) (omega arith)

-- the first place that is neither read nor written is the first of those not written that was not read
find_at : (read written : Overlay) (rest : List (ℕ × ℕ)) (t f n s : ℕ) → s < n → ((j : ℕ) → j < s → unknown read written (t, f + j) ≡ false) → unknown read written (t, f + s) ≡ true
    → find (is_new read) (filter (is_new written) (places t f n) ++ rest) ≡ Some (t, f + s)
find_at read written rest t f zero s l h u = absurd (omega arith)
find_at read written rest t f (suc n) zero l h u =
    let e : f + 0 ≡ f = omega arith in
    let new : (is_new read (t, f) ≡ true) × (is_new written (t, f) ≡ true) = both (is_new read (t, f)) (is_new written (t, f)) (rw e at u) in
    rw (new.1, new.0) (ap (λ k. Some (t, k)) (sym e))
find_at read written rest t f (suc n) (suc s) l h u =
    let e : f + 0 ≡ f = omega arith in
    let e2 : f + suc s ≡ f + 1 + s = omega arith in
    let later = find_at read written rest t (f + 1) n s (omega arith) (λ j less. let k : f + suc j ≡ f + 1 + j = omega arith in rw k at (h (suc j) (omega arith))) (rw e2 at u) in
    by_bool (λ b. (is_new read (t, f) && b) ≡ false → find (is_new read) (cond b ((t, f) ∷ filter (is_new written) (places t (f + 1) n)) (filter (is_new written) (places t (f + 1) n)) ++ rest) ≡ Some (t, f + suc s)) (is_new written (t, f))
    (λ w r. rw (and_true (is_new read (t, f)) r) (later ∙ ap (λ k. Some (t, k)) (sym e2)))
    (λ w r. later ∙ ap (λ k. Some (t, k)) (sym e2))
    (rw e at (h 0 (omega arith)))

module _ (tables : List Table) (txn : List Op) where
  -- more of the keys at hand are known
  pub more_known : (e : Eval) (op : Op) (ops : List Op) (t f n s : ℕ) → IsEval tables txn e → e.wants ≡ None → drop e.done txn ≡ op ∷ ops
      → places_read tables op (progress_of e.work) ≡ places t f n → n ≡ reads_at_most op → e.scanned ≤ s → s ≤ n
      → ((j : ℕ) → e.scanned ≤ j → j < s → unknown e.work.read.0 e.work.written.0 (t, f + j) ≡ false)
      → IsEval tables txn (record e { scanned = s })
  more_known e op ops t f n s ev none at are most up few new =
      let first : AreKnown tables (op ∷ ops) e = subst (λ z. AreKnown tables z e) at ev.known in
      let old : list_any (unknown e.work.read.0 e.work.written.0) (take e.scanned (places t f n)) ≡ false = rw are at first.1 in
      let now : list_any (unknown e.work.read.0 e.work.written.0) (take s (places t f n)) ≡ false =
      from_each (unknown e.work.read.0 e.work.written.0) t f n s few (λ j less. elim (below_or j e.scanned) [
        | inl b ↦ to_each (unknown e.work.read.0 e.work.written.0) t f n e.scanned (omega arith) old j b
        | inr b ↦ new j b less
      ]) in
      record {
        way = λ rows has. let w = ev.way rows has in record { before = w.before; reads = w.reads; given = w.given; run = w.run };
        known = subst (λ z. AreKnown tables z (record e { scanned = s })) (sym at) (omega arith, rw are now);
        asked = rw none tt;
        room = room_still txn e s e.work.read e.wants ev.room (omega arith);
      }
    where
      below_or : (a b : ℕ) → (a < b) ⊎ (b ≤ a)
      below_or a b = grind arith

  pub known_all : (e : Eval) (op : Op) (ops : List Op) (t f n : ℕ) → IsEval tables txn e → drop e.done txn ≡ op ∷ ops → places_read tables op (progress_of e.work) ≡ places t f n → n ≡ reads_at_most op → e.scanned ≡ n
      → AllKnown tables (drop e.done txn) e
  known_all e op ops t f n ev at are most whole =
      let first : AreKnown tables (op ∷ ops) e = subst (λ z. AreKnown tables z e) at ev.known in
      let old : list_any (unknown e.work.read.0 e.work.written.0) (take e.scanned (places t f n)) ≡ false = rw are at first.1 in
      subst (λ z. AllKnown tables z e) (sym at) (rw are (all_places (unknown e.work.read.0 e.work.written.0) t f n (λ j less. to_each (unknown e.work.read.0 e.work.written.0) t f n e.scanned (omega arith) old j (omega arith))))

  -- the record at hand is the next that is wanted
  pub next_is : (e : Eval) (op : Op) (ops : List Op) (t f n : ℕ) → IsEval tables txn e → drop e.done txn ≡ op ∷ ops → places_read tables op (progress_of e.work) ≡ places t f n → n ≡ reads_at_most op → e.scanned < n
      → unknown e.work.read.0 e.work.written.0 (t, f + e.scanned) ≡ true
      → (Read t (f + e.scanned) ≡ wants tables txn (rows_given e)) × IsAsked tables txn e (Some (Read t (f + e.scanned)))
  unfolding read_by
  next_is e op ops t f n ev at are most less new =
      let own = rows_of e.work.read.0 in
      let way = ev.way own (has_rows_of e.work.read.0) in
      let first : AreKnown tables (op ∷ ops) e = subst (λ z. AreKnown tables z e) at ev.known in
      let old : list_any (unknown e.work.read.0 e.work.written.0) (take e.scanned (places t f n)) ≡ false = rw are at first.1 in
      let rest = option_map_or (λ next. read_by tables own (passes op (progress_of e.work)) ops next) (op_done tables own op (progress_of e.work)) [] in
      let found : find (is_new e.work.read.0) (read_by tables own 0 txn beginning) ≡ Some (t, f + e.scanned) =
      ap (find (is_new e.work.read.0)) way.reads ∙ find_append (is_new e.work.read.0) way.before _ way.given
      ∙ ap (λ z. find (is_new e.work.read.0) (read_by tables own 0 z (progress_of e.work))) at
      ∙ ap (λ z. find (is_new e.work.read.0) (filter (is_new e.work.written.0) z ++ rest)) are
      ∙ find_at e.work.read.0 e.work.written.0 rest t f n e.scanned less (to_each (unknown e.work.read.0 e.work.written.0) t f n e.scanned (omega arith) old) new in (
        sym (ap (λ o. option_map_or (λ (q : ℕ × ℕ). Read q.0 q.1) o (Ended (run tables txn own).0.end)) found),
        (new, subst (λ z. IsNext tables z e (t, f + e.scanned)) (sym at) (ap (λ z. slice_get z e.scanned) are ∙ get_place t f n e.scanned less)),
      )

pub rest_at : {X : Type 0} (xs : List X) (i : ℕ) (x : X) → slice_get xs i ≡ Some x → drop i xs ≡ x ∷ drop (suc i) xs
rest_at [] i x e = absurd (cc)
rest_at (y ∷ xs) zero x e = let same : y ≡ x = cc in ap (λ z. z ∷ xs) same
rest_at (y ∷ xs) (suc i) x e = rest_at xs i x e

pub scanned_few : (tables : List Table) (txn : List Op) (e : Eval) (op : Op) (ops : List Op) → IsEval tables txn e → drop e.done txn ≡ op ∷ ops → e.scanned ≤ reads_at_most op
scanned_few tables txn e op ops ev at = let first : AreKnown tables (op ∷ ops) e = subst (λ z. AreKnown tables z e) at ev.known in first.0

pub none_to_read : (tables : List Table) (txn : List Op) (e : Eval) (op : Op) (ops : List Op) → drop e.done txn ≡ op ∷ ops → places_read tables op (progress_of e.work) ≡ [] → AllKnown tables (drop e.done txn) e
none_to_read tables txn e op ops at are = subst (λ z. AllKnown tables z e) (sym at) (ap (list_any (unknown e.work.read.0 e.work.written.0)) are)

pub if_none : {X : Type 0} {P : Type 0} (o : Option X) → P → IfNone o P
if_none None p = p
if_none (Some x) p = tt

-- the same evaluation, with another last answer that is so
pub with_wants : (tables : List Table) (txn : List Op) (e : Eval) (w : Option Wants) → IsEval tables txn e → IsAsked tables txn e w → IsEval tables txn (record e { wants = w })
with_wants tables txn e w ev so = record {
  way = λ rows has. let v = ev.way rows has in record { before = v.before; reads = v.reads; given = v.given; run = v.run };
  known = known_of (drop e.done txn) ev.known;
  asked = asked_of w so;
  room = room_still txn e e.scanned e.work.read w ev.room (omega arith);
}
  where
    known_of : (ops : List Op) → AreKnown tables ops e → AreKnown tables ops (record e { wants = w })
    known_of [] h = tt
    known_of (op ∷ ops) h = h

    next_of : (ops : List Op) (q : ℕ × ℕ) → IsNext tables ops e q → IsNext tables ops (record e { wants = w }) q
    next_of [] q h = h
    next_of (op ∷ ops) q h = h

    asked_of : (v : Option Wants) → IsAsked tables txn e v → IsAsked tables txn (record e { wants = w }) v
    asked_of None h = tt
    asked_of (Some (Read t k)) h = (h.0, next_of (drop e.done txn) (t, k) h.1)
    asked_of (Some (Ended end)) h = h

place_within : (t f n s : ℕ) (q : ℕ × ℕ) → slice_get (places t f n) s ≡ Some q → s < n
place_within t f zero s q e = absurd (cc)
place_within t f (suc n) zero q e = omega arith
place_within t f (suc n) (suc s) q e = let l = place_within t (f + 1) n s q e in omega arith

within_if : (b : Bool) (t f n s : ℕ) (q : ℕ × ℕ) → slice_get (if b then places t f n else []) s ≡ Some q → s < n
within_if true t f n s q e = place_within t f n s q e
within_if false t f n s q e = absurd (cc)

read_within : (tables : List Table) (op : Op) (p : Progress) (s : ℕ) (q : ℕ × ℕ) → slice_get (places_read tables op p) s ≡ Some q → s < reads_at_most op
read_within tables (Get t k c d) p s q e = within_if (nat_lt (value_of p k) (size_of tables t)) t (value_of p k) 1 s q e
read_within tables (Has t k d) p s q e = within_if (nat_lt (value_of p k) (size_of tables t)) t (value_of p k) 1 s q e
read_within tables (Scan t k n c d) p s q e = within_if (nat_le (value_of p k + n) (size_of tables t)) t (value_of p k) n s q e
read_within tables (Set d a) p s q e = absurd (cc)
read_within tables (Add d a b) p s q e = absurd (cc)
read_within tables (Sub d a b) p s q e = absurd (cc)
read_within tables (Mul d a b) p s q e = absurd (cc)
read_within tables (Put t k values) p s q e = absurd (cc)
read_within tables (Del t k) p s q e = absurd (cc)
read_within tables (Need a rel b) p s q e = absurd (cc)
read_within tables (Skip a rel b n) p s q e = absurd (cc)
read_within tables (Out a) p s q e = absurd (cc)

few_reads : (tables : List Table) (op : Op) → OpFits tables op → reads_at_most op ≤ 256
few_reads tables (Get t k c d) h = omega arith
few_reads tables (Has t k d) h = omega arith
few_reads tables (Scan t k n c d) h = h.3
few_reads tables (Set d a) h = omega arith
few_reads tables (Add d a b) h = omega arith
few_reads tables (Sub d a b) h = omega arith
few_reads tables (Mul d a b) h = omega arith
few_reads tables (Put t k values) h = omega arith
few_reads tables (Del t k) h = omega arith
few_reads tables (Need a rel b) h = omega arith
few_reads tables (Skip a rel b n) h = omega arith
few_reads tables (Out a) h = omega arith

get_rest : {X : Type 0} (xs : List X) (i : ℕ) (x : X) (ys : List X) → drop i xs ≡ x ∷ ys → (i < length xs) × (get_or xs i x ≡ x)
get_rest [] zero x ys e = absurd (cc)
get_rest [] (suc i) x ys e = absurd (cc)
get_rest (y ∷ xs) zero x ys e = (omega arith, cc)
get_rest (y ∷ xs) (suc i) x ys e = let n = get_rest xs i x ys e in (omega (arith, n.0), n.1)

-- what the evaluation stands at, once it has answered
pub stands : (tables : List Table) (txn : List Op) (e : Eval) (w : Wants) → TxnFits tables txn → IsEval tables txn e → IsAsked tables txn e (Some w) → StandsAt (record e { wants = Some w }) w
stands tables txn e (Ended end) fits ev so = record { asked = tt; empty = ev.room.empty; room = omega (arith, ev.room.writes, ev.room.done, ev.room.finish) }
stands tables txn e (Read t k) fits ev so = go (drop e.done txn) refl so.1
  where
    go : (ops : List Op) → drop e.done txn ≡ ops → IsNext tables ops e (t, k) → StandsAt (record e { wants = Some (Read t k) }) (Read t k)
    go [] at h = absurd h
    go (op ∷ ops) at h =
        let place = get_rest txn e.done op ops at in
        let fit : OpFits tables op = subst (OpFits tables) place.1 (fits.each e.done op place.0) in
        let less : e.scanned < reads_at_most op = read_within tables op (progress_of e.work) e.scanned (t, k) h in
        let total = sum_by-take-drop reads_at_most txn e.done in
        let here : sum_by reads_at_most (drop e.done txn) ≡ reads_at_most op + sum_by reads_at_most ops = ap (sum_by reads_at_most) at ∙ sum_by-cons reads_at_most op ops in
        (record { asked = tt; fresh = (both (is_new e.work.read.0 (t, k)) (is_new e.work.written.0 (t, k)) so.0).0; room = omega (arith, ev.room.reads); few = omega (arith, few_reads tables op fit) }, refl)

-- ---- a row is given ----
module _ (read : Overlay) (q : ℕ × ℕ) (row : Option (List ℕ)) where
  get_given : (x : ℕ × ℕ) → finite.get (finite.insert read q row) x ≡ cond (eq_by_cmp place_cmp x q) (Some row) (finite.get read x)
  get_given x = finite.get-insert places_total read q row x

  -- what was read still was, and the new place was too
  still_read : (x : ℕ × ℕ) → is_new read x ≡ false → is_new (finite.insert read q row) x ≡ false
  still_read x h = ap (λ o. not (is_some o)) (get_given x) ∙ go (eq_by_cmp place_cmp x q)
    where
      go : (b : Bool) → not (is_some (cond b (Some row) (finite.get read x))) ≡ false
      go true = refl
      go false = h

  now_read : is_new (finite.insert read q row) q ≡ false
  now_read = ap (λ o. not (is_some o)) (get_given q ∙ ap (λ o. cond (is_eq o) (Some row) (finite.get read q)) (tied_itself places_total q))

  -- rows that have what was read with the new row have what was read before
  had_rows : finite.get read q ≡ None → (rows : Rows) → HasRows (finite.insert read q row) rows → HasRows read rows
  had_rows none rows has x = by_bool (λ b. eq_by_cmp place_cmp x q ≡ b → IfSome (finite.get read x) (λ r. finite.get rows x ≡ r)) (eq_by_cmp place_cmp x q)
      (λ e f. rw (tied_none x f) tt) (λ e f. subst (λ o. IfSome o (λ r. finite.get rows x ≡ r)) (get_given x ∙ ap (λ b. cond b (Some row) (finite.get read x)) f) (has x)) refl
    where
      tied_none : (x : ℕ × ℕ) → eq_by_cmp place_cmp x q ≡ true → finite.get read x ≡ None
      tied_none x e = sym (finite.get_tied places_total read x q (is_equal (place_cmp x q) e)) ∙ none

  any_still : (xs : List (ℕ × ℕ)) → list_any (is_new read) xs ≡ false → list_any (is_new (finite.insert read q row)) xs ≡ false
  any_still [] h = refl
  any_still (x ∷ xs) h = let n = neither (is_new read x) (list_any (is_new read) xs) h in or_false _ _ (still_read x n.0) (any_still xs n.1)

  known_still : (written : Overlay) (x : ℕ × ℕ) → unknown read written x ≡ false → unknown (finite.insert read q row) written x ≡ false
  known_still written x h = by_bool (λ b. is_new read x ≡ b → (is_new (finite.insert read q row) x && is_new written x) ≡ false) (is_new read x)
      (λ e f. let w : is_new written x ≡ false = rw f at h in rw w (and_false (is_new (finite.insert read q row) x))) (λ e f. rw (still_read x f) refl) refl

  any_known : (written : Overlay) (xs : List (ℕ × ℕ)) → list_any (unknown read written) xs ≡ false → list_any (unknown (finite.insert read q row) written) xs ≡ false
  any_known written [] h = refl
  any_known written (x ∷ xs) h = let n = neither (unknown read written x) (list_any (unknown read written) xs) h in or_false _ _ (known_still written x n.0) (any_known written xs n.1)

  -- rows that have what was read have it still, where their row at a place was given
  pub have_given : (rows : Rows) → row ≡ finite.get rows q → HasRows read rows → HasRows (finite.insert read q row) rows
  have_given rows is has x = subst (λ o. IfSome o (λ r. finite.get rows x ≡ r)) (sym (get_given x))
      (by_bool (λ b. eq_by_cmp place_cmp x q ≡ b → IfSome (cond b (Some row) (finite.get read x)) (λ r. finite.get rows x ≡ r)) (eq_by_cmp place_cmp x q)
      (λ e f. sym (finite.get_tied places_total rows x q (is_equal (place_cmp x q) f)) ∙ sym is) (λ e f. has x) refl)

-- rows have what was read where nothing was
pub have_none : (rows : Rows) → HasRows finite.empty rows
have_none rows q = subst (λ o. IfSome o (λ row. finite.get rows q ≡ row)) (sym (finite.get-empty place_cmp q)) tt

take_get : {X : Type 0} (xs : List X) (i : ℕ) (x : X) → slice_get xs i ≡ Some x → take (i + 1) xs ≡ take i xs ++ x ∷ []
take_get [] i x e = absurd (cc)
take_get (y ∷ xs) zero x e = let same : y ≡ x = cc in ap (λ z. z ∷ []) same
take_get (y ∷ xs) (suc i) x e = let n : suc i + 1 ≡ suc (i + 1) = omega arith in rw n (ap (λ z. y ∷ z) (take_get xs i x e))

no_row : (o : Option (Option (List ℕ))) → not (is_some o) ≡ true → o ≡ None
no_row None h = refl
no_row (Some r) h = absurd (false≢true h)

pub gave : (tables : List Table) (txn : List Op) (e : Eval) (t k : ℕ) (row : Option (List ℕ)) (read : Overlay × ℕ) → IsEval tables txn e → e.wants ≡ Some (Read t k)
    → read.0 ≡ finite.insert e.work.read.0 (t, k) row → e.work.read.1 ≤ read.1 + 1
    → IsEval tables txn (record e { work = record e.work { read = read }; scanned = e.scanned + 1; wants = None })
gave tables txn e t k row read ev was is left =
    let so : (unknown e.work.read.0 e.work.written.0 (t, k) ≡ true) × IsNext tables (drop e.done txn) e (t, k) = subst (λ w. IsAsked tables txn e w) was ev.asked in
    let none : finite.get e.work.read.0 (t, k) ≡ None = no_row (finite.get e.work.read.0 (t, k)) ((both (is_new e.work.read.0 (t, k)) (is_new e.work.written.0 (t, k)) so.0).0) in
    record {
      way = λ rows has.
          let v = ev.way rows (had_rows e.work.read.0 (t, k) row none rows (subst (λ r. HasRows r rows) is has)) in
          record { before = v.before; reads = v.reads; given = subst (λ r. list_any (is_new r) v.before ≡ false) (sym is) (any_still e.work.read.0 (t, k) row v.before v.given); run = v.run };
      known = go (drop e.done txn) ev.known so.1;
      asked = tt;
      room = room_still txn e (e.scanned + 1) read None ev.room (omega arith);
    }
  where
    go : (ops : List Op) → AreKnown tables ops e → IsNext tables ops e (t, k) → AreKnown tables ops (record e { work = record e.work { read = read }; scanned = e.scanned + 1; wants = None })
    go [] h n = tt
    go (op ∷ ops) h n =
        let less : e.scanned < reads_at_most op = read_within tables op (progress_of e.work) e.scanned (t, k) n in
        let ps = places_read tables op (progress_of e.work) in
        let new = finite.insert e.work.read.0 (t, k) row in (
          omega arith,
          rw (is, take_get ps e.scanned (t, k) n) (any_append (unknown new e.work.written.0) (take e.scanned ps) ((t, k) ∷ [])
              (any_known e.work.read.0 (t, k) row e.work.written.0 (take e.scanned ps) h.1)
              (or_false _ _ (ap (λ b. b && is_new e.work.written.0 (t, k)) (now_read e.work.read.0 (t, k) row)) refl)),
        )

-- ---- the end ----
pub finished : (tables : List Table) (txn : List Op) (rows : Rows) (e : Eval) (end : End) → IsEval tables txn e → e.wants ≡ Some (Ended end) → HasRows e.work.read.0 rows
    → run tables txn rows ≡ (record { outs = e.work.outs.items; end = end }, writes_of (progress_of e.work) end)
unfolding run
finished tables txn rows e end ev was has =
    let so : (rows : Rows) → HasRows e.work.read.0 rows → ops_done tables rows 1 0 txn beginning ≡ (progress_of e.work, end) = subst (λ w. IsAsked tables txn e w) was ev.asked in
    ap (λ (d : Progress × End). (record { outs = d.0.outs; end = d.1 }, writes_of d.0 d.1)) (so rows has)

-- ---- the start ----
pub started : (tables : List Table) (txn : List Op) (e : Eval) → progress_of e.work ≡ beginning → e.done ≡ 0 → e.scanned ≡ 0 → e.wants ≡ None → length txn ≤ vec_capacity e.work.outs → length txn ≤ e.work.written.1
    → e.writes.items ≡ [] → length txn ≤ vec_capacity e.writes → sum_by reads_at_most txn ≤ e.work.read.1 → IsEval tables txn e
started tables txn e new zero_done zero_scanned none outs written empty finish reads = record {
  way = λ rows has. record {
    before = [];
    reads = rw (zero_done, new) refl;
    given = refl;
    run = rw (zero_done, new) refl;
  };
  known = are_known_first (drop e.done txn);
  asked = rw none tt;
  room = record {
    done = omega arith;
    outs = let n : length e.work.outs.items ≡ 0 = ap (λ p. length p.outs) new in omega arith;
    outs_room = outs;
    writes = let n : length (finite.entries e.work.written.0) ≡ 0 = ap (λ p. length (finite.entries p.written)) new ∙ sym (finite.len-entries (finite.empty {K = ℕ × ℕ} {X = Option (List ℕ)} {R = place_cmp})) ∙ finite.len-empty place_cmp (Option (List ℕ)) in omega arith;
    writes_room = omega arith;
    empty = empty;
    finish = finish;
    reads = omega arith;
  };
}
  where
    are_known_first : (ops : List Op) → AreKnown tables ops e
    are_known_first [] = tt
    are_known_first (op ∷ ops) = (omega arith, ap (λ n. list_any (unknown e.work.read.0 e.work.written.0) (take n (places_read tables op (progress_of e.work)))) zero_scanned)

pub both_same : (a b : List ℕ) (v w : List Write) (end : End) → a ≡ b → v ≡ w → ◌≡◌ {A = Reply × List Write} (record { outs = a; end = end }, v) (record { outs = b; end = end }, w)
both_same a b v w end e f = rw (e, f)
