-- What a seat learns at the end that has all writes settled.
use Rattle.std.proofs.Common.{◌≡◌, ◌≢◌, ◌⊎◌, ℕ, ◌+◌, ◌/◌, ◌<◌, ◌≤◌, List, length, get_or, sum, Contains, refl, sym, ap, ◌∙◌, subst, inl, inr, ⊎_elim, arith}
use Rattle.std.specs.Prelude.{Some, None}
use Rattle.std.specs.FinMap as finite
use Rattle.std.specs.FinMap.{get, get-empty}
use mathlib.Core.Logic.{dite}
use mathlib.Core.Option.{some}
use native.Mathlib.Decide.{ℕ_discrete}
use lib.ListN.{get_elem?}
use Rattle.rl_tables.specs.Numbers.{record_of, IsPlace}
use Rattle.rl_value.specs.Cells.{cells_of, row_of}
use Rattle.rl_value.specs.Rows.{Rows, place_cmp}
use Rattle.rl_shared_replay.specs.declared.view.Version.{Version}
use Rattle.rl_shared_replay.specs.declared.view.View.{View}
use Rattle.rl_shared_replay.specs.Calls.{AllSettled}
use Rattle.rl_shared_replay.specs.Ends.{IsNewest, IsKey, IsNewestMap, ReadBelow, put_present}
use Rattle.rl_shared_replay.specs.Layout.{RowOf, Shows, stamp_at}
use Rattle.rl_shared_replay.specs.Rule.{Shared, OfSome, Plan, IsOpening, IsMade, ReplayRule}
use Rattle.rl_shared_replay.specs.Start.{Made, plan_in}
use Rattle.rl_shared_replay.specs.Views.{Stores, Settled}
use Rattle.rl_shared_replay.proofs.Keys.{record_below, one_key, put_here, put_there}
use Rattle.rl_shared_replay.proofs.Storing.{row_back, same_cells}

-- the words show one row at a record
pub shows_one : (columns : ℕ) (words : List ℕ) (r : ℕ) (a b : RowOf) → Shows columns words r a → Shows columns words r b → a ≡ b
shows_one columns words r a b x y =
    sym (row_back columns a)
    ∙ (ap row_of (same_cells (cells_of columns a) (cells_of columns b) (1 + columns) x.0 y.0 (λ k l. sym (x.1 k l) ∙ y.1 k l)) ∙ row_back columns b)

module _ (p : Plan) (s : Shared) (h : ReplayRule p s) (id : ℕ) (v : View) (at : get_elem? s.views id ≡ some v) (all : AllSettled v p.versions) where
  -- the stamp of a record is at least that of each of its writes
  above : (x : Version) → Contains p.versions x → x.stamp ≤ stamp_at s.words x.rec
  above x c =
      let y = all x c in
      let seen = (h.fits id v at).seen y.0 y.1 in
      let z = ap (stamp_at s.words) y.2 in
      let l = y.3 in
      omega arith

  -- so nobody has begun to store
  still : (r : ℕ) → OfSome (λ u. Stores u r) s.views → ⊥
  still r o =
      let g = (h.fits o.0 o.1 o.2).held o.3.0 o.3.1 in
      let x = g.stored o.3.3 in
      let l = above x.0 x.1 in
      let z = ap (stamp_at s.words) x.2 in
      let m = x.3 in
      omega arith

  -- the row that the words show, and that it is the newest
  pub record Ends (r : ℕ) : Type 0 where
    pub row : RowOf
    pub shown : Shows (p.columns r) s.words r row
    pub newest : IsNewest p r row

  pub ends : (r : ℕ) → r < p.records → Ends r
  ends r l = let o = h.records r l in record {
    row = o.row;
    shown = o.shown (still r);
    newest = record {
      stamp = stamp_at s.words r;
      version = ⊎_elim
          (λ a. inl a)
          (λ (b : IsMade p s.words s.views r (stamp_at s.words r) o.row). inr (b.0, (h.fits b.1.0 b.1.1 b.1.2).planned b.0 b.1.3, b.2, b.3, b.4))
          o.version;
      newest = λ x c e. subst (λ q. x.stamp ≤ stamp_at s.words q) e (above x c);
    };
  }

-- the rows read from the words are the newest
pub newest_map : (made : Made) (words : List ℕ) (map : Rows) → ((r : ℕ) → r < length made.columns → (row : RowOf) × Shows (get_or made.columns r 0) words r row × IsNewest (plan_in made) r row) → length made.columns ≡ sum made.sizes
    → ReadBelow made.sizes made.columns words (sum made.sizes) map → IsNewestMap made map
newest_map made words map known many read = record {
  rows = λ q i.
      let l = record_below made.sizes q i in
      let e = known (record_of made.sizes q.0 q.1) (omega arith) in
      subst (IsNewest (plan_in made) (record_of made.sizes q.0 q.1)) (sym (read.rows q i l e.0 e.1)) e.2;
  none = read.none;
}

pub read_none : (sizes columns words : List ℕ) → ReadBelow sizes columns words 0 finite.empty
read_none sizes columns words = record {
  rows = λ q i l. absurd (omega arith);
  later = λ q i l. get-empty place_cmp q;
  none = λ q n. get-empty place_cmp q;
}

pub read_more : (sizes columns words : List ℕ) (n : ℕ) (map : Rows) (t k : ℕ) (row : RowOf) → ReadBelow sizes columns words n map → IsPlace sizes n t k
    → ((x : RowOf) → Shows (get_or columns n 0) words n x → row ≡ x) → ReadBelow sizes columns words (n + 1) (put_present map (t, k) row)
read_more sizes columns words n map t k row read is shown = record {
  rows = λ q i l x s. dite (ℕ_discrete (record_of sizes q.0 q.1) n)
      (λ e. let same = one_key sizes q (t, k) i mine (e ∙ sym is.number) in
      ap (get (put_present map (t, k) row)) same ∙ (here ∙ shown x (subst (λ r. Shows (get_or columns r 0) words r x) e s)))
      (λ ne. other q (λ e. ne (number q e)) ∙ read.rows q i (omega arith) x s);
  later = λ q i l. other q (λ e. let z = number q e in omega arith) ∙ read.later q i (omega arith);
  none = λ q none. other q (λ e. none (subst (IsKey sizes) (sym e) mine)) ∙ read.none q none;
}
  where
    mine : IsKey sizes (t, k)
    mine = record { table = is.table; key = is.key }

    number : (q : ℕ × ℕ) → q ≡ (t, k) → record_of sizes q.0 q.1 ≡ n
    number q e = ap (λ (p : ℕ × ℕ). record_of sizes p.0 p.1) e ∙ is.number

    here : get (put_present map (t, k) row) (t, k) ≡ row
    here = put_here map (t, k) row (read.later (t, k) mine (let z = is.number in omega arith))

    other : (q : ℕ × ℕ) → q ≢ (t, k) → get (put_present map (t, k) row) q ≡ get map q
    other q ne = put_there map (t, k) q row ne
