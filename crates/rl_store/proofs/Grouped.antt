-- The rule, grouped by what a step touches: records, entries, views, and pairs of views. `of_rule` and `to_rule` go
-- between this and the nine parts.
use Rattle.std.proofs.Common.{◌≡◌, ◌≢◌, ℕ, ◌+◌, ◌*◌, ◌/◌, ◌%◌, ◌^◌, ◌<◌, ◌≤◌, ◌⊎◌, true, List, [], length, get_or}
use Rattle.std.specs.Prelude.{sum_by, Some, None}
use mathlib.Core.Option.{some}
use lib.ListN.{get_elem?}
use Rattle.atomic_table.specs.Table.{Me, Allows, Splits, Joins}
use Rattle.rl_store.specs.declared.view.Reading.{Reading}
use Rattle.rl_store.specs.declared.view.Read.{Read}
use Rattle.rl_store.specs.declared.view.Held.{Held}
use Rattle.rl_store.specs.declared.view.Write.{Write}
use Rattle.rl_store.specs.declared.view.View.{View}
use Rattle.rl_store.specs.Entries.{In, Entry, RowOf, entries, Decided, Stands, Holds, IsDecided, Locks, Installs}
use Rattle.rl_store.specs.Layout.{Opening, place, cell_place, Closes, Shows, Version}
use Rattle.rl_store.specs.Rule.{Shared, StoreRule}

-- no record is held by both, and no stamp is of both
pub record Apart (v w : View) : Type 0 where
  pub records : (r : ℕ) → Holds v r → Holds w r → ⊥
  pub stamps : (e f : Entry) → In e (entries v) → In f (entries w) → e.stamp ≢ f.stamp

module _ (b : Opening) where
  module _ (ws : List ℕ) where
    abbrev pub stamp_of : ℕ → ℕ
    stamp_of r = get_or ws (place r) 0 / 2

    -- by record
    pub record Rec (E : Entry → Type 0) (L I : ℕ → Type 0) (r : ℕ) : Type 0 where
      pub locked : get_or ws (place r) 0 % 2 ≡ 1 → L r
      pub locks : L r → get_or ws (place r) 0 % 2 ≡ 1
      pub row : RowOf
      pub version : Version b E r (stamp_of r) row
      pub shown : (I r → ⊥) → Shows b ws r row
      pub newest : (e : Entry) (row : RowOf) → E e → Decided e → Closes e r row → e.stamp ≤ stamp_of r
      pub below : stamp_of r < b.base + get_or ws 0 0

    -- by entry
    pub record Ent (E : Entry → Type 0) (e : Entry) : Type 0 where
      pub rows : (x : Read) → In x e.reads → Version b E x.rec x.stamp x.row
      pub older : (x : Read) → In x e.reads → x.stamp < e.stamp
      pub valid : (x : Read) → In x e.reads → In x.rec e.validated → (f : Entry) → E f → f.live ≡ true → f.stamp ≢ e.stamp → In x.rec f.marks → (f.stamp ≤ x.stamp) ⊎ (e.stamp < f.stamp)
      pub from : b.base + 2 ≤ e.stamp
      pub to : e.stamp < b.base + get_or ws 0 0

    -- an open read
    pub record Open (I : ℕ → Type 0) (x : Reading) : Type 0 where
      pub inside : x.rec < b.records
      pub seen : x.seen ≤ stamp_of x.rec
      pub short : length x.cells ≤ 1 + b.columns x.rec
      pub same : x.seen ≡ stamp_of x.rec → (I x.rec → ⊥) → (k : ℕ) → k < length x.cells → get_or x.cells k 0 ≡ get_or ws (cell_place x.rec k) 0

    -- a hold
    pub record Hand (v : View) (h : Held) : Type 0 where
      pub inside : h.rec < b.records
      pub old : h.old ≡ 2 * stamp_of h.rec
      pub short : length h.stored ≤ 1 + b.columns h.rec
      pub stored : (k : ℕ) → k < length h.stored → get_or ws (cell_place h.rec k) 0 ≡ get_or h.stored k 0
      pub early : 0 < length h.stored → IsDecided v.attempt
      pub later : (t : ℕ) → v.attempt.drawn ≡ Some t → stamp_of h.rec < t

    -- by view
    pub record Fits (E : Entry → Type 0) (I : ℕ → Type 0) (v : View) : Type 0 where
      pub opened : (x : Reading) → v.attempt.reading ≡ Some x → Open I x
      pub counted : (x : Read) → In x v.attempt.reads → Version b E x.rec x.stamp x.row × (x.stamp ≤ stamp_of x.rec) × (x.rec < b.records)
      pub alone : (x y : Read) → In x v.attempt.reads → In y v.attempt.reads → x.rec ≡ y.rec → x ≡ y
      pub hands : (h : Held) → In h v.attempt.held → Hand v h
      pub once : (h g : Held) (i j : ℕ) → get_elem? v.attempt.held i ≡ some h → get_elem? v.attempt.held j ≡ some g → h.rec ≡ g.rec → i ≡ j
      pub undrawn : v.attempt.drawn ≡ None → v.attempt.validated ≡ []
      pub unclosed : (x : Write) → In x v.attempt.closed → IsDecided v.attempt
      pub differ : (e f : Entry) (i j : ℕ) → get_elem? (entries v) i ≡ some e → get_elem? (entries v) j ≡ some f → e.stamp ≡ f.stamp → i ≡ j
      pub drew : length (entries v) ≤ v.draws

  pub record Facts (s : Shared) : Type 0 where
    pub wide : length s.words ≡ 1 + 6 * b.records
    pub recs : (r : ℕ) → r < b.records → Rec s.words (Stands s.views) (Locks s.views) (Installs s.views) r
    pub ents : (e : Entry) → Stands s.views e → Ent s.words (Stands s.views) e
    pub each : (id : ℕ) (v : View) → get_elem? s.views id ≡ some v → Fits s.words (Stands s.views) (Installs s.views) v
    pub apart : (i j : ℕ) (v w : View) → i ≢ j → get_elem? s.views i ≡ some v → get_elem? s.views j ≡ some w → Apart v w
    pub opening : (r : ℕ) → r < b.records → get_or b.words (place r) 0 / 2 < b.base
    pub narrow : (r : ℕ) → b.columns r ≤ 4

  -- the facts, and the sums, which split and join alone change
  pub record Kept (s : Shared) : Type 0 where
    pub facts : Facts s
    pub next : get_or s.words 0 0 ≡ 2 + sum_by (λ (v : View). v.draws) s.views
    pub whole : sum_by (λ (v : View). v.draws) s.views + sum_by (λ (v : View). v.tries) s.views ≡ b.total
    pub few : b.total + 3 ≤ 2 ^ 40

  pub of_rule : (s : Shared) → StoreRule b s → Kept s
  of_rule s h = record {
    facts = record {
      wide = h.layout.words;
      recs = λ r l. let v = h.versions r l in record {
        locked = h.locks.held r l;
        locks = h.locks.locked r l;
        row = v.row;
        version = v.version;
        shown = v.shown;
        newest = v.newest;
        below = h.seen.below r l;
      };
      ents = λ e st. record {
        rows = h.rows.of_entries e st;
        older = h.validation.older e st;
        valid = h.validation.validated e st;
        from = h.stamps.from e st;
        to = h.stamps.to e st;
      };
      each = λ id v at. record {
        opened = λ x e. let p = h.seen.opened id v at x e in record { inside = p.0; seen = p.1; short = h.reading.few id v at x e; same = h.reading.stand id v at x e };
        counted = λ x i. let p = h.seen.counted id v at x i in (h.rows.of_attempts id v at x i, p.1, p.0);
        alone = h.rows.once id v at;
        hands = λ g i. record {
          inside = h.locks.records id v at g i;
          old = h.seen.old id v at g i;
          short = h.stored.few id v at g i;
          stored = h.stored.stand id v at g i;
          early = h.stored.stored id v at g i;
          later = h.seen.drawn id v at g i;
        };
        once = h.locks.once id v at;
        undrawn = h.validation.undrawn id v at;
        unclosed = h.stored.closed id v at;
        differ = h.stamps.differ id v at;
        drew = h.counter.drew id v at;
      };
      apart = λ i j v w ne a c. record { records = h.locks.one i j v w ne a c; stamps = h.stamps.apart i j v w ne a c };
      opening = h.stamps.opening;
      narrow = h.layout.columns;
    };
    next = h.counter.next;
    whole = h.counter.whole;
    few = h.counter.few;
  }

  pub to_rule : (s : Shared) → Kept s → StoreRule b s
  to_rule s k = let h = k.facts in record {
    layout = record { words = h.wide; columns = h.narrow };
    locks = record {
      held = λ r l. (h.recs r l).locked;
      locked = λ r l. (h.recs r l).locks;
      one = λ i j v w ne a c. (h.apart i j v w ne a c).records;
      once = λ id v at. (h.each id v at).once;
      records = λ id v at g i. ((h.each id v at).hands g i).inside;
    };
    versions = λ r l. let c = h.recs r l in record { row = c.row; version = c.version; shown = c.shown; newest = c.newest };
    stored = record {
      few = λ id v at g i. ((h.each id v at).hands g i).short;
      stand = λ id v at g i. ((h.each id v at).hands g i).stored;
      stored = λ id v at g i. ((h.each id v at).hands g i).early;
      closed = λ id v at. (h.each id v at).unclosed;
    };
    seen = record {
      opened = λ id v at x e. let o = (h.each id v at).opened x e in (o.inside, o.seen);
      counted = λ id v at x i. let c = (h.each id v at).counted x i in (c.2, c.1);
      below = λ r l. (h.recs r l).below;
      old = λ id v at g i. ((h.each id v at).hands g i).old;
      drawn = λ id v at g i. ((h.each id v at).hands g i).later;
    };
    reading = record {
      few = λ id v at x e. ((h.each id v at).opened x e).short;
      stand = λ id v at x e. ((h.each id v at).opened x e).same;
    };
    rows = record {
      of_attempts = λ id v at x i. ((h.each id v at).counted x i).0;
      of_entries = λ e st. (h.ents e st).rows;
      once = λ id v at. (h.each id v at).alone;
    };
    validation = record {
      undrawn = λ id v at. (h.each id v at).undrawn;
      older = λ e st. (h.ents e st).older;
      validated = λ e st. (h.ents e st).valid;
    };
    stamps = record {
      differ = λ id v at. (h.each id v at).differ;
      apart = λ i j v w ne a c. (h.apart i j v w ne a c).stamps;
      from = λ e st. (h.ents e st).from;
      to = λ e st. (h.ents e st).to;
      opening = h.opening;
    };
    counter = record { next = k.next; whole = k.whole; few = k.few; drew = λ id v at. (h.each id v at).drew };
  }

  -- what a step may do under the one it may do under the other
  pub allows : (slots id : ℕ) (me : Me (Unit {0}) View) (i : ℕ) (f : ℕ → ℕ) (then : ℕ → Me (Unit {0}) View → Type 0) → Allows Kept slots id me i f then → Allows (StoreRule b) slots id me i f then
  allows slots id me i f then a s h homes at small = let x = a s (of_rule s h) homes at small in (x.0, x.1, x.2, to_rule _ x.3, x.4)

  pub splits_as : (id : ℕ) (v left right : View) → Splits Kept id v left right → Splits (StoreRule b) id v left right
  splits_as id v left right a s h at = to_rule _ (a s (of_rule s h) at)

  pub joins_as : (id : ℕ) (v : View) (other : ℕ) (w both spent : View) → Joins Kept id v other w both spent → Joins (StoreRule b) id v other w both spent
  joins_as id v other w both spent a s h at apart there = to_rule _ (a s (of_rule s h) at apart there)
