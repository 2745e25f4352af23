-- A worker's state after one request more, and after its pending items went out.
use Rattle.std.proofs.Common.{◌≡◌, ◌≢◌, ℕ, ◌+◌, ◌^◌, ◌-◌, ◌<◌, ◌≤◌, List, [], ◌∷◌, ◌++◌, length, map, All, Contains, Option, Some, Ok, IsSomeAnd, refl, sym, ap, ◌∙◌, subst, arith, inl, inr, zero, suc, append_assoc, length-append}
use Rattle.std.proofs.lemmas.List.{map-append, append-nil}
use Rattle.std.proofs.lemmas.List.Elements.{All-append}
use Rattle.std.specs.Prelude.{slice_get}
use Rattle.std.specs.Option.{option_and_then}
use Rattle.std.specs.List.{range_with_len}
use Rattle.atomic_table.specs.Seated.{TableId}
use mathlib.Core.Option.{some, some-ne-none}
use lib.ListN.{get_elem?}
use Rattle.rl_base.proofs.Members as members
use Rattle.rl_base.specs.declared.limit.TheConstants.{SLOTS}
use Rattle.rl_base.specs.declared.stamp.Stamp.{Stamp}
use Rattle.rl_base.specs.Order.{IsBelow}
use Rattle.rl_base.specs.Stamps.{packed}
use Rattle.rl_batch.specs.Encoding.{batch_bytes}
use Rattle.rl_batch.specs.Ranges.{ItemsInRange}
use Rattle.rl_batch.specs.Reading.{read_batch}
use Rattle.rl_families.proofs.Logs.{items_along-append, stamps_along-append}
use Rattle.rl_families.proofs.Rising.{Rises, rises_append, rises_back, rises_from, from_rises, behind}
use Rattle.rl_families.specs.Logs.{items_along, stamps_along, IsRising}
use Rattle.rl_paxos.specs.Logs as bytes
use Rattle.rl_value.specs.Tables.{Table}
use Rattle.rl_txn.specs.Fits.{AnswerFits}
use Rattle.rl_txn.specs.Run.{run}
use Rattle.rl_txn.specs.Serial.{request, numbered}
use Rattle.rl_txn.specs.declared.batch.Batch.{Batch}
use Rattle.rl_txn.specs.declared.batch.Batch.TheVariants.{Items}
use Rattle.rl_txn.specs.declared.item.Item.{Item}
use Rattle.rl_txn.specs.declared.op.Op.{Op}
use Rattle.rl_txn.proofs.Folds.{range_push}
use Rattle.rl_value.specs.Rows.{Rows}
use Rattle.rl_occ.specs.Reading.{HasRowsRead}
use Rattle.rl_occ.specs.declared.outcome.Decided.{Decided}
use Rattle.rl_store.specs.Entries.{In}
use Rattle.rl_store.specs.Passes.{PassOf, StoreOf}
use Rattle.rl_store.specs.Views.{IsAtRest}
use Rattle.rl_store.specs.declared.view.Item as store
use Rattle.rl_store.specs.declared.view.View.{View}
use Rattle.rl_live.specs.Attempts.{HasDecided, kept_item}
use Rattle.rl_live.specs.Decided.{IsItemOf, AreItemsOf}
use Rattle.rl_live.specs.Run.{IsReadAs}
use Rattle.rl_live.specs.Sending.{IsSpread, IsSameLine}
use Rattle.rl_live.specs.Turns.{HasItem, IsAt}
use Rattle.rl_live.specs.Workers.{IsCommit, IsSetUp, HasDone, AllHave, end_mark, right_of}
use Rattle.rl_live.specs.declared.line.Line.{Line}
use Rattle.rl_live.specs.declared.worker.Done.{Done}
use Rattle.rl_live.specs.declared.worker.Worker.{Worker}
use Rattle.rl_live.proofs.Ranges.{items_in_range, all_from}
use Rattle.rl_live.proofs.Serial.{member, placed}

-- the worker's item of a decision
abbrev pub item_by : (worker index : ℕ) → Decided → Item
item_by worker index d = record { stamp = d.stamp; worker = worker; index = index; reply = d.reply; writes = d.writes }

-- is what its request does
pub item_decided : (tables : List Table) (lists : List (List (List Op))) (epoch worker index : ℕ) (txn : List Op) (v w : View) (d : Decided)
    → HasDecided tables epoch txn v w d → request lists worker index ≡ Some txn → HasItem tables lists epoch worker index v w (item_by worker index d)
item_decided tables lists epoch worker index txn v w d h requested = record {
  quiet = h.quiet;
  kept = kept_item tables h.reads d;
  items = h.items;
  is = record {
    seq = let high = h.seq.1 in omega (arith, high);
    stamp = refl;
    fits = subst (λ (o : Option (List Op)). IsSomeAnd o (λ t. AnswerFits tables t d.reply d.writes)) (sym requested) h.fits;
    writes = refl;
    inside = h.inside;
    runs = subst (λ (o : Option (List Op)). IsSomeAnd o (λ t. (rows : Rows) → HasRowsRead tables h.reads rows → run tables t rows ≡ (d.reply, d.writes))) (sym requested)
        (λ rows read. sym (h.run rows read));
  };
  commit = record { own = refl; dated = h.dated; low = h.seq.0; high = let high = h.seq.1 in omega (arith, high) };
  index_is = refl;
  above = h.above;
}

-- ---- lists with one element more ----
abbrev stamp_list : List Item → List Stamp
stamp_list xs = map (λ (x : Item). x.stamp) xs

abbrev index_list : List Item → List ℕ
index_list xs = map (λ (x : Item). x.index) xs

some_same : {A : Type 0} (x y : A) → Some x ≡ Some y → x ≡ y
some_same x y e = cc

all_single : {X : Type 0} (P : X → Type 0) (x : X) → P x → All P (x ∷ [])
all_single P x h zero d l = h
all_single P x h (suc k) d l = absurd (omega (arith, l))

below_of : (s t : Stamp) (e : ℕ) → s.epoch ≡ e → t.epoch ≡ e → packed s < packed t → IsBelow s t
below_of s t e a b l = inr (a ∙ sym b, omega (arith, l, a, b))

seq_below : (s t : Stamp) → s.epoch ≡ t.epoch → IsBelow s t → s.seq < t.seq
seq_below s t e b = elim b [ inl less ↦ absurd (omega (arith, less, e)) | inr less ↦ less.1 ]

-- no item of a pass without items
pub none_of : (tables : List Table) (lists : List (List (List Op))) (kept : List store.Item) → kept ≡ [] → AreItemsOf tables lists [] kept
none_of tables lists kept none = record {
  kept_of = λ x c. absurd (members.contains_in [] x c);
  item_of = λ i p. absurd (some-ne-none i (sym (subst (λ l. get_elem? l p.0 ≡ some i) none p.1)));
}

-- a pass with one item more, and the worker's items
more_of : (tables : List Table) (lists : List (List (List Op))) (items : List Item) (kept kept2 : List store.Item) (x : Item) (i : store.Item)
    → AreItemsOf tables lists items kept → kept2 ≡ kept ++ i ∷ [] → IsItemOf tables lists x i → AreItemsOf tables lists (items ++ x ∷ []) kept2
more_of tables lists items kept kept2 x i h e is = record {
  kept_of = λ y c. elim (members.in_split items (x ∷ []) y (members.contains_in (items ++ x ∷ []) y c)) [
    | inl j ↦ (let k = h.kept_of y (members.in_contains items y j) in
        (k.0, subst (λ l. In k.0 l) (sym e) (placed (kept ++ i ∷ []) k.0 (members.in_prefix kept (i ∷ []) k.0 (member kept k.0 k.1))), k.2))
    | inr j ↦ elim j [
      | inl same ↦ (i, subst (λ l. In i l) (sym e) (placed (kept ++ i ∷ []) i (members.in_suffix kept (i ∷ []) i (inl refl))), subst (λ z. IsItemOf tables lists z i) (sym same) is)
      | inr none ↦ absurd none
    ]
  ];
  item_of = λ j p. elim (members.in_split kept (i ∷ []) j (member (kept ++ i ∷ []) j (subst (λ l. In j l) e p))) [
    | inl m ↦ (let k = h.item_of j (placed kept j m) in
        (k.0, members.in_contains (items ++ x ∷ []) k.0 (members.in_prefix items (x ∷ []) k.0 (members.contains_in items k.0 k.1)), k.2))
    | inr m ↦ elim m [
      | inl same ↦ (x, members.in_contains (items ++ x ∷ []) x (members.in_suffix items (x ∷ []) x (inl refl)), subst (λ z. IsItemOf tables lists x z) (sym same) is)
      | inr none ↦ absurd none
    ]
  ];
}

module _ (tables : List Table) (store : StoreOf) (progress : TableId) (w : Worker) where
  abbrev At : ℕ → PassOf → List Item → Line → Type 0
  At k pass pending line = IsAt tables store progress w k pass pending line

  -- before its first request
  pub at_start : (line : Line) → IsSetUp tables store progress w → length w.stream.log ≤ SLOTS → line.number ≡ w.number → line.stream ≡ w.stream → line.acceptors.items ≡ w.acceptors → line.seat ≡ w.seat
      → At 0 w.pass [] line
  at_start line h short number stream acceptors seat = record {
    bytes_of = [];
    batches = [];
    read = refl;
    log_is = ap (λ s. s.log) stream ∙ sym (append-nil w.stream.log);
    only = refl;
    rising = from_rises [] tt;
    commits = λ k d l. absurd (omega (arith, l));
    in_order = refl;
    own = h.own;
    quiet = record { rest = h.rest; right = refl };
    are = none_of tables w.lists.now w.pass.view.items h.none;
    spread = record {
      have = subst (λ s. AllHave s.epoch s.log line.acceptors.items) (sym stream)
          (subst (λ l. AllHave w.stream.epoch w.stream.log l) (sym acceptors) (subst (λ e. AllHave e w.stream.log w.acceptors) (sym h.leads) h.have));
      short = let e = ap (λ s. length s.log) stream in omega (arith, e, short);
      few = let e = ap length acceptors in let f = h.few_nodes in omega (arith, e, f);
      seated = ap (λ s. s.table) seat ∙ h.seated;
      publishes = ap (λ s. s.view.end) seat ∙ h.publishes ∙ sym (ap (λ s. s.view.first + 1) seat);
    };
    number = number;
    leads = ap (λ s. s.epoch) stream ∙ h.leads;
    nodes = ap length acceptors;
    few = omega arith;
    published = inl (ap (λ s. s.view.last) seat ∙ h.nothing);
  }

  -- after one request more
  module _ (k : ℕ) (pass pass2 : PassOf) (pending : List Item) (line : Line) (x : Item) (h : At k pass pending line)
      (n : HasItem tables w.lists.now store.made.epoch w.number (k + 1) pass.view pass2.view x) where
    abbrev sofar : List Item
    sofar = items_along h.batches ++ pending

    assoc : items_along h.batches ++ (pending ++ x ∷ []) ≡ sofar ++ x ∷ []
    assoc = sym (append_assoc (items_along h.batches) pending (x ∷ []))

    above : (y : Item) → members.In y sofar → IsBelow y.stamp x.stamp
    above y i =
        let c = h.are.kept_of y (members.in_contains sofar y i) in
        let l = n.above c.0 c.1 in
        let e = c.2.stamp in
        below_of y.stamp x.stamp store.made.epoch (members.all_in (IsCommit store.made.epoch w.number) sofar h.commits y i).dated n.commit.dated (omega (arith, l, e))

    rises : Rises (stamp_list (sofar ++ x ∷ []))
    rises = subst Rises (sym (map-append (λ (y : Item). y.stamp) sofar (x ∷ [])))
        (rises_append (stamp_list sofar) (x.stamp ∷ []) (rises_from (stamp_list sofar) h.rising) (tt, tt) (λ s t i j.
        let k = members.map_in (λ (y : Item). y.stamp) s sofar i in
        elim j [
          | inl same ↦ subst (λ u. IsBelow u t) k.2 (subst (λ u. IsBelow k.0.stamp u) (sym same) (above k.0 k.1))
          | inr none ↦ absurd none
        ]))

    order : index_list (sofar ++ x ∷ []) ≡ range_with_len 1 (k + 1)
    order =
        let next : k + 1 ≡ 1 + k = omega arith in
        let more : suc k ≡ k + 1 = omega arith in
        map-append (λ (y : Item). y.index) sofar (x ∷ [])
        ∙ ap (λ l. l ++ x.index ∷ []) h.in_order
        ∙ ap (λ (i : ℕ). range_with_len 1 k ++ i ∷ []) (n.index_is ∙ next)
        ∙ sym (range_push 1 k)
        ∙ ap (λ (i : ℕ). range_with_len 1 i) more

    pub goes_on : pass2.table ≡ store.table → At (k + 1) pass2 (pending ++ x ∷ []) line
    goes_on own = record {
      bytes_of = h.bytes_of;
      batches = h.batches;
      read = h.read;
      log_is = h.log_is;
      only = h.only;
      rising = subst (λ l. IsRising (stamp_list l)) (sym assoc) (from_rises (stamp_list (sofar ++ x ∷ [])) rises);
      commits = subst (All (IsCommit store.made.epoch w.number)) (sym assoc)
          (All-append (IsCommit store.made.epoch w.number) sofar (x ∷ []) h.commits (all_single (IsCommit store.made.epoch w.number) x n.commit));
      in_order = ap index_list assoc ∙ order;
      own = own;
      quiet = record { rest = n.quiet.rest; right = n.quiet.right ∙ h.quiet.right };
      are = subst (λ l. AreItemsOf tables w.lists.now l pass2.view.items) (sym assoc)
          (more_of tables w.lists.now sofar pass.view.items pass2.view.items x n.kept h.are n.items n.is);
      spread = h.spread;
      number = h.number;
      leads = h.leads;
      nodes = h.nodes;
      few = let f = h.few in let l = length-append pending (x ∷ []) in omega (arith, f, l);
      published = h.published;
    }

  -- what is pending can go out
  module _ (k : ℕ) (pass : PassOf) (pending : List Item) (line : Line) (h : At k pass pending line) where
    rises_all : Rises (stamp_list (items_along h.batches) ++ stamp_list pending)
    rises_all = subst Rises (map-append (λ (y : Item). y.stamp) (items_along h.batches) pending) (rises_from (stamp_list (items_along h.batches ++ pending)) h.rising)

    commit_of : (y : Item) → members.In y (items_along h.batches ++ pending) → IsCommit store.made.epoch w.number y
    commit_of y i = members.all_in (IsCommit store.made.epoch w.number) (items_along h.batches ++ pending) h.commits y i

    pub later : (x : Item) → Contains pending x → line.seat.view.last < x.stamp.seq
    later x c = elim h.published [
      | inl none ↦ (let low = cx.low in omega (arith, none, low))
      | inr y ↦ (let b = behind (stamp_list (items_along h.batches)) (stamp_list pending) rises_all y.0.stamp
          (members.in_map (λ (z : Item). z.stamp) y.0 (items_along h.batches) (iny y))
          x.stamp (members.in_map (λ (z : Item). z.stamp) x pending (members.contains_in pending x c)) in
          let cy = commit_of y.0 (members.in_prefix (items_along h.batches) pending y.0 (iny y)) in
          let less = seq_below y.0.stamp x.stamp (cy.dated ∙ sym cx.dated) b in
          let l = y.2 in
          omega (arith, less, l))
    ]
      where
        cx : IsCommit store.made.epoch w.number x
        cx = commit_of x (members.in_suffix (items_along h.batches) pending x (members.contains_in pending x c))

        iny : (y : (z : Item) × Contains (items_along h.batches) z × (line.seat.view.last ≤ z.stamp.seq)) → members.In y.0 (items_along h.batches)
        iny y = members.contains_in (items_along h.batches) y.0 y.1

    pub in_range : IsSetUp tables store progress w → store.made.epoch < 2 ^ 20 → 1 ≤ length pending → length pending ≤ 64 → ItemsInRange pending
    in_range s early full few = items_in_range tables w.lists.now s.schema s.lists_fit store.made.epoch w.number pending s.begun early s.number.0 s.number.1 full few
        (all_from (IsCommit store.made.epoch w.number) pending (λ y i. commit_of y (members.in_suffix (items_along h.batches) pending y i)))
        (λ y i. (h.are.kept_of y (members.in_contains (items_along h.batches ++ pending) y (members.in_suffix (items_along h.batches) pending y i))).2.fits)
        (rises_back (stamp_list (items_along h.batches)) (stamp_list pending) rises_all)

    pub log_room : (list : List (List Op)) → IsSetUp tables store progress w → numbered w.lists.now w.number ≡ Some list → k ≤ length list → length line.stream.log < SLOTS
    log_room list s is l =
        let r = s.room list is in
        let e = ap length h.log_is in
        let f = length-append w.stream.log h.bytes_of in
        let g = h.few in
        omega (arith, r, e, f, g, l)

    pub mark_later : line.seat.view.last < 2 ^ 40 - 1
    mark_later = elim h.published [
      | inl none ↦ omega (arith, none)
      | inr y ↦ (let c = commit_of y.0 (members.in_prefix (items_along h.batches) pending y.0 (members.contains_in (items_along h.batches) y.0 y.1)) in let high = c.high in let l = y.2 in omega (arith, high, l))
    ]

    -- after they went out
    module _ (line2 : Line) (b : bytes.Batch) (same : IsSameLine line line2) (spread : IsSpread progress line2) (log : line2.stream.log ≡ line.stream.log ++ b ∷ []) where
      log_more : line2.stream.log ≡ w.stream.log ++ (h.bytes_of ++ b ∷ [])
      log_more = log ∙ ap (λ (l : bytes.Log). l ++ b ∷ []) h.log_is ∙ append_assoc w.stream.log h.bytes_of (b ∷ [])

      read_more : (batch : Batch) → read_batch b ≡ Ok batch → IsReadAs (h.bytes_of ++ b ∷ []) (h.batches ++ batch ∷ [])
      read_more batch e = map-append read_batch h.bytes_of (b ∷ [])
          ∙ ap (λ l. l ++ read_batch b ∷ []) h.read
          ∙ ap (λ r. map Ok h.batches ++ r ∷ []) e
          ∙ sym (map-append Ok h.batches (batch ∷ []))

      items_more : items_along (h.batches ++ Items pending ∷ []) ≡ items_along h.batches ++ pending
      items_more = items_along-append h.batches (Items pending ∷ []) ∙ ap (λ (l : List Item). items_along h.batches ++ l) (append-nil pending)

      items_now : items_along (h.batches ++ Items pending ∷ []) ++ [] ≡ items_along h.batches ++ pending
      items_now = append-nil (items_along (h.batches ++ Items pending ∷ [])) ∙ items_more

      pub flushed : read_batch b ≡ Ok (Items pending) → 1 ≤ length pending → (x : Item) × Contains pending x × (line2.seat.view.last ≤ x.stamp.seq) → At k pass [] line2
      flushed read full last = record {
        bytes_of = h.bytes_of ++ b ∷ [];
        batches = h.batches ++ Items pending ∷ [];
        read = read_more (Items pending) read;
        log_is = log_more;
        only = stamps_along-append h.batches (Items pending ∷ [])
            ∙ ap (λ l. stamps_along h.batches ++ l) (append-nil (stamp_list pending))
            ∙ ap (λ l. l ++ stamp_list pending) h.only
            ∙ sym (map-append (λ (y : Item). y.stamp) (items_along h.batches) pending)
            ∙ ap stamp_list (sym items_more);
        rising = subst (λ l. IsRising (stamp_list l)) (sym items_now) h.rising;
        commits = subst (All (IsCommit store.made.epoch w.number)) (sym items_now) h.commits;
        in_order = ap index_list items_now ∙ h.in_order;
        own = h.own;
        quiet = h.quiet;
        are = subst (λ l. AreItemsOf tables w.lists.now l pass.view.items) (sym items_now) h.are;
        spread = spread;
        number = same.number ∙ h.number;
        leads = same.epoch ∙ h.leads;
        nodes = same.nodes ∙ h.nodes;
        few = let f = h.few in let l = length-append h.bytes_of (b ∷ []) in omega (arith, f, l, full);
        published = inr (
          last.0,
          members.in_contains (items_along (h.batches ++ Items pending ∷ [])) last.0
              (subst (members.In last.0) (sym items_more) (members.in_suffix (items_along h.batches) pending last.0 (members.contains_in pending last.0 last.1))),
          last.2,
        );
      }

      -- at the end of the list
      pub has_done : (list : List (List Op)) (d : Done) → pending ≡ [] → numbered w.lists.now w.number ≡ Some list → k ≡ length list → read_batch b ≡ Ok (end_mark store.made.epoch)
          → d.pass ≡ pass → d.acceptors ≡ line2.acceptors.items → HasDone tables store w d
      has_done list d none is long read passed kept =
          let bare : items_along h.batches ++ pending ≡ items_along h.batches = ap (λ l. items_along h.batches ++ l) none ∙ append-nil (items_along h.batches) in
          record {
            bytes_of = h.bytes_of ++ b ∷ [];
            batches = h.batches;
            read = read_more (end_mark store.made.epoch) read;
            have = subst (λ l. AllHave store.made.epoch (w.stream.log ++ (h.bytes_of ++ b ∷ [])) l) (sym kept)
                (subst (λ l. AllHave store.made.epoch l line2.acceptors.items) log_more
                (subst (λ e. AllHave e line2.stream.log line2.acceptors.items) (same.epoch ∙ h.leads) spread.have));
            nodes = ap length kept ∙ same.nodes ∙ h.nodes;
            only = h.only;
            rising = subst IsRising (ap stamp_list bare ∙ sym h.only) h.rising;
            commits = subst (All (IsCommit store.made.epoch w.number)) bare h.commits;
            in_order = λ other e. ap index_list (sym bare) ∙ h.in_order ∙ ap (λ i. range_with_len 1 i) (long ∙ ap length (some_same list other (sym is ∙ e)));
            own = ap (λ p. p.table) passed ∙ h.own;
            rest = subst (λ (p : PassOf). IsAtRest p.view) (sym passed) h.quiet.rest;
            right = ap (λ p. right_of p.view) passed ∙ h.quiet.right;
            are = subst (λ (p : PassOf). AreItemsOf tables w.lists.now (items_along h.batches) p.view.items) (sym passed)
                (subst (λ l. AreItemsOf tables w.lists.now l pass.view.items) bare h.are);
          }

-- between two requests less than a batch is pending, and nothing at the end of the list
pub record IsOn (tables : List Table) (store : StoreOf) (progress : TableId) (w : Worker) (list : List (List Op)) (k : ℕ) (pass : PassOf) (pending : List Item) (line : Line) : Type 0 where
  pub at : IsAt tables store progress w k pass pending line
  pub below : length pending < w.batch
  pub none : k ≡ length list → pending ≡ []

-- ---- the list of a number, and its requests ----
pub numbered_at : {A : Type 0} (xs : List A) (n : ℕ) (x : A) → 1 ≤ n → slice_get xs (n - 1) ≡ Some x → numbered xs n ≡ Some x
numbered_at xs zero x l e = absurd (omega (arith, l))
numbered_at xs (suc n) x l e = let same : suc n - 1 ≡ n = omega arith in subst (λ m. slice_get xs m ≡ Some x) same e

pub numbered_next : {A : Type 0} (xs : List A) (k : ℕ) (x : A) → slice_get xs k ≡ Some x → numbered xs (k + 1) ≡ Some x
numbered_next xs k x e = let same : suc k ≡ k + 1 = omega arith in subst (λ m. numbered xs m ≡ Some x) same e

pub request_at : (lists : List (List (List Op))) (worker index : ℕ) (list : List (List Op)) (txn : List Op) → numbered lists worker ≡ Some list → numbered list index ≡ Some txn
    → request lists worker index ≡ Some txn
request_at lists worker index list txn e f = ap (λ o. option_and_then (λ l. numbered l index) o) e ∙ f

module _ (tables : List Table) (store : StoreOf) (progress : TableId) (w : Worker) (list : List (List Op)) where
  pub on_start : (line : Line) (pending : List Item) → IsSetUp tables store progress w → numbered w.lists.now w.number ≡ Some list
      → line.number ≡ w.number → line.stream ≡ w.stream → line.acceptors.items ≡ w.acceptors → line.seat ≡ w.seat → pending ≡ []
      → IsOn tables store progress w list 0 w.pass pending line
  on_start line pending s is number stream acceptors seat none = subst (λ l. IsOn tables store progress w list 0 w.pass l line) (sym none) record {
    at = at_start tables store progress w line s (let r = s.room list is in omega (arith, r)) number stream acceptors seat;
    below = let b = s.some in omega (arith, b);
    none = λ e. refl;
  }

  pub on_kept : (k : ℕ) (pass : PassOf) (pending more : List Item) (x : Item) (line : Line) → IsAt tables store progress w k pass more line → more ≡ pending ++ x ∷ []
      → length pending < w.batch → length more ≢ w.batch → k ≢ length list → IsOn tables store progress w list k pass more line
  on_kept k pass pending more x line h e below other inside = record {
    at = h;
    below = let l = ap length e in let m = length-append pending (x ∷ []) in omega (arith, l, m, below, other);
    none = λ f. absurd (inside f);
  }

  pub on_sent : (k : ℕ) (pass : PassOf) (pending items rest : List Item) (line line2 : Line) → IsSetUp tables store progress w → IsAt tables store progress w k pass pending line
      → items ≡ pending → rest ≡ [] → 1 ≤ length pending → IsSameLine line line2 → IsSpread progress line2
      → line2.stream.log ≡ line.stream.log ++ batch_bytes (Items items) ∷ [] → read_batch (batch_bytes (Items items)) ≡ Ok (Items items)
      → (x : Item) × Contains items x × (line2.seat.view.last ≤ x.stamp.seq) → IsOn tables store progress w list k pass rest line2
  on_sent k pass pending items rest line line2 s h e none full same spread log read last =
      let h2 : IsAt tables store progress w k pass items line = subst (λ l. IsAt tables store progress w k pass l line) (sym e) h in
      let full2 : 1 ≤ length items = let n = ap length e in omega (arith, n, full) in
      subst (λ l. IsOn tables store progress w list k pass l line2) (sym none) record {
        at = flushed tables store progress w k pass items line h2 line2 (batch_bytes (Items items)) same spread log read full2 last;
        below = let b = s.some in omega (arith, b);
        none = λ f. refl;
      }

  pub on_end : (k : ℕ) (pass : PassOf) (pending : List Item) (line line2 : Line) (epoch : ℕ) (d : Done) → IsOn tables store progress w list k pass pending line
      → numbered w.lists.now w.number ≡ Some list → k ≡ length list → epoch ≡ store.made.epoch → IsSameLine line line2 → IsSpread progress line2
      → line2.stream.log ≡ line.stream.log ++ batch_bytes (end_mark epoch) ∷ [] → read_batch (batch_bytes (end_mark epoch)) ≡ Ok (end_mark epoch)
      → d.pass ≡ pass → d.acceptors ≡ line2.acceptors.items → HasDone tables store w d
  on_end k pass pending line line2 epoch d h is long e same spread log read passed kept =
      has_done tables store progress w k pass pending line h.at line2 (batch_bytes (end_mark epoch)) same spread log list d (h.none long) is long
      (subst (λ n. read_batch (batch_bytes (end_mark epoch)) ≡ Ok (end_mark n)) e read) passed kept
