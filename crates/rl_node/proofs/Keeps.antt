-- What a leader keeps of a stream stays true as its worker steps and as batches are proposed.
use Rattle.std.proofs.Common.{◌≡◌, ◌≢◌, ◌⊎◌, ℕ, zero, suc, ◌+◌, ◌-◌, ◌*◌, ◌^◌, ◌<◌, ◌≤◌, List, [], ◌∷◌, ◌++◌, map, Bool, true, false, ◌&&◌, if◌then◌else◌, is_some, Option, Some, None, IfSome, option_to_list, option_map, All, Contains, refl, sym, ap, ◌∙◌, subst, arith, inl, inr, append-nil, append_assoc}
use Rattle.std.specs.List.{list_all}
use Rattle.std.proofs.lemmas.List.{map-append}
use Rattle.std.proofs.lemmas.Bool.Decides.{eqb_tells}
use Rattle.rl_base.specs.Order.{IsBelow}
use Rattle.rl_base.specs.Stamps.{packed}
use Rattle.rl_base.specs.declared.stamp.Stamp.{Stamp}
use Rattle.rl_base.proofs.Members.{In, in_contains, contains_in, in_prefix, in_suffix, in_split, map_in, all_in}
use Rattle.rl_families.specs.Logs.{stamps_in_batch, items_in_batch, stamps_along, items_along, IsRising}
use Rattle.rl_families.proofs.Logs.{stamps_along-append, items_along-append}
use Rattle.rl_families.proofs.Rising.{Rises, rises_from, from_rises, rises_append}
use Rattle.rl_paxos.specs.Logs as bytes
use Rattle.rl_txn.specs.declared.batch.Batch.{Batch}
use Rattle.rl_txn.specs.declared.batch.Batch.TheVariants.{Items, Idle as IdleMark}
use Rattle.rl_txn.specs.declared.item.Item.{Item}
use Rattle.rl_value.specs.Tables.{Table}
use Rattle.rl_worker.specs.Acts.{Core, phase_of, is_done}
use Rattle.rl_worker.specs.Items.{CoreItem}
use Rattle.rl_worker.specs.Laws.{AllUnder, IsFalling, stamps_by}
use Rattle.rl_worker.specs.OneTurn.{SeenInRange}
use Rattle.rl_worker.specs.Opening.{OpenLeader, setting_of, item_seen}
use Rattle.rl_worker.specs.Workers.{decided_item, either, stamp_made}
use Rattle.rl_worker.specs.declared.worker.Worker.{Worker}
use Rattle.rl_nodes.specs.Batches.{batch_of, batches_of, are_batches, END_SEQ}
use Rattle.rl_nodes.specs.BadMessages.{write_fits}
use Rattle.rl_node.specs.Keeping.{stamps_with, IsEarly, HasBegun, unproposed, IsMade, KeepsStream}
use Rattle.rl_node.proofs.Logs.{IsRight, stamps_of, items_of}
use Rattle.rl_node.proofs.Streams.{batches_of-more}

pub all_from : {A : Type 0} (P : A → Type 0) (xs : List A) → ((x : A) → In x xs → P x) → All P xs
all_from P [] h k d l = absurd (omega (arith, l))
all_from P (x ∷ xs) h zero d l = h x (inl refl)
all_from P (x ∷ xs) h (suc k) d l = all_from P xs (λ y i. h y (inr i)) k d (omega (arith, l))

pub all_front : {A : Type 0} (P : A → Type 0) (xs ys : List A) → All P (xs ++ ys) → All P xs
all_front P xs ys h = all_from P xs (λ x i. all_in P (xs ++ ys) h x (in_prefix xs ys x i))

pub all_back : {A : Type 0} (P : A → Type 0) (xs ys : List A) → All P (xs ++ ys) → All P ys
all_back P xs ys h = all_from P ys (λ x i. all_in P (xs ++ ys) h x (in_suffix xs ys x i))

pub all_append : {A : Type 0} (P : A → Type 0) (xs ys : List A) → All P xs → All P ys → All P (xs ++ ys)
all_append P xs ys p q = all_from P (xs ++ ys) (λ x i. elim (in_split xs ys x i) [ inl j ↦ all_in P xs p x j | inr j ↦ all_in P ys q x j ])

abbrev pub stamp_list : List Item → List Stamp
stamp_list xs = map (λ (x : Item). x.stamp) xs

-- ---- a log with one batch more ----

pub stamps_more : (log : bytes.Log) (b : bytes.Batch) (batch : Batch) → batch_of b ≡ Some batch
    → stamps_along (batches_of (log ++ b ∷ [])) ≡ stamps_along (batches_of log) ++ stamps_in_batch batch
stamps_more log b batch is = ap stamps_along (batches_of-more log b batch is) ∙ stamps_along-append (batches_of log) (batch ∷ [])
    ∙ ap (λ z. stamps_along (batches_of log) ++ z) (append-nil (stamps_in_batch batch))

pub items_more : (log : bytes.Log) (b : bytes.Batch) (batch : Batch) → batch_of b ≡ Some batch
    → items_along (batches_of (log ++ b ∷ [])) ≡ items_along (batches_of log) ++ items_in_batch batch
items_more log b batch is = ap items_along (batches_of-more log b batch is) ∙ items_along-append (batches_of log) (batch ∷ [])
    ∙ ap (λ z. items_along (batches_of log) ++ z) (append-nil (items_in_batch batch))

encodes_more : (log : bytes.Log) (b : bytes.Batch) → are_batches log ≡ true → is_some (batch_of b) ≡ true → are_batches (log ++ b ∷ []) ≡ true
encodes_more [] b h k = rw k refl
encodes_more (x ∷ xs) b h k = both_more (is_some (batch_of x)) (are_batches xs) (are_batches (xs ++ b ∷ [])) h (λ t. encodes_more xs b t k)
  where
    both_more : (p q r : Bool) → (p && q) ≡ true → (q ≡ true → r ≡ true) → (p && r) ≡ true
    both_more true q r h f = f h
    both_more false q r h f = h

module _ (tables : List Table) (s e : ℕ) (log : bytes.Log) (b : bytes.Batch) (batch : Batch) where
  pub right_more : IsRight tables s e log → batch_of b ≡ Some batch
      → ((x : Item) → In x (items_in_batch batch) → (x.worker ≡ s) × (list_all (write_fits tables) x.writes ≡ true))
      → ((t : Stamp) → In t (stamps_in_batch batch) → t.epoch ≤ e)
      → Rises (stamps_along (batches_of log) ++ stamps_in_batch batch) → IsRight tables s e (log ++ b ∷ [])
  right_more r is fit epochs rises = record {
    batches = encodes_more log b r.batches (ap is_some is);
    workers = λ x i. elim (in_split (items_of log) (items_in_batch batch) x (subst (In x) (items_more log b batch is) i)) [
      | inl j ↦ r.workers x j
      | inr j ↦ (fit x j).0
    ];
    epochs = λ t i. elim (in_split (stamps_of log) (stamps_in_batch batch) t (subst (In t) (stamps_more log b batch is) i)) [
      | inl j ↦ r.epochs t j
      | inr j ↦ epochs t j
    ];
    rising = subst Rises (sym (stamps_more log b batch is)) rises;
    fits = λ x i. elim (in_split (items_of log) (items_in_batch batch) x (subst (In x) (items_more log b batch is) i)) [
      | inl j ↦ r.fits x j
      | inr j ↦ (fit x j).1
    ];
  }

-- ---- stamps that a worker made ----

pub made_on : (w n : ℕ) (more : Option CoreItem) (made : List (ℕ × ℕ)) → In n (stamps_by w made)
    → In n (stamps_by w (option_to_list (option_map stamp_made more) ++ made))
made_on w n None made i = i
made_on w n (Some x) made i = elim (eqb_tells x.worker w) [ inl e ↦ rw e.0 (inr i) | inr e ↦ rw e.0 i ]

pub drawn_on : (w n v m : ℕ) (made : List (ℕ × ℕ)) → In n (stamps_by w made) → In n (stamps_by w ((v, m) ∷ made))
drawn_on w n v m made i = elim (eqb_tells v w) [ inl e ↦ rw e.0 (inr i) | inr e ↦ rw e.0 i ]

pub made_own : (w n : ℕ) (made : List (ℕ × ℕ)) (v : ℕ) → v ≡ w → stamps_by w ((v, n) ∷ made) ≡ n ∷ stamps_by w made
made_own w n made v is = elim (eqb_tells v w) [ inl e ↦ rw e.0 refl | inr e ↦ absurd (e.1 is) ]

pub under_in : (t n : ℕ) (xs : List ℕ) → AllUnder t xs → In n xs → n < t
under_in t n [] h i = absurd i
under_in t n (x ∷ xs) h i = elim i [ inl e ↦ subst (λ k. k < t) (sym e) h.0 | inr j ↦ under_in t n xs h.1 j ]

-- ---- a stamp above all that a stream has ----

abbrev pub end_stamp : (e : ℕ) → Stamp
end_stamp e = record { epoch = e; seq = END_SEQ }

-- above an early one or one that worker w made, unless that is the end mark's
pub above_kept : (e w n : ℕ) (core : Core) (t u : Stamp) → u.epoch ≡ e → 2 ≤ u.seq → e * 2 ^ 40 + u.seq ≡ n
    → AllUnder n (stamps_by w core.made) → (t ≢ end_stamp e) → IsEarly e t ⊎ IsMade e w core t → IsBelow t u
above_kept e w n core t u epoch low is under other h = elim h [
  | inl early ↦ elim early [
    | inl less ↦ inl (omega (arith, less, epoch))
    | inr mark ↦ inr (mark.0 ∙ sym epoch, omega (arith, mark.1, low))
  ]
  | inr made ↦ elim made.1 [
    | inl end ↦ absurd (other (λ i. record { epoch = made.0 i; seq = end i }))
    | inr has ↦ inr (made.0 ∙ sym epoch, less (under_in n (packed t) (stamps_by w core.made) under (contains_in (stamps_by w core.made) (packed t) has)) made.0)
  ]
]
  where
    less : packed t < n → t.epoch ≡ e → t.seq < u.seq
    less l same = arithmetic t.epoch t.seq e u.seq n l same is
      where
        arithmetic : (a b e q n : ℕ) → a * 2 ^ 40 + b < n → a ≡ e → e * 2 ^ 40 + q ≡ n → b < q
        arithmetic a b e q n l same is = omega (arith, l, same, is)

-- where a stream has no end mark, no stamp of what it keeps is one
pub no_end : (l : OpenLeader) (log : bytes.Log) (items : List Item) → All (SeenInRange l) items
    → (Contains (stamps_along (batches_of log)) (end_stamp l.epoch) → ⊥) → (t : Stamp) → In t (stamps_with log items) → t ≢ end_stamp l.epoch
no_end l log items fit none t i e = elim (in_split (stamps_along (batches_of log)) (stamp_list items) t i) [
  | inl j ↦ none (in_contains (stamps_along (batches_of log)) (end_stamp l.epoch) (subst (λ u. In u (stamps_along (batches_of log))) e j))
  | inr j ↦ (let k = map_in (λ (x : Item). x.stamp) t items j in
      let high = (all_in (SeenInRange l) items fit k.0 k.1).seq_high in
      let same : k.0.stamp.seq ≡ END_SEQ = ap (λ (u : Stamp). u.seq) (k.2 ∙ e) in
      absurd (omega (arith, high, same)))
]

-- ---- proposals ----

module _ (l : OpenLeader) (w : ℕ) (log : bytes.Log) (b : bytes.Batch) (x : Worker) (core : Core) where
  -- all that is pending is proposed
  pub keeps_items : (pending : List Item) → batch_of b ≡ Some (Items pending) → KeepsStream l w log pending x core
      → KeepsStream l w (log ++ b ∷ []) [] x core
  keeps_items pending is h = record {
    fit = all_back (SeenInRange l) pending (option_to_list (decided_item x)) h.fit;
    own = all_back (λ (i : Item). i.worker ≡ w) pending (option_to_list (decided_item x)) h.own;
    rising = subst IsRising same h.rising;
    made = subst (All (λ t. IsEarly l.epoch t ⊎ IsMade l.epoch w core t)) same h.made;
    over = λ c. elim (in_split (stamps_along (batches_of log)) (stamp_list pending) (end_stamp l.epoch)
        (subst (In (end_stamp l.epoch)) (stamps_more log b (Items pending) is) (contains_in (stamps_along (batches_of (log ++ b ∷ []))) (end_stamp l.epoch) c))) [
          | inl i ↦ ((h.over (in_contains (stamps_along (batches_of log)) (end_stamp l.epoch) i)).0, refl)
          | inr i ↦ (let k = map_in (λ (y : Item). y.stamp) (end_stamp l.epoch) pending i in
              let high = (all_in (SeenInRange l) pending (all_front (SeenInRange l) pending (option_to_list (decided_item x)) h.fit) k.0 k.1).seq_high in
              let end : k.0.stamp.seq ≡ END_SEQ = ap (λ (u : Stamp). u.seq) k.2 in
              absurd (omega (arith, high, end)))
        ];
  }
    where
      same : stamps_with log (unproposed pending x) ≡ stamps_with (log ++ b ∷ []) (unproposed [] x)
      same = ap (λ z. stamps_along (batches_of log) ++ z) (map-append (λ (y : Item). y.stamp) pending (option_to_list (decided_item x)))
          ∙ sym (append_assoc (stamps_along (batches_of log)) (stamp_list pending) (stamp_list (option_to_list (decided_item x))))
          ∙ ap (λ z. z ++ stamp_list (option_to_list (decided_item x))) (sym (stamps_more log b (Items pending) is))

-- a mark of a stamp above all others is proposed where nothing is pending or installed
module _ (l : OpenLeader) (w : ℕ) (log : bytes.Log) (b : bytes.Batch) (x : Worker) (core core' : Core) (u : Stamp) where
  pub keeps_mark : batch_of b ≡ Some (IdleMark u) → decided_item x ≡ None → KeepsStream l w log [] x core
      → ((t : Stamp) → In t (stamps_along (batches_of log)) → IsBelow t u)
      → ((n : ℕ) → In n (stamps_by w core.made) → In n (stamps_by w core'.made)) → IsMade l.epoch w core' u
      → (u ≡ end_stamp l.epoch → is_done (setting_of l.tables l.lists l.epoch) w (phase_of core' w) ≡ true)
      → (Contains (stamps_along (batches_of log)) (end_stamp l.epoch) → ⊥)
      → KeepsStream l w (log ++ b ∷ []) [] x core'
  keeps_mark is none h below on made done unended = record {
    fit = h.fit;
    own = h.own;
    rising = from_rises _ (subst Rises (sym same) (rises_append (stamps_along (batches_of log)) (u ∷ []) before (tt, tt) (λ s t i j. elim j [
      | inl e ↦ subst (IsBelow s) (sym e) (below s i)
      | inr a ↦ absurd a
    ])));
    made = subst (All (λ t. IsEarly l.epoch t ⊎ IsMade l.epoch w core' t)) (sym same)
        (all_append (λ t. IsEarly l.epoch t ⊎ IsMade l.epoch w core' t) (stamps_along (batches_of log)) (u ∷ [])
        (all_from (λ t. IsEarly l.epoch t ⊎ IsMade l.epoch w core' t) (stamps_along (batches_of log)) (λ t i. still t (all_in (λ t. IsEarly l.epoch t ⊎ IsMade l.epoch w core t) (stamps_along (batches_of log)) (subst (All (λ t. IsEarly l.epoch t ⊎ IsMade l.epoch w core t)) old h.made) t i)))
        (all_from (λ t. IsEarly l.epoch t ⊎ IsMade l.epoch w core' t) (u ∷ []) (λ t i. elim i [
          | inl e ↦ inr (subst (IsMade l.epoch w core') (sym e) made)
          | inr a ↦ absurd a
        ])));
    over = λ c. (
      done (elim (in_split (stamps_along (batches_of log)) (u ∷ []) (end_stamp l.epoch)
          (subst (In (end_stamp l.epoch)) (stamps_more log b (IdleMark u) is) (contains_in (stamps_along (batches_of (log ++ b ∷ []))) (end_stamp l.epoch) c))) [
            | inl i ↦ absurd (unended (in_contains (stamps_along (batches_of log)) (end_stamp l.epoch) i))
            | inr i ↦ elim i [ inl e ↦ sym e | inr a ↦ absurd a ]
          ]),
      refl,
    );
  }
    where
      still : (t : Stamp) → IsEarly l.epoch t ⊎ IsMade l.epoch w core t → IsEarly l.epoch t ⊎ IsMade l.epoch w core' t
      still t k = elim k [
        | inl early ↦ inl early
        | inr m ↦ inr (
          m.0,
          elim m.1 [
            | inl end ↦ inl end
            | inr has ↦ inr (in_contains (stamps_by w core'.made) (packed t) (on (packed t) (contains_in (stamps_by w core.made) (packed t) has)))
          ],
        )
      ]

      old : stamps_with log (unproposed [] x) ≡ stamps_along (batches_of log)
      old = ap (λ o. stamps_along (batches_of log) ++ stamp_list (option_to_list o)) none ∙ append-nil (stamps_along (batches_of log))

      same : stamps_with (log ++ b ∷ []) (unproposed [] x) ≡ stamps_along (batches_of log) ++ u ∷ []
      same = ap (λ o. stamps_along (batches_of (log ++ b ∷ [])) ++ stamp_list (option_to_list o)) none
          ∙ append-nil (stamps_along (batches_of (log ++ b ∷ []))) ∙ stamps_more log b (IdleMark u) is

      before : Rises (stamps_along (batches_of log))
      before = subst Rises old (rises_from _ h.rising)

-- ---- a step ----

-- what is decided and not proposed after a step: one item more or none
one_more : (pending : List Item) (old new ended item : Option Item)
    → (if is_some old then None else either ended new) ≡ item → IfSome old (λ y. either ended new ≡ Some y) → IfSome ended (λ y. new ≡ None)
    → (pending ++ option_to_list ended) ++ option_to_list new ≡ (pending ++ option_to_list old) ++ option_to_list item
one_more pending None new None item is kept over = ap (λ o. (pending ++ []) ++ option_to_list o) is
one_more pending None new (Some y) item is kept over =
    ap (λ o. (pending ++ y ∷ []) ++ option_to_list o) over ∙ append-nil (pending ++ y ∷ []) ∙ ap (λ z. z ++ y ∷ []) (sym (append-nil pending))
    ∙ ap (λ o. (pending ++ []) ++ option_to_list o) is
one_more pending (Some y) new None item is kept over =
    ap (λ o. (pending ++ []) ++ option_to_list o) kept ∙ ap (λ z. z ++ y ∷ []) (append-nil pending) ∙ sym (append-nil (pending ++ y ∷ []))
    ∙ ap (λ o. (pending ++ y ∷ []) ++ option_to_list o) is
one_more pending (Some y) new (Some z) item is kept over =
    ap (λ o. (pending ++ z ∷ []) ++ option_to_list o) over ∙ append-nil (pending ++ z ∷ [])
    ∙ ap (λ v. pending ++ v ∷ []) (let same : z ≡ y = cc in same) ∙ sym (append-nil (pending ++ y ∷ []))
    ∙ ap (λ o. (pending ++ y ∷ []) ++ option_to_list o) is

pub unproposed_more : (pending : List Item) (old new : Worker) (ended item : Option Item)
    → (if is_some (decided_item old) then None else either ended (decided_item new)) ≡ item
    → IfSome (decided_item old) (λ y. either ended (decided_item new) ≡ Some y) → IfSome ended (λ y. decided_item new ≡ None)
    → unproposed (pending ++ option_to_list ended) new ≡ unproposed pending old ++ option_to_list item
unproposed_more pending old new ended item is kept over = one_more pending (decided_item old) (decided_item new) ended item is kept over

module _ (l : OpenLeader) (w : ℕ) (log : bytes.Log) (pending : List Item) (old new : Worker) (core core' : Core) (ended : Option Item) (item : Option CoreItem)
    (h : KeepsStream l w log pending old core)
    (more : unproposed (pending ++ option_to_list ended) new ≡ unproposed pending old ++ option_to_list (option_map (item_seen l.epoch) item))
    (made : core'.made ≡ option_to_list (option_map stamp_made item) ++ core.made)
    (of_item : IfSome item (λ y. (y.worker ≡ w) × (l.epoch * 2 ^ 40 ≤ y.stamp) × SeenInRange l (item_seen l.epoch y)))
    (falls : IsFalling (stamps_by w core'.made))
    (stays : Contains (stamps_along (batches_of log)) (end_stamp l.epoch)
    → (is_done (setting_of l.tables l.lists l.epoch) w (phase_of core' w) ≡ true) × (item ≡ None) × (ended ≡ None)) where
  abbrev Kept : Core → Stamp → Type 0
  Kept c t = IsEarly l.epoch t ⊎ IsMade l.epoch w c t

  still : (t : Stamp) → Kept core t → Kept core' t
  still t k = elim k [
    | inl early ↦ inl early
    | inr m ↦ inr (
      m.0,
      elim m.1 [
        | inl end ↦ inl end
        | inr has ↦ inr (in_contains (stamps_by w core'.made) (packed t) (subst (λ z. In (packed t) (stamps_by w z)) (sym made)
            (made_on w (packed t) item core.made (contains_in (stamps_by w core.made) (packed t) has))))
      ],
    )
  ]

  pub record Grown (o : Option CoreItem) (items : List Item) : Type 0 where
    pub fit : All (SeenInRange l) items
    pub own : All (λ (i : Item). i.worker ≡ w) items
    pub rising : IsRising (stamps_with log items)
    pub kept : All (Kept core') (stamps_with log items)

  abbrev before : List Item
  before = unproposed pending old

  none_more : Grown None (before ++ [])
  none_more = subst (Grown None) (sym (append-nil before)) (record {
    fit = h.fit;
    own = h.own;
    rising = h.rising;
    kept = all_from (Kept core') (stamps_with log before) (λ t i. still t (all_in (Kept core) (stamps_with log before) h.made t i));
  })

  seen_stamp : (y : CoreItem) → l.epoch * 2 ^ 40 ≤ y.stamp → l.epoch * 2 ^ 40 + (y.stamp - l.epoch * 2 ^ 40) ≡ y.stamp
  seen_stamp y low = omega (arith, low)

  some_more : (y : CoreItem) → item ≡ Some y → Grown (Some y) (before ++ item_seen l.epoch y ∷ [])
  some_more y is =
      let own : (y.worker ≡ w) × (l.epoch * 2 ^ 40 ≤ y.stamp) × SeenInRange l (item_seen l.epoch y) = subst (λ o. IfSome o (λ z. (z.worker ≡ w) × (l.epoch * 2 ^ 40 ≤ z.stamp) × SeenInRange l (item_seen l.epoch z))) is of_item in
      let made' : stamps_by w core'.made ≡ y.stamp ∷ stamps_by w core.made = ap (λ z. stamps_by w z) (made ∙ ap (λ o. option_to_list (option_map stamp_made o) ++ core.made) is) ∙ made_own w y.stamp core.made y.worker own.0 in
      let u : Stamp = (item_seen l.epoch y).stamp in
      let low : 2 ≤ u.seq = own.2.seq_low in
      let under : AllUnder y.stamp (stamps_by w core.made) = (subst IsFalling made' falls).0 in
      let unended : Contains (stamps_along (batches_of log)) (end_stamp l.epoch) → ⊥ = λ c. cc ((stays c).1, is) in
      let stamps : stamps_with log (before ++ item_seen l.epoch y ∷ []) ≡ stamps_with log before ++ u ∷ [] =
      ap (λ z. stamps_along (batches_of log) ++ z) (map-append (λ (i : Item). i.stamp) before (item_seen l.epoch y ∷ [])) ∙ sym (append_assoc (stamps_along (batches_of log)) (stamp_list before) (u ∷ [])) in
      record {
        fit = all_append (SeenInRange l) before (item_seen l.epoch y ∷ []) h.fit (all_from (SeenInRange l) (item_seen l.epoch y ∷ []) (λ i k. elim k [ inl e ↦ subst (SeenInRange l) (sym e) own.2 | inr a ↦ absurd a ]));
        own = all_append (λ (i : Item). i.worker ≡ w) before (item_seen l.epoch y ∷ []) h.own (all_from (λ (i : Item). i.worker ≡ w) (item_seen l.epoch y ∷ []) (λ i k. elim k [ inl e ↦ ap (λ (j : Item). j.worker) e ∙ own.0 | inr a ↦ absurd a ]));
        rising = from_rises _ (subst Rises (sym stamps) (rises_append (stamps_with log before) (u ∷ []) (rises_from _ h.rising) (tt, tt) (λ s t i j. elim j [
          | inl e ↦ subst (IsBelow s) (sym e) (above_kept l.epoch w y.stamp core s u refl low (seen_stamp y own.1) under
              (no_end l log before h.fit unended s i) (all_in (Kept core) (stamps_with log before) h.made s i))
          | inr a ↦ absurd a
        ])));
        kept = subst (All (Kept core')) (sym stamps) (all_append (Kept core') (stamps_with log before) (u ∷ [])
            (all_from (Kept core') (stamps_with log before) (λ t i. still t (all_in (Kept core) (stamps_with log before) h.made t i)))
            (all_from (Kept core') (u ∷ []) (λ t k. elim k [
              | inl e ↦ inr (subst (IsMade l.epoch w core') (sym e) (refl, inr (in_contains (stamps_by w core'.made) (packed u) (subst (In (packed u)) (sym made') (inl (seen_stamp y own.1))))))
              | inr a ↦ absurd a
            ])));
      }

  grown : (o : Option CoreItem) → item ≡ o → Grown o (before ++ option_to_list (option_map (item_seen l.epoch) o))
  grown None is = none_more
  grown (Some y) is = some_more y is

  pub keeps_step : KeepsStream l w log (pending ++ option_to_list ended) new core'
  keeps_step =
      let g : Grown item (unproposed (pending ++ option_to_list ended) new) = subst (Grown item) (sym more) (grown item refl) in
      record {
        fit = g.fit;
        own = g.own;
        rising = g.rising;
        made = g.kept;
        over = λ c. ((stays c).0, ap (λ o. pending ++ option_to_list o) (stays c).2 ∙ append-nil pending ∙ (h.over c).1);
      }

-- the stream of another worker
module _ (l : OpenLeader) (w : ℕ) (log : bytes.Log) (pending : List Item) (x : Worker) (core core' : Core) where
  pub keeps_other : KeepsStream l w log pending x core → ((n : ℕ) → In n (stamps_by w core.made) → In n (stamps_by w core'.made))
      → phase_of core' w ≡ phase_of core w → KeepsStream l w log pending x core'
  keeps_other h on phase = record {
    fit = h.fit;
    own = h.own;
    rising = h.rising;
    made = all_from (λ t. IsEarly l.epoch t ⊎ IsMade l.epoch w core' t) (stamps_with log (unproposed pending x))
        (λ t i. still t (all_in (λ t. IsEarly l.epoch t ⊎ IsMade l.epoch w core t) (stamps_with log (unproposed pending x)) h.made t i));
    over = λ c. (subst (λ p. is_done (setting_of l.tables l.lists l.epoch) w p ≡ true) (sym phase) (h.over c).0, (h.over c).1);
  }
    where
      still : (t : Stamp) → IsEarly l.epoch t ⊎ IsMade l.epoch w core t → IsEarly l.epoch t ⊎ IsMade l.epoch w core' t
      still t k = elim k [
        | inl early ↦ inl early
        | inr m ↦ inr (
          m.0,
          elim m.1 [
            | inl end ↦ inl end
            | inr has ↦ inr (in_contains (stamps_by w core'.made) (packed t) (on (packed t) (contains_in (stamps_by w core.made) (packed t) has)))
          ],
        )
      ]

-- a leader that opens
pub keeps_begun : (l : OpenLeader) (w : ℕ) (log : bytes.Log) (x : Worker) (core : Core) → HasBegun l.epoch log → IsRising (stamps_along (batches_of log))
    → decided_item x ≡ None → KeepsStream l w log [] x core
keeps_begun l w log x core h rising none = record {
  fit = subst (λ o. All (SeenInRange l) (option_to_list o)) (sym none) (λ k d less. absurd (omega (arith, less)));
  own = subst (λ o. All (λ (i : Item). i.worker ≡ w) (option_to_list o)) (sym none) (λ k d less. absurd (omega (arith, less)));
  rising = subst IsRising (sym old) rising;
  made = subst (All (λ t. IsEarly l.epoch t ⊎ IsMade l.epoch w core t)) (sym old)
      (all_from (λ t. IsEarly l.epoch t ⊎ IsMade l.epoch w core t) (stamps_along (batches_of log)) (λ t i. inl (all_in (IsEarly l.epoch) (stamps_along (batches_of log)) h.stamps t i)));
  over = λ c. absurd (not_end (all_in (IsEarly l.epoch) (stamps_along (batches_of log)) h.stamps (end_stamp l.epoch) (contains_in (stamps_along (batches_of log)) (end_stamp l.epoch) c)));
}
  where
    old : stamps_with log (unproposed [] x) ≡ stamps_along (batches_of log)
    old = ap (λ o. stamps_along (batches_of log) ++ stamp_list (option_to_list o)) none ∙ append-nil (stamps_along (batches_of log))

    not_end : IsEarly l.epoch (end_stamp l.epoch) → ⊥
    not_end early = elim early [ inl less ↦ omega (arith, less) | inr mark ↦ (let one = mark.1 in omega (arith, one)) ]
