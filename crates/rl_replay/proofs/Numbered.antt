-- The entries of a log by their numbers.
use Rattle.std.proofs.Common.{◌≡◌, ℕ, zero, suc, ◌<◌, ◌≤◌, List, [], ◌∷◌, ◌++◌, length, map, Some, None, refl, sym, ap, ◌∙◌, subst, arith, length-append, inl, inr}
use Rattle.std.specs.Prelude.{slice_get}
use Rattle.std.proofs.lemmas.List.{map-append}
use Rattle.std.proofs.lemmas.Option.{slice_get_within}
use Rattle.rl_base.specs.Order.{IsBelow}
use Rattle.rl_base.specs.Lists.{IsPrefix}
use Rattle.rl_txn.specs.declared.item.Item.{Item}
use Rattle.rl_txn.specs.declared.batch.Batch.{Batch}
use Rattle.rl_txn.specs.declared.batch.Batch.TheVariants.{Items, Idle, Opened}
use Rattle.rl_families.specs.Logs.{stamps_in_batch, items_in_batch, stamps_along, items_along}
use Rattle.rl_base.proofs.Members.{In, in_prefix, in_suffix, in_split, in_map, map_in}
use Rattle.rl_families.proofs.Rising.{Rises, above_in}
use Rattle.rl_replay.specs.Entries.{Entry, item_entry, entries_of, entries, entry_at}
use Rattle.rl_replay.proofs.Walk.{entries-append, front}

pub in_at : {X : Type 0} (xs : List X) (i : ℕ) (x : X) → slice_get xs i ≡ Some x → In x xs
in_at [] i x h = absurd (let n = h in cc)
in_at (y ∷ ys) zero x h = inl (let n = h in cc)
in_at (y ∷ ys) (suc i) x h = inr (in_at ys i x h)

-- an entry with an item is that item's, and the item stands in the log
batch_entry : (b : Batch) (e : Entry) → In e (entries_of b) → (x : Item) → e.item ≡ Some x → (e ≡ item_entry x) × In x (items_in_batch b)
batch_entry (Items xs) e i x h =
    let m = map_in item_entry e xs i in
    let p : Some m.0 ≡ Some x = ap (λ (z : Entry). z.item) m.2 ∙ h in
    let same : m.0 ≡ x = cc in
    (sym m.2 ∙ ap item_entry same, subst (λ z. In z xs) same m.1)
batch_entry (Idle s) e i x h = elim i [ inl q ↦ absurd (let p : None ≡ Some x = sym (ap (λ (z : Entry). z.item) q) ∙ h in cc) | inr a ↦ absurd a ]
batch_entry (Opened s) e i x h = elim i [ inl q ↦ absurd (let p : None ≡ Some x = sym (ap (λ (z : Entry). z.item) q) ∙ h in cc) | inr a ↦ absurd a ]

pub log_entry : (log : List Batch) (e : Entry) → In e (entries log) → (x : Item) → e.item ≡ Some x → (e ≡ item_entry x) × In x (items_along log)
log_entry [] e i x h = absurd i
log_entry (b ∷ bs) e i x h = elim (in_split (entries_of b) (entries bs) e i) [
  | inl j ↦ (let k = batch_entry b e j x h in (k.0, in_prefix (items_in_batch b) (items_along bs) x k.1))
  | inr j ↦ (let k = log_entry bs e j x h in (k.0, in_suffix (items_in_batch b) (items_along bs) x k.1))
]

-- ---- stamps ----
batch_stamps : (b : Batch) → map (λ (e : Entry). e.stamp) (entries_of b) ≡ stamps_in_batch b
batch_stamps (Items xs) = go xs
  where
    go : (ys : List Item) → map (λ (e : Entry). e.stamp) (map item_entry ys) ≡ map (λ (x : Item). x.stamp) ys
    go [] = refl
    go (y ∷ ys) = ap (λ z. y.stamp ∷ z) (go ys)
batch_stamps (Idle s) = refl
batch_stamps (Opened s) = refl

pub entries_stamps : (log : List Batch) → map (λ (e : Entry). e.stamp) (entries log) ≡ stamps_along log
entries_stamps [] = refl
entries_stamps (b ∷ bs) = map-append (λ (e : Entry). e.stamp) (entries_of b) (entries bs)
    ∙ ap (λ z. z ++ map (λ (e : Entry). e.stamp) (entries bs)) (batch_stamps b) ∙ ap (λ z. stamps_in_batch b ++ z) (entries_stamps bs)

-- a later entry has a greater stamp
later_above : (es : List Entry) → Rises (map (λ (e : Entry). e.stamp) es) → (i j : ℕ) (a b : Entry) → i < j → slice_get es i ≡ Some a → slice_get es j ≡ Some b → IsBelow a.stamp b.stamp
later_above [] r i j a b l h k = absurd (let n = h in cc)
later_above (e ∷ es) r zero zero a b l h k = absurd (omega arith)
later_above (e ∷ es) r zero (suc j) a b l h k =
    let same : e ≡ a = (let n = h in cc) in
    subst (λ (z : Entry). IsBelow z.stamp b.stamp) same (above_in e.stamp (map (λ (z : Entry). z.stamp) es) b.stamp r.0 (in_map (λ (z : Entry). z.stamp) b es (in_at es j b k)))
later_above (e ∷ es) r (suc i) zero a b l h k = absurd (omega arith)
later_above (e ∷ es) r (suc i) (suc j) a b l h k = later_above es r.1 i j a b (omega arith) h k

pub entries_rise : (log : List Batch) → Rises (stamps_along log) → (i j : ℕ) (a b : Entry) → i < j → entry_at log i ≡ Some a → entry_at log j ≡ Some b → IsBelow a.stamp b.stamp
entries_rise log r i j a b l h k = later_above (entries log) (subst Rises (sym (entries_stamps log)) r) i j a b l h k

-- ---- longer logs ----
pub entry_stays : (log more : List Batch) → IsPrefix log more → (i : ℕ) (e : Entry) → entry_at log i ≡ Some e → entry_at more i ≡ Some e
entry_stays log more p i e h =
    ap (λ z. slice_get (entries z) i) (sym p.1) ∙ ap (λ z. slice_get z i) (entries-append log p.0)
    ∙ front (entries log) (entries p.0) i (slice_get_within (entries log) i e h) ∙ h

pub entries_grow : (log more : List Batch) → IsPrefix log more → length (entries log) ≤ length (entries more)
entries_grow log more p =
    let e : length (entries more) ≡ length (entries log ++ entries p.0) = ap (λ z. length (entries z)) (sym p.1) ∙ ap length (entries-append log p.0) in
    omega (arith, length-append (entries log) (entries p.0))
