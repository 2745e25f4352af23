-- Logs that are read slot by slot, families that are filled log by log, and parts of a family.
use Rattle.std.proofs.Common.{◌≡◌, ◌≢◌, ℕ, zero, suc, ◌+◌, ◌-◌, ◌<◌, ◌≤◌, List, [], ◌∷◌, ◌++◌, length, map, replicate, get_or, All, Bool, cond, Result, Ok, Some, None, refl, sym, ap, ◌∙◌, subst, inl, inr, arith}
use Rattle.std.specs.List.{AllZip, filter, flat_map}
use Rattle.std.proofs.lemmas.List.{get_or-set_same, set-set, set_at}
use Rattle.std.proofs.lemmas.List.Elements.{filter-append}
use lib.ListN.{set}
use Rattle.rl_base.specs.Order.{IsBelow}
use Rattle.rl_base.specs.declared.stamp.Stamp.{Stamp}
use Rattle.rl_base.proofs.Members as members
use Rattle.rl_base.proofs.OrderLemmas.{is_below_from}
use Rattle.rl_batch.specs.Reading.{read_batch}
use Rattle.std.specs.Prelude.{IsOkUnless, Err}
use Rattle.rl_cut.specs.declared.family.ExtendError.{ExtendError}
use Rattle.rl_cut.specs.declared.family.ExtendError.TheVariants.{Order, Memory}
use Rattle.rl_cut.specs.Refusals.{order_refusal, extend_refusal}
use Rattle.rl_txn.specs.declared.batch.Batch.{Batch}
use Rattle.rl_txn.specs.declared.item.Item.{Item}
use Rattle.rl_families.specs.Families.{is_counted}
use Rattle.rl_families.specs.Logs.{stamps_in_batch, stamps_along, items_along, IsRising, first_stamp, last_stamp}
use Rattle.rl_families.specs.Streams.{log_at}
use Rattle.rl_families.proofs.Logs.{stamps_along-append}
use Rattle.rl_families.proofs.Rising.{Rises, rises_from, from_rises, rises_front, rises_back, behind, last_is}
use Rattle.rl_families.proofs.StampedLogs.{distinct_diff}
use Rattle.rl_families.proofs.Strict.{Apart, Diff, filter_diff, not_self}
use Rattle.rl_paxos.specs.Acceptors.{Acceptor}
use Rattle.rl_paxos.specs.Logs as bytes
use Rattle.rl_replay.specs.Replay.{AreDistinct}
use Rattle.rl_shared_replay.specs.Start.{all_items}
use Rattle.rl_live.specs.Reading.{KeepsRead, counted_of}
use Rattle.rl_live.specs.Run.{acceptor_at, IsReadAs}

-- ---- slots ----
read_at : {X Y E : Type 0} (f : X → Result Y E) (xs : List X) (ys : List Y) (i : ℕ) (x : X) → map f xs ≡ map Ok ys → i < length xs → x ≡ get_or xs i x → (y : Y) × (f x ≡ Ok y)
read_at f [] ys i x h l e = absurd (omega arith)
read_at f (z ∷ zs) [] i x h l e = absurd (let n = h in cc)
read_at f (z ∷ zs) (y ∷ ys) zero x h l e = (y, ap f e ∙ (let n = h in cc))
read_at f (z ∷ zs) (y ∷ ys) (suc i) x h l e = read_at f zs ys i x (let n = h in cc) (omega arith) e

pub slot_at : (log : bytes.Log) (batches : List Batch) (i : ℕ) (x : bytes.Batch) → IsReadAs log batches → i < length log → x ≡ get_or log i x → (b : Batch) × (read_batch x ≡ Ok b)
slot_at log batches i x h l e = read_at read_batch log batches i x h l e

same_oks : {Y E : Type 0} (xs ys : List Y) → map {B = Result Y E} (λ y. Ok y) xs ≡ map (λ y. Ok y) ys → xs ≡ ys
same_oks [] [] h = refl
same_oks [] (y ∷ ys) h = absurd (let n = h in cc)
same_oks (x ∷ xs) [] h = absurd (let n = h in cc)
same_oks {Y} {E} (x ∷ xs) (y ∷ ys) h =
    let a : x ≡ y = (let n = h in cc) in
    let b : map {B = Result Y E} (λ y. Ok y) xs ≡ map (λ y. Ok y) ys = (let n = h in cc) in
    ap (λ z. z ∷ xs) a ∙ ap (λ z. y ∷ z) (same_oks {E = E} xs ys b)

pub same_read : (log : bytes.Log) (xs ys : List Batch) → IsReadAs log xs → IsReadAs log ys → xs ≡ ys
same_read log xs ys a b = same_oks xs ys (sym a ∙ b)

-- ---- a node ----
zip_at : (logs : List bytes.Log) (family : List (List Batch)) (i : ℕ) → AllZip IsReadAs logs family → i < length logs → IsReadAs (get_or logs i []) (get_or family i []) × (i < length family)
zip_at [] family i z l = absurd (omega arith)
zip_at (x ∷ xs) [] i z l = absurd z
zip_at (x ∷ xs) (y ∷ ys) zero z l = (z.0, omega arith)
zip_at (x ∷ xs) (y ∷ ys) (suc i) z l = let r = zip_at xs ys i z.1 (omega arith) in (r.0, omega (arith, r.1))

zip_long : (logs : List bytes.Log) (family : List (List Batch)) → AllZip IsReadAs logs family → length logs ≡ length family
zip_long [] [] z = refl
zip_long [] (y ∷ ys) z = absurd z
zip_long (x ∷ xs) [] z = absurd z
zip_long (x ∷ xs) (y ∷ ys) z = ap (λ k. suc k) (zip_long xs ys z.1)

mapped_at : {A B : Type 0} (f : A → B) (xs : List A) (i : ℕ) (d : B) (e : A) → i < length (map f xs) → (get_or (map f xs) i d ≡ f (get_or xs i e)) × (i < length xs)
mapped_at f [] i d e l = absurd (omega arith)
mapped_at f (x ∷ xs) zero d e l = (refl, omega arith)
mapped_at f (x ∷ xs) (suc i) d e l = let r = mapped_at f xs i d e (omega arith) in (r.0, omega (arith, r.1))

mapped_long : {A B : Type 0} (f : A → B) (xs : List A) → length (map f xs) ≡ length xs
mapped_long f [] = refl
mapped_long f (x ∷ xs) = ap (λ k. suc k) (mapped_long f xs)

pub record SlotOf (epoch : ℕ) (family : List (List Batch)) (i : ℕ) (a : Acceptor) : Type 0 where
  pub log : bytes.Log
  pub is : a ≡ acceptor_at epoch log
  pub read : IsReadAs log (get_or family i [])
  pub inside : i < length family

pub slot_of : (epoch : ℕ) (logs : List bytes.Log) (family : List (List Batch)) (node : List Acceptor) → KeepsRead epoch logs family node → (i : ℕ) (a : Acceptor) → i < length node → a ≡ get_or node i a → SlotOf epoch family i a
slot_of epoch logs family node k i a l e =
    let m = mapped_at (acceptor_at epoch) logs i a [] (subst (λ n. i < length n) k.acceptors_are l) in
    let z = zip_at logs family i k.read m.1 in
    record { log = get_or logs i []; is = e ∙ (ap (λ n. get_or n i a) k.acceptors_are ∙ m.0); read = z.0; inside = z.1 }

pub node_long : (epoch : ℕ) (logs : List bytes.Log) (family : List (List Batch)) (node : List Acceptor) → KeepsRead epoch logs family node → length node ≡ length family
node_long epoch logs family node k = ap length k.acceptors_are ∙ (mapped_long (acceptor_at epoch) logs ∙ zip_long logs family k.read)

-- ---- a stream that takes its batches ----
below_first : (l f : Stamp) → IsBelow l f → order_refusal (Some l) (Some f) ≡ None
below_first l f below = ap (λ (b : Bool). cond b None (Some (Order l f))) (is_below_from l f below)

goes_on : (ss ts : List Stamp) → Rises (ss ++ ts) → order_refusal (last_stamp ss) (first_stamp ts) ≡ None
goes_on [] ts r = refl
goes_on (s ∷ ss) [] r = let k = last_is s ss in ap (λ o. order_refusal o None) k.2
goes_on (s ∷ ss) (t ∷ ts) r =
    let k = last_is s ss in
    ap (λ o. order_refusal o (Some t)) k.2 ∙ below_first k.0 t (behind (s ∷ ss) (t ∷ ts) r k.0 k.1 t (inl refl))

rises_with : (front rest : List Batch) (b : Batch) → IsRising (stamps_along (front ++ b ∷ rest)) → Rises (stamps_along front ++ (stamps_in_batch b ++ stamps_along rest))
rises_with front rest b r = subst (λ s. Rises s) (stamps_along-append front (b ∷ rest)) (rises_from (stamps_along (front ++ b ∷ rest)) r)

pub batch_rises : (front rest : List Batch) (b : Batch) → IsRising (stamps_along (front ++ b ∷ rest)) → IsRising (stamps_in_batch b)
batch_rises front rest b r = from_rises (stamps_in_batch b) (rises_front (stamps_in_batch b) (stamps_along rest) (rises_back (stamps_along front) (stamps_in_batch b ++ stamps_along rest) (rises_with front rest b r)))

app_assoc : {X : Type 0} (a b c : List X) → a ++ (b ++ c) ≡ (a ++ b) ++ c
app_assoc [] b c = refl
app_assoc (x ∷ a) b c = ap (λ z. x ∷ z) (app_assoc a b c)

pub no_refusal : (family : List (List Batch)) (old : List (List Batch)) (stream : ℕ) (front rest : List Batch) (b : Batch) → IsRising (stamps_along (front ++ b ∷ rest))
    → family ≡ set old (stream - 1) front → 1 ≤ stream → stream ≤ length old → extend_refusal family stream b ≡ None
no_refusal family old stream front rest b r e low high =
    let here : log_at family stream ≡ front = ap (λ f. get_or f (stream - 1) []) e ∙ get_or-set_same old (stream - 1) front [] (omega arith) in
    ap (λ l. order_refusal (last_stamp (stamps_along l)) (first_stamp (stamps_in_batch b))) here
    ∙ goes_on (stamps_along front) (stamps_in_batch b)
    (rises_front (stamps_along front ++ stamps_in_batch b) (stamps_along rest) (subst (λ s. Rises s) (app_assoc (stamps_along front) (stamps_in_batch b) (stamps_along rest)) (rises_with front rest b r)))

pub one_batch : (family new old : List (List Batch)) (stream : ℕ) (front : List Batch) (b : Batch) → family ≡ set old (stream - 1) front → 1 ≤ stream → stream ≤ length old
    → new ≡ set family (stream - 1) (log_at family stream ++ b ∷ []) → new ≡ set old (stream - 1) (front ++ b ∷ [])
one_batch family new old stream front b e low high told =
    let here : log_at family stream ≡ front = ap (λ f. get_or f (stream - 1) []) e ∙ get_or-set_same old (stream - 1) front [] (omega arith) in
    told ∙ (ap (λ l. set family (stream - 1) (l ++ b ∷ [])) here
    ∙ (ap (λ f. set f (stream - 1) (front ++ b ∷ [])) e
    ∙ set-set old (stream - 1) front (front ++ b ∷ [])))

pub wrong_kind : (r : Result (Unit {0}) ExtendError) (last got : Stamp) → r ≡ Err (Order last got) → IsOkUnless r Memory → ⊥
wrong_kind (Ok u) last got e t = absurd (let n = e in cc)
wrong_kind (Err x) last got e t = absurd (let n = e in let m = t in cc)

-- ---- a family that takes its logs ----
pub one_log : (family new : List (List Batch)) (front : List (List Batch)) (n stream : ℕ) (log : List Batch)
    → family ≡ front ++ replicate (n - stream) [] → stream ≡ length front → stream < n → new ≡ set family (stream + 1 - 1) log
    → new ≡ (front ++ log ∷ []) ++ replicate (n - (stream + 1)) []
one_log family new front n stream log e long l told =
    let m : n - stream ≡ suc (n - (stream + 1)) = omega arith in
    let at : stream + 1 - 1 ≡ stream = omega arith in
    told ∙ (ap (λ k. set family k log) at
    ∙ (ap (λ f. set f stream log) (e ∙ ap (λ k. front ++ replicate k []) m)
    ∙ (set_at front [] (replicate (n - (stream + 1)) []) log stream (sym long)
    ∙ app_assoc front (log ∷ []) (replicate (n - (stream + 1)) []))))

-- ---- the parts of a family ----
pub counted_items : (family logs : List (List Batch)) → all_items (map (counted_of family) logs) ≡ filter (λ x. is_counted family x.stamp) (flat_map items_along logs)
counted_items family [] = refl
counted_items family (l ∷ ls) =
    ap (λ z. counted_of family l ++ z) (counted_items family ls)
    ∙ sym (filter-append (λ (x : Item). is_counted family x.stamp) (items_along l) (flat_map items_along ls))

from_in : {X : Type 0} (P : X → Type 0) (xs : List X) → ((x : X) → members.In x xs → P x) → All P xs
from_in P [] h k d l = absurd (omega arith)
from_in P (x ∷ xs) h zero d l = h x (inl refl)
from_in P (x ∷ xs) h (suc k) d l = from_in P xs (λ y i. h y (inr i)) k d (omega arith)

pub parts_fit : (P : Item → Type 0) (family logs : List (List Batch)) → All P (flat_map items_along logs) → All (All P) (map (counted_of family) logs)
parts_fit P family logs h = go logs (members.all_in P (flat_map items_along logs) h)
  where
    go : (ls : List (List Batch)) → ((x : Item) → members.In x (flat_map items_along ls) → P x) → All (All P) (map (counted_of family) ls)
    go [] g k d l = absurd (omega arith)
    go (m ∷ ms) g zero d l = from_in P (counted_of family m) (λ x i. g x (members.in_prefix (items_along m) (flat_map items_along ms) x (members.in_filter (λ (y : Item). is_counted family y.stamp) x (items_along m) i).0))
    go (m ∷ ms) g (suc k) d l = go ms (λ x i. g x (members.in_suffix (items_along m) (flat_map items_along ms) x i)) k d (omega arith)

apart_not : (x y : Item) → Apart x y → x.stamp ≢ y.stamp
apart_not x y a e = elim a [
  | inl l ↦ not_self y (subst (λ s. IsBelow s y.stamp) e l)
  | inr l ↦ not_self y (subst (λ s. IsBelow y.stamp s) e l)
]

member_at : (xs : List Item) (k : ℕ) (d : Item) → k < length xs → members.In (get_or xs k d) xs
member_at [] k d l = absurd (omega arith)
member_at (x ∷ xs) zero d l = inl refl
member_at (x ∷ xs) (suc k) d l = inr (member_at xs k d (omega arith))

pub from_diff : (xs : List Item) → Diff xs → AreDistinct xs
from_diff [] h i j d l m = absurd (omega arith)
from_diff (x ∷ xs) h zero zero d l m = absurd (omega arith)
from_diff (x ∷ xs) h zero (suc j) d l m = apart_not x (get_or xs j d) (h.0 (get_or xs j d) (member_at xs j d (omega arith)))
from_diff (x ∷ xs) h (suc i) zero d l m = absurd (omega arith)
from_diff (x ∷ xs) h (suc i) (suc j) d l m = from_diff xs h.1 i j d (omega arith) (omega arith)

pub parts_distinct : (family logs : List (List Batch)) → AreDistinct (flat_map items_along logs) → AreDistinct (all_items (map (counted_of family) logs))
parts_distinct family logs h =
    let f = λ (x : Item). is_counted family x.stamp in
    subst (λ l. AreDistinct l) (sym (counted_items family logs)) (from_diff (filter f (flat_map items_along logs)) (filter_diff f (flat_map items_along logs) (distinct_diff (flat_map items_along logs) h)))
