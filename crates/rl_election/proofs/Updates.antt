-- Changes at one index of a list, and what is sent to all.
use Rattle.std.proofs.Common.{◌≡◌, ◌≢◌, ℕ, zero, suc, ◌+◌, ◌-◌, ◌<◌, ◌≤◌, List, [], ◌∷◌, ◌++◌, length, map, get_or, true, nat_le, Some, None, refl, ap, ◌∙◌, arith, inl, inr, length-append, get_or-set_same, get_or-set_other}
use Rattle.std.proofs.lemmas.Bool.{cases_eq, and_parts, leb-true}
use Rattle.std.specs.Prelude.{slice_get}
use Rattle.rl_paxos.specs.Acceptors.{Kept, Acceptor, nothing_kept, with_kept}
use Rattle.rl_paxos.specs.Leaders.{Leading, new_leading}
use Rattle.rl_paxos.specs.Logs.{Log}
use Rattle.rl_paxos.specs.Recovery.{Promise, recovered, recovered_logs}
use Rattle.rl_base.proofs.Members.{In, in_prefix, in_suffix, in_split}
use Rattle.rl_paxos.specs.Quorums.{is_node}
use Rattle.rl_paxos.proofs.Counting.{node_is, is_node_low, is_node_high}
use Rattle.rl_election.specs.World.{Cluster, Message, Sync, Envelope, Term, to_all, is_stream, no_stream, with_stream}
use Rattle.rl_election.specs.StreamEvents.{syncs}
use Rattle.rl_election.proofs.Inv.{kept_at, shown, log_at}

-- a stream has an index
pub index_of : (g : Cluster) (s : ℕ) → is_stream g s ≡ true → s - 1 < g.streams
index_of g s h = let k = and_parts (nat_le 1 s) (nat_le s g.streams) h in omega (arith, leb-true 1 s k.0, leb-true s g.streams k.1)

pub with_kept_here : (x : Acceptor) (s b : ℕ) (log : Log) → s - 1 < length x.streams → kept_at (with_kept x s b log) (s - 1) ≡ record { ballot = b; log = log }
with_kept_here x s b log l = get_or-set_same x.streams (s - 1) (record { ballot = b; log = log }) nothing_kept l

pub with_kept_other : (x : Acceptor) (s b : ℕ) (log : Log) (j : ℕ) → j ≢ s - 1 → kept_at (with_kept x s b log) j ≡ kept_at x j
with_kept_other x s b log j m = get_or-set_other x.streams (s - 1) j (record { ballot = b; log = log }) nothing_kept m

-- a promise shows what is kept
pub shown_is : (xs : List Kept) (i : ℕ) → shown (map (λ (k : Kept). k.ballot) xs) (map (λ (k : Kept). k.log) xs) i ≡ get_or xs i nothing_kept
shown_is [] i = refl
shown_is (x ∷ xs) zero = refl
shown_is (x ∷ xs) (suc i) = shown_is xs i

-- ---- what is sent ----

-- each node is sent what is sent to all
pub to_all_has : (n from to : ℕ) (message : Message) → is_node n to ≡ true → In (record { from = from; to = to; message = message }) (to_all n from message)
to_all_has zero from to message is = absurd (omega (arith, is_node_low 0 to is, is_node_high 0 to is))
to_all_has (suc n) from to message is =
    let last : List Envelope = record { from = from; to = suc n; message = message } ∷ [] in
    elim (cases_eq to (suc n)) [
      | inl e ↦ rw e (in_suffix (to_all n from message) last (record { from = from; to = suc n; message = message }) (inl refl))
      | inr m ↦ in_prefix (to_all n from message) last (record { from = from; to = to; message = message })
          (to_all_has n from to message (node_is n to (is_node_low (suc n) to is) (omega (arith, m, is_node_high (suc n) to is))))
    ]

-- and is sent the Sync of each stream
pub syncs_has : (g : Cluster) (a e : ℕ) (logs : List Log) (n s to : ℕ) → 1 ≤ s → s ≤ n → is_node g.nodes to ≡ true → In (record { from = a; to = to; message = Sync e s (get_or logs (s - 1) []) }) (syncs g a e logs n)
syncs_has g a e logs zero s to low high is = absurd (omega arith)
syncs_has g a e logs (suc n) s to low high is =
    let last : List Envelope = to_all g.nodes a (Sync e (suc n) (get_or logs n [])) in
    elim (cases_eq s (suc n)) [
      | inl q ↦ (
          let at : suc n - 1 ≡ n = omega arith in
          rw (q, at) (in_suffix (syncs g a e logs n) last (record { from = a; to = to; message = Sync e (suc n) (get_or logs n []) }) (to_all_has g.nodes a to (Sync e (suc n) (get_or logs n [])) is)))
      | inr m ↦ in_prefix (syncs g a e logs n) last (record { from = a; to = to; message = Sync e s (get_or logs (s - 1) []) }) (syncs_has g a e logs n s to low (omega (arith, m)) is)
    ]

pub to_all_in : (n from : ℕ) (message : Message) (m : Envelope) → In m (to_all n from message) → (m.from ≡ from) × (m.message ≡ message)
to_all_in zero from message m i = absurd i
to_all_in (suc n) from message m i = elim (in_split (to_all n from message) (record { from = from; to = suc n; message = message } ∷ []) m i) [
  | inl j ↦ to_all_in n from message m j
  | inr j ↦ elim j [ inl e ↦ rw e (refl, refl) | inr k ↦ absurd k ]
]

pub syncs_in : (g : Cluster) (a e : ℕ) (logs : List Log) (n : ℕ) (m : Envelope) → In m (syncs g a e logs n) → (m.from ≡ a) × ((i : ℕ) × (m.message ≡ Sync e (suc i) (get_or logs i [])))
syncs_in g a e logs zero m i = absurd i
syncs_in g a e logs (suc n) m i = elim (in_split (syncs g a e logs n) (to_all g.nodes a (Sync e (suc n) (get_or logs n []))) m i) [
  | inl j ↦ syncs_in g a e logs n m j
  | inr j ↦ (let k = to_all_in g.nodes a (Sync e (suc n) (get_or logs n [])) m j in (k.0, (n, k.1)))
]

pub get_in : {A : Type 0} (xs : List A) (k : ℕ) (x : A) → slice_get xs k ≡ Some x → In x xs
get_in [] k x e = absurd (let q : None ≡ Some x = e in cc)
get_in (y ∷ ys) zero x e = inl (let q : Some y ≡ Some x = e in cc)
get_in (y ∷ ys) (suc k) x e = inr (get_in ys k x e)

-- ---- terms ----

pub length-recovered : (ps : List Promise) (k : ℕ) → length (recovered_logs ps k) ≡ k
length-recovered ps zero = refl
length-recovered ps (suc k) = omega (arith, length-append (recovered_logs ps k) (recovered ps (suc k) ∷ []), length-recovered ps k)

get_front : (xs ys : List Log) (i : ℕ) → i < length xs → get_or (xs ++ ys) i [] ≡ get_or xs i []
get_front [] ys i h = absurd (omega arith)
get_front (x ∷ xs) ys zero h = refl
get_front (x ∷ xs) ys (suc i) h = get_front xs ys i (omega arith)

get_last : (xs : List Log) (y : Log) (i : ℕ) → i ≡ length xs → get_or (xs ++ y ∷ []) i [] ≡ y
get_last [] y i e = let z : i ≡ 0 = e in rw z refl
get_last (x ∷ xs) y zero e = absurd (omega arith)
get_last (x ∷ xs) y (suc i) e = get_last xs y i (omega arith)

pub get_or-recovered : (ps : List Promise) (k i : ℕ) → i < k → get_or (recovered_logs ps k) i [] ≡ recovered ps (i + 1)
get_or-recovered ps zero i h = absurd (omega arith)
get_or-recovered ps (suc k) i h = elim (cases_eq i k) [
  | inl e ↦ (let t : get_or (recovered_logs ps k ++ recovered ps (suc k) ∷ []) i [] ≡ recovered ps (suc k) = get_last (recovered_logs ps k) (recovered ps (suc k)) i (omega (arith, e, length-recovered ps k)) in
      let q : i + 1 ≡ suc k = omega (arith, e) in rw q t)
  | inr m ↦ get_front (recovered_logs ps k) (recovered ps (suc k) ∷ []) i (omega (arith, m, length-recovered ps k)) ∙ get_or-recovered ps k i (omega (arith, m))
]

-- the streams of a new leader have its initial logs
pub new_logs : (e n q : ℕ) (logs : List Log) (i : ℕ) → (get_or (map (new_leading e n q) logs) i no_stream).log ≡ get_or logs i []
new_logs e n q [] i = refl
new_logs e n q (x ∷ xs) zero = refl
new_logs e n q (x ∷ xs) (suc i) = new_logs e n q xs i

-- another stream at s changes no other
pub log_other : (t : Term) (s : ℕ) (x : Leading) (i : ℕ) → i ≢ s - 1 → log_at (with_stream t s x) i ≡ log_at t i
log_other t s x i m = ap (λ (z : Leading). z.log) (get_or-set_other t.streams (s - 1) i x no_stream m)

pub log_here : (t : Term) (s : ℕ) (x : Leading) → s - 1 < length t.streams → log_at (with_stream t s x) (s - 1) ≡ x.log
log_here t s x l = ap (λ (z : Leading). z.log) (get_or-set_same t.streams (s - 1) x no_stream l)
