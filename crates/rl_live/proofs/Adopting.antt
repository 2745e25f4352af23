-- An acceptor of one stream that promises and adopts.
use Rattle.std.proofs.Common.{◌≡◌, ◌⊎◌, ℕ, zero, suc, ◌+◌, ◌<◌, ◌≤◌, List, [], ◌∷◌, ◌++◌, length, map, All, None, true, false, nat_lt, replicate, append-nil, refl, sym, ap, ◌∙◌, subst, arith, inl, inr}
use Rattle.std.proofs.lemmas.Bool.Decides.{nat_tests}
use Rattle.rl_paxos.specs.Acceptors.{Acceptor, Kept, HasStream, kept_ballot, prepared, refuses, synced}
use Rattle.rl_paxos.specs.Logs as bytes
use Rattle.rl_paxos.specs.Acceptors.{kept_log}
use Rattle.rl_paxos.specs.Leaders.{Leading, with_ack}
use Rattle.rl_live.specs.declared.election.Led.{Led}
use Rattle.rl_live.specs.Run.{acceptor_at}
use Rattle.std.proofs.lemmas.Bool.{cases_Bool}
use Rattle.std.proofs.lemmas.List.{append_assoc, replicate_more}
use Rattle.rl_paxos.specs.Quorums.{is_node}
use Rattle.rl_live.specs.Elections.{CanPromise, HasLogs, HaveSameLogs, led_with, new_led, promising, with_node, with_nodes}
use Rattle.rl_live.proofs.Firsts.{all_map, all_so, map_twice, map_long}

not_below : (m n : ℕ) → n ≤ m → nat_lt m n ≡ false
not_below m n l = grind (arith, nat_tests)

is_less : (m n : ℕ) → m < n → nat_lt m n ≡ true
is_less m n l = grind (arith, nat_tests)

-- it promises
pub allows : (epoch : ℕ) (a : Acceptor) → CanPromise epoch a → refuses a epoch ≡ None
allows epoch a c = rw (not_below epoch a.promised c.promised) refl

pub has_one : (a : Acceptor) → length a.streams ≡ 1 → HasStream a 1
has_one a e = (omega arith, omega arith)

pub still : (epoch : ℕ) (a : Acceptor) → CanPromise epoch a → CanPromise epoch (prepared a epoch)
still epoch a c = record { promised = omega arith; one = c.one; below = c.below }

pub still_all : (epoch : ℕ) (node : List Acceptor) → All (CanPromise epoch) node → All (CanPromise epoch) (promising epoch node)
still_all epoch node h = all_map (CanPromise epoch) (λ a. prepared a epoch) node (all_so (CanPromise epoch) (λ a. CanPromise epoch (prepared a epoch)) (λ a c. still epoch a c) node h)

pub once_more : (epoch : ℕ) (node : List Acceptor) → promising epoch (promising epoch node) ≡ promising epoch node
once_more epoch node = map_twice (λ a. prepared a epoch) (λ a. prepared a epoch) node

-- and adopts
adopts_one : (epoch promised : ℕ) (log : bytes.Log) (ks : List Kept) → length ks ≡ 1 → kept_ballot (record { promised = promised; streams = ks }) 1 < epoch
    → synced (record { promised = promised; streams = ks }) epoch 1 log ≡ acceptor_at epoch log
adopts_one epoch promised log [] l b = absurd (omega arith)
adopts_one epoch promised log (k ∷ []) l b = rw (is_less k.ballot epoch b) refl
adopts_one epoch promised log (k ∷ (m ∷ ks)) l b = absurd (omega arith)

-- once, or once more
pub adopts : (epoch : ℕ) (log : bytes.Log) (a : Acceptor) → CanPromise epoch a ⊎ (a ≡ acceptor_at epoch log) → synced a epoch 1 log ≡ acceptor_at epoch log
adopts epoch log a (inl c) = adopts_one epoch a.promised log a.streams c.one c.below
adopts epoch log a (inr e) = ap (λ x. synced x epoch 1 log) e ∙ again (not_below epoch epoch (omega arith))
  where
    again : nat_lt epoch epoch ≡ false → synced (acceptor_at epoch log) epoch 1 log ≡ acceptor_at epoch log
    again t = rw t refl

pub can_adopt : (epoch : ℕ) (log : bytes.Log) (a : Acceptor) → CanPromise epoch a ⊎ (a ≡ acceptor_at epoch log) → (refuses a epoch ≡ None) × (length a.streams ≡ 1)
can_adopt epoch log a (inl c) = (allows epoch a c, c.one)
can_adopt epoch log a (inr e) = subst (λ x. (refuses x epoch ≡ None) × (length x.streams ≡ 1)) (sym e) (rw (not_below epoch epoch (omega arith)) refl, refl)

-- ---- a stream and its nodes ----
abbrev led_of : Leading → List Acceptor → Led
led_of stream acceptors = record { stream = stream; acceptors = acceptors }

-- a node more has the log
pub led_more : (epoch number : ℕ) (led led' : Led) (a a' : Acceptor) (log : bytes.Log) (len : ℕ) (stream : Leading) (acceptors : List Acceptor)
    → CanPromise epoch a ⊎ (a ≡ acceptor_at epoch led.stream.log) → led ≡ led' → log ≡ led.stream.log
    → a' ≡ synced a epoch 1 log → len ≡ length (kept_log a' 1) → stream ≡ with_ack led.stream number len → acceptors ≡ led.acceptors ++ a' ∷ []
    → led_of stream acceptors ≡ with_node epoch number led'
led_more epoch number led led' a a' log len stream acceptors alt same logged adopted long acked pushed =
    let is : a' ≡ acceptor_at epoch led.stream.log = adopted ∙ (ap (λ l. synced a epoch 1 l) logged ∙ adopts epoch led.stream.log a alt) in
    let n : len ≡ length led.stream.log = long ∙ ap (λ (x : Acceptor). length (kept_log x 1)) is in
    ap (λ s. led_of s acceptors) (acked ∙ ap (λ k. with_ack led.stream number k) n)
    ∙ (ap (λ ys. led_of (with_ack led.stream number (length led.stream.log)) ys) (pushed ∙ ap (λ x. led.acceptors ++ x ∷ []) is)
    ∙ ap (with_node epoch number) same)

pub no_nodes : (epoch : ℕ) (leds : List Led) → map (with_nodes epoch 0) leds ≡ leds
no_nodes epoch [] = refl
no_nodes epoch (x ∷ xs) = ap (λ w. x ∷ w) (no_nodes epoch xs)

pub nodes_more : (epoch k : ℕ) (leds : List Led) → map (with_node epoch (k + 1)) (map (with_nodes epoch k) leds) ≡ map (with_nodes epoch (k + 1)) leds
nodes_more epoch k leds =
    let e : suc k ≡ k + 1 = omega arith in
    subst (λ n. map (with_node epoch n) (map (with_nodes epoch k) leds) ≡ map (with_nodes epoch n) leds) e (map_twice (with_node epoch (suc k)) (with_nodes epoch k) leds)

-- ---- all nodes ----
pub still_nodes : (epoch : ℕ) (nodes : List (List Acceptor)) → All (All (CanPromise epoch)) nodes → All (All (CanPromise epoch)) (map (promising epoch) nodes)
still_nodes epoch nodes h = all_map (All (CanPromise epoch)) (promising epoch) nodes (all_so (All (CanPromise epoch)) (λ n. All (CanPromise epoch) (promising epoch n)) (still_all epoch) nodes h)

pub as_many : (epoch streams : ℕ) (logs : List bytes.Log) (nodes : List (List Acceptor)) → HaveSameLogs logs streams nodes
    → All (λ (n : List Acceptor). length n ≡ streams) (map (promising epoch) nodes)
as_many epoch streams logs nodes same = all_map (λ (n : List Acceptor). length n ≡ streams) (promising epoch) nodes
    (all_so (HasLogs logs) (λ n. length (promising epoch n) ≡ streams) (λ n h. map_long (λ a. prepared a epoch) n ∙ (sym (map_long (λ a. kept_log a 1) n) ∙ (ap length h ∙ same.streams_are))) nodes same.each)

-- ---- what a stream is once all nodes have its log ----
ack_keeps : (x : Leading) (node len : ℕ) → ((with_ack x node len).log ≡ x.log) × ((with_ack x node len).epoch ≡ x.epoch)
ack_keeps x node len = elim (cases_Bool (is_node (length x.acked) node)) [ inl t ↦ rw t (refl, refl) | inr t ↦ rw t (refl, refl) ]

nodes_keep : (epoch k : ℕ) (led : Led) → ((with_nodes epoch k led).stream.log ≡ led.stream.log) × ((with_nodes epoch k led).stream.epoch ≡ led.stream.epoch)
    × ((with_nodes epoch k led).acceptors ≡ led.acceptors ++ replicate k (acceptor_at epoch led.stream.log))
nodes_keep epoch zero led = (refl, refl, sym (append-nil led.acceptors))
nodes_keep epoch (suc k) led =
    let before = with_nodes epoch k led in
    let h = nodes_keep epoch k led in
    let a = ack_keeps before.stream (suc k) (length before.stream.log) in
    let x = acceptor_at epoch led.stream.log in (
      a.0 ∙ h.0,
      a.1 ∙ h.1,
      ap (λ z. z ++ acceptor_at epoch before.stream.log ∷ []) h.2
          ∙ (ap (λ l. (led.acceptors ++ replicate k x) ++ acceptor_at epoch l ∷ []) h.0
          ∙ (append_assoc led.acceptors (replicate k x) (x ∷ [])
          ∙ ap (λ z. led.acceptors ++ z) (replicate_more k x ∙ (let e : k + 1 ≡ suc k = omega arith in ap (λ n. replicate n x) e)))),
    )

pub led_log : (epoch nodes : ℕ) (log : bytes.Log) → (led_with epoch nodes log).stream.log ≡ log
led_log epoch nodes log = (nodes_keep epoch nodes (new_led epoch nodes log)).0

pub led_epoch : (epoch nodes : ℕ) (log : bytes.Log) → (led_with epoch nodes log).stream.epoch ≡ epoch
led_epoch epoch nodes log = (nodes_keep epoch nodes (new_led epoch nodes log)).1

pub led_acceptors : (epoch nodes : ℕ) (log : bytes.Log) → (led_with epoch nodes log).acceptors ≡ replicate nodes (acceptor_at epoch log)
led_acceptors epoch nodes log = (nodes_keep epoch nodes (new_led epoch nodes log)).2
