-- What is recovered where all nodes promise with the same logs.
use Rattle.std.proofs.Common.{◌≡◌, ◌⊎◌, ℕ, not, ◌&&◌, nat_le, inl, inr, zero, suc, ◌+◌, ◌-◌, ◌≤◌, List, [], ◌∷◌, ◌++◌, length, map, take, All, get_or, Bool, true, false, cond, ◌==◌, refl, sym, ap, ◌∙◌, subst, arith}
use Rattle.std.specs.List.{best_of}
use Rattle.std.proofs.lemmas.Bool.{cases_Bool, or_from, cond-true}
use Rattle.std.proofs.lemmas.Bool.Decides.{nat_tests}
use Rattle.std.proofs.lemmas.List.{take_more}
use Rattle.rl_paxos.specs.Acceptors.{Acceptor, kept_ballot, kept_log}
use Rattle.rl_paxos.specs.Logs as bytes
use Rattle.rl_paxos.specs.Quorums.{is_node}
use Rattle.rl_paxos.specs.Recovery.{Promise, Candidate, with_promise, is_better, has_promised, recovered, recovered_logs}
use Rattle.rl_live.specs.Elections.{HasLogs}

-- what a node of a number promises with
abbrev pub promise_of : (number : ℕ) → List Acceptor → Promise
promise_of number node = record { node = number; ballots = map (λ a. kept_ballot a 1) node; logs = map (λ a. kept_log a 1) node }

-- and several, from a number on
abbrev pub promises_from : (number : ℕ) → List (List Acceptor) → List Promise
promises_from number [] = []
promises_from number (node ∷ nodes) = promise_of number node ∷ promises_from (suc number) nodes

pub promises_more : (n m : ℕ) (nodes : List (List Acceptor)) (node : List Acceptor) → m ≡ n + length nodes
    → promises_from n (nodes ++ node ∷ []) ≡ promises_from n nodes ++ promise_of m node ∷ []
promises_more n m [] node e = ap (λ k. promise_of k node ∷ []) (let f : n ≡ m = omega arith in f)
promises_more n m (x ∷ xs) node e = ap (λ w. promise_of n x ∷ w) (promises_more (suc n) m xs node (omega arith))

pub promises_long : (n : ℕ) (nodes : List (List Acceptor)) → length (promises_from n nodes) ≡ length nodes
promises_long n [] = refl
promises_long n (x ∷ xs) = ap (λ k. suc k) (promises_long (suc n) xs)

-- a later number is none of theirs
pub not_yet : (n m : ℕ) (nodes : List (List Acceptor)) → n + length nodes ≤ m → has_promised (promises_from n nodes) m ≡ false
not_yet n m [] l = refl
not_yet n m (x ∷ xs) l =
    or_from (n == m) (has_promised (promises_from (suc n) xs) m) other (not_yet (suc n) m xs (omega arith))
  where
    other : (n == m) ≡ false
    other = grind (arith, nat_tests)

best_has : (logs : List bytes.Log) (s : ℕ) (p : Promise) (ps : List Promise) → p.logs ≡ logs → All (λ (q : Promise). q.logs ≡ logs) ps
    → (best_of (is_better s) p ps).logs ≡ logs
best_has logs s p [] e h = e
best_has logs s p (q ∷ qs) e h = best_has logs s (cond (is_better s q p) q p) qs (chosen (cases_Bool (is_better s q p))) (λ k d l. h (suc k) d (omega arith))
  where
    chosen : (is_better s q p ≡ true) ⊎ (is_better s q p ≡ false) → (cond (is_better s q p) q p).logs ≡ logs
    chosen c = elim c [ inl t ↦ rw t (h 0 q (omega arith)) | inr t ↦ rw t e ]

upto : (logs : List bytes.Log) (p : Promise) (ps : List Promise) → p.logs ≡ logs → All (λ (q : Promise). q.logs ≡ logs) ps
    → (k : ℕ) → k ≤ length logs → recovered_logs (p ∷ ps) k ≡ take k logs
upto logs p ps e h zero l = refl
upto logs p ps e h (suc k) l =
    let one : recovered (p ∷ ps) (suc k) ≡ get_or logs k [] = at (suc k) k (omega arith) in
    let more : take (suc k) logs ≡ take k logs ++ get_or logs k [] ∷ [] = (let n : suc k ≡ k + 1 = omega arith in ap (λ j. take j logs) n ∙ take_more logs k [] (omega arith)) in
    ap (λ w. w ++ recovered (p ∷ ps) (suc k) ∷ []) (upto logs p ps e h k (omega arith)) ∙ (ap (λ w. take k logs ++ w ∷ []) one ∙ sym more)
  where
    at : (s j : ℕ) → s - 1 ≡ j → recovered (p ∷ ps) s ≡ get_or logs j []
    at s j n = ap (λ w. get_or w (s - 1) []) (best_has logs s p ps e h) ∙ ap (λ i. get_or logs i []) n

take_all : {A : Type 0} (xs : List A) → take (length xs) xs ≡ xs
take_all [] = refl
take_all (x ∷ xs) = ap (λ w. x ∷ w) (take_all xs)

all_promise : (logs : List bytes.Log) (n : ℕ) (nodes : List (List Acceptor)) → All (HasLogs logs) nodes → All (λ (q : Promise). q.logs ≡ logs) (promises_from n nodes)
all_promise logs n [] h k d l = absurd (omega arith)
all_promise logs n (x ∷ xs) h zero d l = h 0 x (omega arith)
all_promise logs n (x ∷ xs) h (suc k) d l = all_promise logs (suc n) xs (λ j e m. h (suc j) e (omega arith)) k d (omega arith)

-- all logs are recovered as they are
pub recovered_same : (logs : List bytes.Log) (n : ℕ) (nodes : List (List Acceptor)) → All (HasLogs logs) nodes → 1 ≤ length nodes
    → recovered_logs (promises_from n nodes) (length logs) ≡ logs
recovered_same logs n [] h l = absurd (omega arith)
recovered_same logs n (x ∷ xs) h l =
    upto logs (promise_of n x) (promises_from (suc n) xs) (h 0 x (omega arith)) (all_promise logs (suc n) xs (λ j e m. h (suc j) e (omega arith))) (length logs) (omega arith)
    ∙ take_all logs

-- a node more is counted
pub counts : (epoch n streams need number : ℕ) (nodes : List (List Acceptor)) (node : List Acceptor) → number ≡ 1 + length nodes → number ≤ n
    → with_promise (record { epoch = epoch; nodes = n; streams = streams; need = need; promises = promises_from 1 nodes }) (promise_of number node)
    ≡ record { epoch = epoch; nodes = n; streams = streams; need = need; promises = promises_from 1 (nodes ++ node ∷ []) }
counts epoch n streams need number nodes node e l =
    cond-true (is_node n number && not (has_promised (promises_from 1 nodes) number)) _ _ both
    ∙ ap (with_all epoch n streams need) (sym (promises_more 1 number nodes node e))
  where
    with_all : (epoch n streams need : ℕ) → List Promise → Candidate
    with_all epoch n streams need ps = record { epoch = epoch; nodes = n; streams = streams; need = need; promises = ps }

    low : nat_le 1 number ≡ true
    low = grind (arith, nat_tests)

    high : nat_le number n ≡ true
    high = grind (arith, nat_tests)

    both : (is_node n number && not (has_promised (promises_from 1 nodes) number)) ≡ true
    both = subst (λ (t : Bool). ((t && nat_le number n) && not (has_promised (promises_from 1 nodes) number)) ≡ true) (sym low)
        (subst (λ (t : Bool). (t && not (has_promised (promises_from 1 nodes) number)) ≡ true) (sym high)
        (ap not (not_yet 1 number nodes (omega arith))))

-- as it is told
pub counted : (epoch n streams need number : ℕ) (nodes : List (List Acceptor)) (node : List Acceptor) (cand cand' : Candidate) (ballots : List ℕ) (logs : List bytes.Log)
    → cand ≡ record { epoch = epoch; nodes = n; streams = streams; need = need; promises = promises_from 1 nodes }
    → ballots ≡ map (λ a. kept_ballot a 1) node → logs ≡ map (λ a. kept_log a 1) node
    → cand' ≡ with_promise cand (record { node = number; ballots = ballots; logs = logs }) → number ≡ 1 + length nodes → number ≤ n
    → cand' ≡ record { epoch = epoch; nodes = n; streams = streams; need = need; promises = promises_from 1 (nodes ++ node ∷ []) }
counted epoch n streams need number nodes node cand cand' ballots logs is eb el told e l =
    told
    ∙ (ap (λ c. with_promise c (made ballots logs)) is
    ∙ (ap (λ b. with_promise before (made b logs)) eb
    ∙ (ap (λ x. with_promise before (made (map (λ a. kept_ballot a 1) node) x)) el
    ∙ counts epoch n streams need number nodes node e l)))
  where
    made : List ℕ → List bytes.Log → Promise
    made b x = record { node = number; ballots = b; logs = x }

    before : Candidate
    before = record { epoch = epoch; nodes = n; streams = streams; need = need; promises = promises_from 1 nodes }
