-- What makes a message bad, as a node tests it.
use Rattle.std.proofs.Common.{◌≡◌, ℕ, zero, suc, ◌+◌, ◌-◌, ◌<◌, List, [], ◌∷◌, ◌++◌, length, take, drop, Bool, true, false, not, ◌&&◌, ◌||◌, ◌==◌, Option, Some, None, IfSome, refl, sym, ap, ◌∙◌, subst, arith, append-nil}
use Rattle.std.specs.Prelude.{slice_get}
use Rattle.std.specs.List.{list_any}
use Rattle.std.specs.Option.{option_map_or}
use Rattle.std.specs.Str.{bytes_eq}
use Rattle.std.proofs.lemmas.List.{take_all}
use Rattle.std.proofs.lemmas.Option.{slice_get_within}
use Rattle.rl_base.specs.declared.stamp.Stamp.{Stamp}
use Rattle.rl_base.proofs.Tests.{neither, or_false}
use Rattle.rl_batch.specs.Ranges.{BatchInRange}
use Rattle.rl_families.specs.Logs.{stamps_in_batch, stamps_along, last_stamp}
use Rattle.rl_families.proofs.Logs.{stamps_along-append}
use Rattle.rl_msg.specs.declared.msg.Msg.{Msg}
use Rattle.rl_msg.specs.Parts.{head_of}
use Rattle.rl_paxos.specs.Logs as bytes
use Rattle.rl_paxos.specs.Quorums.{is_node}
use Rattle.rl_txn.specs.declared.batch.Batch.{Batch}
use Rattle.rl_txn.specs.declared.batch.Batch.TheVariants.{Items, Idle, Opened}
use Rattle.rl_nodes.specs.BadMessages.{Carried, carried, carried_from, stream_named, begins, is_astray, is_usurped, is_partial, is_wrong, is_untrue, is_bad}
use Rattle.rl_nodes.specs.Batches.{batch_of, batches_of}
use Rattle.rl_nodes.proofs.ChangesInStreams.{by_node}
use Rattle.rl_nodes.specs.Nodes.{NodeState}
use Rattle.rl_nodes.specs.Setups.{Setup}
use Rattle.rl_node.specs.Fits.{IsStream}
use Rattle.rl_node.specs.Named.{HasNamed, HasPartStream}
use Rattle.rl_node.specs.Standing.{StandsIn, StandsUp}
use Rattle.rl_node.specs.Wrong.{last_from}
use Rattle.rl_node.specs.declared.node.Node.{Node}
use Rattle.rl_node.specs.declared.node.Phase.TheVariants as phase
use Rattle.rl_node.specs.declared.running.Running.{Running}
use Rattle.rl_node.proofs.Good.{not_false}
use Rattle.rl_node.proofs.Streams.{batches_of-more, taken_more}

-- ---- the logs of a Promise ----

-- from one of its streams on
carried_at : (i : ℕ) (ballots : List ℕ) (logs : List bytes.Log) (s ballot : ℕ) (log : bytes.Log)
    → slice_get ballots i ≡ Some ballot → slice_get logs i ≡ Some log
    → carried_from s (drop i ballots) (drop i logs)
    ≡ record { stream = s; epoch = ballot; log = log } ∷ carried_from (suc s) (drop (suc i) ballots) (drop (suc i) logs)
carried_at zero [] logs s ballot log b l = absurd (cc)
carried_at zero (x ∷ xs) [] s ballot log b l = absurd (cc)
carried_at zero (x ∷ xs) (y ∷ ys) s ballot log b l =
    let first : x ≡ ballot = cc in
    let second : y ≡ log = cc in
    ap (λ (e : ℕ). carried_as s e y ∷ carried_from (suc s) xs ys) first ∙ ap (λ (z : bytes.Log). carried_as s ballot z ∷ carried_from (suc s) xs ys) second
  where
    carried_as : (s e : ℕ) → bytes.Log → Carried
    carried_as s e z = record { stream = s; epoch = e; log = z }
carried_at (suc i) [] logs s ballot log b l = absurd (cc)
carried_at (suc i) (x ∷ xs) [] s ballot log b l = absurd (cc)
carried_at (suc i) (x ∷ xs) (y ∷ ys) s ballot log b l = carried_at i xs ys s ballot log b l

-- one of them is wrong if that is, or one behind it
pub wrong_at : (f : Carried → Bool) (i j s t : ℕ) (ballots : List ℕ) (logs : List bytes.Log) (ballot : ℕ) (log : bytes.Log)
    → slice_get ballots i ≡ Some ballot → slice_get logs i ≡ Some log → j ≡ suc i → t ≡ suc s
    → list_any f (carried_from s (drop i ballots) (drop i logs))
    ≡ (f (record { stream = s; epoch = ballot; log = log }) || list_any f (carried_from t (drop j ballots) (drop j logs)))
wrong_at f i j s t ballots logs ballot log b l next more =
    let here = f (record { stream = s; epoch = ballot; log = log }) in
    ap (list_any f) (carried_at i ballots logs s ballot log b l)
    ∙ ap (λ k. here || list_any f (carried_from k (drop (suc i) ballots) (drop (suc i) logs))) (sym more)
    ∙ ap (λ k. here || list_any f (carried_from t (drop k ballots) (drop k logs))) (sym next)

-- ---- logs of which one begins the other ----

-- a longer log does not begin a shorter one
pub longer_begins_none : (front log : bytes.Log) → length log < length front → begins front log ≡ false
longer_begins_none [] log l = absurd (omega arith)
longer_begins_none (x ∷ xs) [] l = refl
longer_begins_none (x ∷ xs) (y ∷ ys) l = ap (λ b. bytes_eq x y && b) (longer_begins_none xs ys (omega arith)) ∙ none (bytes_eq x y)
  where
    none : (b : Bool) → (b && false) ≡ false
    none true = refl
    none false = refl

-- ---- the last stamp of a log, and the first of a batch ----

last_is_from : (ss : List Stamp) → last_stamp ss ≡ last_from None ss
last_is_from [] = refl
last_is_from (s ∷ []) = refl
last_is_from (s ∷ (t ∷ ss)) = last_is_from (t ∷ ss)

last_append : (ss ts : List Stamp) → last_stamp (ss ++ ts) ≡ last_from (last_stamp ss) ts
last_append [] ts = last_is_from ts
last_append (s ∷ []) ts = last_is_from (s ∷ ts)
last_append (s ∷ (t ∷ ss)) ts = last_append (t ∷ ss) ts

last_of_some : (last : Option Stamp) (batch : Batch) → BatchInRange batch → last_from last (stamps_in_batch batch) ≡ last_from None (stamps_in_batch batch)
last_of_some last (Items []) r = absurd (omega (arith, r.some))
last_of_some last (Items (x ∷ xs)) r = refl
last_of_some last (Idle t) r = refl
last_of_some last (Opened t) r = refl

-- a list ends with the last of its elements
pub ends_with : {X : Type 0} (xs : List X) (x : X) → slice_get xs (length xs - 1) ≡ Some x → xs ≡ take (length xs - 1) xs ++ x ∷ []
ends_with xs x is =
    let within : length xs - 1 < length xs = slice_get_within xs (length xs - 1) x is in
    let all : length xs - 1 + 1 ≡ length xs = omega arith in
    sym (take_all (length xs) xs (omega arith)) ∙ ap (λ n. take n xs) (sym all) ∙ taken_more xs (length xs - 1) x is

-- that of the last batch, where that has one
pub last_some : (front : List Batch) (batch : Batch) (o : Option Stamp) → o ≡ last_from None (stamps_in_batch batch)
    → IfSome o (λ t. last_stamp (stamps_along (front ++ batch ∷ [])) ≡ Some t)
last_some front batch o is =
    let before = stamps_along front in
    let along : before ++ stamps_in_batch batch ≡ stamps_along (front ++ batch ∷ []) =
    sym (stamps_along-append front (batch ∷ []) ∙ ap (λ ts. before ++ ts) (append-nil (stamps_in_batch batch))) in
    subst (λ (p : Option Stamp). IfSome p (λ t. last_stamp (stamps_along (front ++ batch ∷ [])) ≡ Some t)) (sym is)
    (subst (λ (ts : List Stamp). IfSome (last_from None (stamps_in_batch batch)) (λ t. last_stamp ts ≡ Some t)) along (of_some before (stamps_in_batch batch)))
  where
    some_from : (s : Stamp) (ss : List Stamp) → (t : Stamp) × (last_from (Some s) ss ≡ Some t)
    some_from s [] = (s, refl)
    some_from s (t ∷ ss) = some_from t ss

    of_some : (before ss : List Stamp) → IfSome (last_from None ss) (λ t. last_stamp (before ++ ss) ≡ Some t)
    of_some before [] = tt
    of_some before (s ∷ ss) =
        let k = some_from s ss in
        subst (λ (o : Option Stamp). IfSome o (λ t. last_stamp (before ++ s ∷ ss) ≡ Some t)) (sym k.1) (last_append before (s ∷ ss) ∙ k.1)

-- that of the last batch
pub last_along : (log front : bytes.Log) (b : bytes.Batch) (batch : Batch) → log ≡ front ++ b ∷ [] → batch_of b ≡ Some batch → BatchInRange batch
    → last_from None (stamps_in_batch batch) ≡ last_stamp (stamps_along (batches_of log))
last_along log front b batch is reads r =
    let before = stamps_along (batches_of front) in
    let along : stamps_along (batches_of log) ≡ before ++ stamps_in_batch batch =
    ap (λ l. stamps_along (batches_of l)) is ∙ ap stamps_along (batches_of-more front b batch reads)
    ∙ stamps_along-append (batches_of front) (batch ∷ []) ∙ ap (λ ts. before ++ ts) (append-nil (stamps_in_batch batch)) in
    sym (last_of_some (last_stamp before) batch r) ∙ sym (last_append before (stamps_in_batch batch)) ∙ sym (ap last_stamp along)

-- ---- all of it ----

-- the stream that a message names is there, where it goes astray in nothing
pub named_there : (setup : Setup) (a : ℕ) (m : Msg) → is_astray setup a m ≡ false → IfSome (stream_named m) (IsStream setup)
named_there setup a m h =
    by_name (stream_named m) (neither (not ((head_of m).to == a) || not (is_node setup.nodes (head_of m).from))
    (option_map_or (λ s. not (is_node setup.workers s)) (stream_named m) false) h).1
  where
    by_name : (o : Option ℕ) → option_map_or (λ s. not (is_node setup.workers s)) o false ≡ false → IfSome o (IsStream setup)
    by_name None h = tt
    by_name (Some s) h = by_node setup.workers s (not_false (is_node setup.workers s) h)

-- a message with which nothing else is wrong is bad where it does not go with the node
pub bad_is : (setup : Setup) (a : ℕ) (x : NodeState) (m : Msg) → is_astray setup a m ≡ false → is_usurped setup m ≡ false
    → is_partial setup m ≡ false → list_any (is_wrong setup.program.tables) (carried m) ≡ false → is_untrue x m ≡ is_bad setup a x m
bad_is setup a x m astray usurped partial wrong =
    let A = is_astray setup a m in
    let B = is_usurped setup m in
    let C = is_partial setup m in
    let D = list_any (is_wrong setup.program.tables) (carried m) in
    sym (ap (λ b. b || is_untrue x m) (or_false (A || B || C) D (or_false (A || B) C (or_false A B astray usurped) partial) wrong))

-- ---- a node that is up ----

-- a stream that a message names is one of its part
pub part_there : (n : Node) (t : ℕ) → HasNamed n (Some t) → (r : Running) → n.phase ≡ phase.Up r → HasPartStream r.part t
part_there n t h r up =
    let u : StandsUp h.setup n.acceptor r h.node.1 = subst (λ p. StandsIn h.setup n.acceptor p h.node.1) up h.node.2.phase in
    record { setup = h.setup; part = u.part; stands = u.stands; has = h.has }
