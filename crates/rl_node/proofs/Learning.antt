-- A node that takes a Known.
use Rattle.std.proofs.Common.{◌≡◌, ◌≢◌, ℕ, zero, suc, ◌-◌, ◌<◌, ◌≤◌, min, max, List, [], ◌∷◌, ◌++◌, length, map, take, drop, get_or, set, true, false, not, ◌||◌, ◌==◌, cond, is_some, Option, Some, None, Result, Ok, Err, IsErrAnd, refl, sym, ap, ◌∙◌, subst, arith, inl, inr, length-set, get_or-set_same, get_or-set_other}
use Rattle.std.specs.Prelude.{MatchResult, slice_set}
use Rattle.std.specs.List.{cons_option}
use Rattle.std.proofs.lemmas.Bool.{cases_eq}
use Rattle.std.proofs.lemmas.Bool.Decides.{nat_tests}
use Rattle.std.proofs.lemmas.List.{length-take-le, take-append-drop}
use Rattle.std.proofs.lemmas.Result.{err_from_is_err_and}
use Rattle.rl_base.specs.Lists.{IsPrefix}
use Rattle.rl_base.proofs.Tests.{both, neither}
use Rattle.rl_families.specs.Logs.{stamps_along, IsRising}
use Rattle.rl_families.specs.Streams.{log_at}
use Rattle.rl_families.proofs.Rising.{from_rises}
use Rattle.rl_msg.specs.declared.msg.Msg.TheVariants as msg
use Rattle.rl_paxos.specs.Acceptors.{Acceptor, kept_ballot, kept_log}
use Rattle.rl_paxos.specs.Logs as bytes
use Rattle.rl_paxos.specs.Quorums.{is_node}
use Rattle.rl_replay.specs.Laws.{LongerLogsBegin}
use Rattle.rl_replay.specs.Standing.{StandingReplica, BeginsWithPlayed}
use Rattle.rl_txn.specs.declared.batch.Batch.{Batch}
use Rattle.rl_value.specs.Fits.{RowsFit}
use Rattle.rl_nodes.specs.Answers.{quiet}
use Rattle.rl_nodes.specs.Batches.{batch_of, batches_of, are_batches}
use Rattle.rl_nodes.specs.Calls.{Standing}
use Rattle.rl_nodes.specs.Handles.{knows, takes}
use Rattle.rl_nodes.specs.Nodes.{NodeState, known_len}
use Rattle.rl_nodes.specs.Setups.{Setup}
use Rattle.rl_nodes.specs.declared.node_error.NodeError.{NodeError}
use Rattle.rl_nodes.specs.declared.node_error.NodeError.TheVariants.{Memory}
use Rattle.rl_nodes.proofs.ChangesInStreams.{by_node}
use Rattle.rl_node.specs.Fits.{IsStream, AcceptorFits, IsFront, RunningFits}
use Rattle.rl_node.specs.Inner.{well, HasNot, Tries}
use Rattle.rl_node.specs.Knowing.{HasFront, KnowsFront}
use Rattle.rl_node.specs.Outs.{Adds, IsSending}
use Rattle.rl_node.specs.Standing.{StandsPart, StandsUp, StandsIn, Stands, up_with}
use Rattle.rl_node.specs.declared.answer.Out.{Out}
use Rattle.rl_node.specs.declared.answer.Sent.{Sent}
use Rattle.rl_node.specs.declared.node.Node.{Node}
use Rattle.rl_node.specs.declared.node.Phase.TheVariants.{Up}
use Rattle.rl_node.specs.declared.running.Running.{Running}
use Rattle.rl_node.proofs.Good.{IsGood, not_false}
use Rattle.rl_node.proofs.Logs.{is_right, batches_of-append}
use Rattle.rl_node.proofs.Beginnings.{acceptor_is}
use Rattle.rl_node.proofs.Elections.{sends_out}
use Rattle.rl_node.proofs.Sends.{adds_none}
use Rattle.rl_node.proofs.Shown.{get_or_map}
use Rattle.rl_node.proofs.Streams.{set_self}

-- ---- as many batches as slots ----

pub batches_many : (log : bytes.Log) → are_batches log ≡ true → length (batches_of log) ≡ length log
batches_many [] h = refl
batches_many (x ∷ xs) h =
    let parts = both (is_some (batch_of x)) (are_batches xs) h in
    first (batch_of x) parts.0 ∙ ap suc (batches_many xs parts.1)
  where
    first : (o : Option Batch) → is_some o ≡ true → length (cons_option o (batches_of xs)) ≡ suc (length (batches_of xs))
    first None h = absurd (cc)
    first (Some b) h = refl

are_front : (log : bytes.Log) (n : ℕ) → are_batches log ≡ true → are_batches (take n log) ≡ true
are_front log zero h = refl
are_front [] (suc n) h = refl
are_front (x ∷ xs) (suc n) h =
    let parts = both (is_some (batch_of x)) (are_batches xs) h in
    rw parts.0 (are_front xs n parts.1)

pub front_many : (log : bytes.Log) (n : ℕ) → are_batches log ≡ true → n ≤ length log → length (batches_of (take n log)) ≡ n
front_many log n h l = batches_many (take n log) (are_front log n h) ∙ length-take-le n log l

-- the first slots, and more of them
front_begins : (log : bytes.Log) (n m : ℕ) → n ≤ m → IsPrefix (batches_of (take n log)) (batches_of (take m log))
front_begins log n m l = (
  batches_of (drop n (take m log)),
  sym (batches_of-append (take n log) (drop n (take m log)))
      ∙ ap batches_of (ap (λ xs. xs ++ drop n (take m log)) (sym (take_less log n m l)) ∙ take-append-drop n (take m log)),
)
  where
    take_less : (xs : bytes.Log) (n m : ℕ) → n ≤ m → take n (take m xs) ≡ take n xs
    take_less xs zero m l = refl
    take_less [] (suc n) zero l = absurd (omega arith)
    take_less [] (suc n) (suc m) l = refl
    take_less (x ∷ xs) (suc n) zero l = absurd (omega arith)
    take_less (x ∷ xs) (suc n) (suc m) l = ap (λ ys. x ∷ ys) (take_less xs n m (omega arith))

-- ---- an error ----

-- what holds after an error
pub on_err : {T E : Type 0} (P : T → Type 0) (Q : Type 0) (r : Result T E) (e : E) → r ≡ Err e → Q → MatchResult r P (λ _. Q)
on_err P Q (Ok x) e h q = absurd (cc)
on_err P Q (Err k) e h q = q

same_numbers : (a b : ℕ) → a ≡ b → (a == b) ≡ true
same_numbers a b e = grind (arith, nat_tests)

other_numbers : (a b : ℕ) → a ≢ b → (a == b) ≡ false
other_numbers a b e = grind (arith, nat_tests)

-- ---- what is known of a stream ----

module _ (old : Running) (s : ℕ) (log : bytes.Log) (front : IsFront log (log_at old.known s)) where
  -- nothing more
  pub knows_same : KnowsFront old old s log (length (log_at old.known s))
  knows_same = record {
    more = omega arith;
    within = front.within;
    known = sym (ap (slice_set old.known (s - 1)) (sym front.is) ∙ set_self old.known (s - 1) []);
    same = refl;
  }

  -- or some
  pub knows_more : (new : Running) (high : ℕ) → new ≡ record old { known = new.known } → high ≤ length log
      → (f : HasFront old.known new.known s log (length (log_at old.known s)) high) → KnowsFront old new s log f.len
  knows_more new high same l f = record { more = f.from_low; within = (let h = f.to_high in omega (arith, h, l)); known = f.family; same = same }

-- ---- the node ----

module _ (setup : Setup) (acceptor : Acceptor) (kept : AcceptorFits setup acceptor) (r r' : Running) (t len : ℕ) (there : IsStream setup t)
    (k : KnowsFront r r' t (kept_log acceptor t) len) (longer : LongerLogsBegin) (fits : RunningFits setup acceptor r) where
  batches : are_batches (kept_log acceptor t) ≡ true
  batches = (is_right setup.program.tables t _ (kept_log acceptor t) (kept.each t there).log.right).batches

  inside : t - 1 < length r.known
  inside = let size = fits.known_streams in omega (arith, there.0, there.1, size)

  apart : (u : ℕ) → 1 ≤ u → u ≢ t → u - 1 ≢ t - 1
  apart u low n e = n (same u t low there.0 e)
    where
      same : (u t : ℕ) → 1 ≤ u → 1 ≤ t → u - 1 ≡ t - 1 → u ≡ t
      same u t p q e = omega (arith, p, q, e)

  -- what is known of each stream
  by_stream : (P : ℕ → List Batch → Type 0) → P t (batches_of (take len (kept_log acceptor t)))
      → ((u : ℕ) → IsStream setup u → P u (log_at r.known u)) → (u : ℕ) → IsStream setup u → P u (log_at r'.known u)
  by_stream P here rest u is = subst (λ family. P u (log_at family u)) (sym k.known) (elim (cases_eq u t) [
    | inl e ↦ subst (λ v. P v (log_at (slice_set r.known (t - 1) (batches_of (take len (kept_log acceptor t)))) v)) (sym e)
        (subst (P t) (sym (get_or-set_same r.known (t - 1) (batches_of (take len (kept_log acceptor t))) [] inside)) here)
    | inr n ↦ subst (P u) (sym (get_or-set_other r.known (t - 1) (u - 1) (batches_of (take len (kept_log acceptor t))) [] (apart u is.0 n))) (rest u is)
  ])

  many : length (batches_of (take len (kept_log acceptor t))) ≡ len
  many = front_many (kept_log acceptor t) len batches k.within

  replica_same : r'.replica ≡ r.replica
  replica_same = ap (λ (z : Running). z.replica) k.same

  known_fits : RunningFits setup acceptor r'
  known_fits = record {
    known_streams = ap length k.known ∙ length-set r.known (t - 1) (batches_of (take len (kept_log acceptor t))) ∙ fits.known_streams;
    known = by_stream (λ u batches. IsFront (kept_log acceptor u) batches)
        (record { within = omega (arith, many, k.within); is = ap (λ n. batches_of (take n (kept_log acceptor t))) (sym many) }) fits.known;
    played_streams = ap (λ (z : StandingReplica). length z.replaying.played) replica_same ∙ fits.played_streams;
    begins = subst (λ (z : StandingReplica). (u : ℕ) → IsStream setup u → BeginsWithPlayed z u (log_at r'.known u)) (sym replica_same)
        (by_stream (BeginsWithPlayed r.replica)
        (longer r.replica t (log_at r.known t) (batches_of (take len (kept_log acceptor t)))
        (subst (λ batches. IsPrefix batches (batches_of (take len (kept_log acceptor t)))) (sym (fits.known t there).is)
        (front_begins (kept_log acceptor t) (length (log_at r.known t)) len k.more)) (fits.begins t there)) fits.begins);
    rows = λ h. subst (λ (z : StandingReplica). RowsFit setup.program.tables z.replaying.rows) (sym replica_same) (fits.rows h);
  }

  lens : map length r'.known ≡ slice_set (map length r.known) (t - 1) len
  lens = ap (map length) k.known ∙ map_set r.known (t - 1) (batches_of (take len (kept_log acceptor t))) ∙ ap (slice_set (map length r.known) (t - 1)) many
    where
      map_set : (xs : List (List Batch)) (i : ℕ) (x : List Batch) → map length (set xs i x) ≡ set (map length xs) i (length x)
      map_set [] i x = refl
      map_set (y ∷ ys) zero x = refl
      map_set (y ∷ ys) (suc i) x = ap (λ zs. length y ∷ zs) (map_set ys i x)

  pub knows_up : (x : NodeState) → StandsUp setup acceptor r (well x)
      → StandsUp setup acceptor r' (well (record x { known = slice_set x.known (t - 1) len }))
  knows_up x up = record {
    fits = known_fits;
    part = up.part;
    stands = subst (λ (z : Running). StandsPart setup z.part up.part) (sym k.same) up.stands;
    is = ap (λ (y : Standing). record y { node = record y.node { known = slice_set y.node.known (t - 1) len } }) up.is
        ∙ ap (λ (known : List ℕ). let y : Standing = up_with acceptor r up.part in record y { node = record y.node { known = known } }) (sym lens)
        ∙ ap (λ (z : Running). up_with acceptor z up.part) (sym k.same);
  }

-- a node that is up, some of whose known batches have changed
module _ (setup : Setup) (a : ℕ) (n : Node) (x : NodeState) (s : Stands setup a n (well x)) (r : Running) (up : n.phase ≡ Up r) where
  up_is : StandsUp setup n.acceptor r (well x)
  up_is = subst (λ p. StandsIn setup n.acceptor p (well x)) up s.phase

  pub known_lens : x.known ≡ map length r.known
  known_lens = ap (λ (y : Standing). y.node.known) up_is.is

  pub knows_stands : (r' : Running) (t len : ℕ) → IsStream setup t → KnowsFront r r' t (kept_log n.acceptor t) len → LongerLogsBegin
      → Stands setup a (record n { phase = Up r' }) (well (record x { known = slice_set x.known (t - 1) len }))
  knows_stands r' t len there k longer = record {
    number = s.number;
    first = s.first;
    last = s.last;
    acceptor = s.acceptor;
    phase = knows_up setup n.acceptor s.acceptor r r' t len there k longer up_is.fits x up_is;
  }

  known_is : (t : ℕ) → known_len x t ≡ length (log_at r.known t)
  known_is t = ap (λ ks. get_or ks (t - 1) 0) known_lens ∙ get_or_map (λ (log : List Batch). length log) r.known (t - 1) []

  module _ (from e t len : ℕ) (there : IsStream setup t) (longer : LongerLogsBegin) where
    -- so many batches
    abbrev more : ℕ
    more = max (length (log_at r.known t)) (min len (length (kept_log n.acceptor t)))

    acceptor_same : x.acceptor ≡ n.acceptor
    acceptor_same = acceptor_is setup a n (well x) s

    by_acceptor : knows x e t len ≡ cond (kept_ballot n.acceptor t == e)
        (record x { known = slice_set x.known (t - 1) (max (known_len x t) (min len (length (kept_log n.acceptor t)))) }) x
    by_acceptor = ap (λ (y : Acceptor). cond (kept_ballot y t == e)
        (record x { known = slice_set x.known (t - 1) (max (known_len x t) (min len (length (kept_log y t)))) }) x) acceptor_same

    -- it learns
    pub knows_answers : (r' : Running) (out : Out) → IsSending [] out → kept_ballot n.acceptor t ≡ e
        → KnowsFront r r' t (kept_log n.acceptor t) (max (length (log_at r.known t)) (min len (length (kept_log n.acceptor t))))
        → Tries setup a n (record n { phase = Up r' }) x (takes setup a x (msg.Known from n.id e t len)) (Ok out)
    knows_answers r' out none at k = record {
      did = quiet (knows x e t len);
      due = refl;
      stands = subst (λ y. Stands setup a (record n { phase = Up r' }) (well y)) (sym now) (knows_stands r' t more there k longer);
      hands_out = sends_out (knows x e t len) [] out none;
    }
      where
        now : knows x e t len ≡ record x { known = slice_set x.known (t - 1) (max (length (log_at r.known t)) (min len (length (kept_log n.acceptor t)))) }
        now = by_acceptor
            ∙ ap (λ b. cond b (record x { known = slice_set x.known (t - 1) (max (known_len x t) (min len (length (kept_log n.acceptor t)))) }) x) (same_numbers (kept_ballot n.acceptor t) e at)
            ∙ ap (λ k. record x { known = slice_set x.known (t - 1) (max k (min len (length (kept_log n.acceptor t)))) }) (known_is t)

    -- there is nothing to learn at another ballot
    pub knows_skips : (out : Out) → IsSending [] out → kept_ballot n.acceptor t ≢ e
        → Tries setup a n n x (takes setup a x (msg.Known from n.id e t len)) (Ok out)
    knows_skips out none other = record {
      did = quiet (knows x e t len);
      due = refl;
      stands = subst (λ y. Stands setup a n (well y)) (sym now) s;
      hands_out = sends_out (knows x e t len) [] out none;
    }
      where
        now : knows x e t len ≡ x
        now = by_acceptor
            ∙ ap (λ b. cond b (record x { known = slice_set x.known (t - 1) (max (known_len x t) (min len (length (kept_log n.acceptor t)))) }) x) (other_numbers (kept_ballot n.acceptor t) e other)

    -- or memory runs out
    pub knows_fails : (r' : Running) (some : ℕ) (result : Result Out NodeError) → IsErrAnd result (λ k. k ≡ Memory)
        → KnowsFront r r' t (kept_log n.acceptor t) some
        → Tries setup a n (record n { phase = Up r' }) x (takes setup a x (msg.Known from n.id e t len)) result
    knows_fails r' some result err k =
        let p = err_from_is_err_and result err in
        subst (Tries setup a n (record n { phase = Up r' }) x (takes setup a x (msg.Known from n.id e t len))) (sym p.1)
        (subst (λ f. HasNot setup a n (record n { phase = Up r' }) x (takes setup a x (msg.Known from n.id e t len)) f) (sym p.2) (record {
          node = record x { known = slice_set x.known (t - 1) some };
          stands = knows_stands r' t some there k longer;
          up = refl;
          keeps = inl refl;
          reason = tt;
        }))

-- nothing is sent
pub none_sent : (xs : List Sent) → xs ≡ [] → Adds [] xs []
none_sent xs e = subst (λ ys. Adds [] ys []) (sym e) (adds_none [])

-- ---- what is known of a message that is not bad ----

pub known_stream : (setup : Setup) (a from to e t len : ℕ) (x : NodeState) → IsGood setup a x (msg.Known from to e t len) → IsStream setup t
known_stream setup a from to e t len x g =
    let parts = neither (not (to == a) || not (is_node setup.nodes from)) (not (is_node setup.workers t)) g.astray in
    by_node setup.workers t (not_false (is_node setup.workers t) parts.1)

-- the stamps along a log that an acceptor keeps rise
pub kept_rises : (setup : Setup) (x : Acceptor) → AcceptorFits setup x → (t : ℕ) → IsStream setup t → (log : bytes.Log) → log ≡ kept_log x t
    → IsRising (stamps_along (batches_of log))
kept_rises setup x f t there log e =
    subst (λ z. IsRising (stamps_along (batches_of z))) (sym e)
    (from_rises (stamps_along (batches_of (kept_log x t))) (is_right setup.program.tables t (kept_ballot x t) (kept_log x t) (f.each t there).log.right).rising)
