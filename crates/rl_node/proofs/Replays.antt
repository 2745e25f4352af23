-- A replica that plays a stream entry by entry, and its node.
use Rattle.std.proofs.Common.{◌≡◌, ◌≢◌, ℕ, zero, suc, ◌+◌, ◌-◌, ◌*◌, ◌^◌, ◌<◌, ◌≤◌, List, [], ◌∷◌, length, take, drop, get_or, Bool, true, not, Option, Some, None, All, option_to_list, Ok, refl, sym, ap, ◌∙◌, subst, arith, inl, inr, get_or-set_same}
use Rattle.std.specs.Prelude.{slice_index, slice_set}
use Rattle.std.specs.List.{list_all}
use Rattle.std.proofs.lemmas.Bool.{cases_eq}
use Rattle.std.proofs.lemmas.List.{length-take-le, take-append-drop}
use Rattle.std.proofs.lemmas.Option.{slice_get_within}
use Rattle.rl_base.specs.declared.bound.Bound.{Bound}
use Rattle.rl_base.proofs.Members.{In, all_in, in_filter}
use Rattle.rl_base.proofs.Tests.{both}
use Rattle.rl_families.specs.Families.{watermark}
use Rattle.rl_families.specs.Logs.{items_along}
use Rattle.rl_families.specs.Streams.{log_at}
use Rattle.rl_replay.specs.Entries.{Entry, entries}
use Rattle.rl_replay.specs.Replay.{Replaying, next_entry, play_answer, item_in, items_added, is_overwritten, writes_made, after_answer, HasFailed}
use Rattle.rl_replay.specs.Standing.{StandingReplica, BeginsWithPlayed}
use Rattle.rl_replay.specs.declared.played.Played.{Played}
use Rattle.rl_replay.specs.declared.played.Played.TheVariants.{Applied, Passed, Above, Empty}
use Rattle.rl_replay.proofs.Answering.{still}
use Rattle.rl_replay.proofs.Numbered.{in_at, log_entry}
use Rattle.rl_txn.specs.Fits.{WriteFits, ItemWritesFit}
use Rattle.rl_txn.specs.Laws.{RowsGoOnFitting}
use Rattle.rl_txn.specs.Serial.{after_writes}
use Rattle.rl_txn.specs.declared.batch.Batch.{Batch}
use Rattle.rl_txn.specs.declared.item.Item.{Item}
use Rattle.rl_txn.specs.declared.write.End.TheVariants.{Done}
use Rattle.rl_txn.specs.declared.write.Write.{Write}
use Rattle.rl_value.specs.Fits.{RowsFit}
use Rattle.rl_value.specs.Rows.{Rows}
use Rattle.rl_value.specs.Tables.{Table}
use Rattle.rl_paxos.specs.Acceptors.{Acceptor, kept_ballot, kept_log}
use Rattle.rl_paxos.specs.Logs as bytes
use Rattle.rl_nodes.specs.Answers.{quiet}
use Rattle.rl_nodes.specs.BadMessages.{write_fits}
use Rattle.rl_nodes.specs.Batches.{batches_of}
use Rattle.rl_nodes.specs.Calls.{Standing, played_len}
use Rattle.rl_nodes.specs.Nodes.{NodeState, known_family}
use Rattle.rl_nodes.specs.Setups.{Setup, SetupFits}
use Rattle.rl_nodes.specs.declared.node_error.NodeError.TheVariants.{Memory}
use Rattle.rl_nodes.proofs.Telling.{tests_tell}
use Rattle.rl_nodes.specs.Views.{next_bound, played, plays}
use Rattle.rl_node.specs.Fits.{IsStream, AcceptorFits, IsFront, RunningFits}
use Rattle.rl_node.specs.Inner.{well, HasNot}
use Rattle.rl_node.specs.Replaying.{next_played, count_of, is_played, StaysOf, HasMoved, HasStopped, HasPlayedNext, HasPlayedSome}
use Rattle.rl_node.specs.Standing.{StandsPart, StandsUp, StandsIn, Stands, IsNode, up_with}
use Rattle.rl_node.specs.declared.node.Node.{Node}
use Rattle.rl_node.specs.declared.node.Phase.TheVariants.{Up}
use Rattle.rl_node.specs.declared.running.Running.{Running}
use Rattle.rl_node.proofs.Entries.{entries_few}
use Rattle.rl_node.proofs.Keeps.{all_from}
use Rattle.rl_node.proofs.Logs.{IsRight, is_right, right_front, items_of}
use Rattle.rl_node.proofs.Shown.{family_is}

-- ---- rows that fit ----

in_take : {X : Type 0} (n : ℕ) (xs : List X) (x : X) → In x (take n xs) → In x xs
in_take zero xs x i = absurd i
in_take (suc n) [] x i = absurd i
in_take (suc n) (y ∷ ys) x i = elim i [ inl e ↦ inl e | inr j ↦ inr (in_take n ys x j) ]

-- the writes of one item
abbrev alone : List Write → Item
alone writes = record { stamp = record { epoch = 0; seq = 0 }; worker = 0; index = 0; reply = record { outs = []; end = Done }; writes = writes }

writes_on : (law : RowsGoOnFitting) (tables : List Table) (rows : Rows) (writes : List Write) → RowsFit tables rows
    → ((w : Write) → In w writes → WriteFits tables w) → RowsFit tables (after_writes rows writes)
writes_on law tables rows writes fit each = law tables rows (alone writes ∷ []) fit one
  where
    one : (k : ℕ) (d : Item) → k < 1 → ItemWritesFit tables (get_or (alone writes ∷ []) k d)
    one zero d less = all_from (WriteFits tables) writes each
    one (suc k) d less = absurd (omega (arith, less))

-- what an entry of a log writes fits where the items of the log do
module _ (tables : List Table) (log : List Batch) (fit : All (ItemWritesFit tables) (items_along log)) where
  item_writes : (o : Option Entry) → ((e : Entry) → o ≡ Some e → In e (entries log)) → (applied : List Item) (w : Write)
      → In w (writes_made applied (option_to_list (item_in o))) → WriteFits tables w
  item_writes None there applied w i = absurd i
  item_writes (Some e) there applied w i = by_item e.item refl i
    where
      by_item : (o : Option Item) → e.item ≡ o → In w (writes_made applied (option_to_list o)) → WriteFits tables w
      by_item None is i = absurd i
      by_item (Some x) is i =
          let found = log_entry log e (there e refl) x is in
          all_in (WriteFits tables) x.writes (all_in (ItemWritesFit tables) (items_along log) fit x found.1) w
          (in_filter (λ (v : Write). not (is_overwritten applied x.stamp (v.table, v.key))) w x.writes i).0

  pub made_fit : (p : Played) (o : Option Entry) → ((e : Entry) → o ≡ Some e → In e (entries log)) → (applied : List Item) (w : Write)
      → In w (writes_made applied (items_added p o)) → WriteFits tables w
  made_fit (Applied s) o there applied w i = item_writes o there applied w i
  made_fit (Passed s) o there applied w i = absurd i
  made_fit (Above s m) o there applied w i = absurd i
  made_fit Empty o there applied w i = absurd i

-- ---- one entry ----

pub take_all : {X : Type 0} (xs : List X) → take (length xs) xs ≡ xs
take_all [] = refl
take_all (x ∷ xs) = ap (λ ys. x ∷ ys) (take_all xs)

-- it stands in each log where it does in that of the stream that it plays
pub begins_all : (family : List (List Batch)) (s : ℕ) (old new : StandingReplica) (log : List Batch) → log ≡ log_at family s → BeginsWithPlayed new s log
    → ((t : ℕ) (other : List Batch) → t ≢ s → 1 ≤ t → BeginsWithPlayed old t other → BeginsWithPlayed new t other)
    → (t : ℕ) → 1 ≤ t → BeginsWithPlayed old t (log_at family t) → BeginsWithPlayed new t (log_at family t)
begins_all family s old new log e here others t low h = elim (cases_eq t s) [
  | inl same ↦ subst (λ u. BeginsWithPlayed new u (log_at family u)) (sym same) (subst (BeginsWithPlayed new s) e here)
  | inr other ↦ others t (log_at family t) other low h
]

module _ (law : RowsGoOnFitting) (family : List (List Batch)) (s : ℕ) (old new : StandingReplica) (p : Played)
    (streams : length new.replaying.played ≡ length old.replaying.played)
    (begins : (t : ℕ) → 1 ≤ t → BeginsWithPlayed old t (log_at family t) → BeginsWithPlayed new t (log_at family t)) where
  abbrev next : Option Entry
  next = next_entry old.replaying s (log_at family s)

  there : (e : Entry) → next_entry old.replaying s (log_at family s) ≡ Some e → In e (entries (log_at family s))
  there e is = in_at (entries (log_at family s)) (slice_index old.replaying.played (s - 1)) e is

  -- whatever the answer
  pub stays_played : new.replaying ≡ after_answer old.replaying s (next_entry old.replaying s (log_at family s)) p → StaysOf family s old new
  stays_played state = record {
    streams = streams;
    begins = begins;
    rows = λ tables fit rows. subst (RowsFit tables) (sym (ap (λ (r : Replaying). r.rows) state))
        (writes_on law tables old.replaying.rows (writes_made old.replaying.applied (items_added p (next_entry old.replaying s (log_at family s)))) rows
        (made_fit tables (log_at family s) fit p (next_entry old.replaying s (log_at family s)) there old.replaying.applied));
  }

  -- and out of memory
  pub stays_failed : HasFailed p (next_entry old.replaying s (log_at family s)) old.replaying new.replaying → StaysOf family s old new
  stays_failed f = record {
    streams = streams;
    begins = begins;
    rows = λ tables fit rows.
        let writes = writes_made old.replaying.applied (items_added p (next_entry old.replaying s (log_at family s))) in
        subst (RowsFit tables) (sym f.prefix.1)
        (writes_on law tables old.replaying.rows (take f.prefix.0 writes) rows (λ w i.
        made_fit tables (log_at family s) fit p (next_entry old.replaying s (log_at family s)) there old.replaying.applied w (in_take f.prefix.0 writes w i)));
  }

module _ (family : List (List Batch)) (s : ℕ) (old new : StandingReplica) (inside : s - 1 < length old.replaying.played)
    (stays : StaysOf family s old new) where
  abbrev r : Replaying
  r = old.replaying

  abbrev due : Played
  due = play_answer (next_entry old.replaying s (log_at family s)) (next_bound family old.replaying s) (watermark family).1

  not_empty : (o : Option Entry) (b : Bound) (w : ℕ) → is_played (play_answer o b w) ≡ true → (e : Entry) × (o ≡ Some e)
  not_empty None b w h = absurd (cc)
  not_empty (Some e) b w h = (e, refl)

  within : is_played (play_answer (next_entry old.replaying s (log_at family s)) (next_bound family old.replaying s) (watermark family).1) ≡ true
      → count_of old.replaying s < length (entries (log_at family s))
  within h =
      let e = not_empty (next_entry old.replaying s (log_at family s)) (next_bound family old.replaying s) (watermark family).1 h in
      slice_get_within (entries (log_at family s)) (slice_index old.replaying.played (s - 1)) e.0 e.1

  moved : new.replaying ≡ next_played family old.replaying s
      → new.replaying.played ≡ slice_set old.replaying.played (s - 1) (slice_index old.replaying.played (s - 1) + 1)
      → is_played (play_answer (next_entry old.replaying s (log_at family s)) (next_bound family old.replaying s) (watermark family).1) ≡ true
      → HasMoved family s old new
  moved state count h = record {
    stays = stays;
    replaying = state;
    count = ap (λ xs. slice_index xs (s - 1)) count ∙ get_or-set_same old.replaying.played (s - 1) (slice_index old.replaying.played (s - 1) + 1) 0 inside;
    there = within h;
  }

  stopped : new.replaying ≡ next_played family old.replaying s → next_played family old.replaying s ≡ old.replaying → HasStopped family s old new
  stopped state same = record { stays = stays; replaying = state ∙ same; stopped = same }

  -- by the answer
  by_answer : (p : Played) → p ≡ play_answer (next_entry old.replaying s (log_at family s)) (next_bound family old.replaying s) (watermark family).1
      → new.replaying ≡ after_answer old.replaying s (next_entry old.replaying s (log_at family s)) p → HasPlayedNext family s old new (is_played p)
  by_answer (Applied t) is state =
      moved (state ∙ ap (after_answer old.replaying s (next_entry old.replaying s (log_at family s))) is) (ap (λ (q : Replaying). q.played) state) (sym (ap is_played is))
  by_answer (Passed t) is state =
      moved (state ∙ ap (after_answer old.replaying s (next_entry old.replaying s (log_at family s))) is) (ap (λ (q : Replaying). q.played) state) (sym (ap is_played is))
  by_answer (Above t m) is state =
      stopped (state ∙ ap (after_answer old.replaying s (next_entry old.replaying s (log_at family s))) is)
      (sym (ap (after_answer old.replaying s (next_entry old.replaying s (log_at family s))) is) ∙ sym (still old.replaying s))
  by_answer Empty is state =
      stopped (state ∙ ap (after_answer old.replaying s (next_entry old.replaying s (log_at family s))) is)
      (sym (ap (after_answer old.replaying s (next_entry old.replaying s (log_at family s))) is) ∙ sym (still old.replaying s))

  -- as it is played
  pub played_next : (bound : Bound) (mark : ℕ) (p : Played) → bound ≡ next_bound family old.replaying s → mark ≡ (watermark family).1
      → p ≡ play_answer (next_entry old.replaying s (log_at family s)) bound mark
      → new.replaying ≡ after_answer old.replaying s (next_entry old.replaying s (log_at family s)) p → HasPlayedNext family s old new (is_played p)
  played_next bound mark p b m is state =
      by_answer p (is ∙ (λ i. play_answer (next_entry old.replaying s (log_at family s)) (b i) (m i))) state

-- ---- some entries ----

module _ (family : List (List Batch)) (s : ℕ) where
  played_more : (r : Replaying) (n : ℕ) → played family r s (suc n) ≡ next_played family (played family r s n) s
  played_more r zero = refl
  played_more r (suc n) = played_more (next_played family r s) n

  -- one that stays plays no more
  played_still : (r : Replaying) (n : ℕ) → next_played family r s ≡ r → played family r s n ≡ r
  played_still r zero e = refl
  played_still r (suc n) e = ap (λ q. played family q s n) e ∙ played_still r n e

  played_on : (r : Replaying) (n m total : ℕ) → total ≡ n + m → played family r s total ≡ played family (played family r s n) s m
  played_on r zero m total e = let same : total ≡ m = omega (arith, e) in ap (played family r s) same
  played_on r (suc n) m zero e = absurd (omega (arith, e))
  played_on r (suc n) m (suc total) e = played_on (next_played family r s) n m total (omega (arith, e))

  -- so many are all
  pub played_all : (r : Replaying) (n total : ℕ) → n ≤ total → next_played family (played family r s n) s ≡ played family r s n
      → played family r s total ≡ played family r s n
  played_all r n total less e =
      played_on r n (total - n) total (omega (arith, less)) ∙ played_still (played family r s n) (total - n) e

  -- ---- as a replica plays on ----

  pub stays_same : (x : StandingReplica) → StaysOf family s x x
  stays_same x = record { streams = refl; begins = λ t low h. h; rows = λ tables fit h. h }

  pub stays_on : (x y z : StandingReplica) → StaysOf family s x y → StaysOf family s y z → StaysOf family s x z
  stays_on x y z p q = record {
    streams = q.streams ∙ p.streams;
    begins = λ t low h. q.begins t low (p.begins t low h);
    rows = λ tables fit h. q.rows tables fit (p.rows tables fit h);
  }

  pub none_played : (x : StandingReplica) → HasPlayedSome family s x x 0
  none_played x = record { stays = stays_same x; replaying = refl; count = omega arith; within = omega arith }

  pub one_played : (x y z : StandingReplica) (n : ℕ) → HasPlayedSome family s x y n → HasMoved family s y z → HasPlayedSome family s x z (n + 1)
  one_played x y z n p m = record {
    stays = stays_on x y z p.stays m.stays;
    replaying = m.replaying ∙ ap (λ r. next_played family r s) p.replaying ∙ sym (played_more x.replaying n) ∙ ap (played family x.replaying s) (let same : suc n ≡ n + 1 = omega arith in same);
    count = let a = p.count in let b = m.count in omega (arith, a, b);
    within = let a = p.count in let b = m.there in omega (arith, a, b);
  }

  pub stopped_played : (x y z : StandingReplica) (n : ℕ) → HasPlayedSome family s x y n → HasStopped family s y z → HasPlayedSome family s x z n
  stopped_played x y z n p h = record {
    stays = stays_on x y z p.stays h.stays;
    replaying = h.replaying ∙ p.replaying;
    count = ap (λ (r : Replaying). count_of r s) h.replaying ∙ p.count;
    within = p.within;
  }

  pub stopped_now : (y z : StandingReplica) → HasStopped family s y z → HasStopped family s z z
  stopped_now y z h = record {
    stays = stays_same z;
    replaying = refl;
    stopped = subst (λ r. next_played family r s ≡ r) (sym h.replaying) h.stopped;
  }

-- ---- the node ----

all_tests : {X : Type 0} (f : X → Bool) (xs : List X) → list_all f xs ≡ true → (x : X) → In x xs → f x ≡ true
all_tests f [] h x i = absurd i
all_tests f (y ∷ ys) h x i =
    let parts = both (f y) (list_all f ys) h in
    elim i [ inl e ↦ subst (λ z. f z ≡ true) (sym e) parts.0 | inr j ↦ all_tests f ys parts.1 x j ]

-- what is known of a stream is a front of what its acceptor keeps
module _ (setup : Setup) (acceptor : Acceptor) (kept : AcceptorFits setup acceptor) (r : Running) (fits : RunningFits setup acceptor r) (t : ℕ) (there : IsStream setup t) where
  abbrev front : bytes.Log
  front = take (length (log_at r.known t)) (kept_log acceptor t)

  front_right : IsRight setup.program.tables t (kept_ballot acceptor t) (take (length (log_at r.known t)) (kept_log acceptor t))
  front_right =
      let k = length (log_at r.known t) in
      right_front setup.program.tables t (kept_ballot acceptor t) (take k (kept_log acceptor t)) (drop k (kept_log acceptor t))
      (subst (IsRight setup.program.tables t (kept_ballot acceptor t)) (sym (take-append-drop k (kept_log acceptor t)))
      (is_right setup.program.tables t (kept_ballot acceptor t) (kept_log acceptor t) (kept.each t there).log.right))

  -- its items fit the tables
  pub items_fit : All (ItemWritesFit setup.program.tables) (items_along (log_at r.known t))
  items_fit = subst (λ log. All (ItemWritesFit setup.program.tables) (items_along log)) (sym (fits.known t there).is)
      (all_from (ItemWritesFit setup.program.tables) (items_of (take (length (log_at r.known t)) (kept_log acceptor t))) (λ x i.
      all_from (WriteFits setup.program.tables) x.writes (λ w j.
      (tests_tell.fits setup.program.tables w).0 (all_tests (write_fits setup.program.tables) x.writes (front_right.fits x i) w j))))

  -- and it has few entries
  pub entries_short : length (entries (log_at r.known t)) < 2 ^ 32
  entries_short =
      let few = entries_few (take (length (log_at r.known t)) (kept_log acceptor t)) in
      let less = length-take-le (length (log_at r.known t)) (kept_log acceptor t) (fits.known t there).within in
      let slots = (kept.each t there).log.in_range.few in
      let within = (fits.known t there).within in
      subst (λ log. length (entries log) < 2 ^ 32) (sym (fits.known t there).is)
      (bounded (length (entries (batches_of (take (length (log_at r.known t)) (kept_log acceptor t))))) (length (take (length (log_at r.known t)) (kept_log acceptor t))) few
      (omega (arith, less, slots, within)))
    where
      bounded : (n m : ℕ) → n ≤ 64 * m → m ≤ 4096 → n < 2 ^ 32
      bounded n m p q = omega (arith, p, q)

  -- a replica that stays one of what is known
  pub replica_fits : (r' : Running) → r' ≡ record r { replica = r'.replica } → StaysOf r.known t r.replica r'.replica → RunningFits setup acceptor r'
  replica_fits r' same stays = record {
    known_streams = ap length known_same ∙ fits.known_streams;
    known = subst (λ family. (s : ℕ) → IsStream setup s → IsFront (kept_log acceptor s) (log_at family s)) (sym known_same) fits.known;
    played_streams = stays.streams ∙ fits.played_streams;
    begins = subst (λ family. (s : ℕ) → IsStream setup s → BeginsWithPlayed r'.replica s (log_at family s)) (sym known_same)
        (λ s is. stays.begins s is.0 (fits.begins s is));
    rows = λ h. stays.rows setup.program.tables items_fit (fits.rows h);
  }
    where
      known_same : r'.known ≡ r.known
      known_same = ap (λ (z : Running). z.known) same

module _ (setup : Setup) (a : ℕ) (n : Node) (x : NodeState) (s : Stands setup a n (well x)) (r : Running) (up : n.phase ≡ Up r) (t : ℕ) (there : IsStream setup t) where
  up_is : StandsUp setup n.acceptor r (well x)
  up_is = subst (λ p. StandsIn setup n.acceptor p (well x)) up s.phase

  -- the node with another replica
  module _ (r' : Running) (same : r' ≡ record r { replica = r'.replica }) (stays : StaysOf r.known t r.replica r'.replica) where
    replica_stands : Stands setup a (record n { phase = Up r' }) (well (record x { replica = r'.replica.replaying }))
    replica_stands = record {
      number = s.number;
      first = s.first;
      last = s.last;
      acceptor = s.acceptor;
      phase = record {
        fits = replica_fits setup n.acceptor s.acceptor r up_is.fits t there r' same stays;
        part = up_is.part;
        stands = subst (λ (z : Running). StandsPart setup z.part up_is.part) (sym same) up_is.stands;
        is = ap (λ (y : Standing). record y { node = record y.node { replica = r'.replica.replaying } }) up_is.is
            ∙ ap (λ (z : Running). up_with n.acceptor z up_is.part) (sym same);
      };
    }

    -- memory ran out
    pub play_fails : HasNot setup a n (record n { phase = Up r' }) x (Ok (quiet (plays setup x t))) Memory
    play_fails = record {
      node = record x { replica = r'.replica.replaying };
      stands = replica_stands;
      up = refl;
      keeps = inl refl;
      reason = tt;
    }

    family_same : known_family setup x ≡ r.known
    family_same = ap (λ (y : Standing). known_family setup y.node) up_is.is ∙ family_is setup n.acceptor r up_is.fits up_is.part

    replica_same : x.replica ≡ r.replica.replaying
    replica_same = ap (λ (y : Standing). y.node.replica) up_is.is

    module _ (count : ℕ) (some : HasPlayedSome r.known t r.replica r'.replica count) (stop : HasStopped r.known t r'.replica r'.replica) where
      all : played r.known r.replica.replaying t (length (entries (log_at r.known t))) ≡ r'.replica.replaying
      all = played_all r.known t r.replica.replaying count (length (entries (log_at r.known t))) some.within
          (subst (λ q. next_played r.known q t ≡ q) some.replaying stop.stopped) ∙ sym some.replaying

      plays_is : plays setup x t ≡ record x { replica = r'.replica.replaying }
      plays_is =
          ap (λ family. record x { replica = played family x.replica t (length (entries (log_at family t))) }) family_same
          ∙ ap (λ q. record x { replica = played r.known q t (length (entries (log_at r.known t))) }) replica_same
          ∙ ap (λ q. record x { replica = q }) all

      -- it has played
      pub play_stands : Stands setup a (record n { phase = Up r' }) (well (plays setup x t))
      play_stands = subst (λ y. Stands setup a (record n { phase = Up r' }) (well y)) (sym plays_is) replica_stands

      pub play_count : played_len x t + count ≡ played_len (plays setup x t) t
      play_count = ap (λ (q : Replaying). count_of q t + count) replica_same ∙ sym some.count ∙ sym (ap (λ (y : NodeState). played_len y t) plays_is)

-- the rows of a node that is up
pub rows_of : (setup : Setup) (a : ℕ) (n : Node) (x : Standing) → Stands setup a n x → SetupFits setup → (r : Running) → n.phase ≡ Up r
    → (rows : Rows) → rows ≡ r.replica.replaying.rows → RowsFit setup.program.tables rows
rows_of setup a n x s f r up rows e =
    let here : StandsUp setup n.acceptor r x = subst (λ p. StandsIn setup n.acceptor p x) up s.phase in
    subst (RowsFit setup.program.tables) (sym e) (here.fits.rows f.rows_fit)

-- what it knows has few entries
pub entries_of_known : (setup : Setup) (n : Node) → IsNode setup n → (r : Running) → n.phase ≡ Up r → (t : ℕ) → IsStream setup t
    → length (entries (log_at r.known t)) < 2 ^ 32
entries_of_known setup n node r up t there =
    let s : Stands setup node.0 n node.1 = node.2 in
    let here : StandsUp setup n.acceptor r node.1 = subst (λ p. StandsIn setup n.acceptor p node.1) up s.phase in
    entries_short setup n.acceptor s.acceptor r here.fits t there
