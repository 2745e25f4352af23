-- Runs, one change of the world after another: what holds of the first world, and still after each change, holds in every run. So each
-- run is one of the streams.
use Rattle.std.proofs.Common.{◌≡◌, ℕ, List, [], ◌∷◌, replicate, Bool, true, false, not, nat_lt, if◌then◌else◌, All, Option, Some, None, Ok, Err, refl, sym, subst, inl, inr, zero, suc, ◌-◌, ◌≤◌, get_or, nat_le, ap, arith}
use Rattle.std.specs.Option.{option_map_or}
use Rattle.rl_base.specs.Results.{◌>>=◌}
use Rattle.rl_base.specs.declared.limit.LimitName.TheVariants.{Bytes}
use Rattle.rl_base.specs.declared.limit.TheConstants.{BYTES}
use Rattle.rl_base.proofs.Members.{In, all_in, in_contains, contains_in}
use Rattle.rl_paxos.specs.Quorums.{is_node}
use Rattle.rl_events.proofs.Kept.{expanded_fit}
use Rattle.rl_events.specs.Fits.{EventFits, IsOneOf}
use Rattle.rl_events.specs.declared.event.Event.{Event}
use Rattle.rl_events.specs.declared.event.Event.TheVariants as event
use Rattle.rl_election.specs.World.{is_up}
use Rattle.rl_msg.specs.declared.msg.Msg.{Msg}
use Rattle.rl_msg.specs.Parts.{head_of}
use Rattle.rl_nodes.specs.declared.node_error.NodeError.TheVariants.{BadMessage, StreamFull, NoEpoch, Memory}
use Rattle.rl_nodes.specs.Answers.{Did, Answer, quiet}
use Rattle.rl_nodes.specs.Elections.{elects, ticks, crashed, returned, lost}
use Rattle.rl_nodes.specs.Events.{is_down, is_lost, for_each, does_up, changes_up, reaches, delivers, after_event, after_events, expanded_events, world_after}
use Rattle.rl_nodes.specs.Handles.{receives}
use Rattle.rl_nodes.specs.Nodes.{NodeState, new_node}
use Rattle.rl_nodes.specs.Setups.{Setup, SetupFits, stream_numbers, cluster_of}
use Rattle.rl_nodes.specs.Views.{plays}
use Rattle.rl_nodes.specs.Works.{steps, flushes, idles}
use Rattle.rl_nodes.specs.World.{World, Sent, Line, NoMessage, NodeShown, Ran, new_world, node_of, block_of, with_line, sent_at, delivered, dropped, pending_from, bytes_sent, after_doing, after_answer}
use Rattle.rl_nodes.proofs.Growing.{messages, changed}
use Rattle.rl_nodes.proofs.Tied.{TiedRun}
use Rattle.rl_nodes.proofs.Deliveries.{TiedTo, with_sent, with_told, sent_in, delivery, in_numbers}
use Rattle.rl_nodes.proofs.OwnEvents.{at_node, elected, crashes, returns, loses, played, ticked, steps_good, flushes_good, idles_good}
use Rattle.std.proofs.lemmas.List.{length-replicate}
use Rattle.std.proofs.lemmas.Bool.Decides.{nat_tests}
use Rattle.rl_base.proofs.Tests.{both_true}
use Rattle.rl_election.specs.StreamEvents as streams
use Rattle.rl_nodes.specs.Laws.{AreSame, RunsAreStreams}
use Rattle.rl_nodes.specs.Streams.{stream_node, HasTerm}

-- ---- the beginning ----

pub same_in : {A : Type 0} (n : ℕ) (x : A) (i : ℕ) → get_or (replicate n x) i x ≡ x
same_in zero x i = refl
same_in (suc n) x zero = refl
same_in (suc n) x (suc i) = same_in n x i

pub new_nodes : (setup : Setup) (a : ℕ) → node_of setup (new_world setup) a ≡ new_node setup
new_nodes setup a = same_in setup.nodes (new_node setup) (a - 1)

pub begins : (setup : Setup) → TiedRun setup (new_world setup)
begins setup = record {
  events = [];
  tied = record {
    size = length-replicate setup.nodes (new_node setup);
    node = λ a there. ap stream_node (sym (new_nodes setup a));
    terms = refl;
    term = λ a there. subst (λ (x : NodeState). HasTerm (streams.streams_after (cluster_of setup) []) x.part) (sym (new_nodes setup a)) tt;
    sent = λ n i. absurd i;
    back = λ n i. absurd i;
    receivers = λ m i. absurd i;
  };
}

pub in_replicate : (n s k : ℕ) → In k (replicate n s) → k ≡ s
in_replicate zero s k i = absurd i
in_replicate (suc n) s k i = elim i [ inl e ↦ e | inr j ↦ in_replicate n s k j ]

pub true_node : (n k : ℕ) → IsOneOf n k → is_node n k ≡ true
true_node n k h = both_true (nat_le 1 k) (nat_le k n) (le_true 1 k h.0) (le_true k n h.1)
  where
    le_true : (a b : ℕ) → a ≤ b → nat_le a b ≡ true
    le_true a b h = grind (arith, nat_tests)

-- ---- what a node does ----

-- why a node does something: it takes a message, or makes a step of its own
pub data Cause : Type 0 where
  Takes : Msg → Cause
  Steps : (s : ℕ) → Cause
  Flushes : (s : ℕ) → Cause
  Idles : (s : ℕ) → Cause
  Elects : Cause
  Ticks : Cause
  Crashes : Cause
  Returns : Cause
  Loses : Cause
  Plays : (s : ℕ) → Cause

-- what it answers
abbrev pub answer_to : Setup → (a : ℕ) → NodeState → Cause → Answer
answer_to setup a x (Takes m) = receives setup a x m
answer_to setup a x (Steps s) = steps setup a x s
answer_to setup a x (Flushes s) = flushes setup a x s
answer_to setup a x (Idles s) = idles setup a x s
answer_to setup a x Elects = elects setup a x
answer_to setup a x Ticks = ticks setup a x
answer_to setup a x Crashes = Ok (quiet (crashed setup x))
answer_to setup a x Returns = Ok (quiet (returned x))
answer_to setup a x Loses = Ok (quiet (lost setup x))
answer_to setup a x (Plays s) = Ok (quiet (plays setup x s))

-- the message was sent, and the stream is there
abbrev pub IsFor : Setup → (sent : List Msg) → Cause → Type 0
IsFor setup sent (Takes m) = In m sent
IsFor setup sent (Steps s) = is_node setup.workers s ≡ true
IsFor setup sent (Flushes s) = is_node setup.workers s ≡ true
IsFor setup sent (Idles s) = is_node setup.workers s ≡ true
IsFor setup sent (Plays s) = is_node setup.workers s ≡ true
IsFor setup sent other = Unit {0}

-- something that a node of a world does
pub record Step (setup : Setup) (w : World) : Type 0 where
  pub node : ℕ
  pub number : ℕ
  pub there : is_node setup.nodes node ≡ true
  pub cause : Cause
  pub is_for : IsFor setup (messages w.sent) cause
  pub did : Did
  pub answers : answer_to setup node (node_of setup w node) cause ≡ Ok did

abbrev pub after_step : (setup : Setup) (w : World) → Step setup w → World
after_step setup w step = after_doing w step.node step.number step.did

-- what is kept by each change of a world: other marks of what was sent, a line more, and what a node does
pub record IsKept (setup : Setup) (P : World → Type 0) : Type 0 where
  pub marked : (w : World) (sent : List Sent) → messages sent ≡ messages w.sent → P w → P (record w { sent = sent })
  pub told : (w : World) (line : Line) → P w → P (with_line w line)
  pub does : (w : World) → TiedRun setup w → P w → (step : Step setup w) → TiedRun setup (after_step setup w step)
      → P (after_step setup w step)

-- ---- one after another ----

module _ (setup : Setup) (P : World → Type 0) (kept : IsKept setup P) where
  -- a world that goes with streams and has the property
  abbrev Both : World → Type 0
  Both w = TiedRun setup w × P w

  abbrev BothTo : Ran → Type 0
  BothTo (Ok w) = Both w
  BothTo (Err limit) = Unit {0}

  few : (w : World) (many : Bool) → TiedTo setup (if many then Err Bytes else Ok w) → (TiedRun setup w → P w)
      → BothTo (if many then Err Bytes else Ok w)
  few w true t p = tt
  few w false t p = (t, p t)

  answering : (w : World) → Both w → (a number : ℕ) → is_node setup.nodes a ≡ true → (cause : Cause) → IsFor setup (messages w.sent) cause
      → (answer : Answer) → answer_to setup a (node_of setup w a) cause ≡ answer → TiedTo setup (after_answer w a number answer)
      → BothTo (after_answer w a number answer)
  answering w b a number there cause is_for (Ok did) is t =
      few (after_doing w a number did) (nat_lt BYTES (bytes_sent (after_doing w a number did).sent)) t
      (kept.does w b.0 b.1 (record { node = a; number = number; there = there; cause = cause; is_for = is_for; did = did; answers = is }))
  answering w b a number there cause is_for (Err BadMessage) is t = b
  answering w b a number there cause is_for (Err (StreamFull slots)) is t = tt
  answering w b a number there cause is_for (Err (NoEpoch promised)) is t = b
  answering w b a number there cause is_for (Err Memory) is t = b

  acts : (w : World) → Both w → (a number : ℕ) → is_node setup.nodes a ≡ true → (cause : Cause) → IsFor setup (messages w.sent) cause
      → (up : Bool) → TiedTo setup (if up then after_answer w a number (answer_to setup a (node_of setup w a) cause) else Ok w)
      → BothTo (if up then after_answer w a number (answer_to setup a (node_of setup w a) cause) else Ok w)
  acts w b a number there cause is_for true t =
      answering w b a number there cause is_for (answer_to setup a (node_of setup w a) cause) refl t
  acts w b a number there cause is_for false t = b

  binds : (r : Ran) (f : World → Ran) → BothTo r → ((w : World) → Both w → BothTo (f w)) → BothTo (r >>= f)
  binds (Ok w) f h g = g w h
  binds (Err e) f h g = tt

  each : (ks : List ℕ) (does : ℕ → World → Ran) → ((k : ℕ) → In k ks → (w : World) → Both w → BothTo (does k w)) → (w : World) → Both w
      → BothTo (for_each ks does w)
  each [] does h w b = b
  each (k ∷ ks) does h w b = binds (does k w) (for_each ks does) (h k (inl refl) w b) (λ x c. each ks does (λ j i. h j (inr i)) x c)

  -- ---- events ----

  delivering : (number : ℕ) (w : World) → Both w → BothTo (delivers setup number w)
  delivering number w b = by_sent (sent_at w.sent number) refl (delivery setup w b.0 number)
    where
      same : messages (delivered w number).sent ≡ messages w.sent
      same = changed (λ m. record m { delivered = true }) (λ m. refl) w.sent number

      now : Both (delivered w number)
      now = (with_sent setup w b.0 (delivered w number).sent same, kept.marked w (delivered w number).sent same b.1)

      by_sent : (o : Option Sent) → sent_at w.sent number ≡ o
          → TiedTo setup (option_map_or (λ (m : Sent). reaches setup number m.message (delivered w number)) o
          (Ok (with_line w (NoMessage number))))
          → BothTo (option_map_or (λ (m : Sent). reaches setup number m.message (delivered w number)) o
          (Ok (with_line w (NoMessage number))))
      by_sent None e t = (t, kept.told w (NoMessage number) b.1)
      by_sent (Some m) e t =
          let in_sent : In m.message (messages (delivered w number).sent) = subst (In m.message) (sym same) (sent_in w.sent number m e) in
          acts (delivered w number) now (head_of m.message).to number (now.0.tied.receivers m.message in_sent) (Takes m.message) in_sent
          (is_up (node_of setup (delivered w number) (head_of m.message).to).state) t

  stepping : (n s : ℕ) → is_node setup.nodes n ≡ true → is_node setup.workers s ≡ true → (w : World) → Both w
      → BothTo (does_up setup n (λ x. steps setup n x s) w)
  stepping n s there in_stream w b =
      acts w b n 0 there (Steps s) in_stream (is_up (node_of setup w n).state)
      (at_node setup w b.0 n there is_up (λ x. steps setup n x s) (λ up. steps_good setup w b.0 n there up s in_stream))

  playing : (n s : ℕ) → is_node setup.nodes n ≡ true → is_node setup.workers s ≡ true → (w : World) → Both w
      → BothTo (changes_up setup n (λ x. plays setup x s) w)
  playing n s there in_stream w b =
      acts w b n 0 there (Plays s) in_stream (is_up (node_of setup w n).state)
      (at_node setup w b.0 n there is_up (λ x. Ok (quiet (plays setup x s))) (λ up. played setup w b.0 n there s))

  dropping : (w : World) → Both w → (number : ℕ) (o : Option Sent)
      → BothTo (option_map_or (λ (m : Sent). Ok (dropped w number)) o (Ok (with_line w (NoMessage number))))
  dropping w b number None = (with_told setup w b.0 (NoMessage number), kept.told w (NoMessage number) b.1)
  dropping w b number (Some m) =
      let same : messages (dropped w number).sent ≡ messages w.sent =
      changed (λ m. record m { dropped = true }) (λ m. refl) w.sent number in
      (with_sent setup w b.0 (dropped w number).sent same, kept.marked w (dropped w number).sent same b.1)

  event_kept : (e : Event) → EventFits setup.nodes setup.workers e → (w : World) → Both w → BothTo (after_event setup e w)
  event_kept (event.Step n s count) fits w b =
      each (replicate count s) (λ s. does_up setup n (λ x. steps setup n x s))
      (λ k i. stepping n k (true_node setup.nodes n fits.0)
      (subst (λ j. is_node setup.workers j ≡ true) (sym (in_replicate count s k i)) (true_node setup.workers s fits.1))) w b
  event_kept (event.Flush n s) fits w b =
      let there = true_node setup.nodes n fits.0 in
      let in_stream = true_node setup.workers s fits.1 in
      acts w b n 0 there (Flushes s) in_stream (is_up (node_of setup w n).state)
      (at_node setup w b.0 n there is_up (λ x. flushes setup n x s) (λ up. flushes_good setup w b.0 n there up s in_stream))
  event_kept (event.Idle n s) fits w b =
      let there = true_node setup.nodes n fits.0 in
      let in_stream = true_node setup.workers s fits.1 in
      acts w b n 0 there (Idles s) in_stream (is_up (node_of setup w n).state)
      (at_node setup w b.0 n there is_up (λ x. idles setup n x s) (λ up. idles_good setup w b.0 n there up s in_stream))
  event_kept (event.Dlv number) fits w b = delivering number w b
  event_kept (event.Discard number) fits w b = dropping w b number (sent_at w.sent number)
  event_kept event.All fits w b = each (pending_from 1 w.sent) (delivers setup) (λ k i x c. delivering k x c) w b
  event_kept (event.Elect n) fits w b =
      let there = true_node setup.nodes n fits in
      acts w b n 0 there Elects tt (is_up (node_of setup w n).state)
      (at_node setup w b.0 n there is_up (elects setup n) (elected setup w b.0 n there))
  event_kept (event.Tick n) fits w b =
      let there = true_node setup.nodes n fits in
      acts w b n 0 there Ticks tt (is_up (node_of setup w n).state)
      (at_node setup w b.0 n there is_up (ticks setup n) (λ up. ticked setup w b.0 n there))
  event_kept (event.Crash n) fits w b =
      let there = true_node setup.nodes n fits in
      acts w b n 0 there Crashes tt (is_up (node_of setup w n).state)
      (at_node setup w b.0 n there is_up (λ x. Ok (quiet (crashed setup x))) (crashes setup w b.0 n there))
  event_kept (event.Back n) fits w b =
      let there = true_node setup.nodes n fits in
      acts w b n 0 there Returns tt (is_down (node_of setup w n).state)
      (at_node setup w b.0 n there is_down (λ x. Ok (quiet (returned x))) (returns setup w b.0 n there))
  event_kept (event.Lose n) fits w b =
      let there = true_node setup.nodes n fits in
      acts w b n 0 there Loses tt (not (is_lost (node_of setup w n).state))
      (at_node setup w b.0 n there (λ state. not (is_lost state)) (λ x. Ok (quiet (lost setup x))) (λ up. loses setup w b.0 n there))
  event_kept (event.Play n s) fits w b = playing n s (true_node setup.nodes n fits.0) (true_node setup.workers s fits.1) w b
  event_kept (event.PlayAll n) fits w b =
      each (stream_numbers setup) (λ s. changes_up setup n (λ x. plays setup x s))
      (λ s i. playing n s (true_node setup.nodes n fits) (in_numbers setup.workers s i)) w b
  event_kept (event.Show n) fits w b =
      (with_told setup w b.0 (NodeShown (block_of setup w n)), kept.told w (NodeShown (block_of setup w n)) b.1)
  event_kept (event.Random seed count) fits w b = b

  events_kept : (events : List Event) → ((e : Event) → In e events → EventFits setup.nodes setup.workers e) → (w : World) → Both w
      → BothTo (after_events setup events w)
  events_kept [] fits w b = b
  events_kept (e ∷ es) fits w b =
      binds (after_event setup e w) (after_events setup es) (event_kept e (fits e (inl refl)) w b)
      (λ x c. events_kept es (λ f i. fits f (inr i)) x c)

  -- in every run
  pub kept_in_runs : P (new_world setup) → SetupFits setup
      → (events : List Event) → All (EventFits setup.nodes setup.workers) events → (w : World) → world_after setup events ≡ Ok w → Both w
  kept_in_runs first sized events fits w is =
      let all_fit = expanded_fit setup.nodes setup.workers events sized.some_nodes sized.some_workers fits in
      subst BothTo is
      (events_kept (expanded_events setup events)
      (λ e i. all_in (EventFits setup.nodes setup.workers) (expanded_events setup events) all_fit e i) (new_world setup)
      (begins setup, first))

-- ---- streams ----

same_worlds : (setup : Setup) (w : World) (r : TiedRun setup w) → AreSame setup w (streams.streams_after (cluster_of setup) r.events)
same_worlds setup w r = record {
  nodes = r.tied.node;
  terms = r.tied.terms;
  sent = λ n. (λ c. in_contains _ n (r.tied.sent n (contains_in _ n c)), λ c. in_contains _ n (r.tied.back n (contains_in _ n c)));
}

-- nothing more
nothing_kept : (setup : Setup) → IsKept setup (λ w. Unit {0})
nothing_kept setup = record { marked = λ w sent same k. tt; told = λ w line k. tt; does = λ w r k step q. tt }

pub runs_are_streams : RunsAreStreams
runs_are_streams setup events w sized fits is =
    let r : TiedRun setup w = (kept_in_runs setup (λ w. Unit {0}) (nothing_kept setup) tt sized events fits w is).0 in
    (r.events, same_worlds setup w r)
