-- Runs go on from where they came to, and what a world has only grows.
use Rattle.std.proofs.Common.{◌≡◌, ℕ, zero, suc, List, [], ◌∷◌, ◌++◌, map, Bool, true, false, not, nat_lt, if◌then◌else◌, replicate, Option, Some, None, Ok, Err, refl, ap, sym, ◌∙◌, subst, append-nil}
use Rattle.std.proofs.lemmas.List.{map-append}
use Rattle.std.proofs.lemmas.Grind.{flat_map-append}
use Rattle.std.specs.Option.{option_map_or}
use Rattle.std.specs.Prelude.{slice_get, slice_set}
use Rattle.rl_base.specs.Lists.{IsPrefix}
use Rattle.rl_base.specs.Results.{◌>>=◌}
use Rattle.rl_base.specs.declared.limit.LimitName.TheVariants.{Bytes}
use Rattle.rl_base.specs.declared.limit.TheConstants.{BYTES}
use Rattle.rl_base.proofs.Prefixes.{prefix_self, prefix_more, prefix_trans}
use Rattle.rl_txn.specs.declared.item.Item.{Item}
use Rattle.rl_events.specs.Expanded.{expanded}
use Rattle.rl_events.specs.declared.event.Event.{Event}
use Rattle.rl_events.specs.declared.event.Event.TheVariants as event
use Rattle.rl_election.specs.World.{State, is_up}
use Rattle.rl_msg.specs.declared.msg.Msg.{Msg}
use Rattle.rl_msg.specs.Parts.{head_of}
use Rattle.rl_nodes.specs.declared.node_error.NodeError.TheVariants.{BadMessage, StreamFull, NoEpoch, Memory}
use Rattle.rl_nodes.specs.Answers.{Release, Did, Answer, quiet}
use Rattle.rl_nodes.specs.Elections.{elects, ticks, crashed, returned, lost}
use Rattle.rl_nodes.specs.Events.{is_down, is_lost, for_each, does_where, does_up, changes_up, reaches, delivers, after_event, after_events, expanded_events}
use Rattle.rl_nodes.specs.Handles.{receives}
use Rattle.rl_nodes.specs.Laws.{RunsGoOn, Grows, EventsOnlyAdd, RunsOnlyAdd}
use Rattle.rl_nodes.specs.Nodes.{NodeState}
use Rattle.rl_nodes.specs.Setups.{Setup, stream_numbers}
use Rattle.rl_nodes.specs.Views.{plays}
use Rattle.rl_nodes.specs.Works.{steps, flushes, idles}
use Rattle.rl_nodes.specs.World.{World, Sent, Line, NoMessage, NodeShown, Ran, new_world, node_of, block_of, with_line, sent_at, changed_at, delivered, dropped, pending_from, bytes_sent, new_sent, unreleased, released_after, after_doing, after_answer}

-- ---- runs go on ----

bind_assoc : (r : Ran) (f g : World → Ran) → ((r >>= f) >>= g) ≡ (r >>= λ x. f x >>= g)
bind_assoc (Ok x) f g = refl
bind_assoc (Err e) f g = refl

after_both : (setup : Setup) (xs ys : List Event) (w : World)
    → after_events setup (xs ++ ys) w ≡ (after_events setup xs w >>= after_events setup ys)
after_both setup [] ys w = refl
after_both setup (e ∷ es) ys w =
    (λ i. after_event setup e w >>= λ x. after_both setup es ys x i)
    ∙ sym (bind_assoc (after_event setup e w) (after_events setup es) (after_events setup ys))

pub runs_go_on : RunsGoOn
runs_go_on setup events more =
    ap (λ es. after_events setup es (new_world setup)) (flat_map-append (expanded setup.nodes setup.workers) events more)
    ∙ after_both setup (expanded_events setup events) (expanded_events setup more) (new_world setup)

-- ---- growing ----

grows_same : (w : World) → Grows w w
grows_same w = record {
  sent = prefix_self _;
  released = prefix_self _;
  lines = prefix_self _;
  openings = prefix_self _;
  gave = prefix_self _;
  refusals = prefix_self _;
}

grows_on : (x y z : World) → Grows x y → Grows y z → Grows x z
grows_on x y z a b = record {
  sent = prefix_trans _ _ _ a.sent b.sent;
  released = prefix_trans _ _ _ a.released b.released;
  lines = prefix_trans _ _ _ a.lines b.lines;
  openings = prefix_trans _ _ _ a.openings b.openings;
  gave = prefix_trans _ _ _ a.gave b.gave;
  refusals = prefix_trans _ _ _ a.refusals b.refusals;
}

-- a world grows to what comes of it, if no limit is passed
abbrev GrowsTo : World → Ran → Type 0
GrowsTo w (Ok x) = Grows w x
GrowsTo w (Err limit) = Unit {0}

grows_to : (w x : World) (r : Ran) → Grows w x → GrowsTo x r → GrowsTo w r
grows_to w x (Ok y) a b = grows_on w x y a b
grows_to w x (Err limit) a b = tt

followed : (w : World) (r : Ran) (f : World → Ran) → GrowsTo w r → ((x : World) → GrowsTo x (f x)) → GrowsTo w (r >>= f)
followed w (Ok x) f a b = grows_to w x (f x) a (b x)
followed w (Err limit) f a b = tt

grows_if : (test : Bool) (w : World) (r s : Ran) → GrowsTo w r → GrowsTo w s → GrowsTo w (if test then r else s)
grows_if true w r s a b = a
grows_if false w r s a b = b

-- ---- what a node did ----

abbrev pub messages : List Sent → List Msg
messages sent = map (λ (m : Sent). m.message) sent

released_more : (released : List Item) (r : Option Release) → IsPrefix released (released_after released r)
released_more released None = prefix_self released
released_more released (Some r) = prefix_more released (unreleased released r.history)

doing : (w : World) (a number : ℕ) (did : Did) → Grows w (after_doing w a number did)
doing w a number did = record {
  sent = (messages (map new_sent did.sends), sym (map-append (λ (m : Sent). m.message) w.sent (map new_sent did.sends)));
  released = released_more w.released did.release;
  lines = prefix_more _ _;
  openings = prefix_more _ _;
  gave = prefix_more _ _;
  refusals = prefix_more _ _;
}

answering : (w : World) (a number : ℕ) (answer : Answer) → GrowsTo w (after_answer w a number answer)
answering w a number (Ok did) =
    let x : World = after_doing w a number did in
    grows_if (nat_lt BYTES (bytes_sent x.sent)) w (Err Bytes) (Ok x) tt (doing w a number did)
answering w a number (Err BadMessage) = grows_same w
answering w a number (Err (StreamFull slots)) = tt
answering w a number (Err (NoEpoch promised)) = grows_same w
answering w a number (Err Memory) = grows_same w

told : (w : World) (line : Line) → Grows w (with_line w line)
told w line = record {
  sent = prefix_self _;
  released = prefix_self _;
  lines = prefix_more w.lines (line ∷ []);
  openings = prefix_self _;
  gave = prefix_self _;
  refusals = prefix_self _;
}

-- ---- what becomes of a message ----

changed_behind : (change : Sent → Sent) (m : Sent) (ms : List Sent) (i : ℕ) (o : Option Sent)
    → messages (option_map_or (λ x. m ∷ slice_set ms i (change x)) o (m ∷ ms))
    ≡ m.message ∷ messages (option_map_or (λ x. slice_set ms i (change x)) o ms)
changed_behind change m ms i None = refl
changed_behind change m ms i (Some x) = refl

changed_in : (change : Sent → Sent) → ((m : Sent) → (change m).message ≡ m.message) → (sent : List Sent) (i : ℕ)
    → messages (option_map_or (λ x. slice_set sent i (change x)) (slice_get sent i) sent) ≡ messages sent
changed_in change same [] i = refl
changed_in change same (m ∷ ms) zero = ap (λ x. x ∷ messages ms) (same m)
changed_in change same (m ∷ ms) (suc i) =
    changed_behind change m ms i (slice_get ms i) ∙ ap (λ xs. m.message ∷ xs) (changed_in change same ms i)

pub changed : (change : Sent → Sent) → ((m : Sent) → (change m).message ≡ m.message) → (sent : List Sent) (number : ℕ)
    → messages (changed_at change sent number) ≡ messages sent
changed change same sent zero = refl
changed change same sent (suc i) = changed_in change same sent i

with_sent : (w : World) (sent : List Sent) → messages sent ≡ messages w.sent → Grows w (record w { sent = sent })
with_sent w sent same = record {
  sent = ([], append-nil (messages w.sent) ∙ sym same);
  released = prefix_self _;
  lines = prefix_self _;
  openings = prefix_self _;
  gave = prefix_self _;
  refusals = prefix_self _;
}

delivering : (w : World) (number : ℕ) → Grows w (delivered w number)
delivering w number = with_sent w _ (changed (λ m. record m { delivered = true }) (λ m. refl) w.sent number)

dropping : (w : World) (number : ℕ) → Grows w (dropped w number)
dropping w number = with_sent w _ (changed (λ m. record m { dropped = true }) (λ m. refl) w.sent number)

-- ---- events ----

each : (ks : List ℕ) (does : ℕ → World → Ran) → ((k : ℕ) (x : World) → GrowsTo x (does k x)) → (w : World)
    → GrowsTo w (for_each ks does w)
each [] does grow w = grows_same w
each (k ∷ ks) does grow w = followed w (does k w) (for_each ks does) (grow k w) (λ x. each ks does grow x)

at_node : (test : State → Bool) (setup : Setup) (a : ℕ) (does : NodeState → Answer) (w : World)
    → GrowsTo w (does_where test setup a does w)
at_node test setup a does w =
    let x : NodeState = node_of setup w a in
    grows_if (test x.state) w (after_answer w a 0 (does x)) (Ok w) (answering w a 0 (does x)) (grows_same w)

reaching : (setup : Setup) (number : ℕ) (m : Msg) (w : World) → GrowsTo w (reaches setup number m w)
reaching setup number m w =
    let a : ℕ = (head_of m).to in
    let x : NodeState = node_of setup w a in
    grows_if (is_up x.state) w (after_answer w a number (receives setup a x m)) (Ok w)
    (answering w a number (receives setup a x m)) (grows_same w)

delivery : (setup : Setup) (number : ℕ) (w : World) (o : Option Sent)
    → GrowsTo w (option_map_or (λ (m : Sent). reaches setup number m.message (delivered w number)) o (Ok (with_line w (NoMessage number))))
delivery setup number w None = told w (NoMessage number)
delivery setup number w (Some m) =
    grows_to w (delivered w number) (reaches setup number m.message (delivered w number)) (delivering w number)
    (reaching setup number m.message (delivered w number))

delivers_grows : (setup : Setup) (number : ℕ) (w : World) → GrowsTo w (delivers setup number w)
delivers_grows setup number w = delivery setup number w (sent_at w.sent number)

drop : (number : ℕ) (w : World) (o : Option Sent)
    → GrowsTo w (option_map_or (λ (m : Sent). Ok (dropped w number)) o (Ok (with_line w (NoMessage number))))
drop number w None = told w (NoMessage number)
drop number w (Some m) = dropping w number

event_grows : (setup : Setup) (e : Event) (w : World) → GrowsTo w (after_event setup e w)
event_grows setup (event.Step n s count) w =
    each (replicate count s) (λ s. does_up setup n (λ x. steps setup n x s)) (λ s x. at_node is_up setup n (λ x. steps setup n x s) x) w
event_grows setup (event.Flush n s) w = at_node is_up setup n (λ x. flushes setup n x s) w
event_grows setup (event.Idle n s) w = at_node is_up setup n (λ x. idles setup n x s) w
event_grows setup (event.Dlv number) w = delivers_grows setup number w
event_grows setup (event.Discard number) w = drop number w (sent_at w.sent number)
event_grows setup event.All w = each (pending_from 1 w.sent) (delivers setup) (delivers_grows setup) w
event_grows setup (event.Elect n) w = at_node is_up setup n (elects setup n) w
event_grows setup (event.Tick n) w = at_node is_up setup n (ticks setup n) w
event_grows setup (event.Crash n) w = at_node is_up setup n (λ x. Ok (quiet (crashed setup x))) w
event_grows setup (event.Back n) w = at_node is_down setup n (λ x. Ok (quiet (returned x))) w
event_grows setup (event.Lose n) w =
    at_node (λ state. not (is_lost state)) setup n (λ x. Ok (quiet (lost setup x))) w
event_grows setup (event.Play n s) w = at_node is_up setup n (λ x. Ok (quiet (plays setup x s))) w
event_grows setup (event.PlayAll n) w =
    each (stream_numbers setup) (λ s. changes_up setup n (λ x. plays setup x s))
    (λ s x. at_node is_up setup n (λ x. Ok (quiet (plays setup x s))) x) w
event_grows setup (event.Show n) w = told w (NodeShown (block_of setup w n))
event_grows setup (event.Random seed count) w = grows_same w

events_grow : (setup : Setup) (events : List Event) (w : World) → GrowsTo w (after_events setup events w)
events_grow setup [] w = grows_same w
events_grow setup (e ∷ es) w =
    followed w (after_event setup e w) (after_events setup es) (event_grows setup e w) (λ x. events_grow setup es x)

pub events_only_add : EventsOnlyAdd
events_only_add setup e old new is = subst (GrowsTo old) is (event_grows setup e old)

pub runs_only_add : RunsOnlyAdd
runs_only_add setup events old new is = subst (GrowsTo old) is (events_grow setup events old)
