-- What each event does to the world.
use Rattle.std.specs.Prelude.{ℕ, List, [], ◌∷◌, replicate, Bool, true, false, not, if◌then◌else◌, Ok}
use Rattle.std.specs.List.{flat_map}
use Rattle.std.specs.Option.{option_map_or}
use Rattle.rl_base.specs.Results.{◌>>=◌}
use Rattle.rl_events.specs.Expanded.{expanded}
use Rattle.rl_events.specs.declared.event.Event.{Event}
use Rattle.rl_events.specs.declared.event.Event.TheVariants as event
use Rattle.rl_election.specs.World.{State, Down, Lost, is_up}
use Rattle.rl_msg.specs.declared.msg.Msg.{Msg}
use Rattle.rl_msg.specs.Parts.{head_of}
use Rattle.rl_nodes.specs.Answers.{Answer, quiet}
use Rattle.rl_nodes.specs.Elections.{elects, ticks, crashed, returned, lost}
use Rattle.rl_nodes.specs.Handles.{receives}
use Rattle.rl_nodes.specs.Nodes.{NodeState}
use Rattle.rl_nodes.specs.Setups.{Setup, stream_numbers}
use Rattle.rl_nodes.specs.Views.{plays}
use Rattle.rl_nodes.specs.Works.{steps, flushes, idles}
use Rattle.rl_nodes.specs.World.{World, Sent, NoMessage, NodeShown, Ran, new_world, node_of, block_of, with_line, sent_at, delivered, dropped, pending_from, after_answer}

-- a node is down
abbrev pub is_down : State → Bool
is_down Down = true
is_down other = false

-- a node is lost
abbrev pub is_lost : State → Bool
is_lost Lost = true
is_lost other = false

-- something for each of some numbers, one after another
abbrev pub for_each : List ℕ → (ℕ → World → Ran) → World → Ran
for_each [] does w = Ok w
for_each (k ∷ ks) does w = does k w >>= for_each ks does

-- ---- at one node ----

-- node a does something where its state passes a test, and nothing elsewhere
abbrev pub does_where : (State → Bool) → Setup → (a : ℕ) → (NodeState → Answer) → World → Ran
does_where test setup a does w =
    let x = node_of setup w a in
    if test x.state then after_answer w a 0 (does x) else Ok w

-- node a does something where it is up
abbrev pub does_up : Setup → (a : ℕ) → (NodeState → Answer) → World → Ran
does_up = does_where is_up

-- node a becomes another where it is up
abbrev pub changes_up : Setup → (a : ℕ) → (NodeState → NodeState) → World → Ran
changes_up setup a change w = does_up setup a (λ x. Ok (quiet (change x))) w

-- ---- messages ----

-- a message reaches its receiver where that is up
abbrev pub reaches : Setup → (number : ℕ) → Msg → World → Ran
reaches setup number m w =
    let a = (head_of m).to in
    let x = node_of setup w a in
    if is_up x.state then after_answer w a number (receives setup a x m) else Ok w

-- the message of a number is delivered, whether it was delivered or dropped before or not
abbrev pub delivers : Setup → (number : ℕ) → World → Ran
delivers setup number w =
    option_map_or (λ (m : Sent). reaches setup number m.message (delivered w number)) (sent_at w.sent number)
    (Ok (with_line w (NoMessage number)))

-- the message of a number is dropped
abbrev pub drops : (number : ℕ) → World → Ran
drops number w =
    option_map_or (λ (m : Sent). Ok (dropped w number)) (sent_at w.sent number) (Ok (with_line w (NoMessage number)))

-- ---- any event ----

-- the world after an event; a random one stands for others, and is none itself
abbrev pub after_event : Setup → Event → World → Ran
after_event setup (event.Step n s count) w = for_each (replicate count s) (λ s. does_up setup n (λ x. steps setup n x s)) w
after_event setup (event.Flush n s) w = does_up setup n (λ x. flushes setup n x s) w
after_event setup (event.Idle n s) w = does_up setup n (λ x. idles setup n x s) w
after_event setup (event.Dlv number) w = delivers setup number w
after_event setup (event.Discard number) w = drops number w
after_event setup event.All w = for_each (pending_from 1 w.sent) (delivers setup) w
after_event setup (event.Elect n) w = does_up setup n (elects setup n) w
after_event setup (event.Tick n) w = does_up setup n (ticks setup n) w
after_event setup (event.Crash n) w = changes_up setup n (crashed setup) w
after_event setup (event.Back n) w = does_where is_down setup n (λ x. Ok (quiet (returned x))) w
after_event setup (event.Lose n) w = does_where (λ state. not (is_lost state)) setup n (λ x. Ok (quiet (lost setup x))) w
after_event setup (event.Play n s) w = changes_up setup n (λ x. plays setup x s) w
after_event setup (event.PlayAll n) w = for_each (stream_numbers setup) (λ s. changes_up setup n (λ x. plays setup x s)) w
after_event setup (event.Show n) w = Ok (with_line w (NodeShown (block_of setup w n)))
after_event setup (event.Random seed count) w = Ok w

-- the world after some events, of which none is random
abbrev pub after_events : Setup → List Event → World → Ran
after_events setup [] w = Ok w
after_events setup (e ∷ es) w = after_event setup e w >>= after_events setup es

-- the events where each random one is replaced by those that it stands for
abbrev pub expanded_events : Setup → List Event → List Event
expanded_events setup events = flat_map (expanded setup.nodes setup.workers) events

-- the world that some events make of new nodes, or the limit that they pass
abbrev pub world_after : Setup → List Event → Ran
world_after setup events = after_events setup (expanded_events setup events) (new_world setup)
