-- Events where each random one is written out stand for themselves.
use Rattle.std.proofs.Common.{◌≡◌, ℕ, List, [], ◌∷◌, ◌++◌, All, refl, ap, ◌∙◌}
use Rattle.std.specs.List.{flat_map}
use Rattle.std.proofs.lemmas.List.Elements.{All-head, All-tail}
use Rattle.rl_events.specs.Expanded.{expanded, IsNotRandom}
use Rattle.rl_events.specs.declared.event.Event.{Event}
use Rattle.rl_events.proofs.Kept.{expanded_not_random}
use Rattle.rl_nodes.specs.Events.{after_events, expanded_events, world_after}
use Rattle.rl_nodes.specs.Setups.{Setup}
use Rattle.rl_nodes.specs.World.{new_world}
use Rattle.rl_world.proofs.Moments.{stands_for_itself}

plain_stay : (nodes workers : ℕ) (events : List Event) → All IsNotRandom events → flat_map (expanded nodes workers) events ≡ events
plain_stay nodes workers [] h = refl
plain_stay nodes workers (e ∷ events) h =
    ap (λ es. es ++ flat_map (expanded nodes workers) events) (stands_for_itself nodes workers e (All-head IsNotRandom e events h))
    ∙ ap (λ es. e ∷ es) (plain_stay nodes workers events (All-tail IsNotRandom e events h))

pub same_world : (setup : Setup) (events : List Event) → world_after setup (expanded_events setup events) ≡ world_after setup events
same_world setup events =
    ap (λ es. after_events setup es (new_world setup))
    (plain_stay setup.nodes setup.workers (expanded_events setup events) (expanded_not_random setup.nodes setup.workers events))
