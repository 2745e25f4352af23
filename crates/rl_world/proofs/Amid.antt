-- All pending messages of a run are delivered, one after another.
use Rattle.std.proofs.Common.{◌≡◌, ℕ, suc, ◌-◌, ◌<◌, ◌≤◌, true, List, ◌∷◌, length, map, drop, Result, ap, subst, ◌∙◌, arith}
use Rattle.std.proofs.lemmas.List.{length-map}
use Rattle.rl_events.specs.Fits.{EventFits}
use Rattle.rl_events.specs.declared.event.Event.TheVariants as event
use Rattle.rl_net.specs.Messages as net
use Rattle.rl_nodes.specs.Events.{for_each, delivers}
use Rattle.rl_nodes.specs.Setups.{Setup}
use Rattle.rl_nodes.specs.World.{World, Sent, pending_from}
use Rattle.rl_node.specs.SetupOf.{setup_of}
use Rattle.rl_world.specs.Amid.{HasDelivered}
use Rattle.rl_world.specs.Moments.{Moment, IsAmid, TriesAmid}
use Rattle.rl_world.specs.Standing.{StandsRun, HasRun, Tries}
use Rattle.rl_world.specs.Telling.{kept}
use Rattle.rl_world.specs.Worlds.{IsCause}
use Rattle.rl_world.specs.declared.run.Run.{Run}
use Rattle.rl_world.specs.declared.world_error.WorldError.{WorldError}
use Rattle.rl_world.specs.declared.world_error.WorldError.TheVariants.{Limit, Memory}
use Rattle.rl_world.proofs.Deliveries.{all_begin, all_next, all_fails, all_end}
use Rattle.rl_world.proofs.Moments.{next_moment}
use Rattle.rl_world.proofs.Pending.{none_left, next_left}

-- how many messages a run has sent at a moment
pub sent_count : (r : Run) (w : World) → StandsRun r w → r.told.sent ≡ length w.sent
sent_count r w st = st.told.count ∙ ap length st.told.net ∙ length-map w.sent kept

pub begins : (setup : Setup) (r : Run) (m : Moment setup) → StandsRun r m.world → HasDelivered setup r m 0
begins setup r m st = record { now = m; stands = st; amid = all_begin setup m.world }

module _ (setup : Setup) (r : Run) (first : Moment setup) (after upto : ℕ) (h : HasDelivered setup r first after) (all : upto ≡ length first.world.sent) where
  abbrev before : List Sent
  before = first.world.sent

  -- the next one
  module _ (number : ℕ) (above : after < number) (within : number ≤ upto) (there : net.is_pending r.told.net number ≡ true)
      (least : net.NonePending r.told.net after (number - 1)) where
    next : pending_from (suc after) (drop after before) ≡ number ∷ pending_from (suc number) (drop number before)
    next = next_left after before h.now.world.sent h.amid.as_before number above (omega (arith, within, all))
        (subst (λ ms. net.is_pending ms number ≡ true) h.stands.told.net there)
        (subst (λ ms. net.NonePending ms after (number - 1)) h.stands.told.net least)

    pub delivered_next : (fits : EventFits setup.nodes setup.workers (event.Dlv number)) (new : Run) → HasRun new (delivers setup number h.now.world) → HasDelivered setup new first number
    delivered_next fits new done = record {
      now = next_moment setup h.now (event.Dlv number) fits tt done.world done.is;
      stands = done.stands;
      amid = all_next setup before first.world h.now.world after number h.amid next done.world (omega (arith, above)) done.is;
    }

    pub refused_next : (error : WorldError) → IsCause (delivers setup number h.now.world) error
        → IsCause (for_each (pending_from 1 first.world.sent) (delivers setup) first.world) error
    refused_next (Limit name limit) why = (all_fails setup before first.world h.now.world after number h.amid next name why.0, why.1)
    refused_next Memory why = tt

  -- there is none
  pub all_delivered : net.NonePending r.told.net after upto → HasRun r (for_each (pending_from 1 first.world.sent) (delivers setup) first.world)
  all_delivered none = record {
    world = h.now.world;
    is = all_end setup before first.world h.now.world after h.amid
        (none_left after before h.now.world.sent h.amid.as_before (subst (λ n. net.NonePending (map kept h.now.world.sent) after n) all
        (subst (λ ms. net.NonePending ms after upto) h.stands.told.net none)));
    stands = h.stands;
  }

-- ---- moments of a setup that is that of a run ----

pub amid_at : (setup : Setup) (r : Run) → setup_of r.setup ≡ setup → (m : Moment setup) → StandsRun r m.world → IsAmid r
amid_at setup r same m st = subst (λ s. (n : Moment s) → StandsRun r n.world → IsAmid r) same (λ n h. record { moment = n; stands = h }) m st

pub tries_at : (setup : Setup) (r new : Run) (number : ℕ) (result : Result (Unit {0}) WorldError) → setup_of r.setup ≡ setup
    → TriesAmid r new (delivers (setup_of r.setup) number) result → (m : Moment setup) → StandsRun r m.world → Tries new (delivers setup number m.world) result
tries_at setup r new number result same h m st =
    subst (λ s. (n : Moment s) → StandsRun r n.world → Tries new (delivers s number n.world) result) same h m st
