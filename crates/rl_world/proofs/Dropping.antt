-- What a run stands for after a message was dropped, or was not there.
use Rattle.std.proofs.Common.{◌≡◌, ◌≤◌, true, List, ℕ, ◌∷◌, [], ◌++◌, length, All, Option, Some, None, IsSome, Ok, refl, sym, ap, subst, ◌∙◌}
use Rattle.std.specs.Option.{option_map, option_map_or}
use Rattle.std.proofs.lemmas.Grind.{flat_map-append}
use Rattle.std.proofs.lemmas.List.Elements.{All-nil, All-cons, All-append}
use Rattle.rl_base.specs.declared.limit.TheConstants.{BYTES}
use Rattle.rl_net.specs.Messages as net
use Rattle.rl_net.specs.declared.message.Message.{Message}
use Rattle.rl_nodes.specs.Events.{drops}
use Rattle.rl_nodes.specs.World.{World, Sent, NoMessage, sent_at, dropped, with_line}
use Rattle.rl_node.specs.SetupOf.{setup_of}
use Rattle.rl_report.specs.Forms.{IsEffect}
use Rattle.rl_report.specs.declared.middle.Middle.TheVariants as middle
use Rattle.rl_world.specs.Reported.{line_reported}
use Rattle.rl_world.specs.Standing.{IsSafe, StandsRun, HasRun}
use Rattle.rl_world.specs.Telling.{kept}
use Rattle.rl_world.specs.declared.run.Run.{Run}
use Rattle.rl_world.specs.declared.told.Told.{Told}
use Rattle.rl_world.proofs.Marking.{sent_read, same_bytes, same_count, changed_kept, changed_range}

-- a run that tells other things
abbrev pub with_told : Run → Told → Run
with_told r told = record { setup = r.setup; layout = r.layout; nodes = r.nodes; told = told }

-- and is safe still
pub safe_told : (r : Run) (told : Told) → IsSafe r → net.bytes_sent told.net ≡ net.bytes_sent r.told.net → length told.net ≡ length r.told.net → told.sent ≡ r.told.sent
    → IsSafe (with_told r told)
safe_told r told safe bytes count sent = record {
  fits = safe.fits;
  layout = safe.layout;
  count = safe.count;
  each = safe.each;
  few = subst (λ n. n ≤ BYTES) (sym bytes) safe.few;
  sent = sent ∙ safe.sent ∙ sym count;
}

-- the world has no message of a number that the network has not, and has one that it has
none_sent : (o : Option Sent) → option_map kept o ≡ None → o ≡ None
none_sent None e = refl
none_sent (Some m) e = absurd cc

some_sent : (o : Option Sent) → IsSome (option_map kept o) → (m : Sent) × (o ≡ Some m)
some_sent None h = absurd cc
some_sent (Some m) h = (m, refl)

module _ (r : Run) (number : ℕ) (w : World) (st : StandsRun r w) where
  -- it was not sent
  pub not_sent : (told : Told) → net.message_at r.told.net number ≡ None → told.net ≡ r.told.net → told.sent ≡ r.told.sent → told.released ≡ r.told.released
      → told.lines ≡ r.told.lines ++ middle.NoMessage number ∷ [] → HasRun (with_told r told) (drops number w)
  not_sent told none net_same sent_same released_same lines =
      let tables = (setup_of r.setup).program.tables in
      let missing = none_sent (sent_at w.sent number) (sym (sent_read w.sent number) ∙ ap (λ m. net.message_at m number) (sym st.told.net) ∙ none) in
      record {
        world = with_line w (NoMessage number);
        is = ap (λ o. option_map_or (λ (m : Sent). Ok (dropped w number)) o (Ok (with_line w (NoMessage number)))) missing;
        stands = record {
          nodes = record { listed = st.nodes.listed; each = st.nodes.each };
          told = record {
            net = net_same ∙ st.told.net;
            in_range = st.told.in_range;
            few = subst (λ m. net.bytes_sent m ≤ BYTES) (sym net_same) st.told.few;
            count = sent_same ∙ st.told.count ∙ ap (λ (m : List Message). length m) (sym net_same);
            released = released_same ∙ st.told.released;
            lines = lines ∙ ap (λ xs. xs ++ middle.NoMessage number ∷ []) st.told.lines ∙ sym (flat_map-append (line_reported tables) w.lines (NoMessage number ∷ []));
            effects = subst (All IsEffect) (sym lines) (All-append IsEffect r.told.lines (middle.NoMessage number ∷ []) st.told.effects
                (All-cons IsEffect (middle.NoMessage number) [] tt (All-nil IsEffect)));
          };
        };
      }

  -- it was sent
  pub was_sent : (told : Told) → IsSome (net.message_at r.told.net number) → told.net ≡ net.dropped_at r.told.net number → told.sent ≡ r.told.sent
      → told.released ≡ r.told.released → told.lines ≡ r.told.lines → HasRun (with_told r told) (drops number w)
  was_sent told some net_is sent_same released_same lines =
      let there = some_sent (sent_at w.sent number) (subst IsSome (ap (λ m. net.message_at m number) st.told.net ∙ sent_read w.sent number) some) in
      record {
        world = dropped w number;
        is = ap (λ o. option_map_or (λ (m : Sent). Ok (dropped w number)) o (Ok (with_line w (NoMessage number)))) there.1;
        stands = record {
          nodes = record { listed = st.nodes.listed; each = st.nodes.each };
          told = record {
            net = net_is ∙ ap (λ m. net.dropped_at m number) st.told.net
                ∙ changed_kept (λ (m : Message). record m { dropped = true }) (λ (m : Sent). record m { dropped = true }) (λ m. refl) w.sent number;
            in_range = changed_range (λ (m : Sent). record m { dropped = true }) (λ m. refl) w.sent number st.told.in_range;
            few = subst (λ n. n ≤ BYTES) (sym (ap net.bytes_sent net_is ∙ same_bytes (λ (m : Message). record m { dropped = true }) (λ m. refl) r.told.net number)) st.told.few;
            count = sent_same ∙ st.told.count ∙ sym (ap (λ (m : List Message). length m) net_is ∙ same_count (λ (m : Message). record m { dropped = true }) r.told.net number);
            released = released_same ∙ st.told.released;
            lines = lines ∙ st.told.lines;
            effects = subst (All IsEffect) (sym lines) st.told.effects;
          };
        };
      }
