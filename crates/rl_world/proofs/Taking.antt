-- What a node did is told as the world has it.
use Rattle.std.proofs.Common.{◌≡◌, ℕ, List, [], ◌++◌, map, All, Option, Some, None, refl, sym, ap, subst, ◌∙◌, append-nil, option_to_list}
use Rattle.std.specs.List.{flat_map}
use Rattle.std.specs.Option.{option_map, option_map_or}
use Rattle.std.proofs.lemmas.List.{map-append}
use Rattle.std.proofs.lemmas.List.Elements.{All-nil, All-cons, All-append}
use Rattle.std.proofs.lemmas.Grind.{flat_map-append}
use Rattle.rl_txn.specs.declared.item.Item.{Item}
use Rattle.rl_value.specs.Tables.{Table}
use Rattle.rl_msg.specs.Ranges.{MsgInRange}
use Rattle.rl_paxos.specs.declared.refused.Refused.{Refused}
use Rattle.rl_paxos.specs.declared.refused.Refused.TheVariants.{Promised, OtherBallot, OutOfOrder, Memory}
use Rattle.rl_nodes.specs.Answers.{Did, Opening, Release}
use Rattle.rl_nodes.specs.World.{World, Sent, Attempt, MessageDenied, new_sent, unreleased, released_after, opened_line, refused_line, lines_of, after_doing, epoch_led}
use Rattle.rl_node.specs.Outs.{IsOut, seen_opening}
use Rattle.rl_node.specs.declared.answer.Opened.{Opened}
use Rattle.rl_node.specs.declared.answer.Out.{Out}
use Rattle.rl_report.specs.Forms.{IsEffect}
use Rattle.rl_world.specs.Releasing.{GainSuffices}
use Rattle.rl_world.specs.Reported.{denied_lines, line_reported}
use Rattle.rl_world.specs.Telling.{opened_middle, lines_told, kept, message_of, HasTaken, StandsTold}
use Rattle.rl_world.specs.declared.told.Told.{Told}
use Rattle.rl_world.proofs.Sending.{sends_kept, new_in_range}

-- ---- lines ----

said : (tables : List Table) (a number : ℕ) (denied : Option Refused) (opened : Option Opening)
    → flat_map (line_reported tables) (option_to_list (option_map (MessageDenied number a) denied) ++ option_to_list (option_map (opened_line a) opened) ++ [])
    ≡ option_map_or (denied_lines number a) denied [] ++ option_to_list (option_map (opened_middle a) (option_map seen_opening opened))
said tables a number None None = refl
said tables a number None (Some o) = refl
said tables a number (Some f) None = refl
said tables a number (Some f) (Some o) = refl

denied_effects : (number node : ℕ) (f : Refused) → All IsEffect (denied_lines number node f)
denied_effects number node (Promised p) = All-cons IsEffect _ [] tt (All-nil IsEffect)
denied_effects number node (OtherBallot b) = All-cons IsEffect _ [] tt (All-nil IsEffect)
denied_effects number node (OutOfOrder len) = All-cons IsEffect _ [] tt (All-nil IsEffect)
denied_effects number node Memory = All-nil IsEffect

opened_effects : (node : ℕ) (opened : Option Opened) → All IsEffect (option_to_list (option_map (opened_middle node) opened))
opened_effects node None = All-nil IsEffect
opened_effects node (Some o) = All-cons IsEffect _ [] tt (All-nil IsEffect)

maybe_denied : (number node : ℕ) (denied : Option Refused) → All IsEffect (option_map_or (denied_lines number node) denied [])
maybe_denied number node None = All-nil IsEffect
maybe_denied number node (Some f) = denied_effects number node f

told_effects : (number node : ℕ) (out : Out) → All IsEffect (lines_told number node out)
told_effects number node out =
    All-append IsEffect (option_map_or (denied_lines number node) out.denied []) (option_to_list (option_map (opened_middle node) out.opened))
    (maybe_denied number node out.denied) (opened_effects node out.opened)

-- ---- releases ----

is_released : (released gained : List Item) (release : Option Release) → GainSuffices released release
    → gained ≡ option_map_or (λ (r : Release). r.gained) release [] → released ++ unreleased released gained ≡ released_after released release
is_released released gained None h e = ap (λ xs. released ++ unreleased released xs) e ∙ append-nil released
is_released released gained (Some r) h e = ap (λ xs. released ++ unreleased released xs) e ∙ ap (λ xs. released ++ xs) (sym h)

-- ---- all of it ----

module _ (tables : List Table) (w : World) (a number : ℕ) (did : Did) (out : Out) (old new : Told)
    (stands : StandsTold tables old w) (is : IsOut did out) (in_range : All MsgInRange did.sends)
    (no_refusal : did.refusal ≡ None) (suffices : GainSuffices w.released did.release) where
  -- what the network has once the messages are sent
  pub net_after : old.net ++ map message_of out.sends ≡ map kept (after_doing w a number did).sent
  net_after =
      ap (λ xs. xs ++ map message_of out.sends) stands.net ∙ ap (λ xs. map kept w.sent ++ xs) (sends_kept out.sends did.sends is.sends)
      ∙ sym (map-append kept w.sent (map new_sent did.sends))

  lines_are : flat_map (line_reported tables) (lines_of a number did) ≡ lines_told number a out
  lines_are =
      ap (λ refusal. flat_map (line_reported tables) (option_to_list (option_map (MessageDenied number a) did.denied) ++ option_to_list (option_map (opened_line a) did.opened)
      ++ option_to_list (option_map refused_line (option_map (λ f. let x : Attempt = record { epoch = epoch_led did.node.part; refusal = f } in x) refusal)))) no_refusal
      ∙ said tables a number did.denied did.opened
      ∙ ap (λ d. option_map_or (denied_lines number a) d [] ++ option_to_list (option_map (opened_middle a) (option_map seen_opening did.opened))) (sym is.denied)
      ∙ ap (λ o. option_map_or (denied_lines number a) out.denied [] ++ option_to_list (option_map (opened_middle a) o)) (sym is.opened)

  pub told_after : HasTaken old new number a out → StandsTold tables new (after_doing w a number did)
  told_after taken = record {
    net = taken.net ∙ net_after;
    in_range = All-append (λ (m : Sent). MsgInRange m.message) w.sent (map new_sent did.sends) stands.in_range (new_in_range did.sends in_range);
    few = taken.few;
    count = taken.count;
    released = taken.released ∙ ap (λ xs. xs ++ unreleased xs out.released) stands.released ∙ is_released w.released out.released did.release suffices is.released;
    lines = taken.lines ∙ ap (λ xs. xs ++ lines_told number a out) stands.lines ∙ ap (λ xs. flat_map (line_reported tables) w.lines ++ xs) (sym lines_are)
        ∙ sym (flat_map-append (line_reported tables) w.lines (lines_of a number did));
    effects = subst (All IsEffect) (sym taken.lines) (All-append IsEffect old.lines (lines_told number a out) stands.effects (told_effects number a out));
  }
