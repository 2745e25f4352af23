-- What a run stands for after a message was delivered.
use Rattle.std.proofs.Common.{◌≡◌, ℕ, ◌-◌, ◌<◌, ◌≤◌, true, false, List, [], ◌∷◌, ◌++◌, length, get_or, Some, None, IsSome, Result, Ok, refl, sym, ap, subst, ◌∙◌, arith}
use Rattle.std.specs.Prelude.{IfSome, IfOk, IfErr, OnOk}
use Rattle.std.specs.Option.{option_map_or}
use Rattle.rl_base.specs.declared.limit.TheConstants.{BYTES}
use Rattle.rl_election.specs.World.{is_up}
use Rattle.rl_msg.specs.Encoding.{msg_bytes}
use Rattle.rl_msg.specs.Parts.{head_of}
use Rattle.rl_net.specs.Messages as net
use Rattle.rl_net.specs.declared.message.Message.{Message}
use Rattle.rl_nodes.specs.declared.node_error.NodeError.{NodeError}
use Rattle.rl_nodes.specs.Events.{reaches, delivers}
use Rattle.rl_nodes.specs.Handles.{receives, handles}
use Rattle.rl_nodes.specs.World.{World, Sent, NoMessage, node_of, sent_at, delivered, dropped, with_line, after_answer}
use Rattle.rl_node.specs.Doing.{Does, Refuses}
use Rattle.rl_node.specs.SetupOf.{setup_of}
use Rattle.rl_node.specs.declared.answer.Out.{Out}
use Rattle.rl_node.specs.declared.node.Node.{Node}
use Rattle.rl_report.specs.declared.middle.Middle.TheVariants as middle
use Rattle.rl_safe.specs.Laws.{GainsSuffice}
use Rattle.rl_safe.specs.Messages.{MessagesReadBack, MessagesHaveReceivers}
use Rattle.rl_world.specs.Finishing.{HasFinished, HasNotFinished}
use Rattle.rl_world.specs.Moments.{Moment, IsAmid}
use Rattle.rl_world.specs.Standing.{answers, IsNumberOf, IsSafe, StandsRun, HasRun, Tries}
use Rattle.rl_world.specs.declared.run.Run.{Run}
use Rattle.rl_world.specs.declared.told.Told.{Told}
use Rattle.rl_world.specs.declared.world_error.WorldError.{WorldError}
use Rattle.rl_world.proofs.Answering.{TellsPlainly, with_node, same_run, answered_at}
use Rattle.rl_world.proofs.Dropping.{with_told, safe_told, not_sent}
use Rattle.rl_world.proofs.Marking.{same_bytes, same_count, none_marked}
use Rattle.rl_world.proofs.Reaching.{there, sent_is, none_is, marked_stands, marked_safe, receiver, handled, received_plainly, delivers_up, delivers_away}

-- a node of a run is in the list
pub in_nodes : (r : Run) (a : ℕ) → IsSafe r → IsNumberOf (setup_of r.setup) a → a - 1 < length r.nodes.items
in_nodes r a safe is = let p = is.first in let q = is.last in let count = safe.count in omega (arith, count)

-- a run whose network has other messages
abbrev pub with_net : Run → List Message → Told
with_net r ms = record r.told { net = ms }

-- the message of a number in a world, with its receiver and its bytes
record Goes (w : World) (number to : ℕ) (bytes : List ℕ) : Type 0 where
  sent : Sent
  at : sent_at w.sent number ≡ Some sent
  to_is : (head_of sent.message).to ≡ to
  bytes_are : bytes ≡ msg_bytes sent.message

-- ---- a network where a message was marked ----

module _ (r : Run) (number : ℕ) (safe : IsSafe r) (ms : List Message) (is_marked : ms ≡ net.delivered_at r.told.net number) where
  same_size : net.bytes_sent ms ≡ net.bytes_sent r.told.net
  same_size = ap net.bytes_sent is_marked ∙ same_bytes (λ (m : Message). record m { delivered = true }) (λ m. refl) r.told.net number

  same_len : length ms ≡ length r.told.net
  same_len = ap (λ (xs : List Message). length xs) is_marked ∙ same_count (λ (m : Message). record m { delivered = true }) r.told.net number

  pub few_marked : net.bytes_sent ms ≤ BYTES
  few_marked = subst (λ n. n ≤ BYTES) (sym same_size) safe.few

  pub count_marked : r.told.sent ≡ length ms
  count_marked = safe.sent ∙ sym same_len

  -- and that may tell of more
  pub safe_marked : (told : Told) → told.net ≡ ms → told.sent ≡ r.told.sent → IsSafe (with_told r told)
  safe_marked told net_same sent_same =
      safe_told r told safe (ap net.bytes_sent net_same ∙ same_size) (ap (λ (xs : List Message). length xs) net_same ∙ same_len) sent_same

  -- no message of the number was sent
  pub missed : (told : Told) → net.message_at r.told.net number ≡ None → told.net ≡ ms → told.sent ≡ r.told.sent → told.released ≡ r.told.released
      → told.lines ≡ r.told.lines ++ middle.NoMessage number ∷ [] → (w : World) → StandsRun r w
      → HasRun (with_told r told) (delivers (setup_of r.setup) number w)
  missed told none net_same sent_same released_same lines w st =
      let setup = setup_of r.setup in
      let gone = none_is r w st number none in
      let unchanged = none_marked (λ (m : Message). record m { delivered = true }) r.told.net number none in
      let has = not_sent r number w st told none (net_same ∙ is_marked ∙ unchanged) sent_same released_same lines in
      record {
        world = has.world;
        is = ap (λ o. option_map_or (λ (m : Sent). reaches setup number m.message (delivered w number)) o (Ok (with_line w (NoMessage number)))) gone
            ∙ sym (ap (λ o. option_map_or (λ (m : Sent). Ok (dropped w number)) o (Ok (with_line w (NoMessage number)))) gone)
            ∙ has.is;
        stands = has.stands;
      }

-- ---- a message that was sent ----

module _ (r : Run) (number to : ℕ) (bytes : List ℕ) (some : IsSome (net.message_at r.told.net number))
    (goes_to : IfSome (net.message_at r.told.net number) (λ (m : Message). (m.to ≡ to) × (m.bytes ≡ bytes))) where
  goes : (w : World) → StandsRun r w → Goes w number to bytes
  goes w st =
      let m = there (λ (m : Message). (m.to ≡ to) × (m.bytes ≡ bytes)) (net.message_at r.told.net number) some goes_to in
      let x = sent_is r w st number m.0 m.1 in
      record {
        sent = x.0;
        at = x.1;
        to_is = ap (λ (k : Message). k.to) x.2 ∙ m.2.0;
        bytes_are = sym (ap (λ (k : Message). k.bytes) x.2 ∙ m.2.1);
      }

  -- its receiver is a node of the run
  pub to_node : IsSafe r → IsAmid r → MessagesHaveReceivers → IsNumberOf (setup_of r.setup) to
  to_node safe amid receivers =
      let g = goes amid.moment.world amid.stands in
      subst (IsNumberOf (setup_of r.setup)) g.to_is (receiver r safe amid.moment number g.sent g.at receivers)

  module _ (safe : IsSafe r) (is : IsNumberOf (setup_of r.setup) to) (n : Node) (m : Moment (setup_of r.setup)) (st : StandsRun r m.world) where
    -- its receiver is up, and has answered
    pub reached : (reads : MessagesReadBack) (gains : GainsSuffice) (slice : List ℕ) → slice ≡ bytes
        → (told : Told) (answer : Result Out NodeError) (result : Result (Unit {0}) WorldError)
        → is_up (node_of (setup_of r.setup) m.world to).state ≡ true
        → IfOk answer (Does (setup_of r.setup) to n (answers (node_of (setup_of r.setup) m.world to)) (handles (setup_of r.setup) to (node_of (setup_of r.setup) m.world to) slice))
        → IfErr answer (Refuses (setup_of r.setup) to n (answers (node_of (setup_of r.setup) m.world to)) (handles (setup_of r.setup) to (node_of (setup_of r.setup) m.world to) slice))
        → OnOk result (HasFinished (with_net r (net.delivered_at r.told.net number)) told number to answer)
        → IfErr result (HasNotFinished (with_net r (net.delivered_at r.told.net number)) answer)
        → Tries (with_node r to n told) (delivers (setup_of r.setup) number m.world) result
    reached reads gains slice is_slice told answer result up does refuses ok err =
        let setup = setup_of r.setup in
        let g = goes m.world st in
        let w = delivered m.world number in
        let x = node_of setup w to in
        let same = handled r safe m number g.sent g.at reads to x slice (is_slice ∙ g.bytes_are) in
        let due : delivers setup number m.world ≡ after_answer w to number (receives setup to x g.sent.message) =
        subst (λ k. delivers setup number m.world ≡ after_answer w k number (receives setup k (node_of setup w k) g.sent.message)) g.to_is
        (delivers_up r safe m number g.sent g.at (subst (λ k. is_up (node_of setup w k).state ≡ true) (sym g.to_is) up)) in
        let plain : TellsPlainly w (receives setup to x g.sent.message) =
        subst (λ k. TellsPlainly w (receives setup k (node_of setup w k) g.sent.message)) g.to_is (received_plainly r safe m number g.sent g.at gains) in
        subst (λ ran. Tries (with_node r to n told) ran result) (sym (due ∙ ap (after_answer w to number) (sym same)))
        (answered_at (with_told r (with_net r (net.delivered_at r.told.net number))) to number n told (λ y. handles setup to y slice) (marked_safe r number safe) is
        w (marked_stands r m.world st number) (subst (TellsPlainly w) (sym same) plain) answer result does refuses ok err)

    -- it is not up
    pub away : (ms : List Message) → ms ≡ net.delivered_at r.told.net number → n ≡ get_or r.nodes.items (to - 1) n
        → is_up (node_of (setup_of r.setup) m.world to).state ≡ false
        → HasRun (with_node r to n (with_net r ms)) (delivers (setup_of r.setup) number m.world)
    away ms is_marked read not_up =
        let setup = setup_of r.setup in
        let g = goes m.world st in
        let w = delivered m.world number in
        record {
          world = w;
          is = delivers_away r safe m number g.sent g.at (subst (λ k. is_up (node_of setup w k).state ≡ false) (sym g.to_is) not_up);
          stands = subst (λ xs. StandsRun (with_node r to n (with_net r xs)) w) (sym is_marked)
              (same_run (with_told r (with_net r (net.delivered_at r.told.net number))) w to n (marked_stands r m.world st number) read);
        }
