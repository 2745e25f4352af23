-- A node that receives the bytes of a message.
use Rattle.std.proofs.Common.{◌≡◌, ℕ, List, true, false, not, ◌||◌, cond, ◌==◌, Option, None, Result, Ok, Err, refl, sym, ap, ◌∙◌, subst, inl}
use Rattle.std.specs.Option.{option_map_or}
use Rattle.std.specs.Result.{result_ok}
use Rattle.rl_base.proofs.Tests.{neither, true_same}
use Rattle.rl_msg.specs.Parts.{head_of}
use Rattle.rl_msg.specs.Reading.{read_msg}
use Rattle.rl_msg.specs.Ranges.{MsgInRange}
use Rattle.rl_msg.specs.declared.msg.Msg.{Msg}
use Rattle.rl_paxos.specs.Quorums.{is_node}
use Rattle.rl_nodes.specs.Answers.{Answer}
use Rattle.rl_nodes.specs.BadMessages.{is_bad, stream_named}
use Rattle.rl_nodes.specs.Handles.{handles, receives, takes}
use Rattle.rl_nodes.specs.Nodes.{NodeState}
use Rattle.rl_nodes.specs.Setups.{Setup, SetupFits}
use Rattle.rl_nodes.specs.declared.node_error.NodeError.{NodeError}
use Rattle.rl_nodes.specs.declared.node_error.NodeError.TheVariants.{BadMessage, StreamFull, NoEpoch, Memory}
use Rattle.rl_node.specs.Good.{CanTake, TriesToTake, IsWell, CanTakeIn, TriesToTakeIn}
use Rattle.rl_node.specs.Inner.{well, Tries, failed_in}
use Rattle.rl_node.specs.Receiving.{RefusesBytes}
use Rattle.rl_node.specs.Standing.{Stands, IsNode, is_running}
use Rattle.rl_node.specs.declared.answer.Out.{Out}
use Rattle.rl_node.specs.declared.node.Node.{Node}
use Rattle.rl_node.proofs.Good.{is_good, not_false}
use Rattle.rl_node.proofs.Outer.{fails_still, stands_well}

-- ---- what is due for bytes ----

module _ (setup : Setup) (a : ℕ) (x : NodeState) (bytes : List ℕ) where
  abbrev by_reading : Option Msg → Answer
  by_reading o = option_map_or (receives setup a x) o (Err BadMessage)

  -- no message
  pub no_message : result_ok (read_msg bytes) ≡ None → handles setup a x bytes ≡ Err BadMessage
  no_message e = ap (λ o. option_map_or (receives setup a x) o (Err BadMessage)) e

  received : (m : Msg) → read_msg bytes ≡ Ok m → handles setup a x bytes ≡ receives setup a x m
  received m e = ap (λ r. option_map_or (receives setup a x) (result_ok r) (Err BadMessage)) e

  -- a bad one
  pub bad_message : (m : Msg) → read_msg bytes ≡ Ok m → is_bad setup a x m ≡ true → handles setup a x bytes ≡ Err BadMessage
  bad_message m e bad = received m e ∙ ap (λ b. cond b (Err BadMessage) (takes setup a x m)) bad

  -- and one that is taken
  pub good_message : (m : Msg) → read_msg bytes ≡ Ok m → is_bad setup a x m ≡ false → handles setup a x bytes ≡ takes setup a x m
  good_message m e good = received m e ∙ ap (λ b. cond b (Err BadMessage) (takes setup a x m)) good

-- it refuses, and is unchanged
pub refuses_bad : (setup : Setup) (a : ℕ) (n : Node) (x : NodeState) → is_running n ≡ true → Stands setup a n (well x)
    → (answer : Answer) → answer ≡ Err BadMessage → Tries setup a n n x answer (Err BadMessage)
refuses_bad setup a n x up s answer due = record { node = x; stands = s; up = up; keeps = inl refl; reason = (due, refl) }

-- bytes that are not read
pub refuses_bytes : (setup : Setup) (a : ℕ) (n : Node) (x : NodeState) → is_running n ≡ true → Stands setup a n (well x)
    → (bytes : List ℕ) (e : NodeError) → RefusesBytes bytes e → Tries setup a n n x (handles setup a x bytes) (Err e)
refuses_bytes setup a n x up s bytes BadMessage h = refuses_bad setup a n x up s (handles setup a x bytes) (no_message setup a x bytes h)
refuses_bytes setup a n x up s bytes Memory h = fails_still setup a n x up s (handles setup a x bytes) Memory refl
refuses_bytes setup a n x up s bytes (StreamFull slots) h = absurd h
refuses_bytes setup a n x up s bytes (NoEpoch promised) h = absurd h

-- ---- a message by its receiver ----

pub receiver_is : (setup : Setup) (a : ℕ) (x : NodeState) (m : Msg) → is_bad setup a x m ≡ false → (head_of m).to ≡ a
receiver_is setup a x m h =
    let good = is_good setup a x m h in
    let two = neither (not ((head_of m).to == a) || not (is_node setup.nodes (head_of m).from)) (option_map_or (λ s. not (is_node setup.workers s)) (stream_named m) false) good.astray in
    let one = neither (not ((head_of m).to == a)) (not (is_node setup.nodes (head_of m).from)) two.0 in
    true_same (head_of m).to a (not_false ((head_of m).to == a) one.0)

-- a message that is not bad is for this node
module _ (setup : Setup) (n : Node) (to : ℕ) (f : ℕ → Msg) (heads : (t : ℕ) → (head_of (f t)).to ≡ t) where
  for_it : (a : ℕ) (x : NodeState) → Stands setup a n (well x) → is_bad setup a x (f to) ≡ false → to ≡ n.id
  for_it a x s good = sym (heads to) ∙ receiver_is setup a x (f to) good ∙ sym s.number

  pub can_here : CanTakeIn setup n (f to) → CanTakeIn setup n (f n.id)
  can_here can = subst (λ t. CanTakeIn setup n (f t)) (for_it can.number can.node can.stands can.good) can

  pub tries_here : (new : Node) (result : Result Out NodeError) → TriesToTakeIn setup n new (f n.id) result → TriesToTakeIn setup n new (f to) result
  tries_here new result tries a x s good range =
      let same = for_it a x s good in
      subst (λ t. Tries setup a n new x (takes setup a x (f t)) result) (sym same)
      (tries a x s (subst (λ t. is_bad setup a x (f t) ≡ false) same good) (subst (λ t. MsgInRange (f t)) same range))

-- one that can be taken in a setup, and what is tried in every one
pub can_in : (setup : Setup) → SetupFits setup → (n : Node) (m : Msg) → CanTakeIn setup n m → CanTake n m
can_in setup fits n m can = record { setup = setup; fits = fits; number = can.number; node = can.node; stands = can.stands; good = can.good; in_range = can.in_range }

pub tries_in : (setup : Setup) → SetupFits setup → (n new : Node) (m : Msg) (result : Result Out NodeError) → TriesToTake n new m result
    → TriesToTakeIn setup n new m result
tries_in setup fits n new m result tries a x s good range = tries setup a x fits s good range

-- a node that repeats no answer
pub is_well : (setup : Setup) (n : Node) → IsNode setup n → None ≡ failed_in n.phase → IsWell setup n
is_well setup n node none =
    (node.0, node.1.node, stands_well setup node.0 n node.1 none node.2)

-- it can take what is not bad for it
pub can_take : (setup : Setup) (n : Node) (m : Msg) → (node : IsWell setup n) → is_bad setup node.0 node.1 m ≡ false → MsgInRange m → CanTakeIn setup n m
can_take setup n m node good range = record { number = node.0; node = node.1; stands = node.2; good = good; in_range = range }
