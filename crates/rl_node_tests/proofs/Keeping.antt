-- A node is one of its run after each call.
use Rattle.std.proofs.Common.{◌≡◌, ℕ, ◌+◌, ◌<◌, List, ◌++◌, ◌∷◌, [], length, set, get_or, None, Result, Ok, Err, sym, ap, subst, ◌∙◌, length-append, arith}
use Rattle.std.specs.Prelude.{All, IfOk, IfErr, OnOk, OnErr}
use Rattle.std.specs.Vec.{with_item}
use Rattle.std.proofs.lemmas.List.{length-set}
use Rattle.std.proofs.lemmas.List.Elements.{All-set, All-append, All-cons, All-nil}
use Rattle.rl_base.specs.declared.memory.Memory.{Memory}
use Rattle.rl_nodes.specs.Answers.{Answer, quiet}
use Rattle.rl_nodes.specs.Calls.{Standing}
use Rattle.rl_nodes.specs.Elections.{returned}
use Rattle.rl_nodes.specs.Nodes.{NodeState}
use Rattle.rl_nodes.specs.Setups.{Setup}
use Rattle.rl_nodes.specs.Views.{plays}
use Rattle.rl_nodes.specs.declared.node_error.NodeError.{NodeError}
use Rattle.rl_node.specs.Doing.{DoesDue, Refuses, RefusesDue}
use Rattle.rl_node.specs.Playing.{HasPlayed}
use Rattle.rl_node.specs.SetupOf.{setup_of}
use Rattle.rl_node.specs.Standing.{Stands, IsNode}
use Rattle.rl_node.specs.declared.answer.Out.{Out}
use Rattle.rl_node.specs.declared.node.Node.{Node}
use Rattle.rl_world.proofs.Answering.{node_after}
use Rattle.rl_node_tests.specs.Groups.{IsGroup}
use Rattle.rl_node_tests.specs.declared.group.Group.TheInside.{Inside}

-- after a call that was due something
pub after_call : (setup : Setup) (old new : Node) (due : ℕ → NodeState → Answer) (result : Result Out NodeError)
    → IsNode setup old → DoesDue setup due old new result → RefusesDue setup due old new result → IsNode setup new
after_call setup old new due result is does refuses =
    node_after setup is.0 new is.1 (due is.0 is.1.node) result (does is.0 is.1 is.2) (refuses is.0 is.1 is.2)

-- after its replica has played
pub after_play : (setup : Setup) (old new : Node) (s : ℕ) (result : Result ℕ NodeError) → IsNode setup old
    → ((a : ℕ) (x : Standing) → Stands setup a old x → IfOk result (HasPlayed setup a new x s))
    → ((a : ℕ) (x : Standing) → Stands setup a old x → IfErr result (Refuses setup a new x (Ok (quiet (plays setup x.node s)))))
    → IsNode setup new
after_play setup old new s (Ok count) is done refuses =
    let h = done is.0 is.1 is.2 in (is.0, h.new, h.stands)
after_play setup old new s (Err error) is done refuses =
    let h = refuses is.0 is.1 is.2 in (is.0, h.new, h.stands)

-- after it came back, or could not
pub after_return : (setup : Setup) (old new : Node) (result : Result (Unit {0}) Memory) → IsNode setup old
    → OnOk result ((a : ℕ) (x : Standing) → Stands setup a old x → Stands setup a new (record { node = returned x.node; failed = None }))
    → OnErr result (new ≡ old) → IsNode setup new
after_return setup old new (Ok done) is ok err = (is.0, (record { node = returned is.1.node; failed = None }), ok is.0 is.1 is.2)
after_return setup old new (Err error) is ok err = subst (IsNode setup) (sym err) is

-- after one of some nodes has changed
pub one_changed : (g : Inside) (at : ℕ) (n : Node) → IsGroup g → IsNode (setup_of g.setup) n
    → IsGroup (record { setup = g.setup; nodes = with_item g.nodes at n })
one_changed g at n is node = record {
  fits = is.fits;
  some = subst (λ k. 0 < k) (sym (length-set g.nodes.items at n)) is.some;
  each = All-set (IsNode (setup_of g.setup)) g.nodes.items at n node is.each;
}

-- one of some nodes, as it is read
pub member : (g : Inside) (at : ℕ) (n : Node) → IsGroup g → at < length g.nodes.items → n ≡ get_or g.nodes.items at n → IsNode (setup_of g.setup) n
member g at n is below read = subst (IsNode (setup_of g.setup)) (sym read) (is.each at n below)

-- some nodes and one more
module _ (setup : Setup) (before after : List Node) (n : Node) (is : after ≡ before ++ n ∷ []) where
  pub more_some : 0 < length after
  more_some =
      let longer : length after ≡ length before + length (n ∷ []) = ap (λ (xs : List Node). length xs) is ∙ length-append before (n ∷ []) in
      omega (arith, longer)

  pub more_each : All (IsNode setup) before → IsNode setup n → All (IsNode setup) after
  more_each each node =
      subst (All (IsNode setup)) (sym is)
      (All-append (IsNode setup) before (n ∷ []) each (All-cons (IsNode setup) n [] node (All-nil (IsNode setup))))
