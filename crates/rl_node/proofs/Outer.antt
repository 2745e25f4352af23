-- From what a call of a node that answers calls does, to what any call does.
use Rattle.std.proofs.Common.{◌≡◌, ℕ, true, refl, sym, ap, ◌∙◌, subst, Option, Some, None, Result, Ok, Err, IsErrAnd, inl}
use Rattle.std.proofs.lemmas.Result.{err_from_is_err_and}
use Rattle.rl_nodes.specs.Answers.{Answer}
use Rattle.rl_nodes.specs.Calls.{Standing, IsRefused}
use Rattle.rl_nodes.specs.Nodes.{NodeState}
use Rattle.rl_nodes.specs.Setups.{Setup}
use Rattle.rl_nodes.specs.declared.node_error.NodeError.{NodeError}
use Rattle.rl_nodes.specs.declared.node_error.NodeError.TheVariants.{BadMessage, StreamFull, NoEpoch, Memory}
use Rattle.rl_node.specs.Doing.{Does, Refuses, DoesDue, RefusesDue}
use Rattle.rl_node.specs.Inner.{well, HasDone, HasNot, Tries, TriesDue, failed_in, with_failed_in, with_failed, repeated, noted}
use Rattle.rl_node.specs.Standing.{Stands, StandsIn, is_running, is_up_in}
use Rattle.rl_node.specs.declared.node.Node.{Node}
use Rattle.rl_node.specs.declared.node.Phase.{Phase}
use Rattle.rl_node.specs.declared.node.Phase.TheVariants.{Up, Down, Lost}
use Rattle.rl_node.specs.declared.answer.Out.{Out}
use Rattle.rl_paxos.specs.Acceptors.{Acceptor}

-- what a node repeats is what its fields say
failed_by : (setup : Setup) (acceptor : Acceptor) (phase : Phase) (x : Standing) → StandsIn setup acceptor phase x
    → x.failed ≡ failed_in phase
failed_by setup acceptor (Up r) x s = subst (λ y. y.failed ≡ r.failed) (sym s.is) refl
failed_by setup acceptor Down x s = subst (λ y. y.failed ≡ None) (sym s) refl
failed_by setup acceptor Lost x s = subst (λ y. y.failed ≡ None) (sym s) refl

failed_is : (setup : Setup) (a : ℕ) (n : Node) (x : Standing) → Stands setup a n x → x.failed ≡ failed_in n.phase
failed_is setup a n x s = failed_by setup n.acceptor n.phase x s.phase

abbrev with_answer : NodeState → Option NodeError → Standing
with_answer x f = record { node = x; failed = f }

well_by : (x : Standing) → x.failed ≡ None → x ≡ well x.node
well_by x e = ap (λ f. with_answer x.node f) e

-- a node that repeats no answer
pub stands_well : (setup : Setup) (a : ℕ) (n : Node) (x : Standing) → None ≡ failed_in n.phase → Stands setup a n x → Stands setup a n (well x.node)
stands_well setup a n x none s = subst (Stands setup a n) (well_by x (failed_is setup a n x s ∙ sym none)) s

-- a node that repeats an answer
abbrev failing : NodeState → NodeError → Standing
failing x f = record { node = x; failed = Some f }

-- a node that is up and notes a failure stands for the same with that failure
noting_in : (setup : Setup) (acceptor : Acceptor) (phase : Phase) (x : NodeState) (f : NodeError) → is_up_in phase ≡ true
    → StandsIn setup acceptor phase (well x)
    → StandsIn setup acceptor (with_failed_in phase (Some f)) (record { node = x; failed = Some f })
noting_in setup acceptor (Up r) x f up s = record {
  fits = record { known_streams = s.fits.known_streams; known = s.fits.known; played_streams = s.fits.played_streams; begins = s.fits.begins; rows = s.fits.rows };
  part = s.part;
  stands = s.stands;
  is = ap (λ (y : Standing). failing y.node f) s.is;
}
noting_in setup acceptor Down x f up s = absurd (cc)
noting_in setup acceptor Lost x f up s = absurd (cc)

noting : (setup : Setup) (a : ℕ) (n : Node) (x : NodeState) (f : NodeError) → is_running n ≡ true → Stands setup a n (well x)
    → Stands setup a (with_failed n (Some f)) (record { node = x; failed = Some f })
noting setup a n x f up s = record {
  number = s.number;
  first = s.first;
  last = s.last;
  acceptor = s.acceptor;
  phase = noting_in setup n.acceptor n.phase x f up s.phase;
}

-- a call that did what was due
does : (setup : Setup) (a : ℕ) (n : Node) (y : NodeState) (answer : Answer) (out : Out) → HasDone setup a n answer out
    → Does setup a n (well y) answer out
does setup a n y answer out d = record {
  did = d.did;
  new = well d.did.node;
  stands = d.stands;
  done = record { could = refl; due = d.due; node = refl; can = refl };
  hands_out = d.hands_out;
}

-- and one that did not
refuses : (setup : Setup) (a : ℕ) (n n' : Node) (y : NodeState) (answer : Answer) (e : NodeError)
    → Stands setup a n (well y) → HasNot setup a n n' y answer e → Refuses setup a (with_failed n' (repeated e)) (well y) answer e
refuses setup a n n' y answer BadMessage s h = record {
  new = well y;
  stands = subst (λ m. Stands setup a m (well y)) (sym h.reason.1) s;
  refused = (h.reason.0, refl);
}
refuses setup a n n' y answer (NoEpoch promised) s h = record {
  new = well y;
  stands = subst (λ m. Stands setup a m (well y)) (sym h.reason.1) s;
  refused = (h.reason.0, refl);
}
refuses setup a n n' y answer (StreamFull slots) s h = record {
  new = record { node = h.node; failed = Some (StreamFull slots) };
  stands = noting setup a n' h.node (StreamFull slots) h.up h.stands;
  refused = (h.reason, refl, h.keeps);
}
refuses setup a n n' y answer Memory s h = record {
  new = record { node = h.node; failed = Some Memory };
  stands = noting setup a n' h.node Memory h.up h.stands;
  refused = (refl, h.keeps);
}

module _ (setup : Setup) (due : ℕ → NodeState → Answer) (n n' : Node) (none : failed_in n.phase ≡ None) where
  well_stands : (a : ℕ) (x : Standing) → Stands setup a n x → x ≡ well x.node
  well_stands a x s = well_by x (failed_is setup a n x s ∙ none)

  pub does_due : (result : Result Out NodeError) → TriesDue setup due n n' result → DoesDue setup due n (noted n' result) result
  does_due (Ok out) t a x s =
      let e = well_stands a x s in
      let s' : Stands setup a n (well x.node) = subst (Stands setup a n) e s in
      subst (λ y. Does setup a n' y (due a x.node) out) (sym e) (does setup a n' x.node (due a x.node) out (t a x.node s'))
  does_due (Err e) t a x s = tt

  pub refuses_due : (result : Result Out NodeError) → TriesDue setup due n n' result → RefusesDue setup due n (noted n' result) result
  refuses_due (Ok out) t a x s = tt
  refuses_due (Err error) t a x s =
      let e = well_stands a x s in
      let s' : Stands setup a n (well x.node) = subst (Stands setup a n) e s in
      subst (λ y. Refuses setup a (noted n' (Err error)) y (due a x.node) error) (sym e)
      (refuses setup a n n' x.node (due a x.node) error s' (t a x.node s'))

-- a node that repeats an answer is unchanged
pub repeats_due : (setup : Setup) (due : ℕ → NodeState → Answer) (n : Node) (f : NodeError) → failed_in n.phase ≡ Some f
    → RefusesDue setup due n n (Err f)
repeats_due setup due n f some a x s = record {
  new = x;
  stands = s;
  refused =
      let P : Option NodeError → Type 0 = λ o. IsRefused (record { node = x.node; failed = o }) (record { node = x.node; failed = o }) (due a x.node) f in
      subst P (sym (failed_is setup a n x s ∙ some)) (refl, refl);
}

-- a call that notes its answer
pub notes_done : (setup : Setup) (due : ℕ → NodeState → Answer) (n n' n2 : Node) (answer : Result Out NodeError)
    → None ≡ failed_in n.phase → TriesDue setup due n n' answer → n2 ≡ noted n' answer → DoesDue setup due n n2 answer
notes_done setup due n n' n2 answer none t e = subst (λ m. DoesDue setup due n m answer) (sym e) (does_due setup due n n' (sym none) answer t)

pub notes_refused : (setup : Setup) (due : ℕ → NodeState → Answer) (n n' n2 : Node) (answer : Result Out NodeError)
    → None ≡ failed_in n.phase → TriesDue setup due n n' answer → n2 ≡ noted n' answer → RefusesDue setup due n n2 answer
notes_refused setup due n n' n2 answer none t e = subst (λ m. RefusesDue setup due n m answer) (sym e) (refuses_due setup due n n' (sym none) answer t)

-- it runs out of memory where nothing has changed
pub fails_still : (setup : Setup) (a : ℕ) (n : Node) (x : NodeState) → is_running n ≡ true → Stands setup a n (well x)
    → (answer : Answer) (e : NodeError) → e ≡ Memory → Tries setup a n n x answer (Err e)
fails_still setup a n x up s answer e memory =
    subst (λ e. HasNot setup a n n x answer e) (sym memory) (record { node = x; stands = s; up = up; keeps = inl refl; reason = tt })

-- the same by an error that was handed on
pub repeats_by : (setup : Setup) (due : ℕ → NodeState → Answer) (n : Node) (f : NodeError) (result : Result Out NodeError)
    → Some f ≡ failed_in n.phase → IsErrAnd result (λ e. e ≡ f) → RefusesDue setup due n n result
repeats_by setup due n f result some is =
    let p = err_from_is_err_and result is in
    subst (RefusesDue setup due n n) (sym p.1) (repeats_due setup due n p.0 (sym some ∙ ap Some (sym p.2)))

-- and of memory
pub fails_by : (setup : Setup) (a : ℕ) (n : Node) (x : NodeState) → is_running n ≡ true → Stands setup a n (well x)
    → (answer : Answer) (result : Result Out NodeError) → IsErrAnd result (λ e. e ≡ Memory) → Tries setup a n n x answer result
fails_by setup a n x up s answer result is =
    let p = err_from_is_err_and result is in
    subst (Tries setup a n n x answer) (sym p.1) (fails_still setup a n x up s answer p.0 p.2)

-- a node that repeats no answer, and its call that ran out of memory
module _ (setup : Setup) (a : ℕ) (n : Node) (x : Standing) (none : None ≡ failed_in n.phase) (s : Stands setup a n x) where
  pub not_failed : x.failed ≡ None
  not_failed = failed_is setup a n x s ∙ sym none

  pub refuses_memory : (n' n2 : Node) (answer : Answer) → HasNot setup a n n' x.node answer Memory → n2 ≡ with_failed n' (Some Memory)
      → Refuses setup a n2 x answer Memory
  refuses_memory n' n2 answer h e =
      subst (λ m. Refuses setup a m x answer Memory) (sym e)
      (subst (λ y. Refuses setup a (with_failed n' (Some Memory)) y answer Memory) (sym (well_by x not_failed))
      (refuses setup a n n' x.node answer Memory (stands_well setup a n x none s) h))
