-- A node that answers a message to its acceptor, or refuses it.
use Rattle.std.proofs.Common.{◌≡◌, ◌⊎◌, ℕ, List, [], ◌∷◌, map, length, true, Some, None, refl, sym, ap, ◌∙◌, subst, inl, inr, Result, Ok, Err, IsErrAnd, IsOkAnd, arith}
use Rattle.std.proofs.lemmas.Result.{err_from_is_err_and}
use Rattle.rl_msg.specs.declared.msg.Msg.{Msg}
use Rattle.rl_msg.specs.declared.msg.Msg.TheVariants as msg
use Rattle.rl_paxos.specs.declared.refused.Refused.{Refused}
use Rattle.rl_paxos.specs.declared.refused.Refused.TheVariants as refusals
use Rattle.rl_paxos.specs.Acceptors.{Kept, Acceptor, kept_log, refuses, refuses_accept, prepared, synced, accepted}
use Rattle.rl_txn.specs.declared.batch.Batch.{Batch}
use Rattle.rl_nodes.specs.Answers.{Did, Answer, sending, quiet, unless_denied}
use Rattle.rl_nodes.specs.Calls.{Standing}
use Rattle.rl_nodes.specs.Handles.{takes, promises, acks}
use Rattle.rl_nodes.specs.Nodes.{NodeState}
use Rattle.rl_nodes.specs.Setups.{Setup}
use Rattle.rl_nodes.specs.declared.node_error.NodeError.{NodeError}
use Rattle.rl_nodes.specs.declared.node_error.NodeError.TheVariants.{Memory}
use Rattle.rl_node.specs.Fits.{AcceptorFits, RunningFits}
use Rattle.rl_node.specs.Inner.{well, HasNot, Tries}
use Rattle.rl_node.specs.Outs.{IsOut, IsSending}
use Rattle.rl_node.specs.Refusing.{refusing, refused_with}
use Rattle.rl_node.specs.Standing.{StandsIn, Stands, is_running, is_up_in}
use Rattle.rl_node.specs.declared.answer.Out.{Out}
use Rattle.rl_node.specs.declared.node.Node.{Node}
use Rattle.rl_node.specs.declared.node.Phase.{Phase}
use Rattle.rl_node.specs.declared.node.Phase.TheVariants.{Up, Down, Lost}
use Rattle.rl_node.specs.declared.running.Running.{Running}
use Rattle.rl_node.proofs.Beginnings.{acceptor_is}
use Rattle.rl_node.proofs.Elections.{sends_out}
use Rattle.rl_node.proofs.Outer.{fails_still}

-- ---- another acceptor ----

-- what a node has while it is up is also of another acceptor
abbrev pub KeepsThis : Setup → NodeState → (old new : Acceptor) → Type 0
KeepsThis setup x old new = (r : Running) → map (λ (log : List Batch). length log) r.known ≡ x.known → RunningFits setup old r → RunningFits setup new r

kept_in : (setup : Setup) (old new : Acceptor) (phase : Phase) (x : NodeState) → KeepsThis setup x old new → is_up_in phase ≡ true
    → StandsIn setup old phase (well x) → StandsIn setup new phase (well (record x { acceptor = new }))
kept_in setup old new (Up r) x keeps up s = record {
  fits = keeps r (sym (ap (λ (y : Standing). y.node.known) s.is)) s.fits;
  part = s.part;
  stands = s.stands;
  is = ap (λ (y : Standing). record y { node = record y.node { acceptor = new } }) s.is;
}
kept_in setup old new Down x keeps up s = absurd (cc)
kept_in setup old new Lost x keeps up s = absurd (cc)

module _ (setup : Setup) (a : ℕ) (n : Node) (x : NodeState) (s : Stands setup a n (well x)) (up : is_running n ≡ true) where
  pub same_acceptor : x.acceptor ≡ n.acceptor
  same_acceptor = acceptor_is setup a n (well x) s

  module _ (new : Acceptor) (fits : AcceptorFits setup new) (keeps : KeepsThis setup x n.acceptor new) where
    now_stands : Stands setup a (record n { acceptor = new }) (well (record x { acceptor = new }))
    now_stands = record {
      number = s.number;
      first = s.first;
      last = s.last;
      acceptor = fits;
      phase = kept_in setup n.acceptor new n.phase x keeps up s.phase;
    }

    -- it answers
    pub answers : (m : Msg) (out : Out) → IsSending (m ∷ []) out → (answer : Answer)
        → answer ≡ Ok (sending (record x { acceptor = new }) (m ∷ [])) → Tries setup a n (record n { acceptor = new }) x answer (Ok out)
    answers m out sends answer due = record {
      did = sending (record x { acceptor = new }) (m ∷ []);
      due = due;
      stands = now_stands;
      hands_out = sends_out (record x { acceptor = new }) (m ∷ []) out sends;
    }

    -- or runs out of memory
    pub runs_out : (m : Msg) (answer : Answer) → answer ≡ Ok (sending (record x { acceptor = new }) (m ∷ [])) → (result : Result Out NodeError)
        → IsErrAnd result (λ e. e ≡ Memory) → Tries setup a n (record n { acceptor = new }) x answer result
    runs_out m answer due result is =
        let p = err_from_is_err_and result is in
        subst (Tries setup a n (record n { acceptor = new }) x answer) (sym p.1)
        (subst (λ e. HasNot setup a n (record n { acceptor = new }) x answer e) (sym p.2) (record {
          node = record x { acceptor = new };
          stands = now_stands;
          up = up;
          keeps = inr (subst (λ (o : Answer). IsOkAnd o (λ (did : Did). new ≡ did.node.acceptor)) (sym due) refl);
          reason = tt;
        }))

  -- it refuses a message, and is unchanged
  pub refuses_it : (r : Refused) (out : Out) → out ≡ record { sends = []; opened = None; denied = Some r; released = [] }
      → (answer : Answer) → answer ≡ Ok (record (quiet x) { denied = Some r }) → (new : Acceptor) → new ≡ n.acceptor
      → Tries setup a n (record n { acceptor = new }) x answer (Ok out)
  refuses_it r out is answer due new same = record {
    did = record (quiet x) { denied = Some r };
    due = due;
    stands = subst (λ acc. Stands setup a (record n { acceptor = acc }) (well x)) (sym same) s;
    hands_out = subst (IsOut (record (quiet x) { denied = Some r })) (sym is)
        (record { sends = refl; in_range = λ k d l. absurd (omega (arith, l)); opened = refl; denied = refl; released = refl });
  }

  -- ---- a Prepare ----

  abbrev pub promise_from : (from e : ℕ) → Acceptor → Msg
  promise_from from e y = msg.Promise n.id from e (map (λ (k : Kept). k.ballot) y.streams) (map (λ (k : Kept). k.log) y.streams)

  pub prepare_due : (from to e : ℕ) → refuses n.acceptor e ≡ None
      → takes setup a x (msg.Prepare from to e) ≡ Ok (sending (record x { acceptor = prepared n.acceptor e }) (promise_from from e n.acceptor ∷ []))
  prepare_due from to e allowed =
      ap (λ o. Ok (unless_denied o x (promises a x from e))) (ap (λ y. refuses y e) same_acceptor ∙ allowed)
      ∙ ap (λ (y : Acceptor). Ok (sending (record x { acceptor = prepared y e })
      (msg.Promise a from e (map (λ (k : Kept). k.ballot) y.streams) (map (λ (k : Kept). k.log) y.streams) ∷ []))) same_acceptor
      ∙ ap (λ b. Ok (sending (record x { acceptor = prepared n.acceptor e })
      (msg.Promise b from e (map (λ (k : Kept). k.ballot) n.acceptor.streams) (map (λ (k : Kept). k.log) n.acceptor.streams) ∷ []))) (sym s.number)

  pub prepare_denied : (from to e : ℕ) (r : Refused) → refuses n.acceptor e ≡ Some r
      → takes setup a x (msg.Prepare from to e) ≡ Ok (record (quiet x) { denied = Some r })
  prepare_denied from to e r denied = ap (λ o. Ok (unless_denied o x (promises a x from e))) (ap (λ y. refuses y e) same_acceptor ∙ denied)

  -- ---- a Sync, and an Accept ----

  abbrev pub ack_from : (from e t : ℕ) → Acceptor → Msg
  ack_from from e t y = msg.Ack n.id from e t (length (kept_log y t))

  pub sync_due : (from to e t : ℕ) (log : List (List ℕ)) → refuses n.acceptor e ≡ None
      → takes setup a x (msg.Sync from to e t log)
      ≡ Ok (sending (record x { acceptor = synced n.acceptor e t log }) (ack_from from e t (synced n.acceptor e t log) ∷ []))
  sync_due from to e t log allowed =
      ap (λ o. Ok (unless_denied o x (acks a x from e t (synced x.acceptor e t log)))) (ap (λ y. refuses y e) same_acceptor ∙ allowed)
      ∙ ap (λ y. Ok (acks a x from e t (synced y e t log))) same_acceptor
      ∙ ap (λ b. Ok (sending (record x { acceptor = synced n.acceptor e t log }) (msg.Ack b from e t (length (kept_log (synced n.acceptor e t log) t)) ∷ []))) (sym s.number)

  pub sync_denied : (from to e t : ℕ) (log : List (List ℕ)) (r : Refused) → refuses n.acceptor e ≡ Some r
      → takes setup a x (msg.Sync from to e t log) ≡ Ok (record (quiet x) { denied = Some r })
  sync_denied from to e t log r denied =
      ap (λ o. Ok (unless_denied o x (acks a x from e t (synced x.acceptor e t log)))) (ap (λ y. refuses y e) same_acceptor ∙ denied)

  pub accept_due : (from to e t slot : ℕ) (batch : List ℕ) → refuses_accept n.acceptor e t slot ≡ None
      → takes setup a x (msg.Accept from to e t slot batch)
      ≡ Ok (sending (record x { acceptor = accepted n.acceptor t slot batch }) (ack_from from e t (accepted n.acceptor t slot batch) ∷ []))
  accept_due from to e t slot batch allowed =
      ap (λ o. Ok (unless_denied o x (acks a x from e t (accepted x.acceptor t slot batch)))) (ap (λ y. refuses_accept y e t slot) same_acceptor ∙ allowed)
      ∙ ap (λ y. Ok (acks a x from e t (accepted y t slot batch))) same_acceptor
      ∙ ap (λ b. Ok (sending (record x { acceptor = accepted n.acceptor t slot batch }) (msg.Ack b from e t (length (kept_log (accepted n.acceptor t slot batch) t)) ∷ []))) (sym s.number)

  pub accept_denied : (from to e t slot : ℕ) (batch : List ℕ) (r : Refused) → refuses_accept n.acceptor e t slot ≡ Some r
      → takes setup a x (msg.Accept from to e t slot batch) ≡ Ok (record (quiet x) { denied = Some r })
  accept_denied from to e t slot batch r denied =
      ap (λ o. Ok (unless_denied o x (acks a x from e t (accepted x.acceptor t slot batch)))) (ap (λ y. refuses_accept y e t slot) same_acceptor ∙ denied)

  -- a refusal of the acceptor, or the want of memory
  pub accept_refused : (from to e t slot : ℕ) (batch : List ℕ) (refused : Refused)
      → (refuses_accept n.acceptor e t slot ≡ Some refused) ⊎ ((refused ≡ refusals.Memory) × (refuses_accept n.acceptor e t slot ≡ None))
      → (new : Acceptor) → new ≡ n.acceptor
      → Tries setup a n (record n { acceptor = new }) x (takes setup a x (msg.Accept from to e t slot batch)) (refused_with refused)
  accept_refused from to e t slot batch refusals.Memory h new same =
      subst (λ acc. Tries setup a n (record n { acceptor = acc }) x (takes setup a x (msg.Accept from to e t slot batch)) (Err Memory)) (sym same)
      (fails_still setup a n x up s (takes setup a x (msg.Accept from to e t slot batch)) Memory refl)
  accept_refused from to e t slot batch (refusals.Promised p) h new same =
      refuses_it (refusals.Promised p) (refusing (refusals.Promised p)) refl (takes setup a x (msg.Accept from to e t slot batch))
      (accept_denied from to e t slot batch (refusals.Promised p) (elim h [ inl k ↦ k | inr k ↦ absurd (let e1 = k.0 in cc) ])) new same
  accept_refused from to e t slot batch (refusals.OtherBallot p) h new same =
      refuses_it (refusals.OtherBallot p) (refusing (refusals.OtherBallot p)) refl (takes setup a x (msg.Accept from to e t slot batch))
      (accept_denied from to e t slot batch (refusals.OtherBallot p) (elim h [ inl k ↦ k | inr k ↦ absurd (let e1 = k.0 in cc) ])) new same
  accept_refused from to e t slot batch (refusals.OutOfOrder p) h new same =
      refuses_it (refusals.OutOfOrder p) (refusing (refusals.OutOfOrder p)) refl (takes setup a x (msg.Accept from to e t slot batch))
      (accept_denied from to e t slot batch (refusals.OutOfOrder p) (elim h [ inl k ↦ k | inr k ↦ absurd (let e1 = k.0 in cc) ])) new same
