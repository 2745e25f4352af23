-- A node takes a Prepare, a Sync or an Accept that is not bad and that its acceptor does not refuse.
use Rattle.std.proofs.Common.{◌≡◌, ℕ, zero, suc, ◌-◌, ◌<◌, List, [], ◌∷◌, length, get_or, take, Bool, true, false, not, ◌&&◌, ◌==◌, nat_lt, cond, is_some, Option, Some, None, refl, sym, ap, ◌∙◌, subst, arith, Result, Ok, IsErrAnd}
use Rattle.rl_base.proofs.Tests.{by_bool, true_same}
use Rattle.rl_families.specs.Streams.{log_at}
use Rattle.rl_msg.specs.declared.msg.Msg.TheVariants as msg
use Rattle.rl_msg.specs.Ranges.{MsgInRange, LogInRange, EmbeddedBatchInRange}
use Rattle.rl_paxos.specs.declared.refused.Refused.{Refused}
use Rattle.rl_paxos.specs.declared.refused.Refused.TheVariants.{Promised, OtherBallot, OutOfOrder}
use Rattle.rl_paxos.specs.Acceptors.{Acceptor, kept_ballot, kept_log, refuses, refuses_accept, prepared, synced, accepted}
use Rattle.rl_txn.specs.declared.batch.Batch.{Batch}
use Rattle.rl_nodes.specs.BadMessages.{is_bad, begins, goes_on, would_append, would_adopt}
use Rattle.rl_nodes.specs.Handles.{takes}
use Rattle.rl_nodes.specs.Nodes.{NodeState}
use Rattle.rl_nodes.specs.Setups.{Setup}
use Rattle.rl_nodes.specs.declared.node_error.NodeError.{NodeError}
use Rattle.rl_nodes.specs.declared.node_error.NodeError.TheVariants.{Memory}
use Rattle.rl_node.specs.Fits.{IsStream, LogFits, AcceptorFits}
use Rattle.rl_node.specs.Inner.{well, Tries}
use Rattle.rl_node.specs.Outs.{IsSending}
use Rattle.rl_node.specs.Standing.{Stands, is_running}
use Rattle.rl_node.specs.declared.answer.Out.{Out}
use Rattle.rl_node.specs.declared.node.Node.{Node}
use Rattle.rl_node.proofs.Acceptors.{not_both, prepared_fits, prepared_keeps, synced_fits, synced_keeps, accepted_fits, accepted_keeps}
use Rattle.rl_node.proofs.Good.{IsGood, is_good, sync_stream, sync_log, accept_stream, accept_log}
use Rattle.rl_node.proofs.Logs.{stamps_of}
use Rattle.rl_node.proofs.Shown.{get_or_map}
use Rattle.rl_node.proofs.Taking.{KeepsThis, same_acceptor, answers, runs_out, promise_from, prepare_due, ack_from, sync_due, accept_due}

-- a batch alone is a log in range
alone_in_range : (batch : List ℕ) → EmbeddedBatchInRange batch → LogInRange (batch ∷ [])
alone_in_range batch r = record { few = omega arith; each = only }
  where
    only : (k : ℕ) (d : List ℕ) → k < 1 → EmbeddedBatchInRange (get_or (batch ∷ []) k d)
    only zero d l = r
    only (suc k) d l = absurd (omega arith)

-- an Accept that is not refused is of the stream's ballot
ballot_is : (x : Acceptor) (e s slot : ℕ) → refuses_accept x e s slot ≡ None → kept_ballot x s ≡ e
ballot_is x e s slot = by_bool (λ b. cond b (Some (Promised x.promised)) (at_ballot (kept_ballot x s == e)) ≡ None → kept_ballot x s ≡ e) (nat_lt e x.promised)
    (λ t h. absurd (cc))
    (λ t. by_bool (λ b. ((kept_ballot x s == e) ≡ b) → at_ballot b ≡ None → kept_ballot x s ≡ e) (kept_ballot x s == e)
    (λ t k h. true_same (kept_ballot x s) e k) (λ t k h. absurd (cc)) refl)
  where
    at_ballot : Bool → Option Refused
    at_ballot b = cond b (cond (nat_lt (length (kept_log x s)) slot) (Some (OutOfOrder (length (kept_log x s)))) None) (Some (OtherBallot (kept_ballot x s)))

module _ (setup : Setup) (a : ℕ) (n : Node) (x : NodeState) (s : Stands setup a n (well x)) (up : is_running n ≡ true) (from e : ℕ) where
  -- ---- a Prepare ----

  module _ (r : MsgInRange (msg.Prepare from n.id e)) (new : Acceptor) (is : new ≡ prepared n.acceptor e) (allowed : refuses n.acceptor e ≡ None) where
    pub prepare_answers : (out : Out) → IsSending (promise_from setup a n x s up from e new ∷ []) out
        → Tries setup a n (record n { acceptor = new }) x (takes setup a x (msg.Prepare from n.id e)) (Ok out)
    prepare_answers out sends =
        subst (λ acc. IsSending (promise_from setup a n x s up from e acc ∷ []) out → Tries setup a n (record n { acceptor = acc }) x (takes setup a x (msg.Prepare from n.id e)) (Ok out)) (sym is)
        (λ sends. answers setup a n x s up (prepared n.acceptor e) (prepared_fits setup n.acceptor e s.acceptor r.epoch_high) (λ run same. prepared_keeps setup n.acceptor e run)
        (promise_from setup a n x s up from e n.acceptor) out sends (takes setup a x (msg.Prepare from n.id e)) (prepare_due setup a n x s up from n.id e allowed)) sends

    pub prepare_runs_out : (result : Result Out NodeError) → IsErrAnd result (λ k. k ≡ Memory)
        → Tries setup a n (record n { acceptor = new }) x (takes setup a x (msg.Prepare from n.id e)) result
    prepare_runs_out result err =
        subst (λ acc. Tries setup a n (record n { acceptor = acc }) x (takes setup a x (msg.Prepare from n.id e)) result) (sym is)
        (runs_out setup a n x s up (prepared n.acceptor e) (prepared_fits setup n.acceptor e s.acceptor r.epoch_high) (λ run same. prepared_keeps setup n.acceptor e run)
        (promise_from setup a n x s up from e n.acceptor) (takes setup a x (msg.Prepare from n.id e)) (prepare_due setup a n x s up from n.id e allowed) result err)

  -- ---- a Sync ----

  module _ (t : ℕ) (log : List (List ℕ)) (good : is_bad setup a x (msg.Sync from n.id e t log) ≡ false) (r : MsgInRange (msg.Sync from n.id e t log))
      (new : Acceptor) (is : new ≡ synced n.acceptor e t log) (allowed : refuses n.acceptor e ≡ None) where
    sync_good : IsGood setup a x (msg.Sync from n.id e t log)
    sync_good = is_good setup a x (msg.Sync from n.id e t log) good

    there : IsStream setup t
    there = sync_stream setup a from n.id e t x log sync_good

    fits : AcceptorFits setup (synced n.acceptor e t log)
    fits = synced_fits setup n.acceptor s.acceptor e t there log r.0.epoch_high (record { in_range = r.2; right = sync_log setup a from n.id e t x log sync_good })

    keeps : KeepsThis setup x n.acceptor (synced n.acceptor e t log)
    keeps run same f = synced_keeps setup n.acceptor s.acceptor e t there log r.0.epoch_high run allowed untrue f
      where
        untrue : (would_adopt n.acceptor e t && not (begins (take (length (log_at run.known t)) (kept_log n.acceptor t)) log)) ≡ false
        untrue =
            subst (λ k. (would_adopt n.acceptor e t && not (begins (take k (kept_log n.acceptor t)) log)) ≡ false)
            (ap (λ ks. get_or ks (t - 1) 0) (sym same) ∙ get_or_map (λ (l : List Batch). length l) run.known (t - 1) [])
            (subst (λ y. (would_adopt y e t && not (begins (take (get_or x.known (t - 1) 0) (kept_log y t)) log)) ≡ false) (same_acceptor setup a n x s up) sync_good.untrue)

    pub sync_answers : (len : ℕ) → len ≡ length (kept_log new t) → (out : Out) → IsSending (msg.Ack n.id from e t len ∷ []) out
        → Tries setup a n (record n { acceptor = new }) x (takes setup a x (msg.Sync from n.id e t log)) (Ok out)
    sync_answers len length_is out sends =
        subst (λ acc. Tries setup a n (record n { acceptor = acc }) x (takes setup a x (msg.Sync from n.id e t log)) (Ok out)) (sym is)
        (answers setup a n x s up (synced n.acceptor e t log) fits keeps (ack_from setup a n x s up from e t (synced n.acceptor e t log)) out
        (subst (λ k. IsSending (msg.Ack n.id from e t k ∷ []) out) (length_is ∙ ap (λ (acc : Acceptor). length (kept_log acc t)) is) sends)
        (takes setup a x (msg.Sync from n.id e t log)) (sync_due setup a n x s up from n.id e t log allowed))

    pub sync_runs_out : (result : Result Out NodeError) → IsErrAnd result (λ k. k ≡ Memory)
        → Tries setup a n (record n { acceptor = new }) x (takes setup a x (msg.Sync from n.id e t log)) result
    sync_runs_out result err =
        subst (λ acc. Tries setup a n (record n { acceptor = acc }) x (takes setup a x (msg.Sync from n.id e t log)) result) (sym is)
        (runs_out setup a n x s up (synced n.acceptor e t log) fits keeps (ack_from setup a n x s up from e t (synced n.acceptor e t log))
        (takes setup a x (msg.Sync from n.id e t log)) (sync_due setup a n x s up from n.id e t log allowed) result err)

  -- ---- an Accept ----

  module _ (t slot : ℕ) (batch : List ℕ) (good : is_bad setup a x (msg.Accept from n.id e t slot batch) ≡ false) (r : MsgInRange (msg.Accept from n.id e t slot batch))
      (new : Acceptor) (is : new ≡ accepted n.acceptor t slot batch) (allowed : refuses_accept n.acceptor e t slot ≡ None) where
    accept_good : IsGood setup a x (msg.Accept from n.id e t slot batch)
    accept_good = is_good setup a x (msg.Accept from n.id e t slot batch) good

    stream_there : IsStream setup t
    stream_there = accept_stream setup a from n.id e t x slot batch accept_good

    ballot : kept_ballot n.acceptor t ≡ e
    ballot = ballot_is n.acceptor e t slot allowed

    goes : (slot == length (kept_log n.acceptor t)) ≡ true → goes_on (stamps_of (kept_log n.acceptor t)) (stamps_of (batch ∷ [])) ≡ true
    goes h =
        not_both (would_append n.acceptor e t slot) (goes_on (stamps_of (kept_log n.acceptor t)) (stamps_of (batch ∷ [])))
        (ap (λ o. not (is_some o) && (slot == length (kept_log n.acceptor t))) allowed ∙ h)
        (subst (λ y. (would_append y e t slot && not (goes_on (stamps_of (kept_log y t)) (stamps_of (batch ∷ [])))) ≡ false) (same_acceptor setup a n x s up) accept_good.untrue)

    accept_fits : AcceptorFits setup (accepted n.acceptor t slot batch)
    accept_fits = accepted_fits setup n.acceptor s.acceptor e t slot stream_there batch r.2
        (subst (λ k. LogFits setup.program.tables t k (batch ∷ [])) (sym ballot)
        (record { in_range = alone_in_range batch r.3; right = accept_log setup a from n.id e t x slot batch accept_good })) goes

    accept_keeps : KeepsThis setup x n.acceptor (accepted n.acceptor t slot batch)
    accept_keeps run same f = accepted_keeps setup n.acceptor s.acceptor e t slot stream_there batch run f

    pub accept_answers : (len : ℕ) → len ≡ length (kept_log new t) → (out : Out) → IsSending (msg.Ack n.id from e t len ∷ []) out
        → Tries setup a n (record n { acceptor = new }) x (takes setup a x (msg.Accept from n.id e t slot batch)) (Ok out)
    accept_answers len length_is out sends =
        subst (λ acc. Tries setup a n (record n { acceptor = acc }) x (takes setup a x (msg.Accept from n.id e t slot batch)) (Ok out)) (sym is)
        (answers setup a n x s up (accepted n.acceptor t slot batch) accept_fits accept_keeps (ack_from setup a n x s up from e t (accepted n.acceptor t slot batch)) out
        (subst (λ k. IsSending (msg.Ack n.id from e t k ∷ []) out) (length_is ∙ ap (λ (acc : Acceptor). length (kept_log acc t)) is) sends)
        (takes setup a x (msg.Accept from n.id e t slot batch)) (accept_due setup a n x s up from n.id e t slot batch allowed))

    pub accept_runs_out : (result : Result Out NodeError) → IsErrAnd result (λ k. k ≡ Memory)
        → Tries setup a n (record n { acceptor = new }) x (takes setup a x (msg.Accept from n.id e t slot batch)) result
    accept_runs_out result err =
        subst (λ acc. Tries setup a n (record n { acceptor = acc }) x (takes setup a x (msg.Accept from n.id e t slot batch)) result) (sym is)
        (runs_out setup a n x s up (accepted n.acceptor t slot batch) accept_fits accept_keeps (ack_from setup a n x s up from e t (accepted n.acceptor t slot batch))
        (takes setup a x (msg.Accept from n.id e t slot batch)) (accept_due setup a n x s up from n.id e t slot batch allowed) result err)
