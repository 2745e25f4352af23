-- A node that takes an Ack.
use Rattle.std.proofs.Common.{◌≡◌, ◌≢◌, ℕ, ◌≤◌, length, Bool, true, false, true≢false, not, ◌&&◌, ◌||◌, cond, ◌==◌, nat_lt, refl, sym, ap, ◌∙◌, subst, arith}
use Rattle.std.proofs.lemmas.Bool.Decides.{nat_tests}
use Rattle.rl_msg.specs.declared.msg.Msg.TheVariants as msg
use Rattle.rl_paxos.specs.Quorums.{is_node}
use Rattle.rl_nodes.proofs.ChangesInStreams.{by_node}
use Rattle.rl_nodes.specs.Answers.{quiet}
use Rattle.rl_nodes.specs.BadMessages.{is_past_end}
use Rattle.rl_nodes.specs.Handles.{takes_ack, counts_ack}
use Rattle.rl_nodes.specs.Nodes.{NodeState, Part}
use Rattle.rl_nodes.specs.Setups.{Setup}
use Rattle.rl_node.specs.Counting.{count_in, count_due, IsWithinLead}
use Rattle.rl_node.specs.Fits.{IsStream}
use Rattle.rl_node.specs.Leading.{stream_of}
use Rattle.rl_node.specs.Standing.{StandsPart, StandsLead, lead_with}
use Rattle.rl_node.specs.declared.part.Lead as leads
use Rattle.rl_node.specs.declared.part.Part as code
use Rattle.rl_node.specs.declared.part.Part.TheVariants as part
use Rattle.rl_node.proofs.Good.{IsGood, not_false}
use Rattle.rl_base.proofs.Tests.{neither}

same_numbers : (a b : ℕ) → a ≡ b → (a == b) ≡ true
same_numbers a b e = grind (arith, nat_tests)

other_numbers : (a b : ℕ) → a ≢ b → (a == b) ≡ false
other_numbers a b e = grind (arith, nat_tests)

pub ack_stream : (setup : Setup) (a from to e t len : ℕ) (x : NodeState) → IsGood setup a x (msg.Ack from to e t len) → IsStream setup t
ack_stream setup a from to e t len x g =
    let parts = neither (not (to == a) || not (is_node setup.nodes from)) (not (is_node setup.workers t)) g.astray in
    by_node setup.workers t (not_false (is_node setup.workers t) parts.1)

-- a leader to which an Ack is not bad has that much
ack_within : (setup : Setup) (l : leads.Lead) (y : Part) (e t len : ℕ) → StandsLead setup l y → l.epoch ≡ e → is_past_end y e t len ≡ false
    → len ≤ length (stream_of l t).log
ack_within setup l y e t len s epoch h =
    at_most (length (stream_of l t).log) len (second (l.epoch == e) (nat_lt (length (stream_of l t).log) len) (same_numbers l.epoch e epoch)
    (subst (λ p. is_past_end p e t len ≡ false) s.is h))
  where
    second : (p q : Bool) → p ≡ true → (p && q) ≡ false → q ≡ false
    second true q h k = k
    second false q h k = absurd (true≢false (sym h))

    at_most : (n m : ℕ) → nat_lt n m ≡ false → m ≤ n
    at_most n m h = grind (arith, nat_tests)

-- it counts for the leader of its epoch
module _ (setup : Setup) (a e t from len : ℕ) (x : NodeState) where
  pub ack_counts : (l : leads.Lead) → StandsLead setup l x.part → l.epoch ≡ e
      → count_due setup a x t from len ≡ takes_ack setup a x e t from len x.part
  ack_counts l stands epoch =
      ap (count_in setup a x t from len) stands.is
      ∙ sym (ap (λ b. cond b (counts_ack setup a x (lead_with l stands.core) t from len) (quiet x)) (same_numbers l.epoch e epoch))
      ∙ sym (ap (takes_ack setup a x e t from len) stands.is)

  -- another leader skips it
  pub ack_skipped : (l : leads.Lead) → StandsLead setup l x.part → l.epoch ≢ e → takes_ack setup a x e t from len x.part ≡ quiet x
  ack_skipped l stands epoch =
      ap (takes_ack setup a x e t from len) stands.is
      ∙ ap (λ b. cond b (counts_ack setup a x (lead_with l stands.core) t from len) (quiet x)) (other_numbers l.epoch e epoch)

  -- as does a part that is no leader
  pub ack_unheard : (p : code.Part) → ((l : leads.Lead) → p ≡ part.Leads l → ⊥) → StandsPart setup p x.part
      → takes_ack setup a x e t from len x.part ≡ quiet x
  ack_unheard part.Follows none s = ap (takes_ack setup a x e t from len) s
  ack_unheard (part.Stands c) none s = ap (takes_ack setup a x e t from len) s.0
  ack_unheard (part.Leads l) none s = absurd (none l refl)

-- what a node's leader has of the stream of an Ack that is not bad
pub ack_within_lead : (setup : Setup) (p : code.Part) (y : Part) (e t len : ℕ) → StandsPart setup p y → is_past_end y e t len ≡ false
    → IsWithinLead p e t len
ack_within_lead setup part.Follows y e t len s h = tt
ack_within_lead setup (part.Stands c) y e t len s h = tt
ack_within_lead setup (part.Leads l) y e t len s h = λ epoch. ack_within setup l y e t len s epoch h
