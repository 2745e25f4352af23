-- Pending messages are delivered one after another, and those that follow stay as they were.
use Rattle.std.proofs.Common.{◌≡◌, ◌≢◌, ℕ, zero, suc, ◌<◌, ◌≤◌, Bool, true, false, cond, List, [], ◌∷◌, ◌++◌, length, map, set, drop, slice_get, Option, Some, None, Ok, Err, refl, ap, subst, ◌∙◌, length-append, arith}
use Rattle.std.specs.Prelude.{nat_lt}
use Rattle.std.specs.Option.{option_map_or}
use Rattle.rl_base.specs.Results.{◌>>=◌}
use Rattle.rl_base.specs.declared.limit.LimitName.{LimitName}
use Rattle.rl_base.specs.declared.limit.LimitName.TheVariants.{Bytes}
use Rattle.rl_base.specs.declared.limit.TheConstants.{BYTES}
use Rattle.rl_election.specs.World.{is_up}
use Rattle.rl_msg.specs.declared.msg.Msg.{Msg}
use Rattle.rl_msg.specs.Parts.{head_of}
use Rattle.rl_nodes.specs.declared.node_error.NodeError.TheVariants as node
use Rattle.rl_nodes.specs.Answers.{Answer}
use Rattle.rl_nodes.specs.Events.{for_each, reaches, delivers}
use Rattle.rl_nodes.specs.Handles.{receives}
use Rattle.rl_nodes.specs.Setups.{Setup}
use Rattle.rl_nodes.specs.World.{World, Sent, Ran, NoMessage, node_of, new_sent, sent_at, changed_at, delivered, with_line, pending_from, after_doing, after_answer, bytes_sent}
use Rattle.rl_world.specs.Pending.{AreAsBefore, IsAmidAll}

-- messages of a world that go on with more
record GoesOn (old new : List Sent) : Type 0 where
  longer : length old ≤ length new
  same : (i : ℕ) → i < length old → slice_get new i ≡ slice_get old i

goes_on : (old more : List Sent) → GoesOn old (old ++ more)
goes_on old more = record { longer = let e = length-append old more in omega (arith, e); same = λ i within. kept_read old more i within }
  where
    kept_read : (xs ys : List Sent) (i : ℕ) → i < length xs → slice_get (xs ++ ys) i ≡ slice_get xs i
    kept_read [] ys i within = absurd (omega arith)
    kept_read (x ∷ xs) ys zero within = refl
    kept_read (x ∷ xs) ys (suc i) within = kept_read xs ys i (omega arith)

within_same : (b : Bool) (w x : World) (name : LimitName) → cond b (Err name) (Ok w) ≡ Ok x → w ≡ x
within_same true w x name e = absurd cc
within_same false w x name e = cc

stays : (w x : World) → w ≡ x → GoesOn w.sent x.sent
stays w x same = subst (λ (y : World). GoesOn w.sent y.sent) same (record { longer = omega arith; same = λ i within. refl })

-- so do those of a world after an answer
answer_goes_on : (w x : World) (a number : ℕ) (answer : Answer) → after_answer w a number answer ≡ Ok x → GoesOn w.sent x.sent
answer_goes_on w x a number (Ok did) e =
    let same = within_same (nat_lt BYTES (bytes_sent (after_doing w a number did).sent)) (after_doing w a number did) x Bytes e in
    subst (λ (y : World). GoesOn w.sent y.sent) same (goes_on w.sent (map new_sent did.sends))
answer_goes_on w x a number (Err (node.StreamFull slots)) e = absurd cc
answer_goes_on w x a number (Err node.BadMessage) e = stays w x cc
answer_goes_on w x a number (Err (node.NoEpoch p)) e = stays w x cc
answer_goes_on w x a number (Err node.Memory) e = stays w x cc

-- and after a message has reached its receiver
reach_goes_on : (setup : Setup) (number : ℕ) (m : Msg) (w x : World) → reaches setup number m w ≡ Ok x → GoesOn w.sent x.sent
reach_goes_on setup number m w x e = by_up (is_up (node_of setup w (head_of m).to).state) e
  where
    by_up : (b : Bool) → cond b (after_answer w (head_of m).to number (receives setup (head_of m).to (node_of setup w (head_of m).to) m)) (Ok w) ≡ Ok x → GoesOn w.sent x.sent
    by_up true e = answer_goes_on w x (head_of m).to number (receives setup (head_of m).to (node_of setup w (head_of m).to) m) e
    by_up false e = stays w x cc

-- ---- a mark ----

read_other : (xs : List Sent) (i j : ℕ) (m : Sent) → j ≢ i → slice_get (set xs i m) j ≡ slice_get xs j
read_other [] i j m apart = refl
read_other (x ∷ xs) zero zero m apart = absurd (apart refl)
read_other (x ∷ xs) zero (suc j) m apart = refl
read_other (x ∷ xs) (suc i) zero m apart = refl
read_other (x ∷ xs) (suc i) (suc j) m apart = read_other xs i j m (λ e. apart (ap suc e))

set_count : (xs : List Sent) (i : ℕ) (m : Sent) → length (set xs i m) ≡ length xs
set_count [] i m = refl
set_count (x ∷ xs) zero m = refl
set_count (x ∷ xs) (suc i) m = ap suc (set_count xs i m)

marked_other : (change : Sent → Sent) (sent : List Sent) (number j : ℕ) → number ≤ j → slice_get (changed_at change sent number) j ≡ slice_get sent j
marked_other change sent zero j past = refl
marked_other change sent (suc i) j past = by_read (slice_get sent i)
  where
    by_read : (o : Option Sent) → slice_get (option_map_or (λ m. set sent i (change m)) o sent) j ≡ slice_get sent j
    by_read None = refl
    by_read (Some m) = read_other sent i j (change m) (λ e. absurd (omega (arith, past, e)))

marked_count : (change : Sent → Sent) (sent : List Sent) (number : ℕ) → length (changed_at change sent number) ≡ length sent
marked_count change sent zero = refl
marked_count change sent (suc i) = by_read (slice_get sent i)
  where
    by_read : (o : Option Sent) → length (option_map_or (λ m. set sent i (change m)) o sent) ≡ length sent
    by_read None = refl
    by_read (Some m) = set_count sent i (change m)

-- ---- a delivery ----

-- the messages behind the one that is delivered stay as they were
pub delivered_on : (setup : Setup) (number k : ℕ) (before : List Sent) (w x : World) → k ≤ number → AreAsBefore k before w.sent
    → delivers setup number w ≡ Ok x → AreAsBefore number before x.sent
delivered_on setup number k before w x above as_before e = by_sent (sent_at w.sent number) e
  where
    by_sent : (o : Option Sent) → option_map_or (λ (m : Sent). reaches setup number m.message (delivered w number)) o (Ok (with_line w (NoMessage number))) ≡ Ok x → AreAsBefore number before x.sent
    by_sent None e =
        let same : with_line w (NoMessage number) ≡ x = cc in
        subst (λ (y : World). AreAsBefore number before y.sent) same
        (record { within = as_before.within; same = λ i past within. as_before.same i (omega (arith, above, past)) within })
    by_sent (Some m) e =
        let mark : Sent → Sent = λ y. record y { delivered = true } in
        let on = reach_goes_on setup number m.message (delivered w number) x e in
        let count : length (changed_at mark w.sent number) ≡ length w.sent = marked_count mark w.sent number in
        record {
          within = let p = on.longer in let q = as_before.within in omega (arith, p, q, count);
          same = λ i past within.
              let q = as_before.within in
              on.same i (omega (arith, within, q, count)) ∙ marked_other mark w.sent number i past ∙ as_before.same i (omega (arith, above, past)) within;
        }

-- ---- all pending messages ----

pub all_begin : (setup : Setup) (w : World) → IsAmidAll setup w.sent w w 0
all_begin setup w = record { as_before = record { within = omega arith; same = λ i past within. refl }; rest = refl }

module _ (setup : Setup) (before : List Sent) (first w : World) (k number : ℕ) (amid : IsAmidAll setup before first w k)
    (next : pending_from (suc k) (drop k before) ≡ number ∷ pending_from (suc number) (drop number before)) where
  due : for_each (pending_from 1 before) (delivers setup) first ≡ (delivers setup number w >>= for_each (pending_from (suc number) (drop number before)) (delivers setup))
  due = amid.rest ∙ ap (λ ks. for_each ks (delivers setup) w) next

  -- the next one was delivered
  pub all_next : (x : World) → k ≤ number → delivers setup number w ≡ Ok x → IsAmidAll setup before first x number
  all_next x above e = record {
    as_before = delivered_on setup number k before w x above amid.as_before e;
    rest = due ∙ ap (λ (ran : Ran). ran >>= for_each (pending_from (suc number) (drop number before)) (delivers setup)) e;
  }

  -- or passed a limit
  pub all_fails : (name : LimitName) → delivers setup number w ≡ Err name → for_each (pending_from 1 before) (delivers setup) first ≡ Err name
  all_fails name e = due ∙ ap (λ (ran : Ran). ran >>= for_each (pending_from (suc number) (drop number before)) (delivers setup)) e

-- there was no next one
pub all_end : (setup : Setup) (before : List Sent) (first w : World) (k : ℕ) → IsAmidAll setup before first w k → pending_from (suc k) (drop k before) ≡ []
    → for_each (pending_from 1 before) (delivers setup) first ≡ Ok w
all_end setup before first w k amid none = amid.rest ∙ ap (λ ks. for_each ks (delivers setup) w) none
