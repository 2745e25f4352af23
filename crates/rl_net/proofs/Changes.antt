-- What a message more, and a message that changed, do to what a network keeps.
use Rattle.std.proofs.Common.{◌≡◌, ◌≢◌, ℕ, zero, suc, ◌+◌, ◌<◌, ◌≤◌, Bool, true, false, not, ◌&&◌, List, [], ◌∷◌, ◌++◌, length, sum_by, slice_get, get_or, set, Some, IsSome, refl, sym, ap, subst, ◌∙◌, ⊎_elim, arith}
use Rattle.std.proofs.lemmas.Bool.{cases_eq}
use Rattle.std.proofs.lemmas.Bool.Decides.{nat_tests}
use Rattle.std.proofs.lemmas.List.Sums.{sum_by-set, sum_by_push}
use Rattle.std.proofs.lemmas.Option.{slice_get_read}
use Rattle.std.specs.Option.{option_map_or}
use Rattle.std.specs.Ordering.{nat_cmp}
use Rattle.std.specs.BTreeMap.{is_at}
use Rattle.std.specs.BTreeSet.{BTreeSet, contains, Updates}
use Rattle.rl_base.specs.declared.limit.TheConstants.{BYTES}
use Rattle.rl_net.specs.declared.message.Message.{Message}
use Rattle.rl_net.specs.Messages.{message_at, changed_at, is_pending}
use Rattle.rl_net.specs.Kept.{IsKept}

-- whether a message that was sent is pending
abbrev pub is_open : Message → Bool
is_open m = not m.delivered && not m.dropped

-- a changed message is read at its index
read_set_same : (net : List Message) (i : ℕ) (m : Message) → i < length net → slice_get (set net i m) i ≡ Some m
read_set_same [] i m within = absurd (omega arith)
read_set_same (x ∷ net) zero m within = refl
read_set_same (x ∷ net) (suc i) m within = read_set_same net i m (omega arith)

-- and the others are read as before
read_set_other : (net : List Message) (i j : ℕ) (m : Message) → j ≢ i → slice_get (set net i m) j ≡ slice_get net j
read_set_other [] i j m apart = refl
read_set_other (x ∷ net) zero zero m apart = absurd (apart refl)
read_set_other (x ∷ net) zero (suc j) m apart = refl
read_set_other (x ∷ net) (suc i) zero m apart = refl
read_set_other (x ∷ net) (suc i) (suc j) m apart = read_set_other net i j m (λ e. apart (ap suc e))

-- a changed message is pending as its marks say
pending_same : (net : List Message) (i : ℕ) (m : Message) → i < length net → is_pending (set net i m) (suc i) ≡ is_open m
pending_same net i m within = ap (λ o. option_map_or is_open o false) (read_set_same net i m within)

-- and the others are pending as before
pending_other : (net : List Message) (i : ℕ) (m : Message) (q : ℕ) → q ≢ suc i → is_pending (set net i m) q ≡ is_pending net q
pending_other net i m zero apart = refl
pending_other net i m (suc j) apart = ap (λ o. option_map_or is_open o false) (read_set_other net i j m (λ e. apart (ap suc e)))

-- the last message is pending as its marks say
pending_last : (net : List Message) (m : Message) → is_pending (net ++ m ∷ []) (suc (length net)) ≡ is_open m
pending_last [] m = refl
pending_last (x ∷ net) m = pending_last net m

-- and those before it are pending as before
pending_before : (net : List Message) (m : Message) (q : ℕ) → q ≢ suc (length net) → is_pending (net ++ m ∷ []) q ≡ is_pending net q
pending_before net m zero apart = refl
pending_before [] m (suc zero) apart = absurd (apart refl)
pending_before [] m (suc (suc j)) apart = refl
pending_before (x ∷ net) m (suc zero) apart = refl
pending_before (x ∷ net) m (suc (suc j)) apart = pending_before net m (suc j) (λ e. apart (ap suc e))

-- a number finds no other number
finds_no_other : (number q : ℕ) → number ≢ q → is_at (nat_cmp number) q ≡ false
finds_no_other number q apart = grind (arith, nat_tests, apart)

-- a set that is updated at the one number where the messages differ goes on listing the pending ones
lists_on : (net next : List Message) (old new : BTreeSet ℕ) (number : ℕ) (b : Bool) → Updates nat_cmp old new number b
    → is_pending next number ≡ b → ((q : ℕ) → q ≢ number → is_pending next q ≡ is_pending net q)
    → ((q : ℕ) → contains nat_cmp old q ≡ is_pending net q) → (q : ℕ) → contains nat_cmp new q ≡ is_pending next q
lists_on net next old new number b update here others listed q =
    ⊎_elim
    (λ same. subst (λ k. contains nat_cmp new k ≡ is_pending next k) same (update.1 ∙ sym here))
    (λ apart. update.2 q (finds_no_other number q apart) ∙ listed q ∙ sym (others q (λ e. apart (sym e))))
    (cases_eq number q)

-- what is kept after a message was marked
pub kept_marked : (net : List Message) (total : ℕ) (old new : BTreeSet ℕ) (number i : ℕ) (was now : Message)
    → number ≡ i + 1 → i < length net → was ≡ get_or net i was → length now.bytes ≡ length was.bytes → is_open now ≡ false
    → Updates nat_cmp old new number false → IsKept net total old → IsKept (set net i now) total new
kept_marked net total old new number i was now at within read same closed update kept =
    let at' : number ≡ suc i = omega (arith, at) in
    let size : Message → ℕ = λ m. length m.bytes in
    let moved : sum_by size (set net i now) + size (get_or net i was) ≡ sum_by size net + size now = sum_by-set size net i now was within in
    let read' : size (get_or net i was) ≡ size was = ap size (sym read) in
    record {
      counted = kept.counted ∙ omega (arith, moved, read', same);
      few = kept.few;
      listed = lists_on net (set net i now) old new number false update
          (ap (is_pending (set net i now)) at' ∙ pending_same net i now within ∙ closed)
          (λ q apart. pending_other net i now q (λ e. apart (e ∙ sym at'))) kept.listed;
    }

-- what is kept after a message was sent
pub kept_sent : (net : List Message) (total : ℕ) (old new : BTreeSet ℕ) (number : ℕ) (m : Message)
    → number ≡ length net + 1 → is_open m ≡ true → total + length m.bytes ≤ BYTES
    → Updates nat_cmp old new number true → IsKept net total old → IsKept (net ++ m ∷ []) (total + length m.bytes) new
kept_sent net total old new number m at waits room update kept =
    let at' : number ≡ suc (length net) = omega (arith, at) in
    record {
      counted = ap (λ n. n + length m.bytes) kept.counted ∙ sym (sum_by_push (λ (x : Message). length x.bytes) net m);
      few = room;
      listed = lists_on net (net ++ m ∷ []) old new number true update
          (ap (is_pending (net ++ m ∷ [])) at' ∙ pending_last net m ∙ waits)
          (λ q apart. pending_before net m q (λ e. apart (e ∙ sym at'))) kept.listed;
    }

some_within : (net : List Message) (i : ℕ) → i < length net → IsSome (slice_get net i)
some_within [] i within = absurd (omega arith)
some_within (x ∷ net) zero within = refl
some_within (x ∷ net) (suc i) within = some_within net i (omega arith)

-- a number up to the count of the messages was sent
pub was_sent : (net : List Message) (number i : ℕ) → number ≡ i + 1 → i < length net → IsSome (message_at net number)
was_sent net number i at within =
    let at' : suc i ≡ number = omega (arith, at) in
    subst (λ k. IsSome (message_at net k)) at' (some_within net i within)

-- a message that is replaced by its change
pub changed_is : (change : Message → Message) (net : List Message) (number i : ℕ) (was : Message)
    → number ≡ i + 1 → i < length net → was ≡ get_or net i was → set net i (change was) ≡ changed_at change net number
changed_is change net number i was at within read =
    let at' : suc i ≡ number = omega (arith, at) in
    subst (λ k. set net i (change was) ≡ changed_at change net k) at'
    (sym (ap (λ o. option_map_or (λ m. set net i (change m)) o net) (slice_get_read net (length net) i was refl within read)))
