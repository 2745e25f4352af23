-- A message that is marked as delivered or dropped.
use Rattle.std.proofs.Common.{◌≡◌, ℕ, zero, suc, ◌+◌, List, [], ◌∷◌, length, map, set, slice_get, All, Option, Some, None, refl, sym, ap, subst, ◌∙◌}
use Rattle.std.specs.Option.{option_map, option_map_or}
use Rattle.std.proofs.lemmas.List.Elements.{All-cons, All-head, All-tail}
use Rattle.std.proofs.lemmas.List.Sums.{sum_by-cons}
use Rattle.rl_msg.specs.Ranges.{MsgInRange}
use Rattle.rl_net.specs.declared.message.Message.{Message}
use Rattle.rl_net.specs.Messages as net
use Rattle.rl_nodes.specs.World.{Sent, sent_at, changed_at}
use Rattle.rl_world.specs.Telling.{kept}

-- what a network has of a number is what the world has
pub sent_read : (sent : List Sent) (number : ℕ) → net.message_at (map kept sent) number ≡ option_map kept (sent_at sent number)
sent_read sent zero = refl
sent_read [] (suc i) = refl
sent_read (m ∷ sent) (suc zero) = refl
sent_read (m ∷ sent) (suc (suc i)) = sent_read sent (suc i)

-- a list that begins with x, where one behind it is changed
behind : {X : Type 0} (x : X) (xs : List X) (f : X → List X) (o : Option X)
    → option_map_or (λ m. x ∷ f m) o (x ∷ xs) ≡ x ∷ option_map_or f o xs
behind x xs f None = refl
behind x xs f (Some m) = refl

module _ (change : Message → Message) where
  -- the change keeps the bytes
  module _ (same : (m : Message) → (change m).bytes ≡ m.bytes) where
    pub same_bytes : (ms : List Message) (number : ℕ) → net.bytes_sent (net.changed_at change ms number) ≡ net.bytes_sent ms
    same_bytes ms zero = refl
    same_bytes [] (suc i) = refl
    same_bytes (m ∷ ms) (suc zero) =
        sum_by-cons (λ (x : Message). length x.bytes) (change m) ms ∙ ap (λ (b : List ℕ). length b + net.bytes_sent ms) (same m)
        ∙ sym (sum_by-cons (λ (x : Message). length x.bytes) m ms)
    same_bytes (m ∷ ms) (suc (suc i)) =
        ap net.bytes_sent (behind m ms (λ x. set ms i (change x)) (slice_get ms i))
        ∙ sum_by-cons (λ (x : Message). length x.bytes) m (net.changed_at change ms (suc i))
        ∙ ap (λ n. length m.bytes + n) (same_bytes ms (suc i))
        ∙ sym (sum_by-cons (λ (x : Message). length x.bytes) m ms)

  pub same_count : (ms : List Message) (number : ℕ) → length (net.changed_at change ms number) ≡ length ms
  same_count ms zero = refl
  same_count [] (suc i) = refl
  same_count (m ∷ ms) (suc zero) = refl
  same_count (m ∷ ms) (suc (suc i)) =
      ap (λ (xs : List Message). length xs) (behind m ms (λ x. set ms i (change x)) (slice_get ms i)) ∙ ap suc (same_count ms (suc i))

  -- a change of the world that is that of the network
  module _ (of_world : Sent → Sent) (as_kept : (m : Sent) → change (kept m) ≡ kept (of_world m)) where
    pub changed_kept : (sent : List Sent) (number : ℕ) → net.changed_at change (map kept sent) number ≡ map kept (changed_at of_world sent number)
    changed_kept sent zero = refl
    changed_kept [] (suc i) = refl
    changed_kept (m ∷ sent) (suc zero) = ap (λ x. x ∷ map kept sent) (as_kept m)
    changed_kept (m ∷ sent) (suc (suc i)) =
        behind (kept m) (map kept sent) (λ x. set (map kept sent) i (change x)) (slice_get (map kept sent) i)
        ∙ ap (λ xs. kept m ∷ xs) (changed_kept sent (suc i))
        ∙ sym (ap (map kept) (behind m sent (λ x. set sent i (of_world x)) (slice_get sent i)))

-- a change that keeps the message keeps its range
pub changed_range : (of_world : Sent → Sent) → ((m : Sent) → (of_world m).message ≡ m.message) → (sent : List Sent) (number : ℕ)
    → All (λ (m : Sent). MsgInRange m.message) sent → All (λ (m : Sent). MsgInRange m.message) (changed_at of_world sent number)
changed_range of_world same sent zero h = h
changed_range of_world same [] (suc i) h = h
changed_range of_world same (m ∷ sent) (suc zero) h =
    All-cons (λ (m : Sent). MsgInRange m.message) (of_world m) sent (subst MsgInRange (sym (same m)) (All-head (λ (m : Sent). MsgInRange m.message) m sent h))
    (All-tail (λ (m : Sent). MsgInRange m.message) m sent h)
changed_range of_world same (m ∷ sent) (suc (suc i)) h =
    subst (All (λ (m : Sent). MsgInRange m.message)) (sym (behind m sent (λ x. set sent i (of_world x)) (slice_get sent i)))
    (All-cons (λ (m : Sent). MsgInRange m.message) m (changed_at of_world sent (suc i)) (All-head (λ (m : Sent). MsgInRange m.message) m sent h)
    (changed_range of_world same sent (suc i) (All-tail (λ (m : Sent). MsgInRange m.message) m sent h)))

-- where none was sent nothing is marked
pub none_marked : (change : Message → Message) (ms : List Message) (number : ℕ) → net.message_at ms number ≡ None → net.changed_at change ms number ≡ ms
none_marked change ms zero none = refl
none_marked change ms (suc i) none = ap (λ o. option_map_or (λ m. set ms i (change m)) o ms) none
