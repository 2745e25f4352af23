-- Pending messages, one after another.
use Rattle.std.proofs.Common.{◌≡◌, ℕ, zero, suc, ◌+◌, ◌-◌, ◌<◌, ◌≤◌, true, false, cond, List, [], ◌∷◌, length, map, drop, length-drop, refl, sym, ap, ◌∙◌, arith}
use Rattle.std.specs.Option.{option_map_or}
use Rattle.rl_net.specs.Messages as net
use Rattle.rl_nodes.specs.World.{Sent, is_pending, pending_from}
use Rattle.rl_world.specs.Pending.{waits, AreAsBefore}
use Rattle.rl_world.specs.Telling.{kept}

-- none of some messages is pending
pub none_pending : (number : ℕ) (ms : List Sent) → ((i : ℕ) → i < length ms → waits ms i ≡ false) → pending_from number ms ≡ []
none_pending number [] h = refl
none_pending number (m ∷ ms) h =
    ap (λ b. cond b (number ∷ pending_from (suc number) ms) (pending_from (suc number) ms)) (h 0 (omega arith))
    ∙ none_pending (suc number) ms (λ i within. h (suc i) (omega arith))

-- the first pending one is that of an index
pub first_pending : (number : ℕ) (ms : List Sent) (i : ℕ) → waits ms i ≡ true → ((j : ℕ) → j < i → waits ms j ≡ false)
    → pending_from number ms ≡ (number + i) ∷ pending_from (suc (number + i)) (drop (suc i) ms)
first_pending number [] i there before = absurd cc
first_pending number (m ∷ ms) zero there before =
    ap (λ b. cond b (number ∷ pending_from (suc number) ms) (pending_from (suc number) ms)) there
    ∙ ap (λ n. n ∷ pending_from (suc n) ms) (omega arith)
first_pending number (m ∷ ms) (suc i) there before =
    let at : suc number + i ≡ number + suc i = omega arith in
    ap (λ b. cond b (number ∷ pending_from (suc number) ms) (pending_from (suc number) ms)) (before 0 (omega arith))
    ∙ first_pending (suc number) ms i there (λ j below. before (suc j) (omega arith))
    ∙ ap (λ n. n ∷ pending_from (suc n) (drop (suc i) ms)) at

-- the network tells which messages of a world are pending
net_waits : (sent : List Sent) (i : ℕ) → net.is_pending (map kept sent) (suc i) ≡ waits sent i
net_waits [] i = refl
net_waits (m ∷ sent) zero = refl
net_waits (m ∷ sent) (suc i) = net_waits sent i

-- behind some messages, those of the indexes that follow
waits_behind : (k : ℕ) (ms : List Sent) (i : ℕ) → waits (drop k ms) i ≡ waits ms (k + i)
waits_behind zero ms i = ap (waits ms) (omega arith)
waits_behind (suc k) [] i = refl
waits_behind (suc k) (m ∷ ms) i =
    let at : suc (k + i) ≡ suc k + i = omega arith in waits_behind k ms i ∙ ap (waits (m ∷ ms)) at

drop_more : {X : Type 0} (k i : ℕ) (xs : List X) → drop (suc i) (drop k xs) ≡ drop (suc (k + i)) xs
drop_more zero i xs = ap (λ n. drop (suc n) xs) (omega arith)
drop_more (suc k) i [] = refl
drop_more (suc k) i (x ∷ xs) =
    let at : suc (k + i) ≡ suc k + i = omega arith in drop_more k i xs ∙ ap (λ n. drop n xs) at

module _ (k : ℕ) (before now : List Sent) (as_before : AreAsBefore k before now) where
  same_waits : (i : ℕ) → k ≤ i → i < length before → waits before i ≡ waits now i
  same_waits i past within = ap (λ o. option_map_or is_pending o false) (sym (as_before.same i past within))

  -- where the network tells of no more, none is left of those before
  pub none_left : net.NonePending (map kept now) k (length before) → pending_from (suc k) (drop k before) ≡ []
  none_left none =
      none_pending (suc k) (drop k before) (λ i within.
      let size : length (drop k before) ≡ length before - k = length-drop k before in
      let fits : k + i < length before = omega (arith, size, within) in
      waits_behind k before i ∙ same_waits (k + i) (omega arith) fits ∙ sym (net_waits now (k + i)) ∙ none (suc (k + i)) (omega arith) (omega arith))

  -- and where it tells of a next one, that is next of those before
  pub next_left : (number : ℕ) → k < number → number ≤ length before → net.is_pending (map kept now) number ≡ true → net.NonePending (map kept now) k (number - 1)
      → pending_from (suc k) (drop k before) ≡ number ∷ pending_from (suc number) (drop number before)
  next_left number above within there none =
      let i : ℕ = number - suc k in
      let at : suc (k + i) ≡ number = omega arith in
      let first : waits (drop k before) i ≡ true =
      waits_behind k before i ∙ same_waits (k + i) (omega arith) (omega arith) ∙ sym (net_waits now (k + i)) ∙ ap (net.is_pending (map kept now)) at ∙ there in
      first_pending (suc k) (drop k before) i first
      (λ j below. waits_behind k before j ∙ same_waits (k + j) (omega arith) (omega arith) ∙ sym (net_waits now (k + j)) ∙ none (suc (k + j)) (omega arith) (omega arith))
      ∙ ap (λ xs. (suc k + i) ∷ pending_from (suc (suc k + i)) xs) (drop_more k i before)
      ∙ (let other : suc k + i ≡ number = omega arith in
      ap (λ n. n ∷ pending_from (suc n) (drop (suc (k + i)) before)) other ∙ ap (λ n. number ∷ pending_from (suc number) (drop n before)) at)
