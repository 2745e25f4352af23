-- Messages that are sent one after another.
use Rattle.std.proofs.Common.{◌≡◌, ℕ, zero, suc, ◌+◌, ◌<◌, List, [], ◌∷◌, ◌++◌, get_or, map, All, Bool, true, false, cond, refl, sym, ap, ◌∙◌, subst, append_assoc, arith, None}
use Rattle.std.specs.List.{range_with_len, flat_map, filter}
use Rattle.std.proofs.lemmas.List.{map-append}
use Rattle.std.proofs.lemmas.List.Elements.{All-append}
use Rattle.std.proofs.lemmas.List.FromFn.{map-range_with_len_more, filter_of_map_range_with_len_more}
use Rattle.std.proofs.lemmas.Grind.{flat_map-append}
use Rattle.rl_msg.specs.declared.msg.Msg.{Msg}
use Rattle.rl_msg.specs.declared.msg.Msg.TheVariants.{Prepare, Promise, Sync, Accept, Ack, Known}
use Rattle.rl_msg.specs.Ranges.{MsgInRange}
use Rattle.rl_nodes.specs.Calls.{encoded}
use Rattle.rl_node.specs.Addressed.{addressed}
use Rattle.rl_node.specs.Outs.{seen_sends, Adds, IsSending}
use Rattle.rl_node.specs.declared.answer.Sent.{Sent}
use Rattle.rl_node.specs.declared.answer.Out.{Out}

pub addressed_twice : (m : Msg) (a b : ℕ) → addressed (addressed m a) b ≡ addressed m b
addressed_twice (Prepare from to epoch) a b = refl
addressed_twice (Promise from to epoch ballots logs) a b = refl
addressed_twice (Sync from to epoch stream log) a b = refl
addressed_twice (Accept from to epoch stream slot batch) a b = refl
addressed_twice (Ack from to epoch stream len) a b = refl
addressed_twice (Known from to epoch stream len) a b = refl

-- ---- lists of numbers ----

same_all : {X : Type 0} (xs : List X) → map (λ x. x) xs ≡ xs
same_all [] = refl
same_all (x ∷ xs) = ap (λ ys. x ∷ ys) (same_all xs)

alone : {X : Type 0} (xs : List X) → xs ++ [] ≡ xs
alone [] = refl
alone (x ∷ xs) = ap (λ ys. x ∷ ys) (alone xs)

-- one more number
pub range_more : (a n : ℕ) → range_with_len a (n + 1) ≡ range_with_len a n ++ (a + n) ∷ []
range_more a n =
    sym (same_all (range_with_len a (n + 1))) ∙ map-range_with_len_more (λ k. k) a n (a + n) refl
    ∙ ap (λ ks. ks ++ (a + n) ∷ []) (same_all (range_with_len a n))

-- ---- messages behind others ----

-- none
pub adds_none : (xs : List Sent) → Adds xs xs []
adds_none xs = record { sends = sym (alone (seen_sends xs)); in_range = λ k d l. absurd (omega (arith, l)) }

-- some, and then others
pub adds_more : (old middle new : List Sent) (before more all : List Msg) → all ≡ before ++ more
    → Adds old middle before → Adds middle new more → Adds old new all
adds_more old middle new before more all e m n = record {
  sends = n.sends ∙ ap (λ sends. sends ++ map encoded more) m.sends ∙ append_assoc (seen_sends old) (map encoded before) (map encoded more)
      ∙ ap (λ sends. seen_sends old ++ sends) (sym (map-append encoded before more) ∙ ap (map encoded) (sym e));
  in_range = subst (All MsgInRange) (sym e) (All-append MsgInRange before more m.in_range n.in_range);
}

-- one
pub adds_one : (old new : List Sent) (m : Msg) → MsgInRange m → seen_sends new ≡ seen_sends old ++ encoded m ∷ [] → Adds old new (m ∷ [])
adds_one old new m r e = record { sends = e; in_range = only }
  where
    only : (k : ℕ) (d : Msg) → k < 1 → MsgInRange (get_or (m ∷ []) k d)
    only zero d l = r
    only (suc k) d l = absurd (omega arith)

-- a message of each number, to one more
pub range_adds : (f : ℕ → Msg) (a n j : ℕ) (old middle new : List Sent) → a + n ≡ j
    → Adds old middle (map f (range_with_len a n)) → Adds middle new (f j ∷ []) → Adds old new (map f (range_with_len a (n + 1)))
range_adds f a n j old middle new e m k =
    adds_more old middle new (map f (range_with_len a n)) (f j ∷ []) (map f (range_with_len a (n + 1)))
    (map-range_with_len_more f a n j e) m k

-- some messages of each number
pub flat_adds : (f : ℕ → List Msg) (a n j : ℕ) (old middle new : List Sent) → a + n ≡ j
    → Adds old middle (flat_map f (range_with_len a n)) → Adds middle new (f j) → Adds old new (flat_map f (range_with_len a (n + 1)))
flat_adds f a n j old middle new e m k =
    adds_more old middle new (flat_map f (range_with_len a n)) (f j) (flat_map f (range_with_len a (n + 1))) more m k
  where
    more : flat_map f (range_with_len a (n + 1)) ≡ flat_map f (range_with_len a n) ++ f j
    more =
        ap (flat_map f) (range_more a n) ∙ flat_map-append f (range_with_len a n) ((a + n) ∷ [])
        ∙ ap (λ xs. flat_map f (range_with_len a n) ++ xs) (alone (f (a + n)) ∙ ap f e)

-- a message of each number that passes a test
filter_more : (p : ℕ → Bool) (n j : ℕ) → 1 + n ≡ j
    → filter p (range_with_len 1 (n + 1)) ≡ filter p (range_with_len 1 n) ++ cond (p j) (j ∷ []) []
filter_more p n j e =
    ap (filter p) (sym (same_all (range_with_len 1 (n + 1))))
    ∙ filter_of_map_range_with_len_more p (λ k. k) 1 n j e
    ∙ ap (λ ks. filter p ks ++ cond (p j) (j ∷ []) []) (same_all (range_with_len 1 n))

-- one that does
pub filter_adds : (p : ℕ → Bool) (f : ℕ → Msg) (n j : ℕ) (old middle new : List Sent) → 1 + n ≡ j → p j ≡ true
    → Adds old middle (map f (filter p (range_with_len 1 n))) → Adds middle new (f j ∷ [])
    → Adds old new (map f (filter p (range_with_len 1 (n + 1))))
filter_adds p f n j old middle new e passes m k =
    adds_more old middle new (map f (filter p (range_with_len 1 n))) (f j ∷ []) (map f (filter p (range_with_len 1 (n + 1))))
    (ap (map f) (filter_more p n j e ∙ ap (λ b. filter p (range_with_len 1 n) ++ cond b (j ∷ []) []) passes)
    ∙ map-append f (filter p (range_with_len 1 n)) (j ∷ [])) m k

-- and one that does not
pub filter_skips : (p : ℕ → Bool) (f : ℕ → Msg) (n j : ℕ) (old middle : List Sent) → 1 + n ≡ j → p j ≡ false
    → Adds old middle (map f (filter p (range_with_len 1 n))) → Adds old middle (map f (filter p (range_with_len 1 (n + 1))))
filter_skips p f n j old middle e fails m =
    subst (λ ks. Adds old middle (map f ks)) (sym (filter_more p n j e
    ∙ ap (λ b. filter p (range_with_len 1 n) ++ cond b (j ∷ []) []) fails ∙ alone (filter p (range_with_len 1 n)))) m

-- what is handed out where nothing else is told
pub sends_all : (sends : List Sent) (messages : List Msg) (out : Out) → seen_sends out.sends ≡ seen_sends sends → out.opened ≡ None → out.denied ≡ None
    → out.released ≡ [] → Adds [] sends messages → IsSending messages out
sends_all sends messages out same opened denied released a = record {
  sends = same ∙ a.sends;
  in_range = a.in_range;
  opened = opened;
  denied = denied;
  released = released;
}
