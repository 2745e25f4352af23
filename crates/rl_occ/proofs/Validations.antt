-- Reads that are validated one after another.
use Rattle.std.proofs.Common.{◌≡◌, ℕ, zero, suc, ◌+◌, ◌≤◌, Bool, true, false, true≢false, List, [], ◌∷◌, ◌++◌, map, take, length, refl, sym, ap, ◌∙◌, subst, arith}
use Rattle.std.proofs.lemmas.List.{take_more, length-map}
use Rattle.std.specs.Prelude.{MatchBool, Result, Ok, Err, IfErr}
use mathlib.Core.List.{map-append}
use mathlib.Core.Option.{some}
use lib.ListN.{get_elem?}
use lib.Seq.{take_all}
use Rattle.rl_base.specs.declared.refusal.Refusal.{Refusal}
use Rattle.rl_base.specs.declared.refusal.Refusal.TheVariants.{Locked, Changed}
use Rattle.rl_store.specs.declared.view.Held.{Held}
use Rattle.rl_store.specs.declared.view.Read.{Read}
use Rattle.rl_store.specs.declared.view.Refused.{Refused}
use Rattle.rl_store.specs.declared.view.View.{View}
use Rattle.rl_store.specs.Entries.{In, read_rec}
use Rattle.rl_store.specs.Passes.{HasReadWord, RefusesRead}
use Rattle.rl_store.specs.Views.{is_decided, settled, settled_as, stopped, with_valid}
use Rattle.rl_store.proofs.Deciding.{decided_of}
use Rattle.rl_store.proofs.Loads.{Some≢None}
use Rattle.rl_store.proofs.Views.{at_below, at_get}
use Rattle.rl_occ.specs.declared.sets.Lock.{Lock}
use Rattle.rl_occ.specs.declared.sets.Seen.{Seen}
use Rattle.rl_occ.specs.Committing.{IsToValidate, all_valid}
use Rattle.rl_occ.specs.Locking.{AreApart, held_of, lock_rec}
use Rattle.rl_occ.specs.Outcomes.{HasRefused, IsStopped, RefusesReads}
use Rattle.rl_occ.specs.Reading.{seen_of}
use Rattle.rl_occ.proofs.Places.{of_map, of_take}

pub short : {A : Type 0} (n : ℕ) (xs : List A) → length (take n xs) ≤ n
short zero xs = omega arith
short (suc n) [] = omega arith
short (suc n) (x ∷ xs) = let l = short n xs in omega arith

-- an attempt that isn't decided goes on
pub undecided_goes_on : (v : View) → is_decided v.attempt ≡ false → settled v ≡ v
undecided_goes_on v e = ap (λ d. settled_as v.attempt.held d v.attempt.drawn v) e ∙ go v.attempt.held
  where
    go : (hs : List Held) → settled_as hs false v.attempt.drawn v ≡ v
    go [] = refl
    go (h ∷ hs) = refl

-- the first reads are validated
abbrev pub first_valid : (v : View) (k : ℕ) → View
first_valid v k = record v { attempt = record v.attempt { validated = map read_rec (take k v.attempt.reads) } }

module _ (v : View) (words : List Seen) (locks : List Lock) (h : IsToValidate v words locks) where
  pub none_valid : first_valid v 0 ≡ v
  none_valid = λ i. record v { attempt = record v.attempt { validated = sym h.none i } }

  -- the read of a word
  pub read_at : (k : ℕ) (s : Seen) → get_elem? words k ≡ some s → (x : Read) × (get_elem? v.attempt.reads k ≡ some x) × (seen_of x ≡ s)
  read_at k s at = of_map seen_of v.attempt.reads k s (subst (λ l. get_elem? l k ≡ some s) (sym h.seen) at)

  pub has_read : (k : ℕ) (s : Seen) → get_elem? words k ≡ some s → HasReadWord v s.rec s.word
  has_read k s at = let x = read_at k s at in (x.0, (k, x.1), ap (λ (u : Seen). u.rec) x.2, sym (ap (λ (u : Seen). u.word) x.2))

  -- it was not validated before
  pub not_valid : (k : ℕ) (s : Seen) → get_elem? words k ≡ some s → In s.rec (map read_rec (take k v.attempt.reads)) → ⊥
  not_valid k s at i =
      let x = read_at k s at in
      let y = of_map read_rec (take k v.attempt.reads) i.0 s.rec i.1 in
      let same : i.0 ≡ k = h.once i.0 k y.0 x.0 (of_take k v.attempt.reads i.0 y.0 y.1) x.1 (y.2 ∙ sym (ap (λ (u : Seen). u.rec) x.2)) in
      before k v.attempt.reads i.0 y.0 y.1 same
    where
      before : (n : ℕ) (xs : List Read) (k : ℕ) (y : Read) → get_elem? (take n xs) k ≡ some y → k ≡ n → ⊥
      before n xs k y e same = let l = at_below (take n xs) y k e in let m = short n xs in omega arith

  pub goes_on : (k : ℕ) (s : Seen) → get_elem? words k ≡ some s → settled (first_valid v k) ≡ first_valid v k
  goes_on k s at = undecided_goes_on (first_valid v k) (go (is_decided (first_valid v k).attempt) refl)
    where
      go : (d : Bool) → is_decided (first_valid v k).attempt ≡ d → d ≡ false
      go true e = let x = read_at k s at in absurd (not_valid k s at (subst (λ (n : ℕ). In n (map read_rec (take k v.attempt.reads))) (ap (λ (u : Seen). u.rec) x.2) ((decided_of (first_valid v k).attempt 0 e).1 x.0 (k, x.1))))
      go false e = refl

  pub next_valid : (k : ℕ) (s : Seen) → get_elem? words k ≡ some s → with_valid (first_valid v k) s.rec ≡ first_valid v (k + 1)
  next_valid k s at =
      let x = read_at k s at in
      let l = at_below v.attempt.reads x.0 k x.1 in
      let one : take (k + 1) v.attempt.reads ≡ take k v.attempt.reads ++ x.0 ∷ [] = take_more v.attempt.reads k x.0 l ∙ ap (λ y. take k v.attempt.reads ++ y ∷ []) (at_get v.attempt.reads k x.0 x.0 x.1) in
      let all : map read_rec (take (k + 1) v.attempt.reads) ≡ map read_rec (take k v.attempt.reads) ++ s.rec ∷ [] = ap (map read_rec) one ∙ map-append read_rec (take k v.attempt.reads) (x.0 ∷ []) ∙ ap (λ n. map read_rec (take k v.attempt.reads) ++ n ∷ []) (ap (λ (u : Seen). u.rec) x.2) in
      λ i. record v { attempt = record v.attempt { validated = sym all i } }

  pub all_are : (k : ℕ) → length words ≡ k → first_valid v k ≡ all_valid v
  all_are k e =
      let n : length v.attempt.reads ≡ k = sym (length-map v.attempt.reads seen_of) ∙ ap length h.seen ∙ e in
      λ i. record v { attempt = record v.attempt { validated = map read_rec (take_all k v.attempt.reads (let z = n in omega arith) i) } }

-- a refusal after the draw
pub stops : (v : View) (locks : List Lock) (why : Refused) → v.attempt.held ≡ map held_of locks → AreApart locks
    → HasRefused v (stopped v.attempt.held v why) why × IsStopped (stopped v.attempt.held v why) locks × ((stopped v.attempt.held v why).tries ≡ v.tries) × ((stopped v.attempt.held v why).draws ≡ v.draws)
stops v locks why e apart = subst (λ (hs : List Held). HasRefused v (stopped hs v why) why × IsStopped (stopped hs v why) locks × ((stopped hs v why).tries ≡ v.tries) × ((stopped hs v why).draws ≡ v.draws)) (sym e) (go locks e apart)
  where
    go : (ls : List Lock) → v.attempt.held ≡ map held_of ls → AreApart ls → HasRefused v (stopped (map held_of ls) v why) why × IsStopped (stopped (map held_of ls) v why) ls × ((stopped (map held_of ls) v why).tries ≡ v.tries) × ((stopped (map held_of ls) v why).draws ≡ v.draws)
    go [] e a = (record { refusals = refl; last = refl; items = refl; splits = refl }, record { held = refl; apart = a; undecided = λ d. Some≢None d.0 (sym d.1) }, refl, refl)
    go (l ∷ ls) e a = (record { refusals = refl; last = refl; items = refl; splits = refl }, record { held = e; apart = a; undecided = λ d. true≢false (sym d.2.0) }, refl, refl)

-- the cause, by the words seen and the locks
pub cause_of : (words : List Seen) (locks : List Lock) (k : ℕ) (s : Seen) → get_elem? words k ≡ some s → (held : Bool) → MatchBool held (In s.rec (map lock_rec locks)) (In s.rec (map lock_rec locks) → ⊥)
    → (refusal : Refusal) → RefusesRead s.rec s.word held refusal → RefusesReads words locks refusal
cause_of words locks k s at true m (Locked rec found) c = absurd (true≢false c.2)
cause_of words locks k s at false m (Locked rec found) c = (
  (s.word, (k, at ∙ (λ i. some (record { rec = sym c.0 i; word = s.word })))),
  c.1,
  λ i. m (subst (λ (n : ℕ). In n (map lock_rec locks)) c.0 i),
)
cause_of words locks k s at held m (Changed rec seen found) c = ((k, at ∙ (λ i. some (record { rec = sym c.0 i; word = sym c.1 i }))), λ e. c.2 (e ∙ c.1), c.3)

pub refuses_first : (v : View) (k : ℕ) (w : View) (why : Refused) → HasRefused (first_valid v k) w why → HasRefused v w why
refuses_first v k w why h = record { refusals = h.refusals; last = h.last; items = h.items; splits = h.splits }

pub if_err : {T E : Type 0} (r : Result T E) (P : Type 0) → P → IfErr r (λ _. P)
if_err (Ok x) P p = tt
if_err (Err e) P p = p
