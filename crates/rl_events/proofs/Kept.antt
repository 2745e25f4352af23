-- What events keep when the random ones are written out.
use Rattle.std.proofs.Common.{◌≡◌, ℕ, ◌+◌, ◌*◌, ◌/◌, ◌%◌, ◌≤◌, zero, suc, Bool, true, false, cond, List, [], ◌∷◌, All, length, map, sum_by, ◌==◌, nat_le, refl, ap, arith}
use Rattle.std.specs.List.{flat_map}
use Rattle.std.proofs.lemmas.List.Elements.{All-nil, All-cons, All-head, All-tail, All-append}
use Rattle.std.proofs.lemmas.List.Sums.{sum_by-cons, sum_by-append}
use Rattle.std.proofs.lemmas.Nat.{mod_below}
use Rattle.rand_core.specs.Steps.{first_words}
use Rattle.rand_core.specs.Pcg32Seed.{pcg32_seed}
use Rattle.rand_pcg.specs.Pcg.{pcg32, pcg32_of_seed}
use Rattle.rl_events.specs.declared.event.Event.{Event}
use Rattle.rl_events.specs.declared.event.Event.TheVariants as event
use Rattle.rl_events.specs.Expanded.{event_of_choice, drawn_event, words_of_seed, expanded, IsNotRandom}
use Rattle.rl_events.specs.Fits.{IsOneOf, EventFits, count_of, elections_of}

-- what lists put for elements keep of each of them
all_flat : {X Y : Type 0} (Q : X → Type 0) (P : Y → Type 0) (h : X → List Y) → ((x : X) → Q x → All P (h x)) → (xs : List X) → All Q xs → All P (flat_map h xs)
all_flat Q P h each [] all = All-nil P
all_flat Q P h each (x ∷ xs) all =
    All-append P (h x) (flat_map h xs) (each x (All-head Q x xs all)) (all_flat Q P h each xs (All-tail Q x xs all))

all_map : {X Y : Type 0} (P : Y → Type 0) (f : X → Y) → ((x : X) → P (f x)) → (xs : List X) → All P (map f xs)
all_map P f each [] = All-nil P
all_map P f each (x ∷ xs) = All-cons P (f x) (map f xs) (each x) (all_map P f each xs)

-- and of their sum
sum_flat : {X Y : Type 0} (g : Y → ℕ) (n : X → ℕ) (h : X → List Y) → ((x : X) → sum_by g (h x) ≡ n x) → (xs : List X) → sum_by g (flat_map h xs) ≡ sum_by n xs
sum_flat g n h each [] = refl
sum_flat g n h each (x ∷ xs) =
    omega (arith, sum_by-append g (h x) (flat_map h xs), each x, sum_flat g n h each xs, sum_by-cons n x xs)

sum_map : {X Y : Type 0} (g : Y → ℕ) (f : X → Y) (n : ℕ) → ((x : X) → g (f x) ≡ n) → (xs : List X) → sum_by g (map f xs) ≡ length xs * n
sum_map g f n each [] = omega arith
sum_map g f n each (x ∷ xs) =
    omega (arith, sum_by-cons g (f x) (map f xs), each x, sum_map g f n each xs)

length_words : {S : Type 0} (step : S → ℕ × S) (count : ℕ) (s : S) → length (first_words step count s) ≡ count
unfolding first_words
length_words step zero s = refl
length_words step (suc count) s = ap suc (length_words step count (step s).1)

either : {X : Type 0} (P : X → Type 0) (b : Bool) (x y : X) → P x → P y → P (cond b x y)
either P true x y px py = px
either P false x y px py = py

-- what holds of each event that may be chosen
by_choice : (P : Event → Type 0) (choice node worker : ℕ) → P (event.Step node worker 1) → P (event.Flush node worker) → P (event.Idle node worker) → P event.All → P (event.Tick node) → P (event.Play node worker) → P (event_of_choice choice node worker)
by_choice P choice node worker step flush idle all tick play =
    either P (nat_le choice 8) _ _ step (either P (choice == 9) _ _ flush (either P (choice == 10) _ _ idle
    (either P (nat_le choice 13) _ _ all (either P (choice == 14) _ _ tick play))))

one_of : (count n : ℕ) → 1 ≤ count → IsOneOf count (n % count + 1)
one_of count n some = (omega arith, omega (arith, mod_below n count (omega arith)))

drawn_fits : (nodes workers word : ℕ) → 1 ≤ nodes → 1 ≤ workers → EventFits nodes workers (drawn_event nodes workers word)
drawn_fits nodes workers word some_nodes some_workers =
    let at = one_of nodes (word / 16) some_nodes in
    let by = one_of workers (word / 256) some_workers in
    by_choice (EventFits nodes workers) (word % 16) _ _ (at, by, omega arith, omega arith) (at, by) (at, by) tt at (at, by)

drawn_not_random : (nodes workers word : ℕ) → IsNotRandom (drawn_event nodes workers word)
drawn_not_random nodes workers word = by_choice IsNotRandom (word % 16) _ _ tt tt tt tt tt tt

drawn_counts_one : (nodes workers word : ℕ) → count_of (drawn_event nodes workers word) ≡ 1
drawn_counts_one nodes workers word = by_choice (λ e. count_of e ≡ 1) (word % 16) _ _ refl refl refl refl refl refl

drawn_elects_none : (nodes workers word : ℕ) → elections_of (drawn_event nodes workers word) ≡ 0
drawn_elects_none nodes workers word = by_choice (λ e. elections_of e ≡ 0) (word % 16) _ _ refl refl refl refl refl refl

-- what holds of each list that an event may stand for: of drawn events, or of itself
by_event : (P : Event → List Event → Type 0) (nodes workers : ℕ) → ((seed count : ℕ) → P (event.Random seed count) (map (drawn_event nodes workers) (words_of_seed seed count))) → ((e : Event) → IsNotRandom e → P e (e ∷ [])) → (e : Event) → P e (expanded nodes workers e)
by_event P nodes workers drawn itself (event.Random seed count) = drawn seed count
by_event P nodes workers drawn itself e = itself e tt

pub expanded_fit : (nodes workers : ℕ) (events : List Event) → 1 ≤ nodes → 1 ≤ workers → All (EventFits nodes workers) events → All (EventFits nodes workers) (flat_map (expanded nodes workers) events)
expanded_fit nodes workers events some_nodes some_workers fit =
    all_flat (EventFits nodes workers) (EventFits nodes workers) (expanded nodes workers) (by_event (λ e list. EventFits nodes workers e → All (EventFits nodes workers) list) nodes workers
    (λ seed count fits. all_map (EventFits nodes workers) (drawn_event nodes workers) (λ word. drawn_fits nodes workers word some_nodes some_workers) (words_of_seed seed count))
    (λ e plain fits. All-cons (EventFits nodes workers) e [] fits (All-nil (EventFits nodes workers)))) events fit

pub expanded_not_random : (nodes workers : ℕ) (events : List Event) → All IsNotRandom (flat_map (expanded nodes workers) events)
expanded_not_random nodes workers events =
    all_flat (λ _. Unit {0}) IsNotRandom (expanded nodes workers) (λ e _. by_event (λ e list. All IsNotRandom list) nodes workers
    (λ seed count. all_map IsNotRandom (drawn_event nodes workers) (drawn_not_random nodes workers) (words_of_seed seed count))
    (λ e plain. All-cons IsNotRandom e [] plain (All-nil IsNotRandom)) e) events (λ k d within. tt)

pub expanded_count : (nodes workers : ℕ) (events : List Event) → sum_by count_of (flat_map (expanded nodes workers) events) ≡ sum_by count_of events
expanded_count nodes workers events =
    sum_flat count_of count_of (expanded nodes workers) (by_event (λ e list. sum_by count_of list ≡ count_of e) nodes workers
    (λ seed count. omega (arith, sum_map count_of (drawn_event nodes workers) 1 (drawn_counts_one nodes workers) (words_of_seed seed count), length_words pcg32 count (pcg32_of_seed (pcg32_seed 16 seed))))
    (λ e plain. omega arith)) events

pub expanded_elections : (nodes workers : ℕ) (events : List Event) → sum_by elections_of (flat_map (expanded nodes workers) events) ≡ sum_by elections_of events
expanded_elections nodes workers events =
    sum_flat elections_of elections_of (expanded nodes workers) (by_event (λ e list. sum_by elections_of list ≡ elections_of e) nodes workers
    (λ seed count. omega (arith, sum_map elections_of (drawn_event nodes workers) 0 (drawn_elects_none nodes workers) (words_of_seed seed count)))
    (λ e plain. omega arith)) events
