-- The events of a generated script fit it.
use Rattle.std.proofs.Common.{◌≡◌, ℕ, zero, suc, ◌+◌, ◌-◌, ◌*◌, ◌^◌, ◌<◌, ◌≤◌, List, [], ◌∷◌, ◌++◌, map, replicate, sum_by, refl, ap, sym, ◌∙◌, subst, arith}
use Rattle.std.specs.Prelude.{All as AllOf}
use Rattle.std.specs.List.{range_with_len}
use Rattle.std.proofs.lemmas.List.Elements.{All-nil, All-cons, All-append, All-map, All-replicate, All-from_get_or}
use Rattle.std.proofs.lemmas.List.FromFn.{length-range_with_len, get_or-range_with_len}
use Rattle.std.proofs.lemmas.List.Sums.{sum_by-cons, sum_by-append}
use Rattle.std.proofs.lemmas.Nat.{div-add-mod', mul-le}
use Rattle.rl_events.specs.Fits.{EventFits, EventsFit, IsOneOf, count_of, elections_of}
use Rattle.rl_events.specs.declared.event.Event.{Event}
use Rattle.rl_events.specs.declared.event.Event.TheVariants.{Step, Flush, Idle, All, Elect, PlayAll, Random}
use Rattle.rl_gen.specs.Events.{times, each_worker, round, block, block_count, events_of}

numbered : (n : ℕ) → AllOf (IsOneOf n) (range_with_len 1 n)
numbered n = All-from_get_or (IsOneOf n) (range_with_len 1 n) 0 (λ i within.
    let there : i < n = omega (arith, length-range_with_len 1 n) in
    subst (IsOneOf n) (sym (get_or-range_with_len 1 n i 0 there)) (omega arith, omega arith))

for_each : (P : Event → Type 0) (n : ℕ) (event : ℕ → Event) → ((w : ℕ) → IsOneOf n w → P (event w)) → AllOf P (map event (range_with_len 1 n))
for_each P n event fits = All-map P event (range_with_len 1 n) (λ k d within. fits _ (numbered n k d within))

all_times : (P : Event → Type 0) (n : ℕ) (events : List Event) → AllOf P events → AllOf P (times n events)
all_times P zero events all = All-nil P
all_times P (suc n) events all = All-append P events (times n events) all (all_times P n events all)

-- a sum over events that come so many times
sum_times : (f : Event → ℕ) (n : ℕ) (events : List Event) → sum_by f (times n events) ≡ n * sum_by f events
sum_times f zero events = omega arith
sum_times f (suc n) events = omega (arith, sum_by-append f events (times n events), sum_times f n events)

-- a sum over events of which each counts the same
sum_each : (f : Event → ℕ) (event : ℕ → Event) (c : ℕ) → ((w : ℕ) → f (event w) ≡ c) → (a n : ℕ) → sum_by f (map event (range_with_len a n)) ≡ n * c
sum_each f event c is a zero = omega arith
sum_each f event c is a (suc n) = omega (arith, sum_by-cons f (event a) (map event (range_with_len (a + 1) n)), is a, sum_each f event c is (a + 1) n)

sum_same : (f : Event → ℕ) (n : ℕ) (event : Event) → sum_by f (replicate n event) ≡ n * f event
sum_same f zero event = omega arith
sum_same f (suc n) event = omega (arith, sum_by-cons f event (replicate n event), sum_same f n event)

-- what a block counts as, where a step of five counts as c and a delivery as one
sum_block : (f : Event → ℕ) (workers c one : ℕ) → ((w : ℕ) → f (Step 1 w 5) ≡ c) → f All ≡ one → sum_by f (block workers) ≡ 8 * (workers * c) + one
unfolding block
sum_block f workers c one steps delivery =
    let many : sum_by f (times 8 (round workers)) ≡ 8 * (workers * c) = sum_times f 8 (round workers) ∙ ap (λ n. 8 * n) (sum_each f (λ w. Step 1 w 5) c steps 1 workers) in
    omega (arith, sum_by-append f (times 8 (round workers)) (All ∷ []), many, sum_by-cons f All [], delivery)

-- how each event counts: those that are neither steps, random ones nor elections alike
pub record Counts (f : Event → ℕ) (seed step one random elect : ℕ) : Type 0 where
  pub steps : (w : ℕ) → f (Step 1 w 5) ≡ step
  pub flushes : (w : ℕ) → f (Flush 1 w) ≡ one
  pub idles : (w : ℕ) → f (Idle 1 w) ≡ one
  pub plays : (n : ℕ) → f (PlayAll n) ≡ one
  pub delivery : f All ≡ one
  pub draw : f (Random seed 2000) ≡ random
  pub election : f (Elect 1) ≡ elect

module _ (seed nodes workers requests : ℕ) where
  count : ℕ
  count = block_count workers requests

  four : List Event
  four = replicate 4 All

  blocks : List Event
  blocks = times (block_count workers requests) (block workers)

  flushed : List Event
  flushed = each_worker workers (Flush 1)

  idled : List Event
  idled = each_worker workers (Idle 1)

  three : List Event
  three = replicate 3 All

  played : List Event
  played = map PlayAll (range_with_len 1 nodes)

  sum_events : (f : Event → ℕ) (step one random elect : ℕ) → Counts f seed step one random elect
      → sum_by f (events_of seed nodes workers requests) ≡ elect + 4 * one + count * (8 * (workers * step) + one) + random + workers * one + workers * one + 3 * one + nodes * one
  unfolding events_of count four blocks flushed idled three played
  sum_events f step one random elect k =
      let drawn : List Event = Random seed 2000 ∷ [] in
      let fours : sum_by f four ≡ 4 * one = sum_same f 4 All ∙ ap (λ n. 4 * n) k.delivery in
      let threes : sum_by f three ≡ 3 * one = sum_same f 3 All ∙ ap (λ n. 3 * n) k.delivery in
      let counted : sum_by f blocks ≡ count * (8 * (workers * step) + one) = sum_times f count (block workers) ∙ ap (λ n. count * n) (sum_block f workers step one k.steps k.delivery) in
      let first : sum_by f (Elect 1 ∷ four) ≡ elect + 4 * one = sum_by-cons f (Elect 1) four ∙ plus k.election fours in
      let random_one : sum_by f drawn ≡ random = omega (arith, sum_by-cons f (Random seed 2000) [], k.draw) in
      sum_by-append f (Elect 1 ∷ four ++ blocks ++ drawn ++ flushed ++ idled ++ three) played
      ∙ plus (sum_by-append f (Elect 1 ∷ four ++ blocks ++ drawn ++ flushed ++ idled) three
      ∙ plus (sum_by-append f (Elect 1 ∷ four ++ blocks ++ drawn ++ flushed) idled
      ∙ plus (sum_by-append f (Elect 1 ∷ four ++ blocks ++ drawn) flushed
      ∙ plus (sum_by-append f (Elect 1 ∷ four ++ blocks) drawn
      ∙ plus (sum_by-append f (Elect 1 ∷ four) blocks ∙ plus first counted) random_one)
      (sum_each f (Flush 1) one k.flushes 1 workers)) (sum_each f (Idle 1) one k.idles 1 workers)) threes) (sum_each f PlayAll one k.plays 1 nodes)
    where
      plus : {m n o p : ℕ} → m ≡ n → o ≡ p → m + o ≡ n + p
      plus {n = n} {o = o} x y = ap (λ m. m + o) x ∙ ap (λ o. n + o) y

  block_fits : 1 ≤ nodes → AllOf (EventFits nodes workers) (block workers)
  unfolding block
  block_fits some =
      All-append (EventFits nodes workers) (times 8 (round workers)) (All ∷ [])
      (all_times (EventFits nodes workers) 8 (round workers) (for_each (EventFits nodes workers) workers (λ w. Step 1 w 5) (λ w is. ((omega arith, omega arith), is, omega arith, omega arith))))
      (All-cons (EventFits nodes workers) All [] tt (All-nil (EventFits nodes workers)))

  each_fits : seed < 2 ^ 32 → 1 ≤ nodes → AllOf (EventFits nodes workers) (events_of seed nodes workers requests)
  unfolding events_of four blocks flushed idled three played
  each_fits small some =
      let Fits : Event → Type 0 = EventFits nodes workers in
      let drawn : List Event = Random seed 2000 ∷ [] in
      All-append Fits (Elect 1 ∷ four ++ blocks ++ drawn ++ flushed ++ idled ++ three) played
      (All-append Fits (Elect 1 ∷ four ++ blocks ++ drawn ++ flushed ++ idled) three
      (All-append Fits (Elect 1 ∷ four ++ blocks ++ drawn ++ flushed) idled
      (All-append Fits (Elect 1 ∷ four ++ blocks ++ drawn) flushed
      (All-append Fits (Elect 1 ∷ four ++ blocks) drawn
      (All-append Fits (Elect 1 ∷ four) blocks
      (All-cons Fits (Elect 1) four (omega arith, omega arith) (All-replicate Fits 4 All tt))
      (all_times Fits (block_count workers requests) (block workers) (block_fits some)))
      (All-cons Fits (Random seed 2000) [] (omega arith, omega arith, omega arith) (All-nil Fits)))
      (for_each Fits workers (Flush 1) (λ w is. ((omega arith, omega arith), is))))
      (for_each Fits workers (Idle 1) (λ w is. ((omega arith, omega arith), is))))
      (All-replicate Fits 3 All tt))
      (for_each Fits nodes PlayAll (λ w is. is))

  -- there are few enough blocks, however many steps each has
  few_blocks : 1 ≤ workers → workers ≤ 16 → requests ≤ 2000 → (count * workers ≤ 2015) × (count ≤ 2015)
  unfolding count
  few_blocks some few short =
      let whole = div-add-mod' (requests + workers - 1) workers in
      let all : block_count workers requests * workers ≤ 2015 = omega arith in
      let least = mul-le (block_count workers requests) 1 (block_count workers requests) workers (omega arith) some in
      (all, omega arith)

  pub events_fit : seed < 2 ^ 32 → 1 ≤ nodes → nodes ≤ 7 → 1 ≤ workers → workers ≤ 16 → requests ≤ 2000 → EventsFit nodes workers (events_of seed nodes workers requests)
  events_fit small some_nodes few_nodes some_workers few_workers short =
      let few = few_blocks some_workers few_workers short in
      let counted = sum_events count_of 5 1 2000 1 (record { steps = λ w. refl; flushes = λ w. refl; idles = λ w. refl; plays = λ n. refl; delivery = refl; draw = refl; election = refl }) in
      let elections = sum_events elections_of 0 0 0 1 (record { steps = λ w. refl; flushes = λ w. refl; idles = λ w. refl; plays = λ n. refl; delivery = refl; draw = refl; election = refl }) in
      record {
        each = each_fits small some_nodes;
        counted = omega (arith, few.0, few.1);
        elections = omega arith;
      }
