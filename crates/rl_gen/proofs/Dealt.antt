-- Requests that are dealt to the workers in turn.
use Rattle.std.proofs.Common.{◌≡◌, ◌≢◌, ℕ, zero, suc, ◌+◌, ◌-◌, ◌%◌, ◌≤◌, ◌==◌, true, false, cond, List, [], ◌∷◌, ◌++◌, length, map, filter, replicate, sum_by, refl, ap, sym, ◌∙◌, add-one, append-nil, arith}
use Rattle.std.specs.List.{range_with_len}
use Rattle.std.proofs.lemmas.Bool.Decides.{nat_tests}
use Rattle.std.proofs.lemmas.List.{map-append}
use Rattle.std.proofs.lemmas.List.Elements.{filter-append}
use Rattle.std.proofs.lemmas.List.FromFn.{length-map-range_with_len}
use Rattle.std.proofs.lemmas.List.Sums.{sum_by-cons}
use Rattle.std.proofs.lemmas.Nat.{mod_below}
use Rattle.rl_base.specs.Lists.{with_last}
use Rattle.rl_txn.proofs.Folds.{range_push}
use Rattle.rl_txn.specs.declared.op.Op.{Op}
use Rattle.rl_script.proofs.FitsLemmas.{sum-with_last}
use Rattle.rl_gen.specs.Requests.{request_of, list_of, lists_of}

same_from : {X : Type 0} (f g : ℕ → X) (a n : ℕ) → ((w : ℕ) → a ≤ w → f w ≡ g w) → map f (range_with_len a n) ≡ map g (range_with_len a n)
same_from f g a zero same = refl
same_from f g a (suc n) same =
    ap (λ x. x ∷ map f (range_with_len (a + 1) n)) (same a (omega arith)) ∙ ap (λ xs. g a ∷ xs) (same_from f g (a + 1) n (λ w above. same w (omega arith)))

-- of some lists by number, one has one more element
pub one_longer : {X : Type 0} (f g : ℕ → List X) (a n i : ℕ) (x : X) → g (a + i) ≡ f (a + i) ++ x ∷ [] → ((w : ℕ) → w ≢ a + i → f w ≡ g w)
    → with_last (map f (range_with_len a n)) i x ≡ map g (range_with_len a n)
one_longer f g a zero i x here other = refl
one_longer f g a (suc n) zero x here other =
    let same : a + 0 ≡ a = omega arith in
    ap (λ xs. xs ∷ map f (range_with_len (a + 1) n)) (ap (λ w. f w ++ x ∷ []) (sym same) ∙ sym here ∙ ap g same)
    ∙ ap (λ xs. g a ∷ xs) (same_from f g (a + 1) n (λ w above. other w (omega arith)))
one_longer f g a (suc n) (suc i) x here other =
    let same : a + suc i ≡ a + 1 + i = omega arith in
    ap (λ xs. xs ∷ with_last (map f (range_with_len (a + 1) n)) i x) (other a (omega arith))
    ∙ ap (λ xs. g a ∷ xs) (one_longer f g (a + 1) n i x (ap g (sym same) ∙ here ∙ ap (λ w. f w ++ x ∷ []) same) (λ w apart. other w (omega arith)))

-- the requests of a worker, where there is one more of all
of_worker : (seed workers done worker : ℕ) → list_of seed workers (done + 1) worker ≡ list_of seed workers done worker ++ map (request_of seed) (cond (done % workers + 1 == worker) ((done + 1) ∷ []) [])
unfolding list_of
of_worker seed workers done worker =
    let own = λ (request : ℕ). (request - 1) % workers + 1 == worker in
    let last : range_with_len 1 (done + 1) ≡ range_with_len 1 done ++ (done + 1) ∷ [] = rw add-one (range_push 1 done ∙ ap (λ x. range_with_len 1 done ++ x ∷ []) (omega arith)) in
    let before : done + 1 - 1 ≡ done = omega arith in
    ap (λ xs. map (request_of seed) (filter own xs)) last ∙ ap (map (request_of seed)) (filter-append own (range_with_len 1 done) ((done + 1) ∷ []))
    ∙ map-append (request_of seed) (filter own (range_with_len 1 done)) (filter own ((done + 1) ∷ []))
    ∙ ap (λ n. map (request_of seed) (filter own (range_with_len 1 done)) ++ map (request_of seed) (cond (n % workers + 1 == worker) ((done + 1) ∷ []) [])) before

-- one more request goes to the next worker in turn
pub one_more_request : (seed workers done : ℕ) → 1 ≤ workers → with_last (lists_of seed workers done) (done % workers) (request_of seed (done + 1)) ≡ lists_of seed workers (done + 1)
unfolding lists_of
one_more_request seed workers done some =
    one_longer (list_of seed workers done) (list_of seed workers (done + 1)) 1 workers (done % workers) (request_of seed (done + 1)) here other
  where
    here : list_of seed workers (done + 1) (1 + done % workers) ≡ list_of seed workers done (1 + done % workers) ++ request_of seed (done + 1) ∷ []
    here =
        let own : (done % workers + 1 == 1 + done % workers) ≡ true = grind (arith, nat_tests) in
        of_worker seed workers done (1 + done % workers) ∙ ap (λ b. list_of seed workers done (1 + done % workers) ++ map (request_of seed) (cond b ((done + 1) ∷ []) [])) own

    other : (w : ℕ) → w ≢ 1 + done % workers → list_of seed workers done w ≡ list_of seed workers (done + 1) w
    other w apart =
        let not_own : (done % workers + 1 == w) ≡ false = grind (arith, nat_tests) in
        sym (of_worker seed workers done w ∙ ap (λ b. list_of seed workers done w ++ map (request_of seed) (cond b ((done + 1) ∷ []) [])) not_own ∙ append-nil (list_of seed workers done w))

-- before the first request is dealt
pub no_requests : (seed workers : ℕ) → replicate workers [] ≡ lists_of seed workers 0
unfolding lists_of list_of
no_requests seed workers = empty 1 workers
  where
    empty : (a n : ℕ) → replicate {A = List (List Op)} n [] ≡ map (λ (w : ℕ). []) (range_with_len a n)
    empty a zero = refl
    empty a (suc n) = ap (λ (ls : List (List (List Op))). [] ∷ ls) (empty (a + 1) n)

pub list_count : (seed workers requests : ℕ) → length (lists_of seed workers requests) ≡ workers
unfolding lists_of
list_count seed workers requests = length-map-range_with_len (list_of seed workers requests) 1 workers

none_of : (X : Type 0) (a n : ℕ) → sum_by (λ (xs : List X). length xs) (map (λ (w : ℕ). []) (range_with_len a n)) ≡ 0
none_of X a zero = refl
none_of X a (suc n) = omega (arith, sum_by-cons (λ (xs : List X). length xs) [] (map (λ (w : ℕ). []) (range_with_len (a + 1) n)), none_of X (a + 1) n)

-- no request is left out or dealt twice
pub all_dealt : (seed workers requests : ℕ) → 1 ≤ workers → sum_by (λ list. length list) (lists_of seed workers requests) ≡ requests
unfolding lists_of list_of
all_dealt seed workers zero some = none_of (List Op) 1 workers
all_dealt seed workers (suc n) some =
    let so_far = all_dealt seed workers n some in
    let next : done_lists ≡ with_last (lists_of seed workers n) (n % workers) (request_of seed (n + 1)) = ap (lists_of seed workers) (sym (add-one n)) ∙ sym (one_more_request seed workers n some) in
    ap (sum_by (λ list. length list)) next ∙ sum-with_last (lists_of seed workers n) (n % workers) (request_of seed (n + 1)) (omega (arith, mod_below n workers, list_count seed workers n)) ∙ ap (λ m. m + 1) so_far ∙ add-one n
  where
    done_lists : List (List (List Op))
    done_lists = lists_of seed workers (suc n)
