-- The newest stamp of each key, one write further.
use Rattle.std.proofs.Common.{◌≡◌, ℕ, ◌+◌, ◌<◌, List, [], ◌∷◌, ◌++◌, length, get_or, take, drop, Bool, true, false, cond, not, ◌||◌, Option, Some, refl, sym, ap, ◌∙◌, inl, inr, true≢false}
use Rattle.std.specs.List.{list_any}
use Rattle.std.specs.FinMap.{get, insert, get-insert}
use Rattle.std.proofs.lemmas.List.{take_more, take-append-drop, take_at}
use Rattle.std.proofs.lemmas.List.Elements.{filter-append, filter_agree}
use Rattle.std.proofs.lemmas.Bool.{cases_Bool}
use Rattle.rl_base.specs.declared.stamp.Stamp.{Stamp}
use Rattle.rl_value.specs.Rows.{Rows}
use Rattle.rl_value.proofs.PlacesLemmas.{places_total}
use Rattle.rl_txn.specs.declared.write.Write.{Write}
use Rattle.rl_txn.specs.Serial.{after_writes}
use Rattle.rl_txn.proofs.Folds.{after_writes-append}
use Rattle.rl_base.proofs.OrderLemmas.{not_below_self}
use Rattle.rl_replay.specs.Replay.{is_at}
use Rattle.rl_replay.specs.Newest.{Newest, is_old, fresh, stamped}
use Rattle.rl_replay.proofs.Places.{at_same, at_is}

-- where a fresh write is, nothing is newer
pub fresh_at : (newest : Newest) (s : Stamp) (q : ℕ × ℕ) (ws : List Write) → list_any (is_at q) (fresh newest s ws) ≡ true → is_old (get newest q) s ≡ false
fresh_at newest s q [] h = absurd (true≢false (sym h))
fresh_at newest s q (w ∷ ws) h = elim (cases_Bool (is_old (get newest (w.table, w.key)) s)) [
  | inl t ↦ fresh_at newest s q ws (rw t at h)
  | inr t ↦ elim (cases_Bool (is_at q w)) [
    | inl a ↦ ap (λ (p : ℕ × ℕ). is_old (get newest p) s) (at_same q w a) ∙ t
    | inr a ↦ (let h2 : (is_at q w || list_any (is_at q) (fresh newest s ws)) ≡ true = rw t at h in fresh_at newest s q ws (rw a at h2))
  ]
]

-- the fresh writes do not change which are fresh
pub old_stays : (newest : Newest) (s : Stamp) (q : ℕ × ℕ) (ws : List Write) → is_old (stamped (get newest q) s q (fresh newest s ws)) s ≡ is_old (get newest q) s
old_stays newest s q ws = elim (cases_Bool (list_any (is_at q) (fresh newest s ws))) [
  | inl t ↦ rw t (not_below_self s ∙ sym (fresh_at newest s q ws t))
  | inr t ↦ rw t refl
]

stamped-append : (before : Option Stamp) (s : Stamp) (q : ℕ × ℕ) (xs ys : List Write) → stamped (stamped before s q xs) s q ys ≡ stamped before s q (xs ++ ys)
stamped-append before s q [] ys = refl
stamped-append before s q (x ∷ xs) ys = elim (cases_Bool (is_at q x)) [
  | inl t ↦ rw t (same (list_any (is_at q) ys))
  | inr t ↦ rw t (stamped-append before s q xs ys)
]
  where
    same : (b : Bool) → cond b (Some s) (Some s) ≡ Some s
    same true = refl
    same false = refl

fresh_more : (newest : Newest) (s : Stamp) (ws : List Write) (i : ℕ) (w : Write) → i < length ws → w ≡ get_or ws i w → fresh newest s (take (i + 1) ws) ≡ fresh newest s (take i ws) ++ fresh newest s (w ∷ [])
fresh_more newest s ws i w l e =
    ap (fresh newest s) (take_more ws i w l) ∙ filter-append (λ (v : Write). not (is_old (get newest (v.table, v.key)) s)) (take i ws) (get_or ws i w ∷ []) ∙ ap (λ v. fresh newest s (take i ws) ++ fresh newest s (v ∷ [])) (sym e)

-- one write further, by what is newest now
module _ (first now : Newest) (s : Stamp) (ws : List Write) (i : ℕ) (w : Write) (l : i < length ws) (e : w ≡ get_or ws i w)
    (h : (q : ℕ × ℕ) → get now q ≡ stamped (get first q) s q (fresh first s (take i ws))) where
  same_fresh : fresh now s (w ∷ []) ≡ fresh first s (w ∷ [])
  same_fresh = filter_agree (λ (v : Write). not (is_old (get now (v.table, v.key)) s)) (λ (v : Write). not (is_old (get first (v.table, v.key)) s))
      (λ v. ap not (ap (λ o. is_old o s) (h (v.table, v.key)) ∙ old_stays first s (v.table, v.key) (take i ws))) (w ∷ [])

  pub rows_more : (start : Rows) → after_writes (after_writes start (fresh first s (take i ws))) (fresh now s (w ∷ [])) ≡ after_writes start (fresh first s (take (i + 1) ws))
  rows_more start = ap (after_writes (after_writes start (fresh first s (take i ws)))) same_fresh ∙ sym (ap (after_writes start) (fresh_more first s ws i w l e) ∙ after_writes-append start (fresh first s (take i ws)) (fresh first s (w ∷ [])))

  pub stamps_more : (q : ℕ × ℕ) → stamped (get now q) s q (fresh now s (w ∷ [])) ≡ stamped (get first q) s q (fresh first s (take (i + 1) ws))
  stamps_more q = ap (λ o. stamped o s q (fresh now s (w ∷ []))) (h q) ∙ ap (stamped (stamped (get first q) s q (fresh first s (take i ws))) s q) same_fresh
      ∙ stamped-append (get first q) s q (fresh first s (take i ws)) (fresh first s (w ∷ [])) ∙ ap (stamped (get first q) s q) (sym (fresh_more first s ws i w l e))

-- what was made before some write is a prefix of all
pub prefix_made : (newest : Newest) (s : Stamp) (ws : List Write) (i : ℕ) → fresh newest s (take i ws) ≡ take (length (fresh newest s (take i ws))) (fresh newest s ws)
prefix_made newest s ws i =
    let parts : fresh newest s ws ≡ fresh newest s (take i ws) ++ fresh newest s (drop i ws) =
    ap (fresh newest s) (sym (take-append-drop i ws)) ∙ filter-append (λ (v : Write). not (is_old (get newest (v.table, v.key)) s)) (take i ws) (drop i ws) in
    sym (ap (take (length (fresh newest s (take i ws)))) parts ∙ take_at (fresh newest s (take i ws)) (fresh newest s (drop i ws)) (length (fresh newest s (take i ws))) refl)

-- the stamp of one fresh write
pub one_stamp : (newest : Newest) (s : Stamp) (w : Write) (q : ℕ × ℕ) → is_old (get newest (w.table, w.key)) s ≡ false → get (insert newest (w.table, w.key) s) q ≡ stamped (get newest q) s q (fresh newest s (w ∷ []))
one_stamp newest s w q h = rw h (get-insert places_total newest (w.table, w.key) s q ∙ ap (λ b. cond b (Some s) (get newest q)) (at_is q w) ∙ or_nothing (is_at q w))
  where
    or_nothing : (b : Bool) → cond b (Some s) (get newest q) ≡ cond (b || false) (Some s) (get newest q)
    or_nothing true = refl
    or_nothing false = refl
