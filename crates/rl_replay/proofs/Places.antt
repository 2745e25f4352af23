-- Places, and the row at a place after some writes.
use Rattle.std.proofs.Common.{◌≡◌, ℕ, List, [], ◌∷◌, Bool, true, false, cond, ◌&&◌, ◌==◌, Option, Some, None, refl, sym, ap, ◌∙◌, arith, inl, inr, true≢false}
use Rattle.std.specs.List.{filter, list_any}
use Rattle.std.specs.FinMap.{get, get-insert, get-remove, same_map}
use Rattle.std.specs.Ordering.{nat_cmp, eq_by_cmp}
use Rattle.std.proofs.lemmas.Map.Lookups.{exact_pairs, exact_unsigned}
use Rattle.std.proofs.lemmas.Bool.Decides.{nat_tests}
use Rattle.std.proofs.lemmas.Bool.{cases_Bool, and_parts, or_parts}
use Rattle.rl_value.specs.Rows.{Rows, place_cmp}
use Rattle.rl_value.proofs.PlacesLemmas.{places_total}
use Rattle.rl_txn.specs.declared.item.Item.{Item}
use Rattle.rl_txn.specs.declared.write.Write.{Write}
use Rattle.rl_txn.specs.Serial.{put_or_remove, with_write, after_writes, rows_after}
use Rattle.rl_replay.specs.Replay.{is_at}

abbrev pub place_of : Write → ℕ × ℕ
place_of w = (w.table, w.key)

-- the order of places tells the same as the test
pub at_is : (q : ℕ × ℕ) (w : Write) → eq_by_cmp place_cmp q (w.table, w.key) ≡ is_at q w
at_is q w = go q.0 q.1 w.table w.key
  where
    go : (a b c d : ℕ) → eq_by_cmp place_cmp (a, b) (c, d) ≡ ((a == c) && (b == d))
    go a b c d = grind (arith, nat_tests)

pub at_same : (q : ℕ × ℕ) (w : Write) → is_at q w ≡ true → q ≡ place_of w
at_same q w h = let k = and_parts (q.0 == w.table) (q.1 == w.key) h in pair q.0 q.1 w.table w.key (same q.0 w.table k.0) (same q.1 w.key k.1)
  where
    same : (a b : ℕ) → (a == b) ≡ true → a ≡ b
    same a b t = grind (arith, nat_tests)

    pair : (a b c d : ℕ) → a ≡ c → b ≡ d → ◌≡◌ {A = ℕ × ℕ} (a, b) (c, d)
    pair a b c d e f = cc

pub at_self : (w : Write) → is_at (place_of w) w ≡ true
at_self w = go w.table w.key
  where
    go : (a b : ℕ) → ((a == a) && (b == b)) ≡ true
    go a b = grind (arith, nat_tests)

-- two maps of rows are equal where they are at each place
pub same_rows : (m n : Rows) → ((q : ℕ × ℕ) → get m q ≡ get n q) → m ≡ n
same_rows m n h = same_map places_total (exact_pairs nat_cmp nat_cmp exact_unsigned exact_unsigned) m n h

-- what stands at a place after some writes
abbrev pub written : Option (List ℕ) → ℕ × ℕ → List Write → Option (List ℕ)
written row q [] = row
written row q (w ∷ ws) = written (cond (is_at q w) w.row row) q ws

one_write : (rows : Rows) (w : Write) (q : ℕ × ℕ) → get (with_write rows w) q ≡ cond (is_at q w) w.row (get rows q)
one_write rows w q = go w.row
  where
    go : (row : Option (List ℕ)) → get (put_or_remove rows (w.table, w.key) row) q ≡ cond (is_at q w) row (get rows q)
    go None = get-remove places_total rows (w.table, w.key) q ∙ ap (λ b. cond b None (get rows q)) (at_is q w)
    go (Some row) = get-insert places_total rows (w.table, w.key) row q ∙ ap (λ b. cond b (Some row) (get rows q)) (at_is q w)

pub get-after_writes : (rows : Rows) (ws : List Write) (q : ℕ × ℕ) → get (after_writes rows ws) q ≡ written (get rows q) q ws
get-after_writes rows [] q = refl
get-after_writes rows (w ∷ ws) q = get-after_writes (with_write rows w) ws q ∙ ap (λ r. written r q ws) (one_write rows w q)

-- what stands at a place after some items
abbrev pub left_by : Option (List ℕ) → ℕ × ℕ → List Item → Option (List ℕ)
left_by row q [] = row
left_by row q (x ∷ xs) = left_by (written row q x.writes) q xs

pub get-rows_after : (rows : Rows) (xs : List Item) (q : ℕ × ℕ) → get (rows_after rows xs) q ≡ left_by (get rows q) q xs
get-rows_after rows [] q = refl
get-rows_after rows (x ∷ xs) q = get-rows_after (after_writes rows x.writes) xs q ∙ ap (λ r. left_by r q xs) (get-after_writes rows x.writes q)

-- where something is written at a place, it does not matter what stood there, and else it stays
pub written_over : (q : ℕ × ℕ) (ws : List Write) (a b : Option (List ℕ)) → list_any (is_at q) ws ≡ true → written a q ws ≡ written b q ws
written_over q [] a b h = absurd (true≢false (sym h))
written_over q (w ∷ ws) a b h = elim (cases_Bool (is_at q w)) [
  | inl t ↦ rw t refl
  | inr t ↦ rw t (written_over q ws a b (rw t at h))
]

pub written_not : (q : ℕ × ℕ) (ws : List Write) (a : Option (List ℕ)) → list_any (is_at q) ws ≡ false → written a q ws ≡ a
written_not q [] a h = refl
written_not q (w ∷ ws) a h = let k = or_parts (is_at q w) (list_any (is_at q) ws) h in rw k.0 (written_not q ws a k.1)

pub left_over : (q : ℕ × ℕ) (xs : List Item) (a b : Option (List ℕ)) → list_any (λ (x : Item). list_any (is_at q) x.writes) xs ≡ true → left_by a q xs ≡ left_by b q xs
left_over q [] a b h = absurd (true≢false (sym h))
left_over q (x ∷ xs) a b h = elim (cases_Bool (list_any (is_at q) x.writes)) [
  | inl t ↦ ap (λ r. left_by r q xs) (written_over q x.writes a b t)
  | inr t ↦ left_over q xs (written a q x.writes) (written b q x.writes) (rw t at h)
]

pub left_not : (q : ℕ × ℕ) (xs : List Item) (a : Option (List ℕ)) → list_any (λ (x : Item). list_any (is_at q) x.writes) xs ≡ false → left_by a q xs ≡ a
left_not q [] a h = refl
left_not q (x ∷ xs) a h = let k = or_parts (list_any (is_at q) x.writes) (list_any (λ (y : Item). list_any (is_at q) y.writes) xs) h in
    ap (λ r. left_by r q xs) (written_not q x.writes a k.0) ∙ left_not q xs a k.1

filter_in : (f : Write → Bool) (w : Write) (ws : List Write) → f w ≡ true → filter f (w ∷ ws) ≡ w ∷ filter f ws
filter_in f w ws e = ap (λ b. cond b (w ∷ filter f ws) (filter f ws)) e

filter_out : (f : Write → Bool) (w : Write) (ws : List Write) → f w ≡ false → filter f (w ∷ ws) ≡ filter f ws
filter_out f w ws e = ap (λ b. cond b (w ∷ filter f ws) (filter f ws)) e

-- a filter that at this place passes all, and one that passes nothing
pub written-filter_all : (f : Write → Bool) (q : ℕ × ℕ) (ws : List Write) (row : Option (List ℕ)) → ((w : Write) → is_at q w ≡ true → f w ≡ true) → written row q (filter f ws) ≡ written row q ws
written-filter_all f q [] row h = refl
written-filter_all f q (w ∷ ws) row h = elim (cases_Bool (f w)) [
  | inl u ↦ ap (written row q) (filter_in f w ws u) ∙ written-filter_all f q ws (cond (is_at q w) w.row row) h
  | inr u ↦ elim (cases_Bool (is_at q w)) [
    | inl t ↦ absurd (true≢false (sym (h w t) ∙ u))
    | inr t ↦ ap (written row q) (filter_out f w ws u) ∙ written-filter_all f q ws row h ∙ sym (ap (λ b. written (cond b w.row row) q ws) t)
  ]
]

pub written-filter_none : (f : Write → Bool) (q : ℕ × ℕ) (ws : List Write) (row : Option (List ℕ)) → ((w : Write) → is_at q w ≡ true → f w ≡ false) → written row q (filter f ws) ≡ row
written-filter_none f q [] row h = refl
written-filter_none f q (w ∷ ws) row h = elim (cases_Bool (f w)) [
  | inl u ↦ elim (cases_Bool (is_at q w)) [
    | inl t ↦ absurd (true≢false (sym u ∙ h w t))
    | inr t ↦ ap (written row q) (filter_in f w ws u) ∙ ap (λ b. written (cond b w.row row) q (filter f ws)) t ∙ written-filter_none f q ws row h
  ]
  | inr u ↦ ap (written row q) (filter_out f w ws u) ∙ written-filter_none f q ws row h
]
