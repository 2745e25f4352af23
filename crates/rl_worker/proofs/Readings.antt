-- A read that counts is known to the evaluation.
use Rattle.std.proofs.Common.{◌≡◌, ℕ, zero, suc, ◌≤◌, List, [], ◌∷◌, length, nat_lt, Bool, true, false, not, is_some, if◌then◌else◌, ◌==◌, Option, Some, None, refl, sym, ap, ◌∙◌, subst, arith, cond, All, ◌+◌, ◌*◌}
use mathlib.Core.Bool.{false≢true}
use Rattle.std.proofs.lemmas.Bool.Decides.{nat_tests}
use Rattle.std.specs.Ordering.{eq_by_cmp, is_eq}
use Rattle.std.specs.declared.cmp.Ordering.{Ordering}
use Rattle.std.specs.declared.cmp.Ordering.TheVariants.{Less, Equal, Greater}
use Rattle.std.specs.FinMap as finite
use Rattle.rl_base.specs.declared.refusal.Refusal.{Refusal}
use Rattle.rl_base.specs.declared.refusal.Refusal.TheVariants as refusals
use Rattle.rl_value.specs.Rows.{place_cmp}
use Rattle.rl_value.specs.Tables.{Table}
use Rattle.rl_tables.specs.Numbers.{sizes_of, place_of}
use Rattle.rl_txn.specs.Run.{Overlay}
use Rattle.rl_txn.specs.Eval.{is_new}
use Rattle.rl_txn.proofs.RowSets.{places_total, same_place}
use Rattle.rl_worker.specs.declared.act.Act.TheVariants as act
use Rattle.rl_worker.specs.declared.reading.Reading.{Reading}
use Rattle.rl_worker.specs.declared.words.Words.{Words}
use Rattle.rl_worker.specs.Phases.{Read, Rec, Rest, Asking, Loading, Setting, with_read}
use Rattle.rl_worker.specs.Opening.{overlay_of}
use Rattle.rl_value.specs.Cells.{row_of}
use Rattle.rl_worker.specs.Told.{found, word}
use Rattle.rl_worker.specs.Workers.{reading_phase}
use Rattle.rl_worker.specs.Attempts.{IsAct}
use Rattle.rl_worker.proofs.Commits.{act_at, set_found}

equal : (o : Ordering) → is_eq o ≡ true → o ≡ Equal
equal Less e = absurd (false≢true e)
equal Equal e = refl
equal Greater e = absurd (false≢true e)

at_one : (p q : ℕ × ℕ) → eq_by_cmp place_cmp p q ≡ true → p ≡ q
at_one p q e = same_place p q (equal (place_cmp p q) e)

module _ (m : Overlay) (p q : ℕ × ℕ) (r s : Option (List ℕ)) where
  -- a place that is new after an insert is another one, and was new before
  new_before : is_new (finite.insert m p r) q ≡ true → (eq_by_cmp place_cmp q p ≡ false) × (is_new m q ≡ true)
  new_before h = go (eq_by_cmp place_cmp q p) refl (subst (λ o. not (is_some o) ≡ true) (finite.get-insert places_total m p r q) h)
    where
      go : (b : Bool) → eq_by_cmp place_cmp q p ≡ b → not (is_some (cond b (Some r) (finite.get m q))) ≡ true → (eq_by_cmp place_cmp q p ≡ false) × (is_new m q ≡ true)
      go true e n = absurd (false≢true n)
      go false e n = (e, n)

  -- inserts at two places commute
  commute : eq_by_cmp place_cmp q p ≡ false → finite.insert (finite.insert m q s) p r ≡ finite.insert (finite.insert m p r) q s
  commute other = finite.same_map places_total (λ x y e. same_place x y e) (finite.insert (finite.insert m q s) p r) (finite.insert (finite.insert m p r) q s)
      (λ k. finite.get-insert places_total (finite.insert m q s) p r k ∙ ap (cond (eq_by_cmp place_cmp k p) (Some r)) (finite.get-insert places_total m q s k)
      ∙ go k (eq_by_cmp place_cmp k p) (eq_by_cmp place_cmp k q) refl refl
      ∙ sym (finite.get-insert places_total (finite.insert m p r) q s k ∙ ap (cond (eq_by_cmp place_cmp k q) (Some s)) (finite.get-insert places_total m p r k)))
    where
      go : (k : ℕ × ℕ) (a b : Bool) → eq_by_cmp place_cmp k p ≡ a → eq_by_cmp place_cmp k q ≡ b
          → cond a (Some r) (cond b (Some s) (finite.get m k)) ≡ cond b (Some s) (cond a (Some r) (finite.get m k))
      go k true true e f = absurd (false≢true (sym other ∙ ap (λ z. eq_by_cmp place_cmp z p) (sym (at_one k q f)) ∙ e))
      go k true false e f = refl
      go k false true e f = refl
      go k false false e f = refl

-- the rows read are those before and the new one
pub overlay_with : (tables : List Table) (x : Read) (ys : List Read) → is_new (overlay_of tables ys) (place_of (sizes_of tables) x.rec) ≡ true
    → overlay_of tables (with_read x ys) ≡ finite.insert (overlay_of tables ys) (place_of (sizes_of tables) x.rec) (row_of x.row)
overlay_with tables x [] h = refl
overlay_with tables x (y ∷ ys) h =
    let before = new_before (overlay_of tables ys) (place_of (sizes_of tables) y.rec) (place_of (sizes_of tables) x.rec) (row_of y.row) (row_of x.row) h in
    go (nat_lt x.rec y.rec) (overlay_with tables x ys before.1) before.0
  where
    go : (b : Bool) → overlay_of tables (with_read x ys) ≡ finite.insert (overlay_of tables ys) (place_of (sizes_of tables) x.rec) (row_of x.row) → eq_by_cmp place_cmp (place_of (sizes_of tables) x.rec) (place_of (sizes_of tables) y.rec) ≡ false
        → overlay_of tables (if b then x ∷ y ∷ ys else y ∷ with_read x ys) ≡ finite.insert (overlay_of tables (y ∷ ys)) (place_of (sizes_of tables) x.rec) (row_of x.row)
    go true rest other = refl
    go false rest other = ap (λ m. finite.insert m (place_of (sizes_of tables) y.rec) (row_of y.row)) rest
        ∙ commute (overlay_of tables ys) (place_of (sizes_of tables) y.rec) (place_of (sizes_of tables) x.rec) (row_of y.row) (row_of x.row) other

pub all_more : {X : Type 0} (P : X → Type 0) (y : X) (ys : List X) → P y → All P ys → All P (y ∷ ys)
all_more P y ys h t zero d l = h
all_more P y ys h t (suc i) d l = t i d (omega arith)

-- what holds of each read and of one more holds of all
pub all_with : (P : Read → Type 0) (x : Read) (ys : List Read) → P x → All P ys → All P (with_read x ys)
all_with P x [] h t = all_more P x [] h t
all_with P x (y ∷ ys) h t =
    let rest : All P ys = λ i d l. t (suc i) d (omega arith) in
    go (nat_lt x.rec y.rec) (all_with P x ys h rest)
  where
    go : (b : Bool) → All P (with_read x ys) → All P (if b then x ∷ y ∷ ys else y ∷ with_read x ys)
    go true r = all_more P x (y ∷ ys) h t
    go false r = all_more P y (with_read x ys) (t 0 y (omega arith)) r

-- nothing stands against a read that nobody holds and that has its stamp
pub no_conflict : (l b : Bool) (a c : Refusal) → (if l then Some a else if b then None else Some c) ≡ None → (l ≡ false) × (b ≡ true)
no_conflict true b a c e = absurd (cc)
no_conflict false true a c e = (refl, refl)
no_conflict false false a c e = absurd (cc)

pub confirms : (s : Setting) (w e q : ℕ) (r : Reading) (words : Words) (x : Rec) (reads' : List Read) → r.is_open ≡ true → found words.records.items r.next.rec ≡ x → length x.cells ≤ length r.next.row
    → is_some x.holder ≡ false → (x.stamp == r.next.seen) ≡ true → reads' ≡ with_read r.next r.reads.0
    → IsAct s w e (reading_phase q r) (Asking q reads') words words (record { act = act.Confirm r.next.rec (word (found words.records.items r.next.rec)); refused = None; ended = None })
confirms s w e q r words x reads' op fx long free same is =
    let b : nat_lt (length r.next.row) (length x.cells) ≡ false = grind (arith, nat_tests) in
    act_at s w e (reading_phase q r) (Loading q r.reads.0 r.next.rec r.next.seen r.next.row) (Asking q reads') words words x _ (rw op refl) fx
    (rw (b, free, same) (ap (Asking q) is))
    (rw (b, free, same) (set_found words.records.items r.next.rec x fx))
    (rw (b, free, same) refl)
    (rw (b, free, same) refl)
    (rw b (ap (λ (y : Rec). act.Confirm r.next.rec (word y)) fx))
    refl

-- what stands against a read refuses its attempt
pub refuses : (s : Setting) (w e q : ℕ) (r : Reading) (words : Words) (x : Rec) (f : Refusal) → r.is_open ≡ true → found words.records.items r.next.rec ≡ x → length x.cells ≤ length r.next.row
    → (if is_some x.holder then Some (refusals.Locked r.next.rec (2 * x.stamp + 1)) else if x.stamp == r.next.seen then None else Some (refusals.Changed r.next.rec (2 * r.next.seen) (2 * x.stamp))) ≡ Some f
    → IsAct s w e (reading_phase q r) (Rest q) words words (record { act = act.Confirm r.next.rec (word (found words.records.items r.next.rec)); refused = Some f; ended = None })
refuses s w e q r words x f op fx long said = go (is_some x.holder) (x.stamp == r.next.seen) refl refl said
  where
    b : nat_lt (length r.next.row) (length x.cells) ≡ false
    b = grind (arith, nat_tests)

    go : (h c : Bool) → is_some x.holder ≡ h → (x.stamp == r.next.seen) ≡ c → (if h then Some (refusals.Locked r.next.rec (2 * x.stamp + 1)) else if c then None else Some (refusals.Changed r.next.rec (2 * r.next.seen) (2 * x.stamp))) ≡ Some f
        → IsAct s w e (reading_phase q r) (Rest q) words words (record { act = act.Confirm r.next.rec (word (found words.records.items r.next.rec)); refused = Some f; ended = None })
    go true c eh ec k = act_at s w e (reading_phase q r) (Loading q r.reads.0 r.next.rec r.next.seen r.next.row) (Rest q) words words x _ (rw op refl) fx
        (rw (b, eh) refl)
        (rw (b, eh) (set_found words.records.items r.next.rec x fx))
        (rw (b, eh) refl)
        (rw (b, eh) (sym k))
        (rw b (ap (λ (y : Rec). act.Confirm r.next.rec (word y)) fx))
        refl
    go false true eh ec k = absurd (cc)
    go false false eh ec k = act_at s w e (reading_phase q r) (Loading q r.reads.0 r.next.rec r.next.seen r.next.row) (Rest q) words words x _ (rw op refl) fx
        (rw (b, eh, ec) refl)
        (rw (b, eh, ec) (set_found words.records.items r.next.rec x fx))
        (rw (b, eh, ec) refl)
        (rw (b, eh, ec) (sym k))
        (rw b (ap (λ (y : Rec). act.Confirm r.next.rec (word y)) fx))
        refl
