-- What the invariant says of the decided entries: they are serial.
use Rattle.std.proofs.Common.{◌≡◌, ◌≢◌, ℕ, zero, suc, ◌+◌, ◌<◌, ◌≤◌, List, [], ◌∷◌, Bool, true, false, nat_lt, Option, Some, None, refl, sym, ap, ◌∙◌, subst, arith, inl, inr}
use Rattle.std.proofs.lemmas.Bool.Decides.{eqb_tells, nat_tests}
use mathlib.Core.Path.{fun_ext}
use Rattle.rl_base.specs.Lists.{updated}
use Rattle.rl_base.proofs.UpdateLemmas.{updated_same, updated_other}
use Rattle.rl_worker.proofs.States.{Read, Void, Decided, Entry, State, has, row_at, decided}
use Rattle.rl_worker.specs.Items.{CoreItem, insert_by_stamp}
use Rattle.rl_worker.proofs.OwnLaw.{Ground, AllRows, Meets, or_row, Serial, Rising}
use Rattle.rl_worker.proofs.Inv.{Version, Alone, Seen, AllAlone, Inv}
use Rattle.rl_worker.proofs.Local.{Lawful, decided_lives}
use Rattle.rl_worker.proofs.Basics.{has_row}

abbrev pub item : ℕ → Entry → CoreItem
item t e = record { stamp = t; worker = e.worker; index = e.index; answer = e.answer; writes = e.writes }

abbrev pub over : Bool → Option (List ℕ) → List ℕ → List ℕ
over false row old = old
over true row old = or_row row old

-- the map after the decided entries below t
abbrev pub view : Ground → (ℕ → Entry) → ℕ → ℕ → List ℕ
view G log zero r = (G.start r).cells
view G log (suc t) r = over (decided (log t).status) (row_at r (log t).writes) (view G log t r)

pub over_none : (b : Bool) (o : Option (List ℕ)) (old : List ℕ) → (b ≡ true → o ≡ None) → over b o old ≡ old
over_none false o old h = refl
over_none true o old h = rw (h refl) refl

module _ (G : Ground) (L : Lawful G) (σ : State) (inv : Inv G σ) where
  view_step : (t r : ℕ) → (decided (σ.log t).status ≡ true → has r (σ.log t).writes ≡ false) → view G σ.log (suc t) r ≡ view G σ.log t r
  view_step t r h = over_none (decided (σ.log t).status) (row_at r (σ.log t).writes) (view G σ.log t r) (λ d. has_row r (σ.log t).writes (h d))

  view_start : (t r : ℕ) → ((u : ℕ) → u < t → decided (σ.log u).status ≡ true → has r (σ.log u).writes ≡ false) → view G σ.log t r ≡ (G.start r).cells
  view_start zero r h = refl
  view_start (suc t) r h = view_step t r (h t (omega arith)) ∙ view_start t r (λ u a. h u (omega arith))

  view_from : (t r v : ℕ) (row : List ℕ) → decided (σ.log v).status ≡ true → row_at r (σ.log v).writes ≡ Some row → v < t → Alone G σ t r v → view G σ.log t r ≡ row
  view_from zero r v row d w lt al = absurd (omega arith)
  view_from (suc t) r v row d w lt al = elim (eqb_tells v t) [
    | inl i ↦ subst (λ z. over (decided (σ.log z).status) (row_at r (σ.log z).writes) (view G σ.log t r) ≡ row) i.1 (rw (d, w) refl)
    | inr n ↦ (let below : v < t = omega (arith, n.1) in
        view_step t r (λ e. al t below (omega arith) (decided_lives (σ.log t).status e)) ∙ view_from t r v row d w below (λ u a b l. al u a (omega arith) l))
  ]

  pub view_at : (t r v : ℕ) (row : List ℕ) → Version G σ r v row → v < t → Alone G σ t r v → view G σ.log t r ≡ row
  view_at t r v row h lt al = elim h [
    | inl a ↦ view_start t r (λ u b d. al u (omega (arith, (inv.past u (decided_lives (σ.log u).status d)).0, L.early r, a.0)) b (decided_lives (σ.log u).status d)) ∙ sym a.1
    | inr b ↦ view_from t r v row b.0 b.1 lt al
  ]

  rows_agree : (t : ℕ) (xs : List Read) → Seen G σ t xs → AllAlone G σ t xs → AllRows (view G σ.log t) xs
  rows_agree t [] s a = 0
  rows_agree t (x ∷ xs) s a = (view_at t x.rec x.seen x.row s.0 s.1 a.0, rows_agree t xs s.2 a.1)

  -- each decided entry is what its transaction does on the map that the earlier ones leave
  pub serial : (t : ℕ) → decided (σ.log t).status ≡ true → Meets G.setting (view G σ.log t) (item t (σ.log t))
  serial t d = let f = inv.final t d in record { reads = (σ.log t).reads; rows = rows_agree t (σ.log t).reads f.seen f.alone; ends = f.ends }

-- the decided entries from t on, among k
abbrev pub kept : Bool → CoreItem → List CoreItem → List CoreItem
kept false x xs = xs
kept true x xs = x ∷ xs

abbrev pub items_from : (ℕ → Entry) → ℕ → ℕ → List CoreItem
items_from log t zero = []
items_from log t (suc k) = kept (decided (log t).status) (item t (log t)) (items_from log (suc t) k)

pub rising_less : (b c : ℕ) (xs : List CoreItem) → b ≤ c → Rising c xs → Rising b xs
rising_less b c [] le h = 0
rising_less b c (x ∷ xs) le h = (omega (arith, h.0), h.1)

pub items_rise : (log : ℕ → Entry) (k t : ℕ) → Rising t (items_from log t k)
items_rise log zero t = 0
items_rise log (suc k) t = go (decided (log t).status) (items_rise log k (suc t))
  where
    go : (b : Bool) → Rising (suc t) (items_from log (suc t) k) → Rising t (kept b (item t (log t)) (items_from log (suc t) k))
    go false h = rising_less t (suc t) (items_from log (suc t) k) (omega arith) h
    go true h = (omega arith, h)

pub place_first : (x : CoreItem) (ys : List CoreItem) → Rising (suc x.stamp) ys → insert_by_stamp x ys ≡ x ∷ ys
place_first x [] h = refl
place_first x (y ∷ ys) h = let t : nat_lt x.stamp y.stamp ≡ true = lt_test x.stamp y.stamp h.0 in rw t refl
  where
    lt_test : (a b : ℕ) → suc a ≤ b → nat_lt a b ≡ true
    lt_test a b l = grind (arith, nat_tests)

pub place_later : (x y : CoreItem) (ys : List CoreItem) → y.stamp ≤ x.stamp → insert_by_stamp x (y ∷ ys) ≡ y ∷ insert_by_stamp x ys
place_later x y ys h = rw (not_test x.stamp y.stamp h) refl
  where
    not_test : (a b : ℕ) → b ≤ a → nat_lt a b ≡ false
    not_test a b l = grind (arith, nat_tests)

pub items_beyond : (log : ℕ → Entry) (t : ℕ) (e : Entry) (k b : ℕ) → t < b → items_from (updated log t e) b k ≡ items_from log b k
items_beyond log t e zero b h = refl
items_beyond log t e (suc k) b h =
    let n : b ≢ t = omega arith in rw (updated_other log t e b n, items_beyond log t e k (suc b) (omega arith)) refl

-- a decision puts one item in its place
pub items_decided : (log : ℕ → Entry) (t k b : ℕ) → decided (log t).status ≡ false → b ≤ t → t < b + k
    → items_from (updated log t (record (log t) { status = Decided })) b k ≡ insert_by_stamp (item t (log t)) (items_from log b k)
items_decided log t zero b d lo hi = absurd (omega arith)
items_decided log t (suc k) b d lo hi = elim (eqb_tells b t) [
  | inl i ↦ rw (i.1, updated_same log t (record (log t) { status = Decided }), items_beyond log t (record (log t) { status = Decided }) k (suc t) (omega arith), d)
      (sym (place_first (item t (log t)) (items_from log (suc t) k) (items_rise log k (suc t))))
  | inr n ↦ rw (updated_other log t (record (log t) { status = Decided }) b n.1, items_decided log t k (suc b) d (omega (arith, n.1)) (omega arith))
      (go (decided (log b).status) (omega arith))
]
  where
    go : (c : Bool) → b ≤ t → kept c (item b (log b)) (insert_by_stamp (item t (log t)) (items_from log (suc b) k)) ≡ insert_by_stamp (item t (log t)) (kept c (item b (log b)) (items_from log (suc b) k))
    go false h = refl
    go true h = sym (place_later (item t (log t)) (item b (log b)) (items_from log (suc b) k) h)

-- a draw adds none
pub items_drawn : (log : ℕ → Entry) (t : ℕ) (e : Entry) (k b : ℕ) → decided e.status ≡ false → b + k ≡ t → items_from (updated log t e) b (suc k) ≡ items_from log b k
items_drawn log t e zero b d h = let i : b ≡ t = omega arith in rw (i, updated_same log t e, d) refl
items_drawn log t e (suc k) b d h = let n : b ≢ t = omega arith in rw (updated_other log t e b n, items_drawn log t e k (suc b) d (omega arith)) refl

pub items_idle : (log : ℕ → Entry) (k b t : ℕ) → b + k ≡ t → decided (log t).status ≡ false → items_from log b (suc k) ≡ items_from log b k
items_idle log zero b t h d = let i : b ≡ t = omega arith in rw (i, d) refl
items_idle log (suc k) b t h d = ap (λ z. kept (decided (log b).status) (item b (log b)) z) (items_idle log k (suc b) t (omega arith) d)

-- nor does a refusal
pub items_voided : (log : ℕ → Entry) (t k b : ℕ) → decided (log t).status ≡ false → items_from (updated log t (record (log t) { status = Void })) b k ≡ items_from log b k
items_voided log t zero b d = refl
items_voided log t (suc k) b d = elim (eqb_tells b t) [
  | inl i ↦ rw (i.1, updated_same log t (record (log t) { status = Void }), d) (items_voided log t k (suc t) d)
  | inr n ↦ rw (updated_other log t (record (log t) { status = Void }) b n.1, items_voided log t k (suc b) d) refl
]

module _ (G : Ground) (L : Lawful G) (σ : State) (inv : Inv G σ) where
  serial_items : (k t : ℕ) → Serial G.setting (view G σ.log t) (items_from σ.log t k)
  serial_items zero t = 0
  serial_items (suc k) t = go (decided (σ.log t).status) refl (serial_items k (suc t))
    where
      go : (b : Bool) → decided (σ.log t).status ≡ b → Serial G.setting (view G σ.log (suc t)) (items_from σ.log (suc t) k) → Serial G.setting (view G σ.log t) (kept b (item t (σ.log t)) (items_from σ.log (suc t) k))
      go false e h = subst (λ m. Serial G.setting m (items_from σ.log (suc t) k)) (fun_ext (λ r. rw e refl)) h
      go true e h = (serial G L σ inv t e, subst (λ m. Serial G.setting m (items_from σ.log (suc t) k)) (fun_ext (λ r. rw e refl)) h)

  view_base : view G σ.log G.setting.base ≡ (λ r. (G.start r).cells)
  view_base = fun_ext (λ r. view_start G L σ inv G.setting.base r (λ u a d. absurd (omega (arith, (inv.past u (decided_lives (σ.log u).status d)).0))))

  pub all_serial : (k : ℕ) → Serial G.setting (λ r. (G.start r).cells) (items_from σ.log G.setting.base k)
  all_serial k = subst (λ m. Serial G.setting m (items_from σ.log G.setting.base k)) view_base (serial_items k G.setting.base)
