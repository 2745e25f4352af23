-- How the parts of the rule go over a step that changes words and entries.
use Rattle.std.proofs.Common.{◌≡◌, ◌⊎◌, ℕ, ◌+◌, ◌*◌, ◌/◌, ◌%◌, ◌<◌, ◌≤◌, true, List, get_or, refl, sym, ap, ◌∙◌, subst, inl, inr, ⊎_elim, arith}
use Rattle.rl_store.specs.declared.view.Reading.{Reading}
use Rattle.rl_store.specs.declared.view.Read.{Read}
use Rattle.rl_store.specs.declared.view.Held.{Held}
use Rattle.rl_store.specs.declared.view.View.{View}
use Rattle.rl_store.specs.Entries.{In, Entry, RowOf, Decided, Holds}
use Rattle.rl_store.specs.Layout.{Opening, place, cell_place, Closes, Version}
use Rattle.rl_store.proofs.Grouped.{Rec, Ent, Fits, Open, Hand}

module _ (b : Opening) (E F : Entry → Type 0) where
  -- each entry was there, with no fewer marks, or is newer than all
  abbrev pub Back : Type 0
  Back = (f : Entry) → F f → ((e : Entry) × E e × (e.stamp ≡ f.stamp) × (f.live ≡ true → e.live ≡ true) × ((r : ℕ) → In r f.marks → In r e.marks)) ⊎ ((e : Entry) → E e → e.stamp < f.stamp)

  -- each decided entry is there, with its writes
  abbrev pub Forth : Type 0
  Forth = (e : Entry) → E e → Decided e → (f : Entry) × F f × Decided f × (f.stamp ≡ e.stamp) × ((r : ℕ) (row : RowOf) → Closes e r row → Closes f r row)

  -- a decided entry that has closed r had done so
  abbrev pub Same : ℕ → Type 0
  Same r = (f : Entry) (row : RowOf) → F f → Decided f → Closes f r row → (e : Entry) × E e × Decided e × (e.stamp ≡ f.stamp) × Closes e r row

  module _ (back : Back) (forth : Forth) where
    pub version_turns : (r t : ℕ) (row : RowOf) → Version b E r t row → Version b F r t row
    version_turns r t row v = ⊎_elim (λ o. inl o) (λ x. let y = forth x.0 x.1 x.2 in inr (y.0, y.1, y.2, y.3 ∙ x.3, y.4 r row x.4)) v

    module _ (ws ws' : List ℕ) (up : get_or ws 0 0 ≤ get_or ws' 0 0) where
      pub ent_turns : (e : Entry) → E e → Ent b ws E e → Ent b ws' F e
      ent_turns e here h = record {
        rows = λ x i. version_turns x.rec x.stamp x.row (h.rows x i);
        older = h.older;
        valid = λ x i j f s live other marked. ⊎_elim
            (λ (y : (e' : Entry) × E e' × (e'.stamp ≡ f.stamp) × (f.live ≡ true → e'.live ≡ true) × ((r : ℕ) → In r f.marks → In r e'.marks)).
            subst (λ t. (t ≤ x.stamp) ⊎ (e.stamp < t)) y.2 (h.valid x i j y.0 y.1 (y.3 live) (λ z. other (sym y.2 ∙ z)) (y.4 x.rec marked)))
            (λ (y : (e' : Entry) → E e' → e'.stamp < f.stamp). inr (y e here))
            (back f s);
        from = h.from;
        to = (let t = h.to in omega arith);
      }

      pub rec_turns : (L I M J : ℕ → Type 0) (r : ℕ) → get_or ws' (place r) 0 ≡ get_or ws (place r) 0
          → ((k : ℕ) → k < (1 + b.columns r) → get_or ws' (cell_place r k) 0 ≡ get_or ws (cell_place r k) 0)
          → (L r → M r) → (M r → L r) → (I r → J r) → Same r → Rec b ws E L I r → Rec b ws' F M J r
      rec_turns L I M J r word cells there into installs same h = record {
        locked = λ e. there (h.locked (ap (λ n. n % 2) (sym word) ∙ e));
        locks = λ m. ap (λ n. n % 2) word ∙ h.locks (into m);
        row = h.row;
        version = subst (λ n. Version b F r (n / 2) h.row) (sym word) (version_turns r (get_or ws (place r) 0 / 2) h.row h.version);
        shown = λ n. let s = h.shown (λ i. n (installs i)) in (s.0, λ k l. cells k l ∙ s.1 k l);
        newest = λ f c s d x. let y = same f c s d x in subst (λ n. f.stamp ≤ n / 2) (sym word) (subst (λ t. t ≤ get_or ws (place r) 0 / 2) y.3 (h.newest y.0 c y.1 y.2 y.4));
        below = subst (λ n. n / 2 < b.base + get_or ws' 0 0) (sym word) (let l = h.below in omega arith);
      }

      module _ (I J : ℕ → Type 0)
          (later : (r : ℕ) → r < b.records → get_or ws (place r) 0 / 2 ≤ get_or ws' (place r) 0 / 2)
          (cells : (r : ℕ) → r < b.records → get_or ws (place r) 0 / 2 ≡ get_or ws' (place r) 0 / 2 → (J r → ⊥) → (k : ℕ) → k < (1 + b.columns r) → get_or ws' (cell_place r k) 0 ≡ get_or ws (cell_place r k) 0)
          (installs : (r : ℕ) → get_or ws (place r) 0 / 2 ≡ get_or ws' (place r) 0 / 2 → I r → J r) where
        pub open_turns : (x : Reading) → Open b ws I x → Open b ws' J x
        open_turns x o = record {
          inside = o.inside;
          seen = (let a = o.seen in let c = later x.rec o.inside in omega arith);
          short = o.short;
          same = λ t n k l.
              let a = o.seen in
              let c = later x.rec o.inside in
              let z : get_or ws (place x.rec) 0 / 2 ≡ get_or ws' (place x.rec) 0 / 2 = omega arith in
              o.same (t ∙ sym z) (λ i. n (installs x.rec z i)) k l ∙ sym (cells x.rec o.inside z n k (let s = o.short in omega arith));
        }

        pub counted_turns : (x : Read) → Version b E x.rec x.stamp x.row × (x.stamp ≤ get_or ws (place x.rec) 0 / 2) × (x.rec < b.records) → Version b F x.rec x.stamp x.row × (x.stamp ≤ get_or ws' (place x.rec) 0 / 2) × (x.rec < b.records)
        counted_turns x c = (version_turns x.rec x.stamp x.row c.0, (let a = c.1 in let d = later x.rec c.2 in omega arith), c.2)

        pub hand_turns : (v : View) (g : Held) → (get_or ws' (place g.rec) 0 / 2 ≡ get_or ws (place g.rec) 0 / 2) → ((k : ℕ) → k < (1 + b.columns g.rec) → get_or ws' (cell_place g.rec k) 0 ≡ get_or ws (cell_place g.rec k) 0) → Hand b ws v g → Hand b ws' v g
        hand_turns v g stamp still k = record {
          inside = k.inside;
          old = k.old ∙ ap (λ n. 2 * n) (sym stamp);
          short = k.short;
          stored = λ j l. still j (let z = k.short in omega arith) ∙ k.stored j l;
          early = k.early;
          later = λ t e. subst (λ n. n < t) (sym stamp) (k.later t e);
        }

        pub fits_turns : (v : View)
            → ((r : ℕ) → r < b.records → Holds v r → (get_or ws' (place r) 0 / 2 ≡ get_or ws (place r) 0 / 2) × ((k : ℕ) → k < (1 + b.columns r) → get_or ws' (cell_place r k) 0 ≡ get_or ws (cell_place r k) 0))
            → Fits b ws E I v → Fits b ws' F J v
        fits_turns v held h = record {
          opened = λ x e. open_turns x (h.opened x e);
          counted = λ x i. counted_turns x (h.counted x i);
          alone = h.alone;
          hands = λ x i. let g = h.hands x i in let s = held x.rec g.inside (x, i, refl) in hand_turns v x s.0 s.1 g;
          once = h.once;
          undrawn = h.undrawn;
          unclosed = h.unclosed;
          differ = h.differ;
          drew = h.drew;
        }
