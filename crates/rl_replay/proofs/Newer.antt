-- The newest stamps tell which writes are overwritten, one item further.
use Rattle.std.proofs.Common.{◌≡◌, ℕ, List, [], ◌∷◌, ◌++◌, true, false, cond, not, ◌&&◌, Option, Some, None, refl, sym, ap, ◌∙◌, subst, inl, inr, true≢false}
use Rattle.std.specs.List.{list_any}
use Rattle.std.specs.FinMap.{get}
use Rattle.std.proofs.lemmas.List.Elements.{filter_agree}
use Rattle.std.proofs.lemmas.Bool.{cases_Bool, and_from, and_left, and_right, and_cases}
use Rattle.rl_base.specs.declared.stamp.Stamp.{Stamp}
use Rattle.rl_txn.specs.declared.item.Item.{Item}
use Rattle.rl_txn.specs.declared.write.Write.{Write}
use Rattle.rl_base.specs.Order.{is_below}
use Rattle.rl_base.proofs.OrderLemmas.{not_below_self, below_one_way, not_below_chain}
use Rattle.rl_replay.specs.Replay.{is_at, writes_at, is_overwritten, newest_writes}
use Rattle.rl_replay.specs.Newest.{Newest, is_old, fresh, stamped, IsNewestOf, IsNewest, AreNewest}
use Rattle.rl_replay.proofs.Places.{at_same}
use Rattle.rl_base.proofs.Members.{In, contains_in, in_contains, in_prefix, in_suffix, in_split, any_true, any_false, false_any, true_any}
use Rattle.rl_replay.proofs.Stamped.{fresh_at}

-- the newest stamp of a place tells whether a write there is overwritten
pub old_is : (applied : List Item) (q : ℕ × ℕ) (o : Option Stamp) (s : Stamp) → IsNewest applied q o → is_old o s ≡ is_overwritten applied s q
old_is applied q None s h = sym (any_false (λ (y : Item). is_below s y.stamp && writes_at q y) applied (λ y i. and_right (is_below s y.stamp) (writes_at q y) (h y (in_contains applied y i))))
old_is applied q (Some t) s h = elim (cases_Bool (is_below s t)) [
  | inl b ↦ b ∙ sym (any_true (λ (y : Item). is_below s y.stamp && writes_at q y) applied h.item (contains_in applied h.item h.among)
      (and_from (is_below s h.item.stamp) (writes_at q h.item) (ap (is_below s) h.has ∙ b) h.writes))
  | inr b ↦ b ∙ sym (any_false (λ (y : Item). is_below s y.stamp && writes_at q y) applied (λ y i. elim (cases_Bool (writes_at q y)) [
    | inl u ↦ and_left (is_below s y.stamp) (writes_at q y) (not_below_chain y.stamp t s (h.greatest y (in_contains applied y i) u) b)
    | inr u ↦ and_right (is_below s y.stamp) (writes_at q y) u
  ]))
]

pub fresh_is : (applied : List Item) (newest : Newest) (x : Item) → AreNewest applied newest → fresh newest x.stamp x.writes ≡ newest_writes applied x
fresh_is applied newest x h = filter_agree (λ (w : Write). not (is_old (get newest (w.table, w.key)) x.stamp)) (λ (w : Write). not (is_overwritten applied x.stamp (w.table, w.key)))
    (λ w. ap not (old_is applied (w.table, w.key) (get newest (w.table, w.key)) x.stamp (h (w.table, w.key)))) x.writes

-- a place that is written, though by no fresh write, has a newer one
not_fresh : (newest : Newest) (s : Stamp) (q : ℕ × ℕ) (ws : List Write) → list_any (is_at q) ws ≡ true → list_any (is_at q) (fresh newest s ws) ≡ false → is_old (get newest q) s ≡ true
not_fresh newest s q ws a b =
    let k = true_any (is_at q) ws a in
    elim (cases_Bool (is_old (get newest q) s)) [
      | inl t ↦ t
      | inr t ↦ absurd (true≢false (sym (any_true (is_at q) (fresh newest s ws) k.0 (kept ws k.0 k.1 (ap (λ (p : ℕ × ℕ). is_old (get newest p) s) (sym (at_same q k.0 k.2)) ∙ t)) k.2) ∙ b))
    ]
  where
    kept : (vs : List Write) (w : Write) → In w vs → is_old (get newest (w.table, w.key)) s ≡ false → In w (fresh newest s vs)
    kept [] w i h = absurd i
    kept (v ∷ vs) w i h = elim (cases_Bool (is_old (get newest (v.table, v.key)) s)) [
      | inl t ↦ rw t (elim i [ inl e ↦ absurd (true≢false (sym t ∙ ap (λ (u : Write). is_old (get newest (u.table, u.key)) s) (sym e) ∙ h)) | inr j ↦ kept vs w j h ])
      | inr t ↦ rw t (elim i [ inl e ↦ inl e | inr j ↦ inr (kept vs w j h) ])
    ]

fresh_written : (newest : Newest) (s : Stamp) (q : ℕ × ℕ) (ws : List Write) → list_any (is_at q) (fresh newest s ws) ≡ true → list_any (is_at q) ws ≡ true
fresh_written newest s q ws h = let k = true_any (is_at q) (fresh newest s ws) h in any_true (is_at q) ws k.0 (back ws k.0 k.1) k.2
  where
    back : (vs : List Write) (w : Write) → In w (fresh newest s vs) → In w vs
    back [] w i = absurd i
    back (v ∷ vs) w i = elim (cases_Bool (is_old (get newest (v.table, v.key)) s)) [
      | inl t ↦ inr (back vs w (rw t at i))
      | inr t ↦ elim (rw t at i) [ inl e ↦ inl e | inr j ↦ inr (back vs w j) ]
    ]

-- the newest stamps after an item
pub newest_more : (applied : List Item) (newest later : Newest) (x : Item) → AreNewest applied newest
    → ((q : ℕ × ℕ) → get later q ≡ stamped (get newest q) x.stamp q (fresh newest x.stamp x.writes)) → AreNewest (applied ++ x ∷ []) later
newest_more applied newest later x h e q = elim (cases_Bool (list_any (is_at q) (fresh newest x.stamp x.writes))) [
  | inl t ↦ subst (IsNewest (applied ++ x ∷ []) q) (sym (e q ∙ ap (λ b. cond b (Some x.stamp) (get newest q)) t)) (takes t)
  | inr t ↦ subst (IsNewest (applied ++ x ∷ []) q) (sym (e q ∙ ap (λ b. cond b (Some x.stamp) (get newest q)) t)) (keeps (get newest q) (h q) (λ u. not_fresh newest x.stamp q x.writes u t))
]
  where
    takes : list_any (is_at q) (fresh newest x.stamp x.writes) ≡ true → IsNewestOf (applied ++ x ∷ []) q x.stamp
    takes t = record {
      item = x;
      among = in_contains (applied ++ x ∷ []) x (in_suffix applied (x ∷ []) x (inl refl));
      writes = fresh_written newest x.stamp q x.writes t;
      has = refl;
      greatest = λ y k u. elim (in_split applied (x ∷ []) y (contains_in (applied ++ x ∷ []) y k)) [
        | inl i ↦ elim (and_cases (is_below x.stamp y.stamp) (writes_at q y) (false_any (λ (z : Item). is_below x.stamp z.stamp && writes_at q z) applied (sym (old_is applied q (get newest q) x.stamp (h q)) ∙ fresh_at newest x.stamp q x.writes t) y i)) [
          | inl v ↦ v
          | inr v ↦ absurd (true≢false (sym u ∙ v))
        ]
        | inr i ↦ elim i [ inl v ↦ ap (λ (z : Item). is_below x.stamp z.stamp) v ∙ not_below_self x.stamp | inr v ↦ absurd v ]
      ];
    }

    keeps : (o : Option Stamp) → IsNewest applied q o → (writes_at q x ≡ true → is_old o x.stamp ≡ true) → IsNewest (applied ++ x ∷ []) q o
    keeps None g old = λ y k. elim (in_split applied (x ∷ []) y (contains_in (applied ++ x ∷ []) y k)) [
      | inl i ↦ g y (in_contains applied y i)
      | inr i ↦ elim i [
        | inl v ↦ elim (cases_Bool (writes_at q x)) [ inl u ↦ absurd (true≢false (sym (old u))) | inr u ↦ ap (writes_at q) v ∙ u ]
        | inr v ↦ absurd v
      ]
    ]
    keeps (Some s) g old = record {
      item = g.item;
      among = in_contains (applied ++ x ∷ []) g.item (in_prefix applied (x ∷ []) g.item (contains_in applied g.item g.among));
      writes = g.writes;
      has = g.has;
      greatest = λ y k u. elim (in_split applied (x ∷ []) y (contains_in (applied ++ x ∷ []) y k)) [
        | inl i ↦ g.greatest y (in_contains applied y i) u
        | inr i ↦ elim i [
          | inl v ↦ ap (λ (z : Item). is_below s z.stamp) v ∙ below_one_way x.stamp s (old (ap (writes_at q) (sym v) ∙ u))
          | inr v ↦ absurd v
        ]
      ];
    }
