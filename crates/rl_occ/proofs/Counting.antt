-- One read more.
use Rattle.std.proofs.Common.{◌≡◌, ◌≢◌, ℕ, ◌+◌, ◌*◌, ◌<◌, Bool, true, false, true≢false, not, is_some, cond, List, [], ◌∷◌, ◌++◌, length, sum, Option, Some, None, refl, sym, ap, ◌∙◌, subst, ⊎_elim}
use Rattle.std.proofs.lemmas.List.{length-map}
use Rattle.std.specs.Prelude.{IfSome}
use Rattle.std.specs.Cmp.{tied_itself}
use Rattle.std.specs.FinMap as finite
use Rattle.std.specs.Ordering.{eq_by_cmp, is_eq}
use Rattle.std.specs.declared.cmp.Ordering.{Ordering}
use Rattle.std.specs.declared.cmp.Ordering.TheVariants.{Less, Equal, Greater}
use mathlib.Core.List.{map-append}
use mathlib.Core.Option.{some}
use lib.ListN.{get_elem?}
use Rattle.rl_store.proofs.Marks.{at_longer}
use Rattle.rl_value.specs.Rows.{place_cmp}
use Rattle.rl_value.specs.Tables.{Table, size_of}
use Rattle.rl_tables.specs.Numbers.{sizes_of, record_of, place_of}
use Rattle.rl_tables.proofs.Sizes.{size_at}
use Rattle.rl_txn.specs.Eval.{is_new}
use Rattle.rl_txn.specs.Run.{Overlay}
use Rattle.rl_txn.proofs.RowSets.{places_total, same_place}
use Rattle.rl_tables.proofs.Places.{place_of_record}
use Rattle.rl_store.specs.declared.view.Read.{Read}
use Rattle.rl_store.specs.declared.view.View.{View}
use Rattle.rl_store.specs.Entries.{In, RowOf}
use Rattle.rl_store.specs.Views.{with_read}
use Rattle.rl_store.proofs.Seating.{at_behind}
use Rattle.rl_store.proofs.Views.{at_end}
use Rattle.rl_occ.specs.declared.sets.Seen.{Seen}
use Rattle.rl_occ.specs.Reading.{HasRead, OnlyReads, seen_of}

pub placed : (tables : List Table) (t k : ℕ) → t < length tables → k < size_of tables t → place_of (sizes_of tables) (record_of (sizes_of tables) t k) ≡ (t, k)
placed tables t k l m = place_of_record (sizes_of tables) t k (subst (λ n. t < n) (sym (length-map tables (λ (t : Table). t.size))) l) (subst (λ n. k < n) (sym (size_at tables t)) m)

same : (o : Ordering) → is_eq o ≡ true → o ≡ Equal
same Less e = absurd (true≢false (sym e))
same Equal e = refl
same Greater e = absurd (true≢false (sym e))

module _ (tables : List Table) (v : View) (m : Overlay) (words : List Seen) (h : HasRead tables v m words) (t k : ℕ) (table : t < length tables) (key : k < size_of tables t) (fresh : is_new m (t, k) ≡ true) where
  abbrev sizes : List ℕ
  sizes = sizes_of tables

  -- the wanted record was not read before
  pub unread : (x : Read) → In x v.attempt.reads → x.rec ≢ record_of sizes t k
  unread x i e = true≢false (sym fresh ∙ ap (is_new m) (sym (placed tables t k table key) ∙ ap (place_of sizes) (sym e)) ∙ (h.from x i).0)

  module _ (stamp : ℕ) (row : RowOf) (below : record_of sizes t k < sum sizes) where
    abbrev x : Read
    x = record { rec = record_of sizes t k; stamp = stamp; row = row }

    abbrev w : View
    w = with_read v (record_of sizes t k) stamp row

    abbrev more : Overlay
    more = finite.insert m (t, k) row

    only : OnlyReads w
    only = λ i. record (h.only i) { reading = None; reads = v.attempt.reads ++ x ∷ [] }

    old_is_not_new : (q : ℕ × ℕ) → is_new m q ≡ false → is_new more q ≡ false
    old_is_not_new q e = subst (λ (o : Option RowOf). not (is_some o) ≡ false) (sym (finite.get-insert places_total m (t, k) row q)) (go (eq_by_cmp place_cmp q (t, k)))
      where
        go : (b : Bool) → not (is_some (cond b (Some row) (finite.get m q))) ≡ false
        go true = refl
        go false = e

    here_is_not_new : is_new more (t, k) ≡ false
    here_is_not_new = subst (λ (o : Option RowOf). not (is_some o) ≡ false) (sym (finite.get-insert places_total m (t, k) row (t, k) ∙ ap (λ (o : Ordering). cond (is_eq o) (Some row) (finite.get m (t, k))) (tied_itself places_total (t, k)))) refl

    known : (t' k' : ℕ) → IfSome (finite.get more (t', k')) (λ row. (y : Read) × In y w.attempt.reads × (place_of sizes y.rec ≡ (t', k')) × (y.row ≡ row))
    known t' k' = subst (λ (o : Option RowOf). IfSome o (λ row. (y : Read) × In y w.attempt.reads × (place_of sizes y.rec ≡ (t', k')) × (y.row ≡ row))) (sym (finite.get-insert places_total m (t, k) row (t', k'))) (go (eq_by_cmp place_cmp (t', k') (t, k)) refl)
      where
        old : (o : Option RowOf) → IfSome o (λ row. (y : Read) × In y v.attempt.reads × (place_of sizes y.rec ≡ (t', k')) × (y.row ≡ row)) → IfSome o (λ row. (y : Read) × In y w.attempt.reads × (place_of sizes y.rec ≡ (t', k')) × (y.row ≡ row))
        old None i = i
        old (Some row) i = (i.0, (i.1.0, at_longer v.attempt.reads (x ∷ []) i.1.0 i.0 i.1.1), i.2, i.3)

        go : (b : Bool) → eq_by_cmp place_cmp (t', k') (t, k) ≡ b → IfSome (cond b (Some row) (finite.get m (t', k'))) (λ row. (y : Read) × In y w.attempt.reads × (place_of sizes y.rec ≡ (t', k')) × (y.row ≡ row))
        go true e = (x, (length v.attempt.reads + 0, at_behind v.attempt.reads (x ∷ []) 0 x refl), placed tables t k table key ∙ sym (same_place (t', k') (t, k) (same (place_cmp (t', k') (t, k)) e)), refl)
        go false e = old (finite.get m (t', k')) (h.known t' k')

    from : (y : Read) → In y w.attempt.reads → (is_new more (place_of sizes y.rec) ≡ false) × (y.rec < sum sizes)
    from y i = ⊎_elim
        (λ (p : get_elem? v.attempt.reads i.0 ≡ some y). (old_is_not_new (place_of sizes y.rec) (h.from y (i.0, p)).0, (h.from y (i.0, p)).1))
        (λ (p : (i.0 ≡ length v.attempt.reads) × (x ≡ y)). (
          subst (λ (z : Read). is_new more (place_of sizes z.rec) ≡ false) p.1 (ap (is_new more) (placed tables t k table key) ∙ here_is_not_new),
          subst (λ (z : Read). z.rec < sum sizes) p.1 below,
        ))
        (at_end v.attempt.reads x y i.0 i.1)

    once : (i j : ℕ) (y z : Read) → get_elem? w.attempt.reads i ≡ some y → get_elem? w.attempt.reads j ≡ some z → y.rec ≡ z.rec → i ≡ j
    once i j y z p q e = ⊎_elim
        (λ (a : get_elem? v.attempt.reads i ≡ some y). ⊎_elim
        (λ (c : get_elem? v.attempt.reads j ≡ some z). h.once i j y z a c e)
        (λ (c : (j ≡ length v.attempt.reads) × (x ≡ z)). absurd (unread y (i, a) (e ∙ sym (ap (λ (r : Read). r.rec) c.1))))
        (at_end v.attempt.reads x z j q))
        (λ (a : (i ≡ length v.attempt.reads) × (x ≡ y)). ⊎_elim
        (λ (c : get_elem? v.attempt.reads j ≡ some z). absurd (unread z (j, c) (sym e ∙ sym (ap (λ (r : Read). r.rec) a.1))))
        (λ (c : (j ≡ length v.attempt.reads) × (x ≡ z)). a.0 ∙ sym c.0)
        (at_end v.attempt.reads x z j q))
        (at_end v.attempt.reads x y i p)

    pub read_more : HasRead tables w more (words ++ record { rec = record_of sizes t k; word = 2 * stamp } ∷ [])
    read_more = record {
      only = only;
      seen = map-append seen_of v.attempt.reads (x ∷ []) ∙ ap (λ l. l ++ seen_of x ∷ []) h.seen;
      known = known;
      from = from;
      once = once;
    }
