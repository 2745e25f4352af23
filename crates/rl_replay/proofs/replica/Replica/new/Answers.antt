use Rattle.std.proofs.Common.{◌≡◌, ◌⊎◌, ℕ, ◌<◌, ◌≤◌, List, [], length, replicate, get_or, sym, ap, ◌∙◌, subst, arith, None, inl, inr}
use Rattle.std.specs.FinMap as finite
use Rattle.std.proofs.lemmas.List.{length-replicate, get_or-replicate, get_or_past}
use Rattle.rl_txn.specs.declared.item.Item.{Item}
use Rattle.rl_value.specs.Rows.{place_cmp}
use Rattle.rl_replay.specs.Newest.{Newest, IsNewest, AreNewest}
use Rattle.rl_replay.specs.Cursors.{start, FitsCursor}
use Rattle.rl_replay.specs.declared.cursor.Cursor.{Cursor}
use Rattle.rl_replay.proofs.Applied.{no_stamps}
use Rattle.rl_replay.proofs.replica.Replica.new.Goals as goal

nothing : (newest : Newest) (items : List Item) → newest ≡ finite.empty → items ≡ [] → AreNewest items newest
nothing newest items h e q =
    let none : finite.get newest q ≡ None = ap (λ (n : Newest). finite.get n q) h ∙ finite.get-empty place_cmp q in
    subst (λ o. IsNewest items q o) (sym none) (subst (λ l. IsNewest l q None) (sym e) (λ x k. absurd (omega (arith, k.1))))

zeros : (played : List ℕ) (cursors : List Cursor) (n i : ℕ) → played ≡ replicate n 0 → FitsCursor (get_or played i 0) (get_or cursors i start)
zeros played cursors n i e = zero_fits (get_or cursors i start) (get_or played i 0) (ap (λ z. get_or z i 0) e ∙ all 0 n i)
  where
    in_or_past : (a b : ℕ) → (a < b) ⊎ (b ≤ a)
    in_or_past a b = grind arith

    all : (z n i : ℕ) → get_or (replicate n z) i z ≡ z
    all z n i = elim (in_or_past i n) [
      | inl l ↦ get_or-replicate n i z z l
      | inr p ↦ get_or_past (replicate n z) i z (omega (arith, length-replicate n z))
    ]

    zero_fits : (c : Cursor) (p : ℕ) → p ≡ 0 → FitsCursor p c
    zero_fits c p z = omega arith

pub invariant_of-result : goal.invariant_of-result
invariant_of-result c = record {
  newest = λ _. nothing c.new.result c.new-2.result.items c.new.ensures c.new-2.ensures.items;
  stamps = no_stamps c.new-3.result c.new-2.result.items c.new-3.ensures.empty c.new-2.ensures.items;
  cursors = ap length c.loop-stream.invariant.cursors ∙ length-replicate c.loop-stream._stream start ∙ sym (ap length c.loop-stream.invariant.played ∙ length-replicate c.loop-stream._stream 0);
  fits = λ i. zeros c.loop-stream.played.items c.loop-stream.cursors.items c.loop-stream._stream i c.loop-stream.invariant.played;
}
