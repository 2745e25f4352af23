use Rattle.std.proofs.Common.{◌≡◌, ◌+◌, ◌≤◌, List, ℕ, length, slice_index, sym, ap, ◌∙◌, subst, arith}
use Rattle.std.specs.Mem.Slots.{slots_items}
use Rattle.rl_store.specs.declared.view.View.{View}
use Rattle.rl_store.specs.Ends.{EndsAfter, IsWhole}
use Rattle.rl_store.specs.Entries.{RowOf}
use Rattle.rl_store.specs.Layout.{HasRow, place}
use Rattle.rl_store.specs.Opening.{Made, made_of, opening_of}
use Rattle.rl_store.proofs.Filling.{within}
use Rattle.rl_store.proofs.Grouped.{of_rule}
use Rattle.rl_store.proofs.Shutting.{shuts}
use Rattle.rl_store.proofs.Taking.{Taken, taken_more}
use Rattle.rl_store.proofs.Views.{at_get}
use Rattle.rl_store.proofs.store.Store.close.Goals as goal

pub loop-r-preserved : goal.loop-r-preserved
loop-r-preserved c =
    let i = c.loop-r.invariant in
    let r = c.loop-r.r in
    let ws = slots_items c.close_with-closed.result.words in
    let columns : ℕ → ℕ = λ q. slice_index c.args.self.made.columns q in
    let word : c.word.result ≡ slice_index ws (place r) = sym (at_get ws _ c.word.result 0 c.word.ensures) in
    let one = c.loop-r-test.true in
    let count = c.len-count.ensures in
    let width = sym (within c.self.inside.columns.items r 0 c.index.result.now (omega arith) c.index.ensures) ∙ ap (λ l. slice_index l r) (sym c.self.invariant.columns ∙ ap (λ z. z.made.columns) c.self.view_is) in
    let row = subst (λ n. HasRow n ws r c.row_at.result) width c.row_at.ensures in (
      subst (λ (p : List ℕ × List RowOf). Taken columns ws (r + 1) p.0 p.1) (λ j. (sym c.push_reserved.ensures.items j, sym c.push_reserved-in-loop-r.ensures.items j)) (taken_more columns ws r _ _ _ _ i.0 word row),
      c.push_reserved.ensures.capacity ∙ i.1,
      c.push_reserved.ensures.len ∙ ap (λ n. n + 1) i.2,
      c.push_reserved-in-loop-r.ensures.capacity ∙ i.3,
      c.push_reserved-in-loop-r.ensures.len ∙ ap (λ n. n + 1) i.4,
    )

pub returns-clause-whole : goal.returns-clause-whole
returns-clause-whole c whole rest =
    let f = c.close_with-closed.ensures.values.2 in
    let key = c.self.inside.table.shared.key.value in
    let b = opening_of (made_of key) in
    let made : made_of key ≡ c.args.self.made = ap (λ z. z.made) c.self.view_is in
    let view = ap (λ z. z.view) c.pass.view_is in
    let all = subst (λ (p : Made × View). IsWhole (opening_of p.0) p.1) (λ i. (sym made i, sym view i)) whole in
    let taken = subst (λ (p : Made × List ℕ). Taken (λ r. slice_index p.0.columns r) p.1 c.loop-r.r c.loop-r.words.items c.loop-r.rows.items) (λ i. (sym made i, sym f.2 i)) c.loop-r.invariant.0 in
    let past : length key.columns.items ≤ c.loop-r.r = (let t = c.loop-r-test.false in let e = ap length c.self.invariant.columns in let n = c.len-count.ensures in omega arith) in
    subst (λ (p : Made × View × List ℕ × List RowOf). EndsAfter (opening_of p.0) p.1 p.2 p.3) (λ i. (made i, view i, sym c.from_vec.ensures i, sym c.from_vec-2.ensures i))
    (shuts b f.0 (of_rule b f.0 f.1.0) _ c.pass.inside.inner.me.0 f.1.1 all (ap (λ v. v.attempt) view ∙ rest) _ _ c.loop-r.r past taken)
