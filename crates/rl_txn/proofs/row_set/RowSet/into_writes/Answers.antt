use Rattle.std.proofs.Common.{◌≡◌, ◌≤◌, ◌++◌, [], length, map, vec_capacity, ap, sym, ◌∙◌, refl, subst, append-nil}
use Rattle.std.specs.FinMap as finite
use Rattle.std.proofs.lemmas.List.{length-map}
use Rattle.rl_txn.specs.Run.{write_of}
use Rattle.rl_txn.specs.RowSets.{entry_of}
use Rattle.rl_txn.proofs.RowSets.{entries_rows, write_of_entry}
use Rattle.rl_txn.proofs.row_set.RowSet.into_writes.Goals as goal

pub loop-at-init : goal.loop-at-init
loop-at-init c =
    let all : c.into_iter-at-iterator.result ≡ c.self.inside.rows.items = c.into_iter-at-iterator.ensures.into_iter_gives.0 in
    let same : finite.entries c.args.self.0 ≡ map entry_of c.self.inside.rows.items = ap (λ s. finite.entries s.0) (sym c.self.view_is) ∙ entries_rows c.self.inside.rows.items c.self.invariant in
    let count : length (map entry_of c.self.inside.rows.items) ≡ length c.self.inside.rows.items = simp length-map in
    record { items = c.requires.empty; room = rw all (subst (λ n. n ≤ vec_capacity c.args.room) (ap length same ∙ count) c.requires.room); all = refl }

pub returns : goal.returns
returns c =
    let all : c.into_iter-at-iterator.result ≡ c.self.inside.rows.items = c.into_iter-at-iterator.ensures.into_iter_gives.0 in
    let same : finite.entries c.args.self.0 ≡ map entry_of c.self.inside.rows.items = ap (λ s. finite.entries s.0) (sym c.self.view_is) ∙ entries_rows c.self.inside.rows.items c.self.invariant in
    let none : c.loop-at.at-iterator ≡ [] = c.in-None.ensures.steps.0 in
    let yielded : c.loop-at.yielded ≡ c.self.inside.rows.items = sym (append-nil c.loop-at.yielded) ∙ ap (λ z. c.loop-at.yielded ++ z) (sym none) ∙ c.loop-at.invariant.all ∙ all in
    c.from_vec.ensures ∙ c.loop-at.invariant.items ∙ ap (map (λ r. write_of (entry_of r))) yielded ∙ sym (write_of_entry c.self.inside.rows.items) ∙ ap (map write_of) (sym same)
