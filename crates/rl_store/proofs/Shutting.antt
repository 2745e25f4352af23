-- What a whole pass at rest learns at the end.
use Rattle.std.proofs.Common.{◌≡◌, ℕ, ◌+◌, ◌/◌, ◌≤◌, List, sym, ap, ◌∙◌, subst, arith}
use Rattle.std.specs.Prelude.{None, slice_index_or}
use mathlib.Core.Option.{some}
use lib.ListN.{get_elem?}
use Rattle.rl_store.specs.declared.view.View.{View}
use Rattle.rl_store.specs.Entries.{In, RowOf, entries, Decided, Stands}
use Rattle.rl_store.specs.Layout.{Opening, Version}
use Rattle.rl_store.specs.Rule.{Shared}
use Rattle.rl_store.proofs.Grouped.{Kept}
use Rattle.rl_store.specs.Views.{blank}
use Rattle.rl_store.specs.Ends.{EndsAfter}
use Rattle.rl_store.proofs.Quiet.{version_moves}
use Rattle.rl_value.specs.Cells.{cells_of, row_of}
use Rattle.rl_store.proofs.Loads.{row_back, same_cells}
use Rattle.rl_store.proofs.Taking.{Taken}
use Rattle.rl_store.proofs.Serials.{store_serial}
use Rattle.rl_store.proofs.Ending.{rest_decided, mine, ends}

pub shuts : (b : Opening) (s : Shared) (h : Kept b s) (id : ℕ) (v : View) (at : get_elem? s.views id ≡ some v) (all : v.draws + v.tries ≡ b.total) (rest : v.attempt ≡ blank) (words : List ℕ) (rows : List RowOf)
    (k : ℕ) → b.records ≤ k → Taken b.columns s.words k words rows → EndsAfter b v words rows
shuts b s h id v at all rest words rows k past taken = record {
  records = λ r l.
      let last = ends b s h id v at all rest r l in
      let word = taken.word r (omega arith) in
      let cells = taken.row r (omega arith) in
      let same : cells_of (b.columns r) last.row ≡ cells.0 = same_cells (cells_of (b.columns r) last.row) cells.0 (1 + b.columns r) last.shown.0 cells.1.0 (λ k m. sym (last.shown.1 k m) ∙ cells.1.1 k m) in
      let row : last.row ≡ slice_index_or rows r None = sym (row_back (b.columns r) last.row) ∙ (ap row_of same ∙ sym cells.2) in
      record {
        version = subst (λ (p : ℕ × RowOf). Version b (λ e. In e (entries v)) r (p.0 / 2) p.1) (λ i. (sym word i, row i)) last.version;
        newest = λ e row i c. subst (λ n. e.stamp ≤ n / 2) (sym word) (last.newest e row i c);
      };
  serial = λ e x i j.
      let k = store_serial b s h e x ((id, v, at, i), rest_decided v e rest i) j in
      record {
        version = version_moves b (λ f. Stands s.views f × Decided f) (λ f. In f (entries v)) (λ f p d. mine b s h id v at all rest f p.0) x.rec x.stamp x.row k.version;
        before = k.before;
        newest = λ f cells g c l. k.newest f cells ((id, v, at, g), rest_decided v f rest g) c l;
      };
  differ = (h.facts.each id v at).differ;
  from = λ e i. (h.facts.ents e (id, v, at, i)).from;
  opening = h.facts.opening;
}
