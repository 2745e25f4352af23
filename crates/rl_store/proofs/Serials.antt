-- Wherever the rule holds, the items and the decided attempts are serial.
use Rattle.std.proofs.Common.{◌≡◌, ℕ, ◌+◌, List, map, length, sym, subst, inl, inr, ⊎_elim, arith}
use mathlib.Core.Option.{some}
use lib.ListN.{get_elem?}
use Rattle.atomic_table.proofs.Lists.{at_map}
use Rattle.rl_store.specs.declared.view.Write.{Write}
use Rattle.rl_store.specs.declared.view.View.{View}
use Rattle.rl_store.specs.Entries.{In, Entry, drawn_entry, of_item, held_rec, write_rec, Decided, Stands}
use Rattle.rl_store.specs.Layout.{Opening}
use Rattle.rl_store.specs.Rule.{Shared}
use Rattle.rl_store.proofs.Grouped.{Kept}
use Rattle.rl_store.specs.Serial.{SerialStore}
use Rattle.rl_store.proofs.Seating.{at_append, at_behind}
use Rattle.rl_store.proofs.Marks.{in_map, drawn_case}

-- what has closed a record has a mark on it
closed_marks : (views : List View) (f : Entry) (x : Write) → Stands views f → In x f.closed → In x.rec f.marks
closed_marks views f x st i = ⊎_elim
    (λ (p : get_elem? (map of_item st.1.items) st.3.0 ≡ some f).
    let y = in_map of_item st.1.items st.3.0 f p in
    let z = subst (λ (g : Entry). In x g.closed) (sym y.2) i in
    subst (λ (g : Entry). In x.rec g.marks) y.2 (z.0, at_map write_rec y.0.writes z.0 x z.1))
    (λ (p : (k : ℕ) × (st.3.0 ≡ length (map of_item st.1.items) + k) × (get_elem? (drawn_entry st.1.attempt st.1.attempt.drawn) k ≡ some f)).
    let y = drawn_case st.1.attempt st.1.attempt.drawn p.0 f p.2 in
    let z = subst (λ (g : Entry). In x g.closed) (sym y.2) i in
    subst (λ (g : Entry). In x.rec g.marks) y.2 (length (map held_rec st.1.attempt.held) + z.0, at_behind (map held_rec st.1.attempt.held) (map write_rec st.1.attempt.closed) z.0 x.rec (at_map write_rec st.1.attempt.closed z.0 x z.1)))
    (at_append (map of_item st.1.items) (drawn_entry st.1.attempt st.1.attempt.drawn) st.3.0 f st.3.1)

pub store_serial : (b : Opening) (s : Shared) → Kept b s → SerialStore b (λ e. Stands s.views e × Decided e)
store_serial b s h e x st i =
    let k = h.facts.ents e st.0 in record {
      version = ⊎_elim (λ o. inl o) (λ y. inr (y.0, (y.1, y.2), y.2, y.3, y.4)) (k.rows x i);
      before = k.older x i;
      newest = λ f cells sf c l. ⊎_elim (λ m. m) (λ m. absurd (omega arith))
          (k.valid x i (st.1.1 x i) f sf.0 sf.1.0 (λ z. omega arith) (subst (λ r. In r f.marks) c.2 (closed_marks s.views f c.0 sf.0 c.1)));
    }
