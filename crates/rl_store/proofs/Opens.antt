-- The store as it is made keeps the rule.
use Rattle.std.proofs.Common.{◌≡◌, ℕ, zero, suc, ◌+◌, [], ◌∷◌, refl, sym, ◌∙◌, subst, inl, arith}
use mathlib.Core.Option.{some, some-ne-none, some-injective}
use lib.ListN.{get_elem?}
use Rattle.atomic_table.specs.Table.{opening}
use Rattle.rl_store.specs.declared.view.View.{View}
use Rattle.rl_store.specs.Entries.{In, Entry, entries, Holds}
use Rattle.rl_store.specs.Opening.{Made, CanOpen, opening_of, first_view}
use Rattle.rl_store.specs.Rule.{StoreRule}
use Rattle.rl_store.proofs.Grouped.{Fits, to_rule}
use Rattle.rl_store.proofs.Loads.{Some≢None, nowhere}

pub opens : (made : Made) → CanOpen made → StoreRule (opening_of made) (opening made.words [] (first_view made.tries))
opens made ok = to_rule (opening_of made) (opening made.words [] (first_view made.tries)) record {
  facts = record {
    wide = ok.wide;
    recs = λ r l. record {
      locked = λ odd. absurd (let e = ok.free r l in omega arith);
      locks = λ y. absurd (nothing r y.0 y.1 y.2 y.3);
      row = (ok.row r l).0;
      version = inl (refl, (ok.row r l).1);
      shown = λ _. (ok.row r l).1;
      newest = λ e row y. absurd (none e y.0 y.1 y.2 y.3);
      below = (let e = ok.earlier r l in omega arith);
    };
    ents = λ e y. absurd (none e y.0 y.1 y.2 y.3);
    each = λ id v at. subst (Fits (opening_of made) made.words _ _) (sym (only id v at)) record {
      opened = λ y e. absurd (Some≢None y (sym e));
      counted = λ y i. absurd (nowhere y [] refl i);
      alone = λ y z i. absurd (nowhere y [] refl i);
      hands = λ y i. absurd (nowhere y [] refl i);
      once = λ y g i j p q e. absurd (nowhere y [] refl (i, p));
      undrawn = λ e. refl;
      unclosed = λ y i. absurd (nowhere y [] refl i);
      differ = λ e g i j p q. absurd (nowhere e [] refl (i, p));
      drew = omega arith;
    };
    apart = λ i j v w apart a c. absurd (apart (first i v a ∙ sym (first j w c)));
    opening = λ r l. ok.earlier r l;
    narrow = ok.columns;
  };
  next = ok.counter;
  whole = (let z : 0 + 0 + (0 + made.tries) ≡ made.tries = omega arith in z);
  few = ok.few;
}
  where
    only : (id : ℕ) (v : View) → get_elem? (first_view made.tries ∷ []) id ≡ some v → v ≡ first_view made.tries
    only zero v at = sym (some-injective _ _ at)
    only (suc id) v at = absurd (some-ne-none v (sym at))

    first : (id : ℕ) (v : View) → get_elem? (first_view made.tries ∷ []) id ≡ some v → id ≡ 0
    first zero v at = refl
    first (suc id) v at = absurd (some-ne-none v (sym at))

    none : (e : Entry) (id : ℕ) (v : View) → get_elem? (first_view made.tries ∷ []) id ≡ some v → In e (entries v) → ⊥
    none e id v at i = nowhere e [] refl (subst (λ u. In e (entries u)) (only id v at) i)

    nothing : (r id : ℕ) (v : View) → get_elem? (first_view made.tries ∷ []) id ≡ some v → Holds v r → ⊥
    nothing r id v at h = let k = subst (λ u. Holds u r) (only id v at) h in nowhere k.0 [] refl k.1
