-- What a commit leaves, and attempts that were refused before it.
use Rattle.std.proofs.Common.{◌≡◌, ℕ, ◌<◌, List, [], ◌∷◌, map, ◌++◌, sym, ap, subst, ◌∙◌, arith}
use Rattle.rl_base.specs.Stamps.{packed}
use Rattle.rl_value.specs.Tables.{Table}
use Rattle.rl_txn.specs.declared.op.Op.{Op}
use Rattle.atomic_table.proofs.Lists.{at_longer}
use Rattle.rl_occ.specs.Attempts.{AttemptOf, IsCommitted, gone_on}
use Rattle.rl_occ.specs.declared.attempt.Phase.{Phase}
use Rattle.rl_store.specs.Passes.{StoreOf}
use Rattle.rl_occ.specs.Reading.{SameButAttempt}
use Rattle.rl_occ.specs.declared.outcome.Decided.{Decided}
use Rattle.rl_store.proofs.Marks.{at_map}
use Rattle.rl_store.specs.Entries.{In, of_item, drawn_entry}
use Rattle.rl_store.specs.Passes.{IsAbove}
use Rattle.rl_store.specs.declared.view.Item as store
use Rattle.rl_store.specs.declared.view.View.{View}
use Rattle.rl_live.specs.Attempts.{IsUndecided, HasDecided, kept_item}

-- what is above all entries is above all items
pub above_items : (v : View) (t : ℕ) → IsAbove v t → (i : store.Item) → In i v.items → i.stamp < t
above_items v t h i p = h (of_item i) (p.0, at_longer (map of_item v.items) (drawn_entry v.attempt v.attempt.drawn) p.0 (of_item i) (at_map of_item v.items p.0 i p.1))

-- a commit of an attempt that has only been running
pub decided_by : (v : View) (a : AttemptOf) (w : View) (d : Decided) → SameButAttempt v a.view → IsCommitted a w d
    → HasDecided a.tables a.store.made.epoch a.txn v w d
decided_by v a w d same h = record {
  quiet = record {
    rest = ap (λ (x : View). x.attempt) h.view;
    right =
        let e = ap (λ (x : View). x.draws) h.view in
        let f = ap (λ (x : View). x.tries) h.view in
        let g = ap (λ (x : View). x.draws) same in
        let k = ap (λ (x : View). x.tries) same in
        let some = h.tries in
        omega (arith, e, f, g, k, some);
  };
  reads = a.view.attempt.reads;
  inside = h.inside;
  run = h.run;
  fits = h.fits;
  dated = h.epoch;
  seq = h.seq;
  above = λ i p. above_items a.view (packed d.stamp) h.above i (subst (λ (l : List store.Item). In i l) (sym (ap (λ (x : View). x.items) same)) p);
  items = ap (λ (x : View). x.items) h.view
      ∙ ap (λ (l : List store.Item). l ++ kept_item a.tables a.view.attempt.reads d ∷ []) (ap (λ (x : View). x.items) same);
}

-- attempts that were refused don't count
pub decided_after : (tables : List Table) (epoch : ℕ) (txn : List Op) (v u w : View) (d : Decided) → IsUndecided v u
    → HasDecided tables epoch txn u w d → HasDecided tables epoch txn v w d
decided_after tables epoch txn v u w d same h = record {
  quiet = record { rest = h.quiet.rest; right = h.quiet.right ∙ same.quiet.right };
  reads = h.reads;
  inside = h.inside;
  run = h.run;
  fits = h.fits;
  dated = h.dated;
  seq = h.seq;
  above = λ i p. h.above i (subst (λ (l : List store.Item). In i l) (sym same.same) p);
  items = h.items ∙ ap (λ (l : List store.Item). l ++ kept_item tables h.reads d ∷ []) same.same;
}

pub undecided_after : (v u w : View) → IsUndecided v u → IsUndecided u w → IsUndecided v w
undecided_after v u w a b = record { quiet = record { rest = b.quiet.rest; right = b.quiet.right ∙ a.quiet.right }; same = b.same ∙ a.same }

-- a commit of an attempt that has run and locked
pub decided_from : (s : StoreOf) (tables : List Table) (txn : List Op) (v : View) (a b c : AttemptOf) (one two : Phase) (w : View) (d : Decided)
    → a.store ≡ s → a.tables ≡ tables → a.txn ≡ txn → a.view ≡ v
    → b ≡ gone_on a b.view one → SameButAttempt a.view b.view → c ≡ gone_on b c.view two → SameButAttempt b.view c.view
    → IsCommitted c w d → HasDecided tables s.made.epoch txn v w d
decided_from s tables txn v a b c one two w d store_is tables_are txn_is view_is ran kept locked held h =
    let same : SameButAttempt v c.view = held
    ∙ ap (λ (x : View). record x { attempt = c.view.attempt }) (kept ∙ ap (λ (x : View). record x { attempt = b.view.attempt }) view_is) in
    let t = ap (λ (x : AttemptOf). x.tables) locked ∙ ap (λ (x : AttemptOf). x.tables) ran ∙ tables_are in
    let o = ap (λ (x : AttemptOf). x.txn) locked ∙ ap (λ (x : AttemptOf). x.txn) ran ∙ txn_is in
    let m = ap (λ (x : AttemptOf). x.store) locked ∙ ap (λ (x : AttemptOf). x.store) ran ∙ store_is in
    subst (λ ts. HasDecided ts s.made.epoch txn v w d) t
    (subst (λ (x : StoreOf). HasDecided c.tables x.made.epoch txn v w d) m
    (subst (λ (x : List Op). HasDecided c.tables c.store.made.epoch x v w d) o (decided_by v c w d same h)))
