-- A commit, from the draw to the item.
use Rattle.std.proofs.Common.{◌≡◌, ℕ, ◌+◌, ◌-◌, ◌<◌, Bool, true, false, not, ◌&&◌, true≢false, List, [], ◌∷◌, ◌++◌, map, length, refl, sym, ap, ◌∙◌, subst, arith}
use Rattle.std.specs.Prelude.{Option, Some, None}
use mathlib.Core.Option.{some, some-ne-none}
use lib.ListN.{get_elem?}
use Rattle.rl_value.specs.Tables.{Table}
use Rattle.rl_txn.specs.declared.write.Write as txn
use Rattle.rl_store.specs.declared.view.Held.{Held}
use Rattle.rl_store.specs.declared.view.Read.{Read}
use Rattle.rl_store.specs.declared.view.View.{View}
use Rattle.rl_store.specs.Entries.{In, held_rec, read_rec}
use Rattle.rl_store.specs.Views.{all_validated, blank, is_decided, settled, settled_as, finished, with_draw}
use Rattle.rl_store.proofs.Deciding.{all, of_decided, decided_of}
use Rattle.rl_store.proofs.Marks.{at_map, in_map}
use Rattle.rl_occ.specs.declared.sets.Lock.{Lock}
use Rattle.rl_occ.specs.declared.sets.Seen.{Seen}
use Rattle.rl_occ.specs.Attempts.{with_commit}
use Rattle.rl_occ.specs.Committing.{IsToInstall, IsToValidate, all_closed, all_valid}
use Rattle.rl_occ.specs.Fits.{rec_of}
use Rattle.rl_occ.specs.Locking.{held_of, lock_rec}
use Rattle.rl_occ.specs.Outcomes.{write_at}
use Rattle.rl_occ.specs.Reading.{AreOnce, seen_of}
use Rattle.rl_occ.specs.Working.{HasLocked}
use Rattle.rl_occ.proofs.Validations.{undecided_goes_on}

held_recs : (locks : List Lock) → map held_rec (map held_of locks) ≡ map lock_rec locks
held_recs [] = refl
held_recs (l ∷ locks) = ap (λ xs. l.rec ∷ xs) (held_recs locks)

none_of_map : {A B C : Type 0} (f : A → C) (g : B → C) (ys : List B) → map f [] ≡ map g ys → ys ≡ []
none_of_map f g [] e = refl
none_of_map f g (y ∷ ys) e = absurd (let n = ap length e in omega arith)

-- each read of a view with all of them validated is
all_are_valid : (v : View) → v.attempt.given_up ≡ false → is_decided (all_valid v).attempt ≡ true
all_are_valid v e = ap (λ g. not g && all_validated v.attempt.reads (map read_rec v.attempt.reads)) e ∙ all v.attempt.reads (map read_rec v.attempt.reads) (λ x i. (i.0, at_map read_rec v.attempt.reads i.0 x i.1))

module _ (v : View) (words : List Seen) (locks : List Lock) (h : IsToValidate v words locks) where
  sure : is_decided (all_valid v).attempt ≡ true
  sure = all_are_valid v h.running

  module _ (tables : List Table) (writes : List txn.Write) (stamp : ℕ) (recs : map lock_rec locks ≡ map (rec_of tables) writes) (drawn : 0 < length locks → v.attempt.drawn ≡ Some stamp) where
    abbrev Ready : View → Type 0
    Ready w = IsToInstall tables w stamp writes

    some_locks : (l : Lock) (ls : List Lock) → locks ≡ l ∷ ls → 0 < length locks
    some_locks l ls e = let n = ap length e in omega arith

    -- the view with all reads validated is one to install
    pub ready : Ready (settled (all_valid v))
    ready = go locks refl
      where
        bare : (ls : List Lock) (g : Held) → In g (map held_of ls) → g.stored ≡ []
        bare ls g i = let x = in_map held_of ls i.0 g i.1 in ap (λ (y : Held). y.stored) (sym x.2)

        none : writes ≡ [] → (d : Bool) (t : Option ℕ) → is_decided (all_valid v).attempt ≡ d → v.attempt.drawn ≡ t → v.attempt.held ≡ [] → Ready (settled_as [] d t (all_valid v))
        none e false t p q r = absurd (true≢false (sym sure ∙ p))
        none e true None p q r = record {
          held = ap (map held_rec) r ∙ sym (ap (map (rec_of tables)) e);
          bare = λ g i. absurd (some-ne-none g (sym (subst (λ l. get_elem? l i.0 ≡ some g) r i.1)));
          none = h.unclosed;
          drawn = λ l. absurd (let n = ap length e in omega arith);
          decided = λ l. absurd (let n = ap length e in omega arith);
          whole = (λ i. settled_as (r i) (p i) (q i) (all_valid v));
        }
        none e true (Some t) p q r = record {
          held = sym (ap (map (rec_of tables)) e);
          bare = λ g i. absurd (some-ne-none g (sym i.1));
          none = refl;
          drawn = λ l. absurd (let n = ap length e in omega arith);
          decided = λ l. absurd (let n = ap length e in omega arith);
          whole = refl;
        }

        go : (ls : List Lock) → locks ≡ ls → Ready (settled (all_valid v))
        go [] e =
            let r = h.held ∙ ap (map held_of) e in
            subst (λ hs. Ready (settled_as hs (is_decided (all_valid v).attempt) v.attempt.drawn (all_valid v))) (sym r)
            (none (none_of_map lock_rec (rec_of tables) writes (ap (map lock_rec) (sym e) ∙ recs)) (is_decided (all_valid v).attempt) v.attempt.drawn refl refl r)
        go (l ∷ ls) e =
            let r = h.held ∙ ap (map held_of) e in
            let same : settled (all_valid v) ≡ all_valid v = ap (λ hs. settled_as hs (is_decided (all_valid v).attempt) v.attempt.drawn (all_valid v)) r in
            subst Ready (sym same) record {
              held = ap (map held_rec) h.held ∙ held_recs locks ∙ recs;
              bare = λ g i. bare locks g (i.0, subst (λ l. get_elem? l i.0 ≡ some g) h.held i.1);
              none = h.unclosed;
              drawn = λ _. drawn (some_locks l ls e);
              decided = λ _. (stamp, drawn (some_locks l ls e), decided_of (all_valid v).attempt stamp sure);
              whole = same;
            }

-- what an attempt that holds its locks is after the draw
module _ (v : View) (locks : List Lock) (words : List Seen) (has : HasLocked v locks) (seen : map seen_of v.attempt.reads ≡ words) (once : AreOnce v.attempt.reads) (stamp : ℕ) where
  abbrev w : View
  w = with_draw v stamp

  held_is : v.attempt.held ≡ map held_of locks
  held_is = ap (λ a. a.held) has

  running : v.attempt.given_up ≡ false
  running = ap (λ a. a.given_up) has

  no_valid : v.attempt.validated ≡ []
  no_valid = ap (λ a. a.validated) has

  no_closed : v.attempt.closed ≡ []
  no_closed = ap (λ a. a.closed) has

  -- it reads something and nothing is validated, so it goes on
  reads_go_on : (x : Read) (xs : List Read) → v.attempt.reads ≡ x ∷ xs → settled w ≡ w
  reads_go_on x xs e = undecided_goes_on w (go (is_decided w.attempt) refl)
    where
      go : (d : Bool) → is_decided w.attempt ≡ d → d ≡ false
      go true p =
          let i = (decided_of w.attempt stamp p).1 x (0, ap (λ l. get_elem? l 0) e) in
          absurd (some-ne-none x.rec (sym (subst (λ l. get_elem? l i.0 ≡ some x.rec) no_valid i.1)))
      go false p = refl

  locks_go_on : (l : Lock) (ls : List Lock) → locks ≡ l ∷ ls → settled w ≡ w
  locks_go_on l ls e = ap (λ hs. settled_as hs (is_decided w.attempt) (Some stamp) w) (held_is ∙ ap (map held_of) e)

  -- with neither it is an item
  done : v.attempt.reads ≡ [] → locks ≡ [] → settled w ≡ finished w stamp
  done r e = λ i. settled_as ((held_is ∙ ap (map held_of) e) i) (of_decided w.attempt stamp (ap not running, λ x k. absurd (some-ne-none x (sym (subst (λ l. get_elem? l k.0 ≡ some x) r k.1)))) i) (Some stamp) w

  to_validate : settled w ≡ w → IsToValidate w words locks
  to_validate e = record { seen = seen; once = once; held = held_is; none = no_valid; unclosed = no_closed; running = running; drawn = λ _. (stamp, refl); whole = e }

  no_reads : v.attempt.reads ≡ [] → words ≡ []
  no_reads r = sym seen ∙ ap (map seen_of) r

  pub validates : IsToValidate (settled w) words locks
  validates = go v.attempt.reads locks refl refl
    where
      go : (rs : List Read) (ls : List Lock) → v.attempt.reads ≡ rs → locks ≡ ls → IsToValidate (settled w) words locks
      go (x ∷ rs) ls p q = let e = reads_go_on x rs p in subst (λ u. IsToValidate u words locks) (sym e) (to_validate e)
      go [] (l ∷ ls) p q = let e = locks_go_on l ls q in subst (λ u. IsToValidate u words locks) (sym e) (to_validate e)
      go [] [] p q = subst (λ u. IsToValidate u words locks) (sym (done p q)) record {
        seen = sym (no_reads p);
        once = λ i j x y a c. absurd (some-ne-none x (sym a));
        held = sym (ap (map held_of) q);
        none = refl;
        unclosed = refl;
        running = refl;
        drawn = λ l. absurd (let n = ap length (no_reads p) in omega arith);
        whole = refl;
      }

  pub stamped : 0 < length locks → (settled w).attempt.drawn ≡ Some stamp
  stamped l = go locks refl
    where
      go : (ls : List Lock) → locks ≡ ls → (settled w).attempt.drawn ≡ Some stamp
      go [] e = absurd (let n = ap length e in omega arith)
      go (x ∷ ls) e = ap (λ (u : View). u.attempt.drawn) (locks_go_on x ls e)

  -- a refusal of a read
  pub loses : 0 < length words → settled w ≡ w
  loses l = go v.attempt.reads refl
    where
      go : (rs : List Read) → v.attempt.reads ≡ rs → settled w ≡ w
      go [] e = absurd (let n = ap length (no_reads e) in omega arith)
      go (x ∷ rs) e = reads_go_on x rs e

  -- the item
  module _ (tables : List Table) (writes : List txn.Write) (recs : map lock_rec locks ≡ map (rec_of tables) writes) where
    abbrev end : View
    end = settled (all_closed tables (settled (all_valid (settled w))) writes)

    valid_whole : is_decided (all_valid w).attempt ≡ true
    valid_whole = all_are_valid w running

    no_writes : locks ≡ [] → writes ≡ []
    no_writes e = none_of_map lock_rec (rec_of tables) writes (ap (map lock_rec) (sym e) ∙ recs)

    pub commits : end ≡ with_commit tables v stamp writes
    commits = go v.attempt.reads locks refl refl
      where
        go : (rs : List Read) (ls : List Lock) → v.attempt.reads ≡ rs → locks ≡ ls → end ≡ with_commit tables v stamp writes
        go rs (l ∷ ls) p q =
            ap (λ u. settled (all_closed tables (settled (all_valid u)) writes)) (locks_go_on l ls q)
            ∙ ap (λ u. settled (all_closed tables u writes)) (ap (λ hs. settled_as hs (is_decided (all_valid w).attempt) (Some stamp) (all_valid w)) (held_is ∙ ap (map held_of) q))
            ∙ ap (λ d. settled_as [] d (Some stamp) (all_closed tables (all_valid w) writes)) valid_whole
        go (x ∷ rs) [] p q =
            ap (λ u. settled (all_closed tables (settled (all_valid u)) writes)) (reads_go_on x rs p)
            ∙ ap (λ u. settled (all_closed tables u writes)) (λ i. settled_as ((held_is ∙ ap (map held_of) q) i) (valid_whole i) (Some stamp) (all_valid w))
            ∙ ap (λ ws. settled (all_closed tables (finished (all_valid w) stamp) ws)) (no_writes q)
            ∙ (λ i. record v { tries = v.tries - 1; draws = v.draws + 1; items = v.items ++ record { stamp = stamp; reads = v.attempt.reads; writes = (no_closed ∙ sym (ap (map (write_at tables)) (no_writes q))) i } ∷ []; attempt = blank })
        go [] [] p q =
            ap (λ u. settled (all_closed tables (settled (all_valid u)) writes)) (done p q)
            ∙ ap (λ ws. settled (all_closed tables (settled (all_valid (finished w stamp))) ws)) (no_writes q)
            ∙ (λ i. record v { tries = v.tries - 1; draws = v.draws + 1; items = v.items ++ record { stamp = stamp; reads = v.attempt.reads; writes = (no_closed ∙ sym (ap (map (write_at tables)) (no_writes q))) i } ∷ []; attempt = blank })
