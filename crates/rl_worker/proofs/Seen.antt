-- Items of a core as the layers above see them, in range.
use Rattle.std.proofs.Common.{◌≡◌, ℕ, zero, suc, ◌+◌, ◌-◌, ◌*◌, ◌^◌, ◌≤◌, List, [], ◌∷◌, length, Option, Some, None, IsSomeAnd, All, Contains, refl, sym, subst, arith, inl, inr}
use Rattle.std.specs.List.{AllByRecursion}
use Rattle.std.specs.Option.{option_and_then}
use Rattle.std.proofs.lemmas.List.Elements.{All-from_recursion, recursion_from_All}
use Rattle.rl_base.proofs.Members.{In, contains_in}
use Rattle.rl_txn.specs.Fits.{ItemFits, AnswerFits}
use Rattle.rl_txn.specs.Serial.{IsSerial, numbered, request}
use Rattle.rl_txn.specs.declared.op.Op.{Op}
use Rattle.rl_txn.proofs.Answers.{items_fit}
use Rattle.rl_worker.specs.Items.{CoreItem}
use Rattle.rl_worker.specs.Acts.{Turn}
use Rattle.rl_worker.specs.Opening.{OpenLeader, CoreFits, core_after, item_seen, items_seen}
use Rattle.rl_worker.specs.OneTurn.{MadeBetween, IsInRange, SeenInRange}
use Rattle.rl_worker.specs.Workers.{stamp_made}
use Rattle.rl_worker.proofs.Steps.{index_few}
use Rattle.rl_worker.proofs.Ranges.{in_range}

in_all : (P : ℕ × ℕ → Type 0) (m : ℕ × ℕ) (ms : List (ℕ × ℕ)) → In m ms → AllByRecursion P ms → P m
in_all P m [] i h = absurd i
in_all P m (x ∷ ms) i h = elim i [ inl e ↦ subst P (sym e) h.0 | inr j ↦ in_all P m ms j h.1 ]

-- a request that is there has an index from 1 on
index_some : (lists : List (List (List Op))) (w q : ℕ) (txn : List Op) → request lists w q ≡ Some txn → 1 ≤ q
index_some lists w zero txn e = absurd (none (numbered lists w) e)
  where
    none : (o : Option (List (List Op))) → option_and_then (λ list. numbered list zero) o ≡ Some txn → ⊥
    none None e = cc
    none (Some list) e = cc
index_some lists w (suc q) txn e = omega arith

module _ (l : OpenLeader) (fits : CoreFits l) where
  seen_one : (next : ℕ) (x : CoreItem) → next ≤ l.epoch * 2 ^ 40 + (2 ^ 40 - 1) → MadeBetween (length l.firsts) (l.epoch * 2 ^ 40 + 2) next (stamp_made x)
      → ItemFits l.tables l.lists (item_seen l.epoch x) → SeenInRange l (item_seen l.epoch x)
  seen_one next x high m f = go (request l.lists x.worker x.index) refl f
    where
      go : (o : Option (List Op)) → request l.lists x.worker x.index ≡ o → IsSomeAnd o (λ txn. AnswerFits l.tables txn x.answer.0 x.answer.1) → SeenInRange l (item_seen l.epoch x)
      go None e h = absurd h
      go (Some txn) e h = record {
        epoch = refl;
        seq_low = omega (arith, m.above);
        seq_high = omega (arith, m.below, high);
        worker_low = m.first;
        worker_high = m.there;
        index_low = index_some l.lists x.worker x.index txn e;
        index_high = index_few l.tables l.lists fits.lists_fit x.worker x.index txn e;
        fits = f;
      }

  seen_all : (next : ℕ) (ms : List (ℕ × ℕ)) (xs : List CoreItem) → next ≤ l.epoch * 2 ^ 40 + (2 ^ 40 - 1)
      → AllByRecursion (MadeBetween (length l.firsts) (l.epoch * 2 ^ 40 + 2) next) ms → AllByRecursion (λ x. In (stamp_made x) ms) xs
      → AllByRecursion (ItemFits l.tables l.lists) (items_seen l.epoch xs) → AllByRecursion (SeenInRange l) (items_seen l.epoch xs)
  seen_all next ms [] high made has f = tt
  seen_all next ms (x ∷ xs) high made has f =
      (seen_one next x high (in_all (MadeBetween (length l.firsts) (l.epoch * 2 ^ 40 + 2) next) (stamp_made x) ms has.0 made) f.0, seen_all next ms xs high made has.1 f.1)

  has_all : (ms : List (ℕ × ℕ)) (xs : List CoreItem) → AllByRecursion (λ x. Contains ms (stamp_made x)) xs → AllByRecursion (λ x. In (stamp_made x) ms) xs
  has_all ms [] h = tt
  has_all ms (x ∷ xs) h = (contains_in ms (stamp_made x) h.0, has_all ms xs h.1)

  pub seen_in_range : (turns : List Turn) → IsSerial l.tables l.lists l.rows (items_seen l.epoch (core_after l turns).decided)
      → All (SeenInRange l) (items_seen l.epoch (core_after l turns).decided)
  seen_in_range turns serial =
      let c = core_after l turns in
      let r : IsInRange l (length turns) c = in_range l turns in
      let f = items_fit l.tables l.lists fits.lists_fit l.rows (items_seen l.epoch c.decided) serial.runs in
      All-from_recursion (SeenInRange l) (items_seen l.epoch c.decided) (seen_all c.next c.made c.decided r.high
      (recursion_from_All (MadeBetween (length l.firsts) (l.epoch * 2 ^ 40 + 2) c.next) c.made r.made)
      (has_all c.made c.decided (recursion_from_All (λ x. Contains c.made (stamp_made x)) c.decided r.decided))
      (recursion_from_All (ItemFits l.tables l.lists) (items_seen l.epoch c.decided) f))
