-- Items whose seqs rise by one have different stamps.
use Rattle.std.proofs.Common.{◌≡◌, ◌≢◌, ℕ, zero, suc, ◌+◌, ◌<◌, ◌≤◌, List, [], ◌∷◌, ◌++◌, length, get_or, refl, sym, ap, ◌∙◌, subst, arith}
use Rattle.std.proofs.lemmas.List.{append_assoc, append-nil}
use Rattle.rl_txn.specs.declared.item.Item.{Item}
use Rattle.rl_replay.specs.Replay.{AreDistinct}
use Rattle.rl_shared_replay.specs.Start.{all_items}
use Rattle.rl_threads_tests.specs.Numbered.{IsNumbered}

pub numbered_join : (first next : ℕ) (xs ys : List Item) → IsNumbered first xs → next ≡ first + length xs → IsNumbered next ys → IsNumbered first (xs ++ ys)
numbered_join first next [] ys a e b k d l = b k d l ∙ (let z : next + k ≡ first + k = omega arith in z)
numbered_join first next (x ∷ xs) ys a e b zero d l = a zero d (omega arith)
numbered_join first next (x ∷ xs) ys a e b (suc k) d l =
    numbered_join (first + 1) next xs ys (λ j c m. a (suc j) c (omega arith) ∙ (let z : first + suc j ≡ first + 1 + j = omega arith in z)) (omega arith) b k d (omega arith)
    ∙ (let z : first + 1 + k ≡ first + suc k = omega arith in z)

pub numbered_more : (first : ℕ) (xs : List Item) (x : Item) → IsNumbered first xs → x.stamp.seq ≡ first + length xs → IsNumbered first (xs ++ x ∷ [])
numbered_more first xs x a e = numbered_join first (first + length xs) xs (x ∷ []) a refl (one x e)
  where
    one : (x : Item) → x.stamp.seq ≡ first + length xs → IsNumbered (first + length xs) (x ∷ [])
    one x e zero d l = e ∙ (let z : first + length xs ≡ first + length xs + 0 = omega arith in z)
    one x e (suc k) d l = absurd (omega arith)

pub numbered_distinct : (first : ℕ) (xs : List Item) → IsNumbered first xs → AreDistinct xs
numbered_distinct first xs a i j d l m e = let p = a i d (omega arith) in let q = a j d m in let s = ap (λ s. s.seq) e in absurd (omega arith)

pub all_items_more : (parts : List (List Item)) (items : List Item) → all_items (parts ++ items ∷ []) ≡ all_items parts ++ items
all_items_more [] items = append-nil items
all_items_more (p ∷ parts) items = ap (λ l. p ++ l) (all_items_more parts items) ∙ sym (append_assoc p (all_items parts) items)

pub numbered_none : (first : ℕ) → IsNumbered first []
numbered_none first k d l = absurd (omega arith)
