-- The writes of items, one after another.
use Rattle.std.proofs.Common.{◌≡◌, ℕ, zero, suc, ◌+◌, ◌<◌, ◌≤◌, List, [], ◌∷◌, ◌++◌, length, map, get_or, take, Contains, refl, sym, ap, ◌∙◌, subst, ⊎_elim, arith}
use Rattle.std.proofs.lemmas.List.{take_more, map-append, append_assoc, append-nil}
use Rattle.rl_base.proofs.Members.{In, contains_in, in_contains, in_map}
use Rattle.rl_txn.specs.declared.item.Item.{Item}
use Rattle.rl_txn.specs.declared.write.Write.{Write}
use Rattle.rl_shared_replay.specs.declared.view.Version.{Version}
use Rattle.rl_shared_replay.specs.declared.view.View.{View}
use Rattle.rl_shared_replay.specs.Calls.{AllSettled, KeepsSettled}
use Rattle.rl_shared_replay.specs.Start.{version_of, item_versions, versions_of, all_items}
use Rattle.rl_shared_replay.specs.Views.{Settled}
use Rattle.rl_shared_replay.proofs.Lists.{has_split, has_none}

pub settled_more : (v w : View) (xs ys : List Version) → AllSettled v xs → KeepsSettled v w → AllSettled w ys → AllSettled w (xs ++ ys)
settled_more v w xs ys a keep b x c = ⊎_elim (λ h. keep x (a x h)) (λ h. b x h) (has_split xs ys x c)

pub settled_one : (w : View) (x : Version) → Settled w x → AllSettled w (x ∷ [])
settled_one w x s y c = go (contains_in (x ∷ []) y c)
  where
    go : In y (x ∷ []) → Settled w y
    go i = ⊎_elim (λ (e : y ≡ x). subst (Settled w) (sym e) s) (λ (n : ⊥). absurd n) i

-- the writes of an item up to one more
pub writes_next : (f : Write → Version) (ws : List Write) (k : ℕ) (w : Write) → k < length ws → w ≡ get_or ws k w → map f (take (k + 1) ws) ≡ map f (take k ws) ++ f w ∷ []
writes_next f ws k w l e = ap (map f) (take_more ws k w l ∙ ap (λ x. take k ws ++ x ∷ []) (sym e)) ∙ map-append f (take k ws) (w ∷ [])

pub write_in : (f : Write → Version) (ws : List Write) (k : ℕ) (w : Write) → k < length ws → w ≡ get_or ws k w → Contains (map f ws) (f w)
write_in f ws k w l e = in_contains (map f ws) (f w) (in_map f w ws (contains_in ws w (k, l, sym e)))

pub versions_append : (sizes : List ℕ) (xs ys : List Item) → versions_of sizes (xs ++ ys) ≡ versions_of sizes xs ++ versions_of sizes ys
versions_append sizes [] ys = refl
versions_append sizes (x ∷ xs) ys = ap (λ l. item_versions sizes x ++ l) (versions_append sizes xs ys) ∙ sym (append_assoc (item_versions sizes x) (versions_of sizes xs) (versions_of sizes ys))

-- the items of a part up to one more
pub items_next : (sizes : List ℕ) (xs : List Item) (k : ℕ) (x : Item) → k < length xs → x ≡ get_or xs k x → versions_of sizes (take (k + 1) xs) ≡ versions_of sizes (take k xs) ++ item_versions sizes x
items_next sizes xs k x l e = ap (versions_of sizes) (take_more xs k x l ∙ ap (λ y. take k xs ++ y ∷ []) (sym e))
    ∙ (versions_append sizes (take k xs) (x ∷ []) ∙ ap (λ l. versions_of sizes (take k xs) ++ l) (append-nil (item_versions sizes x)))
