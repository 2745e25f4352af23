-- Of two prefixes of a list with rising stamps, nothing of the shorter one is above its own last stamp, and all that the longer one has
-- behind it is.
use Rattle.std.proofs.Common.{◌≡◌, ℕ, ◌≤◌, List, [], ◌∷◌, ◌++◌, length, map, filter, Bool, true, false, Option, refl, ap, sym, ◌∙◌, subst, arith, inl, inr, append-nil}
use Rattle.std.specs.Option.{option_map_or}
use Rattle.std.proofs.lemmas.List.{map-append}
use Rattle.std.proofs.lemmas.List.Elements.{filter-append}
use Rattle.rl_base.specs.Lists.{IsPrefix}
use Rattle.rl_base.specs.Order.{is_below}
use Rattle.rl_base.specs.declared.stamp.Stamp.{Stamp}
use Rattle.rl_base.proofs.Members.{In, in_map, in_prefix}
use Rattle.rl_base.proofs.OrderLemmas.{is_below_from, not_below_self, below_one_way}
use Rattle.rl_base.proofs.Prefixes.{prefix_both}
use Rattle.rl_txn.specs.declared.item.Item.{Item}
use Rattle.rl_families.specs.Joining.{above_last, PrefixesJoin}
use Rattle.rl_families.specs.Logs.{last_stamp}
use Rattle.rl_families.proofs.Rising.{Rises, rises_from, rises_front, behind, last_is, below_last}

abbrev stamps_of : List Item → List Stamp
stamps_of xs = map (λ (x : Item). x.stamp) xs

all_pass : (f : Item → Bool) (xs : List Item) → ((x : Item) → In x xs → f x ≡ true) → filter f xs ≡ xs
all_pass f [] h = refl
all_pass f (x ∷ xs) h = rw (h x (inl refl)) (ap (λ ys. x ∷ ys) (all_pass f xs (λ y i. h y (inr i))))

none_pass : (f : Item → Bool) (xs : List Item) → ((x : Item) → In x xs → f x ≡ false) → filter f xs ≡ []
none_pass f [] h = refl
none_pass f (x ∷ xs) h = rw (h x (inl refl)) (none_pass f xs (λ y i. h y (inr i)))

-- whether an item is above the last of some stamps
abbrev is_above : Option Stamp → Item → Bool
is_above last x = option_map_or (λ last. is_below last x.stamp) last true

-- none of the items themselves is
not_above : (r : Item) (rs : List Item) → Rises (stamps_of (r ∷ rs)) → (x : Item) → In x (r ∷ rs)
    → is_above (last_stamp (stamps_of (r ∷ rs))) x ≡ false
not_above r rs rise x i =
    let k = last_is r.stamp (stamps_of rs) in
    let at : In x.stamp (stamps_of (r ∷ rs)) = in_map (λ (y : Item). y.stamp) x (r ∷ rs) i in
    let low : is_below k.0 x.stamp ≡ false = elim (below_last r.stamp (stamps_of rs) rise k.0 k.2 x.stamp at) [
      | inl same ↦ ap (λ s. is_below k.0 s) same ∙ not_below_self k.0
      | inr less ↦ below_one_way x.stamp k.0 (is_below_from x.stamp k.0 less)
    ] in
    ap (λ o. is_above o x) k.2 ∙ low

-- and each behind them is
above : (r : Item) (rs ys : List Item) → Rises (stamps_of ((r ∷ rs) ++ ys)) → (x : Item) → In x ys
    → is_above (last_stamp (stamps_of (r ∷ rs))) x ≡ true
above r rs ys rise x i =
    let k = last_is r.stamp (stamps_of rs) in
    let parts : Rises (stamps_of (r ∷ rs) ++ stamps_of ys) =
    subst (λ ss. Rises ss) (map-append (λ (y : Item). y.stamp) (r ∷ rs) ys) rise in
    let at : In x.stamp (stamps_of ys) = in_map (λ (y : Item). y.stamp) x ys i in
    ap (λ o. is_above o x) k.2
    ∙ is_below_from k.0 x.stamp (behind (stamps_of (r ∷ rs)) (stamps_of ys) parts k.0 k.1 x.stamp at)

front_rises : (xs ys : List Item) → IsPrefix xs ys → Rises (stamps_of ys) → Rises (stamps_of xs)
front_rises xs ys p rise =
    let whole : Rises (stamps_of (xs ++ p.0)) = subst (λ zs. Rises (stamps_of zs)) (sym p.1) rise in
    rises_front (stamps_of xs) (stamps_of p.0) (subst (λ ss. Rises ss) (map-append (λ (x : Item). x.stamp) xs p.0) whole)

-- what the longer one has behind the shorter
more_of : (first ys : List Item) → Rises (stamps_of (first ++ ys)) → first ++ above_last first (first ++ ys) ≡ first ++ ys
more_of [] ys rise = all_pass (λ x. true) ys (λ x i. refl)
more_of (r ∷ rs) ys rise =
    let test : Item → Bool = is_above (last_stamp (stamps_of (r ∷ rs))) in
    let own : Rises (stamps_of (r ∷ rs)) = front_rises (r ∷ rs) ((r ∷ rs) ++ ys) (ys, refl) rise in
    ap (λ zs. (r ∷ rs) ++ zs)
    (filter-append test (r ∷ rs) ys
    ∙ ap (λ zs. zs ++ filter test ys) (none_pass test (r ∷ rs) (not_above r rs own))
    ∙ all_pass test ys (above r rs ys rise))

-- the shorter one has nothing more
none_of : (first second : List Item) → Rises (stamps_of first) → IsPrefix second first → first ++ above_last first second ≡ first
none_of [] [] rise p = refl
none_of [] (x ∷ xs) rise p = absurd (nothing_before x (xs ++ p.0) p.1)
  where
    nothing_before : (x : Item) (xs : List Item) → x ∷ xs ≡ [] → ⊥
    nothing_before x xs e = omega (arith, ap length e)
none_of (r ∷ rs) second rise p =
    ap (λ zs. (r ∷ rs) ++ zs) (none_pass (is_above (last_stamp (stamps_of (r ∷ rs)))) second
    (λ x i. not_above r rs rise x (subst (In x) p.1 (in_prefix second p.0 x i))))
    ∙ append-nil (r ∷ rs)

pub prefixes_join : PrefixesJoin
prefixes_join whole first second rising p q =
    let rise : Rises (stamps_of whole) = rises_from (stamps_of whole) rising in
    record {
      second_is = λ shorter.
          let k = prefix_both first second whole p q shorter in
          let both : Rises (stamps_of (first ++ k.0)) = subst (λ zs. Rises (stamps_of zs)) (sym k.1) (front_rises second whole q rise) in
          ap (λ zs. first ++ above_last first zs) (sym k.1) ∙ more_of first k.0 both ∙ k.1;
      first_is = λ longer. none_of first second (front_rises first whole p rise) (prefix_both second first whole q p longer);
    }
