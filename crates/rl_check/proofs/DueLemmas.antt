-- Lists beside those that are due, part by part.
use Rattle.std.proofs.Common.{◌≡◌, ◌≢◌, ℕ, zero, suc, ◌+◌, ◌-◌, ◌<◌, List, [], ◌∷◌, ◌++◌, length, take, slice_get, Option, Some, None, refl, ap, subst, sym, ◌∙◌, arith, append_assoc, append-nil, length-append}
use Rattle.std.specs.List.{flat_map, range_with_len}
use Rattle.std.proofs.Math.Seq.{take-append_seam}
use Rattle.std.proofs.lemmas.Grind.{flat_map-append}
use Rattle.std.proofs.lemmas.List.{take_all}
use Rattle.std.proofs.lemmas.Option.{slice_get_past}
use Rattle.rl_check.specs.Differences.{Differ}

-- ---- a range ----

range_split : (a k m n : ℕ) → n ≡ k + 1 + m → range_with_len a n ≡ range_with_len a k ++ (a + k) ∷ range_with_len (a + k + 1) m
range_split a zero m n is =
    let one : n ≡ suc m = omega arith in
    let first : a ≡ a + 0 = omega arith in
    ap (range_with_len a) one ∙ ap (λ x. x ∷ range_with_len (x + 1) m) first
range_split a (suc k) m n is =
    let one : n ≡ suc (k + 1 + m) = omega arith in
    let at : a + 1 + k ≡ a + suc k = omega arith in
    ap (range_with_len a) one ∙ ap (λ xs. a ∷ xs) (range_split (a + 1) k m (k + 1 + m) refl ∙ ap (λ x. range_with_len (a + 1) k ++ x ∷ range_with_len (x + 1) m) at)

module _ {X : Type 0} (f : ℕ → List X) where
  -- what is due up to a number
  abbrev pub due_upto : ℕ → List X
  due_upto n = flat_map f (range_with_len 0 n)

  parts : (k n : ℕ) → k < n → due_upto n ≡ due_upto k ++ (f k ++ flat_map f (range_with_len (k + 1) (n - (k + 1))))
  parts k n within =
      let count : n ≡ k + 1 + (n - (k + 1)) = omega arith in
      let at : 0 + k ≡ k = omega arith in
      ap (flat_map f) (range_split 0 k (n - (k + 1)) n count ∙ ap (λ x. range_with_len 0 k ++ x ∷ range_with_len (x + 1) (n - (k + 1))) at)
      ∙ flat_map-append f (range_with_len 0 k) (k ∷ range_with_len (k + 1) (n - (k + 1)))

  -- one more part is there
  pub same_more : (k : ℕ) (xs rest left : List X) → xs ≡ due_upto k ++ rest → rest ≡ f k ++ left → xs ≡ due_upto (k + 1) ++ left
  same_more k xs rest left is more =
      let none : k + 1 - (k + 1) ≡ 0 = omega arith in
      let last : due_upto (k + 1) ≡ due_upto k ++ f k =
      parts k (k + 1) (omega arith) ∙ ap (λ n. due_upto k ++ (f k ++ flat_map f (range_with_len (k + 1) n))) none ∙ ap (λ ys. due_upto k ++ ys) (append-nil (f k)) in
      is ∙ ap (λ ys. due_upto k ++ ys) more ∙ sym (append_assoc (due_upto k) (f k) left) ∙ ap (λ ys. ys ++ left) (sym last)

  -- one part is not
  pub differ_more : (k n : ℕ) (xs rest left : List X) → k < n → xs ≡ due_upto k ++ rest → Differ (f k) rest left → Differ (due_upto n) xs left
  differ_more k n xs rest left within is d =
      let later = flat_map f (range_with_len (k + 1) (n - (k + 1))) in
      record {
        same = due_upto k ++ d.same;
        next = d.next;
        more = d.more ++ later;
        of_list = is ∙ ap (λ ys. due_upto k ++ ys) d.of_list ∙ sym (append_assoc (due_upto k) d.same left);
        of_due = parts k n within ∙ ap (λ ys. due_upto k ++ (ys ++ later)) d.of_due ∙ ap (λ ys. due_upto k ++ ys) (append_assoc d.same (d.next ∷ d.more) later)
            ∙ sym (append_assoc (due_upto k) d.same (d.next ∷ (d.more ++ later)));
        differ = d.differ;
      }

-- ---- an index ----

some_is : {X : Type 0} (x y : X) → Some x ≡ Some y → x ≡ y
some_is x y e = cc

module _ {X : Type 0} where
  next_of : (xs ys : List X) → slice_get (xs ++ ys) (length xs) ≡ slice_get ys 0
  next_of [] ys = refl
  next_of (x ∷ xs) ys = next_of xs ys

  -- the index of the first that differs
  pub at_index : (xs same left : List X) → xs ≡ same ++ left → length xs - length left ≡ length same
  at_index xs same left is = omega (arith, ap length is, length-append same left)

  pub alike_upto : (due xs left : List X) → (d : Differ due xs left) → take (length xs - length left) xs ≡ take (length xs - length left) due
  alike_upto due xs left d =
      let at = at_index xs d.same left d.of_list in
      ap (λ n. take n xs) at ∙ ap (take (length d.same)) d.of_list ∙ take-append_seam d.same left
      ∙ sym (ap (λ n. take n due) at ∙ ap (take (length d.same)) d.of_due ∙ take-append_seam d.same (d.next ∷ d.more))

  pub differ_there : (due xs left : List X) → (d : Differ due xs left) → slice_get xs (length xs - length left) ≢ slice_get due (length xs - length left)
  differ_there due xs left d is =
      let at = at_index xs d.same left d.of_list in
      let mine : slice_get xs (length xs - length left) ≡ slice_get left 0 = ap (slice_get xs) at ∙ ap (λ ys. slice_get ys (length d.same)) d.of_list ∙ next_of d.same left in
      let theirs : slice_get due (length xs - length left) ≡ Some d.next = ap (slice_get due) at ∙ ap (λ ys. slice_get ys (length d.same)) d.of_due ∙ next_of d.same (d.next ∷ d.more) in
      d.differ (sym mine ∙ is ∙ theirs)

  -- there are more than those due
  pub more_alike : (due xs left : List X) → xs ≡ due ++ left → take (length xs - length left) xs ≡ take (length xs - length left) due
  more_alike due xs left is =
      let at = at_index xs due left is in
      ap (λ n. take n xs) at ∙ ap (take (length due)) is ∙ take-append_seam due left
      ∙ sym (ap (λ n. take n due) at ∙ take_all (length due) due (omega arith))

  pub more_there : (due xs left : List X) → xs ≡ due ++ left → 0 < length left → slice_get xs (length xs - length left) ≢ slice_get due (length xs - length left)
  more_there due xs [] is some same = absurd (omega (arith, some))
  more_there due xs (x ∷ left) is some same =
      let at = at_index xs due (x ∷ left) is in
      let mine : slice_get xs (length xs - length (x ∷ left)) ≡ Some x = ap (slice_get xs) at ∙ ap (λ ys. slice_get ys (length due)) is ∙ next_of due (x ∷ left) in
      let theirs : slice_get due (length xs - length (x ∷ left)) ≡ None = slice_get_past due (length xs - length (x ∷ left)) (omega (arith, at)) in
      let both : Some x ≡ None = sym mine ∙ same ∙ theirs in
      cc

  -- the first is another than the only one due
  differ_first : (next : X) (xs : List X) → slice_get xs 0 ≢ Some next → Differ (next ∷ []) xs xs
  differ_first next xs other = record { same = []; next = next; more = []; of_list = refl; of_due = refl; differ = other }

  pub differ_none : (next : X) (xs : List X) → xs ≡ [] → Differ (next ∷ []) xs xs
  differ_none next xs none = differ_first next xs (λ e. let both : ◌≡◌ {A = Option X} None (Some next) = ap (λ (ys : List X). slice_get ys 0) (sym none) ∙ e in cc)

  pub differ_head : (next : X) (xs : List X) (x : X) (rest : List X) → xs ≡ x ∷ rest → (x ≡ next → ⊥) → Differ (next ∷ []) xs xs
  differ_head next xs x rest is other = differ_first next xs (λ e. let both : ◌≡◌ {A = Option X} (Some x) (Some next) = ap (λ (ys : List X). slice_get ys 0) (sym is) ∙ e in other (some_is x next both))

  pub differ_as : (d e : List X) (xs left : List X) → d ≡ e → Differ d xs left → Differ e xs left
  differ_as d e xs left same is = subst (λ ys. Differ ys xs left) same is
