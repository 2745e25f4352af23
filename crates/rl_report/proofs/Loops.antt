-- Loops that read one value after another.
use Rattle.std.proofs.Common.{◌≡◌, ℕ, zero, suc, ◌+◌, ◌<◌, Bool, true, false, cond, List, [], ◌∷◌, ◌++◌, length, Result, Ok, Err, refl, sym, ap, ◌∙◌, append_assoc, append-nil, length-append, arith}
use Rattle.rl_base.specs.Results.{◌>>=◌}
use Rattle.rl_report.specs.declared.fault.Fault.{Fault}
use Rattle.rl_report.specs.declared.fault.LinesError.{LinesError}
use Rattle.rl_report.specs.declared.fault.LinesError.TheVariants as errors
use Rattle.rl_report.specs.Answers.{StopsAs}
use Rattle.rl_report.specs.Readers.{Reader, several, many}

-- what was read before, and then more
abbrev pub onto : {X E A : Type 0} → List A → Result (List A × List X) E → Result (List A × List X) E
onto before r = r >>= λ x. Ok (before ++ x.0, x.1)

pub onto_nothing : {X E A : Type 0} (r : Result (List A × List X) E) → onto [] r ≡ r
onto_nothing (Ok x) = refl
onto_nothing (Err e) = refl

onto_one : {X E A : Type 0} (before now : List A) (a : A) (r : Result (List A × List X) E) → now ≡ before ++ a ∷ [] → onto before (r >>= λ vs. Ok (a ∷ vs.0, vs.1)) ≡ onto now r
onto_one before now a (Ok x) is = ap (λ xs. Ok (xs, x.1)) (sym (append_assoc before (a ∷ []) x.0) ∙ ap (λ xs. xs ++ x.0) (sym is))
onto_one before now a (Err e) is = refl

-- each value takes something of the list
abbrev pub Shorter : {X E A : Type 0} → (ℕ → Reader X E A) → Type 0
Shorter {X} {E} {A} read = (n : ℕ) (xs : List X) (a : A × List X) → read n xs ≡ Ok a → length a.1 < length xs

module _ {X E A : Type 0} (more : ℕ → List X → Bool) (read : ℕ → Reader X E A) (short : Shorter read) where
  abbrev Values : Type 0
  Values = Result (List A × List X) E

  abbrev then_more : ℕ → ℕ → Result (A × List X) E → Values
  then_more most n z = z >>= λ a. many most more read (n + 1) a.1 >>= λ vs. Ok (a.0 ∷ vs.0, vs.1)

  -- how many may come says nothing, where it is more than the list has
  enough : (k j n : ℕ) (xs : List X) → length xs < k → length xs < j → many k more read n xs ≡ many j more read n xs
  unfolding many
  enough zero j n xs a b = absurd (omega arith)
  enough (suc k) zero n xs a b = absurd (omega arith)
  enough (suc k) (suc j) n xs a b = ap (λ z. cond (more n xs) z (Ok ([], xs))) (go (read n xs) refl (λ rest fewer. enough k j (n + 1) rest (omega arith) (omega arith)))
    where
      go : (z : Result (A × List X) E) → read n xs ≡ z → ((rest : List X) → length rest < length xs → many k more read (n + 1) rest ≡ many j more read (n + 1) rest) → then_more k n z ≡ then_more j n z
      go (Ok a) is same = ap (λ (r : Values). r >>= λ vs. Ok (a.0 ∷ vs.0, vs.1)) (same a.1 (short n xs a is))
      go (Err e) is same = refl

  opened : (n : ℕ) (xs : List X) → more n xs ≡ true → many (length xs + 1) more read n xs ≡ then_more (length xs) n (read n xs)
  unfolding many
  opened n xs comes =
      let one : length xs + 1 ≡ suc (length xs) = omega arith in
      ap (λ k. many k more read n xs) one ∙ ap (λ b. cond b (then_more (length xs) n (read n xs)) (Ok ([], xs))) comes

  -- one more value
  pub one_more : (n next : ℕ) (before now : List A) (a : A) (xs rest : List X) → more n xs ≡ true → read n xs ≡ Ok (a, rest) → now ≡ before ++ a ∷ [] → next ≡ n + 1
      → onto now (many (length rest + 1) more read next rest) ≡ onto before (many (length xs + 1) more read n xs)
  one_more n next before now a xs rest comes is pushed counted =
      let fewer : length rest < length xs = short n xs (a, rest) is in
      let later : many (length rest + 1) more read next rest ≡ many (length xs) more read (n + 1) rest =
      ap (λ m. many (length rest + 1) more read m rest) counted ∙ enough (length rest + 1) (length xs) (n + 1) rest (omega arith) fewer in
      ap (onto now) later ∙ sym (onto_one before now a (many (length xs) more read (n + 1) rest) pushed)
      ∙ ap (onto before) (sym (opened n xs comes ∙ ap (then_more (length xs) n) is))

  -- a value that is wrong
  pub one_wrong : (n : ℕ) (before : List A) (xs : List X) (e : E) → more n xs ≡ true → read n xs ≡ Err e → onto before (many (length xs + 1) more read n xs) ≡ Err e
  one_wrong n before xs e comes wrong = ap (onto before) (opened n xs comes ∙ ap (then_more (length xs) n) wrong)

  -- no value comes any more
  pub no_more : (n : ℕ) (before : List A) (xs : List X) → more n xs ≡ false → onto before (many (length xs + 1) more read n xs) ≡ Ok (before, xs)
  unfolding many
  no_more n before xs ends =
      let one : length xs + 1 ≡ suc (length xs) = omega arith in
      ap (onto before) (ap (λ k. many k more read n xs) one ∙ ap (λ b. cond b (then_more (length xs) n (read n xs)) (Ok ([], xs))) ends) ∙ ap (λ vs. Ok (vs, xs)) (append-nil before)

-- the values before, and those that come, by their numbers from one on
abbrev pub values_left : {X E A : Type 0} → (ℕ → List X → Bool) → (ℕ → Reader X E A) → List A → List X → Result (List A × List X) E
values_left more read before xs = onto before (many (length xs + 1) more read (1 + length before) xs)

pub left_more : {X E A : Type 0} (more : ℕ → List X → Bool) (read : ℕ → Reader X E A) → Shorter read → (before now : List A) (a : A) (xs rest : List X)
    → more (1 + length before) xs ≡ true → read (1 + length before) xs ≡ Ok (a, rest) → now ≡ before ++ a ∷ [] → values_left more read now rest ≡ values_left more read before xs
left_more more read short before now a xs rest comes is pushed =
    one_more more read short (1 + length before) (1 + length now) before now a xs rest comes is pushed (omega (arith, ap length pushed, length-append before (a ∷ [])))

pub left_wrong : {X E A : Type 0} (more : ℕ → List X → Bool) (read : ℕ → Reader X E A) → Shorter read → (before : List A) (xs : List X) (e : E)
    → more (1 + length before) xs ≡ true → read (1 + length before) xs ≡ Err e → values_left more read before xs ≡ Err e
left_wrong more read short before xs e comes wrong = one_wrong more read short (1 + length before) before xs e comes wrong

pub left_done : {X E A : Type 0} (more : ℕ → List X → Bool) (read : ℕ → Reader X E A) → Shorter read → (before : List A) (xs : List X)
    → more (1 + length before) xs ≡ false → values_left more read before xs ≡ Ok (before, xs)
left_done more read short before xs ends = no_more more read short (1 + length before) before xs ends

-- ---- so many values ----

module _ {X E A : Type 0} (read : Reader X E A) where
  pub another : (left fewer : ℕ) (before now : List A) (a : A) (xs rest : List X) → read xs ≡ Ok (a, rest) → now ≡ before ++ a ∷ [] → left ≡ fewer + 1
      → onto now (several fewer read rest) ≡ onto before (several left read xs)
  unfolding several
  another left fewer before now a xs rest is pushed counted =
      let one : suc fewer ≡ left = omega (arith, counted) in
      sym (onto_one before now a (several fewer read rest) pushed)
      ∙ ap (onto before) (sym (ap (λ (z : Result (A × List X) E). z >>= λ a. several fewer read a.1 >>= λ vs. Ok (a.0 ∷ vs.0, vs.1)) is))
      ∙ ap (λ n. onto before (several n read xs)) one

  pub another_wrong : (left : ℕ) (before : List A) (xs : List X) (e : E) → 0 < left → read xs ≡ Err e → onto before (several left read xs) ≡ Err e
  unfolding several
  another_wrong zero before xs e some wrong = absurd (omega arith)
  another_wrong (suc left) before xs e some wrong = ap (λ (z : Result (A × List X) E). onto before (z >>= λ a. several left read a.1 >>= λ vs. Ok (a.0 ∷ vs.0, vs.1))) wrong

  pub none_left : (left : ℕ) (before : List A) (xs : List X) → left ≡ 0 → onto before (several left read xs) ≡ Ok (before, xs)
  unfolding several
  none_left left before xs none = ap (λ n. onto before (several n read xs)) none ∙ ap (λ vs. Ok (vs, xs)) (append-nil before)

-- what is wrong with one value is wrong with all
pub stopped : {A B : Type 0} (e : LinesError) (r : Result A Fault) (s : Result B Fault) → ((fault : Fault) → r ≡ Err fault → s ≡ Err fault) → StopsAs e r → StopsAs e s
stopped (errors.Fault fault) r s same h = same fault h
stopped errors.Memory r s same h = tt
