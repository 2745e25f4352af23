-- Readers: what is taken was printed so, and what is printed so is taken again.
use Rattle.std.proofs.Common.{◌≡◌, ◌⊎◌, inl, inr, ℕ, zero, suc, ◌+◌, ◌<◌, ◌≤◌, Bool, true, false, cond, List, [], ◌∷◌, ◌++◌, All, length, Result, Ok, Err, refl, sym, ap, subst, ◌∙◌, append_assoc, arith, length-append}
use Rattle.std.specs.List.{flat_map}
use Rattle.std.proofs.lemmas.List.Elements.{All-nil, All-cons, All-head, All-tail}
use Rattle.rl_base.specs.Results.{◌>>=◌}
use Rattle.rl_report.specs.Readers.{Reader, always, both, made, choice, several, many}

-- the value of a step that did not fail
pub bind_ok : {A B E : Type 0} (r : Result A E) (f : A → Result B E) (y : B) → (r >>= f) ≡ Ok y → (x : A) × (r ≡ Ok x) × (f x ≡ Ok y)
bind_ok (Ok x) f y e = (x, refl, e)
bind_ok (Err d) f y e = absurd cc

abbrev done : {A E : Type 0} → A → Result A E
done x = Ok x

pub ok_is : {A E : Type 0} (x y : A) → done {E = E} x ≡ done y → x ≡ y
ok_is x y e = cc

pub guard_ok : {A E : Type 0} (b : Bool) (d : E) (r : Result A E) (y : A) → cond b r (Err d) ≡ Ok y → (b ≡ true) × (r ≡ Ok y)
guard_ok true d r y e = (refl, e)
guard_ok false d r y e = absurd cc

pub chosen : {A : Type 0} (b : Bool) (x y z : A) → cond b x y ≡ z → ((b ≡ true) × (x ≡ z)) ⊎ ((b ≡ false) × (y ≡ z))
chosen true x y z e = inl (refl, e)
chosen false x y z e = inr (refl, e)

abbrev pub Any : {X : Type 0} → List X → Type 0
Any xs = Unit {0}

-- what a reader takes is printed by `print` and fits, and such a value is taken again where the rest is one at which it stops
pub record IsReader {X E A : Type 0} (read : Reader X E A) (print : A → List X) (Fits : A → Type 0) (Stop : List X → Type 0) : Type 0 where
  pub takes : (xs : List X) (a : A × List X) → read xs ≡ Ok a → (xs ≡ print a.0 ++ a.1) × Fits a.0
  pub again : (a : A) (rest : List X) → Fits a → Stop rest → read (print a ++ rest) ≡ Ok (a, rest)

pub always_reader : {X E A : Type 0} (x : A) (Stop : List X → Type 0) → IsReader {X = X} {E = E} (always x) (λ a. []) (λ a. a ≡ x) Stop
always_reader {X} {E} {A} x Stop = record {
  takes = λ xs a e. let same : (x, xs) ≡ a = ok_is {E = E} (x, xs) a e in subst (λ (y : A × List X). (xs ≡ y.1) × (y.0 ≡ x)) same (refl, refl);
  again = λ a rest is stop. ap (λ y. Ok (y, rest)) (sym is);
}

pub both_reader : {X E A B : Type 0} (r : Reader X E A) (s : Reader X E B) (p : A → List X) (q : B → List X) (F : A → Type 0) (G : B → Type 0) (S T : List X → Type 0)
    → IsReader r p F S → IsReader s q G T → ((b : B) (rest : List X) → G b → T rest → S (q b ++ rest))
    → IsReader (both r s) (λ x. p x.0 ++ q x.1) (λ x. F x.0 × G x.1) T
both_reader {X} {E} {A} {B} r s p q F G S T first second stops = record { takes = takes; again = again }
  where
    takes : (xs : List X) (y : (A × B) × List X) → both r s xs ≡ Ok y → (xs ≡ (p y.0.0 ++ q y.0.1) ++ y.1) × (F y.0.0 × G y.0.1)
    takes xs y e =
        let a = bind_ok (r xs) (λ a. s a.1 >>= λ b. Ok ((a.0, b.0), b.1)) y e in
        let b = bind_ok (s a.0.1) (λ b. Ok ((a.0.0, b.0), b.1)) y a.2 in
        let one = first.takes xs a.0 a.1 in
        let two = second.takes a.0.1 b.0 b.1 in
        let same : ((a.0.0, b.0.0), b.0.1) ≡ y = ok_is {E = E} ((a.0.0, b.0.0), b.0.1) y b.2 in
        subst (λ (y : (A × B) × List X). (xs ≡ (p y.0.0 ++ q y.0.1) ++ y.1) × (F y.0.0 × G y.0.1)) same
        (one.0 ∙ ap (λ t. p a.0.0 ++ t) two.0 ∙ sym (append_assoc (p a.0.0) (q b.0.0) b.0.1), (one.1, two.1))

    again : (x : A × B) (rest : List X) → F x.0 × G x.1 → T rest → both r s ((p x.0 ++ q x.1) ++ rest) ≡ Ok (x, rest)
    again x rest fits stop =
        ap (both r s) (append_assoc (p x.0) (q x.1) rest)
        ∙ ap (λ (z : Result (A × List X) E). z >>= λ a. s a.1 >>= λ b. Ok ((a.0, b.0), b.1)) (first.again x.0 (q x.1 ++ rest) fits.0 (stops x.1 rest fits.1 stop))
        ∙ ap (λ (z : Result (B × List X) E). z >>= λ b. Ok ((x.0, b.0), b.1)) (second.again x.1 rest fits.1 stop)

-- where the first reader goes by nothing that follows
pub chain : {X E A B : Type 0} {r : Reader X E A} {s : Reader X E B} {p : A → List X} {q : B → List X} {F : A → Type 0} {G : B → Type 0} {T : List X → Type 0}
    → IsReader r p F Any → IsReader s q G T → IsReader (both r s) (λ x. p x.0 ++ q x.1) (λ x. F x.0 × G x.1) T
chain {r = r} {s = s} {p = p} {q = q} {F = F} {G = G} {T = T} first second = both_reader r s p q F G Any T first second (λ b rest fits stop. tt)

-- what is made of a value, each of which is made of some value
pub made_reader : {X E A B : Type 0} {r : Reader X E A} {p : A → List X} {F : A → Type 0} {S : List X → Type 0} (f : A → B) (q : B → List X) (G : B → Type 0)
    → IsReader r p F S → ((a : A) → F a → (q (f a) ≡ p a) × G (f a)) → ((b : B) → G b → (a : A) × (F a) × (f a ≡ b))
    → IsReader (made f r) q G S
made_reader {X} {E} {A} {B} {r} {p} {F} {S} f q G reads makes from = record { takes = takes; again = again }
  where
    takes : (xs : List X) (y : B × List X) → made f r xs ≡ Ok y → (xs ≡ q y.0 ++ y.1) × G y.0
    takes xs y e =
        let a = bind_ok (r xs) (λ a. Ok (f a.0, a.1)) y e in
        let one = reads.takes xs a.0 a.1 in
        let m = makes a.0.0 one.1 in
        let same : (f a.0.0, a.0.1) ≡ y = ok_is {E = E} (f a.0.0, a.0.1) y a.2 in
        subst (λ (y : B × List X). (xs ≡ q y.0 ++ y.1) × G y.0) same (one.0 ∙ ap (λ t. t ++ a.0.1) (sym m.0), m.1)

    again : (b : B) (rest : List X) → G b → S rest → made f r (q b ++ rest) ≡ Ok (b, rest)
    again b rest fits stop =
        let a = from b fits in
        let m = makes a.0 a.1 in
        let text : q b ≡ p a.0 = ap q (sym a.2) ∙ m.0 in
        ap (λ t. made f r (t ++ rest)) text
        ∙ ap (λ (z : Result (A × List X) E). z >>= λ a. Ok (f a.0, a.1)) (reads.again a.0 rest a.1 stop)
        ∙ ap (λ (b : B). done {E = E} (b, rest)) a.2

-- the same reader, by another spelling of what it prints
pub reprinted : {X E A : Type 0} {r : Reader X E A} {p : A → List X} {F : A → Type 0} {S : List X → Type 0} (q : A → List X) (G : A → Type 0)
    → IsReader r p F S → ((a : A) → F a → (q a ≡ p a) × G a) → ((a : A) → G a → F a) → IsReader r q G S
reprinted {r = r} {p = p} {F = F} {S = S} q G reads to from = record {
  takes = λ xs a e. let one = reads.takes xs a e in let t = to a.0 one.1 in (one.0 ∙ ap (λ t. t ++ a.1) (sym t.0), t.1);
  again = λ a rest fits stop. let f = from a fits in let t = to a f in ap (λ t. r (t ++ rest)) t.0 ∙ reads.again a rest f stop;
}

pub choice_reader : {X E A : Type 0} {r s : Reader X E A} {p : A → List X} {F G : A → Type 0} {S : List X → Type 0} (test : List X → Bool) (H : A → Type 0)
    → IsReader r p F S → IsReader s p G S
    → ((a : A) (rest : List X) → F a → S rest → test (p a ++ rest) ≡ true) → ((a : A) (rest : List X) → G a → S rest → test (p a ++ rest) ≡ false)
    → ((a : A) → F a → H a) → ((a : A) → G a → H a) → ((a : A) → H a → F a ⊎ G a)
    → IsReader (choice test r s) p H S
choice_reader {X} {E} {A} {r} {s} {p} {F} {G} {S} test H first second chooses passes one two either = record { takes = takes; again = again }
  where
    takes : (xs : List X) (a : A × List X) → choice test r s xs ≡ Ok a → (xs ≡ p a.0 ++ a.1) × H a.0
    takes xs a e = elim (chosen (test xs) (r xs) (s xs) (Ok a) e) [
      | inl h ↦ let t = first.takes xs a h.1 in (t.0, one a.0 t.1)
      | inr h ↦ let t = second.takes xs a h.1 in (t.0, two a.0 t.1)
    ]

    again : (a : A) (rest : List X) → H a → S rest → choice test r s (p a ++ rest) ≡ Ok (a, rest)
    again a rest fits stop = elim (either a fits) [
      | inl h ↦ ap (λ b. cond b (r (p a ++ rest)) (s (p a ++ rest))) (chooses a rest h stop) ∙ first.again a rest h stop
      | inr h ↦ ap (λ b. cond b (r (p a ++ rest)) (s (p a ++ rest))) (passes a rest h stop) ∙ second.again a rest h stop
    ]

pub several_reader : {X E A : Type 0} (r : Reader X E A) (p : A → List X) (F : A → Type 0) → IsReader r p F Any → (n : ℕ)
    → IsReader (several n r) (flat_map p) (λ vs. (length vs ≡ n) × All F vs) Any
unfolding several
several_reader {X} {E} {A} r p F reads n = record { takes = takes n; again = λ vs rest fits stop. again n vs rest fits.0 fits.1 }
  where
    takes : (n : ℕ) (xs : List X) (y : List A × List X) → several n r xs ≡ Ok y → (xs ≡ flat_map p y.0 ++ y.1) × ((length y.0 ≡ n) × All F y.0)
    takes zero xs y e =
        let same : ([], xs) ≡ y = ok_is {E = E} ([], xs) y e in
        subst (λ (y : List A × List X). (xs ≡ flat_map p y.0 ++ y.1) × ((length y.0 ≡ 0) × All F y.0)) same (refl, (refl, All-nil F))
    takes (suc n) xs y e =
        let a = bind_ok (r xs) (λ a. several n r a.1 >>= λ vs. Ok (a.0 ∷ vs.0, vs.1)) y e in
        let b = bind_ok (several n r a.0.1) (λ vs. Ok (a.0.0 ∷ vs.0, vs.1)) y a.2 in
        let one = reads.takes xs a.0 a.1 in
        let more = takes n a.0.1 b.0 b.1 in
        let same : (a.0.0 ∷ b.0.0, b.0.1) ≡ y = ok_is {E = E} (a.0.0 ∷ b.0.0, b.0.1) y b.2 in
        subst (λ (y : List A × List X). (xs ≡ flat_map p y.0 ++ y.1) × ((length y.0 ≡ suc n) × All F y.0)) same
        (one.0 ∙ ap (λ t. p a.0.0 ++ t) more.0 ∙ sym (append_assoc (p a.0.0) (flat_map p b.0.0) b.0.1), (ap suc more.1.0, All-cons F a.0.0 b.0.0 one.1 more.1.1))

    again : (n : ℕ) (vs : List A) (rest : List X) → length vs ≡ n → All F vs → several n r (flat_map p vs ++ rest) ≡ Ok (vs, rest)
    again zero [] rest count all = refl
    again zero (a ∷ vs) rest count all = absurd (omega arith)
    again (suc n) [] rest count all = absurd (omega arith)
    again (suc n) (a ∷ vs) rest count all =
        ap (several (suc n) r) (append_assoc (p a) (flat_map p vs) rest)
        ∙ ap (λ (z : Result (A × List X) E). z >>= λ a. several n r a.1 >>= λ vs. Ok (a.0 ∷ vs.0, vs.1)) (reads.again a (flat_map p vs ++ rest) (All-head F a vs all) tt)
        ∙ ap (λ (z : Result (List A × List X) E). z >>= λ vs. Ok (a ∷ vs.0, vs.1)) (again n vs rest (omega arith) (All-tail F a vs all))

-- ---- values by their numbers ----

-- each value fits its number, counted from one on
abbrev pub AllFrom : {A : Type 0} → (ℕ → A → Type 0) → ℕ → List A → Type 0
AllFrom F n [] = Unit {0}
AllFrom F n (a ∷ vs) = F n a × AllFrom F (n + 1) vs

module _ {X E A : Type 0} (more : ℕ → List X → Bool) (read : ℕ → Reader X E A) (p : A → List X) (F : ℕ → A → Type 0) (S : List X → Type 0) (reads : (n : ℕ) → IsReader (read n) p (F n) S) where
  abbrev then_more : ℕ → ℕ → Result (A × List X) E → Result (List A × List X) E
  then_more most n z = z >>= λ a. many most more read (n + 1) a.1 >>= λ vs. Ok (a.0 ∷ vs.0, vs.1)

  pub many_takes : (most n : ℕ) (xs : List X) (y : List A × List X) → many most more read n xs ≡ Ok y → (xs ≡ flat_map p y.0 ++ y.1) × AllFrom F n y.0
  unfolding many
  many_takes zero n xs y e =
      let same : ([], xs) ≡ y = ok_is {E = E} ([], xs) y e in
      subst (λ (y : List A × List X). (xs ≡ flat_map p y.0 ++ y.1) × AllFrom F n y.0) same (refl, tt)
  many_takes (suc most) n xs y e = elim (chosen (more n xs) (then_more most n (read n xs)) (Ok ([], xs)) (Ok y) e) [
    | inl h ↦
        let a = bind_ok (read n xs) (λ a. many most more read (n + 1) a.1 >>= λ vs. Ok (a.0 ∷ vs.0, vs.1)) y h.1 in
        let b = bind_ok (many most more read (n + 1) a.0.1) (λ vs. Ok (a.0.0 ∷ vs.0, vs.1)) y a.2 in
        let one = (reads n).takes xs a.0 a.1 in
        let others = many_takes most (n + 1) a.0.1 b.0 b.1 in
        let same : (a.0.0 ∷ b.0.0, b.0.1) ≡ y = ok_is {E = E} (a.0.0 ∷ b.0.0, b.0.1) y b.2 in
        subst (λ (y : List A × List X). (xs ≡ flat_map p y.0 ++ y.1) × AllFrom F n y.0) same
        (one.0 ∙ ap (λ t. p a.0.0 ++ t) others.0 ∙ sym (append_assoc (p a.0.0) (flat_map p b.0.0) b.0.1), (one.1, others.1))
    | inr h ↦
        let same : ([], xs) ≡ y = ok_is {E = E} ([], xs) y h.1 in
        subst (λ (y : List A × List X). (xs ≡ flat_map p y.0 ++ y.1) × AllFrom F n y.0) same (refl, tt)
  ]

  -- where the first one is due, there is one
  pub many_some : (most n : ℕ) (xs : List X) (y : List A × List X) → more n xs ≡ true → many (suc most) more read n xs ≡ Ok y → 0 < length y.0
  unfolding many
  many_some most n xs y due e =
      let h : then_more most n (read n xs) ≡ Ok y = ap (λ b. cond b (then_more most n (read n xs)) (Ok ([], xs))) (sym due) ∙ e in
      let a = bind_ok (read n xs) (λ a. many most more read (n + 1) a.1 >>= λ vs. Ok (a.0 ∷ vs.0, vs.1)) y h in
      let b = bind_ok (many most more read (n + 1) a.0.1) (λ vs. Ok (a.0.0 ∷ vs.0, vs.1)) y a.2 in
      subst (λ (y : List A × List X). 0 < length y.0) (ok_is {E = E} (a.0.0 ∷ b.0.0, b.0.1) y b.2) (omega arith)

  -- what is printed is read again, where each value but the last is followed by one at which its reader stops
  pub many_again : (most n : ℕ) (vs : List A) (rest : List X) → AllFrom F n vs → S rest → length vs < most → more (n + length vs) rest ≡ false
      → ((m : ℕ) (a : A) (tail : List X) → F m a → S tail → (more m (p a ++ tail) ≡ true) × S (p a ++ tail))
      → (many most more read n (flat_map p vs ++ rest) ≡ Ok (vs, rest)) × S (flat_map p vs ++ rest)
  unfolding many
  many_again zero n vs rest all stop few end goes = absurd (omega arith)
  many_again (suc most) n [] rest all stop few end goes =
      let here : more n rest ≡ false = ap (λ m. more m rest) (omega arith) ∙ end in
      (ap (λ b. cond b (then_more most n (read n rest)) (Ok ([], rest))) here, stop)
  many_again (suc most) n (a ∷ vs) rest all stop few end goes =
      let tail = flat_map p vs ++ rest in
      let others = many_again most (n + 1) vs rest all.1 stop (omega arith) (ap (λ m. more m rest) (omega arith) ∙ end) goes in
      let go = goes n a tail all.0 others.1 in
      let joined : flat_map p (a ∷ vs) ++ rest ≡ p a ++ tail = append_assoc (p a) (flat_map p vs) rest in (
        ap (many (suc most) more read n) joined
            ∙ ap (λ b. cond b (then_more most n (read n (p a ++ tail))) (Ok ([], p a ++ tail))) go.0
            ∙ ap (then_more most n) ((reads n).again a tail all.0 others.1)
            ∙ ap (λ (z : Result (List A × List X) E). z >>= λ vs. Ok (a ∷ vs.0, vs.1)) others.0,
        subst S (sym joined) go.1,
      )

  -- as many values as prints, where each print has something
  pub fewer : (vs : List A) → (n : ℕ) → AllFrom F n vs → ((m : ℕ) (a : A) → F m a → 0 < length (p a)) → length vs ≤ length (flat_map p vs)
  fewer [] n all some = omega arith
  fewer (a ∷ vs) n all some = omega (arith, length-append (p a) (flat_map p vs), some n a all.0, fewer vs (n + 1) all.1 some)
