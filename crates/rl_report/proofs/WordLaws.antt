-- What words are read as, and printed words read again.
use Rattle.std.proofs.Common.{◌≡◌, ℕ, ◌-◌, ◌^◌, ◌<◌, ◌≤◌, ◌==◌, ◌&&◌, Bool, true, false, cond, List, [], ◌∷◌, ◌++◌, All, length, get_or, map, Option, Some, None, ok_or, Result, Ok, Err, refl, sym, ap, subst, ◌∙◌, arith, append-nil, if◌then◌else◌}
use Rattle.std.specs.Prelude.{nat_lt, nat_le}
use Rattle.std.specs.Fmt.{decimal}
use Rattle.std.specs.List.{list_all}
use Rattle.std.specs.Str.{bytes_eq}
use Rattle.std.proofs.lemmas.Bool.Decides.{nat_tests}
use Rattle.std.proofs.lemmas.Fmt.{decimal-digits_value}
use Rattle.std.proofs.lemmas.List.{length-map}
use Rattle.std.proofs.lemmas.List.Elements.{All-nil, All-cons, All-head, All-tail}
use Rattle.std.proofs.lemmas.Slice.Eq.{bytes_eq-Decides}
use Rattle.std.proofs.lemmas.Str.Parse.{IsNumeralModel, IsDigitsTest, numerals_by_fold}
use Rattle.rl_base.specs.Results.{◌>>=◌}
use Rattle.rl_base.proofs.Tests.{both, true_same}
use Rattle.rl_text.specs.Numbers.{is_digit, is_plain, number_of, number_within, value_onto}
use Rattle.rl_text.specs.Printed.{Line}
use Rattle.rl_text.proofs.WordsBack.{number_within_decimal}
use Rattle.rl_report.specs.declared.fault.ReportFault.{ReportFault}
use Rattle.rl_report.specs.declared.fault.ReportFault.TheVariants.{Form}
use Rattle.rl_report.specs.Words.{OfWords, words_behind, behind, number, short, long, exactly, is_word, name, longs, columns, alone, whole}
use Rattle.rl_report.proofs.ReaderLaws.{bind_ok, ok_is, guard_ok, Any, IsReader}

pub same_word : (w due : List ℕ) → bytes_eq w due ≡ true → w ≡ due
same_word w due h = (bytes_eq-Decides w due).0 h

pub own_word : (w : List ℕ) → bytes_eq w w ≡ true
own_word w = (bytes_eq-Decides w w).1 refl

-- ---- a fixed word ----

behind_takes : (due : List ℕ) (words rest : Line) → words_behind due words ≡ Ok rest → words ≡ due ∷ rest
behind_takes due [] rest e = absurd cc
behind_takes due (w ∷ words) rest e =
    let g = guard_ok (bytes_eq w due) Form (Ok words) rest e in
    ap (λ v. v ∷ words) (same_word w due g.0) ∙ ap (λ ws. due ∷ ws) (ok_is {E = ReportFault} words rest g.1)

behind_again : (due : List ℕ) (rest : Line) → words_behind due (due ∷ rest) ≡ Ok rest
behind_again due rest = ap (λ b. cond b (Ok rest) (Err Form)) (own_word due)

pub behind_reader : {A : Type 0} {r : OfWords A} {p : A → Line} {F : A → Type 0} {S : Line → Type 0} (due : List ℕ) → IsReader r p F S → IsReader (behind due r) (λ a. due ∷ p a) F S
behind_reader {A} {r} {p} {F} {S} due reads = record { takes = takes; again = again }
  where
    takes : (words : Line) (a : A × Line) → behind due r words ≡ Ok a → (words ≡ due ∷ (p a.0 ++ a.1)) × F a.0
    takes words a e =
        let rest = bind_ok (words_behind due words) r a e in
        let one = reads.takes rest.0 a rest.2 in
        (behind_takes due words rest.0 rest.1 ∙ ap (λ ws. due ∷ ws) one.0, one.1)

    again : (a : A) (rest : Line) → F a → S rest → behind due r (due ∷ (p a ++ rest)) ≡ Ok (a, rest)
    again a rest fits stop = ap (λ (z : Result Line ReportFault). z >>= r) (behind_again due (p a ++ rest)) ∙ reads.again a rest fits stop

-- ---- numbers ----

digits_test : IsDigitsTest (λ ds. list_all is_digit ds ≡ true)
digits_test = record { empty = refl; parts = λ c cs h. parts c cs h; more = λ c cs low h. both_digits c cs low.0 low.1 h }
  where
    parts : (c : ℕ) (cs : List ℕ) → list_all is_digit (c ∷ cs) ≡ true → ((48 ≤ c) × (c ≤ 57)) × (list_all is_digit cs ≡ true)
    parts c cs h = (grind (arith, nat_tests), grind (arith, nat_tests))

    both_digits : (c : ℕ) (cs : List ℕ) → 48 ≤ c → c ≤ 57 → list_all is_digit cs ≡ true → list_all is_digit (c ∷ cs) ≡ true
    both_digits c cs low high h = grind (arith, nat_tests)

digits_read : IsNumeralModel (λ ds. list_all is_digit ds ≡ true) (value_onto 0)
digits_read = numerals_by_fold (λ ds. list_all is_digit ds ≡ true) digits_test value_onto (record {
  empty = λ n. refl;
  more = λ n c cs low. ap (λ m. value_onto m cs) (omega arith);
})

-- what a plain word tells
pub record IsPlain (word : List ℕ) : Type 0 where
  pub digits : list_all is_digit word ≡ true
  pub some : 0 < length word
  pub front : get_or word 0 0 ≡ 48 → length word ≡ 1

plain : (word : List ℕ) → is_plain word ≡ true → IsPlain word
plain word h = record { digits = digits word h; some = grind (arith, nat_tests); front = λ begins_so. one word h begins_so }
  where
    digits : (word : List ℕ) → is_plain word ≡ true → list_all is_digit word ≡ true
    digits word h = grind (arith, nat_tests)

    one : (word : List ℕ) → is_plain word ≡ true → get_or word 0 0 ≡ 48 → length word ≡ 1
    one word h begins_so = grind (arith, nat_tests)

some_is : {A : Type 0} (x y : A) → Some x ≡ Some y → x ≡ y
some_is x y e = cc

number_is : (word : List ℕ) (n : ℕ) → number_of word ≡ Some n → (word ≡ decimal n) × (n < 2 ^ 64)
number_is word n e = go (is_plain word) refl (nat_le (length word) 20) (nat_lt (value_onto 0 word) (2 ^ 64)) refl e
  where
    go : (a : Bool) → is_plain word ≡ a → (b c : Bool) → nat_lt (value_onto 0 word) (2 ^ 64) ≡ c → cond (a && b && c) (Some (value_onto 0 word)) None ≡ Some n → (word ≡ decimal n) × (n < 2 ^ 64)
    go false is b c small e = absurd cc
    go true is false c small e = absurd cc
    go true is true false small e = absurd cc
    go true is true true small e =
        let p = plain word is in
        let below : value_onto 0 word < 2 ^ 64 = grind (arith, nat_tests) in
        let value : value_onto 0 word ≡ n = some_is (value_onto 0 word) n e in
        (sym (decimal-digits_value digits_read word p.digits p.some p.front below) ∙ ap decimal value, omega (arith, value, below))

pub within_is : (most : ℕ) (word : List ℕ) (n : ℕ) → number_within 0 most Form Form word ≡ Ok n → (word ≡ decimal n) × (n ≤ most)
unfolding number_within
within_is most word n e = go (number_of word) refl e
  where
    go : (o : Option ℕ) → number_of word ≡ o → (ok_or o Form >>= λ m. cond (nat_le 0 m && nat_le m most) (Ok m) (Err Form)) ≡ Ok n → (word ≡ decimal n) × (n ≤ most)
    go None is e = absurd cc
    go (Some m) is e =
        let g = guard_ok (nat_le 0 m && nat_le m most) Form (Ok m) n e in
        let same : m ≡ n = ok_is {E = ReportFault} m n g.1 in
        let small = (both (nat_le 0 m) (nat_le m most) g.0).1 in
        let at_most : m ≤ most = grind (arith, nat_tests) in
        ((number_is word m is).0 ∙ ap decimal same, omega (arith, same, at_most))

abbrev pub one_word : ℕ → Line
one_word n = decimal n ∷ []

abbrev pub UpTo : ℕ → ℕ → Type 0
UpTo most n = n ≤ most

pub number_reader : (most : ℕ) → most < 2 ^ 64 → IsReader (number most) one_word (UpTo most) Any
unfolding number
number_reader most small = record { takes = takes; again = again }
  where
    takes : (words : Line) (a : ℕ × Line) → number most words ≡ Ok a → (words ≡ one_word a.0 ++ a.1) × UpTo most a.0
    takes [] a e = absurd cc
    takes (w ∷ words) a e =
        let n = bind_ok (number_within 0 most Form Form w) (λ n. Ok (n, words)) a e in
        let is = within_is most w n.0 n.1 in
        let same : (n.0, words) ≡ a = ok_is {E = ReportFault} (n.0, words) a n.2 in
        subst (λ (a : ℕ × Line). (w ∷ words ≡ one_word a.0 ++ a.1) × UpTo most a.0) same (ap (λ v. v ∷ words) is.0, is.1)

    again : (n : ℕ) (rest : Line) → UpTo most n → Any rest → number most (one_word n ++ rest) ≡ Ok (n, rest)
    again n rest fits stop = ap (λ (z : Result ℕ ReportFault). z >>= λ n. Ok (n, rest)) (number_within_decimal 0 most Form Form n (omega arith) fits (omega arith))

pub short_reader : IsReader short one_word (UpTo (2 ^ 32 - 1)) Any
short_reader = number_reader (2 ^ 32 - 1) (omega arith)

pub long_reader : IsReader long one_word (UpTo (2 ^ 64 - 1)) Any
long_reader = number_reader (2 ^ 64 - 1) (omega arith)

-- a number of 32 bits that is this one
abbrev pub Is : ℕ → ℕ → Type 0
Is due n = (n ≡ due) × UpTo (2 ^ 32 - 1) n

pub exactly_reader : (due : ℕ) → IsReader (exactly due) one_word (Is due) Any
unfolding exactly
exactly_reader due = record { takes = takes; again = again }
  where
    takes : (words : Line) (a : ℕ × Line) → exactly due words ≡ Ok a → (words ≡ one_word a.0 ++ a.1) × Is due a.0
    takes words a e =
        let n = bind_ok (short words) (λ n. if n.0 == due then Ok n else Err Form) a e in
        let g = guard_ok (n.0.0 == due) Form (Ok n.0) a n.2 in
        let one = short_reader.takes words n.0 n.1 in
        subst (λ (a : ℕ × Line). (words ≡ one_word a.0 ++ a.1) × Is due a.0) (ok_is {E = ReportFault} n.0 a g.1) (one.0, (true_same n.0.0 due g.0, one.1))

    again : (n : ℕ) (rest : Line) → Is due n → Any rest → exactly due (one_word n ++ rest) ≡ Ok (n, rest)
    again n rest fits stop =
        let own : (n == due) ≡ true = same_number n due fits.0 in
        ap (λ (z : Result (ℕ × Line) ReportFault). z >>= λ n. if n.0 == due then Ok n else Err Form) (short_reader.again n rest fits.1 tt) ∙ ap (λ b. cond b (Ok (n, rest)) (Err Form)) own
      where
        same_number : (n due : ℕ) → n ≡ due → (n == due) ≡ true
        same_number n due h = grind (arith, nat_tests)

-- ---- names and rows of numbers ----

abbrev pub IsName : List ℕ → Type 0
IsName word = is_word word ≡ true

pub name_reader : IsReader name (λ w. w ∷ []) IsName Any
unfolding name
name_reader = record { takes = takes; again = again }
  where
    takes : (words : Line) (a : List ℕ × Line) → name words ≡ Ok a → (words ≡ a.0 ∷ a.1) × IsName a.0
    takes [] a e = absurd cc
    takes (w ∷ words) a e =
        let g = guard_ok (is_word w) Form (Ok (w, words)) a e in
        subst (λ (a : List ℕ × Line). (w ∷ words ≡ a.0 ∷ a.1) × IsName a.0) (ok_is {E = ReportFault} (w, words) a g.1) (refl, g.0)

    again : (w : List ℕ) (rest : Line) → IsName w → Any rest → name (w ∷ rest) ≡ Ok (w, rest)
    again w rest fits stop = ap (λ b. cond b (Ok (w, rest)) (Err Form)) fits

abbrev pub IsLast : Line → Type 0
IsLast words = words ≡ []

pub longs_reader : IsReader longs (map decimal) (All (UpTo (2 ^ 64 - 1))) IsLast
unfolding longs
longs_reader = record { takes = takes; again = again }
  where
    Small : List ℕ → Type 0
    Small ns = All (UpTo (2 ^ 64 - 1)) ns

    takes : (words : Line) (a : List ℕ × Line) → longs words ≡ Ok a → (words ≡ map decimal a.0 ++ a.1) × All (UpTo (2 ^ 64 - 1)) a.0
    takes [] a e =
        subst (λ (a : List ℕ × Line). ([] ≡ map decimal a.0 ++ a.1) × All (UpTo (2 ^ 64 - 1)) a.0) (ok_is {E = ReportFault} ([], []) a e) (refl, All-nil (UpTo (2 ^ 64 - 1)))
    takes (w ∷ words) a e =
        let n = bind_ok (number_within 0 (2 ^ 64 - 1) Form Form w) (λ n. longs words >>= λ ns. Ok (n ∷ ns.0, ns.1)) a e in
        let ns = bind_ok (longs words) (λ ns. Ok (n.0 ∷ ns.0, ns.1)) a n.2 in
        let is = within_is (2 ^ 64 - 1) w n.0 n.1 in
        let more = takes words ns.0 ns.1 in
        subst (λ (a : List ℕ × Line). (w ∷ words ≡ map decimal a.0 ++ a.1) × All (UpTo (2 ^ 64 - 1)) a.0) (ok_is {E = ReportFault} (n.0 ∷ ns.0.0, ns.0.1) a ns.2)
        (ap (λ v. v ∷ words) is.0 ∙ ap (λ ws. decimal n.0 ∷ ws) more.0, All-cons (UpTo (2 ^ 64 - 1)) n.0 ns.0.0 is.1 more.1)

    back : (ns : List ℕ) → All (UpTo (2 ^ 64 - 1)) ns → longs (map decimal ns) ≡ Ok (ns, [])
    back [] all = refl
    back (n ∷ ns) all =
        ap (λ (z : Result ℕ ReportFault). z >>= λ n. longs (map decimal ns) >>= λ ns. Ok (n ∷ ns.0, ns.1)) (number_within_decimal 0 (2 ^ 64 - 1) Form Form n (omega arith) (All-head (UpTo (2 ^ 64 - 1)) n ns all) (omega (arith, All-head (UpTo (2 ^ 64 - 1)) n ns all)))
        ∙ ap (λ (z : Result (List ℕ × Line) ReportFault). z >>= λ ms. Ok (n ∷ ms.0, ms.1)) (back ns (All-tail (UpTo (2 ^ 64 - 1)) n ns all))

    again : (ns : List ℕ) (rest : Line) → All (UpTo (2 ^ 64 - 1)) ns → IsLast rest → longs (map decimal ns ++ rest) ≡ Ok (ns, rest)
    again ns rest all last = ap (λ ws. longs (map decimal ns ++ ws)) last ∙ ap longs (append-nil (map decimal ns)) ∙ back ns all ∙ ap (λ ws. Ok (ns, ws)) (sym last)

-- one to four numbers
pub record AreColumns (row : List ℕ) : Type 0 where
  pub numbers : All (UpTo (2 ^ 64 - 1)) row
  pub some : 0 < length row
  pub few : length row ≤ 4

pub columns_reader : IsReader columns (map decimal) AreColumns IsLast
unfolding columns longs
columns_reader = record { takes = takes; again = again }
  where
    takes : (words : Line) (a : List ℕ × Line) → columns words ≡ Ok a → (words ≡ map decimal a.0 ++ a.1) × AreColumns a.0
    takes words a e =
        let g = guard_ok (nat_le 1 (length words) && nat_le (length words) 4) Form (longs words) a e in
        let one = longs_reader.takes words a g.1 in
        let last : a.1 ≡ [] = nothing_left words a g.1 in
        let count : length words ≡ length a.0 = ap length (one.0 ∙ ap (λ ws. map decimal a.0 ++ ws) last ∙ append-nil (map decimal a.0)) ∙ length-map a.0 decimal in
        let b = both (nat_le 1 (length words)) (nat_le (length words) 4) g.0 in
        let low : 1 ≤ length words = grind (arith, nat_tests) in
        let high : length words ≤ 4 = grind (arith, nat_tests) in
        (one.0, record { numbers = one.1; some = omega arith; few = omega arith })
      where
        nothing_left : (words : Line) (a : List ℕ × Line) → longs words ≡ Ok a → a.1 ≡ []
        nothing_left [] a e = ap (λ (a : List ℕ × Line). a.1) (sym (ok_is {E = ReportFault} ([], []) a e))
        nothing_left (w ∷ words) a e =
            let n = bind_ok (number_within 0 (2 ^ 64 - 1) Form Form w) (λ n. longs words >>= λ ns. Ok (n ∷ ns.0, ns.1)) a e in
            let ns = bind_ok (longs words) (λ ns. Ok (n.0 ∷ ns.0, ns.1)) a n.2 in
            ap (λ (a : List ℕ × Line). a.1) (sym (ok_is {E = ReportFault} (n.0 ∷ ns.0.0, ns.0.1) a ns.2)) ∙ nothing_left words ns.0 ns.1

    again : (row : List ℕ) (rest : Line) → AreColumns row → IsLast rest → columns (map decimal row ++ rest) ≡ Ok (row, rest)
    again row rest fits last =
        let words : Line = map decimal row ++ rest in
        let count : length words ≡ length row = ap (λ ws. length (map decimal row ++ ws)) last ∙ ap length (append-nil (map decimal row)) ∙ length-map row decimal in
        let test : (nat_le 1 (length words) && nat_le (length words) 4) ≡ true = in_range (length words) (omega (arith, count, fits.some)) (omega (arith, count, fits.few)) in
        ap (λ b. cond b (longs words) (Err Form)) test ∙ longs_reader.again row rest fits.numbers last
      where
        in_range : (n : ℕ) → 1 ≤ n → n ≤ 4 → (nat_le 1 n && nat_le n 4) ≡ true
        in_range n low high = grind (arith, nat_tests)

-- ---- whole lines ----

-- what a line is read as is printed so, and such a line is read again
pub record IsLineReader {A : Type 0} (read : Line → Result A ReportFault) (print : A → Line) (Fits : A → Type 0) : Type 0 where
  pub takes : (line : Line) (a : A) → read line ≡ Ok a → (line ≡ print a) × Fits a
  pub again : (a : A) → Fits a → read (print a) ≡ Ok a

alone_is : {A : Type 0} (a b : A) (words : Line) → alone a words ≡ Ok b → (a ≡ b) × (words ≡ [])
alone_is a b [] e = (ok_is {E = ReportFault} a b e, refl)
alone_is a b (w ∷ words) e = absurd cc

pub whole_reader : {A : Type 0} {r : OfWords A} {p : A → Line} {F : A → Type 0} {S : Line → Type 0} → IsReader r p F S → S [] → IsLineReader (whole r) p F
whole_reader {A} {r} {p} {F} {S} reads stop = record { takes = takes; again = again }
  where
    takes : (line : Line) (a : A) → whole r line ≡ Ok a → (line ≡ p a) × F a
    takes line a e =
        let x = bind_ok (r line) (λ x. alone x.0 x.1) a e in
        let one = reads.takes line x.0 x.1 in
        let last = alone_is x.0.0 a x.0.1 x.2 in
        subst (λ a. (line ≡ p a) × F a) last.0 (one.0 ∙ ap (λ ws. p x.0.0 ++ ws) last.1 ∙ append-nil (p x.0.0), one.1)

    again : (a : A) → F a → whole r (p a) ≡ Ok a
    again a fits = ap (whole r) (sym (append-nil (p a))) ∙ ap (λ (z : Result (A × Line) ReportFault). z >>= λ x. alone x.0 x.1) (reads.again a [] fits stop)
