-- Values that rise: each may come after the ones before it.
use Rattle.std.proofs.Common.{suc, List, [], ◌∷◌, All, arith}
use Rattle.std.specs.Prelude.{AllPairs}
use Rattle.std.specs.List.{AllByRecursion}
use Rattle.std.proofs.lemmas.List.Elements.{All-from_recursion, recursion_from_All}
use Rattle.std.proofs.lemmas.List.Kept.{AllPairs-cons}
use Rattle.rl_fields.proofs.SeriesLaws.{Chain}

-- what a value tells is that later values are above it
pub record IsRise {S A : Type 0} (From : S → A → Type 0) (next : A → S) (Below : A → A → Type 0) : Type 0 where
  pub on : (told : S) (x y : A) → From told x → Below x y → From told y
  pub above : (x y : A) → From (next x) y → Below x y
  pub back : (x y : A) → Below x y → From (next x) y

each_as : {A : Type 0} (P Q : A → Type 0) → ((x : A) → P x → Q x) → (xs : List A) → AllByRecursion P xs → AllByRecursion Q xs
each_as P Q turn [] each = tt
each_as P Q turn (x ∷ xs) each = (turn x each.0, each_as P Q turn xs each.1)

-- values of a chain rise, from what was told at first
pub chain_rises : {S A : Type 0} (Own : A → Type 0) (From : S → A → Type 0) (next : A → S) (Below : A → A → Type 0) → IsRise From next Below
    → (told : S) (xs : List A) → Chain (λ told x. Own x × From told x) next told xs → AllByRecursion Own xs × AllPairs Below xs × AllByRecursion (From told) xs
chain_rises Own From next Below rise told [] chain = (tt, (λ i j d before within. absurd (omega arith)), tt)
chain_rises Own From next Below rise told (x ∷ xs) chain =
    let rest = chain_rises Own From next Below rise (next x) xs chain.1 in
    let above = each_as (From (next x)) (Below x) (λ y. rise.above x y) xs rest.2 in
    ((chain.0.0, rest.0), AllPairs-cons Below x xs (All-from_recursion (Below x) xs above) rest.1, (chain.0.1, each_as (Below x) (From told) (λ y. rise.on told x y chain.0.1) xs above))

-- values that rise are a chain
pub rising_chain : {S A : Type 0} (Own : A → Type 0) (From : S → A → Type 0) (next : A → S) (Below : A → A → Type 0) → IsRise From next Below
    → (told : S) (xs : List A) → AllByRecursion Own xs → AllPairs Below xs → AllByRecursion (From told) xs → Chain (λ told x. Own x × From told x) next told xs
rising_chain Own From next Below rise told [] own pairs from = tt
rising_chain Own From next Below rise told (x ∷ xs) own pairs from =
    let above : All (Below x) xs = λ k d within. pairs 0 (suc k) d (omega arith) (omega arith) in
    let rest : AllPairs Below xs = λ i j d before within. pairs (suc i) (suc j) d (omega arith) (omega arith) in
    ((own.0, from.0), rising_chain Own From next Below rise (next x) xs own.1 rest (each_as (Below x) (From (next x)) (λ y. rise.back x y) xs (recursion_from_All (Below x) xs above)))
