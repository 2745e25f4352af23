-- Numbers that are cut to 32 bits pass the same limits, and where none is passed they are the same.
use Rattle.std.proofs.Common.{◌≡◌, ℕ, ◌-◌, ◌^◌, ◌≤◌, ◌⊎◌, inl, inr, min, List, Option, Some, None, IfSome, IfOk, IfErr, MatchOption, Result, Ok, Err, refl, ap, sym, ◌∙◌, subst, arith}
use Rattle.std.specs.Prelude.{nat_lt, IsSomeAnd}
use Rattle.std.proofs.lemmas.Bool.Decides.{nat_tests}
use Rattle.rl_base.specs.declared.limit.LimitName.{LimitName}
use Rattle.rl_base.specs.declared.limit.LimitName.TheVariants.{Nodes}
use Rattle.rl_base.specs.declared.memory.Memory.{Memory}
use Rattle.rl_script.specs.LimitNames.{limit_name}
use Rattle.rl_script.specs.declared.script.Script.{Script}
use Rattle.rl_gen.specs.Generated.{passed_limit, generated}
use Rattle.rl_gen.specs.declared.generate.GenError.{GenError}
use Rattle.rl_gen.specs.declared.generate.GenError.TheVariants as error
use Rattle.rl_app.specs.declared.answer.Answer.{Answer}
use Rattle.rl_app.specs.declared.generator.Sizes.{Sizes}
use Rattle.rl_app.specs.Gen.{AnswersGenerated, GivesRun}
use Rattle.rl_app.specs.Generating.{IsAnsweredBy, IsGenerated}
use Rattle.rl_app.specs.Serve.{limit_line}
use Rattle.rl_app.specs.Sim.{AnswersWorld}
use Rattle.rl_app.specs.Summary.{IsSummary}

same_test : (k n : ℕ) → k ≤ 2000 → nat_lt k (min n (2 ^ 32 - 1)) ≡ nat_lt k n
same_test k n small = grind (arith, nat_tests)

-- the limit that an error names
abbrev limit_in : GenError → LimitName × ℕ
limit_in (error.GenLimit name limit) = (name, limit)
limit_in error.Memory = (Nodes, 0)

module _ (sizes : Sizes) (n w r : ℕ) (ns : n ≡ min sizes.nodes (2 ^ 32 - 1)) (ws : w ≡ min sizes.workers (2 ^ 32 - 1)) (rs : r ≡ min sizes.requests (2 ^ 32 - 1)) where
  same_limit : passed_limit n w r ≡ passed_limit sizes.nodes sizes.workers sizes.requests
  same_limit =
      let nodes : nat_lt 7 n ≡ nat_lt 7 sizes.nodes = ap (nat_lt 7) ns ∙ same_test 7 sizes.nodes (omega arith) in
      let workers : nat_lt 16 w ≡ nat_lt 16 sizes.workers = ap (nat_lt 16) ws ∙ same_test 16 sizes.workers (omega arith) in
      let requests : nat_lt 2000 r ≡ nat_lt 2000 sizes.requests = ap (nat_lt 2000) rs ∙ same_test 2000 sizes.requests (omega arith) in
      rw (nodes, workers, requests) refl

  few : passed_limit n w r ≡ None → (n ≤ 7) × (w ≤ 16) × (r ≤ 2000)
  few none = (grind (arith, nat_tests), grind (arith, nat_tests), grind (arith, nat_tests))

  same_script : passed_limit n w r ≡ None → generated sizes.seed n w r ≡ generated sizes.seed sizes.nodes sizes.workers sizes.requests
  same_script none =
      let small = few none in
      let nodes : n ≡ sizes.nodes = omega (arith, ns, small.0) in
      let workers : w ≡ sizes.workers = omega (arith, ws, small.1) in
      let requests : r ≡ sizes.requests = omega (arith, rs, small.2) in
      rw (nodes, workers, requests) refl

  -- the cut numbers give the script of the sizes, or the limit that these pass
  pub is_generated : (made : Result Script GenError) → IfOk made (λ script. script ≡ generated sizes.seed n w r)
      → IfSome (passed_limit n w r) (λ limit. made ≡ Err (error.GenLimit limit.0 limit.1))
      → IfErr made (λ e. (e ≡ error.Memory) ⊎ IsSomeAnd (passed_limit n w r) (λ limit. e ≡ error.GenLimit limit.0 limit.1))
      → IsGenerated sizes made
  is_generated made is refused why = go made (passed_limit n w r) refl is refused why
    where
      go : (made : Result Script GenError) (o : Option (LimitName × ℕ)) → passed_limit n w r ≡ o → IfOk made (λ script. script ≡ generated sizes.seed n w r)
          → IfSome o (λ limit. made ≡ Err (error.GenLimit limit.0 limit.1))
          → IfErr made (λ e. (e ≡ error.Memory) ⊎ IsSomeAnd o (λ limit. e ≡ error.GenLimit limit.0 limit.1))
          → IsGenerated sizes made
      go (Ok script) None none is refused why = (sym same_limit ∙ none, is ∙ same_script none)
      go (Ok script) (Some limit) some is refused why = absurd (cc)
      go (Err error.Memory) o passed is refused why = tt
      go (Err (error.GenLimit name limit)) o passed is refused (inl memory) = absurd (cc)
      go (Err (error.GenLimit name limit)) None none is refused (inr why) = absurd why
      go (Err (error.GenLimit name limit)) (Some l) some is refused (inr why) =
          sym same_limit ∙ some ∙ ap (λ (e : GenError). Some (limit_in e)) (sym why)

few_requests : (sizes : Sizes) → passed_limit sizes.nodes sizes.workers sizes.requests ≡ None → sizes.requests ≤ 2000
few_requests sizes none = grind (arith, nat_tests)

-- ---- answers ----

-- what is answered to the script that was generated
pub answers : (A : Script → ℕ → List ℕ → Type 0) (sizes : Sizes) (script : Script) → IsGenerated sizes (Ok script)
    → (r : Result Answer Memory) → IfOk r (λ a. A script a.status.code a.text) → IfOk r (λ a. AnswersGenerated A sizes a.status.code a.text)
answers A sizes script is (Err memory) given = tt
answers A sizes script is (Ok a) given =
    let due : Script = generated sizes.seed sizes.nodes sizes.workers sizes.requests in
    let here : A due a.status.code a.text = subst (λ s. A s a.status.code a.text) is.1 given in
    subst (λ (o : Option (LimitName × ℕ)). MatchOption o (A due a.status.code a.text) (λ limit. (a.status.code ≡ 4) × (a.text ≡ limit_line (limit_name limit.0) limit.1)))
    (sym is.0) here

-- or where none was
pub passes : (A : Script → ℕ → List ℕ → Type 0) (sizes : Sizes) (refused : GenError) → IsGenerated sizes (Err refused)
    → (r : Result Answer Memory) → IsAnsweredBy refused r → IfOk r (λ a. AnswersGenerated A sizes a.status.code a.text)
passes A sizes refused is (Err memory) given = tt
passes A sizes error.Memory is (Ok a) given = absurd given
passes A sizes (error.GenLimit name limit) is (Ok a) given =
    let due : Script = generated sizes.seed sizes.nodes sizes.workers sizes.requests in
    subst (λ (o : Option (LimitName × ℕ)). MatchOption o (A due a.status.code a.text) (λ limit. (a.status.code ≡ 4) × (a.text ≡ limit_line (limit_name limit.0) limit.1)))
    (sym is) given

-- what is answered to the run of the script that was generated, where the number of its requests was cut to 32 bits
pub run_answers : (sizes : Sizes) (script : Script) → IsGenerated sizes (Ok script) → (requests : ℕ) → requests ≡ min sizes.requests (2 ^ 32 - 1)
    → (r : Result Answer Memory) → IfOk r (λ a. AnswersWorld (IsSummary requests) script a.status.code a.text) → IfOk r (λ a. GivesRun sizes a.status.code a.text)
run_answers sizes script is requests cut r given =
    let few : sizes.requests ≤ 2000 = few_requests sizes is.0 in
    let same : requests ≡ sizes.requests = omega (arith, cut, few) in
    answers (AnswersWorld (IsSummary sizes.requests)) sizes script is r
    (subst (λ n. IfOk r (λ a. AnswersWorld (IsSummary n) script a.status.code a.text)) same given)
