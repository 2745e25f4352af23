use Rattle.std.proofs.Common.{◌≡◌, ℕ, ◌*◌, ◌/◌, ◌<◌, true, ◌++◌, ◌∷◌, [], List, ap, sym, ◌∙◌, subst, sum, arith}
use Rattle.rl_store.specs.declared.view.View.{View}
use Rattle.rl_store.specs.Views.{with_read}
use Rattle.rl_tables.specs.Numbers.{sizes_of, record_of}
use Rattle.rl_txn.specs.Eval.{rows_given, is_new}
use Rattle.rl_txn.specs.Run.{Overlay}
use Rattle.std.specs.FinMap as finite
use Rattle.rl_occ.specs.declared.sets.Seen.{Seen}
use Rattle.rl_occ.specs.Reading.{HasRead}
use Rattle.rl_occ.proofs.Counting.{unread, read_more}
use Rattle.rl_occ.proofs.read.read_one.Goals as goal

pub observe-requires-clause-once : goal.observe-requires-clause-once
observe-requires-clause-once c x i e =
    unread c.args.schema.now c.args.pass.now.view _ _ c.requires.read c.args.table c.args.key c.requires.there.0 c.requires.there.1 (subst (λ q. is_new (rows_given c.args.eval.now) q ≡ true) c.requires.wants c.requires.awaits.fresh)
    x i (e ∙ c.record-rec.ensures.number ∙ ap (λ (l : List ℕ). record_of l c.args.table c.args.key) c.requires.layout)

pub returns-clause-read : goal.returns-clause-read
returns-clause-read c =
    let tables = c.args.schema.now in
    let t = c.args.table in
    let k = c.args.key in
    let number : c.record-rec.result ≡ record_of (sizes_of tables) t k = c.record-rec.ensures.number ∙ ap (λ (l : List ℕ). record_of l t k) c.requires.layout in
    let told = c.in_ok-observed.ensures in
    let word = c.in_ok-observed.observed.word in
    let row = c.in_ok-observed.observed.row in
    let even = told.unlocked in
    let below = subst (λ (p : ℕ × List ℕ). p.0 < sum p.1) (λ i. (number i, c.requires.layout i)) c.record-rec.ensures.there in
    let h = read_more tables c.args.pass.now.view (rows_given c.args.eval.now) c.args.seen.now.items c.requires.read t k c.requires.there.0 c.requires.there.1 (subst (λ q. is_new (rows_given c.args.eval.now) q ≡ true) c.requires.wants c.requires.awaits.fresh) (word / 2) row below in
    subst (λ (p : View × (Overlay × List Seen)). HasRead tables p.0 p.1.0 p.1.1)
    (λ i. (
      sym (told.read ∙ ap (λ r. with_read c.args.pass.now.view r (word / 2) row) number) i,
      (
        sym (c.give.ensures.known ∙ ap (λ q. finite.insert (rows_given c.args.eval.now) q row) c.requires.wants) i,
        sym (c.push_reserved.ensures.items ∙ (λ j. c.args.seen.now.items ++ record { rec = number j; word = (let z : word ≡ 2 * (word / 2) = omega arith in z) j } ∷ [])) i,
      ),
    ))
    h
