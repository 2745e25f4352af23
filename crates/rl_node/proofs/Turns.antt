-- What a turn of one worker of the code does to the core, to the records and workers, and to what the leader keeps.
use Rattle.std.proofs.Common.{◌≡◌, ◌≢◌, ℕ, zero, suc, ◌+◌, ◌-◌, ◌*◌, ◌^◌, ◌<◌, ◌≤◌, List, [], ◌∷◌, ◌++◌, length, get_or, set, Bool, true, false, ◌&&◌, nat_lt, if◌then◌else◌, Option, Some, None, IfSome, Result, Ok, Err, IfOk, option_to_list, option_map, All, Contains, refl, sym, ap, ◌∙◌, subst, arith, inl, inr, length-set, get_or-set_same, get_or-set_other}
use Rattle.std.specs.Prelude.{slice_get, slice_set, slice_index_or}
use Rattle.std.proofs.lemmas.Bool.{cases_eq}
use Rattle.rl_base.proofs.Members.{In, in_map, all_in}
use Rattle.rl_base.proofs.Tests.{lt_true, lt_false, both_true}
use Rattle.rl_election.specs.World.{no_stream}
use Rattle.rl_families.specs.Logs.{stamps_along}
use Rattle.rl_txn.specs.declared.op.Op.{Op}
use Rattle.rl_value.specs.Tables.{Table}
use Rattle.rl_worker.specs.Acts.{Core, CoreRefusal, Turn, Step, phase_of, is_done, may, micro, settle, begin, step, turn, after_turns, opening_core}
use Rattle.rl_worker.specs.Items.{CoreItem, insert_by_stamp}
use Rattle.rl_worker.specs.Laws.{IsFalling, stamps_by, StampsRise, ItemsStayInRange, StepsTellNews}
use Rattle.rl_worker.specs.OneTurn.{SeenInRange, TellsNews, newly_ended, newly_refused}
use Rattle.rl_worker.specs.Told.{refused}
use Rattle.rl_base.specs.declared.memory.Memory.{Memory}
use Rattle.rl_node.specs.Stepping.{HasStepped, RefusesOwn}
use Rattle.rl_worker.specs.Opening.{OpenLeader, core_after, setting_of, item_seen, items_seen, opening_recs, at_rest}
use Rattle.rl_worker.specs.Phases.{Rest, Setting}
use Rattle.rl_worker.specs.Workers as worker
use Rattle.rl_worker.specs.Workers.{Steps, WorkerFits, RecordsFit, with_item, stamp_made, IsItemOf, number_of, epoch_of, next_of, decided_item, either, newly_decided, phase_of_worker, stamp_next, act_of_step}
use Rattle.rl_worker.specs.declared.act.Moved.{Moved}
use Rattle.rl_worker.specs.declared.worker.Worker.{Worker}
use Rattle.rl_nodes.specs.Batches.{batches_of}
use Rattle.rl_nodes.specs.Openings.{opening_leader}
use Rattle.rl_nodes.specs.Setups.{Setup}
use Rattle.rl_nodes.specs.Works.{request_in}
use Rattle.rl_node.specs.Fits.{IsStream}
use Rattle.rl_node.specs.Keeping.{KeepsStream}
use Rattle.rl_node.specs.Standing.{IsWorkerOf, AreWorksOf, log_of, pending_in}
use Rattle.rl_node.specs.declared.part.Lead as leads
use Rattle.rl_node.specs.declared.part.Works.{Works}
use Rattle.rl_node.proofs.Keeps.{end_stamp, made_on, keeps_step, keeps_other, unproposed_more}
use Rattle.rl_node.proofs.Requests.{at_request}

-- ---- turns one after another ----

after_more : (S : Setting) (c : Core) (ts : List Turn) (t : Turn) → after_turns S c (ts ++ t ∷ []) ≡ turn S (after_turns S c ts) t
after_more S c [] t = refl
after_more S c (x ∷ ts) t = after_more S (turn S c x) ts t

abbrev pub own_setting : OpenLeader → Setting
own_setting o = setting_of o.tables o.lists o.epoch

pub core_more : (o : OpenLeader) (ts : List Turn) (t : Turn) → core_after o (ts ++ t ∷ []) ≡ turn (own_setting o) (core_after o ts) t
core_more o ts t = after_more (own_setting o) (opening_core (own_setting o) (opening_recs o.tables o.rows o.stamps) (at_rest o.firsts)) ts t

pub may_move : (S : Setting) (c : Core) (w : ℕ) → 1 ≤ w → w < length c.workers → c.next < S.last → may S c w ≡ true
may_move S c w first there left =
    both_true (nat_lt 0 w) (nat_lt w (length c.workers) && nat_lt c.next S.last) (lt_true 0 w first)
    (both_true (nat_lt w (length c.workers)) (nat_lt c.next S.last) (lt_true w (length c.workers) there) (lt_true c.next S.last left))

pub turn_is_step : (S : Setting) (c : Core) (w : ℕ) → 1 ≤ w → w < length c.workers → c.next < S.last → turn S c (Step w) ≡ step S c w
turn_is_step S c w first there left = ap (λ b. if b then step S c w else c) (may_move S c w first there left)

done_stays : (S : Setting) (c : Core) (w : ℕ) → is_done S w (phase_of c w) ≡ true → step S c w ≡ c
done_stays S c w done = ap (λ b. if b then c else settle S (settle S (micro S (begin S c w) w) w) w) done

in_insert : (x : CoreItem) (xs : List CoreItem) → In x (insert_by_stamp x xs)
in_insert x [] = inl refl
in_insert x (y ∷ ys) = by_if (nat_lt x.stamp y.stamp) (x ∷ y ∷ ys) (y ∷ insert_by_stamp x ys) (inl refl) (inr (in_insert x ys))
  where
    by_if : (b : Bool) (ps qs : List CoreItem) → In x ps → In x qs → In x (if b then ps else qs)
    by_if true ps qs p q = p
    by_if false ps qs p q = q

none_over : {A : Type 0} (o : Option A) (xs ys : List A) → ys ≡ option_to_list o ++ xs → ys ≡ xs → o ≡ None
none_over None xs ys p q = refl
none_over (Some x) xs ys p q = absurd (let k = ap length p in let m = ap length q in omega (arith, k, m))

none_placed : (o : Option CoreItem) (xs : List (ℕ × ℕ)) → xs ≡ option_to_list (option_map stamp_made o) ++ xs → o ≡ None
none_placed None xs e = refl
none_placed (Some x) xs e = absurd (let k = ap length e in omega (arith, k))

pub at_index : {A : Type 0} (xs : List A) (i : ℕ) → i < length xs → (x : A) × (slice_get xs i ≡ Some x)
at_index [] i l = absurd (omega (arith, l))
at_index (x ∷ xs) zero l = (x, refl)
at_index (x ∷ xs) (suc i) l = at_index xs i (omega (arith, l))

set_same : {A : Type 0} (xs : List A) (i : ℕ) (x y : A) → slice_get (set xs i x) i ≡ Some y → y ≡ x
set_same [] i x y e = absurd (cc)
set_same (z ∷ zs) zero x y e = let same : x ≡ y = cc in sym same
set_same (z ∷ zs) (suc i) x y e = set_same zs i x y e

set_other : {A : Type 0} (xs : List A) (i j : ℕ) (x : A) → j ≢ i → slice_get (set xs i x) j ≡ slice_get xs j
set_other [] i j x n = refl
set_other (z ∷ zs) zero zero x n = absurd (n refl)
set_other (z ∷ zs) zero (suc j) x n = refl
set_other (z ∷ zs) (suc i) zero x n = refl
set_other (z ∷ zs) (suc i) (suc j) x n = set_other zs i j x (λ e. n (ap suc e))

-- ---- a step ----

module _ (rise : StampsRise) (in_range : ItemsStayInRange) (setup : Setup) (l new : leads.Lead) (works works' : Works) (core : Core) (w : ℕ)
    (there : IsStream setup w) (a : AreWorksOf setup l works core) (old x : Worker) (told : Moved)
    (at : slice_get works.workers.items (w - 1) ≡ Some old) (now : works'.workers.items ≡ set works.workers.items (w - 1) x)
    (layout : works'.layout ≡ works.layout)
    (steps : Steps setup.program.tables old x works'.words told core (step (setting_of setup.program.tables setup.program.lists l.epoch) core w))
    (fits : WorkerFits setup.program.tables setup.program.lists x) (records : RecordsFit setup.program.tables works'.words.records.items)
    (left : works.words.next < 2 ^ 40 - 1) (epoch : new.epoch ≡ l.epoch) (streams : new.streams ≡ l.streams)
    (pending : new.pending.items ≡ slice_set l.pending.items (w - 1) (pending_in l w ++ option_to_list told.ended))
    (sized : length l.pending.items ≡ setup.workers) where
  abbrev o : OpenLeader
  o = opening_leader setup.program l.epoch a.items

  abbrev S : Setting
  S = setting_of setup.program.tables setup.program.lists l.epoch

  abbrev core' : Core
  core' = step S core w

  mine : IsWorkerOf setup l.epoch w works core old
  mine = a.each w old there.0 at

  pub is_turn : turn S core (Step w) ≡ core'
  is_turn = turn_is_step S core w there.0 (subst (λ n. n < length core.workers) mine.number mine.stands.there)
      (let next = mine.stands.next in let e = mine.epoch in less core.next (epoch_of old) l.epoch works.words.next next e left)
    where
      less : (c f e n : ℕ) → c ≡ f * 2 ^ 40 + n → f ≡ e → n < 2 ^ 40 - 1 → c < e * 2 ^ 40 + (2 ^ 40 - 1)
      less c f e n p q r = omega (arith, p, q, r)

  abbrev more : List Turn
  more = a.turns ++ Step w ∷ []

  after_is : core' ≡ core_after o more
  after_is = sym is_turn ∙ ap (λ c. turn S c (Step w)) a.after ∙ sym (core_more o a.turns (Step w))

  -- what the step adds for worker w
  item_is : IfSome steps.item (λ y. (y.worker ≡ w) × (l.epoch * 2 ^ 40 ≤ y.stamp) × SeenInRange o (item_seen l.epoch y))
  item_is = by_item steps.item refl steps.of_item
    where
      by_item : (i : Option CoreItem) → steps.item ≡ i → IfSome i (IsItemOf setup.program.tables old)
          → IfSome i (λ y. (y.worker ≡ w) × (l.epoch * 2 ^ 40 ≤ y.stamp) × SeenInRange o (item_seen l.epoch y))
      by_item None e h = tt
      by_item (Some y) e h = (
        h.worker ∙ mine.number,
        subst (λ f. f * 2 ^ 40 ≤ y.stamp) mine.epoch h.epoch,
        all_in (SeenInRange o) (items_seen l.epoch core'.decided)
            (subst (λ c. All (SeenInRange o) (items_seen l.epoch c.decided)) (sym after_is) (in_range o more a.opens)) (item_seen l.epoch y)
            (in_map (item_seen l.epoch) y core'.decided (subst (In y) (sym (steps.decided ∙ ap (λ i. with_item i core.decided) e)) (in_insert y core.decided))),
      )

  kept : KeepsStream o w (log_of l w) (pending_in l w) old core
  kept = a.keeps w old there.0 at

  still : Contains (stamps_along (batches_of (log_of l w))) (end_stamp l.epoch)
      → (is_done S w (phase_of core' w) ≡ true) × (steps.item ≡ None) × (told.ended ≡ None)
  still c =
      let done = (kept.over c).0 in
      let same : core' ≡ core = done_stays S core w done in (
        subst (λ z. is_done S w (phase_of z w) ≡ true) (sym same) done,
        none_placed steps.item core.made (sym (ap (λ (z : Core). z.made) same) ∙ steps.made),
        steps.ended_seen ∙ ap (λ i. option_map (item_seen (epoch_of old)) i)
            (none_over steps.over core.ended core'.ended steps.core_ended (ap (λ (z : Core). z.ended) same)),
      )

  own_kept : KeepsStream o w (log_of l w) (pending_in l w ++ option_to_list told.ended) x core'
  own_kept = keeps_step o w (log_of l w) (pending_in l w) old x core core' told.ended steps.item kept
      (unproposed_more (pending_in l w) old x told.ended (option_map (item_seen l.epoch) steps.item)
      (steps.seen ∙ ap (λ e. option_map (item_seen e) steps.item) mine.epoch) steps.kept steps.ended)
      steps.made item_is (subst (λ c. IsFalling (stamps_by w c.made)) (sym after_is) (rise o more w)) still

  place : w - 1 < length l.pending.items
  place = omega (arith, there.0, there.1, sized)

  inside : w - 1 < length works.workers.items
  inside = let count = a.count in omega (arith, there.0, there.1, count)

  own_pending : pending_in new w ≡ pending_in l w ++ option_to_list told.ended
  own_pending = ap (λ ps. slice_index_or ps (w - 1) []) pending ∙ get_or-set_same l.pending.items (w - 1) (pending_in l w ++ option_to_list told.ended) [] place

  apart : (v : ℕ) → 1 ≤ v → v ≢ w → v - 1 ≢ w - 1
  apart v first n e = n (same v w first there.0 e)
    where
      same : (u s : ℕ) → 1 ≤ u → 1 ≤ s → u - 1 ≡ s - 1 → u ≡ s
      same u s p q e = omega (arith, p, q, e)

  other_pending : (v : ℕ) → 1 ≤ v → v ≢ w → pending_in new v ≡ pending_in l v
  other_pending v first n = ap (λ ps. slice_index_or ps (v - 1) []) pending
      ∙ get_or-set_other l.pending.items (w - 1) (v - 1) (pending_in l w ++ option_to_list told.ended) [] (apart v first n)

  other_phase : (v : ℕ) → v ≢ w → phase_of core' v ≡ phase_of core v
  other_phase v n = ap (λ ws. get_or ws v (Rest 0)) (steps.others ∙ ap (λ k. set core.workers k (phase_of_worker setup.program.tables x)) mine.number)
      ∙ get_or-set_other core.workers w v (phase_of_worker setup.program.tables x) (Rest 0) n

  -- each worker of the code is one of the core
  each_now : (v : ℕ) (y : Worker) → 1 ≤ v → slice_get works'.workers.items (v - 1) ≡ Some y → IsWorkerOf setup l.epoch v works' core' y
  each_now v y first got = elim (cases_eq v w) [
    | inl e ↦ subst (λ u. IsWorkerOf setup l.epoch u works' core' y) (sym e) (subst (IsWorkerOf setup l.epoch w works' core')
        (sym (set_same works.workers.items (w - 1) x y (subst (λ u. slice_get (set works.workers.items (w - 1) x) (u - 1) ≡ Some y) e (ap (λ ws. slice_get ws (v - 1)) (sym now) ∙ got))))
        (record { number = steps.number ∙ mine.number; epoch = steps.epoch ∙ mine.epoch; fits = fits; stands = steps.stands }))
    | inr n ↦ (let was = a.each v y first (sym (set_other works.workers.items (w - 1) (v - 1) x (apart v first n)) ∙ ap (λ ws. slice_get ws (v - 1)) (sym now) ∙ got) in
        let stood = was.stands in let stands = steps.stands in
        record {
          number = was.number;
          epoch = was.epoch;
          fits = was.fits;
          stands = record {
            recs = stands.recs;
            next = stands.next ∙ ap (λ e. stamp_next e works'.words) (steps.epoch ∙ mine.epoch ∙ sym was.epoch);
            there = subst (λ n. number_of y < n) (sym (ap length steps.others ∙ length-set core.workers (number_of old) (phase_of_worker setup.program.tables x))) stood.there;
            phase = ap (phase_of core') was.number ∙ other_phase v n ∙ ap (phase_of core) (sym was.number) ∙ stood.phase;
          };
        })
  ]

  logs : (v : ℕ) → log_of new v ≡ log_of l v
  logs v = ap (λ ss. (slice_index_or ss.items (v - 1) no_stream).log) streams

  keeps_now : (v : ℕ) (y : Worker) → 1 ≤ v → slice_get works'.workers.items (v - 1) ≡ Some y → KeepsStream o v (log_of new v) (pending_in new v) y core'
  keeps_now v y first got = subst (λ log. KeepsStream o v log (pending_in new v) y core') (sym (logs v)) (elim (cases_eq v w) [
    | inl e ↦ subst (λ u. KeepsStream o u (log_of l u) (pending_in new u) y core') (sym e)
        (subst (λ z. KeepsStream o w (log_of l w) (pending_in new w) z core')
        (sym (set_same works.workers.items (w - 1) x y (subst (λ u. slice_get (set works.workers.items (w - 1) x) (u - 1) ≡ Some y) e (ap (λ ws. slice_get ws (v - 1)) (sym now) ∙ got))))
        (subst (λ ps. KeepsStream o w (log_of l w) ps x core') (sym own_pending) own_kept))
    | inr n ↦ subst (λ ps. KeepsStream o v (log_of l v) ps y core') (sym (other_pending v first n))
        (keeps_other o v (log_of l v) (pending_in l v) y core core'
        (a.keeps v y first (sym (set_other works.workers.items (w - 1) (v - 1) x (apart v first n)) ∙ ap (λ ws. slice_get ws (v - 1)) (sym now) ∙ got))
        (λ k i. subst (λ made. In k (stamps_by v made)) (sym steps.made) (made_on v k steps.item core.made i))
        (other_phase v n))
  ])

  pub works_step : AreWorksOf setup new works' core'
  works_step = subst (λ e. Moves e) (sym epoch) moved
    where
      Moves : ℕ → Type 0
      Moves e = AreWorksOf setup (record new { epoch = e }) works' core'

      moved : AreWorksOf setup (record new { epoch = l.epoch }) works' core'
      moved = record {
        layout = layout ∙ a.layout;
        records = records;
        count = ap length now ∙ length-set works.workers.items (w - 1) x ∙ a.count;
        each = each_now;
        items = a.items;
        turns = more;
        opens = a.opens;
        after = after_is;
        keeps = keeps_now;
      }

-- ---- what a step tells ----

-- one more element or none before a list is the first of what results, where that is longer
newest : {X : Type 0} (o : Option X) (xs ys : List X) → ys ≡ option_to_list o ++ xs → (if nat_lt (length xs) (length ys) then slice_get ys 0 else None) ≡ o
newest None xs ys e = rw (e, lt_false (length xs) (length xs) (omega arith)) refl
newest (Some x) xs ys e = rw (e, lt_true (length xs) (length (x ∷ xs)) (omega arith)) refl

-- the next seq of the code is the core's next stamp in its epoch
pub next_is : (setup : Setup) (l : leads.Lead) (works : Works) (core : Core) (w : ℕ) → IsStream setup w → AreWorksOf setup l works core
    → core.next ≡ l.epoch * 2 ^ 40 + works.words.next
next_is setup l works core w there a =
    let own = at_index works.workers.items (w - 1) (let count = a.count in omega (arith, there.0, there.1, count)) in
    let x = a.each w own.0 there.0 own.1 in
    x.stands.next ∙ ap (λ e. stamp_next e works.words) x.epoch

-- a worker of the code is at the request at which it is in the core
pub request_is : (setup : Setup) (l : leads.Lead) (works : Works) (core : Core) (w : ℕ) (x : Worker) → 1 ≤ w → slice_get works.workers.items (w - 1) ≡ Some x
    → AreWorksOf setup l works core → next_of x ≡ request_in (phase_of core w)
request_is setup l works core w x first at a =
    let is = a.each w x first at in
    sym (at_request setup.program.tables setup.program.lists x is.fits) ∙ ap request_in (sym is.stands.phase ∙ ap (phase_of core) is.number)

-- a step of the code, by its answer
module _ (rise : StampsRise) (items : ItemsStayInRange) (tell : StepsTellNews) (setup : Setup) (l : leads.Lead) (works works' : Works) (core : Core) (w : ℕ)
    (there : IsStream setup w) (a : AreWorksOf setup l works core) (old x : Worker)
    (at : slice_get works.workers.items (w - 1) ≡ Some old) (now : works'.workers.items ≡ set works.workers.items (w - 1) x)
    (layout : works'.layout ≡ works.layout) (left : works.words.next < 2 ^ 40 - 1) where
  abbrev tables : List Table
  tables = setup.program.tables

  abbrev lists : List (List (List Op))
  lists = setup.program.lists

  abbrev setting : Setting
  setting = setting_of tables lists l.epoch

  is_worker : IsWorkerOf setup l.epoch w works core old
  is_worker = a.each w old there.0 at

  seq_is : works.words.next ≡ core.next - l.epoch * 2 ^ 40
  seq_is = let next = next_is setup l works core w there a in omega (arith, next)

  told_step : (told : Moved) → Steps tables old x works'.words told core (step (setting_of tables lists (epoch_of old)) core (number_of old))
      → told.act ≡ act_of_step (setting_of tables lists (epoch_of old)) works.words.next core (number_of old)
      → WorkerFits tables lists x → RecordsFit tables works'.words.records.items → HasStepped setup l works works' core w told
  told_step told steps act fits records = record {
    stands = λ new sized h. subst (AreWorksOf setup new works') (sym turned)
        (works_step rise items setup l new works works' core w there a old x told at now layout steps' fits records left h.epoch h.streams h.pending sized);
    tells = λ i. record { act = act_is i; refused = refused_is i; ended = ended_is i };
    own = subst (λ c. RefusesOwn core c w) (sym turned) (own_is steps'.refusal (newest steps'.refusal core.refusals (step setting core w).refusals steps'.refusals) steps'.of_refusal);
  }
    where
      steps' : Steps tables old x works'.words told core (step setting core w)
      steps' = subst (λ v. Steps tables old x works'.words told core (step setting core v)) is_worker.number
          (subst (λ e. Steps tables old x works'.words told core (step (setting_of tables lists e) core (number_of old))) is_worker.epoch steps)

      news : TellsNews old told core (step setting core w)
      news = tell tables old x works'.words told core (step setting core w) steps'

      turned : turn setting core (Step w) ≡ step setting core w
      turned = turn_is_step setting core w there.0 (subst (λ n. n < length core.workers) is_worker.number is_worker.stands.there)
          (let next = is_worker.stands.next in let e = is_worker.epoch in less core.next (epoch_of old) l.epoch works.words.next next e left)
        where
          less : (c f e n : ℕ) → c ≡ f * 2 ^ 40 + n → f ≡ e → n < 2 ^ 40 - 1 → c < e * 2 ^ 40 + (2 ^ 40 - 1)
          less c f e n p q r = omega (arith, p, q, r)

      act_is : told.act ≡ act_of_step setting (core.next - l.epoch * 2 ^ 40) core w
      act_is = act ∙ (λ i. act_of_step (setting_of tables lists (is_worker.epoch i)) works.words.next core (is_worker.number i)) ∙ ap (λ n. act_of_step setting n core w) seq_is

      refused_is : told.refused ≡ option_map refused (newly_refused core (turn setting core (Step w)))
      refused_is = news.refused ∙ ap (λ c. option_map refused (newly_refused core c)) (sym turned)

      ended_is : told.ended ≡ option_map (item_seen l.epoch) (newly_ended core (turn setting core (Step w)))
      ended_is = news.ended ∙ (λ i. option_map (item_seen (is_worker.epoch i)) (newly_ended core (sym turned i)))

      own_is : (o : Option CoreRefusal) → newly_refused core (step setting core w) ≡ o → IfSome o (λ f. (f.worker ≡ number_of old) × (f.index ≡ next_of old))
          → RefusesOwn core (step setting core w) w
      own_is None e h = subst (λ o. IfSome o (λ f. (f.worker ≡ w) × (f.index ≡ request_in (phase_of core w)))) (sym e) tt
      own_is (Some f) e h = subst (λ o. IfSome o (λ f. (f.worker ≡ w) × (f.index ≡ request_in (phase_of core w)))) (sym e)
          (h.0 ∙ is_worker.number, h.1 ∙ request_is setup l works core w old there.0 at a)

  pub answered_step : (r : Result Moved Memory)
      → ((c : Core) → worker.Stands tables old works.words c
      → IfOk r (λ told. Steps tables old x works'.words told c (step (setting_of tables lists (epoch_of old)) c (number_of old))))
      → ((c : Core) → worker.Stands tables old works.words c
      → IfOk r (λ told. told.act ≡ act_of_step (setting_of tables lists (epoch_of old)) works.words.next c (number_of old)))
      → IfOk r (λ told. WorkerFits tables lists x) → IfOk r (λ told. RecordsFit tables works'.words.records.items)
      → IfOk r (HasStepped setup l works works' core w)
  answered_step (Ok told) steps act fits records =
      told_step told (steps core is_worker.stands) (act core is_worker.stands) fits records
  answered_step (Err e) steps act fits records = tt
