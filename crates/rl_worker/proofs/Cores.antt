-- A step of the code is a step of the core.
use Rattle.std.proofs.Common.{◌≡◌, ℕ, suc, ◌<◌, List, [], ◌∷◌, ◌++◌, length, get_or, set, Bool, true, false, nat_lt, if◌then◌else◌, ◌==◌, Option, Some, None, IfSome, option_to_list, refl, sym, ap, ◌∙◌, subst, is_some}
use mathlib.Core.Bool.{false≢true}
use Rattle.std.specs.Option.{option_map}
use Rattle.std.proofs.lemmas.List.{get_or-set_same, length-set, set-set, set-get_or}
use Rattle.rl_worker.specs.declared.act.Moved as code
use Rattle.rl_worker.specs.declared.words.Words.{Words}
use Rattle.rl_worker.specs.Phases.{Rec, Phase, Rest, Asking, Wanting, Loading, Locking, Validating, Storing, Refusing, Setting, other, asked, with_read}
use Rattle.rl_worker.specs.Items.{CoreItem}
use Rattle.rl_worker.specs.Acts.{Cause, Locked, Changed, Effect, Quiet, Drew, Won, Ended, Lost, Core, no_rec, target, quiet, lost, act_result, passing, resting, micro, settle}
use Rattle.rl_worker.proofs.Parts.{micro_parts, decided_after, ended_after, refusals_after, made_after}
use Rattle.rl_worker.specs.Told.{found, refused}
use Rattle.rl_worker.specs.Attempts.{refusal_of, act_in, IsAct, next_after}
use Rattle.rl_worker.specs.Workers.{stamp_next, with_item}
use Rattle.rl_worker.specs.Acts as acts

-- the item that an act decided
abbrev pub won : Effect → Option CoreItem
won (Won x) = Some x
won e = None

-- the item that an act ended
abbrev pub over : Effect → Option CoreItem
over (Ended x) = Some x
over e = None

-- the phase after one passing phase is passed
abbrev pub passed : Setting → ℕ → Phase → Phase
passed s w p = if passing p then (act_result s w 0 p no_rec).phase else p

-- the item that passing a phase decides
abbrev pub wins : ℕ → Phase → Option CoreItem
wins w (Rest q) = None
wins w (Asking q reads) = None
wins w (Wanting q reads r) = None
wins w (Loading q reads r seen loaded) = None
wins w (Locking q reads answer locked todo) = None
wins w (Validating q t done [] answer writes) = Some (record { stamp = t; worker = w; index = q; answer = answer; writes = writes })
wins w (Validating q t done (y ∷ todo) answer writes) = None
wins w (Storing item j todo) = None
wins w (Refusing q todo) = None

-- the item that passing a phase ends
abbrev pub ends : Phase → Option CoreItem
ends (Storing item j []) = Some item
ends p = None

abbrev pub index_in : Phase → ℕ
index_in (Rest q) = q
index_in (Asking q reads) = q
index_in (Wanting q reads r) = q
index_in (Loading q reads r seen loaded) = q
index_in (Locking q reads answer locked todo) = q
index_in (Validating q t done todo answer writes) = q
index_in (Storing item j todo) = item.index
index_in (Refusing q todo) = q

abbrev pub lost_in : Effect → Option acts.CoreRefusal
lost_in Quiet = None
lost_in Drew = None
lost_in (Won x) = None
lost_in (Ended x) = None
lost_in (Lost f) = Some f

-- a core with a worker in a phase
pub record At (core : Core) (w : ℕ) (p : Phase) (rs : List Rec) (n : ℕ) : Type 0 where
  pub recs : core.recs ≡ rs
  pub next : core.next ≡ n
  pub there : w < length core.workers
  pub phase : acts.phase_of core w ≡ p

-- what an event adds to the lists of the core
lost_added : (xs : List acts.CoreRefusal) (e : Effect) → refusals_after xs e ≡ option_to_list (lost_in e) ++ xs
lost_added xs Quiet = refl
lost_added xs Drew = refl
lost_added xs (Won x) = refl
lost_added xs (Ended x) = refl
lost_added xs (Lost f) = refl

lost_told : (e : Effect) → refusal_of e ≡ option_map refused (lost_in e)
lost_told Quiet = refl
lost_told Drew = refl
lost_told (Won x) = refl
lost_told (Ended x) = refl
lost_told (Lost f) = refl

none_won : (xs : List CoreItem) (e : Effect) → won e ≡ None → decided_after xs e ≡ xs
none_won xs Quiet h = refl
none_won xs Drew h = refl
none_won xs (Won x) h = absurd (cc)
none_won xs (Ended x) h = refl
none_won xs (Lost f) h = refl

none_made : (xs : List (ℕ × ℕ)) (e : Effect) → won e ≡ None → made_after xs e ≡ xs
none_made xs Quiet h = refl
none_made xs Drew h = refl
none_made xs (Won x) h = absurd (cc)
none_made xs (Ended x) h = refl
none_made xs (Lost f) h = refl

none_over : (xs : List CoreItem) (e : Effect) → over e ≡ None → ended_after xs e ≡ xs
none_over xs Quiet h = refl
none_over xs Drew h = refl
none_over xs (Won x) h = refl
none_over xs (Ended x) h = absurd (cc)
none_over xs (Lost f) h = refl

-- an act that is made wins and ends nothing, and a refusal is that of the phase's request
abbrev pub Plain : ℕ → ℕ → Effect → Type 0
Plain w q e = (won e ≡ None) × IfSome (lost_in e) (λ f. (f.worker ≡ w) × (f.index ≡ q)) × (over e ≡ None)

plain_test : (w q : ℕ) (b : Bool) (x y : acts.ActResult) → Plain w q x.effect → Plain w q y.effect → Plain w q (if b then x else y).effect
plain_test w q true x y h k = h
plain_test w q false x y h k = k

plain : (s : Setting) (w n : ℕ) (p : Phase) (x : Rec) → passing p ≡ false → Plain w (index_in p) (act_result s w n p x).effect
plain s w n (Rest q) x h = (refl, tt, refl)
plain s w n (Asking q reads) x h = absurd (false≢true (sym h))
plain s w n (Wanting q reads r) x h =
    plain_test w q (is_some x.holder) (lost x (Rest q) w q r (Locked x.holder x.stamp)) (quiet x (Loading q reads r x.stamp [])) (refl, (refl, refl), refl) (refl, tt, refl)
plain s w n (Loading q reads r seen loaded) x h =
    let changed = if x.stamp == seen then quiet x (Asking q (with_read (record { rec = r; seen = seen; row = loaded }) reads)) else lost x (Rest q) w q r (Changed x.holder seen x.stamp) in
    plain_test w q (nat_lt (length loaded) (length x.cells)) (quiet x (Loading q reads r seen (loaded ++ get_or x.cells (length loaded) 0 ∷ [])))
    (if is_some x.holder then lost x (Rest q) w q r (Locked x.holder x.stamp) else changed) (refl, tt, refl)
    (plain_test w q (is_some x.holder) (lost x (Rest q) w q r (Locked x.holder x.stamp)) changed (refl, (refl, refl), refl)
    (plain_test w q (x.stamp == seen) (quiet x (Asking q (with_read (record { rec = r; seen = seen; row = loaded }) reads))) (lost x (Rest q) w q r (Changed x.holder seen x.stamp)) (refl, tt, refl) (refl, (refl, refl), refl)))
plain s w n (Locking q reads answer l []) x h = (refl, tt, refl)
plain s w n (Locking q reads answer l (y ∷ todo)) x h =
    plain_test w q (is_some x.holder) (lost x (Refusing q l) w q y.rec (Locked x.holder x.stamp)) (quiet (record x { holder = Some w }) (Locking q reads answer (l ++ y ∷ []) todo)) (refl, (refl, refl), refl) (refl, tt, refl)
plain s w n (Validating q t done [] answer writes) x h = absurd (false≢true (sym h))
plain s w n (Validating q t done (y ∷ todo) answer writes) x h =
    plain_test w q (other w x.holder) (lost x (Refusing q writes) w q y.rec (Locked x.holder x.stamp)) (if x.stamp == y.seen then quiet x (Validating q t (done ++ y ∷ []) todo answer writes) else lost x (Refusing q writes) w q y.rec (Changed x.holder y.seen x.stamp))
    (refl, (refl, refl), refl) (plain_test w q (x.stamp == y.seen) (quiet x (Validating q t (done ++ y ∷ []) todo answer writes)) (lost x (Refusing q writes) w q y.rec (Changed x.holder y.seen x.stamp)) (refl, tt, refl) (refl, (refl, refl), refl))
plain s w n (Storing item j []) x h = absurd (false≢true (sym h))
plain s w n (Storing item j (y ∷ todo)) x h =
    plain_test w item.index (nat_lt j (length y.row)) (quiet (record { stamp = x.stamp; holder = x.holder; cells = set x.cells j (get_or y.row j 0) }) (Storing item (suc j) (y ∷ todo))) (quiet (record { stamp = item.stamp; holder = None; cells = x.cells }) (Storing item 0 todo)) (refl, tt, refl) (refl, tt, refl)
plain s w n (Refusing q []) x h = absurd (false≢true (sym h))
plain s w n (Refusing q (y ∷ todo)) x h = (refl, tt, refl)

-- one act of the core, where the code made one
pub record Acted (core core' : Core) (w : ℕ) (p p' : Phase) (words' : Words) (e : ℕ) (t : code.Moved) : Type 0 where
  pub at : At core' w p' words'.records.items (stamp_next e words')
  pub workers : core'.workers ≡ set core.workers w p'
  pub decided : core'.decided ≡ core.decided
  pub ended : core'.ended ≡ core.ended
  pub made : core'.made ≡ core.made
  pub refusal : Option acts.CoreRefusal
  pub refusals : core'.refusals ≡ option_to_list refusal ++ core.refusals
  pub told : t.refused ≡ option_map refused refusal
  pub of : IfSome refusal (λ f. (f.worker ≡ w) × (f.index ≡ index_in p))

pub acted : (s : Setting) (core : Core) (w e : ℕ) (p p' : Phase) (words words' : Words) (told : code.Moved) → passing p ≡ false
    → At core w p words.records.items (stamp_next e words) → IsAct s w e p p' words words' told → Acted core (micro s core w) w p p' words' e told
acted s core w e p p' words words' told still at a =
    let m : acts.ActResult = act_result s w core.next (acts.phase_of core w) (get_or core.recs (target (acts.phase_of core w)) no_rec) in
    let m_is : m ≡ act_in s w e p words =
    ap (λ (z : Phase). act_result s w core.next z (get_or core.recs (target z) no_rec)) at.phase
    ∙ ap (λ (rs : List Rec). act_result s w core.next p (get_or rs (target p) no_rec)) at.recs
    ∙ ap (λ n. act_result s w n p (found words.records.items (target p))) at.next in
    let ev : m.effect ≡ (act_in s w e p words).effect = ap (λ (z : acts.ActResult). z.effect) m_is in
    let ph : m.phase ≡ p' = ap (λ (z : acts.ActResult). z.phase) m_is ∙ sym a.phase in
    let none = plain s w (stamp_next e words) p (found words.records.items (target p)) still in
    subst (λ (z : Core). Acted core z w p p' words' e told) (sym (micro_parts s core w)) (record {
      at = record {
        recs = ap (λ (z : Phase). set core.recs (target z) m.rec) at.phase ∙ ap (λ (rs : List Rec). set rs (target p) m.rec) at.recs ∙ ap (λ (z : acts.ActResult). set words.records.items (target p) z.rec) m_is ∙ sym a.recs;
        next = ap (λ n. next_after n m.effect) at.next ∙ ap (next_after (stamp_next e words)) ev ∙ sym a.next;
        there = subst (λ n. w < n) (sym (length-set core.workers w m.phase)) at.there;
        phase = get_or-set_same core.workers w m.phase (Rest 0) at.there ∙ ph;
      };
      workers = ap (set core.workers w) ph;
      decided = none_won core.decided m.effect (ap won ev ∙ none.0);
      ended = none_over core.ended m.effect (ap over ev ∙ none.2);
      made = none_made core.made m.effect (ap won ev ∙ none.0);
      refusal = lost_in (act_in s w e p words).effect;
      refusals = lost_added core.refusals m.effect ∙ ap (λ z. option_to_list (lost_in z) ++ core.refusals) ev;
      told = a.refused ∙ lost_told (act_in s w e p words).effect;
      of = none.1;
    })

-- the stamp of an item that is won
abbrev pub stamps_added : Option CoreItem → List (ℕ × ℕ)
stamps_added None = []
stamps_added (Some x) = (x.worker, x.stamp) ∷ []

-- a passing phase is passed
pub record Settled (core core' : Core) (w : ℕ) (p' : Phase) (o v : Option CoreItem) (recs : List Rec) (n : ℕ) : Type 0 where
  pub at : At core' w p' recs n
  pub workers : core'.workers ≡ set core.workers w p'
  pub decided : core'.decided ≡ with_item o core.decided
  pub ended : core'.ended ≡ option_to_list v ++ core.ended
  pub made : core'.made ≡ stamps_added o ++ core.made
  pub refusals : core'.refusals ≡ core.refusals

module _ (s : Setting) (core : Core) (w : ℕ) (recs : List Rec) (n : ℕ) where
  -- an act that looks at no record
  idle_act : (p p' : Phase) (e : Effect) → At core w p recs n → ((x : Rec) (k : ℕ) → act_result s w k p x ≡ record { phase = p'; rec = x; effect = e }) → ((k : ℕ) → next_after k e ≡ k) → (o : Option CoreItem) → ((xs : List CoreItem) → decided_after xs e ≡ with_item o xs)
      → ((xs : List acts.CoreRefusal) → refusals_after xs e ≡ xs) → ((xs : List (ℕ × ℕ)) → made_after xs e ≡ stamps_added o ++ xs)
      → (v : Option CoreItem) → ((xs : List CoreItem) → ended_after xs e ≡ option_to_list v ++ xs) → Settled core (micro s core w) w p' o v recs n
  idle_act p p' e at is same o adds none makes v ends =
      let found_rec : Rec = get_or core.recs (target (acts.phase_of core w)) no_rec in
      let m : acts.ActResult = act_result s w core.next (acts.phase_of core w) found_rec in
      let m_is : m ≡ record { phase = p'; rec = found_rec; effect = e } = ap (λ (z : Phase). act_result s w core.next z found_rec) at.phase ∙ is found_rec core.next in
      let ev : m.effect ≡ e = ap (λ (z : acts.ActResult). z.effect) m_is in
      let ph : m.phase ≡ p' = ap (λ (z : acts.ActResult). z.phase) m_is in
      subst (λ (z : Core). Settled core z w p' o v recs n) (sym (micro_parts s core w)) (record {
        at = record {
          recs = ap (λ (z : acts.ActResult). set core.recs (target (acts.phase_of core w)) z.rec) m_is ∙ set-get_or core.recs (target (acts.phase_of core w)) no_rec ∙ at.recs;
          next = ap (next_after core.next) ev ∙ same core.next ∙ at.next;
          there = subst (λ k. w < k) (sym (length-set core.workers w m.phase)) at.there;
          phase = get_or-set_same core.workers w m.phase (Rest 0) at.there ∙ ph;
        };
        workers = ap (set core.workers w) ph;
        decided = ap (decided_after core.decided) ev ∙ adds core.decided;
        ended = ap (ended_after core.ended) ev ∙ ends core.ended;
        refusals = ap (refusals_after core.refusals) ev ∙ none core.refusals;
        made = ap (made_after core.made) ev ∙ makes core.made;
      })

  stays : (p : Phase) → At core w p recs n → passing p ≡ false → Settled core (settle s core w) w p None None recs n
  stays p at still =
      let no : passing (acts.phase_of core w) ≡ false = ap passing at.phase ∙ still in
      let same : settle s core w ≡ core = ap (λ b. if b then micro s core w else core) no in
      subst (λ (z : Core). Settled core z w p None None recs n) (sym same) (record {
        at = at;
        workers = sym (ap (set core.workers w) (sym at.phase) ∙ set-get_or core.workers w (Rest 0));
        decided = refl;
        ended = refl;
        refusals = refl;
        made = refl;
      })

  goes : (p p' : Phase) (o v : Option CoreItem) → At core w p recs n → passing p ≡ true → Settled core (micro s core w) w p' o v recs n → Settled core (settle s core w) w p' o v recs n
  goes p p' o v at passes done =
      let yes : passing (acts.phase_of core w) ≡ true = ap passing at.phase ∙ passes in
      let same : settle s core w ≡ micro s core w = ap (λ b. if b then micro s core w else core) yes in
      subst (λ (z : Core). Settled core z w p' o v recs n) (sym same) done

  pub settled : (p : Phase) → At core w p recs n → Settled core (settle s core w) w (passed s w p) (wins w p) (ends p) recs n
  settled (Rest q) at = stays (Rest q) at refl
  settled (Asking q reads) at = goes (Asking q reads) (asked q reads (s.ask w q reads)) None None at refl (idle_act (Asking q reads) _ Quiet at (λ x k. refl) (λ k. refl) None (λ xs. refl) (λ xs. refl) (λ xs. refl) None (λ xs. refl))
  settled (Wanting q reads r) at = stays (Wanting q reads r) at refl
  settled (Loading q reads r seen loaded) at = stays (Loading q reads r seen loaded) at refl
  settled (Locking q reads answer l todo) at = stays (Locking q reads answer l todo) at refl
  settled (Validating q t done [] answer writes) at =
      let item : CoreItem = record { stamp = t; worker = w; index = q; answer = answer; writes = writes } in
      goes (Validating q t done [] answer writes) (Storing item 0 writes) (Some item) None at refl (idle_act (Validating q t done [] answer writes) _ (Won item) at (λ x k. refl) (λ k. refl) (Some item) (λ xs. refl) (λ xs. refl) (λ xs. refl) None (λ xs. refl))
  settled (Validating q t done (y ∷ todo) answer writes) at = stays (Validating q t done (y ∷ todo) answer writes) at refl
  settled (Storing item j []) at = goes (Storing item j []) (Rest (suc item.index)) None (Some item) at refl (idle_act (Storing item j []) _ (Ended item) at (λ x k. refl) (λ k. refl) None (λ xs. refl) (λ xs. refl) (λ xs. refl) (Some item) (λ xs. refl))
  settled (Storing item j (y ∷ todo)) at = stays (Storing item j (y ∷ todo)) at refl
  settled (Refusing q []) at = goes (Refusing q []) (Rest q) None None at refl (idle_act (Refusing q []) _ Quiet at (λ x k. refl) (λ k. refl) None (λ xs. refl) (λ xs. refl) (λ xs. refl) None (λ xs. refl))
  settled (Refusing q (y ∷ todo)) at = stays (Refusing q (y ∷ todo)) at refl

-- a worker at rest begins its request
pub begun : (s : Setting) (core : Core) (w : ℕ) (recs : List Rec) (n q : ℕ) → At core w (Rest q) recs n → Settled core (acts.begin s core w) w (asked q [] (s.ask w q [])) None None recs n
begun s core w recs n q at =
    let rests : resting (acts.phase_of core w) ≡ true = ap resting at.phase in
    let same : acts.begin s core w ≡ micro s (micro s core w) w = ap (λ b. if b then micro s (micro s core w) w else core) rests in
    let a = idle_act s core w recs n (Rest q) (Asking q []) Quiet at (λ x k. refl) (λ k. refl) None (λ xs. refl) (λ xs. refl) (λ xs. refl) None (λ xs. refl) in
    let b = idle_act s (micro s core w) w recs n (Asking q []) (asked q [] (s.ask w q [])) Quiet a.at (λ x k. refl) (λ k. refl) None (λ xs. refl) (λ xs. refl) (λ xs. refl) None (λ xs. refl) in
    subst (λ (z : Core). Settled core z w (asked q [] (s.ask w q [])) None None recs n) (sym same) (record {
      at = b.at;
      workers = b.workers ∙ ap (λ ws. set ws w (asked q [] (s.ask w q []))) a.workers ∙ set-set core.workers w (Asking q []) (asked q [] (s.ask w q []));
      decided = b.decided ∙ a.decided;
      ended = b.ended ∙ a.ended;
      refusals = b.refusals ∙ a.refusals;
      made = b.made ∙ a.made;
    })
