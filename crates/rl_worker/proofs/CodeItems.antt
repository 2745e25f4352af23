-- A step told by the code's item, and then by the core's.
use Rattle.std.proofs.Common.{◌≡◌, ℕ, suc, ◌+◌, ◌-◌, ◌*◌, ◌^◌, List, [], ◌∷◌, ◌++◌, map, set, Bool, true, false, nat_lt, is_some, if◌then◌else◌, Option, Some, None, IfSome, option_to_list, refl, sym, ap, ◌∙◌, subst, arith}
use Rattle.std.specs.List.{Contains}
use Rattle.std.specs.Option.{option_map}
use Rattle.rl_base.specs.Stamps.{packed}
use Rattle.rl_value.specs.Tables.{Table}
use Rattle.rl_txn.specs.declared.item.Item as txn
use Rattle.rl_worker.specs.declared.act.Moved as code
use Rattle.rl_worker.specs.declared.words.Words.{Words}
use Rattle.rl_worker.specs.declared.worker.Worker.{Worker}
use Rattle.rl_worker.specs.Items.{CoreItem, insert_by_stamp}
use Rattle.rl_worker.specs.Acts.{CoreRefusal, Core}
use Rattle.rl_worker.specs.Opening.{item_seen, items_seen}
use Rattle.rl_worker.specs.Told.{refused}
use Rattle.rl_worker.specs.Workers.{core_item, phase_of_worker, number_of, epoch_of, next_of, decided_item, Stands, either, newly_decided, with_item, stamp_made, IsItemOf, Steps}

-- an item of the worker's epoch and request
abbrev pub IsOf : Worker → txn.Item → Type 0
IsOf w x = (x.stamp.epoch ≡ w.epoch) × (x.worker ≡ w.number) × (x.index ≡ w.index)

-- a worker made an item under a stamp
abbrev pub stamp_by : txn.Item → ℕ × ℕ
stamp_by x = (x.worker, packed x.stamp)

-- a step of the core, of which the item is that of the code
pub record CodeSteps (tables : List Table) (old new : Worker) (words : Words) (told : code.Moved) (core core' : Core) : Type 0 where
  pub stands : Stands tables new words core'
  pub number : number_of new ≡ number_of old
  pub epoch : epoch_of new ≡ epoch_of old
  pub others : core'.workers ≡ set core.workers (number_of old) (phase_of_worker tables new)
  pub decided : core'.decided ≡ with_item (option_map (core_item tables) (newly_decided old new told)) core.decided
  pub kept : IfSome (decided_item old) (λ x. either told.ended (decided_item new) ≡ Some x)
  pub refusal : Option CoreRefusal
  pub refusals : core'.refusals ≡ option_to_list refusal ++ core.refusals
  pub refused : told.refused ≡ option_map refused refusal
  pub of : IfSome refusal (λ f. (f.worker ≡ number_of old) × (f.index ≡ next_of old))
  pub stamped : IfSome (newly_decided old new told) (IsOf old)
  pub made : core'.made ≡ option_to_list (option_map stamp_by (newly_decided old new told)) ++ core.made
  pub ended : IfSome told.ended (λ x. decided_item new ≡ None)
  pub core_ended : core'.ended ≡ option_to_list (option_map (core_item tables) told.ended) ++ core.ended
  pub ended_of : IfSome told.ended (IsOf old)
  pub index : next_of new ≡ next_of old + (if is_some told.ended then 1 else 0)

-- an item that joins is there
contains_new : {A : Type 0} (f : CoreItem → A) (x : CoreItem) (xs : List CoreItem) → Contains (map f (insert_by_stamp x xs)) (f x)
contains_new f x [] = (0, omega arith, refl)
contains_new f x (y ∷ ys) = go (nat_lt x.stamp y.stamp) (contains_new f x ys)
  where
    go : (b : Bool) → Contains (map f (insert_by_stamp x ys)) (f x) → Contains (map f (if b then x ∷ y ∷ ys else y ∷ insert_by_stamp x ys)) (f x)
    go true h = (0, omega arith, refl)
    go false h = (suc h.0, omega (arith, h.1), h.2)

-- an item of the worker's epoch is seen as it was
pub seen_again : (tables : List Table) (w : Worker) (x : txn.Item) → IsOf w x → item_seen (epoch_of w) (core_item tables x) ≡ x
seen_again tables w x h =
    let seq : packed x.stamp - w.epoch * 2 ^ 40 ≡ x.stamp.seq = omega (arith, ap (λ e. e * 2 ^ 40) h.0) in
    λ i. record { stamp = record { epoch = sym h.0 i; seq = seq i }; worker = x.worker; index = x.index; reply = x.reply; writes = x.writes }

seen_if : (tables : List Table) (w : Worker) (o : Option txn.Item) → IfSome o (IsOf w) → o ≡ option_map (item_seen (epoch_of w)) (option_map (core_item tables) o)
seen_if tables w None h = refl
seen_if tables w (Some x) h = ap Some (sym (seen_again tables w x h))

of_if : (tables : List Table) (w : Worker) (o : Option txn.Item) → IfSome o (IsOf w) → IfSome (option_map (core_item tables) o) (IsItemOf tables w)
of_if tables w None h = tt
of_if tables w (Some x) h = record { worker = h.1; index = h.2; epoch = omega (arith, ap (λ e. e * 2 ^ 40) h.0); writes = refl }

made_if : (tables : List Table) (o : Option txn.Item) → option_to_list (option_map stamp_by o) ≡ option_to_list (option_map stamp_made (option_map (core_item tables) o))
made_if tables None = refl
made_if tables (Some x) = refl

-- an open decided item is one of the core's
module _ (tables : List Table) (old new : Worker) (told : code.Moved) (core core' : Core) (epoch : epoch_of new ≡ epoch_of old)
    (decided : core'.decided ≡ with_item (option_map (core_item tables) (newly_decided old new told)) core.decided) (stamped : IfSome (newly_decided old new told) (IsOf old)) where
  has_decided : (was now end : Option txn.Item) → decided_item old ≡ was → decided_item new ≡ now → told.ended ≡ end → IfSome was (λ x. either end now ≡ Some x) → IfSome end (λ x. now ≡ None)
      → IfSome was (Contains (items_seen (epoch_of old) core.decided)) → IfSome now (Contains (items_seen (epoch_of new) core'.decided))
  has_decided was None end a b c kept ended h = tt
  has_decided was (Some y) (Some x) a b c kept ended h = absurd (cc)
  has_decided (Some x) (Some y) None a b c kept ended h =
      let none : newly_decided old new told ≡ None = ap (λ o. if is_some o then None else either told.ended (decided_item new)) a in
      let same : x ≡ y = cc in
      let list : core'.decided ≡ core.decided = decided ∙ ap (λ o. with_item (option_map (core_item tables) o) core.decided) none in
      subst (λ z. Contains (items_seen (epoch_of new) core'.decided) z) same (subst (λ xs. Contains (items_seen (epoch_of new) xs) x) (sym list) (subst (λ e. Contains (items_seen e core.decided) x) (sym epoch) h))
  has_decided None (Some y) None a b c kept ended h =
      let newly : newly_decided old new told ≡ Some y = ap (λ o. if is_some o then None else either told.ended (decided_item new)) a ∙ ap (λ o. either o (decided_item new)) c ∙ b in
      let is : IsOf old y = subst (λ o. IfSome o (IsOf old)) newly stamped in
      let list : core'.decided ≡ insert_by_stamp (core_item tables y) core.decided = decided ∙ ap (λ o. with_item (option_map (core_item tables) o) core.decided) newly in
      subst (λ e. Contains (items_seen e core'.decided) y) (sym epoch)
      (subst (λ xs. Contains (items_seen (epoch_of old) xs) y) (sym list)
      (subst (Contains (items_seen (epoch_of old) (insert_by_stamp (core_item tables y) core.decided))) (seen_again tables old y is) (contains_new (item_seen (epoch_of old)) (core_item tables y) core.decided)))

-- the core's item is what the code has, as it is seen
pub seen_steps : (tables : List Table) (old new : Worker) (words : Words) (told : code.Moved) (core core' : Core) → CodeSteps tables old new words told core core' → Steps tables old new words told core core'
seen_steps tables old new words told core core' t =
    let newly = newly_decided old new told in
    record {
      stands = t.stands;
      number = t.number;
      epoch = t.epoch;
      index = t.index;
      others = t.others;
      item = option_map (core_item tables) newly;
      decided = t.decided;
      made = t.made ∙ ap (λ z. z ++ core.made) (made_if tables newly);
      of_item = of_if tables old newly t.stamped;
      seen = seen_if tables old newly t.stamped;
      kept = t.kept;
      ended = t.ended;
      over = option_map (core_item tables) told.ended;
      core_ended = t.core_ended;
      ended_seen = seen_if tables old told.ended t.ended_of;
      has_decided = has_decided tables old new told core core' t.epoch t.decided t.stamped (decided_item old) (decided_item new) told.ended refl refl refl t.kept t.ended;
      refusal = t.refusal;
      refusals = t.refusals;
      of_refusal = t.of;
      refused = t.refused;
    }
