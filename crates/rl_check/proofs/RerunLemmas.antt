-- One more request that is run again.
use Rattle.std.proofs.Common.{◌≡◌, ℕ, zero, suc, ◌+◌, ◌-◌, ◌<◌, ◌≤◌, List, [], ◌∷◌, ◌++◌, length, map, replicate, set, slice_get, slice_index, take, get_or, All, Option, Some, None, refl, sym, ap, subst, ◌∙◌, arith}
use Rattle.std.specs.Option.{option_and_then}
use Rattle.std.proofs.lemmas.List.Elements.{All-nil, All-cons, All-append}
use Rattle.std.proofs.lemmas.List.{map-append, take_more}
use Rattle.std.proofs.lemmas.Option.{slice_get_within}
use Rattle.rl_base.specs.Stamps.{packed}
use Rattle.rl_value.specs.Tables.{Table}
use Rattle.rl_txn.specs.Fits.{TxnFits, ListsFit}
use Rattle.rl_txn.specs.Run.{run}
use Rattle.rl_txn.specs.Serial.{after_writes, numbered, request, indexes_of}
use Rattle.rl_txn.specs.declared.item.Item.{Item}
use Rattle.rl_txn.specs.declared.op.Op.{Op}
use Rattle.rl_txn.proofs.Answers.{all_numbered}
use Rattle.rl_txn.proofs.Folds.{rows_after-append}
use Rattle.rl_txn.proofs.SerialLemmas.{runs_push}
use Rattle.rl_script.specs.declared.script.Script.{Script}
use Rattle.rl_report.specs.Lines.{item_line}
use Rattle.rl_report.specs.declared.line.ItemLine.{ItemLine}
use Rattle.rl_check.specs.declared.rerun.Rerun.{Rerun}
use Rattle.rl_check.specs.Counts.{IsGreatest, CountsItems}
use Rattle.rl_check.specs.Reruns.{HasRun, IsNextIn}
use Rattle.rl_check.specs.Right.{MayGive}
use Rattle.rl_check.specs.Verdicts.{MayFollow, IsNextOf}
use Rattle.rl_check.proofs.ItemLemmas.{in_lists_more, rising_more, greatest_none, greatest_more, counts_none, counts_more}

abbrev pub Requests : Type 0
Requests = List (List (List Op))

-- nothing was run yet
pub begun : (script : Script) (rerun : Rerun) → rerun.rows ≡ script.rows → rerun.last ≡ 0 → rerun.counts.items ≡ replicate (length script.lists) 0 → HasRun script [] rerun
begun script rerun rows last counts = record {
  decided = record {
    serial = record { rising = λ k l. absurd (omega (arith, l)); runs = tt };
    in_lists = λ w. refl;
    stamps = All-nil (λ (item : Item). MayGive script.stops item.stamp);
  };
  rows = rows;
  last = subst (IsGreatest []) (sym last) greatest_none;
  counts = subst (CountsItems (length script.lists) []) (sym counts) (counts_none (length script.lists));
}

-- ---- requests ----

some_list : (lists : Requests) (o : Option (List (List Op))) (i : ℕ) (txn : List Op) → option_and_then (λ list. numbered list i) o ≡ Some txn → (list : List (List Op)) × (o ≡ Some list) × (numbered list i ≡ Some txn)
some_list lists (Some list) i txn is = (list, refl, is)
some_list lists None i txn is = cc

-- the list of a request
pub list_of : (lists : Requests) (w i : ℕ) (txn : List Op) → request lists w i ≡ Some txn → (list : List (List Op)) × (numbered lists w ≡ Some list) × (numbered list i ≡ Some txn)
list_of lists w i txn is = some_list lists (numbered lists w) i txn is

-- a number of an element that is there
pub number_within : {X : Type 0} → (xs : List X) (n : ℕ) (x : X) → numbered xs n ≡ Some x → (1 ≤ n) × (n ≤ length xs) × (slice_get xs (n - 1) ≡ Some x)
number_within xs zero x is = cc
number_within xs (suc n) x is =
    let within = slice_get_within xs n x is in
    let at : suc n - 1 ≡ n = omega arith in
    (omega arith, omega arith, ap (slice_get xs) at ∙ is)

-- and back
pub number_at : {X : Type 0} → (xs : List X) (n : ℕ) (x : X) → 1 ≤ n → slice_get xs (n - 1) ≡ Some x → numbered xs n ≡ Some x
number_at xs zero x some is = absurd (omega (arith, some))
number_at xs (suc n) x some is = let at : suc n - 1 ≡ n = omega arith in ap (slice_get xs) (sym at) ∙ is

pub worker_within : (lists : Requests) (w i : ℕ) (txn : List Op) → request lists w i ≡ Some txn → (1 ≤ w) × (w ≤ length lists)
worker_within lists w i txn is =
    let l = list_of lists w i txn is in
    let n = number_within lists w l.0 l.1 in
    (n.0, n.1)

-- a request that is there fits
pub request_fits : (tables : List Table) (lists : Requests) (w i : ℕ) (txn : List Op) → ListsFit tables lists → request lists w i ≡ Some txn → TxnFits tables txn
request_fits tables lists w i txn fits is =
    let l = list_of lists w i txn is in
    all_numbered (TxnFits tables) l.0 i txn l.2 (all_numbered (All (TxnFits tables)) lists w l.0 l.1 fits.each)

module _ (script : Script) (items : List Item) (counts : List ℕ) (counted : CountsItems (length script.lists) items counts) where
  count_of : (w i : ℕ) (txn : List Op) → request script.lists w i ≡ Some txn → slice_index counts (w - 1) ≡ length (indexes_of w items)
  count_of w i txn is =
      let n = worker_within script.lists w i txn is in
      let back : w - 1 + 1 ≡ w = omega (arith, n.0) in
      counted.each (w - 1) (omega (arith, n.0, n.1)) ∙ ap (λ v. length (indexes_of v items)) back

  -- the next request by the counts is the next one of its list
  pub next_of : (x : ItemLine) (txn : List Op) → IsNextIn script.lists counts x txn → IsNextOf script items x txn
  next_of x txn is = record { request = is.request; next = is.next ∙ ap (λ n. n + 1) (count_of x.worker x.index txn is.request) }

  pub next_in : (x : ItemLine) (txn : List Op) → IsNextOf script items x txn → IsNextIn script.lists counts x txn
  next_in x txn is = record { request = is.request; next = is.next ∙ ap (λ n. n + 1) (sym (count_of x.worker x.index txn is.request)) }

-- one more item was run again
pub ran_more : (script : Script) (items : List Item) (rerun new : Rerun) (item : Item) (txn : List Op) → HasRun script items rerun → MayFollow script.stops items item.stamp → IsNextOf script items (item_line item) txn
    → (item.reply, item.writes) ≡ run script.schema txn rerun.rows → new.rows ≡ after_writes rerun.rows item.writes → new.last ≡ packed item.stamp
    → new.counts.items ≡ set rerun.counts.items (item.worker - 1) item.index → HasRun script (items ++ item ∷ []) new
ran_more script items rerun new item txn is follows next ran rows last counts =
    let within = worker_within script.lists item.worker item.index txn next.request in
    let decided = is.decided in
    record {
      decided = record {
        serial = record {
          rising = rising_more items item decided.serial.rising follows.above;
          runs = runs_push script.schema script.lists script.rows items item txn decided.serial.runs next.request (ap (run script.schema txn) (sym is.rows) ∙ sym ran);
        };
        in_lists = in_lists_more items item decided.in_lists next.next;
        stamps = All-append (λ (i : Item). MayGive script.stops i.stamp) items (item ∷ []) decided.stamps
            (All-cons (λ (i : Item). MayGive script.stops i.stamp) item [] follows.given (All-nil (λ (i : Item). MayGive script.stops i.stamp)));
      };
      rows = rows ∙ ap (λ r. after_writes r item.writes) is.rows ∙ sym (rows_after-append script.rows items (item ∷ []));
      last = subst (IsGreatest (items ++ item ∷ [])) (sym last) (greatest_more items item follows.above);
      counts = subst (CountsItems (length script.lists) (items ++ item ∷ [])) (sym counts) (counts_more (length script.lists) items rerun.counts.items item is.counts within.0 within.1 next.next);
    }

-- the lines up to one more
pub lines_more : (lines : List ItemLine) (i : ℕ) (items : List Item) (item : Item) (x : ItemLine) → i < length lines → x ≡ get_or lines i x → take i lines ≡ map item_line items → x ≡ item_line item
    → take (i + 1) lines ≡ map item_line (items ++ item ∷ [])
lines_more lines i items item x within at before of_item =
    take_more lines i x within ∙ ap (λ xs. xs ++ get_or lines i x ∷ []) before ∙ ap (λ y. map item_line items ++ y ∷ []) (sym at ∙ of_item) ∙ sym (map-append item_line items (item ∷ []))
