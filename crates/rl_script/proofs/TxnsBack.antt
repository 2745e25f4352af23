-- The lines of the transactions are read as the requests again.
use Rattle.std.proofs.Common.{◌≡◌, ℕ, ◌+◌, ◌-◌, ◌<◌, ◌≤◌, ◌==◌, ◌&&◌, not, true, false, List, [], ◌∷◌, ◌++◌, All, length, map, replicate, sum_by, Option, None, Some, is_some, Ok, Err, codes, suc, refl, ap, sym, ◌∙◌, arith, append-nil, length-append, if◌then◌else◌}
use Rattle.std.specs.Fmt.{decimal}
use Rattle.std.specs.List.{flat_map}
use Rattle.std.proofs.lemmas.Bool.Decides.{nat_tests}
use Rattle.std.proofs.lemmas.List.{append_assoc}
use Rattle.std.proofs.lemmas.List.Elements.{All-head, All-tail}
use Rattle.std.proofs.lemmas.List.Sums.{sum_by-append, sum_by-cons}
use Rattle.rl_base.specs.Lists.{with_last}
use Rattle.rl_base.specs.declared.limit.LimitName.TheVariants as limits
use Rattle.rl_base.specs.Results.{◌>>=◌}
use Rattle.rl_value.specs.Tables.{IsSchema}
use Rattle.rl_txn.specs.Fits.{OpFits, TxnFits}
use Rattle.rl_txn.specs.declared.op.Op.{Op}
use Rattle.rl_text.specs.Printed.{Line}
use Rattle.rl_events.proofs.ReadBack.{within_back}
use Rattle.rl_script.specs.declared.draft.Draft.{Draft}
use Rattle.rl_script.specs.declared.draft.OpenTxn.{OpenTxn}
use Rattle.rl_script.specs.declared.draft.Section.{Section}
use Rattle.rl_script.specs.declared.draft.Section.TheVariants as section
use Rattle.rl_script.specs.declared.fault.Problem.TheVariants.{Limit}
use Rattle.rl_script.specs.declared.line.LineKind.TheVariants as line
use Rattle.rl_script.specs.Problems.{as_problem}
use Rattle.rl_script.specs.Sections.{is_events}
use Rattle.rl_script.specs.Printed.{list_lines, op_words, txn_lines}
use Rattle.rl_script.specs.Read.{txn_ended, in_order, read_kind, with_op}
use Rattle.rl_script.proofs.FitsLemmas.{sum-with_last}
use Rattle.rl_script.proofs.LinesBack.{reads, kind_line, more_lines, no_lines, one_line}
use Rattle.rl_script.proofs.OpsBack.{op_line_back}

-- a transaction that is open with some ops
abbrev opened : ℕ → List Op → Option OpenTxn
opened worker txn = Some (record { worker = worker; txn = txn })

op_joins : (draft : Draft) (worker : ℕ) (txn : List Op) (op : Op) → draft.current ≡ opened worker txn → length txn < 64 → with_op draft op ≡ Ok (record draft { current = opened worker (txn ++ op ∷ []) })
op_joins draft worker txn op is few =
    let room : (length txn == 64) ≡ false = grind (arith, nat_tests) in
    ap (λ (o : Option OpenTxn). with_op (record draft { current = o }) op) is
    ∙ ap (λ b. if b then Err (Limit limits.Ops 64) else Ok (record draft { current = opened worker (txn ++ op ∷ []) })) room

ops_back : (draft : Draft) (worker : ℕ) (txn ops : List Op) → IsSchema draft.schema → draft.current ≡ opened worker txn → All (OpFits draft.schema) ops → length txn + length ops ≤ 64
    → reads draft (map (op_words draft.schema) ops) ≡ Ok (record draft { current = opened worker (txn ++ ops) })
ops_back draft worker txn [] ok is all few = no_lines draft ∙ ap (λ (o : Option OpenTxn). Ok (record draft { current = o })) (is ∙ ap (opened worker) (sym (append-nil txn)))
ops_back draft worker txn (op ∷ ops) ok is all few =
    let next : Draft = record draft { current = opened worker (txn ++ op ∷ []) } in
    one_line draft next (op_words draft.schema op) (map (op_words draft.schema) ops)
    (op_line_back draft op ok (All-head (OpFits draft.schema) op ops all) (ap is_some is) ∙ op_joins draft worker txn op is (omega arith))
    ∙ ops_back next worker (txn ++ op ∷ []) ops ok refl (All-tail (OpFits draft.schema) op ops all) (omega (arith, length-append txn (op ∷ [])))
    ∙ ap (λ ops. Ok (record draft { current = opened worker ops })) (append_assoc txn (op ∷ []) ops)

-- the draft after one more request of a worker
abbrev requested : Draft → ℕ → List Op → Draft
requested draft worker txn = record draft { section = section.Transactions; lists = with_last draft.lists (worker - 1) txn }

begun_back : (draft : Draft) (worker : ℕ) → 1 ≤ worker → worker ≤ length draft.lists → length draft.lists ≤ 16 → sum_by (λ l. length l) draft.lists < 8192
    → read_kind draft line.Txn (decimal worker ∷ []) ≡ Ok (record draft { section = section.Transactions; current = opened worker [] })
begun_back draft worker some there few room =
    let more : (sum_by (λ l. length l) draft.lists == 8192) ≡ false = grind (arith, nat_tests) in
    ap (λ r. as_problem r >>= λ worker. if sum_by (λ l. length l) draft.lists == 8192 then Err (Limit limits.Requests 8192) else Ok (record draft { section = section.Transactions; current = opened worker [] })) (within_back 1 (length draft.lists) worker some there (omega arith))
    ∙ ap (λ b. if b then Err (Limit limits.Requests 8192) else Ok (record draft { section = section.Transactions; current = opened worker [] })) more

txn_back : (draft : Draft) (worker : ℕ) (txn : List Op) → IsSchema draft.schema → draft.current ≡ None → is_events draft.section ≡ false → TxnFits draft.schema txn → 1 ≤ worker → worker ≤ length draft.lists → length draft.lists ≤ 16 → sum_by (λ l. length l) draft.lists < 8192
    → reads draft (txn_lines draft.schema worker txn) ≡ Ok (requested draft worker txn)
txn_back draft worker txn ok none early fits some there few room =
    let first : Draft = record draft { section = section.Transactions; current = opened worker [] } in
    let then_all : Draft = record first { current = opened worker txn } in
    let order : in_order draft line.Txn ≡ true = ap (λ (o : Option OpenTxn). not (is_some o) && not (is_events draft.section)) none ∙ ap not early in
    one_line draft first (codes "txn" ∷ decimal worker ∷ []) (map (op_words draft.schema) txn ++ (codes "end" ∷ []) ∷ [])
    (kind_line draft (codes "txn") (decimal worker ∷ []) line.Txn refl refl order ∙ begun_back draft worker some there few room)
    ∙ more_lines first then_all (map (op_words draft.schema) txn) ((codes "end" ∷ []) ∷ []) (ops_back first worker [] txn ok refl fits.each (omega (arith, fits.few)))
    ∙ one_line then_all (txn_ended then_all) (codes "end" ∷ []) [] (kind_line then_all (codes "end") [] line.End refl refl refl)
    ∙ no_lines (txn_ended then_all)
    ∙ ap (λ (o : Option OpenTxn). Ok (record draft { section = section.Transactions; lists = with_last draft.lists (worker - 1) txn; current = o })) (sym none)

with_last_at : {X : Type 0} (front back : List (List X)) (list : List X) (x : X) → with_last (front ++ list ∷ back) (length front) x ≡ front ++ (list ++ x ∷ []) ∷ back
with_last_at [] back list x = refl
with_last_at (l ∷ front) back list x = ap (λ ls. l ∷ ls) (with_last_at front back list x)

-- what some transactions are read as: these lists
pub record TxnsRead (draft : Draft) (lines : List Line) (lists : List (List (List Op))) : Type 0 where
  pub at : Section
  pub early : is_events at ≡ false
  pub is : reads draft lines ≡ Ok (record draft { section = at; lists = lists })

-- what the draft keeps that reads transactions
pub record TxnsFor (draft : Draft) : Type 0 where
  pub schema : IsSchema draft.schema
  pub none : draft.current ≡ None
  pub early : is_events draft.section ≡ false
  pub few : length draft.lists ≤ 16

list_back : (draft : Draft) (worker : ℕ) (front back : List (List (List Op))) (done list : List (List Op)) → TxnsFor draft → worker ≡ length front + 1 → draft.lists ≡ front ++ done ∷ back → All (TxnFits draft.schema) list → sum_by (λ l. length l) draft.lists + length list ≤ 8192
    → TxnsRead draft (flat_map (txn_lines draft.schema worker) list) (front ++ (done ++ list) ∷ back)
list_back draft worker front back done [] for_it nth is all room = record {
  at = draft.section;
  early = for_it.early;
  is = no_lines draft ∙ ap (λ lists. Ok (record draft { lists = lists })) (is ∙ ap (λ l. front ++ l ∷ back) (sym (append-nil done)));
}
list_back draft worker front back done (txn ∷ list) for_it nth is all room =
    let next : Draft = requested draft worker txn in
    let index : worker - 1 ≡ length front = omega arith in
    let lists : next.lists ≡ front ++ (done ++ txn ∷ []) ∷ back = (λ i. with_last (is i) (index i) txn) ∙ with_last_at front back done txn in
    let length_is : length draft.lists ≡ length front + suc (length back) = ap length is ∙ length-append front (done ∷ back) in
    let length_next : length next.lists ≡ length front + suc (length back) = ap length lists ∙ length-append front ((done ++ txn ∷ []) ∷ back) in
    let one_more : sum_by (λ l. length l) next.lists ≡ sum_by (λ l. length l) draft.lists + 1 = sum-with_last draft.lists (worker - 1) txn (omega arith) in
    let for_next : TxnsFor next = record { schema = for_it.schema; none = for_it.none; early = refl; few = omega (arith, for_it.few) } in
    let rest = list_back next worker front back (done ++ txn ∷ []) list for_next nth lists (All-tail (TxnFits draft.schema) txn list all) (omega arith) in
    let one = txn_back draft worker txn for_it.schema for_it.none for_it.early (All-head (TxnFits draft.schema) txn list all) (omega arith) (omega arith) for_it.few (omega arith) in
    record {
      at = rest.at;
      early = rest.early;
      is = more_lines draft next (txn_lines draft.schema worker txn) (flat_map (txn_lines draft.schema worker) list) one
          ∙ rest.is ∙ ap (λ l. Ok (record draft { section = rest.at; lists = front ++ l ∷ back })) (append_assoc done (txn ∷ []) list);
    }

sum_after : (front back : List (List (List Op))) (list : List (List Op)) → sum_by (λ l. length l) (front ++ list ∷ back) ≡ sum_by (λ l. length l) (front ++ [] ∷ back) + length list
sum_after front back list = omega (arith, sum_by-append (λ l. length l) front (list ∷ back), sum_by-append (λ l. length l) front ([] ∷ back), sum_by-cons (λ l. length l) list back, sum_by-cons (λ (l : List (List Op)). length l) [] back)

pub lists_back : (draft : Draft) (worker : ℕ) (front lists : List (List (List Op))) → TxnsFor draft → worker ≡ length front + 1 → draft.lists ≡ front ++ replicate (length lists) [] → All (All (TxnFits draft.schema)) lists → sum_by (λ l. length l) draft.lists + sum_by (λ l. length l) lists ≤ 8192
    → TxnsRead draft (list_lines draft.schema worker lists) (front ++ lists)
lists_back draft worker front [] for_it nth is all room = record {
  at = draft.section;
  early = for_it.early;
  is = no_lines draft ∙ ap (λ lists. Ok (record draft { lists = lists })) is;
}
lists_back draft worker front (list ∷ lists) for_it nth is all room =
    let sum : sum_by (λ l. length l) (list ∷ lists) ≡ length list + sum_by (λ l. length l) lists = sum_by-cons (λ l. length l) list lists in
    let back : List (List (List Op)) = replicate (length lists) [] in
    let first = list_back draft worker front back [] list for_it nth is (All-head (All (TxnFits draft.schema)) list lists all) (omega arith) in
    let next : Draft = record draft { section = first.at; lists = front ++ list ∷ back } in
    let length_is : length draft.lists ≡ length next.lists = ap length is ∙ length-append front (replicate (suc (length lists)) []) ∙ sym (length-append front (list ∷ back)) in
    let counted : sum_by (λ l. length l) next.lists ≡ sum_by (λ l. length l) draft.lists + length list = sum_after front back list ∙ ap (λ n. n + length list) (ap (sum_by (λ l. length l)) (sym is)) in
    let for_next : TxnsFor next = record { schema = for_it.schema; none = for_it.none; early = first.early; few = omega (arith, for_it.few) } in
    let rest = lists_back next (worker + 1) (front ++ list ∷ []) lists for_next (omega (arith, length-append front (list ∷ []))) (sym (append_assoc front (list ∷ []) back)) (All-tail (All (TxnFits draft.schema)) list lists all) (omega arith) in
    record {
      at = rest.at;
      early = rest.early;
      is = more_lines draft next (flat_map (txn_lines draft.schema worker) list) (list_lines draft.schema (worker + 1) lists) first.is
          ∙ rest.is ∙ ap (λ lists. Ok (record draft { section = rest.at; lists = lists })) (append_assoc front (list ∷ []) lists);
    }
