-- A generated script keeps the ranges and limits of the language.
use Rattle.std.proofs.Common.{◌≡◌, ℕ, zero, suc, ◌+◌, ◌%◌, ◌<◌, ◌≤◌, ◌^◌, ◌==◌, Bool, true, false, cond, List, [], ◌∷◌, None, All, refl, sym, subst, arith}
use Rattle.std.specs.List.{range_with_len}
use Rattle.std.proofs.lemmas.Bool.Decides.{nat_tests}
use Rattle.std.proofs.lemmas.List.Elements.{All-nil, All-cons, All-map}
use Rattle.std.proofs.lemmas.Nat.{mod_below}
use Rattle.rl_value.specs.Fits.{RowsFit}
use Rattle.rl_value.specs.Tables.{IsTable, IsSchema, HaveNamesOfTheirOwn}
use Rattle.rl_txn.specs.Fits.{OpFits, OperandFits, TxnFits, ListsFit}
use Rattle.rl_txn.specs.declared.op.Op.{Op}
use Rattle.rl_txn.specs.declared.op.Op.TheVariants as op
use Rattle.rl_txn.specs.declared.op.Operand.TheVariants.{Reg, Num}
use Rattle.rl_txn.specs.declared.op.Rel.TheVariants.{Ge}
use Rattle.rl_text.specs.Numbers.{IsNumber, IsWithin}
use Rattle.rl_script.specs.Fits.{ColumnsFit, ScriptFits}
use Rattle.rl_script.specs.declared.script.Script.{Script}
use Rattle.rl_gen.specs.Generated.{passed_limit, accounts, balances, generated}
use Rattle.rl_gen.specs.Requests.{other_account, transfer, request_of, list_of, lists_of}
use Rattle.rl_gen.proofs.Balances.{balance}
use Rattle.rl_gen.proofs.Dealt.{all_dealt, list_count}
use Rattle.rl_gen.proofs.EventsFit.{events_fit}

-- ---- the table and its rows ----

names : HaveNamesOfTheirOwn accounts
names zero within = refl
names (suc t) within = absurd (omega arith)

schema : IsSchema accounts
schema = record {
  names = names;
  few = omega arith;
  records = omega arith;
  each = All-cons IsTable (record { name = _; size = 64; columns = 1 }) [] (record { named = refl; some_keys = omega arith; few_keys = omega arith; some_columns = omega arith; few_columns = omega arith }) (All-nil IsTable);
}

rows : RowsFit accounts (balances 64)
rows t k row is = let there = balance 64 (t, k) row is in rw (there.table, there.is) (omega arith, omega (arith, there.below), refl)

columns : ColumnsFit (balances 64)
columns t k row is = let there = balance 64 (t, k) row is in subst (All IsNumber) (sym there.is) (All-cons IsNumber 1000 [] (omega arith) (All-nil IsNumber))

-- ---- the requests ----

other_below : (from to : ℕ) → to < 64 → other_account from to < 64
other_below from to small = go (from == to)
  where
    go : (b : Bool) → cond b ((to + 1) % 64) to < 64
    go true = mod_below (to + 1) 64 (omega arith)
    go false = small

transfer_fits : (from to much : ℕ) → from < 64 → to < 64 → much ≤ 9 → TxnFits accounts (transfer from to much)
unfolding transfer
transfer_fits from to much a b c =
    let Fits : Op → Type 0 = OpFits accounts in
    let one : (r : ℕ) → r < 16 → All OperandFits (Reg r ∷ []) = λ r few. All-cons OperandFits (Reg r) [] few (All-nil OperandFits) in
    let seven : List Op = op.Put 0 (Num to) (Reg 1 ∷ []) ∷ [] in
    let six : List Op = op.Add 1 (Reg 1) (Num much) ∷ seven in
    let five : List Op = op.Get 0 (Num to) 0 1 ∷ six in
    let four : List Op = op.Put 0 (Num from) (Reg 0 ∷ []) ∷ five in
    let three : List Op = op.Sub 0 (Reg 0) (Num much) ∷ four in
    let two : List Op = op.Need (Reg 0) Ge (Num much) ∷ three in
    record {
      each = All-cons Fits (op.Get 0 (Num from) 0 0) two (omega arith, omega arith, omega arith, omega arith)
          (All-cons Fits (op.Need (Reg 0) Ge (Num much)) three (omega arith, omega arith)
          (All-cons Fits (op.Sub 0 (Reg 0) (Num much)) four (omega arith, omega arith, omega arith)
          (All-cons Fits (op.Put 0 (Num from) (Reg 0 ∷ [])) five (omega arith, omega arith, one 0 (omega arith), omega arith, omega arith, refl)
          (All-cons Fits (op.Get 0 (Num to) 0 1) six (omega arith, omega arith, omega arith, omega arith)
          (All-cons Fits (op.Add 1 (Reg 1) (Num much)) seven (omega arith, omega arith, omega arith)
          (All-cons Fits (op.Put 0 (Num to) (Reg 1 ∷ [])) [] (omega arith, omega arith, one 1 (omega arith), omega arith, omega arith, refl) (All-nil Fits)))))));
      few = omega arith;
    }

request_fits : (seed request : ℕ) → TxnFits accounts (request_of seed request)
request_fits seed request =
    let small = mod_below request 9 (omega arith) in
    transfer_fits _ _ _ (mod_below _ 64 (omega arith)) (other_below _ _ (mod_below _ 64 (omega arith))) (omega arith)

each_list : (seed workers requests : ℕ) → All (All (TxnFits accounts)) (lists_of seed workers requests)
unfolding lists_of list_of
each_list seed workers requests =
    All-map (All (TxnFits accounts)) (list_of seed workers requests) (range_with_len 1 workers)
    (λ k d within. All-map (TxnFits accounts) (request_of seed) _ (λ i e there. request_fits seed _))

lists : (seed workers requests : ℕ) → 1 ≤ workers → workers ≤ 16 → requests ≤ 2000 → ListsFit accounts (lists_of seed workers requests)
lists seed workers requests some few short = record {
  each = each_list seed workers requests;
  workers = omega (arith, list_count seed workers requests);
  requests = omega (arith, all_dealt seed workers requests some);
}

-- ---- the script ----

few_nodes : (nodes workers requests : ℕ) → passed_limit nodes workers requests ≡ None → nodes ≤ 7
few_nodes nodes workers requests none = grind (arith, nat_tests)

few_workers : (nodes workers requests : ℕ) → passed_limit nodes workers requests ≡ None → workers ≤ 16
few_workers nodes workers requests none = grind (arith, nat_tests)

few_requests : (nodes workers requests : ℕ) → passed_limit nodes workers requests ≡ None → requests ≤ 2000
few_requests nodes workers requests none = grind (arith, nat_tests)

pub generated_fits : (seed nodes workers requests : ℕ) → seed < 2 ^ 32 → 1 ≤ nodes → 1 ≤ workers → passed_limit nodes workers requests ≡ None → ScriptFits (generated seed nodes workers requests)
generated_fits seed nodes workers requests small some_nodes some_workers none =
    let n = few_nodes nodes workers requests none in
    let w = few_workers nodes workers requests none in
    let r = few_requests nodes workers requests none in
    record {
      tables = schema;
      nodes = (some_nodes, n);
      workers = (some_workers, w);
      batch = (omega arith, omega arith);
      loss = omega arith;
      seed = omega arith;
      stops = All-nil (IsWithin 1 1000000);
      few_stops = omega arith;
      rows = rows;
      columns = columns;
      lists = lists seed workers requests some_workers w r;
      one_list_each = list_count seed workers requests;
      events = events_fit seed nodes workers requests small some_nodes n some_workers w r;
    }

pub script_fits : (script : Script) (seed nodes workers requests : ℕ) → script ≡ generated seed nodes workers requests → seed < 2 ^ 32 → 1 ≤ nodes → 1 ≤ workers → passed_limit nodes workers requests ≡ None → ScriptFits script
script_fits script seed nodes workers requests is small some_nodes some_workers none =
    subst ScriptFits (sym is) (generated_fits seed nodes workers requests small some_nodes some_workers none)
