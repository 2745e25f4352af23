-- Workers that are joined one by one.
use Rattle.std.proofs.Common.{◌≡◌, ℕ, zero, suc, ◌+◌, ◌*◌, ◌^◌, ◌<◌, ◌≤◌, List, [], ◌∷◌, ◌++◌, length, map, take, replicate, get_or, All, Some, Ok, Result, refl, sym, ap, ◌∙◌, subst, arith, append-nil, length-append}
use Rattle.std.specs.Prelude.{slice_get}
use Rattle.std.specs.List.{AllZip}
use Rattle.std.proofs.lemmas.List.{append_assoc}
use Rattle.atomic_table.specs.Seated.{TableId}
use Rattle.rl_base.specs.Lists.{with_last}
use Rattle.rl_batch.specs.Encoding.{batch_bytes}
use Rattle.rl_batch.specs.Reading.{read_batch}
use Rattle.rl_batch.proofs.BatchLaws.{reads_back}
use Rattle.rl_families.specs.Leaders.{open_mark}
use Rattle.rl_families.specs.Logs.{items_along}
use Rattle.rl_paxos.specs.Acceptors.{Acceptor}
use Rattle.rl_paxos.specs.Logs as bytes
use Rattle.rl_script.specs.declared.script.Script.{Script}
use Rattle.rl_store.specs.Passes.{StoreOf, PassOf}
use Rattle.rl_store.specs.Views.{IsAtRest, joined}
use Rattle.rl_store.specs.declared.view.Item as kept
use Rattle.rl_store.specs.declared.view.View.{View}
use Rattle.rl_txn.specs.declared.batch.Batch.{Batch}
use Rattle.rl_txn.specs.declared.op.Op.{Op}
use Rattle.rl_txn.specs.Serial.{numbered}
use Rattle.rl_live.specs.declared.worker.Done.{Done}
use Rattle.rl_live.specs.Decided.{AreItemsOf}
use Rattle.rl_live.specs.Elections.{with_mark}
use Rattle.rl_live.specs.Ended.{IsWholeLog, WholeLogs, together}
use Rattle.rl_base.specs.declared.memory.Memory.{Memory}
use Rattle.rl_live.specs.Handing.{AllFrom, IsDoneAs, IsEndAs, IsJoined, rows_with}
use Rattle.rl_live.specs.Run.{acceptor_at, IsReadAs}
use Rattle.rl_live.specs.Spreading.{spread}
use Rattle.rl_live.specs.Workers.{AllHave, end_mark, right_of}
use Rattle.rl_live.proofs.Ending.{marked, items_marked, whole_of}
use Rattle.rl_live.proofs.Firsts.{map_more}

-- ---- columns behind rows ----
pub spread_none : {X : Type 0} (rows : List (List X)) → spread rows [] ≡ rows
spread_none [] = refl
spread_none (r ∷ rs) = refl

pub spread_long : {X : Type 0} (rows : List (List X)) (xs : List X) → length (spread rows xs) ≡ length rows
spread_long [] xs = refl
spread_long (r ∷ rs) [] = refl
spread_long (r ∷ rs) (x ∷ xs) = ap (λ k. suc k) (spread_long rs xs)

pub spread_more : {X : Type 0} (rows : List (List X)) (xs : List X) (x : X) (i : ℕ) → i ≡ length xs → i < length rows → with_last (spread rows xs) i x ≡ spread rows (xs ++ x ∷ [])
spread_more [] xs x i e l = absurd (omega arith)
spread_more (r ∷ rs) [] x zero e l = ap (λ z. (r ++ x ∷ []) ∷ z) (sym (spread_none rs))
spread_more (r ∷ rs) [] x (suc i) e l = absurd (omega arith)
spread_more (r ∷ rs) (y ∷ ys) x zero e l = absurd (omega arith)
spread_more (r ∷ rs) (y ∷ ys) x (suc i) e l = ap (λ z. (r ++ y ∷ []) ∷ z) (spread_more rs ys x i (omega arith) (omega arith))

spread_rows : {X : Type 0} (n : ℕ) (row : List X) (x : X) → spread (replicate n row) (replicate n x) ≡ replicate n (row ++ x ∷ [])
spread_rows zero row x = refl
spread_rows (suc n) row x = ap (λ z. (row ++ x ∷ []) ∷ z) (spread_rows n row x)

all_same : {X : Type 0} (n : ℕ) (xs : List X) (x : X) → All (λ a. a ≡ x) xs → length xs ≡ n → xs ≡ replicate n x
all_same zero [] x h e = refl
all_same zero (y ∷ ys) x h e = absurd (omega arith)
all_same (suc n) [] x h e = absurd (omega arith)
all_same (suc n) (y ∷ ys) x h e = ap (λ z. z ∷ ys) (h 0 y (omega arith)) ∙ ap (λ z. x ∷ z) (all_same n ys x (λ k d l. h (suc k) d (omega arith)) (omega arith))

-- ---- one more ----
zip_more : {A B : Type 0} (R : A → B → Type 0) (xs : List A) (ys : List B) (x : A) (y : B) → AllZip R xs ys → R x y → AllZip R (xs ++ x ∷ []) (ys ++ y ∷ [])
zip_more R [] [] x y z r = (r, tt)
zip_more R [] (b ∷ bs) x y z r = absurd z
zip_more R (a ∷ cs) [] x y z r = absurd z
zip_more R (a ∷ cs) (b ∷ bs) x y z r = (z.0, zip_more R cs bs x y z.1 r)

together_more : (ks : List (List kept.Item)) (k : List kept.Item) → together (ks ++ k ∷ []) ≡ together ks ++ k
together_more [] k = append-nil k
together_more (j ∷ js) k = ap (λ z. j ++ z) (together_more js k) ∙ sym (append_assoc j (together js) k)

whole_more : (e n k m : ℕ) (lists : List (List (List Op))) (family : List (List Batch)) (list : List (List Op)) (log : List Batch)
    → WholeLogs e n (take k lists) family → slice_get lists k ≡ Some list → m ≡ n + k → IsWholeLog e m (length list) log → WholeLogs e n (take (suc k) lists) (family ++ log ∷ [])
whole_more e n k m [] family list log w s q h = absurd (let x = s in grind arith)
whole_more e n zero m (l ∷ ls) [] list log w s q h =
    let same : l ≡ list = (let x = s in cc) in
    (subst (λ z. IsWholeLog e n (length z) log) (sym same) (subst (λ z. IsWholeLog e z (length list) log) (let r : m ≡ n = omega arith in r) h), tt)
whole_more e n zero m (l ∷ ls) (f ∷ fs) list log w s q h = absurd w
whole_more e n (suc k) m (l ∷ ls) [] list log w s q h = absurd w
whole_more e n (suc k) m (l ∷ ls) (f ∷ fs) list log w s q h = (w.0, whole_more e (suc n) k m ls fs list log w.1 s (omega arith) h)

-- the open mark's bytes are read as that mark
mark_read : (e : ℕ) → 1 ≤ e → e < 2 ^ 20 → read_batch (batch_bytes (open_mark e)) ≡ Ok (open_mark e)
mark_read e low high = reads_back (open_mark e) record { epoch_low = low; epoch_high = omega arith; seq_low = omega arith; seq_high = omega arith } tt

log_read : (e : ℕ) (bytes_of : bytes.Log) (batches : List Batch) → 1 ≤ e → e < 2 ^ 20 → IsReadAs bytes_of (batches ++ end_mark e ∷ []) → IsReadAs (with_mark e [] ++ bytes_of) (marked e batches)
log_read e bytes_of batches low high read = ap (λ z. z ∷ map read_batch bytes_of) (mark_read e low high) ∙ ap (λ z. Ok (open_mark e) ∷ z) read

listed : {X : Type 0} (xs : List X) (k : ℕ) → k < length xs → (x : X) × (slice_get xs k ≡ Some x)
listed [] k l = absurd (omega arith)
listed (x ∷ xs) zero l = (x, refl)
listed (x ∷ xs) (suc k) l = listed xs k (omega arith)

more_tries : (k t : ℕ) → suc k * t ≡ k * t + t
more_tries k t = grind arith

module _ (script : Script) (store : StoreOf) (progress : TableId) (tries : ℕ) where
  pub joined_none : (start : PassOf) (rows : List (List Acceptor)) → start.table ≡ store.table → IsAtRest start.view → rows ≡ replicate script.nodes [] → IsJoined script store progress tries 0 start start rows
  joined_none start rows own rest are = record {
    logs = [];
    family = [];
    passes = [];
    rows_are = are;
    read = tt;
    whole = tt;
    kept = tt;
    own = own;
    rest = rest;
    items = sym (append-nil start.view.items);
    right = omega arith;
  }

  pub joined_more : (k m : ℕ) (start pass pass' : PassOf) (rows rows' : List (List Acceptor)) (d : Done)
      → m ≡ suc k → IsJoined script store progress tries k start pass rows → IsDoneAs script store progress tries (suc k) d
      → pass'.table ≡ pass.table → pass'.view ≡ joined pass.view d.pass.view → rows' ≡ spread rows d.acceptors
      → IsJoined script store progress tries m start pass' rows'
  joined_more k m start pass pass' rows rows' d count h done own view spreads =
      let e = store.made.epoch in
      let w = done.0 in
      let ready = done.1 in
      let x = done.2 in
      let log = with_mark e [] ++ x.bytes_of in
      let batches = marked e x.batches in
      let have : AllHave e log d.acceptors = subst (λ l. AllHave e (l ++ x.bytes_of) d.acceptors) ready.log_is x.have in
      let column : d.acceptors ≡ replicate script.nodes (acceptor_at e log) = all_same script.nodes d.acceptors (acceptor_at e log) have (x.nodes ∙ ready.nodes) in
      let inside : k < length script.lists = (let a = ready.numbered_as in let b = ready.set_up.number.1 in let f = ap length ready.lists_are in omega arith) in
      let list = listed script.lists k inside in
      let list_is : numbered w.lists.now w.number ≡ Some list.0 = ap (λ l. numbered l w.number) ready.lists_are ∙ (ap (λ n. numbered script.lists n) ready.numbered_as ∙ list.1) in
      let whole : IsWholeLog e (suc k) (length list.0) batches = subst (λ n. IsWholeLog e n (length list.0) batches) ready.numbered_as (whole_of e w.number (length list.0) x.batches x.only x.rising x.commits (x.in_order list.0 list_is)) in
      subst (λ n. IsJoined script store progress tries n start pass' rows') (sym count) record {
        logs = h.logs ++ log ∷ [];
        family = h.family ++ batches ∷ [];
        passes = h.passes ++ d.pass.view.items ∷ [];
        rows_are = spreads ∙ (ap (λ r. spread r d.acceptors) h.rows_are ∙ (ap (λ a. spread (rows_with e script.nodes h.logs) a) column
            ∙ (spread_rows script.nodes (map (acceptor_at e) h.logs) (acceptor_at e log) ∙ ap (λ r. replicate script.nodes r) (sym (map_more (acceptor_at e) h.logs log)))));
        read = zip_more IsReadAs h.logs h.family log batches h.read (log_read e x.bytes_of x.batches ready.set_up.begun ready.few_epochs x.read);
        whole = whole_more e 1 k (suc k) script.lists h.family list.0 batches h.whole list.1 (omega arith) whole;
        kept = zip_more (λ log is. AreItemsOf script.schema script.lists (items_along log) is) h.family h.passes batches d.pass.view.items h.kept (subst (λ l. AreItemsOf script.schema script.lists l d.pass.view.items) (sym (items_marked e x.batches)) (subst (λ l. AreItemsOf script.schema l (items_along x.batches) d.pass.view.items) ready.lists_are x.are));
        own = own ∙ h.own;
        rest = ap (λ (v : View). v.attempt) view ∙ h.rest;
        items = ap (λ (v : View). v.items) view ∙ (ap (λ l. l ++ d.pass.view.items) h.items ∙ (append_assoc start.view.items (together h.passes) d.pass.view.items ∙ ap (λ l. start.view.items ++ l) (sym (together_more h.passes d.pass.view.items))));
        right =
            let a = ap (λ (v : View). v.draws) view in
            let b = ap (λ (v : View). v.tries) view in
            let f = h.right in
            let g : right_of d.pass.view ≡ tries = x.right ∙ ready.right in
            let i = more_tries k tries in
            omega arith;
      }

  at_next : {X : Type 0} (y rest : List X) (x d : X) → get_or (y ++ x ∷ rest) (length y) d ≡ x
  at_next [] rest x d = refl
  at_next (z ∷ y) rest x d = at_next y rest x d

  -- what the next worker handed back
  pub end_at : (results y rest : List (Result Done Memory)) (x : Result Done Memory) (d : Done) → AllFrom (IsEndAs script store progress tries) 1 results → y ++ (x ∷ rest) ≡ results → x ≡ Ok d
      → IsDoneAs script store progress tries (suc (length y)) d
  end_at results y rest x d all cut is =
      let inside : length y < length results = (let a = ap length cut in let b = length-append y (x ∷ rest) in omega arith) in
      let one : 1 + length y ≡ suc (length y) = omega arith in
      let h : IsEndAs script store progress tries (1 + length y) (get_or results (length y) x) = all (length y) x inside in
      let here : get_or results (length y) x ≡ Ok d = ap (λ l. get_or l (length y) x) (sym cut) ∙ (at_next y rest x x ∙ is) in
      subst (λ n. IsDoneAs script store progress tries n d) one (subst (λ r. IsEndAs script store progress tries (1 + length y) r) here h)

  pub done_long : (n : ℕ) (d : Done) → IsDoneAs script store progress tries n d → length d.acceptors ≡ script.nodes
  done_long n d h = h.2.nodes ∙ h.1.nodes
