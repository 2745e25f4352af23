-- A run opens as its core does.
use Rattle.std.proofs.Common.{◌≡◌, ℕ, zero, suc, ◌+◌, ◌*◌, ◌^◌, ◌<◌, List, [], ◌∷◌, length, map, get_or, slice_get, replicate, sum, All, Some, refl, sym, ap, subst, ◌∙◌, arith, Vec}
use Rattle.std.specs.Global.{Global}
use Rattle.std.proofs.lemmas.List.{length-map, length-replicate}
use Rattle.std.proofs.lemmas.List.Elements.{All-nil}
use Rattle.std.proofs.lemmas.List.Sums.{sum_by-cons}
use Rattle.rl_value.specs.Tables.{Table, record_count}
use Rattle.rl_tables.specs.Numbers.{sizes_of}
use Rattle.rl_txn.specs.declared.item.Item.{Item}
use Rattle.rl_script.specs.Fits.{ScriptFits}
use Rattle.rl_script.specs.declared.script.Script.{Script}
use Rattle.rl_worker.specs.declared.words.Words.{Words}
use Rattle.rl_worker.specs.declared.worker.Worker.{Worker}
use Rattle.rl_worker.specs.Phases.{Rest}
use Rattle.rl_worker.specs.Opening.{opening_recs, core_after}
use Rattle.rl_worker.specs.Workers.{RecordsFit, number_of, stamp_next}
use Rattle.rl_report.specs.Forms.{IsRefused}
use Rattle.rl_report.specs.declared.middle.Middle.{Middle}
use Rattle.rl_app.specs.Runs.{leader_of}
use Rattle.rl_app.specs.Running.{IsFresh, IsBySeq, IsRun}

counted : (tables : List Table) → sum (sizes_of tables) ≡ record_count tables
counted [] = refl
counted (t ∷ ts) =
    let a = sum_by-cons (λ (n : ℕ). n) t.size (sizes_of ts) in
    let b = sum_by-cons (λ (x : Table). x.size) t ts in
    let rest : sum (sizes_of ts) ≡ record_count ts = counted ts in
    omega (arith, a, b, rest)

at_rest_each : (n i : ℕ) → i < n → get_or (map Rest (replicate n 1)) i (Rest 0) ≡ Rest 1
at_rest_each zero i l = absurd (omega arith)
at_rest_each (suc n) zero l = refl
at_rest_each (suc n) (suc i) l = at_rest_each n i (omega arith)

at_next : (n i : ℕ) → n ≡ i + 1 → n ≡ suc i
at_next n i e = omega (arith, e)

some_there : {X : Type 0} (xs : List X) (i : ℕ) (x : X) → slice_get xs i ≡ Some x → i < length xs
some_there [] i x e = absurd (cc)
some_there (y ∷ ys) zero x e = omega arith
some_there (y ∷ ys) (suc i) x e = omega (arith, some_there ys i x e)

pub opened : (script : Script) (words : Words) (workers : Vec Worker Global) (decided : Vec Item Global) (lines : List Middle) (stamps : List ℕ) → ScriptFits script
    → words.records.items ≡ opening_recs script.schema script.rows stamps → words.next ≡ 2 → RecordsFit script.schema words.records.items → stamps ≡ replicate (sum (sizes_of script.schema)) 0
    → length workers.items ≡ script.workers → ((i : ℕ) (w : Worker) → slice_get workers.items i ≡ Some w → IsFresh i w) → decided.items ≡ [] → lines ≡ []
    → IsRun script.schema script.lists (record { words = words; workers = workers; decided = decided; refused = lines }) (core_after (leader_of script) [])
opened script words workers decided lines stamps fits recs next records zeros count each none empty =
    let stamps_are : stamps ≡ replicate (record_count script.schema) 0 = zeros ∙ ap (λ n. replicate n 0) (counted script.schema) in
    record {
      schema = fits.tables;
      workers = λ i w e.
          let f = each i w e in
          let i_less : i < script.workers = omega (arith, some_there workers.items i w e, count) in
          let listed : i < length script.lists = omega (arith, i_less, fits.one_list_each) in
          let many : length (map Rest (replicate script.workers 1)) ≡ script.workers = length-map (replicate script.workers 1) Rest ∙ length-replicate script.workers 1 in
          record {
            number = f.number;
            epoch = f.epoch;
            fits = f.fits script.schema script.lists listed;
            stands = record {
              recs = ap (opening_recs script.schema script.rows) (sym stamps_are) ∙ sym recs;
              next = ap (λ n. 1 * 2 ^ 40 + n) (sym next) ∙ ap (λ e. stamp_next e words) (sym f.epoch);
              there = omega (arith, f.number, i_less, many);
              phase = ap (λ n. get_or (Rest 0 ∷ map Rest (replicate script.workers 1)) n (Rest 0)) (at_next (number_of w) i f.number) ∙ at_rest_each script.workers i i_less ∙ sym (f.rests script.schema);
            };
          };
      count = count ∙ sym fits.one_list_each;
      records = records;
      decided = none;
      by_seq = by_none decided.items none;
      refused = empty;
      named = subst (All IsRefused) (sym empty) (All-nil IsRefused);
    }
  where
    by_none : (xs : List Item) → xs ≡ [] → IsBySeq xs
    by_none [] e = tt
    by_none (x ∷ xs) e = absurd (cc)
