-- Batches: what is read is encoded so and in range, and what is encoded so is read again.
use Rattle.std.proofs.Common.{◌≡◌, ℕ, ◌-◌, ◌^◌, ◌<◌, true, cond, List, [], ◌∷◌, ◌++◌, Result, Ok, Err, refl, sym, ap, subst, ◌∙◌, arith, inl, inr}
use Rattle.std.specs.Prelude.{IfOk, OnOk, ◌==◌}
use Rattle.std.proofs.lemmas.Bool.{eqb-true}
use Rattle.std.proofs.lemmas.List.{append-nil}
use Rattle.byteorder.specs.Endian.{big_bytes}
use Rattle.rl_base.specs.Numbers.{IsBytes}
use Rattle.rl_base.specs.Results.{◌>>=◌}
use Rattle.rl_base.specs.declared.memory.Memory.{Memory}
use Rattle.rl_base.specs.declared.flaw.Flaw.TheVariants.{Kind}
use Rattle.rl_base.specs.declared.stamp.Stamp.{Stamp}
use Rattle.rl_txn.specs.declared.item.Item.{Item}
use Rattle.rl_txn.specs.declared.batch.Batch.{Batch}
use Rattle.rl_txn.specs.declared.batch.Batch.TheVariants.{Items, Idle, Opened}
use Rattle.rl_fields.specs.declared.fault.Fault.{Fault}
use Rattle.rl_fields.specs.Faults.{fault_at, with_offset}
use Rattle.rl_fields.specs.Fields.{within, alone, whole}
use Rattle.rl_fields.proofs.FieldLaws.{IsBytes-rest, bind_ok, ok_is, Takes, Takes-then, within_takes, within_again, chosen}
use Rattle.rl_fields.proofs.DecodeLaws.{IsWholeReader}
use Rattle.rl_batch.specs.Encoding.{items_bytes, mark_bytes, batch_bytes}
use Rattle.rl_batch.specs.Ranges.{MarkInRange, BatchInRange, HasWords}
use Rattle.rl_batch.specs.Reading.{items, mark, batch, read_batch}
use Rattle.rl_batch.proofs.ItemLaws.{items_takes, items_again}

-- ---- marks

mark_takes : (low high : ℕ) (bytes : List ℕ) (x : Stamp × List ℕ) → IsBytes bytes → mark low high bytes ≡ Ok x → Takes bytes (mark_bytes x.0) x.1 × MarkInRange low high x.0
unfolding mark
mark_takes low high bytes x fits e =
    let a = bind_ok (within 4 1 (2 ^ 20 - 1) bytes) (λ epoch. within 8 low high epoch.1 >>= λ seq. Ok (record { epoch = epoch.0; seq = seq.0 }, seq.1)) x e in
    let b = bind_ok (within 8 low high a.0.1) (λ seq. Ok (record { epoch = a.0.0; seq = seq.0 }, seq.1)) x a.2 in
    let epoch = within_takes 4 1 (2 ^ 20 - 1) bytes a.0 fits a.1 in
    let seq = within_takes 8 low high a.0.1 b.0 epoch.0.rest_fits b.1 in
    let whole = Takes-then bytes (big_bytes 4 a.0.0) a.0.1 (big_bytes 8 b.0.0) b.0.1 epoch.0 seq.0 in
    let made : Stamp × List ℕ = (record { epoch = a.0.0; seq = b.0.0 }, b.0.1) in
    subst (λ (y : Stamp × List ℕ). Takes bytes (mark_bytes y.0) y.1 × MarkInRange low high y.0) (ok_is {E = Fault} made x b.2)
    (whole, record { epoch_low = epoch.1; epoch_high = epoch.2; seq_low = seq.1; seq_high = seq.2 })

mark_again : (low high : ℕ) (s : Stamp) → high < 2 ^ 64 → MarkInRange low high s → mark low high (mark_bytes s) ≡ Ok (s, [])
unfolding mark
mark_again low high s small range =
    let seq_text = big_bytes 8 s.seq in
    let seq : within 8 low high seq_text ≡ Ok (s.seq, []) = ap (within 8 low high) (sym (append-nil seq_text)) ∙ within_again 8 low high s.seq [] range.seq_low range.seq_high (omega (arith, range.seq_high)) in
    let epoch : within 4 1 (2 ^ 20 - 1) (big_bytes 4 s.epoch ++ seq_text) ≡ Ok (s.epoch, seq_text) = within_again 4 1 (2 ^ 20 - 1) s.epoch seq_text range.epoch_low range.epoch_high (omega (arith, range.epoch_high)) in
    ap (λ (r : Result (ℕ × List ℕ) Fault). r >>= λ epoch. within 8 low high epoch.1 >>= λ seq. Ok (record { epoch = epoch.0; seq = seq.0 }, seq.1)) epoch
    ∙ ap (λ (r : Result (ℕ × List ℕ) Fault). r >>= λ seq. Ok (record { epoch = s.epoch; seq = seq.0 }, seq.1)) seq

-- ---- batches

kind_takes : (kind k : ℕ) (rest text after : List ℕ) → (kind == k) ≡ true → Takes rest text after → Takes (kind ∷ rest) (k ∷ text) after
kind_takes kind k rest text after same t = record { parts = ap (λ (bytes : List ℕ). kind ∷ bytes) t.parts ∙ ap (λ (n : ℕ). n ∷ (text ++ after)) (eqb-true kind k same); rest_fits = t.rest_fits }

-- one kind of batch
made_takes : {A : Type 0} (make : A → Batch) (encoding : A → List ℕ) (Fits : A → Type 0) (k kind : ℕ) (rest : List ℕ) (read : Result (A × List ℕ) Fault) (x : Batch × List ℕ)
    → ((y : A) → batch_bytes (make y) ≡ k ∷ encoding y) → ((y : A) → Fits y → BatchInRange (make y)) → (kind == k) ≡ true
    → ((y : A × List ℕ) → read ≡ Ok y → Takes rest (encoding y.0) y.1 × Fits y.0)
    → (read >>= λ y. Ok (make y.0, y.1)) ≡ Ok x → Takes (kind ∷ rest) (batch_bytes x.0) x.1 × BatchInRange x.0
made_takes {A = A} make encoding Fits k kind rest read x encoded range same takes e =
    let a = bind_ok read (λ (y : A × List ℕ). Ok (make y.0, y.1)) x e in
    let t = takes a.0 a.1 in
    let made : Batch × List ℕ = (make a.0.0, a.0.1) in
    let front = kind_takes kind k rest (encoding a.0.0) a.0.1 same t.0 in
    subst (λ (y : Batch × List ℕ). Takes (kind ∷ rest) (batch_bytes y.0) y.1 × BatchInRange y.0) (ok_is {E = Fault} made x a.2)
    (subst (λ (text : List ℕ). Takes (kind ∷ rest) text a.0.1) (sym (encoded a.0.0)) front, range a.0.0 t.1)

batch_takes : (bytes : List ℕ) (x : Batch × List ℕ) → IsBytes bytes → batch bytes ≡ Ok x → Takes bytes (batch_bytes x.0) x.1 × BatchInRange x.0
unfolding batch
batch_takes [] x fits e = absurd cc
batch_takes (kind ∷ rest) x fits e =
    let after = IsBytes-rest kind rest fits in
    let opened : Result (Batch × List ℕ) Fault = mark 1 1 rest >>= (λ y. Ok (Opened y.0, y.1)) in
    let idle : Result (Batch × List ℕ) Fault = mark 2 (2 ^ 40 - 1) rest >>= (λ y. Ok (Idle y.0, y.1)) in
    let unknown : Result (Batch × List ℕ) Fault = Err (fault_at (kind ∷ rest) Kind) in
    let not_items : Result (Batch × List ℕ) Fault = cond (kind == 2) idle (cond (kind == 3) opened unknown) in
    elim (chosen (kind == 1) (items rest >>= (λ y. Ok (Items y.0, y.1))) not_items (Ok x) e) [
      | inl one ↦ made_takes Items items_bytes (λ xs. BatchInRange (Items xs)) 1 kind rest (items rest) x (λ _. refl) (λ _ range. range) one.0 (λ y e. items_takes rest y after e) one.1
      | inr not_one ↦ elim (chosen (kind == 2) idle (cond (kind == 3) opened unknown) (Ok x) not_one.1) [
        | inl two ↦ made_takes Idle mark_bytes (MarkInRange 2 (2 ^ 40 - 1)) 2 kind rest (mark 2 (2 ^ 40 - 1) rest) x (λ _. refl) (λ _ range. range) two.0 (λ y e. mark_takes 2 (2 ^ 40 - 1) rest y after e) two.1
        | inr not_two ↦ elim (chosen (kind == 3) opened unknown (Ok x) not_two.1) [
          | inl three ↦ made_takes Opened mark_bytes (MarkInRange 1 1) 3 kind rest (mark 1 1 rest) x (λ _. refl) (λ _ range. range) three.0 (λ y e. mark_takes 1 1 rest y after e) three.1
          | inr none ↦ absurd (let wrong : unknown ≡ Ok x = none.1 in cc)
        ]
      ]
    ]

-- so a whole batch is read
pub batch_reader : IsWholeReader batch batch_bytes BatchInRange
batch_reader = record { takes = batch_takes }

-- a batch of what was read, and the bytes after it
abbrev as_batch : {A : Type 0} → (A → Batch) → A × List ℕ → Result (Batch × List ℕ) Fault
as_batch make x = Ok (make x.0, x.1)

whole_again : (b : Batch) → BatchInRange b → HasWords b → whole batch (batch_bytes b) ≡ Ok b
unfolding whole batch
whole_again (Items xs) range words =
    let read : items (items_bytes xs) ≡ Ok (xs, []) = ap items (sym (append-nil (items_bytes xs))) ∙ items_again xs [] range words in
    ap (λ (r : Result (List Item × List ℕ) Fault). (r >>= as_batch Items) >>= λ x. alone x.0 x.1) read
whole_again (Idle s) range words = ap (λ (r : Result (Stamp × List ℕ) Fault). (r >>= as_batch Idle) >>= λ x. alone x.0 x.1) (mark_again 2 (2 ^ 40 - 1) s (omega arith) range)
whole_again (Opened s) range words = ap (λ (r : Result (Stamp × List ℕ) Fault). (r >>= as_batch Opened) >>= λ x. alone x.0 x.1) (mark_again 1 1 s (omega arith) range)

-- ---- answers

pub reads_back : (b : Batch) → BatchInRange b → HasWords b → read_batch (batch_bytes b) ≡ Ok b
reads_back b range words = ap (with_offset (batch_bytes b)) (whole_again b range words)

pub encoded_reads : (answer : Result (List ℕ) Memory) (b : Batch) → BatchInRange b → OnOk answer (HasWords b) → IfOk answer (λ bytes. bytes ≡ batch_bytes b) → IfOk answer (λ bytes. read_batch bytes ≡ Ok b)
encoded_reads (Ok bytes) b range words e = ap read_batch e ∙ reads_back b range words
encoded_reads (Err e) b range words said = tt
