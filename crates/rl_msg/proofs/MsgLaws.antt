-- Messages: what is read is encoded so and in range, and what is encoded so is read again.
use Rattle.std.proofs.Common.{◌≡◌, ℕ, ◌-◌, ◌^◌, ◌<◌, ◌≤◌, Bool, true, false, cond, ◌&&◌, leb, List, [], ◌∷◌, ◌++◌, length, map, Result, Ok, Err, refl, sym, ap, subst, ◌∙◌, append_assoc, arith, inl, inr}
use Rattle.std.specs.Prelude.{◌==◌}
use Rattle.std.specs.List.{flat_map, zip, AllByRecursion}
use Rattle.std.proofs.lemmas.Bool.{eqb-true, leb-true}
use Rattle.std.proofs.lemmas.List.{append-nil, length-map}
use Rattle.std.proofs.lemmas.Bool.Decides.{nat_tests}
use Rattle.std.proofs.lemmas.List.Elements.{All-from_recursion, recursion_from_All}
use Rattle.std.proofs.lemmas.Slice.Zip.{firsts-zip, seconds-zip, length-zip}
use Rattle.byteorder.specs.Endian.{big_bytes}
use Rattle.rl_base.specs.Numbers.{IsBytes}
use Rattle.rl_base.specs.Results.{◌>>=◌}
use Rattle.rl_base.specs.declared.limit.TheConstants.{NODES, WORKERS, SLOTS}
use Rattle.rl_base.specs.declared.flaw.Flaw.TheVariants.{Kind}
use Rattle.rl_fields.specs.declared.fault.Fault.{Fault}
use Rattle.rl_fields.specs.Faults.{fault_at, with_offset}
use Rattle.rl_fields.specs.Fields.{within, string, several, alone, whole}
use Rattle.rl_fields.proofs.FieldLaws.{IsBytes-rest, bind_ok, ok_is, Takes, Takes-then, within_takes, within_again, string_takes, string_again, both, chosen}
use Rattle.rl_fields.proofs.DecodeLaws.{IsWholeReader}
use Rattle.rl_fields.proofs.SeriesLaws.{several_takes, several_again}
use Rattle.rl_msg.specs.declared.head.Head.{Head}
use Rattle.rl_fields.specs.declared.limit.TheConstants.{BATCH_BYTES}
use Rattle.rl_msg.specs.declared.msg.Msg.{Msg}
use Rattle.rl_msg.specs.declared.msg.Msg.TheVariants.{Prepare, Promise, Sync, Accept, Ack, Known}
use Rattle.rl_msg.specs.Encoding.{head_bytes, embedded_batch_bytes, log_bytes, stream_bytes, streams_bytes, stream_and_slot_bytes, msg_bytes}
use Rattle.rl_msg.specs.Ranges.{HeadInRange, EmbeddedBatchInRange, LogInRange, StreamInRange, StreamsInRange, MsgInRange}
use Rattle.rl_msg.specs.Reading.{head, embedded_batch, log, stream, streams, stream_and_slot, promise, sync, accept, ack, known, fields, msg, read_msg}
use Rattle.rl_msg.proofs.Zips.{zip-maps}

-- a Promise of two lists of one length
pub promise-zip : (h : Head) (bytes : List ℕ) (ballots : List ℕ) (logs : List (List (List ℕ))) (rest : List ℕ) → length logs ≡ length ballots → streams bytes ≡ Ok (zip ballots logs, rest) → promise h bytes ≡ Ok (Promise h.from h.to h.epoch ballots logs, rest)
unfolding promise
promise-zip h bytes ballots logs rest same e = rw (e, firsts-zip ballots logs same, seconds-zip ballots logs same) refl

abbrev HeadFits : Head → Type 0
HeadFits h = HeadInRange h.from h.to h.epoch

head_takes : (bytes : List ℕ) (x : Head × List ℕ) → IsBytes bytes → head bytes ≡ Ok x → Takes bytes (head_bytes x.0.from x.0.to x.0.epoch) x.1 × HeadFits x.0
unfolding head
head_takes bytes x fits e =
    let a = bind_ok (within 1 1 NODES bytes) (λ from. within 1 1 NODES from.1 >>= λ to. within 4 1 (2 ^ 20 - 1) to.1 >>= λ epoch. Ok (record { from = from.0; to = to.0; epoch = epoch.0 }, epoch.1)) x e in
    let b = bind_ok (within 1 1 NODES a.0.1) (λ to. within 4 1 (2 ^ 20 - 1) to.1 >>= λ epoch. Ok (record { from = a.0.0; to = to.0; epoch = epoch.0 }, epoch.1)) x a.2 in
    let c = bind_ok (within 4 1 (2 ^ 20 - 1) b.0.1) (λ epoch. Ok (record { from = a.0.0; to = b.0.0; epoch = epoch.0 }, epoch.1)) x b.2 in
    let t1 = within_takes 1 1 NODES bytes a.0 fits a.1 in
    let t2 = within_takes 1 1 NODES a.0.1 b.0 t1.0.rest_fits b.1 in
    let t3 = within_takes 4 1 (2 ^ 20 - 1) b.0.1 c.0 t2.0.rest_fits c.1 in
    let two = Takes-then bytes (big_bytes 1 a.0.0) a.0.1 (big_bytes 1 b.0.0) b.0.1 t1.0 t2.0 in
    let three = Takes-then bytes (big_bytes 1 a.0.0 ++ big_bytes 1 b.0.0) b.0.1 (big_bytes 4 c.0.0) c.0.1 two t3.0 in
    let made : Head × List ℕ = (record { from = a.0.0; to = b.0.0; epoch = c.0.0 }, c.0.1) in
    subst (λ (y : Head × List ℕ). Takes bytes (head_bytes y.0.from y.0.to y.0.epoch) y.1 × HeadFits y.0) (ok_is {E = Fault} made x c.2)
    (three, record { from_low = t1.1; from_high = t1.2; to_low = t2.1; to_high = t2.2; epoch_low = t3.1; epoch_high = t3.2 })

head_again : (from to epoch : ℕ) (rest : List ℕ) → HeadInRange from to epoch → head (head_bytes from to epoch ++ rest) ≡ Ok (record { from = from; to = to; epoch = epoch }, rest)
unfolding head
head_again from to epoch rest range =
    let b1 = big_bytes 1 from in
    let b2 = big_bytes 1 to in
    let b3 = big_bytes 4 epoch in
    let regrouped : head_bytes from to epoch ++ rest ≡ b1 ++ (b2 ++ (b3 ++ rest)) = append_assoc (b1 ++ b2) b3 rest ∙ append_assoc b1 b2 (b3 ++ rest) in
    let e1 : within 1 1 NODES (b1 ++ (b2 ++ (b3 ++ rest))) ≡ Ok (from, b2 ++ (b3 ++ rest)) = within_again 1 1 NODES from (b2 ++ (b3 ++ rest)) range.from_low range.from_high (omega (arith, range.from_high)) in
    let e2 : within 1 1 NODES (b2 ++ (b3 ++ rest)) ≡ Ok (to, b3 ++ rest) = within_again 1 1 NODES to (b3 ++ rest) range.to_low range.to_high (omega (arith, range.to_high)) in
    let e3 : within 4 1 (2 ^ 20 - 1) (b3 ++ rest) ≡ Ok (epoch, rest) = within_again 4 1 (2 ^ 20 - 1) epoch rest range.epoch_low range.epoch_high (omega (arith, range.epoch_high)) in
    ap head regrouped
    ∙ ap (λ (r : Result (ℕ × List ℕ) Fault). r >>= λ from. within 1 1 NODES from.1 >>= λ to. within 4 1 (2 ^ 20 - 1) to.1 >>= λ epoch. Ok (record { from = from.0; to = to.0; epoch = epoch.0 }, epoch.1)) e1
    ∙ ap (λ (r : Result (ℕ × List ℕ) Fault). r >>= λ to. within 4 1 (2 ^ 20 - 1) to.1 >>= λ epoch. Ok (record { from = from; to = to.0; epoch = epoch.0 }, epoch.1)) e2
    ∙ ap (λ (r : Result (ℕ × List ℕ) Fault). r >>= λ epoch. Ok (record { from = from; to = to; epoch = epoch.0 }, epoch.1)) e3

embedded_batch_takes : (bytes : List ℕ) (x : List ℕ × List ℕ) → IsBytes bytes → embedded_batch bytes ≡ Ok x → Takes bytes (embedded_batch_bytes x.0) x.1 × EmbeddedBatchInRange x.0
unfolding embedded_batch
embedded_batch_takes bytes x fits e =
    let a = bind_ok (within 4 1 BATCH_BYTES bytes) (λ len. string len.0 len.1) x e in
    let len = within_takes 4 1 BATCH_BYTES bytes a.0 fits a.1 in
    let text = string_takes a.0.0 a.0.1 x len.0.rest_fits a.2 in
    let both = Takes-then bytes (big_bytes 4 a.0.0) a.0.1 x.0 x.1 len.0 text.0 in
    (subst (λ (k : ℕ). Takes bytes (big_bytes 4 k ++ x.0) x.1) (sym text.1) both, (omega (arith, text.1, len.1), omega (arith, text.1, len.2)))

embedded_batch_again : (b : List ℕ) (rest : List ℕ) → EmbeddedBatchInRange b → embedded_batch (embedded_batch_bytes b ++ rest) ≡ Ok (b, rest)
unfolding embedded_batch
embedded_batch_again b rest range =
    let len : within 4 1 BATCH_BYTES (big_bytes 4 (length b) ++ (b ++ rest)) ≡ Ok (length b, b ++ rest) = within_again 4 1 BATCH_BYTES (length b) (b ++ rest) range.0 range.1 (omega (arith, range.1)) in
    ap embedded_batch (append_assoc (big_bytes 4 (length b)) b rest) ∙ ap (λ (r : Result (ℕ × List ℕ) Fault). r >>= λ len. string len.0 len.1) len ∙ string_again b rest

log_takes : (bytes : List ℕ) (x : List (List ℕ) × List ℕ) → IsBytes bytes → log bytes ≡ Ok x → Takes bytes (log_bytes x.0) x.1 × LogInRange x.0
unfolding log
log_takes bytes x fits e =
    let a = bind_ok (within 4 0 SLOTS bytes) (λ count. several embedded_batch count.0 count.1) x e in
    let count = within_takes 4 0 SLOTS bytes a.0 fits a.1 in
    let each = several_takes embedded_batch embedded_batch_bytes EmbeddedBatchInRange embedded_batch_takes a.0.0 a.0.1 x count.0.rest_fits a.2 in
    let both = Takes-then bytes (big_bytes 4 a.0.0) a.0.1 (flat_map embedded_batch_bytes x.0) x.1 count.0 each.0 in
    (subst (λ (k : ℕ). Takes bytes (big_bytes 4 k ++ flat_map embedded_batch_bytes x.0) x.1) (sym each.1) both, record { few = omega (arith, each.1, count.2); each = All-from_recursion EmbeddedBatchInRange x.0 each.2 })

log_again : (l : List (List ℕ)) (rest : List ℕ) → LogInRange l → log (log_bytes l ++ rest) ≡ Ok (l, rest)
unfolding log
log_again l rest range =
    let text = flat_map embedded_batch_bytes l in
    let count : within 4 0 SLOTS (big_bytes 4 (length l) ++ (text ++ rest)) ≡ Ok (length l, text ++ rest) = within_again 4 0 SLOTS (length l) (text ++ rest) (omega arith) range.few (omega (arith, range.few)) in
    ap log (append_assoc (big_bytes 4 (length l)) text rest) ∙ ap (λ (r : Result (ℕ × List ℕ) Fault). r >>= λ count. several embedded_batch count.0 count.1) count
    ∙ several_again embedded_batch embedded_batch_bytes EmbeddedBatchInRange embedded_batch_again l rest (recursion_from_All EmbeddedBatchInRange l range.each)

abbrev StreamFits : ℕ × List (List ℕ) → Type 0
StreamFits s = (s.0 ≤ 2 ^ 20 - 1) × LogInRange s.1

stream_takes : (bytes : List ℕ) (x : (ℕ × List (List ℕ)) × List ℕ) → IsBytes bytes → stream bytes ≡ Ok x → Takes bytes (stream_bytes x.0) x.1 × StreamFits x.0
unfolding stream
stream_takes bytes x fits e =
    let a = bind_ok (within 4 0 (2 ^ 20 - 1) bytes) (λ ballot. log ballot.1 >>= λ log. Ok ((ballot.0, log.0), log.1)) x e in
    let b = bind_ok (log a.0.1) (λ log. Ok ((a.0.0, log.0), log.1)) x a.2 in
    let ballot = within_takes 4 0 (2 ^ 20 - 1) bytes a.0 fits a.1 in
    let kept = log_takes a.0.1 b.0 ballot.0.rest_fits b.1 in
    let both = Takes-then bytes (big_bytes 4 a.0.0) a.0.1 (log_bytes b.0.0) b.0.1 ballot.0 kept.0 in
    let made : (ℕ × List (List ℕ)) × List ℕ = ((a.0.0, b.0.0), b.0.1) in
    subst (λ (y : (ℕ × List (List ℕ)) × List ℕ). Takes bytes (stream_bytes y.0) y.1 × StreamFits y.0) (ok_is {E = Fault} made x b.2) (both, (ballot.2, kept.1))

stream_again : (s : ℕ × List (List ℕ)) (rest : List ℕ) → StreamFits s → stream (stream_bytes s ++ rest) ≡ Ok (s, rest)
unfolding stream
stream_again s rest fits =
    let text = log_bytes s.1 in
    let ballot : within 4 0 (2 ^ 20 - 1) (big_bytes 4 s.0 ++ (text ++ rest)) ≡ Ok (s.0, text ++ rest) = within_again 4 0 (2 ^ 20 - 1) s.0 (text ++ rest) (omega arith) fits.0 (omega (arith, fits.0)) in
    ap stream (append_assoc (big_bytes 4 s.0) text rest)
    ∙ ap (λ (r : Result (ℕ × List ℕ) Fault). r >>= λ ballot. log ballot.1 >>= λ log. Ok ((ballot.0, log.0), log.1)) ballot
    ∙ ap (λ (r : Result (List (List ℕ) × List ℕ) Fault). r >>= λ log. Ok ((s.0, log.0), log.1)) (log_again s.1 rest fits.1)

streams_takes : (bytes : List ℕ) (x : List (ℕ × List (List ℕ)) × List ℕ) → IsBytes bytes → streams bytes ≡ Ok x → Takes bytes (streams_bytes x.0) x.1 × (1 ≤ length x.0) × (length x.0 ≤ WORKERS) × AllByRecursion StreamFits x.0
unfolding streams
streams_takes bytes x fits e =
    let a = bind_ok (within 1 1 WORKERS bytes) (λ count. several stream count.0 count.1) x e in
    let count = within_takes 1 1 WORKERS bytes a.0 fits a.1 in
    let each = several_takes stream stream_bytes StreamFits stream_takes a.0.0 a.0.1 x count.0.rest_fits a.2 in
    let both = Takes-then bytes (big_bytes 1 a.0.0) a.0.1 (flat_map stream_bytes x.0) x.1 count.0 each.0 in
    (subst (λ (k : ℕ). Takes bytes (big_bytes 1 k ++ flat_map stream_bytes x.0) x.1) (sym each.1) both, omega (arith, each.1, count.1), omega (arith, each.1, count.2), each.2)

streams_again : (ss : List (ℕ × List (List ℕ))) (rest : List ℕ) → 1 ≤ length ss → length ss ≤ WORKERS → AllByRecursion StreamFits ss → streams (streams_bytes ss ++ rest) ≡ Ok (ss, rest)
unfolding streams
streams_again ss rest some few each =
    let text = flat_map stream_bytes ss in
    let count : within 1 1 WORKERS (big_bytes 1 (length ss) ++ (text ++ rest)) ≡ Ok (length ss, text ++ rest) = within_again 1 1 WORKERS (length ss) (text ++ rest) some few (omega arith) in
    ap streams (append_assoc (big_bytes 1 (length ss)) text rest) ∙ ap (λ (r : Result (ℕ × List ℕ) Fault). r >>= λ count. several stream count.0 count.1) count
    ∙ several_again stream stream_bytes StreamFits stream_again ss rest each

stream_and_slot_takes : (greatest : ℕ) (bytes : List ℕ) (x : (ℕ × ℕ) × List ℕ) → IsBytes bytes → stream_and_slot greatest bytes ≡ Ok x → Takes bytes (stream_and_slot_bytes x.0.0 x.0.1) x.1 × StreamInRange x.0.0 × (x.0.1 ≤ greatest)
unfolding stream_and_slot
stream_and_slot_takes greatest bytes x fits e =
    let a = bind_ok (within 1 1 WORKERS bytes) (λ stream. within 4 0 greatest stream.1 >>= λ number. Ok ((stream.0, number.0), number.1)) x e in
    let b = bind_ok (within 4 0 greatest a.0.1) (λ number. Ok ((a.0.0, number.0), number.1)) x a.2 in
    let at = within_takes 1 1 WORKERS bytes a.0 fits a.1 in
    let number = within_takes 4 0 greatest a.0.1 b.0 at.0.rest_fits b.1 in
    let both = Takes-then bytes (big_bytes 1 a.0.0) a.0.1 (big_bytes 4 b.0.0) b.0.1 at.0 number.0 in
    let made : (ℕ × ℕ) × List ℕ = ((a.0.0, b.0.0), b.0.1) in
    subst (λ (y : (ℕ × ℕ) × List ℕ). Takes bytes (stream_and_slot_bytes y.0.0 y.0.1) y.1 × StreamInRange y.0.0 × (y.0.1 ≤ greatest)) (ok_is {E = Fault} made x b.2) (both, (at.1, at.2), number.2)

stream_and_slot_again : (greatest s n : ℕ) (rest : List ℕ) → greatest < 2 ^ 32 → StreamInRange s → n ≤ greatest → stream_and_slot greatest (stream_and_slot_bytes s n ++ rest) ≡ Ok ((s, n), rest)
unfolding stream_and_slot
stream_and_slot_again greatest s n rest small range below =
    let text = big_bytes 4 n in
    let at : within 1 1 WORKERS (big_bytes 1 s ++ (text ++ rest)) ≡ Ok (s, text ++ rest) = within_again 1 1 WORKERS s (text ++ rest) range.0 range.1 (omega (arith, range.1)) in
    ap (stream_and_slot greatest) (append_assoc (big_bytes 1 s) text rest)
    ∙ ap (λ (r : Result (ℕ × List ℕ) Fault). r >>= λ stream. within 4 0 greatest stream.1 >>= λ number. Ok ((stream.0, number.0), number.1)) at
    ∙ ap (λ (r : Result (ℕ × List ℕ) Fault). r >>= λ number. Ok ((s, number.0), number.1)) (within_again 4 0 greatest n rest (omega arith) below (omega arith))

-- ---- the kinds

-- what a kind has behind its head: it is encoded so and in range
record IsFields (kind : ℕ) (h : Head) (bytes : List ℕ) (x : Msg × List ℕ) : Type 0 where
  text : List ℕ
  takes : Takes bytes text x.1
  encoded : msg_bytes x.0 ≡ kind ∷ (head_bytes h.from h.to h.epoch ++ text)
  range : MsgInRange x.0

abbrev answered : Msg → List ℕ → Msg × List ℕ
answered m rest = (m, rest)

abbrev ok_with : Msg → List ℕ → Result (Msg × List ℕ) Fault
ok_with m rest = Ok (m, rest)

prepare_takes : (h : Head) (bytes : List ℕ) (x : Msg × List ℕ) → IsBytes bytes → HeadFits h → ok_with (Prepare h.from h.to h.epoch) bytes ≡ Ok x → IsFields 1 h bytes x
prepare_takes h bytes x fits head_fits e =
    subst (λ (y : Msg × List ℕ). IsFields 1 h bytes y) (ok_is {E = Fault} (answered (Prepare h.from h.to h.epoch) bytes) x e) (record {
      text = [];
      takes = record { parts = refl; rest_fits = fits };
      encoded = ap (λ (t : List ℕ). 1 ∷ t) (sym (append-nil (head_bytes h.from h.to h.epoch)));
      range = head_fits;
    })

ballots_fit : (ss : List (ℕ × List (List ℕ))) → AllByRecursion StreamFits ss → AllByRecursion (λ b. b ≤ 2 ^ 20 - 1) (map (λ s. s.0) ss)
ballots_fit [] each = tt
ballots_fit (s ∷ ss) each = (each.0.0, ballots_fit ss each.1)

logs_fit : (ss : List (ℕ × List (List ℕ))) → AllByRecursion StreamFits ss → AllByRecursion LogInRange (map (λ s. s.1) ss)
logs_fit [] each = tt
logs_fit (s ∷ ss) each = (each.0.1, logs_fit ss each.1)

promise_takes : (h : Head) (bytes : List ℕ) (x : Msg × List ℕ) → IsBytes bytes → HeadFits h → promise h bytes ≡ Ok x → IsFields 2 h bytes x
unfolding promise
promise_takes h bytes x fits head_fits e =
    let a = bind_ok (streams bytes) (λ all. Ok (answered (Promise h.from h.to h.epoch (map (λ s. s.0) all.0) (map (λ s. s.1) all.0)) all.1)) x e in
    let t = streams_takes bytes a.0 fits a.1 in
    let ss = a.0.0 in
    let made = answered (Promise h.from h.to h.epoch (map (λ s. s.0) ss) (map (λ s. s.1) ss)) a.0.1 in
    subst (λ (y : Msg × List ℕ). IsFields 2 h bytes y) (ok_is {E = Fault} made x a.2) (record {
      text = streams_bytes ss;
      takes = t.0;
      encoded = ap (λ (zs : List (ℕ × List (List ℕ))). 2 ∷ (head_bytes h.from h.to h.epoch ++ streams_bytes zs)) (zip-maps ss);
      range = (
        head_fits,
        record {
          some = omega (arith, length-map ss (λ (s : ℕ × List (List ℕ)). s.0), t.1);
          few = omega (arith, length-map ss (λ (s : ℕ × List (List ℕ)). s.0), t.2);
          as_many = length-map ss (λ (s : ℕ × List (List ℕ)). s.1) ∙ sym (length-map ss (λ (s : ℕ × List (List ℕ)). s.0));
          each_ballot = All-from_recursion (λ b. b ≤ 2 ^ 20 - 1) (map (λ s. s.0) ss) (ballots_fit ss t.3);
          each_log = All-from_recursion LogInRange (map (λ s. s.1) ss) (logs_fit ss t.3);
        },
      );
    })

sync_takes : (h : Head) (bytes : List ℕ) (x : Msg × List ℕ) → IsBytes bytes → HeadFits h → sync h bytes ≡ Ok x → IsFields 3 h bytes x
unfolding sync
sync_takes h bytes x fits head_fits e =
    let a = bind_ok (within 1 1 WORKERS bytes) (λ stream. log stream.1 >>= λ log. Ok (answered (Sync h.from h.to h.epoch stream.0 log.0) log.1)) x e in
    let b = bind_ok (log a.0.1) (λ log. Ok (answered (Sync h.from h.to h.epoch a.0.0 log.0) log.1)) x a.2 in
    let at = within_takes 1 1 WORKERS bytes a.0 fits a.1 in
    let kept = log_takes a.0.1 b.0 at.0.rest_fits b.1 in
    let made = answered (Sync h.from h.to h.epoch a.0.0 b.0.0) b.0.1 in
    subst (λ (y : Msg × List ℕ). IsFields 3 h bytes y) (ok_is {E = Fault} made x b.2) (record {
      text = big_bytes 1 a.0.0 ++ log_bytes b.0.0;
      takes = Takes-then bytes (big_bytes 1 a.0.0) a.0.1 (log_bytes b.0.0) b.0.1 at.0 kept.0;
      encoded = refl;
      range = (head_fits, (at.1, at.2), kept.1);
    })

accept_takes : (h : Head) (bytes : List ℕ) (x : Msg × List ℕ) → IsBytes bytes → HeadFits h → accept h bytes ≡ Ok x → IsFields 4 h bytes x
unfolding accept
accept_takes h bytes x fits head_fits e =
    let a = bind_ok (stream_and_slot (SLOTS - 1) bytes) (λ at. embedded_batch at.1 >>= λ batch. Ok (answered (Accept h.from h.to h.epoch at.0.0 at.0.1 batch.0) batch.1)) x e in
    let b = bind_ok (embedded_batch a.0.1) (λ batch. Ok (answered (Accept h.from h.to h.epoch a.0.0.0 a.0.0.1 batch.0) batch.1)) x a.2 in
    let at = stream_and_slot_takes (SLOTS - 1) bytes a.0 fits a.1 in
    let kept = embedded_batch_takes a.0.1 b.0 at.0.rest_fits b.1 in
    let made = answered (Accept h.from h.to h.epoch a.0.0.0 a.0.0.1 b.0.0) b.0.1 in
    subst (λ (y : Msg × List ℕ). IsFields 4 h bytes y) (ok_is {E = Fault} made x b.2) (record {
      text = stream_and_slot_bytes a.0.0.0 a.0.0.1 ++ embedded_batch_bytes b.0.0;
      takes = Takes-then bytes (stream_and_slot_bytes a.0.0.0 a.0.0.1) a.0.1 (embedded_batch_bytes b.0.0) b.0.1 at.0 kept.0;
      encoded = refl;
      range = (head_fits, at.1, at.2, kept.1);
    })

ack_takes : (h : Head) (bytes : List ℕ) (x : Msg × List ℕ) → IsBytes bytes → HeadFits h → ack h bytes ≡ Ok x → IsFields 5 h bytes x
unfolding ack
ack_takes h bytes x fits head_fits e =
    let a = bind_ok (stream_and_slot SLOTS bytes) (λ at. Ok (answered (Ack h.from h.to h.epoch at.0.0 at.0.1) at.1)) x e in
    let at = stream_and_slot_takes SLOTS bytes a.0 fits a.1 in
    subst (λ (y : Msg × List ℕ). IsFields 5 h bytes y) (ok_is {E = Fault} (answered (Ack h.from h.to h.epoch a.0.0.0 a.0.0.1) a.0.1) x a.2)
    (record { text = stream_and_slot_bytes a.0.0.0 a.0.0.1; takes = at.0; encoded = refl; range = (head_fits, at.1, at.2) })

known_takes : (h : Head) (bytes : List ℕ) (x : Msg × List ℕ) → IsBytes bytes → HeadFits h → known h bytes ≡ Ok x → IsFields 6 h bytes x
unfolding known
known_takes h bytes x fits head_fits e =
    let a = bind_ok (stream_and_slot SLOTS bytes) (λ at. Ok (answered (Known h.from h.to h.epoch at.0.0 at.0.1) at.1)) x e in
    let at = stream_and_slot_takes SLOTS bytes a.0 fits a.1 in
    subst (λ (y : Msg × List ℕ). IsFields 6 h bytes y) (ok_is {E = Fault} (answered (Known h.from h.to h.epoch a.0.0.0 a.0.0.1) a.0.1) x a.2)
    (record { text = stream_and_slot_bytes a.0.0.0 a.0.0.1; takes = at.0; encoded = refl; range = (head_fits, at.1, at.2) })

of_kind : (kind k : ℕ) (h : Head) (bytes : List ℕ) (x : Msg × List ℕ) → kind ≡ k → IsFields k h bytes x → IsFields kind h bytes x
of_kind kind k h bytes x same fields = subst (λ (n : ℕ). IsFields n h bytes x) (sym same) fields

last_kind : (kind : ℕ) → 1 ≤ kind → kind ≤ 6 → (kind == 1) ≡ false → (kind == 2) ≡ false → (kind == 3) ≡ false → (kind == 4) ≡ false → (kind == 5) ≡ false → kind ≡ 6
last_kind kind low high n1 n2 n3 n4 n5 = grind (arith, nat_tests)

fields_takes : (kind : ℕ) (h : Head) (bytes : List ℕ) (x : Msg × List ℕ) → IsBytes bytes → HeadFits h → 1 ≤ kind → kind ≤ 6 → fields kind h bytes ≡ Ok x → IsFields kind h bytes x
fields_takes kind h bytes x fits hf low high e =
    let r5 = cond (kind == 5) (ack h bytes) (known h bytes) in
    let r4 = cond (kind == 4) (accept h bytes) r5 in
    let r3 = cond (kind == 3) (sync h bytes) r4 in
    let r2 = cond (kind == 2) (promise h bytes) r3 in
    elim (chosen (kind == 1) (ok_with (Prepare h.from h.to h.epoch) bytes) r2 (Ok x) e) [
      | inl y ↦ of_kind kind 1 h bytes x (eqb-true kind 1 y.0) (prepare_takes h bytes x fits hf y.1)
      | inr n1 ↦ elim (chosen (kind == 2) (promise h bytes) r3 (Ok x) n1.1) [
        | inl y ↦ of_kind kind 2 h bytes x (eqb-true kind 2 y.0) (promise_takes h bytes x fits hf y.1)
        | inr n2 ↦ elim (chosen (kind == 3) (sync h bytes) r4 (Ok x) n2.1) [
          | inl y ↦ of_kind kind 3 h bytes x (eqb-true kind 3 y.0) (sync_takes h bytes x fits hf y.1)
          | inr n3 ↦ elim (chosen (kind == 4) (accept h bytes) r5 (Ok x) n3.1) [
            | inl y ↦ of_kind kind 4 h bytes x (eqb-true kind 4 y.0) (accept_takes h bytes x fits hf y.1)
            | inr n4 ↦ elim (chosen (kind == 5) (ack h bytes) (known h bytes) (Ok x) n4.1) [
              | inl y ↦ of_kind kind 5 h bytes x (eqb-true kind 5 y.0) (ack_takes h bytes x fits hf y.1)
              | inr n5 ↦ of_kind kind 6 h bytes x (last_kind kind low high n1.0 n2.0 n3.0 n4.0 n5.0) (known_takes h bytes x fits hf n5.1)
            ]
          ]
        ]
      ]
    ]

msg_takes : (bytes : List ℕ) (x : Msg × List ℕ) → IsBytes bytes → msg bytes ≡ Ok x → Takes bytes (msg_bytes x.0) x.1 × MsgInRange x.0
unfolding msg
msg_takes [] x fits e = absurd cc
msg_takes (kind ∷ rest) x fits e =
    let behind : Result (Msg × List ℕ) Fault = head rest >>= λ h. fields kind h.0 h.1 in
    let unknown : Result (Msg × List ℕ) Fault = Err (fault_at (kind ∷ rest) Kind) in
    elim (chosen (leb 1 kind && leb kind 6) behind unknown (Ok x) e) [
      | inl six ↦
          let tests = both (leb 1 kind) (leb kind 6) six.0 in
          let a = bind_ok (head rest) (λ h. fields kind h.0 h.1) x six.1 in
          let t = head_takes rest a.0 (IsBytes-rest kind rest fits) a.1 in
          let f = fields_takes kind a.0.0 a.0.1 x t.0.rest_fits t.1 (leb-true 1 kind tests.0) (leb-true kind 6 tests.1) a.2 in
          let whole = Takes-then rest (head_bytes a.0.0.from a.0.0.to a.0.0.epoch) a.0.1 f.text x.1 t.0 f.takes in
          let front : Takes (kind ∷ rest) (kind ∷ (head_bytes a.0.0.from a.0.0.to a.0.0.epoch ++ f.text)) x.1 = record { parts = ap (λ (t : List ℕ). kind ∷ t) whole.parts; rest_fits = whole.rest_fits } in
          (subst (λ (t : List ℕ). Takes (kind ∷ rest) t x.1) (sym f.encoded) front, f.range)
      | inr other ↦ absurd (let wrong : unknown ≡ Ok x = other.1 in cc)
    ]

-- so a whole message is read
pub msg_reader : IsWholeReader msg msg_bytes MsgInRange
msg_reader = record { takes = msg_takes }

-- ---- and back

whole_from : (kind from to epoch : ℕ) (text : List ℕ) (m : Msg) → (leb 1 kind && leb kind 6) ≡ true → HeadInRange from to epoch → fields kind (record { from = from; to = to; epoch = epoch }) text ≡ Ok (answered m [])
    → whole msg (kind ∷ (head_bytes from to epoch ++ text)) ≡ Ok m
unfolding whole msg
whole_from kind from to epoch text m test range e =
    let rest = head_bytes from to epoch ++ text in
    ap (λ (b : Bool). cond b (head rest >>= λ h. fields kind h.0 h.1) (Err (fault_at (kind ∷ rest) Kind)) >>= λ x. alone x.0 x.1) test
    ∙ ap (λ (r : Result (Head × List ℕ) Fault). (r >>= λ h. fields kind h.0 h.1) >>= λ x. alone x.0 x.1) (head_again from to epoch text range)
    ∙ ap (λ (r : Result (Msg × List ℕ) Fault). r >>= λ x. alone x.0 x.1) e

zip_fits : (bs : List ℕ) (ls : List (List (List ℕ))) → AllByRecursion (λ b. b ≤ 2 ^ 20 - 1) bs → AllByRecursion LogInRange ls → AllByRecursion StreamFits (zip bs ls)
zip_fits [] ls ballots logs = tt
zip_fits (b ∷ bs) [] ballots logs = tt
zip_fits (b ∷ bs) (l ∷ ls) ballots logs = ((ballots.0, logs.0), zip_fits bs ls ballots.1 logs.1)

promise_again : (h : Head) (bs : List ℕ) (ls : List (List (List ℕ))) → StreamsInRange bs ls → promise h (streams_bytes (zip bs ls)) ≡ Ok (answered (Promise h.from h.to h.epoch bs ls) [])
promise_again h bs ls range =
    let ss = zip bs ls in
    let len : length ss ≡ length bs = omega (arith, length-zip bs ls, range.as_many) in
    let read : streams (streams_bytes ss) ≡ Ok (ss, []) = ap streams (sym (append-nil (streams_bytes ss))) ∙ streams_again ss [] (omega (arith, range.some)) (omega (arith, range.few)) (zip_fits bs ls (recursion_from_All (λ b. b ≤ 2 ^ 20 - 1) bs range.each_ballot) (recursion_from_All LogInRange ls range.each_log)) in
    promise-zip h (streams_bytes ss) bs ls [] range.as_many read

sync_again : (h : Head) (s : ℕ) (l : List (List ℕ)) → StreamInRange s → LogInRange l → sync h (big_bytes 1 s ++ log_bytes l) ≡ Ok (answered (Sync h.from h.to h.epoch s l) [])
unfolding sync
sync_again h s l range fits =
    let read : log (log_bytes l) ≡ Ok (l, []) = ap log (sym (append-nil (log_bytes l))) ∙ log_again l [] fits in
    ap (λ (r : Result (ℕ × List ℕ) Fault). r >>= λ stream. log stream.1 >>= λ log. Ok (answered (Sync h.from h.to h.epoch stream.0 log.0) log.1)) (within_again 1 1 WORKERS s (log_bytes l) range.0 range.1 (omega (arith, range.1)))
    ∙ ap (λ (r : Result (List (List ℕ) × List ℕ) Fault). r >>= λ log. Ok (answered (Sync h.from h.to h.epoch s log.0) log.1)) read

accept_again : (h : Head) (s n : ℕ) (b : List ℕ) → StreamInRange s → n ≤ SLOTS - 1 → EmbeddedBatchInRange b → accept h (stream_and_slot_bytes s n ++ embedded_batch_bytes b) ≡ Ok (answered (Accept h.from h.to h.epoch s n b) [])
unfolding accept
accept_again h s n b range slot fits =
    let read : embedded_batch (embedded_batch_bytes b) ≡ Ok (b, []) = ap embedded_batch (sym (append-nil (embedded_batch_bytes b))) ∙ embedded_batch_again b [] fits in
    ap (λ (r : Result ((ℕ × ℕ) × List ℕ) Fault). r >>= λ at. embedded_batch at.1 >>= λ batch. Ok (answered (Accept h.from h.to h.epoch at.0.0 at.0.1 batch.0) batch.1)) (stream_and_slot_again (SLOTS - 1) s n (embedded_batch_bytes b) (omega arith) range slot)
    ∙ ap (λ (r : Result (List ℕ × List ℕ) Fault). r >>= λ batch. Ok (answered (Accept h.from h.to h.epoch s n batch.0) batch.1)) read

stream_and_slot_alone : (s n : ℕ) → StreamInRange s → n ≤ SLOTS → stream_and_slot SLOTS (stream_and_slot_bytes s n) ≡ Ok ((s, n), [])
stream_and_slot_alone s n range below = ap (stream_and_slot SLOTS) (sym (append-nil (stream_and_slot_bytes s n))) ∙ stream_and_slot_again SLOTS s n [] (omega arith) range below

ack_again : (h : Head) (s n : ℕ) → StreamInRange s → n ≤ SLOTS → ack h (stream_and_slot_bytes s n) ≡ Ok (answered (Ack h.from h.to h.epoch s n) [])
unfolding ack
ack_again h s n range below = ap (λ (r : Result ((ℕ × ℕ) × List ℕ) Fault). r >>= λ at. Ok (answered (Ack h.from h.to h.epoch at.0.0 at.0.1) at.1)) (stream_and_slot_alone s n range below)

known_again : (h : Head) (s n : ℕ) → StreamInRange s → n ≤ SLOTS → known h (stream_and_slot_bytes s n) ≡ Ok (answered (Known h.from h.to h.epoch s n) [])
unfolding known
known_again h s n range below = ap (λ (r : Result ((ℕ × ℕ) × List ℕ) Fault). r >>= λ at. Ok (answered (Known h.from h.to h.epoch at.0.0 at.0.1) at.1)) (stream_and_slot_alone s n range below)

abbrev of_head : ℕ → ℕ → ℕ → Head
of_head from to epoch = record { from = from; to = to; epoch = epoch }

whole_again : (m : Msg) → MsgInRange m → whole msg (msg_bytes m) ≡ Ok m
whole_again (Prepare f t e) range = ap (λ (text : List ℕ). whole msg (1 ∷ text)) (sym (append-nil (head_bytes f t e))) ∙ whole_from 1 f t e [] (Prepare f t e) refl range refl
whole_again (Promise f t e bs ls) range = whole_from 2 f t e (streams_bytes (zip bs ls)) (Promise f t e bs ls) refl range.0 (promise_again (of_head f t e) bs ls range.1)
whole_again (Sync f t e s l) range = whole_from 3 f t e (big_bytes 1 s ++ log_bytes l) (Sync f t e s l) refl range.0 (sync_again (of_head f t e) s l range.1 range.2)
whole_again (Accept f t e s n b) range = whole_from 4 f t e (stream_and_slot_bytes s n ++ embedded_batch_bytes b) (Accept f t e s n b) refl range.0 (accept_again (of_head f t e) s n b range.1 range.2 range.3)
whole_again (Ack f t e s n) range = whole_from 5 f t e (stream_and_slot_bytes s n) (Ack f t e s n) refl range.0 (ack_again (of_head f t e) s n range.1 range.2)
whole_again (Known f t e s n) range = whole_from 6 f t e (stream_and_slot_bytes s n) (Known f t e s n) refl range.0 (known_again (of_head f t e) s n range.1 range.2)

-- the encoding of a message is read as that message
pub reads_back : (m : Msg) → MsgInRange m → read_msg (msg_bytes m) ≡ Ok m
reads_back m range = ap (with_offset (msg_bytes m)) (whole_again m range)
