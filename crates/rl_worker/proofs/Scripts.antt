-- The acts, computed on worked schedules.
use Rattle.std.proofs.Common.{◌≡◌, ℕ, zero, suc, ◌+◌, List, [], ◌∷◌, ◌++◌, map, get_or, nat_le, ◌==◌, if◌then◌else◌, Some, None, refl, replicate}
use Rattle.rl_txn.specs.declared.write.End.TheVariants.{Done}
use Rattle.rl_worker.specs.Phases.{Answer, Read, Rec, Outcome, Wants, Ends, Rest, Setting}
use Rattle.rl_worker.specs.Items.{CoreItem}
use Rattle.rl_worker.specs.Acts.{Core, Locked, Changed, Turn, Step, opening_core, after_turns}

no_answer : Answer
no_answer = (record { outs = []; end = Done }, [])

abbrev free : ℕ → List ℕ → Rec
free stamp cells = record { stamp = stamp; holder = None; cells = cells }

-- n steps of a worker
abbrev steps : ℕ → ℕ → List Turn
steps w n = replicate n (Step w)

abbrev first_stamp : ℕ
first_stamp = 1099511627778

abbrev schedule : (ℕ → ℕ → List Read → Outcome) → List Rec → List Turn → Core
schedule ask recs turns =
    let S : Setting = record {
      there = λ w q. q == 1;
      ask = ask;
      base = first_stamp;
      last = 2199023255551;
    } in after_turns S (opening_core S recs (Rest 0 ∷ Rest 1 ∷ Rest 1 ∷ [])) turns

abbrev stamps : Core → List (ℕ × ℕ)
stamps c = map {B = ℕ × ℕ} (λ (x : CoreItem). (x.stamp, x.worker)) c.decided

-- both workers add 1 to the one column of record 0
abbrev adds : ℕ → ℕ → List Read → Outcome
adds w q [] = Wants 0
adds w q (x ∷ xs) = Ends (record { outs = []; end = Done }, []) (record { rec = 0; row = 1 ∷ (get_or x.row 1 0 + 1) ∷ [] } ∷ [])

-- one that read before the other wrote is refused after its draw, and its seq is lost
one_refused : Core
one_refused = schedule adds (free 0 (1 ∷ 10 ∷ []) ∷ []) (steps 2 4 ++ steps 1 10 ++ steps 2 3 ++ steps 2 11)

changed_stamps : stamps one_refused ≡ (first_stamp, 1) ∷ (first_stamp + 2, 2) ∷ []
unfolding one_refused
changed_stamps = refl

changed_cause : one_refused.refusals ≡ record { worker = 2; index = 1; rec = 0; cause = Changed (Some 2) 0 first_stamp } ∷ []
unfolding one_refused
changed_cause = refl

changed_cells : map (λ (x : Rec). x.cells) one_refused.recs ≡ (1 ∷ 12 ∷ []) ∷ []
unfolding one_refused
changed_cells = refl

-- one that finds the other's lock is refused with no lock held
one_locked : Core
one_locked = schedule adds (free 0 (1 ∷ 10 ∷ []) ∷ []) (steps 1 5 ++ steps 2 1 ++ steps 1 5 ++ steps 2 10)

locked_stamps : stamps one_locked ≡ (first_stamp, 1) ∷ (first_stamp + 1, 2) ∷ []
unfolding one_locked
locked_stamps = refl

locked_cause : one_locked.refusals ≡ record { worker = 2; index = 1; rec = 0; cause = Locked (Some 1) 0 } ∷ []
unfolding one_locked
locked_cause = refl

-- each reads both records, and takes from its own where the sum is 2 or more
abbrev skews : ℕ → ℕ → List Read → Outcome
skews w q [] = Wants 0
skews w q (x ∷ []) = Wants 1
skews w q (x ∷ y ∷ zs) =
    if nat_le 2 (get_or x.row 1 0 + get_or y.row 1 0) then Ends (record { outs = []; end = Done }, []) (record { rec = (if w == 1 then 0 else 1); row = 1 ∷ 0 ∷ [] } ∷ [])
    else Ends (record { outs = []; end = Done }, []) []

-- write skew: the first to validate finds the other's lock, and its second attempt declines
skewed : Core
skewed = schedule skews (free 0 (1 ∷ 1 ∷ []) ∷ free 0 (1 ∷ 1 ∷ []) ∷ []) (steps 1 8 ++ steps 2 8 ++ steps 1 2 ++ steps 2 2 ++ steps 1 2 ++ steps 1 1 ++ steps 2 5 ++ steps 1 11)

skewed_stamps : stamps skewed ≡ (first_stamp + 1, 2) ∷ (first_stamp + 2, 1) ∷ []
unfolding skewed
skewed_stamps = refl

skewed_cause : skewed.refusals ≡ record { worker = 1; index = 1; rec = 1; cause = Locked (Some 2) 0 } ∷ []
unfolding skewed
skewed_cause = refl

-- worker 1 writes two columns, and worker 2 reads them
abbrev pair : ℕ → ℕ → List Read → Outcome
pair (suc zero) q reads = Ends (record { outs = []; end = Done }, []) (record { rec = 0; row = 1 ∷ 2 ∷ 2 ∷ [] } ∷ [])
pair w q [] = Wants 0
pair w q (x ∷ xs) = Ends (record { outs = get_or x.row 1 0 ∷ get_or x.row 2 0 ∷ []; end = Done }, []) []

-- no torn row: the read that began before the write is refused, and its second attempt has both new columns
torn : Core
torn = schedule pair (free 0 (1 ∷ 1 ∷ 1 ∷ []) ∷ []) (steps 2 3 ++ steps 1 6 ++ steps 2 2 ++ steps 2 7)

torn_outs : map (λ (x : CoreItem). x.answer.0.outs) torn.decided ≡ [] ∷ (2 ∷ 2 ∷ []) ∷ []
unfolding torn
torn_outs = refl

torn_cause : torn.refusals ≡ record { worker = 2; index = 1; rec = 0; cause = Changed None 0 first_stamp } ∷ []
unfolding torn
torn_cause = refl
