-- The core after an act, part by part.
use Rattle.std.proofs.Common.{◌≡◌, ℕ, List, ◌∷◌, get_or, set, refl}
use Rattle.rl_worker.specs.Phases.{Phase, Setting}
use Rattle.rl_worker.specs.Items.{CoreItem, insert_by_stamp}
use Rattle.rl_worker.specs.Acts.{CoreRefusal, Effect, Quiet, Drew, Won, Ended, Lost, ActResult, Core, no_rec, target, act_result, after_effect, core_after_act, phase_of, micro, settle, begin}
use Rattle.rl_worker.specs.Attempts.{next_after}

-- the decided items after an effect
abbrev pub decided_after : List CoreItem → Effect → List CoreItem
decided_after xs (Won x) = insert_by_stamp x xs
decided_after xs e = xs

-- the items that have ended after an effect
abbrev pub ended_after : List CoreItem → Effect → List CoreItem
ended_after xs (Ended x) = x ∷ xs
ended_after xs e = xs

-- the refusals after an effect
abbrev pub refusals_after : List CoreRefusal → Effect → List CoreRefusal
refusals_after xs (Lost f) = f ∷ xs
refusals_after xs e = xs

-- what was made after an effect
abbrev pub made_after : List (ℕ × ℕ) → Effect → List (ℕ × ℕ)
made_after xs (Won x) = (x.worker, x.stamp) ∷ xs
made_after xs e = xs

-- the core after worker w made an act on record k
abbrev pub parts : Core → (w k : ℕ) → ActResult → Core
parts c w k m = record {
  recs = set c.recs k m.rec;
  workers = set c.workers w m.phase;
  next = next_after c.next m.effect;
  decided = decided_after c.decided m.effect;
  ended = ended_after c.ended m.effect;
  refusals = refusals_after c.refusals m.effect;
  made = made_after c.made m.effect;
}

-- one small act of worker w, which is in phase p
abbrev pub micro_at : Setting → Core → (w : ℕ) → (p : Phase) → Core
micro_at S c w p = parts c w (target p) (act_result S w c.next p (get_or c.recs (target p) no_rec))

pub act_parts : (c : Core) (w k : ℕ) (m : ActResult) → core_after_act c w k m ≡ parts c w k m
act_parts c w k m = go m.effect
  where
    go : (e : Effect) → after_effect (record c { recs = set c.recs k m.rec; workers = set c.workers w m.phase }) e
        ≡ record { recs = set c.recs k m.rec; workers = set c.workers w m.phase; next = next_after c.next e; decided = decided_after c.decided e; ended = ended_after c.ended e; refusals = refusals_after c.refusals e; made = made_after c.made e }
    go Quiet = refl
    go Drew = refl
    go (Won x) = refl
    go (Ended x) = refl
    go (Lost f) = refl

pub micro_parts : (S : Setting) (c : Core) (w : ℕ) → micro S c w ≡ micro_at S c w (phase_of c w)
micro_parts S c w = act_parts c w (target (phase_of c w)) (act_result S w c.next (phase_of c w) (get_or c.recs (target (phase_of c w)) no_rec))

-- a step that does something
abbrev pub step_on : Setting → Core → (w : ℕ) → Core
step_on S c w = settle S (settle S (micro S (begin S c w) w) w) w
