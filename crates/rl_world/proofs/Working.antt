-- What the workers of a leader do releases nothing, and but for a step refuses no attempt.
use Rattle.std.proofs.Common.{◌≡◌, ℕ, ◌-◌, ◌*◌, ◌^◌, ◌==◌, Bool, true, false, not, nat_lt, [], length, if◌then◌else◌, Option, Some, None, Ok, Err, refl, sym, subst}
use Rattle.std.specs.Option.{option_map_or}
use Rattle.rl_base.specs.Results.{◌>>=◌}
use Rattle.rl_base.specs.declared.limit.TheConstants.{SLOTS}
use Rattle.rl_txn.specs.declared.batch.Batch.{Batch}
use Rattle.rl_txn.specs.declared.batch.Batch.TheVariants.{Items}
use Rattle.rl_worker.specs.Acts.{Core, CoreRefusal, Step, Idle, turn, is_done, phase_of}
use Rattle.rl_worker.specs.OneTurn.{newly_refused}
use Rattle.rl_nodes.specs.declared.node_error.NodeError.TheVariants.{StreamFull}
use Rattle.rl_nodes.specs.Answers.{Did, Answer, Release, quiet}
use Rattle.rl_nodes.specs.Batches.{END_SEQ, idle_mark}
use Rattle.rl_nodes.specs.Nodes.{Lead, NodeState, Part, Follows, Stands, Leads, leading, pending_of, with_pending}
use Rattle.rl_nodes.specs.Setups.{Setup}
use Rattle.rl_nodes.specs.World.{World}
use Rattle.rl_nodes.specs.Works.{may_idle, proposes, proposes_items, proposes_full, stepped, steps_core, idles_core, if_open, steps, flushes, idles}
use Rattle.rl_world.specs.Releasing.{GainSuffices}
use Rattle.rl_world.proofs.Answering.{TellsPlainly}

-- nothing is released
pub nothing_gained : (w : World) (release : Option Release) → release ≡ None → GainSuffices w.released release
nothing_gained w release none = subst (GainSuffices w.released) (sym none) tt

module _ (setup : Setup) (a : ℕ) (x : NodeState) where
  -- it releases nothing, and refuses no attempt
  abbrev Silent : Did → Type 0
  Silent did = (did.refusal ≡ None) × (did.release ≡ None)

  abbrev SilentTo : Answer → Type 0
  SilentTo (Ok did) = Silent did
  SilentTo (Err e) = Unit {0}

  silent_if : (b : Bool) (d e : Answer) → SilentTo d → SilentTo e → SilentTo (if b then d else e)
  silent_if true d e p q = p
  silent_if false d e p q = q

  proposes_silent : (lead : Lead) (s : ℕ) (batch : Batch) → SilentTo (proposes setup a x lead s batch)
  proposes_silent lead s batch = silent_if (length (leading lead s).log == SLOTS) (Err (StreamFull SLOTS)) (Ok _) tt (refl, refl)

  open_silent : (does : Lead → Core → Answer) → ((lead : Lead) (core : Core) → SilentTo (does lead core)) → (part : Part) → SilentTo (if_open x part does)
  open_silent does h Follows = (refl, refl)
  open_silent does h (Stands c) = (refl, refl)
  open_silent does h (Leads lead) = by_core lead.core
    where
      by_core : (o : Option Core) → SilentTo (option_map_or (does lead) o (Ok (quiet x)))
      by_core None = (refl, refl)
      by_core (Some core) = h lead core

  flushes_silent : (s : ℕ) → SilentTo (flushes setup a x s)
  flushes_silent s = open_silent
      (λ lead core. if length (pending_of lead s) == 0 then Ok (quiet x) else proposes_items setup a x lead s (pending_of lead s))
      (λ lead core. silent_if (length (pending_of lead s) == 0) (Ok (quiet x)) (proposes_items setup a x lead s (pending_of lead s)) (refl, refl)
      (proposes_silent (with_pending lead s []) s (Items (pending_of lead s)))) x.part

  idles_silent : (s : ℕ) → SilentTo (idles setup a x s)
  idles_silent s = open_silent (λ lead core. idles_core setup a x lead s core) (λ lead core.
      let after = turn (setup.work.setting lead.epoch) core (Idle s) in
      let ends : Answer = proposes setup a x lead s (idle_mark lead.epoch END_SEQ) in
      let marks : Answer =
      proposes setup a x (record lead { core = Some after }) s (idle_mark lead.epoch (core.next - lead.epoch * 2 ^ 40)) in
      let done : Bool = is_done (setup.work.setting lead.epoch) s (phase_of core s) in
      silent_if (not (may_idle lead s core)) (Ok (quiet x)) (if done then ends else marks) (refl, refl)
      (silent_if done ends marks (proposes_silent lead s (idle_mark lead.epoch END_SEQ))
      (proposes_silent (record lead { core = Some after }) s (idle_mark lead.epoch (core.next - lead.epoch * 2 ^ 40))))) x.part

  plainly : (w : World) (answer : Answer) → SilentTo answer → TellsPlainly w answer
  plainly w answer h did e =
      let k : Silent did = subst SilentTo e h in (k.0, nothing_gained w did.release k.1)

  pub flushes_plain : (w : World) (s : ℕ) → TellsPlainly w (flushes setup a x s)
  flushes_plain w s = plainly w (flushes setup a x s) (flushes_silent s)

  pub idles_plain : (w : World) (s : ℕ) → TellsPlainly w (idles setup a x s)
  idles_plain w s = plainly w (idles setup a x s) (idles_silent s)

  -- ---- a step ----

  abbrev Kept : Answer → Type 0
  Kept (Ok did) = did.release ≡ None
  Kept (Err e) = Unit {0}

  kept_if : (b : Bool) (d e : Answer) → Kept d → Kept e → Kept (if b then d else e)
  kept_if true d e p q = p
  kept_if false d e p q = q

  kept_of : (answer : Answer) → SilentTo answer → Kept answer
  kept_of (Ok did) h = h.1
  kept_of (Err e) h = tt

  refused_kept : (answer : Answer) (f : Option CoreRefusal) → Kept answer → Kept (answer >>= λ did. Ok (record did { refusal = f }))
  refused_kept (Ok did) f h = h
  refused_kept (Err e) f h = tt

  open_kept : (does : Lead → Core → Answer) → ((lead : Lead) (core : Core) → Kept (does lead core)) → (part : Part) → Kept (if_open x part does)
  open_kept does h Follows = refl
  open_kept does h (Stands c) = refl
  open_kept does h (Leads lead) = by_core lead.core
    where
      by_core : (o : Option Core) → Kept (option_map_or (does lead) o (Ok (quiet x)))
      by_core None = refl
      by_core (Some core) = h lead core

  steps_kept : (s : ℕ) → Kept (steps setup a x s)
  steps_kept s = open_kept (λ lead core. steps_core setup a x lead s core) (λ lead core.
      let after = turn (setup.work.setting lead.epoch) core (Step s) in
      let next : Lead = stepped lead core after s in
      refused_kept (proposes_full setup a x next s) (newly_refused core after)
      (kept_if (nat_lt (length (pending_of next s)) setup.batch) (Ok (quiet (record x { part = Leads next })))
      (proposes_items setup a x next s (pending_of next s)) refl
      (kept_of (proposes_items setup a x next s (pending_of next s)) (proposes_silent (with_pending next s []) s (Items (pending_of next s))))))
      x.part

  pub steps_release : (s : ℕ) (did : Did) → steps setup a x s ≡ Ok did → did.release ≡ None
  steps_release s did e = subst Kept e (steps_kept s)
