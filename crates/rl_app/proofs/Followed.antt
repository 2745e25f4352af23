-- Turns one after another.
use Rattle.std.proofs.Common.{◌≡◌, ℕ, zero, suc, ◌+◌, ◌<◌, List, [], ◌∷◌, ◌++◌, length, get_or, take, replicate, refl, sym, ap, ◌∙◌, arith}
use Rattle.std.proofs.lemmas.Grind.{flat_map-append}
use Rattle.std.proofs.lemmas.List.{take_more, append-nil, get_or_default}
use Rattle.rl_events.specs.declared.event.Event.{Event}
use Rattle.rl_worker.specs.Phases.{Setting}
use Rattle.rl_worker.specs.Acts.{Core, Turn, turn, after_turns}
use Rattle.rl_app.specs.Runs.{turns_in, turns_of, leader_of}
use Rattle.rl_events.specs.declared.event.Event.TheVariants as event
use Rattle.rl_script.specs.declared.script.Script.{Script}
use Rattle.rl_worker.specs.Opening.{setting_of, core_after}

pub in_turn : (s : Setting) (core : Core) (ts us : List Turn) → after_turns s core (ts ++ us) ≡ after_turns s (after_turns s core ts) us
in_turn s core [] us = refl
in_turn s core (t ∷ ts) us = in_turn s (turn s core t) ts us

pub one_more : (s : Setting) (core : Core) (n : ℕ) (t : Turn) → after_turns s core (replicate (n + 1) t) ≡ turn s (after_turns s core (replicate n t)) t
one_more s core zero t = refl
one_more s core (suc n) t = let e : suc n + 1 ≡ suc (n + 1) = omega arith in ap (λ k. after_turns s core (replicate k t)) e ∙ one_more s (turn s core t) n t

pub turns_more : (events : List Event) (i : ℕ) (e : Event) → i < length events → e ≡ get_or events i e → turns_of (take (i + 1) events) ≡ turns_of (take i events) ++ turns_in e
turns_more events i e l is =
    ap turns_of (take_more events i e l ∙ ap (λ z. take i events ++ z ∷ []) (sym is)) ∙ flat_map-append turns_in (take i events) (e ∷ [])
    ∙ ap (λ z. turns_of (take i events) ++ z) (append-nil (turns_in e))

-- the core after one more event of a script
pub after_more : (script : Script) (i : ℕ) → i < length script.events
    → core_after (leader_of script) (turns_of (take (i + 1) script.events)) ≡ after_turns (setting_of script.schema script.lists 1) (core_after (leader_of script) (turns_of (take i script.events))) (turns_in (get_or script.events i (event.Step 0 0 0)))
after_more script i l =
    let e = get_or script.events i (event.Step 0 0 0) in
    ap (core_after (leader_of script)) (turns_more script.events i e l (get_or_default script.events i (event.Step 0 0 0) e l))
    ∙ in_turn (setting_of script.schema script.lists 1) _ (turns_of (take i script.events)) (turns_in e)
