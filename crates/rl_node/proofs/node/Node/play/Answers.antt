use Rattle.std.proofs.Common.{◌∙◌, ap, refl, subst, sym, Some, Ok, IfErr}
use Rattle.std.proofs.lemmas.Result.{err_from_is_err_and}
use Rattle.rl_nodes.specs.Answers.{quiet}
use Rattle.rl_nodes.specs.Views.{plays}
use Rattle.rl_node.specs.Doing.{Refuses}
use Rattle.rl_node.specs.Inner.{well}
use Rattle.rl_node.specs.SetupOf.{setup_of}
use Rattle.rl_node.specs.declared.node.Phase.TheVariants.{Up}
use Rattle.rl_node.proofs.Outer.{not_failed, refuses_memory, repeats_due, stands_well}
use Rattle.rl_node.proofs.Replays.{entries_of_known, play_stands, play_count, play_fails}
use Rattle.rl_node.proofs.node.Node.play.Goals as goal

pub returns-in_err-check-clause-refused : goal.returns-in_err-check-clause-refused
returns-in_err-check-clause-refused c = λ a x s.
    let setup = setup_of c.args.setup.now in
    let n = c.args.self.now in
    let p = err_from_is_err_and c.from_residual.result c.from_residual.ensures.1 in
    subst (λ result. IfErr result (Refuses setup a n x (Ok (quiet (plays setup x.node c.args.stream))))) (sym p.1)
    (repeats_due setup (λ b y. Ok (quiet (plays setup y c.args.stream))) n p.0 (sym c.in_err-check.ensures ∙ ap Some (sym p.2)) a x s)

pub play-requires-clause-short : goal.play-requires-clause-short
play-requires-clause-short c =
    entries_of_known (setup_of c.args.setup.now) c.args.self.now c.requires.node c.in-Up.running c.in-Up.is c.args.stream c.requires.stream

pub returns-in-Ok-clause-done : goal.returns-in-Ok-clause-done
returns-in-Ok-clause-done c = λ a x s.
    let setup = setup_of c.args.setup.now in
    let n = c.args.self.now in
    let t = c.args.stream in
    let none = c.in_ok-check.ensures in
    let at = stands_well setup a n x none s in
    let h = c.in-Ok.ensures in
    record {
      new = well (plays setup x.node t);
      stands = play_stands setup a n x.node at c.in-Up.running c.in-Up.is t c.requires.stream c.play.new.self h.same h.stays c.in-Ok.count h.played h.stopped;
      done = record { could = not_failed setup a n x none s; due = refl; node = refl; can = refl };
      entries = play_count setup a n x.node at c.in-Up.running c.in-Up.is t c.requires.stream c.play.new.self h.same h.stays c.in-Ok.count h.played h.stopped;
    }

pub returns-in-Err-clause-refused : goal.returns-in-Err-clause-refused
returns-in-Err-clause-refused c = λ a x s.
    let setup = setup_of c.args.setup.now in
    let n = c.args.self.now in
    let t = c.args.stream in
    let none = c.in_ok-check.ensures in
    let h = c.in-Err.ensures in
    refuses_memory setup a n x none s (record n { phase = Up c.play.new.self }) c.note_error.new.self (Ok (quiet (plays setup x.node t)))
    (play_fails setup a n x.node (stands_well setup a n x none s) c.in-Up.running c.in-Up.is t c.requires.stream c.play.new.self h.same h.stays) c.note_error.ensures
