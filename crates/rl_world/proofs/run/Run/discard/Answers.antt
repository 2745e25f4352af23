use Rattle.std.proofs.Common.{true, List, length, refl, ap, ◌∙◌, ⊎_elim}
use Rattle.rl_net.specs.declared.message.Message.{Message}
use Rattle.rl_net.specs.Messages.{bytes_sent}
use Rattle.rl_world.proofs.Dropping.{safe_told, not_sent, was_sent}
use Rattle.rl_world.proofs.Marking.{same_bytes, same_count, none_marked}
use Rattle.rl_world.proofs.run.Run.discard.Goals as goal

pub returns-in_err-discard-clause-safe : goal.returns-in_err-discard-clause-safe
returns-in_err-discard-clause-safe c =
    let r = c.args.self.now in
    safe_told r c.discard.new.self c.requires.safe
    (ap bytes_sent c.discard.ensures.net ∙ same_bytes (λ (m : Message). record m { dropped = true }) (λ m. refl) r.told.net c.args.number)
    (ap (λ (m : List Message). length m) c.discard.ensures.net ∙ same_count (λ (m : Message). record m { dropped = true }) r.told.net c.args.number)
    c.discard.ensures.sent

pub returns-clause-safe : goal.returns-clause-safe
returns-clause-safe c =
    let r = c.args.self.now in
    safe_told r c.discard.new.self c.requires.safe
    (ap bytes_sent c.discard.ensures.net ∙ same_bytes (λ (m : Message). record m { dropped = true }) (λ m. refl) r.told.net c.args.number)
    (ap (λ (m : List Message). length m) c.discard.ensures.net ∙ same_count (λ (m : Message). record m { dropped = true }) r.told.net c.args.number)
    c.discard.ensures.sent

pub returns-clause-runs : goal.returns-clause-runs
returns-clause-runs c w st =
    let r = c.args.self.now in
    let told = c.discard.new.self in
    ⊎_elim
    (λ here. was_sent r c.args.number w st told here.0 c.discard.ensures.net c.discard.ensures.sent c.discard.ensures.released here.1)
    (λ gone. not_sent r c.args.number w st told gone.0
    (c.discard.ensures.net ∙ none_marked (λ (m : Message). record m { dropped = true }) r.told.net c.args.number gone.0) c.discard.ensures.sent c.discard.ensures.released gone.1)
    c.in_ok-discard.ensures.told
