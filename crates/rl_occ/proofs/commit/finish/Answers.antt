use Rattle.std.proofs.Common.{ℕ, ◌+◌, ◌*◌, map, length, ap, sym, ◌∙◌, subst}
use lib.Seq.{take-length}
use Rattle.rl_store.specs.declared.view.View.{View}
use Rattle.rl_occ.specs.Committing.{IsToInstall}
use Rattle.rl_occ.specs.Fits.{rec_of}
use Rattle.rl_occ.proofs.Finishes.{ready}
use Rattle.rl_occ.proofs.Locks.{locks_apart, locks_below}
use Rattle.rl_occ.proofs.commit.finish.Goals as goal

pub validate_all-requires-clause-apart : goal.validate_all-requires-clause-apart
validate_all-requires-clause-apart c =
    let writes = c.args.writes.now in
    locks_apart c.args.schema.now writes c.requires.writes (length writes) c.args.locks.now (c.requires.locks ∙ ap (map (rec_of c.args.schema.now)) (sym (take-length writes)))

pub release-requires-clause-records : goal.release-requires-clause-records
release-requires-clause-records c =
    let writes = c.args.writes.now in
    locks_below c.args.schema.now writes c.requires.writes (length writes) c.args.locks.now (c.requires.locks ∙ ap (map (rec_of c.args.schema.now)) (sym (take-length writes))) c.args.store.now.made c.requires.store

pub install_all-requires-clause-decided : goal.install_all-requires-clause-decided
install_all-requires-clause-decided c =
    let t : ℕ = c.args.store.now.made.epoch * 1099511627776 + c.args.seq in
    subst (λ (u : View). IsToInstall c.args.schema.now u t c.args.writes.now) (sym c.in_default.ensures.valid)
    (ready c.args.pass.now.view c.args.seen.now c.args.locks.now c.requires.drawn c.args.schema.now c.args.writes.now t c.requires.locks c.requires.stamp)
