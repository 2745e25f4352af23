use Rattle.rl_worker.specs.Opening.{core_after, opening_recs, at_rest, first_of}
use Rattle.rl_worker.proofs.Histories.{serial}
use Rattle.rl_worker.proofs.Ranges.{in_range, end_in_order}
use Rattle.rl_worker.proofs.Seen.{seen_in_range}
use Rattle.rl_worker.proofs.Settings.{ground, lawful, opens, rests_at}
use Rattle.rl_worker.proofs.Whole.{law}
use Rattle.rl_worker.proofs.laws.ranges.Goals as goal

pub returns-clause-in_range : goal.returns-clause-in_range
returns-clause-in_range c = in_range

pub returns-clause-items : goal.returns-clause-items
returns-clause-items c = λ l turns fits.
    let all = law (ground l fits) (lawful l fits) (first_of l.firsts) (opening_recs l.tables l.rows l.stamps) (at_rest l.firsts) turns (opens l fits) (rests_at l.firsts) in
    seen_in_range l fits turns (serial l fits (core_after l turns).decided all.rising all.serial)

pub returns-clause-end_in_order : goal.returns-clause-end_in_order
returns-clause-end_in_order c = end_in_order
