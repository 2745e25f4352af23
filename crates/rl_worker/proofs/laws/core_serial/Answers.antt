-- The law of every schedule.
use Rattle.std.proofs.Common.{◌≡◌, ap, sym, ◌∙◌, length}
use Rattle.std.specs.List.{range_with_len}
use Rattle.std.proofs.lemmas.List.FromFn.{length-range_with_len}
use Rattle.rl_txn.specs.Serial.{indexes_of}
use Rattle.rl_worker.specs.Opening.{core_after, setting_of, opening_recs, at_rest, first_of, items_seen}
use Rattle.rl_worker.proofs.Whole.{law}
use Rattle.rl_worker.proofs.Settings.{ground, lawful, opens, rests_at, all_at_rest}
use Rattle.rl_worker.proofs.Settled.{settled_for_good}
use Rattle.rl_worker.proofs.Histories.{serial, indexes_same, upto_range}
use Rattle.rl_worker.proofs.Made.{stamps_rise, stamps_below}
use Rattle.rl_worker.proofs.laws.core_serial.Goals as goal

pub returns-clause-serial : goal.returns-clause-serial
returns-clause-serial c = λ l turns fits.
    let all = law (ground l fits) (lawful l fits) (first_of l.firsts) (opening_recs l.tables l.rows l.stamps) (at_rest l.firsts) turns (opens l fits) (rests_at l.firsts) in
    serial l fits (core_after l turns).decided all.rising all.serial

pub returns-clause-follow_on : goal.returns-clause-follow_on
returns-clause-follow_on c = λ l turns fits w.
    let all = law (ground l fits) (lawful l fits) (first_of l.firsts) (opening_recs l.tables l.rows l.stamps) (at_rest l.firsts) turns (opens l fits) (rests_at l.firsts) in
    let items = (core_after l turns).decided in
    let mine = all.in_lists w in
    let is : indexes_of w (items_seen l.epoch items) ≡ range_with_len (first_of l.firsts w) mine.0 = indexes_same l.epoch w items ∙ mine.1 ∙ upto_range (first_of l.firsts w) mine.0 in
    is ∙ ap (range_with_len (first_of l.firsts w)) (sym (ap length is ∙ length-range_with_len (first_of l.firsts w) mine.0))

pub returns-clause-causes : goal.returns-clause-causes
returns-clause-causes c = λ l turns fits.
    (law (ground l fits) (lawful l fits) (first_of l.firsts) (opening_recs l.tables l.rows l.stamps) (at_rest l.firsts) turns (opens l fits) (rests_at l.firsts)).causes

pub returns-clause-rising : goal.returns-clause-rising
returns-clause-rising c = λ l turns w. stamps_rise (setting_of l.tables l.lists l.epoch) (opening_recs l.tables l.rows l.stamps) (at_rest l.firsts) turns (all_at_rest l.firsts) w

pub returns-clause-below : goal.returns-clause-below
returns-clause-below c = λ l turns w. stamps_below (setting_of l.tables l.lists l.epoch) (opening_recs l.tables l.rows l.stamps) (at_rest l.firsts) turns (all_at_rest l.firsts) w

pub returns-clause-settled : goal.returns-clause-settled
returns-clause-settled c = λ s core t turns settled. settled_for_good s t turns core settled
