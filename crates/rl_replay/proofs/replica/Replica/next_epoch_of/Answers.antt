use Rattle.std.proofs.Common.{◌≡◌, ◌-◌, ◌∙◌, ap, Option, Some, None, ℕ}
use Rattle.std.specs.Prelude.{slice_index, slice_get, IsSomeAnd}
use Rattle.std.specs.Option.{option_map}
use Rattle.rl_replay.specs.Entries.{Entry, entries_of, entry_at}
use Rattle.rl_replay.proofs.Standing.{found_entry}
use Rattle.rl_replay.proofs.replica.Replica.next_epoch_of.Goals as goal

epoch_is : (n : ℕ) (e : Option Entry) → IsSomeAnd e (λ x. n ≡ x.stamp.epoch) → Some n ≡ option_map (λ (x : Entry). x.stamp.epoch) e
epoch_is n None h = absurd h
epoch_is n (Some x) h = ap Some h

pub returns : goal.returns
returns c =
    let n = slice_index c.args.self.now.replaying.played (c.args.stream - 1) in
    epoch_is c.epoch_at.result (slice_get (entries_of c.in_ok-batch.batch.now) c.in_ok-batch.at.index) c.epoch_at.ensures
    ∙ ap (option_map (λ (x : Entry). x.stamp.epoch)) (found_entry c.first_batches-known.result.now n c.in_ok-batch.batch.now c.in_ok-batch.at c.in_ok-batch.ensures.found ∙ ap (λ z. entry_at z n) c.first_batches-known.ensures)
