use Rattle.std.proofs.Common.{◌≡◌, vec_len, vec_capacity, slice_index}
use Rattle.std.specs.Mem.Slots.{slots_items}
use Rattle.rl_store.proofs.Taking.{Taken}
use Rattle.rl_store.proofs.store.Store.close.Given as goal

-- the words and rows so far
abbrev pub invariant-loop-r : goal.invariant-loop-r
invariant-loop-r l =
    Taken (λ r. slice_index l.fn.self.made.columns r) (slots_items l.closed.words) l.r l.words.items l.rows.items
    × (vec_capacity l.words ≡ vec_capacity l.initial.words) × (vec_len l.words ≡ l.r)
    × (vec_capacity l.rows ≡ vec_capacity l.initial.rows) × (vec_len l.rows ≡ l.r)
