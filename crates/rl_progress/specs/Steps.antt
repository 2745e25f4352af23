-- What a load and a store tell the seat that steps.
use Rattle.std.specs.Prelude.{◌≡◌, ℕ, ◌^◌, ◌<◌, ◌≤◌, slice_index}
use Rattle.atomic_table.specs.Table.{Me, Step}
use Rattle.rl_progress.specs.declared.rule.View.{View}
use Rattle.rl_progress.specs.Rule.{loaded, published}

-- a seat's view, and no slots
abbrev pub Mine : Type 0
Mine = Me (Unit {0}) View

-- the word found is no less than what the seat had seen of it
abbrev pub Loaded : (step : Step (Unit {0})) (before : Mine) (found : ℕ) (after : Mine) → Type 0
Loaded step before found after =
    (after ≡ (loaded before.0 step.word found, before.1)) × (slice_index before.0.seen step.word ≤ found) × (found < 2 ^ 40)

-- the seq is what the seat published last
abbrev pub Published : (step : Step (Unit {0})) (before : Mine) (stored : ℕ) (after : Mine) → Type 0
Published step before stored after = after ≡ (published before.0 stored, before.1)
