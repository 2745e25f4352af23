-- What the column stores of a record leave of the view, one after another.
use Rattle.std.specs.Prelude.{ℕ, List, [], ◌∷◌}
use Rattle.rl_store.specs.declared.view.Held.{Held}
use Rattle.rl_store.specs.declared.view.View.{View}
use Rattle.rl_store.specs.Views.{noted}

-- the cells are stored of r
abbrev pub all_noted : (r : ℕ) (cells : List ℕ) (held : List Held) → List Held
all_noted r [] held = held
all_noted r (cell ∷ cells) held = all_noted r cells (noted r cell held)

-- the view, with those cells
abbrev pub with_cells : (v : View) (r : ℕ) (cells : List ℕ) → View
with_cells v r cells = record v { attempt = record v.attempt { held = all_noted r cells v.attempt.held } }
