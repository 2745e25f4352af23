-- A column that is put behind rows.
use Rattle.std.specs.Prelude.{List, [], ◌∷◌, ◌++◌}

-- each row gets the element of its place at its end
abbrev pub spread : {X : Type 0} → List (List X) → List X → List (List X)
spread [] xs = []
spread (row ∷ rows) [] = row ∷ rows
spread (row ∷ rows) (x ∷ xs) = (row ++ x ∷ []) ∷ spread rows xs
