-- The tables of a bank.
use Rattle.std.specs.Prelude.{◌≡◌, ℕ, List, [], ◌∷◌}
use Rattle.rl_value.specs.Tables.{Table}

-- one table of so many accounts, each with a balance
pub record IsBank (size : ℕ) (tables : List Table) : Type 0 where
  pub name : List ℕ
  pub one : tables ≡ record { name = name; size = size; columns = 1 } ∷ []
