-- The items that a core decides.
use Rattle.std.specs.Prelude.{ℕ, List, [], ◌∷◌, nat_lt, if◌then◌else◌}
use Rattle.rl_txn.specs.declared.write.Reply.{Reply}
use Rattle.rl_txn.specs.declared.write.Write.{Write}

-- what a transaction answers and writes
abbrev pub Answer : Type 0
Answer = Reply × List Write

-- a record that is to be written, and its new cells
pub record Install : Type 0 where
  pub rec : ℕ
  pub row : List ℕ

-- a decided attempt
pub record CoreItem : Type 0 where
  pub stamp : ℕ
  pub worker : ℕ
  pub index : ℕ
  pub answer : Answer
  pub writes : List Install

-- one more item, by stamp
abbrev pub insert_by_stamp : CoreItem → List CoreItem → List CoreItem
insert_by_stamp x [] = x ∷ []
insert_by_stamp x (y ∷ ys) = if nat_lt x.stamp y.stamp then x ∷ y ∷ ys else y ∷ insert_by_stamp x ys
