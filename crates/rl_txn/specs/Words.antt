-- Numbers of eight bytes, in rows and in what transactions answer and write.
use Rattle.std.specs.Prelude.{◌≡◌, ℕ, ◌^◌, ◌<◌, List, All, Some, IfSome}
use Rattle.std.specs.FinMap as finite
use Rattle.rl_value.specs.Rows.{Rows}
use Rattle.rl_txn.specs.declared.item.Item.{Item}
use Rattle.rl_txn.specs.declared.write.Reply.{Reply}
use Rattle.rl_txn.specs.declared.write.Write.{Write}

-- numbers of eight bytes
abbrev pub AreWords : List ℕ → Type 0
AreWords xs = All (λ x. x < 2 ^ 64) xs

-- the columns of a write are such numbers
abbrev pub WriteHasWords : Write → Type 0
WriteHasWords w = IfSome w.row AreWords

-- and so are the outs and the columns of an item
pub record ItemHasWords (x : Item) : Type 0 where
  pub outs : AreWords x.reply.outs
  pub writes : All WriteHasWords x.writes

-- or of an answer and its writes
pub record AnswerHasWords (reply : Reply) (made : List Write) : Type 0 where
  pub outs : AreWords reply.outs
  pub writes : All WriteHasWords made

-- and the columns of all rows
abbrev pub RowsHaveWords : Rows → Type 0
RowsHaveWords rows = (t k : ℕ) (row : List ℕ) → finite.get rows (t, k) ≡ Some row → AreWords row
