-- Which messages a link loses: some per mille by the words of a generator, and never more than
-- fifteen in a row.
use Rattle.std.specs.Prelude.{ℕ, ◌+◌, ◌%◌, Bool, ◌&&◌, nat_lt, if◌then◌else◌}
use Rattle.rand_pcg.specs.Lcg.{Lcg}
use Rattle.rand_pcg.specs.Pcg.{pcg32}
use Rattle.rl_net.specs.declared.link.TheConstants.{MOST_IN_ROW}

-- the generator, the loss per mille, and how many messages were lost in a row
pub record Losses : Type 0 where
  pub words : Lcg
  pub loss : ℕ
  pub in_row : ℕ

-- whether a word loses the next message
abbrev pub is_lost : (word : ℕ) → Losses → Bool
is_lost word l = nat_lt (word % 1000) l.loss && nat_lt l.in_row MOST_IN_ROW

-- whether the next message is lost, by the generator's next word, and the losses after it
abbrev pub next_loss : Losses → Bool × Losses
next_loss l =
    let lost = is_lost (pcg32 l.words).0 l in
    (lost, record l { words = (pcg32 l.words).1; in_row = if lost then l.in_row + 1 else 0 })
