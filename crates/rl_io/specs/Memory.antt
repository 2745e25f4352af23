-- A source and a sink in memory, as their callers see them.
use Rattle.std.specs.Prelude.{ℕ, List}

-- the bytes still to come, the most of one call, which calls fail, and how many calls were made and
-- how many of them failed
pub record SourceState : Type 0 where
  pub left : List ℕ
  pub chunk : ℕ
  pub fails : List ℕ
  pub calls : ℕ
  pub faults : ℕ

-- the bytes held, the most of one call, how many more there is room for, which calls fail, and how
-- many calls were made and how many of them failed
pub record SinkState : Type 0 where
  pub held : List ℕ
  pub chunk : ℕ
  pub room : ℕ
  pub fails : List ℕ
  pub calls : ℕ
  pub faults : ℕ
