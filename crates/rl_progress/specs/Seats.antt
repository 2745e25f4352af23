-- What the calls say of a seat.
use Rattle.std.specs.Prelude.{◌≡◌, ℕ, ◌+◌, ◌<◌, ◌≤◌, List, [], length, map, slice_index}
use Rattle.std.specs.List.{range_with_len}
use Rattle.atomic_table.specs.Seated.{TableId}
use Rattle.rl_progress.specs.declared.rule.View.{View}
use Rattle.rl_progress.specs.Rule.{publisher}
use Rattle.rl_progress.specs.Steps.{Mine}

-- whose words it publishes and reads, and what it knows
pub record SeatOf : Type 0 where
  pub table : TableId
  pub view : View

-- what a seat keeps beside its view: the first stream of its own as a number
pub record SeatFits (stream : ℕ) (table : TableId) (me : Mine) : Type 0 where
  pub no_slots : me.1 ≡ []
  pub own : stream ≡ me.0.first
  pub inside : stream < table.words
  -- it has something of each word
  pub seen : length me.0.seen ≡ table.words
  pub loads : length me.0.loads ≡ table.words

-- one publishing seat for each stream
abbrev pub publishers : (table : TableId) → List SeatOf
publishers table = map (λ s. record { table = table; view = publisher table.words s }) (range_with_len 0 table.words)

-- the least of some numbers
pub record IsLeast (xs : List ℕ) (least : ℕ) : Type 0 where
  -- none is below it
  pub below : (s : ℕ) → s < length xs → least ≤ slice_index xs s
  -- and it is one of them
  pub among : (s : ℕ) × (s < length xs) × (slice_index xs s ≡ least)

-- the same seat, after it loaded each word once
pub record LoadedEach (before after : View) : Type 0 where
  -- it publishes what it did
  pub first : after.first ≡ before.first
  pub end : after.end ≡ before.end
  pub last : after.last ≡ before.last
  -- each count of loads rose by 1
  pub counted : after.loads ≡ map (λ n. n + 1) before.loads
  -- nothing that it had seen fell
  pub seen : (s : ℕ) → slice_index before.seen s ≤ slice_index after.seen s
