-- The rule over the shared words and over what each seat knows. Word s is the last seq that the seat of
-- stream s published, or 0.
use Rattle.std.specs.Prelude.{◌≡◌, ℕ, ◌+◌, ◌^◌, ◌<◌, ◌≤◌, List, [], ◌∷◌, length, map, max, replicate, slice_index, slice_set}
use mathlib.Core.Option.{some}
use lib.ListN.{get_elem?}
use Rattle.atomic_table.specs.Table.{State}
use Rattle.rl_progress.specs.declared.rule.View.{View}

-- the words and all views, as one step finds them
abbrev pub Shared : Type 0
Shared = State (Unit {0}) View

-- the stream is the view's to publish
abbrev pub Publishes : (v : View) (stream : ℕ) → Type 0
Publishes v stream = (v.first ≤ stream) × (stream < v.end)

-- it publishes one stream
abbrev pub IsPublisher : (v : View) → Type 0
IsPublisher v = v.end ≡ v.first + 1

-- it publishes no stream
abbrev pub IsReader : (v : View) → Type 0
IsReader v = v.end ≤ v.first

-- what the rule says of one view
pub record ViewFits (words : List ℕ) (v : View) : Type 0 where
  -- no word is below what the view has seen of it
  pub seen : (s : ℕ) → slice_index v.seen s ≤ slice_index words s
  -- the word of its own stream is what it published last, and it has seen that
  pub own : (s : ℕ) → Publishes v s → (slice_index words s ≡ v.last) × (slice_index v.seen s ≡ v.last)

-- no stream is published by both
abbrev pub Apart : (v w : View) → Type 0
Apart v w = (s : ℕ) → Publishes v s → Publishes w s → ⊥

-- the rule
pub record ProgressRule (streams : ℕ) (shared : Shared) : Type 0 where
  -- there is a word for each stream
  pub counted : length shared.words ≡ streams
  -- each is below the end of seqs
  pub small : (s : ℕ) → slice_index shared.words s < 2 ^ 40
  -- each view fits the words
  pub fits : (id : ℕ) (v : View) → get_elem? shared.views id ≡ some v → ViewFits shared.words v
  -- some seat publishes each stream
  pub owned : (s : ℕ) → s < streams → (id : ℕ) × (v : View) × (get_elem? shared.views id ≡ some v) × Publishes v s
  -- and no other one does
  pub apart : (id other : ℕ) (v w : View) → ¬ (id ≡ other) → get_elem? shared.views id ≡ some v
      → get_elem? shared.views other ≡ some w → Apart v w

-- the view from which the publishing seats are split, after those of the first k streams
abbrev pub dealer : (streams k : ℕ) → View
dealer streams k = record { first = k; end = streams; last = 0; seen = replicate streams 0; loads = replicate streams 0 }

-- what is left of it, once its first stream went to a seat of its own
abbrev pub rest_of : (v : View) → View
rest_of v = record v { first = v.first + 1 }

-- the seat of that stream
abbrev pub dealt : (v : View) → View
dealt v = record v { end = v.first + 1 }

-- of stream s, as it is made
abbrev pub publisher : (streams s : ℕ) → View
publisher streams s = dealt (dealer streams s)

-- it publishes nothing, has seen what v has, and has loaded nothing yet
abbrev pub reader : (v : View) → View
reader v = record { first = v.first; end = v.first; last = 0; seen = v.seen; loads = map (λ _. 0) v.loads }

-- the greater of the two at each place
abbrev pub greater_of_each : (xs ys : List ℕ) → List ℕ
greater_of_each [] ys = []
greater_of_each (x ∷ xs) [] = x ∷ xs
greater_of_each (x ∷ xs) (y ∷ ys) = max x y ∷ greater_of_each xs ys

-- it has seen what either had seen
abbrev pub joined : (v w : View) → View
joined v w = record v { seen = greater_of_each v.seen w.seen }

-- what is left of a view that was joined to another
abbrev pub spent : View
spent = record { first = 0; end = 0; last = 0; seen = []; loads = [] }

-- a load of word s: what was found is what has been seen of it, and the load is counted
abbrev pub loaded : (v : View) (s found : ℕ) → View
loaded v s found = record v { seen = slice_set v.seen s found; loads = slice_set v.loads s (slice_index v.loads s + 1) }

-- a store to its own stream's word
abbrev pub published : (v : View) (seq : ℕ) → View
published v seq = record v { last = seq; seen = slice_set v.seen v.first seq }
