-- The law of a core over its own items, records and cells: what only proofs speak of.
use Rattle.std.specs.Prelude.{◌≡◌, ℕ, zero, suc, ◌<◌, ◌≤◌, List, [], ◌∷◌, length, get_or, Bool, true, false, ◌==◌, if◌then◌else◌, Option, Some, None}
use Rattle.rl_worker.specs.Acts.{no_rec, resting}
use Rattle.rl_worker.specs.Items.{CoreItem}
use Rattle.rl_worker.specs.Phases.{Answer, Read, Install, Rec, Ends, Phase, Rest, Setting}

-- whether a list writes a record
abbrev pub has : (r : ℕ) → List Install → Bool
has r [] = false
has r (x ∷ xs) = if r == x.rec then true else has r xs

-- the cells that a list writes to a record, if it does
abbrev pub row_at : (r : ℕ) → List Install → Option (List ℕ)
row_at r [] = None
row_at r (x ∷ xs) = if r == x.rec then Some x.row else row_at r xs

-- a setting, how many cells each record has, and the records as they open
pub record Ground : Type 0 where
  pub setting : Setting
  pub width : ℕ → ℕ
  pub start : ℕ → Rec

-- each read has the cells that the map has
abbrev pub AllRows : (ℕ → List ℕ) → List Read → Type 0
AllRows m [] = ℕ
AllRows m (x ∷ xs) = (m x.rec ≡ x.row) × AllRows m xs

-- the item is what its request asks for and ends with, on reads that the map has
pub record Meets (S : Setting) (m : ℕ → List ℕ) (x : CoreItem) : Type 0 where
  pub reads : List Read
  pub rows : AllRows m reads
  pub ends : S.ask x.worker x.index reads ≡ Ends x.answer x.writes

abbrev pub or_row : Option (List ℕ) → List ℕ → List ℕ
or_row None old = old
or_row (Some row) old = row

-- the map after these writes
abbrev pub apply : List Install → (ℕ → List ℕ) → ℕ → List ℕ
apply writes m r = or_row (row_at r writes) (m r)

abbrev pub Serial : Setting → (ℕ → List ℕ) → List CoreItem → Type 0
Serial S m [] = ℕ
Serial S m (x ∷ xs) = Meets S m x × Serial S (apply x.writes m) xs

-- stamps from b on, rising
abbrev pub Rising : ℕ → List CoreItem → Type 0
Rising b [] = ℕ
Rising b (x ∷ xs) = (b ≤ x.stamp) × Rising (suc x.stamp) xs

abbrev pub Distinct : List Install → Type 0
Distinct [] = ℕ
Distinct (x ∷ xs) = (has x.rec xs ≡ false) × Distinct xs

abbrev pub Widths : Ground → List Install → Type 0
Widths G [] = ℕ
Widths G (x ∷ xs) = (length x.row ≡ G.width x.rec) × Widths G xs

-- opening stamps are of earlier epochs, and what transactions write is one whole row for a record
pub record Lawful (G : Ground) : Type 0 where
  pub early : (r : ℕ) → (G.start r).stamp < G.setting.base
  pub widths : (r : ℕ) → length (G.start r).cells ≡ G.width r
  pub ends_ok : (w q : ℕ) (reads : List Read) (answer : Answer) (writes : List Install) → G.setting.ask w q reads ≡ Ends answer writes → Distinct writes × Widths G writes

-- the indexes of a worker's items, in the list's order
abbrev pub indexes : ℕ → List CoreItem → List ℕ
indexes w [] = []
indexes w (x ∷ xs) = if x.worker == w then x.index ∷ indexes w xs else indexes w xs

abbrev pub upto : ℕ → ℕ → List ℕ
upto a zero = []
upto a (suc n) = a ∷ upto (suc a) n

-- each worker's items are its requests from the first on, in order and none twice
abbrev pub InLists : (ℕ → ℕ) → List CoreItem → Type 0
InLists first xs = (w : ℕ) → (n : ℕ) × (indexes w xs ≡ upto (first w) n)

-- nobody holds a record, and each worker is at rest
abbrev pub AllFree : List Rec → Type 0
AllFree [] = ℕ
AllFree (x ∷ xs) = (x.holder ≡ None) × AllFree xs

abbrev pub AllRest : List Phase → Type 0
AllRest [] = ℕ
AllRest (p ∷ ps) = (resting p ≡ true) × AllRest ps

-- the ground is that of these records
pub record Opens (G : Ground) (recs : List Rec) (workers : List Phase) : Type 0 where
  pub free : AllFree recs
  pub rests : AllRest workers
  pub start_is : (r : ℕ) → G.start r ≡ get_or recs r no_rec
  pub inside : (w q : ℕ) (reads : List Read) (answer : Answer) (writes : List Install) → G.setting.ask w q reads ≡ Ends answer writes → (r : ℕ) → has r writes ≡ true → r < length recs

-- each worker rests before its first request
abbrev pub RestAt : (ℕ → ℕ) → List Phase → Type 0
RestAt first workers = (w : ℕ) → w < length workers → get_or workers w (Rest 0) ≡ Rest (first w)
