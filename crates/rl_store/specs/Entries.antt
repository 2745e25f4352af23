-- Entries: finished items and drawn attempts, as one kind. Each has a stamp, what it read, and what it holds or
-- has closed.
use Rattle.std.specs.Prelude.{◌≡◌, ℕ, Bool, true, not, List, [], ◌∷◌, ◌++◌, map, Option, Some, None}
use mathlib.Core.Option.{some}
use lib.ListN.{get_elem?}
use Rattle.rl_store.specs.declared.view.Read.{Read}
use Rattle.rl_store.specs.declared.view.Held.{Held}
use Rattle.rl_store.specs.declared.view.Write.{Write}
use Rattle.rl_store.specs.declared.view.Attempt.{Attempt}
use Rattle.rl_store.specs.declared.view.Item.{Item}
use Rattle.rl_store.specs.declared.view.View.{View}

-- a row, or that there is none
abbrev pub RowOf : Type 0
RowOf = Option (List ℕ)

-- x stands in the list
abbrev pub In : {X : Type 0} → (x : X) (xs : List X) → Type 0
In x xs = (place : ℕ) × (get_elem? xs place ≡ some x)

-- an item, or an attempt that has drawn its stamp
pub record Entry : Type 0 where
  pub stamp : ℕ
  pub reads : List Read
  -- the records whose read was validated
  pub validated : List ℕ
  -- the records that it holds or has closed
  pub marks : List ℕ
  -- the writes that it has closed
  pub closed : List Write
  -- it isn't given up
  pub live : Bool

-- the record of a read
abbrev pub read_rec : Read → ℕ
read_rec x = x.rec

-- the record of a hold
abbrev pub held_rec : Held → ℕ
held_rec x = x.rec

-- the record of a write
abbrev pub write_rec : Write → ℕ
write_rec x = x.rec

-- every read of an item counts as validated
abbrev pub of_item : (item : Item) → Entry
of_item item = record {
  stamp = item.stamp;
  reads = item.reads;
  validated = map read_rec item.reads;
  marks = map write_rec item.writes;
  closed = item.writes;
  live = true;
}

-- an attempt that has drawn this stamp
abbrev pub of_attempt : (attempt : Attempt) (stamp : ℕ) → Entry
of_attempt attempt stamp = record {
  stamp = stamp;
  reads = attempt.reads;
  validated = attempt.validated;
  marks = map held_rec attempt.held ++ map write_rec attempt.closed;
  closed = attempt.closed;
  live = not attempt.given_up;
}

-- an attempt is an entry once it has drawn
abbrev pub drawn_entry : (attempt : Attempt) (drawn : Option ℕ) → List Entry
drawn_entry attempt None = []
drawn_entry attempt (Some stamp) = of_attempt attempt stamp ∷ []

-- the entries of a view: its items in the order of their draws, and then its attempt
abbrev pub entries : (v : View) → List Entry
entries v = map of_item v.items ++ drawn_entry v.attempt v.attempt.drawn

-- it isn't given up, and each of its reads is validated
abbrev pub Decided : (e : Entry) → Type 0
Decided e = (e.live ≡ true) × ((x : Read) → In x e.reads → In x.rec e.validated)

-- the attempt has drawn and is decided
abbrev pub IsDecided : (attempt : Attempt) → Type 0
IsDecided attempt = (stamp : ℕ) × (attempt.drawn ≡ Some stamp) × Decided (of_attempt attempt stamp)

-- the view's attempt holds the record
abbrev pub Holds : (v : View) (r : ℕ) → Type 0
Holds v r = (h : Held) × In h v.attempt.held × (h.rec ≡ r)

-- some view has the entry
abbrev pub Stands : (views : List View) (e : Entry) → Type 0
Stands views e = (id : ℕ) × (v : View) × (get_elem? views id ≡ some v) × In e (entries v)

-- some view holds the record
abbrev pub Locks : (views : List View) (r : ℕ) → Type 0
Locks views r = (id : ℕ) × (v : View) × (get_elem? views id ≡ some v) × Holds v r

-- some view holds the record, and its attempt is decided
abbrev pub Installs : (views : List View) (r : ℕ) → Type 0
Installs views r = (id : ℕ) × (v : View) × (get_elem? views id ≡ some v) × Holds v r × IsDecided v.attempt
