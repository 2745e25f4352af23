-- What each kind of step leaves of the view of the pass that steps.
use Rattle.std.specs.Prelude.{◌≡◌, ◌≢◌, ℕ, ◌+◌, ◌-◌, max, ◌==◌, if◌then◌else◌, List, [], ◌∷◌, ◌++◌, Bool, true, false, not, ◌&&◌, ◌||◌, Option, Some, None}
use Rattle.rl_store.specs.declared.view.Reading.{Reading}
use Rattle.rl_store.specs.declared.view.Read.{Read}
use Rattle.rl_store.specs.declared.view.Held.{Held}
use Rattle.rl_store.specs.declared.view.Refused.{Refused}
use Rattle.rl_store.specs.declared.view.Attempt.{Attempt}
use Rattle.rl_store.specs.declared.view.View.{View}
use Rattle.rl_store.specs.Entries.{In, RowOf}

-- no attempt: it has read, held and drawn nothing
abbrev pub blank : Attempt
blank = record { reading = None; reads = []; held = []; drawn = None; validated = []; closed = []; given_up = false }

-- a pass at rest
abbrev pub IsAtRest : (v : View) → Type 0
IsAtRest v = v.attempt ≡ blank

-- the attempt has no read of the record
abbrev pub HasNotRead : (v : View) (r : ℕ) → Type 0
HasNotRead v r = (x : Read) → In x v.attempt.reads → x.rec ≢ r

-- a word that was found locked
abbrev pub locked_at : (r found : ℕ) → Refused
locked_at r found = record { rec = Some r; seen = None; found = found }

-- a seq that was drawn above a limit
abbrev pub above_at : (found : ℕ) → Refused
above_at found = record { rec = None; seen = None; found = found }

-- a word that was found to be another than the one seen
abbrev pub changed_at : (r seen found : ℕ) → Refused
changed_at r seen found = record { rec = Some r; seen = Some seen; found = found }

-- the attempt is over
abbrev pub rested : (v : View) → View
rested v = record v { attempt = blank }

-- a refusal of an attempt that holds nothing, which ends it
abbrev pub refused : (v : View) (why : Refused) → View
refused v why = record v { refusals = v.refusals + 1; last = Some why; attempt = blank }

-- a refusal of an attempt that holds a record, which gives it up
abbrev pub gave_up : (v : View) (why : Refused) → View
gave_up v why = record v { refusals = v.refusals + 1; last = Some why; attempt = record v.attempt { given_up = true } }

-- a refusal, by the records that the attempt holds
abbrev pub stopped : (held : List Held) (v : View) (why : Refused) → View
stopped [] v why = refused v why
stopped (h ∷ hs) v why = gave_up v why

-- First load: the read of r begins at the stamp that was found.
abbrev pub begun : (v : View) (r stamp : ℕ) → View
begun v r stamp = record v { attempt = record v.attempt { reading = Some (record { rec = r; seen = stamp; cells = [] }) } }

-- Column load: one cell more.
abbrev pub loaded : (v : View) (x : Reading) (cell : ℕ) → View
loaded v x cell =
    record v { attempt = record v.attempt { reading = Some (record { rec = x.rec; seen = x.seen; cells = x.cells ++ cell ∷ [] }) } }

-- the read of r has these cells
abbrev pub reading_of : (r stamp : ℕ) (cells : List ℕ) → Reading
reading_of r stamp cells = record { rec = r; seen = stamp; cells = cells }

-- the view, in the midst of that read
abbrev pub with_reading : (v : View) (x : Reading) → View
with_reading v x = record v { attempt = record v.attempt { reading = Some x } }

-- Confirming load: the read counts.
abbrev pub with_read : (v : View) (r stamp : ℕ) (row : RowOf) → View
with_read v r stamp row =
    record v { attempt = record v.attempt { reading = None; reads = v.attempt.reads ++ record { rec = r; stamp = stamp; row = row } ∷ [] } }

-- Split: the pass keeps the rest of the tries,
abbrev pub split_left : (tries : ℕ) (v : View) → View
split_left tries v = record v { tries = v.tries - tries; splits = v.splits + 1 }

-- and a new pass at rest has these.
abbrev pub split_right : (tries : ℕ) (v : View) → View
split_right tries v =
    record { tries = tries; draws = 0; items = []; refusals = 0; last = None; splits = v.splits + 1; attempt = blank }

-- Join: items, tries and draws of both.
abbrev pub joined : (v w : View) → View
joined v w = record v {
  tries = v.tries + w.tries;
  draws = v.draws + w.draws;
  items = v.items ++ w.items;
  splits = max v.splits w.splits;
}

-- what is left of the view that was joined
abbrev pub spent : View
spent = record { tries = 0; draws = 0; items = []; refusals = 0; last = None; splits = 0; attempt = blank }

-- Lock: the attempt holds r, whose word was this.
abbrev pub with_lock : (v : View) (r word : ℕ) → View
with_lock v r word =
    record v { attempt = record v.attempt { held = v.attempt.held ++ record { rec = r; old = word; stored = [] } ∷ [] } }

-- whether the number stands in the list
abbrev pub is_in : (n : ℕ) (xs : List ℕ) → Bool
is_in n [] = false
is_in n (x ∷ xs) = (x == n) || is_in n xs

-- whether each of the reads is of a validated record
abbrev pub all_validated : (reads : List Read) (validated : List ℕ) → Bool
all_validated [] validated = true
all_validated (x ∷ reads) validated = is_in x.rec validated && all_validated reads validated

-- whether an attempt that has drawn is decided: it isn't given up, and each of its reads is validated
abbrev pub is_decided : (attempt : Attempt) → Bool
is_decided attempt = not attempt.given_up && all_validated attempt.reads attempt.validated

-- the attempt becomes an item, with the writes that it has closed
abbrev pub finished : (v : View) (stamp : ℕ) → View
finished v stamp = record v {
  items = v.items ++ record { stamp = stamp; reads = v.attempt.reads; writes = v.attempt.closed } ∷ [];
  attempt = blank;
}

-- after a decision, by the records that are held: with none to close the attempt is an item at once
abbrev pub settled_as : (held : List Held) (decided : Bool) (drawn : Option ℕ) (v : View) → View
settled_as [] true None v = v
settled_as [] true (Some stamp) v = finished v stamp
settled_as [] false drawn v = v
settled_as (h ∷ hs) decided drawn v = v

-- a decided attempt that holds no record is an item
abbrev pub settled : (v : View) → View
settled v = settled_as v.attempt.held (is_decided v.attempt) v.attempt.drawn v

-- Draw: the attempt has its stamp.
abbrev pub with_draw : (v : View) (stamp : ℕ) → View
with_draw v stamp =
    record v { tries = v.tries - 1; draws = v.draws + 1; attempt = record v.attempt { drawn = Some stamp } }

-- Validate: the read of r holds at the stamp.
abbrev pub with_valid : (v : View) (r : ℕ) → View
with_valid v r = record v { attempt = record v.attempt { validated = v.attempt.validated ++ r ∷ [] } }

-- Column store: one more cell of r is stored.
abbrev pub noted : (r cell : ℕ) (held : List Held) → List Held
noted r cell [] = []
noted r cell (h ∷ hs) = (if h.rec == r then record h { stored = h.stored ++ cell ∷ [] } else h) ∷ noted r cell hs

-- the view, with that cell
abbrev pub with_cell : (v : View) (r cell : ℕ) → View
with_cell v r cell = record v { attempt = record v.attempt { held = noted r cell v.attempt.held } }

-- Closing store: r is held no more.
abbrev pub without : (r : ℕ) (held : List Held) → List Held
without r [] = []
without r (h ∷ hs) = if h.rec == r then without r hs else (h ∷ without r hs)

-- of a new word, with records still held: the attempt goes on
abbrev pub with_close : (v : View) (r : ℕ) (row : RowOf) → View
with_close v r row = record v {
  attempt = record v.attempt { held = without r v.attempt.held; closed = v.attempt.closed ++ record { rec = r; row = row } ∷ [] };
}

-- of the last one: the attempt becomes an item
abbrev pub with_item : (v : View) (stamp r : ℕ) (row : RowOf) → View
with_item v stamp r row = record v {
  items = v.items ++ record { stamp = stamp; reads = v.attempt.reads; writes = v.attempt.closed ++ record { rec = r; row = row } ∷ [] } ∷ [];
  attempt = blank;
}

-- by the records that are still held
abbrev pub closed_with : (held : List Held) (v : View) (stamp r : ℕ) (row : RowOf) → View
closed_with [] v stamp r row = with_item v stamp r row
closed_with (h ∷ hs) v stamp r row = with_close v r row

-- of the old word, with records still held: the attempt is given up
abbrev pub released : (v : View) (r : ℕ) → View
released v r = record v { attempt = record v.attempt { held = without r v.attempt.held; given_up = true } }

-- by the records that are still held: with none the attempt is over
abbrev pub unlocked_with : (held : List Held) (v : View) (r : ℕ) → View
unlocked_with [] v r = rested v
unlocked_with (h ∷ hs) v r = released v r
