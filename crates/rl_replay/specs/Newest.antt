-- The stamp of the newest write of each key, by which a replica tells whether a write is out of
-- date. No public contract cites it.
use Rattle.std.specs.Prelude.{◌≡◌, ℕ, List, Bool, true, false, not, filter, if◌then◌else◌, Contains, Option, Some, None, MatchOption}
use Rattle.std.specs.List.{list_any}
use Rattle.std.specs.FinMap as finite
use Rattle.rl_base.specs.declared.stamp.Stamp.{Stamp}
use Rattle.rl_value.specs.Rows.{place_cmp}
use Rattle.rl_txn.specs.declared.item.Item.{Item}
use Rattle.rl_txn.specs.declared.write.Write.{Write}
use Rattle.rl_base.specs.Order.{is_below}
use Rattle.rl_replay.specs.Replay.{is_at, writes_at}

-- a stamp for each key that was written
abbrev pub Newest : Type 0
Newest = finite.FinMap place_cmp Stamp

-- a write with this stamp is out of date
abbrev pub is_old : Option Stamp → Stamp → Bool
is_old None s = false
is_old (Some t) s = is_below s t

-- the writes with a stamp that are not out of date
abbrev pub fresh : Newest → Stamp → List Write → List Write
fresh newest s writes = filter (λ w. not (is_old (finite.get newest (w.table, w.key)) s)) writes

-- the newest stamp of a place after some writes with one stamp
abbrev pub stamped : Option Stamp → Stamp → ℕ × ℕ → List Write → Option Stamp
stamped before s q writes = if list_any (is_at q) writes then Some s else before

-- a stamp is that of the newest of some items that write a place; none, if no item does
pub record IsNewestOf (applied : List Item) (q : ℕ × ℕ) (s : Stamp) : Type 0 where
  pub item : Item
  pub among : Contains applied item
  pub writes : writes_at q item ≡ true
  pub has : item.stamp ≡ s
  pub greatest : (x : Item) → Contains applied x → writes_at q x ≡ true → is_below s x.stamp ≡ false

-- the newest stamp of a place, if it has one
abbrev pub IsNewest : List Item → ℕ × ℕ → Option Stamp → Type 0
IsNewest applied q newest =
    MatchOption newest ((x : Item) → Contains applied x → writes_at q x ≡ false) (IsNewestOf applied q)

-- the newest stamp of each place
abbrev pub AreNewest : List Item → Newest → Type 0
AreNewest applied newest = (q : ℕ × ℕ) → IsNewest applied q (finite.get newest q)
