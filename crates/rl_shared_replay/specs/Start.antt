-- What a replay starts from, as its rule knows it.
use Rattle.std.specs.Prelude.{◌≡◌, ℕ, ◌+◌, ◌*◌, ◌<◌, ◌≤◌, List, [], ◌∷◌, ◌++◌, length, map, slice_index}
use Rattle.rl_base.specs.Stamps.{packed}
use Rattle.rl_tables.specs.Numbers.{record_of}
use Rattle.rl_txn.specs.declared.item.Item.{Item}
use Rattle.rl_txn.specs.declared.write.Write.{Write}
use Rattle.rl_shared_replay.specs.declared.rule.Start.{Start}
use Rattle.rl_shared_replay.specs.declared.view.Version.{Version}
use Rattle.rl_shared_replay.specs.Rule.{Plan}

-- the items of all parts, part by part
abbrev pub all_items : (parts : List (List Item)) → List Item
all_items [] = []
all_items (items ∷ parts) = items ++ all_items parts

-- the version that a write makes, in an item of this stamp
abbrev pub version_of : (sizes : List ℕ) (stamp : ℕ) (w : Write) → Version
version_of sizes stamp w = record { rec = record_of sizes w.table w.key; stamp = stamp; row = w.row }

-- the versions that the writes of an item make
abbrev pub item_versions : (sizes : List ℕ) (x : Item) → List Version
item_versions sizes x = map (version_of sizes (packed x.stamp)) x.writes

-- the same of some items
abbrev pub versions_of : (sizes : List ℕ) (items : List Item) → List Version
versions_of sizes [] = []
versions_of sizes (x ∷ xs) = item_versions sizes x ++ versions_of sizes xs

-- what a replay starts from
pub record Made : Type 0 where
  pub words : List ℕ
  pub columns : List ℕ
  pub sizes : List ℕ
  pub parts : List (List Item)

-- the key of the rule, as this
abbrev pub made_of : (start : Start) → Made
made_of start = record {
  words = start.words.items;
  columns = start.columns.items;
  sizes = start.layout;
  parts = start.parts;
}

-- what the rule knows of it
abbrev pub plan_in : (made : Made) → Plan
plan_in made = record {
  records = length made.columns;
  columns = λ r. slice_index made.columns r;
  opening = made.words;
  versions = versions_of made.sizes (all_items made.parts);
}

-- the same of the key
abbrev pub plan_of : (start : Start) → Plan
plan_of start = plan_in (made_of start)
