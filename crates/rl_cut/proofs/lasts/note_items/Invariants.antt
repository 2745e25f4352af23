use Rattle.std.proofs.Common.{◌≡◌, List, take, map, Option}
use Rattle.rl_base.specs.declared.stamp.Stamp.{Stamp}
use Rattle.rl_txn.specs.declared.item.Item.{Item}
use Rattle.rl_cut.specs.declared.lasts.Tail.{Tail}
use Rattle.rl_cut.specs.Lasts.{all_noted, LeadsBack}
use Rattle.rl_cut.proofs.lasts.note_items.Given as goal

abbrev pub invariant-loop-item : goal.invariant-loop-item
invariant-loop-item l = record {
  noted : l.lasts ≡ all_noted l.fn.lasts (map (λ (x : Item). x.stamp) (take l.item-index l.items));
  back : (tail : Option Tail) (before : List Stamp) → LeadsBack tail l.fn.lasts before → LeadsBack tail l.lasts before;
}
