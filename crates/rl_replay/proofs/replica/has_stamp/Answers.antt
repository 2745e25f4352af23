use Rattle.std.proofs.Common.{◌≡◌, sym, true≢false, false, true, ap, ◌∙◌, arith, rules, eq-eqb}
use Rattle.std.specs.List.Sorted.{IsPartitionPoint}
use Rattle.std.proofs.lemmas.List.Sorted.{IsPartitionPoint-from_clause}
use Rattle.std.proofs.lemmas.Bool.Decides.{nat_tests}
use Rattle.rl_txn.specs.declared.item.Item.{Item}
use Rattle.rl_base.specs.Order.{is_below}
use Rattle.rl_replay.proofs.Applied.{parted, found_first}
use Rattle.rl_replay.proofs.replica.has_stamp.Goals as goal

pub returns-then-item-stamp : goal.returns-then-item-stamp
returns-then-item-stamp c =
    let items = c.args.items.now in
    let s = c.args.stamp in
    let n = c.partition_point-at.result in
    let x = c.in-Some.item.now in
    let p : IsPartitionPoint (λ (y : Item). is_below y.stamp s ≡ true) (λ (y : Item). is_below y.stamp s ≡ false) items n
    = IsPartitionPoint-from_clause (λ (y : Item). is_below y.stamp s) items n c.partition_point-at.ensures.partitioned (parted items s c.requires) (λ a r f called. search rules) in
    let e = c.in-Some.ensures.lookup in (
      λ t. (n, x, e.3.0, sym e.1, (c.if-item-stamp.true, grind (arith, nat_tests))),
      λ h. (let k = found_first items s n c.requires p h x in eq-eqb x.stamp.seq s.seq (ap (λ (y : Item). y.stamp.seq) e.1 ∙ k.2)),
    )

pub returns-else-item-stamp : goal.returns-else-item-stamp
returns-else-item-stamp c =
    let items = c.args.items.now in
    let s = c.args.stamp in
    let n = c.partition_point-at.result in
    let x = c.in-Some.item.now in
    let p : IsPartitionPoint (λ (y : Item). is_below y.stamp s ≡ true) (λ (y : Item). is_below y.stamp s ≡ false) items n
    = IsPartitionPoint-from_clause (λ (y : Item). is_below y.stamp s) items n c.partition_point-at.ensures.partitioned (parted items s c.requires) (λ a r f called. search rules) in
    let e = c.in-Some.ensures.lookup in (
      λ t. absurd (c.if-item-stamp.false (grind (arith, nat_tests))),
      λ h. absurd (let k = found_first items s n c.requires p h x in c.if-item-stamp.false (ap (λ (y : Item). y.stamp.epoch) e.1 ∙ k.1)),
    )

pub returns-in-None : goal.returns-in-None
returns-in-None c =
    let items = c.args.items.now in
    let s = c.args.stamp in
    let n = c.partition_point-at.result in
    let p : IsPartitionPoint (λ (y : Item). is_below y.stamp s ≡ true) (λ (y : Item). is_below y.stamp s ≡ false) items n
    = IsPartitionPoint-from_clause (λ (y : Item). is_below y.stamp s) items n c.partition_point-at.ensures.partitioned (parted items s c.requires) (λ a r f called. search rules) in (
      λ t. absurd (true≢false (sym t)),
      λ h. absurd (let k = found_first items s n c.requires p h h.1 in let l = k.0 in let e = c.in-None.ensures.lookup.0 in grind (arith, nat_tests)),
    )
