use Rattle.std.proofs.Common.{◌≡◌, true, false, nat_lt, sym, ap, ◌∙◌, arith, rules}
use Rattle.std.specs.List.Sorted.{IsPartitionPoint}
use Rattle.std.proofs.lemmas.List.{get_or_default}
use Rattle.std.proofs.lemmas.List.Sorted.{IsPartitionPoint-from_clause}
use Rattle.rl_base.specs.declared.stamp.Stamp.{Stamp}
use Rattle.rl_families.specs.Logs.{last_seq_among}
use Rattle.rl_cut.proofs.ByEpoch.{climbs_from, parted, seq_at, none_at}
use Rattle.rl_cut.proofs.lasts.last_seq.Goals as goal

pub returns-in-Some : goal.returns-in-Some
returns-in-Some c =
    let ss = c.args.stamps.now in
    let s = c.in-Some.stamp.now in
    let found = c.in-Some.ensures.lookup in
    ap (λ (x : Stamp). x.seq) found.1 ∙ seq_at ss c.partition_point-at.result s (climbs_from ss c.requires) found.3.0
    ∙ ap (last_seq_among ss) (ap (λ (x : Stamp). x.epoch) (sym found.1) ∙ c.if-stamp-epoch.true)

pub returns-in_default : goal.returns-in_default
returns-in_default c =
    let ss = c.args.stamps.now in
    let n = c.partition_point-at.result in
    let s = c.in-Some.stamp.now in
    let found = c.in-Some.ensures.lookup in
    let p : IsPartitionPoint (λ (x : Stamp). nat_lt x.epoch c.args.epoch ≡ true) (λ (x : Stamp). nat_lt x.epoch c.args.epoch ≡ false) ss n
    = IsPartitionPoint-from_clause (λ (x : Stamp). nat_lt x.epoch c.args.epoch) ss n c.partition_point-at.ensures.partitioned (parted ss c.args.epoch c.requires) (λ a r f called. search rules) in
    none_at ss c.args.epoch n c.requires p (λ d l same. c.if-stamp-epoch.false (ap (λ (x : Stamp). x.epoch) (found.1 ∙ get_or_default ss n s d l) ∙ same))

pub returns-in_default-2 : goal.returns-in_default-2
returns-in_default-2 c =
    let ss = c.args.stamps.now in
    let n = c.partition_point-at.result in
    let p : IsPartitionPoint (λ (x : Stamp). nat_lt x.epoch c.args.epoch ≡ true) (λ (x : Stamp). nat_lt x.epoch c.args.epoch ≡ false) ss n
    = IsPartitionPoint-from_clause (λ (x : Stamp). nat_lt x.epoch c.args.epoch) ss n c.partition_point-at.ensures.partitioned (parted ss c.args.epoch c.requires) (λ a r f called. search rules) in
    let past = rw c.in_default.is at c.get.ensures.lookup in
    none_at ss c.args.epoch n c.requires p (λ d l same. absurd (let m = past.0 in omega arith))
