use Rattle.std.proofs.Common.{◌≡◌, ◌≤◌, true, false, nat_lt, arith, rules}
use Rattle.std.specs.List.Sorted.{IsPartitionPoint}
use Rattle.std.proofs.lemmas.List.Sorted.{IsPartitionPoint-from_clause}
use Rattle.rl_base.specs.declared.stamp.Stamp.{Stamp}
use Rattle.rl_cut.proofs.ByEpoch.{parted, places_rise, epochs_between}
use Rattle.rl_cut.proofs.bounds.of_epochs.Goals as goal

pub slice_bounds-result-count : goal.slice_bounds-result-count
slice_bounds-result-count c =
    let ss = c.args.stamps.now in
    let low : IsPartitionPoint (λ (s : Stamp). nat_lt s.epoch c.args.start ≡ true) (λ (s : Stamp). nat_lt s.epoch c.args.start ≡ false) ss c.partition_point-from.result
    = IsPartitionPoint-from_clause (λ (s : Stamp). nat_lt s.epoch c.args.start) ss c.partition_point-from.result c.partition_point-from.ensures.partitioned (parted ss c.args.start c.requires.epochs) (λ a r f called. search rules) in
    let high : IsPartitionPoint (λ (s : Stamp). nat_lt s.epoch c.args.end ≡ true) (λ (s : Stamp). nat_lt s.epoch c.args.end ≡ false) ss c.partition_point-to.result
    = IsPartitionPoint-from_clause (λ (s : Stamp). nat_lt s.epoch c.args.end) ss c.partition_point-to.result c.partition_point-to.ensures.partitioned (parted ss c.args.end c.requires.epochs) (λ a r f called. search rules) in
    places_rise ss c.args.start c.args.end c.partition_point-from.result c.partition_point-to.result c.requires.rises low high (record { epoch = 0; seq = 0 }) c.partition_point-from.ensures.bound

pub slice_bounds-result-start : goal.slice_bounds-result-start
slice_bounds-result-start c =
    let ss = c.args.stamps.now in
    let low : IsPartitionPoint (λ (s : Stamp). nat_lt s.epoch c.args.start ≡ true) (λ (s : Stamp). nat_lt s.epoch c.args.start ≡ false) ss c.partition_point-from.result
    = IsPartitionPoint-from_clause (λ (s : Stamp). nat_lt s.epoch c.args.start) ss c.partition_point-from.result c.partition_point-from.ensures.partitioned (parted ss c.args.start c.requires.epochs) (λ a r f called. search rules) in
    let high : IsPartitionPoint (λ (s : Stamp). nat_lt s.epoch c.args.end ≡ true) (λ (s : Stamp). nat_lt s.epoch c.args.end ≡ false) ss c.partition_point-to.result
    = IsPartitionPoint-from_clause (λ (s : Stamp). nat_lt s.epoch c.args.end) ss c.partition_point-to.result c.partition_point-to.ensures.partitioned (parted ss c.args.end c.requires.epochs) (λ a r f called. search rules) in
    let rise : c.partition_point-from.result ≤ c.partition_point-to.result = places_rise ss c.args.start c.args.end c.partition_point-from.result c.partition_point-to.result c.requires.rises low high (record { epoch = 0; seq = 0 }) c.partition_point-from.ensures.bound in
    omega arith

pub returns : goal.returns
returns c =
    let ss = c.args.stamps.now in
    let low : IsPartitionPoint (λ (s : Stamp). nat_lt s.epoch c.args.start ≡ true) (λ (s : Stamp). nat_lt s.epoch c.args.start ≡ false) ss c.partition_point-from.result
    = IsPartitionPoint-from_clause (λ (s : Stamp). nat_lt s.epoch c.args.start) ss c.partition_point-from.result c.partition_point-from.ensures.partitioned (parted ss c.args.start c.requires.epochs) (λ a r f called. search rules) in
    let high : IsPartitionPoint (λ (s : Stamp). nat_lt s.epoch c.args.end ≡ true) (λ (s : Stamp). nat_lt s.epoch c.args.end ≡ false) ss c.partition_point-to.result
    = IsPartitionPoint-from_clause (λ (s : Stamp). nat_lt s.epoch c.args.end) ss c.partition_point-to.result c.partition_point-to.ensures.partitioned (parted ss c.args.end c.requires.epochs) (λ a r f called. search rules) in
    let rise = places_rise ss c.args.start c.args.end c.partition_point-from.result c.partition_point-to.result c.requires.rises low high (record { epoch = 0; seq = 0 }) c.partition_point-from.ensures.bound in
    epochs_between ss c.args.start c.args.end c.partition_point-from.result c.partition_point-to.result c.requires.rises low high rise c.partition_point-to.ensures.bound
