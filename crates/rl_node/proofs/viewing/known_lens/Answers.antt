use Rattle.std.proofs.Common.{◌≡◌, ◌+◌, ◌-◌, ◌∙◌, List, [], ◌∷◌, ◌++◌, length, map, sym, ap, arith}
use Rattle.std.specs.List.{range_with_len}
use Rattle.std.proofs.lemmas.List.{length-map}
use Rattle.std.proofs.lemmas.List.FromFn.{map-range_with_len_more}
use Rattle.rl_families.specs.Streams.{log_at}
use Rattle.rl_txn.specs.declared.batch.Batch.{Batch}
use Rattle.rl_node.proofs.Shown.{by_streams, get_or_map}
use Rattle.rl_node.proofs.viewing.known_lens.Goals as goal

pub loop-before-preserved : goal.loop-before-preserved
loop-before-preserved c =
    let before = c.loop-before.before in
    let len : c.len.result ≡ length (log_at c.args.known.now (before + 1)) = c.len.ensures ∙ ap length c.log.ensures in
    c.in_ok-push.ensures.items ∙ ap (λ x. c.loop-before.lens.items ++ x ∷ []) len
    ∙ ap (λ xs. xs ++ length (log_at c.args.known.now (before + 1)) ∷ []) c.loop-before.invariant
    ∙ sym (map-range_with_len_more (λ s. length (log_at c.args.known.now s)) 1 before (before + 1) (omega arith))

pub returns : goal.returns
returns c =
    let known = c.args.known.now in
    let all : c.loop-before.before ≡ c.args.workers = omega arith in
    c.loop-before.invariant ∙ ap (λ n. map (λ s. length (log_at known s)) (range_with_len 1 n)) all
    ∙ sym (by_streams (λ s. length (log_at known s)) (map (λ (log : List Batch). length log) known) c.args.workers 0
    (length-map known (λ (log : List Batch). length log) ∙ c.requires.streams) (λ s low high. get_or_map (λ (log : List Batch). length log) known (s - 1) []))
