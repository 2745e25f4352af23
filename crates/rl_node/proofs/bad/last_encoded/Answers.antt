use Rattle.std.proofs.Common.{◌≡◌, ◌-◌, ◌∙◌, length, take, Some, sym, subst}
use Rattle.std.specs.Prelude.{slice_get}
use Rattle.rl_paxos.specs.Logs.{Log}
use Rattle.rl_node.proofs.Bads.{ends_with, last_along}
use Rattle.rl_node.proofs.Streams.{encodes_at}
use Rattle.rl_node.proofs.bad.last_encoded.Goals as goal

pub read-requires : goal.read-requires
read-requires c =
    let log = c.args.log.now in
    let last : slice_get log (length log - 1) ≡ Some c.in-Some.bytes.now =
    sym (subst (λ (l : Log). Some c.in-Some.bytes.now ≡ slice_get l (length l - 1)) c.as_slice.ensures c.in-Some.ensures.value) in
    encodes_at log (length log - 1) c.in-Some.bytes.now c.requires last

pub returns : goal.returns
returns c =
    let log = c.args.log.now in
    let b = c.in-Some.bytes.now in
    let batch = c.in_ok-batch.batch in
    let last : slice_get log (length log - 1) ≡ Some b =
    sym (subst (λ (l : Log). Some b ≡ slice_get l (length l - 1)) c.as_slice.ensures c.in-Some.ensures.value) in
    c.last_behind.ensures ∙ last_along log (take (length log - 1) log) b batch (ends_with log b last) c.in_ok-batch.ensures.batch c.in_ok-batch.ensures.in_range
