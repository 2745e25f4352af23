use Rattle.std.proofs.Common.{◌≡◌, ℕ, ◌<◌, ◌++◌, List, length, get_or, take, sym, ap, subst, ◌∙◌, arith}
use Rattle.std.proofs.lemmas.List.{take_all}
use Rattle.std.specs.List.{flat_map, zip}
use Rattle.std.proofs.lemmas.Slice.Zip.{length-zip}
use Rattle.byteorder.specs.Endian.{big_bytes}
use Rattle.rl_fields.proofs.Appends.{appended, appended_more}
use Rattle.rl_msg.specs.Encoding.{log_bytes, stream_bytes}
use Rattle.rl_msg.proofs.Zips.{zip-at}
use Rattle.rl_msg.proofs.log.push_streams.Goals as goal

pub loop-i-preserved : goal.loop-i-preserved
loop-i-preserved c =
    let bs = c.args.ballots.now in
    let ls = c.args.logs.now in
    let i = c.loop-i.i in
    let y = c.index-logs-i.result in
    let in_bs : i < length bs = c.loop-i-test.true in
    let in_ls : i < length ls = omega (arith, c.requires.as_many) in
    let one : ℕ × List (List ℕ) = (get_or bs i 0, y) in
    let kept : c.push_log.new.out ≡ c.push_u32.new.out ++ log_bytes y = c.in_ok-push_log.ensures ∙ ap (λ (l : List (List ℕ)). c.push_u32.new.out ++ log_bytes l) c.as_slice.ensures in
    let both = appended c.loop-i.out c.push_u32.new.out c.push_log.new.out (big_bytes 4 (get_or bs i 0)) (log_bytes y) c.in_ok-push_u32.ensures.ok kept in
    let len : length (zip bs ls) ≡ length bs = omega (arith, length-zip bs ls, c.requires.as_many) in
    appended_more stream_bytes (zip bs ls) i one c.push_u8.new.out c.loop-i.out c.push_log.new.out (omega arith) (zip-at bs ls i 0 y in_bs in_ls c.index-logs-i.is) c.loop-i.invariant both

pub returns : goal.returns
returns c =
    let bs = c.args.ballots.now in
    let ls = c.args.logs.now in
    let len : length (zip bs ls) ≡ length bs = omega (arith, length-zip bs ls, c.requires.as_many) in
    let all : take c.loop-i.i (zip bs ls) ≡ zip bs ls = take_all c.loop-i.i (zip bs ls) (omega (arith, c.loop-i-test.false)) in
    let each : c.loop-i.out ≡ c.push_u8.new.out ++ flat_map stream_bytes (zip bs ls) = c.loop-i.invariant ∙ ap (λ (zs : List (ℕ × List (List ℕ))). c.push_u8.new.out ++ flat_map stream_bytes zs) all in
    let whole = appended c.args.out.now c.push_u8.new.out c.loop-i.out (big_bytes 1 (length bs)) (flat_map stream_bytes (zip bs ls)) c.in_ok-push_u8.ensures.ok each in
    subst (λ (k : ℕ). c.loop-i.out ≡ c.args.out.now ++ (big_bytes 1 k ++ flat_map stream_bytes (zip bs ls))) (sym len) whole
