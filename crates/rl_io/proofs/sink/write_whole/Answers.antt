use Rattle.std.proofs.Common.{◌≡◌, ◌<◌, ◌∙◌, arith, length-drop, ap, length}
use Rattle.rl_io.proofs.Held.{held_more}
use Rattle.rl_io.proofs.sink.write_whole.Goals as goal

pub loop-at-preserved : goal.loop-at-preserved
loop-at-preserved g c =
    let within = c.in-Ok.ensures.within in
    let rest = ap length c.rest_from.ensures in
    record {
      within = grind (arith, length-drop);
      unfailed = c.in-Ok.ensures.ok ∙ c.loop-at.invariant.unfailed;
      begun = λ none.
          let more : 0 < length c.rest_from.result.now = omega (arith, rest, length-drop c.loop-at.at c.args.bytes.now) in
          let zero : c.in-Ok.count ≡ 0 = omega arith in
          absurd (c.in-Ok.ensures.some more (cc));
      written = rw (c.in-Ok.ensures.taken, c.loop-at.invariant.written, c.rest_from.ensures) (held_more _ c.args.bytes.now c.loop-at.at c.in-Ok.count);
    }
