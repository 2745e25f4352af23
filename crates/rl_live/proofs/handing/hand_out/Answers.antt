use Rattle.std.proofs.Common.{◌≡◌, [], ◌∷◌, ◌++◌, ◌+◌, ◌<◌, length, ap, sym, subst, ◌∙◌, arith, length-append}
use Rattle.std.proofs.lemmas.List.{append_assoc}
use Rattle.std.specs.Vec.Iter.{into_iter_items}
use Rattle.rl_live.specs.Elections.{led_with, with_mark}
use Rattle.rl_live.specs.Handing.{AllFrom, IsReadyAs}
use Rattle.rl_live.proofs.Hands.{copy_at, enough_left, fresh_more, from_more, next_seat}
use Rattle.rl_live.proofs.handing.hand_out.Goals as goal

pub worker_of-requires-clause-seat : goal.worker_of-requires-clause-seat
worker_of-requires-clause-seat c =
    let i = c.loop-led.invariant in
    let y = c.loop-led.yielded in
    let e = c.args.store.now.made.epoch in
    let whole = ap (λ z. y ++ z) (sym c.in-Some.ensures.steps.0) ∙ i.all in
    let copy = copy_at y (into_iter_items c.next.new.self) c.in-Some.led (led_with e c.args.script.now.nodes (with_mark e [])) c.args.script.now.workers (whole ∙ c.requires.leds) in
    let inside : c.loop-led.number < c.args.script.now.workers = (let a = i.count in let b = copy.1 in omega arith) in
    let next = next_seat c.args.progress.now c.loop-led.number c.args.script.now.workers (into_iter_items c.loop-led.left) (into_iter_items c.next-in-loop-led.new.self) c.in-Some-next.seat i.seats inside c.in-Some-next.ensures.items in
    (c.loop-led.number, next.0)

pub loop-led-preserved : goal.loop-led-preserved
loop-led-preserved c =
    let i = c.loop-led.invariant in
    let y = c.loop-led.yielded in
    let k = c.loop-led.number in
    let n = c.args.script.now.workers in
    let e = c.args.store.now.made.epoch in
    let x = c.in-Some.led in
    let rest = into_iter_items c.next.new.self in
    let script = c.args.script.now in
    let store = c.args.store.now in
    let progress = c.args.progress.now in
    let tries = c.args.tries in
    let w = c.worker_of.result in
    let P = IsReadyAs script store progress tries in
    let whole : y ++ (x ∷ rest) ≡ c.args.leds.items = ap (λ z. y ++ z) (sym c.in-Some.ensures.steps.0) ∙ i.all in
    let copy = copy_at y rest x (led_with e script.nodes (with_mark e [])) n (whole ∙ c.requires.leds) in
    let inside : k < n = (let a = i.count in let b = copy.1 in omega arith) in
    let next = next_seat progress k n (into_iter_items c.loop-led.left) (into_iter_items c.next-in-loop-led.new.self) c.in-Some-next.seat i.seats inside c.in-Some-next.ensures.items in
    let many : length c.loop-led.workers.items ≡ k = i.many in
    let enough = enough_left script store progress tries c.requires.stage k n c.args.pass.now c.loop-led.pass i.fresh c.requires.enough inside in
    record {
      count = (let a = length-append y (x ∷ []) in let b = i.count in omega arith);
      all = append_assoc y (x ∷ []) rest ∙ whole;
      seats = next.1;
      fresh = fresh_more script store progress tries c.requires.stage k c.args.pass.now c.loop-led.pass c.worker_of.new.pass i.fresh enough c.worker_of.ensures.own c.worker_of.ensures.left;
      many = (let a = ap length c.in_ok-push.ensures.items in let b = length-append c.loop-led.workers.items (w ∷ []) in omega arith);
      ready = subst (AllFrom P 1) (sym c.in_ok-push.ensures.items) (from_more P 1 (k + 1) c.loop-led.workers.items w i.ready (omega arith) c.worker_of.ensures.ready);
    }
