use Rattle.std.proofs.Common.{◌+◌, List, [], ◌∷◌, ◌++◌, length-append, Contains, All, refl, sym, ◌∙◌, subst, arith}
use Rattle.rl_batch.specs.Ranges.{ItemsInRange}
use Rattle.rl_txn.specs.Fits.{TxnFits}
use Rattle.rl_txn.specs.declared.item.Item.{Item}
use Rattle.rl_txn.proofs.Answers.{all_numbered}
use Rattle.rl_live.specs.Turns.{IsAt}
use Rattle.rl_live.specs.declared.line.Line.{Line}
use Rattle.rl_live.proofs.Turning.{IsOn, numbered_at, numbered_next, request_at, goes_on, later, in_range, log_room, on_start, on_kept, on_sent, on_end}
use Rattle.rl_live.proofs.work.work.Goals.{then-len-batch+in_ok-send_items, else-len-batch+else-k-len}
use Rattle.rl_live.proofs.work.work.Goals as goal

pub loop-k-init : goal.loop-k-init
loop-k-init g c =
    let w = c.args.worker in
    let made = c.new-line.ensures in
    on_start c.args.schema.now c.args.store.now c.args.progress.now w c.get-list.result.now c.new-line.result c.new-pending.result c.requires.set_up
    (numbered_at w.lists.now w.number c.get-list.result.now c.requires.set_up.number.0 c.get-list.ensures)
    made.0 made.1 made.2 made.3 c.new-pending.ensures

pub item_of-requires-clause-fits : goal.item_of-requires-clause-fits
item_of-requires-clause-fits g c κs within =
    let w = c.args.worker in
    let list = c.get-list.result.now in
    all_numbered (TxnFits c.args.schema.now) list (c.loop-k.k + 1) c.get.result.now (numbered_next list c.loop-k.k c.get.result.now c.get.ensures)
    (all_numbered (All (TxnFits c.args.schema.now)) w.lists.now w.number list
    (numbered_at w.lists.now w.number list c.requires.set_up.number.0 c.get-list.ensures) c.requires.set_up.lists_fit.each)

pub send_items-requires-clause-room : goal.send_items-requires-clause-room
send_items-requires-clause-room g c κs within =
    let w = c.args.worker in
    let list = c.get-list.result.now in
    log_room c.args.schema.now c.args.store.now c.args.progress.now w c.loop-k.k c.loop-k.pass c.loop-k.pending c.loop-k.line c.loop-k.invariant.at list c.requires.set_up
    (numbered_at w.lists.now w.number list c.requires.set_up.number.0 c.get-list.ensures)
    (let t = c.loop-k-test.true in let e = c.len-k-end.ensures in omega (arith, t, e))

pub send_items-requires-clause-range : goal.send_items-requires-clause-range
send_items-requires-clause-range g c κs within =
    let tables = c.args.schema.now in
    let store = c.args.store.now in
    let w = c.args.worker in
    let list = c.get-list.result.now in
    let k = c.loop-k.k in
    let x = c.in_ok-after.item in
    let set_up = c.requires.set_up in
    let is = numbered_at w.lists.now w.number list set_up.number.0 c.get-list.ensures in
    let n = c.in_ok-after.ensures.item w.lists.now (request_at w.lists.now w.number (k + 1) list c.get.result.now is (numbered_next list k c.get.result.now c.get.ensures)) in
    let next = goes_on tables store c.args.progress.now w k c.loop-k.pass c.in_ok-after.after c.loop-k.pending c.loop-k.line x c.loop-k.invariant.at n c.in_ok-after.ensures.table in
    let l = length-append c.loop-k.pending (x ∷ []) in
    subst ItemsInRange (sym (c.replace-items.ensures.value ∙ c.in_ok-push.ensures.ok))
    (in_range tables store c.args.progress.now w (k + 1) c.in_ok-after.after (c.loop-k.pending ++ x ∷ []) c.loop-k.line next set_up
    (let few = c.epoch-epoch.ensures.few in let e = c.epoch-epoch.ensures.epoch in omega (arith, few, e))
    (omega (arith, l))
    (let b = c.loop-k.invariant.below in let m = set_up.few in omega (arith, l, b, m)))

pub send_items-requires-clause-rises : goal.send_items-requires-clause-rises
send_items-requires-clause-rises g c κs within =
    let tables = c.args.schema.now in
    let store = c.args.store.now in
    let w = c.args.worker in
    let list = c.get-list.result.now in
    let k = c.loop-k.k in
    let x = c.in_ok-after.item in
    let is = numbered_at w.lists.now w.number list c.requires.set_up.number.0 c.get-list.ensures in
    let n = c.in_ok-after.ensures.item w.lists.now (request_at w.lists.now w.number (k + 1) list c.get.result.now is (numbered_next list k c.get.result.now c.get.ensures)) in
    let next = goes_on tables store c.args.progress.now w k c.loop-k.pass c.in_ok-after.after c.loop-k.pending c.loop-k.line x c.loop-k.invariant.at n c.in_ok-after.ensures.table in
    λ y i. later tables store c.args.progress.now w (k + 1) c.in_ok-after.after (c.loop-k.pending ++ x ∷ []) c.loop-k.line next y
    (subst (λ (l : List Item). Contains l y) (c.replace-items.ensures.value ∙ c.in_ok-push.ensures.ok) i)

pub loop-k-preserved : goal.loop-k-preserved
loop-k-preserved g c =
    let tables = c.args.schema.now in
    let store = c.args.store.now in
    let progress = c.args.progress.now in
    let w = c.args.worker in
    let list = c.get-list.result.now in
    let k = c.loop-k.k in
    let x = c.in_ok-after.item in
    let pass = c.in_ok-after.after in
    let more = c.loop-k.pending ++ x ∷ [] in
    let is = numbered_at w.lists.now w.number list c.requires.set_up.number.0 c.get-list.ensures in
    let n = c.in_ok-after.ensures.item w.lists.now (request_at w.lists.now w.number (k + 1) list c.get.result.now is (numbered_next list k c.get.result.now c.get.ensures)) in
    let next : IsAt tables store progress w (k + 1) pass more c.loop-k.line = goes_on tables store progress w k c.loop-k.pass pass c.loop-k.pending c.loop-k.line x c.loop-k.invariant.at n c.in_ok-after.ensures.table in
    elim c.if-len-batch.branch [
      | then-len-batch+in_ok-send_items b ↦
          subst (λ (l : Line). IsOn tables store progress w list (k + 1) pass c.if-len-batch.pending l) (sym b.line-is)
          (subst (λ (l : List Item). IsOn tables store progress w list (k + 1) pass l b.send_items.new.self) (sym b.pending-is)
          (let e = b.in_ok-send_items.ensures in
          on_sent tables store progress w list (k + 1) pass more b.replace-items.result b.replace-items.new.dest c.loop-k.line b.send_items.new.self c.requires.set_up next
          (b.replace-items.ensures.value ∙ c.in_ok-push.ensures.ok) (b.replace-items.ensures.after ∙ b.new.ensures)
          (let l = length-append c.loop-k.pending (x ∷ []) in omega (arith, l))
          e.same e.spread e.log e.read e.last))
      | else-len-batch+else-k-len b ↦
          subst (λ (l : Line). IsOn tables store progress w list (k + 1) pass c.if-len-batch.pending l) (sym b.line-is)
          (subst (λ (l : List Item). IsOn tables store progress w list (k + 1) pass l c.loop-k.line) (sym b.pending-is)
          (on_kept tables store progress w list (k + 1) pass c.loop-k.pending c.push.new.self x c.loop-k.line
          (subst (λ (l : List Item). IsAt tables store progress w (k + 1) pass l c.loop-k.line) (sym c.in_ok-push.ensures.ok) next)
          c.in_ok-push.ensures.ok c.loop-k.invariant.below
          (let f = b.if-len-batch.false in let m = c.len.ensures in omega (arith, f, m))
          (let f = b.if-k-len.false in let m = b.len-else-len-batch.ensures in omega (arith, f, m))))
    ]

pub finish-requires-clause-room : goal.finish-requires-clause-room
finish-requires-clause-room g c κs within =
    let w = c.args.worker in
    let list = c.get-list.result.now in
    log_room c.args.schema.now c.args.store.now c.args.progress.now w c.loop-k.k c.loop-k.pass c.loop-k.pending c.loop-k.line c.loop-k.invariant.at list c.requires.set_up
    (numbered_at w.lists.now w.number list c.requires.set_up.number.0 c.get-list.ensures)
    (let t = c.loop-k.auto.k-end in let e = c.len-k-end.ensures in omega (arith, t, e))

pub returns : goal.returns
returns g c =
    let w = c.args.worker in
    let list = c.get-list.result.now in
    let e = c.in_ok-finish.ensures in
    on_end c.args.schema.now c.args.store.now c.args.progress.now w list c.loop-k.k c.loop-k.pass c.loop-k.pending c.loop-k.line c.finish.new.self c.epoch-epoch.result
    record { pass = c.loop-k.pass; acceptors = c.into_acceptors.result } c.loop-k.invariant
    (numbered_at w.lists.now w.number list c.requires.set_up.number.0 c.get-list.ensures)
    (let t = c.loop-k.auto.k-end in let f = c.loop-k-test.false in let m = c.len-k-end.ensures in omega (arith, t, f, m))
    c.epoch-epoch.ensures.epoch e.same e.spread e.log e.read refl c.into_acceptors.ensures
