use Rattle.std.proofs.Common.{◌+◌, ◌-◌, ◌^◌, ◌<◌, ◌≤◌, length, sym, ap, ◌∙◌, subst, arith}
use Rattle.rl_txn.specs.Serial.{indexes_of}
use Rattle.rl_worker.specs.Phases.{Rest}
use Rattle.rl_nodes.specs.Openings.{next_request}
use Rattle.rl_nodes.specs.Setups.{Setup}
use Rattle.rl_node.specs.Opening.{IsAtRest, AreAtRest}
use Rattle.rl_node.specs.SetupOf.{setup_of}
use Rattle.rl_node.proofs.Opens.{few_indexes, one_more_at_rest}
use Rattle.rl_node.proofs.opening.workers_at_rest.Goals as goal

pub next_request-next-requires : goal.next_request-next-requires
next_request-next-requires c =
    let few = few_indexes (c.loop-before.before + 1) c.args.items.now in
    let all = c.requires.few in
    subst (λ xs. length (indexes_of (c.loop-before.before + 1) xs) < 2 ^ 32 - 1) (sym c.as_slice.ensures) (omega (arith, few, all))

pub loop-before-preserved : goal.loop-before-preserved
loop-before-preserved c =
    let setup : Setup = setup_of c.args.setup.now in
    let items = c.args.items.now in
    let n = c.loop-before.before in
    let made = c.new.ensures in
    let lists = c.requires.setup.one_list_each in
    let last : n + 1 ≤ length setup.program.lists = (let more = c.loop-before-test.true in omega (arith, more, lists)) in
    let at : IsAtRest setup c.args.epoch (n + 1) items c.new.result = record {
      number = made.number;
      epoch = made.epoch;
      fits = made.fits setup.program.tables setup.program.lists (omega arith) last (let high = c.requires.epoch.high in omega (arith, high));
      rests = made.rests setup.program.tables ∙ ap Rest (c.next_request-next.ensures ∙ ap (λ xs. next_request xs (n + 1)) c.as_slice.ensures);
      undecided = made.undecided;
    } in
    subst (AreAtRest setup c.args.epoch (n + 1) items) (sym c.in_ok-push.ensures.items)
    (one_more_at_rest setup c.args.epoch n items c.loop-before.workers.items c.loop-before.invariant c.new.result at)
