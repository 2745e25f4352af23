use Rattle.std.proofs.Common.{◌<◌, arith}
use Rattle.rl_txn.proofs.Evals.{more_known, known_all, next_is, rest_at, scanned_few, none_to_read, if_none}
use Rattle.rl_txn.proofs.eval.Eval.next_wanted.Goals as goal

pub returns-in_err-keys-clause-none : goal.returns-in_err-keys-clause-none
returns-in_err-keys-clause-none c = if_none c.from_residual.result (none_to_read c.args.schema.now c.args.txn.now c.args.self.now c.get-op.result.now _ (rest_at c.args.txn.now c.args.self.now.done c.get-op.result.now c.get-op.ensures) c.in_err-keys.ensures.places)

pub known_keys-self-requires-clause-from : goal.known_keys-self-requires-clause-from
known_keys-self-requires-clause-from c =
    let few = scanned_few c.args.schema.now c.args.txn.now c.args.self.now c.get-op.result.now _ c.requires.of (rest_at c.args.txn.now c.args.self.now.done c.get-op.result.now c.get-op.ensures) in
    omega (arith, c.in_ok-keys.ensures.count)

pub returns-then-self-keys-clause-of : goal.returns-then-self-keys-clause-of
returns-then-self-keys-clause-of c =
    more_known c.args.schema.now c.args.txn.now c.args.self.now c.get-op.result.now _ c.in_ok-keys.keys.table c.in_ok-keys.keys.first c.in_ok-keys.keys.count c.known_keys-self.result c.requires.of c.requires.nothing
    (rest_at c.args.txn.now c.args.self.now.done c.get-op.result.now c.get-op.ensures) c.in_ok-keys.ensures.places c.in_ok-keys.ensures.count c.known_keys-self.ensures.more c.known_keys-self.ensures.few c.known_keys-self.ensures.known

pub returns-then-self-keys-clause-none : goal.returns-then-self-keys-clause-none
returns-then-self-keys-clause-none c =
    let of = more_known c.args.schema.now c.args.txn.now c.args.self.now c.get-op.result.now _ c.in_ok-keys.keys.table c.in_ok-keys.keys.first c.in_ok-keys.keys.count c.known_keys-self.result c.requires.of c.requires.nothing
    (rest_at c.args.txn.now c.args.self.now.done c.get-op.result.now c.get-op.ensures) c.in_ok-keys.ensures.places c.in_ok-keys.ensures.count c.known_keys-self.ensures.more c.known_keys-self.ensures.few c.known_keys-self.ensures.known in
    known_all c.args.schema.now c.args.txn.now _ c.get-op.result.now _ c.in_ok-keys.keys.table c.in_ok-keys.keys.first c.in_ok-keys.keys.count of
    (rest_at c.args.txn.now c.args.self.now.done c.get-op.result.now c.get-op.ensures) c.in_ok-keys.ensures.places c.in_ok-keys.ensures.count c.if-self-keys.true

pub returns-clause-of : goal.returns-clause-of
returns-clause-of c =
    more_known c.args.schema.now c.args.txn.now c.args.self.now c.get-op.result.now _ c.in_ok-keys.keys.table c.in_ok-keys.keys.first c.in_ok-keys.keys.count c.known_keys-self.result c.requires.of c.requires.nothing
    (rest_at c.args.txn.now c.args.self.now.done c.get-op.result.now c.get-op.ensures) c.in_ok-keys.ensures.places c.in_ok-keys.ensures.count c.known_keys-self.ensures.more c.known_keys-self.ensures.few c.known_keys-self.ensures.known

pub returns-clause-some : goal.returns-clause-some
returns-clause-some c =
    let less : c.known_keys-self.result < c.in_ok-keys.keys.count = omega (arith, c.known_keys-self.ensures.few, c.if-self-keys.false) in
    let of = more_known c.args.schema.now c.args.txn.now c.args.self.now c.get-op.result.now _ c.in_ok-keys.keys.table c.in_ok-keys.keys.first c.in_ok-keys.keys.count c.known_keys-self.result c.requires.of c.requires.nothing
    (rest_at c.args.txn.now c.args.self.now.done c.get-op.result.now c.get-op.ensures) c.in_ok-keys.ensures.places c.in_ok-keys.ensures.count c.known_keys-self.ensures.more c.known_keys-self.ensures.few c.known_keys-self.ensures.known in
    (next_is c.args.schema.now c.args.txn.now _ c.get-op.result.now _ c.in_ok-keys.keys.table c.in_ok-keys.keys.first c.in_ok-keys.keys.count of
    (rest_at c.args.txn.now c.args.self.now.done c.get-op.result.now c.get-op.ensures) c.in_ok-keys.ensures.places c.in_ok-keys.ensures.count less (c.known_keys-self.ensures.next less)).0

pub returns-clause-asked : goal.returns-clause-asked
returns-clause-asked c =
    let less : c.known_keys-self.result < c.in_ok-keys.keys.count = omega (arith, c.known_keys-self.ensures.few, c.if-self-keys.false) in
    let of = more_known c.args.schema.now c.args.txn.now c.args.self.now c.get-op.result.now _ c.in_ok-keys.keys.table c.in_ok-keys.keys.first c.in_ok-keys.keys.count c.known_keys-self.result c.requires.of c.requires.nothing
    (rest_at c.args.txn.now c.args.self.now.done c.get-op.result.now c.get-op.ensures) c.in_ok-keys.ensures.places c.in_ok-keys.ensures.count c.known_keys-self.ensures.more c.known_keys-self.ensures.few c.known_keys-self.ensures.known in
    (next_is c.args.schema.now c.args.txn.now _ c.get-op.result.now _ c.in_ok-keys.keys.table c.in_ok-keys.keys.first c.in_ok-keys.keys.count of
    (rest_at c.args.txn.now c.args.self.now.done c.get-op.result.now c.get-op.ensures) c.in_ok-keys.ensures.places c.in_ok-keys.ensures.count less (c.known_keys-self.ensures.next less)).1
