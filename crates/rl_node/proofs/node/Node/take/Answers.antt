use Rattle.std.proofs.Common.{refl, sym, subst}
use Rattle.rl_msg.specs.declared.msg.Msg.TheVariants as msg
use Rattle.rl_node.specs.Good.{CanTakeIn, TriesToTakeIn}
use Rattle.rl_node.specs.SetupOf.{setup_of}
use Rattle.rl_node.proofs.Receiving.{can_here, can_in, tries_here, tries_in}
use Rattle.rl_node.proofs.node.Node.take.Goals as goal

pub take_prepare-requires-clause-can : goal.take_prepare-requires-clause-can
take_prepare-requires-clause-can c =
    let setup = setup_of c.args.setup.now in
    let n = c.args.self.now in
    let k = c.in-Prepare in
    can_in setup c.requires.setup n (msg.Prepare k.from n.id k.epoch)
    (can_here setup n k.to (λ t. msg.Prepare k.from t k.epoch) (λ t. refl) (subst (CanTakeIn setup n) k.is c.requires.can))

pub returns-in-Prepare-clause-tries : goal.returns-in-Prepare-clause-tries
returns-in-Prepare-clause-tries c =
    let setup = setup_of c.args.setup.now in
    let n = c.args.self.now in
    let k = c.in-Prepare in
    subst (λ m. TriesToTakeIn setup n c.take_prepare.new.self m c.take_prepare.result) (sym k.is)
    (tries_here setup n k.to (λ t. msg.Prepare k.from t k.epoch) (λ t. refl) c.take_prepare.new.self c.take_prepare.result
    (tries_in setup c.requires.setup n c.take_prepare.new.self (msg.Prepare k.from n.id k.epoch) c.take_prepare.result c.take_prepare.ensures.tries))

pub take_promise-requires-clause-can : goal.take_promise-requires-clause-can
take_promise-requires-clause-can c =
    let setup = setup_of c.args.setup.now in
    let n = c.args.self.now in
    let k = c.in-Promise in
    can_here setup n k.to (λ t. msg.Promise k.from t k.epoch k.ballots k.logs) (λ t. refl) (subst (CanTakeIn setup n) k.is c.requires.can)

pub returns-in-Promise-clause-tries : goal.returns-in-Promise-clause-tries
returns-in-Promise-clause-tries c =
    let setup = setup_of c.args.setup.now in
    let n = c.args.self.now in
    let k = c.in-Promise in
    subst (λ m. TriesToTakeIn setup n c.take_promise.new.self m c.take_promise.result) (sym k.is)
    (tries_here setup n k.to (λ t. msg.Promise k.from t k.epoch k.ballots k.logs) (λ t. refl) c.take_promise.new.self c.take_promise.result
    c.take_promise.ensures.tries)

pub take_sync-requires-clause-can : goal.take_sync-requires-clause-can
take_sync-requires-clause-can c =
    let setup = setup_of c.args.setup.now in
    let n = c.args.self.now in
    let k = c.in-Sync in
    can_in setup c.requires.setup n (msg.Sync k.from n.id k.epoch k.stream k.log)
    (can_here setup n k.to (λ t. msg.Sync k.from t k.epoch k.stream k.log) (λ t. refl) (subst (CanTakeIn setup n) k.is c.requires.can))

pub returns-in-Sync-clause-tries : goal.returns-in-Sync-clause-tries
returns-in-Sync-clause-tries c =
    let setup = setup_of c.args.setup.now in
    let n = c.args.self.now in
    let k = c.in-Sync in
    subst (λ m. TriesToTakeIn setup n c.take_sync.new.self m c.take_sync.result) (sym k.is)
    (tries_here setup n k.to (λ t. msg.Sync k.from t k.epoch k.stream k.log) (λ t. refl) c.take_sync.new.self c.take_sync.result
    (tries_in setup c.requires.setup n c.take_sync.new.self (msg.Sync k.from n.id k.epoch k.stream k.log) c.take_sync.result c.take_sync.ensures.tries))

pub take_accept-requires-clause-can : goal.take_accept-requires-clause-can
take_accept-requires-clause-can c =
    let setup = setup_of c.args.setup.now in
    let n = c.args.self.now in
    let k = c.in-Accept in
    can_in setup c.requires.setup n (msg.Accept k.from n.id k.epoch k.stream k.slot k.batch)
    (can_here setup n k.to (λ t. msg.Accept k.from t k.epoch k.stream k.slot k.batch) (λ t. refl) (subst (CanTakeIn setup n) k.is c.requires.can))

pub returns-in-Accept-clause-tries : goal.returns-in-Accept-clause-tries
returns-in-Accept-clause-tries c =
    let setup = setup_of c.args.setup.now in
    let n = c.args.self.now in
    let k = c.in-Accept in
    subst (λ m. TriesToTakeIn setup n c.take_accept.new.self m c.take_accept.result) (sym k.is)
    (tries_here setup n k.to (λ t. msg.Accept k.from t k.epoch k.stream k.slot k.batch) (λ t. refl) c.take_accept.new.self c.take_accept.result
    (tries_in setup c.requires.setup n c.take_accept.new.self (msg.Accept k.from n.id k.epoch k.stream k.slot k.batch) c.take_accept.result c.take_accept.ensures.tries))

pub take_ack-requires-clause-can : goal.take_ack-requires-clause-can
take_ack-requires-clause-can c =
    let setup = setup_of c.args.setup.now in
    let n = c.args.self.now in
    let k = c.in-Ack in
    can_here setup n k.to (λ t. msg.Ack k.from t k.epoch k.stream k.len) (λ t. refl) (subst (CanTakeIn setup n) k.is c.requires.can)

pub returns-in-Ack-clause-tries : goal.returns-in-Ack-clause-tries
returns-in-Ack-clause-tries c =
    let setup = setup_of c.args.setup.now in
    let n = c.args.self.now in
    let k = c.in-Ack in
    subst (λ m. TriesToTakeIn setup n c.take_ack.new.self m c.take_ack.result) (sym k.is)
    (tries_here setup n k.to (λ t. msg.Ack k.from t k.epoch k.stream k.len) (λ t. refl) c.take_ack.new.self c.take_ack.result
    c.take_ack.ensures.tries)

pub take_known-requires-clause-can : goal.take_known-requires-clause-can
take_known-requires-clause-can c =
    let setup = setup_of c.args.setup.now in
    let n = c.args.self.now in
    let k = c.in-Known in
    can_in setup c.requires.setup n (msg.Known k.from n.id k.epoch k.stream k.len)
    (can_here setup n k.to (λ t. msg.Known k.from t k.epoch k.stream k.len) (λ t. refl) (subst (CanTakeIn setup n) k.is c.requires.can))

pub returns-in-Known-clause-tries : goal.returns-in-Known-clause-tries
returns-in-Known-clause-tries c =
    let setup = setup_of c.args.setup.now in
    let n = c.args.self.now in
    let k = c.in-Known in
    subst (λ m. TriesToTakeIn setup n c.take_known.new.self m c.take_known.result) (sym k.is)
    (tries_here setup n k.to (λ t. msg.Known k.from t k.epoch k.stream k.len) (λ t. refl) c.take_known.new.self c.take_known.result
    (tries_in setup c.requires.setup n c.take_known.new.self (msg.Known k.from n.id k.epoch k.stream k.len) c.take_known.result c.take_known.ensures.tries))
