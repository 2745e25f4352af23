use Rattle.std.proofs.Common.{◌++◌, [], ◌∷◌, sym, ap, ◌∙◌, refl, subst, arith}
use Rattle.rl_base.specs.Words.{stamp_in}
use Rattle.rl_shared_replay.specs.declared.view.View.{View}
use Rattle.rl_shared_replay.specs.Calls.{IsHolding}
use Rattle.rl_shared_replay.proofs.Calls.{record_in}
use Rattle.rl_shared_replay.proofs.Settling.{may_let_go, seen_more, seen_last}
use Rattle.rl_shared_replay.proofs.records.Records.let_go.Goals as goal

pub store-requires : goal.store-requires
store-requires c =
    let made = ap (λ z. z.made) c.self.view_is in
    let r = record_in _ _ _ _ c.self.invariant _ made c.args.update.now.rec c.requires.record in (
      ap (λ z. z.table) c.seat.view_is ∙ c.requires.table ∙ sym (ap (λ z. z.table) c.self.view_is),
      (let l = r.1 in omega arith),
      may_let_go c.self.inside.table.shared.key.value _ _ _ c.args.update.now.rec c.args.word (subst (IsHolding c.args.update.now.rec c.args.word) (sym (ap (λ z. z.view) c.seat.view_is)) c.requires.held),
    )

pub invariant_of-seat : goal.invariant_of-seat
invariant_of-seat c =
    let h = subst (IsHolding c.args.update.now.rec c.args.word) (sym (ap (λ z. z.view) c.seat.view_is)) c.requires.held in
    ap (λ m. m.1) ((c.store.ensures.2 _ h.held).0 (let f = h.free in omega arith)) ∙ c.seat.invariant

pub returns-clause-free : goal.returns-clause-free
returns-clause-free c =
    let h = subst (IsHolding c.args.update.now.rec c.args.word) (sym (ap (λ z. z.view) c.seat.view_is)) c.requires.held in
    ap (λ m. m.0.held) ((c.store.ensures.2 _ h.held).0 (let f = h.free in omega arith))

pub returns-clause-kept : goal.returns-clause-kept
returns-clause-kept c =
    let h = subst (IsHolding c.args.update.now.rec c.args.word) (sym (ap (λ z. z.view) c.seat.view_is)) c.requires.held in
    let is = (c.store.ensures.2 _ h.held).0 (let f = h.free in omega arith) in
    seen_more c.args.seat.now.view c.store.new.seat.me.0 _ (ap (λ m. m.0.seen) is ∙ ap (λ z. z.view.seen ++ record { rec = c.args.update.now.rec; stamp = stamp_in c.args.word } ∷ []) c.seat.view_is)

pub returns-clause-settled : goal.returns-clause-settled
returns-clause-settled c =
    let h = subst (IsHolding c.args.update.now.rec c.args.word) (sym (ap (λ z. z.view) c.seat.view_is)) c.requires.held in
    let is = (c.store.ensures.2 _ h.held).0 (let f = h.free in omega arith) in
    seen_last c.store.new.seat.me.0 _ _ (record { rec = c.args.update.now.rec; stamp = c.args.update.now.stamp; row = c.args.update.now.row }) (ap (λ m. m.0.seen) is) refl c.requires.newer
