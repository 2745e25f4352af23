use Rattle.std.proofs.Common.{◌≡◌, ◌≢◌, ◌∙◌, ◌<◌, ◌≤◌, ℕ, [], length, sym, ap, subst, refl, arith}
use Rattle.rl_nodes.specs.Nodes.{len_acknowledged}
use Rattle.rl_node.specs.Leading.{stream_of}
use Rattle.rl_node.specs.Outs.{Adds}
use Rattle.rl_node.specs.SetupOf.{setup_of}
use Rattle.rl_node.proofs.Leaders.{is_behind}
use Rattle.rl_node.proofs.Advancing.{within_now, did_count, works_now, did_advance}
use Rattle.rl_node.proofs.part.Lead.take_ack.Goals as goal

pub returns-then-counted : goal.returns-then-counted
returns-then-counted c = λ x s.
    let ack = c.args.ack in
    let counted = c.count-counted.ensures in
    did_count (setup_of c.args.setup.now) ack.stream ack.from ack.len c.args.self.now c.count-counted.new.self x.part s c.requires.stream counted.counted
    (within_now _ _ _ counted.after counted.within) c.args.id x refl (sym counted.before ∙ c.if-counted.true ∙ counted.after) c.sending.result
    (c.sending.ensures [] (subst (λ sends. Adds [] sends []) (sym c.new.ensures) (record { sends = refl; in_range = λ k d less. absurd (omega (arith, less)) })))

pub acknowledge-requires-clause-behind : goal.acknowledge-requires-clause-behind
acknowledge-requires-clause-behind c =
    let ack = c.args.ack in
    let counted = c.count-counted.ensures in
    is_behind (setup_of c.args.setup.now) c.args.self.now c.count-counted.new.self ack.stream ack.from ack.len c.requires.stands.1.fits c.requires.stream counted.counted
    (within_now _ _ _ counted.after counted.within) c.count-counted.result.before c.count-counted.result.after counted.before counted.after counted.grows

pub advance-requires-clause-works : goal.advance-requires-clause-works
advance-requires-clause-works c =
    let ack = c.args.ack in
    let counted = c.count-counted.ensures in
    let s = c.requires.stands.1 in (
      s.core,
      works_now (setup_of c.args.setup.now) ack.stream ack.from ack.len c.args.self.now c.count-counted.new.self c.requires.stands.0 s c.requires.stream counted.counted
          (within_now _ _ _ counted.after counted.within) c.acknowledge.new.self c.in_ok-sends.ensures.same,
    )

pub returns : goal.returns
returns c = λ x s.
    let ack = c.args.ack in
    let old = c.args.self.now in
    let mid = c.count-counted.new.self in
    let counted = c.count-counted.ensures in
    let apart = c.if-counted.false in
    let grows : len_acknowledged (stream_of old ack.stream) < len_acknowledged (stream_of mid ack.stream) =
    above (len_acknowledged (stream_of old ack.stream)) (len_acknowledged (stream_of mid ack.stream)) c.count-counted.result.before c.count-counted.result.after
    counted.before counted.after counted.grows apart in
    did_advance (setup_of c.args.setup.now) ack.stream ack.from ack.len old mid x.part s c.requires.stream counted.counted
    (within_now _ _ _ counted.after counted.within) c.args.id x refl grows c.acknowledge.new.self c.in_ok-sends.ensures.same
    c.advance.new.self c.in_ok-sends.sends c.len-told.result c.in_ok-advance.field-0 (c.len-told.ensures ∙ ap length c.kept_history.ensures.history)
    c.in_ok-sends.ensures.sends c.in_ok-advance.ensures
  where
    above : (m n b a : ℕ) → b ≡ m → a ≡ n → b ≤ a → b ≢ a → m < n
    above m n b a p q l h = omega (arith, p, q, l, h)
