use Rattle.std.proofs.Common.{◌∙◌, ℕ, List, length, ap, subst, IsTrue, ◌↔◌}
use Rattle.rl_replay.specs.Replay.{HaveSameStamps}
use Rattle.rl_node.specs.SetupOf.{setup_of}
use Rattle.rl_node.specs.Showing.{shown_streams}
use Rattle.rl_node.proofs.Shown.{same_view}
use Rattle.rl_node.proofs.running.Running.view.Goals as goal

pub returns : goal.returns
returns c = λ x stands.
    let r = c.args.self.now in
    let acceptor = c.args.acceptor.now in
    let lens = c.as_slice.ensures.value ∙ c.in_ok-known.ensures in
    same_view (setup_of c.args.setup.now) acceptor r c.requires.fits x c.promised.result c.role.result c.watermark.result c.at_watermark.result
    c.in_ok-view_streams.field-0 c.promised.ensures (c.role.ensures x stands) c.watermark.ensures
    (subst (λ items. IsTrue c.at_watermark.result ↔ HaveSameStamps r.replica.replaying.applied items) c.kept_history.ensures.history c.at_watermark.ensures.stamps)
    (c.in_ok-view_streams.ensures ∙ ap (λ (lens : List ℕ). shown_streams acceptor lens (length lens)) lens)
