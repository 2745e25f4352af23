use Rattle.std.proofs.Common.{rules, ◌≡◌, ◌∙◌, ℕ, List, length, ap, replicate}
use Rattle.std.proofs.lemmas.List.{length-replicate}
use Rattle.rl_node.specs.SetupOf.{setup_of}
use Rattle.rl_node.specs.Showing.{shown_streams}
use Rattle.rl_node.proofs.Shown.{same_down}
use Rattle.rl_node.proofs.node.Node.view_down.Goals as goal

pub returns : goal.returns
returns c =
    let setup = setup_of c.args.setup.now in
    let acceptor = c.args.self.now.acceptor in
    let lens : c.as_slice.result.now ≡ replicate setup.workers 0 = search (rules, c.as_slice.ensures.value, c.in_ok-known.ensures.items_if_clones_equal) in
    same_down setup acceptor c.promised.result c.in_ok-view_streams.field-0 (length (replicate setup.workers 0)) c.promised.ensures
    (length-replicate setup.workers 0) (c.in_ok-view_streams.ensures ∙ ap (λ (lens : List ℕ). shown_streams acceptor lens (length lens)) lens)
