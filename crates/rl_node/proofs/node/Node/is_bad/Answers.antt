use Rattle.std.proofs.Common.{◌≡◌, ◌∙◌, false, Bool, ap, sym, subst, IfOk}
use Rattle.std.specs.List.{list_any}
use Rattle.rl_nodes.specs.BadMessages.{is_astray, is_usurped, is_partial, is_wrong, carried}
use Rattle.rl_node.specs.SetupOf.{setup_of}
use Rattle.rl_node.proofs.Bads.{named_there, bad_is}
use Rattle.rl_node.proofs.node.Node.is_bad.Goals as goal

pub is_untrue-requires-clause-node : goal.is_untrue-requires-clause-node
is_untrue-requires-clause-node c =
    let setup = setup_of c.args.setup.now in
    record {
      setup = setup;
      node = c.requires.node;
      has = named_there setup c.args.self.now.id c.args.m.now (sym c.is_astray.ensures ∙ c.if-is_astray.false);
    }

pub returns : goal.returns
returns c = λ a x s.
    let setup = setup_of c.args.setup.now in
    let m = c.args.m.now in
    let astray : is_astray setup a m ≡ false = ap (λ b. is_astray setup b m) (sym s.number) ∙ sym c.is_astray.ensures ∙ c.if-is_astray.false in
    let usurped : is_usurped setup m ≡ false = sym c.is_usurped.ensures ∙ c.if-is_usurped.false in
    let partial : is_partial setup m ≡ false = sym c.is_partial.ensures ∙ c.if-is_partial.false in
    let wrong : list_any (is_wrong setup.program.tables) (carried m) ≡ false = sym c.in_ok-has_wrong_log.ensures ∙ c.if-branch.false in
    subst (λ (v : Bool). IfOk c.is_untrue.result (λ bad. bad ≡ v)) (bad_is setup a x.node m astray usurped partial wrong) (c.is_untrue.ensures setup a x s)
