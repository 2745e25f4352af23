use Rattle.rl_app.proofs.Generated.{is_generated}
use Rattle.rl_app.proofs.generator.script_of.Goals as goal

pub returns-clause-generated : goal.returns-clause-generated
returns-clause-generated c =
    is_generated c.args.sizes c.at_most-nodes.result c.at_most-workers.result c.at_most-requests.result c.at_most-nodes.ensures c.at_most-workers.ensures c.at_most-requests.ensures
    c.generate.result c.generate.ensures.script c.generate.ensures.refused c.generate.ensures.why
