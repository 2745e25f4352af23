use Rattle.std.proofs.Common.{◌-◌, ◌∙◌, refl, ap, set}
use Rattle.rl_node.specs.declared.part.Works.{Works}
use Rattle.rl_node.proofs.Streams.{set_self}
use Rattle.rl_node.proofs.part.Works.draw.Goals as goal

pub returns-clause-drawn : goal.returns-clause-drawn
returns-clause-drawn c =
    let works : Works = c.args.self.now in
    let at = c.args.worker - 1 in
    record {
      layout = refl;
      words = c.idle.ensures.words;
      workers = ap (set works.workers.items at) (c.idle.ensures.same ∙ c.index_mut.ensures.value) ∙ set_self works.workers.items at c.index_mut.result.now;
    }
