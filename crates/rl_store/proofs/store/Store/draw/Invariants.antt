use Rattle.std.proofs.Common.{◌*◌, ◌^◌}
use Rattle.rl_store.proofs.store.Store.draw.Given as goal

abbrev pub ghosts-draw_as : goal.ghosts-draw_as
ghosts-draw_as a = record { number = a.self.now.made.epoch * 2 ^ 40 }
