use Rattle.std.proofs.Common.{◌*◌, ◌^◌}
use Rattle.rl_store.proofs.store.Store.draw_below.Given as goal

abbrev pub ghosts-draw_below_as : goal.ghosts-draw_below_as
ghosts-draw_below_as a = record { base = a.self.now.made.epoch * 2 ^ 40; limit = a.limit }
