-- What an answer tells of a refusal.
use Rattle.rl_base.specs.declared.refusal.Refusal.{Refusal}
use Rattle.rl_base.specs.declared.refusal.Refusal.TheVariants.{Locked, Changed}
use Rattle.std.specs.Prelude.{◌≡◌, ℕ, ◌+◌, ◌<◌}
use Rattle.rl_store.specs.declared.spent.DrawStop.{DrawStop}
use Rattle.rl_store.specs.declared.spent.DrawStop.TheVariants.{Above, TriesSpent}
use Rattle.rl_store.specs.declared.view.Refused.{Refused}
use Rattle.rl_store.specs.declared.view.View.{View}
use Rattle.rl_store.specs.Views.{locked_at, changed_at, above_at, stopped, with_draw}

-- the refusal, as the view keeps it
abbrev pub why : Refusal → Refused
why (Locked r found) = locked_at r found
why (Changed r seen found) = changed_at r seen found

-- why a draw with a limit stops: the seq is above the limit, and a try was left, or none was
abbrev pub StopsDraw : (limit tries : ℕ) → DrawStop → Type 0
StopsDraw limit tries (Above seq) = (limit < seq) × (0 < tries)
StopsDraw limit tries TriesSpent = tries ≡ 0

-- the view after it, in an epoch whose stamps begin at base: a seq above the limit was drawn, and refused
abbrev pub after_stop : (base : ℕ) (v : View) → DrawStop → View
after_stop base v (Above seq) = stopped v.attempt.held (with_draw v (base + seq)) (above_at seq)
after_stop base v TriesSpent = v
