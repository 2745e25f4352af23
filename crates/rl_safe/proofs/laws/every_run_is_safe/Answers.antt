use Rattle.rl_safe.proofs.laws.every_run_is_safe.Goals as goal

pub returns : goal.returns
returns c = c.led_runs_are_safe.ensures c.runs_are_led.ensures
