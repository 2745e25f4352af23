use Rattle.rl_safe.proofs.Led as led
use Rattle.rl_safe.proofs.laws.runs_are_led.Goals as goal

pub returns : goal.returns
returns c = led.runs_are_led (record {
  read_back = c.reads_back.ensures.read_back;
  short = c.short.ensures;
  origins = c.leader_logs.ensures.origins;
  owners = c.leader_logs.ensures.owners;
  candidates = c.leader_logs.ensures.candidates;
  rows_fit = c.rows.ensures.fit;
  items_words = c.words.ensures.items;
  rows_words = c.words.ensures.rows;
  serially = c.core_serial.ensures.serial;
  follow_on = c.core_serial.ensures.follow_on;
  causes = c.core_serial.ensures.causes;
  rise = c.core_serial.ensures.rising;
  steps_are_one = c.one_step.ensures.one;
  in_range = c.ranges-2.ensures.in_range;
  items_in_range = c.ranges-2.ensures.items;
  end_in_order = c.ranges-2.ensures.end_in_order;
  early = c.opening_stamps.ensures.early;
})
