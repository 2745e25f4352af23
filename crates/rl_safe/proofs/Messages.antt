-- The messages of a run.
use Rattle.rl_base.proofs.Members.{contains_in, in_contains}
use Rattle.rl_election.specs.Laws.{InitialLogsHaveOrigins}
use Rattle.rl_msg.specs.Laws as encoding
use Rattle.rl_msg.specs.Parts.{head_of}
use Rattle.rl_nodes.specs.Setups.{node_numbers}
use Rattle.rl_nodes.proofs.Growing.{messages}
use Rattle.rl_nodes.proofs.Tied.{TiedRun}
use Rattle.rl_safe.specs.Laws.{RunsAreLed}
use Rattle.rl_safe.specs.Messages.{MessagesAreInRange, MessagesReadBack, MessagesHaveReceivers, NoMessageIsBad}
use Rattle.rl_safe.specs.Runs.{Run}
use Rattle.rl_safe.proofs.Bad.{not_bad}
use Rattle.rl_safe.proofs.Fair.{AllFair, fair_kept, first_fair}
use Rattle.rl_safe.proofs.InRange.{in_range}
use Rattle.rl_safe.proofs.KnownLists.{numbers_in}
use Rattle.rl_nodes.proofs.Runs.{kept_in_runs}
use Rattle.rl_safe.proofs.KnownWorlds.{AllKnown, all_known}

module _ (origins : InitialLogsHaveOrigins) (run : Run) where
  all_fair : AllFair run.setup run.world
  all_fair =
      (kept_in_runs run.setup (AllFair run.setup) (fair_kept origins run.setup run.setup_fits) (first_fair run.setup) run.setup_fits
      run.events run.events_fit run.world run.ends).1

  known : TiedRun run.setup run.world × AllKnown run.setup run.world
  known = all_known run.setup run.setup_fits run.events run.events_fit run.world run.ends

pub messages_are_in_range : InitialLogsHaveOrigins → RunsAreLed → MessagesAreInRange
messages_are_in_range origins led run m =
    in_range run (led run) (known origins run).0 (known origins run).1 (all_fair origins run) m.message (contains_in (messages run.world.sent) m.message m.was_sent)

pub messages_read_back : encoding.MessagesReadBack → MessagesAreInRange → MessagesReadBack
messages_read_back reads range run m = reads m.message (range run m)

pub messages_have_receivers : InitialLogsHaveOrigins → MessagesHaveReceivers
messages_have_receivers origins run m =
    in_contains (node_numbers run.setup) (head_of m.message).to (numbers_in run.setup.nodes (head_of m.message).to
    ((known origins run).0.tied.receivers m.message (contains_in (messages run.world.sent) m.message m.was_sent)))

pub no_message_is_bad : InitialLogsHaveOrigins → RunsAreLed → NoMessageIsBad
no_message_is_bad origins led run m =
    not_bad run (led run) (known origins run).0 (known origins run).1 (all_fair origins run) m.message (contains_in (messages run.world.sent) m.message m.was_sent)
