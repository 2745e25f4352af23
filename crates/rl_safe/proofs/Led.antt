-- Each run is one of leaders as the laws of families ask.
use Rattle.std.proofs.Common.{◌≡◌, ℕ, true, Err, Contains, refl, ap, sym, ◌∙◌, subst}
use Rattle.rl_base.proofs.Members.{contains_in}
use Rattle.rl_families.specs.Logs.{items_along}
use Rattle.rl_paxos.specs.Quorums.{is_node}
use Rattle.rl_nodes.specs.Batches.{batches_of}
use Rattle.rl_nodes.specs.Answers.{Answer, quiet, sending}
use Rattle.rl_nodes.specs.Elections.{sends_again, crashed, returned, lost}
use Rattle.rl_nodes.specs.Handles.{takes}
use Rattle.rl_nodes.specs.Nodes.{NodeState}
use Rattle.rl_nodes.specs.Setups.{Setup, SetupFits, stream_numbers}
use Rattle.rl_nodes.specs.Views.{plays}
use Rattle.rl_nodes.specs.World.{World, new_world, node_of}
use Rattle.rl_nodes.proofs.Deliveries.{in_numbers}
use Rattle.rl_nodes.proofs.Runs.{new_nodes}
use Rattle.rl_nodes.proofs.Tied.{TiedRun}
use Rattle.rl_nodes.specs.BadMessages.{is_bad}
use Rattle.rl_safe.specs.Laws.{RunsAreLed}
use Rattle.rl_safe.proofs.Below.{Below}
use Rattle.rl_safe.proofs.Accounts.{no_account, recovered_of, proposed_of, opening_of, leaders_of, PartOk, Inv}
use Rattle.rl_election.specs.Chosen.{IsLeaderLog}
use Rattle.rl_msg.specs.Ranges.{EmbeddedBatchInRange}
use Rattle.rl_paxos.specs.Logs as bytes
use Rattle.rl_nodes.specs.Streams.{stream_world}
use Rattle.rl_safe.proofs.Encodings.{AllEncode, are_encoded}
use Rattle.rl_safe.proofs.Listed.{all_from}
use Rattle.rl_safe.proofs.CoreTurns.{by_if}
use Rattle.rl_nodes.proofs.Runs.{Cause, Takes, Steps, Flushes, Idles, Elects, Ticks, Crashes, Returns, Loses, Plays, answer_to, IsFor, IsKept, kept_in_runs}
use Rattle.rl_nodes.proofs.Growing.{messages}
use Rattle.rl_nodes.specs.declared.node_error.NodeError.TheVariants.{BadMessage}
use Rattle.rl_safe.proofs.Opened.{AllOpened, opened_kept, first_opened, proposed_opened}
use Rattle.rl_safe.proofs.Held.{Held}
use Rattle.rl_safe.proofs.Moves.{Answers, still, follows, elected, steps_held, flushes_held, idles_held, takes_held}
use Rattle.rl_safe.proofs.Told.{are_leaders, are_serial, log_is, initial_is, encoded_at, fits_at}

module _ (b : Below) (setup : Setup) (sized : SetupFits setup) where
  first : Held setup (new_world setup)
  first = (
    λ e. no_account,
    record {
      epochs = λ e. refl;
      parts = λ a there. subst (λ (x : NodeState). PartOk setup (λ e. no_account) x.part) (sym (new_nodes setup a)) tt;
      openings = λ o i. absurd i;
      refusals = λ f i. absurd i;
    },
  )

  module _ (w : World) (r : TiedRun setup w) (h : Held setup w) (a number : ℕ) (there : is_node setup.nodes a ≡ true) where
    abbrev here : NodeState
    here = node_of setup w a

    abbrev After : Answer → Type 0
    After answer = Answers b setup sized w r h.0 h.1 a number there answer

    goes : (cause : Cause) → IsFor setup (messages w.sent) cause → After (answer_to setup a here cause)
    goes (Takes m) is_for = by_if After (is_bad setup a here m) (Err BadMessage) (takes setup a here m) (λ t. tt) (λ t. takes_held b setup sized w r h.0 h.1 a number there m)
    goes (Steps s) in_stream = steps_held b setup sized w r h.0 h.1 a number there s in_stream
    goes (Flushes s) in_stream = flushes_held b setup sized w r h.0 h.1 a number there s in_stream
    goes (Idles s) in_stream = idles_held b setup sized w r h.0 h.1 a number there s in_stream
    goes Elects is_for = elected b setup sized w r h.0 h.1 a number there
    goes Ticks is_for = still b setup sized w r h.0 h.1 a number there (sending here (sends_again setup a here.part)) refl tt tt
    goes Crashes is_for = follows b setup sized w r h.0 h.1 a number there (quiet (crashed setup here)) refl tt tt
    goes Returns is_for = still b setup sized w r h.0 h.1 a number there (quiet (returned here)) refl tt tt
    goes Loses is_for = follows b setup sized w r h.0 h.1 a number there (quiet (lost setup here)) refl tt tt
    goes (Plays s) is_for = still b setup sized w r h.0 h.1 a number there (quiet (plays setup here s)) refl tt tt

  held_kept : IsKept setup (Held setup)
  held_kept = record {
    told = λ w line h. (h.0, (let inv = h.1 in record { epochs = inv.epochs; parts = inv.parts; openings = inv.openings; refusals = inv.refusals }));
    marked = λ w sent same h. (h.0, (let inv = h.1 in record { epochs = inv.epochs; parts = inv.parts; openings = inv.openings; refusals = inv.refusals }));
    does = λ w r h step q. subst (After w r h step.node step.number step.there) step.answers (goes w r h step.node step.number step.there step.cause step.is_for);
  }

pub runs_are_led : Below → RunsAreLed
runs_are_led b run =
    let setup = run.setup in
    let w = run.world in
    let sized = run.setup_fits in
    let reached : TiedRun setup w × Held setup w =
    kept_in_runs setup (Held setup) (held_kept b setup sized) (first b setup sized) sized run.events run.events_fit w run.ends in
    let opened : AllOpened setup w =
    (kept_in_runs setup (AllOpened setup) (opened_kept setup) (first_opened setup) sized run.events run.events_fit w run.ends).1 in
    let r : TiedRun setup w = reached.0 in
    let accounts = reached.1.0 in
    let inv : Inv setup w accounts = reached.1.1 in
    let in_streams : (s : ℕ) → Contains (stream_numbers setup) s → is_node setup.workers s ≡ true = λ s c. in_numbers setup.workers s (contains_in (stream_numbers setup) s c) in
    let encoded_log : (e s : ℕ) → Contains (stream_numbers setup) s → (log : bytes.Log) → IsLeaderLog (stream_world setup w) e s log → AllEncode log =
    λ e s c log k. subst AllEncode k.log_is (encoded_at b setup sized r.events w.terms r.tied.terms accounts inv.epochs e k.term k.term_is s (in_streams s c)) in
    record {
      leaders = leaders_of setup w.terms accounts;
      are_leaders = are_leaders b setup sized r.events w.terms r.tied.terms accounts inv.epochs;
      serial = are_serial b setup sized r.events w.terms r.tied.terms accounts inv.epochs;
      logs = λ e s c log k. ap batches_of (sym k.log_is) ∙ log_is b setup sized r.events w.terms r.tied.terms accounts inv.epochs e k.term k.term_is s (in_streams s c);
      initials = λ e s c log k. ap batches_of (sym k.initial_is) ∙ initial_is b setup sized r.events w.terms r.tied.terms accounts inv.epochs e k.term k.term_is s (in_streams s c);
      encoded = λ e s c log k. are_encoded log (encoded_log e s c log k);
      short = λ e s c log k. all_from EmbeddedBatchInRange log (λ b i. (encoded_log e s c log k b i).1.1);
      fit = λ e x c. fits_at b setup sized r.events w.terms r.tied.terms accounts inv.epochs e x (contains_in _ x c);
      openings = λ o c. let k = inv.openings o (contains_in w.openings o c) in k.items ∙ ap (λ t. opening_of setup o.epoch (recovered_of setup t)) (sym k.is);
      opened = λ e s x c. proposed_opened setup w opened e s x (contains_in (items_along (proposed_of setup (w.terms e) s)) x c);
      refusals = λ f c. inv.refusals f (contains_in w.refusals f c);
    }
