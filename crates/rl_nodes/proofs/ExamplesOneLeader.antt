-- Worked scripts with one leader, computed from the definitions.
use Rattle.std.specs.Prelude.{List, [], ◌∷◌, true, refl}
use Rattle.rl_fields.specs.Fields.{whole, within, number, string, series, several}
use Rattle.rl_batch.specs.Reading.{batch, rising, numbers, row, write, writes, item, items, mark}
use Rattle.rl_txn.specs.declared.op.Operand.TheVariants.{Num}
use Rattle.rl_txn.specs.declared.op.Op.TheVariants.{Put}
use Rattle.rl_txn.specs.Run.{op_done}
use Rattle.rl_paxos.specs.declared.refused.Refused.TheVariants.{OutOfOrder}
use Rattle.rl_events.specs.declared.event.Event.{Event}
use Rattle.rl_events.specs.declared.event.Event.TheVariants as event
use Rattle.rl_nodes.proofs.Listed.{ops_listed, read_listed}
use Rattle.rl_nodes.proofs.Scripts.{Script, done, stream, up, ByWrites, Reports, computed, shown}
use Rattle.rl_nodes.specs.declared.view.Role.TheVariants.{Follower, Leading}
use Rattle.rl_nodes.specs.World.{MessageDenied, NoMessage, LeaderOpened}

-- The item of worker 1 is released only when the stream of worker 2, which has nothing to do, has an idle mark.
abbrev silent_stream_script : Script
silent_stream_script = record {
  nodes = 1;
  quorums = (1, 1);
  workers = 2;
  batch = 1;
  tables = (2, 1) ∷ [];
  rows = [];
  lists = ((Put 0 (Num 0) ((Num 5) ∷ []) ∷ []) ∷ []) ∷ ((Put 0 (Num 1) ((Num 6) ∷ []) ∷ []) ∷ []) ∷ [];
}

abbrev silent_stream_events : List Event
silent_stream_events =
    event.Elect 1 ∷ event.All ∷ event.All ∷ event.All ∷ event.All ∷ event.Step 1 1 5 ∷
    event.All ∷ event.All ∷ event.Idle 1 2 ∷ event.All ∷ event.All ∷ event.All ∷
    event.PlayAll 1 ∷ []

abbrev silent_stream_report : ByWrites
silent_stream_report rows = shown
    (LeaderOpened 1 1 0 ∷ [])
    (done 1 2 1 1 [] ∷ [])
    (
    up 1 1 (Leading 1) (1, 2) true (stream 1 2 2 ∷ stream 1 2 2 ∷ []) (rows (((0, 0), 5 ∷ []) ∷ []))
    ∷ [])

silent_stream : Reports silent_stream_script silent_stream_events silent_stream_report
unfolding whole within number string series several batch rising numbers row write writes item items mark op_done ops_listed read_listed
silent_stream = computed silent_stream_script silent_stream_events silent_stream_report refl

-- Without the mark nothing is released.
abbrev without_idle_mark_script : Script
without_idle_mark_script = record {
  nodes = 1;
  quorums = (1, 1);
  workers = 2;
  batch = 1;
  tables = (2, 1) ∷ [];
  rows = [];
  lists = ((Put 0 (Num 0) ((Num 5) ∷ []) ∷ []) ∷ []) ∷ ((Put 0 (Num 1) ((Num 6) ∷ []) ∷ []) ∷ []) ∷ [];
}

abbrev without_idle_mark_events : List Event
without_idle_mark_events =
    event.Elect 1 ∷ event.All ∷ event.All ∷ event.All ∷ event.All ∷ event.Step 1 1 5 ∷
    event.All ∷ event.All ∷ []

abbrev without_idle_mark_report : ByWrites
without_idle_mark_report rows = shown
    (LeaderOpened 1 1 0 ∷ [])
    []
    (up 1 1 (Leading 1) (1, 1) true (stream 1 2 1 ∷ stream 1 1 1 ∷ []) (rows []) ∷ [])

without_idle_mark : Reports without_idle_mark_script without_idle_mark_events without_idle_mark_report
unfolding whole within number string series several batch rising numbers row write writes item items mark op_done ops_listed read_listed
without_idle_mark = computed without_idle_mark_script without_idle_mark_events without_idle_mark_report refl

-- An Accept that is delivered three times is acked three times, and counts once.
abbrev repeated_accept_script : Script
repeated_accept_script = record {
  nodes = 1;
  quorums = (1, 1);
  workers = 2;
  batch = 1;
  tables = (2, 1) ∷ [];
  rows = [];
  lists = ((Put 0 (Num 0) ((Num 5) ∷ []) ∷ []) ∷ []) ∷ ((Put 0 (Num 1) ((Num 6) ∷ []) ∷ []) ∷ []) ∷ [];
}

abbrev repeated_accept_events : List Event
repeated_accept_events =
    event.Elect 1 ∷ event.All ∷ event.All ∷ event.All ∷ event.All ∷ event.Step 1 1 5 ∷
    event.Dlv 9 ∷ event.Dlv 9 ∷ event.Dlv 9 ∷ event.All ∷ event.Idle 1 2 ∷ event.All ∷
    event.All ∷ event.All ∷ event.PlayAll 1 ∷ []

abbrev repeated_accept_report : ByWrites
repeated_accept_report rows = shown
    (LeaderOpened 1 1 0 ∷ [])
    (done 1 2 1 1 [] ∷ [])
    (
    up 1 1 (Leading 1) (1, 2) true (stream 1 2 2 ∷ stream 1 2 2 ∷ []) (rows (((0, 0), 5 ∷ []) ∷ []))
    ∷ [])

repeated_accept : Reports repeated_accept_script repeated_accept_events repeated_accept_report
unfolding whole within number string series several batch rising numbers row write writes item items mark op_done ops_listed read_listed
repeated_accept = computed repeated_accept_script repeated_accept_events repeated_accept_report refl

-- An Accept for a slot past the end of the log is denied, and taken when it comes again in order.
abbrev out_of_order_script : Script
out_of_order_script = record {
  nodes = 1;
  quorums = (1, 1);
  workers = 1;
  batch = 1;
  tables = (1, 1) ∷ [];
  rows = [];
  lists = ((Put 0 (Num 0) ((Num 5) ∷ []) ∷ []) ∷ (Put 0 (Num 0) ((Num 6) ∷ []) ∷ []) ∷ []) ∷ [];
}

abbrev out_of_order_events : List Event
out_of_order_events =
    event.Elect 1 ∷ event.All ∷ event.All ∷ event.All ∷ event.All ∷ event.Step 1 1 10 ∷
    event.Dlv 7 ∷ event.Dlv 6 ∷ event.Dlv 7 ∷ event.All ∷ event.All ∷ event.PlayAll 1 ∷ []

abbrev out_of_order_report : ByWrites
out_of_order_report rows = shown
    (
    LeaderOpened 1 1 0
    ∷ MessageDenied 7 1 (OutOfOrder 1)
    ∷ [])
    (
    done 1 2 1 1 []
    ∷ done 1 3 1 2 []
    ∷ [])
    (
    up 1 1 (Leading 1) (1, 3) true (stream 1 3 3 ∷ []) (rows (((0, 0), 5 ∷ []) ∷ ((0, 0), 6 ∷ []) ∷ []))
    ∷ [])

out_of_order : Reports out_of_order_script out_of_order_events out_of_order_report
unfolding whole within number string series several batch rising numbers row write writes item items mark op_done ops_listed read_listed
out_of_order = computed out_of_order_script out_of_order_events out_of_order_report refl

-- A message that was not sent can not be delivered.
abbrev not_sent_script : Script
not_sent_script = record {
  nodes = 1;
  quorums = (1, 1);
  workers = 1;
  batch = 1;
  tables = (1, 1) ∷ [];
  rows = [];
  lists = [] ∷ [];
}

abbrev not_sent_events : List Event
not_sent_events =
    event.Dlv 1 ∷ []

abbrev not_sent_report : ByWrites
not_sent_report rows = shown
    (NoMessage 1 ∷ [])
    []
    (up 1 0 Follower (0, 0) true (stream 0 0 0 ∷ []) (rows []) ∷ [])

not_sent : Reports not_sent_script not_sent_events not_sent_report
unfolding whole within number string series several batch rising numbers row write writes item items mark op_done ops_listed read_listed
not_sent = computed not_sent_script not_sent_events not_sent_report refl
