-- Worked scripts with elections, crashes and lost nodes, computed from the definitions.
use Rattle.std.specs.Prelude.{List, [], ◌∷◌, true, false, refl}
use Rattle.rl_fields.specs.Fields.{whole, within, number, string, series, several}
use Rattle.rl_batch.specs.Reading.{batch, rising, numbers, row, write, writes, item, items, mark}
use Rattle.rl_txn.specs.declared.op.Operand.TheVariants.{Num}
use Rattle.rl_txn.specs.declared.op.Op.TheVariants.{Put}
use Rattle.rl_txn.specs.Run.{op_done}
use Rattle.rl_paxos.specs.declared.refused.Refused.TheVariants.{Promised}
use Rattle.rl_events.specs.declared.event.Event.{Event}
use Rattle.rl_events.specs.declared.event.Event.TheVariants as event
use Rattle.rl_nodes.proofs.Listed.{ops_listed, read_listed}
use Rattle.rl_nodes.proofs.Scripts.{Script, done, stream, up, down, lost, ByWrites, Reports, computed, shown}
use Rattle.rl_nodes.specs.declared.view.Role.TheVariants.{Follower, Candidate, Leading}
use Rattle.rl_nodes.specs.World.{MessageDenied, LeaderOpened, NodeShown}

-- Epoch 1 came to seq 4 on one stream and to seq 3 on the other: the item (1, 4) is cut, and its request runs again in epoch 2.
abbrev pub cut_script : Script
cut_script = record {
  nodes = 3;
  quorums = (2, 2);
  workers = 2;
  batch = 1;
  tables = (2, 1) ∷ [];
  rows = [];
  lists = ((Put 0 (Num 0) ((Num 5) ∷ []) ∷ []) ∷ (Put 0 (Num 1) ((Num 7) ∷ []) ∷ []) ∷ []) ∷ ((Put 0 (Num 0) ((Num 6) ∷ []) ∷ []) ∷ []) ∷ [];
}

abbrev pub cut_events : List Event
cut_events =
    event.Elect 1 ∷ event.All ∷ event.All ∷ event.All ∷ event.All ∷ event.Step 1 1 5 ∷
    event.Step 1 2 5 ∷ event.Step 1 1 5 ∷ event.All ∷ event.All ∷ event.Crash 1 ∷
    event.Elect 2 ∷ event.All ∷ event.All ∷ event.All ∷ event.All ∷ event.Step 2 1 5 ∷
    event.Idle 2 2 ∷ event.All ∷ event.All ∷ event.All ∷ event.PlayAll 2 ∷ event.PlayAll 3 ∷ []

abbrev pub cut_report : ByWrites
cut_report rows = shown
    (
    LeaderOpened 1 1 0
    ∷ LeaderOpened 2 2 2
    ∷ [])
    (
    done 1 2 1 1 []
    ∷ done 1 3 2 1 []
    ∷ done 2 2 1 2 []
    ∷ [])
    (
    down 1 1 (stream 1 3 0 ∷ stream 1 2 0 ∷ [])
    ∷ up 2 2 (Leading 2) (2, 2) true (stream 2 5 5 ∷ stream 2 4 4 ∷ []) (rows (((0, 0), 5 ∷ []) ∷ ((0, 1), 7 ∷ []) ∷ ((0, 0), 6 ∷ []) ∷ []))
    ∷ up 3 2 Follower (2, 2) true (stream 2 5 5 ∷ stream 2 4 4 ∷ []) (rows (((0, 0), 5 ∷ []) ∷ ((0, 1), 7 ∷ []) ∷ ((0, 0), 6 ∷ []) ∷ []))
    ∷ [])

pub cut : Reports cut_script cut_events cut_report
unfolding whole within number string series several batch rising numbers row write writes item items mark op_done ops_listed read_listed
cut = computed cut_script cut_events cut_report refl

-- The same, with node 3 shown before it plays its streams, the second one first.
abbrev behind_script : Script
behind_script = record {
  nodes = 3;
  quorums = (2, 2);
  workers = 2;
  batch = 1;
  tables = (2, 1) ∷ [];
  rows = [];
  lists = ((Put 0 (Num 0) ((Num 5) ∷ []) ∷ []) ∷ (Put 0 (Num 1) ((Num 7) ∷ []) ∷ []) ∷ []) ∷ ((Put 0 (Num 0) ((Num 6) ∷ []) ∷ []) ∷ []) ∷ [];
}

abbrev behind_events : List Event
behind_events =
    event.Elect 1 ∷ event.All ∷ event.All ∷ event.All ∷ event.All ∷ event.Step 1 1 5 ∷
    event.Step 1 2 5 ∷ event.Step 1 1 5 ∷ event.All ∷ event.All ∷ event.Crash 1 ∷
    event.Elect 2 ∷ event.All ∷ event.All ∷ event.All ∷ event.All ∷ event.Step 2 1 5 ∷
    event.Idle 2 2 ∷ event.All ∷ event.All ∷ event.All ∷ event.PlayAll 2 ∷ event.Show 3 ∷
    event.Play 3 2 ∷ event.Play 3 1 ∷ []

abbrev behind_report : ByWrites
behind_report rows = shown
    (
    LeaderOpened 1 1 0
    ∷ LeaderOpened 2 2 2
    ∷ NodeShown (up 3 2 Follower (2, 2) false (stream 2 5 5 ∷ stream 2 4 4 ∷ []) (rows []))
    ∷ [])
    (
    done 1 2 1 1 []
    ∷ done 1 3 2 1 []
    ∷ done 2 2 1 2 []
    ∷ [])
    (
    down 1 1 (stream 1 3 0 ∷ stream 1 2 0 ∷ [])
    ∷ up 2 2 (Leading 2) (2, 2) true (stream 2 5 5 ∷ stream 2 4 4 ∷ []) (rows (((0, 0), 5 ∷ []) ∷ ((0, 1), 7 ∷ []) ∷ ((0, 0), 6 ∷ []) ∷ []))
    ∷ up 3 2 Follower (2, 2) true (stream 2 5 5 ∷ stream 2 4 4 ∷ []) (rows (((0, 0), 6 ∷ []) ∷ ((0, 1), 7 ∷ []) ∷ []))
    ∷ [])

behind : Reports behind_script behind_events behind_report
unfolding whole within number string series several batch rising numbers row write writes item items mark op_done ops_listed read_listed
behind = computed behind_script behind_events behind_report refl

-- A deposed leader opens late and proposes; the acceptors that promised the later epoch refuse it.
abbrev deposed_leader_script : Script
deposed_leader_script = record {
  nodes = 3;
  quorums = (2, 2);
  workers = 1;
  batch = 1;
  tables = (1, 1) ∷ [];
  rows = [];
  lists = ((Put 0 (Num 0) ((Num 5) ∷ []) ∷ []) ∷ []) ∷ [];
}

abbrev deposed_leader_events : List Event
deposed_leader_events =
    event.Elect 1 ∷ event.All ∷ event.All ∷ event.All ∷ event.Elect 2 ∷ event.Dlv 14 ∷
    event.Dlv 15 ∷ event.Dlv 16 ∷ event.Dlv 17 ∷ event.Dlv 19 ∷ event.Dlv 20 ∷ event.Dlv 21 ∷
    event.Dlv 22 ∷ event.Step 2 1 5 ∷ event.Dlv 27 ∷ event.Dlv 28 ∷ event.Dlv 29 ∷
    event.Dlv 30 ∷ event.Dlv 10 ∷ event.Dlv 11 ∷ event.Step 1 1 5 ∷ event.Dlv 38 ∷
    event.Dlv 39 ∷ event.Dlv 37 ∷ event.Dlv 40 ∷ event.Dlv 32 ∷ event.PlayAll 2 ∷ []

abbrev deposed_leader_report : ByWrites
deposed_leader_report rows = shown
    (
    LeaderOpened 2 2 0
    ∷ LeaderOpened 1 1 0
    ∷ MessageDenied 38 2 (Promised 2)
    ∷ MessageDenied 39 3 (Promised 2)
    ∷ [])
    (done 2 2 1 1 [] ∷ [])
    (
    up 1 1 (Leading 1) (0, 0) true (stream 1 2 0 ∷ []) (rows [])
    ∷ up 2 2 (Leading 2) (2, 2) true (stream 2 3 3 ∷ []) (rows (((0, 0), 5 ∷ []) ∷ []))
    ∷ up 3 2 Follower (0, 0) true (stream 2 3 0 ∷ []) (rows [])
    ∷ [])

deposed_leader : Reports deposed_leader_script deposed_leader_events deposed_leader_report
unfolding whole within number string series several batch rising numbers row write writes item items mark op_done ops_listed read_listed
deposed_leader = computed deposed_leader_script deposed_leader_events deposed_leader_report refl

-- With two of three nodes lost no election succeeds.
abbrev too_few_nodes_script : Script
too_few_nodes_script = record {
  nodes = 3;
  quorums = (2, 2);
  workers = 1;
  batch = 1;
  tables = (1, 1) ∷ [];
  rows = [];
  lists = [] ∷ [];
}

abbrev too_few_nodes_events : List Event
too_few_nodes_events =
    event.Lose 2 ∷ event.Lose 3 ∷ event.Elect 1 ∷ event.All ∷ event.All ∷ event.Elect 1 ∷
    event.All ∷ event.All ∷ []

abbrev too_few_nodes_report : ByWrites
too_few_nodes_report rows = shown
    []
    []
    (
    up 1 4 (Candidate 4 1 2) (0, 0) true (stream 0 0 0 ∷ []) (rows [])
    ∷ lost 2
    ∷ lost 3
    ∷ [])

too_few_nodes : Reports too_few_nodes_script too_few_nodes_events too_few_nodes_report
unfolding whole within number string series several batch rising numbers row write writes item items mark op_done ops_listed read_listed
too_few_nodes = computed too_few_nodes_script too_few_nodes_events too_few_nodes_report refl

-- Epoch 1 reached one of two streams, and never opens; epoch 2 does.
abbrev one_stream_reached_script : Script
one_stream_reached_script = record {
  nodes = 3;
  quorums = (2, 2);
  workers = 2;
  batch = 1;
  tables = (1, 1) ∷ [];
  rows = [];
  lists = [] ∷ [] ∷ [];
}

abbrev one_stream_reached_events : List Event
one_stream_reached_events =
    event.Elect 1 ∷ event.All ∷ event.All ∷ event.Dlv 8 ∷ event.Dlv 9 ∷ event.Dlv 13 ∷
    event.Dlv 14 ∷ event.Discard 11 ∷ event.Discard 12 ∷ event.Crash 1 ∷ event.Elect 2 ∷
    event.All ∷ event.All ∷ event.All ∷ event.All ∷ event.All ∷ event.PlayAll 2 ∷ []

abbrev one_stream_reached_report : ByWrites
one_stream_reached_report rows = shown
    (LeaderOpened 2 2 0 ∷ [])
    []
    (
    down 1 1 (stream 0 0 0 ∷ stream 0 0 0 ∷ [])
    ∷ up 2 2 (Leading 2) (2, 1) true (stream 2 2 2 ∷ stream 2 1 1 ∷ []) (rows [])
    ∷ up 3 2 Follower (2, 1) true (stream 2 2 2 ∷ stream 2 1 1 ∷ []) (rows [])
    ∷ [])

one_stream_reached : Reports one_stream_reached_script one_stream_reached_events one_stream_reached_report
unfolding whole within number string series several batch rising numbers row write writes item items mark op_done ops_listed read_listed
one_stream_reached = computed one_stream_reached_script one_stream_reached_events one_stream_reached_report refl

-- With quorums of three promises and one Ack, one Ack chooses.
abbrev uneven_quorums_script : Script
uneven_quorums_script = record {
  nodes = 3;
  quorums = (3, 1);
  workers = 1;
  batch = 1;
  tables = (1, 1) ∷ [];
  rows = [];
  lists = ((Put 0 (Num 0) ((Num 5) ∷ []) ∷ []) ∷ []) ∷ [];
}

abbrev uneven_quorums_events : List Event
uneven_quorums_events =
    event.Elect 1 ∷ event.All ∷ event.All ∷ event.Dlv 7 ∷ event.Dlv 10 ∷ event.Step 1 1 5 ∷
    event.Dlv 14 ∷ event.Dlv 17 ∷ event.Dlv 18 ∷ event.PlayAll 1 ∷ []

abbrev uneven_quorums_report : ByWrites
uneven_quorums_report rows = shown
    (LeaderOpened 1 1 0 ∷ [])
    (done 1 2 1 1 [] ∷ [])
    (
    up 1 1 (Leading 1) (1, 2) true (stream 1 2 2 ∷ []) (rows (((0, 0), 5 ∷ []) ∷ []))
    ∷ up 2 1 Follower (0, 0) true (stream 0 0 0 ∷ []) (rows [])
    ∷ up 3 1 Follower (0, 0) true (stream 0 0 0 ∷ []) (rows [])
    ∷ [])

uneven_quorums : Reports uneven_quorums_script uneven_quorums_events uneven_quorums_report
unfolding whole within number string series several batch rising numbers row write writes item items mark op_done ops_listed read_listed
uneven_quorums = computed uneven_quorums_script uneven_quorums_events uneven_quorums_report refl

-- And the next candidate waits for all three.
abbrev uneven_quorums_crash_script : Script
uneven_quorums_crash_script = record {
  nodes = 3;
  quorums = (3, 1);
  workers = 1;
  batch = 1;
  tables = (1, 1) ∷ [];
  rows = [];
  lists = ((Put 0 (Num 0) ((Num 5) ∷ []) ∷ []) ∷ []) ∷ [];
}

abbrev uneven_quorums_crash_events : List Event
uneven_quorums_crash_events =
    event.Elect 1 ∷ event.All ∷ event.All ∷ event.Dlv 7 ∷ event.Dlv 10 ∷ event.Step 1 1 5 ∷
    event.Dlv 14 ∷ event.Dlv 17 ∷ event.Dlv 18 ∷ event.PlayAll 1 ∷ event.Crash 1 ∷
    event.Elect 2 ∷ event.All ∷ event.All ∷ []

abbrev uneven_quorums_crash_report : ByWrites
uneven_quorums_crash_report rows = shown
    (
    LeaderOpened 1 1 0
    ∷ MessageDenied 8 2 (Promised 2)
    ∷ MessageDenied 15 2 (Promised 2)
    ∷ [])
    (done 1 2 1 1 [] ∷ [])
    (
    down 1 1 (stream 1 2 0 ∷ [])
    ∷ up 2 2 (Candidate 2 2 3) (0, 0) true (stream 0 0 0 ∷ []) (rows [])
    ∷ up 3 2 Follower (1, 2) false (stream 1 2 2 ∷ []) (rows [])
    ∷ [])

uneven_quorums_crash : Reports uneven_quorums_crash_script uneven_quorums_crash_events uneven_quorums_crash_report
unfolding whole within number string series several batch rising numbers row write writes item items mark op_done ops_listed read_listed
uneven_quorums_crash = computed uneven_quorums_crash_script uneven_quorums_crash_events uneven_quorums_crash_report refl
