-- Scripts with losses, repeats, deposed leaders, crashes and returns, computed from the definitions.
use Rattle.std.specs.Prelude.{List, [], ◌∷◌, true, false, refl}
use Rattle.rl_base.specs.declared.refusal.Refusal.TheVariants.{Changed}
use Rattle.rl_fields.specs.Fields.{whole, within, number, string, series, several}
use Rattle.rl_batch.specs.Reading.{batch, rising, numbers, row, write, writes, item, items, mark}
use Rattle.rl_txn.specs.declared.op.Operand.TheVariants.{Reg, Num}
use Rattle.rl_txn.specs.declared.op.Op.TheVariants.{Add, Get, Put, Out}
use Rattle.rl_txn.specs.Run.{op_done}
use Rattle.rl_paxos.specs.declared.refused.Refused.TheVariants.{Promised}
use Rattle.rl_events.specs.declared.event.Event.{Event}
use Rattle.rl_events.specs.declared.event.Event.TheVariants as event
use Rattle.rl_nodes.proofs.Listed.{ops_listed, read_listed}
use Rattle.rl_nodes.proofs.Scripts.{Script, done, stream, up, down, lost, ByWrites, Reports, computed, shown}
use Rattle.rl_nodes.specs.declared.view.Role.TheVariants.{Follower, Candidate, Opening, Leading}
use Rattle.rl_nodes.specs.World.{AttemptRefused, MessageDenied, LeaderOpened, NodeShown}

-- Two Accepts are dropped, and a tick sends them again.
abbrev sent_again_script : Script
sent_again_script = record {
  nodes = 3;
  quorums = (2, 2);
  workers = 1;
  batch = 1;
  tables = (1, 1) ∷ [];
  rows = [];
  lists = ((Put 0 (Num 0) ((Num 5) ∷ []) ∷ []) ∷ []) ∷ [];
}

abbrev sent_again_events : List Event
sent_again_events =
    event.Elect 1 ∷ event.All ∷ event.All ∷ event.All ∷ event.All ∷ event.Step 1 1 5 ∷
    event.Discard 17 ∷ event.Discard 18 ∷ event.All ∷ event.All ∷ event.Show 1 ∷ event.Tick 1 ∷
    event.All ∷ event.All ∷ event.All ∷ event.PlayAll 3 ∷ []

abbrev sent_again_report : ByWrites
sent_again_report rows = shown
    (
    LeaderOpened 1 1 0
    ∷ NodeShown (up 1 1 (Leading 1) (1, 1) true (stream 1 2 1 ∷ []) (rows []))
    ∷ [])
    (done 1 2 1 1 [] ∷ [])
    (
    up 1 1 (Leading 1) (1, 2) false (stream 1 2 2 ∷ []) (rows [])
    ∷ up 2 1 Follower (1, 2) false (stream 1 2 2 ∷ []) (rows [])
    ∷ up 3 1 Follower (1, 2) true (stream 1 2 2 ∷ []) (rows (((0, 0), 5 ∷ []) ∷ []))
    ∷ [])

sent_again : Reports sent_again_script sent_again_events sent_again_report
unfolding whole within number string series several batch rising numbers row write writes item items mark op_done ops_listed read_listed
sent_again = computed sent_again_script sent_again_events sent_again_report refl

-- A Known that comes before the Accept of its last batch counts only what the log has; when it comes again it counts all.
abbrev known_past_the_log_script : Script
known_past_the_log_script = record {
  nodes = 3;
  quorums = (2, 2);
  workers = 1;
  batch = 1;
  tables = (1, 1) ∷ [];
  rows = [];
  lists = ((Put 0 (Num 0) ((Num 5) ∷ []) ∷ []) ∷ []) ∷ [];
}

abbrev known_past_the_log_events : List Event
known_past_the_log_events =
    event.Elect 1 ∷ event.All ∷ event.All ∷ event.All ∷ event.All ∷ event.Step 1 1 5 ∷
    event.Dlv 16 ∷ event.Dlv 18 ∷ event.Dlv 19 ∷ event.Dlv 20 ∷ event.Dlv 22 ∷ event.Show 2 ∷
    event.Dlv 17 ∷ event.Dlv 22 ∷ []

abbrev known_past_the_log_report : ByWrites
known_past_the_log_report rows = shown
    (
    LeaderOpened 1 1 0
    ∷ NodeShown (up 2 1 Follower (1, 1) true (stream 1 1 1 ∷ []) (rows []))
    ∷ [])
    (done 1 2 1 1 [] ∷ [])
    (
    up 1 1 (Leading 1) (0, 0) true (stream 1 2 0 ∷ []) (rows [])
    ∷ up 2 1 Follower (1, 2) false (stream 1 2 2 ∷ []) (rows [])
    ∷ up 3 1 Follower (0, 0) true (stream 1 2 0 ∷ []) (rows [])
    ∷ [])

known_past_the_log : Reports known_past_the_log_script known_past_the_log_events known_past_the_log_report
unfolding whole within number string series several batch rising numbers row write writes item items mark op_done ops_listed read_listed
known_past_the_log = computed known_past_the_log_script known_past_the_log_events known_past_the_log_report refl

-- A Promise that is delivered twice counts once.
abbrev repeated_promise_script : Script
repeated_promise_script = record {
  nodes = 3;
  quorums = (2, 2);
  workers = 1;
  batch = 1;
  tables = (1, 1) ∷ [];
  rows = [];
  lists = ((Put 0 (Num 0) ((Num 5) ∷ []) ∷ []) ∷ []) ∷ [];
}

abbrev repeated_promise_events : List Event
repeated_promise_events =
    event.Elect 1 ∷ event.Dlv 1 ∷ event.Dlv 4 ∷ event.Dlv 4 ∷ event.Show 1 ∷ event.Dlv 2 ∷
    event.Dlv 5 ∷ []

abbrev repeated_promise_report : ByWrites
repeated_promise_report rows = shown
    (NodeShown (up 1 1 (Candidate 1 1 2) (0, 0) true (stream 0 0 0 ∷ []) (rows [])) ∷ [])
    []
    (
    up 1 1 (Opening 1) (0, 0) true (stream 0 0 0 ∷ []) (rows [])
    ∷ up 2 1 Follower (0, 0) true (stream 0 0 0 ∷ []) (rows [])
    ∷ up 3 0 Follower (0, 0) true (stream 0 0 0 ∷ []) (rows [])
    ∷ [])

repeated_promise : Reports repeated_promise_script repeated_promise_events repeated_promise_report
unfolding whole within number string series several batch rising numbers row write writes item items mark op_done ops_listed read_listed
repeated_promise = computed repeated_promise_script repeated_promise_events repeated_promise_report refl

-- Two nodes stand at once. The earlier one still leads by the promises that it got, and every acceptor refuses its logs.
abbrev two_candidates_script : Script
two_candidates_script = record {
  nodes = 3;
  quorums = (2, 2);
  workers = 1;
  batch = 1;
  tables = (1, 1) ∷ [];
  rows = [];
  lists = ((Put 0 (Num 0) ((Num 5) ∷ []) ∷ []) ∷ []) ∷ [];
}

abbrev two_candidates_events : List Event
two_candidates_events =
    event.Elect 1 ∷ event.Elect 2 ∷ event.All ∷ event.All ∷ event.All ∷ event.All ∷ []

abbrev two_candidates_report : ByWrites
two_candidates_report rows = shown
    (
    MessageDenied 2 2 (Promised 2)
    ∷ MessageDenied 12 1 (Promised 2)
    ∷ MessageDenied 13 2 (Promised 2)
    ∷ MessageDenied 14 3 (Promised 2)
    ∷ LeaderOpened 2 2 0
    ∷ [])
    []
    (
    up 1 2 (Opening 1) (0, 0) true (stream 2 1 0 ∷ []) (rows [])
    ∷ up 2 2 (Leading 2) (0, 0) true (stream 2 1 0 ∷ []) (rows [])
    ∷ up 3 2 Follower (0, 0) true (stream 2 1 0 ∷ []) (rows [])
    ∷ [])

two_candidates : Reports two_candidates_script two_candidates_events two_candidates_report
unfolding whole within number string series several batch rising numbers row write writes item items mark op_done ops_listed read_listed
two_candidates = computed two_candidates_script two_candidates_events two_candidates_report refl

-- A node stands again while it is a candidate: promises of its earlier epoch are skipped.
abbrev stands_again_script : Script
stands_again_script = record {
  nodes = 3;
  quorums = (2, 2);
  workers = 1;
  batch = 1;
  tables = (1, 1) ∷ [];
  rows = [];
  lists = ((Put 0 (Num 0) ((Num 5) ∷ []) ∷ []) ∷ []) ∷ [];
}

abbrev stands_again_events : List Event
stands_again_events =
    event.Elect 1 ∷ event.Elect 1 ∷ event.All ∷ event.All ∷ event.All ∷ event.All ∷ []

abbrev stands_again_report : ByWrites
stands_again_report rows = shown
    (
    MessageDenied 1 1 (Promised 4)
    ∷ LeaderOpened 4 1 0
    ∷ [])
    []
    (
    up 1 4 (Leading 4) (0, 0) true (stream 4 1 0 ∷ []) (rows [])
    ∷ up 2 4 Follower (0, 0) true (stream 4 1 0 ∷ []) (rows [])
    ∷ up 3 4 Follower (0, 0) true (stream 4 1 0 ∷ []) (rows [])
    ∷ [])

stands_again : Reports stands_again_script stands_again_events stands_again_report
unfolding whole within number string series several batch rising numbers row write writes item items mark op_done ops_listed read_listed
stands_again = computed stands_again_script stands_again_events stands_again_report refl

-- A node that crashed and returns has its log and knows of nothing; a tick tells it again, and its replica begins at the opening rows.
abbrev returned_node_script : Script
returned_node_script = record {
  nodes = 3;
  quorums = (2, 2);
  workers = 1;
  batch = 1;
  tables = (1, 1) ∷ [];
  rows = [];
  lists = ((Put 0 (Num 0) ((Num 5) ∷ []) ∷ []) ∷ []) ∷ [];
}

abbrev returned_node_events : List Event
returned_node_events =
    event.Elect 1 ∷ event.All ∷ event.All ∷ event.All ∷ event.All ∷ event.Step 1 1 5 ∷
    event.All ∷ event.All ∷ event.All ∷ event.PlayAll 3 ∷ event.Crash 3 ∷ event.Back 3 ∷
    event.Show 3 ∷ event.Tick 1 ∷ event.All ∷ event.PlayAll 3 ∷ []

abbrev returned_node_report : ByWrites
returned_node_report rows = shown
    (
    LeaderOpened 1 1 0
    ∷ NodeShown (up 3 1 Follower (0, 0) true (stream 1 2 0 ∷ []) (rows []))
    ∷ [])
    (done 1 2 1 1 [] ∷ [])
    (
    up 1 1 (Leading 1) (1, 2) false (stream 1 2 2 ∷ []) (rows [])
    ∷ up 2 1 Follower (1, 2) false (stream 1 2 2 ∷ []) (rows [])
    ∷ up 3 1 Follower (1, 2) true (stream 1 2 2 ∷ []) (rows (((0, 0), 5 ∷ []) ∷ []))
    ∷ [])

returned_node : Reports returned_node_script returned_node_events returned_node_report
unfolding whole within number string series several batch rising numbers row write writes item items mark op_done ops_listed read_listed
returned_node = computed returned_node_script returned_node_events returned_node_report refl

-- An item that was decided and not proposed is lost with its leader; the next leader runs the request again.
abbrev pending_is_lost_script : Script
pending_is_lost_script = record {
  nodes = 3;
  quorums = (2, 2);
  workers = 1;
  batch = 2;
  tables = (1, 1) ∷ [];
  rows = [];
  lists = ((Put 0 (Num 0) ((Num 5) ∷ []) ∷ []) ∷ []) ∷ [];
}

abbrev pending_is_lost_events : List Event
pending_is_lost_events =
    event.Elect 1 ∷ event.All ∷ event.All ∷ event.All ∷ event.All ∷ event.Step 1 1 5 ∷
    event.Crash 1 ∷ event.Elect 2 ∷ event.All ∷ event.All ∷ event.All ∷ event.All ∷
    event.Step 2 1 5 ∷ event.Flush 2 1 ∷ event.All ∷ event.All ∷ event.All ∷ event.PlayAll 2 ∷
    []

abbrev pending_is_lost_report : ByWrites
pending_is_lost_report rows = shown
    (
    LeaderOpened 1 1 0
    ∷ LeaderOpened 2 2 0
    ∷ [])
    (done 2 2 1 1 [] ∷ [])
    (
    down 1 1 (stream 1 1 0 ∷ [])
    ∷ up 2 2 (Leading 2) (2, 2) true (stream 2 3 3 ∷ []) (rows (((0, 0), 5 ∷ []) ∷ []))
    ∷ up 3 2 Follower (2, 2) false (stream 2 3 3 ∷ []) (rows [])
    ∷ [])

pending_is_lost : Reports pending_is_lost_script pending_is_lost_events pending_is_lost_report
unfolding whole within number string series several batch rising numbers row write writes item items mark op_done ops_listed read_listed
pending_is_lost = computed pending_is_lost_script pending_is_lost_events pending_is_lost_report refl

-- An item that one acceptor took before its leader crashed is recovered, and released by the next leader, which opens with it.
abbrev carried_over_script : Script
carried_over_script = record {
  nodes = 3;
  quorums = (2, 2);
  workers = 1;
  batch = 1;
  tables = (1, 1) ∷ [];
  rows = [];
  lists = ((Put 0 (Num 0) ((Num 5) ∷ []) ∷ []) ∷ []) ∷ [];
}

abbrev carried_over_events : List Event
carried_over_events =
    event.Elect 1 ∷ event.All ∷ event.All ∷ event.All ∷ event.All ∷ event.Step 1 1 5 ∷
    event.Dlv 17 ∷ event.Crash 1 ∷ event.Elect 2 ∷ event.Dlv 21 ∷ event.Dlv 22 ∷ event.Dlv 23 ∷
    event.Dlv 24 ∷ event.Dlv 26 ∷ event.Dlv 27 ∷ event.Dlv 28 ∷ event.Dlv 29 ∷ event.All ∷
    event.PlayAll 2 ∷ []

abbrev carried_over_report : ByWrites
carried_over_report rows = shown
    (
    LeaderOpened 1 1 0
    ∷ LeaderOpened 2 2 1
    ∷ MessageDenied 18 3 (Promised 2)
    ∷ [])
    (done 1 2 1 1 [] ∷ [])
    (
    down 1 1 (stream 1 1 0 ∷ [])
    ∷ up 2 2 (Leading 2) (2, 1) true (stream 2 3 3 ∷ []) (rows (((0, 0), 5 ∷ []) ∷ []))
    ∷ up 3 2 Follower (2, 1) false (stream 2 3 3 ∷ []) (rows [])
    ∷ [])

carried_over : Reports carried_over_script carried_over_events carried_over_report
unfolding whole within number string series several batch rising numbers row write writes item items mark op_done ops_listed read_listed
carried_over = computed carried_over_script carried_over_events carried_over_report refl

-- Two of three nodes go on where one is lost.
abbrev lost_node_script : Script
lost_node_script = record {
  nodes = 3;
  quorums = (2, 2);
  workers = 1;
  batch = 1;
  tables = (1, 1) ∷ [];
  rows = [];
  lists = ((Put 0 (Num 0) ((Num 5) ∷ []) ∷ []) ∷ []) ∷ [];
}

abbrev lost_node_events : List Event
lost_node_events =
    event.Lose 3 ∷ event.Elect 1 ∷ event.All ∷ event.All ∷ event.All ∷ event.All ∷
    event.Step 1 1 5 ∷ event.All ∷ event.All ∷ event.All ∷ event.PlayAll 1 ∷ []

abbrev lost_node_report : ByWrites
lost_node_report rows = shown
    (LeaderOpened 1 1 0 ∷ [])
    (done 1 2 1 1 [] ∷ [])
    (
    up 1 1 (Leading 1) (1, 2) true (stream 1 2 2 ∷ []) (rows (((0, 0), 5 ∷ []) ∷ []))
    ∷ up 2 1 Follower (1, 2) false (stream 1 2 2 ∷ []) (rows [])
    ∷ lost 3
    ∷ [])

lost_node : Reports lost_node_script lost_node_events lost_node_report
unfolding whole within number string series several batch rising numbers row write writes item items mark op_done ops_listed read_listed
lost_node = computed lost_node_script lost_node_events lost_node_report refl

-- Worker 2 read a record before worker 1 wrote it: its attempt is refused after its draw, and its next one counts. The end mark of worker 1 releases it.
abbrev refused_attempt_script : Script
refused_attempt_script = record {
  nodes = 1;
  quorums = (1, 1);
  workers = 2;
  batch = 1;
  tables = (2, 1) ∷ [];
  rows = ((0, 0), 10 ∷ []) ∷ [];
  lists = ((Get 0 (Num 0) 0 0 ∷ Add 0 (Reg 0) (Num 1) ∷ Put 0 (Num 0) ((Reg 0) ∷ []) ∷ Out (Reg 0) ∷ []) ∷ []) ∷ ((Get 0 (Num 0) 0 0 ∷ Add 0 (Reg 0) (Num 1) ∷ Put 0 (Num 0) ((Reg 0) ∷ []) ∷ Out (Reg 0) ∷ []) ∷ []) ∷ [];
}

abbrev refused_attempt_events : List Event
refused_attempt_events =
    event.Elect 1 ∷ event.All ∷ event.All ∷ event.All ∷ event.All ∷ event.Step 1 2 4 ∷
    event.Step 1 1 10 ∷ event.Step 1 2 3 ∷ event.Step 1 2 11 ∷ event.All ∷ event.All ∷
    event.Idle 1 1 ∷ event.All ∷ event.All ∷ event.All ∷ event.PlayAll 1 ∷ []

abbrev refused_attempt_report : ByWrites
refused_attempt_report rows = shown
    (
    LeaderOpened 1 1 0
    ∷ AttemptRefused 1 2 1 (Changed 0 0 2199023255556)
    ∷ [])
    (
    done 1 2 1 1 (11 ∷ [])
    ∷ done 1 4 2 1 (12 ∷ [])
    ∷ [])
    (
    up 1 1 (Leading 1) (1, 4) true (stream 1 3 3 ∷ stream 1 2 2 ∷ []) (rows (((0, 0), 11 ∷ []) ∷ ((0, 0), 12 ∷ []) ∷ []))
    ∷ [])

refused_attempt : Reports refused_attempt_script refused_attempt_events refused_attempt_report
unfolding whole within number string series several batch rising numbers row write writes item items mark op_done ops_listed read_listed
refused_attempt = computed refused_attempt_script refused_attempt_events refused_attempt_report refl
