-- The streams of a node as they are shown. No public contract cites it.
use Rattle.std.specs.Prelude.{ℕ, ◌-◌, List, map, length, slice_index}
use Rattle.std.specs.List.{range_with_len}
use Rattle.rl_paxos.specs.Acceptors.{Acceptor, kept_ballot, kept_log}
use Rattle.rl_nodes.specs.declared.view.StreamView.{StreamView}

-- stream s, of which so many batches are known
abbrev pub shown_stream : Acceptor → (known : List ℕ) → (s : ℕ) → StreamView
shown_stream x known s =
    record { ballot = kept_ballot x s; len = length (kept_log x s); known = slice_index known (s - 1) }

-- streams 1 to n
abbrev pub shown_streams : Acceptor → (known : List ℕ) → (n : ℕ) → List StreamView
shown_streams x known n = map (shown_stream x known) (range_with_len 1 n)
