-- How every run is shown to be safe. The witness is the list of stream events of a run (there is one, by the law of runs) and, by
-- epoch, the turns of its leader's workers and what is pending. The opening list of an epoch is the history of its initial logs, and its
-- core is that after these turns. An epoch is led at most once, since a candidate's epoch has no leader yet.
--
-- That each run is led. Below: the laws of the crates below, as their functions ensure them. Runs, of nodes: what holds of the first world
-- and is kept by each change of a world holds in every run. Accounts: the witness, and what holds of it between any two events: along a
-- stream, behind its initial log, and then among what is pending, are the worker's ended items in their order, and the stamps that
-- it made, and then the end mark or none. CoreTurns: what one turn does to a core, by worker. Sayings: what a stream says stays true
-- through turns, proposals and marks. Encodings: what a leader proposes is read back, and short. Origins: each batch of a log was
-- proposed by the leader of some epoch. Fits: so each core opens with rows that fit and stamps of earlier epochs, epoch after epoch.
-- LeadStreams, Leads: what a leader does keeps what holds of it. Opened: only a leader that has opened proposes. Told: the accounts are leaders as
-- the laws of families ask, and the logs are theirs. Held, Moves: what a node does keeps what holds of all epochs and nodes. Led: so each run
-- is led.
--
-- That led runs are safe, over bytes and without the leaders up to the last step. KnownLists: lists of what stands at numbers, and
-- prefixes. KnownMoves: what a node tells when it does something, and what becomes of what it knows. KnownGrowth: leaders' logs only
-- grow, since all of them was sent; so what was chosen stays chosen, and what a leader counts as acknowledged is chosen. KnownNodes: each node knows what is chosen at an epoch up to its
-- ballot, and its replica follows that. KnownWorlds: so it is in every run, and the released list begins each list that all histories
-- begin from which leaders released. JoinedSafe: the history of the longest chosen logs is such a list, is serial by the law of
-- leaders, and begins with what each node knows since histories nest; what an earlier leader releases begins a later opening list by
-- agreement.
--
-- What else is true of runs. Epochs: what prefixes of leaders' logs have of an epoch. Elections: so it is in runs, and what is settled
-- stays. Sent: what a node sends is its own or answers what was sent, and no leader's log passes the limit of slots. Fair: so it is
-- with all messages of a run. InRange, Bad: so each is in range, and none is bad. Messages: the laws on them. Gained: an open leader has
-- released from all that it counts as acknowledged, whatever it does since. Gains: so what its history gains suffices. Seqs: what one event draws.
-- Happens: a worked run.
pub mod Accounts
pub mod Bad
pub mod Below
pub mod CoreTurns
pub mod Elections
pub mod Encodings
pub mod Epochs
pub mod Fair
pub mod Fits
pub mod Gained
pub mod Gains
pub mod Happens
pub mod Held
pub mod InRange
pub mod JoinedSafe
pub mod KnownGrowth
pub mod KnownLists
pub mod KnownMoves
pub mod KnownNodes
pub mod KnownWorlds
pub mod LeadStreams
pub mod Leads
pub mod Led
pub mod Listed
pub mod Messages
pub mod Moves
pub mod Opened
pub mod Origins
pub mod Sayings
pub mod Seqs
pub mod Sent
pub mod Told
