-- The proof of the laws, in outline. `Inv` says what holds of a world between any two events, streams standing by their index:
-- what a node keeps at a ballot lies between the initial log of that epoch and its leader's log, and so does each log that was
-- ever sent; what a node acked it still keeps, or a later ballot; a promise shows what was acked before it; and the initial logs
-- of an epoch are recovered from the promises of a first quorum, which are of lower ballots. `Steps` keeps it over each event,
-- by way of what only grows (`Inv`, at its end), of changes at one number (`Updates`) and of prefixes (`Prefixes`).
-- `Agree` has the one thought: a second quorum that acked a length at an epoch and the first quorum of a later epoch share a node;
-- the best promise is of the acked epoch, and then at least as long, or of an epoch between the two, and so by induction over the
-- epochs. `Stays` has what is said and never taken back, `Leaders` that each length that a leader counts was acked and that
-- what it would send again was sent. `Choices` has that some prefix of each log is what is chosen, `Longest` the longest of these on a
-- stream, and `Origins` where an initial log came from. `Room` and `Rule` serve the candidate's code.
pub mod Agree
pub mod Choices
pub mod Inv
pub mod Leaders
pub mod Longest
pub mod Origins
pub mod Room
pub mod Rule
pub mod Stays
pub mod Steps
pub mod Updates
