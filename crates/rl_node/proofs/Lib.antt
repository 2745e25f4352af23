-- The proof in words. A node in code stands for a node of the definitions: each call does what they say (Outer, from a
-- node that is up to any). What it stands for is told part by part: Changes has another acceptor or part of a node,
-- Leaders another stream of a leader, Streams and Logs the logs of bytes and the families that follow them.
--     Beginnings: nodes that begin, crash, return and are lost. Shown: how a node is shown. Promises, Elections, Sends:
-- what it promises and sends. Good, Acceptors, Answering, Taking: a message that is not bad, what the acceptor keeps
-- after it, and the node's answer. Learning, Replays: what it knows to be chosen, and what its replica plays.
-- Promising, Recoveries: a candidate counts a promise and recovers. Receiving: any message. Wrongs, Bads: which messages
-- are bad; Decoded, Entries: what batches of bytes have in any case; Items: elements of lists by their places.
--     A leader. Turns: a worker's turn is one of the core. Proposals, Flushes: what is pending is proposed; Ranges: in
-- the range of batches. Keeps: what a leader keeps of a stream stays true through both. Steps, Marks, Idles: a step of a
-- worker, and the mark of an idle one; Requests: where a worker of the code stands; NoLeaders: a node that is no open
-- leader. Acked, Advancing, Histories, Opens, Opened: an Ack, what it releases, and how a leader opens. LeadersTurns: a
-- part of a node works, and the node does what its part did.
pub mod Acceptors
pub mod Acked
pub mod Advancing
pub mod Answering
pub mod Bads
pub mod Beginnings
pub mod Changes
pub mod Decoded
pub mod Elections
pub mod Entries
pub mod Flushes
pub mod Good
pub mod Histories
pub mod Idles
pub mod Items
pub mod Keeps
pub mod Leaders
pub mod LeadersTurns
pub mod Learning
pub mod Logs
pub mod Marks
pub mod NoLeaders
pub mod Opened
pub mod Opens
pub mod Outer
pub mod Promises
pub mod Promising
pub mod Proposals
pub mod Ranges
pub mod Receiving
pub mod Recoveries
pub mod Replays
pub mod Requests
pub mod Sends
pub mod Shown
pub mod Steps
pub mod Streams
pub mod Taking
pub mod Turns
pub mod Wrongs
