-- The proof in words. A run in code stands for a world of the definitions: Standing has one node of it changed,
-- Beginning its first. Setups: a script makes a setup in range, so that the nodes fit it.
--     What a node did is told as the world has it (Taking, Answering): its messages are sent one after another
-- (Sending), and lines, refusals and released items join those told before (LastReleased).
--     Moments, Amid, Repeating: how the worlds of a run follow on each other, also within one event.
--     Messages: Marking, Dropping, Deliveries, Reaching and Receiving have one that is delivered or dropped, Pending those
-- that are left. Working, Stepped and Steps have the steps of a worker, Playing the streams that a replica plays.
--     Reports: Names, Rows, Streams, Shown and Showings have the parts that are printed.
--     Happened: an event of any kind does what its call does. Keeping: so a world goes on from event to event.
-- Expanding: events where each random one is written out stand for themselves.
pub mod Amid
pub mod Answering
pub mod Beginning
pub mod Deliveries
pub mod Dropping
pub mod Expanding
pub mod Happened
pub mod Keeping
pub mod LastReleased
pub mod Marking
pub mod Moments
pub mod Names
pub mod Pending
pub mod Playing
pub mod Reaching
pub mod Receiving
pub mod Repeating
pub mod Results
pub mod Rows
pub mod Sending
pub mod Setups
pub mod Showings
pub mod Shown
pub mod Standing
pub mod Stepped
pub mod Steps
pub mod Streams
pub mod Taking
pub mod Working
