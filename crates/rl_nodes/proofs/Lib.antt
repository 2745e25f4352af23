-- The outline. Listed: a program's work over lists in the place of finite maps is the same work, so that runs compute.
-- Scripts and Examples*: worked runs and messages, computed from the definitions. Growing: runs go on, and a world only adds.
-- Telling: the tests tell what they are named for. InStreams: a node that takes a message does what the node of the streams
-- does at that delivery; ChangesInStreams: and so do elections, crashes, returns, losses and proposals. Tied: a world of nodes and
-- one of streams go with each other, and still do after a node did what the streams do at an event, or nothing of the streams.
-- Deliveries, OwnEvents: each event is of one of these two kinds; what is sent again was sent before, and each message has a
-- receiver that is there. Runs: what holds of the first world and is kept by each change of a world holds in every run; so each run is
-- one of the streams. ChosenInRuns: with the same terms and messages the same is chosen.
pub mod ChangesInStreams
pub mod ChosenInRuns
pub mod Deliveries
pub mod ExamplesBadMessages
pub mod ExamplesElections
pub mod ExamplesFaults
pub mod ExamplesOneLeader
pub mod Growing
pub mod InStreams
pub mod Listed
pub mod OwnEvents
pub mod Runs
pub mod Scripts
pub mod Tied
pub mod Telling
