-- The proof in words.
--
-- I. The law of the core. A core has lists; its acts are taken to functions by record and by worker (States, Lift), beside a
-- log of all stamps that were drawn, which only the proof has: who drew each, what it read and writes, and what became of
-- it. What holds between any two acts (Inv): a held record is held by the phase that says so; a record that no decided
-- attempt stores has the cells of the version of its stamp; a stamp that lives and writes a record is at most that record's
-- stamp, or its worker still has the record to store; and each read of a decided stamp is Alone: no decided stamp between
-- the one seen and its own writes that record. That a read is alone follows as it is validated (Stamps): the record is not
-- held by another and its stamp has not moved.
--     An act changes one worker, and what the others know stays (Keeps). The acts go by what they change: the worker alone
-- (Local), a record (Installs), the log (Stamps); Whole puts them together for every list of turns. From the invariant the
-- decided items are serial by stamp (Serial). Beside it, and with no word of what was read: each worker's items are its
-- requests in order (Numbers), its stamps rise (Made), and what is settled stays (Settled). OwnLaw has the words of all this
-- and what it asks of a setting: opening stamps that are early, and writes that are whole rows of distinct records.
--
-- II. Real tables. Requests and rows are such a setting (Writes, Places, Settings), and serial over cells by number is serial
-- over rows by place (Histories). Scripts computes worked schedules.
--
-- III. The code. Each act of a commit (Commits) and of a reading (Readings, Inserts, Endings) is the act of its phase, with
-- what follows it (Stages, Turns); the core's small acts are put together to one step (Parts, Cores, Steps); the item is first
-- told as the code has it, and then as the core has it (CodeItems). Openings has the records as they open.
pub mod Basics
pub mod CodeItems
pub mod Commits
pub mod Cores
pub mod Endings
pub mod Histories
pub mod Inserts
pub mod Installs
pub mod Inv
pub mod Keeps
pub mod Lift
pub mod Local
pub mod Made
pub mod Numbers
pub mod OneStep
pub mod OpenItems
pub mod Openings
pub mod OwnLaw
pub mod Parts
pub mod Ranges
pub mod Readings
pub mod Scripts
pub mod Seen
pub mod Serial
pub mod Settings
pub mod Settled
pub mod Stages
pub mod Stamping
pub mod Stamps
pub mod States
pub mod Steps
pub mod Turns
pub mod Whole
pub mod Writes
