-- The proof in words. An attempt is a view of the store's pass and, beside it, what the code keeps: the reads with the
-- words that they saw, and the locks with the words that they replaced. Each call of the store changes the view by the
-- acts that it names, and the code's list by one; what ties the two is said of a prefix of the list, and goes on by one
-- element. Places has the lists for that.
--     Reading. Counting: one read more, of a record that is not read yet. Runs: a transaction that has run to its end on
-- what was read has run on any rows that have what was read, by the laws of transactions and of record numbers.
--     Committing. Locks: one lock more, of the next write's record. Finishes: the draw, and then Validations, one read
-- after another, and Installations, one write after another. Phases and Commits put these together for each end of
-- an attempt: an item and nothing held, or a refusal with its cause, where Releasing gives one lock after another
-- back.
pub mod Counting
pub mod Releasing
pub mod Places
pub mod Locks
pub mod Validations
pub mod Installations
pub mod Finishes
pub mod Runs
pub mod Phases
pub mod Commits
