-- Sorting: what stands in a list put in order by stamp.
-- Logs, Rising: along a log whose stamps rise, what stands behind a part is above its last stamps.
-- Nesting: so a longer log adds nothing below the cut of a shorter one, and the histories nest.
-- Strict: items with different stamps have one order; two such lists with the same members are equal.
-- StampedLogs: the history of logs whose items have different stamps rises strictly.
-- Streams, Extending: a log told by leaders is, epoch by epoch, a part of what each leader decided; so a
-- history has the members of an opening list and of what its epoch decided first, and no others.
-- Leading: what an epoch has in such a log. SerialHistories: one epoch more behind its opening list.
-- Joining: two prefixes of one list join to the longer one.
pub mod Sorting
pub mod Logs
pub mod Rising
pub mod Nesting
pub mod Strict
pub mod Streams
pub mod StampedLogs
pub mod Extending
pub mod Leading
pub mod SerialHistories
pub mod Joining
