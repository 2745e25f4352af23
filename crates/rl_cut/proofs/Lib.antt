-- How what a family keeps is shown to be what its logs decide.
--
-- Folds          what is gathered along a list, one element further
-- StableSort     a stable sort by stamp puts items in order
-- ByEpoch        stamps of which there is one for each epoch: the greatest seq of an epoch is found by bisection
-- Appending      a batch that is not refused keeps the stamps of its log rising, and those kept of it
-- LastStamps     the last stamps of all streams tell the least top, how far all have come, and the watermark
-- Noting         the stamps of a batch, noted one by one, leave the last stamps of the longer log, and are put back
-- Settling       the bounds of the epochs that all streams have left, behind those that were settled
-- Counting       what counts now is what a larger family's history has behind the smaller one's
-- Growing        a family with one more batch: what it keeps, item by item and log by log
pub mod Folds
pub mod StableSort
pub mod ByEpoch
pub mod Appending
pub mod LastStamps
pub mod Noting
pub mod Settling
pub mod Counting
pub mod Growing
