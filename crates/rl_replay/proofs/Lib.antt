-- The proof in words. A replica is shown by its rows and the items that it applied; beside them it keeps the newest
-- stamp of each key, the set of the applied stamps, and a cursor for each stream.
--     Cursors. Walk and Numbered have the entries of a log by batch and by number. Standing: a cursor stands behind as
-- many entries as were played, after each play and as logs grow. Answering: what each answer leaves as it was.
--     Rows. Places has the row at a key after some writes. Stamped keeps the newest stamp of each key, and Newer shows
-- that it tells which writes of an item are overwritten; so, item after item, the rows are those after the applied
-- items in the order of their stamps, in whatever order they came (Replays). Applied: the set has the applied
-- stamps, and a stamp is found among items in order.
--     Following is the law of a replica over a family: what it applies counts in the family, so it is of the history.
pub mod Walk
pub mod Places
pub mod Stamped
pub mod Newer
pub mod Replays
pub mod Answering
pub mod Numbered
pub mod Standing
pub mod Applied
pub mod Following
