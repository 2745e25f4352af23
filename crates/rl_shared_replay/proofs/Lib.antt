-- The proof in words. The rule says what the words show, what each seat knows, and what is settled, between any two
-- atomic steps.
--     The rule is kept. Views and Lists have what is true of all views as one is set or comes to them; Moving, what the
-- rule says of one record and one view; Keeping, that each kind of step keeps the rule, Storing for column stores
-- and closing stores. Allowed shows that steps are allowed, and that the rule holds as a replay is made (Filling).
--     A thread. Calls has what its calls need; Settling stores one write, or finds it overwritten, and Items goes over
-- the writes of its items, all of which are settled at its end (Wholes, Results, Bits: elements, answers, the lock
-- bit).
--     The end. A seat that has all writes settled learns that each record shows its newest version (Reading, Ending).
-- Keys, Planning and Newest: what all parts have settled is all of the plan, and the newest row of each key is that
-- after all items by stamp.
pub mod Views
pub mod Lists
pub mod Bits
pub mod Moving
pub mod Keeping
pub mod Storing
pub mod Allowed
pub mod Calls
pub mod Settling
pub mod Items
pub mod Filling
pub mod Results
pub mod Wholes
pub mod Keys
pub mod Ending
pub mod Reading
pub mod Planning
pub mod Newest
