-- The rule is kept in the grouping of Grouped. A step changes the view of one pass, and at most one word: Views has
-- what holds of each view, or of any two, after one is set; Quiet the steps that change no word; Turns what goes over
-- a step that changes words and entries. Loads has the three loads of a read, Seating rest, split and join, Opens the
-- store as it is made. Locking, Draws, Limits, Validates with Stopping and Refusing, Giving (an unlock), Storing (a
-- column store) and Closing with Ended (a closing store of a new word) have the other kinds; Finishing makes an item of a
-- decided attempt that holds nothing. Serials has the serial law, Ending and Shutting what a whole pass at rest learns at
-- the end.
pub mod Grouped
pub mod Views
pub mod Quiet
pub mod Turns
pub mod Marks
pub mod Loads
pub mod Seating
pub mod Bits
pub mod Locking
pub mod Draws
pub mod Ending
pub mod Deciding
pub mod Validates
pub mod Finishing
pub mod Limits
pub mod Without
pub mod Giving
pub mod Unlocking
pub mod Storing
pub mod Closing
pub mod Ended
pub mod Puts
pub mod Stopping
pub mod Refusing
pub mod Allowed
pub mod Told
pub mod Opens
pub mod Calls
pub mod Filling
pub mod Serials
pub mod Taking
pub mod Shutting
