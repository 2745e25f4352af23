-- How reading and printing undo each other. ReaderLaws: a reader of the front of a list and what is printed for its values, for
-- each way in which readers are put together. WordLaws: fixed words, numbers, names, and whole lines. LineLaws: each line of a
-- report. SectionLaws: lines after lines, nodes, items, tables, and what became of events. ReportLaws: whole reports. FormLaws:
-- these are the reports of the four forms. TextLaws: texts and their lines. Both: what a text is read as is printed so, and back.
-- Loops: the loops of the reader's code. LentLemmas: rows that stay in the text.
pub mod Both
pub mod FormLaws
pub mod LentLemmas
pub mod LineLaws
pub mod Loops
pub mod NumbersRead
pub mod Places
pub mod Ranges
pub mod ReaderLaws
pub mod ReportLaws
pub mod SectionLaws
pub mod Shorter
pub mod TextLaws
pub mod WordLaws
pub mod Words
