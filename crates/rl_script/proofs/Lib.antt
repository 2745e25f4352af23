-- The proof in words. The reader is a fold over lines, and each of its steps is one definition, so it is proved with no
-- lemma but Each (a list of words) and FitsLemmas: what the lines so far keep within the language's limits.
--     That the printed form of a script is read as the same script. It is lines of words (PrintLemmas, WordsBack), and
-- such lines are read one after another (LinesBack). Section by section, the lines of a part lead from the draft
-- that has all before it to the draft that has that part too: SettingsBack, TablesBack, RowsBack, TxnsBack over
-- OpsBack, and EventsBack. ScriptBack puts them together, and ShortBack shows that the text is short enough to be
-- read.
pub mod Each
pub mod EventsBack
pub mod FitsLemmas
pub mod LinesBack
pub mod OpsBack
pub mod PrintLemmas
pub mod RowsBack
pub mod ScriptBack
pub mod SettingsBack
pub mod ShortBack
pub mod TablesBack
pub mod TxnsBack
pub mod WordsBack
