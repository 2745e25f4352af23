-- What is true of every run of a transaction, and of the rows after some.
use Rattle.std.specs.Prelude.{List, All}
use Rattle.rl_value.specs.Fits.{RowsFit}
use Rattle.rl_value.specs.Rows.{Rows}
use Rattle.rl_value.specs.Tables.{Table}
use Rattle.rl_txn.specs.Fits.{TxnFits, ListsFit, AnswerFits, ItemFits, ItemWritesFit}
use Rattle.rl_txn.specs.Run.{run}
use Rattle.rl_txn.specs.Serial.{rows_after, Runs}
use Rattle.rl_txn.specs.Words.{ItemHasWords, AnswerHasWords, RowsHaveWords}
use Rattle.rl_txn.specs.declared.item.Item.{Item}
use Rattle.rl_txn.specs.declared.op.Op.{Op}

-- what a transaction that fits answers and writes fits it, whatever the rows
abbrev pub AnswersFit : Type 0
AnswersFit = (tables : List Table) (txn : List Op) (rows : Rows) → TxnFits tables txn
    → AnswerFits tables txn (run tables txn rows).0 (run tables txn rows).1

-- so do items that are what requests do one after another
abbrev pub SerialItemsFit : Type 0
SerialItemsFit = (tables : List Table) (lists : List (List (List Op))) (rows : Rows) (items : List Item)
    → ListsFit tables lists → Runs tables lists rows items → All (ItemFits tables lists) items

-- rows that fit the tables fit them after items whose writes do
abbrev pub RowsGoOnFitting : Type 0
RowsGoOnFitting = (tables : List Table) (rows : Rows) (items : List Item)
    → RowsFit tables rows → All (ItemWritesFit tables) items → RowsFit tables (rows_after rows items)

-- and so after what requests do one after another
abbrev pub SerialRowsFit : Type 0
SerialRowsFit = (tables : List Table) (lists : List (List (List Op))) (rows : Rows) (items : List Item)
    → ListsFit tables lists → RowsFit tables rows → Runs tables lists rows items → RowsFit tables (rows_after rows items)

-- ---- numbers of eight bytes ----
-- what a transaction answers and writes are such numbers, where the rows that it reads are
abbrev pub AnswersHaveWords : Type 0
AnswersHaveWords = (tables : List Table) (txn : List Op) (rows : Rows) → TxnFits tables txn → RowsHaveWords rows
    → AnswerHasWords (run tables txn rows).0 (run tables txn rows).1

-- so are those of items that are what requests do one after another
abbrev pub SerialItemsHaveWords : Type 0
SerialItemsHaveWords = (tables : List Table) (lists : List (List (List Op))) (rows : Rows) (items : List Item)
    → ListsFit tables lists → RowsHaveWords rows → Runs tables lists rows items → All ItemHasWords items

-- and the rows after such items
abbrev pub RowsKeepWords : Type 0
RowsKeepWords = (rows : Rows) (items : List Item)
    → RowsHaveWords rows → All ItemHasWords items → RowsHaveWords (rows_after rows items)
