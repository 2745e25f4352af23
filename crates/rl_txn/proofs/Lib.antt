pub mod Answers
pub mod Evals
pub mod Folds
pub mod Known
pub mod RowSets
pub mod SerialLemmas
pub mod Words
