-- The names of tables are words, so that their rows can be printed.
pub use Rattle.rl_check.proofs.Names.{name_of_word, rows_named}
