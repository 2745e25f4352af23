-- A script that keeps the ranges and limits of the language makes a setup that keeps those of a run.
use Rattle.std.proofs.Common.{ℕ, ◌+◌, ◌<◌, ◌≤◌, refl, arith}
use Rattle.rl_nodes.specs.Setups.{majority}
use Rattle.rl_world.specs.Laws.{ScriptsMakeSetups}

majority_some : (n : ℕ) → 1 ≤ majority n
majority_some n = omega arith

majority_within : (n : ℕ) → 1 ≤ n → majority n ≤ n
majority_within n h = omega arith

majorities_meet : (n : ℕ) → n < majority n + majority n
majorities_meet n = omega arith

pub setup_fits : ScriptsMakeSetups
setup_fits script fits = record {
  some_nodes = fits.nodes.0;
  few_nodes = fits.nodes.1;
  some_workers = fits.workers.0;
  few_workers = fits.workers.1;
  some_items = fits.batch.0;
  few_items = fits.batch.1;
  first = majority_some script.nodes;
  first_within = majority_within script.nodes fits.nodes.0;
  second = majority_some script.nodes;
  second_within = majority_within script.nodes fits.nodes.0;
  intersect = majorities_meet script.nodes;
  schema = fits.tables;
  rows_fit = fits.rows;
  words = fits.columns;
  lists_fit = fits.lists;
  one_list_each = fits.one_list_each;
  work_is = refl;
}
