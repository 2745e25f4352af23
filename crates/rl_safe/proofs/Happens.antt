-- A worked run with two elections and a crash releases items of both epochs.
use Rattle.std.proofs.Common.{◌≡◌, ℕ, zero, suc, ◌<◌, ◌^◌, List, [], ◌∷◌, map, All, Result, Ok, Err, Some, None, refl, ap, sym, ◌∙◌, subst, arith, inl, inr}
use Rattle.std.specs.FinMap as finite
use Rattle.rl_base.specs.Results.{◌>>=◌}
use Rattle.rl_base.specs.declared.limit.LimitName.{LimitName}
use Rattle.rl_base.proofs.Members.{In, in_contains, map_in}
use Rattle.rl_events.specs.Fits.{EventFits}
use Rattle.rl_events.specs.declared.event.Event.{Event}
use Rattle.rl_value.specs.Rows.{place_cmp}
use Rattle.rl_value.specs.Tables.{Table, IsTable, HaveNamesOfTheirOwn}
use Rattle.rl_txn.specs.declared.op.Op.{Op}
use Rattle.rl_txn.specs.declared.op.Op.TheVariants.{Put}
use Rattle.rl_txn.specs.declared.op.Operand.TheVariants.{Num}
use Rattle.rl_txn.specs.Fits.{OperandFits, OpFits, TxnFits}
use Rattle.rl_nodes.specs.Events.{world_after}
use Rattle.rl_nodes.specs.Openings.{work_of}
use Rattle.rl_nodes.specs.Setups.{SetupFits}
use Rattle.rl_nodes.specs.World.{World, Ran}
use Rattle.rl_nodes.specs.Reports.{report_of}
use Rattle.rl_nodes.proofs.Scripts.{Script, ItemLine, item_line, Shown, setup_of, tables_from, reported, done}
use Rattle.rl_nodes.proofs.ExamplesElections.{cut_script, cut_events, cut}
use Rattle.rl_safe.specs.Runs.{SomeRunReleases}

-- ---- lists ----

-- what holds of each, one after another
abbrev Each : {A : Type 0} → (A → Type 0) → List A → Type 0
Each P [] = Unit {0}
Each P (x ∷ xs) = P x × Each P xs

each : {A : Type 0} (P : A → Type 0) (xs : List A) → Each P xs → All P xs
each P [] h k d l = absurd (omega (arith, l))
each P (x ∷ xs) h zero d l = h.0
each P (x ∷ xs) h (suc k) d l = each P xs h.1 k d (omega (arith, l))

-- ---- from a report to its run ----

lines_in : Result Shown LimitName → List ItemLine
lines_in (Ok s) = s.items
lines_in (Err limit) = []

abbrev shows : Script → World → Result Shown LimitName
shows s w =
    let report = report_of (setup_of s) w in
    Ok (record { lines = report.lines; items = map item_line report.items; blocks = report.blocks })

releases : (s : Script) (events : List Event) (x y : ItemLine) → x.stamp.epoch < y.stamp.epoch
    → In x (lines_in (reported s events)) → In y (lines_in (reported s events))
    → SetupFits (setup_of s) → All (EventFits s.nodes s.workers) events → SomeRunReleases
unfolding lines_in
releases s events x y rises i j sized fits = by_world (world_after (setup_of s) events) refl i j
  where
    by_world : (r : Ran) → world_after (setup_of s) events ≡ r → In x (lines_in (r >>= shows s)) → In y (lines_in (r >>= shows s)) → SomeRunReleases
    by_world (Err limit) is i j = absurd i
    by_world (Ok w) is i j =
        let one = map_in item_line x w.released i in
        let two = map_in item_line y w.released j in
        let same_one = ap (λ (l : ItemLine). l.stamp.epoch) one.2 in
        let same_two = ap (λ (l : ItemLine). l.stamp.epoch) two.2 in
        record {
          run = record { setup = setup_of s; events = events; world = w; setup_fits = sized; events_fit = fits; ends = is };
          earlier = one.0;
          later = two.0;
          rises = omega (arith, rises, same_one, same_two);
          earlier_released = in_contains w.released one.0 one.1;
          later_released = in_contains w.released two.0 two.1;
        }

-- ---- the script fits ----

work_is : (s : Script) → (setup_of s).work ≡ work_of (setup_of s).program
work_is s = refl

abbrev tables : List Table
tables = tables_from cut_script.tables

names : HaveNamesOfTheirOwn tables
names zero l = refl
names (suc t) l = absurd (omega (arith, l))

abbrev puts : (k v : ℕ) → List Op
puts k v = Put 0 (Num k) (Num v ∷ []) ∷ []

put_fits : (k v : ℕ) → k < 2 ^ 64 → v < 2 ^ 64 → TxnFits tables (puts k v)
put_fits k v key value = record {
  each = each (OpFits tables) (puts k v)
      ((omega arith, key, each OperandFits (Num v ∷ []) (value, tt), omega arith, omega arith, refl), tt);
  few = omega arith;
}

setup_fits : SetupFits (setup_of cut_script)
setup_fits = record {
  some_nodes = omega arith;
  few_nodes = omega arith;
  some_workers = omega arith;
  few_workers = omega arith;
  some_items = omega arith;
  few_items = omega arith;
  first = omega arith;
  first_within = omega arith;
  second = omega arith;
  second_within = omega arith;
  intersect = omega arith;
  schema = record {
    names = names;
    few = omega arith;
    records = omega arith;
    each = each IsTable tables
        (record { named = refl; some_keys = omega arith; few_keys = omega arith; some_columns = omega arith; few_columns = omega arith }, tt);
  };
  rows_fit = λ t k row at. absurd (let e : None ≡ Some row = sym (finite.get-empty place_cmp (t, k)) ∙ at in cc);
  words = λ t k row at. absurd (let e : None ≡ Some row = sym (finite.get-empty place_cmp (t, k)) ∙ at in cc);
  lists_fit = record {
    each = each (All (TxnFits tables)) cut_script.lists (
      each (TxnFits tables) (puts 0 5 ∷ puts 1 7 ∷ [])
          (put_fits 0 5 (omega arith) (omega arith), (put_fits 1 7 (omega arith) (omega arith), tt)),
      (each (TxnFits tables) (puts 0 6 ∷ []) (put_fits 0 6 (omega arith) (omega arith), tt), tt),
    );
    workers = omega arith;
    requests = omega arith;
  };
  one_list_each = refl;
  work_is = work_is cut_script;
}

abbrev Fits : Event → Type 0
Fits = EventFits 3 2

events_fit : All Fits cut_events
events_fit = each Fits cut_events (
  (omega arith, omega arith),
  (
    tt,
    (
      tt,
      (
        tt,
        (
          tt,
          (
            ((omega arith, omega arith), (omega arith, omega arith), omega arith, omega arith),
            (
              ((omega arith, omega arith), (omega arith, omega arith), omega arith, omega arith),
              (
                ((omega arith, omega arith), (omega arith, omega arith), omega arith, omega arith),
                (
                  tt,
                  (
                    tt,
                    (
                      (omega arith, omega arith),
                      (
                        (omega arith, omega arith),
                        (
                          tt,
                          (
                            tt,
                            (
                              tt,
                              (
                                tt,
                                (
                                  ((omega arith, omega arith), (omega arith, omega arith), omega arith, omega arith),
                                  (
                                    ((omega arith, omega arith), (omega arith, omega arith)),
                                    (
                                      tt,
                                      (
                                        tt,
                                        (
                                          tt,
                                          (
                                            (omega arith, omega arith),
                                            ((omega arith, omega arith), tt),
                                          ),
                                        ),
                                      ),
                                    ),
                                  ),
                                ),
                              ),
                            ),
                          ),
                        ),
                      ),
                    ),
                  ),
                ),
              ),
            ),
          ),
        ),
      ),
    ),
  ),
)

-- ---- items of both epochs ----

pub some_run_releases : SomeRunReleases
unfolding lines_in
some_run_releases =
    releases cut_script cut_events (done 1 2 1 1 []) (done 2 2 1 2 []) (omega arith)
    (subst (λ r. In (done 1 2 1 1 []) (lines_in r)) (sym cut) (inl refl))
    (subst (λ r. In (done 2 2 1 2 []) (lines_in r)) (sym cut) (inr (inr (inl refl))))
    setup_fits events_fit
