use Rattle.std.proofs.Common.{sum, sym, subst}
use Rattle.rl_tables.specs.Numbers.{sizes_of}
use Rattle.rl_shared_replay.specs.Opening.{Wide}
use Rattle.rl_live.specs.Handing.{HasRows}
use Rattle.rl_live.proofs.Opens.{ok_two, fits_rows, opens_rows}
use Rattle.rl_live.proofs.open.open.Goals as goal

pub make-requires-clause-rows : goal.make-requires-clause-rows
make-requires-clause-rows c =
    let tables = c.args.script.now.schema in
    let rows = c.args.script.now.rows in
    let list = c.as_slice-3.result.now in
    let columns = c.as_slice.result.now in
    let wide = subst (λ l. Wide tables (sizes_of tables) (sum (sizes_of tables)) l) (sym c.as_slice.ensures.value) (subst (λ s. Wide tables s (sum s) c.in_ok-columns.columns.items) c.requires.layout c.in_ok-columns.ensures) in
    let has = subst (λ l. HasRows (sizes_of tables) rows (sum (sizes_of tables)) l) (sym c.as_slice-3.ensures.value) (subst (λ s. HasRows s rows (sum s) c.in_ok-rows.rows.items) c.requires.layout c.in_ok-rows.ensures) in
    fits_rows tables rows columns list wide has c.requires.rows

pub returns-clause-opens : goal.returns-clause-opens
returns-clause-opens c =
    let tables = c.args.script.now.schema in
    let rows = c.args.script.now.rows in
    let list = c.as_slice-3.result.now in
    let columns = c.as_slice.result.now in
    let wide = subst (λ l. Wide tables (sizes_of tables) (sum (sizes_of tables)) l) (sym c.as_slice.ensures.value) (subst (λ s. Wide tables s (sum s) c.in_ok-columns.columns.items) c.requires.layout c.in_ok-columns.ensures) in
    let has = subst (λ l. HasRows (sizes_of tables) rows (sum (sizes_of tables)) l) (sym c.as_slice-3.ensures.value) (subst (λ s. HasRows s rows (sum s) c.in_ok-rows.rows.items) c.requires.layout c.in_ok-rows.ensures) in
    ok_two c.make.result _ _ _ c.make.ensures.columns c.make.ensures.opens (λ made same opens. opens_rows tables rows columns list wide has made.0.made c.as_slice-2.result.now same opens)
