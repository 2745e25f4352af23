use Rattle.std.proofs.Common.{◌≡◌, ℕ, ◌<◌, List, length, get_or, sum, ap, sym, ◌∙◌, subst, arith}
use Rattle.std.specs.Mem.Slots.{slots_items}
use Rattle.rl_shared_replay.specs.declared.view.View.{View}
use Rattle.rl_shared_replay.specs.Calls.{AllSettled}
use Rattle.rl_shared_replay.specs.Ends.{IsNewest, IsNewestMap, ReadBelow}
use Rattle.rl_shared_replay.specs.Layout.{RowOf, Shows}
use Rattle.rl_shared_replay.specs.Start.{Made, made_of, plan_in}
use Rattle.rl_shared_replay.proofs.Ending.{Ends, ends, newest_map}
use Rattle.rl_shared_replay.proofs.Results.{ok_more}
use Rattle.rl_shared_replay.proofs.records.Records.into_map.Goals as goal

pub free-requires : goal.free-requires
free-requires c k l = absurd (let a = c.close_with-closed.ensures.counts.1 in let b = c.self.invariant.no_slots in omega arith)

pub returns : goal.returns
returns c =
    let f = c.close_with-closed.ensures.values.2 in
    let key = c.self.inside.table.shared.key.value in
    let made : made_of key ≡ c.args.self.made = ap (λ z. z.made) c.self.view_is in
    let all = subst (λ (x : Made × View). AllSettled x.1 (plan_in x.0).versions) (λ i. (sym made i, sym (ap (λ z. z.view) c.seat.view_is) i)) c.requires.settled in
    let fit = c.self.invariant in
    let known : (r : ℕ) → r < length key.columns.items → (row : RowOf) × Shows (get_or key.columns.items r 0) (slots_items c.close_with-closed.result.words) r row × IsNewest (plan_in (made_of key)) r row =
    (λ r l. let e = ends (plan_in (made_of key)) f.0 f.1.0 c.seat.inside.inner.id c.seat.inside.inner.me.0 f.1.1 all r l in (e.row, subst (λ ws. Shows (get_or key.columns.items r 0) ws r e.row) f.2 e.shown, e.newest)) in
    ok_more c.read_rows-map.result _ (λ map. IsNewestMap c.args.self.made map) c.read_rows-map.ensures
    (λ map read. subst (λ (m : Made). IsNewestMap m map) made
    (newest_map (made_of key) _ map known (let a = ap length fit.columns in let b = fit.counted in let d = ap sum fit.sizes in omega arith)
    (subst (λ (x : List ℕ × List ℕ). ReadBelow x.0 x.1 (slots_items c.close_with-closed.result.words) (sum x.0) map) (λ i. (sym fit.sizes i, sym fit.columns i)) (subst (λ (l : List ℕ). ReadBelow c.self.inside.layout l (slots_items c.close_with-closed.result.words) (sum c.self.inside.layout) map) c.as_slice.ensures.value read))))
