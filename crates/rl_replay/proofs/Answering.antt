-- What the answers of a replica leave.
use Rattle.std.proofs.Common.{◌≡◌, ℕ, ◌+◌, ◌-◌, List, [], ◌++◌, get_or, Bool, Option, None, Result, Ok, Err, refl, sym, ap, ◌∙◌, subst, arith, All, Contains, IsTrue, ◌↔◌}
use Rattle.std.specs.Prelude.{slice_index, slice_set, OnOk, IfOk}
use Rattle.std.proofs.lemmas.List.{append-nil, set-get_or}
use Rattle.std.proofs.lemmas.List.Elements.{All-contains, Contains-get_or}
use Rattle.rl_base.specs.declared.memory.Memory.{Memory}
use Rattle.rl_value.specs.Rows.{Rows}
use Rattle.rl_txn.specs.declared.item.Item.{Item}
use Rattle.rl_replay.specs.declared.played.Played.{Played}
use Rattle.rl_replay.specs.declared.played.Played.TheVariants.{Applied}
use Rattle.rl_replay.specs.Entries.{Entry}
use Rattle.rl_replay.specs.Replay.{Replaying, item_in, after_answer, IsReplay, HasStamp, HaveSameStamps, IsSameSet, StampsIdentify}
use Rattle.rl_base.proofs.OrderLemmas.{same_stamp}
use Rattle.rl_replay.proofs.Replays.{replays}

-- an answer that adds nothing and goes no step leaves all as it was
pub still : (r : Replaying) (s : ℕ) → r ≡ record { applied = r.applied ++ []; played = slice_set r.played (s - 1) (slice_index r.played (s - 1) + 0); rows = r.rows; failed = r.failed }
still r s =
    let make : List Item → List ℕ → Replaying = λ a p. record { applied = a; played = p; rows = r.rows; failed = r.failed } in
    let none : slice_index r.played (s - 1) + 0 ≡ slice_index r.played (s - 1) = omega arith in
    let same : slice_set r.played (s - 1) (slice_index r.played (s - 1) + 0) ≡ r.played = ap (slice_set r.played (s - 1)) none ∙ set-get_or r.played (s - 1) 0 in
    sym (ap (λ a. make a (slice_set r.played (s - 1) (slice_index r.played (s - 1) + 0))) (append-nil r.applied) ∙ ap (make r.applied) same)

-- every answer keeps a replay
pub answer_replays : (opening : Rows) (r : Replaying) (s : ℕ) (next : Option Entry) (p : Played) → IsReplay opening r → IsReplay opening (after_answer r s next p)
answer_replays opening r s next (Applied t) h = replays opening r.rows r.applied (item_in next) h
answer_replays opening r s next _ h = replays opening r.rows r.applied None h

pub state_replays : (result : Result Played Memory) (old new : Replaying) (s : ℕ) (next : Option Entry) → IfOk result (λ p. new ≡ after_answer old s next p)
    → (opening : Rows) → IsReplay opening old → OnOk result (IsReplay opening new)
state_replays (Ok p) old new s next e opening h = subst (IsReplay opening) (sym e) (answer_replays opening old s next p h)
state_replays (Err m) old new s next e opening h = e

-- ---- sets of items, told by their stamps ----
among : (items others : List Item) → ((x y : Item) → Contains items x → Contains others y → x.stamp ≡ y.stamp → x ≡ y) → All (λ (x : Item). HasStamp items x.stamp) others → (x : Item) → Contains others x → Contains items x
among items others told h x k =
    let has = All-contains (λ (y : Item). HasStamp items y.stamp) others x h k in
    let there : Contains items has.1 = (has.0, has.2, has.3) in
    subst (Contains items) (told has.1 x there k (same_stamp has.1.stamp x.stamp has.4.0 has.4.1)) there

stamped : (items others : List Item) → ((x : Item) → Contains others x → Contains items x) → All (λ (x : Item). HasStamp items x.stamp) others
stamped items others h k d l = let x = get_or others k d in let there = h x (Contains-get_or others k d l) in (there.0, x, there.1, there.2, (refl, refl))

-- where stamps identify items, lists with the same stamps have the same items
pub same_sets : (applied history : List Item) (b : Bool) → (IsTrue b ↔ HaveSameStamps applied history) → StampsIdentify applied history → (IsTrue b ↔ IsSameSet history applied)
same_sets applied history b same told = (
  λ t. (among applied history told (same.0 t).0, among history applied (λ x y i j e. sym (told y x j i (sym e))) (same.0 t).1),
  λ s. same.1 (stamped applied history s.0, stamped history applied s.1),
)
