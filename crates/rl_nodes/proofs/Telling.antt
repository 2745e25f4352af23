-- The tests of nodes tell what they are named for.
use Rattle.std.proofs.Common.{◌≡◌, ℕ, List, [], ◌∷◌, ◌++◌, length, Bool, true, ◌&&◌, ◌==◌, nat_lt, All, Option, Some, None, refl, ap₂, sym, subst, arith, true≢false}
use Rattle.std.proofs.lemmas.List.Folds.{Any-from_list_any, list_any-from_Any}
use Rattle.std.proofs.lemmas.List.Sums.{AllPass-from_list_all, list_all-from_AllPass}
use Rattle.std.proofs.lemmas.Bool.Decides.{nat_tests}
use Rattle.std.proofs.lemmas.Slice.Eq.{bytes_eq-Decides}
use Rattle.std.specs.List.{list_all}
use Rattle.std.specs.Option.{option_map_or}
use Rattle.std.specs.Str.{bytes_eq}
use Rattle.rl_base.specs.Lists.{IsPrefix}
use Rattle.rl_base.specs.Order.{is_below}
use Rattle.rl_base.specs.declared.stamp.Stamp.{Stamp}
use Rattle.rl_base.proofs.OrderLemmas.{is_below_tells, is_below_from}
use Rattle.rl_base.proofs.Tests.{lt_true, true_lt, true_same, both, both_true}
use Rattle.rl_value.specs.Tables.{Table, size_of, columns_of}
use Rattle.rl_txn.specs.Fits.{RowHas, WriteFits}
use Rattle.rl_txn.specs.declared.item.Item.{Item}
use Rattle.rl_txn.specs.declared.write.Write.{Write}
use Rattle.rl_paxos.specs.Logs.{Log}
use Rattle.rl_families.proofs.Rising.{Above, Rises, rises_from, from_rises}
use Rattle.rl_replay.specs.Replay.{HasStamp, HaveSameStamps}
use Rattle.rl_nodes.specs.BadMessages.{begins, write_fits}
use Rattle.rl_nodes.specs.Batches.{are_rising}
use Rattle.rl_nodes.specs.Laws.{TestsTell}
use Rattle.rl_nodes.specs.Views.{has_stamp, have_same_stamps}

-- ---- stamps that rise ----

above_all : (s : Stamp) (ts : List Stamp) → list_all (is_below s) ts ≡ true → Above s ts
above_all s [] h = tt
above_all s (t ∷ ts) h =
    let parts = both (is_below s t) (list_all (is_below s) ts) h in
    (is_below_tells s t parts.0, above_all s ts parts.1)

all_above : (s : Stamp) (ts : List Stamp) → Above s ts → list_all (is_below s) ts ≡ true
all_above s [] a = refl
all_above s (t ∷ ts) a =
    both_true (is_below s t) (list_all (is_below s) ts) (is_below_from s t a.0) (all_above s ts a.1)

rises : (ss : List Stamp) → are_rising ss ≡ true → Rises ss
rises [] h = tt
rises (s ∷ ss) h =
    let parts = both (list_all (is_below s) ss) (are_rising ss) h in
    (above_all s ss parts.0, rises ss parts.1)

rising : (ss : List Stamp) → Rises ss → are_rising ss ≡ true
rising [] r = refl
rising (s ∷ ss) r = both_true (list_all (is_below s) ss) (are_rising ss) (all_above s ss r.0) (rising ss r.1)

-- ---- logs of which one begins the other ----

begun : (xs ys : Log) → begins xs ys ≡ true → IsPrefix xs ys
begun [] ys h = (ys, refl)
begun (x ∷ xs) [] h = absurd (true≢false (sym h))
begun (x ∷ xs) (y ∷ ys) h =
    let parts = both (bytes_eq x y) (begins xs ys) h in
    let rest = begun xs ys parts.1 in
    (rest.0, ap₂ ◌∷◌ ((bytes_eq-Decides x y).0 parts.0) rest.1)

begins_more : (xs rest : Log) → begins xs (xs ++ rest) ≡ true
begins_more [] rest = refl
begins_more (x ∷ xs) rest =
    both_true (bytes_eq x x) (begins xs (xs ++ rest)) ((bytes_eq-Decides x x).1 refl) (begins_more xs rest)

begins_prefix : (xs ys : Log) → IsPrefix xs ys → begins xs ys ≡ true
begins_prefix xs ys p = subst (λ zs. begins xs zs ≡ true) p.1 (begins_more xs p.0)

-- ---- writes that fit ----

abbrev row_fits : (columns : ℕ) → Option (List ℕ) → Bool
row_fits columns row = option_map_or (λ row. length row == columns) row true

same_numbers : (a b : ℕ) → a ≡ b → (a == b) ≡ true
same_numbers a b e = grind (arith, nat_tests)

row_has : (columns : ℕ) (row : Option (List ℕ)) → row_fits columns row ≡ true → RowHas columns row
row_has columns None h = tt
row_has columns (Some row) h = true_same (length row) columns h

has_row : (columns : ℕ) (row : Option (List ℕ)) → RowHas columns row → row_fits columns row ≡ true
has_row columns None h = refl
has_row columns (Some row) h = same_numbers (length row) columns h

fits : (tables : List Table) (w : Write) → write_fits tables w ≡ true → WriteFits tables w
fits tables w h =
    let columns = columns_of tables w.table in
    let row = both (nat_lt w.table (length tables) && nat_lt w.key (size_of tables w.table)) (row_fits columns w.row) h in
    let key = both (nat_lt w.table (length tables)) (nat_lt w.key (size_of tables w.table)) row.0 in
    (true_lt w.table (length tables) key.0, true_lt w.key (size_of tables w.table) key.1, row_has columns w.row row.1)

fitting : (tables : List Table) (w : Write) → WriteFits tables w → write_fits tables w ≡ true
fitting tables w f =
    let columns = columns_of tables w.table in
    both_true (nat_lt w.table (length tables) && nat_lt w.key (size_of tables w.table)) (row_fits columns w.row)
    (both_true (nat_lt w.table (length tables)) (nat_lt w.key (size_of tables w.table))
    (lt_true w.table (length tables) f.0) (lt_true w.key (size_of tables w.table) f.1))
    (has_row columns w.row f.2)

-- ---- items of the same stamps ----

abbrev is_stamp : Stamp → Item → Bool
is_stamp s x = (x.stamp.epoch == s.epoch) && (x.stamp.seq == s.seq)

stamp_of : (s : Stamp) (x : Item) → is_stamp s x ≡ true → (x.stamp.epoch ≡ s.epoch) × (x.stamp.seq ≡ s.seq)
stamp_of s x h =
    let parts = both (x.stamp.epoch == s.epoch) (x.stamp.seq == s.seq) h in
    (true_same x.stamp.epoch s.epoch parts.0, true_same x.stamp.seq s.seq parts.1)

of_stamp : (s : Stamp) (x : Item) → (x.stamp.epoch ≡ s.epoch) × (x.stamp.seq ≡ s.seq) → is_stamp s x ≡ true
of_stamp s x e =
    both_true (x.stamp.epoch == s.epoch) (x.stamp.seq == s.seq) (same_numbers x.stamp.epoch s.epoch e.0) (same_numbers x.stamp.seq s.seq e.1)

has : (items : List Item) (s : Stamp) → has_stamp items s ≡ true → HasStamp items s
has items s h =
    let found = Any-from_list_any (is_stamp s) items h in
    (found.0, found.1, found.2, found.3, stamp_of s found.1 found.4)

having : (items : List Item) (s : Stamp) → HasStamp items s → has_stamp items s ≡ true
having items s a = list_any-from_Any (is_stamp s) items (a.0, a.1, a.2, a.3, of_stamp s a.1 a.4)

all_have : (items others : List Item) → list_all (λ (x : Item). has_stamp items x.stamp) others ≡ true → All (λ (x : Item). HasStamp items x.stamp) others
all_have items others h = λ k d l. has items _ (AllPass-from_list_all (λ (x : Item). has_stamp items x.stamp) others h k d l)

all_having : (items others : List Item) → All (λ (x : Item). HasStamp items x.stamp) others → list_all (λ (x : Item). has_stamp items x.stamp) others ≡ true
all_having items others a = list_all-from_AllPass (λ (x : Item). has_stamp items x.stamp) others (λ k d l. having items _ (a k d l))

same : (xs ys : List Item) → have_same_stamps xs ys ≡ true → HaveSameStamps xs ys
same xs ys h =
    let parts = both (list_all (λ (y : Item). has_stamp xs y.stamp) ys) (list_all (λ (x : Item). has_stamp ys x.stamp) xs) h in
    (all_have xs ys parts.0, all_have ys xs parts.1)

being_same : (xs ys : List Item) → HaveSameStamps xs ys → have_same_stamps xs ys ≡ true
being_same xs ys s =
    both_true (list_all (λ (y : Item). has_stamp xs y.stamp) ys) (list_all (λ (x : Item). has_stamp ys x.stamp) xs)
    (all_having xs ys s.0) (all_having ys xs s.1)

pub tests_tell : TestsTell
tests_tell = record {
  rising = λ ss. (λ h. from_rises ss (rises ss h), λ r. rising ss (rises_from ss r));
  begins = λ xs ys. (begun xs ys, begins_prefix xs ys);
  fits = λ tables w. (fits tables w, fitting tables w);
  same = λ xs ys. (same xs ys, being_same xs ys);
}
