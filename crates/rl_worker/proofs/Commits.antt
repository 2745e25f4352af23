-- The acts of a commit are those of its phase.
use Rattle.std.proofs.Common.{◌≡◌, ℕ, suc, ◌+◌, ◌*◌, ◌^◌, ◌<◌, ◌≤◌, List, [], ◌∷◌, ◌++◌, length, map, get_or, take, drop, set, replicate, true, false, nat_lt, Option, Some, None, refl, sym, ap, ◌∙◌, subst, arith, add-one, is_some}
use Rattle.std.proofs.lemmas.List.{take_more, drop_more, get_or-map, length-map, get_or_default, get_or-take, length-take-le, length-replicate, set-get_or}
use Rattle.std.proofs.lemmas.Bool.Decides.{nat_tests}
use Rattle.rl_base.specs.declared.refusal.Refusal.{Refusal}
use Rattle.rl_base.specs.Stamps.{packed}
use Rattle.rl_value.specs.Tables.{Table, columns_of}
use Rattle.rl_tables.specs.Numbers.{sizes_of, place_of}
use Rattle.rl_tables.proofs.Sizes.{size_at}
use Rattle.rl_txn.specs.declared.write.Write.{Write}
use Rattle.rl_worker.specs.declared.act.Act.TheVariants as act
use Rattle.rl_worker.specs.declared.act.Moved as code
use Rattle.rl_worker.specs.declared.words.Words.{Words}
use Rattle.rl_worker.specs.declared.commit.Commit.{Commit}
use Rattle.rl_worker.specs.declared.commit.Part.TheVariants as part
use Rattle.rl_worker.specs.Phases.{Answer, Install, Rec, Phase, Locking, Storing, Refusing, Setting}
use Rattle.rl_worker.specs.Acts.{no_rec, target, act_result}
use Rattle.rl_worker.specs.Opening.{install_of}
use Rattle.rl_value.specs.Cells.{cells_of}
use Rattle.rl_worker.specs.Told.{found, word, act_of}
use Rattle.rl_worker.specs.Attempts.{refusal_of, IsAct, next_after}
use Rattle.rl_worker.specs.Workers.{core_item, part_phase, commit_phase, stamp_next, RecordsFit}
use Rattle.rl_txn.specs.Fits.{WriteFits, RowHas}
use Rattle.rl_tables.proofs.Places.{place_of_record}
use Rattle.rl_worker.proofs.Settings.{sizes_length}

lt_is_true : (a b : ℕ) → a < b → nat_lt a b ≡ true
lt_is_true a b h = grind (arith, nat_tests)

lt_is_false : (a b : ℕ) → b ≤ a → nat_lt a b ≡ false
lt_is_false a b h = grind (arith, nat_tests)

-- an act in a phase, on the record that is found
pub act_at : (s : Setting) (w e : ℕ) (p0 p p' : Phase) (words words' : Words) (x : Rec) (told : code.Moved) → p0 ≡ p → found words.records.items (target p) ≡ x
    → p' ≡ (act_result s w (stamp_next e words) p x).phase
    → words'.records.items ≡ set words.records.items (target p) (act_result s w (stamp_next e words) p x).rec
    → stamp_next e words' ≡ next_after (stamp_next e words) (act_result s w (stamp_next e words) p x).effect
    → told.refused ≡ refusal_of (act_result s w (stamp_next e words) p x).effect
    → told.act ≡ act_of words.next p x → told.ended ≡ None
    → IsAct s w e p0 p' words words' told
act_at s w e p0 p p' words words' x told is fx ph rs nx rf ac en =
    subst (λ z. IsAct s w e z p' words words' told) (sym is) (record {
      phase = ph ∙ ap (λ (y : Rec). (act_result s w (stamp_next e words) p y).phase) (sym fx);
      recs = rs ∙ ap (λ (y : Rec). set words.records.items (target p) (act_result s w (stamp_next e words) p y).rec) (sym fx);
      next = nx ∙ ap (λ (y : Rec). next_after (stamp_next e words) (act_result s w (stamp_next e words) p y).effect) (sym fx);
      refused = rf ∙ ap (λ (y : Rec). refusal_of (act_result s w (stamp_next e words) p y).effect) (sym fx);
      act = ac ∙ ap (λ (y : Rec). act_of words.next p y) (sym fx);
      ended = en;
    })

-- what is found where a record was read
pub found_is : (recs : List Rec) (r : ℕ) (x : Rec) → r < length recs → x ≡ get_or recs r x → found recs r ≡ x
found_is recs r x l e = get_or_default recs r no_rec x l ∙ sym e

-- a record that stays leaves the records as they are
pub set_found : (recs : List Rec) (r : ℕ) (x : Rec) → found recs r ≡ x → recs ≡ set recs r x
set_found recs r x e = sym (ap (set recs r) (sym e) ∙ set-get_or recs r no_rec)

-- a row has presence and its columns
pub cells_length : (n : ℕ) (o : Option (List ℕ)) → RowHas n o → length (cells_of n o) ≡ n + 1
cells_length n None h = let z : length (replicate {A = ℕ} n 0) ≡ n = length-replicate n 0 in omega arith
cells_length n (Some row) h = omega arith

-- a write, and the record that it is of, have the columns of one table
pub columns_fit : (tables : List Table) (recs : List Rec) (w : Write) (r : ℕ) (x : Rec) → RecordsFit tables recs → WriteFits tables w → r ≡ (install_of tables w).rec → r < length recs → found recs r ≡ x
    → (length x.cells ≡ columns_of tables w.table + 1) × (length (install_of tables w).row ≡ columns_of tables w.table + 1)
columns_fit tables recs w r x fits f r_is l fx =
    let placed : place_of (sizes_of tables) (install_of tables w).rec ≡ (w.table, w.key) = place_of_record (sizes_of tables) w.table w.key (rw (sizes_length tables) f.0) (rw (size_at tables w.table) f.1) in (
      ap (λ (z : Rec). length z.cells) (sym fx) ∙ (fits.each r l).cells ∙ ap (λ n. columns_of tables (place_of (sizes_of tables) n).0 + 1) r_is ∙ ap (λ (q : ℕ × ℕ). columns_of tables q.0 + 1) placed,
      cells_length (columns_of tables w.table) w.row f.2,
    )

module _ (tables : List Table) (c : Commit) (at : ℕ) (w : Write) (w_is : w ≡ get_or c.item.writes at w) (inside : at < length c.item.writes) where
  abbrev pub is : List Install
  is = map (install_of tables) c.item.writes

  abbrev pub y : Install
  y = install_of tables w

  within : at < length is
  within = let n = length-map c.item.writes (install_of tables) in omega arith

  here : get_or is at y ≡ y
  here = get_or-map (install_of tables) c.item.writes at w y inside ∙ ap (install_of tables) (sym w_is)

  next_install : drop at is ≡ y ∷ drop (at + 1) is
  next_install = drop_more is at y within ∙ ap (λ z. z ∷ drop (at + 1) is) here

  one_more : take (at + 1) is ≡ take at is ++ y ∷ []
  one_more = take_more is at y within ∙ ap (λ z. take at is ++ z ∷ []) here

  abbrev pub ans : Answer
  ans = (c.item.reply, c.item.writes)

  lock_phase : c.part ≡ part.Locking at → commit_phase tables c ≡ Locking c.item.index c.reads.0 ans (take at is) (y ∷ drop (at + 1) is)
  lock_phase p = ap (part_phase tables c) p ∙ ap (λ z. Locking c.item.index c.reads.0 ans (take at is) z) next_install

  module _ (s : Setting) (p : c.part ≡ part.Locking at) (words words' : Words) (x : Rec) (r : ℕ) (r_is : r ≡ y.rec) (fx : found words.records.items r ≡ x) (told : code.Moved) (n_is : words'.next ≡ words.next) where
    now : stamp_next c.item.stamp.epoch words' ≡ stamp_next c.item.stamp.epoch words
    now = ap (λ n. c.item.stamp.epoch * 2 ^ 40 + n) n_is

    pub locks : x.holder ≡ None → words'.records.items ≡ set words.records.items r (record x { holder = Some c.item.worker }) → told ≡ record { act = act.Lock r (word x); refused = None; ended = None }
        → IsAct s c.item.worker c.item.stamp.epoch (commit_phase tables c) (commit_phase tables (record c { part = part.Locking (at + 1) })) words words' told
    locks free rs t = act_at s c.item.worker c.item.stamp.epoch (commit_phase tables c) (Locking c.item.index c.reads.0 ans (take at is) (y ∷ drop (at + 1) is)) _ words words' x told (lock_phase p)
        (ap (found words.records.items) (sym r_is) ∙ fx)
        (rw free (ap (λ z. Locking c.item.index c.reads.0 ans z (drop (at + 1) is)) one_more))
        (rw free (rs ∙ ap (λ n. set words.records.items n (record x { holder = Some c.item.worker })) r_is))
        (rw free now)
        (rw free (ap (λ (m : code.Moved). m.refused) t))
        (ap (λ (m : code.Moved). m.act) t ∙ ap (λ n. act.Lock n (word x)) r_is)
        (ap (λ (m : code.Moved). m.ended) t)

    pub lock_refused : (v : ℕ) → x.holder ≡ Some v → words'.records.items ≡ set words.records.items r x → told ≡ record { act = act.Lock r (word x); refused = Some (Refusal.Locked r (word x)); ended = None }
        → IsAct s c.item.worker c.item.stamp.epoch (commit_phase tables c) (commit_phase tables (record c { part = part.Refusing 0 at })) words words' told
    lock_refused v held rs t =
        let some : is_some x.holder ≡ true = ap is_some held in
        act_at s c.item.worker c.item.stamp.epoch (commit_phase tables c) (Locking c.item.index c.reads.0 ans (take at is) (y ∷ drop (at + 1) is)) _ words words' x told (lock_phase p)
        (ap (found words.records.items) (sym r_is) ∙ fx)
        (rw held refl)
        (rw some (rs ∙ ap (λ n. set words.records.items n x) r_is))
        (rw held now)
        (rw held (ap (λ (m : code.Moved). m.refused) t ∙ ap (λ n. Some (Refusal.Locked n (word x))) r_is ∙ rw held refl))
        (ap (λ (m : code.Moved). m.act) t ∙ ap (λ n. act.Lock n (word x)) r_is)
        (ap (λ (m : code.Moved). m.ended) t)

  refuse_phase : (held : ℕ) → at < held → c.part ≡ part.Refusing at held → held ≤ length c.item.writes → commit_phase tables c ≡ Refusing c.item.index (y ∷ drop (at + 1) (take held is))
  refuse_phase held less p few =
      let n = length-map c.item.writes (install_of tables) in
      let m = length-take-le held is (omega arith) in
      ap (part_phase tables c) p ∙ ap (Refusing c.item.index)
      (drop_more (take held is) at y (omega arith) ∙ ap (λ z. z ∷ drop (at + 1) (take held is)) (get_or-take held is at y less ∙ here))

  module _ (s : Setting) (words words' : Words) (x : Rec) (r : ℕ) (r_is : r ≡ y.rec) (fx : found words.records.items r ≡ x) (told : code.Moved) (n_is : words'.next ≡ words.next) where
    same : stamp_next c.item.stamp.epoch words' ≡ stamp_next c.item.stamp.epoch words
    same = ap (λ n. c.item.stamp.epoch * 2 ^ 40 + n) n_is

    pub releases : (held : ℕ) → at < held → c.part ≡ part.Refusing at held → held ≤ length c.item.writes
        → words'.records.items ≡ set words.records.items r (record x { holder = None }) → told ≡ record { act = act.Close r (2 * x.stamp); refused = None; ended = None }
        → IsAct s c.item.worker c.item.stamp.epoch (commit_phase tables c) (commit_phase tables (record c { part = part.Refusing (at + 1) held })) words words' told
    releases held less p few rs t = act_at s c.item.worker c.item.stamp.epoch (commit_phase tables c) (Refusing c.item.index (y ∷ drop (at + 1) (take held is))) _ words words' x told (refuse_phase held less p few)
        (ap (found words.records.items) (sym r_is) ∙ fx)
        refl
        (rs ∙ ap (λ n. set words.records.items n (record x { holder = None })) r_is)
        same
        (ap (λ (m : code.Moved). m.refused) t)
        (ap (λ (m : code.Moved). m.act) t ∙ ap (λ n. act.Close n (2 * x.stamp)) r_is)
        (ap (λ (m : code.Moved). m.ended) t)

  module _ (stored : ℕ) (p : c.part ≡ part.Storing at stored) (s : Setting) (words words' : Words) (x : Rec) (r : ℕ) (r_is : r ≡ y.rec) (fx : found words.records.items r ≡ x) (told : code.Moved) (n_is : words'.next ≡ words.next) where
    t : ℕ
    t = packed c.item.stamp

    store_phase : commit_phase tables c ≡ Storing (core_item tables c.item) stored (y ∷ drop (at + 1) is)
    store_phase = ap (part_phase tables c) p ∙ ap (Storing (core_item tables c.item) stored) next_install

    still : stamp_next c.item.stamp.epoch words' ≡ stamp_next c.item.stamp.epoch words
    still = ap (λ n. c.item.stamp.epoch * 2 ^ 40 + n) n_is

    pub stores : (value : ℕ) → stored < length y.row → value ≡ get_or y.row stored 0
        → words'.records.items ≡ set words.records.items r (record x { cells = set x.cells stored value }) → told ≡ record { act = act.ColumnStore r stored value; refused = None; ended = None }
        → IsAct s c.item.worker c.item.stamp.epoch (commit_phase tables c) (commit_phase tables (record c { part = part.Storing at (stored + 1) })) words words' told
    stores value less v rs m =
        let b : nat_lt stored (length y.row) ≡ true = lt_is_true stored (length y.row) less in
        act_at s c.item.worker c.item.stamp.epoch (commit_phase tables c) (Storing (core_item tables c.item) stored (y ∷ drop (at + 1) is)) _ words words' x told store_phase
        (ap (found words.records.items) (sym r_is) ∙ fx)
        (rw b (ap (λ n. Storing (core_item tables c.item) n (drop at is)) (add-one stored) ∙ ap (Storing (core_item tables c.item) (suc stored)) next_install))
        (rw b (rs ∙ ap (λ n. set words.records.items n (record x { cells = set x.cells stored value })) r_is ∙ ap (λ n. set words.records.items y.rec (record x { cells = set x.cells stored n })) v))
        (rw b still)
        (rw b (ap (λ (z : code.Moved). z.refused) m))
        (rw b (ap (λ (z : code.Moved). z.act) m ∙ ap (λ n. act.ColumnStore n stored value) r_is ∙ ap (act.ColumnStore y.rec stored) v))
        (ap (λ (z : code.Moved). z.ended) m)

    pub closes : length y.row ≤ stored
        → words'.records.items ≡ set words.records.items r (record x { stamp = packed c.item.stamp; holder = None }) → told ≡ record { act = act.Close r (2 * packed c.item.stamp); refused = None; ended = None }
        → IsAct s c.item.worker c.item.stamp.epoch (commit_phase tables c) (commit_phase tables (record c { part = part.Storing (at + 1) 0 })) words words' told
    closes past rs m =
        let b : nat_lt stored (length y.row) ≡ false = lt_is_false stored (length y.row) past in
        act_at s c.item.worker c.item.stamp.epoch (commit_phase tables c) (Storing (core_item tables c.item) stored (y ∷ drop (at + 1) is)) _ words words' x told store_phase
        (ap (found words.records.items) (sym r_is) ∙ fx)
        (rw b refl)
        (rw b (rs ∙ ap (λ n. set words.records.items n (record x { stamp = packed c.item.stamp; holder = None })) r_is))
        (rw b still)
        (rw b (ap (λ (z : code.Moved). z.refused) m))
        (rw b (ap (λ (z : code.Moved). z.act) m ∙ ap (λ n. act.Close n (2 * packed c.item.stamp)) r_is))
        (ap (λ (z : code.Moved). z.ended) m)
