-- The last stamps of epochs, as stamps come.
use Rattle.std.proofs.Common.{◌≡◌, ℕ, ◌≤◌, max, List, [], ◌∷◌, ◌++◌, length, get_or, map, suc, cond, Bool, true, false, ◌==◌, refl, sym, ap, ◌∙◌, arith, inl, inr}
use Rattle.std.specs.Option.{option_map_or, option_or}
use Rattle.std.proofs.lemmas.Bool.Decides.{eqb_tells}
use Rattle.rl_base.specs.declared.stamp.Stamp.{Stamp}
use Rattle.rl_txn.specs.declared.batch.Batch.{Batch}
use Rattle.rl_families.specs.Logs.{stamps_along, last_stamp, top_epoch, last_seq, last_seq_among}
use Rattle.rl_families.specs.Families.{least, least_top, all_reached, watermark}
use Rattle.rl_families.proofs.Logs.{last_seq_among-append}
use Rattle.rl_cut.specs.Kept.{AreLastOf, last_epoch, least_epoch, least_seq, mark_of}
use Rattle.rl_cut.proofs.Folds.{last_stamp-append}

pub last_same : (ss : List Stamp) → AreLastOf ss ss
last_same ss = record { last = refl; seqs = λ e. refl }

-- more stamps behind
pub lasts_append : (stamps lasts more : List Stamp) → AreLastOf stamps lasts → AreLastOf (stamps ++ more) (lasts ++ more)
lasts_append stamps lasts more h = record {
  last = last_stamp-append lasts more ∙ ap (option_or (last_stamp more)) h.last ∙ sym (last_stamp-append stamps more);
  seqs = λ e. last_seq_among-append lasts more e ∙ ap (max (last_seq_among more e)) (h.seqs e) ∙ sym (last_seq_among-append stamps more e);
}

pub lasts_trans : (a b c : List Stamp) → AreLastOf a b → AreLastOf b c → AreLastOf a c
lasts_trans a b c h k = record { last = k.last ∙ h.last; seqs = λ e. k.seqs e ∙ h.seqs e }

-- a stamp in place of the last, if it isn't below it and of its epoch
pub lasts_replaced : (lasts : List Stamp) (l s : Stamp) → l.epoch ≡ s.epoch → l.seq ≤ s.seq → AreLastOf ((lasts ++ l ∷ []) ++ s ∷ []) (lasts ++ s ∷ [])
lasts_replaced lasts l s e q = record {
  last = last_stamp-append lasts (s ∷ []) ∙ sym (last_stamp-append (lasts ++ l ∷ []) (s ∷ []));
  seqs = λ n. last_seq_among-append lasts (s ∷ []) n ∙ over n (last_seq_among lasts n)
      ∙ sym (last_seq_among-append (lasts ++ l ∷ []) (s ∷ []) n ∙ ap (max (last_seq_among (s ∷ []) n)) (last_seq_among-append lasts (l ∷ []) n));
}
  where
    over : (n m : ℕ) → max (last_seq_among (s ∷ []) n) m ≡ max (last_seq_among (s ∷ []) n) (max (last_seq_among (l ∷ []) n) m)
    over n m = elim (eqb_tells s.epoch n) [
      | inl a ↦ rw (a.0, other l.epoch s.epoch n true e a.0) (top l.seq s.seq m q)
      | inr a ↦ rw (a.0, other l.epoch s.epoch n false e a.0) (none m)
    ]
      where
        other : (x y n : ℕ) (b : Bool) → x ≡ y → (y == n) ≡ b → (x == n) ≡ b
        other x y n b h k = ap (λ z. z == n) h ∙ k

        top : (x y m : ℕ) → x ≤ y → max (max y 0) m ≡ max (max y 0) (max (max x 0) m)
        top x y m h = omega arith

        none : (m : ℕ) → max 0 m ≡ max 0 (max 0 m)
        none m = omega arith

-- ---- all streams ----
pub same_maps : {X Y : Type 0} (f : List X → ℕ) (g : List Y → ℕ) (xs : List (List X)) (ys : List (List Y)) → length xs ≡ length ys → ((i : ℕ) → f (get_or xs i []) ≡ g (get_or ys i [])) → map f xs ≡ map g ys
same_maps f g [] [] l h = refl
same_maps f g [] (y ∷ ys) l h = absurd (omega arith)
same_maps f g (x ∷ xs) [] l h = absurd (omega arith)
same_maps f g (x ∷ xs) (y ∷ ys) l h = ap (λ n. n ∷ map f xs) (h 0) ∙ ap (λ ns. g y ∷ ns) (same_maps f g xs ys (omega arith) (λ i. h (suc i)))

module _ (logs : List (List Batch)) (reached : List (List Stamp)) (l : length reached ≡ length logs) (h : (i : ℕ) → AreLastOf (stamps_along (get_or logs i [])) (get_or reached i [])) where
  pub least_epoch_is : least_epoch reached ≡ least_top logs
  least_epoch_is = ap least (same_maps last_epoch top_epoch reached logs l (λ i. ap (λ o. option_map_or (λ (s : Stamp). s.epoch) o 0) (h i).last))

  pub least_seq_is : (e : ℕ) → least_seq reached e ≡ all_reached logs e
  least_seq_is e = ap least (same_maps (λ ss. last_seq_among ss e) (λ log. last_seq log e) reached logs l (λ i. (h i).seqs e))

  pub mark_is : mark_of reached ≡ watermark logs
  mark_is =
      let make : ℕ → ℕ → ℕ × ℕ = λ t q. (t, cond (t == 0) 0 q) in
      ap (λ t. make t (least_seq reached t)) least_epoch_is ∙ ap (make (least_top logs)) (least_seq_is (least_top logs))
