-- What logs have that are prefixes of leaders' logs, epoch by epoch.
use Rattle.std.proofs.Common.{◌≡◌, ◌≢◌, ◌⊎◌, ℕ, zero, suc, ◌<◌, ◌≤◌, List, [], ◌∷◌, ◌++◌, map, get_or, All, AllPairs, refl, sym, ap, ◌∙◌, subst, arith, inl, inr}
use Rattle.std.proofs.lemmas.List.{append-nil, append_assoc}
use Rattle.std.proofs.lemmas.List.Elements.{All-push, All-nil, Contains-get_or}
use Rattle.std.proofs.lemmas.List.Quantifiers.{all_pairs_push}
use Rattle.rl_base.specs.declared.stamp.Stamp.{Stamp}
use Rattle.rl_base.specs.Lists.{IsPrefix}
use Rattle.rl_base.specs.Order.{IsBelow}
use Rattle.rl_txn.specs.declared.item.Item.{Item}
use Rattle.rl_txn.specs.declared.batch.Batch.{Batch}
use Rattle.rl_families.specs.Logs.{stamps_along, items_along}
use Rattle.rl_families.specs.Families.{history}
use Rattle.rl_families.specs.Streams.{HaveOtherStamps}
use Rattle.rl_families.specs.Leaders.{logs_of_streams, Leaders, open_mark, leader_log, AreLeaders, ArePrefixesOfLeaders}
use Rattle.rl_families.specs.LeadersLogs.{EpochPart}
use Rattle.rl_families.specs.Laws.{LeadersLogsRise}
use Rattle.rl_base.proofs.Members.{In, contains_in, in_contains, map_in}
use Rattle.rl_base.proofs.Prefixes.{prefix_trans}
use Rattle.rl_families.proofs.Logs.{past_it, stamps_pre, split_stamps}
use Rattle.rl_families.proofs.Rising.{Rises, from_rises, above_append}
use Rattle.rl_families.proofs.Strict.{Strict, not_self, strict_apart}
use Rattle.rl_families.proofs.Streams.{in_streams, rise_streams}
use Rattle.rl_families.proofs.Extending.{above_zero, own_epoch, told_own, recovered_ok, decided_strict, f_rises, f_stamp, f_item, hist_strict}

-- the stamps along a strict list of items rise
pub strict_rises : (xs : List Item) → Strict xs → Rises (map (λ (x : Item). x.stamp) xs)
strict_rises [] s = tt
strict_rises (x ∷ xs) s = (
  above_append x.stamp [] (map (λ (z : Item). z.stamp) xs) tt
      (λ u i. let m = map_in (λ (z : Item). z.stamp) u xs i in subst (λ z. IsBelow x.stamp z) m.2 (s.0 m.0 m.1)),
  strict_rises xs s.1,
)

module _ (l : Leaders) (n : ℕ) (g : AreLeaders l n) where
  -- what an epoch has in a prefix of a leader's log
  epoch_part : (bound b s e : ℕ) → b < bound → 0 < e → (log : List Batch) → IsPrefix log (leader_log l b s) → EpochPart l e s log
  epoch_part zero b s e h born log p = absurd (omega arith)
  epoch_part (suc bound) zero s e h born log p = record {
    before = log;
    part = [];
    later = [];
    joins = append-nil log;
    below = λ t c. absurd (stamps_pre t log [] p (contains_in (stamps_along log) t c));
    above = λ t c. absurd (omega (arith, c.1));
    is = (open_mark e ∷ l.proposed e s, refl);
    behind = inl refl;
  }
  epoch_part (suc bound) (suc b) s e h born log p =
      let rec = l.recovered (suc b) s in
      let from = g.recovers (suc b) s (above_zero b) in
      elim (past_it log rec (open_mark (suc b) ∷ l.proposed (suc b) s) p.0 p.1) [
        | inl c ↦ epoch_part bound from.0 s e (omega (arith, from.1)) born log (prefix_trans log rec (leader_log l from.0 s) c from.2)
        | inr c ↦ (let own : (u : Stamp) → In u (stamps_along (c.0 ∷ c.1)) → u.epoch ≡ suc b = λ u j. own_epoch l n g (suc b) s u (told_own l n g (suc b) s u (stamps_pre u (c.0 ∷ c.1) (open_mark (suc b) ∷ l.proposed (suc b) s) (p.0, c.3) j)) in
            let low : (u : Stamp) → In u (stamps_along rec) → u.epoch < suc b = λ u j. (recovered_ok l n g (suc b) s (above_zero b) u j).1 in
            elim (three e (suc b)) [
              | inl less ↦ (let d = epoch_part bound from.0 s e (omega (arith, from.1)) born rec from.2 in record {
                before = d.before;
                part = d.part;
                later = d.later ++ c.0 ∷ c.1;
                joins = ap (λ z. d.before ++ z) (sym (append_assoc d.part d.later (c.0 ∷ c.1))) ∙ sym (append_assoc d.before (d.part ++ d.later) (c.0 ∷ c.1)) ∙ ap (λ z. z ++ c.0 ∷ c.1) d.joins ∙ c.2;
                below = d.below;
                above = λ t k. elim (split_stamps t d.later (c.0 ∷ c.1) (contains_in (stamps_along (d.later ++ c.0 ∷ c.1)) t k)) [
                  | inl i ↦ d.above t (in_contains (stamps_along d.later) t i)
                  | inr i ↦ (let o = own t i in omega arith)
                ];
                is = d.is;
                behind = d.behind;
              })
              | inr more ↦ elim more [
                | inl same ↦ subst (λ z. EpochPart l z s log) (sym same) (record {
                  before = rec;
                  part = c.0 ∷ c.1;
                  later = [];
                  joins = ap (λ z. rec ++ z) (append-nil (c.0 ∷ c.1)) ∙ c.2;
                  below = λ t k. low t (contains_in (stamps_along rec) t k);
                  above = λ t k. absurd (omega (arith, k.1));
                  is = (p.0, c.3);
                  behind = inr refl;
                })
                | inr above ↦ record {
                  before = log;
                  part = [];
                  later = [];
                  joins = append-nil log;
                  below = λ t k. elim (split_stamps t rec (c.0 ∷ c.1) (subst (λ z. In t (stamps_along z)) (sym c.2) (contains_in (stamps_along log) t k))) [
                    | inl i ↦ (let o = low t i in omega arith)
                    | inr i ↦ (let o = own t i in omega arith)
                  ];
                  above = λ t k. absurd (omega (arith, k.1));
                  is = (open_mark e ∷ l.proposed e s, refl);
                  behind = inl refl;
                }
              ]
            ])
      ]
    where
      three : (p q : ℕ) → (p < q) ⊎ ((p ≡ q) ⊎ (q < p))
      three p q = grind arith

  module _ (f : ℕ → List Batch) (told : ArePrefixesOfLeaders l n f) where
    -- different streams have items of different stamps
    other_stamps : (s t : ℕ) → 1 ≤ s → s ≤ n → 1 ≤ t → t ≤ n → s ≢ t → HaveOtherStamps (f s) (f t)
    other_stamps s t a b c d different x y i j same =
        let ox = f_item l n g f told s a b x (contains_in (items_along (f s)) x i) in
        let oy = f_item l n g f told t c d y (contains_in (items_along (f t)) y j) in
        let here : In y (l.decided x.stamp.epoch) = subst (λ z. In y (l.decided z)) (sym (ap (λ (z : Stamp). z.epoch) same)) oy.0 in
        elim (strict_apart (l.decided x.stamp.epoch) (decided_strict l n g x.stamp.epoch) x y ox.0 here) [
          | inl e ↦ different (sym ox.1 ∙ ap (λ (z : Item). z.worker) e ∙ oy.1)
          | inr apart ↦ elim apart [ inl u ↦ not_self y (subst (λ z. IsBelow z y.stamp) same u) | inr u ↦ not_self y (subst (λ z. IsBelow y.stamp z) same u) ]
        ]

    all_begun : (m : ℕ) → m ≤ n → All (λ log. All (λ (s : Stamp). 0 < s.epoch) (stamps_along log)) (logs_of_streams m f)
    all_begun zero h = All-nil (λ log. All (λ (s : Stamp). 0 < s.epoch) (stamps_along log))
    all_begun (suc m) h = All-push (λ log. All (λ (s : Stamp). 0 < s.epoch) (stamps_along log)) (logs_of_streams m f) (f (suc m)) (all_begun m (omega arith))
        (λ k d a. (f_stamp l n g f told (suc m) (omega arith) h (get_or (stamps_along (f (suc m))) k d)
        (contains_in (stamps_along (f (suc m))) (get_or (stamps_along (f (suc m))) k d) (Contains-get_or (stamps_along (f (suc m))) k d a))).born)

    all_apart : (m : ℕ) → m ≤ n → AllPairs HaveOtherStamps (logs_of_streams m f)
    all_apart zero h = λ i j d a b. absurd (omega arith)
    all_apart (suc m) h = all_pairs_push HaveOtherStamps (logs_of_streams m f) (f (suc m)) (all_apart m (omega arith)) (λ k d a.
        let s = in_streams m f (get_or (logs_of_streams m f) k d) (contains_in (logs_of_streams m f) (get_or (logs_of_streams m f) k d) (Contains-get_or (logs_of_streams m f) k d a)) in
        subst (λ z. HaveOtherStamps z (f (suc m))) (sym s.3) (other_stamps s.0 (suc m) s.1 (omega (arith, s.2)) (omega arith) h (λ e. omega (arith, s.2))))

pub leaders_logs_rise : LeadersLogsRise
leaders_logs_rise l n g f told = record {
  stamped = record { rising = rise_streams n f (f_rises l n g f told); begun = all_begun l n g f told n (omega arith); apart = all_apart l n g f told n (omega arith) };
  rising = from_rises (map (λ (x : Item). x.stamp) (history (logs_of_streams n f))) (strict_rises (history (logs_of_streams n f)) (hist_strict l n g f told));
  items = λ s x a b c. (let k = f_item l n g f told s a b x (contains_in (items_along (f s)) x c) in (k.1, in_contains (l.decided x.stamp.epoch) x k.0));
  parts = λ e s born a b. (let k = told s a b in epoch_part l n g (suc k.0) k.0 s e (omega arith) born (f s) k.1);
}
