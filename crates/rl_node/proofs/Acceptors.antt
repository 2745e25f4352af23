-- What an acceptor keeps still fits after a message that is not bad.
use Rattle.std.proofs.Common.{◌≡◌, ◌≢◌, ◌⊎◌, ℕ, zero, suc, ◌-◌, ◌^◌, ◌≤◌, List, [], ◌∷◌, ◌++◌, length, get_or, set, take, Bool, true, false, not, ◌&&◌, ◌==◌, nat_lt, cond, is_some, Option, Some, None, refl, sym, ap, ◌∙◌, subst, rules, arith, inl, inr, true≢false, length-append}
use Rattle.std.specs.Option.{option_map_or}
use Rattle.std.proofs.lemmas.Bool.{cases_Bool}
use Rattle.std.proofs.lemmas.List.{length-set, get_or-set_same, get_or-set_other, take-append-le}
use Rattle.std.proofs.lemmas.List.Elements.{All-append}
use Rattle.rl_base.specs.Order.{IsBelow, is_below}
use Rattle.rl_base.specs.declared.stamp.Stamp.{Stamp}
use Rattle.rl_base.proofs.Members.{In}
use Rattle.rl_base.proofs.OrderLemmas.{is_below_tells, below_trans}
use Rattle.rl_base.proofs.Tests.{by_bool, true_same}
use Rattle.rl_families.specs.Logs.{first_stamp, last_stamp}
use Rattle.rl_families.specs.Streams.{log_at}
use Rattle.rl_families.proofs.Rising.{Rises, above_in}
use Rattle.rl_msg.specs.Ranges.{EmbeddedBatchInRange}
use Rattle.rl_paxos.specs.Acceptors.{Kept, Acceptor, nothing_kept, kept_of, kept_ballot, kept_log, refuses, prepared, with_kept, synced, accepted}
use Rattle.rl_paxos.specs.Logs.{Log, Batch}
use Rattle.rl_nodes.specs.BadMessages.{begins, goes_on, would_adopt}
use Rattle.rl_nodes.specs.Batches.{batches_of}
use Rattle.rl_nodes.specs.Setups.{Setup}
use Rattle.rl_nodes.proofs.Telling.{tests_tell}
use Rattle.rl_node.specs.Fits.{IsStream, LogFits, KeptFits, AcceptorFits, IsFront, RunningFits}
use Rattle.rl_node.specs.declared.running.Running.{Running}
use Rattle.rl_node.proofs.Changes.{KeepsRunning}
use Rattle.rl_node.proofs.Logs.{stamps_of, is_right, right_is, right_append}

false_other : (t s : ℕ) → (t == s) ≡ false → t ≢ s
false_other t s h e = true≢false (sym (ap (λ k. k == s) e ∙ same s) ∙ h)
  where
    same : (s : ℕ) → (s == s) ≡ true
    same s = search rules

pub not_both : (a b : Bool) → a ≡ true → (a && not b) ≡ false → b ≡ true
not_both true true h k = refl
not_both true false h k = absurd (true≢false k)
not_both false b h k = absurd (true≢false (sym h))

-- ---- another log of one stream ----

module _ (setup : Setup) (x : Acceptor) (fits : AcceptorFits setup x) (s : ℕ) (is : IsStream setup s) where
  kept_here : (k : Kept) → get_or (set x.streams (s - 1) k) (s - 1) nothing_kept ≡ k
  kept_here k = get_or-set_same x.streams (s - 1) k nothing_kept (omega (arith, fits.streams, is.0, is.1))

  kept_there : (k : Kept) (t : ℕ) → IsStream setup t → t ≢ s → get_or (set x.streams (s - 1) k) (t - 1) nothing_kept ≡ kept_of x t
  kept_there k t there other = get_or-set_other x.streams (s - 1) (t - 1) k nothing_kept (λ e. other (omega (arith, is.0, there.0, e)))

  -- what holds of each stream
  by_stream : (P : (t : ℕ) → Kept → Type 0) (k : Kept) → P s k → ((t : ℕ) → IsStream setup t → t ≢ s → P t (kept_of x t))
      → (t : ℕ) → IsStream setup t → P t (get_or (set x.streams (s - 1) k) (t - 1) nothing_kept)
  by_stream P k here others t there = elim (cases_Bool (t == s)) [
    | inl e ↦ (let same = true_same t s e in
        subst (λ u. P u (get_or (set x.streams (s - 1) k) (u - 1) nothing_kept)) (sym same) (subst (P s) (sym (kept_here k)) here))
    | inr e ↦ (let other = false_other t s e in subst (P t) (sym (kept_there k t there other)) (others t there other))
  ]

  pub with_kept_fits : (p ballot : ℕ) (log : Log) → p ≤ 2 ^ 20 - 1 → ballot ≤ 2 ^ 20 - 1 → LogFits setup.program.tables s ballot log
      → AcceptorFits setup (with_kept (record x { promised = p }) s ballot log)
  with_kept_fits p ballot log few fewer right = record {
    streams = length-set x.streams (s - 1) (record { ballot = ballot; log = log }) ∙ fits.streams;
    promised = few;
    each = by_stream (λ t k. KeptFits setup.program.tables t k) (record { ballot = ballot; log = log })
        (record { ballot = fewer; log = right }) (λ t there other. fits.each t there);
  }

  pub with_kept_keeps : (p ballot : ℕ) (log : Log) (r : Running) → IsFront log (log_at r.known s)
      → RunningFits setup x r → RunningFits setup (with_kept (record x { promised = p }) s ballot log) r
  with_kept_keeps p ballot log r front f = record {
    known_streams = f.known_streams;
    known = by_stream (λ t k. IsFront k.log (log_at r.known t)) (record { ballot = ballot; log = log }) front (λ t there other. f.known t there);
    played_streams = f.played_streams;
    begins = f.begins;
    rows = f.rows;
  }

-- ---- a Prepare ----

pub prepared_fits : (setup : Setup) (x : Acceptor) (e : ℕ) → AcceptorFits setup x → e ≤ 2 ^ 20 - 1 → AcceptorFits setup (prepared x e)
prepared_fits setup x e f few = record { streams = f.streams; promised = few; each = f.each }

pub prepared_keeps : (setup : Setup) (x : Acceptor) (e : ℕ) → KeepsRunning setup x (prepared x e)
prepared_keeps setup x e r f = record { known_streams = f.known_streams; known = f.known; played_streams = f.played_streams; begins = f.begins; rows = f.rows }

-- ---- a Sync ----

module _ (setup : Setup) (x : Acceptor) (fits : AcceptorFits setup x) (e s : ℕ) (is : IsStream setup s) (log : Log) (few : e ≤ 2 ^ 20 - 1) where
  pub synced_fits : LogFits setup.program.tables s e log → AcceptorFits setup (synced x e s log)
  synced_fits right = by_bool (λ b. AcceptorFits setup (cond b (with_kept (prepared x e) s e log) (prepared x e))) (nat_lt (kept_ballot x s) e)
      (λ t. with_kept_fits setup x fits s is e e log few few right) (λ t. prepared_fits setup x e fits few)

  taken : (r : Running) → IsFront (kept_log x s) (log_at r.known s) → begins (take (length (log_at r.known s)) (kept_log x s)) log ≡ true
      → IsFront log (log_at r.known s)
  taken r front b =
      let k = length (log_at r.known s) in
      let old = take k (kept_log x s) in
      let p = (tests_tell.begins old log).0 b in
      let len : length old ≡ k = take_len k (kept_log x s) front.within in
      let same : take k log ≡ old =
      ap (take k) (sym p.1) ∙ ap (λ n. take n (old ++ p.0)) (sym len) ∙ take-append-le (length old) old p.0 (omega arith) ∙ take_all old in
      record {
        within = omega (arith, ap length p.1, length-append old p.0, len);
        is = front.is ∙ ap (λ l. batches_of l) (sym same);
      }
    where
      take_len : (n : ℕ) (xs : Log) → n ≤ length xs → length (take n xs) ≡ n
      take_len zero xs l = refl
      take_len (suc n) [] l = absurd (omega arith)
      take_len (suc n) (y ∷ ys) l = ap suc (take_len n ys (omega arith))

      take_all : (xs : Log) → take (length xs) xs ≡ xs
      take_all [] = refl
      take_all (y ∷ ys) = ap (λ zs. y ∷ zs) (take_all ys)

  pub synced_keeps : (r : Running) → refuses x e ≡ None
      → (would_adopt x e s && not (begins (take (length (log_at r.known s)) (kept_log x s)) log)) ≡ false
      → RunningFits setup x r → RunningFits setup (synced x e s log) r
  synced_keeps r allowed untrue f =
      by_bool (λ b. (nat_lt (kept_ballot x s) e ≡ b) → RunningFits setup (cond b (with_kept (prepared x e) s e log) (prepared x e)) r)
      (nat_lt (kept_ballot x s) e) (λ t h. with_kept_keeps setup x fits s is e e log r (taken r (f.known s is) (begun h)) f)
      (λ t h. prepared_keeps setup x e r f) refl
    where
      begun : nat_lt (kept_ballot x s) e ≡ true → begins (take (length (log_at r.known s)) (kept_log x s)) log ≡ true
      begun h =
          let b = begins (take (length (log_at r.known s)) (kept_log x s)) log in
          let adopts : would_adopt x e s ≡ true = ap (λ o. not (is_some o) && nat_lt (kept_ballot x s) e) allowed ∙ h in
          not_both (would_adopt x e s) b adopts untrue

-- ---- an Accept ----

-- the last of some rising stamps is above the others
last_above : (ss : List Stamp) (l : Stamp) → Rises ss → last_stamp ss ≡ Some l → (t : Stamp) → In t ss → (t ≡ l) ⊎ IsBelow t l
last_above [] l r e t i = absurd i
last_above (s ∷ []) l r e t i = elim i [ inl same ↦ inl (same ∙ some_same s l e) | inr j ↦ absurd j ]
  where
    some_same : (s l : Stamp) → Some s ≡ Some l → s ≡ l
    some_same s l e = cc
last_above (s ∷ (u ∷ us)) l r e t i = elim i [
  | inl same ↦ inr (elim (last_above (u ∷ us) l r.1 e u (inl refl)) [
    | inl k ↦ subst (λ v. IsBelow t v) k (subst (λ v. IsBelow v u) (sym same) r.0.0)
    | inr k ↦ below_trans t u l (subst (λ v. IsBelow v u) (sym same) r.0.0) k
  ])
  | inr j ↦ last_above (u ∷ us) l r.1 e t j
]

-- stamps that go on behind others are above them
above_before : (ss ts : List Stamp) → Rises ss → Rises ts → goes_on ss ts ≡ true → (t u : Stamp) → In t ss → In u ts → IsBelow t u
above_before ss [] p q g t u i j = absurd j
above_before ss (v ∷ vs) p q g t u i j = by_last (last_stamp ss) refl
  where
    first : (l : Stamp) → last_stamp ss ≡ Some l → IsBelow l v
    first l e = is_below_tells l v (sym (ap (λ o. option_map_or (λ last. option_map_or (is_below last) (first_stamp (v ∷ vs)) true) o true) e) ∙ g)

    from_first : (l : Stamp) → IsBelow l v → IsBelow l u
    from_first l h = elim j [ inl same ↦ subst (λ w. IsBelow l w) (sym same) h | inr k ↦ below_trans l v u h (above_in v vs u q.0 k) ]

    by_last : (o : Option Stamp) → last_stamp ss ≡ o → IsBelow t u
    by_last None e = absurd (none_last ss t e i)
      where
        none_last : (ss : List Stamp) (t : Stamp) → last_stamp ss ≡ None → In t ss → ⊥
        none_last [] t e i = i
        none_last (s ∷ []) t e i = cc
        none_last (s ∷ (u ∷ us)) t e i = none_last (u ∷ us) u e (inl refl)
    by_last (Some l) e = elim (last_above ss l p e t i) [
      | inl same ↦ subst (λ w. IsBelow w u) (sym same) (from_first l (first l e))
      | inr below ↦ below_trans t l u below (from_first l (first l e))
    ]

module _ (setup : Setup) (x : Acceptor) (fits : AcceptorFits setup x) (e s slot : ℕ) (is : IsStream setup s) (batch : Batch) where
  -- a batch that goes on behind a log
  appended : (length (kept_log x s) ≤ 4095) → LogFits setup.program.tables s (kept_ballot x s) (batch ∷ [])
      → goes_on (stamps_of (kept_log x s)) (stamps_of (batch ∷ [])) ≡ true
      → LogFits setup.program.tables s (kept_ballot x s) (kept_log x s ++ batch ∷ [])
  appended room alone goes =
      let old = (fits.each s is).log in
      let tables = setup.program.tables in
      let p = is_right tables s (kept_ballot x s) (kept_log x s) old.right in
      let q = is_right tables s (kept_ballot x s) (batch ∷ []) alone.right in
      record {
        in_range = record {
          few = omega (arith, length-append (kept_log x s) (batch ∷ []));
          each = All-append EmbeddedBatchInRange (kept_log x s) (batch ∷ []) old.in_range.each alone.in_range.each;
        };
        right = right_is tables s (kept_ballot x s) (kept_log x s ++ batch ∷ [])
            (right_append tables s (kept_ballot x s) (kept_log x s) (batch ∷ []) p q (above_before (stamps_of (kept_log x s)) (stamps_of (batch ∷ [])) p.rising q.rising goes));
      }

  pub accepted_fits : (slot ≤ 4095) → LogFits setup.program.tables s (kept_ballot x s) (batch ∷ [])
      → ((slot == length (kept_log x s)) ≡ true → goes_on (stamps_of (kept_log x s)) (stamps_of (batch ∷ [])) ≡ true)
      → AcceptorFits setup (accepted x s slot batch)
  accepted_fits room alone goes = by_bool (λ b. ((slot == length (kept_log x s)) ≡ b)
      → AcceptorFits setup (cond b (with_kept x s (kept_ballot x s) (kept_log x s ++ batch ∷ [])) x)) (slot == length (kept_log x s))
      (λ t h. with_kept_fits setup x fits s is x.promised (kept_ballot x s) (kept_log x s ++ batch ∷ []) fits.promised (fits.each s is).ballot
      (appended (subst (λ k. k ≤ 4095) (true_same slot (length (kept_log x s)) h) room) alone (goes h)))
      (λ t h. fits) refl

  pub accepted_keeps : KeepsRunning setup x (accepted x s slot batch)
  accepted_keeps r f = by_bool (λ b. RunningFits setup (cond b (with_kept x s (kept_ballot x s) (kept_log x s ++ batch ∷ [])) x) r) (slot == length (kept_log x s))
      (λ t. with_kept_keeps setup x fits s is x.promised (kept_ballot x s) (kept_log x s ++ batch ∷ []) r longer f) (λ t. f)
    where
      longer : IsFront (kept_log x s ++ batch ∷ []) (log_at r.known s)
      longer =
          let front = f.known s is in
          record {
            within = omega (arith, length-append (kept_log x s) (batch ∷ []), front.within);
            is = front.is ∙ ap (λ l. batches_of l) (sym (take-append-le (length (log_at r.known s)) (kept_log x s) (batch ∷ []) front.within));
          }
