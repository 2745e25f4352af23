-- Where a replica stands, as it plays and as logs grow.
use Rattle.std.proofs.Common.{◌≡◌, ◌≢◌, ℕ, ◌+◌, ◌-◌, ◌<◌, ◌≤◌, List, [], ◌++◌, length, get_or, take, Option, Result, Ok, Err, refl, sym, ap, ◌∙◌, subst, arith, length-append}
use Rattle.std.specs.Prelude.{slice_index, slice_set, IfOk, OnErr, slice_get}
use Rattle.std.proofs.lemmas.List.{length-set, get_or-set_same, get_or-set_other, set-get_or, take-append-le}
use Rattle.rl_base.specs.Lists.{IsPrefix}
use Rattle.rl_txn.specs.declared.batch.Batch.{Batch}
use Rattle.rl_replay.specs.Entries.{Entry, entries, entries_of, entry_at}
use Rattle.rl_replay.specs.Cursors.{start, next_cursor, StandsBehind, IsEntryAt}
use Rattle.rl_replay.specs.Laws.{LongerLogsBegin}
use Rattle.rl_replay.specs.Replay.{Replaying, after_answer, entries_played, HasFailed}
use Rattle.rl_replay.specs.Standing.{StandingReplica, BeginsWithPlayed}
use Rattle.rl_replay.specs.Steps.{standing_after}
use Rattle.rl_replay.specs.declared.cursor.Cursor.{Cursor}
use Rattle.rl_replay.specs.declared.played.Played.{Played}
use Rattle.rl_replay.specs.declared.played.Played.TheVariants.{Applied, Passed, Above, Empty}
use Rattle.rl_base.specs.declared.memory.Memory.{Memory}
use Rattle.rl_replay.proofs.Walk.{entry_here}
use Rattle.rl_replay.proofs.Answering.{still}

-- in a larger log a cursor stands as it did
stands_on : (n : ℕ) (log more : List Batch) (c : Cursor) → IsPrefix log more → StandsBehind n log c → StandsBehind n more c
stands_on n log more c p h = record {
  within = subst (λ z. c.batch ≤ length z) p.1 (omega (arith, length-append log p.0, h.within));
  counts = ap (λ z. length (entries (take c.batch z)) + c.index) (sym p.1)
      ∙ (let w = h.within in ap (λ z. length (entries z) + c.index) (take-append-le c.batch log p.0 w)) ∙ h.counts;
}

pub longer_logs_begin : LongerLogsBegin
longer_logs_begin r s known longer p h = record {
  has = h.has;
  stands = stands_on (slice_index r.replaying.played (s - 1)) known longer (get_or r.cursors (s - 1) start) p h.stands;
}

-- where no count and no cursor has changed
begins_still : (r t : StandingReplica) (s : ℕ) (log : List Batch) → t.replaying.played ≡ r.replaying.played → t.cursors ≡ r.cursors → BeginsWithPlayed r s log → BeginsWithPlayed t s log
begins_still r t s log p c h = record {
  has = subst (λ z. s - 1 < length z) (sym c) h.has;
  stands = subst (λ z. StandsBehind (slice_index z (s - 1)) log (get_or t.cursors (s - 1) start)) (sym p)
      (subst (λ z. StandsBehind (slice_index r.replaying.played (s - 1)) log (get_or z (s - 1) start)) (sym c) h.stands);
}

-- behind the next entry
begins_here : (r t : StandingReplica) (s : ℕ) (log : List Batch) (c : Cursor) → t.replaying.played ≡ slice_set r.replaying.played (s - 1) (slice_index r.replaying.played (s - 1) + 1) → t.cursors ≡ slice_set r.cursors (s - 1) c
    → s - 1 < length r.replaying.played → s - 1 < length r.cursors → StandsBehind (slice_index r.replaying.played (s - 1) + 1) log c → BeginsWithPlayed t s log
begins_here r t s log c p q l m h = record {
  has = subst (λ z. s - 1 < length z) (sym q) (omega (arith, length-set r.cursors (s - 1) c));
  stands = subst (λ z. StandsBehind z log (get_or t.cursors (s - 1) start)) (sym (ap (λ z. slice_index z (s - 1)) p ∙ get_or-set_same r.replaying.played (s - 1) (slice_index r.replaying.played (s - 1) + 1) 0 l))
      (subst (λ z. StandsBehind (slice_index r.replaying.played (s - 1) + 1) log z) (sym (ap (λ z. get_or z (s - 1) start) q ∙ get_or-set_same r.cursors (s - 1) c start m)) h);
}

-- and another stream stays
begins_other : (r t : StandingReplica) (s : ℕ) (c : Cursor) (o : ℕ) (log : List Batch) → t.replaying.played ≡ slice_set r.replaying.played (s - 1) (slice_index r.replaying.played (s - 1) + 1) → t.cursors ≡ slice_set r.cursors (s - 1) c
    → o ≢ s → 1 ≤ o → 1 ≤ s → BeginsWithPlayed r o log → BeginsWithPlayed t o log
begins_other r t s c o log p q n lo ls h =
    let ne : o - 1 ≢ s - 1 = apart o s n lo ls in
    record {
      has = subst (λ z. o - 1 < length z) (sym q) (let k = h.has in omega (arith, length-set r.cursors (s - 1) c));
      stands = subst (λ z. StandsBehind z log (get_or t.cursors (o - 1) start)) (sym (ap (λ z. slice_index z (o - 1)) p ∙ get_or-set_other r.replaying.played (s - 1) (o - 1) (slice_index r.replaying.played (s - 1) + 1) 0 ne))
          (subst (λ z. StandsBehind (slice_index r.replaying.played (o - 1)) log z) (sym (ap (λ z. get_or z (o - 1) start) q ∙ get_or-set_other r.cursors (s - 1) (o - 1) c start ne)) h.stands);
    }
  where
    apart : (a b : ℕ) → a ≢ b → 1 ≤ a → 1 ≤ b → a - 1 ≢ b - 1
    apart a b n p q e = n (omega arith)

-- the entry at a cursor, by its number, and the cursor behind it
pub found_entry : (log : List Batch) (n : ℕ) (b : Batch) (c : Cursor) → IsEntryAt log n b c → slice_get (entries_of b) c.index ≡ entry_at log n
found_entry log n b c h = entry_here log c.batch b c.index h.has h.index ∙ ap (slice_get (entries log)) (let k = h.counts in omega arith)

pub behind_found : (log : List Batch) (n : ℕ) (b : Batch) (c : Cursor) → c.batch ≤ length log → IsEntryAt log n b c → StandsBehind (n + 1) log (next_cursor c)
behind_found log n b c w h = record { within = w; counts = (let k = h.counts in omega arith) }

-- ---- after a play ----
unmoved : (r : Replaying) (s : ℕ) → slice_set r.played (s - 1) (slice_index r.played (s - 1) + 0) ≡ r.played
unmoved r s = let none : slice_index r.played (s - 1) + 0 ≡ slice_index r.played (s - 1) = omega arith in ap (slice_set r.played (s - 1)) none ∙ set-get_or r.played (s - 1) 0

-- an answer that adds nothing and goes no step
pub stands_still : (r : StandingReplica) (s : ℕ) → r ≡ record { replaying = record { applied = r.replaying.applied ++ []; played = slice_set r.replaying.played (s - 1) (slice_index r.replaying.played (s - 1) + 0); rows = r.replaying.rows; failed = r.replaying.failed }; cursors = r.cursors }
stands_still r s = let make : Replaying → StandingReplica = λ z. record { replaying = z; cursors = r.cursors } in ap make (still r.replaying s)

module _ (old : StandingReplica) (s : ℕ) (known : List Batch) (c : Cursor) (low : 1 ≤ s) (high : s ≤ length old.replaying.played) (b : BeginsWithPlayed old s known) where
  begins_answered : (next : Option Entry) (p : Played) → StandsBehind (slice_index old.replaying.played (s - 1) + 1) known c → BeginsWithPlayed (standing_after old s next p c) s known
  begins_answered next (Applied t) behind = begins_here old (standing_after old s next (Applied t) c) s known c refl refl (omega arith) b.has behind
  begins_answered next (Passed t) behind = begins_here old (standing_after old s next (Passed t) c) s known c refl refl (omega arith) b.has behind
  begins_answered next (Above t w) behind = begins_still old (standing_after old s next (Above t w) c) s known (unmoved old.replaying s) refl b
  begins_answered next Empty behind = begins_still old (standing_after old s next Empty c) s known (unmoved old.replaying s) refl b

  others_answered : (next : Option Entry) (p : Played) (o : ℕ) (log : List Batch) → o ≢ s → 1 ≤ o → BeginsWithPlayed old o log → BeginsWithPlayed (standing_after old s next p c) o log
  others_answered next (Applied t) o log n lo h = begins_other old (standing_after old s next (Applied t) c) s c o log refl refl n lo low h
  others_answered next (Passed t) o log n lo h = begins_other old (standing_after old s next (Passed t) c) s c o log refl refl n lo low h
  others_answered next (Above t w) o log n lo h = begins_still old (standing_after old s next (Above t w) c) o log (unmoved old.replaying s) refl h
  others_answered next Empty o log n lo h = begins_still old (standing_after old s next Empty c) o log (unmoved old.replaying s) refl h

  module _ (new : StandingReplica) (next : Option Entry) (p : Played) where
    pub begins_after : (result : Result Played Memory) → IfOk result (λ p. new ≡ standing_after old s next p c) → OnErr result (HasFailed p next old.replaying new.replaying) → OnErr result (new.cursors ≡ old.cursors)
        → StandsBehind (slice_index old.replaying.played (s - 1) + 1) known c → BeginsWithPlayed new s known
    begins_after (Ok q) e f k behind = subst (λ z. BeginsWithPlayed z s known) (sym e) (begins_answered next q behind)
    begins_after (Err m) e f k behind = begins_still old new s known f.played k b

    pub others_after : (result : Result Played Memory) → IfOk result (λ p. new ≡ standing_after old s next p c) → OnErr result (HasFailed p next old.replaying new.replaying) → OnErr result (new.cursors ≡ old.cursors)
        → (o : ℕ) (log : List Batch) → o ≢ s → 1 ≤ o → BeginsWithPlayed old o log → BeginsWithPlayed new o log
    others_after (Ok q) e f k o log n lo h = subst (λ z. BeginsWithPlayed z o log) (sym e) (others_answered next q o log n lo h)
    others_after (Err m) e f k o log n lo h = begins_still old new o log f.played k h

-- what the replica has of the streams then, without its cursors
pub replaying_after : (result : Result Played Memory) (old new : StandingReplica) (s : ℕ) (next : Option Entry) (c : Cursor) → IfOk result (λ p. new ≡ standing_after old s next p c)
    → IfOk result (λ p. new.replaying ≡ after_answer old.replaying s next p)
replaying_after (Ok p) old new s next c e = ap (λ (r : StandingReplica). r.replaying) e
replaying_after (Err m) old new s next c e = e

-- a play leaves the number of streams
pub streams_after : (result : Result Played Memory) (old new : Replaying) (s : ℕ) (next : Option Entry) (p : Played) → IfOk result (λ p. new ≡ after_answer old s next p) → OnErr result (HasFailed p next old new)
    → length new.played ≡ length old.played
streams_after (Ok p) old new s next q e f = ap (λ (r : Replaying). length r.played) e ∙ length-set old.played (s - 1) (slice_index old.played (s - 1) + entries_played p)
streams_after (Err m) old new s next q e f = ap length f.played
