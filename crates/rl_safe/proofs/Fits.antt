-- Each epoch's core opens with rows that fit and records of earlier epochs.
use Rattle.std.proofs.Common.{◌≡◌, ℕ, zero, suc, ◌+◌, ◌*◌, ◌^◌, ◌<◌, List, [], ◌∷◌, ◌++◌, length, get_or, Option, IsSomeAnd, Some, None, All, sym, subst, arith, inl, inr}
use Rattle.std.proofs.lemmas.Bool.{cases_lt}
use Rattle.std.proofs.lemmas.List.{get_or_past}
use Rattle.rl_base.specs.Stamps.{packed}
use Rattle.rl_base.proofs.Members.{In, all_in}
use Rattle.rl_tables.specs.Numbers.{sizes_of}
use Rattle.rl_txn.specs.declared.batch.Batch.{Batch}
use Rattle.rl_txn.specs.declared.item.Item.{Item}
use Rattle.rl_txn.specs.declared.op.Op.{Op}
use Rattle.rl_txn.specs.Fits.{AnswerFits, ItemFits, ItemWritesFit}
use Rattle.rl_txn.specs.Serial.{rows_after, request_of}
use Rattle.rl_txn.specs.Words.{ItemHasWords, RowsHaveWords}
use Rattle.rl_election.specs.World.{Term}
use Rattle.rl_families.specs.Leaders.{Leaders, open_mark}
use Rattle.rl_families.specs.Logs.{items_along}
use Rattle.rl_families.proofs.Logs.{split_items}
use Rattle.rl_families.proofs.Streams.{Member, in_history}
use Rattle.rl_worker.specs.Acts.{Turn}
use Rattle.rl_worker.specs.Opening.{CoreFits, items_seen}
use Rattle.rl_worker.specs.OneTurn.{SeenInRange}
use Rattle.rl_worker.specs.Stamping.{opening_stamps}
use Rattle.rl_nodes.specs.Setups.{Setup, SetupFits}
use Rattle.rl_safe.proofs.Below.{Below}
use Rattle.rl_safe.proofs.Listed.{all_from}
use Rattle.rl_safe.proofs.Accounts.{Account, carried_in, recovered_of, opening_of, leader_of, core_of, decided_of, leaders_of}
use Rattle.rl_safe.proofs.Origins.{Recovers, item_from}

-- what an item is that some epoch decided
pub record ItemOk (setup : Setup) (e : ℕ) (x : Item) : Type 0 where
  pub epoch : x.stamp.epoch ≡ e
  pub seq : x.stamp.seq < 2 ^ 40
  pub fits : ItemWritesFit setup.program.tables x
  pub words : ItemHasWords x

-- the core of an epoch that recovered these opens with what fits
pub record Good (setup : Setup) (e : ℕ) (recovered : ℕ → List Batch) : Type 0 where
  pub fits : CoreFits (leader_of setup e recovered)
  pub words : RowsHaveWords (rows_after setup.program.rows (opening_of setup e recovered))

writes_fit : (setup : Setup) (x : Item) → ItemFits setup.program.tables setup.program.lists x → ItemWritesFit setup.program.tables x
writes_fit setup x h = by_request (request_of setup.program.lists x) h
  where
    by_request : (o : Option (List Op)) → IsSomeAnd o (λ txn. AnswerFits setup.program.tables txn x.reply x.writes) → ItemWritesFit setup.program.tables x
    by_request None h = absurd h
    by_request (Some txn) h = h.fit

module _ (b : Below) (setup : Setup) (sized : SetupFits setup) (e : ℕ) (recovered : ℕ → List Batch) (g : Good setup e recovered) (turns : List Turn) where
  abbrev decided : List Item
  decided = items_seen e (core_of setup e recovered turns).decided

  pub seen_at : (x : Item) → In x decided → SeenInRange (leader_of setup e recovered) x
  seen_at x i = all_in (SeenInRange (leader_of setup e recovered)) decided (b.items_in_range (leader_of setup e recovered) turns g.fits) x i

  pub words_at : (x : Item) → In x decided → ItemHasWords x
  words_at x i = all_in ItemHasWords decided
      (b.items_words setup.program.tables setup.program.lists (rows_after setup.program.rows (opening_of setup e recovered)) decided sized.lists_fit g.words
      (b.serially (leader_of setup e recovered) turns g.fits).runs) x i

  item_ok : (x : Item) → In x decided → ItemOk setup e x
  item_ok x i =
      let seen = seen_at x i in
      record {
        epoch = seen.epoch;
        seq = let high = seen.seq_high in omega (arith, high);
        fits = writes_fit setup x seen.fits;
        words = words_at x i;
      }

below_bound : (e f q p : ℕ) → f < e → q < 2 ^ 40 → p ≡ f → p * 2 ^ 40 + q < e * 2 ^ 40
below_bound e f q p less small same = omega (arith, less, small, same)

stamp_below : (e : ℕ) → 0 < e → (stamps : List ℕ) → All (λ n. n < e * 2 ^ 40) stamps → (r : ℕ) → get_or stamps r 0 < e * 2 ^ 40
stamp_below e h stamps all r = elim (cases_lt r (length stamps)) [
  | inl l ↦ all r 0 l
  | inr m ↦ subst (λ n. n < e * 2 ^ 40) (sym (get_or_past stamps r 0 m)) (omega (arith, h))
]

pub decided_ok : (b : Below) (setup : Setup) (sized : SetupFits setup) (e : ℕ) (o : Option Term) (account : Account)
    → Good setup e (recovered_of setup o) → (x : Item) → In x (decided_of setup e o account) → ItemOk setup e x
decided_ok b setup sized e None account g x i = absurd i
decided_ok b setup sized e (Some t) account g x i = item_ok b setup sized e (carried_in setup t.initial) g account.turns x i

module _ (b : Below) (setup : Setup) (sized : SetupFits setup) (terms : ℕ → Option Term) (accounts : ℕ → Account) where
  abbrev all : Leaders
  all = leaders_of setup terms accounts

  abbrev opening_at : ℕ → List Item
  opening_at e = opening_of setup e (recovered_of setup (terms e))

  module _ (recovers : Recovers all) (proposes : (e s : ℕ) (x : Item) → In x (items_along (all.proposed e s)) → In x (all.decided e)) where
    -- an item of an opening list was decided at an earlier epoch
    pub before : (e : ℕ) → 0 < e → (x : Item) → In x (opening_at e) → (f : ℕ) × (0 < f) × (f < e) × In x (all.decided f)
    before e h x i =
        let m : Member setup.workers (λ s. all.recovered e s ++ open_mark e ∷ []) x = in_history setup.workers (λ s. all.recovered e s ++ open_mark e ∷ []) x i in
        elim (split_items x (all.recovered e m.stream) (open_mark e ∷ []) m.has) [
          | inl j ↦ (let k = item_from all recovers e m.stream h x j in (k.0, k.1, k.2, proposes k.0 m.stream x k.3))
          | inr j ↦ absurd j
        ]

    good_up : (bound e : ℕ) → e < bound → 0 < e → Good setup e (recovered_of setup (terms e))
    good_up zero e less h = absurd (omega (arith, less))
    good_up (suc bound) e less h =
        let ok : (x : Item) → In x (opening_at e) → (f : ℕ) × (f < e) × ItemOk setup f x = λ x i.
        (let k = before e h x i in
        (k.0, k.2, decided_ok b setup sized k.0 (terms k.0) (accounts k.0) (good_up bound k.0 (omega (arith, less, k.2)) k.1) x k.3)) in
        record {
          fits = record {
            schema = sized.schema;
            lists_fit = sized.lists_fit;
            rows_fit = b.rows_fit setup.program.tables setup.program.rows (opening_at e) sized.rows_fit
                (all_from (ItemWritesFit setup.program.tables) (opening_at e) (λ x i. (ok x i).2.fits));
            earlier = stamp_below e h (opening_stamps (sizes_of setup.program.tables) (opening_at e))
                (b.early (sizes_of setup.program.tables) (opening_at e) (e * 2 ^ 40) (omega (arith, h))
                (all_from (λ (x : Item). packed x.stamp < e * 2 ^ 40) (opening_at e)
                (λ x i. let k = ok x i in below_bound e k.0 x.stamp.seq x.stamp.epoch k.1 k.2.seq k.2.epoch)));
          };
          words = b.rows_words setup.program.rows (opening_at e) sized.words
              (all_from ItemHasWords (opening_at e) (λ x i. (ok x i).2.words));
        }

    pub good : (e : ℕ) → 0 < e → Good setup e (recovered_of setup (terms e))
    good e h = good_up (suc e) e (omega arith) h
