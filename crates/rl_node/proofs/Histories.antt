-- The history of what a leader keeps as acknowledged: it is the definition's, and an epoch may open with it.
use Rattle.std.proofs.Common.{◌≡◌, ℕ, suc, ◌+◌, ◌-◌, ◌*◌, ◌^◌, ◌<◌, ◌≤◌, List, [], ◌∷◌, length, take, drop, map, filter, get_or, Bool, true, false, if◌then◌else◌, Option, refl, sym, ap, ◌∙◌, subst, arith, inl, inr, length-append}
use Rattle.std.specs.List.{flat_map}
use Rattle.std.proofs.lemmas.List.{length-map, get_or-map, get_or_default, same_lists, take-append-drop, length-take}
use Rattle.std.proofs.lemmas.List.Sums.{AllPass-from_list_all}
use Rattle.rl_base.specs.Order.{is_below}
use Rattle.rl_base.specs.declared.limit.TheConstants.{SLOTS}
use Rattle.rl_base.proofs.Members.{In, in_contains, in_prefix, all_in, in_filter}
use Rattle.rl_batch.specs.declared.item.TheConstants.{BATCH_ITEMS}
use Rattle.rl_election.specs.World.{no_stream}
use Rattle.rl_families.specs.Families.{history, is_counted}
use Rattle.rl_families.specs.Logs.{items_along}
use Rattle.rl_families.specs.Order.{insert_by_stamp, in_order}
use Rattle.rl_families.proofs.Sorting.{in_in_order}
use Rattle.rl_families.proofs.Streams.{in_logs}
use Rattle.rl_paxos.specs.Leaders.{Leading}
use Rattle.rl_txn.specs.Fits.{ItemWritesFit}
use Rattle.rl_txn.specs.declared.batch.Batch.{Batch}
use Rattle.rl_txn.specs.declared.item.Item.{Item}
use Rattle.rl_worker.specs.Acts.{Core}
use Rattle.rl_nodes.specs.BadMessages.{write_fits}
use Rattle.rl_nodes.specs.Batches.{batches_of}
use Rattle.rl_nodes.specs.Nodes.{len_acknowledged, acknowledged_log, acknowledged_history}
use Rattle.rl_nodes.specs.Setups.{Setup, SetupFits}
use Rattle.rl_nodes.proofs.Telling.{tests_tell}
use Rattle.rl_node.specs.Fits.{IsStream, LeadFits}
use Rattle.rl_node.specs.Leading.{stream_of}
use Rattle.rl_node.specs.Opening.{MayOpen}
use Rattle.rl_node.specs.Standing.{HasNotOpened, lead_with}
use Rattle.rl_node.specs.declared.part.Lead as leads
use Rattle.rl_node.proofs.Decoded.{seqs_along, few_along}
use Rattle.rl_node.proofs.Keeps.{all_from}
use Rattle.rl_node.proofs.Logs.{items_of, items_of-append, is_right}

-- ---- how many items a history has ----

insert_length : (x : Item) (ys : List Item) → length (insert_by_stamp x ys) ≡ suc (length ys)
insert_length x [] = refl
insert_length x (y ∷ ys) = by_if (is_below y.stamp x.stamp) (insert_length x ys)
  where
    by_if : (b : Bool) → length (insert_by_stamp x ys) ≡ suc (length ys)
        → length (if b then y ∷ insert_by_stamp x ys else x ∷ y ∷ ys) ≡ suc (length (y ∷ ys))
    by_if true e = ap suc e
    by_if false e = refl

order_length : (xs : List Item) → length (in_order xs) ≡ length xs
order_length [] = refl
order_length (x ∷ xs) = insert_length x (in_order xs) ∙ ap suc (order_length xs)

pub filter_length : (f : Item → Bool) (xs : List Item) → length (filter f xs) ≤ length xs
filter_length f [] = omega arith
filter_length f (x ∷ xs) = by_if (f x) (filter_length f xs)
  where
    by_if : (b : Bool) → length (filter f xs) ≤ length xs → length (if b then x ∷ filter f xs else filter f xs) ≤ length (x ∷ xs)
    by_if true l = omega (arith, l)
    by_if false l = omega (arith, l)

-- where each log has so many
along_length : (logs : List (List Batch)) → ((log : List Batch) → In log logs → length (items_along log) ≤ BATCH_ITEMS * SLOTS)
    → length (flat_map items_along logs) ≤ BATCH_ITEMS * SLOTS * length logs
along_length [] h = omega arith
along_length (log ∷ logs) h =
    let here = h log (inl refl) in
    let rest = along_length logs (λ z i. h z (inr i)) in omega (arith, here, rest, length-append (items_along log) (flat_map items_along logs))

pub history_length : (family : List (List Batch)) → ((log : List Batch) → In log family → length (items_along log) ≤ BATCH_ITEMS * SLOTS)
    → length (history family) ≤ BATCH_ITEMS * SLOTS * length family
history_length family h =
    let all = flat_map items_along family in
    let counted = filter (λ (x : Item). is_counted family x.stamp) all in
    let a = order_length counted in
    let b = filter_length (λ (x : Item). is_counted family x.stamp) all in
    let c = along_length family h in omega (arith, a, b, c)

-- where an item of a history is
pub in_some_log : (family : List (List Batch)) (x : Item) → In x (history family) → (log : List Batch) × In log family × In x (items_along log)
in_some_log family x i =
    let all = flat_map items_along family in
    let counted = filter (λ (y : Item). is_counted family y.stamp) all in
    in_logs x family (in_filter (λ (y : Item). is_counted family y.stamp) x all (in_in_order x counted i)).0

-- ---- what a leader keeps as acknowledged ----

module _ (setup : Setup) (l : leads.Lead) (fits : LeadFits setup l) where
  abbrev acked : Leading → List Batch
  acked x = batches_of (acknowledged_log x)

  at_place : (k : ℕ) → k < setup.workers → get_or l.acknowledged k [] ≡ acked (get_or l.streams.items k no_stream)
  at_place k less = subst (λ n. get_or l.acknowledged n [] ≡ acked (get_or l.streams.items n no_stream)) (let same : k + 1 - 1 ≡ k = omega arith in same)
      (fits.acknowledged (k + 1) (omega arith, omega (arith, less)))

  -- it is the definition's family
  pub family_is : l.acknowledged ≡ map (λ stream. batches_of (acknowledged_log stream)) l.streams.items
  family_is = same_lists l.acknowledged (map acked l.streams.items)
      (fits.acknowledged_streams ∙ sym fits.streams ∙ sym (length-map l.streams.items acked))
      (λ k d less.
      let inside : k < setup.workers = (let size = fits.acknowledged_streams in omega (arith, less, size)) in
      get_or_default l.acknowledged k d [] less ∙ at_place k inside
      ∙ sym (get_or-map acked l.streams.items k no_stream d (let size = fits.streams in omega (arith, inside, size))))

  pub history_is : (core : Option Core) → history l.acknowledged ≡ acknowledged_history (lead_with l core)
  history_is core = ap history family_is

  -- each of its logs is a front of a stream's
  pub log_is : (log : List Batch) → In log l.acknowledged → (s : ℕ) × IsStream setup s × (log ≡ acked (stream_of l s))
  log_is log i =
      let c = in_contains l.acknowledged log i in
      let inside : c.0 < setup.workers = (let size = fits.acknowledged_streams in let less = c.1 in omega (arith, less, size)) in (
        c.0 + 1,
        (omega arith, omega (arith, inside)),
        sym c.2 ∙ get_or_default l.acknowledged c.0 log [] c.1 ∙ at_place c.0 inside
            ∙ ap (λ n. acked (get_or l.streams.items n no_stream)) (let same : c.0 ≡ c.0 + 1 - 1 = omega arith in same),
      )

  few_in : (log : List Batch) → In log l.acknowledged → length (items_along log) ≤ BATCH_ITEMS * SLOTS
  few_in log i =
      let at = log_is log i in
      let x = stream_of l at.0 in
      let most = (fits.each at.0 at.1).log.in_range.few in
      let front = length-take (len_acknowledged x) x.log in
      let few = few_along (acknowledged_log x) in
      subst (λ z. length (items_along z) ≤ BATCH_ITEMS * SLOTS) (sym at.2) (omega (arith, most, front, few))

  -- an item of the history is along the log of a stream
  pub item_at : (x : Item) → In x (history l.acknowledged) → (s : ℕ) × IsStream setup s × In x (items_of (stream_of l s).log)
  item_at x i =
      let a = in_some_log l.acknowledged x i in
      let b = log_is a.0 a.1 in
      let stream = stream_of l b.0 in
      let n = len_acknowledged stream in (
        b.0,
        b.1,
        subst (λ z. In x (items_of z)) (take-append-drop n stream.log)
            (subst (In x) (sym (items_of-append (take n stream.log) (drop n stream.log)))
            (in_prefix (items_of (take n stream.log)) (items_of (drop n stream.log)) x (subst (λ z. In x (items_along z)) b.2 a.2))),
      )

  -- an epoch may open with it
  module _ (sized : SetupFits setup) (begun : HasNotOpened setup l) where
    earlier : (x : Item) → In x (history l.acknowledged) → x.stamp.epoch < l.epoch
    earlier x i =
        let a = item_at x i in
        all_in (λ (y : Item). y.stamp.epoch < l.epoch) (items_of (stream_of l a.0).log) (begun.begun a.0 a.1).items x a.2

    in_range : (x : Item) → In x (history l.acknowledged) → (x.stamp.epoch < 2 ^ 20) × (x.stamp.seq < 2 ^ 40)
    in_range x i =
        let a = item_at x i in
        let low = earlier x i in
        let high = fits.epoch.high in (omega (arith, low, high), seqs_along (stream_of l a.0).log x a.2)

    pub may_open : MayOpen setup l.epoch (history l.acknowledged)
    may_open = record {
      few = (let most = history_length l.acknowledged few_in in let size = fits.acknowledged_streams in let workers = sized.few_workers in
          omega (arith, most, size, workers));
      earlier = all_from (λ (x : Item). x.stamp.epoch < l.epoch) (history l.acknowledged) earlier;
      stamps = all_from (λ (x : Item). (x.stamp.epoch < 2 ^ 20) × (x.stamp.seq < 2 ^ 40)) (history l.acknowledged) in_range;
      fit = all_from (ItemWritesFit setup.program.tables) (history l.acknowledged) (λ x i. let a = item_at x i in
          let right = is_right setup.program.tables a.0 l.epoch (stream_of l a.0).log (fits.each a.0 a.1).log.right in
          λ k d less. (tests_tell.fits setup.program.tables (get_or x.writes k d)).0
          (AllPass-from_list_all (write_fits setup.program.tables) x.writes (right.fits x a.2) k d less));
    }
