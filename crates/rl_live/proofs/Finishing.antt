-- From workers that have run to what a session gives back.
use Rattle.std.proofs.Common.{◌≡◌, ℕ, zero, suc, ◌*◌, ◌/◌, ◌^◌, ◌<◌, ◌≤◌, List, [], ◌∷◌, ◌++◌, length, map, replicate, sum, get_or, All, Some, None, ◌-◌, refl, sym, ap, ◌∙◌, subst, arith}
use Rattle.std.specs.Prelude.{slice_get, slice_index}
use Rattle.std.proofs.lemmas.List.{take_all}
use Rattle.std.proofs.lemmas.Nat.{div-add-mod'}
use Rattle.atomic_table.specs.Seated.{TableId}
use Rattle.rl_base.specs.declared.limit.TheConstants.{SLOTS}
use Rattle.std.specs.FinMap as finite
use Rattle.rl_tables.specs.Numbers.{sizes_of, place_of}
use Rattle.rl_txn.specs.declared.batch.Batch.{Batch}
use Rattle.rl_families.specs.Families.{AllRise, history}
use Rattle.rl_families.specs.Logs.{stamps_along, IsRising}
use Rattle.rl_families.specs.Streams.{log_at}
use Rattle.rl_paxos.specs.Acceptors.{Acceptor, kept_log, new_acceptor}
use Rattle.rl_paxos.specs.Logs as bytes
use Rattle.rl_script.specs.declared.script.Script.{Script}
use Rattle.rl_store.specs.Ends.{ClosedOf, EndsAfter}
use Rattle.rl_store.specs.Entries.{RowOf}
use Rattle.rl_store.specs.Layout.{stamp_at}
use Rattle.rl_store.specs.Opening.{opening_of, first_view}
use Rattle.rl_store.specs.Passes.{StoreOf, PassOf}
use Rattle.rl_store.specs.declared.view.View.{View}
use Rattle.rl_txn.specs.Serial.{rows_after}
use Rattle.rl_worker.specs.Stamping.{last_stamp}
use Rattle.rl_live.specs.declared.election.Led.{Led}
use Rattle.rl_live.specs.declared.run.LiveRun.{LiveRun}
use Rattle.rl_live.specs.declared.run.NodeRun.{NodeRun}
use Rattle.rl_live.specs.Decided.{OpensWithRows}
use Rattle.rl_live.specs.Elections.{HasLogs, HaveSameLogs, led_with, with_mark}
use Rattle.rl_live.specs.Ended.{HaveEnded, HasServed, WholeLogs, together}
use Rattle.rl_live.specs.Handing.{CanFinish, HasFinished, HasRun, IsFreshAfter, IsJoined, IsLive}
use Rattle.rl_live.specs.Reading.{KeepsRead}
use Rattle.rl_live.specs.Run.{acceptor_at, IsLogOf, IsNodeWith, IsServed, RunOk, without_stops}
use Rattle.rl_live.proofs.Ending.{as_long, served}
use Rattle.rl_live.proofs.Firsts.{map_long}
use Rattle.rl_live.proofs.Hands.{copies_long}

-- ---- the first election ----
pub map_copies : {A B : Type 0} (f : A → B) (n : ℕ) (x : A) → map f (replicate n x) ≡ replicate n (f x)
map_copies f zero x = refl
map_copies f (suc n) x = ap (λ z. f x ∷ z) (map_copies f n x)

all_of_copies : {X : Type 0} (P : X → Type 0) (n : ℕ) (x : X) → P x → All P (replicate n x)
all_of_copies P zero x p k d l = absurd (omega arith)
all_of_copies P (suc n) x p zero d l = p
all_of_copies P (suc n) x p (suc k) d l = all_of_copies P n x p k d (omega arith)

pub first_logs : (nodes streams : ℕ) → HaveSameLogs (replicate streams []) streams (replicate nodes (replicate streams (new_acceptor 1)))
first_logs nodes streams = record {
  streams_are = copies_long streams [];
  room = all_of_copies (λ (log : bytes.Log). length log < SLOTS) streams [] (omega arith);
  each = all_of_copies (HasLogs (replicate streams [])) nodes (replicate streams (new_acceptor 1)) (map_copies (λ a. kept_log a 1) streams (new_acceptor 1));
}

pub first_leds : (nodes streams : ℕ) (leds : List Led) → leds ≡ map (led_with 1 nodes) (map (with_mark 1) (replicate streams [])) → leds ≡ replicate streams (led_with 1 nodes (with_mark 1 []))
first_leds nodes streams leds e = e ∙ (ap (map (led_with 1 nodes)) (map_copies (with_mark 1) streams []) ∙ map_copies (led_with 1 nodes) streams (with_mark 1 []))

-- ---- the tries ----
pub parts_of_tries : (n t : ℕ) → n * (t / n) ≤ t
parts_of_tries n t = let a = div-add-mod' t n in let b : n * (t / n) ≡ t / n * n = grind arith in omega arith

pub enough_tries : (n m t have : ℕ) → m ≡ n → have ≡ t → n * (t / m) ≤ have
enough_tries n m t have e f = subst (λ k. n * (t / k) ≤ have) (sym e) (let a = parts_of_tries n t in omega arith)

pub fresh_none : (store : StoreOf) (tries total : ℕ) (pass : PassOf) → pass.table ≡ store.table → pass.view ≡ first_view total → IsFreshAfter store tries 0 pass pass
fresh_none store tries total pass own view = record {
  own = own;
  rest = ap (λ (v : View). v.attempt) view;
  none = ap (λ (v : View). v.items) view;
  left = omega arith;
  draws = refl;
}

-- ---- all are joined ----
pub has_run : (script : Script) (store : StoreOf) (progress : TableId) (tries total k : ℕ) (first start pass : PassOf) (rows : List (List Acceptor))
    → first.view ≡ first_view total → IsFreshAfter store tries k first start → k ≡ length script.lists → IsJoined script store progress tries k start pass rows → HasRun script store total pass rows
has_run script store progress tries total k first start pass rows view fresh many h = record {
  logs = h.logs;
  family = h.family;
  passes = h.passes;
  rows_are = h.rows_are;
  read = h.read;
  whole = subst (λ l. WholeLogs store.made.epoch 1 l h.family) (take_all k script.lists (omega arith)) h.whole;
  kept_are = h.kept;
  own = h.own;
  rest = h.rest;
  items = h.items ∙ ap (λ l. l ++ together h.passes) fresh.none;
  right_is =
      let a = h.right in
      let b = fresh.left in
      let c = fresh.draws in
      let d = ap (λ (v : View). v.draws) view in
      let e = ap (λ (v : View). v.tries) view in
      omega arith;
}

-- ---- and closed ----
module _ (script : Script) (store : StoreOf) (total : ℕ) (pass : PassOf) (rows : List (List Acceptor)) (live : IsLive script) (begun : 1 ≤ store.made.epoch) (few : store.made.epoch < 2 ^ 20)
    (opens : OpensWithRows script.schema script.rows store.made) (h : HasRun script store total pass rows) (words : List ℕ) (closed : List RowOf)
    (ends : EndsAfter (opening_of store.made) pass.view words closed) where
  abbrev pub ended : HaveEnded script.schema script.lists script.rows store.made.epoch h.family
  ended = record {
    made = store.made;
    view = pass.view;
    words = words;
    closed = closed;
    begun = begun;
    few = few;
    opens = opens;
    rest = h.rest;
    ends = ends;
    whole = h.whole;
    passes = h.passes;
    kept = h.kept_are;
    items = h.items;
  }

  pub has_served : HasServed script.schema script.lists script.rows store.made.epoch h.family ended
  has_served = served script.schema script.lists script.rows store.made.epoch h.family ended

  streams : length h.family ≡ script.workers
  streams = as_long store.made.epoch 1 script.lists h.family h.whole ∙ live.fits.one_list_each

  all_rise : (family : List (List Batch)) → ((worker : ℕ) → 1 ≤ worker → worker ≤ length family → IsLogOf store.made.epoch worker (log_at family worker)) → AllRise family
  all_rise family logs k d l = at (get_is family k d l) (logs (suc k) (omega arith) (omega arith)).rising
    where
      get_is : (xs : List (List Batch)) (i : ℕ) (b : List Batch) → i < length xs → get_or xs i [] ≡ get_or xs i b
      get_is [] i b m = absurd (omega arith)
      get_is (x ∷ xs) zero b m = refl
      get_is (x ∷ xs) (suc i) b m = get_is xs i b (omega arith)

      at : get_or family k [] ≡ get_or family k d → IsRising (stamps_along (get_or family (suc k - 1) [])) → IsRising (stamps_along (get_or family k d))
      at e r = subst (λ x. IsRising (stamps_along x)) e
          (subst (λ n. IsRising (stamps_along (get_or family n []))) (let q : suc k - 1 ≡ k = omega arith in q) r)

  pub can_finish : CanFinish script store.made.epoch h.logs h.family rows
  can_finish = record {
    rows_are = h.rows_are;
    read = h.read;
    few = (let a = streams in let b = live.fits.workers.1 in omega arith);
    rising = all_rise h.family has_served.logs;
    replays = has_served.replays;
  }

  each_node : (rows' : List (List Acceptor)) (nodes : List NodeRun) (family : List (List Batch)) → map (λ (n : NodeRun). n.acceptors) nodes ≡ replicate script.nodes (map (acceptor_at store.made.epoch) h.logs)
      → All (λ (n : NodeRun). n.map ≡ rows_after script.rows (history family)) nodes → All (IsNodeWith store.made.epoch h.logs (rows_after script.rows (history family))) nodes
  each_node rows' nodes family e maps = go nodes script.nodes e (λ k d l. maps k d l)
    where
      go : (ns : List NodeRun) (m : ℕ) → map (λ (n : NodeRun). n.acceptors) ns ≡ replicate m (map (acceptor_at store.made.epoch) h.logs)
          → All (λ (n : NodeRun). n.map ≡ rows_after script.rows (history family)) ns → All (IsNodeWith store.made.epoch h.logs (rows_after script.rows (history family))) ns
      go [] m q a k d l = absurd (omega arith)
      go (n ∷ ns) zero q a k d l = absurd (let x = q in cc)
      go (n ∷ ns) (suc m) q a zero d l = record { acceptors = (let x = q in cc); rows_are = a 0 n (omega arith) }
      go (n ∷ ns) (suc m) q a (suc k) d l = go ns m (let x = q in cc) (λ j b i. a (suc j) b (omega arith)) k d (omega arith)

  pub run_ok : (closedof : ClosedOf) (run : LiveRun) → store.made.epoch ≡ 1 → closedof.epoch ≡ store.made.epoch → closedof.words ≡ words → closedof.rows ≡ closed
      → length words ≡ length store.made.columns → length closed ≡ length store.made.columns
      → ((r : ℕ) → r < sum (sizes_of script.schema) → stamp_at store.made.words r ≡ 0) → HasFinished script h.family rows closedof run → RunOk (without_stops script) run
  run_ok closedof run first dated words_are rows_are many_words many_rows unwritten f =
      let items = f.items_are in
      record {
        epoch = store.made.epoch;
        begun = begun;
        few = omega arith;
        logs = h.logs;
        family = h.family;
        streams = streams;
        read = h.read;
        logs_are = has_served.logs;
        items_are = items;
        nodes = sym (map_long (λ (n : NodeRun). n.acceptors) run.nodes) ∙ (ap length (f.acceptors_are ∙ h.rows_are) ∙ copies_long script.nodes (map (acceptor_at store.made.epoch) h.logs));
        each_node = subst (λ l. All (IsNodeWith store.made.epoch h.logs (rows_after script.rows l)) run.nodes) (sym items) (each_node rows run.nodes h.family (f.acceptors_are ∙ h.rows_are) f.maps);
        closed_epoch = ap (λ (x : ClosedOf). x.epoch) f.closed_is ∙ dated;
        closed = record {
          many_words = ap (λ (x : ClosedOf). length x.words) f.closed_is ∙ (ap length words_are ∙ (many_words ∙ opens.records.records));
          many_rows = ap (λ (x : ClosedOf). length x.rows) f.closed_is ∙ (ap length rows_are ∙ (many_rows ∙ opens.records.records));
          words = λ r l.
              ap (λ (x : ClosedOf). 2 * (slice_index x.words r / 2)) f.closed_is ∙ (ap (λ w. 2 * (slice_index w r / 2)) words_are
              ∙ (ap (λ n. 2 * n) (has_served.store.stamp r l ∙ ap (λ n. last_stamp (sizes_of script.schema) r n (history h.family)) (unwritten r l))
              ∙ ap (λ i. 2 * last_stamp (sizes_of script.schema) r 0 i) (sym items)));
          rows_are = λ r l.
              ap (λ (x : ClosedOf). get_or x.rows r None) f.closed_is ∙ (ap (λ w. get_or w r None) rows_are
              ∙ (has_served.store.row r l ∙ ap (λ i. finite.get (rows_after script.rows i) (place_of (sizes_of script.schema) r)) (sym items)));
        };
      }

  pub is_served : (run : LiveRun) → run.items ≡ history h.family → IsServed script run.items
  is_served run items = subst (IsServed script) (sym items) record { serial = has_served.serial; in_lists = has_served.in_lists; whole = has_served.whole }

-- ---- the nodes ----
pub first_node : (n : ℕ) (x r : List Acceptor) (rows : List (List Acceptor)) → rows ≡ replicate n x → slice_get rows 0 ≡ Some r → r ≡ x
first_node zero x r [] e s = absurd (let q = s in grind arith)
first_node zero x r (y ∷ ys) e s = absurd (let q = e in cc)
first_node (suc n) x r [] e s = absurd (let q = s in grind arith)
first_node (suc n) x r (y ∷ ys) e s = (let a : y ≡ x = (let q = e in cc) in let b : y ≡ r = (let q = s in cc) in sym b ∙ a)

pub all_nodes : (script : Script) (epoch : ℕ) (logs : List bytes.Log) (family : List (List Batch)) (rows : List (List Acceptor)) → CanFinish script epoch logs family rows
    → All (λ (node : List Acceptor). (e : ℕ) × (ls : List bytes.Log) × KeepsRead e ls family node) rows
all_nodes script epoch logs family rows f =
    subst (All (λ (node : List Acceptor). (e : ℕ) × (ls : List bytes.Log) × KeepsRead e ls family node)) (sym f.rows_are)
    (all_of_copies (λ (node : List Acceptor). (e : ℕ) × (ls : List bytes.Log) × KeepsRead e ls family node) script.nodes (map (acceptor_at epoch) logs) (epoch, logs, record { acceptors_are = refl; read = f.read }))
