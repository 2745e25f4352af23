-- Workers that are handed what they need.
use Rattle.std.proofs.Common.{◌≡◌, ℕ, zero, suc, ◌+◌, ◌*◌, ◌-◌, ◌<◌, ◌≤◌, List, [], ◌∷◌, ◌++◌, length, map, replicate, get_or, All, Some, refl, sym, ap, ◌∙◌, subst, arith}
use Rattle.std.specs.Prelude.{slice_get}
use Rattle.std.specs.List.{range_with_len}
use Rattle.atomic_table.specs.Seated.{TableId}
use Rattle.rl_base.specs.declared.limit.TheConstants.{SLOTS}
use Rattle.rl_paxos.specs.Acceptors.{Acceptor}
use Rattle.rl_paxos.specs.Leaders.{Leading}
use Rattle.rl_progress.specs.Seats.{SeatOf}
use Rattle.rl_script.specs.declared.script.Script.{Script}
use Rattle.rl_store.specs.Passes.{StoreOf, PassOf}
use Rattle.rl_store.specs.Views.{split_left, split_right}
use Rattle.rl_store.specs.declared.view.View.{View}
use Rattle.rl_txn.specs.Fits.{ListsFit}
use Rattle.rl_txn.specs.Serial.{numbered}
use Rattle.rl_txn.specs.declared.op.Op.{Op}
use Rattle.rl_live.specs.declared.election.Led.{Led}
use Rattle.rl_live.specs.declared.worker.Worker.{Worker}
use Rattle.rl_live.specs.Elections.{led_with, with_mark}
use Rattle.rl_live.specs.Handing.{AllFrom, IsFreshAfter, IsReadyAs, IsStage, seat_of}
use Rattle.rl_live.specs.Run.{acceptor_at}
use Rattle.rl_live.specs.Workers.{AllHave}
use Rattle.rl_live.proofs.Adopting.{led_log, led_epoch, led_acceptors}

short_at : (lists : List (List (List Op))) (n : ℕ) (list : List (List Op)) → All (λ (l : List (List Op)). length l + 2 ≤ SLOTS) lists → numbered lists n ≡ Some list → length list + 2 ≤ SLOTS
short_at lists zero list h e = absurd (let x = e in grind arith)
short_at lists (suc k) list h e = go lists k (λ j d l. h j d l) e
  where
    go : (ls : List (List (List Op))) (j : ℕ) → All (λ (l : List (List Op)). length l + 2 ≤ SLOTS) ls → slice_get ls j ≡ Some list → length list + 2 ≤ SLOTS
    go [] j g q = absurd (let x = q in grind arith)
    go (m ∷ ms) zero g q = subst (λ (l : List (List Op)). length l + 2 ≤ SLOTS) (let x = q in cc) (g 0 m (omega arith))
    go (m ∷ ms) (suc j) g q = go ms j (λ i d l. g (suc i) d (omega arith)) q

all_copies : {X : Type 0} (n : ℕ) (x : X) → All (λ a. a ≡ x) (replicate n x)
all_copies zero x k d l = absurd (omega arith)
all_copies (suc n) x zero d l = refl
all_copies (suc n) x (suc k) d l = all_copies n x k d (omega arith)

pub copies_long : {X : Type 0} (n : ℕ) (x : X) → length (replicate n x) ≡ n
copies_long zero x = refl
copies_long (suc n) x = ap (λ k. suc k) (copies_long n x)

module _ (script : Script) (store : StoreOf) (progress : TableId) (tries : ℕ) (stage : IsStage script store) where
  pub ready_of : (n s : ℕ) (w : Worker) (led : Led) (v : View) → 1 ≤ n → n ≤ script.workers
      → w.number ≡ n → w.lists.now ≡ script.lists → w.batch ≡ script.batch → w.pass.table ≡ store.table → w.pass.view ≡ split_right tries v
      → led ≡ led_with store.made.epoch script.nodes (with_mark store.made.epoch []) → w.stream ≡ led.stream → w.acceptors ≡ led.acceptors → w.seat ≡ seat_of progress s
      → IsReadyAs script store progress tries n w
  ready_of n s w led v low high number lists batch table view is stream acceptors seat =
      let e = store.made.epoch in
      let mark = with_mark e [] in
      let f = stage.live.fits in
      let log : w.stream.log ≡ mark = ap (λ (x : Leading). x.log) stream ∙ (ap (λ (x : Led). x.stream.log) is ∙ led_log e script.nodes mark) in
      let dated : w.stream.epoch ≡ e = ap (λ (x : Leading). x.epoch) stream ∙ (ap (λ (x : Led). x.stream.epoch) is ∙ led_epoch e script.nodes mark) in
      let kept : w.acceptors ≡ replicate script.nodes (acceptor_at e mark) = acceptors ∙ (ap (λ (x : Led). x.acceptors) is ∙ led_acceptors e script.nodes mark) in
      let nodes : length w.acceptors ≡ script.nodes = ap length kept ∙ copies_long script.nodes (acceptor_at e mark) in
      let many = f.one_list_each in
      let lists_long = ap length lists in
      let each = f.batch in
      let few = f.nodes in
      record {
        set_up = record {
          schema = f.tables;
          lists_fit = subst (λ l. ListsFit script.schema l) (sym lists) f.lists;
          store_is = stage.store_is;
          begun = stage.begun;
          number = (omega arith, omega arith);
          some = (let a = each.0 in omega arith);
          few = (let a = each.1 in omega arith);
          own = table;
          rest = ap (λ (x : View). x.attempt) view;
          none = ap (λ (x : View). x.items) view;
          leads = dated;
          have = subst (λ l. AllHave e l w.acceptors) (sym log) (subst (λ (ys : List Acceptor). AllHave e mark ys) (sym kept) (all_copies script.nodes (acceptor_at e mark)));
          few_nodes = (let a = few.1 in omega arith);
          room = λ list q. (let a = short_at script.lists n list stage.live.short (subst (λ m. numbered script.lists m ≡ Some list) number (subst (λ l. numbered l w.number ≡ Some list) lists q)) in let b = ap length log in omega arith);
          seated = ap (λ (x : SeatOf). x.table) seat;
          publishes = subst (λ (x : SeatOf). x.view.end ≡ x.view.first + 1) (sym seat) refl;
          nothing = subst (λ (x : SeatOf). x.view.last ≡ 0) (sym seat) refl;
        };
        lists_are = lists;
        few_epochs = stage.few;
        numbered_as = number;
        log_is = log;
        nodes = nodes;
        right = (let a = ap (λ (x : View). x.draws) view in let b = ap (λ (x : View). x.tries) view in omega arith);
      }

  -- ---- the pass ----
  more_tries : (k t : ℕ) → (k + 1) * t ≡ k * t + t
  more_tries k t = grind arith

  pub fresh_more : (k : ℕ) (start pass pass' : PassOf) → IsFreshAfter store tries k start pass → tries ≤ pass.view.tries → pass'.table ≡ pass.table → pass'.view ≡ split_left tries pass.view
      → IsFreshAfter store tries (k + 1) start pass'
  fresh_more k start pass pass' h enough table view = record {
    own = table ∙ h.own;
    rest = ap (λ (x : View). x.attempt) view ∙ h.rest;
    none = ap (λ (x : View). x.items) view ∙ h.none;
    left = (let a = ap (λ (x : View). x.tries) view in let b = h.left in let c = more_tries k tries in omega arith);
    draws = ap (λ (x : View). x.draws) view ∙ h.draws;
  }

  pub enough_left : (k n : ℕ) (start pass : PassOf) → IsFreshAfter store tries k start pass → n * tries ≤ start.view.tries → k < n → tries ≤ pass.view.tries
  enough_left k n start pass h e l = (let a = products k n tries l in let b = h.left in omega arith)
    where
      products : (i m t : ℕ) → i < m → i * t + t ≤ m * t
      products i m t q = grind arith

-- one more at the end
pub from_more : {X : Type 0} (P : ℕ → X → Type 0) (n m : ℕ) (xs : List X) (x : X) → AllFrom P n xs → m ≡ n + length xs → P m x → AllFrom P n (xs ++ x ∷ [])
from_more P n m [] x h e p zero d l = subst (λ i. P i x) (let q : m ≡ n + 0 = omega arith in q) p
from_more P n m [] x h e p (suc k) d l = absurd (omega arith)
from_more P n m (y ∷ ys) x h e p zero d l = h 0 d (omega arith)
from_more P n m (y ∷ ys) x h e p (suc k) d l =
    let a : suc n + k ≡ n + suc k = omega arith in
    subst (λ i. P i (get_or (ys ++ x ∷ []) k d)) a
    (from_more P (suc n) m ys x (λ j b q. subst (λ i. P i (get_or ys j b)) (let r : n + suc j ≡ suc n + j = omega arith in r) (h (suc j) b (omega arith))) (omega arith) p k d (omega arith))

-- the seats that are left
pub next_seat : (progress : TableId) (k n : ℕ) (seats rest : List SeatOf) (seat : SeatOf) → seats ≡ map (seat_of progress) (range_with_len k (n - k)) → k < n → seats ≡ seat ∷ rest
    → (seat ≡ seat_of progress k) × (rest ≡ map (seat_of progress) (range_with_len (k + 1) (n - (k + 1))))
next_seat progress k n seats rest seat h l e =
    let m : n - k ≡ suc (n - (k + 1)) = omega arith in
    let whole : seat ∷ rest ≡ seat_of progress k ∷ map (seat_of progress) (range_with_len (k + 1) (n - (k + 1))) = sym e ∙ (h ∙ ap (λ j. map (seat_of progress) (range_with_len k j)) m) in
    ((let x = whole in cc), (let x = whole in cc))

pub some_seat : (progress : TableId) (k n : ℕ) (seats : List SeatOf) → seats ≡ map (seat_of progress) (range_with_len k (n - k)) → k < n → seats ≡ [] → ⊥
some_seat progress k n seats h l e =
    let m : n - k ≡ suc (n - (k + 1)) = omega arith in
    let whole : [] ≡ seat_of progress k ∷ map (seat_of progress) (range_with_len (k + 1) (n - (k + 1))) = sym e ∙ (h ∙ ap (λ j. map (seat_of progress) (range_with_len k j)) m) in
    absurd (let x = whole in cc)

pub copy_at : {X : Type 0} (y rest : List X) (x a : X) (n : ℕ) → y ++ (x ∷ rest) ≡ replicate n a → (x ≡ a) × (length y < n)
copy_at [] rest x a zero e = absurd (let h = e in cc)
copy_at [] rest x a (suc n) e = ((let h = e in cc), omega arith)
copy_at (z ∷ y) rest x a zero e = absurd (let h = e in cc)
copy_at (z ∷ y) rest x a (suc n) e = let r = copy_at y rest x a n (let h = e in cc) in (r.0, omega (arith, r.1))
