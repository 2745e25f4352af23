-- Lists by the numbers of streams, and nodes as they are shown.
use Rattle.std.proofs.Common.{◌≡◌, ℕ, zero, suc, ◌+◌, ◌-◌, ◌<◌, ◌≤◌, List, [], ◌∷◌, length, map, get_or, take, replicate, Bool, true, false, refl, sym, ap, ◌∙◌, arith, IsTrue, ◌↔◌}
use Rattle.std.specs.List.{range_with_len}
use Rattle.std.proofs.lemmas.List.FromFn.{fill_by_all}
use Rattle.std.proofs.lemmas.List.{length-map}
use Rattle.rl_election.specs.World.{Down}
use Rattle.rl_families.specs.Families.{watermark, history}
use Rattle.rl_paxos.specs.Acceptors.{Acceptor, kept_ballot, kept_log}
use Rattle.rl_replay.specs.Replay.{HaveSameStamps}
use Rattle.rl_txn.specs.declared.batch.Batch.{Batch}
use Rattle.rl_txn.specs.declared.item.Item.{Item}
use Rattle.rl_nodes.specs.Batches.{batches_of}
use Rattle.rl_nodes.specs.Nodes.{NodeState, Part, known_family}
use Rattle.rl_nodes.specs.Setups.{Setup}
use Rattle.rl_nodes.specs.Views.{have_same_stamps, is_at_watermark, role_of, view_of}
use Rattle.rl_nodes.specs.declared.view.NodeView.{NodeView}
use Rattle.rl_nodes.specs.declared.view.Role.{Role}
use Rattle.rl_nodes.specs.declared.view.Role.TheVariants.{Follower}
use Rattle.rl_nodes.specs.declared.view.State.TheVariants as state
use Rattle.rl_nodes.specs.declared.view.StreamView.{StreamView}
use Rattle.rl_nodes.proofs.Telling.{tests_tell}
use Rattle.rl_node.specs.Fits.{RunningFits}
use Rattle.rl_node.specs.Showing.{shown_stream, shown_streams}
use Rattle.rl_node.specs.Standing.{up_with, away_with}
use Rattle.rl_node.specs.declared.running.Running.{Running}

abbrev view_with : (ballot len known : ℕ) → StreamView
view_with ballot len known = record { ballot = ballot; len = len; known = known }

abbrev up_view : ℕ → Role → ℕ × ℕ → Bool → List StreamView → NodeView
up_view promised role mark at streams =
    record { state = state.Up; promised = promised; role = role; watermark = mark; at = at; streams = streams }

abbrev down_view : ℕ → List StreamView → NodeView
down_view promised streams =
    record { state = state.Down; promised = promised; role = Follower; watermark = (0, 0); at = false; streams = streams }

-- ---- lists by the numbers of streams ----

shifted : {X : Type 0} (f : ℕ → X) (a n : ℕ) → map f (range_with_len (a + 1) n) ≡ map (λ k. f (k + 1)) (range_with_len a n)
shifted f a zero = refl
shifted f a (suc n) = ap (λ xs. f (a + 1) ∷ xs) (shifted f (a + 1) n)

-- a list that has at each place what a function gives for the number of its stream
pub by_streams : {X : Type 0} (f : ℕ → X) (xs : List X) (n : ℕ) (d : X) → length xs ≡ n
    → ((s : ℕ) → 1 ≤ s → s ≤ n → get_or xs (s - 1) d ≡ f s) → xs ≡ map f (range_with_len 1 n)
by_streams f xs n d e each = fill_by_all (λ k. f (k + 1)) xs n d e here ∙ sym (shifted f 0 n)
  where
    here : (k : ℕ) → k < n → get_or xs k d ≡ f (k + 1)
    here k l = ap (λ i. get_or xs i d) (omega arith) ∙ each (k + 1) (omega arith) (omega arith)

pub get_or_map : {X Y : Type 0} (f : X → Y) (xs : List X) (i : ℕ) (d : X) → get_or (map f xs) i (f d) ≡ f (get_or xs i d)
get_or_map f [] i d = refl
get_or_map f (x ∷ xs) zero d = refl
get_or_map f (x ∷ xs) (suc i) d = get_or_map f xs i d

-- ---- what a node knows ----

module _ (setup : Setup) (acceptor : Acceptor) (r : Running) (fits : RunningFits setup acceptor r) (part : Part) where
  abbrev node : NodeState
  node = (up_with acceptor r part).node

  -- the known prefixes of its logs are its family
  pub family_is : known_family setup node ≡ r.known
  family_is = sym (by_streams (λ s. batches_of (take (get_or (map length r.known) (s - 1) 0) (kept_log acceptor s))) r.known setup.workers [] fits.known_streams at)
    where
      at : (s : ℕ) → 1 ≤ s → s ≤ setup.workers
          → get_or r.known (s - 1) [] ≡ batches_of (take (get_or (map length r.known) (s - 1) 0) (kept_log acceptor s))
      at s low high =
          (fits.known s (low, high)).is
          ∙ ap (λ k. batches_of (take k (kept_log acceptor s))) (sym (get_or_map (λ (log : List Batch). length log) r.known (s - 1) []))

-- ---- tests ----

same_test : {P : Type 0} (a b : Bool) → IsTrue a ↔ P → IsTrue b ↔ P → a ≡ b
same_test true true p q = refl
same_test false false p q = refl
same_test true false p q = sym (q.1 (p.0 refl))
same_test false true p q = p.1 (q.0 refl)

pub same_stamps_test : (b : Bool) (xs ys : List Item) → IsTrue b ↔ HaveSameStamps xs ys → b ≡ have_same_stamps xs ys
same_stamps_test b xs ys h = same_test b (have_same_stamps xs ys) h (tests_tell.same xs ys)

-- ---- views ----

-- a stream, by the place of its number
pub same_stream : (acceptor : Acceptor) (known : List ℕ) (i ballot len k : ℕ) → ballot ≡ kept_ballot acceptor (i + 1)
    → len ≡ length (kept_log acceptor (i + 1)) → k ≡ get_or known i 0
    → view_with ballot len k ≡ shown_stream acceptor known (i + 1)
same_stream acceptor known i ballot len k b l e =
    ap (λ b. view_with b len k) b ∙ ap (λ l. view_with (kept_ballot acceptor (i + 1)) l k) l
    ∙ ap (λ k. view_with (kept_ballot acceptor (i + 1)) (length (kept_log acceptor (i + 1))) k) (e ∙ ap (λ j. get_or known j 0) place)
  where
    place : i ≡ i + 1 - 1
    place = omega arith

-- a node that is up
pub same_view : (setup : Setup) (acceptor : Acceptor) (r : Running) (fits : RunningFits setup acceptor r) (part : Part)
    (promised : ℕ) (role : Role) (mark : ℕ × ℕ) (at : Bool) (streams : List StreamView)
    → promised ≡ acceptor.promised → role ≡ role_of part → mark ≡ watermark r.known
    → IsTrue at ↔ HaveSameStamps r.replica.replaying.applied (history r.known)
    → streams ≡ shown_streams acceptor (map (λ (log : List Batch). length log) r.known) (length (map (λ (log : List Batch). length log) r.known))
    → up_view promised role mark at streams ≡ view_of setup (up_with acceptor r part).node
same_view setup acceptor r fits part promised role mark at streams p q m t v =
    let x = (up_with acceptor r part).node in
    let family = family_is setup acceptor r fits part in
    let test : at ≡ is_at_watermark setup x =
    same_stamps_test at r.replica.replaying.applied (history r.known) t
    ∙ ap (λ (f : List (List Batch)). have_same_stamps r.replica.replaying.applied (history f)) (sym family) in
    let count : length (map (λ (log : List Batch). length log) r.known) ≡ setup.workers = length-map r.known (λ (log : List Batch). length log) ∙ fits.known_streams in
    ap (λ p. up_view p role mark at streams) p ∙ ap (λ q. up_view acceptor.promised q mark at streams) q
    ∙ ap (λ m. up_view acceptor.promised (role_of part) m at streams) (m ∙ ap watermark (sym family))
    ∙ ap (λ t. up_view acceptor.promised (role_of part) (watermark (known_family setup x)) t streams) test
    ∙ ap (up_view acceptor.promised (role_of part) (watermark (known_family setup x)) (is_at_watermark setup x))
    (v ∙ ap (shown_streams acceptor (map (λ (log : List Batch). length log) r.known)) count)

-- a node that is down
pub same_down : (setup : Setup) (acceptor : Acceptor) (promised : ℕ) (streams : List StreamView) (n : ℕ) → promised ≡ acceptor.promised
    → n ≡ setup.workers → streams ≡ shown_streams acceptor (replicate setup.workers 0) n
    → down_view promised streams ≡ view_of setup (away_with setup acceptor Down).node
same_down setup acceptor promised streams n p e v =
    ap (λ p. down_view p streams) p ∙ ap (down_view acceptor.promised) (v ∙ ap (shown_streams acceptor (replicate setup.workers 0)) e)
