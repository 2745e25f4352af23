-- The records and the workers of an open leader as lists, and what one step of a worker does to them.
use Rattle.std.specs.Prelude.{ℕ, suc, List, [], ◌∷◌, ◌++◌, length, get_or, set, Bool, true, false, not, ◌&&◌, ◌==◌, nat_lt, is_some, if◌then◌else◌, Option, Some, None}
use Rattle.rl_worker.specs.Phases.{Rec, Phase, Rest, Asking, Wanting, Loading, Locking, Validating, Storing, Refusing, Setting, with_read, asked, other}
use Rattle.rl_worker.specs.Items.{CoreItem, insert_by_stamp}

-- why an attempt was refused: the holder then and the stamp found, or also the stamp that it saw first
pub data Cause : Type 0 where
  Locked : (holder : Option ℕ) → (found : ℕ) → Cause
  Changed : (holder : Option ℕ) → (seen found : ℕ) → Cause

-- a refused attempt: whose, of which request, at which record, and why
pub record CoreRefusal : Type 0 where
  pub worker : ℕ
  pub index : ℕ
  pub rec : ℕ
  pub cause : Cause

-- what an act tells of its attempt: nothing, that it drew a stamp, that it is decided, that a decided one has ended, or
-- that it is refused
pub data Effect : Type 0 where
  Quiet : Effect
  Drew : Effect
  Won : CoreItem → Effect
  Ended : CoreItem → Effect
  Lost : CoreRefusal → Effect

-- what an act comes to: the worker's phase, what the record holds that it looks at, and the effect
pub record ActResult : Type 0 where
  pub phase : Phase
  pub rec : Rec
  pub effect : Effect

-- the record that the next act looks at
abbrev pub target : Phase → ℕ
target (Wanting q reads r) = r
target (Loading q reads r seen loaded) = r
target (Locking q reads answer locked (x ∷ todo)) = x.rec
target (Validating q t done (x ∷ todo) answer writes) = x.rec
target (Storing item j (x ∷ todo)) = x.rec
target (Refusing q (x ∷ todo)) = x.rec
target p = 0

-- an act with no effect
abbrev pub quiet : Rec → Phase → ActResult
quiet x p = record { phase = p; rec = x; effect = Quiet }

-- worker w is refused in request q at record r, which stays as it is
abbrev pub lost : Rec → Phase → (w q r : ℕ) → Cause → ActResult
lost x p w q r c =
    record { phase = p; rec = x; effect = Lost (record { worker = w; index = q; rec = r; cause = c }) }

-- an attempt is decided, and installs what it writes from here on
abbrev pub decides : Rec → CoreItem → ActResult
decides x item = record { phase = Storing item 0 item.writes; rec = x; effect = Won item }

-- one small act of worker w in a phase, where x is what its record holds and n is the next stamp
abbrev pub act_result : Setting → (w n : ℕ) → Phase → (x : Rec) → ActResult
act_result S w n (Rest q) x = quiet x (Asking q [])
act_result S w n (Asking q reads) x = quiet x (asked q reads (S.ask w q reads))
act_result S w n (Wanting q reads r) x =
    if is_some x.holder then lost x (Rest q) w q r (Locked x.holder x.stamp)
    else quiet x (Loading q reads r x.stamp [])
act_result S w n (Loading q reads r seen loaded) x =
    if nat_lt (length loaded) (length x.cells)
    then quiet x (Loading q reads r seen (loaded ++ get_or x.cells (length loaded) 0 ∷ []))
    else if is_some x.holder then lost x (Rest q) w q r (Locked x.holder x.stamp)
    else if x.stamp == seen then quiet x (Asking q (with_read (record { rec = r; seen = seen; row = loaded }) reads))
    else lost x (Rest q) w q r (Changed x.holder seen x.stamp)
act_result S w n (Locking q reads answer locked (y ∷ todo)) x =
    if is_some x.holder then lost x (Refusing q locked) w q y.rec (Locked x.holder x.stamp)
    else quiet (record x { holder = Some w }) (Locking q reads answer (locked ++ y ∷ []) todo)
act_result S w n (Locking q reads answer locked []) x =
    record { phase = Validating q n [] reads answer locked; rec = x; effect = Drew }
act_result S w n (Validating q t done (y ∷ todo) answer writes) x =
    if other w x.holder then lost x (Refusing q writes) w q y.rec (Locked x.holder x.stamp)
    else if x.stamp == y.seen then quiet x (Validating q t (done ++ y ∷ []) todo answer writes)
    else lost x (Refusing q writes) w q y.rec (Changed x.holder y.seen x.stamp)
act_result S w n (Validating q t done [] answer writes) x =
    decides x (record { stamp = t; worker = w; index = q; answer = answer; writes = writes })
act_result S w n (Storing item j (y ∷ todo)) x =
    if nat_lt j (length y.row)
    then quiet (record x { cells = set x.cells j (get_or y.row j 0) }) (Storing item (suc j) (y ∷ todo))
    else quiet (record x { stamp = item.stamp; holder = None }) (Storing item 0 todo)
act_result S w n (Storing item j []) x =
    record { phase = Rest (suc item.index); rec = x; effect = Ended item }
act_result S w n (Refusing q (y ∷ todo)) x = quiet (record x { holder = None }) (Refusing q todo)
act_result S w n (Refusing q []) x = quiet x (Rest q)

-- the records of an open leader, its workers, the next stamp, what is decided by stamp, and, the latest first, the
-- items that have ended, the refusals and what was made (worker and stamp of each item and idle draw)
pub record Core : Type 0 where
  pub recs : List Rec
  pub workers : List Phase
  pub next : ℕ
  pub decided : List CoreItem
  pub ended : List CoreItem
  pub refusals : List CoreRefusal
  pub made : List (ℕ × ℕ)

-- what a record that is not there holds
abbrev pub no_rec : Rec
no_rec = record { stamp = 0; holder = None; cells = [] }

-- the core after an effect
abbrev pub after_effect : Core → Effect → Core
after_effect c Quiet = c
after_effect c Drew = record c { next = suc c.next }
after_effect c (Won x) = record c { decided = insert_by_stamp x c.decided; made = (x.worker, x.stamp) ∷ c.made }
after_effect c (Ended x) = record c { ended = x ∷ c.ended }
after_effect c (Lost f) = record c { refusals = f ∷ c.refusals }

-- the core after worker w made an act on record k
abbrev pub core_after_act : Core → (w k : ℕ) → ActResult → Core
core_after_act c w k m =
    after_effect (record c { recs = set c.recs k m.rec; workers = set c.workers w m.phase }) m.effect

-- what a worker of the core is about
abbrev pub phase_of : Core → (w : ℕ) → Phase
phase_of c w = get_or c.workers w (Rest 0)

-- one small act of a worker
abbrev pub micro : Setting → Core → (w : ℕ) → Core
micro S c w =
    let p = phase_of c w in
    core_after_act c w (target p) (act_result S w c.next p (get_or c.recs (target p) no_rec))

-- a phase in which no worker stands between two steps
abbrev pub passing : Phase → Bool
passing (Asking q reads) = true
passing (Validating q t done [] answer writes) = true
passing (Storing item j []) = true
passing (Refusing q []) = true
passing p = false

-- at rest
abbrev pub resting : Phase → Bool
resting (Rest q) = true
resting p = false

-- a worker does not stay in a phase that it passes
abbrev pub settle : Setting → Core → (w : ℕ) → Core
settle S c w = if passing (phase_of c w) then micro S c w else c

-- a worker at rest begins its request, up to the first record that it wants or to the request's end
abbrev pub begin : Setting → Core → (w : ℕ) → Core
begin S c w = if resting (phase_of c w) then micro S (micro S c w) w else c

-- at rest with no request left
abbrev pub is_done : Setting → (w : ℕ) → Phase → Bool
is_done S w (Rest q) = not (S.there w q)
is_done S w p = false

-- one step of a worker: it begins a request where it rests, makes one act, and runs on to the next. At rest with no
-- request left it does nothing
abbrev pub step : Setting → Core → (w : ℕ) → Core
step S c w = if is_done S w (phase_of c w) then c else settle S (settle S (micro S (begin S c w) w) w) w

-- an idle draw at rest
abbrev pub idle : Core → (w : ℕ) → Core
idle c w = if resting (phase_of c w) then record c { next = suc c.next; made = (w, c.next) ∷ c.made } else c

-- what one worker does in its turn
pub data Turn : Type 0 where
  Step : (w : ℕ) → Turn
  Idle : (w : ℕ) → Turn

-- a worker that is there, and a stamp left to draw
abbrev pub may : Setting → Core → (w : ℕ) → Bool
may S c w = nat_lt 0 w && (nat_lt w (length c.workers) && nat_lt c.next S.last)

-- the core after one turn
abbrev pub turn : Setting → Core → Turn → Core
turn S c (Step w) = if may S c w then step S c w else c
turn S c (Idle w) = if may S c w then idle c w else c

-- the core after some turns
abbrev pub after_turns : Setting → Core → List Turn → Core
after_turns S c [] = c
after_turns S c (t ∷ ts) = after_turns S (turn S c t) ts

-- the core at the opening: these records and workers, and nothing decided
abbrev pub opening_core : Setting → List Rec → (workers : List Phase) → Core
opening_core S recs workers =
    record { recs = recs; workers = workers; next = S.base; decided = []; ended = []; refusals = []; made = [] }
