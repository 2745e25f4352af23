-- What holds between any two acts.
use Rattle.std.proofs.Common.{◌≡◌, ◌⊎◌, ℕ, ◌<◌, ◌≤◌, List, [], ◌∷◌, ◌++◌, length, take, Bool, true, false, not, ◌==◌, ◌&&◌, Option, Some, None}
use Rattle.rl_worker.proofs.States.{Answer, Read, Install, Status, Drawn, Ends, Phase, Rest, Asking, Wanting, Loading, Locking, Validating, Storing, Refusing, State, has, row_at, live, decided}
pub use Rattle.rl_worker.proofs.OwnLaw.{Ground, Distinct, Widths}

-- what a phase holds
abbrev pub held : Phase → ℕ → Bool
held (Rest q) r = false
held (Asking q reads) r = false
held (Wanting q reads x) r = false
held (Loading q reads x seen loaded) r = false
held (Locking q reads answer locked todo) r = has r locked
held (Validating q t done todo answer writes) r = has r writes
held (Storing item j todo) r = has r todo
held (Refusing q todo) r = has r todo

-- the records that a phase is to store and close
abbrev pub stores : Phase → ℕ → Bool
stores (Rest q) r = false
stores (Asking q reads) r = false
stores (Wanting q reads x) r = false
stores (Loading q reads x seen loaded) r = false
stores (Locking q reads answer locked todo) r = false
stores (Validating q t done todo answer writes) r = false
stores (Storing item j todo) r = has r todo
stores (Refusing q todo) r = false

-- the phase may still close r with the stamp u
abbrev pub pending : Phase → ℕ → ℕ → Bool
pending (Rest q) u r = false
pending (Asking q reads) u r = false
pending (Wanting q reads x) u r = false
pending (Loading q reads x seen loaded) u r = false
pending (Locking q reads answer locked todo) u r = false
pending (Validating q t done todo answer writes) u r = (u == t) && has r writes
pending (Storing item j todo) u r = (u == item.stamp) && has r todo
pending (Refusing q todo) u r = false

-- no decided attempt holds r
abbrev pub settled_by : (ℕ → Phase) → Option ℕ → ℕ → Bool
settled_by ws None r = true
settled_by ws (Some w) r = not (stores (ws w) r)

abbrev pub settled : State → ℕ → Bool
settled σ r = settled_by σ.workers (σ.recs r).holder r

module _ (G : Ground) where
  -- the row is the one that the stamp v stands for on r
  abbrev pub Version : State → (r v : ℕ) → List ℕ → Type 0
  Version σ r v row =
      ((v ≡ (G.start r).stamp) × (row ≡ (G.start r).cells)) ⊎ ((decided (σ.log v).status ≡ true) × (row_at r (σ.log v).writes ≡ Some row))

  -- no stamp between v and t that may count writes r
  abbrev pub Alone : State → (t r v : ℕ) → Type 0
  Alone σ t r v = (u : ℕ) → v < u → u < t → live (σ.log u).status ≡ true → has r (σ.log u).writes ≡ false

  -- each read saw a version below the bound
  abbrev pub Seen : State → ℕ → List Read → Type 0
  Seen σ bound [] = ℕ
  Seen σ bound (x ∷ xs) = Version σ x.rec x.seen x.row × (x.seen < bound) × Seen σ bound xs

  abbrev pub AllAlone : State → ℕ → List Read → Type 0
  AllAlone σ t [] = ℕ
  AllAlone σ t (x ∷ xs) = Alone σ t x.rec x.seen × AllAlone σ t xs

  abbrev pub Holds : State → ℕ → List Install → Type 0
  Holds σ w xs = (r : ℕ) → has r xs ≡ true → (σ.recs r).holder ≡ Some w

  abbrev pub Below : State → ℕ → List Install → Type 0
  Below σ t xs = (r : ℕ) → has r xs ≡ true → (σ.recs r).stamp < t

  -- what is loaded is what stands there, or the record has moved on
  abbrev pub OpenRead : State → (r seen : ℕ) → List ℕ → Type 0
  OpenRead σ r seen loaded =
      (seen ≤ (σ.recs r).stamp) × ((σ.recs r).stamp ≡ seen → settled σ r ≡ true → loaded ≡ take (length loaded) (σ.recs r).cells)

  -- the log has at t what this attempt was
  abbrev pub Logged : State → ℕ → ℕ → ℕ → List Read → Answer → List Install → Status → Type 0
  Logged σ w q t reads answer writes s = σ.log t ≡ record { worker = w; index = q; reads = reads; answer = answer; writes = writes; status = s }

  -- the stored cells of the first record
  abbrev pub Stored : State → ℕ → List Install → Type 0
  Stored σ j [] = ℕ
  Stored σ j (x ∷ xs) = (j ≤ length x.row) × (take j (σ.recs x.rec).cells ≡ take j x.row)

  abbrev pub Rows : List Install → List Install → Type 0
  Rows xs ys = (r : ℕ) → has r xs ≡ true → row_at r xs ≡ row_at r ys

  pub record ReadsOk (σ : State) (w q : ℕ) (reads : List Read) : Type 0 where
    pub seen : Seen σ σ.next reads

  pub record LoadingOk (σ : State) (w q : ℕ) (reads : List Read) (r seen : ℕ) (loaded : List ℕ) : Type 0 where
    pub reads_ok : ReadsOk σ w q reads
    pub open_ok : OpenRead σ r seen loaded
    pub short : length loaded ≤ G.width r

  pub record LockingOk (σ : State) (w q : ℕ) (reads : List Read) (answer : Answer) (locked todo : List Install) : Type 0 where
    pub reads_ok : ReadsOk σ w q reads
    pub ends : G.setting.ask w q reads ≡ Ends answer (locked ++ todo)
    pub holds : Holds σ w locked

  pub record ValidatingOk (σ : State) (w q t : ℕ) (done todo : List Read) (answer : Answer) (writes : List Install) : Type 0 where
    pub logged : Logged σ w q t (done ++ todo) answer writes Drawn
    pub seen : Seen σ t (done ++ todo)
    pub alone : AllAlone σ t done
    pub ends : G.setting.ask w q (done ++ todo) ≡ Ends answer writes
    pub holds : Holds σ w writes
    pub below : Below σ t writes
    pub past : t < σ.next

  pub record StoringOk (σ : State) (w t j : ℕ) (todo : List Install) : Type 0 where
    pub worker : (σ.log t).worker ≡ w
    pub status : decided (σ.log t).status ≡ true
    pub rows_are : Rows todo (σ.log t).writes
    pub holds : Holds σ w todo
    pub below : Below σ t todo
    pub past : t < σ.next
    pub distinct : Distinct todo
    pub widths : Widths G todo
    pub stored : Stored σ j todo

  pub record RefusingOk (σ : State) (w : ℕ) (todo : List Install) : Type 0 where
    pub holds : Holds σ w todo
    pub distinct : Distinct todo

  -- what a worker knows
  abbrev pub Knows : State → ℕ → Phase → Type 0
  Knows σ w (Rest q) = ℕ
  Knows σ w (Asking q reads) = ReadsOk σ w q reads
  Knows σ w (Wanting q reads r) = ReadsOk σ w q reads
  Knows σ w (Loading q reads r seen loaded) = LoadingOk σ w q reads r seen loaded
  Knows σ w (Locking q reads answer locked todo) = LockingOk σ w q reads answer locked todo
  Knows σ w (Validating q t done todo answer writes) = ValidatingOk σ w q t done todo answer writes
  Knows σ w (Storing item j todo) = StoringOk σ w item.stamp j todo
  Knows σ w (Refusing q todo) = RefusingOk σ w todo

  -- a decided entry
  pub record Final (σ : State) (t : ℕ) : Type 0 where
    pub seen : Seen σ t (σ.log t).reads
    pub alone : AllAlone σ t (σ.log t).reads
    pub ends : G.setting.ask (σ.log t).worker (σ.log t).index (σ.log t).reads ≡ Ends (σ.log t).answer (σ.log t).writes

  pub record Inv (σ : State) : Type 0 where
    pub knows : (w : ℕ) → Knows σ w (σ.workers w)
    pub owner : (r w : ℕ) → (σ.recs r).holder ≡ Some w → held (σ.workers w) r ≡ true
    pub width_is : (r : ℕ) → length (σ.recs r).cells ≡ G.width r
    pub based : G.setting.base ≤ σ.next
    pub fresh : (r : ℕ) → (σ.recs r).stamp < σ.next
    pub content : (r : ℕ) → settled σ r ≡ true → Version σ r (σ.recs r).stamp (σ.recs r).cells
    pub drawn : (t r : ℕ) → live (σ.log t).status ≡ true → has r (σ.log t).writes ≡ true → (t ≤ (σ.recs r).stamp) ⊎ (pending (σ.workers (σ.log t).worker) t r ≡ true)
    pub past : (t : ℕ) → live (σ.log t).status ≡ true → (G.setting.base ≤ t) × (t < σ.next)
    pub final : (t : ℕ) → decided (σ.log t).status ≡ true → Final σ t
