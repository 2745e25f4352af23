-- What an act of one worker leaves to the others, and that their facts stay.
use Rattle.std.proofs.Common.{◌≡◌, ◌≢◌, ℕ, ◌<◌, ◌≤◌, List, [], ◌∷◌, ◌++◌, length, take, true, Some, refl, sym, ap, ◌∙◌, arith, eq-eqb}
use Rattle.rl_worker.proofs.States.{Read, Install, Phase, Rest, Asking, Wanting, Loading, Locking, Validating, Storing, Refusing, State, live}
use Rattle.rl_worker.proofs.Inv.{settled, Version, Alone, Seen, AllAlone, Holds, Below, OpenRead, Stored, ReadsOk, Knows, Final}
use Rattle.rl_worker.proofs.OwnLaw.{Ground}

module _ (G : Ground) where
  pub record Keeps (σ τ : State) (w : ℕ) : Type 0 where
    pub next_up : σ.next ≤ τ.next
    pub version : (r v : ℕ) (row : List ℕ) → Version G σ r v row → Version G τ r v row
    pub stamp_up : (r : ℕ) → (σ.recs r).stamp ≤ (τ.recs r).stamp
    pub opens : (r : ℕ) → (τ.recs r).stamp ≡ (σ.recs r).stamp → settled τ r ≡ true → (settled σ r ≡ true) × ((τ.recs r).cells ≡ (σ.recs r).cells)
    pub mine : (r v : ℕ) → v ≢ w → (σ.recs r).holder ≡ Some v → τ.recs r ≡ σ.recs r
    pub entry : (t : ℕ) → t < σ.next → (σ.log t).worker ≢ w → τ.log t ≡ σ.log t
    pub lives : (u : ℕ) → u < σ.next → live (τ.log u).status ≡ true → live (σ.log u).status ≡ true
    pub writes : (u : ℕ) → u < σ.next → (τ.log u).writes ≡ (σ.log u).writes

  pub seen_kept : (σ τ : State) (w : ℕ) → Keeps σ τ w → (b c : ℕ) → b ≤ c → (xs : List Read) → Seen G σ b xs → Seen G τ c xs
  seen_kept σ τ w k b c le [] h = 0
  seen_kept σ τ w k b c le (x ∷ xs) h = (k.version x.rec x.seen x.row h.0, omega (arith, h.1), seen_kept σ τ w k b c le xs h.2)

  pub alone_kept : (σ τ : State) (w : ℕ) → Keeps σ τ w → (t r v : ℕ) → t ≤ σ.next → Alone G σ t r v → Alone G τ t r v
  alone_kept σ τ w k t r v le h = λ u a b l. let past : u < σ.next = omega arith in rw (k.writes u past) (h u a b (k.lives u past l))

  pub all_alone_kept : (σ τ : State) (w : ℕ) → Keeps σ τ w → (t : ℕ) → t ≤ σ.next → (xs : List Read) → AllAlone G σ t xs → AllAlone G τ t xs
  all_alone_kept σ τ w k t le [] h = 0
  all_alone_kept σ τ w k t le (x ∷ xs) h = (alone_kept σ τ w k t x.rec x.seen le h.0, all_alone_kept σ τ w k t le xs h.1)

  pub holds_kept : (σ τ : State) (w : ℕ) → Keeps σ τ w → (v : ℕ) → v ≢ w → (xs : List Install) → Holds G σ v xs → Holds G τ v xs
  holds_kept σ τ w k v n xs h = λ r e. rw (k.mine r v n (h r e)) (h r e)

  pub below_kept : (σ τ : State) (w : ℕ) → Keeps σ τ w → (v t : ℕ) → v ≢ w → (xs : List Install) → Holds G σ v xs → Below G σ t xs → Below G τ t xs
  below_kept σ τ w k v t n xs h b = λ r e. rw (k.mine r v n (h r e)) (b r e)

  pub open_kept : (σ τ : State) (w : ℕ) → Keeps σ τ w → (r seen : ℕ) (loaded : List ℕ) → OpenRead G σ r seen loaded → OpenRead G τ r seen loaded
  open_kept σ τ w k r seen loaded h = (
    omega (arith, h.0, k.stamp_up r),
    λ e s.
        let same : (σ.recs r).stamp ≡ seen = omega (arith, h.0, k.stamp_up r) in
        let o = k.opens r (e ∙ sym same) s in
        h.1 same o.0 ∙ ap (take (length loaded)) (sym o.1),
  )

  pub stored_kept : (σ τ : State) (w : ℕ) → Keeps σ τ w → (v j : ℕ) → v ≢ w → (xs : List Install) → Holds G σ v xs → Stored G σ j xs → Stored G τ j xs
  stored_kept σ τ w k v j n [] h s = 0
  stored_kept σ τ w k v j n (x ∷ xs) h s = (s.0, rw (k.mine x.rec v n (h x.rec (rw (eq-eqb x.rec x.rec refl)))) s.1)

  pub reads_kept : (σ τ : State) (w : ℕ) → Keeps σ τ w → (v q : ℕ) (reads : List Read) → ReadsOk G σ v q reads → ReadsOk G τ v q reads
  reads_kept σ τ w k v q reads h = record { seen = seen_kept σ τ w k σ.next τ.next k.next_up reads h.seen }

  pub knows_kept : (σ τ : State) (w : ℕ) → Keeps σ τ w → (v : ℕ) → v ≢ w → (p : Phase) → Knows G σ v p → Knows G τ v p
  knows_kept σ τ w k v n (Rest q) h = h
  knows_kept σ τ w k v n (Asking q reads) h = reads_kept σ τ w k v q reads h
  knows_kept σ τ w k v n (Wanting q reads r) h = reads_kept σ τ w k v q reads h
  knows_kept σ τ w k v n (Loading q reads r seen loaded) h =
      record { reads_ok = reads_kept σ τ w k v q reads h.reads_ok; open_ok = open_kept σ τ w k r seen loaded h.open_ok; short = h.short }
  knows_kept σ τ w k v n (Locking q reads answer locked todo) h =
      record { reads_ok = reads_kept σ τ w k v q reads h.reads_ok; ends = h.ends; holds = holds_kept σ τ w k v n locked h.holds }
  knows_kept σ τ w k v n (Validating q t done todo answer writes) h =
      let past : t < σ.next = h.past in
      let mine : (σ.log t).worker ≢ w = rw h.logged n in
      record {
        logged = k.entry t past mine ∙ h.logged;
        seen = seen_kept σ τ w k t t (omega arith) (done ++ todo) h.seen;
        alone = all_alone_kept σ τ w k t (omega arith) done h.alone;
        ends = h.ends;
        holds = holds_kept σ τ w k v n writes h.holds;
        below = below_kept σ τ w k v t n writes h.holds h.below;
        past = omega (arith, k.next_up);
      }
  knows_kept σ τ w k v n (Storing item j todo) h =
      let past : item.stamp < σ.next = h.past in
      let mine : (σ.log item.stamp).worker ≢ w = rw h.worker n in
      let same : τ.log item.stamp ≡ σ.log item.stamp = k.entry item.stamp past mine in
      record {
        worker = rw same h.worker;
        status = rw same h.status;
        rows_are = rw same h.rows_are;
        holds = holds_kept σ τ w k v n todo h.holds;
        below = below_kept σ τ w k v item.stamp n todo h.holds h.below;
        past = omega (arith, k.next_up);
        distinct = h.distinct;
        widths = h.widths;
        stored = stored_kept σ τ w k v j n todo h.holds h.stored;
      }
  knows_kept σ τ w k v n (Refusing q todo) h = record { holds = holds_kept σ τ w k v n todo h.holds; distinct = h.distinct }

  pub final_kept : (σ τ : State) (w : ℕ) → Keeps σ τ w → (t : ℕ) → t ≤ σ.next → τ.log t ≡ σ.log t → Final G σ t → Final G τ t
  final_kept σ τ w k t le same h = record {
    seen = rw same (seen_kept σ τ w k t t (omega arith) (σ.log t).reads h.seen);
    alone = rw same (all_alone_kept σ τ w k t le (σ.log t).reads h.alone);
    ends = rw same h.ends;
  }
