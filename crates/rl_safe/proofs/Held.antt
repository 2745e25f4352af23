-- What holds of a world, its openings and refusals, and what of it stays.
use Rattle.std.proofs.Common.{◌≡◌, ℕ, ◌≤◌, List, [], ◌∷◌, ◌++◌, false, not, ◌&&◌, ◌==◌, nat_lt, is_some, Option, Some, None, option_to_list, option_map, refl, sym, ap, ◌∙◌, subst, arith, inl, inr, true≢false}
use Rattle.std.proofs.lemmas.Bool.Decides.{nat_tests}
use Rattle.rl_base.proofs.Members.{In}
use Rattle.rl_paxos.specs.Quorums.{is_node}
use Rattle.rl_paxos.specs.Recovery.{Promise, Candidate, with_promise, has_promised}
use Rattle.rl_election.specs.World.{Term}
use Rattle.rl_worker.specs.Acts.{Core, CoreRefusal}
use Rattle.rl_worker.specs.Laws.{IsTrueCause, AllTrue}
use Rattle.rl_nodes.specs.Answers.{Opening}
use Rattle.rl_nodes.specs.Setups.{Setup}
use Rattle.rl_nodes.specs.World.{World, Opened, Attempt}
use Rattle.rl_safe.proofs.Accounts.{Account, carried_in, opening_of, OpeningOk, Inv}
use Rattle.rl_safe.proofs.CoreTurns.{by_if}

-- a world of which all this holds
abbrev pub Held : Setup → World → Type 0
Held setup w = (accounts : ℕ → Account) × Inv setup w accounts

-- what a node tells of its opening, and of an attempt that was refused
abbrev pub OpenedOk : Setup → (ℕ → Option Term) → (a : ℕ) → Option Opening → Type 0
OpenedOk setup terms a None = Unit {0}
OpenedOk setup terms a (Some o) = OpeningOk setup terms (record { epoch = o.epoch; node = a; items = o.items })

abbrev pub RefusedOk : Option CoreRefusal → Type 0
RefusedOk None = Unit {0}
RefusedOk (Some f) = IsTrueCause f.worker f.cause

abbrev pub opened_at : (a : ℕ) → Opening → Opened
opened_at a o = record { epoch = o.epoch; node = a; items = o.items }

abbrev pub attempt_at : (epoch : ℕ) → CoreRefusal → Attempt
attempt_at epoch f = record { epoch = epoch; refusal = f }

pub opening_in : (setup : Setup) (terms : ℕ → Option Term) (a : ℕ) (x : Option Opening) → OpenedOk setup terms a x
    → (o : Opened) → In o (option_to_list (option_map (opened_at a) x)) → OpeningOk setup terms o
opening_in setup terms a None ok o i = absurd i
opening_in setup terms a (Some x) ok o i = elim i [ inl e ↦ subst (OpeningOk setup terms) (sym e) ok | inr j ↦ absurd j ]

pub refusal_in : (epoch : ℕ) (x : Option CoreRefusal) → RefusedOk x → (f : Attempt) → In f (option_to_list (option_map (attempt_at epoch) x))
    → IsTrueCause f.refusal.worker f.refusal.cause
refusal_in epoch None ok f i = absurd i
refusal_in epoch (Some x) ok f i = elim i [ inl e ↦ subst (λ (g : Attempt). IsTrueCause g.refusal.worker g.refusal.cause) (sym e) ok | inr j ↦ absurd j ]

pub refusal_true : (o : Option CoreRefusal) (fs gs : List CoreRefusal) → gs ≡ option_to_list o ++ fs → AllTrue gs → RefusedOk o
refusal_true None fs gs e h = tt
refusal_true (Some f) fs gs e h = (subst AllTrue e h).0

-- initial logs stand
abbrev pub TermsStay : (old new : ℕ → Option Term) → Type 0
TermsStay old new = (e : ℕ) (t : Term) → old e ≡ Some t → (u : Term) × (new e ≡ Some u) × (u.initial ≡ t.initial)

pub terms_same : (terms : ℕ → Option Term) → TermsStay terms terms
terms_same terms e t is = (t, is, refl)

pub opening_stays : (setup : Setup) (old new : ℕ → Option Term) → TermsStay old new → (o : Opened) → OpeningOk setup old o → OpeningOk setup new o
opening_stays setup old new stay o k =
    let u = stay o.epoch k.term k.is in
    record { term = u.0; is = u.1; items = k.items ∙ ap (λ initial. opening_of setup o.epoch (carried_in setup initial)) (sym u.2) }

pub epoch_kept : (c : Candidate) (p : Promise) → (with_promise c p).epoch ≡ c.epoch
epoch_kept c p = by_if (λ (d : Candidate). d.epoch ≡ c.epoch) (is_node c.nodes p.node && not (has_promised c.promises p.node)) (record c { promises = c.promises ++ p ∷ [] }) c
    (λ t. refl) (λ t. refl)

pub not_lt : (m n : ℕ) → nat_lt m n ≡ false → n ≤ m
not_lt m n h = grind (arith, nat_tests)

pub some_there : (n : ℕ) → (n == 0) ≡ false → 1 ≤ n
some_there n h = grind (arith, nat_tests)

pub not_some : (t : Term) → ◌≡◌ {A = Option Term} None (Some t) → ⊥
not_some t e = cc

pub none_core : (o : Option Core) → is_some o ≡ false → o ≡ None
none_core None h = refl
none_core (Some c) h = absurd (true≢false h)
