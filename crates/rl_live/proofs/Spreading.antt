-- A batch that the nodes before k have, and the others not yet.
use Rattle.std.proofs.Common.{◌≡◌, ◌⊎◌, ◌≢◌, ℕ, ◌+◌, ◌<◌, ◌≤◌, List, [], ◌∷◌, ◌++◌, length, All, get_or, set, zero, suc, refl, ap, ◌∙◌, arith, inl, inr, Bool, false}
use Rattle.std.proofs.lemmas.List.{length-set}
use Rattle.atomic_table.specs.Seated.{TableId}
use Rattle.rl_base.specs.declared.limit.TheConstants.{NODES}
use Rattle.rl_paxos.specs.Acceptors.{Acceptor}
use Rattle.rl_paxos.specs.Logs as bytes
use Rattle.rl_progress.specs.Rule.{IsPublisher}
use Rattle.rl_live.specs.Run.{acceptor_at}
use Rattle.rl_live.specs.Sending.{IsSameLine}
use Rattle.rl_live.specs.declared.line.Line.{Line}

-- the acceptor has this log at the epoch
pub record Has (epoch : ℕ) (log : bytes.Log) (a : Acceptor) : Type 0 where
  pub is : a ≡ acceptor_at epoch log

-- of some acceptors those before k have a batch more
pub record FirstsHave (epoch : ℕ) (log : bytes.Log) (b : bytes.Batch) (k : ℕ) (nodes : List Acceptor) : Type 0 where
  pub done : (j : ℕ) (d : Acceptor) → j < k → j < length nodes → get_or nodes j d ≡ acceptor_at epoch (log ++ b ∷ [])
  pub left : (j : ℕ) (d : Acceptor) → k ≤ j → j < length nodes → get_or nodes j d ≡ acceptor_at epoch log

pub none_yet : (epoch : ℕ) (log : bytes.Log) (b : bytes.Batch) (nodes : List Acceptor) → All (λ a. a ≡ acceptor_at epoch log) nodes → FirstsHave epoch log b 0 nodes
none_yet epoch log b nodes h = record { done = λ j d l m. absurd (omega (arith, l)); left = λ j d l m. h j d m }

pub all_now : (epoch : ℕ) (log : bytes.Log) (b : bytes.Batch) (k : ℕ) (nodes : List Acceptor) → FirstsHave epoch log b k nodes → length nodes ≤ k → All (λ a. a ≡ acceptor_at epoch (log ++ b ∷ [])) nodes
all_now epoch log b k nodes h l j d m = h.done j d (omega (arith, l, m)) m

get_set : (nodes : List Acceptor) (k j : ℕ) (a d : Acceptor) → ((j ≡ k) × (get_or (set nodes k a) j d ≡ a)) ⊎ ((j ≢ k) × (get_or (set nodes k a) j d ≡ get_or nodes j d)) ⊎ (length nodes ≤ j)
get_set [] k j a d = inr (inr (omega arith))
get_set (x ∷ nodes) zero zero a d = inl (refl, refl)
get_set (x ∷ nodes) zero (suc j) a d = inr (inl (omega arith, refl))
get_set (x ∷ nodes) (suc k) zero a d = inr (inl (omega arith, refl))
get_set (x ∷ nodes) (suc k) (suc j) a d = elim (get_set nodes k j a d) [
  | inl e ↦ inl (ap (λ n. suc n) e.0, e.1)
  | inr e ↦ elim e [ inl f ↦ inr (inl ((let g = f.0 in omega arith), f.1)) | inr f ↦ inr (inr (omega (arith, f))) ]
]

pub one_more : (epoch : ℕ) (log : bytes.Log) (b : bytes.Batch) (k : ℕ) (nodes : List Acceptor) (a : Acceptor) → FirstsHave epoch log b k nodes → a ≡ acceptor_at epoch (log ++ b ∷ [])
    → FirstsHave epoch log b (k + 1) (set nodes k a)
one_more epoch log b k nodes a h e = record {
  done = λ j d l m. elim (get_set nodes k j a d) [
    | inl f ↦ f.1 ∙ e
    | inr f ↦ elim f [
      | inl g ↦ g.1 ∙ h.done j d (let n = g.0 in omega (arith, l)) (let s = length-set nodes k a in omega (arith, m))
      | inr g ↦ absurd (let s = length-set nodes k a in omega (arith, m, g))
    ]
  ];
  left = λ j d l m. elim (get_set nodes k j a d) [
    | inl f ↦ absurd (let n = f.0 in omega (arith, l))
    | inr f ↦ elim f [
      | inl g ↦ g.1 ∙ h.left j d (omega (arith, l)) (let s = length-set nodes k a in omega (arith, m))
      | inr g ↦ absurd (let s = length-set nodes k a in omega (arith, m, g))
    ]
  ];
}

-- the line of the beginning, with the batch at the nodes before k
pub record IsSpreading (progress : TableId) (slot seq : ℕ) (batch : bytes.Batch) (before : Line) (k : ℕ) (published : Bool) (line : Line) : Type 0 where
  pub log : bytes.Log
  pub log_is : line.stream.log ≡ log ++ batch ∷ []
  pub slot_is : slot ≡ length log
  pub kept : line.stream.log ≡ before.stream.log
  pub same : IsSameLine before line
  pub firsts : FirstsHave line.stream.epoch log batch k line.acceptors.items
  pub few : length line.acceptors.items ≤ NODES
  pub seated : line.seat.table ≡ progress
  pub publishes : IsPublisher line.seat.view
  pub below : published ≡ false → line.seat.view.last < seq
  pub last : line.seat.view.last ≤ seq
