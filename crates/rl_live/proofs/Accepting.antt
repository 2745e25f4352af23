-- An acceptor of one stream takes the next batch, and takes it but once.
use Rattle.std.proofs.Common.{◌≡◌, ◌⊎◌, ℕ, ◌<◌, [], ◌∷◌, ◌++◌, length, ap, ◌∙◌, arith, ⊎_elim}
use Rattle.std.proofs.lemmas.List.{length-append}
use Rattle.rl_paxos.specs.Acceptors.{Acceptor, accepted, kept_log}
use Rattle.rl_paxos.specs.Logs as bytes
use Rattle.rl_live.specs.Run.{acceptor_at}

pub accepts_next : (epoch slot : ℕ) (log : bytes.Log) (b : bytes.Batch) → slot ≡ length log
    → accepted (acceptor_at epoch log) 1 slot b ≡ acceptor_at epoch (log ++ b ∷ [])
accepts_next epoch slot log b e = grind arith

pub accepts_again : (epoch slot : ℕ) (log : bytes.Log) (b : bytes.Batch) → slot < length log
    → accepted (acceptor_at epoch log) 1 slot b ≡ acceptor_at epoch log
accepts_again epoch slot log b l = grind arith

-- the batch isn't there yet, or it is
abbrev pub HasMaybe : (epoch : ℕ) (b : bytes.Batch) (before now : Acceptor) → Type 0
HasMaybe epoch b before now = (now ≡ before) ⊎ (now ≡ acceptor_at epoch (kept_log before 1 ++ b ∷ []))

pub has_now : (epoch slot : ℕ) (b : bytes.Batch) (before now after : Acceptor) → before ≡ acceptor_at epoch (kept_log before 1) → slot ≡ length (kept_log before 1)
    → HasMaybe epoch b before now → after ≡ accepted now 1 slot b → after ≡ acceptor_at epoch (kept_log before 1 ++ b ∷ [])
has_now epoch slot b before now after led next maybe is = ⊎_elim
    (λ (e : now ≡ before). is ∙ ap (λ x. accepted x 1 slot b) (e ∙ led) ∙ accepts_next epoch slot (kept_log before 1) b next)
    (λ (e : now ≡ acceptor_at epoch (kept_log before 1 ++ b ∷ [])). is ∙ ap (λ x. accepted x 1 slot b) e
    ∙ accepts_again epoch slot (kept_log before 1 ++ b ∷ []) b (let l = length-append (kept_log before 1) (b ∷ []) in omega (arith, l, next)))
    maybe
