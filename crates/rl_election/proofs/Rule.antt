-- The recovered logs are recovered by the rule in full.
use Rattle.std.proofs.Common.{◌≡◌, ℕ, ◌+◌, ◌-◌, ◌≤◌, List, [], ◌∷◌, length, get_or, subst, sym, arith}
use Rattle.rl_paxos.specs.Logs.{Log}
use Rattle.rl_paxos.specs.Recovery.{Promise, recovered, recovered_logs, IsRecovered}
use Rattle.rl_paxos.proofs.Best.{best_is_recovered}
use Rattle.rl_election.proofs.Updates.{get_or-recovered}

pub each_is_recovered : (ps : List Promise) (streams s : ℕ) → 1 ≤ length ps → 1 ≤ s → s ≤ streams → IsRecovered ps s (get_or (recovered_logs ps streams) (s - 1) [])
each_is_recovered [] streams s some first last = absurd (omega arith)
each_is_recovered (p ∷ ps) streams s some first last =
    let back : s - 1 + 1 ≡ s = omega arith in
    let at : get_or (recovered_logs (p ∷ ps) streams) (s - 1) [] ≡ recovered (p ∷ ps) (s - 1 + 1) = get_or-recovered (p ∷ ps) streams (s - 1) (omega arith) in
    let here : get_or (recovered_logs (p ∷ ps) streams) (s - 1) [] ≡ recovered (p ∷ ps) s = rw back at at in
    subst (λ (log : Log). IsRecovered (p ∷ ps) s log) (sym here) (best_is_recovered p ps s)
