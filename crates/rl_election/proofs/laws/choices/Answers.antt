use Rattle.std.proofs.Common.{◌∷◌, [], refl}
use Rattle.rl_election.proofs.Choices.{some_choice}
use Rattle.rl_election.proofs.laws.choices.Goals as goal

pub returns-clause-there : goal.returns-clause-there
returns-clause-there c = λ g w epoch s some. some_choice g w epoch s some.0 some.1

pub returns-clause-proposal : goal.returns-clause-proposal
returns-clause-proposal c = λ open_mark batch. record {
  log = open_mark 1 ∷ batch ∷ [];
  is_log = record { term = _; term_is = refl; log_is = refl };
  within = ([], refl);
  acked = refl;
  longest = λ longer p h. p;
}

pub returns-clause-carried : goal.returns-clause-carried
returns-clause-carried c = λ open_mark batch. (
  record {
    log = open_mark 1 ∷ batch ∷ [];
    is_log = record { term = _; term_is = refl; log_is = refl };
    within = ([], refl);
    acked = refl;
    longest = λ longer p h. p;
  },
  record { term = _; term_is = refl; initial_is = refl },
)
