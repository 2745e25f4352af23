-- The laws of the crates below on which the proof stands, as their functions ensure them.
use Rattle.rl_batch.specs.Laws.{BatchesReadBack, EncodingsAreShort}
use Rattle.rl_election.specs.Laws.{InitialLogsHaveOrigins, OwnersLead, CandidatesStandFirst}
use Rattle.rl_txn.specs.Laws.{RowsGoOnFitting, SerialItemsHaveWords, RowsKeepWords}
use Rattle.rl_worker.specs.Laws.{DecidesSerially, ItemsFollowOn, CausesAreTrue, StampsRise, StepsAreOne, StampsStayInRange, ItemsStayInRange, ItemsEndInOrder, OpeningStampsAreEarly}

pub record Below : Type 0 where
  pub read_back : BatchesReadBack
  pub short : EncodingsAreShort
  pub origins : InitialLogsHaveOrigins
  pub owners : OwnersLead
  pub candidates : CandidatesStandFirst
  pub rows_fit : RowsGoOnFitting
  pub items_words : SerialItemsHaveWords
  pub rows_words : RowsKeepWords
  pub serially : DecidesSerially
  pub follow_on : ItemsFollowOn
  pub causes : CausesAreTrue
  pub rise : StampsRise
  pub steps_are_one : StepsAreOne
  pub in_range : StampsStayInRange
  pub items_in_range : ItemsStayInRange
  pub end_in_order : ItemsEndInOrder
  pub early : OpeningStampsAreEarly
