use Rattle.mc_account.proofs.StayingLemmas.{answers_note, answers_note_all, answers_push, answers_sent}
use Rattle.mc_account.proofs.laws.answers_stay.Goals as goal

pub returns-clause-taken : goal.returns-clause-taken
returns-clause-taken c = answers_push

pub returns-clause-noted : goal.returns-clause-noted
returns-clause-noted c = answers_note

pub returns-clause-all_noted : goal.returns-clause-all_noted
returns-clause-all_noted c = answers_note_all

pub returns-clause-sent : goal.returns-clause-sent
returns-clause-sent c = answers_sent
