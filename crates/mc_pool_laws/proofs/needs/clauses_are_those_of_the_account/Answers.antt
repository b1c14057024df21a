use Rattle.mc_pool_laws.proofs.ClauseLemmas.{each_clause}
use Rattle.mc_pool_laws.proofs.needs.clauses_are_those_of_the_account.Goals as goal

pub returns : goal.returns
returns c = each_clause
