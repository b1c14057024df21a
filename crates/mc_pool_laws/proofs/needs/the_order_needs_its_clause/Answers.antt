use Rattle.mc_pool_laws.proofs.OrderExample.{without_ordered}
use Rattle.mc_pool_laws.proofs.needs.the_order_needs_its_clause.Goals as goal

pub returns : goal.returns
returns c = without_ordered
