use Rattle.std.proofs.Common.{◌-◌, Some}
use Rattle.mc_table.proofs.HashedLemmas.{stands_alone}
use Rattle.mc_table.proofs.hash_indexes.HashIndex.get_index_of.Goals as goal

pub returns-then-stands_at-clause-found : goal.returns-then-stands_at-clause-found
returns-then-stands_at-clause-found g c =
    stands_alone g.K.PartialEq.eq (g.Q.Equivalent.equivalent c.args.query) _ _ c.self.inside.slots.items _ (Some (c.args.hint.slot - 1)) (g.met.Q.Equivalent.respects_eq c.args.query) c.self.invariant c.self.view_is (c.stands_at.ensures c.if-stands_at.true).1

pub returns-clause-found : goal.returns-clause-found
returns-clause-found g c =
    stands_alone g.K.PartialEq.eq (g.Q.Equivalent.equivalent c.args.query) _ _ c.self.inside.slots.items _ c.search.result (g.met.Q.Equivalent.respects_eq c.args.query) c.self.invariant c.self.view_is c.search.ensures.found
