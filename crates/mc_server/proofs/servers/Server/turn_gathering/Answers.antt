use Rattle.std.proofs.Common.{refl, sym}
use Rattle.std.proofs.lemmas.Result.{IfOk-weaker}
use Rattle.mc_table.proofs.NumberedEntryLemmas.{updated_same}
use Rattle.mc_server.proofs.ConnectionLemmas.{updated_own}
use Rattle.mc_server.proofs.GatherLemmas.{gathered_short}
use Rattle.mc_server.proofs.servers.Server.turn_gathering.Goals as goal

-- what is under the number takes a turn
pub returns-in-Ok-clause-within : goal.returns-in-Ok-clause-within
returns-in-Ok-clause-within g c =
    rw (← c.self.view_is) record {
      before = c.in-Some.connection.now;
      after = c.turn_gathering.new.self;
      was = sym c.in-Some.ensures.value;
      is = refl;
      admitted = refl;
      step = c.in-Ok.ensures.turn c.args.number;
    }

-- its output is that of the number
pub returns-in-Ok-clause-bounded : goal.returns-in-Ok-clause-bounded
returns-in-Ok-clause-bounded g c =
    let was = sym c.in-Some.ensures.value in
    rw (← c.self.view_is) (rw (was, updated_own c.args.number _ c.turn_gathering.new.self _ was) c.in-Ok.ensures.bounded)

-- its reader keeps little
pub returns-in-Ok-clause-little : goal.returns-in-Ok-clause-little
returns-in-Ok-clause-little g c =
    let was = sym c.in-Some.ensures.value in
    rw (updated_own c.args.number _ c.turn_gathering.new.self _ was) c.in-Ok.ensures.little

-- it takes one while memory is short: nothing was written
pub returns-else-not-release-clause-within : goal.returns-else-not-release-clause-within
returns-else-not-release-clause-within g c =
    let was = sym c.in-Some.ensures.value in
    let within = rw (c.in-Err.ensures.cache_kept, c.in-Err.ensures.err, updated_same c.args.number _ _ was, c.self.view_is) at c.turn_short.ensures.within in
    rw c.in-Err.ensures.writer_kept (IfOk-weaker c.turn_short.result _ _ (λ limited h. gathered_short c.args.number c.args.moment limited _ _ _ h) within)
