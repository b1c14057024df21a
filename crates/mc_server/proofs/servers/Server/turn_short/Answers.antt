use Rattle.std.proofs.Common.{refl, sym}
use Rattle.std.proofs.lemmas.Result.{IfOk-weaker}
use Rattle.mc_server.proofs.ConnectionLemmas.{updated_own}
use Rattle.mc_server.proofs.servers.Server.turn_short.Goals as goal

-- what is under the number takes a turn
pub returns-in-Some-clause-within : goal.returns-in-Some-clause-within
returns-in-Some-clause-within g c =
    rw (← c.self.view_is)
    (IfOk-weaker c.turn_within.result _ _ (λ turn h. record {
      before = c.in-Some.connection.now;
      after = c.turn_within.new.self;
      was = sym c.in-Some.ensures.value;
      is = refl;
      admitted = refl;
      step = h;
    }) (rw c.set_short.ensures at (c.turn_within.ensures.turn c.args.number)))

-- its output is that of the number
pub returns-in-Some-clause-bounded : goal.returns-in-Some-clause-bounded
returns-in-Some-clause-bounded g c =
    let was = sym c.in-Some.ensures.value in
    rw (← c.self.view_is) (rw (was, updated_own c.args.number _ c.turn_within.new.self _ was) (rw c.set_short.ensures at c.turn_within.ensures.bounded))

-- its reader keeps little
pub returns-in-Some-clause-little : goal.returns-in-Some-clause-little
returns-in-Some-clause-little g c =
    let was = sym c.in-Some.ensures.value in
    rw (updated_own c.args.number _ c.turn_within.new.self _ was) c.turn_within.ensures.little
