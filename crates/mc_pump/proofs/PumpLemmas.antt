-- Pumps in sequence, and what each part of a round adds.
use Rattle.std.proofs.Common.{◌≡◌, refl, ℕ, Bool, false, Ok, Err, List, [], ◌++◌, Option, Some}
use Rattle.mc_server.specs.ServerState.{ConnectionState, ServerState, connection_at}
use Rattle.mc_stream.specs.Sides.{IsStopOfSide}
use Rattle.mc_pump.specs.Counts.{Counted}
use Rattle.mc_pump.specs.Pumps.{Leaves, Pumps}
use Rattle.mc_pump.specs.Rounds.{PumpsPart, Receives, Sends, TakesTurns}
use Rattle.mc_pump.specs.declared.limits.TheConstants.{QUANTUM}
use Rattle.mc_stream.specs.declared.outcomes.Pumped.{Pumped}
use Rattle.mc_stream.specs.declared.outcomes.Pumped.TheVariants.{Again, Blocked, Done, Failed}
use Rattle.mc_stream.proofs.SideLemmas.{came_any, carried_as, carried_then, carried_unheard, carries_brought, carries_none, carries_sent, stop_of_read, went_any}
use Rattle.mc_pump.proofs.CountLemmas.{counts_still, counts_then}
use Rattle.mc_pump.proofs.UnsentLemmas.{unsent_same, unsent_then, unsent_untaken}
use Rattle.mc_pump.proofs.StretchLemmas.{none_takes_none, stretch_none, stretch_then}

-- what a watch has counted at the start of a pump
abbrev pub begun : (refused most : ℕ) → Counted
begun refused most = record { refused = refused; left = QUANTUM; most = most }

-- nothing was done yet
pub pumps_none : (number moment : ℕ) (count : Counted) (s : ServerState) (c : ConnectionState) (unread written : Option (List ℕ)) (ended : Bool) → connection_at s number ≡ Some c
    → PumpsPart number moment Again s s unread unread written written ended ended count count
pumps_none number moment count s c unread written ended was = record {
  came = [];
  went = [];
  stretch = stretch_none number moment s c was;
  carried = carries_none unread written ended;
  left = tt;
  counted = counts_still s.cache _ count count (none_takes_none number moment s c was) refl;
  unsent = unsent_same count.most (connection_at s number);
}

-- a pump that goes on
pub pumps_then : (number moment : ℕ) (count between count' : Counted) (pump : Pumped) (a b c : ServerState) (unread middle unread' written sent written' : Option (List ℕ)) (ended later ended' : Bool)
    → PumpsPart number moment Again a b unread middle written sent ended later count between → PumpsPart number moment pump b c middle unread' sent written' later ended' between count'
    → PumpsPart number moment pump a c unread unread' written written' ended ended' count count'
pumps_then number moment count between count' pump a b c unread middle unread' written sent written' ended later ended' h k = record {
  came = h.came ++ k.came;
  went = h.went ++ k.went;
  stretch = stretch_then number moment a b c h.came k.came h.went k.went h.stretch k.stretch;
  carried = carried_then pump unread middle unread' written sent written' ended later ended' h.came k.came h.went k.went h.carried k.carried;
  left = k.left;
  counted = counts_then number moment count between count' a b c h.came k.came h.went k.went h.stretch k.stretch h.counted k.counted;
  unsent = unsent_then count.most between.most (connection_at a number) (connection_at b number) (connection_at c number) h.counted.most h.unsent k.unsent;
}

-- after a stop of a side nothing is left to prove
left_by_side : (pump : Pumped) (ended : Bool) (connection : Option ConnectionState) → IsStopOfSide pump → Leaves pump ended connection
left_by_side Again ended connection h = tt
left_by_side Blocked ended connection h = absurd h
left_by_side Done ended connection h = absurd h
left_by_side Failed ended connection h = tt

-- turns alone
pub pumps_turns : (number moment : ℕ) (count count' : Counted) (pump : Pumped) (a b : ServerState) (unread written : Option (List ℕ)) (ended : Bool)
    → TakesTurns number moment a b count count' → Leaves pump ended (connection_at b number) → PumpsPart number moment pump a b unread unread written written ended ended count count'
pumps_turns number moment count count' pump a b unread written ended h left = record {
  came = [];
  went = [];
  stretch = h.stretch;
  carried = carried_as pump unread unread written written ended ended [] [] (carries_none unread written ended);
  left = left;
  counted = h.counted;
  unsent = h.unsent;
}

-- a write that took bytes
pub pumps_sent : (number moment : ℕ) (count count' : Counted) (moved : Bool) (a b : ServerState) (unread written written' : Option (List ℕ)) (ended : Bool)
    → Sends number moment (Ok moved) a b written written' count count' → PumpsPart number moment Again a b unread unread written written' ended ended count count'
pumps_sent number moment count count' moved a b unread written written' ended h = record {
  came = [];
  went = h.went;
  stretch = h.stretch;
  carried = carries_sent unread written written' ended h.went (went_any moved written written' h.went (b ≡ a) h.how);
  left = tt;
  counted = counts_still a.cache h.stretch.history count count' h.untaken h.uncounted;
  unsent = unsent_untaken number moment count.most a b _ _ h.stretch h.untaken;
}

-- a write that stopped the pump
pub pumps_unsent : (number moment : ℕ) (count count' : Counted) (pump : Pumped) (a b : ServerState) (unread written written' : Option (List ℕ)) (ended : Bool)
    → Sends number moment (Err pump) a b written written' count count' → PumpsPart number moment pump a b unread unread written written' ended ended count count'
pumps_unsent number moment count count' pump a b unread written written' ended h = record {
  came = [];
  went = h.went;
  stretch = h.stretch;
  carried = carried_as pump unread unread written written' ended ended [] h.went (carries_sent unread written written' ended h.went h.how.1);
  left = left_by_side pump ended (connection_at b number) h.how.0;
  counted = counts_still a.cache h.stretch.history count count' h.untaken h.uncounted;
  unsent = unsent_untaken number moment count.most a b _ _ h.stretch h.untaken;
}

-- a read after which the pump goes on
pub pumps_heard : (number moment : ℕ) (count count' : Counted) (moved : Bool) (pump : Pumped) (a b : ServerState) (unread unread' written : Option (List ℕ)) (ended ended' : Bool) → ended ≡ false
    → Receives number moment (Ok moved) a b unread unread' ended' count count' → Leaves pump ended' (connection_at b number)
    → PumpsPart number moment pump a b unread unread' written written ended ended' count count'
pumps_heard number moment count count' moved pump a b unread unread' written ended ended' open_yet h left = record {
  came = h.came;
  went = [];
  stretch = h.stretch;
  carried = carried_as pump unread unread' written written ended ended' h.came []
      (carries_brought unread unread' written ended ended' h.came open_yet (came_any moved unread unread' ended' h.came (b ≡ a) h.how));
  left = left;
  counted = counts_still a.cache h.stretch.history count count' h.untaken h.uncounted;
  unsent = unsent_untaken number moment count.most a b _ _ h.stretch h.untaken;
}

-- a read that stopped the pump
pub pumps_unheard : (number moment : ℕ) (count count' : Counted) (pump : Pumped) (a b : ServerState) (unread unread' written : Option (List ℕ)) (ended ended' : Bool) → ended ≡ false
    → Receives number moment (Err pump) a b unread unread' ended' count count' → PumpsPart number moment pump a b unread unread' written written ended ended' count count'
pumps_unheard number moment count count' pump a b unread unread' written ended ended' open_yet h = record {
  came = h.came;
  went = [];
  stretch = h.stretch;
  carried = carried_unheard pump unread unread' written ended ended' h.came open_yet h.how;
  left = left_by_side pump ended' (connection_at b number) (stop_of_read pump unread unread' ended' h.came h.how);
  counted = counts_still a.cache h.stretch.history count count' h.untaken h.uncounted;
  unsent = unsent_untaken number moment count.most a b _ _ h.stretch h.untaken;
}

-- turns, a write, and then a stop
pub stopped : (number moment : ℕ) (count between count' : Counted) (moved : Bool) (pump : Pumped) (a b c : ServerState) (unread written written' : Option (List ℕ)) (ended : Bool)
    → TakesTurns number moment a b count between → Sends number moment (Ok moved) b c written written' between count' → Leaves pump ended (connection_at c number)
    → PumpsPart number moment pump a c unread unread written written' ended ended count count'
stopped number moment count between count' moved pump a b c unread written written' ended turns sent left =
    let before = pumps_turns number moment count between Again a b unread written ended turns tt in
    let then_sent = pumps_sent number moment between count' moved b c unread written written' ended sent in
    let both = pumps_then number moment count between count' Again a b c unread unread unread written written written' ended ended ended before then_sent in
    record {
      came = both.came;
      went = both.went;
      stretch = both.stretch;
      carried = carried_as pump unread unread written written' ended ended both.came both.went both.carried;
      left = left;
      counted = both.counted;
      unsent = both.unsent;
    }

-- a pump is a part that begins with a quantum
pub pumped : (number moment refused most : ℕ) (count' : Counted) (pump : Pumped) (a b : ServerState) (unread unread' written written' : Option (List ℕ)) (ended ended' : Bool)
    → PumpsPart number moment pump a b unread unread' written written' ended ended' (begun refused most) count'
    → Pumps number moment pump a b unread unread' written written' ended ended' refused count'.refused
pumped number moment refused most count' pump a b unread unread' written written' ended ended' h = record {
  came = h.came;
  went = h.went;
  stretch = h.stretch;
  carried = h.carried;
  left = h.left;
  counted = h.counted.refused;
  within = h.counted.within;
}
