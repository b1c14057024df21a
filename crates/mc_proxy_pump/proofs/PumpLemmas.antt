-- Pumps of a session: several in sequence, and what each part of a round adds.
use Rattle.std.proofs.Common.{◌≡◌, ℕ, Bool, true, false, Ok, Err, List, [], ◌++◌, Option, Some, None, IsSome, refl}
use Rattle.mc_proxy.specs.SessionState.{SessionState}
use Rattle.mc_proxy.specs.ProxyState.{ProxyState, session_at}
use Rattle.mc_stream.specs.Sides.{IsStopOfSide}
use Rattle.mc_stream.specs.declared.outcomes.Pumped.{Pumped}
use Rattle.mc_stream.specs.declared.outcomes.Pumped.TheVariants.{Again, Blocked, Done, Failed}
use Rattle.mc_stream.proofs.SideLemmas.{came_any, carried_as, carried_then, carried_unheard, carries_brought, carries_none, carries_sent, stop_of_read, went_any}
use Rattle.mc_proxy_pump.specs.Calls.{SessionStretch}
use Rattle.mc_proxy_pump.specs.Clients.{Leaves, PumpsClient, foreign_after}
use Rattle.mc_proxy_pump.specs.Tallies.{Counts}
use Rattle.mc_proxy_pump.specs.Rounds.{Receives, Sends}
use Rattle.mc_proxy_pump.proofs.StretchLemmas.{stretch_none, stretch_then}

-- nothing was done yet
pub pumps_none : (number : ℕ) (s : ProxyState) (unread written : Option (List ℕ)) (ended : Bool) (counts : Counts) → IsSome (session_at s number)
    → PumpsClient number Again s s unread unread written written ended ended counts counts
pumps_none number s unread written ended counts there = record {
  came = [];
  went = [];
  stretch = stretch_none number s counts there;
  carried = carries_none unread written ended;
  left = tt;
}

-- a pump that goes on
pub pumps_then : (number : ℕ) (pump : Pumped) (a b c : ProxyState) (unread middle unread' written between written' : Option (List ℕ)) (ended later ended' : Bool) (first second third : Counts)
    → PumpsClient number Again a b unread middle written between ended later first second → PumpsClient number pump b c middle unread' between written' later ended' second third
    → PumpsClient number pump a c unread unread' written written' ended ended' first third
pumps_then number pump a b c unread middle unread' written between written' ended later ended' first second third h k = record {
  came = h.came ++ k.came;
  went = h.went ++ k.went;
  stretch = stretch_then number a b c h.came k.came h.went k.went first second third h.stretch k.stretch;
  carried = carried_then pump unread middle unread' written between written' ended later ended' h.came k.came h.went k.went h.carried k.carried;
  left = k.left;
}

-- after a stop of a side nothing is claimed
left_by_side : (pump : Pumped) (left : ℕ) (ended : Bool) (proxy : ProxyState) (session : Option SessionState) → IsStopOfSide pump → Leaves pump left ended proxy session
left_by_side Again left ended proxy session h = tt
left_by_side Blocked left ended proxy session h = absurd h
left_by_side Done left ended proxy session h = absurd h
left_by_side Failed left ended proxy session h = tt

-- turns alone
pub pumps_turns : (number : ℕ) (pump : Pumped) (a b : ProxyState) (unread written : Option (List ℕ)) (ended : Bool) (counts counts' : Counts)
    → SessionStretch number a b [] [] counts counts' → Leaves pump counts'.1 ended b (session_at b number) → PumpsClient number pump a b unread unread written written ended ended counts counts'
pumps_turns number pump a b unread written ended counts counts' h left = record {
  came = [];
  went = [];
  stretch = h;
  carried = carried_as pump unread unread written written ended ended [] [] (carries_none unread written ended);
  left = left;
}

-- a write that took bytes
pub pumps_sent : (number : ℕ) (moved : Bool) (a b : ProxyState) (unread written written' : Option (List ℕ)) (ended : Bool) (counts counts' : Counts)
    → Sends number (Ok moved) a b written written' counts counts' → PumpsClient number Again a b unread unread written written' ended ended counts counts'
pumps_sent number moved a b unread written written' ended counts counts' h = record {
  came = [];
  went = h.went;
  stretch = h.stretch;
  carried = carries_sent unread written written' ended h.went (went_any moved written written' h.went (b ≡ a) h.how);
  left = tt;
}

-- a write that stopped the pump
pub pumps_unsent : (number : ℕ) (pump : Pumped) (a b : ProxyState) (unread written written' : Option (List ℕ)) (ended : Bool) (counts counts' : Counts)
    → Sends number (Err pump) a b written written' counts counts' → PumpsClient number pump a b unread unread written written' ended ended counts counts'
pumps_unsent number pump a b unread written written' ended counts counts' h = record {
  came = [];
  went = h.went;
  stretch = h.stretch;
  carried = carried_as pump unread unread written written' ended ended [] h.went (carries_sent unread written written' ended h.went h.how.1);
  left = left_by_side pump counts'.1 ended b (session_at b number) h.how.0;
}

-- a read after which the pump goes on
pub pumps_heard : (number : ℕ) (moved : Bool) (pump : Pumped) (a b : ProxyState) (unread unread' written : Option (List ℕ)) (ended ended' : Bool) (counts counts' : Counts) → ended ≡ false
    → Receives number (Ok moved) a b unread unread' ended' counts counts' → Leaves pump counts'.1 ended' b (session_at b number)
    → PumpsClient number pump a b unread unread' written written ended ended' counts counts'
pumps_heard number moved pump a b unread unread' written ended ended' counts counts' open_yet h left = record {
  came = h.came;
  went = [];
  stretch = h.stretch;
  carried = carried_as pump unread unread' written written ended ended' h.came []
      (carries_brought unread unread' written ended ended' h.came open_yet (came_any moved unread unread' ended' h.came (b ≡ a) h.how));
  left = left;
}

-- a read that stopped the pump
pub pumps_unheard : (number : ℕ) (pump : Pumped) (a b : ProxyState) (unread unread' written : Option (List ℕ)) (ended ended' : Bool) (counts counts' : Counts) → ended ≡ false
    → Receives number (Err pump) a b unread unread' ended' counts counts' → PumpsClient number pump a b unread unread' written written ended ended' counts counts'
pumps_unheard number pump a b unread unread' written ended ended' counts counts' open_yet h = record {
  came = h.came;
  went = [];
  stretch = h.stretch;
  carried = carried_unheard pump unread unread' written ended ended' h.came open_yet h.how;
  left = left_by_side pump counts'.1 ended' b (session_at b number) (stop_of_read pump unread unread' ended' h.came h.how);
}

-- turns, a write, and then a stop
pub stopped : (number : ℕ) (moved : Bool) (pump : Pumped) (a b c : ProxyState) (unread written written' : Option (List ℕ)) (ended : Bool) (first second third : Counts)
    → SessionStretch number a b [] [] first second → Sends number (Ok moved) b c written written' second third → Leaves pump third.1 ended c (session_at c number)
    → PumpsClient number pump a c unread unread written written' ended ended first third
stopped number moved pump a b c unread written written' ended first second third turns sent left =
    let before = pumps_turns number Again a b unread written ended first second turns tt in
    let then_sent = pumps_sent number moved b c unread written written' ended second third sent in
    let both = pumps_then number Again a b c unread unread unread written written written' ended ended ended first second third before then_sent in
    record {
      came = both.came;
      went = both.went;
      stretch = both.stretch;
      carried = carried_as pump unread unread written written' ended ended both.came both.went both.carried;
      left = left;
    }

-- a session that is not open is not foreign
pub foreign_closed : (session : Option SessionState) (before : Bool) → ((session ≡ None → ⊥) → ⊥) → before ≡ foreign_after Failed session before
foreign_closed None true h = refl
foreign_closed None false h = refl
foreign_closed (Some s) before h = absurd (h (λ e. absurd cc))
