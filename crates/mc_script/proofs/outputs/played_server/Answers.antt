use Rattle.std.proofs.Common.{◌≡◌, ◌<◌, ◌≤◌, ℕ, List, length, get_or, sym, subst}
use Rattle.std.specs.List.{All}
use Rattle.mc_server.specs.ServerState.{ServerState}
use Rattle.mc_script.specs.declared.events.ServerEvent.{ServerEvent}
use Rattle.mc_script.specs.Answers.{cache_of}
use Rattle.mc_script.specs.Events.{IsEventOf, number_of}
use Rattle.mc_script.specs.ScriptSeen.{script_seen}
use Rattle.mc_script.proofs.HistoryLemmas.{Played, plays, all_played, played_none}
use Rattle.mc_script.proofs.outputs.played_server.Goals as goal

pub loop-event-init : goal.loop-event-init
loop-event-init g c =
    let script = c.args.script.now in
    let opening = cache_of (script_seen script) in
    subst (λ (s : ServerState). Played opening script.connections script.events.items 0 s) (sym c.in_ok-server.ensures.server)
    (played_none opening script.connections script.events.items)

-- the event at a place is one of the script
event_at : (connections : ℕ) (events seen : List ServerEvent) (i : ℕ) (e : ServerEvent) → seen ≡ events → i < length seen → e ≡ get_or seen i e → All (λ x. IsEventOf connections x) events
    → IsEventOf connections e
event_at connections events seen i e value inside is all =
    let there : i < length events = rw (← value) inside in
    let found : get_or events i e ≡ e = rw (← value) (sym is) in
    subst (λ (x : ServerEvent). IsEventOf connections x) found (all i e there)

pub play-requires-clause-connection : goal.play-requires-clause-connection
play-requires-clause-connection g c =
    let script = c.args.script.now in
    let event = c.event-item.result in
    let of =
    event_at script.connections script.events.items c.deref-event-items.result.now c.loop-event.event-index event c.deref-event-items.ensures.value c.loop-event-test.true c.event-item.is
    script.all in
    c.loop-event.invariant.are_open (number_of event) of.0

pub play-requires-clause-moment : goal.play-requires-clause-moment
play-requires-clause-moment g c =
    let script = c.args.script.now in
    let of =
    event_at script.connections script.events.items c.deref-event-items.result.now c.loop-event.event-index c.event-item.result c.deref-event-items.ensures.value c.loop-event-test.true
    c.event-item.is script.all in
    of.1

pub loop-event-preserved : goal.loop-event-preserved
loop-event-preserved g c =
    let script = c.args.script.now in
    let i = c.loop-event.event-index in
    let event = c.event-item.result in
    let inside : i < length script.events.items = rw (← c.deref-event-items.ensures.value) c.loop-event-test.true in
    let is : get_or script.events.items i event ≡ event = rw (← c.deref-event-items.ensures.value) (sym c.event-item.is) in
    plays (cache_of (script_seen script)) script.connections script.events.items i event c.loop-event.server c.play.new.server inside is c.loop-event.invariant
    c.in_ok-play.ensures.played

pub returns-clause-outputs : goal.returns-clause-outputs
returns-clause-outputs g c =
    let past : length c.args.script.now.events.items ≤ c.loop-event.event-index = rw (← c.deref-event-items.ensures.value) c.loop-event-test.false in
    all_played (script_seen c.args.script.now) c.loop-event.event-index c.loop-event.server past c.loop-event.invariant
