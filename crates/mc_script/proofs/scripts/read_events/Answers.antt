use Rattle.std.proofs.Common.{sym, ◌∙◌, subst, List, Option}
use Rattle.std.specs.Option.{IfSome}
use Rattle.std.specs.List.{All}
use Rattle.std.proofs.lemmas.List.Elements.{All-push}
use Rattle.mc_script.specs.declared.events.ServerEvent.{ServerEvent}
use Rattle.mc_script.specs.Events.{IsEventOf}
use Rattle.mc_script.proofs.ScriptLemmas.{events_of-event, events_of-bad, events_of-nil}
use Rattle.mc_script.proofs.scripts.read_events.Goals as goal

pub loop-number-preserved : goal.loop-number-preserved
loop-number-preserved c =
    let is = sym c.in_ok-event.ensures.event ∙ c.in-Some-2.is in
    let of = subst (λ (o : Option ServerEvent). IfSome o (λ e. IsEventOf c.args.connections e)) c.in-Some-2.is c.in_ok-event.ensures.of in
    record {
      read = events_of-event c.args.connections c.loop-number.events.items c.push.new.self.items c.in-Some.number c.in-Some.line.now c.loop-number.number-iterator c.next.new.self c.in-Some-2.event c.in-Some.ensures.steps is c.in_ok-push-in-Some-2.ensures.items
          ∙ c.loop-number.invariant.read;
      all = subst (λ (es : List ServerEvent). All (λ e. IsEventOf c.args.connections e) es) (sym c.in_ok-push-in-Some-2.ensures.items)
          (All-push (λ e. IsEventOf c.args.connections e) c.loop-number.events.items c.in-Some-2.event c.loop-number.invariant.all of);
    }

pub returns-in-None-2-clause-error : goal.returns-in-None-2-clause-error
returns-in-None-2-clause-error c =
    let none = sym c.in_ok-event.ensures.event ∙ c.in-None-2.is in
    sym c.loop-number.invariant.read
    ∙ events_of-bad c.args.connections c.loop-number.events.items c.in-Some.number c.in-Some.line.now c.loop-number.number-iterator c.next.new.self c.in-Some.ensures.steps none

pub returns-clause-events : goal.returns-clause-events
returns-clause-events c =
    sym c.loop-number.invariant.read ∙ events_of-nil c.args.connections c.loop-number.events.items c.loop-number.number-iterator c.in-None.ensures.steps.0
