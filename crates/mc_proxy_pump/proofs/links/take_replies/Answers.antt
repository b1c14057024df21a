use Rattle.std.proofs.Common.{◌≡◌, rules, sym, subst, Result, Ok, Err}
use Rattle.mc_proxy.specs.SessionState.{link_at}
use Rattle.mc_stream.specs.declared.outcomes.Pumped.{Pumped}
use Rattle.mc_proxy_pump.specs.LinkRounds.{TakesReplies}
use Rattle.mc_proxy_pump.proofs.LinkLemmas.{turned_false, turned_true, turns_then}
use Rattle.mc_proxy_pump.proofs.links.take_replies.Goals as goal

pub returns-in_err-take_reply : goal.returns-in_err-take_reply
returns-in_err-take_reply c =
    let same : c.from_residual.result ≡ Err c.in_err-take_reply.field-0.0 = search rules in
    let P : Result (Unit {0}) Pumped → Type 0 = λ side. TakesReplies c.args.server side c.args.proxy.now c.take_reply.new.proxy c.args.woken.now.items c.take_reply.new.woken.items in
    subst P (sym same) (record {
      stretch = turns_then c.args.server (Err c.in_err-take_reply.field-0.0) c.args.proxy.now c.loop.proxy c.take_reply.new.proxy c.args.woken.now.items c.loop.woken.items c.take_reply.new.woken.items c.loop.invariant.0 c.in_err-take_reply.ensures;
      how = c.in_err-take_reply.ensures.how;
    })

pub loop-preserved : goal.loop-preserved
loop-preserved c = (
  turns_then c.args.server (Ok c.in_ok-take_reply.field-0) c.args.proxy.now c.loop.proxy c.take_reply.new.proxy c.args.woken.now.items c.loop.woken.items c.take_reply.new.woken.items c.loop.invariant.0 c.in_ok-take_reply.ensures,
  turned_true c.in_ok-take_reply.field-0 (link_at c.loop.proxy.links c.args.server) (link_at c.take_reply.new.proxy.links c.args.server) c.if-branch.true c.in_ok-take_reply.ensures.how,
)

pub returns : goal.returns
returns c = record {
  stretch = turns_then c.args.server (Ok c.in_ok-take_reply.field-0) c.args.proxy.now c.loop.proxy c.take_reply.new.proxy c.args.woken.now.items c.loop.woken.items c.take_reply.new.woken.items c.loop.invariant.0 c.in_ok-take_reply.ensures;
  how = turned_false c.in_ok-take_reply.field-0 (link_at c.loop.proxy.links c.args.server) (link_at c.take_reply.new.proxy.links c.args.server) c.if-branch.false c.in_ok-take_reply.ensures.how;
}
