use Rattle.std.proofs.Common.{refl}
use Rattle.mc_world.specs.declared.events.Event.TheVariants.{ServerSeesEnd}
use Rattle.mc_world.proofs.SiteEvents.WayLemmas.{done_as, happened, rested}
use Rattle.mc_world.proofs.courses.Course.happen.Goals as goal

-- each event applies if its call does something
pub returns-in-ProxyTurn-clause-applies : goal.returns-in-ProxyTurn-clause-applies
returns-in-ProxyTurn-clause-applies g c = rw (c.in-ProxyTurn.is) (rw (← c.self.view_is) c.take_request.ensures.applies)

pub returns-in-ToServer-clause-applies : goal.returns-in-ToServer-clause-applies
returns-in-ToServer-clause-applies g c = rw (c.in-ToServer.is) c.reach_server.ensures.applies

pub returns-in-ServerTurn-clause-applies : goal.returns-in-ServerTurn-clause-applies
returns-in-ServerTurn-clause-applies g c = rw (c.in-ServerTurn.is) c.serve.ensures.applies

pub returns-in-ToProxy-clause-applies : goal.returns-in-ToProxy-clause-applies
returns-in-ToProxy-clause-applies g c = rw (c.in-ToProxy.is) (rw (← c.self-in-ToProxy.view_is) c.reach_proxy.ensures.applies)

pub returns-in-ReplyTurn-clause-applies : goal.returns-in-ReplyTurn-clause-applies
returns-in-ReplyTurn-clause-applies g c = rw (c.in-ReplyTurn.is) (rw (← c.self-in-ReplyTurn.view_is) c.take_reply.ensures.applies)

pub returns-in-Emit-clause-applies : goal.returns-in-Emit-clause-applies
returns-in-Emit-clause-applies g c = rw (c.in-Emit.is) (rw (← c.self-in-Emit.view_is) c.put_answer.ensures.applies)

pub returns-in-LinkBack-clause-applies : goal.returns-in-LinkBack-clause-applies
returns-in-LinkBack-clause-applies g c = rw (c.in-LinkBack.is) (rw (← c.self-in-LinkBack.view_is) c.return_link.ensures.applies)

-- the end of a generation is seen
pub returns-in-ServerSeesEnd-clause-happens : goal.returns-in-ServerSeesEnd-clause-happens
returns-in-ServerSeesEnd-clause-happens g c =
    rw (c.in-ServerSeesEnd.is) (rw (← c.self-in-ServerSeesEnd.view_is) (done_as c.see_end.result _ _ _ _
    (λ h. happened (ServerSeesEnd c.in-ServerSeesEnd.proxy c.in-ServerSeesEnd.server c.in-ServerSeesEnd.generation) c.self-in-ServerSeesEnd.inside.clients.items
    c.self-in-ServerSeesEnd.inside.log.items c.self-in-ServerSeesEnd.inside.pool c.see_end.new.self refl h)
    (λ same. rested c.self-in-ServerSeesEnd.inside.clients.items c.self-in-ServerSeesEnd.inside.log.items c.self-in-ServerSeesEnd.inside.pool c.see_end.new.self same)
    c.see_end.ensures.ends))
