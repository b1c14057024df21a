use Rattle.std.proofs.Common.{◌≡◌, ◌∷◌, ◌+◌, suc, arith}
use Rattle.mc_proxy.proofs.SessionLinkLemmas.{roomy_first, roomy_rest}
use Rattle.mc_proxy.proofs.sending.send_all.Goals as goal

-- there is room for the next command
pub hand_over-requires : goal.hand_over-requires
hand_over-requires c =
    let rest : c.loop-command.queue.items ≡ c.in-Some.command ∷ c.pop_front.new.self.items = c.in-Some.ensures.items in
    roomy_first c.loop-command.links c.in-Some.command c.pop_front.new.self.items (rw rest at c.loop-command.invariant.roomy)

-- it is sent, and after it there is room for the others
pub loop-command-preserved : goal.loop-command-preserved
loop-command-preserved c =
    let rest : c.loop-command.queue.items ≡ c.in-Some.command ∷ c.pop_front.new.self.items = c.in-Some.ensures.items in
    let next : c.loop-command.at + 1 ≡ suc c.loop-command.at = omega arith in
    record {
      handed = rw (next, c.hand_over.ensures.handed) (rw rest at c.loop-command.invariant.handed);
      roomy = roomy_rest c.loop-command.links c.hand_over.new.links c.in-Some.command c.pop_front.new.self.items c.hand_over.ensures.room
          (rw rest at c.loop-command.invariant.roomy);
      counted = omega (arith, rw rest at c.loop-command.invariant.counted);
    }
