use Rattle.std.proofs.Common.{◌+◌, ◌≤◌, length, length-drop, arith}
use Rattle.mc_link.proofs.LinkLemmas.{kept_is_no_longer}
use Rattle.mc_link.proofs.links.Link.taken_out.Goals as goal

pub returns-clause-room : goal.returns-clause-room
returns-clause-room c =
    let inside = c.self.inside in
    let go = c.consume_front-self-inside in
    let asked = rw (← c.self.view_is) at c.requires in
    let shorter : length go.new.bytes.items ≤ length inside.output.items =
    kept_is_no_longer (inside.sent + c.args.count) go.result inside.output.items go.new.bytes.items
    (omega (arith, length-drop inside.sent inside.output.items, inside.output.ok, c.self.invariant.half)) (omega (arith, go.new.bytes.ok)) go.ensures.kept
    (omega (arith, go.new.bytes.ok)) (λ few. go.ensures.moves_little (omega (arith, inside.output.ok))) in
    record {
      bytes = rw (← c.self.view_is) (omega (arith, inside.output.ok, go.new.bytes.ok));
      heads = rw (← c.self.view_is) (omega arith);
    }
