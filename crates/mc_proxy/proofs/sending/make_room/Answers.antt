use Rattle.std.proofs.Common.{◌≡◌, ◌∙◌, ℕ, inl, inr, length, get_or, sym, ap, arith}
use Rattle.std.proofs.lemmas.Bool.{cases_lt}
use Rattle.std.proofs.lemmas.List.{get_or_default}
use Rattle.mc_proxy.specs.Sending.{IsRoomy, roomy_at}
use Rattle.mc_proxy.proofs.sending.make_room.Goals as goal

-- one link more has room, and the others keep theirs
pub loop-command-preserved : goal.loop-command-preserved
loop-command-preserved c =
    let commands = c.args.commands.now in
    let n = c.loop-command.command-index in
    let now = c.make_room_on.new.links in
    record {
      unchanged = c.make_room_on.ensures.unchanged ∙ c.loop-command.invariant.unchanged;
      roomy = λ k d lt. elim (cases_lt k n) [
        | inl below ↦ c.make_room_on.ensures.kept _ _ _ (c.loop-command.invariant.roomy k d below)
        | inr last ↦
            let at : k ≡ n = omega (arith, last, lt) in
            let same : get_or commands k d ≡ c.command-item.result = ap (λ (i : ℕ). get_or commands i d) at
            ∙ get_or_default commands n d c.command-item.result c.loop-command-test.true
            ∙ sym c.command-item.is in
            let own : IsRoomy c.in-Some.bytes (length commands) (roomy_at now c.command-item.result.server) = c.in_ok-make_room_on.ensures.roomy in
            rw same own
      ];
    }

-- all have room after the last
pub returns-clause-roomy : goal.returns-clause-roomy
returns-clause-roomy c = λ k d lt. rw c.in-Some.ensures at (c.loop-command.invariant.roomy k d (omega (arith, lt, c.loop-command-test.false)))
