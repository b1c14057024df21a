use Rattle.std.specs.Prelude.{◌≡◌, ◌≤◌, if◌then◌else◌}
use Rattle.mc_request.specs.Parts.{update_said}
use Rattle.mc_request.specs.declared.meta.MetaCommand.TheVariants as metas
use Rattle.mc_request.specs.declared.parts.Atom.TheVariants as atoms
use Rattle.mc_request.specs.Parts.{update_seen}
use Rattle.mc_reply.specs.Replies.{filled}
use Rattle.mc_reply.specs.Seen.{value_len}
use Rattle.mc_cache.specs.CacheState.{front_value}
use Rattle.mc_cache.specs.Refusals.{is_refusal}
use Rattle.mc_cache.specs.Step.{step_of}
use Rattle.mc_server.specs.Rooms.{update_value_room}
use Rattle.mc_server.proofs.MetaRoomLemmas.{update_fits, if_ok_then}
use Rattle.mc_server.proofs.answering.meta_reply.Goals as goal

-- an update shows at most what it stored
pub returns-in-Update-clause-fits : goal.returns-in-Update-clause-fits
returns-in-Update-clause-fits g c =
    let good = rw c.in-Update.is at c.requires.good in
    let update = update_said c.args.coded c.in-Update.update in
    let s = c.args.cache.now in
    let t = c.meta_update.new.self in
    let show = c.in-Update.show in
    rw c.in-Update.is (if_ok_then c.meta_update.result
    (λ reply. step_of s (atoms.Meta (metas.Update (update_seen c.said.result) show)) c.args.moment (is_refusal reply) ≡ (t, filled reply (front_value t.items)))
    (λ reply. value_len (filled reply (front_value t.items)) ≤ (if show.value then update_value_room update else 0))
    (λ reply front. update_fits s t update show c.args.coded c.args.moment (is_refusal reply) reply (front_value t.items) good (rw c.said.ensures at front))
    c.meta_update.ensures.front)
