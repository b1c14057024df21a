-- A data block plays no part in an answer.
use Rattle.std.proofs.Common.{◌≡◌, Bool, true, false, List, map, ℕ, [], ◌∷◌, if◌then◌else◌, refl, ap}
use Rattle.mc_request.specs.declared.meta.MetaCommand.{MetaCommand}
use Rattle.mc_request.specs.declared.meta.MetaCommand.TheVariants as metas
use Rattle.mc_request.specs.declared.parts.Request.{Request}
use Rattle.mc_request.specs.declared.parts.Request.TheVariants.{Get, Update, Meta, MetaNoop, Version, Quit}
use Rattle.mc_request.specs.declared.parts.Update as updates
use Rattle.mc_request.specs.declared.parts.Update.TheVariants.{Store, Touch, Delete, Count, FlushAll}
use Rattle.mc_request.specs.Hides.{hidden_update, hidden_by, hides_of}
use Rattle.mc_request.specs.Parts.{key_in, key_in_meta}
use Rattle.mc_request.specs.declared.hides.Hides.{Hides}
use Rattle.mc_reply.specs.declared.replies.Reply.{Reply}
use Rattle.mc_reply.specs.Spelling.{shown_line, answer_of}
use Rattle.mc_reply.specs.MetaRooms.{part_room}
use Rattle.mc_route.specs.declared.outcomes.Outcome.{Outcome}
use Rattle.mc_route.specs.Joins.{lost_line, has_lost, replies_in, joined_answer}
use Rattle.mc_route.specs.declared.losses.Losses.{Losses}
use Rattle.mc_route.specs.declared.losses.Losses.TheVariants.{Told, Missed}
use Rattle.mc_route.specs.Losses.{hides_any, is_missed, is_retrieval, is_silent, joined_with, reply_or_miss}
use Rattle.mc_route.specs.Kept.{emptied, emptied_meta, without_block}
use Rattle.mc_route.specs.Rooms.{join_room}

hides-update : (update : updates.Update (List ℕ) (List ℕ)) (noreply : Bool)
    → hides_of (Update (emptied update) noreply) ≡ hides_of (Update update noreply)
hides-update update true = refl
hides-update update false = refl

hidden-update : (update : updates.Update (List ℕ) (List ℕ)) → hidden_update (emptied update) ≡ hidden_update update
hidden-update (Store mode compare key flags exptime block) = refl
hidden-update (Touch key exptime) = refl
hidden-update (Delete key compare invalidate) = refl
hidden-update (Count key counting) = refl
hidden-update (FlushAll delay) = refl

hides-meta : (command : MetaCommand (List ℕ) (List ℕ)) (quiet : Bool) → hidden_by (emptied_meta command) quiet ≡ hidden_by command quiet
hides-meta command false = refl
hides-meta (metas.Get key get) true = refl
hides-meta (metas.Update update show) true = hidden-update update

key_in-update : (update : updates.Update (List ℕ) (List ℕ)) → key_in (emptied update) ≡ key_in update
key_in-update (Store mode compare key flags exptime block) = refl
key_in-update (Touch key exptime) = refl
key_in-update (Delete key compare invalidate) = refl
key_in-update (Count key counting) = refl
key_in-update (FlushAll delay) = refl

key_in-meta : (command : MetaCommand (List ℕ) (List ℕ)) → key_in_meta (emptied_meta command) ≡ key_in_meta command
key_in-meta (metas.Get key get) = refl
key_in-meta (metas.Update update show) = key_in-update update

answer_of-kept : (request : Request) (replies : List (Reply (List ℕ))) → answer_of (without_block request) replies ≡ answer_of request replies
answer_of-kept (Get keys exptime with_cas) replies = refl
answer_of-kept (Update update noreply) [] = refl
answer_of-kept (Update update noreply) (reply ∷ replies) = ap (λ (hides : Hides). shown_line hides reply) (hides-update update noreply)
answer_of-kept (Meta command form) [] = refl
answer_of-kept (Meta command form) (reply ∷ replies) =
    rw (hides-meta command form.quiet, key_in-meta command) refl
answer_of-kept MetaNoop replies = refl
answer_of-kept Version replies = refl
answer_of-kept Quit replies = refl

pub joined-kept : (request : Request) (outcomes : List Outcome) → joined_answer (without_block request) outcomes ≡ joined_answer request outcomes
joined-kept request outcomes =
    ap (λ (bytes : List ℕ). if has_lost outcomes then lost_line else bytes) (answer_of-kept request (replies_in outcomes))

-- ---- by the site's choice

retrieval-kept : (request : Request) → is_retrieval (without_block request) ≡ is_retrieval request
retrieval-kept (Get keys exptime with_cas) = refl
retrieval-kept (Update update noreply) = refl
retrieval-kept (Meta (metas.Get key get) form) = refl
retrieval-kept (Meta (metas.Update update show) form) = refl
retrieval-kept MetaNoop = refl
retrieval-kept Version = refl
retrieval-kept Quit = refl

hides-kept : (request : Request) → hides_of (without_block request) ≡ hides_of request
hides-kept (Get keys exptime with_cas) = refl
hides-kept (Update update noreply) = hides-update update noreply
hides-kept (Meta command form) = hides-meta command form.quiet
hides-kept MetaNoop = refl
hides-kept Version = refl
hides-kept Quit = refl

missed-kept : (losses : Losses) (request : Request) → is_missed losses (without_block request) ≡ is_missed losses request
missed-kept Told request = refl
missed-kept Missed request = retrieval-kept request

silent-kept : (losses : Losses) (request : Request) → is_silent losses (without_block request) ≡ is_silent losses request
silent-kept Told request = refl
silent-kept Missed request = ap (λ (hides : Hides). hides_any hides) (hides-kept request)

pub with-kept : (losses : Losses) (request : Request) (outcomes : List Outcome) → joined_with losses (without_block request) outcomes ≡ joined_with losses request outcomes
with-kept losses request outcomes =
    rw (missed-kept losses request, silent-kept losses request, answer_of-kept request (map reply_or_miss outcomes), answer_of-kept request (replies_in outcomes)) refl

part_room-kept : (request : Request) → part_room (without_block request) ≡ part_room request
part_room-kept (Get keys exptime with_cas) = refl
part_room-kept (Update update noreply) = refl
part_room-kept (Meta command form) = refl
part_room-kept MetaNoop = refl
part_room-kept Version = refl
part_room-kept Quit = refl

pub join_room-kept : (request : Request) (outcomes : List Outcome) → join_room (without_block request) outcomes ≡ join_room request outcomes
join_room-kept request outcomes = rw (part_room-kept request) refl
