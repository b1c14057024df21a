-- Links on which nothing can be done have nothing left to do.
use Rattle.std.proofs.Common.{◌≡◌, ◌∙◌, ℕ, zero, suc, ◌+◌, ◌<◌, true, List, [], ◌∷◌, ◌++◌, length, map, drop, Some, slice_get, refl, sym, ap, subst, append-nil, arith}
use Rattle.std.proofs.lemmas.List.{length-append, length-drop, length-map}
use Rattle.mc_request.specs.Atoms.{head_of}
use Rattle.mc_request.specs.declared.parts.Parsed.{Parsed}
use Rattle.mc_request_reader.specs.Reader.{rest_of}
use Rattle.mc_request.specs.Requests.{requests_of}
use Rattle.mc_reply.specs.declared.replies.Reply.{Reply as AReply}
use Rattle.mc_link.specs.LinkState.{LinkState}
use Rattle.mc_link.specs.Turns.{Takes}
use Rattle.mc_link.specs.declared.turns.Tag.{Tag}
use Rattle.mc_cache.specs.CacheState.{CacheState}
use Rattle.mc_server.specs.ServerState.{connection_at, output_of}
use Rattle.mc_server.specs.Turns.{waiting_of}
use Rattle.mc_account.specs.Lanes.{CanHave, Lane, LaneHolds, as_waiting, replies_text, sent_on}
use Rattle.mc_account.specs.Orders.{Order, Tagged}
use Rattle.mc_history.specs.Made.{Made, commands_on, made_on, read_as, replies_on}
use Rattle.mc_history.proofs.GenerationLemmas.{carried}
use Rattle.mc_world.specs.Homes.{Homes, of_proxy}
use Rattle.mc_world.specs.Sites.{SiteHolds}
use Rattle.mc_world.specs.WorldState.{SiteState, way_by}
use Rattle.mc_world.proofs.SiteEvents.SiteLemmas.{joined}

-- if no byte can be moved there is none
pub none_left : (xs : List ℕ) → ((0 < 1) × (0 < length xs) → ⊥) → xs ≡ []
none_left [] never = refl
none_left (x ∷ xs) never = absurd (never (omega arith, omega arith))

-- each index inside a list has an element
pub some_at : {T : Type 0} (xs : List T) (i : ℕ) → i < length xs → (x : T) × (slice_get xs i ≡ Some x)
some_at [] i inside = absurd (omega (arith, inside))
some_at (x ∷ xs) zero inside = (x, refl)
some_at (x ∷ xs) (suc i) inside = some_at xs i (omega (arith, inside))

-- if replies to all commands have arrived and none can be taken, no command is pending
waiting_none : (commands : List Tagged) (later : List (AReply (List ℕ))) (link : LinkState) → link.waiting ≡ as_waiting commands → link.unread ≡ replies_text commands later
    → CanHave commands later → length commands ≡ length later → ((tag : Tag) (reply : AReply (List ℕ)) (after : LinkState) → Takes link tag reply after → ⊥) → link.waiting ≡ []
waiting_none [] later link waits unread can sizes never = waits
waiting_none (c ∷ cs) [] link waits unread can sizes never = absurd (omega (arith, sizes))
waiting_none (c ∷ cs) (r ∷ rs) link waits unread can sizes never =
    absurd (never c.1 r (record link { waiting = as_waiting cs; unread = replies_text cs rs }) (record {
      head = head_of c.0;
      oldest = waits;
      can = can.0;
      spelled = unread;
      others = refl;
    }))

-- On a living generation of a proxy no byte moves, its server takes nothing and its proxy takes no reply: then no command is pending on
-- its link.
pub living_none : (home : Homes) (proxy place : ℕ) (order : Order) (lanes : ℕ → Lane) (links : ℕ → LinkState) (opening : CacheState) (site : SiteState) → (links proxy).up ≡ true
    → SiteHolds home place order lanes links opening site → LaneHolds place (of_proxy home proxy order) (lanes proxy) (links proxy) → (links proxy).output ≡ []
    → output_of (connection_at site.server (way_by site proxy).connection) ≡ []
    → (0 < length (waiting_of (connection_at site.server (way_by site proxy).connection)) → ⊥)
    → ((tag : Tag) (reply : AReply (List ℕ)) (after : LinkState) → Takes (links proxy) tag reply after → ⊥) → (links proxy).waiting ≡ []
living_none home proxy place order lanes links opening site up h holds no_output no_coming unserved never =
    let own = of_proxy home proxy order in
    let lane = lanes proxy in
    let link = links proxy in
    let number = (way_by site proxy).connection in
    let living = h.living proxy up in
    let is_joined = joined home proxy place order lanes links opening site up h holds in
    let carries = carried place own lane link opening h.made number living.end living.others is_joined in
    let sizes : length (sent_on place own lane) ≡ length (commands_on number h.made ++ living.others) = ap (λ (cs : List Tagged). length cs) living.commands in
    let given : length (replies_on number h.made) ≡ length lane.replies + length carries.front.later =
    ap (λ (rs : List (AReply (List ℕ))). length rs) carries.front.all_is ∙ length-append lane.replies carries.front.later in
    let both : length (replies_on number h.made) ≡ length (commands_on number h.made) =
    length-map (made_on number h.made) (λ (m : Made). m.reply) ∙ sym (length-map (made_on number h.made) (λ (m : Made). m.command)) in
    let read : length (rest_of living.end.reader []) ≡ length (map read_as living.others ++ requests_of []) =
    ap (λ (bytes : List ℕ). length (rest_of living.end.reader bytes)) (sym (append-nil link.output ∙ no_output)) ∙ ap (λ (ts : List Parsed). length ts) (carries.reads []) in
    let unread_none : 0 < length (rest_of living.end.reader []) → ⊥ = λ some. unserved (subst (λ (o : _). 0 < length (waiting_of o)) (sym living.is_open) some) in
    let no_others : length living.others ≡ 0 = (elim (rest_of living.end.reader []) as (λ rest. length rest ≡ length (map read_as living.others ++ requests_of []) → (0 < length rest → ⊥) → length living.others ≡ 0) [
      | [] ↦ λ e none. omega (arith, e, length-append (map read_as living.others) (requests_of []), length-map living.others read_as)
      | t ∷ ts ↦ λ e none. absurd (none (omega arith))
    ]) read unread_none in
    let dropped = length-drop (length lane.replies) (sent_on place own lane) in
    let end_output : living.end.output ≡ [] = subst (λ (o : _). output_of o ≡ []) living.is_open no_coming in
    let unread : link.unread ≡ replies_text (drop (length lane.replies) (sent_on place own lane)) carries.front.later =
    sym (append-nil link.unread) ∙ ap (λ (bytes : List ℕ). link.unread ++ bytes) (sym end_output) ∙ carries.front.bytes_are in
    waiting_none (drop (length lane.replies) (sent_on place own lane)) carries.front.later link holds.waiting unread carries.front.can
    (omega (arith, sizes, given, both, no_others, dropped, length-append (commands_on number h.made) living.others)) never
