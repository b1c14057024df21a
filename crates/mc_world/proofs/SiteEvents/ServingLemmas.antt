-- The servers of a pool that holds serve a proxy.
use Rattle.std.proofs.Common.{◌≡◌, ◌∙◌, ℕ, zero, suc, ◌+◌, ◌<◌, ◌≤◌, Bool, true, false, List, [], ◌∷◌, ◌++◌, length, map, drop, Option, Some, None, nat_lt, slice_get, refl, sym, ap, subst, append_assoc, append-nil, arith}
use Rattle.std.specs.List.{list_all}
use Rattle.std.proofs.lemmas.Bool.{and_parts, lt-ltb, ltb-true}
use Rattle.std.proofs.lemmas.List.{length-append, length-drop, length-map}
use Rattle.mc_request.specs.Atoms.{head_of}
use Rattle.mc_request.specs.Requests.{requests_of, requests_within}
use Rattle.mc_request.specs.declared.faults.Fault.{Fault}
use Rattle.mc_request.proofs.RequestLemmas.{goes_on}
use Rattle.mc_request_reader.specs.Reader.{rest_from, rest_of}
use Rattle.mc_reply.specs.declared.replies.Reply.{Reply as AReply}
use Rattle.mc_codec.proofs.HeadLemmas.{atom_begins}
use Rattle.mc_ring.specs.Rings.{RingState}
use Rattle.mc_link.specs.LinkState.{LinkState, Waiting}
use Rattle.mc_link.specs.Turns.{HasStrange, Takes}
use Rattle.mc_link.specs.declared.turns.Tag.{Tag}
use Rattle.mc_cache.specs.CacheState.{CacheState}
use Rattle.mc_cache_laws.specs.GoodCaches.{IsGoodCache}
use Rattle.mc_server.specs.ServerState.{ConnectionState, ServerState, connection_at}
use Rattle.mc_server.specs.Turns.{waiting_of}
use Rattle.mc_server.proofs.HoldsLemmas.{stood}
use Rattle.mc_account.specs.Lanes.{Lane, LaneHolds, LinkHolds, as_waiting, replies_text, sent_on}
use Rattle.mc_account.specs.Orders.{Order, Tagged}
use Rattle.mc_account.proofs.OrderLemmas.{passes_parts}
use Rattle.mc_history.specs.Generations.{is_good}
use Rattle.mc_history.specs.Made.{Made, commands_on, made_on, read_as, replies_on, taking_of}
use Rattle.mc_history.proofs.GenerationLemmas.{carried, not_nothing, reads_others}
use Rattle.mc_world.specs.CourseHolds.{CourseHolds}
use Rattle.mc_world.specs.Homes.{Homes, of_proxy}
use Rattle.mc_world.specs.Serving.{PoolServes, ServesProxy, SiteServes}
use Rattle.mc_world.specs.Sites.{SiteHolds}
use Rattle.mc_world.specs.WorldState.{SiteState, StaleState, WayState, home_of, link_of, way_by}
use Rattle.mc_world.specs.Worlds.{CourseState}
use Rattle.mc_world.proofs.SiteEvents.SiteLemmas.{joined, next_is}

no_requests : requests_of [] ≡ []
unfolding requests_of requests_within
no_requests = refl

-- if something of a reader can be taken, something can when more has arrived
still_some : (closed : Bool) (dropping : Option (Fault × ℕ)) (unread more : List ℕ) → 0 < length (rest_from closed dropping (unread ++ [])) → 0 < length (rest_from closed dropping (unread ++ more))
still_some true dropping unread more some = some
still_some false None unread more some =
    let on = goes_on unread more in
    grind (arith, append-nil, length-append)
still_some false (Some d) unread more some = grind (arith, nat_lt, lt-ltb, ltb-true, length-append)

-- what a server reads of a connection while these commands are on their way
abbrev Reads : ConnectionState → List ℕ → List Tagged → Type 0
Reads end going others = (more : List ℕ) → rest_of end.reader (going ++ more) ≡ map read_as others ++ requests_of more

-- if a request can be taken, one is on its way
some_read : (end : ConnectionState) (going : List ℕ) (others : List Tagged) → Reads end going others → 0 < length (rest_of end.reader []) → 0 < length others
some_read end going others reads some =
    let more : 0 < length (rest_of end.reader (going ++ [])) = still_some end.reader.closed end.reader.dropping end.reader.unread (going ++ []) some in
    grind (arith, length-append, length-map, no_requests)

-- likewise for an open connection
some_waits : (server : ServerState) (number : ℕ) (end : ConnectionState) (going : List ℕ) (others : List Tagged) → connection_at server number ≡ Some end → Reads end going others
    → 0 < length (waiting_of (connection_at server number)) → 0 < length others
some_waits server number end going others is_open reads some =
    some_read end going others reads (subst (λ (o : Option ConnectionState). 0 < length (waiting_of o)) is_open some)

-- a server serves a proxy on it, if the commands can be encoded
serves_on : (server : ServerState) (number : ℕ) (end : ConnectionState) (going : List ℕ) (others : List Tagged) → connection_at server number ≡ Some end → Reads end going others
    → list_all is_good others ≡ true → IsGoodCache server.cache → ServesProxy number server
serves_on server number end going others is_open reads good good_cache = record {
  end = end;
  is_open = is_open;
  spelled = λ what after first.
      let next = next_is others what (rest_of after (going ++ [])) (sym (reads []) ∙ first.rest (going ++ [])) in
      let good_all : list_all is_good (next.command ∷ next.past) ≡ true = ap (λ (cs : List Tagged). list_all is_good cs) (sym next.is) ∙ good in
      (next.command.0, next.what_is, (and_parts (is_good next.command) (list_all is_good next.past) good_all).0);
  good_cache = good_cache;
}

-- if joined bytes are empty, so is their first part
front_none : (xs ys : List ℕ) → xs ++ ys ≡ [] → xs ≡ []
front_none [] ys e = refl
front_none (x ∷ xs) ys e = absurd cc

-- the oldest pending command
same_head : (x y : Waiting) (xs ys : List Waiting) → x ∷ xs ≡ y ∷ ys → x.0 ≡ y.0
same_head x y xs ys e = let first : x ≡ y = cc in ap (λ (w : Waiting). w.0) first

-- if commands can be encoded, so can the later ones
good_later : (count : ℕ) (commands : List Tagged) → list_all is_good commands ≡ true → list_all is_good (drop count commands) ≡ true
good_later zero commands good = good
good_later (suc count) [] good = refl
good_later (suc count) (c ∷ cs) good = good_later count cs (and_parts (is_good c) (list_all is_good cs) good).1

-- if a reply can be taken, one was given that was not taken
some_later : (commands : List Tagged) (later : List (AReply (List ℕ))) (link after : LinkState) (tag : Tag) (reply : AReply (List ℕ)) (past : List ℕ) → Takes link tag reply after
    → list_all is_good commands ≡ true → link.waiting ≡ as_waiting commands → link.unread ++ past ≡ replies_text commands later → 1 ≤ length later
some_later commands (r ∷ rs) link after tag reply past takes good waits is = omega arith
some_later [] [] link after tag reply past takes good waits is =
    let clash : [] ≡ (takes.head, tag) ∷ after.waiting = sym waits ∙ takes.oldest in absurd cc
some_later (c ∷ cs) [] link after tag reply past takes good waits is =
    grind (arith, append_assoc, and_parts, atom_begins, not_nothing, front_none, same_head)

-- what holds of a proxy's living generation
record LivingServes (link : LinkState) (way : WayState) (server : ServerState) : Type 0 where
  pub serves : ServesProxy way.connection server
  pub waits : 0 < length (waiting_of (connection_at server way.connection)) → way.ahead < length link.waiting
  pub never_strange : HasStrange link.waiting link.unread → ⊥
  pub replied : (tag : Tag) (reply : AReply (List ℕ)) (after : LinkState) → Takes link tag reply after → 1 ≤ way.ahead

living_serves : (home : Homes) (proxy place : ℕ) (order : Order) (lanes : ℕ → Lane) (links : ℕ → LinkState) (opening : CacheState) (site : SiteState) → (links proxy).up ≡ true
    → SiteHolds home place order lanes links opening site → LaneHolds place (of_proxy home proxy order) (lanes proxy) (links proxy) → LivingServes (links proxy) (way_by site proxy) site.server
living_serves home proxy place order lanes links opening site up h holds =
    let living = h.living proxy up in
    let own : Order = of_proxy home proxy order in
    let lane : Lane = lanes proxy in
    let link : LinkState = links proxy in
    let c : ℕ = (way_by site proxy).connection in
    let is_joined = joined home proxy place order lanes links opening site up h holds in
    let carries = carried place own lane link opening h.made c living.end living.others is_joined in
    let parts = passes_parts is_good (commands_on c h.made) living.others (ap (λ (cs : List Tagged). list_all is_good cs) (sym living.commands) ∙ is_joined.good) in
    let sizes : length (sent_on place own lane) ≡ length (commands_on c h.made ++ living.others) = ap (λ (cs : List Tagged). length cs) living.commands in
    let waiting : length link.waiting ≡ length (drop (length lane.replies) (sent_on place own lane)) =
    ap (λ (ws : List Waiting). length ws) holds.waiting ∙ length-map (drop (length lane.replies) (sent_on place own lane)) (λ (x : Tagged). (head_of x.0, x.1)) in
    let given : length (replies_on c h.made) ≡ length lane.replies + length carries.front.later =
    ap (λ (rs : List (AReply (List ℕ))). length rs) carries.front.all_is ∙ length-append lane.replies carries.front.later in
    let both : length (replies_on c h.made) ≡ length (commands_on c h.made) =
    length-map (made_on c h.made) (λ (m : Made). m.reply) ∙ sym (length-map (made_on c h.made) (λ (m : Made). m.command)) in
    record {
      serves = serves_on site.server c living.end link.output living.others living.is_open carries.reads parts.1 h.good_cache;
      waits = λ some.
          let more = some_waits site.server c living.end link.output living.others living.is_open carries.reads some in
          omega (
            arith,
            more,
            waiting,
            sizes,
            living.ahead,
            length-append (commands_on c h.made) living.others,
            length-drop (length lane.replies) (sent_on place own lane),
          );
      never_strange = carries.never_strange;
      replied = λ tag reply after takes.
          let more = some_later (drop (length lane.replies) (sent_on place own lane)) carries.front.later link after tag reply living.end.output takes
          (good_later (length lane.replies) (sent_on place own lane) is_joined.good) holds.waiting carries.front.bytes_are in
          omega (arith, more, given, both, living.ahead);
    }

-- what holds of a lost generation
record LostServes (site : SiteState) (way : StaleState) : Type 0 where
  pub serves : ServesProxy way.connection site.server
  pub untaken : 0 < length (waiting_of (connection_at site.server way.connection)) → 0 < length way.untaken

lost_serves : (home : Homes) (place : ℕ) (order : Order) (lanes : ℕ → Lane) (links : ℕ → LinkState) (opening : CacheState) (site : SiteState) (i : ℕ) (way : StaleState) → slice_get site.lost i ≡ Some way
    → SiteHolds home place order lanes links opening site → LostServes site way
lost_serves home place order lanes links opening site i way at h =
    let own = h.lost i way at in
    let reads = reads_others opening way.connection (h.texts way.connection) way.going (h.sent way.connection) h.made own.end own.others
    (stood opening h.texts h.sent (map taking_of h.made) site.server way.connection own.end h.server own.is_open) own.put own.good in
    let sizes : length way.untaken ≡ length (map (λ (c : Tagged). c.1) own.others) = ap (λ (ts : List Tag). length ts) own.untaken in
    record {
      serves = serves_on site.server way.connection own.end way.going own.others own.is_open reads
          (passes_parts is_good (commands_on way.connection h.made) own.others own.good).1 h.good_cache;
      untaken = λ some.
          let more = some_waits site.server way.connection own.end way.going own.others own.is_open reads some in
          omega (arith, more, sizes, length-map own.others (λ (c : Tagged). c.1));
    }

-- a site serves, if it holds
pub site_serves : (home : Homes) (place : ℕ) (order : Order) (lanes : ℕ → Lane) (links : ℕ → LinkState) (opening : CacheState) (site : SiteState)
    → ((proxy : ℕ) → (way_by site proxy).generation ≡ (links proxy).generation)
    → SiteHolds home place order lanes links opening site → ((proxy : ℕ) → LinkHolds place (of_proxy home proxy order) (lanes proxy) (links proxy)) → SiteServes links site
site_serves home place order lanes links opening site generation h holds =
    let serves : (proxy : ℕ) → (links proxy).up ≡ true → LivingServes (links proxy) (way_by site proxy) site.server =
    λ proxy up. living_serves home proxy place order lanes links opening site up h ((holds proxy).0 up) in
    record {
      ways = λ proxy. record {
        generation = generation proxy;
        living = λ up. (serves proxy up).serves;
        waits = λ up. (serves proxy up).waits;
        never_strange = λ up. (serves proxy up).never_strange;
        replied = λ tag reply after up. (serves proxy up).replied tag reply after;
      };
      lost = λ i way at. (lost_serves home place order lanes links opening site i way at h).serves;
      untaken = λ i way at. (lost_serves home place order lanes links opening site i way at h).untaken;
    }

-- the pool of a course that holds serves
pub pool_serves : (ring : RingState) (opening : CacheState) (c : CourseState) → CourseHolds ring opening c → PoolServes c.pool
pool_serves ring opening c h = record {
  sited = h.log.servers.sited;
  ways = h.log.servers.ways;
  sites = λ place site at. site_serves (home_of c.pool) place h.order (λ (proxy : ℕ). h.lanes proxy place) (λ (proxy : ℕ). link_of c.pool proxy place) opening site
      (λ proxy. ((h.generations place site at).each proxy).same) (h.pool.sites place site at) (λ proxy. (h.pool.proxies proxy).links place);
}
