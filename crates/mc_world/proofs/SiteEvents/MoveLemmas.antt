-- A server and its ways hold after what happens at a proxy, and after bytes and replies of its link arrive there.
use Rattle.std.proofs.Common.{◌≡◌, ◌≢◌, ◌∙◌, ℕ, zero, suc, ◌+◌, ◌-◌, ◌<◌, ◌≤◌, ◌⊎◌, inl, inr, true, List, [], ◌∷◌, ◌++◌, length, map, drop, take, Option, None, Some, slice_get, refl, sym, ap, ap₂, subst, append_assoc, arith}
use Rattle.std.specs.List.{list_all}
use Rattle.std.proofs.lemmas.List.{drop-append-le, drop-map, length-append, length-map, map-append}
use Rattle.mc_reply.specs.declared.replies.Reply.{Reply as AReply}
use Rattle.mc_link.specs.LinkState.{LinkState, Waiting}
use Rattle.mc_link.specs.declared.turns.Tag.{Tag}
use Rattle.mc_cache.specs.CacheState.{CacheState}
use Rattle.mc_cache_laws.specs.GoodCaches.{IsGoodCache}
use Rattle.mc_server.specs.ServerState.{ConnectionState, ServerState, connection_at, output_of, sent_by}
use Rattle.mc_server.specs.Holds.{grown}
use Rattle.mc_server.proofs.ConnectionLemmas.{updated_other, updated_own}
use Rattle.mc_server.proofs.HoldsLemmas.{ServerHolds-sent, grown-other, grown-own}
use Rattle.mc_account.specs.Holds.{changed}
use Rattle.mc_account.specs.Lanes.{Lane, LaneHolds, sent_on}
use Rattle.mc_account.specs.Orders.{Order, Tagged, TakenRequest, commands_in, commands_to, entries_of}
use Rattle.mc_account.proofs.OrderLemmas.{commands-push, passes_joined}
use Rattle.mc_account.proofs.RisingLemmas.{past_front}
use Rattle.mc_history.specs.Generations.{BothEndsAgree, is_good}
use Rattle.mc_history.specs.Made.{Each, Made, commands_on, entry_of, made_on, replies_on, taking_of}
use Rattle.mc_request.specs.declared.parts.Atom.{Atom}
use Rattle.mc_reply.specs.Spelling.{spelling_of}
use Rattle.mc_route.specs.declared.outcomes.Outcome.{Outcome}
use Rattle.mc_route.specs.declared.outcomes.Outcome.TheVariants.{Reply}
use Rattle.mc_route.specs.declared.routes.Routed.{Routed}
use Rattle.std.proofs.lemmas.Option.{none-some, same_Some}
use Rattle.mc_history.specs.declared.entries.Entry.{Entry}
use Rattle.mc_history.proofs.OutcomeLemmas.{NoNews, entry_made, in_made, named_made, news_push, replied_kept}
use Rattle.mc_world.specs.Happens.{returned, taken_one}
use Rattle.mc_world.specs.Homes.{Homes, of_proxy}
use Rattle.mc_world.specs.Sites.{IsLiving, IsLostWay, SiteHolds}
use Rattle.mc_world.specs.WorldState.{SiteState, StaleState, WayState, way_by}
use Rattle.mc_world.proofs.Homes.OrderLemmas.{of_proxy_push_other, of_proxy_push_own}
use Rattle.mc_route.specs.Routes.{to_place}
use Rattle.mc_world.proofs.SiteEvents.CountLemmas.{times-tags}
use Rattle.mc_world.proofs.SiteEvents.EachLemmas.{connection_stays, each_changed, each_one, was_up, way_other, way_own}
use Rattle.mc_history.proofs.GenerationLemmas.{carried}
use Rattle.mc_history.proofs.NamedLemmas.{Keeps, each_append, each_weaker, kept_named, keeps_push, named_in}
use Rattle.mc_world.proofs.SiteEvents.SiteLemmas.{at_place, get_past, good_sent, living_moved, stood_at, tags_wait}
use Rattle.mc_account.specs.Lookups.{command_at, outcome_at}
use Rattle.mc_history.specs.Named.{IsNamed, tags_of, times}

-- a lost way, when the order goes on
pub lost_kept : (place : ℕ) (order longer : Order) (made : List Made) (texts : ℕ → List ℕ) (server : ServerState) (way : StaleState) → Keeps order longer
    → IsLostWay place order made texts server way → IsLostWay place longer made texts server way
lost_kept place order longer made texts server way keeps h = record {
  end = h.end;
  is_open = h.is_open;
  others = h.others;
  put = h.put;
  good = h.good;
  untaken = h.untaken;
  named = kept_named place order longer h.others keeps h.named;
}

-- the commands that were made, likewise
pub made_kept : (place : ℕ) (order longer : Order) (made : List Made) → Keeps order longer
    → Each (λ (m : Made). IsNamed place order m.command) made → Each (λ (m : Made). IsNamed place longer m.command) made
made_kept place order longer made keeps h =
    each_weaker (λ (m : Made). IsNamed place order m.command) (λ (m : Made). IsNamed place longer m.command) made (λ m k. keeps m.command.1 (to_place place m.command.0) k) h

-- A site depends on these parts of an order and its lanes: if they stay, it holds.
pub site_kept : (home : Homes) (place : ℕ) (order order' : Order) (lanes lanes' : ℕ → Lane) (links links' : ℕ → LinkState) (opening : CacheState) (site : SiteState)
    → Keeps order order' → NoNews place order order' → commands_to place order' ≡ commands_to place order
    → ((proxy : ℕ) → (links' proxy).up ≡ true → (links proxy).up ≡ true)
    → ((proxy : ℕ) → (links' proxy).up ≡ true → (sent_on place (of_proxy home proxy order') (lanes' proxy) ≡ sent_on place (of_proxy home proxy order) (lanes proxy))
    × ((lanes' proxy).out ≡ (lanes proxy).out) × ((lanes' proxy).came ≡ (lanes proxy).came) × ((lanes' proxy).replies ≡ (lanes proxy).replies))
    → SiteHolds home place order lanes links opening site → SiteHolds home place order' lanes' links' opening site
site_kept home place order order' lanes lanes' links links' opening site keeps news commands still same h =
    let same_times : (t : Tag) → times t (tags_of (commands_to place order')) ≡ times t (tags_of (commands_to place order)) = λ t. ap (λ (cs : List Tagged). times t (tags_of cs)) commands in
    record {
      past = h.past;
      made = h.made;
      begun = h.begun;
      texts = h.texts;
      sent = h.sent;
      server = h.server;
      good_cache = h.good_cache;
      answers = h.answers;
      history = h.history;
      good = ap (λ (cs : List Tagged). list_all is_good cs) commands ∙ h.good;
      named = made_kept place order order' (h.past ++ h.made) keeps h.named;
      all_named = subst (λ (cs : List Tagged). Each (IsNamed place order') cs) (sym commands) (kept_named place order order' (commands_to place order) keeps h.all_named);
      once = λ t. omega (arith, h.once t, same_times t);
      replied = replied_kept place order order' site.history news h.replied;
      living = λ q up'. let living = h.living q (still q up') in let s = same q up' in
          living_moved home q place order order' (lanes q) (lanes' q) (h.past ++ h.made) (h.past ++ h.made) h.made h.made h.texts h.texts h.sent h.sent site site refl refl refl refl refl s.0 s.1 s.2 s.3 living
          (λ t. omega (arith, living.once t, same_times t));
      lost = λ i way at. lost_kept place order order' h.made h.texts site.server way keeps (h.lost i way at);
      apart = h.apart;
      apart_living = λ q up'. h.apart_living q (still q up');
      apart_ways = λ p q up_p up_q. h.apart_ways p q (still p up_p) (still q up_q);
    }

-- a request was taken: its commands are after those that were sent
pub site_asked : (home : Homes) (place : ℕ) (order : Order) (e : TakenRequest) (lanes : ℕ → Lane) (links links' : ℕ → LinkState) (opening : CacheState) (site : SiteState)
    → ((proxy : ℕ) → (links' proxy).up ≡ true → (links proxy).up ≡ true)
    → ((links (home e.session)).up ≡ true → (lanes (home e.session)).since ≤ length (of_proxy home (home e.session) order))
    → list_all is_good (commands_in place e) ≡ true → e.request ≡ length (entries_of e.session order)
    → ((atom : ℕ) (reply : AReply (List ℕ)) → slice_get e.outcomes atom ≢ Some (Reply reply))
    → SiteHolds home place order lanes links opening site → SiteHolds home place (order ++ e ∷ []) lanes links' opening site
site_asked home place order e lanes links links' opening site still since good number fresh h =
    let longer : (t : Tag) → times t (tags_of (commands_to place (order ++ e ∷ []))) ≡ times t (tags_of (commands_to place order)) + times t (tags_of (commands_in place e)) =
    λ t. ap (λ (cs : List Tagged). times t (tags_of cs)) (commands-push place order e) ∙ times-tags t (commands_to place order) (commands_in place e) in
    record {
      past = h.past;
      made = h.made;
      begun = h.begun;
      texts = h.texts;
      sent = h.sent;
      server = h.server;
      good_cache = h.good_cache;
      answers = h.answers;
      history = h.history;
      good = ap (λ (cs : List Tagged). list_all is_good cs) (commands-push place order e) ∙ passes_joined is_good (commands_to place order) (commands_in place e) h.good good;
      named = made_kept place order (order ++ e ∷ []) (h.past ++ h.made) (keeps_push order e) h.named;
      all_named = subst (λ (cs : List Tagged). Each (IsNamed place (order ++ e ∷ [])) cs) (sym (commands-push place order e))
          (each_append (IsNamed place (order ++ e ∷ [])) (commands_to place order) (commands_in place e) (kept_named place order (order ++ e ∷ []) (commands_to place order) (keeps_push order e) h.all_named) (named_in place order e number));
      once = λ t. omega (arith, h.once t, longer t);
      replied = replied_kept place order (order ++ e ∷ []) site.history (news_push place order e fresh) h.replied;
      living = each_one (λ (q : ℕ). (links' q).up ≡ true → IsLiving home q place (order ++ e ∷ []) (lanes q) (h.past ++ h.made) h.made h.texts h.sent site) (home e.session)
          (λ up'. let living = h.living (home e.session) (still (home e.session) up') in record {
            end = living.end;
            is_open = living.is_open;
            out = living.out;
            came = living.came;
            others = living.others ++ commands_in place e;
            commands = ap (λ (es : Order). commands_to place (drop (lanes (home e.session)).since es)) (of_proxy_push_own home (home e.session) order e refl)
                ∙ ap (λ (es : Order). commands_to place es) (drop-append-le (lanes (home e.session)).since (of_proxy home (home e.session) order) (e ∷ []) (since (still (home e.session) up')))
                ∙ commands-push place (drop (lanes (home e.session)).since (of_proxy home (home e.session) order)) e
                ∙ ap (λ (cs : List Tagged). cs ++ commands_in place e) living.commands
                ∙ append_assoc (commands_on (way_by site (home e.session)).connection h.made) living.others (commands_in place e);
            ahead = living.ahead;
            once = λ t. omega (arith, living.once t, longer t, times-tags t living.others (commands_in place e));
          })
          (λ q differ up'. let living = h.living q (still q up') in
          living_moved home q place order (order ++ e ∷ []) (lanes q) (lanes q) (h.past ++ h.made) (h.past ++ h.made) h.made h.made h.texts h.texts h.sent h.sent site site refl refl refl refl refl
          (ap (λ (es : Order). sent_on place es (lanes q)) (of_proxy_push_other home q order e differ)) refl refl refl living
          (λ t. omega (arith, living.once t, longer t)));
      lost = λ i way at. lost_kept place order (order ++ e ∷ []) h.made h.texts site.server way (keeps_push order e) (h.lost i way at);
      apart = h.apart;
      apart_living = λ q up'. h.apart_living q (still q up');
      apart_ways = λ p q up_p up_q. h.apart_ways p q (still p up_p) (still q up_q);
    }

-- a connection whose output was sent in part stays open, and so do the others
sent_own : (number count : ℕ) (server : ServerState) (end : ConnectionState) → connection_at server number ≡ Some end
    → connection_at (sent_by number count (connection_at server number) server) number ≡ Some (record end { output = drop count end.output })
sent_own number count server end is =
    ap (λ (c : Option ConnectionState). connection_at (sent_by number count c server) number) is
    ∙ updated_own number end (record end { output = drop count end.output }) server.connections is

sent_other : (number other count : ℕ) (server : ServerState) (end : ConnectionState) → connection_at server number ≡ Some end → number ≢ other
    → connection_at (sent_by number count (connection_at server number) server) other ≡ connection_at server other
sent_other number other count server end is differ =
    ap (λ (c : Option ConnectionState). connection_at (sent_by number count c server) other) is
    ∙ updated_other number other (record end { output = drop count end.output }) server.connections differ

cache_sent : (number count : ℕ) (end : Option ConnectionState) (server : ServerState) → (sent_by number count end server).cache ≡ server.cache
cache_sent number count None server = refl
cache_sent number count (Some end) server = refl

-- bytes of a proxy's living connection arrive at it
pub site_returned : (home : Homes) (proxy place : ℕ) (order : Order) (lanes : ℕ → Lane) (links : ℕ → LinkState) (link' : LinkState) (opening : CacheState) (site : SiteState) (count : ℕ)
    → (links proxy).up ≡ true → SiteHolds home place order lanes links opening site
    → SiteHolds home place order
    (changed proxy (record (lanes proxy) { came = (lanes proxy).came ++ take count (output_of (connection_at site.server (way_by site proxy).connection)) }) lanes)
    (changed proxy link' links) opening (returned proxy count site)
site_returned home proxy place order lanes links link' opening site count up h =
    let living = h.living proxy up in
    let c : ℕ = (way_by site proxy).connection in
    let piece : List ℕ = take count (output_of (connection_at site.server (way_by site proxy).connection)) in
    let was = was_up proxy link' links (λ _. up) in
    record {
      past = h.past;
      made = h.made;
      begun = h.begun;
      texts = h.texts;
      sent = grown c piece h.sent;
      server = ServerHolds-sent opening h.texts h.sent (map taking_of h.made) c count site.server
          (sent_by c count (connection_at site.server c) site.server) h.server refl;
      good_cache = subst IsGoodCache (sym (cache_sent c count (connection_at site.server c) site.server)) h.good_cache;
      answers = h.answers;
      history = h.history;
      good = h.good;
      named = h.named;
      all_named = h.all_named;
      once = h.once;
      replied = h.replied;
      living = each_changed
          (λ (q : ℕ) (l : Lane) (k : LinkState). k.up ≡ true → IsLiving home q place order l (h.past ++ h.made) h.made h.texts (grown c piece h.sent) (returned proxy count site))
          proxy (record (lanes proxy) { came = (lanes proxy).came ++ piece }) link' lanes links
          (λ _. record {
            end = record living.end { output = drop count living.end.output };
            is_open = sent_own c count site.server living.end living.is_open;
            out = living.out;
            came = grown-own c piece h.sent ∙ ap (λ (bytes : List ℕ). bytes ++ piece) living.came;
            others = living.others;
            commands = living.commands;
            ahead = living.ahead;
            once = living.once;
          })
          (λ q differ up_q. let apart = h.apart_ways proxy q up up_q differ in
          living_moved home q place order order (lanes q) (lanes q) (h.past ++ h.made) (h.past ++ h.made) h.made h.made h.texts h.texts h.sent (grown c piece h.sent)
          site (returned proxy count site) refl refl (grown-other c (way_by site q).connection piece h.sent apart) refl
          (sent_other c (way_by site q).connection count site.server living.end living.is_open apart) refl refl refl refl (h.living q up_q) (h.living q up_q).once);
      lost = λ i way at. let w = h.lost i way at in record {
        end = w.end;
        is_open = sent_other c way.connection count site.server living.end living.is_open (h.apart_living proxy up i way at) ∙ w.is_open;
        others = w.others;
        put = w.put;
        good = w.good;
        untaken = w.untaken;
        named = w.named;
      };
      apart = h.apart;
      apart_living = λ q up_q. h.apart_living q (was q up_q);
      apart_ways = λ p q up_p up_q. h.apart_ways p q (was p up_p) (was q up_q);
    }

-- the element at an index of a list, and of a longer list that begins with it
pub get_some : {X : Type 0} (xs : List X) (n : ℕ) → n < length xs → (x : X) × (slice_get xs n ≡ Some x)
get_some [] n h = absurd (omega (arith, h))
get_some (x ∷ xs) zero h = (x, refl)
get_some (x ∷ xs) (suc n) h = get_some xs n (omega (arith, h))

get_front : {X : Type 0} (xs ys : List X) (n : ℕ) → n < length xs → slice_get (xs ++ ys) n ≡ slice_get xs n
get_front [] ys n h = absurd (omega (arith, h))
get_front (x ∷ xs) ys zero h = refl
get_front (x ∷ xs) ys (suc n) h = get_front xs ys n (omega (arith, h))

get_mapped : {X Y : Type 0} (f : X → Y) (xs : List X) (n : ℕ) (x : X) → slice_get xs n ≡ Some x → slice_get (map f xs) n ≡ Some (f x)
get_mapped f [] zero x e = absurd (none-some x e)
get_mapped f [] (suc n) x e = absurd (none-some x e)
get_mapped f (y ∷ ys) zero x e = ap (λ (z : _). Some (f z)) (same_Some y x e)
get_mapped f (y ∷ ys) (suc n) x e = get_mapped f ys n x e

-- the command after a reply that was taken
record IsLater (made : List Made) (tag : Tag) (reply : AReply (List ℕ)) : Type 0 where
  pub m : Made
  pub k : ℕ
  pub at : slice_get made k ≡ Some m
  pub tag_is : m.command.1 ≡ tag
  pub reply_is : m.reply ≡ reply

entry_after : (number : ℕ) (made : List Made) (n : ℕ) (tag : Tag) (reply : AReply (List ℕ)) (others : List Tagged) → slice_get (map (λ (c : Tagged). c.1) (commands_on number made ++ others)) n ≡ Some tag
    → n < length (made_on number made) → slice_get (replies_on number made) n ≡ Some reply → IsLater made tag reply
entry_after number made n tag reply others tag_at inside told_at =
    let there = get_some (made_on number made) n inside in
    let holds = in_made number made n there.0 there.1 in
    let own_tag : slice_get (map (λ (c : Tagged). c.1) (commands_on number made)) n ≡ Some there.0.command.1 =
    get_mapped (λ (c : Tagged). c.1) (commands_on number made) n there.0.command (get_mapped (λ (m : Made). m.command) (made_on number made) n there.0 there.1) in
    let size : n < length (map (λ (c : Tagged). c.1) (commands_on number made)) =
    omega (arith, inside, length-map (commands_on number made) (λ (c : Tagged). c.1), length-map (made_on number made) (λ (m : Made). m.command)) in
    let front_tag : slice_get (map (λ (c : Tagged). c.1) (commands_on number made ++ others)) n ≡ Some there.0.command.1 =
    ap (λ (ts : List Tag). slice_get ts n) (map-append (λ (c : Tagged). c.1) (commands_on number made) others)
    ∙ get_front (map (λ (c : Tagged). c.1) (commands_on number made)) (map (λ (c : Tagged). c.1) others) n size ∙ own_tag in
    record {
      m = there.0;
      k = holds.0;
      at = holds.1;
      tag_is = same_Some there.0.command.1 tag (sym front_tag ∙ tag_at);
      reply_is = same_Some there.0.reply reply (sym (get_mapped (λ (m : Made). m.reply) (made_on number made) n there.0 there.1) ∙ told_at);
    }

told_same : (q reply : AReply (List ℕ)) → Reply q ≡ Reply reply → q ≡ reply
told_same q reply e = cc

-- a reply of a proxy's living connection was taken: it is one that the server gave
pub record IsReplied (home : Homes) (proxy place : ℕ) (order : Order) (lanes : ℕ → Lane) (links : ℕ → LinkState) (opening : CacheState) (site : SiteState) (tag : Tag) : Type 0 where
  pub some : 1 ≤ (way_by site proxy).ahead
  pub named : (atom : Atom (List ℕ)) × (command_at order tag ≡ Some (to_place place atom))
  pub holds : SiteHolds home place order lanes links opening (taken_one proxy site)

pub site_replied : (home : Homes) (proxy place : ℕ) (order order' : Order) (lanes : ℕ → Lane) (lane' : Lane) (links : ℕ → LinkState) (link' : LinkState) (opening : CacheState) (site : SiteState) (tag : Tag) (reply : AReply (List ℕ))
    → proxy < length site.ways → (links proxy).up ≡ true → Keeps order order' → commands_to place order' ≡ commands_to place order
    → ((q : ℕ) (lane : Lane) → sent_on place (of_proxy home q order') lane ≡ sent_on place (of_proxy home q order) lane)
    → lane'.since ≡ (lanes proxy).since → lane'.out ≡ (lanes proxy).out → lane'.came ≡ (lanes proxy).came → lane'.replies ≡ (lanes proxy).replies ++ reply ∷ []
    → LaneHolds place (of_proxy home proxy order) (lanes proxy) (links proxy) → slice_get (map (λ (w : Waiting). w.1) (links proxy).waiting) 0 ≡ Some tag
    → ((u : Tag) (q : Outcome) → outcome_at order' u ≡ Some q → (outcome_at order u ≡ Some q) ⊎ ((u ≡ tag) × (q ≡ Reply reply))) → ((u : Tag) → command_at order' u ≡ command_at order u)
    → LaneHolds place (of_proxy home proxy order') lane' link'
    → SiteHolds home place order lanes links opening site → IsReplied home proxy place order' (changed proxy lane' lanes) (changed proxy link' links) opening site tag
site_replied home proxy place order order' lanes lane' links link' opening site tag reply inside up keeps commands sent_stays since out came replies before oldest news same_commands holds h =
    let living = h.living proxy up in
    let own : Order = of_proxy home proxy order in
    let lane : Lane = lanes proxy in
    let link : LinkState = links proxy in
    let c : ℕ = (way_by site proxy).connection in
    let was = was_up proxy link' links (λ _. up) in
    let sent_same : sent_on place (of_proxy home proxy order') lane' ≡ sent_on place own lane =
    ap (λ (n : ℕ). commands_to place (drop n (of_proxy home proxy order'))) since ∙ sent_stays proxy lane in
    let same_times : (t : Tag) → times t (tags_of (commands_to place order')) ≡ times t (tags_of (commands_to place order)) = λ t. ap (λ (cs : List Tagged). times t (tags_of cs)) commands in
    let good' : list_all is_good (commands_to place order') ≡ true = ap (λ (cs : List Tagged). list_all is_good cs) commands ∙ h.good in
    let is_joined : BothEndsAgree place (of_proxy home proxy order') lane' link' opening h.made c living.end living.others = record {
      lane = holds;
      connection = stood_at opening h.made h.texts h.sent lane' site.server c living.end h.server living.is_open (living.out ∙ sym out) (living.came ∙ sym came);
      made = h.answers;
      commands = sent_same ∙ living.commands;
      good = good_sent home proxy place lane'.since order' good';
    } in
    let front = (carried place (of_proxy home proxy order') lane' link' opening h.made c living.end living.others is_joined).front in
    let sizes : length (replies_on c h.made) ≡ length (lane.replies ++ reply ∷ []) + length front.later =
    ap (λ (rs : List (AReply (List ℕ))). length rs) front.all_is ∙ length-append lane'.replies front.later ∙ ap (λ (rs : List (AReply (List ℕ))). length rs + length front.later) replies in
    let one_more = length-append lane.replies (reply ∷ []) in
    let both : length (replies_on c h.made) ≡ length (commands_on c h.made) =
    length-map (made_on c h.made) (λ (m : Made). m.reply) ∙ sym (length-map (made_on c h.made) (λ (m : Made). m.command)) in
    let some : 1 ≤ (way_by site proxy).ahead = omega (arith, sizes, one_more, both, living.ahead) in
    let all_are : replies_on c h.made ≡ lane.replies ++ reply ∷ front.later =
    front.all_is ∙ ap (λ (rs : List (AReply (List ℕ))). rs ++ front.later) replies ∙ append_assoc lane.replies (reply ∷ []) front.later in
    let told_at : slice_get (replies_on c h.made) (length lane.replies) ≡ Some reply =
    ap (λ (rs : List (AReply (List ℕ))). slice_get rs (length lane.replies)) all_are ∙ at_place lane.replies front.later reply (length lane.replies) refl in
    let within : length lane.replies < length (made_on c h.made) =
    omega (arith, sizes, one_more, length-map (made_on c h.made) (λ (m : Made). m.reply)) in
    let tag_at : slice_get (map (λ (x : Tagged). x.1) (commands_on c h.made ++ living.others)) (length lane.replies) ≡ Some tag =
    (let first : 0 + length lane.replies ≡ length lane.replies = omega arith in
    ap (λ (n : ℕ). slice_get (map (λ (x : Tagged). x.1) (commands_on c h.made ++ living.others)) n) (sym first)
    ∙ sym (get_past (map (λ (x : Tagged). x.1) (commands_on c h.made ++ living.others)) (length lane.replies) 0)
    ∙ ap (λ (cs : List Tagged). slice_get (drop (length lane.replies) (map (λ (x : Tagged). x.1) cs)) 0) (sym living.commands)
    ∙ ap (λ (ts : List Tag). slice_get ts 0) (drop-map (λ (x : Tagged). x.1) (length lane.replies) (sent_on place own lane) ∙ sym (tags_wait (drop (length lane.replies) (sent_on place own lane)))
    ∙ ap (λ (ws : List Waiting). map (λ (w : Waiting). w.1) ws) (sym before.waiting))
    ∙ oldest) in
    let after = entry_after c h.made (length lane.replies) tag reply living.others tag_at within told_at in
    let there : slice_get (h.past ++ h.made) (length h.past + after.k) ≡ Some after.m = past_front h.past h.made after.k (length h.past + after.k) refl ∙ after.at in
    let name : command_at order tag ≡ Some (to_place place after.m.command.0) =
    ap (λ (u : Tag). command_at order u) (sym after.tag_is) ∙ named_made place order (h.past ++ h.made) (length h.past + after.k) after.m h.named there in
    let longer : length lane'.replies ≡ length (lane.replies ++ reply ∷ []) = ap (λ (rs : List (AReply (List ℕ))). length rs) replies in
    let now : WayState = record (way_by site proxy) { ahead = (way_by site proxy).ahead - 1 } in
    let way : way_by (taken_one proxy site) proxy ≡ now = way_own site.ways proxy now inside in
    let same_numbers : (q : ℕ) → (way_by (taken_one proxy site) q).connection ≡ (way_by site q).connection = connection_stays site.ways proxy now inside refl in
    record {
      some = some;
      named = (after.m.command.0, same_commands tag ∙ name);
      holds = record {
        past = h.past;
        made = h.made;
        begun = h.begun;
        texts = h.texts;
        sent = h.sent;
        server = h.server;
        good_cache = h.good_cache;
        answers = h.answers;
        history = h.history;
        good = good';
        named = made_kept place order order' (h.past ++ h.made) keeps h.named;
        all_named = subst (λ (cs : List Tagged). Each (IsNamed place order') cs) (sym commands) (kept_named place order order' (commands_to place order) keeps h.all_named);
        once = λ t. omega (arith, h.once t, same_times t);
        replied = λ u atom q is known. elim (news u (Reply q) known) [
          | inl k ↦ h.replied u atom q (sym (same_commands u) ∙ is) k
          | inr k ↦
              let same_reply : q ≡ reply = told_same q reply k.1 in
              let both : Some (to_place place after.m.command.0) ≡ Some (to_place place atom) = sym name ∙ ap (λ (v : Tag). command_at order v) (sym k.0) ∙ sym (same_commands u) ∙ is in
              let atom_is : after.m.command.0 ≡ atom = ap (λ (r : Routed). r.atom) (same_Some (to_place place after.m.command.0) (to_place place atom) both) in (
                length h.past + after.k,
                entry_of after.m,
                ap (λ (es : List Entry). slice_get es (length h.past + after.k)) h.history
                    ∙ entry_made (h.past ++ h.made) (length h.past + after.k) after.m there,
                after.tag_is ∙ sym k.0,
                ap₂ (λ (a : Atom (List ℕ)) (r : AReply (List ℕ)). spelling_of a r) atom_is (after.reply_is ∙ sym same_reply),
              )
        ];
        living = each_changed
            (λ (q : ℕ) (l : Lane) (k : LinkState). k.up ≡ true → IsLiving home q place order' l (h.past ++ h.made) h.made h.texts h.sent (taken_one proxy site))
            proxy lane' link' lanes links
            (λ _. record {
              end = living.end;
              is_open = ap (λ (w : WayState). connection_at site.server w.connection) way ∙ living.is_open;
              out = ap (λ (w : WayState). h.texts w.connection) way ∙ living.out ∙ sym out;
              came = ap (λ (w : WayState). h.sent w.connection) way ∙ living.came ∙ sym came;
              others = living.others;
              commands = sent_same ∙ living.commands ∙ ap (λ (w : WayState). commands_on w.connection h.made ++ living.others) (sym way);
              ahead =
                  let sum : (way_by site proxy).ahead - 1 + length lane'.replies ≡ length (commands_on (way_by site proxy).connection h.made) =
                  omega (arith, some, longer, one_more, living.ahead) in
                  ap (λ (w : WayState). w.ahead + length lane'.replies) way ∙ sum ∙ ap (λ (w : WayState). length (commands_on w.connection h.made)) (sym way);
              once = λ t. omega (arith, living.once t, same_times t);
            })
            (λ q differ up_q. living_moved home q place order order' (lanes q) (lanes q) (h.past ++ h.made) (h.past ++ h.made) h.made h.made h.texts h.texts h.sent h.sent site (taken_one proxy site)
            (way_other site.ways proxy q now differ) refl refl refl refl (sent_stays q (lanes q)) refl refl refl (h.living q up_q)
            (λ t. omega (arith, (h.living q up_q).once t, same_times t)));
        lost = λ i w at. lost_kept place order order' h.made h.texts site.server w keeps (h.lost i w at);
        apart = h.apart;
        apart_living = λ q up_q i w at same. h.apart_living q (was q up_q) i w at (sym (same_numbers q) ∙ same);
        apart_ways = λ p q up_p up_q differ same. h.apart_ways p q (was p up_p) (was q up_q) differ (sym (same_numbers p) ∙ same ∙ same_numbers q);
      };
    }
