-- A server and its ways hold after each thing that happens to them: one lemma for each.
use Rattle.std.proofs.Common.{◌≡◌, ◌≢◌, ◌∙◌, ⊎_elim, ℕ, zero, suc, ◌+◌, ◌<◌, ◌≤◌, ◌^◌, Bool, true, List, [], ◌∷◌, ◌++◌, length, map, drop, take, Option, Some, None, slice_get, refl, sym, ap, ap₂, subst, append_assoc, append-nil, arith}
use Rattle.std.specs.List.{list_all}
use Rattle.std.proofs.lemmas.Bool.{and_parts}
use Rattle.std.proofs.lemmas.Bool.Decides.{eqb_tells}
use Rattle.std.proofs.lemmas.List.{append_cancel_left, drop-map, length-append, length-map, map-append, take-append-drop}
use Rattle.mc_request.specs.Requests.{requests_of, requests_within}
use Rattle.mc_request.specs.declared.parts.Parsed.{Parsed}
use Rattle.mc_request_reader.specs.Reader.{rest_of}
use Rattle.mc_reply.specs.CanHave.{can_have}
use Rattle.mc_reply.specs.Spelling.{spelling_of}
use Rattle.mc_reply.specs.declared.replies.Reply.{Reply as AReply}
use Rattle.mc_link.specs.LinkState.{LinkState, Waiting}
use Rattle.mc_link.specs.declared.turns.Tag.{Tag}
use Rattle.mc_cache.specs.CacheState.{CacheState}
use Rattle.mc_cache.specs.Step.{step_of}
use Rattle.mc_cache_laws.specs.GoodCaches.{IsGoodCache}
use Rattle.mc_cache_laws.proofs.GoodStepLemmas.{answers_as_it_can, stays_good}
use Rattle.mc_server.specs.Served.{ServedRequest, answer_after, cache_after}
use Rattle.mc_server.specs.ServerState.{ConnectionState, ServerState, connection_at}
use Rattle.mc_server.specs.Holds.{ServerHolds, Holds, grown}
use Rattle.mc_server.specs.Turns.{Feeds, IsTurn, Steps}
use Rattle.mc_server.specs.declared.turns.Turn.TheVariants.{Took}
use Rattle.mc_server.proofs.ConnectionLemmas.{updated_other, updated_own}
use Rattle.mc_server.proofs.HoldsLemmas.{ServerHolds-fed, ServerHolds-took, entry_taken, grown-other, grown-own, stood}
use Rattle.mc_account.specs.Holds.{changed}
use Rattle.mc_account.specs.Lanes.{Lane, LaneHolds, as_waiting, sent_on}
use Rattle.mc_account.specs.Orders.{Order, Tagged, commands_to}
use Rattle.mc_account.proofs.OpenSessions.{other_number, own_number}
use Rattle.mc_account.proofs.OrderLemmas.{commands-append, passes_parts}
use Rattle.mc_history.specs.Generations.{BothEndsAgree, is_good}
use Rattle.mc_history.specs.Made.{Each, IsMade, Made, commands_on, entry_of, made_on, read_as, taking_of}
use Rattle.mc_history.specs.declared.entries.Entry.{Entry}
use Rattle.mc_world.specs.Homes.{Homes, of_proxy}
use Rattle.mc_world.specs.Sites.{IsLiving, IsLostWay, SiteHolds, untaken_times}
use Rattle.mc_world.specs.WorldState.{SiteState, StaleState, WayState, way_by, with_way}
use Rattle.mc_world.proofs.Homes.CommandLemmas.{commands_own_since, each_own, each_since, passes_own, times_none}
use Rattle.mc_world.proofs.SiteEvents.CountLemmas.{times-made}
use Rattle.mc_world.proofs.SiteEvents.EachLemmas.{connection_stays, each_changed, each_one, was_up, way_other, way_own}
use Rattle.mc_history.proofs.GenerationLemmas.{carried}
use Rattle.mc_history.proofs.OutcomeLemmas.{replied_push}
use Rattle.mc_history.proofs.NamedLemmas.{each_back, each_push, each_weaker}
use Rattle.mc_history.proofs.RefusalLemmas.{one_tells}
use Rattle.mc_history.proofs.MadeLemmas.{answer_made, cache_made, cache_of, commands_made, made_push, replayed_made, spelled_by_head}
use Rattle.mc_history.specs.Named.{IsNamed, tags_made, tags_of, times}

-- a connection of another number is as it was
pub other_is : (number other : ℕ) (old new : ServerState) (Step : CacheState → CacheState → ConnectionState → ConnectionState → Type 0) → Steps number old new Step → number ≢ other
    → connection_at new other ≡ connection_at old other
other_is number other old new Step steps differ =
    ap (λ (cs : List (ℕ × ConnectionState)). connection_at (record new { connections = cs }) other) steps.is ∙ updated_other number other steps.after old.connections differ

-- the way of another connection is as it was
pub lost_elsewhere : (place : ℕ) (order : Order) (made : List Made) (texts texts' : ℕ → List ℕ) (old new : ServerState) (way : StaleState) → texts' way.connection ≡ texts way.connection
    → connection_at new way.connection ≡ connection_at old way.connection → IsLostWay place order made texts old way → IsLostWay place order made texts' new way
lost_elsewhere place order made texts texts' old new way same is h = grind arith

-- the lanes and links may be given by other functions of the same values
pub site_along : (home : Homes) (place : ℕ) (order : Order) (lanes lanes' : ℕ → Lane) (links links' : ℕ → LinkState) (opening : CacheState) (site : SiteState)
    → ((proxy : ℕ) → lanes' proxy ≡ lanes proxy) → ((proxy : ℕ) → links' proxy ≡ links proxy)
    → SiteHolds home place order lanes links opening site → SiteHolds home place order lanes' links' opening site
site_along home place order lanes lanes' links links' opening site lanes_are links_are h =
    let same_lanes : lanes' ≡ lanes = λ i n. lanes_are n i in
    let same_links : links' ≡ links = λ i n. links_are n i in
    subst (λ (ls : ℕ → Lane). SiteHolds home place order ls links' opening site) (sym same_lanes)
    (subst (λ (ks : ℕ → LinkState). SiteHolds home place order lanes ks opening site) (sym same_links) h)

-- the commands on the way of a proxy are of its clients
pub others_apart : (home : Homes) (proxy place : ℕ) (order : Order) (lane : Lane) (front others : List Tagged) (tag : Tag)
    → sent_on place (of_proxy home proxy order) lane ≡ front ++ others → home tag.session ≢ proxy → times tag (tags_of others) ≡ 0
others_apart home proxy place order lane front others tag is differ =
    times_none tag others
    (each_weaker (λ (c : Tagged). home c.1.session ≡ proxy) (λ (c : Tagged). c.1.session ≢ tag.session) others
    (λ c own same. differ (ap (λ (n : ℕ). home n) (sym same) ∙ own))
    (each_back (λ (c : Tagged). home c.1.session ≡ proxy) front others
    (subst (λ (cs : List Tagged). Each (λ (c : Tagged). home c.1.session ≡ proxy) cs) is
    (commands_own_since home proxy place lane.since order))))

-- no command is on the ways of two proxies
pub once_apart : (home : Homes) (p q place : ℕ) (order : Order) (lane lane' : Lane) (all made : List Made) (texts sent : ℕ → List ℕ) (site : SiteState) → p ≢ q
    → (a : IsLiving home p place order lane all made texts sent site) → (b : IsLiving home q place order lane' all made texts sent site) → (t : Tag)
    → times t (tags_made all) + times t (tags_of a.others) + times t (tags_of b.others) + untaken_times t site.lost ≤ times t (tags_of (commands_to place order))
once_apart home p q place order lane lane' all made texts sent site differ a b t =
    ⊎_elim
    (λ e. let none = others_apart home p place order lane (commands_on (way_by site p).connection made) a.others t a.commands (λ same. differ (sym same ∙ e.1)) in
    omega (arith, none, b.once t))
    (λ e. let none = others_apart home q place order lane' (commands_on (way_by site q).connection made) b.others t b.commands e.1 in
    omega (arith, none, a.once t))
    (eqb_tells (home t.session) q)

-- the way of a proxy on which nothing happens
pub living_moved : (home : Homes) (proxy place : ℕ) (order order' : Order) (lane lane' : Lane) (all all' made made' : List Made) (texts texts' sent sent' : ℕ → List ℕ) (old new : SiteState)
    → way_by new proxy ≡ way_by old proxy → texts' (way_by old proxy).connection ≡ texts (way_by old proxy).connection
    → sent' (way_by old proxy).connection ≡ sent (way_by old proxy).connection
    → commands_on (way_by old proxy).connection made' ≡ commands_on (way_by old proxy).connection made
    → connection_at new.server (way_by old proxy).connection ≡ connection_at old.server (way_by old proxy).connection
    → sent_on place (of_proxy home proxy order') lane' ≡ sent_on place (of_proxy home proxy order) lane
    → lane'.out ≡ lane.out → lane'.came ≡ lane.came → lane'.replies ≡ lane.replies
    → (h : IsLiving home proxy place order lane all made texts sent old)
    → ((t : Tag) → times t (tags_made all') + times t (tags_of h.others) + untaken_times t new.lost ≤ times t (tags_of (commands_to place order')))
    → IsLiving home proxy place order' lane' all' made' texts' sent' new
living_moved home proxy place order order' lane lane' all all' made made' texts texts' sent sent' old new way text given commands stays same out came replies h once = record {
  end = h.end;
  is_open = ap (λ (w : WayState). connection_at new.server w.connection) way ∙ stays ∙ h.is_open;
  out = ap (λ (w : WayState). texts' w.connection) way ∙ text ∙ h.out ∙ sym out;
  came = ap (λ (w : WayState). sent' w.connection) way ∙ given ∙ h.came ∙ sym came;
  others = h.others;
  commands = same ∙ h.commands ∙ ap (λ (cs : List Tagged). cs ++ h.others) (sym commands ∙ ap (λ (w : WayState). commands_on w.connection made') (sym way));
  ahead = ap₂ (λ (w : WayState) (rs : List (AReply (List ℕ))). w.ahead + length rs) way replies ∙ h.ahead
      ∙ ap (λ (cs : List Tagged). length cs) (sym commands ∙ ap (λ (w : WayState). commands_on w.connection made') (sym way));
  once = once;
}

-- bytes arrive at the connection of a proxy's living generation
pub site_fed : (home : Homes) (proxy place : ℕ) (order : Order) (lanes : ℕ → Lane) (links : ℕ → LinkState) (link' : LinkState) (opening : CacheState) (site : SiteState) (server : ServerState) (piece : List ℕ)
    → (links proxy).up ≡ true → Steps (way_by site proxy).connection site.server server (Feeds piece) → SiteHolds home place order lanes links opening site
    → SiteHolds home place order (changed proxy (record (lanes proxy) { out = (lanes proxy).out ++ piece }) lanes) (changed proxy link' links) opening (record site { server = server })
site_fed home proxy place order lanes links link' opening site server piece up steps h =
    let living = h.living proxy up in
    let c : ℕ = (way_by site proxy).connection in
    let was = was_up proxy link' links (λ _. up) in
    record {
      past = h.past;
      made = h.made;
      begun = h.begun;
      texts = grown c piece h.texts;
      sent = h.sent;
      server = ServerHolds-fed opening h.texts h.sent (map taking_of h.made) c piece site.server server h.server steps;
      good_cache = subst IsGoodCache (sym steps.step.0) h.good_cache;
      answers = h.answers;
      history = h.history;
      good = h.good;
      named = h.named;
      all_named = h.all_named;
      once = h.once;
      replied = h.replied;
      living = each_changed
          (λ (q : ℕ) (l : Lane) (k : LinkState). k.up ≡ true → IsLiving home q place order l (h.past ++ h.made) h.made (grown c piece h.texts) h.sent (record site { server = server }))
          proxy (record (lanes proxy) { out = (lanes proxy).out ++ piece }) link' lanes links
          (λ _. record {
            end = steps.after;
            is_open = ap (λ (cs : List (ℕ × ConnectionState)). connection_at (record server { connections = cs }) c) steps.is
                ∙ updated_own c steps.before steps.after site.server.connections steps.was;
            out = grown-own c piece h.texts ∙ ap (λ (bytes : List ℕ). bytes ++ piece) living.out;
            came = living.came;
            others = living.others;
            commands = living.commands;
            ahead = living.ahead;
            once = living.once;
          })
          (λ q differ up_q. let apart = h.apart_ways proxy q up up_q differ in
          living_moved home q place order order (lanes q) (lanes q) (h.past ++ h.made) (h.past ++ h.made) h.made h.made h.texts (grown c piece h.texts) h.sent h.sent
          site (record site { server = server }) refl (grown-other c (way_by site q).connection piece h.texts apart) refl refl
          (other_is c (way_by site q).connection site.server server (Feeds piece) steps apart) refl refl refl refl (h.living q up_q) (h.living q up_q).once);
      lost = λ i way at. let differ = h.apart_living proxy up i way at in
          lost_elsewhere place order h.made h.texts (grown c piece h.texts) site.server server way (grown-other c way.connection piece h.texts differ)
          (other_is c way.connection site.server server (Feeds piece) steps differ) (h.lost i way at);
      apart = h.apart;
      apart_living = λ q up_q. h.apart_living q (was q up_q);
      apart_ways = λ p q up_p up_q. h.apart_ways p q (was p up_p) (was q up_q);
    }

-- the commands made on a connection, after one more is
made_on-append : (number : ℕ) (xs ys : List Made) → made_on number (xs ++ ys) ≡ made_on number xs ++ made_on number ys
made_on-append number [] ys = refl
made_on-append number (x ∷ xs) ys =
    let again = made_on-append number xs ys in
    grind arith

pub commands_push_own : (made : List Made) (m : Made) → commands_on m.connection (made ++ m ∷ []) ≡ commands_on m.connection made ++ m.command ∷ []
commands_push_own made m = grind (arith, map-append, own_number, made_on-append)

pub commands_push_other : (number : ℕ) (made : List Made) (m : Made) → m.connection ≢ number → commands_on number (made ++ m ∷ []) ≡ commands_on number made
commands_push_other number made m differ = grind (arith, append-nil, other_number, made_on-append)

-- the way of another connection, after one more was made
pub lost_untouched : (place : ℕ) (order : Order) (made : List Made) (m : Made) (texts : ℕ → List ℕ) (old new : ServerState) (way : StaleState) → m.connection ≢ way.connection
    → connection_at new way.connection ≡ connection_at old way.connection → IsLostWay place order made texts old way → IsLostWay place order (made ++ m ∷ []) texts new way
lost_untouched place order made m texts old new way differ is h = grind (arith, commands_push_other)

-- a connection that reads these commands takes the first of them
pub record IsNext (others : List Tagged) (what : Parsed) : Type 0 where
  pub command : Tagged
  pub past : List Tagged
  pub is : others ≡ command ∷ past
  pub what_is : what ≡ read_as command

no_requests : requests_of [] ≡ []
unfolding requests_of requests_within
no_requests = refl

pub next_is : (others : List Tagged) (what : Parsed) (more : List Parsed) → map read_as others ++ requests_of [] ≡ what ∷ more → IsNext others what
next_is [] what more e = let clash : [] ≡ what ∷ more = sym no_requests ∙ e in absurd cc
next_is (c ∷ cs) what more e = let first : read_as c ≡ what = cc in record { command = c; past = cs; is = refl; what_is = sym first }

-- the same connection
pub same_end : (a b : ConnectionState) (at : Option ConnectionState) → at ≡ Some a → at ≡ Some b → a ≡ b
same_end a b at x y = let both : Some a ≡ Some b = sym x ∙ y in cc

pub good_since : (place since : ℕ) (order : Order) → list_all is_good (commands_to place order) ≡ true → list_all is_good (commands_to place (drop since order)) ≡ true
good_since place since order good =
    let whole : commands_to place order ≡ commands_to place (take since order) ++ commands_to place (drop since order) =
    ap (λ (es : Order). commands_to place es) (sym (take-append-drop since order)) ∙ commands-append place (take since order) (drop since order) in
    (passes_parts is_good (commands_to place (take since order)) (commands_to place (drop since order)) (ap (λ (cs : List Tagged). list_all is_good cs) (sym whole) ∙ good)).1

-- the connection of a living generation holds
pub stood_at : (opening : CacheState) (made : List Made) (texts sent : ℕ → List ℕ) (lane : Lane) (server : ServerState) (number : ℕ) (end : ConnectionState)
    → ServerHolds opening texts sent (map taking_of made) server → connection_at server number ≡ Some end → texts number ≡ lane.out → sent number ≡ lane.came
    → Holds opening number lane.out (map taking_of made) lane.came end
stood_at opening made texts sent lane server number end h is_open out came = grind (arith, stood)

-- the commands of a proxy's living generation: those before, and the others
pub good_sent : (home : Homes) (proxy place since : ℕ) (order : Order) → list_all is_good (commands_to place order) ≡ true
    → list_all is_good (commands_to place (drop since (of_proxy home proxy order))) ≡ true
good_sent home proxy place since order good = good_since place since (of_proxy home proxy order) (passes_own is_good home proxy place order good)

pub joined : (home : Homes) (proxy place : ℕ) (order : Order) (lanes : ℕ → Lane) (links : ℕ → LinkState) (opening : CacheState) (site : SiteState) (up : (links proxy).up ≡ true)
    → (h : SiteHolds home place order lanes links opening site) → LaneHolds place (of_proxy home proxy order) (lanes proxy) (links proxy)
    → BothEndsAgree place (of_proxy home proxy order) (lanes proxy) (links proxy) opening h.made (way_by site proxy).connection (h.living proxy up).end (h.living proxy up).others
joined home proxy place order lanes links opening site up h holds =
    let living = h.living proxy up in
    record {
      lane = holds;
      connection = stood_at opening h.made h.texts h.sent (lanes proxy) site.server (way_by site proxy).connection living.end h.server living.is_open living.out living.came;
      made = h.answers;
      commands = living.commands;
      good = good_sent home proxy place (lanes proxy).since order h.good;
    }

-- the other commands of a living generation are named
pub others_named : (home : Homes) (proxy place : ℕ) (order : Order) (lane : Lane) (front others : List Tagged) → sent_on place (of_proxy home proxy order) lane ≡ front ++ others
    → Each (IsNamed place order) (commands_to place order) → Each (IsNamed place order) others
others_named home proxy place order lane front others is named =
    each_back (IsNamed place order) front others
    (subst (λ (cs : List Tagged). Each (IsNamed place order) cs) is
    (each_since (IsNamed place order) place lane.since (of_proxy home proxy order) (each_own (IsNamed place order) home proxy place order named)))

-- the command that a server takes next
pub record TakesNext (others : List Tagged) (what : Parsed) : Type 0 where
  pub next : IsNext others what
  pub good : is_good next.command ≡ true

pub at_place : {X : Type 0} (front back : List X) (x : X) (place : ℕ) → place ≡ length front → slice_get (front ++ x ∷ back) place ≡ Some x
at_place [] back x zero h = refl
at_place [] back x (suc place) h = absurd (omega (arith, h))
at_place (f ∷ fs) back x zero h = absurd (omega (arith, h))
at_place (f ∷ fs) back x (suc place) h = at_place fs back x place (omega (arith, h))

-- a turn of a living connection takes the next command
pub takes_next : (home : Homes) (proxy place : ℕ) (order : Order) (lanes : ℕ → Lane) (links : ℕ → LinkState) (opening : CacheState) (site : SiteState) (server : ServerState) (moment : ℕ) (up : (links proxy).up ≡ true)
    → (steps : Steps (way_by site proxy).connection site.server server (IsTurn (way_by site proxy).connection moment Took)) → (h : SiteHolds home place order lanes links opening site)
    → LaneHolds place (of_proxy home proxy order) (lanes proxy) (links proxy) → TakesNext (h.living proxy up).others steps.step.0
takes_next home proxy place order lanes links opening site server moment up steps h holds =
    let living = h.living proxy up in
    let c : ℕ = (way_by site proxy).connection in
    let going : List ℕ = (links proxy).output in
    let is_joined = joined home proxy place order lanes links opening site up h holds in
    let reads = (carried place (of_proxy home proxy order) (lanes proxy) (links proxy) opening h.made c living.end living.others is_joined).reads [] in
    let same = same_end living.end steps.before (connection_at site.server c) living.is_open steps.was in
    let first : map read_as living.others ++ requests_of [] ≡ steps.step.0 ∷ rest_of steps.after.reader (going ++ []) =
    sym reads ∙ ap (λ (e : ConnectionState). rest_of e.reader (going ++ [])) same ∙ steps.step.1.first.rest (going ++ []) in
    let next = next_is living.others steps.step.0 (rest_of steps.after.reader (going ++ [])) first in
    let good_all : list_all is_good (commands_on c h.made ++ next.command ∷ next.past) ≡ true =
    ap (λ (cs : List Tagged). list_all is_good (commands_on c h.made ++ cs)) (sym next.is)
    ∙ ap (λ (cs : List Tagged). list_all is_good cs) (sym living.commands) ∙ is_joined.good in
    record {
      next = next;
      good = (and_parts (is_good next.command) (list_all is_good next.past) (passes_parts is_good (commands_on c h.made) (next.command ∷ next.past) good_all).1).0;
    }

-- the command that it makes of it
abbrev pub made_of : ℕ → List Made → CacheState → Tagged → ℕ → Bool → Made
made_of connection all opening command moment refused = record {
  connection = connection;
  command = command;
  moment = moment;
  refused = refused;
  reply = (step_of (cache_of opening all) command.0 moment refused).1;
}

abbrev pub taking_by : ℕ → Parsed → ℕ → Bool → ServedRequest
taking_by connection what moment refused = record { connection = connection; what = what; moment = moment; refused = refused }

-- a turn of a connection makes the command that it takes
pub is_made : (number : ℕ) (old new : ServerState) (moment : ℕ) (opening : CacheState) (all : List Made) (command : Tagged) → (steps : Steps number old new (IsTurn number moment Took))
    → steps.step.0 ≡ read_as command → old.cache ≡ cache_of opening all → is_good command ≡ true
    → can_have command.0 (step_of (cache_of opening all) command.0 moment steps.step.1.served.0).1 ≡ true
    → IsMade (cache_of opening all) (made_of number all opening command moment steps.step.1.served.0)
is_made number old new moment opening all command steps what_is cache_is good can = grind (arith, one_tells, cache_of, commands_made)

-- such a turn leaves a good cache good
pub still_good : (s t : CacheState) (m : Made) (what : Parsed) → what ≡ read_as m.command → t ≡ cache_after s (taking_by m.connection what m.moment m.refused)
    → is_good m.command ≡ true → m.moment < 2 ^ 63 → IsGoodCache s → IsGoodCache t
still_good s t m what what_is is good below h = grind (arith, stays_good, cache_made)

-- the bytes that it appends are the reply
pub appended : (number : ℕ) (old new : ServerState) (moment : ℕ) (opening : CacheState) (all : List Made) (command : Tagged) (reply : List ℕ)
    → (steps : Steps number old new (IsTurn number moment Took))
    → steps.step.0 ≡ read_as command → old.cache ≡ cache_of opening all
    → IsMade (cache_of opening all) (made_of number all opening command moment steps.step.1.served.0)
    → steps.after.output ≡ steps.before.output ++ reply
    → reply ≡ spelling_of command.0 (step_of (cache_of opening all) command.0 moment steps.step.1.served.0).1
appended number old new moment opening all command reply steps what_is cache_is made more =
    append_cancel_left steps.before.output reply (spelling_of command.0 (step_of (cache_of opening all) command.0 moment steps.step.1.served.0).1)
    (sym more ∙ steps.step.1.served.1.answered
    ∙ ap (λ (bytes : List ℕ). steps.before.output ++ bytes)
    (ap (λ (what : Parsed). answer_after old.cache (record { connection = number; what = what; moment = moment; refused = steps.step.1.served.0 })) what_is
    ∙ ap (λ (s : CacheState). answer_after s (taking_of (made_of number all opening command moment steps.step.1.served.0))) cache_is
    ∙ answer_made (cache_of opening all) (made_of number all opening command moment steps.step.1.served.0) made
    ∙ spelled_by_head command.0 (step_of (cache_of opening all) command.0 moment steps.step.1.served.0).1))

-- the tags of pending commands
pub tags_wait : (cs : List Tagged) → map (λ (w : Waiting). w.1) (as_waiting cs) ≡ map (λ (c : Tagged). c.1) cs
tags_wait [] = refl
tags_wait (c ∷ cs) = ap (λ (ts : List Tag). c.1 ∷ ts) (tags_wait cs)

pub get_none : {X : Type 0} (k : ℕ) → ◌≡◌ {A = Option X} (slice_get [] k) None
get_none zero = refl
get_none (suc k) = refl

pub get_past : {X : Type 0} (xs : List X) (n k : ℕ) → slice_get (drop n xs) k ≡ slice_get xs (k + n)
get_past xs zero k = let same : k + 0 ≡ k = omega arith in ap (λ (i : ℕ). slice_get xs i) (sym same)
get_past {X = X} [] (suc n) k = get_none {X = X} k ∙ sym (get_none {X = X} (k + suc n))
get_past (x ∷ xs) (suc n) k = let same : k + suc n ≡ suc (k + n) = omega arith in get_past xs n k ∙ ap (λ (i : ℕ). slice_get (x ∷ xs) i) (sym same)

-- the command that the server takes next is the pending one after those whose replies were not taken
pub waits_next : (home : Homes) (proxy place : ℕ) (order : Order) (lanes : ℕ → Lane) (links : ℕ → LinkState) (opening : CacheState) (site : SiteState) (up : (links proxy).up ≡ true)
    → (h : SiteHolds home place order lanes links opening site) → (command : Tagged) (past : List Tagged)
    → LaneHolds place (of_proxy home proxy order) (lanes proxy) (links proxy) → (h.living proxy up).others ≡ command ∷ past
    → slice_get (map (λ (w : Waiting). w.1) (links proxy).waiting) (way_by site proxy).ahead ≡ Some command.1
waits_next home proxy place order lanes links opening site up h command past holds is =
    let living = h.living proxy up in
    let c : ℕ = (way_by site proxy).connection in
    let count : ℕ = length (lanes proxy).replies in
    let tags : map (λ (w : Waiting). w.1) (links proxy).waiting ≡ drop count (map (λ (x : Tagged). x.1) (commands_on c h.made) ++ command.1 ∷ map (λ (x : Tagged). x.1) past) =
    ap (λ (ws : List Waiting). map (λ (w : Waiting). w.1) ws) holds.waiting
    ∙ tags_wait (drop count (sent_on place (of_proxy home proxy order) (lanes proxy)))
    ∙ sym (drop-map (λ (x : Tagged). x.1) count (sent_on place (of_proxy home proxy order) (lanes proxy)))
    ∙ ap (λ (cs : List Tagged). drop count (map (λ (x : Tagged). x.1) cs)) (living.commands ∙ ap (λ (cs : List Tagged). commands_on c h.made ++ cs) is)
    ∙ ap (λ (ts : List Tag). drop count ts) (map-append (λ (x : Tagged). x.1) (commands_on c h.made) (command ∷ past)) in
    let size : length (map (λ (x : Tagged). x.1) (commands_on c h.made)) ≡ length (commands_on c h.made) = length-map (commands_on c h.made) (λ (x : Tagged). x.1) in
    let number : (way_by site proxy).ahead + count ≡ length (map (λ (x : Tagged). x.1) (commands_on c h.made)) = omega (arith, living.ahead, size) in
    ap (λ (ts : List Tag). slice_get ts (way_by site proxy).ahead) tags
    ∙ get_past (map (λ (x : Tagged). x.1) (commands_on c h.made) ++ command.1 ∷ map (λ (x : Tagged). x.1) past) count (way_by site proxy).ahead
    ∙ at_place (map (λ (x : Tagged). x.1) (commands_on c h.made)) (map (λ (x : Tagged). x.1) past) command.1 ((way_by site proxy).ahead + count) number

pub same_tag : (at : Option Tag) (a b : Tag) → at ≡ Some a → at ≡ Some b → a ≡ b
same_tag at a b x y = let both : Some a ≡ Some b = sym x ∙ y in cc

abbrev pub entry_by : Tag → ℕ → Bool → List ℕ → Entry
entry_by tag moment refused reply = record { client = tag.session; request = tag.request; atom = tag.atom; moment = moment; refused = refused; reply = reply }

-- how often a tag is among the commands that were not taken
pub others_of : (others : List Tagged) (command : Tagged) (past : List Tagged) → others ≡ command ∷ past
    → (tag : Tag) → times tag (tags_of others) ≡ times tag (command.1 ∷ []) + times tag (tags_of past)
others_of others command past is tag = grind arith

-- how often a tag is among the commands made in all lives, after one more was made in this one
pub one_more : (past made : List Made) (m : Made) (tag : Tag)
    → times tag (tags_made (past ++ (made ++ m ∷ []))) ≡ times tag (tags_made (past ++ made)) + times tag (m.command.1 ∷ [])
one_more past made m tag = ap (λ (ms : List Made). times tag (tags_made ms)) (sym (append_assoc past made (m ∷ []))) ∙ times-made tag (past ++ made) m

-- a turn of a proxy's living connection: the history has the next pending command, at that moment, with the bytes that the server appended
pub site_turned : (home : Homes) (proxy place : ℕ) (order : Order) (lanes : ℕ → Lane) (links : ℕ → LinkState) (opening : CacheState) (site : SiteState) (server : ServerState) (moment : ℕ) (tag : Tag) (reply : List ℕ)
    → proxy < length site.ways → (up : (links proxy).up ≡ true)
    → (steps : Steps (way_by site proxy).connection site.server server (IsTurn (way_by site proxy).connection moment Took))
    → slice_get (map (λ (w : Waiting). w.1) (links proxy).waiting) (way_by site proxy).ahead ≡ Some tag → steps.after.output ≡ steps.before.output ++ reply
    → moment < 2 ^ 63 → LaneHolds place (of_proxy home proxy order) (lanes proxy) (links proxy) → SiteHolds home place order lanes links opening site
    → SiteHolds home place order lanes links opening (record site {
      server = server;
      history = site.history ++ (record { client = tag.session; request = tag.request; atom = tag.atom; moment = moment; refused = steps.step.1.served.0; reply = reply }) ∷ [];
      ways = with_way proxy (record (way_by site proxy) { ahead = (way_by site proxy).ahead + 1 }) site.ways;
    })
site_turned home proxy place order lanes links opening site server moment tag reply inside up steps named more below holds h =
    let living = h.living proxy up in
    let takes = takes_next home proxy place order lanes links opening site server moment up steps h holds in
    let cache_is : site.server.cache ≡ cache_of opening h.made = h.server.cache.cache ∙ replayed_made opening h.made in
    let m : Made = made_of (way_by site proxy).connection h.made opening takes.next.command moment steps.step.1.served.0 in
    let all_others = others_named home proxy place order (lanes proxy) (commands_on (way_by site proxy).connection h.made) living.others living.commands h.all_named in
    let next_named : IsNamed place order takes.next.command = (subst (λ (cs : List Tagged). Each (IsNamed place order) cs) takes.next.is all_others).0 in
    let can_here = subst (λ (s : CacheState). can_have takes.next.command.0 (step_of s takes.next.command.0 moment steps.step.1.served.0).1 ≡ true) cache_is
    (answers_as_it_can site.server.cache h.good_cache takes.next.command.0 takes.good moment below steps.step.1.served.0) in
    let made = is_made (way_by site proxy).connection site.server server moment opening h.made takes.next.command steps takes.next.what_is cache_is takes.good can_here in
    let reply_is = appended (way_by site proxy).connection site.server server moment opening h.made takes.next.command reply steps takes.next.what_is cache_is made more in
    let others_times = others_of living.others takes.next.command takes.next.past takes.next.is in
    let tag_is : tag ≡ takes.next.command.1 = same_tag (slice_get (map (λ (w : Waiting). w.1) (links proxy).waiting) (way_by site proxy).ahead) tag takes.next.command.1 named
    (waits_next home proxy place order lanes links opening site up h takes.next.command takes.next.past holds takes.next.is) in
    let entry_is : record { client = tag.session; request = tag.request; atom = tag.atom; moment = moment; refused = steps.step.1.served.0; reply = reply } ≡ entry_of m =
    ap₂ (λ (t : Tag) (bytes : List ℕ). entry_by t moment steps.step.1.served.0 bytes) tag_is reply_is in
    let all_is : (h.past ++ h.made) ++ m ∷ [] ≡ h.past ++ (h.made ++ m ∷ []) = append_assoc h.past h.made (m ∷ []) in
    let taking : map taking_of h.made ++ entry_taken steps ∷ [] ≡ map taking_of (h.made ++ m ∷ []) =
    ap (λ (what : Parsed). map taking_of h.made ++ (taking_by (way_by site proxy).connection what moment steps.step.1.served.0) ∷ []) takes.next.what_is ∙ sym (map-append taking_of h.made (m ∷ [])) in
    let after : WayState = record (way_by site proxy) { ahead = (way_by site proxy).ahead + 1 } in
    let now : SiteState = record site { server = server; history = site.history ++ entry_by tag moment steps.step.1.served.0 reply ∷ []; ways = with_way proxy after site.ways } in
    let way : way_by now proxy ≡ after = way_own site.ways proxy after inside in
    let same_numbers : (q : ℕ) → (way_by now q).connection ≡ (way_by site q).connection = connection_stays site.ways proxy after inside refl in
    let pushed : commands_on (way_by site proxy).connection (h.made ++ m ∷ []) ≡ commands_on (way_by site proxy).connection h.made ++ takes.next.command ∷ [] = commands_push_own h.made m in
    record {
      past = h.past;
      made = h.made ++ m ∷ [];
      begun = h.begun;
      texts = h.texts;
      sent = h.sent;
      server = subst (λ (es : List ServedRequest). ServerHolds opening h.texts h.sent es server) taking
          (ServerHolds-took opening h.texts h.sent (map taking_of h.made) (way_by site proxy).connection moment site.server server h.server steps);
      good_cache = still_good site.server.cache server.cache m steps.step.0 takes.next.what_is steps.step.1.served.1.cache takes.good below h.good_cache;
      answers = made_push opening h.made m h.answers made;
      history = ap₂ (λ (es : List Entry) (e : Entry). es ++ e ∷ []) h.history entry_is ∙ sym (map-append entry_of (h.past ++ h.made) (m ∷ []))
          ∙ ap (λ (ms : List Made). map entry_of ms) all_is;
      good = h.good;
      named = subst (λ (ms : List Made). Each (λ (x : Made). IsNamed place order x.command) ms) all_is
          (each_push (λ (x : Made). IsNamed place order x.command) (h.past ++ h.made) m h.named next_named);
      all_named = h.all_named;
      replied = replied_push place order site.history (entry_by tag moment steps.step.1.served.0 reply) h.replied;
      once = λ t. omega (arith, living.once t, others_times t, one_more h.past h.made m t);
      living = each_one (λ (q : ℕ). (links q).up ≡ true → IsLiving home q place order (lanes q) (h.past ++ (h.made ++ m ∷ [])) (h.made ++ m ∷ []) h.texts h.sent now) proxy
          (λ _. record {
            end = steps.after;
            is_open = ap (λ (w : WayState). connection_at server w.connection) way
                ∙ ap (λ (cs : List (ℕ × ConnectionState)). connection_at (record server { connections = cs }) (way_by site proxy).connection) steps.is
                ∙ updated_own (way_by site proxy).connection steps.before steps.after site.server.connections steps.was;
            out = ap (λ (w : WayState). h.texts w.connection) way ∙ living.out;
            came = ap (λ (w : WayState). h.sent w.connection) way ∙ living.came;
            others = takes.next.past;
            commands = living.commands ∙ ap (λ (cs : List Tagged). commands_on (way_by site proxy).connection h.made ++ cs) takes.next.is
                ∙ sym (append_assoc (commands_on (way_by site proxy).connection h.made) (takes.next.command ∷ []) takes.next.past)
                ∙ ap (λ (cs : List Tagged). cs ++ takes.next.past) (sym pushed)
                ∙ ap (λ (w : WayState). commands_on w.connection (h.made ++ m ∷ []) ++ takes.next.past) (sym way);
            ahead =
                let longer : length (commands_on (way_by site proxy).connection (h.made ++ m ∷ [])) ≡ length (commands_on (way_by site proxy).connection h.made ++ takes.next.command ∷ []) = ap (λ (cs : List Tagged). length cs) pushed in
                let sum : (way_by site proxy).ahead + 1 + length (lanes proxy).replies ≡ length (commands_on (way_by site proxy).connection (h.made ++ m ∷ [])) =
                omega (arith, living.ahead, longer, length-append (commands_on (way_by site proxy).connection h.made) (takes.next.command ∷ [])) in
                ap (λ (w : WayState). w.ahead + length (lanes proxy).replies) way ∙ sum
                ∙ ap (λ (w : WayState). length (commands_on w.connection (h.made ++ m ∷ []))) (sym way);
            once = λ t. omega (arith, living.once t, others_times t, one_more h.past h.made m t);
          })
          (λ q differ up_q. let apart = h.apart_ways proxy q up up_q differ in
          living_moved home q place order order (lanes q) (lanes q) (h.past ++ h.made) (h.past ++ (h.made ++ m ∷ [])) h.made (h.made ++ m ∷ []) h.texts h.texts h.sent h.sent site now
          (way_other site.ways proxy q after differ) refl refl (commands_push_other (way_by site q).connection h.made m apart)
          (other_is (way_by site proxy).connection (way_by site q).connection site.server server (IsTurn (way_by site proxy).connection moment Took) steps apart) refl refl refl refl (h.living q up_q)
          (λ t. omega (
            arith,
            others_times t,
            one_more h.past h.made m t,
            once_apart home proxy q place order (lanes proxy) (lanes q) (h.past ++ h.made) h.made h.texts h.sent site differ living (h.living q up_q) t,
          )));
      lost = λ i w at. let differ = h.apart_living proxy up i w at in
          lost_untouched place order h.made m h.texts site.server server w differ
          (other_is (way_by site proxy).connection w.connection site.server server (IsTurn (way_by site proxy).connection moment Took) steps differ) (h.lost i w at);
      apart = h.apart;
      apart_living = λ q up_q i w at same. h.apart_living q up_q i w at (sym (same_numbers q) ∙ same);
      apart_ways = λ p q up_p up_q differ same. h.apart_ways p q up_p up_q differ (sym (same_numbers p) ∙ same ∙ same_numbers q);
    }
