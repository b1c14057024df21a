-- A server and its ways hold after its link is lost and comes up again, and after the server has restarted.
use Rattle.std.proofs.Common.{◌≡◌, ◌≢◌, ◌∙◌, ℕ, zero, suc, ◌+◌, ◌<◌, ◌⊎◌, inl, inr, true, List, [], ◌∷◌, ◌++◌, length, map, drop, Some, None, slice_get, refl, sym, ap, ap₂, subst, append-nil, arith}
use Rattle.std.specs.List.{list_all}
use Rattle.std.proofs.lemmas.List.{drop-drop, drop-map, drop_all, length-map, map-append}
use Rattle.std.proofs.lemmas.Option.{none-some, same_Some}
use Rattle.std.proofs.Math.Seq.{drop-append_seam}
use Rattle.mc_link.specs.LinkState.{LinkState, Waiting}
use Rattle.mc_link.specs.declared.turns.Tag.{Tag}
use Rattle.mc_cache.specs.CacheState.{CacheState}
use Rattle.mc_server.specs.ServerState.{ServerState, connection_at, fresh_connection, with_fresh}
use Rattle.mc_server.specs.Holds.{ServerHolds}
use Rattle.mc_server.proofs.ConnectionLemmas.{fresh_other, fresh_own}
use Rattle.mc_server.proofs.HoldsLemmas.{ServerHolds-admitted, ServerHolds-new, given}
use Rattle.mc_account.specs.Holds.{changed}
use Rattle.mc_account.specs.Lanes.{Lane, LaneHolds, fresh_lane, sent_on, spelled}
use Rattle.mc_account.specs.Orders.{Order, Tagged, commands_to}
use Rattle.mc_history.specs.Generations.{is_good}
use Rattle.mc_history.specs.Made.{Each, Made, commands_on, entry_of, read_as, taking_of}
use Rattle.mc_history.specs.declared.entries.Entry.{Entry}
use Rattle.mc_cache_laws.specs.GoodCaches.{IsGoodCache}
use Rattle.mc_world.specs.Homes.{Homes, of_proxy}
use Rattle.mc_world.specs.Pools.{cut_off}
use Rattle.mc_world.specs.Restarts.{restarted}
use Rattle.mc_world.specs.Sites.{IsLiving, IsLostWay, SiteHolds, untaken_times}
use Rattle.mc_world.specs.WorldState.{SiteState, StaleState, WayState, way_by, with_way}
use Rattle.mc_history.proofs.MadeLemmas.{taken_on}
use Rattle.mc_history.proofs.OutcomeLemmas.{NoNews, replied_kept}
use Rattle.mc_world.proofs.SiteEvents.CountLemmas.{untaken-push}
use Rattle.mc_world.proofs.SiteEvents.EachLemmas.{each_changed, each_link, was_up, way_other, way_own}
use Rattle.mc_world.proofs.SiteEvents.MoveLemmas.{lost_kept, made_kept}
use Rattle.mc_history.proofs.NamedLemmas.{Keeps, kept_named}
use Rattle.mc_world.proofs.SiteEvents.SiteLemmas.{get_none, good_sent, living_moved, once_apart, others_named, tags_wait}
use Rattle.mc_history.specs.Named.{IsNamed, tags_made, tags_of, times}

-- an element of a list with one more at its end
pub get_pushed : (ways : List StaleState) (way : StaleState) (i : ℕ) (w : StaleState) → slice_get (ways ++ way ∷ []) i ≡ Some w
    → (slice_get ways i ≡ Some w) ⊎ ((i ≡ length ways) × (w ≡ way))
get_pushed [] way zero w e = inr (refl, sym (same_Some way w e))
get_pushed [] way (suc i) w e = absurd (none-some w (sym (get_none i) ∙ e))
get_pushed (x ∷ xs) way zero w e = inl e
get_pushed (x ∷ xs) way (suc i) w e = elim (get_pushed xs way i w e) [
  | inl h ↦ inl h
  | inr h ↦ inr (ap suc h.0, h.1)
]

-- a number of commands after the first
drop_front : (front back : List Tagged) (count ahead : ℕ) → ahead + count ≡ length front
    → drop ahead (drop count (map (λ (c : Tagged). c.1) (front ++ back))) ≡ map (λ (c : Tagged). c.1) back
drop_front front back count ahead h =
    let size : count + ahead ≡ length (map (λ (c : Tagged). c.1) front) = omega (arith, h, length-map front (λ (c : Tagged). c.1)) in
    drop-drop ahead count (map (λ (c : Tagged). c.1) (front ++ back))
    ∙ ap₂ (λ (n : ℕ) (ts : List Tag). drop n ts) size (map-append (λ (c : Tagged). c.1) front back)
    ∙ drop-append_seam (map (λ (c : Tagged). c.1) front) (map (λ (c : Tagged). c.1) back)

-- a proxy's link is lost: its bytes go on their way, and the tags of the commands that the server has not taken are kept with them
pub site_lost : (home : Homes) (proxy place : ℕ) (order order' : Order) (lanes : ℕ → Lane) (links : ℕ → LinkState) (link' : LinkState) (opening : CacheState) (site : SiteState)
    → (links proxy).up ≡ true → link'.up ≢ true → Keeps order order' → NoNews place order order' → commands_to place order' ≡ commands_to place order
    → ((q : ℕ) (lane : Lane) → sent_on place (of_proxy home q order') lane ≡ sent_on place (of_proxy home q order) lane)
    → LaneHolds place (of_proxy home proxy order) (lanes proxy) (links proxy) → SiteHolds home place order lanes links opening site
    → SiteHolds home place order' lanes (changed proxy link' links) opening (cut_off proxy (links proxy) site)
site_lost home proxy place order order' lanes links link' opening site up down keeps news commands sent_stays holds h =
    let living = h.living proxy up in
    let own : Order = of_proxy home proxy order in
    let lane : Lane = lanes proxy in
    let link : LinkState = links proxy in
    let c : ℕ = (way_by site proxy).connection in
    let number : ℕ = (way_by site proxy).ahead in
    let was = was_up proxy link' links (λ up'. absurd (down up')) in
    let same_times : (t : Tag) → times t (tags_of (commands_to place order')) ≡ times t (tags_of (commands_to place order)) = λ t. ap (λ (cs : List Tagged). times t (tags_of cs)) commands in
    let way : StaleState = record {
      proxy = proxy;
      generation = (way_by site proxy).generation;
      connection = (way_by site proxy).connection;
      going = link.output;
      untaken = drop number (map (λ (w : Waiting). w.1) link.waiting);
    } in
    let cut : IsLostWay place order h.made h.texts site.server way = record {
      end = living.end;
      is_open = living.is_open;
      others = living.others;
      put = ap (λ (bytes : List ℕ). bytes ++ link.output) living.out ∙ holds.put ∙ ap (λ (cs : List Tagged). spelled cs) living.commands;
      good = ap (λ (cs : List Tagged). list_all is_good cs) (sym living.commands) ∙ good_sent home proxy place lane.since order h.good;
      untaken =
          ap (λ (ws : List Waiting). drop number (map (λ (w : Waiting). w.1) ws)) holds.waiting
          ∙ ap (λ (ts : List Tag). drop number ts) (tags_wait (drop (length lane.replies) (sent_on place own lane)) ∙ sym (drop-map (λ (x : Tagged). x.1) (length lane.replies) (sent_on place own lane)))
          ∙ ap (λ (cs : List Tagged). drop number (drop (length lane.replies) (map (λ (x : Tagged). x.1) cs))) living.commands
          ∙ drop_front (commands_on c h.made) living.others (length lane.replies) number living.ahead;
      named = others_named home proxy place order lane (commands_on c h.made) living.others living.commands h.all_named;
    } in
    let more : (t : Tag) → untaken_times t (site.lost ++ way ∷ []) ≡ untaken_times t site.lost + times t way.untaken = λ t. untaken-push t site.lost way in
    let untaken_is : (t : Tag) → times t way.untaken ≡ times t (tags_of living.others) = λ t. ap (λ (ts : List Tag). times t ts) cut.untaken in
    record {
      past = h.past;
      made = h.made;
      begun = h.begun;
      texts = h.texts;
      sent = h.sent;
      server = h.server;
      good_cache = h.good_cache;
      answers = h.answers;
      history = h.history;
      good = ap (λ (cs : List Tagged). list_all is_good cs) commands ∙ h.good;
      named = made_kept place order order' (h.past ++ h.made) keeps h.named;
      all_named = subst (λ (cs : List Tagged). Each (IsNamed place order') cs) (sym commands) (kept_named place order order' (commands_to place order) keeps h.all_named);
      replied = replied_kept place order order' site.history news h.replied;
      once = λ t. omega (arith, living.once t, same_times t, more t, untaken_is t);
      living = each_link
          (λ (q : ℕ) (k : LinkState). k.up ≡ true → IsLiving home q place order' (lanes q) (h.past ++ h.made) h.made h.texts h.sent (cut_off proxy (links proxy) site))
          proxy link' links (λ is. absurd (down is))
          (λ q differ up_q. living_moved home q place order order' (lanes q) (lanes q) (h.past ++ h.made) (h.past ++ h.made) h.made h.made h.texts h.texts h.sent h.sent site (cut_off proxy (links proxy) site)
          refl refl refl refl refl (sent_stays q (lanes q)) refl refl refl (h.living q up_q)
          (λ t. omega (
            arith,
            same_times t,
            more t,
            untaken_is t,
            once_apart home proxy q place order (lanes proxy) (lanes q) (h.past ++ h.made) h.made h.texts h.sent site differ living (h.living q up_q) t,
          )));
      lost = λ i w at. elim (get_pushed site.lost way i w at) [
        | inl k ↦ lost_kept place order order' h.made h.texts site.server w keeps (h.lost i w k)
        | inr k ↦ lost_kept place order order' h.made h.texts site.server w keeps (subst (λ (x : StaleState). IsLostWay place order h.made h.texts site.server x) (sym k.1) cut)
      ];
      apart = λ i j v w at_v at_w differ. elim (get_pushed site.lost way i v at_v) [
        | inl k ↦ (elim (get_pushed site.lost way j w at_w) [
          | inl l ↦ h.apart i j v w k l differ
          | inr l ↦ λ same. h.apart_living proxy up i v k (sym (same ∙ ap (λ (x : StaleState). x.connection) l.1))
        ])
        | inr k ↦ (elim (get_pushed site.lost way j w at_w) [
          | inl l ↦ λ same. h.apart_living proxy up j w l (sym (ap (λ (x : StaleState). x.connection) k.1) ∙ same)
          | inr l ↦ λ same. differ (k.0 ∙ sym l.0)
        ])
      ];
      apart_living = each_link
          (λ (q : ℕ) (k : LinkState). k.up ≡ true → (i : ℕ) (w : StaleState) → slice_get (site.lost ++ way ∷ []) i ≡ Some w → (way_by site q).connection ≢ w.connection)
          proxy link' links (λ is. absurd (down is))
          (λ q differ up_q i w at. elim (get_pushed site.lost way i w at) [
            | inl k ↦ h.apart_living q up_q i w k
            | inr k ↦ λ same. h.apart_ways q proxy up_q up (λ is. differ (sym is)) (same ∙ ap (λ (x : StaleState). x.connection) k.1)
          ]);
      apart_ways = λ p q up_p up_q. h.apart_ways p q (was p up_p) (was q up_q);
    }

no_commands : (cs : List Tagged) → map read_as cs ≡ [] → cs ≡ []
no_commands [] e = refl
no_commands (c ∷ cs) e = absurd cc

-- nothing was made on a connection whose number was not given yet
none_made : (opening : CacheState) (made : List Made) (texts sent : ℕ → List ℕ) (server : ServerState) → ServerHolds opening texts sent (map taking_of made) server
    → commands_on server.admitted made ≡ []
none_made opening made texts sent server h =
    let none : map read_as (commands_on server.admitted made) ≡ [] = sym (taken_on server.admitted made) ∙ (h.unused server.admitted (omega arith)).nothing_taken in
    no_commands (commands_on server.admitted made) none

-- a proxy's link comes up: the server has admitted a connection for it
pub site_back : (home : Homes) (proxy place : ℕ) (order : Order) (lanes : ℕ → Lane) (links : ℕ → LinkState) (link' : LinkState) (opening : CacheState) (site : SiteState) (generation : ℕ)
    → proxy < length site.ways → connection_at site.server site.server.admitted ≡ None → SiteHolds home place order lanes links opening site
    → SiteHolds home place order (changed proxy (fresh_lane (length (of_proxy home proxy order))) lanes) (changed proxy link' links) opening (record site {
      server = with_fresh site.server;
      ways = with_way proxy (record { generation = generation; connection = site.server.admitted; ahead = 0 }) site.ways;
    })
site_back home proxy place order lanes links link' opening site generation inside closed h =
    let unused = h.server.unused site.server.admitted (omega arith) in
    let none = none_made opening h.made h.texts h.sent site.server h.server in
    let own : Order = of_proxy home proxy order in
    let differs : (i : ℕ) (way : StaleState) → slice_get site.lost i ≡ Some way → site.server.admitted ≢ way.connection =
    λ i way at. let w = h.lost i way at in let below = given opening h.texts h.sent (map taking_of h.made) site.server way.connection w.end h.server w.is_open in λ same. omega (arith, below, same) in
    let given_before : (q : ℕ) → (links q).up ≡ true → (way_by site q).connection < site.server.admitted =
    λ q up_q. given opening h.texts h.sent (map taking_of h.made) site.server (way_by site q).connection (h.living q up_q).end h.server (h.living q up_q).is_open in
    let after : WayState = record { generation = generation; connection = site.server.admitted; ahead = 0 } in
    let now : SiteState = record site { server = with_fresh site.server; ways = with_way proxy after site.ways } in
    let way : way_by now proxy ≡ after = way_own site.ways proxy after inside in
    let number : (way_by now proxy).connection ≡ site.server.admitted = ap (λ (w : WayState). w.connection) way in
    let others_stay : (q : ℕ) → proxy ≢ q → (way_by now q).connection ≡ (way_by site q).connection = λ q differ. ap (λ (w : WayState). w.connection) (way_other site.ways proxy q after differ) in
    record {
      past = h.past;
      made = h.made;
      begun = h.begun;
      texts = h.texts;
      sent = h.sent;
      server = ServerHolds-admitted opening h.texts h.sent (map taking_of h.made) site.server h.server;
      good_cache = h.good_cache;
      answers = h.answers;
      history = h.history;
      good = h.good;
      named = h.named;
      all_named = h.all_named;
      once = h.once;
      replied = h.replied;
      living = each_changed
          (λ (q : ℕ) (l : Lane) (k : LinkState). k.up ≡ true → IsLiving home q place order l (h.past ++ h.made) h.made h.texts h.sent now)
          proxy (fresh_lane (length own)) link' lanes links
          (λ _. record {
            end = fresh_connection;
            is_open = ap (λ (n : ℕ). connection_at (with_fresh site.server) n) number ∙ fresh_own site.server.admitted fresh_connection site.server.connections closed;
            out = ap (λ (n : ℕ). h.texts n) number ∙ unused.nothing_came;
            came = ap (λ (n : ℕ). h.sent n) number ∙ unused.nothing_sent;
            others = [];
            commands = ap (λ (es : Order). commands_to place es) (drop_all (length own) own (omega arith))
                ∙ sym (ap (λ (n : ℕ). commands_on n h.made ++ []) number ∙ append-nil (commands_on site.server.admitted h.made) ∙ none);
            ahead = ap (λ (w : WayState). w.ahead + 0) way ∙ sym (ap (λ (cs : List Tagged). length cs) (ap (λ (n : ℕ). commands_on n h.made) number ∙ none));
            once = λ t. omega (arith, h.once t);
          })
          (λ q differ up_q. let below = given_before q up_q in
          living_moved home q place order order (lanes q) (lanes q) (h.past ++ h.made) (h.past ++ h.made) h.made h.made h.texts h.texts h.sent h.sent site now
          (way_other site.ways proxy q after differ) refl refl refl
          (fresh_other site.server.admitted (way_by site q).connection fresh_connection site.server.connections (λ same. omega (arith, below, same))) refl refl refl refl (h.living q up_q) (h.living q up_q).once);
      lost = λ i way at. let w = h.lost i way at in record {
        end = w.end;
        is_open = fresh_other site.server.admitted way.connection fresh_connection site.server.connections (differs i way at) ∙ w.is_open;
        others = w.others;
        put = w.put;
        good = w.good;
        untaken = w.untaken;
        named = w.named;
      };
      apart = h.apart;
      apart_living = each_link
          (λ (q : ℕ) (k : LinkState). k.up ≡ true → (i : ℕ) (w : StaleState) → slice_get site.lost i ≡ Some w → (way_by now q).connection ≢ w.connection)
          proxy link' links
          (λ _ i w at same. differs i w at (sym number ∙ same))
          (λ q differ up_q i w at same. h.apart_living q up_q i w at (sym (others_stay q differ) ∙ same));
      apart_ways = λ p q up_p up_q differ. each_link
          (λ (a : ℕ) (k : LinkState). k.up ≡ true → a ≢ q → (way_by now a).connection ≢ (way_by now q).connection) proxy link' links
          (λ _. each_link (λ (b : ℕ) (k : LinkState). k.up ≡ true → proxy ≢ b → (way_by now proxy).connection ≢ (way_by now b).connection) proxy link' links
          (λ _ other. absurd (other refl))
          (λ b other up_b _ same. let below = given_before b up_b in let is : site.server.admitted ≡ (way_by site b).connection = sym number ∙ same ∙ others_stay b other in omega (arith, below, is))
          q up_q)
          (λ a other up_a. each_link (λ (b : ℕ) (k : LinkState). k.up ≡ true → a ≢ b → (way_by now a).connection ≢ (way_by now b).connection) proxy link' links
          (λ _ _ same. let below = given_before a up_a in let is : (way_by site a).connection ≡ site.server.admitted = sym (others_stay a other) ∙ same ∙ number in omega (arith, below, is))
          (λ b past up_b apart same. h.apart_ways a b up_a up_b apart (sym (others_stay a other) ∙ same ∙ others_stay b past))
          q up_q)
          p up_p differ;
    }

-- a server to which no link is up restarts: nothing of its connections and ways is left, and it made nothing in this life yet
pub site_restarted : (home : Homes) (place : ℕ) (order : Order) (lanes : ℕ → Lane) (links : ℕ → LinkState) (opening : CacheState) (site : SiteState) → IsGoodCache opening
    → ((proxy : ℕ) → (links proxy).up ≡ true → ⊥)
    → SiteHolds home place order lanes links opening site → SiteHolds home place order lanes links opening (restarted opening site)
site_restarted home place order lanes links opening site good down h =
    let whole : (h.past ++ h.made) ++ [] ≡ h.past ++ h.made = append-nil (h.past ++ h.made) in
    record {
      past = h.past ++ h.made;
      made = [];
      begun = sym (ap (λ (es : List Entry). length es) h.history ∙ length-map (h.past ++ h.made) entry_of);
      texts = λ _. [];
      sent = λ _. [];
      server = ServerHolds-new opening;
      good_cache = good;
      answers = tt;
      history = h.history ∙ ap (λ (ms : List Made). map entry_of ms) (sym whole);
      good = h.good;
      named = subst (λ (ms : List Made). Each (λ (m : Made). IsNamed place order m.command) ms) (sym whole) h.named;
      all_named = h.all_named;
      replied = h.replied;
      once = λ t. let same : times t (tags_made ((h.past ++ h.made) ++ [])) ≡ times t (tags_made (h.past ++ h.made)) = ap (λ (ms : List Made). times t (tags_made ms)) whole in
          omega (arith, h.once t, same);
      living = λ q up. absurd (down q up);
      lost = λ i way at. absurd (none-some way (sym (get_none i) ∙ at));
      apart = λ i j v w at. absurd (none-some v (sym (get_none i) ∙ at));
      apart_living = λ q up. absurd (down q up);
      apart_ways = λ p q up. absurd (down p up);
    }
