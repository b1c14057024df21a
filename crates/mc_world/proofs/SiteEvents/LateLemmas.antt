-- A server and its ways hold after what happens on a lost generation: bytes arrive, the server takes a request, the server sees its end.
use Rattle.std.proofs.Common.{◌≡◌, ◌≢◌, ◌∙◌, ℕ, zero, suc, ◌+◌, ◌<◌, ◌≤◌, ◌^◌, ◌⊎◌, inl, inr, true, List, [], ◌∷◌, ◌++◌, map, Some, None, slice_get, slice_set, refl, sym, ap, ap₂, subst, append_assoc, arith}
use Rattle.std.specs.Prelude.{remove}
use Rattle.std.specs.List.{list_all}
use Rattle.std.proofs.lemmas.Bool.{and_parts}
use Rattle.std.proofs.lemmas.List.{map-append}
use Rattle.std.proofs.lemmas.Option.{none-some, same_Some}
use Rattle.mc_request.specs.Requests.{requests_of}
use Rattle.mc_request.specs.declared.parts.Parsed.{Parsed}
use Rattle.mc_request_reader.specs.Reader.{rest_of}
use Rattle.mc_reply.specs.CanHave.{can_have}
use Rattle.mc_link.specs.LinkState.{LinkState}
use Rattle.mc_link.specs.declared.turns.Tag.{Tag}
use Rattle.mc_cache.specs.CacheState.{CacheState}
use Rattle.mc_cache.specs.Step.{step_of}
use Rattle.mc_cache_laws.specs.GoodCaches.{IsGoodCache}
use Rattle.mc_cache_laws.proofs.GoodStepLemmas.{answers_as_it_can}
use Rattle.mc_server.specs.Served.{ServedRequest}
use Rattle.mc_server.specs.ServerState.{closed, ConnectionState, ServerState, connection_at}
use Rattle.mc_server.specs.Holds.{ServerHolds, grown}
use Rattle.mc_server.specs.Turns.{Feeds, IsTurn, Steps}
use Rattle.mc_server.specs.declared.turns.Turn.TheVariants.{Took}
use Rattle.mc_server.proofs.ConnectionLemmas.{closed_other, updated_own}
use Rattle.mc_server.proofs.HoldsLemmas.{ServerHolds-closed, ServerHolds-fed, ServerHolds-took, entry_taken, grown-other, grown-own, stood}
use Rattle.mc_account.specs.Lanes.{Lane, spelled}
use Rattle.mc_account.specs.Orders.{Order, Tagged}
use Rattle.mc_account.proofs.OrderLemmas.{passes_parts}
use Rattle.mc_history.specs.Generations.{is_good}
use Rattle.mc_history.specs.Made.{Each, Made, commands_on, entry_of, read_as, taking_of}
use Rattle.mc_history.specs.declared.entries.Entry.{Entry}
use Rattle.mc_world.specs.Homes.{Homes}
use Rattle.mc_world.specs.Sites.{IsLiving, IsLostWay, SiteHolds, untaken_times}
use Rattle.mc_world.specs.WorldState.{SiteState, StaleState, way_by}
use Rattle.mc_history.proofs.OutcomeLemmas.{replied_push}
use Rattle.mc_world.proofs.SiteEvents.CountLemmas.{untaken-set}
use Rattle.mc_history.proofs.GenerationLemmas.{reads_others}
use Rattle.mc_history.proofs.NamedLemmas.{each_push}
use Rattle.mc_history.proofs.MadeLemmas.{cache_of, made_push, replayed_made}
use Rattle.mc_world.proofs.SiteEvents.SiteLemmas.{appended, commands_push_other, commands_push_own, entry_by, get_none, is_made, living_moved, lost_elsewhere}
use Rattle.mc_world.proofs.SiteEvents.SiteLemmas.{lost_untouched, made_of, next_is, one_more, other_is, same_end, still_good, taking_by}
use Rattle.mc_history.specs.Named.{IsNamed, tags_made, times}

-- what is in a list after one element is replaced
pub get_set : (ways : List StaleState) (i : ℕ) (way : StaleState) (j : ℕ) (w : StaleState) → slice_get (slice_set ways i way) j ≡ Some w
    → ((j ≡ i) × (w ≡ way)) ⊎ ((j ≢ i) × (slice_get ways j ≡ Some w))
get_set [] i way j w e = absurd (none-some w (sym (get_none j) ∙ e))
get_set (x ∷ xs) zero way zero w e = inl (refl, sym (same_Some way w e))
get_set (x ∷ xs) zero way (suc j) w e = inr (λ same. omega (arith, same), e)
get_set (x ∷ xs) (suc i) way zero w e = inr (λ same. omega (arith, same), e)
get_set (x ∷ xs) (suc i) way (suc j) w e = elim (get_set xs i way j w e) [
  | inl h ↦ inl (ap suc h.0, h.1)
  | inr h ↦ inr (λ same. h.0 (omega (arith, same)), h.1)
]

-- ways with connections of their own, after one is changed in something else
abbrev AreApart : List StaleState → Type 0
AreApart ways = (i j : ℕ) (v w : StaleState) → slice_get ways i ≡ Some v → slice_get ways j ≡ Some w → i ≢ j → v.connection ≢ w.connection

apart_set : (ways : List StaleState) (i : ℕ) (way now : StaleState) → now.connection ≡ way.connection → slice_get ways i ≡ Some way → AreApart ways → AreApart (slice_set ways i now)
apart_set ways i way now same at apart j k v w at_v at_w differ = elim (get_set ways i now j v at_v) [
  | inl a ↦ (elim (get_set ways i now k w at_w) [
    | inl b ↦ λ _. differ (a.0 ∙ sym b.0)
    | inr b ↦ λ is. apart i k way w at b.1 (λ i_is. b.0 (sym i_is)) (sym same ∙ ap (λ (x : StaleState). x.connection) (sym a.1) ∙ is)
  ])
  | inr a ↦ (elim (get_set ways i now k w at_w) [
    | inl b ↦ λ is. apart j i v way a.1 at a.0 (is ∙ ap (λ (x : StaleState). x.connection) b.1 ∙ same)
    | inr b ↦ apart j k v w a.1 b.1 differ
  ])
]

-- the living generation of a proxy, if something happens on another connection
living_elsewhere : (home : Homes) (proxy place : ℕ) (order : Order) (lane : Lane) (all all' made made' : List Made) (texts texts' sent : ℕ → List ℕ) (site : SiteState) (server : ServerState) (history : List Entry) (lost : List StaleState)
    → texts' (way_by site proxy).connection ≡ texts (way_by site proxy).connection → commands_on (way_by site proxy).connection made' ≡ commands_on (way_by site proxy).connection made
    → connection_at server (way_by site proxy).connection ≡ connection_at site.server (way_by site proxy).connection
    → ((t : Tag) → times t (tags_made all') + untaken_times t lost ≤ times t (tags_made all) + untaken_times t site.lost)
    → IsLiving home proxy place order lane all made texts sent site → IsLiving home proxy place order lane all' made' texts' sent (record site { server = server; history = history; lost = lost })
living_elsewhere home proxy place order lane all all' made made' texts texts' sent site server history lost text commands is fewer h =
    living_moved home proxy place order order lane lane all all' made made' texts texts' sent sent site (record site { server = server; history = history; lost = lost })
    refl text refl commands is refl refl refl refl h (λ t. omega (arith, h.once t, fewer t))

-- bytes of a lost generation arrive
pub site_late_fed : (home : Homes) (place : ℕ) (order : Order) (lanes : ℕ → Lane) (links : ℕ → LinkState) (opening : CacheState) (site : SiteState) (server : ServerState) (i : ℕ) (way : StaleState) (piece rest : List ℕ)
    → slice_get site.lost i ≡ Some way → way.going ≡ piece ++ rest → Steps way.connection site.server server (Feeds piece) → SiteHolds home place order lanes links opening site
    → SiteHolds home place order lanes links opening (record site { server = server; lost = slice_set site.lost i (record way { going = rest }) })
site_late_fed home place order lanes links opening site server i way piece rest at going steps h =
    let own = h.lost i way at in
    let now_open : connection_at server way.connection ≡ Some steps.after =
    ap (λ (cs : List (ℕ × ConnectionState)). connection_at (record server { connections = cs }) way.connection) steps.is ∙ updated_own way.connection steps.before steps.after site.server.connections steps.was in
    let now : IsLostWay place order h.made (grown way.connection piece h.texts) server (record way { going = rest }) = record {
      end = steps.after;
      is_open = now_open;
      others = own.others;
      put = ap (λ (bytes : List ℕ). bytes ++ rest) (grown-own way.connection piece h.texts) ∙ append_assoc (h.texts way.connection) piece rest
          ∙ ap (λ (bytes : List ℕ). h.texts way.connection ++ bytes) (sym going) ∙ own.put;
      good = own.good;
      untaken = own.untaken;
      named = own.named;
    } in
    let fewer : (t : Tag) → times t (tags_made (h.past ++ h.made)) + untaken_times t (slice_set site.lost i (record way { going = rest })) ≤ times t (tags_made (h.past ++ h.made)) + untaken_times t site.lost =
    λ t. omega (arith, untaken-set t site.lost i way (record way { going = rest }) at) in
    record {
      past = h.past;
      made = h.made;
      begun = h.begun;
      texts = grown way.connection piece h.texts;
      sent = h.sent;
      server = ServerHolds-fed opening h.texts h.sent (map taking_of h.made) way.connection piece site.server server h.server steps;
      good_cache = subst IsGoodCache (sym steps.step.0) h.good_cache;
      answers = h.answers;
      history = h.history;
      good = h.good;
      named = h.named;
      all_named = h.all_named;
      replied = h.replied;
      once = λ t. omega (arith, h.once t, fewer t);
      living = λ q up. let differ : way.connection ≢ (way_by site q).connection = λ same. h.apart_living q up i way at (sym same) in
          living_elsewhere home q place order (lanes q) (h.past ++ h.made) (h.past ++ h.made) h.made h.made h.texts (grown way.connection piece h.texts) h.sent site server site.history (slice_set site.lost i (record way { going = rest }))
          (grown-other way.connection (way_by site q).connection piece h.texts differ) refl (other_is way.connection (way_by site q).connection site.server server (Feeds piece) steps differ) fewer (h.living q up);
      lost = λ j w at_w. elim (get_set site.lost i (record way { going = rest }) j w at_w) [
        | inl k ↦ subst (λ (x : StaleState). IsLostWay place order h.made (grown way.connection piece h.texts) server x) (sym k.1) now
        | inr k ↦ (let differ = h.apart i j way w at k.1 (λ same. k.0 (sym same)) in
            lost_elsewhere place order h.made h.texts (grown way.connection piece h.texts) site.server server w (grown-other way.connection w.connection piece h.texts differ)
            (other_is way.connection w.connection site.server server (Feeds piece) steps differ) (h.lost j w k.1))
      ];
      apart = λ j k v w at_v at_w differ. apart_set site.lost i way (record way { going = rest }) refl at h.apart j k v w at_v at_w differ;
      apart_living = λ q up j w at_w. elim (get_set site.lost i (record way { going = rest }) j w at_w) [
        | inl k ↦ (λ same. h.apart_living q up i way at (same ∙ ap (λ (x : StaleState). x.connection) k.1))
        | inr k ↦ h.apart_living q up j w k.1
      ];
      apart_ways = h.apart_ways;
    }

-- a server takes a request of a lost generation: its tag was kept
pub site_late_turned : (home : Homes) (place : ℕ) (order : Order) (lanes : ℕ → Lane) (links : ℕ → LinkState) (opening : CacheState) (site : SiteState) (server : ServerState)
    (moment : ℕ) (i : ℕ) (way : StaleState) (tag : Tag) (tags : List Tag) (reply : List ℕ)
    → slice_get site.lost i ≡ Some way → way.untaken ≡ tag ∷ tags → (steps : Steps way.connection site.server server (IsTurn way.connection moment Took))
    → steps.after.output ≡ steps.before.output ++ reply → moment < 2 ^ 63 → SiteHolds home place order lanes links opening site
    → SiteHolds home place order lanes links opening (record site {
      server = server;
      history = site.history ++ (record { client = tag.session; request = tag.request; atom = tag.atom; moment = moment; refused = steps.step.1.served.0; reply = reply }) ∷ [];
      lost = slice_set site.lost i (record way { untaken = tags });
    })
site_late_turned home place order lanes links opening site server moment i way tag tags reply at named steps more below h =
    let own = h.lost i way at in
    let same = same_end own.end steps.before (connection_at site.server way.connection) own.is_open steps.was in
    let reads = reads_others opening way.connection (h.texts way.connection) way.going (h.sent way.connection) h.made own.end own.others
    (stood opening h.texts h.sent (map taking_of h.made) site.server way.connection own.end h.server own.is_open) own.put own.good [] in
    let first : map read_as own.others ++ requests_of [] ≡ steps.step.0 ∷ rest_of steps.after.reader (way.going ++ []) =
    sym reads ∙ ap (λ (c : ConnectionState). rest_of c.reader (way.going ++ [])) same ∙ steps.step.1.first.rest (way.going ++ []) in
    let next = next_is own.others steps.step.0 (rest_of steps.after.reader (way.going ++ [])) first in
    let cache_is : site.server.cache ≡ cache_of opening h.made = h.server.cache.cache ∙ replayed_made opening h.made in
    let good_all : list_all is_good (commands_on way.connection h.made ++ next.command ∷ next.past) ≡ true =
    ap (λ (cs : List Tagged). list_all is_good (commands_on way.connection h.made ++ cs)) (sym next.is) ∙ own.good in
    let good = (and_parts (is_good next.command) (list_all is_good next.past) (passes_parts is_good (commands_on way.connection h.made) (next.command ∷ next.past) good_all).1).0 in
    let next_named : Each (IsNamed place order) (next.command ∷ next.past) = subst (λ (cs : List Tagged). Each (IsNamed place order) cs) next.is own.named in
    let m : Made = made_of way.connection h.made opening next.command moment steps.step.1.served.0 in
    let can_here = subst (λ (s : CacheState). can_have next.command.0 (step_of s next.command.0 moment steps.step.1.served.0).1 ≡ true) cache_is
    (answers_as_it_can site.server.cache h.good_cache next.command.0 good moment below steps.step.1.served.0) in
    let made = is_made way.connection site.server server moment opening h.made next.command steps next.what_is cache_is good can_here in
    let reply_is = appended way.connection site.server server moment opening h.made next.command reply steps next.what_is cache_is made more in
    let kept : tag ∷ tags ≡ next.command.1 ∷ map (λ (c : Tagged). c.1) next.past = sym named ∙ own.untaken ∙ ap (λ (cs : List Tagged). map (λ (c : Tagged). c.1) cs) next.is in
    let tag_is : tag ≡ next.command.1 = cc in
    let tags_are : tags ≡ map (λ (c : Tagged). c.1) next.past = cc in
    let entry_is : entry_by tag moment steps.step.1.served.0 reply ≡ entry_of m = ap₂ (λ (t : Tag) (bytes : List ℕ). entry_by t moment steps.step.1.served.0 bytes) tag_is reply_is in
    let all_is : (h.past ++ h.made) ++ m ∷ [] ≡ h.past ++ (h.made ++ m ∷ []) = append_assoc h.past h.made (m ∷ []) in
    let taking : map taking_of h.made ++ entry_taken steps ∷ [] ≡ map taking_of (h.made ++ m ∷ []) =
    ap (λ (what : Parsed). map taking_of h.made ++ (taking_by way.connection what moment steps.step.1.served.0) ∷ []) next.what_is ∙ sym (map-append taking_of h.made (m ∷ [])) in
    let now_open : connection_at server way.connection ≡ Some steps.after =
    ap (λ (cs : List (ℕ × ConnectionState)). connection_at (record server { connections = cs }) way.connection) steps.is ∙ updated_own way.connection steps.before steps.after site.server.connections steps.was in
    let whole : commands_on way.connection h.made ++ own.others ≡ commands_on way.connection (h.made ++ m ∷ []) ++ next.past =
    ap (λ (cs : List Tagged). commands_on way.connection h.made ++ cs) next.is ∙ sym (append_assoc (commands_on way.connection h.made) (next.command ∷ []) next.past)
    ∙ ap (λ (cs : List Tagged). cs ++ next.past) (sym (commands_push_own h.made m)) in
    let now : IsLostWay place order (h.made ++ m ∷ []) h.texts server (record way { untaken = tags }) = record {
      end = steps.after;
      is_open = now_open;
      others = next.past;
      put = own.put ∙ ap (λ (cs : List Tagged). spelled cs) whole;
      good = ap (λ (cs : List Tagged). list_all is_good cs) (sym whole) ∙ own.good;
      untaken = tags_are;
      named = next_named.1;
    } in
    let fewer : (t : Tag) → times t (tags_made (h.past ++ (h.made ++ m ∷ []))) + untaken_times t (slice_set site.lost i (record way { untaken = tags })) ≤ times t (tags_made (h.past ++ h.made)) + untaken_times t site.lost =
    λ t. let one : times t way.untaken ≡ times t (tag ∷ tags) = ap (λ (ts : List Tag). times t ts) named in
    let own_tag : times t (tag ∷ []) ≡ times t (next.command.1 ∷ []) = ap (λ (x : Tag). times t (x ∷ [])) tag_is in
    omega (arith, one_more h.past h.made m t, untaken-set t site.lost i way (record way { untaken = tags }) at, one, own_tag) in
    record {
      past = h.past;
      made = h.made ++ m ∷ [];
      begun = h.begun;
      texts = h.texts;
      sent = h.sent;
      server = subst (λ (es : List ServedRequest). ServerHolds opening h.texts h.sent es server) taking
          (ServerHolds-took opening h.texts h.sent (map taking_of h.made) way.connection moment site.server server h.server steps);
      good_cache = still_good site.server.cache server.cache m steps.step.0 next.what_is steps.step.1.served.1.cache good below h.good_cache;
      answers = made_push opening h.made m h.answers made;
      history = ap₂ (λ (es : List Entry) (e : Entry). es ++ e ∷ []) h.history entry_is ∙ sym (map-append entry_of (h.past ++ h.made) (m ∷ []))
          ∙ ap (λ (ms : List Made). map entry_of ms) all_is;
      good = h.good;
      named = subst (λ (ms : List Made). Each (λ (x : Made). IsNamed place order x.command) ms) all_is
          (each_push (λ (x : Made). IsNamed place order x.command) (h.past ++ h.made) m h.named next_named.0);
      all_named = h.all_named;
      replied = replied_push place order site.history (entry_by tag moment steps.step.1.served.0 reply) h.replied;
      once = λ t. omega (arith, h.once t, fewer t);
      living = λ q up. let differ : way.connection ≢ (way_by site q).connection = λ is. h.apart_living q up i way at (sym is) in
          living_elsewhere home q place order (lanes q) (h.past ++ h.made) (h.past ++ (h.made ++ m ∷ [])) h.made (h.made ++ m ∷ [])
          h.texts h.texts h.sent site server (site.history ++ entry_by tag moment steps.step.1.served.0 reply ∷ []) (slice_set site.lost i (record way { untaken = tags }))
          refl (commands_push_other (way_by site q).connection h.made m differ) (other_is way.connection (way_by site q).connection site.server server (IsTurn way.connection moment Took) steps differ) fewer (h.living q up);
      lost = λ j w at_w. elim (get_set site.lost i (record way { untaken = tags }) j w at_w) [
        | inl k ↦ subst (λ (x : StaleState). IsLostWay place order (h.made ++ m ∷ []) h.texts server x) (sym k.1) now
        | inr k ↦ (let differ = h.apart i j way w at k.1 (λ is. k.0 (sym is)) in
            lost_untouched place order h.made m h.texts site.server server w differ (other_is way.connection w.connection site.server server (IsTurn way.connection moment Took) steps differ) (h.lost j w k.1))
      ];
      apart = λ j k v w at_v at_w differ. apart_set site.lost i way (record way { untaken = tags }) refl at h.apart j k v w at_v at_w differ;
      apart_living = λ q up j w at_w. elim (get_set site.lost i (record way { untaken = tags }) j w at_w) [
        | inl k ↦ (λ is. h.apart_living q up i way at (is ∙ ap (λ (x : StaleState). x.connection) k.1))
        | inr k ↦ h.apart_living q up j w k.1
      ];
      apart_ways = h.apart_ways;
    }

-- what is in a list after one element is removed
pub shift : ℕ → ℕ → ℕ
shift zero j = suc j
shift (suc i) zero = zero
shift (suc i) (suc j) = suc (shift i j)

shift_apart : (i j k : ℕ) → j ≢ k → shift i j ≢ shift i k
unfolding shift
shift_apart zero j k differ same = differ (omega (arith, same))
shift_apart (suc i) zero zero differ same = differ refl
shift_apart (suc i) zero (suc k) differ same = omega (arith, same)
shift_apart (suc i) (suc j) zero differ same = omega (arith, same)
shift_apart (suc i) (suc j) (suc k) differ same = shift_apart i j k (λ e. differ (ap suc e)) (omega (arith, same))

pub shift_rises : (i j k : ℕ) → j < k → shift i j < shift i k
unfolding shift
shift_rises zero j k below = omega (arith, below)
shift_rises (suc i) zero zero below = omega (arith, below)
shift_rises (suc i) zero (suc k) below = omega arith
shift_rises (suc i) (suc j) zero below = absurd (omega (arith, below))
shift_rises (suc i) (suc j) (suc k) below = let less = shift_rises i j k (omega (arith, below)) in omega (arith, less)

shift_past : (i j : ℕ) → i ≢ shift i j
unfolding shift
shift_past zero j same = omega (arith, same)
shift_past (suc i) zero same = omega (arith, same)
shift_past (suc i) (suc j) same = shift_past i j (omega (arith, same))

pub get_removed : (ways : List StaleState) (i j : ℕ) → slice_get (remove ways i) j ≡ slice_get ways (shift i j)
unfolding shift
get_removed [] zero zero = refl
get_removed [] zero (suc j) = refl
get_removed [] (suc i) zero = refl
get_removed [] (suc i) (suc j) = refl
get_removed (w ∷ ws) zero j = refl
get_removed (w ∷ ws) (suc i) zero = refl
get_removed (w ∷ ws) (suc i) (suc j) = get_removed ws i j

untaken-removed : (tag : Tag) (ways : List StaleState) (i : ℕ) → untaken_times tag (remove ways i) ≤ untaken_times tag ways
untaken-removed tag [] zero = omega arith
untaken-removed tag [] (suc i) = omega arith
untaken-removed tag (w ∷ ws) zero = omega arith
untaken-removed tag (w ∷ ws) (suc i) = omega (arith, untaken-removed tag ws i)

-- a server sees the end of a lost generation
pub site_ended : (home : Homes) (place : ℕ) (order : Order) (lanes : ℕ → Lane) (links : ℕ → LinkState) (opening : CacheState) (site : SiteState) (server : ServerState) (i : ℕ) (way : StaleState)
    → slice_get site.lost i ≡ Some way → server ≡ record site.server { connections = closed way.connection site.server.connections } → connection_at server way.connection ≡ None
    → SiteHolds home place order lanes links opening site → SiteHolds home place order lanes links opening (record site { server = server; lost = remove site.lost i })
site_ended home place order lanes links opening site server i way at closes not_open h =
    let still : (number : ℕ) → way.connection ≢ number → connection_at server number ≡ connection_at site.server number =
    λ number differ. ap (λ (s : ServerState). connection_at s number) closes ∙ closed_other way.connection number site.server.connections differ in
    let fewer : (t : Tag) → times t (tags_made (h.past ++ h.made)) + untaken_times t (remove site.lost i) ≤ times t (tags_made (h.past ++ h.made)) + untaken_times t site.lost =
    λ t. omega (arith, untaken-removed t site.lost i) in
    let was : (j : ℕ) (w : StaleState) → slice_get (remove site.lost i) j ≡ Some w → slice_get site.lost (shift i j) ≡ Some w = λ j w at_w. sym (get_removed site.lost i j) ∙ at_w in
    record {
      past = h.past;
      made = h.made;
      begun = h.begun;
      texts = h.texts;
      sent = h.sent;
      server = ServerHolds-closed opening h.texts h.sent (map taking_of h.made) way.connection site.server server h.server closes not_open;
      good_cache = subst (λ (s : ServerState). IsGoodCache s.cache) (sym closes) h.good_cache;
      answers = h.answers;
      history = h.history;
      good = h.good;
      named = h.named;
      all_named = h.all_named;
      replied = h.replied;
      once = λ t. omega (arith, h.once t, fewer t);
      living = λ q up. let differ : way.connection ≢ (way_by site q).connection = λ is. h.apart_living q up i way at (sym is) in
          living_elsewhere home q place order (lanes q) (h.past ++ h.made) (h.past ++ h.made) h.made h.made h.texts h.texts h.sent site server site.history (remove site.lost i)
          refl refl (still (way_by site q).connection differ) fewer (h.living q up);
      lost = λ j w at_w.
          let differ = h.apart i (shift i j) way w at (was j w at_w) (shift_past i j) in
          lost_elsewhere place order h.made h.texts h.texts site.server server w refl (still w.connection differ) (h.lost (shift i j) w (was j w at_w));
      apart = λ j k v w at_v at_w differ. h.apart (shift i j) (shift i k) v w (was j v at_v) (was k w at_w) (shift_apart i j k differ);
      apart_living = λ q up j w at_w. h.apart_living q up (shift i j) w (was j w at_w);
      apart_ways = h.apart_ways;
    }
