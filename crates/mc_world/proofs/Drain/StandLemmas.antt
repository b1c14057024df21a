-- While a proxy dies, what was emitted to clients stands, and what servers took.
use Rattle.std.proofs.Common.{◌≡◌, ◌∙◌, ⊎_elim, ℕ, true, List, [], ◌∷◌, ◌++◌, Option, slice_set, sym, ap, subst, append-nil}
use Rattle.std.specs.List.{list_all}
use Rattle.std.proofs.lemmas.Bool.{and_parts, false≢true}
use Rattle.std.proofs.lemmas.Bool.Decides.{eqb_tells}
use Rattle.mc_ring.specs.Rings.{RingState}
use Rattle.mc_cache.specs.CacheState.{CacheState}
use Rattle.mc_proxy.specs.LinkTurns.{lost_at}
use Rattle.mc_proxy.specs.ProxyState.{ProxyState, output_of, without}
use Rattle.mc_proxy.specs.SessionState.{SessionState}
use Rattle.mc_account.specs.Holds.{changed}
use Rattle.mc_account.proofs.HoldsLemmas.{changed-other, changed-own}
use Rattle.mc_world.specs.CourseHolds.{CourseHolds}
use Rattle.mc_world.specs.Courses.{IsDone}
use Rattle.mc_world.specs.Drains.{AreDone}
use Rattle.mc_world.specs.Homes.{Homes}
use Rattle.mc_world.specs.ProxyRestarts.{ProxyDies, Stands, is_of_restart}
use Rattle.mc_world.specs.WorldState.{SiteState, histories_of, home_of, link_of, proxy_at, proxy_of, session_of}
use Rattle.mc_world.specs.Worlds.{ClientState, CourseState, client_at, history_of, put_out_of, taken_by}
use Rattle.mc_world.specs.declared.events.Event.{Event}
use Rattle.mc_world.specs.declared.events.Event.TheVariants.{ClientBytes, ClientGone, ClientTakes, Emit, LinkBack, LinkLost, ProxyTurn, ReplyTurn, ServerSeesEnd, ServerTurn, ToProxy, ToServer}
use Rattle.mc_world.proofs.Course.CourseLemmas.{read_changed}
use Rattle.mc_world.proofs.Course.DoneLemmas.{course_done, is_there}
use Rattle.mc_world.proofs.Course.OutputLemmas.{out_stays, unsent_gone, unsent_lost}
use Rattle.mc_world.proofs.Log.EntryLemmas.{history_at, history_other, history_own}

-- a client that goes takes all that was emitted to it
gone_stands : (ring : RingState) (opening : CacheState) (client : ℕ) (old new : CourseState) → CourseHolds ring opening old → IsDone (ClientGone client) old new
    → (n : ℕ) → put_out_of new n ≡ put_out_of old n
gone_stands ring opening client old new h e n =
    let goes = e.pool.1 in
    let home : ℕ = home_of old.pool client in
    let left : ProxyState = record (proxy_of old.pool client) { sessions = without client (proxy_of old.pool client).sessions } in
    let out : List ℕ = output_of (session_of old.pool client) in
    let inside = is_there ring opening old client e.pool.0.0 h e.pool.0.1 in
    let taken_is : (m : ℕ) → taken_by new m ≡ changed client (taken_by old client ++ out) (taken_by old) m = λ m.
    ap (λ (cs : List ClientState). (client_at cs m).taken) e.clients
    ∙ read_changed (λ (c : ClientState). c.taken) client (record (client_at old.clients client) { taken = (client_at old.clients client).taken ++ out }) old.clients inside m in
    ⊎_elim
    (λ own. subst (λ (m : ℕ). put_out_of new m ≡ put_out_of old m) own.1
    (ap (λ (t : List ℕ). t ++ output_of (session_of new.pool client)) (taken_is client ∙ changed-own client (taken_by old client ++ out) (taken_by old))
    ∙ ap (λ (o : Option SessionState). (taken_by old client ++ out) ++ output_of o) goes.not_open ∙ append-nil (taken_by old client ++ out)))
    (λ differ. ap (λ (t : List ℕ). t ++ output_of (session_of new.pool n)) (taken_is n ∙ changed-other client n (taken_by old client ++ out) (taken_by old) differ.1)
    ∙ ap (λ (b : List ℕ). taken_by old n ++ b) (out_stays home left old.pool new.pool goes.proxy n (unsent_gone client (proxy_of old.pool client).sessions n differ.1)))
    (eqb_tells client n)

-- a link that is lost changes no client's bytes
lost_stands : (proxy server : ℕ) (old new : CourseState) → IsDone (LinkLost proxy server) old new → (n : ℕ) → put_out_of new n ≡ put_out_of old n
lost_stands proxy server old new e n =
    let after : ProxyState = lost_at server (proxy_at old.pool proxy) in
    ap (λ (cs : List ClientState). (client_at cs n).taken ++ output_of (session_of new.pool n)) e.clients
    ∙ ap (λ (b : List ℕ). taken_by old n ++ b)
    (out_stays proxy after old.pool new.pool e.pool.proxy n (unsent_lost (link_of old.pool proxy server).waiting (proxy_at old.pool proxy).sessions n))

-- nor the history of a server
lost_histories : (proxy server : ℕ) (old new : CourseState) → IsDone (LinkLost proxy server) old new → (place : ℕ) → history_of new place ≡ history_of old place
lost_histories proxy server old new e place =
    let there = e.pool.there in
    ap (λ (sites : List SiteState). histories_of sites place) there.sites
    ∙ ⊎_elim
    (λ own. subst (λ (p : ℕ). histories_of (slice_set old.pool.sites server there.now) p ≡ histories_of old.pool.sites p) own.1
    (history_own old.pool.sites server there.site there.now there.at ∙ ap (λ (s : SiteState). s.history) e.pool.cut
    ∙ sym (history_at old.pool.sites server there.site there.at)))
    (λ differ. history_other old.pool.sites server there.now place differ.1)
    (eqb_tells server place)

-- so each event of a proxy that dies, and all of them
event_stands : (ring : RingState) (opening : CacheState) (home : Homes) (proxy : ℕ) (event : Event (List ℕ)) (old new : CourseState) → CourseHolds ring opening old
    → is_of_restart home proxy event ≡ true → IsDone event old new → Stands old new
event_stands ring opening home proxy (ClientGone client) old new h is e = record {
  emitted = gone_stands ring opening client old new h e;
  histories = λ place. ap (λ (sites : List SiteState). histories_of sites place) e.pool.1.sites;
}
event_stands ring opening home proxy (LinkLost of server) old new h is e = record { emitted = lost_stands of server old new e; histories = lost_histories of server old new e }
event_stands ring opening home proxy (ClientBytes client bytes) old new h is e = absurd (false≢true is)
event_stands ring opening home proxy (ProxyTurn client) old new h is e = absurd (false≢true is)
event_stands ring opening home proxy (ToServer of server generation count) old new h is e = absurd (false≢true is)
event_stands ring opening home proxy (ServerTurn of server generation moment) old new h is e = absurd (false≢true is)
event_stands ring opening home proxy (ToProxy of server count) old new h is e = absurd (false≢true is)
event_stands ring opening home proxy (ReplyTurn of server) old new h is e = absurd (false≢true is)
event_stands ring opening home proxy (Emit client) old new h is e = absurd (false≢true is)
event_stands ring opening home proxy (ClientTakes client count) old new h is e = absurd (false≢true is)
event_stands ring opening home proxy (LinkBack of server) old new h is e = absurd (false≢true is)
event_stands ring opening home proxy (ServerSeesEnd of server generation) old new h is e = absurd (false≢true is)

events_stand : (ring : RingState) (opening : CacheState) (home : Homes) (proxy : ℕ) (events : List (Event (List ℕ))) (old new : CourseState) → CourseHolds ring opening old
    → list_all (is_of_restart home proxy) events ≡ true → AreDone events old new → Stands old new
events_stand ring opening home proxy [] old new h all done = record {
  emitted = λ n. ap (λ (c : CourseState). put_out_of c n) done;
  histories = λ place. ap (λ (c : CourseState). history_of c place) done;
}
events_stand ring opening home proxy (event ∷ events) old new h all done =
    let both = and_parts (is_of_restart home proxy event) (list_all (is_of_restart home proxy) events) all in
    let first = event_stands ring opening home proxy event old done.0 h both.0 done.1 in
    let rest = events_stand ring opening home proxy events done.0 new (course_done ring opening event old done.0 h done.1) both.1 done.2 in
    record { emitted = λ n. rest.emitted n ∙ first.emitted n; histories = λ place. rest.histories place ∙ first.histories place }

pub dying_stands : (ring : RingState) (opening : CacheState) (proxy : ℕ) (old new : CourseState) → CourseHolds ring opening old → ProxyDies proxy old new → Stands old new
dying_stands ring opening proxy old new h dies = events_stand ring opening (home_of old.pool) proxy dies.events old new h dies.all dies.done
