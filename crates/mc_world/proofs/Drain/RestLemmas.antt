-- A world in which no act of a drain applies is quiet.
use Rattle.std.proofs.Common.{◌≡◌, ◌∙◌, ⊎_elim, ℕ, suc, ◌+◌, ◌<◌, ◌≤◌, ◌^◌, inl, true, false, if◌then◌else◌, List, [], ◌∷◌, length, Option, Some, None, slice_get, refl, sym, ap, subst, arith}
use Rattle.mc_ring.specs.Rings.{RingState}
use Rattle.mc_cache.specs.CacheState.{CacheState}
use Rattle.mc_server.specs.ServerState.{connection_at, output_of}
use Rattle.mc_proxy.specs.SessionState.{SessionState}
use Rattle.mc_proxy.specs.ProxyState.{output_of as output_at}
use Rattle.mc_account.proofs.LaneLemmas.{up_is_there}
use Rattle.mc_world.specs.Acts.{IsRested, NoServer, coming_of, first_lost, generation_of, lost_generation, lost_proxy}
use Rattle.mc_world.specs.Applies.{HasLost, IsUp, Lives, lost_way}
use Rattle.mc_world.specs.Courses.{Applies}
use Rattle.mc_world.specs.CourseHolds.{CourseHolds}
use Rattle.mc_world.specs.Logs.{Log, number_of, puts, takes}
use Rattle.mc_world.specs.Quiet.{IsQuiet, is_inner}
use Rattle.mc_world.specs.WorldState.{PoolState, SiteState, StaleState, proxy_at, session_of, way_by}
use Rattle.mc_world.specs.Worlds.{CourseState}
use Rattle.mc_world.specs.declared.acts.Act.TheVariants.{SeeEnd}
use Rattle.mc_world.specs.declared.events.Event.{Event}
use Rattle.mc_world.specs.declared.events.Event.TheVariants.{ClientBytes, ClientGone, ClientTakes, Emit, LinkBack, LinkLost, ProxyTurn, ReplyTurn, ServerSeesEnd, ServerTurn, ToProxy, ToServer}
use Rattle.mc_world.specs.declared.logs.Logged.{Logged}
use Rattle.mc_world.specs.declared.logs.Logged.TheVariants.{Happened}
use Rattle.mc_world.proofs.Course.DoneLemmas.{is_there}
use Rattle.mc_world.proofs.Log.EntryLemmas.{got_inside}
use Rattle.mc_world.proofs.Drain.QuietLemmas.{course_quiet, first_of_way}
use Rattle.mc_world.proofs.Drain.WorkLemmas.{up_inside}
use Rattle.mc_world.proofs.SiteEvents.SiteLemmas.{get_none}

-- if a link is up, its generation is alive
own_lives : (pool : PoolState) (proxy place : ℕ) (site : SiteState) → slice_get pool.sites place ≡ Some site → IsUp proxy place pool
    → Lives proxy place (generation_of proxy (slice_get pool.sites place)) pool
own_lives pool proxy place site at up = record { site = site; at = at; is = sym (ap (λ (o : Option SiteState). generation_of proxy o) at); up = up }

-- the first of the lost generations is the first of its proxy and number
pub lost_first : (pool : PoolState) (place : ℕ) (site : SiteState) (way : StaleState) (ways : List StaleState) → slice_get pool.sites place ≡ Some site → site.lost ≡ way ∷ ways
    → HasLost (lost_proxy (first_lost (slice_get pool.sites place))) place (lost_generation (first_lost (slice_get pool.sites place))) pool
lost_first pool place site way ways at is =
    let first : first_lost (slice_get pool.sites place) ≡ Some way = ap (λ (o : Option SiteState). first_lost o) at ∙ ap (λ (ws : List StaleState). slice_get ws 0) is in
    subst (λ (o : Option StaleState). HasLost (lost_proxy o) place (lost_generation o) pool) (sym first) (record {
      site = site;
      at = at;
      i = 0;
      first = ap (λ (ws : List StaleState). lost_way way.proxy way.generation ws) is ∙ first_of_way way ways;
      way = way;
      way_at = ap (λ (ws : List StaleState). slice_get ws 0) is;
    })

-- no lost generation is left
none_lost : (moment : ℕ) (c : CourseState) → NoServer moment SeeEnd c → (proxy place generation : ℕ) → HasLost proxy place generation c.pool → ⊥
none_lost moment c rested proxy place generation lost =
    let inside = got_inside c.pool.sites place lost.site lost.at in
    (elim lost.site.lost as (λ ways. lost.site.lost ≡ ways → ⊥) [
      | [] ↦ λ e. let none : ◌≡◌ {A = Option StaleState} None (Some lost.way) = sym (get_none lost.i) ∙ ap (λ (ws : List StaleState). slice_get ws lost.i) (sym e) ∙ lost.way_at in absurd cc
      | way ∷ ways ↦ λ e. rested place inside (lost_first c.pool place lost.site way ways lost.at e)
    ]) refl

-- an output with bytes belongs to a client that exists
taker : (c : CourseState) (client : ℕ) → 0 < length (output_at (session_of c.pool client)) → (session : SessionState) × (session_of c.pool client ≡ Some session)
taker c client some =
    (elim (session_of c.pool client) as (λ o. session_of c.pool client ≡ o → (session : SessionState) × (session_of c.pool client ≡ Some session)) [
      | None ↦ λ at. let none : length (output_at (session_of c.pool client)) ≡ 0 = ap (λ (o : Option SessionState). length (output_at o)) at in absurd (omega (arith, some, none))
      | Some session ↦ λ at. (session, at)
    ]) refl

rested_stuck : (ring : RingState) (opening : CacheState) (moment : ℕ) (c : CourseState) → moment < 2 ^ 63 → CourseHolds ring opening c → IsRested moment c
    → (event : Event (List ℕ)) → is_inner event ≡ true → Applies event c.pool → ⊥
rested_stuck ring opening moment c fits h rested (ClientBytes client bytes) inner applies = absurd cc
rested_stuck ring opening moment c fits h rested (ClientGone client) inner applies = absurd cc
rested_stuck ring opening moment c fits h rested (LinkLost proxy server) inner applies = absurd cc
rested_stuck ring opening moment c fits h rested (LinkBack proxy server) inner applies = absurd cc
rested_stuck ring opening moment c fits h rested (ProxyTurn client) inner applies = rested.requests client (is_there ring opening c client applies.0 h applies.1) applies
rested_stuck ring opening moment c fits h rested (Emit client) inner applies = rested.answers client (is_there ring opening c client applies.0 h applies.1) applies
rested_stuck ring opening moment c fits h rested (ClientTakes client count) inner applies =
    let there = taker c client applies.1 in
    rested.taken client (is_there ring opening c client there.0 h there.1) (applies.1, applies.1)
rested_stuck ring opening moment c fits h rested (ToServer proxy place generation count) inner applies =
    ⊎_elim
    (λ own. rested.going proxy place (up_inside c.pool proxy place own.0.up) (got_inside c.pool.sites place own.0.site own.0.at)
    (inl (own_lives c.pool proxy place own.0.site own.0.at own.0.up, (own.0.up, (own.1.1.1, own.1.1.1)))))
    (λ late. none_lost moment c rested.ends proxy place generation late.1.there)
    applies
rested_stuck ring opening moment c fits h rested (ServerTurn proxy place generation at) inner applies =
    ⊎_elim
    (λ own. rested.served proxy place (up_inside c.pool proxy place own.0.up) (got_inside c.pool.sites place own.0.site own.0.at)
    (fits, inl (own_lives c.pool proxy place own.0.site own.0.at own.0.up, own.1)))
    (λ late. none_lost moment c rested.ends proxy place generation late.1.there)
    applies.1
rested_stuck ring opening moment c fits h rested (ToProxy proxy place count) inner applies =
    let same : length (coming_of proxy (slice_get c.pool.sites place)) ≡ length (output_of (connection_at applies.site.server (way_by applies.site proxy).connection)) =
    ap (λ (o : Option SiteState). length (coming_of proxy o)) applies.at in
    let some = applies.moves.1 in
    rested.coming proxy place (up_inside c.pool proxy place applies.up) (got_inside c.pool.sites place applies.site applies.at)
    (record { site = applies.site; at = applies.at; up = applies.up; moves = (omega (arith, same, some), some) })
rested_stuck ring opening moment c fits h rested (ReplyTurn proxy place) inner applies =
    let inside = up_is_there place (proxy_at c.pool proxy).links applies.0 in
    let sited = h.log.servers.sited proxy in
    rested.replies proxy place (up_inside c.pool proxy place applies.0) (omega (arith, inside, sited)) applies
rested_stuck ring opening moment c fits h rested (ServerSeesEnd proxy place generation) inner applies = none_lost moment c rested.ends proxy place generation applies

-- a log has an entry for each request that was taken and for each answer
not_both : (client : ℕ) (e : Logged) → takes client e ≡ true → puts client e ≡ true → ⊥
not_both client (Happened (ProxyTurn of)) taken put = absurd cc
not_both client (Happened (Emit of)) taken put = absurd cc
not_both client other taken put = absurd cc

takes_and_puts : (client : ℕ) (log : Log) → number_of (takes client) log + number_of (puts client) log ≤ length log
takes_and_puts client [] = omega arith
takes_and_puts client (e ∷ es) =
    let others = takes_and_puts client es in
    (elim (takes client e) as (λ v. takes client e ≡ v → (if v then suc (number_of (takes client) es) else number_of (takes client) es) + number_of (puts client) (e ∷ es) ≤ suc (length es)) [
      | true ↦ λ taken. (elim (puts client e) as (λ v. puts client e ≡ v → suc (number_of (takes client) es) + (if v then suc (number_of (puts client) es) else number_of (puts client) es) ≤ suc (length es)) [
        | true ↦ λ put. absurd (not_both client e taken put)
        | false ↦ λ put. omega (arith, others)
      ]) refl
      | false ↦ λ taken. (elim (puts client e) as (λ v. number_of (takes client) es + (if v then suc (number_of (puts client) es) else number_of (puts client) es) ≤ suc (length es)) [
        | true ↦ omega (arith, others)
        | false ↦ omega (arith, others)
      ])
    ]) refl

pub rested_quiet : (ring : RingState) (opening : CacheState) (moment : ℕ) (c : CourseState) → moment < 2 ^ 63 → length c.log < 2 ^ 64 → CourseHolds ring opening c → IsRested moment c → IsQuiet c
rested_quiet ring opening moment c fits short h rested =
    course_quiet ring opening c h (λ client same. let counted = takes_and_puts client c.log in omega (arith, same, counted, short)) (rested_stuck ring opening moment c fits h rested)
