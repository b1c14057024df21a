-- Parts of a drain.
use Rattle.std.proofs.Common.{◌≡◌, ◌∙◌, ⊎_elim, ℕ, ◌+◌, ◌<◌, Bool, true, false, ◌||◌, nat_lt, List, [], ◌∷◌, ◌++◌, length, Option, slice_get, refl, sym, ap, subst, arith}
use Rattle.std.specs.List.{list_all}
use Rattle.std.proofs.lemmas.Bool.{and_from, and_parts, ltb-false, ltb-true}
use Rattle.mc_ring.specs.Rings.{RingState}
use Rattle.mc_link.specs.LinkState.{LinkState}
use Rattle.mc_cache.specs.CacheState.{CacheState}
use Rattle.mc_proxy.specs.ProxyState.{output_of as output_at}
use Rattle.mc_account.proofs.OpenSessions.{own_number}
use Rattle.mc_world.specs.Acts.{GoesOn, HasDrained, IsIdle, IsOver, coming_of, event_of, generation_of}
use Rattle.mc_world.specs.Courses.{Applies, IsDone}
use Rattle.mc_world.specs.CourseHolds.{CourseHolds, WorldHolds}
use Rattle.mc_world.specs.Drains.{AreDone, is_of_drain}
use Rattle.mc_world.specs.Steps.{StepsTo}
use Rattle.mc_world.specs.WorkLeft.{work_left}
use Rattle.mc_world.specs.WorldState.{PoolState, SiteState, link_of, session_of}
use Rattle.mc_world.specs.Worlds.{CourseState, WorldState, cache_of}
use Rattle.mc_world.specs.declared.acts.Act.{Act}
use Rattle.mc_world.specs.declared.acts.Act.TheVariants.{PutAnswer, ReachProxy, ReachServer, SeeEnd, Serve, TakeBytes, TakeReply, TakeRequest}
use Rattle.mc_world.specs.declared.errors.Step.TheVariants.{Done}
use Rattle.mc_world.specs.declared.events.Event.{Event}
use Rattle.mc_world.proofs.Drain.LessLemmas.{ended_less, late_less, put_out_less, reached_less, replied_less, returned_less, served_less, taken_less, took_less}
use Rattle.mc_world.proofs.Drain.WorkLemmas.{up_inside}
use Rattle.mc_world.proofs.SiteEvents.ServingLemmas.{pool_serves}

-- a link that is down has nothing for its server
down_none : (ring : RingState) (opening : CacheState) (c : CourseState) → CourseHolds ring opening c → (proxy place : ℕ) → (link_of c.pool proxy place).up ≡ false
    → (link_of c.pool proxy place).output ≡ []
down_none ring opening c h proxy place down =
    ap (λ (l : LinkState). l.output) (((h.pool.proxies proxy).links place).1 (λ up. let clash : false ≡ true = sym down ∙ up in absurd cc)).nothing

-- each act that is done leaves less to do
pub done_less : (ring : RingState) (opening : CacheState) (act : Act) (moment : ℕ) (old new : CourseState) → CourseHolds ring opening old → Applies (event_of act moment old.pool) old.pool
    → IsDone (event_of act moment old.pool) old new → work_left new.pool < work_left old.pool
done_less ring opening (SeeEnd place) moment old new h applies done = let ended = done.pool in ended_less place ended.0 old.pool new.pool ended.1
done_less ring opening (TakeRequest client) moment old new h applies done = took_less client old.pool new.pool done.pool
done_less ring opening (ReachServer proxy place) moment old new h applies done =
    let some : 0 < length (link_of old.pool proxy place).output = ⊎_elim (λ own. own.1.1.0) (λ late. late.1.moves.0) applies in
    ⊎_elim
    (λ living. reached_less proxy place (length (link_of old.pool proxy place).output) old.pool new.pool refl some living.0)
    (λ late. (elim (link_of old.pool proxy place).up as (λ v. (link_of old.pool proxy place).up ≡ v → work_left new.pool < work_left old.pool) [
      | true ↦ λ up. absurd (late.3 (record { site = late.1.there.site; at = late.1.there.at; is = sym (ap (λ (o : Option SiteState). generation_of proxy o) late.1.there.at); up = up }))
      | false ↦ λ down. let none : length (link_of old.pool proxy place).output ≡ 0 = ap (λ (bytes : List ℕ). length bytes) (down_none ring opening old h proxy place down) in absurd (omega (arith, some, none))
    ]) refl)
    done.pool
done_less ring opening (Serve proxy place) moment old new h applies done =
    ⊎_elim
    (λ living.
    let there = living.0.there in
    let holds = h.pool.sites place there.site there.at in
    let inside = up_inside old.pool proxy place there.up in
    let ways = h.log.servers.ways place there.site there.at in
    served_less proxy place moment old.pool new.pool living.0 (omega (arith, inside, ways)) (λ q differ up. holds.apart_ways proxy q there.up up (λ same. differ (sym same))))
    (λ late. late_less place late.0 moment old.pool new.pool late.1
    (λ q up. (h.pool.sites place late.1.there.site late.1.there.at).apart_living q up late.0 late.1.enters.way late.1.enters.way_at))
    done.pool.1
done_less ring opening (ReachProxy proxy place) moment old new h applies done =
    returned_less proxy place (length (coming_of proxy (slice_get old.pool.sites place))) old.pool new.pool
    (λ site at. ap (λ (o : Option SiteState). length (coming_of proxy o)) at) applies.moves.0 done.pool
done_less ring opening (TakeReply proxy place) moment old new h applies done = replied_less proxy place old.pool new.pool (pool_serves ring opening old h) done.pool
done_less ring opening (PutAnswer client) moment old new h applies done = put_out_less client old.pool new.pool done.pool
done_less ring opening (TakeBytes client) moment old new h applies done =
    taken_less client (length (output_at (session_of old.pool client))) old.pool new.pool done.pool.0.0 done.pool.0.1 refl applies.0 done.pool.1

-- events followed by events
pub done_append : (es fs : List (Event (List ℕ))) (a b c : CourseState) → AreDone es a b → AreDone fs b c → AreDone (es ++ fs) a c
done_append [] fs a b c first second = subst (λ (x : CourseState). AreDone fs x c) first second
done_append (e ∷ es) fs a b c first second = (first.0, first.1, done_append es fs first.0 b c first.2 second)

pub all_append : (p : Event (List ℕ) → Bool) (es fs : List (Event (List ℕ))) → list_all p es ≡ true → list_all p fs ≡ true → list_all p (es ++ fs) ≡ true
all_append p [] fs first second = second
all_append p (e ∷ es) fs first second =
    let parts = and_parts (p e) (list_all p es) first in
    and_from (p e) (list_all p (es ++ fs)) parts.0 (all_append p es fs parts.1 second)

-- no event, and a part followed by a part
pub drained_none : (moment : ℕ) (w : WorldState) → HasDrained moment w w
drained_none moment w = record { drains = record { events = []; all = refl; done = refl }; losses = refl; opening = refl; budget = refl; items = refl }

pub drained_then : (moment : ℕ) (a b c : WorldState) → HasDrained moment a b → HasDrained moment b c → HasDrained moment a c
drained_then moment a b c first second = record {
  drains = record {
    events = first.drains.events ++ second.drains.events;
    all = all_append (is_of_drain moment) first.drains.events second.drains.events first.drains.all second.drains.all;
    done = done_append first.drains.events second.drains.events a.course b.course c.course first.drains.done second.drains.done;
  };
  losses = second.losses ∙ first.losses;
  opening = second.opening ∙ first.opening;
  budget = second.budget ∙ first.budget;
  items = second.items ∙ first.items;
}

goes_then : (moment : ℕ) (one two : Bool) (a b c : WorldState) → GoesOn moment one a b → GoesOn moment two b c → GoesOn moment (one || two) a c
goes_then moment true true a b c first second = (drained_then moment a b c first.0 second.0, omega (arith, first.1, second.1))
goes_then moment true false a b c first second = subst (λ (w : WorldState). GoesOn moment true a w) (sym second) first
goes_then moment false two a b c first second = subst (λ (w : WorldState). GoesOn moment two w c) first second

-- what a part has done
pub drained : (moment : ℕ) (did : Bool) (a b : WorldState) → GoesOn moment did a b → HasDrained moment a b
drained moment true a b goes = goes.0
drained moment false a b goes = subst (λ (w : WorldState). HasDrained moment a w) (sym goes) (drained_none moment a)

-- parts of a drain in sequence, and one that claims less
pub over_then : (moment : ℕ) (One Two : CourseState → Type 0) (one two : Bool) (a b c : WorldState) → IsOver moment One one a b → IsOver moment Two two b c
    → IsOver moment (λ s. One s × Two s) (one || two) a c
over_then moment One Two true two a b c first second = record { goes = goes_then moment true two a b c first.goes second.goes; idle = λ none. absurd cc }
over_then moment One Two false two a b c first second = record {
  goes = goes_then moment false two a b c first.goes second.goes;
  idle = λ none. (first.idle refl, subst (λ (w : WorldState). Two w.course) first.goes (second.idle none));
}

pub over_as : (moment : ℕ) (One Two : CourseState → Type 0) (did : Bool) (a b : WorldState) → ((s : CourseState) → One s → Two s) → IsOver moment One did a b → IsOver moment Two did a b
over_as moment One Two did a b tells over = record { goes = over.goes; idle = λ none. tells a.course (over.idle none) }

-- an event of a drain
act_is : (act : Act) (moment : ℕ) (pool : PoolState) → is_of_drain moment (event_of act moment pool) ≡ true
act_is (SeeEnd place) moment pool = refl
act_is (TakeRequest client) moment pool = refl
act_is (ReachServer proxy place) moment pool = refl
act_is (Serve proxy place) moment pool = own_number moment
act_is (ReachProxy proxy place) moment pool = refl
act_is (TakeReply proxy place) moment pool = refl
act_is (PutAnswer client) moment pool = refl
act_is (TakeBytes client) moment pool = refl

-- what a world was opened with stays
abbrev IsOpenedSo : WorldState → WorldState → Type 0
IsOpenedSo old new = (new.opening ≡ old.opening) × (new.budget ≡ old.budget) × (new.items ≡ old.items) × (new.losses ≡ old.losses)

-- an act that was done, and one that did not apply
pub act_done : (act : Act) (moment : ℕ) (old new : WorldState) → WorldHolds old → StepsTo (event_of act moment old.course.pool) Done old.course new.course → IsOpenedSo old new
    → IsOver moment (λ c. IsIdle moment c.pool act) true old new
act_done act moment old new h steps opened = record {
  goes = (
    record {
      drains = record {
        events = event_of act moment old.course.pool ∷ [];
        all = and_from (is_of_drain moment (event_of act moment old.course.pool)) true (act_is act moment old.course.pool) refl;
        done = (new.course, steps.does, refl);
      };
      losses = opened.3;
      opening = opened.0;
      budget = opened.1;
      items = opened.2;
    },
    done_less old.opening (cache_of old) act moment old.course new.course h.course (steps.applies.0 refl) steps.does,
  );
  idle = λ none. absurd cc;
}

-- a loop whose parts did something goes on; one whose parts did nothing is over
pub goes_did : (moment : ℕ) (did : Bool) (a b c : WorldState) → GoesOn moment did a b → GoesOn moment true b c → GoesOn moment true a c
goes_did moment true a b c first second = goes_then moment true true a b c first second
goes_did moment false a b c first second = goes_then moment false true a b c first second

pub goes_both : (moment : ℕ) (one two : Bool) (a b c : WorldState) → (one || two) ≡ true → GoesOn moment one a b → GoesOn moment two b c → GoesOn moment true a c
goes_both moment one two a b c some first second = subst (λ (v : Bool). GoesOn moment v a c) some (goes_then moment one two a b c first second)

-- what holds of the first numbers and of the next one
below_more : (P : ℕ → Type 0) (n : ℕ) → ((k : ℕ) → k < n → P k) → P n → (k : ℕ) → k < n + 1 → P k
below_more P n first next k inside =
    (elim (nat_lt k n) as (λ v. nat_lt k n ≡ v → P k) [
      | true ↦ λ is. first k (ltb-true k n is)
      | false ↦ λ is. let above = ltb-false k n is in let same : n ≡ k = omega (arith, above, inside) in subst P same next
    ]) refl

pub over_more : (moment : ℕ) (P : ℕ → CourseState → Type 0) (did one : Bool) (n : ℕ) (a b c : WorldState) → IsOver moment (λ s. (k : ℕ) → k < n → P k s) did a b
    → IsOver moment (λ s. P n s) one b c → IsOver moment (λ s. (k : ℕ) → k < n + 1 → P k s) (did || one) a c
over_more moment P did one n a b c first second =
    over_as moment (λ s. ((k : ℕ) → k < n → P k s) × P n s) (λ s. (k : ℕ) → k < n + 1 → P k s) (did || one) a c (λ s both. below_more (λ k. P k s) n both.0 both.1)
    (over_then moment (λ s. (k : ℕ) → k < n → P k s) (λ s. P n s) did one a b c first second)

-- one of two did something
pub first_did : (one two : Bool) → one ≡ true → (one || two) ≡ true
first_did one two some = ap (λ (v : Bool). v || two) some

pub second_did : (one two : Bool) → two ≡ true → (one || two) ≡ true
second_did true two some = refl
second_did false two some = some
