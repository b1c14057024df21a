-- What a drain adds to a log, and what a quiet world has answered.
use Rattle.std.proofs.Common.{◌≡◌, ◌∙◌, ℕ, true, List, [], ◌∷◌, ◌++◌, length, refl, sym, ap, append_assoc, append-nil}
use Rattle.std.specs.List.{concat, list_all}
use Rattle.std.proofs.lemmas.Bool.{and_from, and_parts, false≢true}
use Rattle.mc_request.specs.Requests.{requests_of}
use Rattle.mc_ring.specs.Rings.{RingState}
use Rattle.mc_route.specs.declared.losses.Losses.{Losses}
use Rattle.mc_cache.specs.CacheState.{CacheState}
use Rattle.mc_world.specs.Bare.{bare}
use Rattle.mc_world.specs.declared.events.Event.{Event}
use Rattle.mc_world.specs.declared.events.Event.TheVariants.{ClientBytes, ClientGone, ClientTakes, Emit, LinkBack, LinkLost, ProxyTurn, ReplyTurn, ServerSeesEnd, ServerTurn, ToProxy, ToServer}
use Rattle.mc_world.specs.Accounts.{Account}
use Rattle.mc_world.specs.Applies.{IsThere}
use Rattle.mc_world.specs.Homes.{Homes}
use Rattle.mc_world.specs.Drains.{AreDone, Drains, is_of_drain}
use Rattle.mc_world.specs.Logs.{Log}
use Rattle.mc_world.specs.Quiet.{IsQuiet}
use Rattle.mc_world.specs.Worlds.{CourseState, history_of, put_out_of, taken_by, text_of}
use Rattle.mc_world.specs.declared.logs.Logged.TheVariants.{Happened}
use Rattle.mc_pool_laws.specs.Drained.{is_of_drain_at}
use Rattle.mc_pool_laws.specs.Outcomes.{AreAnswersFrom}
use Rattle.mc_pool_laws.proofs.OutcomeLemmas.{put_answers}

-- an event of a drain, as the log keeps it
drained_event : (moment : ℕ) (event : Event (List ℕ)) → is_of_drain moment event ≡ true → is_of_drain_at moment (Happened (bare event)) ≡ true
drained_event moment (ClientBytes client bytes) h = absurd (false≢true h)
drained_event moment (ClientGone client) h = absurd (false≢true h)
drained_event moment (ProxyTurn client) h = refl
drained_event moment (ToServer proxy server generation count) h = refl
drained_event moment (ServerTurn proxy server generation at) h = h
drained_event moment (ToProxy proxy server count) h = refl
drained_event moment (ReplyTurn proxy server) h = refl
drained_event moment (Emit client) h = refl
drained_event moment (ClientTakes client count) h = refl
drained_event moment (LinkLost proxy server) h = absurd (false≢true h)
drained_event moment (LinkBack proxy server) h = absurd (false≢true h)
drained_event moment (ServerSeesEnd proxy server generation) h = refl

-- the entries that are added to a log
abbrev Adds : ℕ → Log → Log → Type 0
Adds moment old new = (added : Log) × (new ≡ old ++ added) × (list_all (is_of_drain_at moment) added ≡ true)

events_add : (moment : ℕ) (events : List (Event (List ℕ))) (old new : CourseState) → list_all (is_of_drain moment) events ≡ true → AreDone events old new → Adds moment old.log new.log
events_add moment [] old new all done = ([], ap (λ (c : CourseState). c.log) done ∙ sym (append-nil old.log), refl)
events_add moment (event ∷ events) old new all done =
    let parts = and_parts (is_of_drain moment event) (list_all (is_of_drain moment) events) all in
    let later = events_add moment events done.0 new parts.1 done.2 in (
      Happened (bare event) ∷ later.0,
      later.1 ∙ ap (λ (l : Log). l ++ later.0) done.1.log ∙ append_assoc old.log (Happened (bare event) ∷ []) later.0,
      and_from (is_of_drain_at moment (Happened (bare event))) (list_all (is_of_drain_at moment) later.0) (drained_event moment event parts.0) later.2,
    )

pub drain_adds : (moment : ℕ) (old new : CourseState) → Drains moment old new → Adds moment old.log new.log
drain_adds moment old new h = events_add moment h.events old new h.all h.done

-- a client that has not gone took the answers to all its requests
pub all_answered : (home : Homes) (losses : Losses) (ring : RingState) (opening : CacheState) (c : CourseState) → Account home losses ring opening (text_of c) (put_out_of c) (history_of c) c.log → IsQuiet c
    → (client : ℕ) → IsThere client c.pool
    → (answers : List (List ℕ)) × (length answers ≡ length (requests_of (text_of c client))) × (taken_by c client ≡ concat answers)
    × AreAnswersFrom home losses ring (text_of c) (history_of c) c.log client 0 answers
all_answered home losses ring opening c account quiet client there =
    let put = put_answers home losses ring opening account.0 (text_of c) (put_out_of c) (history_of c) c.log account.1 client in
    let all : put_out_of c client ≡ taken_by c client =
    ap (λ (bytes : List ℕ). taken_by c client ++ bytes) (quiet.taken client) ∙ append-nil (taken_by c client) in
    (put.0, put.1 ∙ quiet.answered client there, sym all ∙ put.2, put.3)
