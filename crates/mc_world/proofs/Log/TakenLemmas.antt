-- What a log shows of the commands of a request that has just been taken.
use Rattle.std.proofs.Common.{◌≡◌, ◌∙◌, ℕ, zero, suc, ◌<◌, inl, inr, true, false, if◌then◌else◌, List, [], ◌∷◌, ◌++◌, length, map, Option, Some, slice_get, refl, sym, ap, subst, arith}
use Rattle.std.specs.Prelude.{All}
use Rattle.std.proofs.lemmas.Option.{none-some, same_Some}
use Rattle.mc_ring.specs.Rings.{RingState}
use Rattle.mc_route.specs.Routes.{route_of_taken, to_place}
use Rattle.mc_route.specs.declared.outcomes.Outcome.{Outcome}
use Rattle.mc_route.specs.declared.outcomes.Outcome.TheVariants.{Awaited, Lost}
use Rattle.mc_route.specs.declared.routes.Routed.{Routed}
use Rattle.mc_link.specs.LinkState.{LinkState}
use Rattle.mc_link.specs.declared.turns.Tag.{Tag}
use Rattle.mc_proxy.specs.Sending.{at_once, outcome_by}
use Rattle.mc_proxy.specs.SessionState.{link_at}
use Rattle.mc_account.specs.Lookups.{IsRoutedWithin, asked_at, command_in, outcome_in}
use Rattle.mc_account.specs.Orders.{Order, TakenRequest, entries_of}
use Rattle.mc_account.proofs.OrderLemmas.{entries-append}
use Rattle.mc_account.proofs.WithinLemmas.{commands_within, within-push}
use Rattle.mc_history.specs.Histories.{HasNone}
use Rattle.mc_history.specs.declared.entries.Entry.{Entry}
use Rattle.mc_world.specs.Homes.{Homes, of_proxy}
use Rattle.mc_world.specs.LogHolds.{CommandsHold, HasOutcome, HistoriesHold, RequestsHold}
use Rattle.mc_world.specs.Logs.{Log, before, is_up, number_of, serves, takes}
use Rattle.mc_world.specs.WorldState.{PoolState, SiteState, histories_of, home_of, proxy_of}
use Rattle.mc_world.specs.declared.logs.Logged.{Logged}
use Rattle.mc_world.proofs.Homes.OrderLemmas.{command_own, of_proxy_push_own}
use Rattle.mc_world.proofs.Log.CommandLemmas.{News, commands_go, none_still, request_known, request_of}
use Rattle.mc_world.proofs.Log.EntryLemmas.{HasUntakenAt, asked_pushed, got_there}
use Rattle.mc_world.proofs.Log.HistoryLemmas.{KeepsLost}
use Rattle.mc_world.proofs.Log.LogLemmas.{before-last, number-before}
use Rattle.mc_world.proofs.Log.OrderLemmas.{turns-taken}

-- the outcome that a command has at once
at_once_of : (links : List LinkState) (routes : List Routed) (k : ℕ) (routed : Routed) (outcome : Outcome) → slice_get routes k ≡ Some routed
    → slice_get (map (at_once links) routes) k ≡ Some outcome → outcome ≡ at_once links routed
at_once_of links [] zero routed outcome at known = absurd (none-some routed at)
at_once_of links [] (suc k) routed outcome at known = absurd (none-some routed at)
at_once_of links (r ∷ rs) zero routed outcome at known =
    sym (same_Some (at_once links r) outcome known) ∙ ap (λ (x : Routed). at_once links x) (same_Some r routed at)
at_once_of links (r ∷ rs) (suc k) routed outcome at known = at_once_of links rs k routed outcome at known

-- no server has taken a command of the request that is taken next
none_yet : (opening : RingState) (order : Order) (log : Log) (old : PoolState) (histories : ℕ → List Entry) (place : ℕ) (tag : Tag) → RequestsHold opening order log old
    → HistoriesHold order log histories → tag.request ≡ length (entries_of tag.session order) → HasNone (histories place) tag
none_yet opening order log old histories place tag requests h next k d at same =
    let placed = (h.placed place k d at).taken in
    let few = number-before (takes d.client) (serves place) k log in
    let size : length (entries_of d.client order) ≡ length (entries_of tag.session order) = ap (λ (t : Tag). length (entries_of t.session order)) same in
    let number : d.request ≡ tag.request = ap (λ (t : Tag). t.request) same in
    omega (arith, placed, few, turns-taken order log requests.turns d.client, size, number, next)

-- the log shows of a command the outcome that it has at once
told_at_once : (home : Homes) (place : ℕ) (tag : Tag) (history : List Entry) (log : Log) (x : Logged) (link : LinkState) → takes tag.session x ≡ true
    → tag.request ≡ number_of (takes tag.session) log → is_up (home tag.session) place log ≡ link.up → HasNone history tag
    → HasOutcome home place tag history (log ++ x ∷ []) (outcome_by link)
told_at_once home place tag history log x link own number up none =
    let was : is_up (home tag.session) place (before (takes tag.session) tag.request (log ++ x ∷ [])) ≡ link.up =
    ap (λ (n : ℕ). is_up (home tag.session) place (before (takes tag.session) n (log ++ x ∷ []))) number
    ∙ ap (λ (l : Log). is_up (home tag.session) place l) (before-last (takes tag.session) log x own) ∙ up in
    (elim (link.up) as (λ v. is_up (home tag.session) place (before (takes tag.session) tag.request (log ++ x ∷ [])) ≡ v
    → HasOutcome home place tag history (log ++ x ∷ []) (if v then Awaited else Lost)) [
      | true ↦ λ h. h
      | false ↦ λ h. inl (h, none)
    ]) was

-- a lost command stays lost when one more request is taken
pub lost_pushed : (order : Order) (asked : TakenRequest) → KeepsLost order (order ++ asked ∷ [])
lost_pushed order asked tag lost =
    let e = request_known (asked_at order tag.session tag.request) tag.atom Lost lost in
    let now : asked_at (order ++ asked ∷ []) tag.session tag.request ≡ Some e.0 =
    ap (λ (es : Order). slice_get es tag.request) (entries-append tag.session order (asked ∷ []))
    ∙ got_there (entries_of tag.session order) (entries_of tag.session (asked ∷ [])) tag.request e.0 e.1 in
    ap (λ (o : Option TakenRequest). outcome_in o tag.atom) now ∙ sym (ap (λ (o : Option TakenRequest). outcome_in o tag.atom) e.1) ∙ lost

-- the links of a client's proxy are as the log has them
abbrev pub AreAsLogged : ℕ → Log → PoolState → Type 0
AreAsLogged client log old =
    (place : ℕ) → place < length (proxy_of old client).links → is_up (home_of old client) place log ≡ (link_at (proxy_of old client).links place).up

news_taken : (opening : RingState) (order : Order) (asked : TakenRequest) (log : Log) (x : Logged) (old : PoolState) (histories : ℕ → List Entry) → RequestsHold opening order log old
    → HistoriesHold order log histories → takes asked.session x ≡ true
    → asked.outcomes ≡ map (at_once (proxy_of old asked.session).links) (route_of_taken asked.ring asked.what)
    → IsRoutedWithin (length (proxy_of old asked.session).links) asked → AreAsLogged asked.session log old
    → News (home_of old) order (order ++ asked ∷ []) histories (log ++ x ∷ [])
news_taken opening order asked log x old histories requests h own outcomes routed ups tag place atom outcome command known =
    let links : List LinkState = (proxy_of old asked.session).links in
    let d = request_of (asked_at (order ++ asked ∷ []) tag.session tag.request) tag.atom (to_place place atom) command in
    let command_is : slice_get (route_of_taken d.0.ring d.0.what) tag.atom ≡ Some (to_place place atom) = ap (λ (o : Option TakenRequest). command_in o tag.atom) (sym d.1) ∙ command in
    let outcome_is : slice_get d.0.outcomes tag.atom ≡ Some outcome = ap (λ (o : Option TakenRequest). outcome_in o tag.atom) (sym d.1) ∙ known in
    elim (asked_pushed order asked tag.session tag.request d.0 d.1) [
      | inl k ↦ inl (ap (λ (o : Option TakenRequest). command_in o tag.atom) k ∙ command_is, ap (λ (o : Option TakenRequest). outcome_in o tag.atom) k ∙ outcome_is)
      | inr k ↦ (
          let its_command : slice_get (route_of_taken asked.ring asked.what) tag.atom ≡ Some (to_place place atom) =
          ap (λ (a : TakenRequest). slice_get (route_of_taken a.ring a.what) tag.atom) (sym k.2) ∙ command_is in
          let its_outcome : slice_get (map (at_once links) (route_of_taken asked.ring asked.what)) tag.atom ≡ Some outcome =
          ap (λ (os : List Outcome). slice_get os tag.atom) (sym outcomes) ∙ ap (λ (a : TakenRequest). slice_get a.outcomes tag.atom) (sym k.2) ∙ outcome_is in
          let is = at_once_of links (route_of_taken asked.ring asked.what) tag.atom (to_place place atom) outcome its_command its_outcome in
          let mine : All (IsRoutedWithin (length links)) (of_proxy (home_of old) (home_of old asked.session) (order ++ asked ∷ [])) =
          subst (λ (es : Order). All (IsRoutedWithin (length links)) es) (sym (of_proxy_push_own (home_of old) (home_of old asked.session) order asked refl))
          (within-push (length links) (of_proxy (home_of old) (home_of old asked.session) order) asked (requests.inside (home_of old asked.session)) routed) in
          let inside : place < length links = commands_within (length links) (of_proxy (home_of old) (home_of old asked.session) (order ++ asked ∷ [])) mine tag (to_place place atom)
          (command_own (home_of old) (home_of old asked.session) (order ++ asked ∷ []) tag (ap (λ (n : ℕ). home_of old n) (sym k.0)) ∙ command) in
          inr (subst (λ (o : Outcome). HasOutcome (home_of old) place tag (histories place) (log ++ x ∷ []) o) (sym is)
          (told_at_once (home_of old) place tag (histories place) log x (link_at links place) (subst (λ (s : ℕ). takes s x ≡ true) k.0 own)
          (k.1 ∙ turns-taken order log requests.turns tag.session)
          (ap (λ (n : ℕ). is_up (home_of old n) place log) (sym k.0) ∙ ups place inside)
          (none_yet opening order log old histories place tag requests h k.1))))
    ]

pub commands_take : (opening : RingState) (order : Order) (asked : TakenRequest) (log : Log) (x : Logged) (old new : PoolState) → new.homes ≡ old.homes → RequestsHold opening order log old
    → HistoriesHold order log (histories_of old.sites) → takes asked.session x ≡ true
    → asked.outcomes ≡ map (at_once (proxy_of old asked.session).links) (route_of_taken asked.ring asked.what)
    → IsRoutedWithin (length (proxy_of old asked.session).links) asked → AreAsLogged asked.session log old → new.sites ≡ old.sites
    → CommandsHold (home_of old) order log old.sites → CommandsHold (home_of new) (order ++ asked ∷ []) (log ++ x ∷ []) new.sites
commands_take opening order asked log x old new homes requests h own outcomes routed ups same was =
    commands_go opening order (order ++ asked ∷ []) log x old new homes requests (lost_pushed order asked)
    (news_taken opening order asked log x old (histories_of new.sites) requests (subst (λ (ss : List SiteState). HistoriesHold order log (histories_of ss)) (sym same) h) own outcomes routed ups)
    (none_still (home_of old) log (histories_of old.sites) (histories_of new.sites) (λ place. ap (λ (ss : List SiteState). histories_of ss place) same))
    (λ place tag has. inl (subst (λ (ss : List SiteState). HasUntakenAt ss place tag) same has)) was
