-- Outcomes of commands, as a log shows them after one more event.
use Rattle.std.proofs.Common.{◌≡◌, ◌≢◌, ◌∙◌, ⊎_elim, ℕ, ◌⊎◌, inl, inr, true, false, List, [], ◌∷◌, ◌++◌, Option, None, Some, refl, sym, ap, subst, arith}
use Rattle.std.proofs.lemmas.Bool.Decides.{eqb_tells}
use Rattle.std.proofs.lemmas.Option.{none-some}
use Rattle.mc_request.specs.declared.parts.Atom.{Atom}
use Rattle.mc_reply.specs.declared.replies.Reply.{Reply as AReply}
use Rattle.mc_ring.specs.Rings.{RingState}
use Rattle.mc_route.specs.Routes.{to_place}
use Rattle.mc_route.specs.declared.outcomes.Outcome.{Outcome}
use Rattle.mc_route.specs.declared.outcomes.Outcome.TheVariants.{Awaited, Lost, Reply}
use Rattle.mc_route.specs.declared.routes.Routed.{Routed}
use Rattle.mc_link.specs.declared.turns.Tag.{Tag}
use Rattle.mc_account.specs.Lookups.{asked_at, command_at, command_in, outcome_at, outcome_in}
use Rattle.mc_account.specs.Orders.{AreInOrder, Order, TakenRequest, entries_of, note}
use Rattle.mc_history.specs.Histories.{HasNone, tag_in}
use Rattle.mc_history.specs.declared.entries.Entry.{Entry}
use Rattle.mc_history.proofs.OutcomeLemmas.{command_note, note_back}
use Rattle.mc_world.specs.Accounts.{NotAnswered, WasLost, WasTaken, down_when_taken, up_when_taken}
use Rattle.mc_world.specs.LogHolds.{CommandsHold, HasOutcome, IsUntaken, RequestsHold}
use Rattle.mc_world.specs.Homes.{Homes, home_in}
use Rattle.mc_world.specs.Logs.{Log, is_up, loses, takes}
use Rattle.mc_world.specs.WorldState.{PoolState, histories_of, home_of}
use Rattle.mc_world.specs.declared.logs.Logged.{Logged}
use Rattle.mc_world.proofs.Log.EntryLemmas.{HasUntakenAt, got_inside, got_pushed}
use Rattle.mc_world.proofs.Log.HistoryLemmas.{KeepsLost}
use Rattle.mc_world.proofs.Log.LogLemmas.{before-stays, number-push}
use Rattle.mc_world.proofs.Log.OrderLemmas.{turns-taken}

-- a command that exists, and one with an outcome, are of a request that was taken
pub request_of : (o : Option TakenRequest) (atom : ℕ) (routed : Routed) → command_in o atom ≡ Some routed → (e : TakenRequest) × (o ≡ Some e)
request_of None atom routed at = absurd (none-some routed at)
request_of (Some e) atom routed at = (e, refl)

pub request_known : (o : Option TakenRequest) (atom : ℕ) (outcome : Outcome) → outcome_in o atom ≡ Some outcome → (e : TakenRequest) × (o ≡ Some e)
request_known None atom outcome at = absurd (none-some outcome at)
request_known (Some e) atom outcome at = (e, refl)

pub command_taken : (opening : RingState) (order : Order) (log : Log) (pool : PoolState) (tag : Tag) (routed : Routed) → RequestsHold opening order log pool → command_at order tag ≡ Some routed
    → WasTaken tag log
command_taken opening order log pool tag routed h at =
    let e = request_of (asked_at order tag.session tag.request) tag.atom routed at in
    omega (arith, got_inside (entries_of tag.session order) tag.request e.0 e.1, turns-taken order log h.turns tag.session)

pub outcome_taken : (opening : RingState) (order : Order) (log : Log) (pool : PoolState) (tag : Tag) (outcome : Outcome) → RequestsHold opening order log pool → outcome_at order tag ≡ Some outcome
    → WasTaken tag log
outcome_taken opening order log pool tag outcome h at =
    let e = request_known (asked_at order tag.session tag.request) tag.atom outcome at in
    omega (arith, got_inside (entries_of tag.session order) tag.request e.0 e.1, turns-taken order log h.turns tag.session)

-- what a log shows of a command, after one more event
pub up_stays : (proxy place : ℕ) (tag : Tag) (log : Log) (x : Logged) → WasTaken tag log → up_when_taken proxy place tag log → up_when_taken proxy place tag (log ++ x ∷ [])
up_stays proxy place tag log x taken up = ap (λ (l : Log). is_up proxy place l) (before-stays (takes tag.session) tag.request log x taken) ∙ up

pub was_lost_stays : (proxy place : ℕ) (tag : Tag) (log : Log) (x : Logged) → WasLost proxy place tag log → WasLost proxy place tag (log ++ x ∷ [])
was_lost_stays proxy place tag log x h =
    let stays = sym (before-stays (loses proxy place) h.0 log x h.1) in (
      h.0,
      omega (arith, h.1, number-push (loses proxy place) log x),
      subst (λ (l : Log). WasTaken tag l) stays h.2,
      subst (λ (l : Log). NotAnswered tag l) stays h.3,
    )

told_stays : (home : Homes) (place : ℕ) (tag : Tag) (history now : List Entry) (log : Log) (x : Logged) (outcome : Outcome) → WasTaken tag log
    → (down_when_taken (home tag.session) place tag log → HasNone history tag → HasNone now tag) → HasOutcome home place tag history log outcome
    → HasOutcome home place tag now (log ++ x ∷ []) outcome
told_stays home place tag history now log x Awaited taken none h = up_stays (home tag.session) place tag log x taken h
told_stays home place tag history now log x (Reply reply) taken none h = tt
told_stays home place tag history now log x Lost taken none h = elim h [
  | inl k ↦ inl (ap (λ (l : Log). is_up (home tag.session) place l) (before-stays (takes tag.session) tag.request log x taken) ∙ k.0, none k.0 k.1)
  | inr k ↦ inr (up_stays (home tag.session) place tag log x taken k.0, was_lost_stays (home tag.session) place tag log x k.1)
]

-- each command's outcome was known, or the log shows it now
abbrev pub News : Homes → Order → Order → (ℕ → List Entry) → Log → Type 0
News home order order' histories log =
    (tag : Tag) (place : ℕ) (atom : Atom (List ℕ)) (outcome : Outcome) → command_at order' tag ≡ Some (to_place place atom) → outcome_at order' tag ≡ Some outcome
    → ((command_at order tag ≡ Some (to_place place atom)) × (outcome_at order tag ≡ Some outcome)) ⊎ HasOutcome home place tag (histories place) log outcome

-- commands that were never sent still have no entry
abbrev pub KeepsNone : Homes → Log → (ℕ → List Entry) → (ℕ → List Entry) → Type 0
KeepsNone home log old new = (tag : Tag) (place : ℕ) → down_when_taken (home tag.session) place tag log → HasNone (old place) tag → HasNone (new place) tag

pub commands_go : (opening : RingState) (order order' : Order) (log : Log) (x : Logged) (old new : PoolState) → new.homes ≡ old.homes → RequestsHold opening order log old
    → KeepsLost order order' → News (home_of old) order order' (histories_of new.sites) (log ++ x ∷ []) → KeepsNone (home_of old) log (histories_of old.sites) (histories_of new.sites)
    → ((place : ℕ) (tag : Tag) → HasUntakenAt new.sites place tag → (HasUntakenAt old.sites place tag) ⊎ (IsUntaken (home_of old) place order' (log ++ x ∷ []) tag))
    → CommandsHold (home_of old) order log old.sites → CommandsHold (home_of new) order' (log ++ x ∷ []) new.sites
commands_go opening order order' log x old new homes requests lost news none untaken h =
    subst (λ (hs : List ℕ). CommandsHold (home_in hs) order' (log ++ x ∷ []) new.sites) (sym homes) (record {
      told = λ tag place atom outcome command known. elim (news tag place atom outcome command known) [
        | inl k ↦ told_stays (home_of old) place tag (histories_of old.sites place) (histories_of new.sites place) log x outcome
            (command_taken opening order log old tag (to_place place atom) requests k.0) (none tag place) (h.told tag place atom outcome k.0 k.1)
        | inr k ↦ k
      ];
      untaken = λ place i j site way tag at way_at tag_at.
          elim (untaken place tag (record { site = site; at = at; has = record { i = i; j = j; way = way; way_at = way_at; tag_at = tag_at } })) [
            | inl k ↦ (
                let was = h.untaken place k.has.i k.has.j k.site k.has.way tag k.at k.has.way_at k.has.tag_at in
                record { lost = lost tag was.lost; sent = up_stays (home_of old tag.session) place tag log x (outcome_taken opening order log old tag Lost requests was.lost) was.sent })
            | inr k ↦ k
          ];
    })

-- the histories stay
pub none_still : (home : Homes) (log : Log) (old new : ℕ → List Entry) → ((place : ℕ) → new place ≡ old place) → KeepsNone home log old new
none_still home log old new same tag place down none = subst (λ (es : List Entry). HasNone es tag) (sym (same place)) none

-- no command gets an outcome
pub commands_still : (opening : RingState) (order : Order) (log : Log) (x : Logged) (old new : PoolState) → new.homes ≡ old.homes → RequestsHold opening order log old
    → ((place : ℕ) → histories_of new.sites place ≡ histories_of old.sites place) → ((place : ℕ) (tag : Tag) → HasUntakenAt new.sites place tag → HasUntakenAt old.sites place tag)
    → CommandsHold (home_of old) order log old.sites → CommandsHold (home_of new) order (log ++ x ∷ []) new.sites
commands_still opening order log x old new homes requests same untaken h =
    commands_go opening order order log x old new homes requests (λ tag lost. lost) (λ tag place atom outcome command known. inl (command, known))
    (none_still (home_of old) log (histories_of old.sites) (histories_of new.sites) same) (λ place tag has. inl (untaken place tag has)) h

-- the server of a place takes a command that was sent
up_not_down : (proxy place : ℕ) (tag : Tag) (log : Log) → up_when_taken proxy place tag log → down_when_taken proxy place tag log → ⊥
up_not_down proxy place tag log up down = let clash : true ≡ false = sym up ∙ down in absurd cc

none_pushed : (home : Homes) (log : Log) (place : ℕ) (history : List Entry) (e : Entry) (tag : Tag) → up_when_taken (home e.client) place (tag_in e) log
    → down_when_taken (home tag.session) place tag log → HasNone history tag → HasNone (history ++ e ∷ []) tag
none_pushed home log place history e tag up down none k d at = elim (got_pushed history e k d at) [
  | inl h ↦ none k d h
  | inr h ↦ λ same. up_not_down (home tag.session) place tag log
      (subst (λ (t : Tag). up_when_taken (home t.session) place t log) (ap (λ (x : Entry). tag_in x) (sym h.1) ∙ same) up) down
]

pub commands_serve : (opening : RingState) (order : Order) (log : Log) (x : Logged) (place : ℕ) (e : Entry) (old new : PoolState) → new.homes ≡ old.homes → RequestsHold opening order log old
    → histories_of new.sites place ≡ histories_of old.sites place ++ e ∷ [] → ((other : ℕ) → place ≢ other → histories_of new.sites other ≡ histories_of old.sites other)
    → up_when_taken (home_of old e.client) place (tag_in e) log → ((other : ℕ) (tag : Tag) → HasUntakenAt new.sites other tag → HasUntakenAt old.sites other tag)
    → CommandsHold (home_of old) order log old.sites → CommandsHold (home_of new) order (log ++ x ∷ []) new.sites
commands_serve opening order log x place e old new homes requests is others up untaken h =
    commands_go opening order order log x old new homes requests (λ tag lost. lost) (λ tag p atom outcome command known. inl (command, known))
    (λ tag p down none. ⊎_elim
    (λ own. subst (λ (q : ℕ). HasNone (histories_of new.sites q) tag) own.1
    (subst (λ (es : List Entry). HasNone es tag) (sym is)
    (none_pushed (home_of old) log place (histories_of old.sites place) e tag up (subst (λ (q : ℕ). down_when_taken (home_of old tag.session) q tag log) (sym own.1) down)
    (subst (λ (q : ℕ). HasNone (histories_of old.sites q) tag) (sym own.1) none))))
    (λ differ. subst (λ (es : List Entry). HasNone es tag) (sym (others p differ.1)) none)
    (eqb_tells place p))
    (λ p tag has. inl (untaken p tag has)) h

-- a command gets its reply
pub commands_reply : (opening : RingState) (order : Order) (log : Log) (x : Logged) (t : Tag) (reply : AReply (List ℕ)) (old new : PoolState) → new.homes ≡ old.homes → RequestsHold opening order log old
    → ((number : ℕ) → AreInOrder (entries_of number order)) → KeepsLost order (note t (Reply reply) order)
    → ((place : ℕ) → histories_of new.sites place ≡ histories_of old.sites place) → ((place : ℕ) (tag : Tag) → HasUntakenAt new.sites place tag → HasUntakenAt old.sites place tag)
    → CommandsHold (home_of old) order log old.sites → CommandsHold (home_of new) (note t (Reply reply) order) (log ++ x ∷ []) new.sites
commands_reply opening order log x t reply old new homes requests numbered lost same untaken h =
    commands_go opening order (note t (Reply reply) order) log x old new homes requests lost
    (λ tag place atom outcome command known. elim (note_back t (Reply reply) order tag outcome (numbered tag.session) known) [
      | inl k ↦ inl (sym (command_note t (Reply reply) order tag) ∙ command, k)
      | inr k ↦ inr (subst (λ (o : Outcome). HasOutcome (home_of old) place tag (histories_of new.sites place) (log ++ x ∷ []) o) (sym k.1) tt)
    ])
    (none_still (home_of old) log (histories_of old.sites) (histories_of new.sites) same) (λ place tag has. inl (untaken place tag has)) h
