-- Runs of which all clauses of an account hold except one.
use Rattle.std.proofs.Common.{◌≡◌, ◌≢◌, ◌∙◌, ◌&&◌, ℕ, zero, suc, ◌<◌, ◌==◌, inl, inr, Bool, true, false, if◌then◌else◌, List, [], ◌∷◌, ◌++◌, length, map, take, Option, None, Some, slice_get, refl, sym, ap, subst, pos, arith}
use Rattle.std.specs.Prelude.{codes}
use Rattle.std.specs.List.{list_all}
use Rattle.std.proofs.lemmas.Bool.{false≢true, true≢false}
use Rattle.std.proofs.lemmas.Bool.Decides.{eqb_tells}
use Rattle.std.proofs.lemmas.List.Elements.{All-cons, All-nil}
use Rattle.std.proofs.lemmas.Option.{none-some, same_Some}
use Rattle.mc_text.specs.Lines.{first_line, line_end}
use Rattle.mc_text.specs.Words.{words}
use Rattle.mc_request.specs.Names.{name_of}
use Rattle.mc_request.specs.Requests.{next_request, requests_of, requests_within}
use Rattle.mc_request.specs.declared.faults.Fault.TheVariants.{UnknownCommand}
use Rattle.mc_request.specs.declared.parts.Atom.{Atom}
use Rattle.mc_request.specs.declared.parts.Atom.TheVariants as atoms
use Rattle.mc_request.specs.declared.parts.Request.TheVariants as requests
use Rattle.mc_request.specs.declared.parts.Parsed.{Parsed}
use Rattle.mc_request.specs.declared.parts.Parsed.TheVariants.{Faulty, Whole}
use Rattle.mc_request.specs.declared.parts.Update.TheVariants.{FlushAll}
use Rattle.mc_reply.specs.Spelling.{spelling_of}
use Rattle.mc_reply.specs.declared.replies.Reply.{Reply as AReply}
use Rattle.mc_reply.specs.declared.replies.Reply.TheVariants.{Flushed}
use Rattle.mc_ring.specs.Rings.{RingState}
use Rattle.mc_route.specs.Routes.{to_place}
use Rattle.mc_route.specs.declared.losses.Losses.{Losses}
use Rattle.mc_route.specs.declared.losses.Losses.TheVariants.{Told}
use Rattle.mc_route.specs.declared.outcomes.Outcome.{Outcome}
use Rattle.mc_route.specs.declared.outcomes.Outcome.TheVariants as outcomes
use Rattle.mc_route.specs.declared.routes.Routed.{Routed}
use Rattle.mc_link.specs.declared.turns.Tag.{Tag}
use Rattle.mc_proxy.specs.Sending.{tag_of}
use Rattle.mc_cache.specs.CacheState.{CacheState, opening_cache}
use Rattle.mc_cache.specs.Step.{step_of}
use Rattle.mc_account.specs.Lookups.{asked_at, command_at, outcome_at, outcome_in}
use Rattle.mc_account.specs.Orders.{AreInOrder, IsSized, Order, Tagged, TakenRequest, commands_to, entries_of, is_complete, taken_of}
use Rattle.mc_history.specs.declared.entries.Entry.{Entry}
use Rattle.mc_history.specs.Histories.{IsLegal, tag_in}
use Rattle.mc_history.specs.Named.{tags_of}
use Rattle.mc_world.proofs.Log.LifeLemmas.{legal_unrestarted}
use Rattle.mc_world.specs.Accounts.{WasTaken, answers_by}
use Rattle.mc_world.specs.Homes.{Homes, of_proxy, tags_through}
use Rattle.mc_world.specs.Logs.{IsRingAfter, Log, before, drops, in_life, moments_of, number_of, puts, restarts, serves, takes, turns_of}
use Rattle.mc_world.specs.declared.events.Event.TheVariants.{Emit, LinkBack, LinkLost, ProxyTurn, ServerTurn}
use Rattle.mc_world.specs.declared.logs.Logged.{Logged}
use Rattle.mc_world.specs.declared.logs.Logged.TheVariants.{Happened}
use Rattle.mc_pool_laws.specs.Sent.{IsReplayed}
use Rattle.mc_pool_laws.specs.Outcomes.{IsUnaccounted}
use Rattle.mc_pool_laws.specs.Without.{AccountsBut, After, Allows, Answered, Asked, Clause, Legal, Lost, Moments, Once, Placed, Put, Replied, Rings, Sized, Turns}
use Rattle.mc_pool_laws.proofs.SentLemmas.{in_request}

-- one proxy
abbrev pub one_home : Homes
one_home client = 0

-- the entries of the examples: a request of client 0 is taken, server 0 takes one, an answer of client 0 is emitted
abbrev pub takes_one : Logged
takes_one = Happened (ProxyTurn 0)

abbrev pub serves_one : Logged
serves_one = Happened (ServerTurn 0 0 1 5)

abbrev pub puts_one : Logged
puts_one = Happened (Emit 0)

-- the link of server 0 is lost, and comes up
abbrev pub loses_one : Logged
loses_one = Happened (LinkLost 0 0)

abbrev pub returns_one : Logged
returns_one = Happened (LinkBack 0 0)

-- a ring of one server, and one of none
abbrev pub one_server : RingState
one_server = record { servers = codes "a:1" ∷ []; points = record { point = 0; place = 0 } ∷ [] }

abbrev no_server : RingState
no_server = record { servers = []; points = [] }

-- a cache, and a text of one request
abbrev pub a_cache : CacheState
a_cache = opening_cache 1000 10 0

abbrev pub flush : Atom (List ℕ)
flush = atoms.Update (FlushAll (pos 0))

abbrev pub flush_asked : Parsed
flush_asked = Whole (requests.Update (FlushAll (pos 0)) false)

abbrev pub flush_text : ℕ → List ℕ
flush_text client = codes "flush_all\r\n"

abbrev no_text : ℕ → List ℕ
no_text client = []

abbrev no_history : ℕ → List Entry
no_history place = []

text_read : requests_of (codes "flush_all\r\n") ≡ flush_asked ∷ []
unfolding words line_end first_line name_of next_request requests_within requests_of
text_read = refl

nothing_read : requests_of [] ≡ []
unfolding requests_of requests_within
nothing_read = refl

-- the order of one request
abbrev pub asked_by : RingState → Parsed → List Outcome → TakenRequest
asked_by ring what told = record { session = 0; request = 0; what = what; ring = ring; losses = Told; outcomes = told }

-- the element of a list of one
pub one_here : {X : Type 0} (x : X) (k : ℕ) (y : X) → slice_get (x ∷ []) k ≡ Some y → (k ≡ 0) × (y ≡ x)
one_here x zero y at = (refl, sym (same_Some x y at))
one_here x (suc zero) y at = absurd (none-some y at)
one_here x (suc (suc k)) y at = absurd (none-some y at)

pub none_there : {X : Type 0} (k : ℕ) (y : X) → slice_get [] k ≡ Some y → ⊥
none_there zero y at = none-some y at
none_there (suc k) y at = none-some y at

-- a list that begins with something is not empty
some_not_none : {X : Type 0} {x : X} {xs : List X} → x ∷ xs ≡ [] → ⊥
some_not_none {x = x} {xs = xs} same = (let size : suc (length xs) ≡ 0 = ap length same in omega (arith, size))

-- no request has no command
no_command : (tag : Tag) (command : Routed) → command_at [] tag ≡ Some command → ⊥
no_command tag command at = grind (arith, in_request, none_there)

-- elements that exist for one number alone
there_by : {X : Type 0} (v : Bool) (xs : List X) (k : ℕ) (y : X) → slice_get (if v then xs else []) k ≡ Some y → (v ≡ true) × (slice_get xs k ≡ Some y)
there_by true xs k y at = (refl, at)
there_by false xs k y at = absurd (none_there k y at)

pub own_by : (number : ℕ) → (0 == number) ≡ true → 0 ≡ number
own_by number h = grind (arith, false≢true, eqb_tells)

pub asked_only : (e : TakenRequest) (client request : ℕ) (x : TakenRequest) → e.session ≡ 0 → asked_at (e ∷ []) client request ≡ Some x → (0 ≡ client) × (request ≡ 0) × (x ≡ e)
asked_only e client request x own at = grind (arith, one_here, there_by, own_by)

-- the history of the first server alone
abbrev pub first_only : List Entry → ℕ → List Entry
first_only es place = if 0 == place then es else []

-- the entries of the first server in each of its lives are legal, if none restarted
pub lives_of_first : (order : Order) (s : CacheState) (es : List Entry) (log : Log) → ((place : ℕ) → number_of (restarts place) log ≡ 0) → IsLegal order 0 s es
    → (place life : ℕ) → IsLegal order place s (in_life place life log (first_only es place))
lives_of_first order s es log never legal place =
    let all : IsLegal order place s (first_only es place) =
    (elim (0 == place) as (λ v. (0 == place) ≡ v → IsLegal order place s (if v then es else [])) [
      | true ↦ λ own. subst (λ (p : ℕ). IsLegal order p s es) (own_by place own) legal
      | false ↦ λ other. tt
    ]) refl in
    legal_unrestarted order place s log (first_only es place) (never place) all

pub first_there : (es : List Entry) (place k : ℕ) (e : Entry) → slice_get (first_only es place) k ≡ Some e → (0 ≡ place) × (slice_get es k ≡ Some e)
first_there es place k e at = grind (arith, there_by, own_by)

-- the counts of the log of one request, and the request
pub asked_text : (client : ℕ) (told : List Outcome) (ring : RingState) → (untaken : List Parsed) × (taken_of client (asked_by ring flush_asked told ∷ []) ++ untaken ≡ requests_of (flush_text client))
asked_text client told ring =
    (elim (0 == client) as (λ v. (untaken : List Parsed) × (map (λ (e : TakenRequest). e.what) (if v then asked_by ring flush_asked told ∷ [] else []) ++ untaken ≡ requests_of (codes "flush_all\r\n"))) [
      | true ↦ ([], sym text_read)
      | false ↦ (requests_of (codes "flush_all\r\n"), refl)
    ])

pub one_of : {X : Type 0} (v : Bool) (x : X) → length (if v then x ∷ [] else []) ≡ (if v then suc 0 else 0)
one_of true x = refl
one_of false x = refl

pub complete_of : (v : Bool) (e : TakenRequest) → is_complete e ≡ true → list_all is_complete (take (if v then suc 0 else 0) (if v then e ∷ [] else [])) ≡ true
complete_of true e known = ap (λ (b : Bool). b && true) known
complete_of false e known = refl

-- a request to which an answer is emitted was taken before
put_by : (v : Bool) (request : ℕ) → request < (if v then suc 0 else 0) → (v ≡ true) × (request ≡ 0)
put_by true request early = (refl, omega (arith, early))
put_by false request early = absurd (omega (arith, early))

pub after_one : (log : Log) → ((client : ℕ) → number_of (puts client) log ≡ (if 0 == client then suc 0 else 0)) → 0 < number_of (takes 0) (before (puts 0) 0 log)
    → (client request : ℕ) → request < number_of (puts client) log → request < number_of (takes client) (before (puts client) request log)
after_one log count first client request early =
    let own = put_by (0 == client) request (omega (arith, early, count client)) in
    subst (λ (c : ℕ). request < number_of (takes c) (before (puts c) request log)) (own_by client own.0)
    (subst (λ (n : ℕ). n < number_of (takes 0) (before (puts 0) n log)) (sym own.1) first)

-- its number
pub numbered_one : (v : Bool) (e : TakenRequest) → e.request ≡ 0 → AreInOrder (if v then e ∷ [] else [])
numbered_one true e first = ap (λ (n : ℕ). n ∷ []) first
numbered_one false e first = refl

-- a server that took nothing, or only the first command to it, followed the proxy; and if its link was lost, no history needs to
abbrev pub Follows : List Entry → List Tag → Type 0
Follows es tags = (untaken : List Tag) × (map tag_in es ++ untaken ≡ tags)

pub follows_one : (v : Bool) (x : Entry) (c : Tagged) → tag_in x ≡ c.1 → Follows (if v then x ∷ [] else []) (tags_of ((if v then c ∷ [] else []) ++ []))
follows_one true x c same = ([], ap (λ (t : Tag). t ∷ []) same)
follows_one false x c same = ([], refl)

pub follows_lost : (v : Bool) (es : List Entry) (tags : List Tag) → ◌≡◌ {A = ℕ} (if v then suc 0 else 0) 0 → Follows (if v then es else []) tags
follows_lost true es tags none = absurd (omega (arith, none))
follows_lost false es tags none = (tags, refl)

-- the requests that the one proxy took, and the tags of its clients' entries, are all; another took none
all_its : (order : Order) (proxy : ℕ) → (0 == proxy) ≡ true → of_proxy one_home proxy order ≡ order
all_its [] proxy own = refl
all_its (e ∷ es) proxy own =
    ap (λ (v : Bool). if v then e ∷ of_proxy one_home proxy es else of_proxy one_home proxy es) own ∙ ap (λ (xs : Order). e ∷ xs) (all_its es proxy own)

none_its : (order : Order) (proxy : ℕ) → (0 == proxy) ≡ false → of_proxy one_home proxy order ≡ []
none_its [] proxy other = refl
none_its (e ∷ es) proxy other =
    ap (λ (v : Bool). if v then e ∷ of_proxy one_home proxy es else of_proxy one_home proxy es) other ∙ none_its es proxy other

tags_its : (es : List Entry) (proxy : ℕ) → (0 == proxy) ≡ true → tags_through one_home proxy es ≡ map tag_in es
tags_its [] proxy own = refl
tags_its (e ∷ es) proxy own =
    ap (λ (v : Bool). if v then tag_in e ∷ tags_through one_home proxy es else tags_through one_home proxy es) own ∙ ap (λ (ts : List Tag). tag_in e ∷ ts) (tags_its es proxy own)

no_tags : (es : List Entry) (proxy : ℕ) → (0 == proxy) ≡ false → tags_through one_home proxy es ≡ []
no_tags [] proxy other = refl
no_tags (e ∷ es) proxy other =
    ap (λ (v : Bool). if v then tag_in e ∷ tags_through one_home proxy es else tags_through one_home proxy es) other ∙ no_tags es proxy other

pub followed_one : (order : Order) (histories : ℕ → List Entry) (log : Log)
    → ((place : ℕ) → number_of (drops 0 place) log ≡ 0 → Follows (histories place) (tags_of (commands_to place order)))
    → (proxy place : ℕ) → number_of (drops proxy place) log ≡ 0
    → (untaken : List Tag) × (tags_through one_home proxy (histories place) ++ untaken ≡ tags_of (commands_to place (of_proxy one_home proxy order)))
followed_one order histories log own proxy place none =
    (elim (0 == proxy) as (λ v. (0 == proxy) ≡ v
    → (untaken : List Tag) × (tags_through one_home proxy (histories place) ++ untaken ≡ tags_of (commands_to place (of_proxy one_home proxy order)))) [
      | true ↦ λ its.
          let here = own place (subst (λ (p : ℕ). number_of (drops p place) log ≡ 0) (sym (own_by proxy its)) none) in (
            here.0,
            ap (λ (ts : List Tag). ts ++ here.0) (tags_its (histories place) proxy its) ∙ here.1
                ∙ ap (λ (xs : Order). tags_of (commands_to place xs)) (sym (all_its order proxy its)),
          )
      | false ↦ λ other. (
        [],
        ap (λ (ts : List Tag). ts ++ []) (no_tags (histories place) proxy other) ∙ ap (λ (xs : Order). tags_of (commands_to place xs)) (sym (none_its order proxy other)),
      )
    ]) refl

-- the outcomes of the commands of one request
pub outcome_in_request : (o : Option TakenRequest) (atom : ℕ) (q : Outcome) → outcome_in o atom ≡ Some q → (e : TakenRequest) × (o ≡ Some e) × (slice_get e.outcomes atom ≡ Some q)
outcome_in_request None atom q h = absurd (none-some q h)
outcome_in_request (Some e) atom q h = (e, refl, h)

outcome_there : (e : TakenRequest) (tag : Tag) (q : Outcome) → e.session ≡ 0 → outcome_at (e ∷ []) tag ≡ Some q → slice_get e.outcomes tag.atom ≡ Some q
outcome_there e tag q own became = grind (arith, slice_get, asked_only, outcome_in_request)

no_outcome : (ring : RingState) (what : Parsed) (tag : Tag) (q : Outcome) → outcome_at (asked_by ring what [] ∷ []) tag ≡ Some q → ⊥
no_outcome ring what tag q became = none_there tag.atom q (outcome_there (asked_by ring what []) tag q refl became)

pub one_outcome : (ring : RingState) (what : Parsed) (outcome : Outcome) (tag : Tag) (q : Outcome) → outcome_at (asked_by ring what (outcome ∷ []) ∷ []) tag ≡ Some q → q ≡ outcome
one_outcome ring what outcome tag q became = (one_here outcome tag.atom q (outcome_there (asked_by ring what (outcome ∷ [])) tag q refl became)).1

abbrev pub is_reply : Outcome → Bool
is_reply (outcomes.Reply reply) = true
is_reply outcomes.Lost = false
is_reply outcomes.Awaited = false

abbrev pub is_lost : Outcome → Bool
is_lost (outcomes.Reply reply) = false
is_lost outcomes.Lost = true
is_lost outcomes.Awaited = false

no_reply : (ring : RingState) (what : Parsed) (outcome : Outcome) → is_reply outcome ≡ false → (tag : Tag) (reply : AReply (List ℕ))
    → outcome_at (asked_by ring what (outcome ∷ []) ∷ []) tag ≡ Some (outcomes.Reply reply) → ⊥
no_reply ring what outcome other tag reply became = true≢false (ap is_reply (one_outcome ring what outcome tag (outcomes.Reply reply) became) ∙ other)

pub no_loss : (ring : RingState) (what : Parsed) (outcome : Outcome) → is_lost outcome ≡ false → (tag : Tag)
    → outcome_at (asked_by ring what (outcome ∷ []) ∷ []) tag ≡ Some outcomes.Lost → ⊥
no_loss ring what outcome other tag became = true≢false (ap is_lost (one_outcome ring what outcome tag outcomes.Lost became) ∙ other)

-- an answer is emitted to the one request, and no server has executed anything
abbrev answered_log : Log
answered_log = takes_one ∷ puts_one ∷ []

abbrev pub outs_of : Losses → Order → Log → ℕ → List ℕ
outs_of losses order log client = answers_by losses (take (number_of (puts client) log) (entries_of client order))

answered_but : (one : Clause) (losses : Losses) (ring by : RingState) (what : Parsed) (told : List Outcome) (texts : ℕ → List ℕ)
    → (one ≢ Asked → (client : ℕ) → (untaken : List Parsed) × (taken_of client (asked_by by what told ∷ []) ++ untaken ≡ requests_of (texts client)))
    → (one ≢ Rings → by ≡ ring)
    → (one ≢ Sized → IsSized (asked_by by what told))
    → (one ≢ Answered → is_complete (asked_by by what told) ≡ true)
    → (one ≢ Replied → (tag : Tag) (reply : AReply (List ℕ)) → outcome_at (asked_by by what told ∷ []) tag ≡ Some (outcomes.Reply reply) → ⊥)
    → (one ≢ Lost → (tag : Tag) → outcome_at (asked_by by what told ∷ []) tag ≡ Some outcomes.Lost → ⊥)
    → AccountsBut one one_home losses ring a_cache (asked_by by what told ∷ []) texts (outs_of losses (asked_by by what told ∷ []) answered_log) no_history answered_log
answered_but one losses ring by what told texts asked routed sized known replied lost =
    grind (arith, none_there, asked_only, one_of, complete_of, numbered_one, after_one)

untold : IsUnaccounted one_home one_server flush_text no_history answered_log
untold = record {
  tag = tag_of 0 0 0;
  command = to_place 0 flush;
  sent = record {
    what = flush_asked;
    ring = one_server;
    taken = record { turn = omega arith; sent = ap (λ (ts : List Parsed). slice_get ts 0) text_read; then = refl };
    routed = refl;
  };
  answered = omega arith;
  untold = λ told. elim told [
    | inl entry ↦ none_there entry.0 entry.1 entry.2
    | inr loss ↦ (elim loss [
      | inl down ↦ true≢false down.0
      | inr up ↦ (let inside = up.1.1 in omega (arith, inside))
    ])
  ];
}

-- a request is taken that no client sent
pub without_asked : Allows Asked (λ home ring opening texts outs histories log. length (requests_of (texts 0)) < number_of (takes 0) log)
without_asked losses =
    let e = asked_by one_server (Faulty UnknownCommand) [] in
    let none : length (requests_of []) ≡ 0 = ap (λ (ts : List Parsed). length ts) nothing_read in (
      one_home,
      one_server,
      a_cache,
      no_text,
      outs_of losses (e ∷ []) answered_log,
      no_history,
      answered_log,
      (
        e ∷ [],
        answered_but Asked losses one_server one_server (Faulty UnknownCommand) [] no_text (λ keeps. absurd (keeps refl)) (λ keeps. refl) (λ keeps. refl) (λ keeps. refl)
            (λ keeps tag reply became. no_outcome one_server (Faulty UnknownCommand) tag (outcomes.Reply reply) became)
            (λ keeps tag became. no_outcome one_server (Faulty UnknownCommand) tag outcomes.Lost became),
      ),
      omega (arith, none),
    )

-- a request is routed by a ring of no server
pub without_rings : Allows Rings (λ home ring opening texts outs histories log. IsUnaccounted home ring texts histories log)
without_rings losses =
    let e = asked_by no_server flush_asked [] in (
      one_home,
      one_server,
      a_cache,
      flush_text,
      outs_of losses (e ∷ []) answered_log,
      no_history,
      answered_log,
      (
        e ∷ [],
        answered_but Rings losses one_server no_server flush_asked [] flush_text (λ keeps client. asked_text client [] no_server) (λ keeps. absurd (keeps refl)) (λ keeps. refl) (λ keeps. refl)
            (λ keeps tag reply became. no_outcome no_server flush_asked tag (outcomes.Reply reply) became)
            (λ keeps tag became. no_outcome no_server flush_asked tag outcomes.Lost became),
      ),
      untold,
    )

-- a command has no outcome
pub without_sized : Allows Sized (λ home ring opening texts outs histories log. IsUnaccounted home ring texts histories log)
without_sized losses =
    let e = asked_by one_server flush_asked [] in (
      one_home,
      one_server,
      a_cache,
      flush_text,
      outs_of losses (e ∷ []) answered_log,
      no_history,
      answered_log,
      (
        e ∷ [],
        answered_but Sized losses one_server one_server flush_asked [] flush_text (λ keeps client. asked_text client [] one_server) (λ keeps. refl) (λ keeps. absurd (keeps refl)) (λ keeps. refl)
            (λ keeps tag reply became. no_outcome one_server flush_asked tag (outcomes.Reply reply) became)
            (λ keeps tag became. no_outcome one_server flush_asked tag outcomes.Lost became),
      ),
      untold,
    )

-- a request is answered whose command is awaited
pub without_answered : Allows Answered (λ home ring opening texts outs histories log. IsUnaccounted home ring texts histories log)
without_answered losses =
    let e = asked_by one_server flush_asked (outcomes.Awaited ∷ []) in (
      one_home,
      one_server,
      a_cache,
      flush_text,
      outs_of losses (e ∷ []) answered_log,
      no_history,
      answered_log,
      (
        e ∷ [],
        answered_but Answered losses one_server one_server flush_asked (outcomes.Awaited ∷ []) flush_text (λ keeps client. asked_text client (outcomes.Awaited ∷ []) one_server)
            (λ keeps. refl) (λ keeps. refl) (λ keeps. absurd (keeps refl))
            (λ keeps tag reply became. no_reply one_server flush_asked outcomes.Awaited refl tag reply became)
            (λ keeps tag became. no_loss one_server flush_asked outcomes.Awaited refl tag became),
      ),
      untold,
    )

-- a reply that no server gave
pub without_replied : Allows Replied (λ home ring opening texts outs histories log. IsUnaccounted home ring texts histories log)
without_replied losses =
    let e = asked_by one_server flush_asked (outcomes.Reply Flushed ∷ []) in (
      one_home,
      one_server,
      a_cache,
      flush_text,
      outs_of losses (e ∷ []) answered_log,
      no_history,
      answered_log,
      (
        e ∷ [],
        answered_but Replied losses one_server one_server flush_asked (outcomes.Reply Flushed ∷ []) flush_text (λ keeps client. asked_text client (outcomes.Reply Flushed ∷ []) one_server)
            (λ keeps. refl) (λ keeps. refl) (λ keeps. refl) (λ keeps. absurd (keeps refl))
            (λ keeps tag became. no_loss one_server flush_asked (outcomes.Reply Flushed) refl tag became),
      ),
      untold,
    )

-- a loss that the log does not show
pub without_lost : Allows Lost (λ home ring opening texts outs histories log. IsUnaccounted home ring texts histories log)
without_lost losses =
    let e = asked_by one_server flush_asked (outcomes.Lost ∷ []) in (
      one_home,
      one_server,
      a_cache,
      flush_text,
      outs_of losses (e ∷ []) answered_log,
      no_history,
      answered_log,
      (
        e ∷ [],
        answered_but Lost losses one_server one_server flush_asked (outcomes.Lost ∷ []) flush_text (λ keeps client. asked_text client (outcomes.Lost ∷ []) one_server)
            (λ keeps. refl) (λ keeps. refl) (λ keeps. refl)
            (λ keeps tag reply became. no_reply one_server flush_asked outcomes.Lost refl tag reply became)
            (λ keeps. absurd (keeps refl)),
      ),
      untold,
    )

-- nothing was taken
nothing_but : (one : Clause) (losses : Losses) (outs : ℕ → List ℕ) (log : Log)
    → (one ≢ Turns → [] ≡ turns_of log)
    → (one ≢ Put → (client : ℕ) → outs client ≡ outs_of losses [] log client)
    → (one ≢ After → (client request : ℕ) → request < number_of (puts client) log → request < number_of (takes client) (before (puts client) request log))
    → (one ≢ Answered → (client : ℕ) → list_all is_complete (take (number_of (puts client) log) []) ≡ true)
    → (one ≢ Moments → (place : ℕ) → [] ≡ moments_of place log)
    → AccountsBut one one_home losses one_server a_cache [] no_text outs no_history log
nothing_but one losses outs log turns put after answered moments = grind (arith, nothing_read, none_there, no_command)

-- a turn takes nothing
pub without_turns : Allows Turns (λ home ring opening texts outs histories log. length (requests_of (texts 0)) < number_of (takes 0) log)
without_turns losses =
    let none : length (requests_of []) ≡ 0 = ap (λ (ts : List Parsed). length ts) nothing_read in (
      one_home,
      one_server,
      a_cache,
      no_text,
      no_text,
      no_history,
      takes_one ∷ [],
      ([], nothing_but Turns losses no_text (takes_one ∷ []) (λ keeps. absurd (keeps refl)) (λ keeps client. refl) (λ keeps client request early. absurd (omega (arith, early))) (λ keeps client. refl) (λ keeps place. refl)),
      omega (arith, none),
    )

-- bytes from nowhere
pub without_put : Allows Put (λ home ring opening texts outs histories log. (number_of (puts 0) log ≡ 0) × (outs 0 ≢ []))
without_put losses = (
  one_home,
  one_server,
  a_cache,
  no_text,
  λ client. 1 ∷ [],
  no_history,
  [],
  ([], nothing_but Put losses (λ client. 1 ∷ []) [] (λ keeps. refl) (λ keeps. absurd (keeps refl)) (λ keeps client request early. absurd (omega (arith, early))) (λ keeps client. refl) (λ keeps place. refl)),
  (refl, λ none. some_not_none none),
)

-- a put without an answer
put_nothing : (v : Bool) → list_all is_complete (take (if v then suc 0 else 0) []) ≡ true
put_nothing true = refl
put_nothing false = refl

pub without_after : Allows After (λ home ring opening texts outs histories log. number_of (takes 0) log < number_of (puts 0) log)
without_after losses = (
  one_home,
  one_server,
  a_cache,
  no_text,
  outs_of losses [] (puts_one ∷ []),
  no_history,
  puts_one ∷ [],
  (
    [],
    nothing_but After losses (outs_of losses [] (puts_one ∷ [])) (puts_one ∷ []) (λ keeps. refl) (λ keeps client. refl) (λ keeps. absurd (keeps refl))
        (λ keeps client. put_nothing (0 == client)) (λ keeps place. refl),
  ),
  omega arith,
)

-- a turn without an entry
pub without_moments : Allows Moments (λ home ring opening texts outs histories log. length (histories 0) ≢ number_of (serves 0) log)
without_moments losses = (
  one_home,
  one_server,
  a_cache,
  no_text,
  no_text,
  no_history,
  serves_one ∷ [],
  ([], nothing_but Moments losses no_text (serves_one ∷ []) (λ keeps. refl) (λ keeps client. refl) (λ keeps client request early. absurd (omega (arith, early))) (λ keeps client. refl) (λ keeps. absurd (keeps refl))),
  λ same. omega (arith, same),
)

-- one request is taken, and the first server has executed some commands, of which no reply has arrived
abbrev awaited : Order
awaited = asked_by one_server flush_asked (outcomes.Awaited ∷ []) ∷ []

pub none_complete : (order : Order) (n : ℕ) → n ≡ 0 → list_all is_complete (take n order) ≡ true
none_complete [] zero none = refl
none_complete [] (suc n) none = refl
none_complete (e ∷ es) zero none = refl
none_complete (e ∷ es) (suc n) none = absurd (omega (arith, none))

pub none_out : (losses : Losses) (order : Order) (n : ℕ) → n ≡ 0 → [] ≡ answers_by losses (take n order)
none_out losses [] zero none = refl
none_out losses [] (suc n) none = refl
none_out losses (e ∷ es) zero none = refl
none_out losses (e ∷ es) (suc n) none = absurd (omega (arith, none))

served_but : (one : Clause) (losses : Losses) (es : List Entry) (log : Log)
    → map (λ (e : TakenRequest). e.session) awaited ≡ turns_of log
    → IsRingAfter 0 one_server (before (takes 0) 0 log) one_server
    → (one ≢ Legal → IsLegal awaited 0 a_cache es)
    → (one ≢ Once → (j k : ℕ) (d e : Entry) → slice_get es j ≡ Some d → slice_get es k ≡ Some e → j ≡ k)
    → ((place : ℕ) → number_of (drops 0 place) log ≡ 0 → Follows (first_only es place) (tags_of (commands_to place awaited)))
    → ((client : ℕ) → number_of (puts client) log ≡ 0)
    → ((place : ℕ) → number_of (restarts place) log ≡ 0)
    → ((place : ℕ) → map (λ (e : Entry). e.moment) (first_only es place) ≡ moments_of place log)
    → (one ≢ Placed → (k : ℕ) (e : Entry) → slice_get es k ≡ Some e → WasTaken (tag_in e) (before (serves 0) k log))
    → AccountsBut one one_home losses one_server a_cache awaited flush_text no_text (first_only es) log
served_but one losses es log turns ring legal once followed none never moments placed =
    let e = asked_by one_server flush_asked (outcomes.Awaited ∷ []) in
    record {
      asked = λ keeps client. asked_text client (outcomes.Awaited ∷ []) one_server;
      turns = λ keeps. turns;
      numbered = λ keeps client. numbered_one (0 == client) (asked_by one_server flush_asked (outcomes.Awaited ∷ [])) refl;
      rings = λ keeps client request x at.
          let o = asked_only e client request x refl at in
          subst (λ (c : ℕ). IsRingAfter 0 one_server (before (takes c) request log) x.ring) o.0
          (subst (λ (r : ℕ). IsRingAfter 0 one_server (before (takes 0) r log) x.ring) (sym o.1)
          (subst (λ (y : TakenRequest). IsRingAfter 0 one_server (before (takes 0) 0 log) y.ring) (sym o.2) ring));
      sized = λ keeps. All-cons IsSized e [] refl (All-nil IsSized);
      legal = λ keeps. lives_of_first awaited a_cache es log never (legal keeps);
      once = λ keeps r s j k d x at also same.
          let here = first_there es r j d at in
          let there = first_there es s k x also in
          (sym here.0 ∙ there.0, once keeps j k d x here.1 there.1);
      replied = λ keeps tag place atom reply at became. absurd (no_reply one_server flush_asked outcomes.Awaited refl tag reply became);
      lost = λ keeps tag place atom at became. absurd (no_loss one_server flush_asked outcomes.Awaited refl tag became);
      ordered = λ keeps place j k d x r q at also less same became. absurd (no_reply one_server flush_asked outcomes.Awaited refl (tag_in d) r became);
      followed = λ keeps. followed_one awaited (first_only es) log followed;
      answered = λ keeps client. none_complete (entries_of client awaited) (number_of (puts client) log) (none client);
      put = λ keeps client. none_out losses (entries_of client awaited) (number_of (puts client) log) (none client);
      after = λ keeps client request early. (let nothing = none client in absurd (omega (arith, nothing, early)));
      moments = λ keeps. moments;
      placed = λ keeps place k x at.
          let here = first_there es place k x at in
          subst (λ (p : ℕ). WasTaken (tag_in x) (before (serves p) k log)) here.0 (placed keeps k x here.1);
      unanswered = λ keeps place k x at reply became. absurd (no_reply one_server flush_asked outcomes.Awaited refl (tag_in x) reply became);
    }

-- the entry of that command, and one with another reply
abbrev pub flushed : Entry
flushed = record { client = 0; request = 0; atom = 0; moment = 5; refused = false; reply = spelling_of flush Flushed }

abbrev misreplied : Entry
misreplied = record { client = 0; request = 0; atom = 0; moment = 5; refused = false; reply = [] }

legal_flush : (s : CacheState) (es : List Entry) → IsLegal awaited 0 (step_of s flush 5 false).0 es → IsLegal awaited 0 s (flushed ∷ es)
legal_flush s es after = (flush, refl, record { legal = λ h. absurd (false≢true h); refused = refl; reply = refl }, after)

abbrev served_log : Log
served_log = takes_one ∷ serves_one ∷ []

pub once_in_one : (x : Entry) (j k : ℕ) (d e : Entry) → slice_get (x ∷ []) j ≡ Some d → slice_get (x ∷ []) k ≡ Some e → j ≡ k
once_in_one x j k d e at also = (one_here x j d at).0 ∙ sym (one_here x k e also).0

pub moments_one : (v : Bool) (x : Entry) → x.moment ≡ 5 → map (λ (e : Entry). e.moment) (if v then x ∷ [] else []) ≡ (if v then 5 ∷ [] else []) ++ []
moments_one true x is = ap (λ (m : ℕ). m ∷ []) is
moments_one false x is = refl

-- a reply that no cache gives
not_replayed : IsReplayed one_home one_server flush_text served_log 0 a_cache (misreplied ∷ []) → ⊥
not_replayed replayed = grind (arith, slice_get, same_Some, text_read, some_not_none)

pub without_legal : Allows Legal (λ home ring opening texts outs histories log. IsReplayed home ring texts log 0 opening (in_life 0 0 log (histories 0)) → ⊥)
without_legal losses = (
  one_home,
  one_server,
  a_cache,
  flush_text,
  no_text,
  first_only (misreplied ∷ []),
  served_log,
  (
    awaited,
    served_but Legal losses (misreplied ∷ []) served_log refl refl (λ keeps. absurd (keeps refl))
        (λ keeps. once_in_one misreplied) (λ place none. follows_one (0 == place) misreplied (flush, tag_of 0 0 0) refl) (λ client. refl) (λ place. refl) (λ place. moments_one (0 == place) misreplied refl)
        (λ keeps k e at.
        let here = one_here misreplied k e at in
        subst (λ (n : ℕ). WasTaken (tag_in e) (before (serves 0) n served_log)) (sym here.0)
        (subst (λ (x : Entry). WasTaken (tag_in x) (before (serves 0) 0 served_log)) (sym here.1) (omega arith))),
  ),
  not_replayed,
)

-- a command is executed before its request was taken
abbrev early_log : Log
early_log = serves_one ∷ takes_one ∷ []

pub without_placed : Allows Placed (λ home ring opening texts outs histories log. (e : Entry) × (slice_get (histories 0) 0 ≡ Some e)
    × (WasTaken (tag_in e) (before (serves 0) 0 log) → ⊥))
without_placed losses = (
  one_home,
  one_server,
  a_cache,
  flush_text,
  no_text,
  first_only (flushed ∷ []),
  early_log,
  (
    awaited,
    served_but Placed losses (flushed ∷ []) early_log refl refl
        (λ keeps. legal_flush a_cache [] tt) (λ keeps. once_in_one flushed) (λ place none. follows_one (0 == place) flushed (flush, tag_of 0 0 0) refl) (λ client. refl) (λ place. refl) (λ place. moments_one (0 == place) flushed refl)
        (λ keeps. absurd (keeps refl)),
  ),
  (flushed, refl, λ taken. omega (arith, taken)),
)

-- a command is executed twice, since the link was lost and came up
abbrev twice_log : Log
twice_log = loses_one ∷ returns_one ∷ takes_one ∷ serves_one ∷ serves_one ∷ []

moments_two : (v : Bool) → map (λ (e : Entry). e.moment) (if v then flushed ∷ flushed ∷ [] else []) ≡ (if v then 5 ∷ [] else []) ++ ((if v then 5 ∷ [] else []) ++ [])
moments_two true = refl
moments_two false = refl

taken_twice : (k : ℕ) (e : Entry) → slice_get (flushed ∷ flushed ∷ []) k ≡ Some e → WasTaken (tag_in e) (before (serves 0) k twice_log)
taken_twice zero e at = subst (λ (x : Entry). WasTaken (tag_in x) (before (serves 0) 0 twice_log)) (same_Some flushed e at) (omega arith)
taken_twice (suc k) e at = grind (arith, one_here)

pub without_once : Allows Once (λ home ring opening texts outs histories log. (d : Entry) × (e : Entry) × (slice_get (histories 0) 0 ≡ Some d)
    × (slice_get (histories 0) 1 ≡ Some e) × (tag_in d ≡ tag_in e))
without_once losses = (
  one_home,
  one_server,
  a_cache,
  flush_text,
  no_text,
  first_only (flushed ∷ flushed ∷ []),
  twice_log,
  (
    awaited,
    served_but Once losses (flushed ∷ flushed ∷ []) twice_log refl refl
        (λ keeps. legal_flush a_cache (flushed ∷ []) (legal_flush (step_of a_cache flush 5 false).0 [] tt)) (λ keeps. absurd (keeps refl))
        (λ place none. follows_lost (0 == place) (flushed ∷ flushed ∷ []) (tags_of (commands_to place awaited)) none) (λ client. refl) (λ place. refl)
        (λ place. moments_two (0 == place)) (λ keeps. taken_twice),
  ),
  (flushed, flushed, refl, refl, refl),
)
