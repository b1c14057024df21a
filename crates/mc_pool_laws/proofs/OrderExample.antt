-- A run of which all clauses of an account hold except the one of the order: two requests of a client are executed in reverse order.
use Rattle.std.proofs.Common.{◌≡◌, ◌∙◌, ℕ, zero, suc, ◌<◌, ◌==◌, ◌⊎◌, inl, inr, Bool, true, false, if◌then◌else◌, List, [], ◌∷◌, ◌++◌, map, take, Some, slice_get, refl, sym, ap, ap₂, subst, arith}
use Rattle.std.specs.Prelude.{codes}
use Rattle.std.specs.List.{list_all}
use Rattle.std.proofs.lemmas.Bool.{false≢true, true≢false}
use Rattle.std.proofs.lemmas.Option.{same_Some}
use Rattle.mc_text.specs.Lines.{first_line, line_end}
use Rattle.mc_text.specs.Words.{words}
use Rattle.mc_request.specs.Names.{name_of}
use Rattle.mc_request.specs.Requests.{next_request, requests_of, requests_within}
use Rattle.mc_request.specs.declared.parts.Atom.{Atom}
use Rattle.mc_request.specs.declared.parts.Parsed.{Parsed}
use Rattle.mc_reply.specs.Spelling.{spelling_of}
use Rattle.mc_reply.specs.declared.replies.Reply.{Reply as AReply}
use Rattle.mc_reply.specs.declared.replies.Reply.TheVariants.{Flushed}
use Rattle.mc_route.specs.Routes.{route_of_taken, to_place}
use Rattle.mc_route.specs.declared.losses.Losses.{Losses}
use Rattle.mc_route.specs.declared.losses.Losses.TheVariants.{Told}
use Rattle.mc_route.specs.declared.outcomes.Outcome.{Outcome}
use Rattle.mc_route.specs.declared.outcomes.Outcome.TheVariants as outcomes
use Rattle.mc_route.specs.declared.routes.Routed.{Routed}
use Rattle.mc_link.specs.declared.turns.Tag.{Tag}
use Rattle.mc_proxy.specs.Sending.{tag_of}
use Rattle.mc_account.specs.Lookups.{IsBefore, asked_at, command_at, outcome_at}
use Rattle.mc_account.specs.Orders.{AreInOrder, Order, TakenRequest, commands_to, is_complete}
use Rattle.mc_history.specs.declared.entries.Entry.{Entry}
use Rattle.mc_history.specs.Histories.{HasReply, IsLegal, tag_in}
use Rattle.mc_history.specs.Named.{tags_of}
use Rattle.mc_world.specs.Accounts.{NotAnswered, WasTaken}
use Rattle.mc_world.specs.Homes.{of_proxy, tags_through}
use Rattle.mc_world.specs.Logs.{IsRingAfter, Log, before, drops, in_life, loses, number_of, puts, serves, takes}
use Rattle.mc_pool_laws.specs.Outcomes.{LinkHeld, WasAnswered}
use Rattle.mc_pool_laws.specs.Without.{AccountsBut, Allows, Ordered}
use Rattle.mc_pool_laws.proofs.SentLemmas.{in_request}
use Rattle.mc_pool_laws.proofs.NeedLemmas.{a_cache, asked_by, first_only, first_there, flush, flush_asked, flushed, followed_one, follows_lost, is_lost, lives_of_first, loses_one, none_there, one_here, one_home, one_server, outcome_in_request, outs_of, own_by, puts_one, returns_one, serves_one, takes_one}

abbrev pub two_text : ℕ → List ℕ
two_text client = codes "flush_all\r\nflush_all\r\n"

pub two_read : requests_of (codes "flush_all\r\nflush_all\r\n") ≡ flush_asked ∷ flush_asked ∷ []
unfolding words line_end first_line name_of next_request requests_within requests_of
two_read = refl

abbrev first_asked : TakenRequest
first_asked = asked_by one_server flush_asked (outcomes.Reply Flushed ∷ [])

abbrev second_asked : TakenRequest
second_asked = record { session = 0; request = 1; what = flush_asked; ring = one_server; losses = Told; outcomes = outcomes.Reply Flushed ∷ [] }

abbrev two_asked : Order
two_asked = first_asked ∷ second_asked ∷ []

abbrev later : Entry
later = record { client = 0; request = 1; atom = 0; moment = 5; refused = false; reply = spelling_of flush Flushed }

abbrev turned : List Entry
turned = later ∷ flushed ∷ []

-- the link is lost and comes up before
abbrev two_log : Log
two_log = loses_one ∷ returns_one ∷ takes_one ∷ takes_one ∷ serves_one ∷ serves_one ∷ puts_one ∷ puts_one ∷ []

-- the elements of a list of two
pub two_here : {X : Type 0} (a b : X) (k : ℕ) (y : X) → slice_get (a ∷ b ∷ []) k ≡ Some y → ((k ≡ 0) × (y ≡ a)) ⊎ ((k ≡ 1) × (y ≡ b))
two_here a b zero y at = inl (refl, sym (same_Some a y at))
two_here a b (suc k) y at = let h = one_here b k y at in inr (ap suc h.0, h.1)

-- the requests of a client in it, and their number
abbrev mine : Bool → Order
mine v = if v then first_asked ∷ (if v then second_asked ∷ [] else []) else (if v then second_asked ∷ [] else [])

abbrev many : Bool → ℕ
many v = if v then suc (if v then suc 0 else 0) else (if v then suc 0 else 0)

mine_by : (v : Bool) (k : ℕ) (x : TakenRequest) → slice_get (mine v) k ≡ Some x → (v ≡ true) × (slice_get two_asked k ≡ Some x)
mine_by true k x at = (refl, at)
mine_by false k x at = absurd (none_there k x at)

asked_two : (client request : ℕ) (x : TakenRequest) → asked_at two_asked client request ≡ Some x
    → (0 ≡ client) × (((request ≡ 0) × (x ≡ first_asked)) ⊎ ((request ≡ 1) × (x ≡ second_asked)))
asked_two client request x at = grind (arith, own_by, two_here, mine_by)

text_by : (v : Bool) → (untaken : List Parsed) × (map (λ (e : TakenRequest). e.what) (mine v) ++ untaken ≡ requests_of (codes "flush_all\r\nflush_all\r\n"))
text_by true = ([], sym two_read)
text_by false = (requests_of (codes "flush_all\r\nflush_all\r\n"), refl)

complete_by : (v : Bool) → list_all is_complete (take (many v) (mine v)) ≡ true
complete_by true = refl
complete_by false = refl

numbered_by : (v : Bool) → AreInOrder (mine v)
numbered_by true = refl
numbered_by false = refl

after_by : (v : Bool) (request : ℕ) → request < many v → (v ≡ true) × ((request ≡ 0) ⊎ (request ≡ 1))
after_by true zero early = (refl, inl refl)
after_by true (suc zero) early = (refl, inr refl)
after_by true (suc (suc n)) early = absurd (omega (arith, early))
after_by false n early = absurd (omega (arith, early))

after_two : (client request : ℕ) → request < number_of (puts client) two_log → request < number_of (takes client) (before (puts client) request two_log)
after_two client request early =
    let own = after_by (0 == client) request early in
    subst (λ (c : ℕ). request < number_of (takes c) (before (puts c) request two_log)) (own_by client own.0) (elim own.1 [
      | inl first ↦ subst (λ (n : ℕ). n < number_of (takes 0) (before (puts 0) n two_log)) (sym first) (omega arith)
      | inr second ↦ subst (λ (n : ℕ). n < number_of (takes 0) (before (puts 0) n two_log)) (sym second) (omega arith)
    ])

-- the link was lost before either request was taken, and held then
held_two : (tag : Tag) → LinkHeld one_home 0 tag two_log
held_two tag lost =
    let first : lost.0 ≡ 0 = omega (arith, lost.1) in
    let taken : tag.request < number_of (takes tag.session) (before (loses 0 0) 0 two_log) =
    subst (λ (n : ℕ). tag.request < number_of (takes tag.session) (before (loses 0 0) n two_log)) first lost.2 in
    omega (arith, taken)

moments_by : (v : Bool) → map (λ (e : Entry). e.moment) (if v then turned else []) ≡ (if v then 5 ∷ [] else []) ++ ((if v then 5 ∷ [] else []) ++ [])
moments_by true = refl
moments_by false = refl

rings_by : (client request : ℕ) (x : TakenRequest) → asked_at two_asked client request ≡ Some x → IsRingAfter 0 one_server (before (takes client) request two_log) x.ring
rings_by client request x at = grind (arith, one_server, asked_two)

-- each command of it is a flush at the first server, and its reply says that it was flushed
outcomes_by : (x : TakenRequest) (request : ℕ) → ((request ≡ 0) × (x ≡ first_asked)) ⊎ ((request ≡ 1) × (x ≡ second_asked)) → x.outcomes ≡ outcomes.Reply Flushed ∷ []
outcomes_by x request (inl h) = ap (λ (y : TakenRequest). y.outcomes) h.1
outcomes_by x request (inr h) = ap (λ (y : TakenRequest). y.outcomes) h.1

two_outcome : (tag : Tag) (q : Outcome) → outcome_at two_asked tag ≡ Some q → q ≡ outcomes.Reply Flushed
two_outcome tag q became = grind (arith, slice_get, one_here, outcome_in_request, asked_two, outcomes_by)

abbrev pub reply_in : Outcome → AReply (List ℕ)
reply_in (outcomes.Reply reply) = reply
reply_in outcomes.Lost = Flushed
reply_in outcomes.Awaited = Flushed

pub tag_is : (tag : Tag) (request : ℕ) → 0 ≡ tag.session → tag.request ≡ request → tag.atom ≡ 0 → tag_of 0 request 0 ≡ tag
tag_is tag request s r a = ap (λ (session : ℕ). tag_of session request 0) s ∙ ap₂ (λ (n m : ℕ). tag_of tag.session n m) (sym r) (sym a)

routed_by : (x : TakenRequest) (request : ℕ) (atom : ℕ) (command : Routed) → ((request ≡ 0) × (x ≡ first_asked)) ⊎ ((request ≡ 1) × (x ≡ second_asked))
    → slice_get (route_of_taken x.ring x.what) atom ≡ Some command → (atom ≡ 0) × (command ≡ to_place 0 flush)
routed_by x request atom command (inl h) at =
    one_here (to_place 0 flush) atom command (ap (λ (y : TakenRequest). slice_get (route_of_taken y.ring y.what) atom) (sym h.1) ∙ at)
routed_by x request atom command (inr h) at =
    one_here (to_place 0 flush) atom command (ap (λ (y : TakenRequest). slice_get (route_of_taken y.ring y.what) atom) (sym h.1) ∙ at)

has_entry : (tag : Tag) (place request k : ℕ) (x : Entry) (atom : Atom (List ℕ)) (reply : AReply (List ℕ)) → slice_get turned k ≡ Some x → tag_of 0 request 0 ≡ tag
    → place ≡ 0 → atom ≡ flush → reply ≡ Flushed → tag_in x ≡ tag_of 0 request 0 → x.reply ≡ spelling_of flush Flushed
    → HasReply (first_only turned place) tag (spelling_of atom reply)
has_entry tag place request k x atom reply at is there asked told whose spelled = (
  k,
  x,
  ap (λ (p : ℕ). slice_get (first_only turned p) k) there ∙ at,
  whose ∙ is,
  spelled ∙ ap₂ (λ (a : Atom (List ℕ)) (r : AReply (List ℕ)). spelling_of a r) (sym asked) (sym told),
)

replied_by : (tag : Tag) (place : ℕ) (atom : Atom (List ℕ)) (reply : AReply (List ℕ)) → command_at two_asked tag ≡ Some (to_place place atom)
    → outcome_at two_asked tag ≡ Some (outcomes.Reply reply) → HasReply (first_only turned place) tag (spelling_of atom reply)
replied_by tag place atom reply at became =
    let found = in_request (asked_at two_asked tag.session tag.request) tag.atom (to_place place atom) at in
    let o = asked_two tag.session tag.request found.0 found.1 in
    let routed = routed_by found.0 tag.request tag.atom (to_place place atom) o.1 found.2 in
    let there : place ≡ 0 = ap (λ (c : Routed). c.server) routed.1 in
    let asked : atom ≡ flush = ap (λ (c : Routed). c.atom) routed.1 in
    let told : reply ≡ Flushed = ap reply_in (two_outcome tag (outcomes.Reply reply) became) in
    elim o.1 [
      | inl h ↦ has_entry tag place 0 1 flushed atom reply refl (tag_is tag 0 o.0 h.0 routed.0) there asked told refl refl
      | inr h ↦ has_entry tag place 1 0 later atom reply refl (tag_is tag 1 o.0 h.0 routed.0) there asked told refl refl
    ]

once_by : (j k : ℕ) (d e : Entry) → slice_get turned j ≡ Some d → slice_get turned k ≡ Some e → tag_in d ≡ tag_in e → j ≡ k
once_by j k d e at also same = grind (arith, flushed, two_here)

abbrev IsPlacedAt : ℕ → Entry → Type 0
IsPlacedAt k x = WasTaken (tag_in x) (before (serves 0) k two_log) × NotAnswered (tag_in x) (before (serves 0) k two_log)

placed_by : (k : ℕ) (x : Entry) → slice_get turned k ≡ Some x → IsPlacedAt k x
placed_by k x at = grind (arith, flushed, two_here)

turned_legal : IsLegal two_asked 0 a_cache turned
turned_legal = (
  flush,
  refl,
  record { legal = λ h. absurd (false≢true h); refused = refl; reply = refl },
  (flush, refl, record { legal = λ h. absurd (false≢true h); refused = refl; reply = refl }, tt),
)

turned_lives : (place life : ℕ) → IsLegal two_asked place a_cache (in_life place life two_log (first_only turned place))
turned_lives = lives_of_first two_asked a_cache turned two_log (λ place. refl) turned_legal

two_follows : (proxy place : ℕ) → number_of (drops proxy place) two_log ≡ 0
    → (untaken : List Tag) × (tags_through one_home proxy (first_only turned place) ++ untaken ≡ tags_of (commands_to place (of_proxy one_home proxy two_asked)))
two_follows = followed_one two_asked (first_only turned) two_log (λ place none. follows_lost (0 == place) turned (tags_of (commands_to place two_asked)) none)

two_but : (losses : Losses) → AccountsBut Ordered one_home losses one_server a_cache two_asked two_text (outs_of losses two_asked two_log) (first_only turned) two_log
two_but losses =
    grind (arith, true≢false, a_cache, first_there, is_lost, own_by, text_by, complete_by, numbered_by, after_two, moments_by, rings_by, two_outcome, replied_by, once_by, placed_by, turned_lives, two_follows)

pub without_ordered : Allows Ordered (λ home ring opening texts outs histories log. (d : Entry) × (e : Entry) × (slice_get (histories 0) 0 ≡ Some d)
    × (slice_get (histories 0) 1 ≡ Some e) × (d.client ≡ e.client) × WasAnswered (tag_in d) log × WasAnswered (tag_in e) log
    × LinkHeld home 0 (tag_in d) log × LinkHeld home 0 (tag_in e) log × (IsBefore (tag_in d) (tag_in e) → ⊥))
without_ordered losses = (
  one_home,
  one_server,
  a_cache,
  two_text,
  outs_of losses two_asked two_log,
  first_only turned,
  two_log,
  (two_asked, two_but losses),
  (
    later,
    flushed,
    refl,
    refl,
    refl,
    omega arith,
    omega arith,
    held_two (tag_in later),
    held_two (tag_in flushed),
    λ earlier. elim earlier [
      | inl less ↦ omega (arith, less)
      | inr same ↦ (let no : 1 ≡ 0 = same.0 in omega (arith, no))
    ],
  ),
)
