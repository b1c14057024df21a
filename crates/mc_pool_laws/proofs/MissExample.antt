-- A run in which a client stores an item, misses it, and then finds it: the command of the first get was lost.
use Rattle.std.proofs.Common.{◌≡◌, ◌∙◌, ℕ, zero, suc, ◌<◌, ◌==◌, ◌⊎◌, inl, inr, Bool, true, false, if◌then◌else◌, List, [], ◌∷◌, ◌++◌, map, take, None, Some, slice_get, refl, sym, ap, ap₂, subst, pos, arith}
use Rattle.std.specs.Prelude.{codes, nat_le}
use Rattle.std.specs.Fmt.{digits}
use Rattle.std.specs.List.{list_all}
use Rattle.std.specs.Option.{option_map_or, option_or}
use Rattle.std.proofs.lemmas.Bool.{false≢true, true≢false}
use Rattle.std.proofs.lemmas.List.Elements.{All-cons, All-nil}
use Rattle.std.proofs.lemmas.Option.{same_Some}
use Rattle.mc_text.specs.Lines.{first_line, line_end}
use Rattle.mc_text.specs.Words.{words}
use Rattle.mc_request.specs.Names.{name_of}
use Rattle.mc_request.specs.Requests.{next_request, requests_of, requests_within}
use Rattle.mc_request.specs.declared.parts.Atom.{Atom}
use Rattle.mc_request.specs.declared.parts.Atom.TheVariants as atoms
use Rattle.mc_request.specs.declared.parts.Request.TheVariants as requests
use Rattle.mc_request.specs.declared.parts.StoreMode.TheVariants.{Set}
use Rattle.mc_request.specs.declared.parts.Parsed.{Parsed}
use Rattle.mc_request.specs.declared.parts.Parsed.TheVariants.{Whole}
use Rattle.mc_request.specs.declared.parts.Update.TheVariants.{Store}
use Rattle.mc_reply.specs.Spelling.{spelling_of}
use Rattle.mc_reply.specs.declared.replies.Reply.{Reply as AReply}
use Rattle.mc_reply.specs.declared.replies.Reply.TheVariants.{Hit, Miss, Stored}
use Rattle.mc_ring.specs.Owners.{holder_of, least}
use Rattle.mc_ring.specs.Points.{hash_of}
use Rattle.mc_ring.specs.Rings.{RingState}
use Rattle.mc_ring.specs.declared.points.Point.{Point}
use Rattle.mc_route.specs.Routes.{owner_in, route_of_taken, to_owner, to_place}
use Rattle.mc_route.specs.declared.losses.Losses.TheVariants.{Missed}
use Rattle.mc_route.specs.declared.outcomes.Outcome.{Outcome}
use Rattle.mc_route.specs.declared.outcomes.Outcome.TheVariants as outcomes
use Rattle.mc_route.specs.declared.routes.Routed.{Routed}
use Rattle.mc_link.specs.declared.turns.Tag.{Tag}
use Rattle.mc_proxy.specs.Sending.{tag_of}
use Rattle.mc_cache.specs.CacheState.{opening_cache}
use Rattle.mc_account.specs.Lookups.{IsBefore, asked_at, command_at, outcome_at}
use Rattle.mc_account.specs.Orders.{AreInOrder, IsSized, Order, TakenRequest, is_complete}
use Rattle.mc_world.specs.declared.events.Event.TheVariants.{ServerTurn}
use Rattle.mc_world.specs.Accounts.{Account, Accounts, NotAnswered, WasNeverSentOrLost, WasTaken}
use Rattle.mc_world.specs.Logs.{IsRingAfter, Log, before, number_of, puts, serves, takes}
use Rattle.mc_world.specs.declared.logs.Logged.TheVariants.{Happened}
use Rattle.mc_history.specs.declared.entries.Entry.{Entry}
use Rattle.mc_history.specs.Histories.{HasNone, HasReply, IsLegal, tag_in}
use Rattle.mc_pool_laws.proofs.NeedLemmas.{first_only, first_there, followed_one, follows_lost, lives_of_first, loses_one, none_there, one_here, one_home, one_server, outcome_in_request, outs_of, own_by, puts_one, returns_one, serves_one, takes_one}
use Rattle.mc_pool_laws.proofs.SentLemmas.{in_request}

-- its key, and the commands on it
abbrev pub key : List ℕ
key = codes "k"

abbrev pub set_key : Atom (List ℕ)
set_key = atoms.Update (Store Set None (codes "k") 0 (pos 0) (codes "v"))

abbrev pub get_key : Atom (List ℕ)
get_key = atoms.Get (codes "k") None false

abbrev pub set_asked : Parsed
set_asked = Whole (requests.Update (Store Set None (codes "k") 0 (pos 0) (codes "v")) false)

abbrev pub get_asked : Parsed
get_asked = Whole (requests.Get (codes "k" ∷ []) None false)

abbrev a_hit : AReply (List ℕ)
a_hit = Hit 0 None (codes "v")

abbrev a_text : List ℕ
a_text = codes "set k 0 0 1\r\nv\r\nget k\r\nget k\r\n"

-- the only server owns each key
one_owner : (hash : ℕ) → option_map_or (λ (p : Point). p.place) (holder_of one_server.points hash) 0 ≡ 0
unfolding holder_of
one_owner hash =
    elim (nat_le hash 0) as (λ v. option_map_or (λ (p : Point). p.place)
    (option_or (least (if v then record { point = 0; place = 0 } ∷ [] else [])) (least (record { point = 0; place = 0 } ∷ []))) 0 ≡ 0) [
      | true ↦ refl
      | false ↦ refl
    ]

pub owned : owner_in one_server key ≡ 0
owned = one_owner (hash_of key)

-- the text is read
text_read : requests_of (codes "set k 0 0 1\r\nv\r\nget k\r\nget k\r\n") ≡ set_asked ∷ get_asked ∷ get_asked ∷ []
unfolding words line_end first_line name_of next_request requests_within requests_of
text_read = refl

pub nothing_read : requests_of [] ≡ []
unfolding requests_of requests_within
nothing_read = refl

abbrev text_of : ℕ → List ℕ
text_of client = if 0 == client then a_text else []

-- the requests that were taken: the second command was lost
abbrev asked_as : ℕ → Parsed → Outcome → TakenRequest
asked_as request what outcome = record { session = 0; request = request; what = what; ring = one_server; losses = Missed; outcomes = outcome ∷ [] }

abbrev first : TakenRequest
first = asked_as 0 set_asked (outcomes.Reply Stored)

abbrev second : TakenRequest
second = asked_as 1 get_asked outcomes.Lost

abbrev third : TakenRequest
third = asked_as 2 get_asked (outcomes.Reply a_hit)

abbrev three : Order
three = first ∷ second ∷ third ∷ []

-- the entries of the server
abbrev pub stored : Entry
stored = record { client = 0; request = 0; atom = 0; moment = 5; refused = false; reply = spelling_of set_key Stored }

abbrev found : Entry
found = record { client = 0; request = 2; atom = 0; moment = 5; refused = false; reply = spelling_of get_key a_hit }

abbrev taken_two : List Entry
taken_two = stored ∷ found ∷ []

abbrev three_log : Log
three_log =
    takes_one ∷ serves_one ∷ puts_one ∷ loses_one ∷ takes_one ∷ puts_one ∷ returns_one ∷ takes_one ∷ Happened (ServerTurn 0 0 2 5) ∷ puts_one ∷ []

-- the elements of a list of two, and of three
pub in_two : {X : Type 0} (a b : X) (k : ℕ) (y : X) → slice_get (a ∷ b ∷ []) k ≡ Some y → ((k ≡ 0) × (y ≡ a)) ⊎ ((k ≡ 1) × (y ≡ b))
in_two a b zero y at = inl (refl, sym (same_Some a y at))
in_two a b (suc k) y at = let h = one_here b k y at in inr (ap suc h.0, h.1)

pub in_three : {X : Type 0} (a b c : X) (k : ℕ) (y : X) → slice_get (a ∷ b ∷ c ∷ []) k ≡ Some y
    → ((k ≡ 0) × (y ≡ a)) ⊎ (((k ≡ 1) × (y ≡ b)) ⊎ ((k ≡ 2) × (y ≡ c)))
in_three a b c zero y at = inl (refl, sym (same_Some a y at))
in_three a b c (suc k) y at = inr (elim (in_two b c k y at) [
  | inl h ↦ inl (ap suc h.0, h.1)
  | inr h ↦ inr (ap suc h.0, h.1)
])

-- the requests of a client in it
abbrev mine : Bool → Order
mine v =
    if v then first ∷ (if v then second ∷ (if v then third ∷ [] else []) else (if v then third ∷ [] else []))
    else (if v then second ∷ (if v then third ∷ [] else []) else (if v then third ∷ [] else []))

abbrev many : Bool → ℕ
many v =
    if v then suc (if v then suc (if v then suc 0 else 0) else (if v then suc 0 else 0))
    else (if v then suc (if v then suc 0 else 0) else (if v then suc 0 else 0))

mine_by : (v : Bool) (k : ℕ) (x : TakenRequest) → slice_get (mine v) k ≡ Some x → (v ≡ true) × (slice_get three k ≡ Some x)
mine_by true k x at = (refl, at)
mine_by false k x at = absurd (none_there k x at)

-- which of the three it is
abbrev IsOne : ℕ → TakenRequest → Type 0
IsOne request x = ((request ≡ 0) × (x ≡ first)) ⊎ (((request ≡ 1) × (x ≡ second)) ⊎ ((request ≡ 2) × (x ≡ third)))

asked_three : (client request : ℕ) (x : TakenRequest) → asked_at three client request ≡ Some x → (0 ≡ client) × IsOne request x
asked_three client request x at =
    let own = mine_by (0 == client) request x at in
    (own_by client own.0, in_three first second third request x own.1)

asked_text : (v : Bool) → (untaken : List Parsed) × (map (λ (e : TakenRequest). e.what) (mine v) ++ untaken ≡ requests_of (if v then a_text else []))
asked_text true = ([], sym text_read)
asked_text false = ([], sym nothing_read)

complete_by : (v : Bool) → list_all is_complete (take (many v) (mine v)) ≡ true
complete_by true = refl
complete_by false = refl

numbered_by : (v : Bool) → AreInOrder (mine v)
numbered_by true = refl
numbered_by false = refl

after_by : (v : Bool) (request : ℕ) → request < many v → (v ≡ true) × ((request ≡ 0) ⊎ ((request ≡ 1) ⊎ (request ≡ 2)))
after_by true zero early = (refl, inl refl)
after_by true (suc zero) early = (refl, inr (inl refl))
after_by true (suc (suc zero)) early = (refl, inr (inr refl))
after_by true (suc (suc (suc n))) early = absurd (omega (arith, early))
after_by false n early = absurd (omega (arith, early))

abbrev WasEarly : ℕ → ℕ → Type 0
WasEarly client request = request < number_of (takes client) (before (puts client) request three_log)

after_three : (client request : ℕ) → request < number_of (puts client) three_log → WasEarly client request
after_three client request early =
    let own = after_by (0 == client) request early in
    subst (λ (c : ℕ). WasEarly c request) (own_by client own.0) (elim own.1 [
      | inl is ↦ subst (λ (n : ℕ). WasEarly 0 n) (sym is) (omega arith)
      | inr later ↦ (elim later [
        | inl is ↦ subst (λ (n : ℕ). WasEarly 0 n) (sym is) (omega arith)
        | inr is ↦ subst (λ (n : ℕ). WasEarly 0 n) (sym is) (omega arith)
      ])
    ])

-- each is routed by the ring, which stays
abbrev IsRouted : ℕ → ℕ → TakenRequest → Type 0
IsRouted client request x = IsRingAfter 0 one_server (before (takes client) request three_log) x.ring

rings_by : (client request : ℕ) (x : TakenRequest) → asked_at three client request ≡ Some x → IsRouted client request x
rings_by client request x at =
    let o = asked_three client request x at in
    subst (λ (c : ℕ). IsRouted c request x) o.0 (elim o.1 [
      | inl h ↦ subst (λ (n : ℕ). IsRouted 0 n x) (sym h.0) (subst (λ (y : TakenRequest). IsRouted 0 0 y) (sym h.1) refl)
      | inr later ↦ (elim later [
        | inl h ↦ subst (λ (n : ℕ). IsRouted 0 n x) (sym h.0) (subst (λ (y : TakenRequest). IsRouted 0 1 y) (sym h.1) refl)
        | inr h ↦ subst (λ (n : ℕ). IsRouted 0 n x) (sym h.0) (subst (λ (y : TakenRequest). IsRouted 0 2 y) (sym h.1) refl)
      ])
    ])

-- the one command of each, and its outcome
pub commands_of : (x : TakenRequest) (atom : Atom (List ℕ)) (k : ℕ) (command : Routed) → route_of_taken x.ring x.what ≡ to_owner one_server key atom ∷ []
    → slice_get (route_of_taken x.ring x.what) k ≡ Some command → (k ≡ 0) × (command ≡ to_place 0 atom)
commands_of x atom k command is at =
    let here = one_here (to_owner one_server key atom) k command (ap (λ (cs : List Routed). slice_get cs k) (sym is) ∙ at) in
    (here.0, here.1 ∙ ap (λ (p : ℕ). to_place p atom) owned)

abbrev is_lost : Outcome → Bool
is_lost outcomes.Lost = true
is_lost other = false

abbrev reply_in : Outcome → AReply (List ℕ)
reply_in (outcomes.Reply reply) = reply
reply_in other = Miss

pub outcome_of : (x y : TakenRequest) (outcome q : Outcome) (k : ℕ) → x ≡ y → y.outcomes ≡ outcome ∷ [] → slice_get x.outcomes k ≡ Some q → q ≡ outcome
outcome_of x y outcome q k same is at =
    (one_here outcome k q (ap (λ (os : List Outcome). slice_get os k) (sym (ap (λ (z : TakenRequest). z.outcomes) same ∙ is)) ∙ at)).1

-- the request of a tag, its command and its outcome
record Known (tag : Tag) (place : ℕ) (atom : Atom (List ℕ)) (outcome : Outcome) : Type 0 where
  pub own : 0 ≡ tag.session
  pub asked : TakenRequest
  pub which : IsOne tag.request asked
  pub command : slice_get (route_of_taken asked.ring asked.what) tag.atom ≡ Some (to_place place atom)
  pub became : slice_get asked.outcomes tag.atom ≡ Some outcome

known : (tag : Tag) (place : ℕ) (atom : Atom (List ℕ)) (outcome : Outcome) → command_at three tag ≡ Some (to_place place atom)
    → outcome_at three tag ≡ Some outcome → Known tag place atom outcome
known tag place atom outcome at became =
    let asked = in_request (asked_at three tag.session tag.request) tag.atom (to_place place atom) at in
    let o = asked_three tag.session tag.request asked.0 asked.1 in
    let told = outcome_in_request (asked_at three tag.session tag.request) tag.atom outcome became in
    let same : told.0 ≡ asked.0 = same_Some told.0 asked.0 (sym told.1 ∙ asked.1) in
    record {
      own = o.0;
      asked = asked.0;
      which = o.1;
      command = asked.2;
      became = ap (λ (x : TakenRequest). slice_get x.outcomes tag.atom) (sym same) ∙ told.2;
    }

tag_is : (tag : Tag) (request : ℕ) → 0 ≡ tag.session → tag.request ≡ request → tag.atom ≡ 0 → tag_of 0 request 0 ≡ tag
tag_is tag request s r a = ap (λ (session : ℕ). tag_of session request 0) s ∙ ap₂ (λ (n m : ℕ). tag_of tag.session n m) (sym r) (sym a)

-- a reply is in the history
pub entry_as : (es : List Entry) (tag : Tag) (place request k : ℕ) (x : Entry) (own : Atom (List ℕ)) (said : AReply (List ℕ)) (atom : Atom (List ℕ))
    → (reply : AReply (List ℕ)) → slice_get es k ≡ Some x → 0 ≡ tag.session → tag.request ≡ request → tag_in x ≡ tag_of 0 request 0
    → x.reply ≡ spelling_of own said → (tag.atom ≡ 0) × (to_place place atom ≡ to_place 0 own) → outcomes.Reply reply ≡ outcomes.Reply said
    → HasReply (first_only es place) tag (spelling_of atom reply)
entry_as es tag place request k x own said atom reply at session number whose spelled command became =
    let there : place ≡ 0 = ap (λ (c : Routed). c.server) command.1 in
    let asked : atom ≡ own = ap (λ (c : Routed). c.atom) command.1 in
    let told : reply ≡ said = ap reply_in became in (
      k,
      x,
      ap (λ (p : ℕ). slice_get (first_only es p) k) there ∙ at,
      whose ∙ tag_is tag request session number command.0,
      spelled ∙ ap₂ (λ (a : Atom (List ℕ)) (r : AReply (List ℕ)). spelling_of a r) (sym asked) (sym told),
    )

replied_by : (tag : Tag) (place : ℕ) (atom : Atom (List ℕ)) (reply : AReply (List ℕ)) → command_at three tag ≡ Some (to_place place atom)
    → outcome_at three tag ≡ Some (outcomes.Reply reply) → HasReply (first_only taken_two place) tag (spelling_of atom reply)
replied_by tag place atom reply at became =
    let k = known tag place atom (outcomes.Reply reply) at became in
    elim k.which [
      | inl h ↦ entry_as taken_two tag place 0 0 stored set_key Stored atom reply refl k.own h.0 refl refl
          (commands_of k.asked set_key tag.atom (to_place place atom) (ap (λ (x : TakenRequest). route_of_taken x.ring x.what) h.1) k.command)
          (outcome_of k.asked first (outcomes.Reply Stored) (outcomes.Reply reply) tag.atom h.1 refl k.became)
      | inr later ↦ (elim later [
        | inl h ↦ absurd (false≢true (ap is_lost (outcome_of k.asked second outcomes.Lost (outcomes.Reply reply) tag.atom h.1 refl k.became)))
        | inr h ↦ entry_as taken_two tag place 2 1 found get_key a_hit atom reply refl k.own h.0 refl refl
            (commands_of k.asked get_key tag.atom (to_place place atom) (ap (λ (x : TakenRequest). route_of_taken x.ring x.what) h.1) k.command)
            (outcome_of k.asked third (outcomes.Reply a_hit) (outcomes.Reply reply) tag.atom h.1 refl k.became)
      ])
    ]

-- the second command was never sent: its link was down
never_sent : (tag : Tag) → tag.request ≡ 1 → HasNone taken_two tag
never_sent tag is k e at same =
    elim (in_two stored found k e at) [
      | inl h ↦ (let number : 0 ≡ 1 = sym (ap (λ (x : Entry). x.request) h.1) ∙ ap (λ (t : Tag). t.request) same ∙ is in omega (arith, number))
      | inr h ↦ (let number : 2 ≡ 1 = sym (ap (λ (x : Entry). x.request) h.1) ∙ ap (λ (t : Tag). t.request) same ∙ is in omega (arith, number))
    ]

abbrev IsNotSent : ℕ → Tag → Type 0
IsNotSent place tag = WasNeverSentOrLost one_home place tag (first_only taken_two place) three_log

lost_by : (tag : Tag) (place : ℕ) (atom : Atom (List ℕ)) → command_at three tag ≡ Some (to_place place atom) → outcome_at three tag ≡ Some outcomes.Lost
    → IsNotSent place tag
lost_by tag place atom at became =
    let k = known tag place atom outcomes.Lost at became in
    elim k.which [
      | inl h ↦ absurd (true≢false (ap is_lost (outcome_of k.asked first (outcomes.Reply Stored) outcomes.Lost tag.atom h.1 refl k.became)))
      | inr later ↦ (elim later [
        | inl h ↦
            let command = commands_of k.asked get_key tag.atom (to_place place atom) (ap (λ (x : TakenRequest). route_of_taken x.ring x.what) h.1) k.command in
            let there : place ≡ 0 = ap (λ (c : Routed). c.server) command.1 in
            subst (λ (p : ℕ). IsNotSent p tag) (sym there)
            (subst (λ (t : Tag). IsNotSent 0 t) (tag_is tag 1 k.own h.0 command.0) (inl (refl, never_sent (tag_of 0 1 0) refl)))
        | inr h ↦ absurd (true≢false (ap is_lost (outcome_of k.asked third (outcomes.Reply a_hit) outcomes.Lost tag.atom h.1 refl k.became)))
      ])
    ]

-- its history
two_legal : IsLegal three 0 (opening_cache 1000 10 0) taken_two
two_legal = (
  set_key,
  ap (λ (p : ℕ). Some (to_place p set_key)) owned,
  record { legal = λ h. absurd (false≢true h); refused = refl; reply = refl },
  (
    get_key,
    ap (λ (p : ℕ). Some (to_place p get_key)) owned,
    record { legal = λ h. absurd (false≢true h); refused = refl; reply = refl },
    tt,
  ),
)

-- its entries are of two commands, in their order
abbrev IsAt : ℕ → Entry → Type 0
IsAt k e = ((k ≡ 0) × (e ≡ stored)) ⊎ ((k ≡ 1) × (e ≡ found))

once_by : (j k : ℕ) (d e : Entry) → IsAt j d → IsAt k e → tag_in d ≡ tag_in e → j ≡ k
once_by j k d e (inl h) (inl g) same = h.0 ∙ sym g.0
once_by j k d e (inr h) (inr g) same = h.0 ∙ sym g.0
once_by j k d e (inl h) (inr g) same =
    let number : 0 ≡ 2 = sym (ap (λ (x : Entry). x.request) h.1) ∙ ap (λ (t : Tag). t.request) same ∙ ap (λ (x : Entry). x.request) g.1 in
    absurd (omega (arith, number))
once_by j k d e (inr h) (inl g) same =
    let number : 2 ≡ 0 = sym (ap (λ (x : Entry). x.request) h.1) ∙ ap (λ (t : Tag). t.request) same ∙ ap (λ (x : Entry). x.request) g.1 in
    absurd (omega (arith, number))

before_by : (j k : ℕ) (d e : Entry) → IsAt j d → IsAt k e → j < k → IsBefore (tag_in d) (tag_in e)
before_by j k d e (inl h) (inr g) less =
    let mine : d.request ≡ 0 = ap (λ (x : Entry). x.request) h.1 in
    let other : e.request ≡ 2 = ap (λ (x : Entry). x.request) g.1 in
    inl (omega (arith, mine, other))
before_by j k d e (inl h) (inl g) less = absurd (omega (arith, less, h.0, g.0))
before_by j k d e (inr h) (inl g) less = absurd (omega (arith, less, h.0, g.0))
before_by j k d e (inr h) (inr g) less = absurd (omega (arith, less, h.0, g.0))

abbrev IsPlacedAt : ℕ → Entry → Type 0
IsPlacedAt k e = WasTaken (tag_in e) (before (serves 0) k three_log) × NotAnswered (tag_in e) (before (serves 0) k three_log)

placed_by : (k : ℕ) (e : Entry) → IsAt k e → IsPlacedAt k e
placed_by k e (inl h) = subst (λ (n : ℕ). IsPlacedAt n e) (sym h.0) (subst (λ (x : Entry). IsPlacedAt 0 x) (sym h.1) (omega arith, omega arith))
placed_by k e (inr h) = subst (λ (n : ℕ). IsPlacedAt n e) (sym h.0) (subst (λ (x : Entry). IsPlacedAt 1 x) (sym h.1) (omega arith, omega arith))

moments_by : (v : Bool) → map (λ (e : Entry). e.moment) (if v then taken_two else []) ≡ (if v then 5 ∷ [] else []) ++ ((if v then 5 ∷ [] else []) ++ [])
moments_by true = refl
moments_by false = refl

three_accounts : Accounts one_home Missed one_server (opening_cache 1000 10 0) three text_of (outs_of Missed three three_log) (first_only taken_two) three_log
three_accounts = record {
  asked = λ client. asked_text (0 == client);
  turns = refl;
  numbered = λ client. numbered_by (0 == client);
  rings = rings_by;
  sized = All-cons IsSized first (second ∷ third ∷ []) refl (All-cons IsSized second (third ∷ []) refl (All-cons IsSized third [] refl (All-nil IsSized)));
  legal = lives_of_first three (opening_cache 1000 10 0) taken_two three_log (λ place. refl) two_legal;
  once = λ r s j k d e at also same.
      let here = first_there taken_two r j d at in
      let there = first_there taken_two s k e also in
      (sym here.0 ∙ there.0, once_by j k d e (in_two stored found j d here.1) (in_two stored found k e there.1) same);
  replied = replied_by;
  lost = lost_by;
  ordered = λ place j k d e r q at also less same first_reply second_reply.
      before_by j k d e (in_two stored found j d (first_there taken_two place j d at).1) (in_two stored found k e (first_there taken_two place k e also).1) less;
  followed = followed_one three (first_only taken_two) three_log (λ place none. follows_lost (0 == place) taken_two _ none);
  answered = λ client. complete_by (0 == client);
  put = λ client. refl;
  after = after_three;
  moments = λ place. moments_by (0 == place);
  placed = λ place k e at.
      let here = first_there taken_two place k e at in
      let there = placed_by k e (in_two stored found k e here.1) in (
        subst (λ (p : ℕ). WasTaken (tag_in e) (before (serves p) k three_log)) here.0 there.0,
        λ reply became. subst (λ (p : ℕ). NotAnswered (tag_in e) (before (serves p) k three_log)) here.0 there.1,
      );
}

-- the answers to the client
put_out : outs_of Missed three three_log 0 ≡ codes "STORED\r\nEND\r\nVALUE k 0 1\r\nv\r\nEND\r\n"
unfolding digits
put_out = refl

pub missed_and_found : (ring : RingState) × (outs : ℕ → List ℕ) × (histories : ℕ → List Entry) × (log : Log)
    × Account one_home Missed ring (opening_cache 1000 10 0) (λ client. if 0 == client then codes "set k 0 0 1\r\nv\r\nget k\r\nget k\r\n" else []) outs histories log
    × (outs 0 ≡ codes "STORED\r\nEND\r\nVALUE k 0 1\r\nv\r\nEND\r\n")
missed_and_found = (one_server, outs_of Missed three three_log, first_only taken_two, three_log, (three, three_accounts), put_out)
