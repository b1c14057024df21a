-- An account of key `k`, two proxies and two servers. Client 0 has the first proxy, and sets `a`. A server joins there alone, and owns the key from then
-- on. The client sets `b` at that server. Client 1 has the second proxy, gets the key at the old server, and is shown `a`.
use Rattle.std.proofs.Common.{◌≡◌, ◌∙◌, ℕ, zero, suc, ◌<◌, ◌==◌, ◌&&◌, not, inl, inr, Bool, true, false, if◌then◌else◌, List, [], ◌∷◌, ◌++◌, map, take, None, Some, slice_get, refl, sym, ap, ap₂, subst, arith}
use Rattle.std.specs.Prelude.{codes, pos}
use Rattle.std.specs.Fmt.{digits}
use Rattle.std.specs.List.{list_all}
use Rattle.std.proofs.lemmas.Bool.{false≢true, true≢false}
use Rattle.std.proofs.lemmas.List.Elements.{All-cons, All-nil}
use Rattle.std.proofs.lemmas.Option.{same_Some}
use Rattle.mc_text.specs.Lines.{first_line, line_end}
use Rattle.mc_text.specs.Words.{words}
use Rattle.mc_request.specs.Names.{name_of}
use Rattle.mc_request.specs.Requests.{next_request, requests_of, requests_within}
use Rattle.mc_request.specs.declared.parts.Atom.{Atom}
use Rattle.mc_request.specs.declared.parts.StoreMode.TheVariants.{Set}
use Rattle.mc_request.specs.declared.parts.Parsed.{Parsed}
use Rattle.mc_reply.specs.Spelling.{spelling_of}
use Rattle.mc_reply.specs.declared.replies.Reply.{Reply as AReply}
use Rattle.mc_reply.specs.declared.replies.Reply.TheVariants.{Hit, Stored}
use Rattle.mc_ring.specs.Rings.{IsRing, RingState}
use Rattle.mc_route.specs.Routes.{route_of_taken, to_place}
use Rattle.mc_route.specs.declared.losses.Losses.TheVariants.{Told}
use Rattle.mc_route.specs.declared.outcomes.Outcome.{Outcome}
use Rattle.mc_route.specs.declared.outcomes.Outcome.TheVariants as outcomes
use Rattle.mc_route.specs.declared.routes.Routed.{Routed}
use Rattle.mc_link.specs.declared.turns.Tag.{Tag}
use Rattle.mc_proxy.specs.Sending.{tag_of}
use Rattle.mc_cache.specs.CacheState.{opening_cache}
use Rattle.mc_account.specs.Lookups.{asked_at, command_at, outcome_at}
use Rattle.mc_account.specs.Orders.{AreInOrder, IsSized, Order, TakenRequest, commands_to, entries_of, is_complete, taken_of}
use Rattle.mc_world.specs.declared.events.Event.TheVariants.{Emit, LinkBack, LinkLost, ProxyTurn, ServerTurn}
use Rattle.mc_world.specs.Accounts.{Accounts, TakenBeforeAnswered}
use Rattle.mc_world.specs.Homes.{Homes, of_proxy, tags_through}
use Rattle.mc_world.specs.Logs.{IsRingAfter, Log, before, drops, moments_of, number_of, puts, takes}
use Rattle.mc_world.specs.declared.logs.Logged.{Logged}
use Rattle.mc_world.specs.declared.logs.Logged.TheVariants.{Happened, Joined}
use Rattle.mc_world.proofs.Log.LifeLemmas.{legal_unrestarted}
use Rattle.mc_history.specs.declared.entries.Entry.{Entry}
use Rattle.mc_history.specs.Histories.{HasReply, IsLegal, tag_in}
use Rattle.mc_history.specs.Named.{tags_of}
use Rattle.mc_pool_laws.proofs.MissExample.{get_asked, get_key}
use Rattle.mc_pool_laws.proofs.NeedLemmas.{a_cache, is_lost, loses_one, none_complete, none_there, one_here, one_server, outcome_in_request, outs_of, puts_one, returns_one, takes_one}
use Rattle.mc_pool_laws.proofs.OrderExample.{reply_in}
use Rattle.mc_pool_laws.proofs.SentLemmas.{in_request}
use Rattle.mc_linearizable.specs.Linearizable.{Executed, IsEarlier, IsLinearizablePool}
use Rattle.mc_linearizable.specs.Clients.{IsGet, StoresWhole, WasAnsweredBy, WasDone}
use Rattle.mc_linearizable.proofs.LinearLemmas.{pool_linearizable}
use Rattle.mc_linearizable.proofs.JoinExample.{at_second, bounds, next, to_second}
use Rattle.mc_linearizable.proofs.JoinRing.{joined_ring}
use Rattle.mc_linearizable.proofs.SmallAccounts.{asked_of, at_first, by_place, each_of, else_there, entry_of, none_else, one_ring, store_asked, store_of, to_first, two_histories}

-- each client has a proxy of its own
abbrev own_home : Homes
own_home client = client

abbrev two_texts : ℕ → List ℕ
two_texts client = if 0 == client then codes "set k 0 0 1\r\na\r\nset k 0 0 1\r\nb\r\n" else if 1 == client then codes "get k\r\n" else []

stores_read : requests_of (codes "set k 0 0 1\r\na\r\nset k 0 0 1\r\nb\r\n") ≡ store_asked (codes "a") ∷ store_asked (codes "b") ∷ []
unfolding words line_end first_line name_of next_request requests_within requests_of
stores_read = refl

get_read : requests_of (codes "get k\r\n") ≡ get_asked ∷ []
unfolding words line_end first_line name_of next_request requests_within requests_of
get_read = refl

-- the requests that were taken: the second was routed by the ring with the server that joined, the third without it
abbrev a_hit : AReply (List ℕ)
a_hit = Hit 0 None (codes "a")

abbrev first : TakenRequest
first = asked_of one_server 0 (store_asked (codes "a")) (outcomes.Reply Stored)

abbrev second : TakenRequest
second = asked_of next 1 (store_asked (codes "b")) (outcomes.Reply Stored)

abbrev third : TakenRequest
third = record { session = 1; request = 0; what = get_asked; ring = one_server; losses = Told; outcomes = outcomes.Reply a_hit ∷ [] }

abbrev rings_order : Order
rings_order = first ∷ second ∷ third ∷ []

-- the entries of the servers
abbrev stored_a : Entry
stored_a = entry_of 0 (store_of (codes "a")) Stored

abbrev found_a : Entry
found_a = record { client = 1; request = 0; atom = 0; moment = 5; refused = false; reply = spelling_of get_key a_hit }

abbrev stored_b : Entry
stored_b = entry_of 1 (store_of (codes "b")) Stored

abbrev old_entries : List Entry
old_entries = stored_a ∷ found_a ∷ []

abbrev new_entries : List Entry
new_entries = stored_b ∷ []

abbrev both : ℕ → List Entry
both = two_histories old_entries new_entries

-- each link was lost, and came up, before it carried a command
abbrev rings_log : Log
rings_log =
    loses_one ∷ returns_one ∷ Happened (LinkLost 1 0) ∷ Happened (LinkBack 1 0) ∷ takes_one ∷ Happened (ServerTurn 0 0 2 5) ∷ puts_one
    ∷ Joined 0 1 (codes "b:2") true ∷ Happened (LinkLost 0 1) ∷ Happened (LinkBack 0 1) ∷ takes_one ∷ Happened (ServerTurn 0 1 2 5) ∷ puts_one
    ∷ Happened (ProxyTurn 1) ∷ Happened (ServerTurn 1 0 2 5) ∷ Happened (Emit 1) ∷ []

-- another client has no requests, and no answers
abbrev taken_if : Bool → Bool → Order
taken_if v w =
    if v then first ∷ (if v then second ∷ (if w then third ∷ [] else []) else (if w then third ∷ [] else []))
    else (if v then second ∷ (if w then third ∷ [] else []) else (if w then third ∷ [] else []))

none_taken : (client : ℕ) → (0 == client) ≡ false → (1 == client) ≡ false → entries_of client rings_order ≡ []
none_taken client differ neither = ap₂ taken_if differ neither

no_request : (client request : ℕ) (x : TakenRequest) → (0 == client) ≡ false → (1 == client) ≡ false → asked_at rings_order client request ≡ Some x → ⊥
no_request client request x differ neither at =
    none_there request x (subst (λ (es : Order). slice_get es request ≡ Some x) (none_taken client differ neither) at)

abbrev puts_by : Bool → Bool → Logged → Bool
puts_by v w (Happened (Emit of)) = if of == 0 then v else w
puts_by v w other = false

none_put : (client : ℕ) → (0 == client) ≡ false → (1 == client) ≡ false → number_of (puts client) rings_log ≡ 0
none_put client differ neither = ap₂ (λ (v w : Bool). number_of (puts_by v w) rings_log) differ neither

asked_by : (client : ℕ) → (untaken : List Parsed) × (taken_of client rings_order ++ untaken ≡ requests_of (two_texts client))
asked_by = by_place (λ client. (untaken : List Parsed) × (taken_of client rings_order ++ untaken ≡ requests_of (two_texts client))) ([], sym stores_read) ([], sym get_read)
    (λ client differ neither. (
      requests_of (two_texts client),
      ap (λ (es : Order). map (λ (x : TakenRequest). x.what) es ++ requests_of (two_texts client)) (none_taken client differ neither),
    ))

numbered_by : (client : ℕ) → AreInOrder (entries_of client rings_order)
numbered_by = by_place (λ client. AreInOrder (entries_of client rings_order)) refl refl
    (λ client differ neither. subst (λ (es : Order). AreInOrder es) (sym (none_taken client differ neither)) refl)

complete_by : (client : ℕ) → list_all is_complete (take (number_of (puts client) rings_log) (entries_of client rings_order)) ≡ true
complete_by = by_place (λ client. list_all is_complete (take (number_of (puts client) rings_log) (entries_of client rings_order)) ≡ true) refl refl
    (λ client differ neither. none_complete (entries_of client rings_order) (number_of (puts client) rings_log) (none_put client differ neither))

-- each request was taken before it was answered
abbrev WasEarly : ℕ → ℕ → Type 0
WasEarly client request = request < number_of (takes client) (before (puts client) request rings_log)

first_early : (request : ℕ) → request < 2 → WasEarly 0 request
first_early zero early = omega arith
first_early (suc zero) early = omega arith
first_early (suc (suc n)) early = absurd (omega (arith, early))

second_early : (request : ℕ) → request < 1 → WasEarly 1 request
second_early zero early = omega arith
second_early (suc n) early = absurd (omega (arith, early))

after_by : (client request : ℕ) → request < number_of (puts client) rings_log → WasEarly client request
after_by = by_place (λ client. (request : ℕ) → request < number_of (puts client) rings_log → WasEarly client request) first_early second_early
    (λ client differ neither request early. let none = none_put client differ neither in absurd (omega (arith, none, early)))

-- each was routed by its proxy's ring
other_proxy : ◌≡◌ {A = ℕ} 0 1 → ⊥
other_proxy same = omega (arith, same)

rings_by : (client request : ℕ) (x : TakenRequest) → asked_at rings_order client request ≡ Some x → IsRingAfter client one_server (before (takes client) request rings_log) x.ring
rings_by = by_place (λ client. (request : ℕ) (x : TakenRequest) → asked_at rings_order client request ≡ Some x
    → IsRingAfter client one_server (before (takes client) request rings_log) x.ring)
    (λ request x at. each_of (λ (k : ℕ) (y : TakenRequest). IsRingAfter 0 one_server (before (takes 0) k rings_log) y.ring) (first ∷ second ∷ [])
    (refl, (inl (refl, joined_ring.0, joined_ring.1, refl), tt)) request x at)
    (λ request x at. each_of (λ (k : ℕ) (y : TakenRequest). IsRingAfter 1 one_server (before (takes 1) k rings_log) y.ring) (third ∷ [])
    (inr (other_proxy, refl), tt) request x at)
    (λ client differ neither request x at. absurd (no_request client request x differ neither at))

-- each entry's client is its number in its history, and its request its place
sites_by : (place k : ℕ) (e : Entry) → slice_get (both place) k ≡ Some e → (e.request ≡ place) × (e.client ≡ k)
sites_by = by_place (λ place. (k : ℕ) (e : Entry) → slice_get (both place) k ≡ Some e → (e.request ≡ place) × (e.client ≡ k))
    (λ k e at. each_of (λ (n : ℕ) (x : Entry). (x.request ≡ 0) × (x.client ≡ n)) old_entries ((refl, refl), ((refl, refl), tt)) k e at)
    (λ k e at. each_of (λ (n : ℕ) (x : Entry). (x.request ≡ 1) × (x.client ≡ n)) new_entries ((refl, refl), tt) k e at)
    (λ place differ neither k e at. absurd (else_there old_entries new_entries place k e differ neither at))

placed_by : (place k : ℕ) (e : Entry) → slice_get (both place) k ≡ Some e → TakenBeforeAnswered rings_order rings_log place k e
placed_by = by_place (λ place. (k : ℕ) (e : Entry) → slice_get (both place) k ≡ Some e → TakenBeforeAnswered rings_order rings_log place k e)
    (λ k e at. each_of (TakenBeforeAnswered rings_order rings_log 0) old_entries
    ((omega arith, λ reply became. omega arith), ((omega arith, λ reply became. omega arith), tt)) k e at)
    (λ k e at. each_of (TakenBeforeAnswered rings_order rings_log 1) new_entries ((omega arith, λ reply became. omega arith), tt) k e at)
    (λ place differ neither k e at. absurd (else_there old_entries new_entries place k e differ neither at))

moments_by : (place : ℕ) → map (λ (e : Entry). e.moment) (both place) ≡ moments_of place rings_log
moments_by = by_place (λ place. map (λ (e : Entry). e.moment) (both place) ≡ moments_of place rings_log) refl refl
    (λ place differ neither. ap (λ (es : List Entry). map (λ (e : Entry). e.moment) es) (none_else old_entries new_entries place differ neither)
    ∙ ap₂ (λ (v w : Bool). (if v then 5 ∷ [] else []) ++ ((if w then 5 ∷ [] else []) ++ ((if v then 5 ∷ [] else []) ++ []))) (sym differ) (sym neither))

-- the histories are legal
legal_by : (place : ℕ) → IsLegal rings_order place a_cache (both place)
legal_by = by_place (λ place. IsLegal rings_order place a_cache (both place)) (
  store_of (codes "a"),
  at_first (store_of (codes "a")),
  record { legal = λ h. absurd (false≢true h); refused = refl; reply = refl },
  (
    get_key,
    at_first get_key,
    record { legal = λ h. absurd (false≢true h); refused = refl; reply = refl },
    tt,
  ),
) (
  store_of (codes "b"),
  at_second (store_of (codes "b")),
  record { legal = λ h. absurd (false≢true h); refused = refl; reply = refl },
  tt,
) (λ place differ neither. subst (λ (es : List Entry). IsLegal rings_order place a_cache es) (sym (none_else old_entries new_entries place differ neither)) tt)

-- the reply of each request's command is in a history
record IsReplied (client request : ℕ) (x : TakenRequest) : Type 0 where
  pub place : ℕ
  pub atom : Atom (List ℕ)
  pub reply : AReply (List ℕ)
  pub number : ℕ
  pub entry : Entry
  pub routed : route_of_taken x.ring x.what ≡ to_place place atom ∷ []
  pub became : x.outcomes ≡ outcomes.Reply reply ∷ []
  pub at : slice_get (both place) number ≡ Some entry
  pub whose : tag_in entry ≡ tag_of client request 0
  pub says : entry.reply ≡ spelling_of atom reply

replied_first : IsReplied 0 0 first
replied_first = record {
  place = 0;
  atom = store_of (codes "a");
  reply = Stored;
  number = 0;
  entry = stored_a;
  routed = to_first (store_of (codes "a"));
  became = refl;
  at = refl;
  whose = refl;
  says = refl;
}

replied_second : IsReplied 0 1 second
replied_second = record {
  place = 1;
  atom = store_of (codes "b");
  reply = Stored;
  number = 0;
  entry = stored_b;
  routed = to_second (store_of (codes "b"));
  became = refl;
  at = refl;
  whose = refl;
  says = refl;
}

replied_third : IsReplied 1 0 third
replied_third = record {
  place = 0;
  atom = get_key;
  reply = a_hit;
  number = 1;
  entry = found_a;
  routed = to_first get_key;
  became = refl;
  at = refl;
  whose = refl;
  says = refl;
}

replied_all : (client request : ℕ) (x : TakenRequest) → asked_at rings_order client request ≡ Some x → IsReplied client request x
replied_all = by_place (λ client. (request : ℕ) (x : TakenRequest) → asked_at rings_order client request ≡ Some x → IsReplied client request x)
    (λ request x at. each_of (IsReplied 0) (first ∷ second ∷ []) (replied_first, (replied_second, tt)) request x at)
    (λ request x at. each_of (IsReplied 1) (third ∷ []) (replied_third, tt) request x at)
    (λ client differ neither request x at. absurd (no_request client request x differ neither at))

-- so is that of each command, and none is lost
record IsKnownAs (tag : Tag) (place : ℕ) (atom : Atom (List ℕ)) (outcome : Outcome) : Type 0 where
  pub reply : AReply (List ℕ)
  pub is : outcome ≡ outcomes.Reply reply
  pub told : HasReply (both place) tag (spelling_of atom reply)

known_by : (tag : Tag) (place : ℕ) (atom : Atom (List ℕ)) (outcome : Outcome) → command_at rings_order tag ≡ Some (to_place place atom)
    → outcome_at rings_order tag ≡ Some outcome → IsKnownAs tag place atom outcome
known_by tag place atom outcome at became =
    let x = in_request (asked_at rings_order tag.session tag.request) tag.atom (to_place place atom) at in
    let y = outcome_in_request (asked_at rings_order tag.session tag.request) tag.atom outcome became in
    let r = replied_all tag.session tag.request x.0 x.1 in
    let same : y.0 ≡ x.0 = same_Some y.0 x.0 (sym y.1 ∙ x.1) in
    let command = one_here (to_place r.place r.atom) tag.atom (to_place place atom) (ap (λ (cs : List Routed). slice_get cs tag.atom) (sym r.routed) ∙ x.2) in
    let there : place ≡ r.place = ap (λ (c : Routed). c.server) command.1 in
    let asked : atom ≡ r.atom = ap (λ (c : Routed). c.atom) command.1 in
    let known = one_here (outcomes.Reply r.reply) tag.atom outcome
    (ap (λ (os : List Outcome). slice_get os tag.atom) (sym (ap (λ (z : TakenRequest). z.outcomes) same ∙ r.became)) ∙ y.2) in
    record {
      reply = r.reply;
      is = known.1;
      told = (
        r.number,
        r.entry,
        ap (λ (p : ℕ). slice_get (both p) r.number) there ∙ r.at,
        r.whose ∙ ap (λ (n : ℕ). tag_of tag.session tag.request n) (sym command.0),
        r.says ∙ ap (λ (a : Atom (List ℕ)). spelling_of a r.reply) (sym asked),
      );
    }

-- a link that was never down carried nothing
abbrev drops_by : Bool → Bool → ℕ → Logged → Bool
drops_by v w place (Happened (LinkLost of at)) = (if of == 0 then v else w) && (at == place)
drops_by v w place (Joined of at address up) = ((if of == 0 then v else w) && (at == place)) && not up
drops_by v w place other = false

none_old : (v w : Bool) → number_of (drops_by v w 0) rings_log ≡ 0
    → (if v then tag_in stored_a ∷ (if w then tag_in found_a ∷ [] else []) else (if w then tag_in found_a ∷ [] else [])) ≡ []
none_old true true none = absurd (omega (arith, none))
none_old true false none = absurd (omega (arith, none))
none_old false true none = absurd (omega (arith, none))
none_old false false none = refl

none_new : (v w : Bool) → number_of (drops_by v w 1) rings_log ≡ 0 → (if v then tag_in stored_b ∷ [] else []) ≡ []
none_new true true none = absurd (omega (arith, none))
none_new true false none = absurd (omega (arith, none))
none_new false w none = refl

none_through : (proxy place : ℕ) → number_of (drops proxy place) rings_log ≡ 0 → tags_through own_home proxy (both place) ≡ []
none_through proxy = by_place (λ place. number_of (drops proxy place) rings_log ≡ 0 → tags_through own_home proxy (both place) ≡ [])
    (λ none. none_old (0 == proxy) (1 == proxy) none) (λ none. none_new (0 == proxy) (1 == proxy) none)
    (λ place differ neither none. ap (λ (es : List Entry). tags_through own_home proxy es) (none_else old_entries new_entries place differ neither))

rings_accounts : Accounts own_home Told one_server a_cache rings_order two_texts (outs_of Told rings_order rings_log) both rings_log
rings_accounts = record {
  asked = asked_by;
  turns = refl;
  numbered = numbered_by;
  rings = rings_by;
  sized = All-cons IsSized first (second ∷ third ∷ []) refl (All-cons IsSized second (third ∷ []) refl (All-cons IsSized third [] refl (All-nil IsSized)));
  legal = λ place. legal_unrestarted rings_order place a_cache rings_log (both place) refl (legal_by place);
  once = λ r s j k d e at also same.
      let here = sites_by r j d at in
      let there = sites_by s k e also in (
        sym here.0 ∙ ap (λ (t : Tag). t.request) same ∙ there.0,
        sym here.1 ∙ ap (λ (t : Tag). t.session) same ∙ there.1,
      );
  replied = λ tag place atom reply at became.
      let k = known_by tag place atom (outcomes.Reply reply) at became in
      let is : k.reply ≡ reply = sym (ap reply_in k.is) in
      subst (λ (r : AReply (List ℕ)). HasReply (both place) tag (spelling_of atom r)) is k.told;
  lost = λ tag place atom at became.
      let k = known_by tag place atom outcomes.Lost at became in
      absurd (true≢false (ap is_lost k.is));
  ordered = λ place j k d e r q at also less own one other.
      let here = (sites_by place j d at).1 in
      let there = (sites_by place k e also).1 in
      absurd (omega (arith, here, there, own, less));
  followed = λ proxy place none. (
    tags_of (commands_to place (of_proxy own_home proxy rings_order)),
    ap (λ (ts : List Tag). ts ++ tags_of (commands_to place (of_proxy own_home proxy rings_order))) (none_through proxy place none),
  );
  answered = complete_by;
  put = λ client. refl;
  after = after_by;
  moments = moments_by;
  placed = placed_by;
}

-- what the clients are shown
shown : outs_of Told rings_order rings_log 1 ≡ codes "VALUE k 0 1\r\na\r\nEND\r\n"
unfolding digits
shown = refl

-- the two sets, and the get
abbrev the_older : Executed rings_order both (codes "k")
the_older = record {
  place = 0;
  number = 0;
  entry = stored_a;
  atom = store_of (codes "a");
  at = refl;
  command = at_first (store_of (codes "a"));
  on = refl;
}

abbrev the_write : Executed rings_order both (codes "k")
the_write = record {
  place = 1;
  number = 0;
  entry = stored_b;
  atom = store_of (codes "b");
  at = refl;
  command = at_second (store_of (codes "b"));
  on = refl;
}

abbrev the_read : Executed rings_order both (codes "k")
the_read = record {
  place = 0;
  number = 1;
  entry = found_a;
  atom = get_key;
  at = refl;
  command = at_first get_key;
  on = refl;
}

less_one : 0 < 1
less_one = omega arith

pub shown_by_another : (ring : RingState) × (order : Order) × (outs : ℕ → List ℕ) × (histories : ℕ → List Entry) × (log : Log) × IsRing ring
    × Accounts (λ client. client) Told ring (opening_cache 1000 10 0) order
    (λ client. if 0 == client then codes "set k 0 0 1\r\na\r\nset k 0 0 1\r\nb\r\n" else if 1 == client then codes "get k\r\n" else []) outs histories log
    × IsLinearizablePool (λ client. client) Told 0 order
    (λ client. if 0 == client then codes "set k 0 0 1\r\na\r\nset k 0 0 1\r\nb\r\n" else if 1 == client then codes "get k\r\n" else []) outs histories log
    × (outs 0 ≡ codes "STORED\r\nSTORED\r\n") × (outs 1 ≡ codes "VALUE k 0 1\r\na\r\nEND\r\n")
    × (older : Executed order histories (codes "k")) × StoresWhole older.atom 0 (codes "a") × WasDone order log (tag_in older.entry)
    × (write : Executed order histories (codes "k")) × (read : Executed order histories (codes "k")) × StoresWhole write.atom 0 (codes "b")
    × WasDone order log (tag_in write.entry) × IsEarlier (tag_in older.entry) (tag_in write.entry) log × IsGet read.atom
    × WasAnsweredBy order log (tag_in read.entry) (Hit 0 None (codes "a")) × IsEarlier (tag_in write.entry) (tag_in read.entry) log × (read.place < write.place)
shown_by_another = (
  one_server,
  rings_order,
  outs_of Told rings_order rings_log,
  both,
  rings_log,
  one_ring,
  rings_accounts,
  pool_linearizable own_home Told one_server 1000 10 0 rings_order two_texts (outs_of Told rings_order rings_log) both rings_log one_ring bounds rings_accounts,
  refl,
  shown,
  the_older,
  record { mode = Set; compare = None; key = codes "k"; exptime = pos 0; stores = refl; whole = refl },
  (Stored, (omega arith, refl), refl),
  the_write,
  the_read,
  record { mode = Set; compare = None; key = codes "k"; exptime = pos 0; stores = refl; whole = refl },
  (Stored, (omega arith, refl), refl),
  omega arith,
  (codes "k", None, false, refl),
  (omega arith, refl),
  omega arith,
  less_one,
)
