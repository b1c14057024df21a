-- An account of key `k`, two servers and a restart. A client sets `a`, and gets it with its number. The server restarts, and the client misses the
-- key. Another server joins, and owns the key from then on. The client sets `b` there, under the same number, and a `cas` with that number stores `c`.
use Rattle.std.proofs.Common.{◌≡◌, ℕ, zero, suc, ◌<◌, ◌==◌, inl, inr, Bool, true, false, if◌then◌else◌, List, [], ◌∷◌, ◌++◌, map, take, drop, None, Some, refl, sym, ap, ap₂, subst, arith}
use Rattle.std.specs.Prelude.{codes, pos}
use Rattle.std.specs.Fmt.{digits}
use Rattle.std.proofs.lemmas.Bool.{false≢true}
use Rattle.std.proofs.lemmas.List.Elements.{All-cons, All-nil}
use Rattle.mc_text.specs.Lines.{first_line, line_end}
use Rattle.mc_text.specs.Words.{words}
use Rattle.mc_request.specs.Names.{name_of}
use Rattle.mc_request.specs.Requests.{next_request, requests_of, requests_within}
use Rattle.mc_request.specs.declared.parts.Atom.{Atom}
use Rattle.mc_request.specs.declared.parts.Atom.TheVariants as atoms
use Rattle.mc_request.specs.declared.parts.Request.TheVariants as requests
use Rattle.mc_request.specs.declared.parts.StoreMode.TheVariants.{Set}
use Rattle.mc_request.specs.declared.parts.Parsed.{Parsed}
use Rattle.mc_request.specs.declared.parts.Parsed.TheVariants.{Whole}
use Rattle.mc_request.specs.declared.parts.Update.TheVariants.{Store}
use Rattle.mc_reply.specs.declared.replies.Reply.{Reply as AReply}
use Rattle.mc_reply.specs.declared.replies.Reply.TheVariants.{Hit, Miss, Stored}
use Rattle.mc_ring.specs.Rings.{IsRing, RingState}
use Rattle.mc_route.specs.Routes.{to_owner, to_place}
use Rattle.mc_route.specs.declared.losses.Losses.TheVariants.{Told}
use Rattle.mc_route.specs.declared.outcomes.Outcome.TheVariants as outcomes
use Rattle.mc_cache.specs.CacheState.{IsWithinBounds, opening_cache}
use Rattle.mc_account.specs.Orders.{IsSized, Order, TakenRequest}
use Rattle.mc_world.specs.declared.events.Event.TheVariants.{LinkBack, LinkLost, ServerTurn}
use Rattle.mc_world.specs.Accounts.{Accounts}
use Rattle.mc_world.specs.Logs.{Log, in_life, number_of, restarts}
use Rattle.mc_world.specs.declared.logs.Logged.{Logged}
use Rattle.mc_world.specs.declared.logs.Logged.TheVariants.{Happened, Joined, Restarted}
use Rattle.mc_world.proofs.Log.LifeLemmas.{legal_unrestarted, taken_past}
use Rattle.mc_history.specs.declared.entries.Entry.{Entry}
use Rattle.mc_history.specs.Histories.{IsLegal, tag_in}
use Rattle.mc_pool_laws.proofs.MissExample.{get_asked, get_key}
use Rattle.mc_pool_laws.proofs.NeedLemmas.{a_cache, loses_one, one_home, one_server, outs_of, puts_one, returns_one, serves_one, takes_one}
use Rattle.mc_linearizable.specs.Linearizable.{Executed, IsEarlier, IsLinearizablePool}
use Rattle.mc_linearizable.specs.Clients.{Compares, ComesBetween, HasWritten, IsGet, IsInLife, WasAnsweredBy, WasDone}
use Rattle.mc_linearizable.proofs.LinearLemmas.{pool_linearizable}
use Rattle.mc_linearizable.proofs.JoinRing.{joined_ring}
use Rattle.mc_linearizable.proofs.SmallAccounts.{IsKnown, IsSmall, asked_of, at_first, entry_of, first_text, one_ring, puts_if, replied_as, small_accounts, store_asked, store_of, to_first, two_histories}

abbrev join_text : List ℕ
join_text = codes "set k 0 0 1\r\na\r\ngets k\r\nget k\r\nset k 0 0 1\r\nb\r\ncas k 0 0 1 1\r\nc\r\n"

-- the commands that no other example has
abbrev gets_key : Atom (List ℕ)
gets_key = atoms.Get (codes "k") None true

abbrev gets_asked : Parsed
gets_asked = Whole (requests.Get (codes "k" ∷ []) None true)

abbrev cas_key : Atom (List ℕ)
cas_key = atoms.Update (Store Set (Some 1) (codes "k") 0 (pos 0) (codes "c"))

abbrev cas_asked : Parsed
cas_asked = Whole (requests.Update (Store Set (Some 1) (codes "k") 0 (pos 0) (codes "c")) false)

abbrev a_hit : AReply (List ℕ)
a_hit = Hit 0 (Some 1) (codes "a")

text_read : requests_of (codes "set k 0 0 1\r\na\r\ngets k\r\nget k\r\nset k 0 0 1\r\nb\r\ncas k 0 0 1 1\r\nc\r\n")
    ≡ store_asked (codes "a") ∷ gets_asked ∷ get_asked ∷ store_asked (codes "b") ∷ cas_asked ∷ []
unfolding words line_end first_line name_of next_request requests_within requests_of
text_read = refl

-- the requests that were taken: the last two were routed by the ring with the server that joined
abbrev pub next : RingState
next = joined_ring.0

pub at_second : (atom : Atom (List ℕ)) → Some (to_owner next (codes "k") atom) ≡ Some (to_place 1 atom)
at_second atom = ap (λ (p : ℕ). Some (to_place p atom)) joined_ring.2

pub to_second : (atom : Atom (List ℕ)) → to_owner next (codes "k") atom ∷ [] ≡ to_place 1 atom ∷ []
to_second atom = ap (λ (p : ℕ). to_place p atom ∷ []) joined_ring.2

abbrev first : TakenRequest
first = asked_of one_server 0 (store_asked (codes "a")) (outcomes.Reply Stored)

abbrev second : TakenRequest
second = asked_of one_server 1 gets_asked (outcomes.Reply a_hit)

abbrev third : TakenRequest
third = asked_of one_server 2 get_asked (outcomes.Reply Miss)

abbrev fourth : TakenRequest
fourth = asked_of next 3 (store_asked (codes "b")) (outcomes.Reply Stored)

abbrev fifth : TakenRequest
fifth = asked_of next 4 cas_asked (outcomes.Reply Stored)

abbrev join_order : Order
join_order = first ∷ second ∷ third ∷ fourth ∷ fifth ∷ []

-- the entries of the servers
abbrev stored_a : Entry
stored_a = entry_of 0 (store_of (codes "a")) Stored

abbrev found_a : Entry
found_a = entry_of 1 gets_key a_hit

abbrev missed : Entry
missed = entry_of 2 get_key Miss

abbrev stored_b : Entry
stored_b = entry_of 3 (store_of (codes "b")) Stored

abbrev stored_c : Entry
stored_c = entry_of 4 cas_key Stored

abbrev old_history : List Entry
old_history = stored_a ∷ found_a ∷ missed ∷ []

abbrev new_history : List Entry
new_history = stored_b ∷ stored_c ∷ []

abbrev serves_again : Logged
serves_again = Happened (ServerTurn 0 0 2 5)

abbrev serves_new : Logged
serves_new = Happened (ServerTurn 0 1 2 5)

abbrev join_log : Log
join_log =
    takes_one ∷ serves_one ∷ puts_one ∷ takes_one ∷ serves_one ∷ puts_one ∷ loses_one ∷ Restarted 0 ∷ returns_one ∷ takes_one ∷ serves_again ∷ puts_one
    ∷ Joined 0 1 (codes "b:2") true ∷ Happened (LinkLost 0 1) ∷ Happened (LinkBack 0 1) ∷ takes_one ∷ serves_new ∷ puts_one ∷ takes_one ∷ serves_new ∷ puts_one ∷ []

-- the two lives of the first server, and the one of the second
old_lives : (life : ℕ) → IsLegal join_order 0 a_cache (in_life 0 life join_log old_history)
old_lives zero = (
  store_of (codes "a"),
  at_first (store_of (codes "a")),
  record { legal = λ h. absurd (false≢true h); refused = refl; reply = refl },
  (
    gets_key,
    at_first gets_key,
    record { legal = λ h. absurd (false≢true h); refused = refl; reply = refl },
    tt,
  ),
)
old_lives (suc zero) = (
  get_key,
  at_first get_key,
  record { legal = λ h. absurd (false≢true h); refused = refl; reply = refl },
  tt,
)
old_lives (suc (suc life)) =
    let none : in_life 0 (suc (suc life)) join_log old_history ≡ [] =
    ap₂ (λ (n m : ℕ). drop n (take m old_history)) (taken_past 0 (suc life) join_log (omega arith)) (taken_past 0 (suc (suc life)) join_log (omega arith)) in
    subst (λ (es : List Entry). IsLegal join_order 0 a_cache es) (sym none) tt

new_legal : IsLegal join_order 1 a_cache new_history
new_legal = (
  store_of (codes "b"),
  at_second (store_of (codes "b")),
  record { legal = λ h. absurd (false≢true h); refused = refl; reply = refl },
  (
    cas_key,
    at_second cas_key,
    record { legal = λ h. absurd (false≢true h); refused = refl; reply = refl },
    tt,
  ),
)

answers_by : (v : Bool) → number_of (puts_if v) join_log ≡ (if v then 5 else 0)
answers_by true = refl
answers_by false = refl

known_first : IsKnown (two_histories old_history new_history) join_log 0 first
known_first = replied_as (two_histories old_history new_history) join_log 0 first 0 (store_of (codes "a")) Stored 0 stored_a (to_first (store_of (codes "a"))) refl refl refl refl

known_second : IsKnown (two_histories old_history new_history) join_log 1 second
known_second = replied_as (two_histories old_history new_history) join_log 1 second 0 gets_key a_hit 1 found_a (to_first gets_key) refl refl refl refl

known_third : IsKnown (two_histories old_history new_history) join_log 2 third
known_third = replied_as (two_histories old_history new_history) join_log 2 third 0 get_key Miss 2 missed (to_first get_key) refl refl refl refl

known_fourth : IsKnown (two_histories old_history new_history) join_log 3 fourth
known_fourth = replied_as (two_histories old_history new_history) join_log 3 fourth 1 (store_of (codes "b")) Stored 0 stored_b (to_second (store_of (codes "b"))) refl refl refl refl

known_fifth : IsKnown (two_histories old_history new_history) join_log 4 fifth
known_fifth = replied_as (two_histories old_history new_history) join_log 4 fifth 1 cas_key Stored 1 stored_c (to_second cas_key) refl refl refl refl

join_small : IsSmall one_server a_cache join_order join_text old_history new_history join_log
join_small = record {
  own = (refl, (refl, (refl, (refl, (refl, tt)))));
  read = text_read;
  turns = refl;
  numbered = refl;
  rings = (refl, (refl, (refl, (inl (refl, joined_ring.0, joined_ring.1, refl), (inl (refl, joined_ring.0, joined_ring.1, refl), tt)))));
  sized = All-cons IsSized first (second ∷ third ∷ fourth ∷ fifth ∷ []) refl (All-cons IsSized second (third ∷ fourth ∷ fifth ∷ []) refl
      (All-cons IsSized third (fourth ∷ fifth ∷ []) refl (All-cons IsSized fourth (fifth ∷ []) refl (All-cons IsSized fifth [] refl (All-nil IsSized)))));
  complete = refl;
  known = (known_first, (known_second, (known_third, (known_fourth, (known_fifth, tt)))));
  after = (omega arith, (omega arith, (omega arith, (omega arith, (omega arith, tt)))));
  answers = λ client. answers_by (0 == client);
  first_legal = old_lives;
  second_legal = legal_unrestarted join_order 1 a_cache join_log new_history refl new_legal;
  places = λ request. if request == 3 then 1 else if request == 4 then 1 else 0;
  numbers = λ request. if request == 3 then 0 else if request == 4 then 1 else request;
  first_sites = ((refl, refl), ((refl, refl), ((refl, refl), tt)));
  second_sites = ((refl, refl), ((refl, refl), tt));
  first_placed = (
    (omega arith, λ reply became. omega arith),
    ((omega arith, λ reply became. omega arith), ((omega arith, λ reply became. omega arith), tt)),
  );
  second_placed = ((omega arith, λ reply became. omega arith), ((omega arith, λ reply became. omega arith), tt));
  first_risen = inr (omega arith, inr (omega arith, inr (omega arith, tt)));
  second_risen = inr (omega arith, inr (omega arith, tt));
  first_lost = λ none. absurd (omega (arith, none));
  second_lost = λ none. absurd (omega (arith, none));
  first_moments = refl;
  second_moments = refl;
  no_moments = λ place differ neither.
      ap₂ (λ (v w : Bool). (if v then 5 ∷ [] else []) ++ ((if v then 5 ∷ [] else []) ++ ((if v then 5 ∷ [] else [])
      ++ ((if w then 5 ∷ [] else []) ++ ((if w then 5 ∷ [] else []) ++ []))))) (sym differ) (sym neither);
}

join_accounts : Accounts one_home Told one_server a_cache join_order (first_text join_text) (outs_of Told join_order join_log) (two_histories old_history new_history) join_log
join_accounts = small_accounts Told one_server a_cache join_order join_text old_history new_history join_log join_small

put_out : outs_of Told join_order join_log 0 ≡ codes "STORED\r\nVALUE k 0 1 1\r\na\r\nEND\r\nEND\r\nSTORED\r\nSTORED\r\n"
unfolding digits
put_out = refl

-- the account is linearizable
pub bounds : IsWithinBounds 1000 10
bounds = record { some_bytes = omega arith; not_too_many_bytes = omega arith; some_items = omega arith; not_too_many_items = omega arith }

replies : map (λ (e : Entry). e.reply) old_history ≡ codes "STORED\r\n" ∷ codes "VALUE k 0 1 1\r\na\r\nEND\r\n" ∷ codes "END\r\n" ∷ []
unfolding digits
replies = refl

pub restarted_and_joined : (ring : RingState) × (order : Order) × (outs : ℕ → List ℕ) × (histories : ℕ → List Entry) × (log : Log) × IsRing ring
    × Accounts one_home Told ring (opening_cache 1000 10 0) order
    (λ client. if 0 == client then codes "set k 0 0 1\r\na\r\ngets k\r\nget k\r\nset k 0 0 1\r\nb\r\ncas k 0 0 1 1\r\nc\r\n" else []) outs histories log
    × IsLinearizablePool one_home Told 0 order
    (λ client. if 0 == client then codes "set k 0 0 1\r\na\r\ngets k\r\nget k\r\nset k 0 0 1\r\nb\r\ncas k 0 0 1 1\r\nc\r\n" else []) outs histories log
    × (outs 0 ≡ codes "STORED\r\nVALUE k 0 1 1\r\na\r\nEND\r\nEND\r\nSTORED\r\nSTORED\r\n") × (number_of (restarts 0) log ≡ 1)
    × (map (λ (e : Entry). e.reply) (histories 0) ≡ codes "STORED\r\n" ∷ codes "VALUE k 0 1 1\r\na\r\nEND\r\n" ∷ codes "END\r\n" ∷ [])
    × (map (λ (e : Entry). e.reply) (histories 1) ≡ codes "STORED\r\n" ∷ codes "STORED\r\n" ∷ [])
restarted_and_joined = (
  one_server,
  join_order,
  outs_of Told join_order join_log,
  two_histories old_history new_history,
  join_log,
  one_ring,
  join_accounts,
  pool_linearizable one_home Told one_server 1000 10 0 join_order (first_text join_text) (outs_of Told join_order join_log) (two_histories old_history new_history) join_log one_ring bounds
      join_accounts,
  put_out,
  refl,
  replies,
  refl,
)

-- the `gets`, the second set, and the `cas`
abbrev the_read : Executed join_order (two_histories old_history new_history) (codes "k")
the_read = record {
  place = 0;
  number = 1;
  entry = found_a;
  atom = gets_key;
  at = refl;
  command = at_first gets_key;
  on = refl;
}

abbrev the_set : Executed join_order (two_histories old_history new_history) (codes "k")
the_set = record {
  place = 1;
  number = 0;
  entry = stored_b;
  atom = store_of (codes "b");
  at = refl;
  command = at_second (store_of (codes "b"));
  on = refl;
}

abbrev the_cas : Executed join_order (two_histories old_history new_history) (codes "k")
the_cas = record {
  place = 1;
  number = 1;
  entry = stored_c;
  atom = cas_key;
  at = refl;
  command = at_second cas_key;
  on = refl;
}

less_one : 0 < 1
less_one = omega arith

other_places : ◌≡◌ {A = ℕ} 0 1 → ⊥
other_places same = omega (arith, same)

pub number_fits : (ring : RingState) × (order : Order) × (outs : ℕ → List ℕ) × (histories : ℕ → List Entry) × (log : Log) × IsRing ring
    × Accounts one_home Told ring (opening_cache 1000 10 0) order
    (λ client. if 0 == client then codes "set k 0 0 1\r\na\r\ngets k\r\nget k\r\nset k 0 0 1\r\nb\r\ncas k 0 0 1 1\r\nc\r\n" else []) outs histories log
    × (read : Executed order histories (codes "k")) × (cas : Executed order histories (codes "k")) × (other : Executed order histories (codes "k"))
    × IsGet read.atom × WasAnsweredBy order log (tag_in read.entry) (Hit 0 (Some 1) (codes "a")) × Compares cas.atom 1 × WasDone order log (tag_in cas.entry)
    × IsEarlier (tag_in read.entry) (tag_in cas.entry) log × IsInLife 0 log read × IsInLife 0 log cas × (read.place ≡ cas.place → ⊥) × ComesBetween read other cas × HasWritten other
number_fits = (
  one_server,
  join_order,
  outs_of Told join_order join_log,
  two_histories old_history new_history,
  join_log,
  one_ring,
  join_accounts,
  the_read,
  the_cas,
  the_set,
  (codes "k", None, true, refl),
  (omega arith, refl),
  record { mode = Set; key = codes "k"; flags = 0; exptime = pos 0; value = codes "c"; stores = refl },
  (Stored, (omega arith, refl), refl),
  omega arith,
  (omega arith, omega arith),
  (omega arith, omega arith),
  other_places,
  (inl less_one, inr (refl, less_one)),
  (Stored, refl, refl),
)
