-- An account in which a client sets `a`, gets it, and sets `b`. The get was taken before the answer to the second set, and shows `a`.
use Rattle.std.proofs.Common.{◌≡◌, ℕ, ◌<◌, ◌==◌, inl, inr, Bool, true, false, if◌then◌else◌, List, [], ◌∷◌, ◌++◌, Option, None, Some, get_or, refl, sym, ap, arith}
use Rattle.std.specs.Prelude.{codes, pos}
use Rattle.std.specs.Fmt.{digits}
use Rattle.std.proofs.lemmas.Bool.{false≢true}
use Rattle.std.proofs.lemmas.List.Elements.{All-cons, All-nil}
use Rattle.std.proofs.lemmas.Option.{none-some}
use Rattle.mc_text.specs.Lines.{first_line, line_end}
use Rattle.mc_text.specs.Words.{words}
use Rattle.mc_request.specs.Names.{name_of}
use Rattle.mc_request.specs.Requests.{next_request, requests_of, requests_within}
use Rattle.mc_request.specs.declared.parts.StoreMode.TheVariants.{Set}
use Rattle.mc_reply.specs.Spelling.{spelling_of}
use Rattle.mc_reply.specs.declared.replies.Reply.{Reply as AReply}
use Rattle.mc_reply.specs.declared.replies.Reply.TheVariants.{Hit, Stored}
use Rattle.mc_ring.specs.Rings.{IsRing, RingState}
use Rattle.mc_route.specs.declared.losses.Losses.TheVariants.{Told}
use Rattle.mc_route.specs.declared.outcomes.Outcome.TheVariants as outcomes
use Rattle.mc_cache.specs.CacheState.{opening_cache}
use Rattle.mc_account.specs.Orders.{IsSized, Order, TakenRequest}
use Rattle.mc_world.specs.declared.events.Event.TheVariants.{ServerTurn}
use Rattle.mc_world.specs.Accounts.{Accounts}
use Rattle.mc_world.specs.Logs.{Log, number_of}
use Rattle.mc_world.specs.declared.logs.Logged.{Logged}
use Rattle.mc_world.specs.declared.logs.Logged.TheVariants.{Happened}
use Rattle.mc_world.proofs.Log.LifeLemmas.{legal_unrestarted}
use Rattle.mc_history.specs.declared.entries.Entry.{Entry}
use Rattle.mc_history.specs.Histories.{IsLegal, tag_in}
use Rattle.mc_pool_laws.proofs.MissExample.{get_asked, get_key}
use Rattle.mc_pool_laws.proofs.NeedLemmas.{a_cache, loses_one, one_home, one_server, outs_of, puts_one, returns_one, takes_one}
use Rattle.mc_linearizable.specs.Linearizable.{ComesFirst, Executed}
use Rattle.mc_linearizable.specs.Clients.{ComesBetween, IsGet, ShowsValue, StoresWhole, WasAnsweredBy, WasDone}
use Rattle.mc_linearizable.proofs.SmallAccounts.{IsKnown, IsSmall, asked_of, at_first, entry_of, first_text, one_ring, puts_if, replied_as, small_accounts, store_asked, store_of, to_first, two_histories}
use Rattle.mc_linearizable.proofs.SpelledLemmas.{number_read}

abbrev early_text : List ℕ
early_text = codes "set k 0 0 1\r\na\r\nget k\r\nset k 0 0 1\r\nb\r\n"

abbrev a_hit : AReply (List ℕ)
a_hit = Hit 0 None (codes "a")

-- the requests that were taken
abbrev first : TakenRequest
first = asked_of one_server 0 (store_asked (codes "a")) (outcomes.Reply Stored)

abbrev second : TakenRequest
second = asked_of one_server 1 get_asked (outcomes.Reply a_hit)

abbrev third : TakenRequest
third = asked_of one_server 2 (store_asked (codes "b")) (outcomes.Reply Stored)

abbrev early_order : Order
early_order = first ∷ second ∷ third ∷ []

text_read : requests_of (codes "set k 0 0 1\r\na\r\nget k\r\nset k 0 0 1\r\nb\r\n") ≡ store_asked (codes "a") ∷ get_asked ∷ store_asked (codes "b") ∷ []
unfolding words line_end first_line name_of next_request requests_within requests_of
text_read = refl

-- the entries of the server, on the second generation of its link
abbrev stored_a : Entry
stored_a = entry_of 0 (store_of (codes "a")) Stored

abbrev found_a : Entry
found_a = entry_of 1 get_key a_hit

abbrev stored_b : Entry
stored_b = entry_of 2 (store_of (codes "b")) Stored

abbrev early_history : List Entry
early_history = stored_a ∷ found_a ∷ stored_b ∷ []

abbrev serves_again : Logged
serves_again = Happened (ServerTurn 0 0 2 5)

abbrev early_log : Log
early_log =
    loses_one ∷ returns_one ∷ takes_one ∷ serves_again ∷ puts_one ∷ takes_one ∷ takes_one ∷ serves_again ∷ serves_again ∷ puts_one ∷ puts_one ∷ []

early_legal : IsLegal early_order 0 a_cache early_history
early_legal = (
  store_of (codes "a"),
  at_first (store_of (codes "a")),
  record { legal = λ h. absurd (false≢true h); refused = refl; reply = refl },
  (
    get_key,
    at_first get_key,
    record { legal = λ h. absurd (false≢true h); refused = refl; reply = refl },
    (
      store_of (codes "b"),
      at_first (store_of (codes "b")),
      record { legal = λ h. absurd (false≢true h); refused = refl; reply = refl },
      tt,
    ),
  ),
)

answers_by : (v : Bool) → number_of (puts_if v) early_log ≡ (if v then 3 else 0)
answers_by true = refl
answers_by false = refl

known_first : IsKnown (two_histories early_history []) early_log 0 first
known_first =
    replied_as (two_histories early_history []) early_log 0 first 0 (store_of (codes "a")) Stored 0 stored_a (to_first (store_of (codes "a"))) refl refl refl refl

known_second : IsKnown (two_histories early_history []) early_log 1 second
known_second = replied_as (two_histories early_history []) early_log 1 second 0 get_key a_hit 1 found_a (to_first get_key) refl refl refl refl

known_third : IsKnown (two_histories early_history []) early_log 2 third
known_third =
    replied_as (two_histories early_history []) early_log 2 third 0 (store_of (codes "b")) Stored 2 stored_b (to_first (store_of (codes "b"))) refl refl refl refl

early_small : IsSmall one_server a_cache early_order early_text early_history [] early_log
early_small = record {
  own = (refl, (refl, (refl, tt)));
  read = text_read;
  turns = refl;
  numbered = refl;
  rings = (refl, (refl, (refl, tt)));
  sized = All-cons IsSized first (second ∷ third ∷ []) refl (All-cons IsSized second (third ∷ []) refl (All-cons IsSized third [] refl (All-nil IsSized)));
  complete = refl;
  known = (known_first, (known_second, (known_third, tt)));
  after = (omega arith, (omega arith, (omega arith, tt)));
  answers = λ client. answers_by (0 == client);
  first_legal = legal_unrestarted early_order 0 a_cache early_log early_history refl early_legal;
  second_legal = legal_unrestarted early_order 1 a_cache early_log [] refl tt;
  places = λ request. 0;
  numbers = λ request. request;
  first_sites = ((refl, refl), ((refl, refl), ((refl, refl), tt)));
  second_sites = tt;
  first_placed = (
    (omega arith, λ reply became. omega arith),
    ((omega arith, λ reply became. omega arith), ((omega arith, λ reply became. omega arith), tt)),
  );
  second_placed = tt;
  first_risen = inr (omega arith, inr (omega arith, inr (omega arith, tt)));
  second_risen = tt;
  first_lost = λ none. absurd (omega (arith, none));
  second_lost = λ none. refl;
  first_moments = refl;
  second_moments = refl;
  no_moments = λ place differ neither.
      ap (λ (v : Bool). (if v then 5 ∷ [] else []) ++ ((if v then 5 ∷ [] else []) ++ ((if v then 5 ∷ [] else []) ++ []))) (sym differ);
}

early_accounts : Accounts one_home Told one_server a_cache early_order (first_text early_text) (outs_of Told early_order early_log) (two_histories early_history []) early_log
early_accounts = small_accounts Told one_server a_cache early_order early_text early_history [] early_log early_small

put_out : outs_of Told early_order early_log 0 ≡ codes "STORED\r\nVALUE k 0 1\r\na\r\nEND\r\nSTORED\r\n"
unfolding digits
put_out = refl

-- the second set, and the get
abbrev the_store : Executed early_order (two_histories early_history []) (codes "k")
the_store = record {
  place = 0;
  number = 2;
  entry = stored_b;
  atom = store_of (codes "b");
  at = refl;
  command = at_first (store_of (codes "b"));
  on = refl;
}

abbrev the_get : Executed early_order (two_histories early_history []) (codes "k")
the_get = record {
  place = 0;
  number = 1;
  entry = found_a;
  atom = get_key;
  at = refl;
  command = at_first get_key;
  on = refl;
}

-- the get does not show `b`
not_b : spelling_of get_key (Hit 0 None (codes "a")) ≡ spelling_of get_key (Hit 0 None (codes "b")) → ⊥
unfolding digits
not_b same = let h : 97 ≡ 98 = ap (λ (bytes : List ℕ). get_or bytes 13 0) same in omega (arith, h)

not_with : (number : Option ℕ) → spelling_of get_key (Hit 0 None (codes "a")) ≡ spelling_of get_key (Hit 0 number (codes "b")) → ⊥
not_with None same = not_b same
not_with (Some number) same =
    let n = number_read (codes "k") 0 0 None number (codes "a") (codes "b") same in
    none-some n.0 n.1

never_shown : ShowsValue get_key a_hit 0 (codes "b") → ⊥
never_shown shows = not_with shows.0 shows.1

-- no command is after the store and before the get
never_between : (x : Executed early_order (two_histories early_history []) (codes "k")) → ComesFirst the_store x → ComesFirst x the_get → ⊥
never_between x (inl low) (inl high) = let below : x.place < 0 = high in omega (arith, below)
never_between x (inl low) (inr high) = let at : x.place ≡ 0 = high.0 in let above : 0 < x.place = low in omega (arith, at, above)
never_between x (inr low) (inl high) = let below : x.place < 0 = high in omega (arith, below)
never_between x (inr low) (inr high) = let below : x.number < 1 = high.1 in let above : 2 < x.number = low.1 in omega (arith, below, above)

pub early_and_older : (ring : RingState) × (order : Order) × (outs : ℕ → List ℕ) × (histories : ℕ → List Entry) × (log : Log) × IsRing ring
    × Accounts one_home Told ring (opening_cache 1000 10 0) order
    (λ client. if 0 == client then codes "set k 0 0 1\r\na\r\nget k\r\nset k 0 0 1\r\nb\r\n" else []) outs histories log
    × (outs 0 ≡ codes "STORED\r\nVALUE k 0 1\r\na\r\nEND\r\nSTORED\r\n")
    × (write : Executed order histories (codes "k")) × (read : Executed order histories (codes "k")) × StoresWhole write.atom 0 (codes "b")
    × WasDone order log (tag_in write.entry) × IsGet read.atom × WasAnsweredBy order log (tag_in read.entry) (Hit 0 None (codes "a"))
    × (ShowsValue read.atom (Hit 0 None (codes "a")) 0 (codes "b") → ⊥) × ((other : Executed order histories (codes "k")) → ComesBetween write other read → ⊥)
early_and_older = (
  one_server,
  early_order,
  outs_of Told early_order early_log,
  two_histories early_history [],
  early_log,
  one_ring,
  early_accounts,
  put_out,
  the_store,
  the_get,
  record { mode = Set; compare = None; key = codes "k"; exptime = pos 0; stores = refl; whole = refl },
  (Stored, (omega arith, refl), refl),
  (codes "k", None, false, refl),
  (omega arith, refl),
  never_shown,
  λ other between. never_between other between.0 between.1,
)
