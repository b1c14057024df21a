-- An account in which a client is answered that a store is lost, stores another value, and gets the first: the lost store was executed
-- late.
use Rattle.std.proofs.Common.{◌≡◌, ℕ, ◌<◌, ◌==◌, inl, inr, Bool, true, false, if◌then◌else◌, List, [], ◌∷◌, ◌++◌, None, Some, refl, sym, ap, arith}
use Rattle.std.specs.Prelude.{codes}
use Rattle.std.specs.Fmt.{digits}
use Rattle.std.proofs.lemmas.Bool.{false≢true, true≢false}
use Rattle.std.proofs.lemmas.List.Elements.{All-cons, All-nil}
use Rattle.std.proofs.lemmas.Option.{same_Some}
use Rattle.mc_text.specs.Lines.{first_line, line_end}
use Rattle.mc_text.specs.Words.{words}
use Rattle.mc_request.specs.Names.{name_of}
use Rattle.mc_request.specs.Requests.{next_request, requests_of, requests_within}
use Rattle.mc_reply.specs.declared.replies.Reply.{Reply as AReply}
use Rattle.mc_reply.specs.declared.replies.Reply.TheVariants.{Hit, Stored}
use Rattle.mc_ring.specs.Rings.{IsRing, RingState}
use Rattle.mc_route.specs.declared.losses.Losses.TheVariants.{Told}
use Rattle.mc_route.specs.declared.outcomes.Outcome.TheVariants as outcomes
use Rattle.mc_cache.specs.CacheState.{opening_cache}
use Rattle.mc_account.specs.Orders.{IsSized, Order, TakenRequest}
use Rattle.mc_world.specs.declared.events.Event.TheVariants.{ServerTurn}
use Rattle.mc_world.specs.Accounts.{Accounts}
use Rattle.mc_world.specs.Logs.{Log, number_of}
use Rattle.mc_world.specs.declared.logs.Logged.TheVariants.{Happened}
use Rattle.mc_world.proofs.Log.LifeLemmas.{legal_unrestarted}
use Rattle.mc_history.specs.declared.entries.Entry.{Entry}
use Rattle.mc_history.specs.Histories.{IsLegal, tag_in}
use Rattle.mc_pool_laws.proofs.MissExample.{get_asked, get_key}
use Rattle.mc_pool_laws.proofs.NeedLemmas.{a_cache, is_lost, loses_one, one_home, one_server, outs_of, puts_one, returns_one, serves_one, takes_one}
use Rattle.mc_linearizable.specs.Linearizable.{ComesFirst, Executed, IsEarlier}
use Rattle.mc_linearizable.proofs.SmallAccounts.{IsKnown, IsSmall, asked_of, at_first, entry_of, first_text, one_ring, puts_if, replied_as, small_accounts, store_asked, store_of, to_first, two_histories}

abbrev late_text : List ℕ
late_text = codes "set k 0 0 1\r\na\r\nset k 0 0 1\r\nb\r\nget k\r\n"

abbrev a_hit : AReply (List ℕ)
a_hit = Hit 0 None (codes "a")

text_read : requests_of (codes "set k 0 0 1\r\na\r\nset k 0 0 1\r\nb\r\nget k\r\n") ≡ store_asked (codes "a") ∷ store_asked (codes "b") ∷ get_asked ∷ []
unfolding words line_end first_line name_of next_request requests_within requests_of
text_read = refl

-- the requests that were taken: the first command was lost
abbrev first : TakenRequest
first = asked_of one_server 0 (store_asked (codes "a")) outcomes.Lost

abbrev second : TakenRequest
second = asked_of one_server 1 (store_asked (codes "b")) (outcomes.Reply Stored)

abbrev third : TakenRequest
third = asked_of one_server 2 get_asked (outcomes.Reply a_hit)

abbrev late_order : Order
late_order = first ∷ second ∷ third ∷ []

-- the entries of the server: the second command, then the first, on its lost generation, then the third
abbrev stored_b : Entry
stored_b = entry_of 1 (store_of (codes "b")) Stored

abbrev stored_a : Entry
stored_a = entry_of 0 (store_of (codes "a")) Stored

abbrev found_a : Entry
found_a = entry_of 2 get_key a_hit

abbrev late_history : List Entry
late_history = stored_b ∷ stored_a ∷ found_a ∷ []

abbrev late_log : Log
late_log =
    takes_one ∷ loses_one ∷ puts_one ∷ returns_one ∷ takes_one ∷ Happened (ServerTurn 0 0 2 5) ∷ puts_one ∷ serves_one ∷ takes_one
    ∷ Happened (ServerTurn 0 0 2 5) ∷ puts_one ∷ []

late_legal : IsLegal late_order 0 a_cache late_history
late_legal = (
  store_of (codes "b"),
  at_first (store_of (codes "b")),
  record { legal = λ h. absurd (false≢true h); refused = refl; reply = refl },
  (
    store_of (codes "a"),
    at_first (store_of (codes "a")),
    record { legal = λ h. absurd (false≢true h); refused = refl; reply = refl },
    (
      get_key,
      at_first get_key,
      record { legal = λ h. absurd (false≢true h); refused = refl; reply = refl },
      tt,
    ),
  ),
)

answers_by : (v : Bool) → number_of (puts_if v) late_log ≡ (if v then 3 else 0)
answers_by true = refl
answers_by false = refl

-- the first command was lost: its link was up when it was taken, and lost before its answer
known_first : IsKnown (two_histories late_history []) late_log 0 first
known_first = record {
  place = 0;
  atom = store_of (codes "a");
  outcome = outcomes.Lost;
  routed = to_first (store_of (codes "a"));
  became = refl;
  told = inr (refl, (0, omega arith, omega arith, omega arith));
}

known_second : IsKnown (two_histories late_history []) late_log 1 second
known_second =
    replied_as (two_histories late_history []) late_log 1 second 0 (store_of (codes "b")) Stored 0 stored_b (to_first (store_of (codes "b"))) refl refl refl refl

known_third : IsKnown (two_histories late_history []) late_log 2 third
known_third = replied_as (two_histories late_history []) late_log 2 third 0 get_key a_hit 2 found_a (to_first get_key) refl refl refl refl

never_replied : (reply : AReply (List ℕ)) → Some outcomes.Lost ≡ Some (outcomes.Reply reply) → ⊥
never_replied reply became = true≢false (ap is_lost (same_Some outcomes.Lost (outcomes.Reply reply) became))

late_small : IsSmall one_server a_cache late_order late_text late_history [] late_log
late_small = record {
  own = (refl, (refl, (refl, tt)));
  read = text_read;
  turns = refl;
  numbered = refl;
  rings = (refl, (refl, (refl, tt)));
  sized = All-cons IsSized first (second ∷ third ∷ []) refl (All-cons IsSized second (third ∷ []) refl (All-cons IsSized third [] refl (All-nil IsSized)));
  complete = refl;
  known = (known_first, (known_second, (known_third, tt)));
  after = (omega arith, (omega arith, (omega arith, tt)));
  answers = λ client. answers_by (0 == client);
  first_legal = legal_unrestarted late_order 0 a_cache late_log late_history refl late_legal;
  second_legal = legal_unrestarted late_order 1 a_cache late_log [] refl tt;
  places = λ request. 0;
  numbers = λ request. if request == 0 then 1 else if request == 1 then 0 else 2;
  first_sites = ((refl, refl), ((refl, refl), ((refl, refl), tt)));
  second_sites = tt;
  first_placed = (
    (omega arith, λ reply became. omega arith),
    ((omega arith, λ reply became. absurd (never_replied reply became)), ((omega arith, λ reply became. omega arith), tt)),
  );
  second_placed = tt;
  first_risen = inr (omega arith, inl (λ reply became. never_replied reply became, inr (omega arith, tt)));
  second_risen = tt;
  first_lost = λ none. absurd (omega (arith, none));
  second_lost = λ none. refl;
  first_moments = refl;
  second_moments = refl;
  no_moments = λ place differ neither.
      ap (λ (v : Bool). (if v then 5 ∷ [] else []) ++ ((if v then 5 ∷ [] else []) ++ ((if v then 5 ∷ [] else []) ++ []))) (sym differ);
}

late_accounts : Accounts one_home Told one_server a_cache late_order (first_text late_text) (outs_of Told late_order late_log) (two_histories late_history []) late_log
late_accounts = small_accounts Told one_server a_cache late_order late_text late_history [] late_log late_small

-- the answers to the client
put_out : outs_of Told late_order late_log 0 ≡ codes "SERVER_ERROR link lost\r\nSTORED\r\nVALUE k 0 1\r\na\r\nEND\r\n"
unfolding digits
put_out = refl

-- the two stores
abbrev lost_store : Executed late_order (two_histories late_history []) (codes "k")
lost_store = record {
  place = 0;
  number = 1;
  entry = stored_a;
  atom = store_of (codes "a");
  at = refl;
  command = at_first (store_of (codes "a"));
  on = refl;
}

abbrev other_store : Executed late_order (two_histories late_history []) (codes "k")
other_store = record {
  place = 0;
  number = 0;
  entry = stored_b;
  atom = store_of (codes "b");
  at = refl;
  command = at_first (store_of (codes "b"));
  on = refl;
}

never_first : ComesFirst lost_store other_store → ⊥
never_first (inl lower) = let less : 0 < 0 = lower in omega (arith, less)
never_first (inr earlier) = let less : 1 < 0 = earlier.1 in omega (arith, less)

pub late_and_lost : (ring : RingState) × (order : Order) × (outs : ℕ → List ℕ) × (histories : ℕ → List Entry) × (log : Log) × IsRing ring
    × Accounts one_home Told ring (opening_cache 1000 10 0) order
    (λ client. if 0 == client then codes "set k 0 0 1\r\na\r\nset k 0 0 1\r\nb\r\nget k\r\n" else []) outs histories log
    × (outs 0 ≡ codes "SERVER_ERROR link lost\r\nSTORED\r\nVALUE k 0 1\r\na\r\nEND\r\n")
    × (a : Executed order histories (codes "k")) × (b : Executed order histories (codes "k"))
    × IsEarlier (tag_in a.entry) (tag_in b.entry) log × (ComesFirst a b → ⊥)
late_and_lost = (
  one_server,
  late_order,
  outs_of Told late_order late_log,
  two_histories late_history [],
  late_log,
  one_ring,
  late_accounts,
  put_out,
  lost_store,
  other_store,
  omega arith,
  never_first,
)
