-- An account in which a client sets `a` and `b`, and does not wait for the first answer. The second command was lost, and is first in
-- the key's order.
use Rattle.std.proofs.Common.{◌≡◌, ℕ, ◌<◌, ◌==◌, inl, inr, Bool, true, false, if◌then◌else◌, List, [], ◌∷◌, ◌++◌, refl, sym, ap, arith}
use Rattle.std.specs.Prelude.{codes}
use Rattle.std.proofs.lemmas.Bool.{false≢true, true≢false}
use Rattle.std.proofs.lemmas.List.Elements.{All-cons, All-nil}
use Rattle.std.proofs.lemmas.Option.{same_Some}
use Rattle.mc_text.specs.Lines.{first_line, line_end}
use Rattle.mc_text.specs.Words.{words}
use Rattle.mc_request.specs.Names.{name_of}
use Rattle.mc_request.specs.Requests.{next_request, requests_of, requests_within}
use Rattle.mc_reply.specs.declared.replies.Reply.TheVariants.{Stored}
use Rattle.mc_ring.specs.Rings.{IsRing, RingState}
use Rattle.mc_route.specs.declared.losses.Losses.TheVariants.{Told}
use Rattle.mc_route.specs.declared.outcomes.Outcome.TheVariants as outcomes
use Rattle.mc_cache.specs.CacheState.{opening_cache}
use Rattle.mc_account.specs.Lookups.{IsBefore}
use Rattle.mc_account.specs.Orders.{IsSized, Order, TakenRequest}
use Rattle.mc_world.specs.declared.events.Event.TheVariants.{ServerTurn}
use Rattle.mc_world.specs.Accounts.{Accounts}
use Rattle.mc_world.specs.Logs.{Log, number_of}
use Rattle.mc_world.specs.declared.logs.Logged.{Logged}
use Rattle.mc_world.specs.declared.logs.Logged.TheVariants.{Happened}
use Rattle.mc_world.proofs.Log.LifeLemmas.{legal_unrestarted}
use Rattle.mc_history.specs.declared.entries.Entry.{Entry}
use Rattle.mc_history.specs.Histories.{IsLegal, tag_in}
use Rattle.mc_pool_laws.proofs.NeedLemmas.{a_cache, is_lost, loses_one, one_home, one_server, outs_of, puts_one, returns_one, takes_one}
use Rattle.mc_linearizable.specs.Linearizable.{ComesFirst, Executed, WasReplied}
use Rattle.mc_linearizable.proofs.SmallAccounts.{IsKnown, IsSmall, asked_of, at_first, entry_of, first_text, one_ring, puts_if, replied_as, small_accounts, store_asked, store_of, to_first, two_histories}

abbrev two_text : List ℕ
two_text = codes "set k 0 0 1\r\na\r\nset k 0 0 1\r\nb\r\n"

text_read : requests_of (codes "set k 0 0 1\r\na\r\nset k 0 0 1\r\nb\r\n") ≡ store_asked (codes "a") ∷ store_asked (codes "b") ∷ []
unfolding words line_end first_line name_of next_request requests_within requests_of
text_read = refl

-- the requests that were taken: the second command was lost
abbrev first : TakenRequest
first = asked_of one_server 0 (store_asked (codes "a")) (outcomes.Reply Stored)

abbrev second : TakenRequest
second = asked_of one_server 1 (store_asked (codes "b")) outcomes.Lost

abbrev two_order : Order
two_order = first ∷ second ∷ []

-- the entries of the server: the second command, then the first
abbrev stored_b : Entry
stored_b = entry_of 1 (store_of (codes "b")) Stored

abbrev stored_a : Entry
stored_a = entry_of 0 (store_of (codes "a")) Stored

abbrev two_history : List Entry
two_history = stored_b ∷ stored_a ∷ []

abbrev serves_again : Logged
serves_again = Happened (ServerTurn 0 0 2 5)

abbrev two_log : Log
two_log = takes_one ∷ takes_one ∷ loses_one ∷ returns_one ∷ serves_again ∷ serves_again ∷ puts_one ∷ puts_one ∷ []

two_legal : IsLegal two_order 0 a_cache two_history
two_legal = (
  store_of (codes "b"),
  at_first (store_of (codes "b")),
  record { legal = λ h. absurd (false≢true h); refused = refl; reply = refl },
  (
    store_of (codes "a"),
    at_first (store_of (codes "a")),
    record { legal = λ h. absurd (false≢true h); refused = refl; reply = refl },
    tt,
  ),
)

answers_by : (v : Bool) → number_of (puts_if v) two_log ≡ (if v then 2 else 0)
answers_by true = refl
answers_by false = refl

known_first : IsKnown (two_histories two_history []) two_log 0 first
known_first =
    replied_as (two_histories two_history []) two_log 0 first 0 (store_of (codes "a")) Stored 1 stored_a (to_first (store_of (codes "a"))) refl refl refl refl

known_second : IsKnown (two_histories two_history []) two_log 1 second
known_second = record {
  place = 0;
  atom = store_of (codes "b");
  outcome = outcomes.Lost;
  routed = to_first (store_of (codes "b"));
  became = refl;
  told = inr (refl, (0, omega arith, omega arith, omega arith));
}

two_small : IsSmall one_server a_cache two_order two_text two_history [] two_log
two_small = record {
  own = (refl, (refl, tt));
  read = text_read;
  turns = refl;
  numbered = refl;
  rings = (refl, (refl, tt));
  sized = All-cons IsSized first (second ∷ []) refl (All-cons IsSized second [] refl (All-nil IsSized));
  complete = refl;
  known = (known_first, (known_second, tt));
  after = (omega arith, (omega arith, tt));
  answers = λ client. answers_by (0 == client);
  first_legal = legal_unrestarted two_order 0 a_cache two_log two_history refl two_legal;
  second_legal = legal_unrestarted two_order 1 a_cache two_log [] refl tt;
  places = λ request. 0;
  numbers = λ request. if request == 0 then 1 else 0;
  first_sites = ((refl, refl), ((refl, refl), tt));
  second_sites = tt;
  first_placed = ((omega arith, λ reply became. omega arith), ((omega arith, λ reply became. omega arith), tt));
  second_placed = tt;
  first_risen = inl (λ reply became. true≢false (ap is_lost (same_Some outcomes.Lost (outcomes.Reply reply) became)), inr (omega arith, tt));
  second_risen = tt;
  first_lost = λ none. absurd (omega (arith, none));
  second_lost = λ none. refl;
  first_moments = refl;
  second_moments = refl;
  no_moments = λ place differ neither. ap (λ (v : Bool). (if v then 5 ∷ [] else []) ++ ((if v then 5 ∷ [] else []) ++ [])) (sym differ);
}

two_accounts : Accounts one_home Told one_server a_cache two_order (first_text two_text) (outs_of Told two_order two_log) (two_histories two_history []) two_log
two_accounts = small_accounts Told one_server a_cache two_order two_text two_history [] two_log two_small

-- the two commands
abbrev answered : Executed two_order (two_histories two_history []) (codes "k")
answered = record {
  place = 0;
  number = 1;
  entry = stored_a;
  atom = store_of (codes "a");
  at = refl;
  command = at_first (store_of (codes "a"));
  on = refl;
}

abbrev lost : Executed two_order (two_histories two_history []) (codes "k")
lost = record {
  place = 0;
  number = 0;
  entry = stored_b;
  atom = store_of (codes "b");
  at = refl;
  command = at_first (store_of (codes "b"));
  on = refl;
}

never_first : ComesFirst answered lost → ⊥
never_first (inl lower) = let less : 0 < 0 = lower in omega (arith, less)
never_first (inr earlier) = let less : 1 < 0 = earlier.1 in omega (arith, less)

pub early_and_lost : (ring : RingState) × (order : Order) × (outs : ℕ → List ℕ) × (histories : ℕ → List Entry) × (log : Log) × IsRing ring
    × Accounts one_home Told ring (opening_cache 1000 10 0) order (λ client. if 0 == client then codes "set k 0 0 1\r\na\r\nset k 0 0 1\r\nb\r\n" else []) outs histories log
    × (outs 0 ≡ codes "STORED\r\nSERVER_ERROR link lost\r\n")
    × (a : Executed order histories (codes "k")) × (b : Executed order histories (codes "k")) × (a.entry.client ≡ b.entry.client)
    × IsBefore (tag_in a.entry) (tag_in b.entry) × WasReplied order (tag_in a.entry) × (ComesFirst a b → ⊥)
early_and_lost = (
  one_server,
  two_order,
  outs_of Told two_order two_log,
  two_histories two_history [],
  two_log,
  one_ring,
  two_accounts,
  refl,
  answered,
  lost,
  refl,
  inl (omega arith),
  (Stored, refl),
  never_first,
)
