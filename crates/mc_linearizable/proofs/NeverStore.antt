-- An account in which a client is answered that a store is lost, and no server executed the store.
use Rattle.std.proofs.Common.{◌≡◌, ℕ, ◌==◌, inr, Bool, true, false, if◌then◌else◌, List, [], ◌∷◌, refl, arith}
use Rattle.std.specs.Prelude.{codes}
use Rattle.std.proofs.lemmas.List.Elements.{All-cons, All-nil}
use Rattle.mc_text.specs.Lines.{first_line, line_end}
use Rattle.mc_text.specs.Words.{words}
use Rattle.mc_request.specs.Names.{name_of}
use Rattle.mc_request.specs.Requests.{next_request, requests_of, requests_within}
use Rattle.mc_ring.specs.Rings.{IsRing, RingState}
use Rattle.mc_route.specs.declared.losses.Losses.TheVariants.{Told}
use Rattle.mc_route.specs.declared.outcomes.Outcome.TheVariants as outcomes
use Rattle.mc_proxy.specs.Sending.{tag_of}
use Rattle.mc_cache.specs.CacheState.{opening_cache}
use Rattle.mc_account.specs.Orders.{IsSized, Order, TakenRequest}
use Rattle.mc_history.specs.declared.entries.Entry.{Entry}
use Rattle.mc_history.specs.Histories.{HasNone}
use Rattle.mc_world.specs.Accounts.{Accounts, up_when_taken}
use Rattle.mc_world.specs.Logs.{Log, number_of}
use Rattle.mc_world.proofs.Log.LifeLemmas.{legal_unrestarted}
use Rattle.mc_pool_laws.proofs.NeedLemmas.{a_cache, loses_one, one_home, one_server, outs_of, puts_one, takes_one}
use Rattle.mc_linearizable.proofs.SmallAccounts.{IsKnown, IsSmall, asked_of, first_text, no_history, one_ring, puts_if, small_accounts, store_asked, store_of, to_first, two_histories}

abbrev never_text : List ℕ
never_text = codes "set k 0 0 1\r\na\r\n"

text_read : requests_of (codes "set k 0 0 1\r\na\r\n") ≡ store_asked (codes "a") ∷ []
unfolding words line_end first_line name_of next_request requests_within requests_of
text_read = refl

-- the request was taken, its link was lost, and its client was answered
abbrev only : TakenRequest
only = asked_of one_server 0 (store_asked (codes "a")) outcomes.Lost

abbrev never_order : Order
never_order = only ∷ []

abbrev never_log : Log
never_log = takes_one ∷ loses_one ∷ puts_one ∷ []

answers_by : (v : Bool) → number_of (puts_if v) never_log ≡ (if v then 1 else 0)
answers_by true = refl
answers_by false = refl

-- its link was up when it was taken, and lost before its answer
known_only : IsKnown (two_histories [] []) never_log 0 only
known_only = record {
  place = 0;
  atom = store_of (codes "a");
  outcome = outcomes.Lost;
  routed = to_first (store_of (codes "a"));
  became = refl;
  told = inr (refl, (0, omega arith, omega arith, omega arith));
}

never_small : IsSmall one_server a_cache never_order never_text [] [] never_log
never_small = record {
  own = (refl, tt);
  read = text_read;
  turns = refl;
  numbered = refl;
  rings = (refl, tt);
  sized = All-cons IsSized only [] refl (All-nil IsSized);
  complete = refl;
  known = (known_only, tt);
  after = (omega arith, tt);
  answers = λ client. answers_by (0 == client);
  first_legal = legal_unrestarted never_order 0 a_cache never_log [] refl tt;
  second_legal = legal_unrestarted never_order 1 a_cache never_log [] refl tt;
  places = λ request. 0;
  numbers = λ request. 0;
  first_sites = tt;
  second_sites = tt;
  first_placed = tt;
  second_placed = tt;
  first_risen = tt;
  second_risen = tt;
  first_lost = λ none. refl;
  second_lost = λ none. refl;
  first_moments = refl;
  second_moments = refl;
  no_moments = λ place differ neither. refl;
}

never_accounts : Accounts one_home Told one_server a_cache never_order (first_text never_text) (outs_of Told never_order never_log) (two_histories [] []) never_log
never_accounts = small_accounts Told one_server a_cache never_order never_text [] [] never_log never_small

pub never_and_lost : (ring : RingState) × (order : Order) × (outs : ℕ → List ℕ) × (histories : ℕ → List Entry) × (log : Log) × IsRing ring
    × Accounts one_home Told ring (opening_cache 1000 10 0) order (λ client. if 0 == client then codes "set k 0 0 1\r\na\r\n" else []) outs histories log
    × (outs 0 ≡ codes "SERVER_ERROR link lost\r\n") × up_when_taken 0 0 (tag_of 0 0 0) log × ((place : ℕ) → HasNone (histories place) (tag_of 0 0 0))
never_and_lost = (
  one_server,
  never_order,
  outs_of Told never_order never_log,
  two_histories [] [],
  never_log,
  one_ring,
  never_accounts,
  refl,
  refl,
  λ place k e at same. no_history place k e at,
)
