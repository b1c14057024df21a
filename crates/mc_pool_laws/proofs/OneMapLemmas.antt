-- Histories of an account that are those of one map.
use Rattle.std.proofs.Common.{◌≡◌, ◌∙◌, ℕ, suc, List, [], ◌∷◌, length, map, Option, Some, refl, sym, ap, ap₂, subst, arith}
use Rattle.std.specs.Option.{option_map}
use Rattle.std.proofs.lemmas.List.{length-map}
use Rattle.mc_request.specs.declared.parts.Atom.{Atom}
use Rattle.mc_ring.specs.Rings.{RingState}
use Rattle.mc_route.specs.declared.losses.Losses.{Losses}
use Rattle.mc_route.specs.Routes.{owner_in, to_place}
use Rattle.mc_route.specs.declared.routes.Routed.{Routed}
use Rattle.mc_link.specs.declared.turns.Tag.{Tag}
use Rattle.mc_cache.specs.CacheState.{CacheState, IsWithinBounds, opening_cache}
use Rattle.mc_cache.specs.Replay.{Command, replies}
use Rattle.mc_cache.specs.Step.{atom_key, step_of}
use Rattle.mc_cache_laws.specs.Pools.{ActAsMap, ArePlainSteps, Caches, Executed, StepPlainly, commands_at, empty_map, opening_caches}
use Rattle.mc_cache_laws.proofs.OneMapLemmas.{act_as_map, opening_are_map, opening_are_unflushed}
use Rattle.mc_account.specs.Lookups.{command_at}
use Rattle.mc_account.specs.Orders.{Order}
use Rattle.mc_history.specs.declared.entries.Entry.{Entry}
use Rattle.mc_history.specs.Histories.{IsLegal, tag_in}
use Rattle.mc_world.specs.Accounts.{Accounts}
use Rattle.mc_world.specs.Homes.{Homes}
use Rattle.mc_world.specs.Logs.{Log, number_of, restarts, serves}
use Rattle.mc_world.specs.Steps.{GivesAccount}
use Rattle.mc_world.specs.WorldState.{home_of}
use Rattle.mc_world.specs.Worlds.{WorldState, history_of, put_out_of, text_of}
use Rattle.mc_world.proofs.Log.LifeLemmas.{whole_life}
use Rattle.mc_world.proofs.Log.LogLemmas.{moments-count}
use Rattle.mc_pool_laws.specs.Executions.{LookUp, command_in_entry, commands_of, executed, reply_texts, sent_at, turns_of, with_command}
use Rattle.mc_pool_laws.specs.OneMaps.{ActsAsOneMap, ArePlainlyOfOneMap}
use Rattle.mc_pool_laws.proofs.MergeLemmas.{AreOwned, HaveTurns, merged-own, merged-owned, turns-count}
use Rattle.mc_pool_laws.proofs.OneMapOwnerLemmas.{command_is_sent, command_own}

-- each command of the order is found
abbrev Finds : LookUp → Order → Type 0
Finds look order = (tag : Tag) (command : Routed) → command_at order tag ≡ Some command → look tag ≡ Some command

-- the commands of a history whose first entry is of a command of the order
commands-first : (look : LookUp) (order : Order) → Finds look order → (e : Entry) (es : List Entry) (command : Routed) → command_at order (tag_in e) ≡ Some command
    → commands_of look (e ∷ es) ≡ command_in_entry e command ∷ commands_of look es
commands-first look order finds e es command at =
    ap (λ (o : Option Routed). with_command (option_map (command_in_entry e) o) (commands_of look es)) (finds (tag_in e) command at)

-- a legal history has a command for each entry
commands-many : (look : LookUp) (order : Order) → Finds look order → (place : ℕ) (s : CacheState) (es : List Entry) → IsLegal order place s es
    → length (commands_of look es) ≡ length es
commands-many look order finds place s [] legal = refl
commands-many look order finds place s (e ∷ es) legal =
    ap (λ (cs : List Command). length cs) (commands-first look order finds e es (to_place place legal.0) legal.1)
    ∙ ap suc (commands-many look order finds place (step_of s legal.0 e.moment e.refused).0 es legal.3)

-- its replies are those of the cache, encoded
replies-told : (look : LookUp) (order : Order) → Finds look order → (place : ℕ) (s : CacheState) (es : List Entry) → IsLegal order place s es
    → map (λ (e : Entry). e.reply) es ≡ reply_texts (commands_of look es) (replies s (commands_of look es))
replies-told look order finds place s [] legal = refl
replies-told look order finds place s (e ∷ es) legal =
    let after : CacheState = (step_of s legal.0 e.moment e.refused).0 in
    ap₂ (λ (r : List ℕ) (rs : List (List ℕ)). r ∷ rs) legal.2.reply (replies-told look order finds place after es legal.3)
    ∙ sym (ap (λ (cs : List Command). reply_texts cs (replies s cs)) (commands-first look order finds e es (to_place place legal.0) legal.1))

-- its commands are on keys of this server, if those of the order are
history-owned : (owner : List ℕ → ℕ) (look : LookUp) (order : Order) → Finds look order
    → ((tag : Tag) (place : ℕ) (atom : Atom (List ℕ)) → command_at order tag ≡ Some (to_place place atom) → (key : List ℕ) → atom_key atom ≡ Some key → place ≡ owner key)
    → (place : ℕ) (s : CacheState) (es : List Entry) → IsLegal order place s es → AreOwned owner place (commands_of look es)
history-owned owner look order finds own place s [] legal = tt
history-owned owner look order finds own place s (e ∷ es) legal =
    subst (λ (cs : List Command). AreOwned owner place cs) (sym (commands-first look order finds e es (to_place place legal.0) legal.1)) (
      own (tag_in e) place legal.0 legal.1,
      history-owned owner look order finds own place (step_of s legal.0 e.moment e.refused).0 es legal.3,
    )

-- the history of a server that never restarted is legal
legal_whole : (home : Homes) (losses : Losses) (ring : RingState) (opening : CacheState) (order : Order) (texts outs : ℕ → List ℕ) (histories : ℕ → List Entry) (log : Log)
    → Accounts home losses ring opening order texts outs histories log → (place : ℕ) → number_of (restarts place) log ≡ 0 → IsLegal order place opening (histories place)
legal_whole home losses ring opening order texts outs histories log h place alive =
    let size : length (histories place) ≡ number_of (serves place) log =
    sym (length-map (histories place) (λ (e : Entry). e.moment)) ∙ ap (λ (ms : List ℕ). length ms) (h.moments place) ∙ moments-count place log in
    subst (λ (es : List Entry). IsLegal order place opening es) (whole_life place log (histories place) alive size) (h.legal place 0)

-- a history has a command for each turn of its server
history-turns : (home : Homes) (losses : Losses) (ring : RingState) (opening : CacheState) (look : LookUp) (order : Order) (texts outs : ℕ → List ℕ) (histories : ℕ → List Entry) (log : Log) → Finds look order
    → Accounts home losses ring opening order texts outs histories log → ((place : ℕ) → number_of (restarts place) log ≡ 0)
    → HaveTurns (λ place. commands_of look (histories place)) (turns_of log)
history-turns home losses ring opening look order texts outs histories log finds h alive place =
    let legal = legal_whole home losses ring opening order texts outs histories log h place (alive place) in
    grind (arith, length-map, moments-count, turns-count, commands-many)

-- the histories are those of one map, if all commands of the order are found
one-map : (home : Homes) (losses : Losses) (ring : RingState) (budget items : ℕ) (look : LookUp) (order : Order) (texts outs : ℕ → List ℕ) (histories : ℕ → List Entry) (log : Log) → IsWithinBounds budget items
    → Accounts home losses ring (opening_cache budget items 0) order texts outs histories log → Finds look order → ArePlainlyOfOneMap ring budget items look histories log
one-map home losses ring budget items look order texts outs histories log bounds h finds run =
    let opening : CacheState = opening_cache budget items 0 in
    let caches : Caches = opening_caches budget items 0 in
    let es : List Executed = executed look histories log in
    let legal : (place : ℕ) → IsLegal order place opening (histories place) =
    λ place. legal_whole home losses ring opening order texts outs histories log h place (run.alive place) in
    let all : (place : ℕ) → commands_at place es ≡ commands_of look (histories place) =
    merged-own (turns_of log) (λ place. commands_of look (histories place)) (history-turns home losses ring opening look order texts outs histories log finds h run.alive) in
    let steps : StepPlainly (owner_in ring) caches es = record {
      at_owners = merged-owned (owner_in ring) (turns_of log) (λ place. commands_of look (histories place))
          (λ place. history-owned (owner_in ring) look order finds (command_own home losses ring opening order texts outs histories log h run.unjoined) place opening (histories place) (legal place));
      plain = λ place. subst (λ (cs : List Command). ArePlainSteps opening cs) (sym (all place)) (run.plain place);
    } in
    let act : ActAsMap (owner_in ring) empty_map caches es =
    act_as_map (owner_in ring) empty_map caches es (opening_are_map (owner_in ring) budget items 0) (opening_are_unflushed budget items 0 bounds) steps in
    grind (arith, replies-told)

-- in the order itself all commands are found; and in what was sent too, if no server joined
pub map_by_order : (home : Homes) (losses : Losses) (ring : RingState) (budget items : ℕ) (order : Order) (texts outs : ℕ → List ℕ) (histories : ℕ → List Entry) (log : Log) → IsWithinBounds budget items
    → Accounts home losses ring (opening_cache budget items 0) order texts outs histories log → ArePlainlyOfOneMap ring budget items (command_at order) histories log
map_by_order home losses ring budget items order texts outs histories log bounds h = one-map home losses ring budget items (command_at order) order texts outs histories log bounds h (λ tag command at. at)

pub map_by_texts : (home : Homes) (losses : Losses) (ring : RingState) (budget items : ℕ) (order : Order) (texts outs : ℕ → List ℕ) (histories : ℕ → List Entry) (log : Log) → IsWithinBounds budget items
    → Accounts home losses ring (opening_cache budget items 0) order texts outs histories log → ArePlainlyOfOneMap ring budget items (sent_at ring texts) histories log
map_by_texts home losses ring budget items order texts outs histories log bounds h run =
    one-map home losses ring budget items (sent_at ring texts) order texts outs histories log bounds h
    (command_is_sent home losses ring (opening_cache budget items 0) order texts outs histories log h run.unjoined) run

-- this holds of a world that gives account
pub one_map_of : (w : WorldState) → IsWithinBounds w.budget w.items → GivesAccount w → ActsAsOneMap w
one_map_of w bounds account = record {
  account = account;
  by_texts = map_by_texts (home_of w.course.pool) w.losses w.opening w.budget w.items account.0 (text_of w.course) (put_out_of w.course) (history_of w.course) w.course.log bounds account.1;
  by_order = λ order h. map_by_order (home_of w.course.pool) w.losses w.opening w.budget w.items order (text_of w.course) (put_out_of w.course) (history_of w.course) w.course.log bounds h;
}
