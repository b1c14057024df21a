-- Each key of an account is linearizable.
use Rattle.std.proofs.Common.{◌≡◌, ◌∙◌, ⊎_elim, ℕ, ◌<◌, ◌≤◌, inl, inr, true, List, [], ◌∷◌, ◌++◌, Some, slice_get, refl, sym, ap, subst, arith}
use Rattle.std.proofs.lemmas.Bool.{cases_lt}
use Rattle.mc_request.specs.declared.parts.Atom.{Atom}
use Rattle.mc_ring.specs.Rings.{IsRing, RingState}
use Rattle.mc_route.specs.declared.losses.Losses.{Losses}
use Rattle.mc_route.specs.Routes.{owner_in, to_place}
use Rattle.mc_route.specs.declared.outcomes.Outcome.{Outcome}
use Rattle.mc_route.specs.declared.outcomes.Outcome.TheVariants.{Awaited, Lost, Reply}
use Rattle.mc_link.specs.declared.turns.Tag.{Tag}
use Rattle.mc_cache.specs.CacheState.{CacheState, IsWithinBounds, opening_cache}
use Rattle.mc_account.specs.Lookups.{asked_at, command_at}
use Rattle.mc_account.specs.Orders.{Order, TakenRequest}
use Rattle.mc_history.specs.declared.entries.Entry.{Entry}
use Rattle.mc_history.specs.Histories.{tag_in}
use Rattle.mc_registers.specs.Laws.{is_on}
use Rattle.mc_registers.proofs.RunLemmas.{opening-knows}
use Rattle.mc_registers.proofs.RecordLemmas.{recorded-runs}
use Rattle.mc_world.specs.Accounts.{Accounts}
use Rattle.mc_world.specs.Homes.{Homes, home_in}
use Rattle.mc_world.specs.Logs.{IsRingAfter, Log, before, in_life, number_of, puts, serves, takes}
use Rattle.mc_world.specs.Runs.{Call, Calls}
use Rattle.mc_world.specs.declared.logs.Logged.TheVariants.{Happened, Joined, Restarted}
use Rattle.mc_world.specs.Steps.{GivesAccount}
use Rattle.mc_world.specs.WorldState.{home_of}
use Rattle.mc_world.specs.Worlds.{CourseState, WorldState, history_of, homes_from, put_out_of, text_of, world_opened}
use Rattle.mc_world.proofs.Log.LogLemmas.{number-before}
use Rattle.mc_world.proofs.Course.HomeLemmas.{calls_homes}
use Rattle.mc_world.proofs.Course.RunLemmas.{calls_account}
use Rattle.mc_pool_laws.specs.OneMaps.{joins}
use Rattle.mc_pool_laws.specs.Outcomes.{HasOutcomeBy}
use Rattle.mc_pool_laws.proofs.OneMapOwnerLemmas.{command_own}
use Rattle.mc_pool_laws.proofs.PlaceLemmas.{before-front}
use Rattle.mc_pool_laws.proofs.OutcomeLemmas.{known_at, told_by}
use Rattle.mc_linearizable.specs.Linearizable.{Became, ComesFirst, Executed, IsAccountedWorld, IsEarlier, IsLinearizable, IsLinearizablePool, IsLinearizableWorld, IsNotRoutedBack, WasReplied, joined_to}
use Rattle.mc_linearizable.proofs.MoveLemmas.{grown_lower, had_lower, has_key, kept_lower, stays_lower, taken_lower}
use Rattle.mc_linearizable.proofs.TimeLemmas.{number_later, taken_earlier}

-- a command that was answered by its reply before another was taken was not executed after it, nor at its turn
not_later : (home : Homes) (losses : Losses) (ring : RingState) (opening : CacheState) (order : Order) (texts outs : ℕ → List ℕ) (histories : ℕ → List Entry) (log : Log)
    → Accounts home losses ring opening order texts outs histories log → (place j k : ℕ) (d e : Entry) → slice_get (histories place) j ≡ Some d
    → slice_get (histories place) k ≡ Some e → j ≤ k → WasReplied order (tag_in e) → IsEarlier (tag_in e) (tag_in d) log → ⊥
not_later home losses ring opening order texts outs histories log h place j k d e at also less replied earlier =
    let taken : d.request < number_of (takes d.client) (before (serves place) j log) = (h.placed place j d at).0 in
    let waits : number_of (puts e.client) (before (serves place) k log) ≤ e.request = (h.placed place k e also).1 replied.0 replied.1 in
    let more = number_later (takes d.client) (serves place) j k log less in
    let same = before-front (takes d.client) (serves place) d.request k log (omega (arith, taken, more)) in
    let few = number-before (puts e.client) (takes d.client) d.request (before (serves place) k log) in
    let answered : e.request < number_of (puts e.client) (before (takes d.client) d.request (before (serves place) k log)) =
    subst (λ (l : Log). e.request < number_of (puts e.client) l) same earlier in
    omega (arith, answered, few, waits)

keeps_time : (home : Homes) (losses : Losses) (ring : RingState) (opening : CacheState) (order : Order) (texts outs : ℕ → List ℕ) (histories : ℕ → List Entry) (log : Log)
    → Accounts home losses ring opening order texts outs histories log → IsRing ring → (key : List ℕ) (a b : Executed order histories key) → WasReplied order (tag_in a.entry)
    → IsEarlier (tag_in a.entry) (tag_in b.entry) log → IsNotRoutedBack home log a b → ComesFirst a b
keeps_time home losses ring opening order texts outs histories log h good key a b replied earlier along =
    let early = taken_earlier home losses ring opening order texts outs histories log h (tag_in a.entry) (tag_in b.entry) earlier in
    let lower : a.place ≤ b.place = elim along [
      | inl one ↦ taken_lower home losses ring opening order texts outs histories log h good key (tag_in a.entry) (tag_in b.entry) a.place b.place a.atom b.atom
          a.command b.command a.on b.on one early
      | inr other ↦ elim other [
        | inl stays ↦ stays
        | inr has ↦ had_lower home losses ring opening order texts outs histories log h good key (tag_in a.entry) (tag_in b.entry) a.place b.place a.atom b.atom
            a.command b.command a.on b.on has
      ]
    ] in
    ⊎_elim
    (λ less. inl less)
    (λ not_less.
    let same : a.place ≡ b.place = omega (arith, lower, not_less) in
    let at : slice_get (histories b.place) a.number ≡ Some a.entry = subst (λ (p : ℕ). slice_get (histories p) a.number ≡ Some a.entry) same a.at in
    ⊎_elim
    (λ less. inr (same, less))
    (λ late. absurd (not_later home losses ring opening order texts outs histories log h b.place b.number a.number b.entry a.entry b.at at late replied earlier))
    (cases_lt a.number b.number))
    (cases_lt a.place b.place)

-- a key is not routed back if its owner is no lower, by rings that grow, nor if no server joins
pub not_back_kept : (home : Homes) (losses : Losses) (ring : RingState) (opening : CacheState) (order : Order) (texts outs : ℕ → List ℕ) (histories : ℕ → List Entry) (log : Log)
    → Accounts home losses ring opening order texts outs histories log → (key : List ℕ) (a b : Executed order histories key) (old new : RingState)
    → IsRingAfter (home a.entry.client) ring (before (takes a.entry.client) a.entry.request log) old
    → IsRingAfter (home b.entry.client) ring (before (takes b.entry.client) b.entry.request log) new
    → owner_in old key ≤ owner_in new key → IsNotRoutedBack home log a b
not_back_kept home losses ring opening order texts outs histories log h key a b old new is_old is_new kept =
    inr (inl (kept_lower home losses ring opening order texts outs histories log h key (tag_in a.entry) (tag_in b.entry) a.place b.place a.atom b.atom
    a.command b.command a.on b.on old new is_old is_new kept))

pub not_back : (home : Homes) (losses : Losses) (ring : RingState) (opening : CacheState) (order : Order) (texts outs : ℕ → List ℕ) (histories : ℕ → List Entry) (log : Log)
    → IsRing ring → Accounts home losses ring opening order texts outs histories log → (key : List ℕ) (a b : Executed order histories key) (old new : RingState)
    → IsRingAfter (home a.entry.client) ring (before (takes a.entry.client) a.entry.request log) old
    → IsRingAfter (home b.entry.client) ring (before (takes b.entry.client) b.entry.request log) new
    → (more : List (List ℕ)) → new.servers ≡ old.servers ++ more → IsNotRoutedBack home log a b
not_back home losses ring opening order texts outs histories log good h key a b old new is_old is_new more grows =
    inr (inl (grown_lower home losses ring opening order texts outs histories log h good key (tag_in a.entry) (tag_in b.entry) a.place b.place a.atom b.atom
    a.command b.command a.on b.on old new is_old is_new more grows))

pub not_back_unjoined : (home : Homes) (losses : Losses) (ring : RingState) (opening : CacheState) (order : Order) (texts outs : ℕ → List ℕ) (histories : ℕ → List Entry) (log : Log)
    → Accounts home losses ring opening order texts outs histories log → number_of joins log ≡ 0 → (key : List ℕ) (a b : Executed order histories key)
    → IsNotRoutedBack home log a b
not_back_unjoined home losses ring opening order texts outs histories log h none key a b =
    let here = command_own home losses ring opening order texts outs histories log h none (tag_in a.entry) a.place a.atom a.command key (has_key key a.atom a.on) in
    let there = command_own home losses ring opening order texts outs histories log h none (tag_in b.entry) b.place b.atom b.command key (has_key key b.atom b.on) in
    inr (inl (omega (arith, here, there)))

-- so the order of a key keeps to real time between two commands if it has one owner by the rings of both
pub stays_in_time : (home : Homes) (losses : Losses) (ring : RingState) (opening : CacheState) (order : Order) (texts outs : ℕ → List ℕ) (histories : ℕ → List Entry) (log : Log)
    → IsRing ring → Accounts home losses ring opening order texts outs histories log → (key : List ℕ) (a b : Executed order histories key) (e f : TakenRequest)
    → asked_at order a.entry.client a.entry.request ≡ Some e → asked_at order b.entry.client b.entry.request ≡ Some f → owner_in e.ring key ≡ owner_in f.ring key
    → WasReplied order (tag_in a.entry) → IsEarlier (tag_in a.entry) (tag_in b.entry) log → ComesFirst a b
stays_in_time home losses ring opening order texts outs histories log good h key a b e f asked also same replied earlier =
    keeps_time home losses ring opening order texts outs histories log h good key a b replied earlier
    (inr (inl (stays_lower order key (tag_in a.entry) (tag_in b.entry) a.place b.place a.atom b.atom a.command b.command a.on b.on e f asked also same)))

-- no server has joined at a proxy by a log that has no join
none_joined : (proxy place : ℕ) (log : Log) → number_of joins log ≡ 0 → joined_to proxy place log ≡ []
none_joined proxy place [] none = refl
none_joined proxy place (Happened event ∷ es) none = none_joined proxy place es none
none_joined proxy place (Joined of server address up ∷ es) none = absurd (omega (arith, none))
none_joined proxy place (Restarted server ∷ es) none = none_joined proxy place es none

-- so in a linearizable pool without a join the order keeps to real time between all commands
pub unjoined_in_time : (home : Homes) (losses : Losses) (counter : ℕ) (order : Order) (texts outs : ℕ → List ℕ) (histories : ℕ → List Entry) (log : Log)
    → IsLinearizablePool home losses counter order texts outs histories log → number_of joins log ≡ 0 → (key : List ℕ) (a b : Executed order histories key)
    → WasReplied order (tag_in a.entry) → IsEarlier (tag_in a.entry) (tag_in b.entry) log → ComesFirst a b
unjoined_in_time home losses counter order texts outs histories log pool none key a b replied earlier =
    let none_before : (client request : ℕ) → number_of joins (before (takes client) request log) ≡ 0 = λ client request.
    let few = number-before joins (takes client) request log in
    omega (arith, few, none) in
    (pool.keys key).in_time a b replied earlier
    (inr (inr (none_joined (home b.entry.client) a.place (before (takes b.entry.client) b.entry.request log) (none_before b.entry.client b.entry.request)
    ∙ sym (none_joined (home a.entry.client) a.place (before (takes a.entry.client) a.entry.request log) (none_before a.entry.client a.entry.request)))))

-- the outcome of a command on the key
became_by : (home : Homes) (order : Order) (histories : ℕ → List Entry) (log : Log) (key : List ℕ) (tag : Tag) (place : ℕ) (atom : Atom (List ℕ)) (outcome : Outcome)
    → command_at order tag ≡ Some (to_place place atom) → is_on key atom ≡ true → HasOutcomeBy home histories log tag (to_place place atom) outcome
    → Became home order histories log key tag place atom outcome
became_by home order histories log key tag place atom (Reply reply) at on told = (
  record {
    place = place;
    number = told.0;
    entry = told.1;
    atom = atom;
    at = told.2;
    command = ap (λ (t : Tag). command_at order t) told.3 ∙ at;
    on = on;
  },
  told.3,
  told.4,
)
became_by home order histories log key tag place atom Lost at on told = told
became_by home order histories log key tag place atom Awaited at on told = told

pub linearizable : (home : Homes) (losses : Losses) (ring : RingState) (budget items counter : ℕ) (order : Order) (texts outs : ℕ → List ℕ) (histories : ℕ → List Entry) (log : Log)
    → IsRing ring → IsWithinBounds budget items → Accounts home losses ring (opening_cache budget items counter) order texts outs histories log
    → (key : List ℕ) → IsLinearizable home counter order histories log key
linearizable home losses ring budget items counter order texts outs histories log good bounds h key = record {
  lives = λ place life.
      let all = recorded-runs order place (in_life place life log (histories place)) (opening_cache budget items counter) counter
      (λ k. opening-knows budget items counter k bounds) (h.legal place life) in
      (all.0, all.1, all.2 key);
  in_time = keeps_time home losses ring (opening_cache budget items counter) order texts outs histories log h good key;
  told = λ tag place atom at on answered.
      let known = known_at home losses ring (opening_cache budget items counter) order texts outs histories log h tag (to_place place atom) at answered in (
        known.0,
        known.1,
        became_by home order histories log key tag place atom known.0 at on
            (told_by home losses ring (opening_cache budget items counter) order texts outs histories log h tag (to_place place atom) known.0 at known.1 known.2),
      );
  once = λ a b same. h.once a.place b.place a.number b.number a.entry b.entry a.at b.at same;
}

pub pool_linearizable : (home : Homes) (losses : Losses) (ring : RingState) (budget items counter : ℕ) (order : Order) (texts outs : ℕ → List ℕ) (histories : ℕ → List Entry) (log : Log)
    → IsRing ring → IsWithinBounds budget items → Accounts home losses ring (opening_cache budget items counter) order texts outs histories log
    → IsLinearizablePool home losses counter order texts outs histories log
pool_linearizable home losses ring budget items counter order texts outs histories log good bounds h = record {
  asked = h.asked;
  turns = h.turns;
  sized = h.sized;
  put = h.put;
  after = h.after;
  told = λ tag place atom at answered.
      let known = known_at home losses ring (opening_cache budget items counter) order texts outs histories log h tag (to_place place atom) at answered in (
        known.0,
        known.1,
        told_by home losses ring (opening_cache budget items counter) order texts outs histories log h tag (to_place place atom) known.0 at known.1 known.2,
      );
  moments = h.moments;
  keys = linearizable home losses ring budget items counter order texts outs histories log good bounds h;
}

pub run_linearizable : (losses : Losses) (ring : RingState) (clients : List ℕ) (budget items : ℕ) (calls : List Call) (c : CourseState) → IsRing ring → IsWithinBounds budget items
    → Calls (opening_cache budget items 0) calls (world_opened losses ring clients budget items).course c
    → (order : Order) × Accounts (home_in (homes_from 0 clients)) losses ring (opening_cache budget items 0) order (text_of c) (put_out_of c) (history_of c) c.log
    × IsLinearizablePool (home_in (homes_from 0 clients)) losses 0 order (text_of c) (put_out_of c) (history_of c) c.log
run_linearizable losses ring clients budget items calls c good bounds called =
    let account = calls_account losses ring clients budget items calls c good bounds called in
    let home = home_in (homes_from 0 clients) in
    (account.0, account.1, pool_linearizable home losses ring budget items 0 account.0 (text_of c) (put_out_of c) (history_of c) c.log good bounds account.1)

-- each client keeps its proxy
pub run_homes : (losses : Losses) (ring : RingState) (clients : List ℕ) (budget items : ℕ) (calls : List Call) (c : CourseState)
    → Calls (opening_cache budget items 0) calls (world_opened losses ring clients budget items).course c → c.pool.homes ≡ homes_from 0 clients
run_homes losses ring clients budget items calls c called = calls_homes (opening_cache budget items 0) calls (world_opened losses ring clients budget items).course c called

pub world_accounted : (w : WorldState) → IsRing w.opening → IsWithinBounds w.budget w.items → GivesAccount w → IsAccountedWorld w
world_accounted w good bounds account = (
  account.0,
  account.1,
  pool_linearizable (home_of w.course.pool) w.losses w.opening w.budget w.items 0 account.0 (text_of w.course) (put_out_of w.course) (history_of w.course) w.course.log good bounds account.1,
)

pub world_linearizable : (w : WorldState) → IsRing w.opening → IsWithinBounds w.budget w.items → GivesAccount w → IsLinearizableWorld w
world_linearizable w good bounds account = (
  account.0,
  pool_linearizable (home_of w.course.pool) w.losses w.opening w.budget w.items 0 account.0 (text_of w.course) (put_out_of w.course) (history_of w.course) w.course.log good bounds account.1,
)
