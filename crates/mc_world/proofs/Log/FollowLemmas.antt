-- If a proxy's link was never down, its server took the first of that proxy's commands to it, in the order in which it took the requests.
use Rattle.std.proofs.Common.{◌≡◌, ◌≢◌, ◌∙◌, ⊎_elim, ℕ, zero, suc, ◌+◌, ◌≤◌, ◌==◌, inl, inr, Bool, true, false, if◌then◌else◌, List, [], ◌∷◌, ◌++◌, length, map, take, Some, slice_get, refl, sym, ap, subst, arith}
use Rattle.std.proofs.lemmas.Bool.{cases_lt, false≢true, true≢false}
use Rattle.std.proofs.lemmas.Bool.Decides.{eqb_tells}
use Rattle.std.proofs.lemmas.List.{map-append}
use Rattle.std.proofs.lemmas.Option.{none-some, same_Some}
use Rattle.mc_reply.specs.declared.replies.Reply.{Reply as AReply}
use Rattle.mc_ring.specs.Rings.{RingState}
use Rattle.mc_route.specs.Routes.{to_place}
use Rattle.mc_route.specs.declared.outcomes.Outcome.{Outcome}
use Rattle.mc_route.specs.declared.outcomes.Outcome.TheVariants.{Awaited, Lost, Reply}
use Rattle.mc_link.specs.LinkState.{LinkState}
use Rattle.mc_link.specs.declared.turns.Tag.{Tag}
use Rattle.mc_cache.specs.CacheState.{CacheState}
use Rattle.mc_proxy.specs.Emits.{is_noted}
use Rattle.mc_account.specs.Lanes.{Lane}
use Rattle.mc_account.specs.Orders.{AreInOrder, Order, Tagged, commands_to, entries_of}
use Rattle.mc_account.proofs.OpenSessions.{other_number, own_number}
use Rattle.mc_account.proofs.RisingLemmas.{past_front}
use Rattle.mc_account.proofs.TagLemmas.{count_to, same_tag_self, tag_once}
use Rattle.mc_account.proofs.ThereLemmas.{command_is_there}
use Rattle.mc_account.proofs.WithinLemmas.{commands_within}
use Rattle.mc_history.specs.Histories.{tag_in}
use Rattle.mc_history.specs.Made.{Made, commands_on, entry_of, made_on}
use Rattle.mc_history.specs.Named.{is_tag, tags_made, tags_of, times}
use Rattle.mc_history.specs.declared.entries.Entry.{Entry}
use Rattle.mc_history.proofs.OutcomeLemmas.{named_made}
use Rattle.mc_world.specs.Accounts.{WasNeverSentOrLost}
use Rattle.mc_world.specs.CourseHolds.{HaveNothingBefore}
use Rattle.mc_world.specs.Homes.{Homes, of_proxy, tags_through}
use Rattle.mc_world.specs.LogHolds.{LogHolds}
use Rattle.mc_world.specs.Logs.{Log, before, drops, number_of, takes}
use Rattle.mc_world.specs.Pools.{PoolHolds}
use Rattle.mc_world.specs.Sites.{SiteHolds}
use Rattle.mc_world.specs.WorldState.{PoolState, SiteState, histories_of, home_of, link_of, proxy_at, way_by}
use Rattle.mc_world.proofs.Homes.OrderLemmas.{command_own, numbered_own, numbered_whole}
use Rattle.mc_world.proofs.Homes.OwnLemmas.{tags_through-append}
use Rattle.mc_world.proofs.PoolEvents.CommandLemmas.{commands_accounted, times-one, times_is_count}
use Rattle.mc_world.proofs.SiteEvents.CountLemmas.{times-append, times-tags}
use Rattle.mc_world.proofs.Log.EntryLemmas.{got_map, got_mapped, got_some, got_there, history_at}
use Rattle.mc_world.proofs.Log.LogLemmas.{losses_few, number-before, stays_up}
use Rattle.mc_world.proofs.Log.LivingLemmas.{command_of_proxy, commands_split}

-- of what was made on a connection, and what was not
times_on : (tag : Tag) (number : ℕ) (made : List Made) → times tag (tags_of (commands_on number made)) ≤ times tag (tags_made made)
times_on tag number [] = omega arith
times_on tag number (m ∷ ms) =
    let again = times_on tag number ms in
    (elim (m.connection == number) as (λ v. times tag (tags_of (map (λ (x : Made). x.command) (if v then m ∷ made_on number ms else made_on number ms)))
    ≤ (if is_tag tag m.command.1 then 1 else 0) + times tag (tags_made ms)) [
      | true ↦ omega (arith, again)
      | false ↦ omega (arith, again)
    ])

times_off : (number : ℕ) (made : List Made) (k : ℕ) (m : Made) → slice_get made k ≡ Some m → m.connection ≢ number
    → times m.command.1 (tags_of (commands_on number made)) + 1 ≤ times m.command.1 (tags_made made)
times_off number [] zero m at differ = absurd (none-some m at)
times_off number [] (suc k) m at differ = absurd (none-some m at)
times_off number (x ∷ xs) zero m at differ =
    let same : x ≡ m = same_Some x m at in
    let few = times_on m.command.1 number xs in
    let off : (x.connection == number) ≡ false = ap (λ (y : Made). y.connection == number) same ∙ other_number m.connection number differ in
    let own : is_tag m.command.1 x.command.1 ≡ true = ap (λ (y : Made). is_tag m.command.1 y.command.1) same ∙ same_tag_self m.command.1 in
    rw off (rw own (omega (arith, few)))
times_off number (x ∷ xs) (suc k) m at differ =
    let again = times_off number xs k m at differ in
    (elim (x.connection == number) as (λ v. times m.command.1 (tags_of (map (λ (y : Made). y.command) (if v then x ∷ made_on number xs else made_on number xs))) + 1
    ≤ (if is_tag m.command.1 x.command.1 then 1 else 0) + times m.command.1 (tags_made xs)) [
      | true ↦ omega (arith, again)
      | false ↦ omega (arith, again)
    ])

got_on : (number : ℕ) (made : List Made) (k : ℕ) (m : Made) → slice_get made k ≡ Some m → m.connection ≡ number → (i : ℕ) × (slice_get (commands_on number made) i ≡ Some m.command)
got_on number [] zero m at is = absurd (none-some m at)
got_on number [] (suc k) m at is = absurd (none-some m at)
got_on number (x ∷ xs) zero m at is =
    let same : x ≡ m = same_Some x m at in
    let on : (x.connection == number) ≡ true = ap (λ (y : Made). y.connection == number) same ∙ ap (λ (n : ℕ). n == number) is ∙ own_number number in (
      0,
      ap (λ (v : Bool). slice_get (map (λ (y : Made). y.command) (if v then x ∷ made_on number xs else made_on number xs)) 0) on
          ∙ ap (λ (y : Made). Some y.command) same,
    )
got_on number (x ∷ xs) (suc k) m at is =
    let again = got_on number xs k m at is in
    (elim (x.connection == number) as (λ v. (i : ℕ) × (slice_get (map (λ (y : Made). y.command) (if v then x ∷ made_on number xs else made_on number xs)) i ≡ Some m.command)) [
      | true ↦ (suc again.0, again.1)
      | false ↦ again
    ])

-- entries of a proxy's clients: none, if none is of one; and those that were made on a connection, if just these are
none_through : (home : Homes) (proxy : ℕ) (es : List Entry) → ((k : ℕ) (e : Entry) → slice_get es k ≡ Some e → home e.client ≢ proxy) → tags_through home proxy es ≡ []
none_through home proxy [] h = refl
none_through home proxy (e ∷ es) h =
    ap (λ (v : Bool). if v then tag_in e ∷ tags_through home proxy es else tags_through home proxy es) (other_number (home e.client) proxy (h 0 e refl))
    ∙ none_through home proxy es (λ k d at. h (suc k) d at)

all_through : (home : Homes) (proxy number : ℕ) (made : List Made) → ((k : ℕ) (m : Made) → slice_get made k ≡ Some m → (home m.command.1.session == proxy) ≡ (m.connection == number))
    → tags_through home proxy (map entry_of made) ≡ tags_of (commands_on number made)
all_through home proxy number [] h = refl
all_through home proxy number (m ∷ ms) h =
    let again = all_through home proxy number ms (λ k d at. h (suc k) d at) in
    ap (λ (v : Bool). if v then m.command.1 ∷ tags_through home proxy (map entry_of ms) else tags_through home proxy (map entry_of ms)) (h 0 m refl)
    ∙ (elim (m.connection == number) as (λ v. (if v then m.command.1 ∷ tags_through home proxy (map entry_of ms) else tags_through home proxy (map entry_of ms))
    ≡ tags_of (map (λ (x : Made). x.command) (if v then m ∷ made_on number ms else made_on number ms))) [
      | true ↦ ap (λ (ts : List Tag). m.command.1 ∷ ts) again
      | false ↦ again
    ])

-- two tests of equal things agree
same_tests : (a b x y : ℕ) → (a ≡ b → x ≡ y) → (x ≡ y → a ≡ b) → (a == b) ≡ (x == y)
same_tests a b x y to from = ⊎_elim
    (λ own. own.0 ∙ sym (ap (λ (n : ℕ). n == y) (to own.1) ∙ own_number y))
    (λ differ. differ.0 ∙ sym (other_number x y (λ is. differ.1 (from is))))
    (eqb_tells a b)

-- a site with the living way of a proxy, over which all commands of that proxy to it were sent
record IsHeld (home : Homes) (proxy place : ℕ) (order : Order) (lanes : ℕ → Lane) (links : ℕ → LinkState) (opening : CacheState) (site : SiteState) : Type 0 where
  pub holds : SiteHolds home place order lanes links opening site
  pub up : (links proxy).up ≡ true
  pub numbered : (number : ℕ) → AreInOrder (entries_of number order)
  pub nothing : commands_to place (take (lanes proxy).since (of_proxy home proxy order)) ≡ []

-- these commands are those that the server took, and the others
all_parts : (home : Homes) (proxy place : ℕ) (order : Order) (lanes : ℕ → Lane) (links : ℕ → LinkState) (opening : CacheState) (site : SiteState)
    (h : IsHeld home proxy place order lanes links opening site)
    → commands_to place (of_proxy home proxy order) ≡ commands_on (way_by site proxy).connection h.holds.made ++ (h.holds.living proxy h.up).others
all_parts home proxy place order lanes links opening site h =
    commands_split place (of_proxy home proxy order) (lanes proxy) (commands_on (way_by site proxy).connection h.holds.made) (h.holds.living proxy h.up).others
    (h.holds.living proxy h.up).commands
    ∙ ap (λ (cs : List Tagged). (cs ++ commands_on (way_by site proxy).connection h.holds.made) ++ (h.holds.living proxy h.up).others) h.nothing

-- a command that its server made for a client of the proxy is one of them
sent_once : (home : Homes) (proxy place : ℕ) (order : Order) (lanes : ℕ → Lane) (links : ℕ → LinkState) (opening : CacheState) (site : SiteState)
    (h : IsHeld home proxy place order lanes links opening site) (k : ℕ) (m : Made) → slice_get (h.holds.past ++ h.holds.made) k ≡ Some m → home m.command.1.session ≡ proxy
    → 1 ≤ times m.command.1 (tags_of (commands_on (way_by site proxy).connection h.holds.made)) + times m.command.1 (tags_of (h.holds.living proxy h.up).others)
sent_once home proxy place order lanes links opening site h k m at own =
    let named = named_made place order (h.holds.past ++ h.holds.made) k m h.holds.named at in
    let there = command_is_there place (of_proxy home proxy order) (numbered_own home proxy order h.numbered) m.command.1 m.command.0
    (command_own home proxy order m.command.1 own ∙ named) in
    let sent : slice_get (commands_on (way_by site proxy).connection h.holds.made ++ (h.holds.living proxy h.up).others) there.0 ≡ Some m.command =
    ap (λ (cs : List Tagged). slice_get cs there.0) (sym (all_parts home proxy place order lanes links opening site h)) ∙ there.1 in
    let one = times-one m.command.1 (tags_of (commands_on (way_by site proxy).connection h.holds.made ++ (h.holds.living proxy h.up).others)) there.0
    (got_map (λ (c : Tagged). c.1) (commands_on (way_by site proxy).connection h.holds.made ++ (h.holds.living proxy h.up).others) there.0 m.command sent) in
    let both = times-tags m.command.1 (commands_on (way_by site proxy).connection h.holds.made) (h.holds.living proxy h.up).others in
    omega (arith, one, both)

-- and it is made once in all lives
made_once : (home : Homes) (proxy place : ℕ) (order : Order) (lanes : ℕ → Lane) (links : ℕ → LinkState) (opening : CacheState) (site : SiteState)
    (h : IsHeld home proxy place order lanes links opening site) (tag : Tag)
    → (times tag (tags_made h.holds.past) + times tag (tags_made h.holds.made)) + times tag (tags_of (h.holds.living proxy h.up).others) ≤ 1
made_once home proxy place order lanes links opening site h tag =
    let once = (h.holds.living proxy h.up).once tag in
    let parts : times tag (tags_made (h.holds.past ++ h.holds.made)) ≡ times tag (tags_made h.holds.past) + times tag (tags_made h.holds.made) =
    ap (λ (ts : List Tag). times tag ts) (map-append (λ (x : Made). x.command.1) h.holds.past h.holds.made) ∙ times-append tag (tags_made h.holds.past) (tags_made h.holds.made) in
    let few = count_to tag place order in
    let one = tag_once tag order (h.numbered tag.session) in
    let counted = times_is_count tag (commands_to place order) in
    omega (arith, once, parts, few, one, counted)

-- so nothing was made for the proxy's clients before this life, nor on another connection
past_apart : (home : Homes) (proxy place : ℕ) (order : Order) (lanes : ℕ → Lane) (links : ℕ → LinkState) (opening : CacheState) (site : SiteState)
    (h : IsHeld home proxy place order lanes links opening site) (k : ℕ) (m : Made) → slice_get h.holds.past k ≡ Some m → home m.command.1.session ≢ proxy
past_apart home proxy place order lanes links opening site h k m at own =
    let sent = sent_once home proxy place order lanes links opening site h k m (got_there h.holds.past h.holds.made k m at) own in
    let once = made_once home proxy place order lanes links opening site h m.command.1 in
    let on = times_on m.command.1 (way_by site proxy).connection h.holds.made in
    let one = times-one m.command.1 (tags_made h.holds.past) k (got_map (λ (x : Made). x.command.1) h.holds.past k m at) in
    omega (arith, sent, once, on, one)

made_there : (home : Homes) (proxy place : ℕ) (order : Order) (lanes : ℕ → Lane) (links : ℕ → LinkState) (opening : CacheState) (site : SiteState)
    (h : IsHeld home proxy place order lanes links opening site) (k : ℕ) (m : Made) → slice_get h.holds.made k ≡ Some m → home m.command.1.session ≡ proxy
    → m.connection ≡ (way_by site proxy).connection
made_there home proxy place order lanes links opening site h k m at own = ⊎_elim
    (λ same. same.1)
    (λ differ.
    let sent = sent_once home proxy place order lanes links opening site h (length h.holds.past + k) m (past_front h.holds.past h.holds.made k (length h.holds.past + k) refl ∙ at) own in
    let once = made_once home proxy place order lanes links opening site h m.command.1 in
    let off = times_off (way_by site proxy).connection h.holds.made k m at differ.1 in
    absurd (omega (arith, sent, once, off)))
    (eqb_tells m.connection (way_by site proxy).connection)

-- what was made on its connection was for the proxy's clients
made_through : (home : Homes) (proxy place : ℕ) (order : Order) (lanes : ℕ → Lane) (links : ℕ → LinkState) (opening : CacheState) (site : SiteState)
    (h : IsHeld home proxy place order lanes links opening site) (k : ℕ) (m : Made) → slice_get h.holds.made k ≡ Some m → m.connection ≡ (way_by site proxy).connection
    → home m.command.1.session ≡ proxy
made_through home proxy place order lanes links opening site h k m at is =
    let on = got_on (way_by site proxy).connection h.holds.made k m at is in
    command_of_proxy home proxy place order on.0 m.command
    (ap (λ (cs : List Tagged). slice_get cs on.0) (all_parts home proxy place order lanes links opening site h)
    ∙ got_there (commands_on (way_by site proxy).connection h.holds.made) (h.holds.living proxy h.up).others on.0 m.command on.1)

-- the entries of the proxy's clients in the history of a site are of the first of its commands to it
held_follows : (home : Homes) (proxy place : ℕ) (order : Order) (lanes : ℕ → Lane) (links : ℕ → LinkState) (opening : CacheState) (site : SiteState)
    → IsHeld home proxy place order lanes links opening site
    → (untaken : List Tag) × (tags_through home proxy site.history ++ untaken ≡ tags_of (commands_to place (of_proxy home proxy order)))
held_follows home proxy place order lanes links opening site h =
    let tags : tags_through home proxy site.history ≡ tags_of (commands_on (way_by site proxy).connection h.holds.made) =
    ap (λ (es : List Entry). tags_through home proxy es) (h.holds.history ∙ map-append entry_of h.holds.past h.holds.made)
    ∙ tags_through-append home proxy (map entry_of h.holds.past) (map entry_of h.holds.made)
    ∙ ap (λ (ts : List Tag). ts ++ tags_through home proxy (map entry_of h.holds.made))
    (none_through home proxy (map entry_of h.holds.past) (λ k e at.
    let m = got_mapped entry_of h.holds.past k e at in
    λ own. past_apart home proxy place order lanes links opening site h k m.0 m.1 (ap (λ (x : Entry). home x.client) m.2 ∙ own)))
    ∙ all_through home proxy (way_by site proxy).connection h.holds.made (λ k m at.
    same_tests (home m.command.1.session) proxy m.connection (way_by site proxy).connection
    (λ own. made_there home proxy place order lanes links opening site h k m at own)
    (λ is. made_through home proxy place order lanes links opening site h k m at is)) in (
      tags_of (h.holds.living proxy h.up).others,
      ap (λ (ts : List Tag). ts ++ tags_of (h.holds.living proxy h.up).others) tags
          ∙ sym (map-append (λ (c : Tagged). c.1) (commands_on (way_by site proxy).connection h.holds.made) (h.holds.living proxy h.up).others)
          ∙ ap (λ (cs : List Tagged). tags_of cs) (sym (all_parts home proxy place order lanes links opening site h)),
    )

-- a known outcome that is no loss is a reply
pub reply_known : (outcome : Outcome) → is_noted outcome ≡ true → (outcome ≡ Lost → ⊥) → (reply : AReply (List ℕ)) × (outcome ≡ Reply reply)
reply_known Awaited told never = absurd (false≢true told)
reply_known Lost told never = absurd (never refl)
reply_known (Reply reply) told never = (reply, refl)

-- if a link is never down, no command of its proxy to its server is logged as lost
pub nothing_lost : (home : Homes) (place : ℕ) (tag : Tag) (history : List Entry) (log : Log) → number_of (drops (home tag.session) place) log ≡ 0
    → WasNeverSentOrLost home place tag history log → ⊥
nothing_lost home place tag history log none (inl down) =
    let few = number-before (drops (home tag.session) place) (takes tag.session) tag.request log in
    true≢false (sym (stays_up (home tag.session) place (before (takes tag.session) tag.request log) (omega (arith, none, few))) ∙ down.0)
nothing_lost home place tag history log none (inr lost) =
    let some = lost.1.1 in
    let few = losses_few (home tag.session) place log in
    omega (arith, none, some, few)

-- a history has no entry of a client of a proxy that has no link to its server
none_there : (ring : RingState) (opening : CacheState) (texts sent : ℕ → List ℕ) (order : Order) (lanes : ℕ → ℕ → Lane) (outs : ℕ → List ℕ) (log : Log) (pool : PoolState) (proxy place : ℕ)
    → PoolHolds opening texts sent order lanes pool → LogHolds ring order outs log pool → length (proxy_at pool proxy).links ≤ place
    → (k : ℕ) (e : Entry) → slice_get (histories_of pool.sites place) k ≡ Some e → home_of pool e.client ≢ proxy
none_there ring opening texts sent order lanes outs log pool proxy place holds h past k e at own =
    let named = (commands_accounted opening texts sent order lanes pool holds).named place k e at in
    let below = commands_within (length (proxy_at pool proxy).links) (of_proxy (home_of pool) proxy order) (h.requests.inside proxy) (tag_in e) (to_place place named.0)
    (command_own (home_of pool) proxy order (tag_in e) own ∙ named.1) in
    omega (arith, below, past)

pub followed : (ring : RingState) (opening : CacheState) (texts sent : ℕ → List ℕ) (order : Order) (lanes : ℕ → ℕ → Lane) (outs : ℕ → List ℕ) (log : Log) (pool : PoolState)
    → PoolHolds opening texts sent order lanes pool → LogHolds ring order outs log pool → HaveNothingBefore (home_of pool) order lanes log
    → (proxy place : ℕ) → number_of (drops proxy place) log ≡ 0
    → (untaken : List Tag) × (tags_through (home_of pool) proxy (histories_of pool.sites place) ++ untaken ≡ tags_of (commands_to place (of_proxy (home_of pool) proxy order)))
followed ring opening texts sent order lanes outs log pool pool_holds h nothing proxy place none = ⊎_elim
    (λ inside.
    let site = got_some pool.sites place (omega (arith, inside, h.servers.sited proxy)) in
    let up : (link_of pool proxy place).up ≡ true = sym (h.servers.links proxy place inside) ∙ stays_up proxy place log none in
    subst (λ (es : List Entry). (untaken : List Tag) × (tags_through (home_of pool) proxy es ++ untaken ≡ tags_of (commands_to place (of_proxy (home_of pool) proxy order))))
    (sym (history_at pool.sites place site.0 site.1))
    (held_follows (home_of pool) proxy place order (λ p. lanes p place) (λ p. link_of pool p place) opening site.0 (record {
      holds = pool_holds.sites place site.0 site.1;
      up = up;
      numbered = numbered_whole (home_of pool) order (λ p. (pool_holds.proxies p).numbered);
      nothing = nothing proxy place none;
    })))
    (λ past. (
      tags_of (commands_to place (of_proxy (home_of pool) proxy order)),
      ap (λ (ts : List Tag). ts ++ tags_of (commands_to place (of_proxy (home_of pool) proxy order)))
          (none_through (home_of pool) proxy (histories_of pool.sites place) (λ k e at. none_there ring opening texts sent order lanes outs log pool proxy place pool_holds h past k e at)),
    ))
    (cases_lt place (length (proxy_at pool proxy).links))
