-- The ring of one proxy has one more server, which joins or is learned: what this leaves of the links, of the log, and of the proxies and sites.
use Rattle.std.proofs.Common.{◌≡◌, ◌≢◌, ◌∙◌, ⊎_elim, ℕ, zero, suc, ◌==◌, ◌&&◌, ◌+◌, ◌<◌, ◌≤◌, ◌⊎◌, inl, inr, Bool, true, false, if◌then◌else◌, List, [], ◌∷◌, ◌++◌, length, Some, slice_get, refl, sym, ap, ap₂, subst, arith}
use Rattle.std.proofs.lemmas.Bool.{cases_lt}
use Rattle.std.proofs.lemmas.Bool.Decides.{eqb_tells}
use Rattle.std.proofs.lemmas.List.{get_or_past, length_push}
use Rattle.mc_ring.specs.Rings.{IsRing, RingState}
use Rattle.mc_link.specs.LinkState.{LinkState, down_link}
use Rattle.mc_link.specs.declared.turns.Tag.{Tag}
use Rattle.mc_cache.specs.CacheState.{CacheState}
use Rattle.mc_proxy.specs.Joins.{JoinsServer, joined_link}
use Rattle.mc_proxy.specs.SessionState.{link_at}
use Rattle.mc_proxy.specs.ProxyState.{ProxyState, Sessions, session_at, session_in}
use Rattle.mc_account.specs.Lanes.{Lane, fresh_lane, sent_on}
use Rattle.mc_account.specs.Orders.{Order}
use Rattle.mc_account.specs.Holds.{ProxyHolds, changed}
use Rattle.mc_account.proofs.LinkLemmas.{holds-joined}
use Rattle.mc_account.proofs.OpenSessions.{other_number, own_number}
use Rattle.mc_world.specs.Homes.{Homes, home_in, of_proxy, own_of}
use Rattle.mc_world.specs.LogHolds.{LogHolds, ServersHold}
use Rattle.mc_world.specs.Logs.{HasJoined, IsRingAfter, Log, is_up, up_by}
use Rattle.mc_world.specs.Pools.{ProxyBecomes, relaned}
use Rattle.mc_world.specs.Sites.{SiteHolds}
use Rattle.mc_world.specs.WorldState.{PoolState, SiteState, histories_of, home_of, link_of, proxy_at, session_of}
use Rattle.mc_world.specs.declared.logs.Logged.{Logged}
use Rattle.mc_world.specs.declared.logs.Logged.TheVariants.{Happened, Joined, Restarted}
use Rattle.mc_world.proofs.Course.NothingBeforeLemmas.{relaned_or}
use Rattle.mc_world.proofs.Log.CommandLemmas.{commands_still}
use Rattle.mc_world.proofs.Log.EntryLemmas.{HasUntakenAt}
use Rattle.mc_world.proofs.Log.HistoryLemmas.{histories_go}
use Rattle.mc_world.proofs.Log.LogLemmas.{up-push}
use Rattle.mc_world.proofs.Log.OutcomeLemmas.{goes_same}
use Rattle.mc_world.proofs.Log.RequestLemmas.{answers_go, requests_go}
use Rattle.mc_world.proofs.PoolEvents.ProxyLemmas.{all_keep, home_becomes, lanes_other, lanes_own, links_other, proxies_count, proxy_other, proxy_own}
use Rattle.mc_world.proofs.SiteEvents.MoveLemmas.{site_kept}

-- the ring of a proxy has a server of this address at the next place, whose link is up or down
pub record Grows (proxy : ℕ) (address : List ℕ) (up : Bool) (old new : PoolState) : Type 0 where
  pub inside : proxy < length old.proxies
  pub now : ProxyState
  pub joins : JoinsServer address up (length (proxy_at old proxy).ring.servers) (proxy_at old proxy) now
  pub is_ring : IsRing now.ring
  pub becomes : ProxyBecomes proxy now old new

-- its place
abbrev pub next_place : ℕ → PoolState → ℕ
next_place proxy pool = length (proxy_at pool proxy).ring.servers

-- links with one more at the end: those before, and that one
link_pushed : (links : List LinkState) (link : LinkState) (other : ℕ) → length links ≢ other → link_at (links ++ link ∷ []) other ≡ link_at links other
link_pushed [] link zero differ = absurd (differ refl)
link_pushed [] link (suc other) differ = refl
link_pushed (l ∷ ls) link zero differ = refl
link_pushed (l ∷ ls) link (suc other) differ = link_pushed ls link other (λ same. differ (ap suc same))

link_new : (links : List LinkState) (link : LinkState) → link_at (links ++ link ∷ []) (length links) ≡ link
link_new [] link = refl
link_new (l ∷ ls) link = link_new ls link

-- the link to the new server, and all others
pub link_joined : (proxy : ℕ) (address : List ℕ) (up : Bool) (old new : PoolState) → Grows proxy address up old new → length (proxy_at old proxy).links ≡ next_place proxy old
    → link_of new proxy (next_place proxy old) ≡ joined_link up
link_joined proxy address up old new e linked =
    ap (λ (p : ProxyState). link_at p.links (next_place proxy old)) (proxy_own proxy e.now old new e.becomes e.inside)
    ∙ ap (λ (ls : List LinkState). link_at ls (next_place proxy old)) e.joins.links
    ∙ ap (λ (n : ℕ). link_at ((proxy_at old proxy).links ++ joined_link up ∷ []) n) (sym linked)
    ∙ link_new (proxy_at old proxy).links (joined_link up)

pub link_grown : (proxy : ℕ) (address : List ℕ) (up : Bool) (old new : PoolState) → Grows proxy address up old new → length (proxy_at old proxy).links ≡ next_place proxy old
    → (p q : ℕ) → ((proxy ≡ p) × (next_place proxy old ≡ q)) ⊎ (link_of new p q ≡ link_of old p q)
link_grown proxy address up old new e linked p q =
    ⊎_elim
    (λ own. ⊎_elim
    (λ here. inl (own.1, here.1))
    (λ elsewhere. inr (subst (λ (n : ℕ). link_of new n q ≡ link_of old n q) own.1
    (ap (λ (s : ProxyState). link_at s.links q) (proxy_own proxy e.now old new e.becomes e.inside)
    ∙ ap (λ (ls : List LinkState). link_at ls q) e.joins.links
    ∙ link_pushed (proxy_at old proxy).links (joined_link up) q (λ same. elsewhere.1 (sym linked ∙ same)))))
    (eqb_tells (next_place proxy old) q))
    (λ other. inr (links_other proxy p e.now old new e.becomes other.1 q))
    (eqb_tells proxy p)

-- how many links each proxy has
links_own : (proxy : ℕ) (address : List ℕ) (up : Bool) (old new : PoolState) → Grows proxy address up old new
    → length (proxy_at new proxy).links ≡ length (proxy_at old proxy).links + 1
links_own proxy address up old new e =
    ap (λ (p : ProxyState). length p.links) (proxy_own proxy e.now old new e.becomes e.inside)
    ∙ ap (λ (ls : List LinkState). length ls) e.joins.links ∙ length_push (proxy_at old proxy).links (joined_link up)

links_kept : (proxy other : ℕ) (address : List ℕ) (up : Bool) (old new : PoolState) → Grows proxy address up old new → proxy ≢ other
    → length (proxy_at new other).links ≡ length (proxy_at old other).links
links_kept proxy other address up old new e differ = ap (λ (p : ProxyState). length p.links) (proxy_other proxy other e.now old new e.becomes differ)

pub links_few : (proxy : ℕ) (address : List ℕ) (up : Bool) (old new : PoolState) (most : ℕ) → Grows proxy address up old new → length (proxy_at old proxy).links < most
    → ((other : ℕ) → length (proxy_at old other).links ≤ most) → (other : ℕ) → length (proxy_at new other).links ≤ most
links_few proxy address up old new most e own others other =
    ⊎_elim
    (λ same. subst (λ (n : ℕ). length (proxy_at new n).links ≤ most) same.1 (let one = links_own proxy address up old new e in omega (arith, one, own)))
    (λ differ. let kept = links_kept proxy other address up old new e differ.1 in let was = others other in omega (arith, kept, was))
    (eqb_tells proxy other)

-- the ring of the proxy goes on from that of the log, and the others stay
ring_grown : (proxy : ℕ) (opening now next : RingState) (log : Log) (server : ℕ) (address : List ℕ) (up : Bool) → HasJoined server address now next → IsRingAfter proxy opening log now
    → IsRingAfter proxy opening (log ++ Joined proxy server address up ∷ []) next
ring_grown proxy opening now next [] server address up joined h = inl (refl, next, subst (λ (r : RingState). HasJoined server address r next) h joined, refl)
ring_grown proxy opening now next (Happened event ∷ es) server address up joined h = ring_grown proxy opening now next es server address up joined h
ring_grown proxy opening now next (Joined of other at is ∷ es) server address up joined h = elim h [
  | inl k ↦ inl (k.0, k.1, k.2, ring_grown proxy k.1 now next es server address up joined k.3)
  | inr k ↦ inr (k.0, ring_grown proxy opening now next es server address up joined k.1)
]
ring_grown proxy opening now next (Restarted other ∷ es) server address up joined h = ring_grown proxy opening now next es server address up joined h

ring_kept : (proxy of : ℕ) (opening now : RingState) (log : Log) (server : ℕ) (address : List ℕ) (up : Bool) → of ≢ proxy → IsRingAfter proxy opening log now
    → IsRingAfter proxy opening (log ++ Joined of server address up ∷ []) now
ring_kept proxy of opening now [] server address up differ h = inr (differ, h)
ring_kept proxy of opening now (Happened event ∷ es) server address up differ h = ring_kept proxy of opening now es server address up differ h
ring_kept proxy of opening now (Joined one other at is ∷ es) server address up differ h = elim h [
  | inl k ↦ inl (k.0, k.1, k.2, ring_kept proxy of k.1 now es server address up differ k.3)
  | inr k ↦ inr (k.0, ring_kept proxy of opening now es server address up differ k.1)
]
ring_kept proxy of opening now (Restarted other ∷ es) server address up differ h = ring_kept proxy of opening now es server address up differ h

-- the new link is up or down as the log has it, and the others stay
up_joined : (proxy place : ℕ) (address : List ℕ) (up was : Bool) → up_by proxy place (Joined proxy place address up) was ≡ up
up_joined proxy place address up was = ap₂ (λ (a b : Bool). if a && b then up else was) (own_number proxy) (own_number place)

up_kept : (proxy place : ℕ) (address : List ℕ) (up was : Bool) (p q : ℕ) → (proxy ≡ p → place ≡ q → ⊥) → up_by p q (Joined proxy place address up) was ≡ was
up_kept proxy place address up was p q apart =
    ⊎_elim
    (λ own. ap₂ (λ (a b : Bool). if a && b then up else was) own.0 (other_number place q (λ here. apart own.1 here)))
    (λ other. ap (λ (a : Bool). if a && (place == q) then up else was) (other_number proxy p other.1))
    (eqb_tells proxy p)

joined_up : (up : Bool) → (joined_link up).up ≡ up
joined_up true = refl
joined_up false = refl

-- the rings and the links
servers_grow : (ring : RingState) (log : Log) (proxy : ℕ) (address : List ℕ) (up : Bool) (old new : PoolState) → Grows proxy address up old new
    → ((p : ℕ) → length (proxy_at new p).links ≤ length new.sites)
    → ((place : ℕ) (site : SiteState) → slice_get new.sites place ≡ Some site → length site.ways ≡ length new.proxies)
    → ServersHold ring log old → ServersHold ring (log ++ Joined proxy (next_place proxy old) address up ∷ []) new
servers_grow ring log proxy address up old new e sited ways h =
    let place : ℕ = next_place proxy old in
    let x : Logged = Joined proxy (next_place proxy old) address up in
    let own = proxy_own proxy e.now old new e.becomes e.inside in
    let count = proxies_count proxy e.now old new e.becomes in
    let linked = h.linked proxy in
    let one_more = links_own proxy address up old new e in
    let servers : length e.now.ring.servers ≡ length (proxy_at old proxy).ring.servers + 1 =
    ap (λ (ss : List (List ℕ)). length ss) e.joins.servers ∙ length_push (proxy_at old proxy).ring.servers address in
    record {
      ring = λ p inside. ⊎_elim
          (λ same. subst (λ (n : ℕ). IsRingAfter n ring (log ++ x ∷ []) (proxy_at new n).ring) same.1
          (subst (λ (s : ProxyState). IsRingAfter proxy ring (log ++ x ∷ []) s.ring) (sym own)
          (ring_grown proxy ring (proxy_at old proxy).ring e.now.ring log place address up
          (record { last = refl; servers = e.joins.servers; points = e.joins.points }) (h.ring proxy e.inside))))
          (λ differ. subst (λ (s : ProxyState). IsRingAfter p ring (log ++ x ∷ []) s.ring) (sym (proxy_other proxy p e.now old new e.becomes differ.1))
          (ring_kept p proxy ring (proxy_at old p).ring log place address up differ.1 (h.ring p (omega (arith, inside, count)))))
          (eqb_tells proxy p);
      is_ring = λ p inside. ⊎_elim
          (λ same. subst (λ (n : ℕ). IsRing (proxy_at new n).ring) same.1 (subst (λ (s : ProxyState). IsRing s.ring) (sym own) e.is_ring))
          (λ differ. subst (λ (s : ProxyState). IsRing s.ring) (sym (proxy_other proxy p e.now old new e.becomes differ.1)) (h.is_ring p (omega (arith, inside, count))))
          (eqb_tells proxy p);
      linked = λ p. ⊎_elim
          (λ same. subst (λ (n : ℕ). length (proxy_at new n).links ≡ length (proxy_at new n).ring.servers) same.1
          (let now : length (proxy_at new proxy).ring.servers ≡ length e.now.ring.servers = ap (λ (s : ProxyState). length s.ring.servers) own in
          omega (arith, now, servers, one_more, linked)))
          (λ differ. subst (λ (s : ProxyState). length s.links ≡ length s.ring.servers) (sym (proxy_other proxy p e.now old new e.becomes differ.1)) (h.linked p))
          (eqb_tells proxy p);
      sited = sited;
      ways = ways;
      links = λ p q inside. up-push p q true log x ∙ elim (link_grown proxy address up old new e linked p q) [
        | inl here ↦
            subst (λ (n : ℕ). up_by n q x (is_up n q log) ≡ (link_of new n q).up) here.0
            (subst (λ (n : ℕ). up_by proxy n x (is_up proxy n log) ≡ (link_of new proxy n).up) here.1
            (up_joined proxy place address up (is_up proxy place log) ∙ sym (ap (λ (l : LinkState). l.up) (link_joined proxy address up old new e linked) ∙ joined_up up)))
        | inr same ↦ ⊎_elim
            (λ (below : q < length (proxy_at old p).links).
            up_kept proxy place address up (is_up p q log) p q (λ own_p own_q. let few : length (proxy_at old p).links ≡ length (proxy_at old proxy).links =
            ap (λ (n : ℕ). length (proxy_at old n).links) (sym own_p) in omega (arith, below, own_q, linked, few))
            ∙ h.links p q below ∙ ap (λ (l : LinkState). l.up) (sym same))
            (λ (past : length (proxy_at old p).links ≤ q). ⊎_elim
            (λ own. subst (λ (n : ℕ). up_by n q x (is_up n q log) ≡ (link_of new n q).up) own.1
            (let within : q < length (proxy_at new proxy).links = subst (λ (n : ℕ). q < length (proxy_at new n).links) (sym own.1) inside in
            let beyond : length (proxy_at old proxy).links ≤ q = subst (λ (n : ℕ). length (proxy_at old n).links ≤ q) (sym own.1) past in
            let last : next_place proxy old ≡ q = omega (arith, within, beyond, one_more, linked) in
            subst (λ (n : ℕ). up_by proxy n x (is_up proxy n log) ≡ (link_of new proxy n).up) last
            (up_joined proxy place address up (is_up proxy place log) ∙ sym (ap (λ (l : LinkState). l.up) (link_joined proxy address up old new e linked) ∙ joined_up up))))
            (λ differ. let kept = links_kept proxy p address up old new e differ.1 in absurd (omega (arith, inside, past, kept)))
            (eqb_tells proxy p))
            (cases_lt q (length (proxy_at old p).links))
      ];
      no_links = λ p q past. up-push p q true log x ∙ ⊎_elim
          (λ own. subst (λ (n : ℕ). up_by n q x (is_up n q log) ≡ true) own.1
          (let beyond : length (proxy_at new proxy).links ≤ q = subst (λ (n : ℕ). length (proxy_at new n).links ≤ q) (sym own.1) past in
          up_kept proxy place address up (is_up proxy q log) proxy q (λ _ here. omega (arith, here, beyond, one_more, linked)) ∙ h.no_links proxy q (omega (arith, beyond, one_more))))
          (λ differ. let kept = links_kept proxy p address up old new e differ.1 in
          up_kept proxy place address up (is_up p q log) p q (λ own _. differ.1 own) ∙ h.no_links p q (omega (arith, past, kept)))
          (eqb_tells proxy p);
    }

-- the sessions stay
sessions_grow : (proxy : ℕ) (address : List ℕ) (up : Bool) (old new : PoolState) → Grows proxy address up old new → (client : ℕ) → session_of new client ≡ session_of old client
sessions_grow proxy address up old new e client =
    ap (λ (p : ℕ). session_at (proxy_at new p) client) (home_becomes proxy e.now old new e.becomes client)
    ∙ all_keep (λ (p : ProxyState). session_at p client) proxy e.now old new e.becomes (ap (λ (ss : Sessions). session_in ss client) e.joins.sessions) (home_of old client)

-- the log leaves the pool so
pub log_grows : (ring : RingState) (order : Order) (outs : ℕ → List ℕ) (log : Log) (proxy : ℕ) (address : List ℕ) (up : Bool) (old new : PoolState) → Grows proxy address up old new
    → ((p : ℕ) → length (proxy_at new p).links ≤ length new.sites)
    → ((place : ℕ) (site : SiteState) → slice_get new.sites place ≡ Some site → length site.ways ≡ length new.proxies)
    → ((place : ℕ) → histories_of new.sites place ≡ histories_of old.sites place) → ((place : ℕ) (tag : Tag) → HasUntakenAt new.sites place tag → HasUntakenAt old.sites place tag)
    → LogHolds ring order outs log old → LogHolds ring order outs (log ++ Joined proxy (next_place proxy old) address up ∷ []) new
log_grows ring order outs log proxy address up old new e sited ways same untaken h =
    let x : Logged = Joined proxy (next_place proxy old) address up in
    record {
      servers = servers_grow ring log proxy address up old new e sited ways h.servers;
      requests = requests_go ring order order log x old new e.becomes.homes
          (λ p. ⊎_elim
          (λ own. subst (λ (n : ℕ). length (proxy_at old n).links ≤ length (proxy_at new n).links) own.1 (let one = links_own proxy address up old new e in omega (arith, one)))
          (λ differ. let kept = links_kept proxy p address up old new e differ.1 in omega (arith, kept))
          (eqb_tells proxy p))
          refl (goes_same order) h.requests;
      answers = answers_go order order outs log x old new (λ c. refl) (λ client count out k. k)
          (λ client session at. (session, sym (sessions_grow proxy address up old new e client) ∙ at, refl)) h.answers;
      histories = histories_go order order log x (histories_of old.sites) (histories_of new.sites) (λ p. refl) (λ tag lost. lost) same h.histories;
      commands = commands_still ring order log x old new e.becomes.homes h.requests same untaken h.commands;
    }

-- the lanes, with a new one for the new link
abbrev pub grown_lanes : ℕ → Order → (ℕ → ℕ → Lane) → PoolState → ℕ → ℕ → Lane
grown_lanes proxy order lanes pool = relaned proxy (next_place proxy pool) (fresh_lane (length (of_proxy (home_of pool) proxy order))) lanes

-- the proxies hold
pub proxies_grow : (texts sent : ℕ → List ℕ) (order : Order) (lanes : ℕ → ℕ → Lane) (proxy : ℕ) (address : List ℕ) (up : Bool) (old new : PoolState) → Grows proxy address up old new
    → length (proxy_at old proxy).links ≡ next_place proxy old
    → ((p : ℕ) → ProxyHolds (own_of (home_of old) p texts) (own_of (home_of old) p sent) (of_proxy (home_of old) p order) (lanes p) (proxy_at old p))
    → (p : ℕ) → ProxyHolds (own_of (home_of new) p texts) (own_of (home_of new) p sent) (of_proxy (home_of new) p order) (grown_lanes proxy order lanes old p) (proxy_at new p)
proxies_grow texts sent order lanes proxy address up old new e linked h p =
    let lane : Lane = fresh_lane (length (of_proxy (home_of old) proxy order)) in
    subst (λ (home : Homes). ProxyHolds (own_of home p texts) (own_of home p sent) (of_proxy home p order) (grown_lanes proxy order lanes old p) (proxy_at new p))
    (sym (ap (λ (homes : List ℕ). home_in homes) e.becomes.homes))
    (⊎_elim
    (λ own. subst
    (λ (n : ℕ). ProxyHolds (own_of (home_of old) n texts) (own_of (home_of old) n sent) (of_proxy (home_of old) n order) (grown_lanes proxy order lanes old n) (proxy_at new n)) own.1
    (subst (λ (ls : ℕ → Lane). ProxyHolds (own_of (home_of old) proxy texts) (own_of (home_of old) proxy sent) (of_proxy (home_of old) proxy order) ls (proxy_at new proxy))
    (sym (lanes_own proxy (next_place proxy old) lane lanes))
    (subst (λ (s : ProxyState). ProxyHolds (own_of (home_of old) proxy texts) (own_of (home_of old) proxy sent) (of_proxy (home_of old) proxy order)
    (changed (next_place proxy old) lane (lanes proxy)) s) (sym (proxy_own proxy e.now old new e.becomes e.inside))
    (holds-joined (own_of (home_of old) proxy texts) (own_of (home_of old) proxy sent) (of_proxy (home_of old) proxy order) (lanes proxy) address up (next_place proxy old)
    (proxy_at old proxy) e.now (h proxy) linked e.joins))))
    (λ differ.
    subst (λ (ls : ℕ → Lane). ProxyHolds (own_of (home_of old) p texts) (own_of (home_of old) p sent) (of_proxy (home_of old) p order) ls (proxy_at new p))
    (sym (lanes_other proxy (next_place proxy old) lane lanes p differ.1))
    (subst (λ (s : ProxyState). ProxyHolds (own_of (home_of old) p texts) (own_of (home_of old) p sent) (of_proxy (home_of old) p order) (lanes p) s)
    (sym (proxy_other proxy p e.now old new e.becomes differ.1)) (h p)))
    (eqb_tells proxy p))

-- a site that was there holds, unless it is that of the new link, and this is up
pub site_grows : (opening : CacheState) (order : Order) (lanes : ℕ → ℕ → Lane) (proxy : ℕ) (address : List ℕ) (up : Bool) (old new : PoolState) → Grows proxy address up old new
    → length (proxy_at old proxy).links ≡ next_place proxy old → (place : ℕ) (site : SiteState) → (next_place proxy old ≡ place → up ≡ true → ⊥)
    → SiteHolds (home_of old) place order (λ p. lanes p place) (λ p. link_of old p place) opening site
    → SiteHolds (home_of new) place order (λ p. grown_lanes proxy order lanes old p place) (λ p. link_of new p place) opening site
site_grows opening order lanes proxy address up old new e linked place site unlinked h =
    let lane : Lane = fresh_lane (length (of_proxy (home_of old) proxy order)) in
    let down : (p : ℕ) → proxy ≡ p → next_place proxy old ≡ place → (link_of new p place).up ≡ true → ⊥ =
    λ p own here on. unlinked here (sym (joined_up up) ∙ ap (λ (l : LinkState). l.up) (sym (link_joined proxy address up old new e linked))
    ∙ ap (λ (n : ℕ). (link_of new proxy n).up) here ∙ ap (λ (n : ℕ). (link_of new n place).up) own ∙ on) in
    let still : (p : ℕ) → (link_of new p place).up ≡ true → (link_of old p place).up ≡ true = λ p on. elim (link_grown proxy address up old new e linked p place) [
      | inl here ↦ absurd (down p here.0 here.1 on)
      | inr same ↦ ap (λ (l : LinkState). l.up) (sym same) ∙ on
    ] in
    let lane_is : (p : ℕ) → (link_of new p place).up ≡ true → grown_lanes proxy order lanes old p place ≡ lanes p place =
    λ p on. elim (relaned_or proxy (next_place proxy old) lane lanes p place) [
      | inl here ↦ absurd (down p here.0 here.1 on)
      | inr same ↦ same
    ] in
    subst (λ (home : Homes). SiteHolds home place order (λ p. grown_lanes proxy order lanes old p place) (λ p. link_of new p place) opening site)
    (sym (ap (λ (homes : List ℕ). home_in homes) e.becomes.homes))
    (site_kept (home_of old) place order order (λ p. lanes p place) (λ p. grown_lanes proxy order lanes old p place) (λ p. link_of old p place) (λ p. link_of new p place) opening site
    (λ _ _ k. k) (λ _ _ _ command known. (command, known)) refl still
    (λ p on. let is = lane_is p on in (
      ap (λ (l : Lane). sent_on place (of_proxy (home_of old) p order) l) is,
      ap (λ (l : Lane). l.out) is,
      ap (λ (l : Lane). l.came) is,
      ap (λ (l : Lane). l.replies) is,
    )) h)

-- a link beyond those of a proxy is down, and was never up
pub link_beyond : (pool : PoolState) (proxy place : ℕ) → length (proxy_at pool proxy).links ≤ place → link_of pool proxy place ≡ down_link 0
link_beyond pool proxy place past = get_or_past (proxy_at pool proxy).links place (down_link 0) past
