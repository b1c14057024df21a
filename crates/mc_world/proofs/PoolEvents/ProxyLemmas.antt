-- The proxies of a pool: the one that changed, the others, and those past the end; their clients and their links.
use Rattle.std.proofs.Common.{◌≡◌, ◌≢◌, ◌∙◌, ⊎_elim, ℕ, ◌<◌, ◌≤◌, true, List, length, Some, sym, ap, subst, arith}
use Rattle.std.proofs.lemmas.Bool.{cases_lt}
use Rattle.std.proofs.lemmas.Bool.Decides.{eqb_tells}
use Rattle.std.proofs.lemmas.List.{get_or-set_other, get_or-set_same, get_or_past, length-set, set-get_or, set_past}
use Rattle.std.proofs.lemmas.Option.{none-some}
use Rattle.mc_link.specs.LinkState.{LinkState}
use Rattle.mc_proxy.specs.SessionState.{SessionState, link_at, with_link}
use Rattle.mc_proxy.specs.ProxyState.{ProxyState, session_at}
use Rattle.mc_account.specs.Lanes.{Lane, LinkHolds}
use Rattle.mc_account.specs.Orders.{Order}
use Rattle.mc_account.specs.Holds.{ProxyHolds, SessionHoldsAt, IsUnused, changed}
use Rattle.mc_account.proofs.HoldsLemmas.{changed-other, changed-own}
use Rattle.mc_account.proofs.LaneLemmas.{link_other, link_own, up_is_there}
use Rattle.mc_world.specs.Homes.{home_in}
use Rattle.mc_world.specs.Pools.{ProxiesStay, ProxyBecomes, relaned}
use Rattle.mc_world.specs.WorldState.{PoolState, home_of, link_of, no_proxy, proxy_at, proxy_in, session_of, with_proxy}

-- the proxies of a list, after one of them is replaced: that one, the others, and none if there is none of its number
pub set_own : (proxy : ℕ) (now : ProxyState) (proxies : List ProxyState) → proxy < length proxies → proxy_in (with_proxy proxy now proxies) proxy ≡ now
set_own proxy now proxies inside = get_or-set_same proxies proxy now no_proxy inside

pub set_other : (proxy other : ℕ) (now : ProxyState) (proxies : List ProxyState) → proxy ≢ other → proxy_in (with_proxy proxy now proxies) other ≡ proxy_in proxies other
set_other proxy other now proxies differ = get_or-set_other proxies proxy other now no_proxy (λ same. differ (sym same))

pub proxy_past : (proxy : ℕ) (proxies : List ProxyState) → length proxies ≤ proxy → proxy_in proxies proxy ≡ no_proxy
proxy_past proxy proxies past = get_or_past proxies proxy no_proxy past

-- a proxy that is set to what it is
pub set_same : (proxy : ℕ) (proxies : List ProxyState) → with_proxy proxy (proxy_in proxies proxy) proxies ≡ proxies
set_same proxy proxies = set-get_or proxies proxy no_proxy

-- a proxy after a change: that one, the others, and all after nothing happened to them
pub proxy_own : (proxy : ℕ) (now : ProxyState) (old new : PoolState) → ProxyBecomes proxy now old new → proxy < length old.proxies → proxy_at new proxy ≡ now
proxy_own proxy now old new b inside = ap (λ (ps : List ProxyState). proxy_in ps proxy) b.proxies ∙ set_own proxy now old.proxies inside

pub proxy_other : (proxy other : ℕ) (now : ProxyState) (old new : PoolState) → ProxyBecomes proxy now old new → proxy ≢ other → proxy_at new other ≡ proxy_at old other
proxy_other proxy other now old new b differ = ap (λ (ps : List ProxyState). proxy_in ps other) b.proxies ∙ set_other proxy other now old.proxies differ

pub proxy_stays : (old new : PoolState) → ProxiesStay old new → (proxy : ℕ) → proxy_at new proxy ≡ proxy_at old proxy
proxy_stays old new s proxy = ap (λ (ps : List ProxyState). proxy_in ps proxy) s.proxies

-- the same of one that may be past the end, where nothing changes it
pub proxy_own_if : (proxy : ℕ) (now : ProxyState) (old new : PoolState) → ProxyBecomes proxy now old new → (length old.proxies ≤ proxy → now ≡ proxy_at old proxy)
    → proxy_at new proxy ≡ now
proxy_own_if proxy now old new b past =
    ⊎_elim (λ inside. proxy_own proxy now old new b inside)
    (λ beyond. ap (λ (ps : List ProxyState). proxy_in ps proxy) (b.proxies ∙ set_past old.proxies proxy now beyond) ∙ sym (past beyond))
    (cases_lt proxy (length old.proxies))

-- as many proxies as before
pub proxies_count : (proxy : ℕ) (now : ProxyState) (old new : PoolState) → ProxyBecomes proxy now old new → length new.proxies ≡ length old.proxies
proxies_count proxy now old new b = ap (λ (ps : List ProxyState). length ps) b.proxies ∙ length-set old.proxies proxy now

-- the proxy of each client stays
pub home_becomes : (proxy : ℕ) (now : ProxyState) (old new : PoolState) → ProxyBecomes proxy now old new → (client : ℕ) → home_of new client ≡ home_of old client
home_becomes proxy now old new b client = ap (λ (homes : List ℕ). home_in homes client) b.homes

pub home_stays : (old new : PoolState) → ProxiesStay old new → (client : ℕ) → home_of new client ≡ home_of old client
home_stays old new s client = ap (λ (homes : List ℕ). home_in homes client) s.homes

-- the session of a client: of that proxy, and after nothing happened to the proxies
pub session_own_if : (client : ℕ) (now : ProxyState) (old new : PoolState) → ProxyBecomes (home_of old client) now old new
    → (length old.proxies ≤ home_of old client → now ≡ proxy_at old (home_of old client)) → session_of new client ≡ session_at now client
session_own_if client now old new b past =
    ap (λ (proxy : ℕ). session_at (proxy_at new proxy) client) (home_becomes (home_of old client) now old new b client)
    ∙ ap (λ (p : ProxyState). session_at p client) (proxy_own_if (home_of old client) now old new b past)

pub session_own : (client : ℕ) (now : ProxyState) (old new : PoolState) → ProxyBecomes (home_of old client) now old new → home_of old client < length old.proxies
    → session_of new client ≡ session_at now client
session_own client now old new b inside = session_own_if client now old new b (λ past. absurd (omega (arith, past, inside)))

pub session_stays : (client : ℕ) (old new : PoolState) → ProxiesStay old new → session_of new client ≡ session_of old client
session_stays client old new s =
    ap (λ (p : ℕ). session_at (proxy_at new p) client) (home_stays old new s client)
    ∙ ap (λ (p : ProxyState). session_at p client) (proxy_stays old new s (home_of old client))

-- what the proxy that changed keeps, all keep
pub all_keep : {X : Type 0} (f : ProxyState → X) (proxy : ℕ) (now : ProxyState) (old new : PoolState) → ProxyBecomes proxy now old new → f now ≡ f (proxy_at old proxy)
    → (other : ℕ) → f (proxy_at new other) ≡ f (proxy_at old other)
all_keep f proxy now old new b same other =
    ⊎_elim
    (λ is. subst (λ (n : ℕ). f (proxy_at new n) ≡ f (proxy_at old n)) is.1
    (⊎_elim (λ inside. ap f (proxy_own proxy now old new b inside) ∙ same)
    (λ past. ap (λ (ps : List ProxyState). f (proxy_in ps proxy)) (b.proxies ∙ set_past old.proxies proxy now past))
    (cases_lt proxy (length old.proxies))))
    (λ differ. ap f (proxy_other proxy other now old new b differ.1))
    (eqb_tells proxy other)

-- the proxy of an open session is there
pub session_is_there : (client : ℕ) (session : SessionState) (pool : PoolState) → session_of pool client ≡ Some session → home_of pool client < length pool.proxies
session_is_there client session pool at =
    ⊎_elim (λ inside. inside)
    (λ past. absurd (none-some session (sym (ap (λ (p : ProxyState). session_at p client) (proxy_past (home_of pool client) pool.proxies past)) ∙ at)))
    (cases_lt (home_of pool client) (length pool.proxies))

-- the proxy of a link is there; so is that of a link that is up
pub link_is_there : (proxy place : ℕ) (pool : PoolState) → place < length (proxy_at pool proxy).links → proxy < length pool.proxies
link_is_there proxy place pool inside =
    ⊎_elim (λ there. there)
    (λ past. let none : length (proxy_at pool proxy).links ≡ 0 = ap (λ (p : ProxyState). length p.links) (proxy_past proxy pool.proxies past) in
    absurd (omega (arith, none, inside)))
    (cases_lt proxy (length pool.proxies))

pub up_proxy_is_there : (proxy place : ℕ) (pool : PoolState) → (link_of pool proxy place).up ≡ true → proxy < length pool.proxies
up_proxy_is_there proxy place pool up = link_is_there proxy place pool (up_is_there place (proxy_at pool proxy).links up)

-- the links of a proxy other than the one that changed, and of all after nothing happened to them
pub links_other : (proxy other : ℕ) (now : ProxyState) (old new : PoolState) → ProxyBecomes proxy now old new → proxy ≢ other
    → (place : ℕ) → link_of new other place ≡ link_of old other place
links_other proxy other now old new b differ place = ap (λ (p : ProxyState). link_at p.links place) (proxy_other proxy other now old new b differ)

pub links_stay : (old new : PoolState) → ProxiesStay old new → (proxy place : ℕ) → link_of new proxy place ≡ link_of old proxy place
links_stay old new s proxy place = ap (λ (p : ProxyState). link_at p.links place) (proxy_stays old new s proxy)

-- all links stay if those of the proxy that changed do
pub links_become : (proxy : ℕ) (now : ProxyState) (old new : PoolState) → ProxyBecomes proxy now old new → now.links ≡ (proxy_at old proxy).links
    → (other place : ℕ) → link_of new other place ≡ link_of old other place
links_become proxy now old new b same other place =
    ap (λ (links : List LinkState). link_at links place) (all_keep (λ (p : ProxyState). p.links) proxy now old new b same other)

-- one link of a proxy changed: that one, those of other places, and all of that place
pub link_becomes : (proxy place : ℕ) (link : LinkState) (now : ProxyState) (old new : PoolState) → ProxyBecomes proxy now old new
    → now.links ≡ with_link place link (proxy_at old proxy).links → place < length (proxy_at old proxy).links → link_of new proxy place ≡ link
link_becomes proxy place link now old new b links inside =
    ap (λ (p : ProxyState). link_at p.links place) (proxy_own proxy now old new b (link_is_there proxy place old inside))
    ∙ ap (λ (ls : List LinkState). link_at ls place) links ∙ link_own place link (proxy_at old proxy).links inside

pub link_elsewhere : (proxy place : ℕ) (link : LinkState) (now : ProxyState) (old new : PoolState) → ProxyBecomes proxy now old new
    → now.links ≡ with_link place link (proxy_at old proxy).links
    → (other elsewhere : ℕ) → place ≢ elsewhere → link_of new other elsewhere ≡ link_of old other elsewhere
link_elsewhere proxy place link now old new b links other elsewhere differ =
    all_keep (λ (p : ProxyState). link_at p.links elsewhere) proxy now old new b
    (ap (λ (ls : List LinkState). link_at ls elsewhere) links ∙ link_other place elsewhere link (proxy_at old proxy).links differ) other

pub links_changed : (proxy place : ℕ) (link : LinkState) (now : ProxyState) (old new : PoolState) → ProxyBecomes proxy now old new
    → now.links ≡ with_link place link (proxy_at old proxy).links → place < length (proxy_at old proxy).links
    → (other : ℕ) → link_of new other place ≡ changed proxy link (λ p. link_of old p place) other
links_changed proxy place link now old new b links inside other =
    ⊎_elim
    (λ is. subst (λ (n : ℕ). link_of new n place ≡ changed proxy link (λ p. link_of old p place) n) is.1
    (link_becomes proxy place link now old new b links inside ∙ sym (changed-own proxy link (λ p. link_of old p place))))
    (λ differ. links_other proxy other now old new b differ.1 place ∙ sym (changed-other proxy other link (λ p. link_of old p place) differ.1))
    (eqb_tells proxy other)

-- the lanes after the one of a link is replaced: of its proxy, by place; of other proxies; of its place, by proxy; and of other places
pub lanes_own : (proxy place : ℕ) (lane : Lane) (lanes : ℕ → ℕ → Lane) → ◌≡◌ {A = ℕ → Lane} (relaned proxy place lane lanes proxy) (changed place lane (lanes proxy))
lanes_own proxy place lane lanes = changed-own proxy (changed place lane (lanes proxy)) lanes

pub lanes_other : (proxy place : ℕ) (lane : Lane) (lanes : ℕ → ℕ → Lane) (other : ℕ) → proxy ≢ other → ◌≡◌ {A = ℕ → Lane} (relaned proxy place lane lanes other) (lanes other)
lanes_other proxy place lane lanes other differ = changed-other proxy other (changed place lane (lanes proxy)) lanes differ

pub lanes_here : (proxy place : ℕ) (lane : Lane) (lanes : ℕ → ℕ → Lane) (other : ℕ) → relaned proxy place lane lanes other place ≡ changed proxy lane (λ p. lanes p place) other
lanes_here proxy place lane lanes other =
    ⊎_elim
    (λ is. subst (λ (n : ℕ). relaned proxy place lane lanes n place ≡ changed proxy lane (λ p. lanes p place) n) is.1
    (ap (λ (ls : ℕ → Lane). ls place) (lanes_own proxy place lane lanes) ∙ changed-own place lane (lanes proxy) ∙ sym (changed-own proxy lane (λ p. lanes p place))))
    (λ differ. ap (λ (ls : ℕ → Lane). ls place) (lanes_other proxy place lane lanes other differ.1) ∙ sym (changed-other proxy other lane (λ p. lanes p place) differ.1))
    (eqb_tells proxy other)

pub lanes_elsewhere : (proxy place : ℕ) (lane : Lane) (lanes : ℕ → ℕ → Lane) (other elsewhere : ℕ) → place ≢ elsewhere
    → relaned proxy place lane lanes other elsewhere ≡ lanes other elsewhere
lanes_elsewhere proxy place lane lanes other elsewhere differ =
    ⊎_elim
    (λ is. subst (λ (n : ℕ). relaned proxy place lane lanes n elsewhere ≡ lanes n elsewhere) is.1
    (ap (λ (ls : ℕ → Lane). ls elsewhere) (lanes_own proxy place lane lanes) ∙ changed-other place elsewhere lane (lanes proxy) differ))
    (λ apart. ap (λ (ls : ℕ → Lane). ls elsewhere) (lanes_other proxy place lane lanes other apart.1))
    (eqb_tells proxy other)

-- what a proxy holds, with texts, bytes and lanes that agree with these at each number
pub proxy_along : (texts texts' sent sent' : ℕ → List ℕ) (order : Order) (lanes lanes' : ℕ → Lane) (proxy : ProxyState)
    → ((number : ℕ) → texts' number ≡ texts number) → ((number : ℕ) → sent' number ≡ sent number) → ((place : ℕ) → lanes' place ≡ lanes place)
    → ProxyHolds texts sent order lanes proxy → ProxyHolds texts' sent' order lanes' proxy
proxy_along texts texts' sent sent' order lanes lanes' proxy texts_are sent_are lanes_are h = record {
  sized = h.sized;
  chosen = h.chosen;
  numbered = h.numbered;
  sessions = λ number.
      subst (λ (text : List ℕ). SessionHoldsAt number order text (sent' number) (session_at proxy number)) (sym (texts_are number))
      (subst (λ (bytes : List ℕ). SessionHoldsAt number order (texts number) bytes (session_at proxy number)) (sym (sent_are number)) (h.sessions number));
  unused = λ number past.
      subst (λ (text : List ℕ). IsUnused number order text (sent' number) (session_at proxy number)) (sym (texts_are number))
      (subst (λ (bytes : List ℕ). IsUnused number order (texts number) bytes (session_at proxy number)) (sym (sent_are number)) (h.unused number past));
  links = λ place. subst (λ (lane : Lane). LinkHolds place order lane (link_at proxy.links place)) (sym (lanes_are place)) (h.links place);
}
