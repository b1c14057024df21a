-- The rings and the links of a pool after an event that is logged, and a pool in which one proxy is replaced.
use Rattle.std.proofs.Common.{◌≡◌, ◌∙◌, ⊎_elim, ℕ, ◌<◌, ◌≤◌, Bool, true, List, [], ◌∷◌, ◌++◌, length, Some, slice_get, refl, sym, ap, subst, arith}
use Rattle.std.proofs.lemmas.Bool.{cases_lt}
use Rattle.std.proofs.lemmas.Bool.Decides.{eqb_tells}
use Rattle.std.proofs.lemmas.List.{set_past}
use Rattle.mc_ring.specs.Rings.{IsRing, RingState}
use Rattle.mc_proxy.specs.ProxyState.{ProxyState}
use Rattle.mc_world.specs.LogHolds.{ServersHold}
use Rattle.mc_world.specs.Logs.{IsRingAfter, Log, up_by}
use Rattle.mc_world.specs.Pools.{ProxyBecomes}
use Rattle.mc_world.specs.WorldState.{PoolState, SiteState, link_of, proxy_at, proxy_in, with_proxy}
use Rattle.mc_world.specs.declared.logs.Logged.{Logged}
use Rattle.mc_world.proofs.PoolEvents.ProxyLemmas.{all_keep, proxies_count, proxy_other, set_own}
use Rattle.mc_world.proofs.Log.LogLemmas.{IsEvent, ring-push, up-push}

-- each proxy of a pool after one of them is replaced
pub becomes : (P : ProxyState → Type 0) (proxy : ℕ) (now : ProxyState) (old new : PoolState) → ProxyBecomes proxy now old new → (other : ℕ) → (proxy ≡ other → P now)
    → P (proxy_at old other) → P (proxy_at new other)
becomes P proxy now old new is other own same = ⊎_elim
    (λ here. subst (λ (ps : List ProxyState). P (proxy_in ps other)) (sym is.proxies) (⊎_elim
    (λ inside. subst (λ (n : ℕ). P (proxy_in (with_proxy proxy now old.proxies) n)) here.1
    (subst (λ (p : ProxyState). P p) (sym (set_own proxy now old.proxies inside)) (own here.1)))
    (λ past. subst (λ (ps : List ProxyState). P (proxy_in ps other)) (sym (set_past old.proxies proxy now past)) same)
    (cases_lt proxy (length old.proxies))))
    (λ differ. subst (λ (p : ProxyState). P p) (sym (proxy_other proxy other now old new is differ.1)) same)
    (eqb_tells proxy other)

-- pools of the same proxies of clients and the same rings, with as many proxies, links, sites and ways
pub record AreAlike (old new : PoolState) : Type 0 where
  pub homes : new.homes ≡ old.homes
  pub proxies : length new.proxies ≡ length old.proxies
  pub ring : (proxy : ℕ) → (proxy_at new proxy).ring ≡ (proxy_at old proxy).ring
  pub links : (proxy : ℕ) → length (proxy_at new proxy).links ≡ length (proxy_at old proxy).links
  pub sites : length new.sites ≡ length old.sites
  pub ways : (place : ℕ) (site : SiteState) → slice_get new.sites place ≡ Some site → (was : SiteState) × (slice_get old.sites place ≡ Some was) × (length site.ways ≡ length was.ways)

-- one proxy is replaced by one of the same ring with as many links, and the sites stay
pub alike_becomes : (proxy : ℕ) (now : ProxyState) (old new : PoolState) → ProxyBecomes proxy now old new → now.ring ≡ (proxy_at old proxy).ring
    → length now.links ≡ length (proxy_at old proxy).links → new.sites ≡ old.sites → AreAlike old new
alike_becomes proxy now old new is ring links sites = record {
  homes = is.homes;
  proxies = proxies_count proxy now old new is;
  ring = all_keep (λ (p : ProxyState). p.ring) proxy now old new is ring;
  links = all_keep (λ (p : ProxyState). length p.links) proxy now old new is links;
  sites = ap (λ (ss : List SiteState). length ss) sites;
  ways = λ place site at. (site, ap (λ (ss : List SiteState). slice_get ss place) (sym sites) ∙ at, refl);
}

pub servers_go : (opening : RingState) (log : Log) (e : Logged) (old new : PoolState) → IsEvent e → AreAlike old new
    → ((proxy place : ℕ) → place < length (proxy_at old proxy).links → (link_of new proxy place).up ≡ up_by proxy place e (link_of old proxy place).up)
    → ((proxy place : ℕ) → length (proxy_at old proxy).links ≤ place → up_by proxy place e true ≡ true)
    → ServersHold opening log old → ServersHold opening (log ++ e ∷ []) new
servers_go opening log e old new event alike ups none h = record {
  ring = λ proxy inside.
      subst (λ (r : RingState). IsRingAfter proxy opening (log ++ e ∷ []) r) (sym (alike.ring proxy))
      (ring-push proxy opening (proxy_at old proxy).ring log e event (h.ring proxy (omega (arith, inside, alike.proxies))));
  is_ring = λ proxy inside. subst (λ (r : RingState). IsRing r) (sym (alike.ring proxy)) (h.is_ring proxy (omega (arith, inside, alike.proxies)));
  linked = λ proxy. alike.links proxy ∙ h.linked proxy ∙ ap (λ (r : RingState). length r.servers) (sym (alike.ring proxy));
  sited = λ proxy. omega (arith, alike.links proxy, alike.sites, h.sited proxy);
  ways = λ place site at. let was = alike.ways place site at in was.2 ∙ h.ways place was.0 was.1 ∙ sym alike.proxies;
  links = λ proxy place inside.
      let there : place < length (proxy_at old proxy).links = omega (arith, inside, alike.links proxy) in
      up-push proxy place true log e ∙ ap (λ (v : Bool). up_by proxy place e v) (h.links proxy place there) ∙ sym (ups proxy place there);
  no_links = λ proxy place past.
      let out : length (proxy_at old proxy).links ≤ place = omega (arith, past, alike.links proxy) in
      up-push proxy place true log e ∙ ap (λ (v : Bool). up_by proxy place e v) (h.no_links proxy place out) ∙ none proxy place out;
}

-- an event by which no link is lost or comes up
pub servers_stay : (opening : RingState) (log : Log) (e : Logged) (old new : PoolState) → IsEvent e → ((proxy place : ℕ) (up : Bool) → up_by proxy place e up ≡ up) → AreAlike old new
    → ((proxy place : ℕ) → (link_of new proxy place).up ≡ (link_of old proxy place).up)
    → ServersHold opening log old → ServersHold opening (log ++ e ∷ []) new
servers_stay opening log e old new event quiet alike ups h =
    servers_go opening log e old new event alike (λ proxy place inside. ups proxy place ∙ sym (quiet proxy place (link_of old proxy place).up))
    (λ proxy place past. quiet proxy place true) h
