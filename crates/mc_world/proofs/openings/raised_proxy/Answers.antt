use Rattle.std.proofs.Common.{◌≡◌, ◌∙◌, ℕ, suc, ◌+◌, ◌<◌, List, [], length, ap, arith}
use Rattle.mc_link.specs.LinkState.{LinkState, up_link}
use Rattle.mc_proxy.specs.ProxyState.{ProxyState}
use Rattle.mc_proxy.specs.SessionState.{link_at, with_link}
use Rattle.mc_proxy.proofs.RaisingLemmas.{raised, raised-all, raised-at, raised-next}
use Rattle.mc_world.proofs.openings.raised_proxy.Goals as goal

-- one more link is up, with the first generation
pub loop-place-preserved : goal.loop-place-preserved
loop-place-preserved c =
    let place = c.loop-place.place in
    let many = length c.args.ring.servers in
    let servers : length c.servers-places.result.now ≡ many = ap (λ (servers : List (List ℕ)). length servers) c.servers-places.ensures.servers in
    let inside : place < many = omega (arith, c.loop-place-test.true, servers) in
    let next : suc place ≡ place + 1 = omega arith in
    let links : c.loop-place.proxy.links ≡ raised place many = ap (λ (p : ProxyState). p.links) c.loop-place.invariant in
    let first : c.in_ok-back.field-0 ≡ 1 =
    c.in_ok-back.ensures.generation
    ∙ ap (λ (ls : List LinkState). (link_at ls place).generation + 1) links
    ∙ ap (λ (l : LinkState). l.generation + 1) (raised-at place many inside) in
    c.in_ok-back.ensures.back
    ∙ ap (λ (generation : ℕ). record c.loop-place.proxy { links = with_link place (up_link generation) c.loop-place.proxy.links }) first
    ∙ ap (λ (p : ProxyState). record p { links = with_link place (up_link 1) p.links }) c.loop-place.invariant
    ∙ ap (λ (ls : List LinkState). record { losses = c.args.losses; ring = c.args.ring; sessions = []; admitted = 0; links = ls })
    (raised-next place many inside ∙ ap (λ (n : ℕ). raised n many) next)

-- at the end all links are up
pub returns-clause-opened : goal.returns-clause-opened
returns-clause-opened c =
    let many = length c.args.ring.servers in
    let servers : length c.servers-places.result.now ≡ many = ap (λ (servers : List (List ℕ)). length servers) c.servers-places.ensures.servers in
    let all : c.loop-place.place ≡ many = omega (arith, c.loop-place-test.false, c.loop-place.auto.place-end, servers) in
    c.loop-place.invariant
    ∙ ap (λ (ls : List LinkState). record { losses = c.args.losses; ring = c.args.ring; sessions = []; admitted = 0; links = ls }) (ap (λ (n : ℕ). raised n many) all ∙ raised-all many)
