use Rattle.std.proofs.Common.{rules, ◌≡◌, ◌∙◌, ℕ, List, length, ap}
use Rattle.std.specs.Prelude.{replicate, sum}
use Rattle.mc_world.specs.Worlds.{nobody}
use Rattle.mc_world.proofs.Course.OpeningLemmas.{opened_as}
use Rattle.mc_world.proofs.Course.OpeningPartLemmas.{homes-length}
use Rattle.mc_world.proofs.openings.opened_course.Goals as goal

pub returns-clause-opened : goal.returns-clause-opened
returns-clause-opened g c =
    let count : c.len.result ≡ length c.in_ok-homes.homes.items = search rules in
    let many : c.len.result ≡ sum c.args.clients.now = count ∙ ap (λ (hs : List ℕ). length hs) c.in_ok-homes.ensures.homes ∙ homes-length 0 c.args.clients.now in
    opened_as c.args.losses c.args.ring.now c.args.clients.now c.args.budget c.args.items (length c.args.stores.items) c.new-2.result c.in_ok-homes.homes.items c.new.result c.in_ok-sites.sites.items
    c.in_ok-clients.clients.items c.new-3.result.items c.new-2.ensures c.in_ok-homes.ensures.homes (c.new.ensures ∙ c.in_ok-proxies.ensures.opened) c.in_ok-sites.ensures.opened c.requires.each
    (c.in_ok-clients.ensures.opened ∙ ap (λ (n : ℕ). replicate n nobody) many) c.new-3.ensures.items
