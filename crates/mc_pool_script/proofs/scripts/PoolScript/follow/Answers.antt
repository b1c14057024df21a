use Rattle.std.proofs.Common.{◌≡◌, ◌∙◌, ℕ, ◌+◌, ◌^◌, ◌<◌, ◌≤◌, List, [], ◌∷◌, ◌++◌, length, slice_index_or, ap, subst, sym, arith}
use Rattle.mc_pool_script.specs.PoolScripts.{PoolSeen, known_of}
use Rattle.mc_pool_script.specs.declared.lines.PoolLine.{PoolLine}
use Rattle.mc_pool_script.proofs.KnownLemmas.{AreParts, known_most, parts_more}
use Rattle.mc_pool_script.proofs.scripts.PoolScript.follow.Goals as goal

pub count_known-requires : goal.count_known-requires
count_known-requires c =
    let s = c.self.inside in
    let seen : PoolSeen = record { servers = s.servers; clients = s.clients; proxies = s.proxies; budget = s.budget; items = s.items; points = s.points.items; losses = s.losses; lines = s.lines.items } in
    let few : s.servers ≤ 64 = c.self.invariant.0.few_servers in
    let room : length s.lines.items + 1 < 2 ^ 63 = omega (arith, s.lines.ok.0, c.in_ok-reserve.ensures.len, c.in_ok-reserve.ensures.ok, c.reserve.new.self.small) in
    record {
      few = λ proxy.
          let most = known_most seen proxy in
          let same : slice_index_or s.known.items proxy 0 ≡ slice_index_or (known_of seen) proxy 0 = ap (λ (known : List ℕ). slice_index_or known proxy 0) c.self.invariant.2 in
          omega arith;
    }

pub invariant_of-self-2 : goal.invariant_of-self-2
invariant_of-self-2 c =
    let s = c.self.inside in
    let seen : PoolSeen = record { servers = s.servers; clients = s.clients; proxies = s.proxies; budget = s.budget; items = s.items; points = s.points.items; losses = s.losses; lines = s.lines.items } in
    let with_lines = λ (lines : List PoolLine). AreParts (record { servers = s.servers; clients = s.clients; proxies = s.proxies; budget = s.budget; items = s.items; points = s.points.items; losses = s.losses; lines = lines })
    c.add_joined.new.addresses.items c.count_known.new.known.items in
    let after : c.push.new.self.items ≡ c.reserve.new.self.items ++ c.args.line ∷ [] = rw c.unwrap.ensures at c.push.ensures.items in
    let pushed = after ∙ ap (λ (lines : List PoolLine). lines ++ c.args.line ∷ []) c.in_ok-reserve.ensures.items in
    subst with_lines (sym pushed) (parts_more seen c.args.line s.addresses.items c.add_joined.new.addresses.items s.known.items c.count_known.new.known.items
    c.self.invariant c.requires.moment c.in_ok-add_joined.ensures.joined c.count_known.ensures)
