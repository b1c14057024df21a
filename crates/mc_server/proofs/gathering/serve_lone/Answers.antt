use Rattle.std.proofs.Common.{◌≡◌, ◌≤◌, ℕ, List, ◌++◌, codes, length, drop, length-append, length-drop, refl, ap, arith}
use Rattle.mc_cache.specs.CacheState.{front_value}
use Rattle.mc_server.proofs.GatherLemmas.{puts_none, puts_hit, served_behind}
use Rattle.mc_server.proofs.gathering.serve_lone.Goals as goal

-- there is no item: the answer is whole, and goes after what is unsent
pub returns-then-not-serve_head-clause-put : goal.returns-then-not-serve_head-clause-put
returns-then-not-serve_head-clause-put g c number =
    puts_none number c.args.moment _ c.args.cache.now c.serve_head.new.cache _ _ _
    (served_behind number c.args.moment c.args.sent c.args.cache.now c.serve_head.new.cache _ c.args.output.now.items c.serve_head.new.output.items (omega arith)
    (c.serve_head.ensures.miss c.if-not-serve_head.true number))

-- the line, the value and the end are written or appended
pub returns-clause-put : goal.returns-clause-put
returns-clause-put g c number =
    puts_hit number c.args.moment c.args.sent c.put_out.result.went _ _ c.args.cache.now c.serve_head.new.cache _
    c.args.output.now.items c.serve_head.new.output.items (front_value c.serve_head.new.cache.items ++ codes "\r\nEND\r\n") _ (omega arith) (omega (arith, c.serve_head.ensures.longer))
    (c.serve_head.ensures.hit c.if-not-serve_head.false number) (c.serve_head.ensures.shown c.if-not-serve_head.false)
    (rw c.front_value.ensures at c.put_out.ensures.wrote) (rw c.front_value.ensures at c.put_out.ensures.left)

-- no more is left than was unsent, the line, the value and the end
pub returns-clause-len : goal.returns-clause-len
returns-clause-len g c =
    let line = c.serve_head.new.output.items in
    let value = c.front_value.result.now in
    let more : List ℕ = value ++ codes "\r\nEND\r\n" in
    let end : length (codes "\r\nEND\r\n") ≡ 7 = refl in
    let left = ap (λ (bytes : List ℕ). length bytes) c.put_out.ensures.left in
    let shown = ap (λ (bytes : List ℕ). length bytes) c.front_value.ensures in
    let fits = c.serve_head.ensures.fits c.if-not-serve_head.false in
    omega (
      arith,
      left,
      shown,
      fits,
      end,
      c.serve_head.ensures.len,
      c.serve_head.ensures.longer,
      length-drop c.put_out.result.went (drop c.args.sent line ++ more),
      length-append (drop c.args.sent line) more,
      length-append value (codes "\r\nEND\r\n"),
      length-drop c.args.sent line,
      length-drop c.args.sent c.args.output.now.items,
      c.args.output.now.ok,
      c.serve_head.new.output.ok,
    )
