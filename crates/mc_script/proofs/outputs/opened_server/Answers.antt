use Rattle.std.proofs.Common.{◌≡◌, ◌∙◌, ℕ, length, ap, arith}
use Rattle.mc_cache.specs.CacheState.{CacheState, opening_cache}
use Rattle.mc_server.specs.ServerState.{ServerState, with_fresh}
use Rattle.mc_script.specs.Answers.{cache_of}
use Rattle.mc_script.specs.Plays.{opened}
use Rattle.mc_script.specs.ScriptSeen.{script_seen}
use Rattle.mc_script.proofs.OutputLemmas.{opened_length, opened_more}
use Rattle.mc_script.proofs.outputs.opened_server.Goals as goal

pub loop-init : goal.loop-init
loop-init g c =
    let script = c.args.script.now in
    c.new-server.ensures ∙ ap (λ (cache : CacheState). opened cache 0) (c.new-cache.ensures ∙ ap (λ (n : ℕ). opening_cache script.budget script.items n) c.starting_at.ensures)

pub admit-requires-clause-room : goal.admit-requires-clause-room
admit-requires-clause-room g c =
    let all = ap (λ (s : ServerState). length s.connections) c.loop.invariant ∙ opened_length (cache_of (script_seen c.args.script.now)) c.loop.counter in
    let few = c.args.script.now.few in
    omega arith

pub admit-requires-clause-number : goal.admit-requires-clause-number
admit-requires-clause-number g c =
    let all = ap (λ (s : ServerState). s.admitted) c.loop.invariant in
    let few = c.args.script.now.few in
    omega arith

pub loop-preserved : goal.loop-preserved
loop-preserved g c =
    c.in_ok-admit.ensures.admitted ∙ ap (λ (s : ServerState). with_fresh s) c.loop.invariant ∙ opened_more (cache_of (script_seen c.args.script.now)) c.loop.counter

pub returns-clause-server : goal.returns-clause-server
returns-clause-server g c =
    let all : c.loop.counter ≡ c.args.script.now.connections = omega (arith, c.loop-test.false, c.loop.auto.counter-end) in
    c.loop.invariant ∙ ap (λ (n : ℕ). opened (cache_of (script_seen c.args.script.now)) n) all
