use Rattle.std.proofs.Common.{rules, ◌≡◌, ◌∙◌, ℕ, List, map, ap, sym, Err, inr}
use Rattle.mc_proxyd.specs.Servers.{is_server}
use Rattle.mc_proxyd.specs.Mistakes.{name_mistake}
use Rattle.mc_proxyd.specs.declared.servers.NamedServer.{NamedServer}
use Rattle.mc_proxyd.proofs.MistakeLemmas.{is_true, no_server, of_name}
use Rattle.mc_proxyd.proofs.lists.next_server.Goals as goal

pub returns-in_err-server-clause-mistake : goal.returns-in_err-server-clause-mistake
returns-in_err-server-clause-mistake c =
    let same : c.from_residual.result ≡ Err c.in_err-server.field-0.0 = search rules in
    rw same (no_server c.args.number (map (λ (server : NamedServer). server.name) c.args.servers.now) c.args.word.now c.in_err-server.field-0.0
    c.in_err-server.ensures.no_server c.in_err-server.ensures.memory)

pub returns-in-Some-clause-mistake : goal.returns-in-Some-clause-mistake
returns-in-Some-clause-mistake c =
    let names = map (λ (server : NamedServer). server.name) c.args.servers.now in
    let server = is_true (is_server c.args.word.now) c.in_ok-server.ensures.no_server in
    inr (of_name c.args.number names c.args.word.now server
    ∙ ap (λ (name : List ℕ). name_mistake c.args.number names name) (sym c.in_ok-server.ensures.name) ∙ sym c.in-Some.ensures.mistake)

pub returns-in-None-clause-right : goal.returns-in-None-clause-right
returns-in-None-clause-right c =
    let names = map (λ (server : NamedServer). server.name) c.args.servers.now in
    let server = is_true (is_server c.args.word.now) c.in_ok-server.ensures.no_server in
    of_name c.args.number names c.args.word.now server
    ∙ ap (λ (name : List ℕ). name_mistake c.args.number names name) (sym c.in_ok-server.ensures.name) ∙ sym c.in-None.ensures.mistake
