use Rattle.std.proofs.Common.{rules, ◌≡◌, ◌∙◌, ℕ, List, true, false, nat_lt, length, map, ap, sym, Err, Some, None, arith}
use Rattle.std.proofs.lemmas.Bool.Decides.{nat_tests}
use Rattle.mc_proxyd.specs.Servers.{address_of, name_of}
use Rattle.mc_proxyd.specs.declared.servers.NamedServer.{NamedServer}
use Rattle.mc_proxyd.specs.Files.{is_some_word}
use Rattle.mc_proxyd.specs.Mistakes.{word_mistake}
use Rattle.mc_proxyd.proofs.ListLemmas.{adds}
use Rattle.mc_proxyd.proofs.MistakeLemmas.{no_word, of_word, wrong_line}
use Rattle.mc_proxyd.proofs.lists.add.Goals as goal

pub returns-clause-names : goal.returns-clause-names
returns-clause-names c =
    let some : nat_lt 0 (length c.args.word.now) ≡ true = grind (arith, nat_tests, c.if-is_empty.false, c.is_empty.ensures) in
    let one =
    adds name_of (λ (server : NamedServer). server.name) c.args.servers.now.items c.in_ok-server.server c.args.word.now some c.in_ok-server.ensures.name in
    grind (arith, one)

pub returns-clause-addresses : goal.returns-clause-addresses
returns-clause-addresses c =
    let some : nat_lt 0 (length c.args.word.now) ≡ true = grind (arith, nat_tests, c.if-is_empty.false, c.is_empty.ensures) in
    let one = adds address_of (λ (server : NamedServer). server.address) c.args.servers.now.items c.in_ok-server.server c.args.word.now some c.in_ok-server.ensures.address in
    grind (arith, one)

pub returns-then-is_empty-clause-right : goal.returns-then-is_empty-clause-right
returns-then-is_empty-clause-right c =
    let none : is_some_word c.args.word.now ≡ false = grind (arith, nat_tests, c.if-is_empty.true, c.is_empty.ensures) in
    no_word c.args.number (map (λ (server : NamedServer). server.name) c.args.servers.now.items) c.args.word.now none

pub returns-in_err-server-clause-mistake : goal.returns-in_err-server-clause-mistake
returns-in_err-server-clause-mistake c =
    let some : is_some_word c.args.word.now ≡ true = grind (arith, nat_tests, c.if-is_empty.false, c.is_empty.ensures) in
    let same : c.from_residual.result ≡ Err c.in_err-server.field-0.0 = search rules in
    rw (same, ← c.as_slice.ensures.value) (wrong_line c.args.number (map (λ (server : NamedServer). server.name) c.as_slice.result.now) c.args.word.now
    c.in_err-server.field-0.0 some c.in_err-server.ensures.mistake)

pub returns-clause-right : goal.returns-clause-right
returns-clause-right c =
    let some : is_some_word c.args.word.now ≡ true = grind (arith, nat_tests, c.if-is_empty.false, c.is_empty.ensures) in
    of_word c.args.number (map (λ (server : NamedServer). server.name) c.args.servers.now.items) c.args.word.now some
    ∙ ap (λ (servers : List NamedServer). word_mistake c.args.number (map (λ (server : NamedServer). server.name) servers) c.args.word.now)
    (sym c.as_slice.ensures.value)
    ∙ c.in_ok-server.ensures.right
