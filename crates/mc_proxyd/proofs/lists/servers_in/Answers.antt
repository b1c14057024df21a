use Rattle.std.proofs.Common.{rules, ◌≡◌, ◌≤◌, ◌+◌, ◌∷◌, ◌++◌, [], ◌∙◌, ℕ, List, length, nat_lt, ap, map, true, false, Err, Some, None, inr, arith}
use Rattle.std.specs.Prelude.{filter}
use Rattle.std.proofs.lemmas.Bool.Decides.{nat_tests}
use Rattle.std.proofs.lemmas.List.{length-map}
use Rattle.mc_proxyd.specs.Files.{is_some_word, word_of, words_of}
use Rattle.mc_proxyd.specs.Servers.{address_of, name_of}
use Rattle.mc_proxyd.specs.declared.servers.NamedServer.{NamedServer}
use Rattle.mc_proxyd.specs.Mistakes.{mistake_after}
use Rattle.mc_proxyd.specs.declared.lists.Mistake.TheVariants.{Unended, NoneAtAll}
use Rattle.mc_proxyd.proofs.ListLemmas.{goes_on, all_found, words_none}
use Rattle.mc_proxyd.proofs.MistakeLemmas.{ended, mistake_at_end, mistake_goes_on, mistake_here, shorter, unended}
use Rattle.mc_proxyd.proofs.lists.servers_in.Goals as goal

pub loop-line-preserved : goal.loop-line-preserved
loop-line-preserved c =
    let word = c.word_of.ensures ∙ ap (λ (line : List ℕ). word_of line) c.in-Some.ensures.1 in
    let names = goes_on name_of (map (λ (server : NamedServer). server.name) c.loop-line.servers.items) (map (λ (server : NamedServer). server.name) c.add.new.servers.items)
    (map name_of (words_of c.args.text.now)) c.loop-line.rest.now c.in-Some.ensures.0 c.loop-line.invariant.2
    (c.in_ok-add.ensures.names
    ∙ ap (λ (w : List ℕ). map (λ (server : NamedServer). server.name) c.loop-line.servers.items ++ map name_of (filter is_some_word (w ∷ []))) word) in
    let addresses = goes_on address_of (map (λ (server : NamedServer). server.address) c.loop-line.servers.items) (map (λ (server : NamedServer). server.address) c.add.new.servers.items)
    (map address_of (words_of c.args.text.now)) c.loop-line.rest.now c.in-Some.ensures.0 c.loop-line.invariant.3
    (c.in_ok-add.ensures.addresses
    ∙ ap (λ (w : List ℕ). map (λ (server : NamedServer). server.address) c.loop-line.servers.items ++ map address_of (filter is_some_word (w ∷ []))) word) in
    let mistake = mistake_goes_on c.loop-line.number (map (λ (server : NamedServer). server.name) c.loop-line.servers.items)
    (map (λ (server : NamedServer). server.name) c.add.new.servers.items) c.word_of.result.now c.loop-line.rest.now (mistake_after 1 [] c.args.text.now)
    c.in-Some.ensures.0 word c.in_ok-add.ensures.right c.in_ok-add.ensures.names c.loop-line.invariant.4 in
    let less : length c.in-Some.more.now + 1 ≤ length c.loop-line.rest.now = rw c.in-Some.ensures.2 (shorter c.loop-line.rest.now c.in-Some.ensures.0) in
    let next : c.saturating_add-number.result ≡ c.loop-line.number + 1 = omega (arith, c.saturating_add-number.ensures, c.loop-line.invariant.5, less) in (
      search rules,
      c.add.ensures.few,
      rw c.in-Some.ensures.2 names,
      rw c.in-Some.ensures.2 addresses,
      rw (next, c.in-Some.ensures.2) mistake,
      omega (arith, next, less, c.loop-line.invariant.5),
    )

pub returns-in_err-add-clause-mistake : goal.returns-in_err-add-clause-mistake
returns-in_err-add-clause-mistake c =
    let word = c.word_of.ensures ∙ ap (λ (line : List ℕ). word_of line) c.in-Some.ensures.1 in
    let same : c.from_residual.result ≡ Err c.in_err-add.field-0.0 = search rules in
    rw same (mistake_here c.loop-line.number (map (λ (server : NamedServer). server.name) c.loop-line.servers.items) c.word_of.result.now c.loop-line.rest.now
    (mistake_after 1 [] c.args.text.now) c.in_err-add.field-0.0 c.in-Some.ensures.0 word c.in_err-add.ensures.mistake c.loop-line.invariant.4)

pub returns-then-not-is_empty-clause-mistake : goal.returns-then-not-is_empty-clause-mistake
returns-then-not-is_empty-clause-mistake c =
    let some : is_some_word c.word_of-2.result.now ≡ true = grind (arith, nat_tests, c.is_empty.ensures, c.if-not-is_empty.true) in
    let names = map (λ (server : NamedServer). server.name) c.loop-line.servers.items in
    inr (mistake_at_end c.loop-line.number names c.word_of-2.result.now c.loop-line.rest.now (mistake_after 1 [] c.args.text.now) (Some (Unended c.loop-line.number))
    c.in_default.ensures c.word_of-2.ensures (unended c.loop-line.number names c.word_of-2.result.now some) c.loop-line.invariant.4)

pub returns-then-is_empty-clause-mistake : goal.returns-then-is_empty-clause-mistake
returns-then-is_empty-clause-mistake c =
    let none : is_some_word c.word_of-2.result.now ≡ false = grind (arith, nat_tests, c.is_empty.ensures, c.if-not-is_empty.false) in
    let names = map (λ (server : NamedServer). server.name) c.loop-line.servers.items in
    let nobody : nat_lt 0 (length names) ≡ false = grind (arith, nat_tests, c.is_empty-2.ensures, c.if-is_empty.true, c.as_slice.ensures.value, length-map c.loop-line.servers.items (λ (server : NamedServer). server.name)) in
    inr (mistake_at_end c.loop-line.number names c.word_of-2.result.now c.loop-line.rest.now (mistake_after 1 [] c.args.text.now) (Some NoneAtAll)
    c.in_default.ensures c.word_of-2.ensures (ended c.loop-line.number names c.word_of-2.result.now false none nobody) c.loop-line.invariant.4)

pub returns-clause-right : goal.returns-clause-right
returns-clause-right c =
    let none : is_some_word c.word_of-2.result.now ≡ false = grind (arith, nat_tests, c.is_empty.ensures, c.if-not-is_empty.false) in
    let names = map (λ (server : NamedServer). server.name) c.loop-line.servers.items in
    let somebody : nat_lt 0 (length names) ≡ true = grind (arith, nat_tests, c.is_empty-2.ensures, c.if-is_empty.false, c.as_slice.ensures.value, length-map c.loop-line.servers.items (λ (server : NamedServer). server.name)) in
    mistake_at_end c.loop-line.number names c.word_of-2.result.now c.loop-line.rest.now (mistake_after 1 [] c.args.text.now) None
    c.in_default.ensures c.word_of-2.ensures (ended c.loop-line.number names c.word_of-2.result.now true none somebody) c.loop-line.invariant.4

pub returns-clause-names : goal.returns-clause-names
returns-clause-names c =
    let none : is_some_word (word_of c.loop-line.rest.now) ≡ false = grind (arith, nat_tests, c.word_of-2.ensures, c.is_empty.ensures, c.if-not-is_empty.false) in
    all_found name_of (map (λ (server : NamedServer). server.name) c.loop-line.servers.items) (map name_of (words_of c.args.text.now)) c.loop-line.rest.now
    (words_none c.loop-line.rest.now c.in_default.ensures none) c.loop-line.invariant.2

pub returns-clause-addresses : goal.returns-clause-addresses
returns-clause-addresses c =
    let none : is_some_word (word_of c.loop-line.rest.now) ≡ false = grind (arith, nat_tests, c.word_of-2.ensures, c.is_empty.ensures, c.if-not-is_empty.false) in
    all_found address_of (map (λ (server : NamedServer). server.address) c.loop-line.servers.items)
    (map address_of (words_of c.args.text.now)) c.loop-line.rest.now
    (words_none c.loop-line.rest.now c.in_default.ensures none) c.loop-line.invariant.3
