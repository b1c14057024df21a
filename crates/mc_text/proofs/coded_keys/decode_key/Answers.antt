use Rattle.std.proofs.Common.{◌≡◌, ◌≢◌, ◌<◌, [], Some, length, arith, refl, rules}
use Rattle.std.proofs.lemmas.List.{nil_from_length}
use Rattle.std.proofs.lemmas.Bool.Decides.{nat_tests}
use Rattle.mc_text.specs.CodedKeys.{bytes_of_base64}
use Rattle.mc_text.proofs.CodedLemmas.{said-nil, length-said, coded_key-said, coded_key-unsaid, coded_key-too_long}
use Rattle.mc_text.proofs.coded_keys.decode_key.Goals as goal

pub returns-then-is_empty-clause-none : goal.returns-then-is_empty-clause-none
returns-then-is_empty-clause-none c =
    let empty : c.args.word.now ≡ [] = nil_from_length c.args.word.now (grind (arith, nat_tests)) in
    rw empty (coded_key-said [] [] said-nil)

pub returns-then-is_empty-clause-too_long : goal.returns-then-is_empty-clause-too_long
returns-then-is_empty-clause-too_long c =
    let empty : c.args.word.now ≡ [] = nil_from_length c.args.word.now (grind (arith, nat_tests)) in
    rw (empty, said-nil) (λ other. absurd cc, λ long. absurd cc)

pub returns-then-is_empty-clause-bad_base64 : goal.returns-then-is_empty-clause-bad_base64
returns-then-is_empty-clause-bad_base64 c =
    let empty : c.args.word.now ≡ [] = nil_from_length c.args.word.now (grind (arith, nat_tests)) in
    rw (empty, said-nil) (λ other. absurd cc, λ unsaid. absurd (cc unsaid.1))

pub returns-then-word-gt-CODED_LIMIT-clause-none : goal.returns-then-word-gt-CODED_LIMIT-clause-none
returns-then-word-gt-CODED_LIMIT-clause-none c = coded_key-too_long c.args.word.now (λ i. let fits = c.type_inv.word i in omega arith) (omega arith)

pub returns-in_default-clause-none : goal.returns-in_default-clause-none
returns-in_default-clause-none c = coded_key-unsaid c.args.word.now (search rules)

pub returns-then-key-gt-KEY_LIMIT-clause-none : goal.returns-then-key-gt-KEY_LIMIT-clause-none
returns-then-key-gt-KEY_LIMIT-clause-none c =
    let said : bytes_of_base64 c.args.word.now ≡ Some c.in-Some.key.now = search rules in
    rw (coded_key-said c.args.word.now c.in-Some.key.now said) (grind (arith, nat_tests))

pub returns-clause-valid : goal.returns-clause-valid
returns-clause-valid c =
    let said : bytes_of_base64 c.args.word.now ≡ Some c.in-Some.key.now = search rules in
    let differs : length c.args.word.now ≢ 0 = grind (arith, nat_tests) in
    let size = length-said c.args.word.now c.in-Some.key.now (λ i. let fits = c.type_inv.word i in omega arith) said in
    let some : 0 < length c.in-Some.key.now = omega arith in
    grind (arith, nat_tests)

pub returns-clause-key : goal.returns-clause-key
returns-clause-key c =
    let said : bytes_of_base64 c.args.word.now ≡ Some c.in-Some.key.now = search rules in
    rw (coded_key-said c.args.word.now c.in-Some.key.now said) (rw (returns-clause-valid c) refl)
