-- What is unsent.
use Rattle.std.proofs.Common.{◌≡◌, ◌∙◌, ◌≤◌, ◌<◌, ◌+◌, ◌-◌, ◌^◌, ℕ, List, [], ◌++◌, length, max, min, nat_lt, ◌↔◌, inl, inr, Option, Some, Result, Ok, ap, subst, arith}
use Rattle.std.proofs.lemmas.List.{length-append}
use Rattle.mc_server.specs.Histories.{answers_to}
use Rattle.mc_server.specs.Served.{ServedRequest}
use Rattle.mc_server.specs.ServerState.{ConnectionState, Connections, ServerState, connection_at, connection_in, output_of}
use Rattle.mc_server.specs.Turns.{IsTurn, Steps}
use Rattle.mc_server.specs.declared.turns.Turn.{Turn}
use Rattle.mc_server.specs.declared.turns.Turn.TheVariants.{Idle, Closing}
use Rattle.mc_server.specs.declared.turns.Limited.{Limited}
use Rattle.mc_server.specs.declared.turns.Limited.TheVariants.{Turned, Refused}
use Rattle.mc_text.proofs.FieldLemmas.{either}
use Rattle.std.proofs.lemmas.Bool.Decides.{nat_tests}
use Rattle.mc_server.proofs.ConnectionLemmas.{updated_own}
use Rattle.mc_pump.specs.Stretches.{ConnectionStretch}
use Rattle.mc_pump.specs.Unsent.{IsUnsentWithin}
use Rattle.mc_pump.specs.declared.limits.TheConstants.{SMALL_ANSWER}
use Rattle.mc_pump.proofs.StretchLemmas.{stretch_open}

pub unsent_same : (most : ℕ) (o : Option ConnectionState) → IsUnsentWithin most o o
unsent_same most o = omega arith

-- one after another, with the same most
pub unsent_then : (most between : ℕ) (a b c : Option ConnectionState) → between ≡ most → IsUnsentWithin most a b → IsUnsentWithin between b c → IsUnsentWithin most a c
unsent_then most between a b c same h k = omega (arith, same, h, k)

-- a stretch that took nothing
pub unsent_untaken : (number moment most : ℕ) (a b : ServerState) (came went : List ℕ) (h : ConnectionStretch number moment a b came went) → h.history ≡ []
    → IsUnsentWithin most (connection_at a number) (connection_at b number)
unsent_untaken number moment most a b came went h none =
    let now : connection_at b number ≡ Some h.after = stretch_open number moment a b came went h in
    let P : List ServedRequest → Type 0 = λ es. went ++ h.after.output ≡ h.before.output ++ answers_to number a.cache es in
    let all : went ++ h.after.output ≡ h.before.output ++ [] = subst P none h.answered in
    let long : length (went ++ h.after.output) ≡ length (h.before.output ++ []) = ap (λ (bytes : List ℕ). length bytes) all in
    let after : length (output_of (connection_at b number)) ≡ length h.after.output = ap (λ (o : Option ConnectionState). length (output_of o)) now in
    let before : length (output_of (connection_at a number)) ≡ length h.before.output = ap (λ (o : Option ConnectionState). length (output_of o)) h.was in
    omega (arith, long, after, before, length-append went h.after.output, length-append h.before.output [])

-- a turn that found nothing
pub unsent_idle : (number moment most : ℕ) (a b : ServerState) → Steps number a b (IsTurn number moment Idle) → IsUnsentWithin most (connection_at a number) (connection_at b number)
unsent_idle number moment most a b steps =
    let now : connection_at b number ≡ Some steps.after = ap (λ (cs : Connections). connection_in cs number) steps.is ∙ updated_own number steps.before steps.after a.connections steps.was in
    let after : length (output_of (connection_at b number)) ≡ length steps.after.output = ap (λ (o : Option ConnectionState). length (output_of o)) now in
    let before : length (output_of (connection_at a number)) ≡ length steps.before.output = ap (λ (o : Option ConnectionState). length (output_of o)) steps.was in
    let same : length steps.after.output ≡ length steps.before.output = ap (λ (bytes : List ℕ). length bytes) steps.step.output in
    omega (arith, after, before, same)

pub unsent_closing : (number moment most : ℕ) (a b : ServerState) → Steps number a b (IsTurn number moment Closing) → IsUnsentWithin most (connection_at a number) (connection_at b number)
unsent_closing number moment most a b steps =
    let now : connection_at b number ≡ Some steps.after = ap (λ (cs : Connections). connection_in cs number) steps.is ∙ updated_own number steps.before steps.after a.connections steps.was in
    let after : length (output_of (connection_at b number)) ≡ length steps.after.output = ap (λ (o : Option ConnectionState). length (output_of o)) now in
    let before : length (output_of (connection_at a number)) ≡ length steps.before.output = ap (λ (o : Option ConnectionState). length (output_of o)) steps.was in
    let same : length steps.after.output ≡ length steps.before.output = ap (λ (c : ConnectionState). length c.output) steps.step.2 in
    omega (arith, after, before, same)

-- a turn within the limit that leaves room for what is reserved
pub unsent_turn : (old new unsent reserved limit answer most bound : ℕ) → unsent ≡ old → old ≤ reserved → new ≤ old + bound → min bound (2 ^ 64 - 1) ≤ limit
    → limit ≡ min answer (max (most - reserved) (SMALL_ANSWER - unsent)) → new ≤ 2 ^ 64 - 1 → new ≤ max old (max most SMALL_ANSWER)
unsent_turn old new unsent reserved limit answer most bound is_unsent held grows fits is_limit small = omega (arith, is_unsent, held, grows, fits, is_limit, small)

-- a turn that is not refused is within the limit
pub taken_within : {E : Type 0} → (limit bound : ℕ) (turn : Turn) → (◌≡◌ {A = Result Limited E} (Ok (Turned turn)) (Ok Refused) ↔ (limit < bound)) → bound ≤ limit
taken_within {E = E} limit bound turn refused = elim (either (nat_lt limit bound)) [
  | inl above ↦
      let clash : ◌≡◌ {A = Result Limited E} (Ok (Turned turn)) (Ok Refused) = refused.1 (grind (arith, nat_tests)) in
      absurd cc
  | inr within ↦ grind (arith, nat_tests)
]
