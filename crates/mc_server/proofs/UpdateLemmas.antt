-- An update, by what the cache replied.
use Rattle.std.proofs.Common.{◌≡◌, ◌∙◌, ℕ, ◌||◌, Bool, true, false, List, [], ◌++◌, Some, None, refl, sym, ap}
use Rattle.mc_request.specs.Hides.{hides_of}
use Rattle.mc_request.specs.declared.hides.Hides.{Hides}
use Rattle.mc_request.specs.declared.hides.Hides.TheVariants.{Nothing, ReplyLine, Misses, Success, SuccessAndMisses}
use Rattle.mc_request.specs.declared.parts.Atom.TheVariants as atoms
use Rattle.mc_request.specs.declared.parts.Request.TheVariants as requests
use Rattle.mc_request.specs.declared.parts.Parsed.TheVariants.{Whole}
use Rattle.mc_request.specs.declared.parts.Update.{Update}
use Rattle.mc_reply.specs.declared.replies.Reply.{Reply}
use Rattle.mc_reply.specs.declared.replies.Reply.TheVariants.{Stored, NotStored, Exists, NotFound, Deleted, Touched, Flushed, Number, Miss, Hit, Meta, Fault}
use Rattle.mc_reply.specs.Replies.{filled}
use Rattle.mc_reply.specs.Spelling.{is_fault, is_miss, is_bare_success, is_not_found, is_hidden, reply_line, shown_line}
use Rattle.mc_cache.specs.CacheState.{CacheState}
use Rattle.mc_cache.specs.Memory.{may_refuse}
use Rattle.mc_cache.specs.Refusals.{is_refusal}
use Rattle.mc_cache.specs.Step.{step_of, StepResult}
use Rattle.mc_server.specs.Served.{IsServed}

abbrev nothing : List ℕ
nothing = []

-- no test of a reply looks at its value
tests-filled : {V W : Type 0} (reply : Reply V) (value : W)
    → (is_refusal (filled reply value) ≡ is_refusal reply) × (is_fault (filled reply value) ≡ is_fault reply)
    × (is_miss (filled reply value) ≡ is_miss reply) × (is_bare_success (filled reply value) ≡ is_bare_success reply)
    × (is_not_found (filled reply value) ≡ is_not_found reply)
tests-filled Stored value = (refl, refl, refl, refl, refl)
tests-filled NotStored value = (refl, refl, refl, refl, refl)
tests-filled Exists value = (refl, refl, refl, refl, refl)
tests-filled NotFound value = (refl, refl, refl, refl, refl)
tests-filled Deleted value = (refl, refl, refl, refl, refl)
tests-filled Touched value = (refl, refl, refl, refl, refl)
tests-filled Flushed value = (refl, refl, refl, refl, refl)
tests-filled (Number number) value = (refl, refl, refl, refl, refl)
tests-filled Miss value = (refl, refl, refl, refl, refl)
tests-filled (Hit flags cas none) value = (refl, refl, refl, refl, refl)
tests-filled (Meta shown None) value = (refl, refl, refl, refl, refl)
tests-filled (Meta shown (Some none)) value = (refl, refl, refl, refl, refl)
tests-filled (Fault fault) value = (refl, refl, refl, refl, refl)

pub is_refusal-filled : {V W : Type 0} (reply : Reply V) (value : W) → is_refusal (filled reply value) ≡ is_refusal reply
is_refusal-filled reply value = (tests-filled reply value).0

is_fault-filled : {V W : Type 0} (reply : Reply V) (value : W) → is_fault (filled reply value) ≡ is_fault reply
is_fault-filled reply value = (tests-filled reply value).1

is_miss-filled : {V W : Type 0} (reply : Reply V) (value : W) → is_miss (filled reply value) ≡ is_miss reply
is_miss-filled reply value = (tests-filled reply value).2

is_bare_success-filled : {V W : Type 0} (reply : Reply V) (value : W) → is_bare_success (filled reply value) ≡ is_bare_success reply
is_bare_success-filled reply value = (tests-filled reply value).3

is_not_found-filled : {V W : Type 0} (reply : Reply V) (value : W) → is_not_found (filled reply value) ≡ is_not_found reply
is_not_found-filled reply value = (tests-filled reply value).4

pub is_hidden-filled : {V W : Type 0} (hides : Hides) (reply : Reply V) (value : W) → is_hidden hides (filled reply value) ≡ is_hidden hides reply
is_hidden-filled Nothing reply value = refl
is_hidden-filled ReplyLine reply value = rw (is_fault-filled reply value) refl
is_hidden-filled Misses reply value = is_miss-filled reply value
is_hidden-filled Success reply value = is_bare_success-filled reply value
is_hidden-filled SuccessAndMisses reply value = rw (is_bare_success-filled reply value, is_not_found-filled reply value) refl

-- what is shown of a reply
pub line_shown : {V : Type 0} (hides : Hides) (reply : Reply V) → is_hidden hides reply ≡ false → shown_line hides (filled reply []) ≡ reply_line (filled reply [])
line_shown hides reply shown = rw (is_hidden-filled hides reply (nothing), shown) refl

pub line_hidden : {V : Type 0} (hides : Hides) (reply : Reply V) → is_hidden hides reply ≡ true → shown_line hides (filled reply []) ≡ []
line_hidden hides reply hidden = rw (is_hidden-filled hides reply (nothing), hidden) refl

pub or_nothing : (test : Bool) → (test || false) ≡ test
or_nothing true = refl
or_nothing false = refl

-- the cache made the update, and what is shown of its reply was written
pub update_served : {V : Type 0} (number moment : ℕ) (s t : CacheState) (update : Update (List ℕ) (List ℕ)) (noreply : Bool) (hides : Hides) (reply : Reply V) (before after : List ℕ)
    → ((value : List ℕ) → step_of s (atoms.Update update) moment (is_refusal reply) ≡ (t, filled reply value))
    → (is_refusal reply ≡ true → may_refuse s (atoms.Update update) moment ≡ true)
    → hides_of (requests.Update update noreply) ≡ hides → after ≡ before ++ shown_line hides (filled reply [])
    → IsServed number s (Whole (requests.Update update noreply)) moment t before after
update_served number moment s t update noreply hides reply before after step allowed hides_is after_is =
    let outcome = step [] in
    let made : (step_of s (atoms.Update update) moment (is_refusal reply)).0 ≡ t = ap (λ (o : StepResult). o.0) outcome in
    let told : (step_of s (atoms.Update update) moment (is_refusal reply)).1 ≡ filled reply [] = ap (λ (o : StepResult). o.1) outcome in (
      is_refusal reply,
      record {
        legal = ((allowed, tt), sym (or_nothing (is_refusal (step_of s (atoms.Update update) moment (is_refusal reply)).1) ∙ ap (λ (r : Reply (List ℕ)). is_refusal r) told ∙ is_refusal-filled reply nothing));
        cache = sym made;
        answered = after_is ∙ rw (hides_is, told) refl;
      },
    )
