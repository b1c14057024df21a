-- Counts that make no item: what the first one in a run shows, and what the second of two shows if no command between
-- them may have written.
use Rattle.std.proofs.Common.{◌≡◌, ◌∙◌, ℕ, ◌<◌, ◌^◌, ◌||◌, ◌&&◌, nat_lt, inl, inr, Bool, true, false, cond, List, [], ◌∷◌, ◌++◌, Option, Some, None, Ok, Err, refl, sym, ap, subst, ltb-true, append_assoc}
use Rattle.std.specs.Option.{option_map_or}
use Rattle.std.specs.Str.Parse.{digits_value}
use Rattle.std.proofs.lemmas.Bool.{and_parts}
use Rattle.std.proofs.lemmas.Option.{cond_some}
use Rattle.mc_text.specs.Numbers.{has_digits, read_u64}
use Rattle.mc_item.specs.declared.bodies.Body.{Body}
use Rattle.mc_item.specs.declared.deadlines.Deadline.{Deadline}
use Rattle.mc_item.specs.Deadlines.{deadline_of}
use Rattle.mc_request.specs.declared.faults.Fault.TheVariants.{NonNumeric}
use Rattle.mc_request.specs.declared.meta.Counting.{Counting}
use Rattle.mc_request.specs.declared.meta.Creation.{Creation}
use Rattle.mc_request.specs.declared.parts.Atom.{Atom}
use Rattle.mc_request.specs.declared.parts.Atom.TheVariants as atoms
use Rattle.mc_request.specs.declared.parts.Update.TheVariants.{Count}
use Rattle.mc_reply.specs.declared.replies.Reply.{Reply}
use Rattle.mc_reply.specs.declared.replies.Reply.TheVariants.{NotFound, Number, Fault}
use Rattle.mc_cache.specs.Settling.{is_dead_at}
use Rattle.mc_cache.specs.Step.{compared, counted, expiry_by}
use Rattle.mc_cache_laws.specs.OneMap.{KeyOutcome}
use Rattle.mc_registers.specs.Registers.{Given, unless, number_as, count_as, register_step, Done, turn, IsRun}
use Rattle.mc_registers.specs.Guarantees.{AreCounted, AreCountsOrQuiet, AreQuiet, IsCounted, ShowsCount, is_done, update_in}
use Rattle.mc_registers.proofs.LeftLemmas.{IsLeft, IsUndone, compared-undone}
use Rattle.mc_registers.proofs.GuaranteeLemmas.{quiet-run, run-part}
use Rattle.mc_registers.proofs.CounterLemmas.{counted-small, counters_count, quiet-counted}

read-small : (value : List ℕ) (number : ℕ) → read_u64 value ≡ Some number → number < 2 ^ 64
read-small value number is =
    let passes = cond_some (has_digits 20 value && nat_lt (digits_value 10 value) (2 ^ 64)) (digits_value 10 value) number is in
    let both = and_parts (has_digits 20 value) (nat_lt (digits_value 10 value) (2 ^ 64)) passes.0 in
    subst (λ n. n < 2 ^ 64) passes.1 (ltb-true (digits_value 10 value) (2 ^ 64) both.1)

-- a count that makes no item and is answered by a number finds one, and its number has 64 bits
record HasFound (found : Option Body) (number : ℕ) : Type 0 where
  pub body : Body
  pub is : found ≡ Some body
  pub small : number < 2 ^ 64

put-number : (given : Given) (held : Option Body) (flags : ℕ) (expiry : Deadline) (n number : ℕ) → (number_as given held flags expiry n).1 ≡ Number number → n ≡ number
put-number (Ok given) held flags expiry n number is = cc
put-number (Err fault) held flags expiry n number is = absurd cc

count-finds : (given : Given) (found : Option Body) (counting : Counting) (moment number : ℕ) → counting.create ≡ None → (count_as given found counting moment).1 ≡ Number number
    → HasFound found number
count-finds given None counting moment number makes is =
    absurd (let none : NotFound ≡ Number number = subst (λ (c : Option Creation).
    (option_map_or (λ creation. number_as given None 0 (deadline_of creation.exptime moment) creation.initial) c (None, NotFound)).1 ≡ Number number) makes is in cc)
count-finds given (Some body) counting moment number makes is =
    go (compared counting.compare (Some body)) (compared-undone counting.compare (Some body)) (read_u64 body.value) refl is
  where
    go : (answer : Option (Reply (List ℕ))) → IsUndone answer → (read : Option ℕ) → read_u64 body.value ≡ read → (unless (Some body) answer (option_map_or
        (λ n. number_as given (Some body) body.flags (expiry_by counting.exptime moment body.expiry) (counted counting.direction counting.delta n)) read (Some body, Fault NonNumeric))).1
        ≡ Number number → HasFound (Some body) number
    go (Some reply) undone read reads is = absurd (let done : is_done reply ≡ true = ap (λ (r : Reply (List ℕ)). is_done r) is in cc)
    go None undone None reads is = absurd cc
    go None undone (Some n) reads is =
        let next : counted counting.direction counting.delta n ≡ number =
        put-number given (Some body) body.flags (expiry_by counting.exptime moment body.expiry) (counted counting.direction counting.delta n) number is in
        record {
          body = body;
          is = refl;
          small = subst (λ k. k < 2 ^ 64) next (counted-small counting.direction counting.delta n (read-small body.value n reads));
        }

turn-finds : (forgotten : Bool) (given : Given) (held : Option Body) (e : Done) (key : List ℕ) (counting : Counting) (number : ℕ) → e.reply ≡ (turn forgotten given held e).1
    → e.atom ≡ atoms.Update (Count key counting) → counting.create ≡ None → e.reply ≡ Number number → HasFound (cond (forgotten || is_dead_at held e.moment) None held) number
turn-finds forgotten given held e key counting number replies counts makes is =
    let found : Option Body = cond (forgotten || is_dead_at held e.moment) None held in
    let steps : turn forgotten given held e ≡ count_as given found counting e.moment = ap (λ (a : Atom (List ℕ)). register_step given found a e.moment) counts in
    count-finds given found counting e.moment number makes (ap (λ (o : KeyOutcome). o.1) (sym steps) ∙ sym replies ∙ is)

pub count-small : (front back : List Done) (e : Done) (last : ℕ) (held : Option Body) (key : List ℕ) (counting : Counting) (number : ℕ) → IsRun last held (front ++ e ∷ back)
    → e.atom ≡ atoms.Update (Count key counting) → counting.create ≡ None → e.reply ≡ Number number → number < 2 ^ 64
count-small front back e last held key counting number run counts makes is =
    let part = run-part front last held (e ∷ back) run in
    let r = part.2 in
    let found = turn-finds r.0 r.1 part.1 e key counting number r.3 counts makes is in
    found.small

-- nothing is stored at first: before such a count a command may have written
none-found : (gone : Bool) (held : Option Body) (body : Body) → IsLeft None held → cond gone None held ≡ Some body → ⊥
none-found true held body left is = absurd cc
none-found false held body left is = subst (λ (h : Option Body). IsLeft None h) is left

pub quiet-counts-none : (front back : List Done) (e : Done) (last : ℕ) (key : List ℕ) (counting : Counting) (number : ℕ) → IsRun last None (front ++ e ∷ back) → AreQuiet front
    → e.atom ≡ atoms.Update (Count key counting) → counting.create ≡ None → e.reply ≡ Number number → ⊥
quiet-counts-none front back e last key counting number run quiet counts makes is =
    let rest = quiet-run front last None (e ∷ back) quiet run in
    let r = rest.3 in
    let found = turn-finds r.0 r.1 rest.1 e key counting number r.3 counts makes is in
    none-found (r.0 || is_dead_at rest.1 e.moment) rest.1 found.body rest.2 found.is

-- the second of two counts goes on from the first
counts-last : (between : List Done) (last : Done) (key : List ℕ) (counting : Counting) → AreQuiet between → last.atom ≡ atoms.Update (Count key counting) → counting.create ≡ None
    → AreCountsOrQuiet (between ++ last ∷ [])
counts-last [] last key counting quiet counts makes = (inr (key, counting, ap (λ (a : Atom (List ℕ)). update_in a) counts, makes), tt)
counts-last (e ∷ between) last key counting quiet counts makes = (inl quiet.0, counts-last between last key counting quiet.1 counts makes)

counted-last : (between : List Done) (last : Done) (number : ℕ) → AreQuiet between → AreCounted number (between ++ last ∷ []) → IsCounted number last.atom last.reply
counted-last [] last number quiet counted = counted.0
counted-last (e ∷ between) last number quiet counted =
    let same = (quiet-counted number e.atom e.reply quiet.0).1 in
    counted-last between last number quiet.1 (subst (λ (n : ℕ). AreCounted n (between ++ last ∷ [])) same counted.1)

pub next-counts : (front between back : List Done) (first last : Done) (start : ℕ) (held : Option Body) (own other : List ℕ) (counting after : Counting) (number reached : ℕ)
    → IsRun start held (front ++ first ∷ (between ++ last ∷ back)) → first.atom ≡ atoms.Update (Count own counting) → first.reply ≡ Number number → number < 2 ^ 64
    → AreQuiet between → last.atom ≡ atoms.Update (Count other after) → after.create ≡ None → last.reply ≡ Number reached → reached ≡ counted after.direction after.delta number
next-counts front between back first last start held own other counting after number reached run counts answers small quiet goes makes reaches =
    let joined : IsRun start held (front ++ first ∷ ((between ++ last ∷ []) ++ back)) =
    subst (λ (es : List Done). IsRun start held (front ++ first ∷ es)) (sym (append_assoc between (last ∷ []) back)) run in
    let all = counters_count start held front (between ++ last ∷ []) back first own counting number joined (ap (λ (a : Atom (List ℕ)). update_in a) counts)
    (subst (λ (r : Reply (List ℕ)). ShowsCount r number) (sym answers) refl) small (counts-last between last other after quiet goes makes) in
    let end : IsCounted number last.atom last.reply = counted-last between last number quiet all in
    subst (λ (r : Reply (List ℕ)). IsCounted number (atoms.Update (Count other after)) r) reaches
    (subst (λ (a : Atom (List ℕ)). IsCounted number a last.reply) goes end)
