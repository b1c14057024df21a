-- Counters count: what a count finds, leaves and shows.
use Rattle.std.proofs.Common.{◌≡◌, ◌∙◌, ℕ, ◌<◌, ◌^◌, ◌||◌, inl, inr, Bool, true, false, cond, List, [], ◌∷◌, ◌++◌, Option, Some, None, Ok, Err, refl, sym, ap, arith, subst}
use Rattle.std.specs.Bool.{then_some}
use Rattle.std.specs.Fmt.{decimal}
use Rattle.std.specs.Option.{option_map_or}
use Rattle.std.proofs.lemmas.Bool.{true≢false}
use Rattle.mc_text.specs.Numbers.{read_u64}
use Rattle.mc_text.proofs.DecimalLemmas.{read_u64-decimal}
use Rattle.mc_item.specs.declared.bodies.Body.{Body}
use Rattle.mc_item.specs.declared.deadlines.Deadline.{Deadline}
use Rattle.mc_item.specs.Deadlines.{deadline_of}
use Rattle.mc_request.specs.declared.faults.Fault.TheVariants.{NonNumeric}
use Rattle.mc_request.specs.declared.meta.Counting.{Counting}
use Rattle.mc_request.specs.declared.meta.Creation.{Creation}
use Rattle.mc_request.specs.declared.meta.MetaCommand.TheVariants as metas
use Rattle.mc_request.specs.declared.meta.Show.{Show}
use Rattle.mc_request.specs.declared.parts.Atom.{Atom}
use Rattle.mc_request.specs.declared.parts.Atom.TheVariants as atoms
use Rattle.mc_request.specs.declared.parts.Direction.{Direction}
use Rattle.mc_request.specs.declared.parts.Direction.TheVariants.{Up, Down}
use Rattle.mc_request.specs.declared.parts.Update.{Update}
use Rattle.mc_request.specs.declared.parts.Update.TheVariants.{Store, Touch, Delete, Count, FlushAll}
use Rattle.mc_reply.specs.declared.replies.Marks.TheVariants.{Plain}
use Rattle.mc_reply.specs.declared.replies.Shown.{Shown}
use Rattle.mc_reply.specs.declared.replies.Reply.{Reply}
use Rattle.mc_reply.specs.declared.replies.Reply.TheVariants.{NotFound, Number, Meta, Fault}
use Rattle.mc_cache.specs.Settling.{is_dead_at}
use Rattle.mc_cache.specs.Showing.{meta_reply_of, shown_of}
use Rattle.mc_cache.specs.Step.{compared, expiry_by, counted}
use Rattle.mc_cache_laws.specs.OneMap.{KeyOutcome}
use Rattle.mc_registers.specs.Registers.{Given, unless, number_as, count_as, update_as, register_step, Done, turn, last_by, IsRun}
use Rattle.mc_registers.specs.Guarantees.{is_done, has_written, may_have_written, update_in, IsSteadyRun, IsCountOrQuiet, AreCountsOrQuiet, IsCountOrUnwritten, AreCountsOrUnwritten, ShowsCount, number_by, IsCounted, AreCounted, CountersCount, CountersCountWhileHeld}
use Rattle.mc_registers.proofs.LeftLemmas.{IsKept, IsLeft, IsUndone, compared-undone, meta_reply_of-done, number_body}
use Rattle.mc_registers.proofs.GuaranteeLemmas.{quiet-left, quiet-unwritten, run-part, unwritten-turn}

-- the stored item, if there is one, is this number; and there is one, and it is this number
abbrev pub IsNumber : ℕ → Option Body → Type 0
IsNumber number None = Unit {0}
IsNumber number (Some body) = read_u64 body.value ≡ Some number

abbrev pub IsHeldNumber : ℕ → Option Body → Type 0
IsHeldNumber number None = ⊥
IsHeldNumber number (Some body) = read_u64 body.value ≡ Some number

held-number : (number : ℕ) (held : Option Body) → IsHeldNumber number held → IsNumber number held
held-number number None is = absurd is
held-number number (Some body) is = is

number-left : (number : ℕ) (held left : Option Body) → IsNumber number held → IsLeft held left → IsNumber number left
number-left number held None is left = tt
number-left number None (Some after) is left = absurd left
number-left number (Some body) (Some after) is left = ap (λ v. read_u64 v) left.value ∙ is

number-kept : (number : ℕ) (body : Body) (left : Option Body) → read_u64 body.value ≡ Some number → IsKept (Some body) left → IsHeldNumber number left
number-kept number body None is kept = absurd kept
number-kept number body (Some after) is kept = ap (λ v. read_u64 v) kept.value ∙ is

pub counted-small : (direction : Direction) (delta number : ℕ) → number < 2 ^ 64 → counted direction delta number < 2 ^ 64
counted-small Up delta number small = omega arith
counted-small Down delta number small = omega arith

-- a command that has not written counts nothing
unwritten-counted : (number : ℕ) (atom : Atom (List ℕ)) (reply : Reply (List ℕ)) → has_written atom reply ≡ false → IsCounted number atom reply × (number_by number atom reply ≡ number)
unwritten-counted number (atoms.Get key touch with_cas) reply none = (tt, refl)
unwritten-counted number (atoms.Update (Store mode compare key flags exptime value)) reply none = (tt, refl)
unwritten-counted number (atoms.Update (Touch key exptime)) reply none = (tt, refl)
unwritten-counted number (atoms.Update (Delete key compare invalidate)) reply none = (tt, refl)
unwritten-counted number (atoms.Update (Count key counting)) (Number n) none = absurd cc
unwritten-counted number (atoms.Update (Count key counting)) reply none = (tt, refl)
unwritten-counted number (atoms.Update (FlushAll delay)) reply none = (tt, refl)
unwritten-counted number (atoms.Meta (metas.Get key get)) reply none = (tt, refl)
unwritten-counted number (atoms.Meta (metas.Update (Store mode compare key flags exptime value) show)) reply none = (tt, refl)
unwritten-counted number (atoms.Meta (metas.Update (Touch key exptime) show)) reply none = (tt, refl)
unwritten-counted number (atoms.Meta (metas.Update (Delete key compare invalidate) show)) reply none = (tt, refl)
unwritten-counted number (atoms.Meta (metas.Update (Count key counting) show)) (Meta shown value) none = absurd cc
unwritten-counted number (atoms.Meta (metas.Update (Count key counting) show)) reply none = (tt, refl)
unwritten-counted number (atoms.Meta (metas.Update (FlushAll delay) show)) reply none = (tt, refl)

pub quiet-counted : (number : ℕ) (atom : Atom (List ℕ)) (reply : Reply (List ℕ)) → may_have_written atom reply ≡ false → IsCounted number atom reply × (number_by number atom reply ≡ number)
quiet-counted number atom reply quiet = unwritten-counted number atom reply (quiet-unwritten atom reply quiet)

-- a count goes on from a number, and leaves such an item
pub record GoesOn (Is : ℕ → Option Body → Type 0) (number : ℕ) (atom : Atom (List ℕ)) (reply : Reply (List ℕ)) (left : Option Body) : Type 0 where
  pub counted_is : IsCounted number atom reply
  pub number_is : Is (number_by number atom reply) left
  pub small : number_by number atom reply < 2 ^ 64

unwritten-goes : (Is : ℕ → Option Body → Type 0) (number : ℕ) (atom : Atom (List ℕ)) (reply : Reply (List ℕ)) (left : Option Body) → has_written atom reply ≡ false → Is number left
    → number < 2 ^ 64 → GoesOn Is number atom reply left
unwritten-goes Is number atom reply left none is small =
    let both = unwritten-counted number atom reply none in
    record {
      counted_is = both.0;
      number_is = subst (λ n. Is n left) (sym both.1) is;
      small = subst (λ n. n < 2 ^ 64) (sym both.1) small;
    }

held-goes : (number : ℕ) (atom : Atom (List ℕ)) (reply : Reply (List ℕ)) (left : Option Body) → GoesOn IsHeldNumber number atom reply left → GoesOn IsNumber number atom reply left
held-goes number atom reply left goes = record {
  counted_is = goes.counted_is;
  number_is = held-number (number_by number atom reply) left goes.number_is;
  small = goes.small;
}

number-goes : (given : Given) (key : List ℕ) (body : Body) (counting : Counting) (flags : ℕ) (expiry : Deadline) (number : ℕ) → number < 2 ^ 64 → read_u64 body.value ≡ Some number
    → let o : KeyOutcome = number_as given (Some body) flags expiry (counted counting.direction counting.delta number) in
    GoesOn IsHeldNumber number (atoms.Update (Count key counting)) o.1 o.0
number-goes (Ok n) key body counting flags expiry number small reads =
    let next : counted counting.direction counting.delta number < 2 ^ 64 = counted-small counting.direction counting.delta number small in
    record { counted_is = refl; number_is = read_u64-decimal (counted counting.direction counting.delta number) next; small = next }
number-goes (Err fault) key body counting flags expiry number small reads = record { counted_is = tt; number_is = reads; small = small }

-- a value that is shown is the number that was counted to
counted-shown : (number : ℕ) (key : List ℕ) (counting : Counting) (show : Show) (shown : Shown) (asked : Bool)
    → IsCounted number (atoms.Meta (metas.Update (Count key counting) show)) (Meta shown (then_some asked (decimal (counted counting.direction counting.delta number))))
counted-shown number key counting show shown true = refl
counted-shown number key counting show shown false = tt

meta_reply_of-number-goes : (given : Given) (key : List ℕ) (body : Body) (counting : Counting) (show : Show) (moment flags : ℕ) (expiry : Deadline) (number : ℕ) → number < 2 ^ 64
    → read_u64 body.value ≡ Some number → let o : KeyOutcome = number_as given (Some body) flags expiry (counted counting.direction counting.delta number) in
    GoesOn IsHeldNumber number (atoms.Meta (metas.Update (Count key counting) show)) (meta_reply_of show moment Plain o.0 o.1) o.0
meta_reply_of-number-goes (Ok n) key body counting show moment flags expiry number small reads =
    let reached : ℕ = counted counting.direction counting.delta number in
    let next : reached < 2 ^ 64 = counted-small counting.direction counting.delta number small in
    let shown : Shown = shown_of show moment Plain (record (number_body flags expiry reached) { cas = n }) in
    record { counted_is = counted-shown number key counting show shown show.value; number_is = read_u64-decimal reached next; small = next }
meta_reply_of-number-goes (Err fault) key body counting show moment flags expiry number small reads =
    record { counted_is = tt; number_is = reads; small = small }

-- what holds of a count of a stored number, by what it does
count-does : (Does : KeyOutcome → Type 0) (given : Given) (body : Body) (counting : Counting) (moment number : ℕ) → read_u64 body.value ≡ Some number
    → ((reply : Reply (List ℕ)) → is_done reply ≡ false → Does (Some body, reply))
    → ((flags : ℕ) (expiry : Deadline) → Does (number_as given (Some body) flags expiry (counted counting.direction counting.delta number)))
    → Does (count_as given (Some body) counting moment)
count-does Does given body counting moment number reads stays puts =
    let by : Option ℕ → KeyOutcome = λ read. option_map_or
    (λ n. number_as given (Some body) body.flags (expiry_by counting.exptime moment body.expiry) (counted counting.direction counting.delta n)) read (Some body, Fault NonNumeric) in
    (elim (compared counting.compare (Some body)) as (λ (answer : Option (Reply (List ℕ))). IsUndone answer → Does (unless (Some body) answer (by (read_u64 body.value)))) [
      | Some reply ↦ λ undone. stays reply undone
      | None ↦ λ undone. subst (λ (read : Option ℕ). Does (by read)) (sym reads) (puts body.flags (expiry_by counting.exptime moment body.expiry))
    ]) (compared-undone counting.compare (Some body))

count-goes : (given : Given) (body : Body) (key : List ℕ) (counting : Counting) (moment number : ℕ) → number < 2 ^ 64 → read_u64 body.value ≡ Some number
    → let o : KeyOutcome = count_as given (Some body) counting moment in GoesOn IsHeldNumber number (atoms.Update (Count key counting)) o.1 o.0
count-goes given body key counting moment number small reads =
    let atom : Atom (List ℕ) = atoms.Update (Count key counting) in
    count-does (λ (o : KeyOutcome). GoesOn IsHeldNumber number atom o.1 o.0) given body counting moment number reads
    (λ reply undone. unwritten-goes IsHeldNumber number atom reply (Some body) undone reads small)
    (λ flags expiry. number-goes given key body counting flags expiry number small reads)

meta_reply_of-count-goes : (given : Given) (body : Body) (key : List ℕ) (counting : Counting) (show : Show) (moment number : ℕ) → number < 2 ^ 64 → read_u64 body.value ≡ Some number
    → let o : KeyOutcome = count_as given (Some body) counting moment in
    GoesOn IsHeldNumber number (atoms.Meta (metas.Update (Count key counting) show)) (meta_reply_of show moment Plain o.0 o.1) o.0
meta_reply_of-count-goes given body key counting show moment number small reads =
    let atom : Atom (List ℕ) = atoms.Meta (metas.Update (Count key counting) show) in
    count-does (λ (o : KeyOutcome). GoesOn IsHeldNumber number atom (meta_reply_of show moment Plain o.0 o.1) o.0) given body counting moment number reads
    (λ reply undone. unwritten-goes IsHeldNumber number atom (meta_reply_of show moment Plain (Some body) reply) (Some body) (meta_reply_of-done show moment Plain (Some body) reply ∙ undone) reads small)
    (λ flags expiry. meta_reply_of-number-goes given key body counting show moment flags expiry number small reads)

-- a command that counts, of a stored number, and of a missing key
held-step-goes : (given : Given) (body : Body) (atom : Atom (List ℕ)) (key : List ℕ) (counting : Counting) (moment number : ℕ) → number < 2 ^ 64 → read_u64 body.value ≡ Some number
    → update_in atom ≡ Some (Count key counting) → let o : KeyOutcome = register_step given (Some body) atom moment in GoesOn IsHeldNumber number atom o.1 o.0
held-step-goes given body (atoms.Get at touch with_cas) key counting moment number small reads counts = absurd cc
held-step-goes given body (atoms.Meta (metas.Get at get)) key counting moment number small reads counts = absurd cc
held-step-goes given body (atoms.Update update) key counting moment number small reads counts =
    let its : update ≡ Count key counting = cc in
    subst (λ (u : Update (List ℕ) (List ℕ)). let o : KeyOutcome = update_as given (Some body) u moment in GoesOn IsHeldNumber number (atoms.Update u) o.1 o.0) (sym its)
    (count-goes given body key counting moment number small reads)
held-step-goes given body (atoms.Meta (metas.Update update show)) key counting moment number small reads counts =
    let its : update ≡ Count key counting = cc in
    subst (λ (u : Update (List ℕ) (List ℕ)). let o : KeyOutcome = update_as given (Some body) u moment in
    GoesOn IsHeldNumber number (atoms.Meta (metas.Update u show)) (meta_reply_of show moment Plain o.0 o.1) o.0) (sym its)
    (meta_reply_of-count-goes given body key counting show moment number small reads)

none-step-goes : (given : Given) (atom : Atom (List ℕ)) (key : List ℕ) (counting : Counting) (moment number : ℕ) → number < 2 ^ 64 → update_in atom ≡ Some (Count key counting)
    → counting.create ≡ None → let o : KeyOutcome = register_step given None atom moment in GoesOn IsNumber number atom o.1 o.0
none-step-goes given (atoms.Get at touch with_cas) key counting moment number small counts makes = absurd cc
none-step-goes given (atoms.Meta (metas.Get at get)) key counting moment number small counts makes = absurd cc
none-step-goes given (atoms.Update update) key counting moment number small counts makes =
    let its : update ≡ Count key counting = cc in
    subst (λ (u : Update (List ℕ) (List ℕ)). let o : KeyOutcome = update_as given None u moment in GoesOn IsNumber number (atoms.Update u) o.1 o.0) (sym its)
    (subst (λ (c : Option Creation).
    let o : KeyOutcome = option_map_or (λ creation. number_as given None 0 (deadline_of creation.exptime moment) creation.initial) c (None, NotFound) in
    GoesOn IsNumber number (atoms.Update (Count key counting)) o.1 o.0) (sym makes) (record { counted_is = tt; number_is = tt; small = small }))
none-step-goes given (atoms.Meta (metas.Update update show)) key counting moment number small counts makes =
    let its : update ≡ Count key counting = cc in
    subst (λ (u : Update (List ℕ) (List ℕ)). let o : KeyOutcome = update_as given None u moment in
    GoesOn IsNumber number (atoms.Meta (metas.Update u show)) (meta_reply_of show moment Plain o.0 o.1) o.0) (sym its)
    (subst (λ (c : Option Creation).
    let o : KeyOutcome = option_map_or (λ creation. number_as given None 0 (deadline_of creation.exptime moment) creation.initial) c (None, NotFound) in
    GoesOn IsNumber number (atoms.Meta (metas.Update (Count key counting) show)) (meta_reply_of show moment Plain o.0 o.1) o.0) (sym makes)
    (record { counted_is = tt; number_is = tt; small = small }))

step-goes : (given : Given) (held : Option Body) (atom : Atom (List ℕ)) (key : List ℕ) (counting : Counting) (moment number : ℕ) → number < 2 ^ 64 → IsNumber number held
    → update_in atom ≡ Some (Count key counting) → counting.create ≡ None
    → let o : KeyOutcome = register_step given held atom moment in GoesOn IsNumber number atom o.1 o.0
step-goes given None atom key counting moment number small is counts makes = none-step-goes given atom key counting moment number small counts makes
step-goes given (Some body) atom key counting moment number small is counts makes =
    let o : KeyOutcome = register_step given (Some body) atom moment in
    held-goes number atom o.1 o.0 (held-step-goes given body atom key counting moment number small is counts)

-- a turn, and a run
number-found : (gone : Bool) (number : ℕ) (held : Option Body) → IsNumber number held → IsNumber number (cond gone None held)
number-found true number held is = tt
number-found false number held is = is

turn-goes : (forgotten : Bool) (given : Given) (held : Option Body) (e : Done) (number : ℕ) → number < 2 ^ 64 → IsNumber number held → e.reply ≡ (turn forgotten given held e).1 → IsCountOrQuiet e
    → GoesOn IsNumber number e.atom e.reply (turn forgotten given held e).0
turn-goes forgotten given held e number small is replies (inl quiet) =
    let left : Option Body = (turn forgotten given held e).0 in
    unwritten-goes IsNumber number e.atom e.reply left (quiet-unwritten e.atom e.reply quiet) (number-left number held left is (quiet-left forgotten given held e replies quiet)) small
turn-goes forgotten given held e number small is replies (inr counts) =
    let gone : Bool = forgotten || is_dead_at held e.moment in
    subst (λ (r : Reply (List ℕ)). GoesOn IsNumber number e.atom r (turn forgotten given held e).0) (sym replies)
    (step-goes given (cond gone None held) e.atom counts.0 counts.1 e.moment number small (number-found gone number held is) counts.2 counts.3)

count-run : (es back : List Done) (number last : ℕ) (held : Option Body) → number < 2 ^ 64 → IsNumber number held → AreCountsOrQuiet es → IsRun last held (es ++ back) → AreCounted number es
count-run [] back number last held small is counts run = tt
count-run (e ∷ es) back number last held small is counts run =
    let left : Option Body = (turn run.0 run.1 held e).0 in
    let goes : GoesOn IsNumber number e.atom e.reply left = turn-goes run.0 run.1 held e number small is run.3 counts.0 in
    (goes.counted_is, count-run es back (number_by number e.atom e.reply) (last_by last left) left goes.small goes.number_is counts.1 run.4)

-- a turn while the item is neither forgotten nor dead
steady-turn-goes : (given : Given) (body : Body) (e : Done) (number : ℕ) → number < 2 ^ 64 → read_u64 body.value ≡ Some number → is_dead_at (Some body) e.moment ≡ false
    → e.reply ≡ (turn false given (Some body) e).1 → IsCountOrUnwritten e → GoesOn IsHeldNumber number e.atom e.reply (turn false given (Some body) e).0
steady-turn-goes given body e number small reads lives replies (inl none) =
    let left : Option Body = (turn false given (Some body) e).0 in
    unwritten-goes IsHeldNumber number e.atom e.reply left none (number-kept number body left reads (unwritten-turn given body e lives replies none)) small
steady-turn-goes given body e number small reads lives replies (inr counts) =
    let o : Option Body → KeyOutcome = λ found. register_step given found e.atom e.moment in
    let found : cond (false || is_dead_at (Some body) e.moment) None (Some body) ≡ Some body = ap (λ v. cond v None (Some body)) lives in
    subst (λ (r : Reply (List ℕ)). GoesOn IsHeldNumber number e.atom r (turn false given (Some body) e).0) (sym replies)
    (subst (λ (h : Option Body). GoesOn IsHeldNumber number e.atom (o h).1 (o h).0) (sym found)
    (held-step-goes given body e.atom counts.0 counts.1 e.moment number small reads counts.2))

steady-count-run : (es : List Done) (number last : ℕ) (held : Option Body) → number < 2 ^ 64 → IsHeldNumber number held → AreCountsOrUnwritten es → IsSteadyRun last held es → AreCounted number es
steady-count-run [] number last held small is counts run = tt
steady-count-run (e ∷ es) number last None small is counts run = absurd is
steady-count-run (e ∷ es) number last (Some body) small is counts run =
    let left : Option Body = (turn false run.0 (Some body) e).0 in
    let goes : GoesOn IsHeldNumber number e.atom e.reply left = steady-turn-goes run.0 body e number small is run.1 run.2 counts.0 in
    (goes.counted_is, steady-count-run es (number_by number e.atom e.reply) (last_by last left) left goes.small goes.number_is counts.1 run.3)

-- a count that showed a number stored it
shows-done : (reply : Reply (List ℕ)) (number : ℕ) → ShowsCount reply number → is_done reply ≡ true
shows-done (Number n) number shows = refl
shows-done (Meta shown (Some value)) number shows = refl
shows-done reply number shows = absurd shows

number-put : (given : Given) (held : Option Body) (flags : ℕ) (expiry : Deadline) (n number : ℕ) → number < 2 ^ 64 → ShowsCount (number_as given held flags expiry n).1 number
    → IsHeldNumber number (number_as given held flags expiry n).0
number-put (Err fault) held flags expiry n number small shows = absurd shows
number-put (Ok given) held flags expiry n number small shows =
    subst (λ k. read_u64 (decimal k) ≡ Some number) (sym shows) (read_u64-decimal number small)

shown-number : (shown : Shown) (asked : Bool) (n number : ℕ) → number < 2 ^ 64 → ShowsCount (Meta shown (then_some asked (decimal n))) number → read_u64 (decimal n) ≡ Some number
shown-number shown true n number small shows = ap (λ v. read_u64 v) shows ∙ read_u64-decimal number small
shown-number shown false n number small shows = absurd shows

meta_reply_of-number-put : (given : Given) (held : Option Body) (flags : ℕ) (expiry : Deadline) (n number : ℕ) (show : Show) (moment : ℕ) → number < 2 ^ 64
    → let o : KeyOutcome = number_as given held flags expiry n in ShowsCount (meta_reply_of show moment Plain o.0 o.1) number → IsHeldNumber number o.0
meta_reply_of-number-put (Err fault) held flags expiry n number show moment small shows = absurd shows
meta_reply_of-number-put (Ok given) held flags expiry n number show moment small shows =
    shown-number (shown_of show moment Plain (record (number_body flags expiry n) { cas = given })) show.value n number small shows

-- a count, by how its reply is shown
count-number : (tell : KeyOutcome → Reply (List ℕ)) (given : Given) (held : Option Body) (counting : Counting) (moment number : ℕ)
    → ((o : KeyOutcome) → is_done (tell o) ≡ is_done o.1)
    → ((held : Option Body) (flags : ℕ) (expiry : Deadline) (n : ℕ) → ShowsCount (tell (number_as given held flags expiry n)) number
    → IsHeldNumber number (number_as given held flags expiry n).0)
    → ShowsCount (tell (count_as given held counting moment)) number → IsHeldNumber number (count_as given held counting moment).0
count-number tell given None counting moment number same puts shows = go counting.create shows
  where
    go : (create : Option Creation) → let o : KeyOutcome = option_map_or (λ creation. number_as given None 0 (deadline_of creation.exptime moment) creation.initial) create (None, NotFound) in
        ShowsCount (tell o) number → IsHeldNumber number o.0
    go None shows = absurd (true≢false (sym (shows-done (tell (None, NotFound)) number shows) ∙ same (None, NotFound)))
    go (Some creation) shows = puts None 0 (deadline_of creation.exptime moment) creation.initial shows
count-number tell given (Some body) counting moment number same puts shows = go (compared counting.compare (Some body)) (compared-undone counting.compare (Some body)) (read_u64 body.value) shows
  where
    go : (answer : Option (Reply (List ℕ))) → IsUndone answer → (read : Option ℕ) → let o : KeyOutcome = unless (Some body) answer (option_map_or
        (λ n. number_as given (Some body) body.flags (expiry_by counting.exptime moment body.expiry) (counted counting.direction counting.delta n)) read (Some body, Fault NonNumeric)) in
        ShowsCount (tell o) number → IsHeldNumber number o.0
    go (Some reply) undone read shows = absurd (true≢false (sym (shows-done (tell (Some body, reply)) number shows) ∙ same (Some body, reply) ∙ undone))
    go None undone None shows = absurd (true≢false (sym (shows-done (tell (Some body, Fault NonNumeric)) number shows) ∙ same (Some body, Fault NonNumeric)))
    go None undone (Some n) shows =
        puts (Some body) body.flags (expiry_by counting.exptime moment body.expiry) (counted counting.direction counting.delta n) shows

step-number : (given : Given) (held : Option Body) (atom : Atom (List ℕ)) (key : List ℕ) (counting : Counting) (moment number : ℕ) → number < 2 ^ 64
    → update_in atom ≡ Some (Count key counting) → let o : KeyOutcome = register_step given held atom moment in ShowsCount o.1 number → IsHeldNumber number o.0
step-number given held (atoms.Get at touch with_cas) key counting moment number small counts shows = absurd cc
step-number given held (atoms.Meta (metas.Get at get)) key counting moment number small counts shows = absurd cc
step-number given held (atoms.Update update) key counting moment number small counts shows =
    let its : update ≡ Count key counting = cc in
    let stores : ShowsCount (update_as given held update moment).1 number → IsHeldNumber number (update_as given held update moment).0 =
    subst (λ (u : Update (List ℕ) (List ℕ)). ShowsCount (update_as given held u moment).1 number → IsHeldNumber number (update_as given held u moment).0) (sym its)
    (count-number (λ (o : KeyOutcome). o.1) given held counting moment number (λ o. refl) (λ found flags expiry n. number-put given found flags expiry n number small)) in
    stores shows
step-number given held (atoms.Meta (metas.Update update show)) key counting moment number small counts shows =
    let its : update ≡ Count key counting = cc in
    let tell : KeyOutcome → Reply (List ℕ) = λ o. meta_reply_of show moment Plain o.0 o.1 in
    let stores : ShowsCount (tell (update_as given held update moment)) number → IsHeldNumber number (update_as given held update moment).0 =
    subst (λ (u : Update (List ℕ) (List ℕ)). ShowsCount (tell (update_as given held u moment)) number → IsHeldNumber number (update_as given held u moment).0) (sym its)
    (count-number tell given held counting moment number (λ o. meta_reply_of-done show moment Plain o.0 o.1)
    (λ found flags expiry n. meta_reply_of-number-put given found flags expiry n number show moment small)) in
    stores shows

pub counters_count : (last : ℕ) (held : Option Body) → CountersCount last held
counters_count last held front es back first key counting number run counts shows small goes =
    let part = run-part front last held (first ∷ (es ++ back)) run in
    let r = part.2 in
    let found : Option Body = cond (r.0 || is_dead_at part.1 first.moment) None part.1 in
    let left : Option Body = (turn r.0 r.1 part.1 first).0 in
    let is : IsHeldNumber number left = step-number r.1 found first.atom key counting first.moment number small counts (subst (λ (x : Reply (List ℕ)). ShowsCount x number) r.3 shows) in
    count-run es back number (last_by part.0 left) left small (held-number number left is) goes r.4

pub held_counters_count : (last : ℕ) (held : Option Body) → CountersCountWhileHeld last held
held_counters_count last held es first key counting number run counts shows small goes =
    let found : Option Body = cond (false || is_dead_at held first.moment) None held in
    let left : Option Body = (turn false run.0 held first).0 in
    let is : IsHeldNumber number left = step-number run.0 found first.atom key counting first.moment number small counts (subst (λ (x : Reply (List ℕ)). ShowsCount x number) run.2 shows) in
    steady-count-run es number (last_by last left) left small is goes run.3
