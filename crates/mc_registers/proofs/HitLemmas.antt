-- What follows from a hit for the run before it, and how a store is answered.
use Rattle.std.proofs.Common.{◌≡◌, ◌∙◌, ⊎_elim, ℕ, ◌≤◌, ◌||◌, ◌==◌, ℤ, inl, inr, ◌⊎◌, Bool, true, false, cond, List, [], ◌∷◌, ◌++◌, Option, Some, None, Ok, Err, refl, sym, subst, arith}
use Rattle.std.specs.Option.{option_or}
use Rattle.std.proofs.lemmas.Bool.{cases_lt}
use Rattle.mc_item.specs.declared.bodies.Body.{Body}
use Rattle.mc_item.specs.Deadlines.{deadline_of}
use Rattle.mc_request.specs.declared.meta.MetaCommand.TheVariants as metas
use Rattle.mc_request.specs.declared.meta.Show.{Show}
use Rattle.mc_request.specs.declared.parts.Atom.{Atom}
use Rattle.mc_request.specs.declared.parts.Atom.TheVariants as atoms
use Rattle.mc_request.specs.declared.parts.StoreMode.{StoreMode}
use Rattle.mc_request.specs.declared.parts.StoreMode.TheVariants.{Set, Add, Replace, Append, Prepend}
use Rattle.mc_request.specs.declared.parts.Update.{Update}
use Rattle.mc_request.specs.declared.parts.Update.TheVariants.{Store}
use Rattle.mc_reply.specs.declared.replies.Marks.{Marks}
use Rattle.mc_reply.specs.declared.replies.Marks.TheVariants.{Plain}
use Rattle.mc_reply.specs.declared.replies.Reply.{Reply}
use Rattle.mc_reply.specs.declared.replies.Reply.TheVariants.{Stored, NotStored, Exists, NotFound, Deleted, Touched, Flushed, Number, Miss, Hit, Meta, Fault}
use Rattle.mc_cache.specs.Settling.{is_dead_at}
use Rattle.mc_cache.specs.Showing.{meta_reply_of}
use Rattle.mc_cache.specs.Step.{Content, numbered, compared, unmet, unstored, content_by}
use Rattle.mc_cache_laws.specs.OneMap.{KeyOutcome}
use Rattle.mc_registers.specs.Registers.{Given, put_as, unless, store_as, update_as, register_step, Done, turn, last_by, IsRun}
use Rattle.mc_registers.specs.Guarantees.{AreQuiet, IsSteadyRun, is_done, update_in}
use Rattle.mc_registers.proofs.LeftLemmas.{IsLeft, meta_reply_of-done}
use Rattle.mc_registers.proofs.GuaranteeLemmas.{IsPast, cas-past, quiet-run, read-shows, run-part}

-- nothing is stored at first: before a hit a command may have written
pub quiet-misses : (front back : List Done) (read : Done) (last : ℕ) (key : List ℕ) (touch : Option ℤ) (with_cas : Bool) (flags : ℕ) (cas : Option ℕ) (value : List ℕ)
    → IsRun last None (front ++ read ∷ back) → AreQuiet front → read.atom ≡ atoms.Get key touch with_cas → read.reply ≡ Hit flags cas value → ⊥
quiet-misses front back read last key touch with_cas flags cas value run quiet reads hits =
    let rest = quiet-run front last None (read ∷ back) quiet run in
    let r = rest.3 in
    let shows = read-shows r.0 r.1 rest.1 read key touch with_cas flags cas value r.3 reads hits in
    subst (λ (held : Option Body). IsLeft None held) shows.is rest.2

-- a number that a hit showed is past, if a later command compares a lower one: so that command does not store
pub shown-fits : (front between back : List Done) (read cas : Done) (last n number : ℕ) (held : Option Body) (at : List ℕ) (touch : Option ℤ) (with_cas : Bool) (shown_flags : ℕ)
    (shown : List ℕ) (mode : StoreMode) (key : List ℕ) (flags : ℕ) (exptime : ℤ) (value : List ℕ) → IsRun last held (front ++ read ∷ (between ++ cas ∷ back))
    → read.atom ≡ atoms.Get at touch with_cas → read.reply ≡ Hit shown_flags (Some n) shown
    → update_in cas.atom ≡ Some (Store mode (Some number) key flags exptime value) → is_done cas.reply ≡ true → n ≤ number
shown-fits front between back read cas last n number held at touch with_cas shown_flags shown mode key flags exptime value run reads hits compares done =
    ⊎_elim
    (λ less.
    let part = run-part front last held (read ∷ (between ++ cas ∷ back)) run in
    let r = part.2 in
    let left : Option Body = (turn r.0 r.1 part.1 read).0 in
    let shows = read-shows r.0 r.1 part.1 read at touch with_cas shown_flags (Some n) shown r.3 reads hits in
    let its : shows.after.cas ≡ n = shows.same ∙ shows.cas_is n refl in
    let past : IsPast number (last_by part.0 left) left =
    subst (λ (l : Option Body). IsPast number (last_by part.0 l) l) (sym shows.left_is) (omega (arith, its, less), omega (arith, its, less)) in
    absurd (cas-past between back number (last_by part.0 left) left cas mode key flags exptime value past r.4 compares done))
    (λ fits. fits)
    (cases_lt number n)

-- why a store was not done
abbrev pub is_refused : Reply (List ℕ) → Bool
is_refused NotStored = true
is_refused Exists = true
is_refused NotFound = true
is_refused (Fault fault) = true
is_refused reply = false

abbrev pub IsRefusal : Option (Reply (List ℕ)) → Type 0
IsRefusal None = Unit {0}
IsRefusal (Some reply) = is_refused reply ≡ true

pub compared-refused : (compare : Option ℕ) (held : Option Body) → IsRefusal (compared compare held)
compared-refused None held = tt
compared-refused (Some number) None = refl
compared-refused (Some number) (Some body) =
    elim (body.cas == number) as (λ v. IsRefusal (cond v None (Some Exists))) [ true ↦ tt | false ↦ refl ]

pub unmet-refused : (mode : StoreMode) (held : Option Body) → IsRefusal (unmet mode held)
unmet-refused Set None = tt
unmet-refused Set (Some body) = tt
unmet-refused Add None = tt
unmet-refused Add (Some body) = refl
unmet-refused Replace None = refl
unmet-refused Replace (Some body) = tt
unmet-refused Append None = refl
unmet-refused Append (Some body) = tt
unmet-refused Prepend None = refl
unmet-refused Prepend (Some body) = tt

pub or-refused : (first second : Option (Reply (List ℕ))) → IsRefusal first → IsRefusal second → IsRefusal (option_or first second)
or-refused None second a b = b
or-refused (Some reply) second a b = a

-- a store is done, or its reply says why it is not
abbrev IsDoneOrRefused : Reply (List ℕ) → Type 0
IsDoneOrRefused reply = (is_done reply ≡ true) ⊎ (is_refused reply ≡ true)

store-told : (given : Given) (held : Option Body) (compare : Option ℕ) (mode : StoreMode) (new : Content)
    → IsDoneOrRefused (store_as given held compare mode new).1
store-told given held compare mode new =
    go (unstored compare mode held) (or-refused (compared compare held) (unmet mode held) (compared-refused compare held) (unmet-refused mode held)) given
  where
    go : (answer : Option (Reply (List ℕ))) → IsRefusal answer → (given : Given)
        → IsDoneOrRefused (unless held answer (put_as given held (numbered (content_by mode held new) 0) Stored)).1
    go (Some reply) refused given = inr refused
    go None refused (Ok number) = inl refl
    go None refused (Err fault) = inr refl

-- the reply to a meta command says so too
meta_reply_of-refused : (show : Show) (moment : ℕ) (marks : Marks) (held : Option Body) (reply : Reply (List ℕ)) → is_refused (meta_reply_of show moment marks held reply) ≡ is_refused reply
meta_reply_of-refused show moment marks None Stored = refl
meta_reply_of-refused show moment marks (Some body) Stored = refl
meta_reply_of-refused show moment marks None (Number number) = refl
meta_reply_of-refused show moment marks (Some body) (Number number) = refl
meta_reply_of-refused show moment marks held Deleted = refl
meta_reply_of-refused show moment marks held NotStored = refl
meta_reply_of-refused show moment marks held Exists = refl
meta_reply_of-refused show moment marks held NotFound = refl
meta_reply_of-refused show moment marks held Touched = refl
meta_reply_of-refused show moment marks held Flushed = refl
meta_reply_of-refused show moment marks held Miss = refl
meta_reply_of-refused show moment marks held (Hit flags cas value) = refl
meta_reply_of-refused show moment marks held (Meta shown value) = refl
meta_reply_of-refused show moment marks held (Fault fault) = refl

step-told : (given : Given) (held : Option Body) (atom : Atom (List ℕ)) (moment : ℕ) (mode : StoreMode) (compare : Option ℕ) (key : List ℕ) (flags : ℕ) (exptime : ℤ) (value : List ℕ)
    → update_in atom ≡ Some (Store mode compare key flags exptime value) → IsDoneOrRefused (register_step given held atom moment).1
step-told given held (atoms.Get at touch with_cas) moment mode compare key flags exptime value is = absurd cc
step-told given held (atoms.Meta (metas.Get at get)) moment mode compare key flags exptime value is = absurd cc
step-told given held (atoms.Update update) moment mode compare key flags exptime value is =
    let its : update ≡ Store mode compare key flags exptime value = cc in
    subst (λ (u : Update (List ℕ) (List ℕ)). IsDoneOrRefused (update_as given held u moment).1) (sym its)
    (store-told given held compare mode (record { flags = flags; expiry = deadline_of exptime moment; won = false; value = value }))
step-told given held (atoms.Meta (metas.Update update show)) moment mode compare key flags exptime value is =
    let its : update ≡ Store mode compare key flags exptime value = cc in
    let o : KeyOutcome = update_as given held update moment in
    let same : IsDoneOrRefused o.1 = subst (λ (u : Update (List ℕ) (List ℕ)). IsDoneOrRefused (update_as given held u moment).1) (sym its)
    (store-told given held compare mode (record { flags = flags; expiry = deadline_of exptime moment; won = false; value = value })) in
    elim same [
      | inl done ↦ inl (meta_reply_of-done show moment Plain o.0 o.1 ∙ done)
      | inr refused ↦ inr (meta_reply_of-refused show moment Plain o.0 o.1 ∙ refused)
    ]

pub run-told : (front back : List Done) (e : Done) (last : ℕ) (held : Option Body) (mode : StoreMode) (compare : Option ℕ) (key : List ℕ) (flags : ℕ) (exptime : ℤ) (value : List ℕ)
    → IsRun last held (front ++ e ∷ back) → update_in e.atom ≡ Some (Store mode compare key flags exptime value) → (is_done e.reply ≡ true) ⊎ (is_refused e.reply ≡ true)
run-told front back e last held mode compare key flags exptime value run is =
    let part = run-part front last held (e ∷ back) run in
    let r = part.2 in
    let gone : Bool = r.0 || is_dead_at part.1 e.moment in
    subst (λ (reply : Reply (List ℕ)). IsDoneOrRefused reply) (sym r.3)
    (step-told r.1 (cond gone None part.1) e.atom e.moment mode compare key flags exptime value is)

pub steady-told : (front : List Done) (e : Done) (last : ℕ) (held : Option Body) (mode : StoreMode) (compare : Option ℕ) (key : List ℕ) (flags : ℕ) (exptime : ℤ) (value : List ℕ)
    → IsSteadyRun last held (front ++ e ∷ []) → update_in e.atom ≡ Some (Store mode compare key flags exptime value) → (is_done e.reply ≡ true) ⊎ (is_refused e.reply ≡ true)
steady-told [] e last held mode compare key flags exptime value run is =
    subst (λ (reply : Reply (List ℕ)). IsDoneOrRefused reply) (sym run.2)
    (step-told run.0 (cond (false || is_dead_at held e.moment) None held) e.atom e.moment mode compare key flags exptime value is)
steady-told (d ∷ front) e last held mode compare key flags exptime value run is =
    steady-told front e (last_by last (turn false run.0 held d).0) (turn false run.0 held d).0 mode compare key flags exptime value run.3 is
