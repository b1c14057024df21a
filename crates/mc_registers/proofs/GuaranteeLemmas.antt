-- What an application may rely on, from what each command leaves.
use Rattle.std.proofs.Common.{◌≡◌, ◌∙◌, ℕ, ◌<◌, ◌≤◌, ◌||◌, ◌==◌, nat_lt, ℤ, inl, inr, ◌⊎◌, Bool, true, false, cond, List, [], ◌∷◌, ◌++◌, Option, Some, None, Ok, Err, refl, sym, ap, arith, subst}
use Rattle.std.specs.Option.{option_map_or, option_or, is_some}
use Rattle.std.proofs.lemmas.Bool.{eqb-true, false_from_ne_true, true≢false}
use Rattle.std.proofs.lemmas.Bool.Decides.{nat_tests}
use Rattle.mc_text.specs.Numbers.{read_u64}
use Rattle.mc_item.specs.declared.bodies.Body.{Body}
use Rattle.mc_item.specs.Deadlines.{deadline_of}
use Rattle.mc_request.specs.declared.faults.Fault.TheVariants.{NonNumeric}
use Rattle.mc_request.specs.declared.meta.Creation.{Creation}
use Rattle.mc_request.specs.declared.meta.MetaCommand.TheVariants as metas
use Rattle.mc_request.specs.declared.parts.Atom.{Atom}
use Rattle.mc_request.specs.declared.parts.Atom.TheVariants as atoms
use Rattle.mc_request.specs.declared.parts.StoreMode.{StoreMode}
use Rattle.mc_request.specs.declared.parts.StoreMode.TheVariants.{Set, Add, Replace, Append, Prepend}
use Rattle.mc_request.specs.declared.parts.Update.{Update}
use Rattle.mc_request.specs.declared.parts.Update.TheVariants.{Store, Touch, Delete, Count, FlushAll}
use Rattle.mc_reply.specs.declared.replies.Marks.TheVariants.{Plain}
use Rattle.mc_reply.specs.declared.replies.Reply.{Reply}
use Rattle.mc_reply.specs.declared.replies.Reply.TheVariants.{Stored, NotStored, Exists, NotFound, Deleted, Hit, Meta, Fault}
use Rattle.mc_cache.specs.Settling.{is_dead_at}
use Rattle.mc_cache.specs.Step.{Content, numbered, compared, unmet, unstored, content_by, touched, expiry_by, counted}
use Rattle.mc_cache_laws.specs.OneMap.{KeyOutcome}
use Rattle.mc_registers.specs.Registers.{Given, put_as, unless, store_as, get_as, number_as, update_as, register_step, Done, turn, may_give, last_by, IsRun}
use Rattle.mc_registers.specs.Guarantees.{is_done, has_written, may_have_written, HaveNotWritten, AreQuiet, update_in, is_whole, IsSteadyRun, AddsExclude, number_needed, OldNumbersDoNotFit, CasLosesNothingAcross}
use Rattle.mc_registers.proofs.LeftLemmas.{IsSame, IsKept, IsLeft, kept-left, left-same, left-both, left-found, IsFresh, IsUndone, compared-undone, unstored-undone, update-leaves, looked-same, meta_reply_of-done, step-leaves}

-- a turn leaves the item that was stored, or none, or a fresh one
pub turn-leaves : (forgotten : Bool) (given : Given) (held : Option Body) (e : Done) → e.reply ≡ (turn forgotten given held e).1
    → (IsLeft held (turn forgotten given held e).0 × (has_written e.atom e.reply ≡ false)) ⊎ (IsFresh given (turn forgotten given held e).0 × (may_have_written e.atom e.reply ≡ true))
turn-leaves forgotten given held e is =
    let gone : Bool = forgotten || is_dead_at held e.moment in
    let o : KeyOutcome = turn forgotten given held e in
    subst (λ (r : Reply (List ℕ)). (IsLeft held o.0 × (has_written e.atom r ≡ false)) ⊎ (IsFresh given o.0 × (may_have_written e.atom r ≡ true))) (sym is)
    (elim (step-leaves given (cond gone None held) e.atom e.moment) [
      | inl kept ↦ inl (left-both held (cond gone None held) o.0 (left-found gone held) (kept-left (cond gone None held) o.0 kept.0), kept.1)
      | inr fresh ↦ inr fresh
    ])

-- a run's later part
pub run-part : (front : List Done) (last : ℕ) (held : Option Body) (es : List Done) → IsRun last held (front ++ es) → (next : ℕ) × (left : Option Body) × IsRun next left es
run-part [] last held es run = (last, held, run)
run-part (e ∷ front) last held es run =
    run-part front (last_by last (turn run.0 run.1 held e).0) (turn run.0 run.1 held e).0 es run.4

-- a quiet turn, and quiet turns
pub quiet-left : (forgotten : Bool) (given : Given) (held : Option Body) (e : Done) → e.reply ≡ (turn forgotten given held e).1 → may_have_written e.atom e.reply ≡ false
    → IsLeft held (turn forgotten given held e).0
quiet-left forgotten given held e is quiet =
    elim (turn-leaves forgotten given held e is) [
      | inl left ↦ left.0
      | inr fresh ↦ absurd (let wrote : may_have_written e.atom e.reply ≡ true = fresh.1 in cc)
    ]

pub quiet-run : (between : List Done) (last : ℕ) (held : Option Body) (es : List Done) → AreQuiet between → IsRun last held (between ++ es)
    → (next : ℕ) × (left : Option Body) × IsLeft held left × IsRun next left es
quiet-run [] last held es quiet run = (last, held, left-same held, run)
quiet-run (e ∷ between) last held es quiet run =
    let after : Option Body = (turn run.0 run.1 held e).0 in
    let rest = quiet-run between (last_by last after) after es quiet.1 run.4 in
    (rest.0, rest.1, left-both held after rest.1 (quiet-left run.0 run.1 held e run.3 quiet.0) rest.2, rest.3)

-- a retrieval command that hits shows the stored item, and leaves it
pub record ShowsHeld (held : Option Body) (flags : ℕ) (cas : Option ℕ) (value : List ℕ) (left : Option Body) : Type 0 where
  pub body : Body
  pub is : held ≡ Some body
  pub flags_are : flags ≡ body.flags
  pub cas_is : (number : ℕ) → cas ≡ Some number → body.cas ≡ number
  pub value_is : value ≡ body.value
  pub after : Body
  pub left_is : left ≡ Some after
  pub same : after.cas ≡ body.cas

hit-shows : (held : Option Body) (touch : Option ℤ) (with_cas : Bool) (moment flags : ℕ) (cas : Option ℕ) (value : List ℕ) → Hit flags cas value ≡ (get_as held touch with_cas moment).1
    → ShowsHeld held flags cas value (get_as held touch with_cas moment).0
hit-shows None touch with_cas moment flags cas value is = absurd cc
hit-shows (Some body) touch true moment flags cas value is = record {
  body = body;
  is = refl;
  flags_are = cc;
  cas_is = λ number shows. cc;
  value_is = cc;
  after = touched touch moment body;
  left_is = refl;
  same = refl;
}
hit-shows (Some body) touch false moment flags cas value is = record {
  body = body;
  is = refl;
  flags_are = cc;
  cas_is = λ number shows. absurd cc;
  value_is = cc;
  after = touched touch moment body;
  left_is = refl;
  same = refl;
}

-- an item that is found is stored
pub found-held : (gone : Bool) (held : Option Body) (body : Body) → cond gone None held ≡ Some body → held ≡ Some body
found-held true held body is = absurd cc
found-held false held body is = is

pub read-shows : (forgotten : Bool) (given : Given) (held : Option Body) (e : Done) (key : List ℕ) (touch : Option ℤ) (with_cas : Bool) (flags : ℕ) (cas : Option ℕ) (value : List ℕ)
    → e.reply ≡ (turn forgotten given held e).1 → e.atom ≡ atoms.Get key touch with_cas → e.reply ≡ Hit flags cas value
    → ShowsHeld held flags cas value (turn forgotten given held e).0
read-shows forgotten given held e key touch with_cas flags cas value is gets hits =
    let gone : Bool = forgotten || is_dead_at held e.moment in
    let found : Option Body = cond gone None held in
    let steps : turn forgotten given held e ≡ get_as found touch with_cas e.moment = ap (λ (a : Atom (List ℕ)). register_step given found a e.moment) gets in
    let shows : ShowsHeld found flags cas value (get_as found touch with_cas e.moment).0 =
    hit-shows found touch with_cas e.moment flags cas value (sym hits ∙ is ∙ ap (λ (o : KeyOutcome). o.1) steps) in
    subst (λ (o : KeyOutcome). ShowsHeld held flags cas value o.0) (sym steps) (record {
      body = shows.body;
      is = found-held gone held shows.body shows.is;
      flags_are = shows.flags_are;
      cas_is = shows.cas_is;
      value_is = shows.value_is;
      after = shows.after;
      left_is = shows.left_is;
      same = shows.same;
    })

-- a storage command that was done stored
pub record HasStored (held : Option Body) (compare : Option ℕ) (mode : StoreMode) (new : Content) (left : Option Body) : Type 0 where
  pub number : ℕ
  pub unanswered : unstored compare mode held ≡ None
  pub left_is : left ≡ Some (numbered (content_by mode held new) number)

store-stored : (given : Given) (held : Option Body) (compare : Option ℕ) (mode : StoreMode) (new : Content) → is_done (store_as given held compare mode new).1 ≡ true
    → HasStored held compare mode new (store_as given held compare mode new).0
store-stored given held compare mode new done = go (unstored compare mode held) refl given done
  where
    go : (answer : Option (Reply (List ℕ))) → unstored compare mode held ≡ answer → (given : Given)
        → is_done (unless held answer (put_as given held (numbered (content_by mode held new) 0) Stored)).1 ≡ true
        → HasStored held compare mode new (unless held answer (put_as given held (numbered (content_by mode held new) 0) Stored)).0
    go (Some reply) is given done =
        absurd (let undone : is_done reply ≡ false = subst IsUndone is (unstored-undone compare mode held) in cc)
    go None is (Err fault) done = absurd cc
    go None is (Ok number) done = record { number = number; unanswered = is; left_is = refl }

-- likewise for each command that has such an update
pub update-stored : (given : Given) (held : Option Body) (atom : Atom (List ℕ)) (moment : ℕ) (mode : StoreMode) (compare : Option ℕ) (key : List ℕ) (flags : ℕ) (exptime : ℤ) (value : List ℕ)
    → update_in atom ≡ Some (Store mode compare key flags exptime value) → is_done (register_step given held atom moment).1 ≡ true
    → (new : Content) × (new.flags ≡ flags) × (new.value ≡ value) × HasStored held compare mode new (register_step given held atom moment).0
update-stored given held (atoms.Get at touch with_cas) moment mode compare key flags exptime value is done = absurd cc
update-stored given held (atoms.Meta (metas.Get at get)) moment mode compare key flags exptime value is done = absurd cc
update-stored given held (atoms.Update update) moment mode compare key flags exptime value is done =
    let its : update ≡ Store mode compare key flags exptime value = cc in
    let stored : is_done (update_as given held (Store mode compare key flags exptime value) moment).1 ≡ true =
    subst (λ (u : Update (List ℕ) (List ℕ)). is_done (update_as given held u moment).1 ≡ true) its done in
    let new : Content = record { flags = flags; expiry = deadline_of exptime moment; won = false; value = value } in
    subst (λ (u : Update (List ℕ) (List ℕ)). (new : Content) × (new.flags ≡ flags) × (new.value ≡ value) × HasStored held compare mode new (update_as given held u moment).0) (sym its)
    (new, refl, refl, store-stored given held compare mode new stored)
update-stored given held (atoms.Meta (metas.Update update show)) moment mode compare key flags exptime value is done =
    let its : update ≡ Store mode compare key flags exptime value = cc in
    let o : KeyOutcome = update_as given held update moment in
    let undone : is_done o.1 ≡ true = sym (meta_reply_of-done show moment Plain o.0 o.1) ∙ done in
    let stored : is_done (update_as given held (Store mode compare key flags exptime value) moment).1 ≡ true =
    subst (λ (u : Update (List ℕ) (List ℕ)). is_done (update_as given held u moment).1 ≡ true) its undone in
    let new : Content = record { flags = flags; expiry = deadline_of exptime moment; won = false; value = value } in
    subst (λ (u : Update (List ℕ) (List ℕ)). (new : Content) × (new.flags ≡ flags) × (new.value ≡ value) × HasStored held compare mode new (update_as given held u moment).0) (sym its)
    (new, refl, refl, store-stored given held compare mode new stored)

pub whole-content : (mode : StoreMode) (held : Option Body) (new : Content) → is_whole mode ≡ true → content_by mode held new ≡ new
whole-content Set None new whole = refl
whole-content Set (Some body) new whole = refl
whole-content Add None new whole = refl
whole-content Add (Some body) new whole = refl
whole-content Replace None new whole = refl
whole-content Replace (Some body) new whole = refl
whole-content Append held new whole = absurd cc
whole-content Prepend held new whole = absurd cc

-- what is left of a stored item
pub left-is-same : (before after : Body) (held left : Option Body) → held ≡ Some before → left ≡ Some after → IsLeft held left → IsSame before after
left-is-same before after held left was is kept =
    subst (λ (h : Option Body). IsLeft h (Some after)) was (subst (λ (l : Option Body). IsLeft held l) is kept)

-- a hit of a retrieval command
pub reads_see_own_writes : (last : ℕ) (held : Option Body) (front between back : List Done) (write read : Done) (mode : StoreMode) (compare : Option ℕ) (key : List ℕ) (flags : ℕ) (exptime : ℤ)
    (value : List ℕ) → IsRun last held (front ++ write ∷ (between ++ read ∷ back))
    → update_in write.atom ≡ Some (Store mode compare key flags exptime value) → is_whole mode ≡ true → is_done write.reply ≡ true → AreQuiet between
    → (at : List ℕ) (touch : Option ℤ) (with_cas : Bool) → read.atom ≡ atoms.Get at touch with_cas
    → (shown_flags : ℕ) (cas : Option ℕ) (shown : List ℕ) → read.reply ≡ Hit shown_flags cas shown → (shown_flags ≡ flags) × (shown ≡ value)
reads_see_own_writes last held front between back write read mode compare key flags exptime value run writes whole done quiet at touch with_cas reads shown_flags cas shown hits =
    let part = run-part front last held (write ∷ (between ++ read ∷ back)) run in
    let r = part.2 in
    let found : Option Body = cond (r.0 || is_dead_at part.1 write.moment) None part.1 in
    let after : Option Body = (turn r.0 r.1 part.1 write).0 in
    let stored = update-stored r.1 found write.atom write.moment mode compare key flags exptime value writes (subst (λ (x : Reply (List ℕ)). is_done x ≡ true) r.3 done) in
    let has : HasStored found compare mode stored.0 after = stored.3 in
    let body : Body = numbered (content_by mode found stored.0) has.number in
    let content : content_by mode found stored.0 ≡ stored.0 = whole-content mode found stored.0 whole in
    let rest = quiet-run between (last_by part.0 after) after (read ∷ back) quiet r.4 in
    let q = rest.3 in
    let shows = read-shows q.0 q.1 rest.1 read at touch with_cas shown_flags cas shown q.3 reads hits in
    let same : IsSame body shows.body = left-is-same body shows.body after rest.1 has.left_is shows.is rest.2 in
    (shows.flags_are ∙ same.flags ∙ ap (λ (c : Content). c.flags) content ∙ stored.1, shows.value_is ∙ same.value ∙ ap (λ (c : Content). c.value) content ∙ stored.2)

-- no `add` stores if an item is stored
add-answered : (compare : Option ℕ) (body : Body) → unstored compare Add (Some body) ≡ None → ⊥
add-answered compare body is = go (compared compare (Some body)) is
  where
    go : (answer : Option (Reply (List ℕ))) → option_or answer (Some NotStored) ≡ None → ⊥
    go None is = cc
    go (Some reply) is = cc

-- a command that did not write keeps an item that is found
pub held-kept : (given : Given) (body : Body) (atom : Atom (List ℕ)) (moment : ℕ) → has_written atom (register_step given (Some body) atom moment).1 ≡ false
    → IsKept (Some body) (register_step given (Some body) atom moment).0
held-kept given body (atoms.Get key touch with_cas) moment none = record { flags = refl; cas = refl; value = refl; won = λ won. won }
held-kept given body (atoms.Update update) moment none =
    elim (update-leaves given (Some body) update moment) [
      | inl kept ↦ kept.0
      | inr fresh ↦ absurd (true≢false (sym fresh.1 ∙ none))
    ]
held-kept given body (atoms.Meta (metas.Get key get)) moment none = looked-same get moment body
held-kept given body (atoms.Meta (metas.Update update show)) moment none =
    let o : KeyOutcome = update_as given (Some body) update moment in
    elim (update-leaves given (Some body) update moment) [
      | inl kept ↦ kept.0
      | inr fresh ↦ absurd (true≢false (sym fresh.1 ∙ sym (meta_reply_of-done show moment Plain o.0 o.1) ∙ none))
    ]

pub unwritten-turn : (given : Given) (body : Body) (e : Done) → is_dead_at (Some body) e.moment ≡ false → e.reply ≡ (turn false given (Some body) e).1
    → has_written e.atom e.reply ≡ false → IsKept (Some body) (turn false given (Some body) e).0
unwritten-turn given body e lives is none =
    let o : Option Body → KeyOutcome = λ found. register_step given found e.atom e.moment in
    let found : cond (false || is_dead_at (Some body) e.moment) None (Some body) ≡ Some body = ap (λ v. cond v None (Some body)) lives in
    let unwritten : has_written e.atom (o (Some body)).1 ≡ false =
    subst (λ (r : Reply (List ℕ)). has_written e.atom r ≡ false) (is ∙ ap (λ (h : Option Body). (o h).1) found) none in
    subst (λ (h : Option Body). IsKept (Some body) (o h).0) (sym found) (held-kept given body e.atom e.moment unwritten)

adds-run : (between : List Done) (last : ℕ) (body : Body) (add : Done) (compare : Option ℕ) (key : List ℕ) (flags : ℕ) (exptime : ℤ) (value : List ℕ)
    → IsSteadyRun last (Some body) (between ++ add ∷ []) → HaveNotWritten between → update_in add.atom ≡ Some (Store Add compare key flags exptime value) → is_done add.reply ≡ false
adds-run [] last body add compare key flags exptime value run none adds =
    false_from_ne_true (is_done add.reply) (λ done.
    let found : cond (false || is_dead_at (Some body) add.moment) None (Some body) ≡ Some body = ap (λ v. cond v None (Some body)) run.1 in
    let stored = update-stored run.0 (cond (false || is_dead_at (Some body) add.moment) None (Some body)) add.atom add.moment Add compare key flags exptime value adds
    (subst (λ (x : Reply (List ℕ)). is_done x ≡ true) run.2 done) in
    add-answered compare body (subst (λ (h : Option Body). unstored compare Add h ≡ None) found stored.3.unanswered))
adds-run (e ∷ between) last body add compare key flags exptime value run none adds =
    let kept : IsKept (Some body) (turn false run.0 (Some body) e).0 = unwritten-turn run.0 body e run.1 run.2 none.0 in
    (elim (turn false run.0 (Some body) e).0 as (λ (left : Option Body). IsKept (Some body) left → IsSteadyRun (last_by last left) left (between ++ add ∷ []) → is_done add.reply ≡ false) [
      | None ↦ λ kept rest. absurd kept
      | Some after ↦ λ kept rest. adds-run between after.cas after add compare key flags exptime value rest none.1 adds
    ]) kept run.3

pub unwritten_excludes : (last : ℕ) (body : Body) → AddsExclude last body
unwritten_excludes last body between add compare key flags exptime value run none adds = adds-run between last body add compare key flags exptime value run none adds

-- a command that may not have written has not
pub quiet-unwritten : (atom : Atom (List ℕ)) (reply : Reply (List ℕ)) → may_have_written atom reply ≡ false → has_written atom reply ≡ false
quiet-unwritten (atoms.Get key touch with_cas) reply quiet = refl
quiet-unwritten (atoms.Update update) reply quiet = quiet
quiet-unwritten (atoms.Meta (metas.Get key get)) reply quiet = refl
quiet-unwritten (atoms.Meta (metas.Update update show)) reply quiet = quiet

are-unwritten : (es : List Done) → AreQuiet es → HaveNotWritten es
are-unwritten [] quiet = tt
are-unwritten (e ∷ es) quiet = (quiet-unwritten e.atom e.reply quiet.0, are-unwritten es quiet.1)

pub adds_exclude : (last : ℕ) (body : Body) (between : List Done) (add : Done) (compare : Option ℕ) (key : List ℕ) (flags : ℕ) (exptime : ℤ) (value : List ℕ)
    → IsSteadyRun last (Some body) (between ++ add ∷ []) → AreQuiet between → update_in add.atom ≡ Some (Store Add compare key flags exptime value) → is_done add.reply ≡ false
adds_exclude last body between add compare key flags exptime value run quiet adds =
    adds-run between last body add compare key flags exptime value run (are-unwritten between quiet) adds

-- a number that was given, and that no item has any more
abbrev pub IsPast : ℕ → ℕ → Option Body → Type 0
IsPast number last None = number ≤ last
IsPast number last (Some body) = (number ≤ last) × (number < body.cas)

past-less : (number last : ℕ) (held : Option Body) → IsPast number last held → number ≤ last
past-less number last None past = past
past-less number last (Some body) past = past.0

past-left : (number last : ℕ) (held left : Option Body) → IsPast number last held → IsLeft held left → IsPast number (last_by last left) left
past-left number last held None past left = past-less number last held past
past-left number last None (Some after) past left = absurd left
past-left number last (Some body) (Some after) past left = (omega (arith, past.1, left.cas), omega (arith, past.1, left.cas))

given-more : (last number : ℕ) (given : Given) → given ≡ Ok number → may_give last given ≡ true → last < number
given-more last number given is may =
    let more : nat_lt last number ≡ true = subst (λ (g : Given). may_give last g ≡ true) is may in
    grind (arith, nat_tests)

past-fresh : (number last : ℕ) (given : Given) (left : Option Body) → number ≤ last → may_give last given ≡ true → IsFresh given left → IsPast number (last_by last left) left
past-fresh number last given None less may fresh = less
past-fresh number last given (Some after) less may fresh =
    let more : last < after.cas = given-more last after.cas given fresh may in
    (omega arith, omega arith)

past-run : (between : List Done) (number last : ℕ) (held : Option Body) (es : List Done) → IsPast number last held → IsRun last held (between ++ es)
    → (next : ℕ) × (left : Option Body) × IsPast number next left × IsRun next left es
past-run [] number last held es past run = (last, held, past, run)
past-run (e ∷ between) number last held es past run =
    let left : Option Body = (turn run.0 run.1 held e).0 in
    let after : IsPast number (last_by last left) left = elim (turn-leaves run.0 run.1 held e run.3) [
      | inl kept ↦ past-left number last held left past kept.0
      | inr fresh ↦ past-fresh number last run.1 left (past-less number last held past) run.2 fresh.0
    ] in
    past-run between number (last_by last left) left es after run.4

-- an item has a number
abbrev pub IsNumbered : ℕ → Option Body → Type 0
IsNumbered number held = (body : Body) × (held ≡ Some body) × (body.cas ≡ number)

-- an update that compares a number, and gets no answer by that, finds it
compared-found : (number : ℕ) (held : Option Body) → compared (Some number) held ≡ None → IsNumbered number held
compared-found number None is = absurd cc
compared-found number (Some body) is =
    (elim (body.cas == number) as (λ v. (body.cas == number) ≡ v → ◌≡◌ {A = Option (Reply (List ℕ))} (cond v None (Some Exists)) None → IsNumbered number (Some body)) [
      | true ↦ λ same none. (body, refl, eqb-true body.cas number same)
      | false ↦ λ differ none. absurd cc
    ]) refl is

needed-found : (number : ℕ) (compare : Option ℕ) (held : Option Body) → compare ≡ Some number → compared compare held ≡ None → IsNumbered number held
needed-found number compare held needs is =
    compared-found number held (subst (λ (c : Option ℕ). ◌≡◌ {A = Option (Reply (List ℕ))} (compared c held) None) needs is)

first-none : (first second : Option (Reply (List ℕ))) → option_or first second ≡ None → first ≡ None
first-none None second is = refl
first-none (Some reply) second is = absurd cc

done-unanswered : (held : Option Body) (answer : Option (Reply (List ℕ))) (o : KeyOutcome) → IsUndone answer → is_done (unless held answer o).1 ≡ true → answer ≡ None
done-unanswered held None o undone done = refl
done-unanswered held (Some reply) o undone done = absurd (true≢false (sym done ∙ undone))

-- a count that needs a number makes no item
count-needs : (create : Option Creation) (compare : Option ℕ) (number : ℕ) → cond (is_some create) None compare ≡ Some number → (create ≡ None) × (compare ≡ Some number)
count-needs None compare number is = (refl, is)
count-needs (Some creation) compare number is = absurd cc

-- an update that needs a number is done only if an item has it
update-needs : (given : Given) (held : Option Body) (update : Update (List ℕ) (List ℕ)) (moment number : ℕ) → number_needed update ≡ Some number
    → is_done (update_as given held update moment).1 ≡ true → IsNumbered number held
update-needs given held (Store mode compare key flags exptime value) moment number needs done =
    let new : Content = record { flags = flags; expiry = deadline_of exptime moment; won = false; value = value } in
    let stored = store-stored given held compare mode new done in
    needed-found number compare held needs (first-none (compared compare held) (unmet mode held) stored.unanswered)
update-needs given held (Touch key exptime) moment number needs done = absurd cc
update-needs given None (Delete key compare invalidate) moment number needs done = absurd cc
update-needs given (Some body) (Delete key compare invalidate) moment number needs done =
    let o : KeyOutcome = cond invalidate (put_as given (Some body) (record body { stale = true; won = false }) Deleted) (None, Deleted) in
    needed-found number compare (Some body) needs (done-unanswered (Some body) (compared compare (Some body)) o (compared-undone compare (Some body)) done)
update-needs given None (Count key counting) moment number needs done =
    let both = count-needs counting.create counting.compare number needs in
    absurd (let none : false ≡ true = subst (λ (c : Option Creation).
    is_done (option_map_or (λ creation. number_as given None 0 (deadline_of creation.exptime moment) creation.initial) c (None, NotFound)).1 ≡ true) both.0 done in cc)
update-needs given (Some body) (Count key counting) moment number needs done =
    let both = count-needs counting.create counting.compare number needs in
    let o : KeyOutcome = option_map_or
    (λ n. number_as given (Some body) body.flags (expiry_by counting.exptime moment body.expiry) (counted counting.direction counting.delta n))
    (read_u64 body.value) (Some body, Fault NonNumeric) in
    needed-found number counting.compare (Some body) both.1
    (done-unanswered (Some body) (compared counting.compare (Some body)) o (compared-undone counting.compare (Some body)) done)
update-needs given held (FlushAll delay) moment number needs done = absurd cc

-- likewise for each command that has such an update
step-needs : (given : Given) (held : Option Body) (atom : Atom (List ℕ)) (moment : ℕ) (update : Update (List ℕ) (List ℕ)) (number : ℕ) → update_in atom ≡ Some update
    → number_needed update ≡ Some number → is_done (register_step given held atom moment).1 ≡ true → IsNumbered number held
step-needs given held (atoms.Get at touch with_cas) moment update number is needs done = absurd cc
step-needs given held (atoms.Meta (metas.Get at get)) moment update number is needs done = absurd cc
step-needs given held (atoms.Update own) moment update number is needs done =
    let its : own ≡ update = cc in
    update-needs given held own moment number (ap (λ (u : Update (List ℕ) (List ℕ)). number_needed u) its ∙ needs) done
step-needs given held (atoms.Meta (metas.Update own show)) moment update number is needs done =
    let its : own ≡ update = cc in
    let o : KeyOutcome = update_as given held own moment in
    update-needs given held own moment number (ap (λ (u : Update (List ℕ) (List ℕ)). number_needed u) its ∙ needs) (sym (meta_reply_of-done show moment Plain o.0 o.1) ∙ done)

past-compares : (number last : ℕ) (held : Option Body) (body : Body) → IsPast number last held → held ≡ Some body → body.cas ≡ number → ⊥
past-compares number last held body past is same =
    let after : IsPast number last (Some body) = subst (λ (h : Option Body). IsPast number last h) is past in
    omega (arith, after.1, same)

pub needed-past : (between back : List Done) (number last : ℕ) (held : Option Body) (cas : Done) (update : Update (List ℕ) (List ℕ)) → IsPast number last held
    → IsRun last held (between ++ cas ∷ back) → update_in cas.atom ≡ Some update → number_needed update ≡ Some number → is_done cas.reply ≡ true → ⊥
needed-past between back number last held cas update past run updates needs done =
    let rest = past-run between number last held (cas ∷ back) past run in
    let r = rest.3 in
    let gone : Bool = r.0 || is_dead_at rest.1 cas.moment in
    let has : IsNumbered number (cond gone None rest.1) = step-needs r.1 (cond gone None rest.1) cas.atom cas.moment update number updates needs
    (subst (λ (x : Reply (List ℕ)). is_done x ≡ true) r.3 done) in
    past-compares number rest.0 rest.1 has.0 rest.2 (found-held gone rest.1 has.0 has.1) has.2

pub cas-past : (between back : List Done) (number last : ℕ) (held : Option Body) (cas : Done) (mode : StoreMode) (key : List ℕ) (flags : ℕ) (exptime : ℤ) (value : List ℕ)
    → IsPast number last held → IsRun last held (between ++ cas ∷ back) → update_in cas.atom ≡ Some (Store mode (Some number) key flags exptime value) → is_done cas.reply ≡ true → ⊥
cas-past between back number last held cas mode key flags exptime value past run compares done =
    needed-past between back number last held cas (Store mode (Some number) key flags exptime value) past run compares refl done

-- the stored item has the number, which is the last that was given
abbrev pub IsAt : ℕ → ℕ → Option Body → Type 0
IsAt number last None = ⊥
IsAt number last (Some body) = (body.cas ≡ number) × (last ≡ number)

at-less : (number last : ℕ) (held : Option Body) → IsAt number last held → number ≤ last
at-less number last None at = absurd at
at-less number last (Some body) at = omega (arith, at.1)

at-left : (number last : ℕ) (held left : Option Body) → IsAt number last held → IsLeft held left → IsAt number (last_by last left) left ⊎ IsPast number (last_by last left) left
at-left number last held None at left = inr (at-less number last held at)
at-left number last None (Some after) at left = absurd left
at-left number last (Some body) (Some after) at left = inl (left.cas ∙ at.0, left.cas ∙ at.0)

pub needed-run : (between back : List Done) (number last : ℕ) (held : Option Body) (cas : Done) (update : Update (List ℕ) (List ℕ)) → IsAt number last held
    → IsRun last held (between ++ cas ∷ back) → update_in cas.atom ≡ Some update → number_needed update ≡ Some number → is_done cas.reply ≡ true → HaveNotWritten between
needed-run [] back number last held cas update at run updates needs done = tt
needed-run (e ∷ between) back number last held cas update at run updates needs done =
    let left : Option Body = (turn run.0 run.1 held e).0 in
    let past : IsPast number (last_by last left) left → ⊥ = λ p. needed-past between back number (last_by last left) left cas update p run.4 updates needs done in
    let again : IsAt number (last_by last left) left → HaveNotWritten between = λ a. needed-run between back number (last_by last left) left cas update a run.4 updates needs done in
    elim (turn-leaves run.0 run.1 held e run.3) [
      | inl kept ↦ (kept.1, elim (at-left number last held left at kept.0) [ inl a ↦ again a | inr p ↦ absurd (past p) ])
      | inr fresh ↦ absurd (past (past-fresh number last run.1 left (at-less number last held at) run.2 fresh.0))
    ]

-- a `cas` with the number of a hit
pub cas_loses_nothing : (last : ℕ) (held : Option Body) (front between back : List Done) (read cas : Done) (mode : StoreMode) (number : ℕ) (key : List ℕ) (flags : ℕ) (exptime : ℤ) (value : List ℕ)
    → IsRun last held (front ++ read ∷ (between ++ cas ∷ back)) → (at : List ℕ) (touch : Option ℤ) (with_cas : Bool) → read.atom ≡ atoms.Get at touch with_cas
    → (shown_flags : ℕ) (shown : List ℕ) → read.reply ≡ Hit shown_flags (Some number) shown
    → update_in cas.atom ≡ Some (Store mode (Some number) key flags exptime value) → is_done cas.reply ≡ true → HaveNotWritten between
cas_loses_nothing last held front between back read cas mode number key flags exptime value run at touch with_cas reads shown_flags shown hits compares done =
    let part = run-part front last held (read ∷ (between ++ cas ∷ back)) run in
    let r = part.2 in
    let left : Option Body = (turn r.0 r.1 part.1 read).0 in
    let shows = read-shows r.0 r.1 part.1 read at touch with_cas shown_flags (Some number) shown r.3 reads hits in
    let its : shows.after.cas ≡ number = shows.same ∙ shows.cas_is number refl in
    let starts : IsAt number (last_by part.0 left) left =
    subst (λ (l : Option Body). IsAt number (last_by part.0 l) l) (sym shows.left_is) (its, its) in
    needed-run between back number (last_by part.0 left) left cas (Store mode (Some number) key flags exptime value) starts r.4 compares refl done

pub old_numbers_do_not_fit : (last : ℕ) → OldNumbersDoNotFit last
old_numbers_do_not_fit last front back cas update number run less updates needs =
    false_from_ne_true (is_done cas.reply) (λ done. needed-past front back number last None cas update less run updates needs done)

pub cas_loses_nothing_across : (first later : ℕ) → CasLosesNothingAcross first later
cas_loses_nothing_across first later front back before after read cas update number run shows again less updates needs =
    old_numbers_do_not_fit later before after cas update number again less updates needs
