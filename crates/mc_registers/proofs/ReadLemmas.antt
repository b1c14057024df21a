-- A command that did not write, and whose reply shows a value, shows the value of the item that it
-- found.
use Rattle.std.proofs.Common.{◌≡◌, ◌∙◌, ℕ, ◌&&◌, ◌||◌, ◌⊎◌, inl, inr, ℤ, Bool, true, false, cond, List, ◌∷◌, ◌++◌, Option, Some, None, Ok, Err, refl, sym, ap, subst}
use Rattle.std.specs.Option.{option_map_or, is_some}
use Rattle.std.proofs.lemmas.Bool.{true≢false}
use Rattle.mc_item.specs.declared.bodies.Body.{Body}
use Rattle.mc_request.specs.declared.meta.MetaCommand.TheVariants as metas
use Rattle.mc_request.specs.declared.meta.Show.{Show}
use Rattle.mc_request.specs.declared.parts.Atom.{Atom}
use Rattle.mc_request.specs.declared.parts.Atom.TheVariants as atoms
use Rattle.mc_reply.specs.declared.replies.Marks.{Marks}
use Rattle.mc_reply.specs.declared.replies.Marks.TheVariants.{Plain, Won}
use Rattle.mc_reply.specs.declared.replies.Reply.{Reply}
use Rattle.mc_reply.specs.declared.replies.Reply.TheVariants.{Stored, NotStored, Exists, NotFound, Deleted, Touched, Flushed, Number, Miss, Hit, Meta, Fault}
use Rattle.mc_cache.specs.Settling.{is_dead_at}
use Rattle.mc_cache.specs.Showing.{marks_of, item_shown, meta_reply_of}
use Rattle.mc_cache.specs.Step.{Content, numbered, content_by, made_by, looked_at}
use Rattle.mc_cache_laws.specs.OneMap.{KeyOutcome, as_meta}
use Rattle.mc_registers.specs.Registers.{Given, put_as, update_as, register_step, turn, last_by}
use Rattle.mc_registers.specs.Guarantees.{is_done, may_have_written, value_shown, flags_shown, ReadsSeeOwnWrites}
use Rattle.mc_registers.proofs.LeftLemmas.{IsSame}
use Rattle.mc_registers.proofs.GuaranteeLemmas.{HasStored, update-stored, whole-content, left-is-same, found-held, quiet-run, run-part}
use Rattle.mc_registers.proofs.NumberLemmas.{is_line, update-line, asked-same}

-- a reply shows nothing of an item, or the fields of this one
abbrev pub Hides : Reply (List ℕ) → Type 0
Hides reply = (value_shown reply ≡ None) × (flags_shown reply ≡ None)

abbrev pub ShowsOf : Body → Reply (List ℕ) → Type 0
ShowsOf body reply =
    ((shown : List ℕ) → value_shown reply ≡ Some shown → body.value ≡ shown) × ((shown : ℕ) → flags_shown reply ≡ Some shown → body.flags ≡ shown)

abbrev pub ShowsFound : Option Body → Reply (List ℕ) → Type 0
ShowsFound held reply = Hides reply ⊎ ((body : Body) × (held ≡ Some body) × ShowsOf body reply)

line-hides-all : (reply : Reply (List ℕ)) → is_line reply ≡ true → Hides reply
line-hides-all (Hit flags cas value) line = absurd cc
line-hides-all (Meta shown value) line = absurd cc
line-hides-all reply line = (refl, refl)

item-shows-of : (show : Show) (moment : ℕ) (marks : Marks) (body : Body) → ShowsOf body (item_shown show moment marks (Some body))
item-shows-of show moment marks body = (λ shown shows. asked-same show.value body.value shown shows, λ shown shows. asked-same show.flags body.flags shown shows)

-- the reply to a meta command shows nothing if its update was not done
meta_reply_of-hides : (show : Show) (moment : ℕ) (marks : Marks) (held : Option Body) (reply : Reply (List ℕ)) → is_line reply ≡ true → is_done (meta_reply_of show moment marks held reply) ≡ false
    → Hides (meta_reply_of show moment marks held reply)
meta_reply_of-hides show moment marks None Stored line undone = absurd cc
meta_reply_of-hides show moment marks (Some body) Stored line undone = absurd cc
meta_reply_of-hides show moment marks None (Number number) line undone = absurd cc
meta_reply_of-hides show moment marks (Some body) (Number number) line undone = absurd cc
meta_reply_of-hides show moment marks held Deleted line undone = absurd cc
meta_reply_of-hides show moment marks held (Hit flags cas value) line undone = absurd cc
meta_reply_of-hides show moment marks held (Meta shown value) line undone = absurd cc
meta_reply_of-hides show moment marks held NotStored line undone = (refl, refl)
meta_reply_of-hides show moment marks held Exists line undone = (refl, refl)
meta_reply_of-hides show moment marks held NotFound line undone = (refl, refl)
meta_reply_of-hides show moment marks held Touched line undone = (refl, refl)
meta_reply_of-hides show moment marks held Flushed line undone = (refl, refl)
meta_reply_of-hides show moment marks held Miss line undone = (refl, refl)
meta_reply_of-hides show moment marks held (Fault fault) line undone = (refl, refl)

-- a command that did not write shows what it found
quiet-shows : (given : Given) (held : Option Body) (atom : Atom (List ℕ)) (moment : ℕ) → may_have_written atom (register_step given held atom moment).1 ≡ false
    → ShowsFound held (register_step given held atom moment).1
quiet-shows given None (atoms.Get key touch with_cas) moment quiet = inl (refl, refl)
quiet-shows given (Some body) (atoms.Get key touch with_cas) moment quiet = inr (body, refl, (λ shown shows. cc, λ shown shows. cc))
quiet-shows given held (atoms.Update update) moment quiet = inl (line-hides-all (update_as given held update moment).1 (update-line given held update moment))
quiet-shows given None (atoms.Meta (metas.Get key get)) moment quiet = go get.create refl given quiet
  where
    go : (create : Option ℤ) → get.create ≡ create → (given : Given) → let o : KeyOutcome = option_map_or
        (λ create. as_meta get.show moment Won (put_as given None (numbered (made_by get.exptime create moment) 0) Stored)) create (None, Miss) in
        may_have_written (atoms.Meta (metas.Get key get)) o.1 ≡ false → ShowsFound None o.1
    go None is given quiet = inl (refl, refl)
    go (Some create) is (Err fault) quiet = inl (refl, refl)
    go (Some create) is (Ok number) quiet = absurd (true≢false (sym (ap (λ (c : Option ℤ). is_some c && true) is) ∙ quiet))
quiet-shows given (Some body) (atoms.Meta (metas.Get key get)) moment quiet =
    inr (body, refl, item-shows-of get.show moment (marks_of get.recache moment body) (looked_at get moment body))
quiet-shows given held (atoms.Meta (metas.Update update show)) moment quiet =
    let o : KeyOutcome = update_as given held update moment in
    inl (meta_reply_of-hides show moment Plain o.0 o.1 (update-line given held update moment) quiet)

-- it shows the fields of this body, if that is the one that is found
shows-own : (found : Option Body) (own : Body) (reply : Reply (List ℕ)) → ((body : Body) → found ≡ Some body → IsSame own body) → ShowsFound found reply → ShowsOf own reply
shows-own found own reply same (inl hides) = (
  λ shown shows. absurd (let none : ◌≡◌ {A = Option (List ℕ)} None (Some shown) = sym hides.0 ∙ shows in cc),
  λ shown shows. absurd (let none : ◌≡◌ {A = Option ℕ} None (Some shown) = sym hides.1 ∙ shows in cc),
)
shows-own found own reply same (inr shows) =
    let its : IsSame own shows.0 = same shows.0 shows.1 in
    (λ shown is. sym its.value ∙ shows.2.0 shown is, λ shown is. sym its.flags ∙ shows.2.1 shown is)

pub own_writes_are_read : (last : ℕ) (held : Option Body) → ReadsSeeOwnWrites last held
own_writes_are_read last held front between back write read mode compare key flags exptime value run writes whole done quiet silent =
    let part = run-part front last held (write ∷ (between ++ read ∷ back)) run in
    let r = part.2 in
    let found : Option Body = cond (r.0 || is_dead_at part.1 write.moment) None part.1 in
    let after : Option Body = (turn r.0 r.1 part.1 write).0 in
    let stored = update-stored r.1 found write.atom write.moment mode compare key flags exptime value writes (subst (λ (x : Reply (List ℕ)). is_done x ≡ true) r.3 done) in
    let has : HasStored found compare mode stored.0 after = stored.3 in
    let own : Body = numbered (content_by mode found stored.0) has.number in
    let content : content_by mode found stored.0 ≡ stored.0 = whole-content mode found stored.0 whole in
    let rest = quiet-run between (last_by part.0 after) after (read ∷ back) quiet r.4 in
    let q = rest.3 in
    let gone : Bool = q.0 || is_dead_at rest.1 read.moment in
    let looks : Option Body = cond gone None rest.1 in
    let shows : ShowsFound looks read.reply = subst (λ (x : Reply (List ℕ)). ShowsFound looks x) (sym q.3)
    (quiet-shows q.1 looks read.atom read.moment (subst (λ (x : Reply (List ℕ)). may_have_written read.atom x ≡ false) q.3 silent)) in
    let same : (body : Body) → looks ≡ Some body → IsSame own body =
    λ body is. left-is-same own body after rest.1 has.left_is (found-held gone rest.1 body is) rest.2 in
    let of : ShowsOf own read.reply = shows-own looks own read.reply same shows in (
      λ shown is. sym (of.0 shown is) ∙ ap (λ (c : Content). c.value) content ∙ stored.2,
      λ shown is. sym (of.1 shown is) ∙ ap (λ (c : Content). c.flags) content ∙ stored.1,
    )
