-- A reply that shows a number: the item that is left has it. So an update that needs it loses nothing.
use Rattle.std.proofs.Common.{◌≡◌, ◌∙◌, ℕ, ◌||◌, ℤ, Bool, true, false, cond, List, ◌∷◌, ◌++◌, Option, Some, None, Ok, Err, refl, sym, subst}
use Rattle.std.specs.Bool.{then_some}
use Rattle.std.specs.Option.{option_map_or}
use Rattle.mc_text.specs.Numbers.{read_u64}
use Rattle.mc_item.specs.declared.bodies.Body.{Body}
use Rattle.mc_item.specs.Deadlines.{deadline_of}
use Rattle.mc_request.specs.declared.faults.Fault.TheVariants.{NonNumeric}
use Rattle.mc_request.specs.declared.meta.Counting.{Counting}
use Rattle.mc_request.specs.declared.meta.Creation.{Creation}
use Rattle.mc_request.specs.declared.meta.MetaCommand.TheVariants as metas
use Rattle.mc_request.specs.declared.meta.Show.{Show}
use Rattle.mc_request.specs.declared.parts.Atom.{Atom}
use Rattle.mc_request.specs.declared.parts.Atom.TheVariants as atoms
use Rattle.mc_request.specs.declared.parts.Update.{Update}
use Rattle.mc_request.specs.declared.parts.Update.TheVariants.{Store, Touch, Delete, Count, FlushAll}
use Rattle.mc_reply.specs.declared.replies.Marks.{Marks}
use Rattle.mc_reply.specs.declared.replies.Marks.TheVariants.{Plain, Won}
use Rattle.mc_reply.specs.declared.replies.Reply.{Reply}
use Rattle.mc_reply.specs.declared.replies.Reply.TheVariants.{Stored, NotStored, Exists, NotFound, Deleted, Touched, Flushed, Number, Miss, Hit, Meta, Fault}
use Rattle.mc_cache.specs.Settling.{is_dead_at}
use Rattle.mc_cache.specs.Showing.{item_shown, marks_of, meta_reply_of}
use Rattle.mc_cache.specs.Step.{Content, numbered, compared, unmet, unstored, content_by, touched, expiry_by, counted, made_by, looked_at}
use Rattle.mc_cache_laws.specs.OneMap.{KeyOutcome, as_meta}
use Rattle.mc_registers.specs.Registers.{Given, put_as, unless, number_as, update_as, register_step, turn, last_by}
use Rattle.mc_registers.specs.Guarantees.{number_shown, CasLosesNothing}
use Rattle.mc_registers.proofs.GuaranteeLemmas.{IsNumbered, IsAt, needed-run, run-part}
use Rattle.mc_registers.proofs.LeftLemmas.{number_body}
use Rattle.mc_registers.proofs.HitLemmas.{is_refused, IsRefusal, compared-refused, unmet-refused, or-refused}

-- a reply that shows nothing of an item
abbrev pub is_line : Reply (List ℕ) → Bool
is_line (Hit flags cas value) = false
is_line (Meta shown value) = false
is_line reply = true

refused-line : (reply : Reply (List ℕ)) → is_refused reply ≡ true → is_line reply ≡ true
refused-line (Hit flags cas value) refused = absurd cc
refused-line (Meta shown value) refused = absurd cc
refused-line reply refused = refl

line-hides : (reply : Reply (List ℕ)) → is_line reply ≡ true → number_shown reply ≡ None
line-hides (Hit flags cas value) line = absurd cc
line-hides (Meta shown value) line = absurd cc
line-hides reply line = refl

-- an update is answered by such a reply
put-line : (given : Given) (held : Option Body) (body : Body) (reply : Reply (List ℕ)) → is_line reply ≡ true → is_line (put_as given held body reply).1 ≡ true
put-line (Ok number) held body reply line = line
put-line (Err fault) held body reply line = refl

unless-line : (held : Option Body) (answer : Option (Reply (List ℕ))) (o : KeyOutcome) → IsRefusal answer → is_line o.1 ≡ true → is_line (unless held answer o).1 ≡ true
unless-line held None o refused line = line
unless-line held (Some reply) o refused line = refused-line reply refused

count_none-line : (given : Given) (create : Option Creation) (moment : ℕ)
    → is_line (option_map_or (λ creation. number_as given None 0 (deadline_of creation.exptime moment) creation.initial) create (None, NotFound)).1 ≡ true
count_none-line given None moment = refl
count_none-line given (Some creation) moment =
    put-line given None (number_body 0 (deadline_of creation.exptime moment) creation.initial) (Number creation.initial) refl

count_held-line : (given : Given) (body : Body) (counting : Counting) (moment : ℕ) (read : Option ℕ) → is_line (option_map_or
    (λ n. number_as given (Some body) body.flags (expiry_by counting.exptime moment body.expiry) (counted counting.direction counting.delta n)) read (Some body, Fault NonNumeric)).1 ≡ true
count_held-line given body counting moment None = refl
count_held-line given body counting moment (Some n) =
    let next : ℕ = counted counting.direction counting.delta n in
    put-line given (Some body) (number_body body.flags (expiry_by counting.exptime moment body.expiry) next) (Number next) refl

pub update-line : (given : Given) (held : Option Body) (update : Update (List ℕ) (List ℕ)) (moment : ℕ) → is_line (update_as given held update moment).1 ≡ true
update-line given held (Store mode compare key flags exptime value) moment =
    let new : Content = record { flags = flags; expiry = deadline_of exptime moment; won = false; value = value } in
    let body : Body = numbered (content_by mode held new) 0 in
    unless-line held (unstored compare mode held) (put_as given held body Stored)
    (or-refused (compared compare held) (unmet mode held) (compared-refused compare held) (unmet-refused mode held)) (put-line given held body Stored refl)
update-line given None (Touch key exptime) moment = refl
update-line given (Some body) (Touch key exptime) moment = refl
update-line given None (Delete key compare invalidate) moment = refl
update-line given (Some body) (Delete key compare true) moment =
    unless-line (Some body) (compared compare (Some body)) (put_as given (Some body) (record body { stale = true; won = false }) Deleted) (compared-refused compare (Some body))
    (put-line given (Some body) (record body { stale = true; won = false }) Deleted refl)
update-line given (Some body) (Delete key compare false) moment =
    unless-line (Some body) (compared compare (Some body)) (None, Deleted) (compared-refused compare (Some body)) refl
update-line given None (Count key counting) moment = count_none-line given counting.create moment
update-line given (Some body) (Count key counting) moment =
    unless-line (Some body) (compared counting.compare (Some body)) (option_map_or
    (λ n. number_as given (Some body) body.flags (expiry_by counting.exptime moment body.expiry) (counted counting.direction counting.delta n))
    (read_u64 body.value) (Some body, Fault NonNumeric)) (compared-refused counting.compare (Some body)) (count_held-line given body counting moment (read_u64 body.value))
update-line given held (FlushAll delay) moment = refl

-- the part of an item that is shown belongs to the item that is left
pub asked-same : {X : Type 0} (asked : Bool) (own shown : X) → then_some asked own ≡ Some shown → own ≡ shown
asked-same true own shown shows = cc
asked-same false own shown shows = absurd cc

item-shows : (show : Show) (moment : ℕ) (marks : Marks) (held : Option Body) (number : ℕ) → number_shown (item_shown show moment marks held) ≡ Some number → IsNumbered number held
item-shows show moment marks None number shows = absurd cc
item-shows show moment marks (Some body) number shows = (body, refl, asked-same show.cas body.cas number shows)

meta_reply_of-shows : (show : Show) (moment : ℕ) (marks : Marks) (held : Option Body) (reply : Reply (List ℕ)) (number : ℕ) → is_line reply ≡ true
    → number_shown (meta_reply_of show moment marks held reply) ≡ Some number → IsNumbered number held
meta_reply_of-shows show moment marks held Stored number line shows = item-shows show moment marks held number shows
meta_reply_of-shows show moment marks held (Number n) number line shows = item-shows show moment marks held number shows
meta_reply_of-shows show moment marks held (Hit flags cas value) number line shows = absurd cc
meta_reply_of-shows show moment marks held (Meta shown value) number line shows = absurd cc
meta_reply_of-shows show moment marks held NotStored number line shows = absurd cc
meta_reply_of-shows show moment marks held Exists number line shows = absurd cc
meta_reply_of-shows show moment marks held NotFound number line shows = absurd cc
meta_reply_of-shows show moment marks held Deleted number line shows = absurd cc
meta_reply_of-shows show moment marks held Touched number line shows = absurd cc
meta_reply_of-shows show moment marks held Flushed number line shows = absurd cc
meta_reply_of-shows show moment marks held Miss number line shows = absurd cc
meta_reply_of-shows show moment marks held (Fault fault) number line shows = absurd cc

pub step-shows : (given : Given) (held : Option Body) (atom : Atom (List ℕ)) (moment number : ℕ) → number_shown (register_step given held atom moment).1 ≡ Some number
    → IsNumbered number (register_step given held atom moment).0
step-shows given None (atoms.Get key exptime with_cas) moment number shows = absurd cc
step-shows given (Some body) (atoms.Get key exptime true) moment number shows =
    let same : body.cas ≡ number = cc in (touched exptime moment body, refl, same)
step-shows given (Some body) (atoms.Get key exptime false) moment number shows = absurd cc
step-shows given held (atoms.Update update) moment number shows =
    absurd (let none : ◌≡◌ {A = Option ℕ} None (Some number) = sym (line-hides (update_as given held update moment).1 (update-line given held update moment)) ∙ shows in cc)
step-shows given None (atoms.Meta (metas.Get key get)) moment number shows = go get.create shows
  where
    go : (create : Option ℤ) → let o : KeyOutcome = option_map_or
        (λ create. as_meta get.show moment Won (put_as given None (numbered (made_by get.exptime create moment) 0) Stored)) create (None, Miss) in
        number_shown o.1 ≡ Some number → IsNumbered number o.0
    go None shows = absurd cc
    go (Some create) shows =
        let body : Body = numbered (made_by get.exptime create moment) 0 in
        let o : KeyOutcome = put_as given None body Stored in
        meta_reply_of-shows get.show moment Won o.0 o.1 number (put-line given None body Stored refl) shows
step-shows given (Some body) (atoms.Meta (metas.Get key get)) moment number shows =
    item-shows get.show moment (marks_of get.recache moment body) (Some (looked_at get moment body)) number shows
step-shows given held (atoms.Meta (metas.Update update show)) moment number shows =
    let o : KeyOutcome = update_as given held update moment in
    meta_reply_of-shows show moment Plain o.0 o.1 number (update-line given held update moment) shows

pub updates_lose_nothing : (last : ℕ) (held : Option Body) → CasLosesNothing last held
updates_lose_nothing last held front between back read cas update number run shows updates needs done =
    let part = run-part front last held (read ∷ (between ++ cas ∷ back)) run in
    let r = part.2 in
    let gone : Bool = r.0 || is_dead_at part.1 read.moment in
    let left : Option Body = (turn r.0 r.1 part.1 read).0 in
    let has : IsNumbered number left =
    step-shows r.1 (cond gone None part.1) read.atom read.moment number (subst (λ (x : Reply (List ℕ)). number_shown x ≡ Some number) r.3 shows) in
    let starts : IsAt number (last_by part.0 left) left = subst (λ (l : Option Body). IsAt number (last_by part.0 l) l) (sym has.1) (has.2, has.2) in
    needed-run between back number (last_by part.0 left) left cas update starts r.4 updates needs done
