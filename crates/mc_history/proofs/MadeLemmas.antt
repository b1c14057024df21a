-- What a server made is what its history has, and what its answers say.
use Rattle.std.proofs.Common.{◌≡◌, ◌∙◌, ℕ, ◌==◌, true, false, if◌then◌else◌, List, [], ◌∷◌, ◌++◌, map, refl, sym, ap}
use Rattle.mc_request.specs.Atoms.{head_of}
use Rattle.mc_request.specs.declared.meta.MetaCommand.TheVariants as metas
use Rattle.mc_request.specs.declared.parts.Atom.{Atom}
use Rattle.mc_request.specs.declared.parts.Atom.TheVariants as atoms
use Rattle.mc_request.specs.declared.parts.Parsed.{Parsed}
use Rattle.mc_request.specs.declared.parts.Update.TheVariants.{Store, Touch, Delete, Count, FlushAll}
use Rattle.mc_reply.specs.CanHave.{can_have}
use Rattle.mc_reply.specs.Spelling.{answer_of, spelling_of}
use Rattle.mc_reply.specs.declared.replies.Reply.{Reply as AReply}
use Rattle.mc_codec.specs.Spellings.{request_of}
use Rattle.mc_codec.proofs.CanonicalLemmas.{answer_of-spelled}
use Rattle.mc_codec.proofs.SpelledTextLemmas.{one_atom}
use Rattle.mc_cache.specs.CacheState.{CacheState}
use Rattle.mc_cache.specs.Replay.{Command, replay, replies}
use Rattle.mc_cache.specs.Step.{step_of}
use Rattle.mc_server.specs.Served.{answer_after, cache_after, commands_of}
use Rattle.mc_server.specs.Histories.{answers_to, replayed, taken_of}
use Rattle.mc_account.specs.Lanes.{CanHave, replies_text}
use Rattle.mc_history.specs.Made.{AreMade, IsMade, Made, commands_on, made_on, read_as, replies_on, taking_of}

-- a data block plays no part in a reply's spelling, nor in which replies there are
pub spelled_by_head : (atom : Atom (List ℕ)) (reply : AReply (List ℕ)) → spelling_of (head_of atom) reply ≡ spelling_of atom reply
spelled_by_head (atoms.Get key exptime with_cas) reply = refl
spelled_by_head (atoms.Update update) reply = refl
spelled_by_head (atoms.Meta command) reply = refl

pub can_by_head : (atom : Atom (List ℕ)) (reply : AReply (List ℕ)) → can_have (head_of atom) reply ≡ can_have atom reply
can_by_head (atoms.Get key exptime with_cas) reply = refl
can_by_head (atoms.Update (Store mode compare key flags exptime block)) reply = refl
can_by_head (atoms.Update (Touch key exptime)) reply = refl
can_by_head (atoms.Update (Delete key compare invalidate)) reply = refl
can_by_head (atoms.Update (Count key counting)) reply = refl
can_by_head (atoms.Update (FlushAll delay)) reply = refl
can_by_head (atoms.Meta (metas.Get key get)) reply = refl
can_by_head (atoms.Meta (metas.Update (Store mode compare key flags exptime block) show)) reply = refl
can_by_head (atoms.Meta (metas.Update (Touch key exptime) show)) reply = refl
can_by_head (atoms.Meta (metas.Update (Delete key compare invalidate) show)) reply = refl
can_by_head (atoms.Meta (metas.Update (Count key counting) show)) reply = refl
can_by_head (atoms.Meta (metas.Update (FlushAll delay) show)) reply = refl

-- the one command of an entry
abbrev at_entry : Made → Atom (List ℕ) → Command
at_entry m atom = record { atom = atom; moment = m.moment; refused = m.refused }

pub commands_made : (m : Made) → commands_of (taking_of m) ≡ (record { atom = m.command.0; moment = m.moment; refused = m.refused }) ∷ []
commands_made m = ap (λ (ones : List (Atom (List ℕ))). map (at_entry m) ones) (one_atom m.command.0)

-- the cache after it, and its answer
pub cache_made : (s : CacheState) (m : Made) → cache_after s (taking_of m) ≡ (step_of s m.command.0 m.moment m.refused).0
cache_made s m = ap (λ (cs : List Command). replay s cs) (commands_made m)

pub answer_made : (s : CacheState) (m : Made) → IsMade s m → answer_after s (taking_of m) ≡ spelling_of (head_of m.command.0) m.reply
answer_made s m h =
    ap (λ (cs : List Command). answer_of (request_of m.command.0) (replies s cs)) (commands_made m)
    ∙ ap (λ (reply : AReply (List ℕ)). answer_of (request_of m.command.0) (reply ∷ [])) (sym h.reply)
    ∙ answer_of-spelled m.command.0 m.reply h.good h.can
    ∙ sym (spelled_by_head m.command.0 m.reply)

-- what was taken of a connection
pub taken_on : (number : ℕ) (made : List Made) → taken_of number (map taking_of made) ≡ map read_as (commands_on number made)
taken_on number [] = refl
taken_on number (m ∷ ms) =
    let again = taken_on number ms in
    (elim (m.connection == number) as (λ v. (if v then read_as m.command ∷ taken_of number (map taking_of ms) else taken_of number (map taking_of ms))
    ≡ map read_as (map (λ (x : Made). x.command) (if v then m ∷ made_on number ms else made_on number ms))) [
      | true ↦ ap (λ (ts : List Parsed). read_as m.command ∷ ts) again
      | false ↦ again
    ])

-- what was answered to a connection
pub told_on : (number : ℕ) (s : CacheState) (made : List Made) → AreMade s made
    → answers_to number s (map taking_of made) ≡ replies_text (commands_on number made) (replies_on number made)
told_on number s [] h = refl
told_on number s (m ∷ ms) h =
    let again = told_on number (step_of s m.command.0 m.moment m.refused).0 ms h.1 in
    let first = answer_made s m h.0 in
    ap (λ (c : CacheState). (if m.connection == number then answer_after s (taking_of m) else []) ++ answers_to number c (map taking_of ms)) (cache_made s m)
    ∙ ap (λ (bytes : List ℕ). (if m.connection == number then bytes else []) ++ answers_to number (step_of s m.command.0 m.moment m.refused).0 (map taking_of ms)) first
    ∙ (elim (m.connection == number) as (λ v. (if v then spelling_of (head_of m.command.0) m.reply else []) ++ answers_to number (step_of s m.command.0 m.moment m.refused).0 (map taking_of ms)
    ≡ replies_text (map (λ (x : Made). x.command) (if v then m ∷ made_on number ms else made_on number ms)) (map (λ (x : Made). x.reply) (if v then m ∷ made_on number ms else made_on number ms))) [
      | true ↦ ap (λ (bytes : List ℕ). spelling_of (head_of m.command.0) m.reply ++ bytes) again
      | false ↦ again
    ])

pub can_on : (number : ℕ) (s : CacheState) (made : List Made) → AreMade s made → CanHave (commands_on number made) (replies_on number made)
can_on number s [] h = tt
can_on number s (m ∷ ms) h =
    let again = can_on number (step_of s m.command.0 m.moment m.refused).0 ms h.1 in
    (elim (m.connection == number) as (λ v. CanHave (map (λ (x : Made). x.command) (if v then m ∷ made_on number ms else made_on number ms))
    (map (λ (x : Made). x.reply) (if v then m ∷ made_on number ms else made_on number ms))) [
      | true ↦ (can_by_head m.command.0 m.reply ∙ h.0.can, again)
      | false ↦ again
    ])

-- the cache after all that was made
abbrev pub cache_of : CacheState → List Made → CacheState
cache_of s [] = s
cache_of s (m ∷ ms) = cache_of (step_of s m.command.0 m.moment m.refused).0 ms

pub replayed_made : (s : CacheState) (made : List Made) → replayed s (map taking_of made) ≡ cache_of s made
replayed_made s [] = refl
replayed_made s (m ∷ ms) = ap (λ (c : CacheState). replayed c (map taking_of ms)) (cache_made s m) ∙ replayed_made (step_of s m.command.0 m.moment m.refused).0 ms

-- one more is made
pub made_push : (s : CacheState) (made : List Made) (m : Made) → AreMade s made → IsMade (cache_of s made) m → AreMade s (made ++ m ∷ [])
made_push s [] m h k = (k, tt)
made_push s (x ∷ xs) m h k = (h.0, made_push (step_of s x.command.0 x.moment x.refused).0 xs m h.1 k)
