-- Of the replies that a command can have, only the refusal for lack of memory is spelled as its line.
use Rattle.std.proofs.Common.{◌≡◌, ◌∙◌, ℕ, true, false, ◌||◌, List, [], ◌∷◌, ◌++◌, map, refl, sym, ap}
use Rattle.std.specs.Prelude.{◌==◌, Some, None, slice_index_or}
use Rattle.mc_request.specs.Atoms.{head_of}
use Rattle.mc_request.specs.Faults.{fault_line}
use Rattle.mc_request.specs.declared.faults.Fault.TheVariants.{UnknownCommand, BadFormat, BadDelta, InvalidFlag, BadToken, BadDataChunk, LineTooLong, NonNumeric, TooLarge, CasUsedUp, OutOfMemory}
use Rattle.mc_request.specs.declared.meta.MetaCommand.TheVariants as metas
use Rattle.mc_request.specs.declared.parts.Atom.{Atom}
use Rattle.mc_request.specs.declared.parts.Atom.TheVariants as atoms
use Rattle.mc_request.specs.declared.parts.Parsed.{Parsed}
use Rattle.mc_request.specs.declared.parts.Parsed.TheVariants.{Whole}
use Rattle.mc_request.specs.declared.parts.Update.TheVariants.{Store, Touch, Delete, Count, FlushAll}
use Rattle.mc_reply.specs.CanHave.{can_have}
use Rattle.mc_reply.specs.MetaSpelling.{meta_spelling}
use Rattle.mc_reply.specs.Spelling.{answer, end_line, key_onto, reply_line, spelling_of}
use Rattle.mc_reply.specs.declared.replies.Reply.{Reply as AReply}
use Rattle.mc_reply.specs.declared.replies.Reply.TheVariants.{Stored, NotStored, Exists, NotFound, Deleted, Touched, Flushed, Number, Miss, Hit, Meta, Fault}
use Rattle.mc_codec.proofs.HeadLemmas.{replies_apart}
use Rattle.mc_codec.specs.Spellings.{is_good_atom, request_of}
use Rattle.mc_codec.proofs.CanonicalLemmas.{answer_of-spelled}
use Rattle.mc_codec.proofs.SpelledTextLemmas.{one_atom}
use Rattle.mc_cache.specs.CacheState.{CacheState}
use Rattle.mc_cache.specs.Refusals.{is_refusal}
use Rattle.mc_cache.specs.Replay.{Command, replies}
use Rattle.mc_cache.specs.Step.{step_of}
use Rattle.mc_server.specs.Served.{IsLegalAt, ServedRequest, answer_after, commands_of, tells_refusal}
use Rattle.mc_account.proofs.OpenSessions.{own_number}

-- texts that differ at a place
apart_at : {xs ys : List ℕ} (place : ℕ) → xs ≡ ys → (slice_index_or xs place 0 == slice_index_or ys place 0) ≡ false → ⊥
apart_at {xs = xs} {ys = ys} place e differ =
    let same : (slice_index_or xs place 0 == slice_index_or ys place 0) ≡ true =
    ap (λ (bytes : List ℕ). slice_index_or xs place 0 == slice_index_or bytes place 0) (sym e) ∙ own_number (slice_index_or xs place 0) in
    let clash : false ≡ true = sym differ ∙ same in
    absurd cc

-- a number that a command can have is not that line
number_not : (atom : Atom (List ℕ)) (n : ℕ) → can_have atom (Number n) ≡ true → spelling_of atom (Number n) ≡ fault_line OutOfMemory → ⊥
number_not (atoms.Get key exptime with_cas) n can e = absurd cc
number_not (atoms.Update (Store mode compare key flags exptime block)) n can e = absurd cc
number_not (atoms.Update (Touch key exptime)) n can e = absurd cc
number_not (atoms.Update (Delete key compare invalidate)) n can e = absurd cc
number_not (atoms.Update (Count key counting)) n can e =
    let same : Number n ≡ Fault OutOfMemory = (replies_apart (head_of {B = List ℕ} (atoms.Update (Count key counting))) (Number n) (Fault OutOfMemory) [] [] can refl (ap (λ (bytes : List ℕ). bytes ++ []) e)).0 in
    absurd cc
number_not (atoms.Update (FlushAll delay)) n can e = absurd cc
number_not (atoms.Meta (metas.Get key get)) n can e = absurd cc
number_not (atoms.Meta (metas.Update (Store mode compare key flags exptime block) show)) n can e = absurd cc
number_not (atoms.Meta (metas.Update (Touch key exptime) show)) n can e = absurd cc
number_not (atoms.Meta (metas.Update (Delete key compare invalidate) show)) n can e = absurd cc
number_not (atoms.Meta (metas.Update (Count key counting) show)) n can e = absurd cc
number_not (atoms.Meta (metas.Update (FlushAll delay) show)) n can e = absurd cc

-- no other error has that line
fault_refused : (fault : _) → fault_line fault ≡ fault_line OutOfMemory → is_refusal {V = List ℕ} (Fault fault) ≡ true
fault_refused UnknownCommand e = absurd (apart_at 0 e refl)
fault_refused BadFormat e = absurd (apart_at 0 e refl)
fault_refused BadDelta e = absurd (apart_at 0 e refl)
fault_refused InvalidFlag e = absurd (apart_at 0 e refl)
fault_refused BadToken e = absurd (apart_at 0 e refl)
fault_refused BadDataChunk e = absurd (apart_at 0 e refl)
fault_refused LineTooLong e = absurd (apart_at 0 e refl)
fault_refused NonNumeric e = absurd (apart_at 0 e refl)
fault_refused TooLarge e = absurd (apart_at 14 e refl)
fault_refused CasUsedUp e = absurd (apart_at 13 e refl)
fault_refused OutOfMemory e = refl

-- no other reply has it, to a retrieval of a key, to a meta command, or to an update, except perhaps a number
get_refused : (key : List ℕ) (reply : AReply (List ℕ)) → key_onto key reply end_line ≡ fault_line OutOfMemory → is_refusal reply ≡ true
get_refused key Stored e = absurd (apart_at 0 e refl)
get_refused key NotStored e = absurd (apart_at 0 e refl)
get_refused key Exists e = absurd (apart_at 0 e refl)
get_refused key NotFound e = absurd (apart_at 0 e refl)
get_refused key Deleted e = absurd (apart_at 0 e refl)
get_refused key Touched e = absurd (apart_at 0 e refl)
get_refused key Flushed e = absurd (apart_at 0 e refl)
get_refused key (Number n) e = absurd (apart_at 0 e refl)
get_refused key Miss e = absurd (apart_at 0 e refl)
get_refused key (Hit flags cas value) e = absurd (apart_at 0 e refl)
get_refused key (Meta shown value) e = absurd (apart_at 0 e refl)
get_refused key (Fault fault) e = absurd (apart_at 0 e refl)

meta_refused : (reply : AReply (List ℕ)) → meta_spelling reply ≡ fault_line OutOfMemory → is_refusal reply ≡ true
meta_refused Stored e = absurd (apart_at 0 e refl)
meta_refused NotStored e = absurd (apart_at 0 e refl)
meta_refused Exists e = absurd (apart_at 0 e refl)
meta_refused NotFound e = absurd (apart_at 0 e refl)
meta_refused Deleted e = absurd (apart_at 0 e refl)
meta_refused Touched e = absurd (apart_at 0 e refl)
meta_refused Flushed e = absurd (apart_at 0 e refl)
meta_refused (Number n) e = absurd (apart_at 0 e refl)
meta_refused Miss e = absurd (apart_at 0 e refl)
meta_refused (Hit flags cas value) e = absurd (apart_at 0 e refl)
meta_refused (Meta shown None) e = absurd (apart_at 0 e refl)
meta_refused (Meta shown (Some value)) e = absurd (apart_at 0 e refl)
meta_refused (Fault fault) e = fault_refused fault e

line_refused : (reply : AReply (List ℕ)) → ((n : ℕ) → reply ≡ Number n → ⊥) → reply_line reply ≡ fault_line OutOfMemory → is_refusal reply ≡ true
line_refused Stored other e = absurd (apart_at 1 e refl)
line_refused NotStored other e = absurd (apart_at 0 e refl)
line_refused Exists other e = absurd (apart_at 0 e refl)
line_refused NotFound other e = absurd (apart_at 0 e refl)
line_refused Deleted other e = absurd (apart_at 0 e refl)
line_refused Touched other e = absurd (apart_at 0 e refl)
line_refused Flushed other e = absurd (apart_at 0 e refl)
line_refused (Number n) other e = absurd (other n refl)
line_refused Miss other e = absurd (apart_at 0 e refl)
line_refused (Hit flags cas value) other e = absurd (apart_at 0 e refl)
line_refused (Meta shown value) other e = absurd (apart_at 0 e refl)
line_refused (Fault fault) other e = fault_refused fault e

pub refusal_spelled : (atom : Atom (List ℕ)) (reply : AReply (List ℕ)) → can_have atom reply ≡ true → spelling_of atom reply ≡ fault_line OutOfMemory → is_refusal reply ≡ true
refusal_spelled (atoms.Get key exptime with_cas) reply can e = get_refused key reply e
refusal_spelled (atoms.Update update) reply can e =
    line_refused reply (λ n is. number_not (atoms.Update update) n (ap (λ (r : AReply (List ℕ)). can_have (atoms.Update update) r) (sym is) ∙ can)
    (ap (λ (r : AReply (List ℕ)). spelling_of (atoms.Update update) r) (sym is) ∙ e)) e
refusal_spelled (atoms.Meta command) reply can e = meta_refused reply e

-- the refusal is spelled so, if a command can have it
fault_is : (fault : _) → is_refusal {V = List ℕ} (Fault fault) ≡ true → fault_line fault ≡ fault_line OutOfMemory
fault_is UnknownCommand is = absurd cc
fault_is BadFormat is = absurd cc
fault_is BadDelta is = absurd cc
fault_is InvalidFlag is = absurd cc
fault_is BadToken is = absurd cc
fault_is BadDataChunk is = absurd cc
fault_is LineTooLong is = absurd cc
fault_is NonNumeric is = absurd cc
fault_is TooLarge is = absurd cc
fault_is CasUsedUp is = absurd cc
fault_is OutOfMemory is = refl

of_fault : (atom : Atom (List ℕ)) (fault : _) → can_have atom (Fault fault) ≡ true → spelling_of atom (Fault fault) ≡ fault_line fault
of_fault (atoms.Get key exptime with_cas) fault can = absurd cc
of_fault (atoms.Update update) fault can = refl
of_fault (atoms.Meta command) fault can = refl

pub spelled_refusal : (atom : Atom (List ℕ)) (reply : AReply (List ℕ)) → can_have atom reply ≡ true → is_refusal reply ≡ true → spelling_of atom reply ≡ fault_line OutOfMemory
spelled_refusal atom Stored can is = absurd cc
spelled_refusal atom NotStored can is = absurd cc
spelled_refusal atom Exists can is = absurd cc
spelled_refusal atom NotFound can is = absurd cc
spelled_refusal atom Deleted can is = absurd cc
spelled_refusal atom Touched can is = absurd cc
spelled_refusal atom Flushed can is = absurd cc
spelled_refusal atom (Number n) can is = absurd cc
spelled_refusal atom Miss can is = absurd cc
spelled_refusal atom (Hit flags cas value) can is = absurd cc
spelled_refusal atom (Meta shown value) can is = absurd cc
spelled_refusal atom (Fault fault) can is = of_fault atom fault can ∙ fault_is fault is

-- whether one reply is the refusal
pub one_tells : (reply : AReply (List ℕ)) → tells_refusal (reply ∷ []) ≡ is_refusal reply
one_tells reply = elim (is_refusal reply) as (λ v. (v || false) ≡ v) [
  | true ↦ refl
  | false ↦ refl
]

-- the command of an entry that was spelled to the server, as its cache has it
abbrev pub command_by : ServedRequest → Atom (List ℕ) → Command
command_by e atom = record { atom = atom; moment = e.moment; refused = e.refused }

one_command : (e : ServedRequest) (atom : Atom (List ℕ)) → e.what ≡ Whole (request_of atom) → commands_of e ≡ command_by e atom ∷ []
one_command e atom is =
    ap (λ (what : Parsed). commands_of (record e { what = what })) is
    ∙ ap (λ (ones : List (Atom (List ℕ))). map (command_by e) ones) (one_atom atom)

-- the answer to such an entry, and its refusal
entry_answer : (s : CacheState) (e : ServedRequest) (atom : Atom (List ℕ)) → e.what ≡ Whole (request_of atom) → is_good_atom atom ≡ true
    → can_have atom (step_of s atom e.moment e.refused).1 ≡ true → answer_after s e ≡ spelling_of atom (step_of s atom e.moment e.refused).1
entry_answer s e atom is good can =
    ap (λ (cs : List Command). answer e.what (replies s cs)) (one_command e atom is)
    ∙ ap (λ (what : Parsed). answer what ((step_of s atom e.moment e.refused).1 ∷ [])) is
    ∙ answer_of-spelled atom (step_of s atom e.moment e.refused).1 good can

pub entry_refused : (s : CacheState) (e : ServedRequest) (atom : Atom (List ℕ)) → e.what ≡ Whole (request_of atom) → IsLegalAt s e
    → e.refused ≡ is_refusal (step_of s atom e.moment e.refused).1
entry_refused s e atom is legal =
    legal.1 ∙ ap (λ (cs : List Command). tells_refusal (replies s cs)) (one_command e atom is) ∙ one_tells (step_of s atom e.moment e.refused).1

-- the answer says whether memory was refused
pub told_by_line : (s : CacheState) (e : ServedRequest) (atom : Atom (List ℕ)) → e.what ≡ Whole (request_of atom) → is_good_atom atom ≡ true
    → can_have atom (step_of s atom e.moment e.refused).1 ≡ true → IsLegalAt s e → answer_after s e ≡ fault_line OutOfMemory → e.refused ≡ true
told_by_line s e atom is good can legal line =
    entry_refused s e atom is legal
    ∙ refusal_spelled atom (step_of s atom e.moment e.refused).1 can (sym (entry_answer s e atom is good can) ∙ line)

pub line_of_told : (s : CacheState) (e : ServedRequest) (atom : Atom (List ℕ)) → e.what ≡ Whole (request_of atom) → is_good_atom atom ≡ true
    → can_have atom (step_of s atom e.moment e.refused).1 ≡ true → IsLegalAt s e → e.refused ≡ true → answer_after s e ≡ fault_line OutOfMemory
line_of_told s e atom is good can legal refused =
    entry_answer s e atom is good can
    ∙ spelled_refusal atom (step_of s atom e.moment e.refused).1 can (sym (entry_refused s e atom is legal) ∙ refused)
