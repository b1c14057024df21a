-- A retrieval command, key by key.
use Rattle.std.proofs.Common.{◌≡◌, ◌∙◌, ℕ, ℤ, Bool, true, false, ◌&&◌, List, [], ◌∷◌, ◌++◌, map, length, codes, Option, Some, None, refl, sym, ap, append_assoc}
use Rattle.std.specs.Borrow.{Bor}
use Rattle.std.specs.List.{list_all}
use Rattle.mc_text.specs.Keys.{is_plain_key}
use Rattle.std.proofs.lemmas.List.{append-nil}
use Rattle.mc_request.specs.Atoms.{gets_of}
use Rattle.mc_request.specs.declared.parts.Atom.TheVariants as atoms
use Rattle.mc_request.specs.declared.parts.Request.TheVariants.{Get}
use Rattle.mc_request.specs.declared.parts.Parsed.TheVariants.{Whole}
use Rattle.mc_reply.specs.declared.replies.Reply.{Reply}
use Rattle.mc_reply.specs.declared.replies.Reply.TheVariants.{Stored, NotStored, Exists, NotFound, Deleted, Touched, Flushed, Number, Miss, Hit, Meta, Fault}
use Rattle.mc_reply.specs.Replies.{filled}
use Rattle.mc_reply.specs.Seen.{bytes_seen}
use Rattle.mc_reply.specs.Spelling.{head_line, key_part, blocks_of, end_line}
use Rattle.mc_reply.proofs.SpellingLemmas.{key_part-hit}
use Rattle.mc_cache.specs.CacheState.{CacheState}
use Rattle.mc_cache.specs.Replay.{Command, replay, replies, AreAllowed}
use Rattle.mc_cache.specs.Step.{step_of, StepResult}
use Rattle.mc_server.specs.Served.{IsServed, Serves}
use Rattle.mc_server.proofs.RefusalLemmas.{gets_tell_none}

-- the bytes of a reply that is filled with a borrowed value
pub bytes_seen-filled : {V : Type 0} (reply : Reply V) (value : Bor (List ℕ)) → bytes_seen (filled reply value) ≡ filled reply value.now
bytes_seen-filled Stored value = refl
bytes_seen-filled NotStored value = refl
bytes_seen-filled Exists value = refl
bytes_seen-filled NotFound value = refl
bytes_seen-filled Deleted value = refl
bytes_seen-filled Touched value = refl
bytes_seen-filled Flushed value = refl
bytes_seen-filled (Number number) value = refl
bytes_seen-filled Miss value = refl
bytes_seen-filled (Hit flags cas none) value = refl
bytes_seen-filled (Meta shown None) value = refl
bytes_seen-filled (Meta shown (Some none)) value = refl
bytes_seen-filled (Fault fault) value = refl

-- the commands of some keys at a moment, none of which was refused memory
abbrev pub gets : Option ℤ → Bool → ℕ → List (List ℕ) → List Command
gets exptime with_cas moment keys = map (λ atom. record { atom = atom; moment = moment; refused = false }) (gets_of exptime with_cas keys)

-- such commands are legal
pub gets_are_legal : (s : CacheState) (exptime : Option ℤ) (with_cas : Bool) (moment : ℕ) (keys : List (List ℕ))
    → AreAllowed s (gets exptime with_cas moment keys)
gets_are_legal s exptime with_cas moment [] = tt
gets_are_legal s exptime with_cas moment (key ∷ keys) =
    (λ refused. absurd cc, gets_are_legal (step_of s (atoms.Get key exptime with_cas) moment false).0 exptime with_cas moment keys)

both_of : (a b : Bool) → (a && b) ≡ true → (a ≡ true) × (b ≡ true)
both_of true b e = (refl, e)
both_of false b e = absurd cc

-- a good key and the good keys after it
pub good_keys : (all left : List (List ℕ)) (key : List ℕ) → all ≡ key ∷ left → list_all is_plain_key all ≡ true → (is_plain_key key ≡ true) × (list_all is_plain_key left ≡ true)
good_keys all left key all_is good = both_of (is_plain_key key) (list_all is_plain_key left) (rw all_is at good)

-- the keys but those that are left are served: what those do and add is all that is missing
pub record IsServing (keys left : List (List ℕ)) (exptime : Option ℤ) (with_cas : Bool) (moment : ℕ) (s now : CacheState) (before output : List ℕ) : Type 0 where
  pub cache : replay now (gets exptime with_cas moment left) ≡ replay s (gets exptime with_cas moment keys)
  pub answered : output ++ blocks_of left (replies now (gets exptime with_cas moment left))
      ≡ before ++ blocks_of keys (replies s (gets exptime with_cas moment keys))

pub serving_none : (keys : List (List ℕ)) (exptime : Option ℤ) (with_cas : Bool) (moment : ℕ) (s : CacheState) (before : List ℕ)
    → IsServing keys keys exptime with_cas moment s s before before
serving_none keys exptime with_cas moment s before = record { cache = refl; answered = refl }

-- one key more
pub serving_more : (keys left : List (List ℕ)) (key : List ℕ) (exptime : Option ℤ) (with_cas : Bool) (moment : ℕ) (s now next : CacheState) (before output longer : List ℕ)
    → next ≡ (step_of now (atoms.Get key exptime with_cas) moment false).0
    → longer ≡ output ++ key_part key (step_of now (atoms.Get key exptime with_cas) moment false).1
    → IsServing keys (key ∷ left) exptime with_cas moment s now before output
    → IsServing keys left exptime with_cas moment s next before longer
serving_more keys left key exptime with_cas moment s now next before output longer next_is longer_is h =
    let part = key_part key (step_of now (atoms.Get key exptime with_cas) moment false).1 in
    let after = blocks_of left (replies (step_of now (atoms.Get key exptime with_cas) moment false).0 (gets exptime with_cas moment left)) in
    record {
      cache = rw next_is h.cache;
      answered = rw (next_is, longer_is) (append_assoc output part after ∙ h.answered);
    }

-- all keys are served, and the end is written
pub serving_all : (number : ℕ) (keys : List (List ℕ)) (exptime : Option ℤ) (with_cas : Bool) (moment : ℕ) (s now : CacheState) (before output whole : List ℕ)
    → IsServing keys [] exptime with_cas moment s now before output → whole ≡ output ++ end_line
    → Serves s now (record { connection = number; what = Whole (Get keys exptime with_cas); moment = moment; refused = false }) before whole
serving_all number keys exptime with_cas moment s now before output whole h whole_is =
    let all = replies s (gets exptime with_cas moment keys) in
    let served : output ≡ before ++ blocks_of keys all = sym (append-nil output) ∙ h.answered in
    record {
      legal = (gets_are_legal s exptime with_cas moment keys, sym (gets_tell_none s exptime with_cas moment false keys));
      cache = h.cache;
      answered = whole_is ∙ ap (λ (bytes : List ℕ). bytes ++ end_line) served ∙ append_assoc before (blocks_of keys all) end_line;
    }

-- the one key of a retrieval is served
pub lone_served : (number : ℕ) (key : List ℕ) (with_cas : Bool) (moment : ℕ) (s t : CacheState) (reply : Reply (List ℕ)) (before whole : List ℕ)
    → step_of s (atoms.Get key None with_cas) moment false ≡ (t, reply) → whole ≡ before ++ (key_part key reply ++ end_line)
    → IsServed number s (Whole (Get (key ∷ []) None with_cas)) moment t before whole
lone_served number key with_cas moment s t reply before whole step whole_is =
    let part : List ℕ = key_part key (step_of s (atoms.Get key None with_cas) moment false).1 in
    let made : t ≡ (step_of s (atoms.Get key None with_cas) moment false).0 = sym (ap (λ (o : StepResult). o.0) step) in
    let told : reply ≡ (step_of s (atoms.Get key None with_cas) moment false).1 = sym (ap (λ (o : StepResult). o.1) step) in
    let all : IsServing (key ∷ []) [] None with_cas moment s t before (before ++ part) =
    serving_more (key ∷ []) [] key None with_cas moment s s t before before (before ++ part) made refl (serving_none (key ∷ []) None with_cas moment s before) in
    let ends : whole ≡ (before ++ part) ++ end_line =
    whole_is ∙ ap (λ (r : Reply (List ℕ)). before ++ (key_part key r ++ end_line)) told ∙ sym (append_assoc before part end_line) in
    (false, serving_all number (key ∷ []) None with_cas moment s t before (before ++ part) whole all ends)

-- a line, a value and two texts behind it, in order
in_order : (before head value next last : List ℕ) → (before ++ head) ++ (value ++ (next ++ last)) ≡ before ++ ((head ++ (value ++ next)) ++ last)
in_order before head value next last =
    append_assoc before head (value ++ (next ++ last))
    ∙ ap (λ (bytes : List ℕ). before ++ bytes) (sym (append_assoc head (value ++ next) last ∙ ap (λ (bytes : List ℕ). head ++ bytes) (append_assoc value next last)))

-- it is found: its line was written, and its value and the end follow
pub lone_hit : (number : ℕ) (key : List ℕ) (with_cas : Bool) (moment : ℕ) (s t : CacheState) (flags : ℕ) (cas : Option ℕ) (value before output : List ℕ)
    → step_of s (atoms.Get key None with_cas) moment false ≡ (t, Hit flags cas value) → output ≡ before ++ head_line key flags (length value) cas
    → IsServed number s (Whole (Get (key ∷ []) None with_cas)) moment t before (output ++ (value ++ codes "\r\nEND\r\n"))
lone_hit number key with_cas moment s t flags cas value before output step output_is =
    lone_served number key with_cas moment s t (Hit flags cas value) before (output ++ (value ++ codes "\r\nEND\r\n")) step
    (ap (λ (bytes : List ℕ). bytes ++ (value ++ codes "\r\nEND\r\n")) output_is
    ∙ in_order before (head_line key flags (length value) cas) value (codes "\r\n") end_line
    ∙ ap (λ (bytes : List ℕ). before ++ (bytes ++ end_line)) (sym (key_part-hit key flags cas value)))

-- what the code's reply shows of the value that it was filled with
pub filled_is_seen : {V : Type 0} (reply : Reply V) (value : Bor (List ℕ)) (held : List ℕ) (whole : Reply (Bor (List ℕ)))
    → whole ≡ filled reply value → value.now ≡ held → bytes_seen whole ≡ filled reply held
filled_is_seen reply value held whole whole_is held_is =
    ap bytes_seen whole_is ∙ bytes_seen-filled reply value ∙ ap (λ (bytes : List ℕ). filled reply bytes) held_is
