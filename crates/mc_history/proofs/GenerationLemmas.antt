-- One generation: the server reads the commands that were sent, in order, and the bytes that come back spell its replies, in order.
use Rattle.std.proofs.Common.{◌≡◌, ◌∙◌, ℕ, zero, suc, true, List, [], ◌∷◌, ◌++◌, length, map, drop, refl, sym, ap, subst, append_assoc, append-nil, arith}
use Rattle.std.specs.List.{list_all}
use Rattle.std.proofs.lemmas.Bool.{and_parts}
use Rattle.std.proofs.lemmas.List.{append_cancel_left, map-append}
use Rattle.mc_request.specs.Atoms.{head_of}
use Rattle.mc_request.specs.Requests.{requests_of}
use Rattle.mc_request.specs.declared.parts.Atom.{Atom}
use Rattle.mc_request.specs.declared.parts.Parsed.{Parsed}
use Rattle.mc_request_reader.specs.Reader.{rest_of}
use Rattle.mc_reply.specs.CanHave.{can_have}
use Rattle.mc_reply.specs.Spelling.{spelling_of}
use Rattle.mc_reply.specs.declared.replies.Reply.{Reply as AReply}
use Rattle.mc_codec.specs.NextReply.{IsBegun}
use Rattle.mc_codec.proofs.HeadLemmas.{atom_begins, replies_apart}
use Rattle.mc_codec.specs.Spellings.{spelling_of_atom}
use Rattle.mc_codec.proofs.SpelledTextLemmas.{requests-spelled}
use Rattle.mc_link.specs.LinkState.{LinkState, Waiting}
use Rattle.mc_link.specs.Turns.{HasStrange}
use Rattle.mc_server.specs.ServerState.{ConnectionState}
use Rattle.mc_server.specs.Holds.{Holds}
use Rattle.mc_cache.specs.CacheState.{CacheState}
use Rattle.mc_account.specs.Lanes.{CanHave, Lane, as_waiting, replies_text, sent_on, spelled}
use Rattle.mc_account.specs.Orders.{Order, Tagged}
use Rattle.mc_account.proofs.LaneLemmas.{can-append, replies_text-append}
use Rattle.mc_history.specs.Generations.{BothEndsAgree, IsCarried, IsFront, is_good}
use Rattle.mc_history.specs.Made.{Made, commands_on, read_as, replies_on, taking_of}
use Rattle.mc_history.proofs.MadeLemmas.{can_on, taken_on, told_on}

-- spelled commands are read as they are, whatever follows
pub read_spelled : (commands : List Tagged) (more : List ℕ) → list_all is_good commands ≡ true
    → requests_of (spelled commands ++ more) ≡ map read_as commands ++ requests_of more
read_spelled [] more good = refl
read_spelled (c ∷ cs) more good =
    let parts = and_parts (is_good c) (list_all is_good cs) good in
    ap requests_of (append_assoc (spelling_of_atom c.0) (spelled cs) more)
    ∙ requests-spelled c.0 (spelled cs ++ more) parts.0
    ∙ ap (λ (ts : List Parsed). read_as c ∷ ts) (read_spelled cs more parts.1)

-- What a connection reads: if the bytes that arrived and those in flight spell these commands, and the first of these were taken,
-- it reads the others, and after them what follows.
pub reads_others : (opening : CacheState) (number : ℕ) (text going sent : List ℕ) (made : List Made) (connection : ConnectionState) (others : List Tagged)
    → Holds opening number text (map taking_of made) sent connection
    → text ++ going ≡ spelled (commands_on number made ++ others) → list_all is_good (commands_on number made ++ others) ≡ true
    → (more : List ℕ) → rest_of connection.reader (going ++ more) ≡ map read_as others ++ requests_of more
reads_others opening number text going sent made connection others holds put good more =
    append_cancel_left (map read_as (commands_on number made)) (rest_of connection.reader (going ++ more)) (map read_as others ++ requests_of more)
    (ap (λ (ts : List Parsed). ts ++ rest_of connection.reader (going ++ more)) (sym (taken_on number made))
    ∙ holds.rest (going ++ more)
    ∙ ap requests_of (sym (append_assoc text going more) ∙ ap (λ (bytes : List ℕ). bytes ++ more) put)
    ∙ read_spelled (commands_on number made ++ others) more good
    ∙ ap (λ (ts : List Parsed). ts ++ requests_of more) (map-append read_as (commands_on number made) others)
    ∙ append_assoc (map read_as (commands_on number made)) (map read_as others) (requests_of more))

-- before any byte has arrived a reply has only begun; so no reply is spelled by no byte
pub not_nothing : (head : Atom (Unit {0})) (reply : AReply (List ℕ)) → can_have head reply ≡ true → IsBegun head [] → spelling_of head reply ≡ [] → ⊥
not_nothing head reply can begun none =
    let both : spelling_of head reply ++ spelling_of head begun.reply ≡ spelling_of head begun.reply ++ [] =
    ap (λ (bytes : List ℕ). bytes ++ spelling_of head begun.reply) none ∙ sym (append-nil (spelling_of head begun.reply)) in
    let same = (replies_apart head reply begun.reply (spelling_of head begun.reply) [] can begun.can both).0 in
    let more : begun.more ≡ [] = begun.spelled ∙ ap (λ (r : AReply (List ℕ)). spelling_of head r) (sym same) ∙ none in
    let size : length begun.more ≡ 0 = ap (λ (bytes : List ℕ). length bytes) more in
    omega (arith, begun.missing, size)

-- if joined bytes are empty, their first part is
front_none : (xs ys : List ℕ) → xs ++ ys ≡ [] → xs ≡ []
front_none [] ys e = refl
front_none (x ∷ xs) ys e = absurd cc

pub told_front : (commands : List Tagged) (replies all : List (AReply (List ℕ))) (bytes : List ℕ) → list_all is_good commands ≡ true
    → CanHave commands replies → CanHave commands all → replies_text commands replies ++ bytes ≡ replies_text commands all → IsFront commands replies all bytes
told_front commands [] all bytes good can can_all same = record { later = all; all_is = refl; bytes_are = same; can = can_all }
told_front [] (r ∷ rs) all bytes good can can_all same = absurd can
told_front (c ∷ cs) (r ∷ rs) [] bytes good can can_all same =
    let parts = and_parts (is_good c) (list_all is_good cs) good in
    absurd (not_nothing (head_of c.0) r can.0 (atom_begins c.0 parts.0)
    (front_none (spelling_of (head_of c.0) r) (replies_text cs rs ++ bytes) (sym (append_assoc (spelling_of (head_of c.0) r) (replies_text cs rs) bytes) ∙ same)))
told_front (c ∷ cs) (r ∷ rs) (q ∷ qs) bytes good can can_all same =
    let parts = and_parts (is_good c) (list_all is_good cs) good in
    let one = replies_apart (head_of c.0) r q (replies_text cs rs ++ bytes) (replies_text cs qs) can.0 can_all.0
    (sym (append_assoc (spelling_of (head_of c.0) r) (replies_text cs rs) bytes) ∙ same) in
    let others = told_front cs rs qs bytes parts.1 can.1 can_all.1 one.1 in
    record {
      later = others.later;
      all_is = ap (λ (x : AReply (List ℕ)). x ∷ qs) (sym one.0) ∙ ap (λ (xs : List (AReply (List ℕ))). r ∷ xs) others.all_is;
      bytes_are = others.bytes_are;
      can = others.can;
    }

-- replies to some commands are no violation to the pending ones
pub not_strange : (commands : List Tagged) (later : List (AReply (List ℕ))) (unread after : List ℕ) → list_all is_good commands ≡ true
    → CanHave commands later → unread ++ after ≡ replies_text commands later → HasStrange (as_waiting commands) unread → ⊥
not_strange [] [] unread after good can is strange =
    let size : length unread ≡ 0 = ap (λ (bytes : List ℕ). length bytes) (front_none unread after is) in
    omega (arith, strange, size)
not_strange [] (r ∷ rs) unread after good can is strange = absurd can
not_strange (c ∷ cs) [] unread after good can is strange =
    let parts = and_parts (is_good c) (list_all is_good cs) good in
    let begun = atom_begins c.0 parts.0 in
    strange begun.reply begun.more [] begun.can
    (ap (λ (bytes : List ℕ). bytes ++ begun.more) (front_none unread after is) ∙ begun.spelled ∙ sym (append-nil (spelling_of (head_of c.0) begun.reply)))
not_strange (c ∷ cs) (r ∷ rs) unread after good can is strange = strange r after (replies_text cs rs) can.0 is

-- if commands are good, so are the later ones
good_after : (count : ℕ) (commands : List Tagged) → list_all is_good commands ≡ true → list_all is_good (drop count commands) ≡ true
good_after zero commands good = good
good_after (suc count) [] good = refl
good_after (suc count) (c ∷ cs) good = good_after count cs (and_parts (is_good c) (list_all is_good cs) good).1

-- the main lemma: what a living generation carries
pub carried : (place : ℕ) (order : Order) (lane : Lane) (link : LinkState) (opening : CacheState) (made : List Made) (number : ℕ) (connection : ConnectionState) (others : List Tagged)
    → BothEndsAgree place order lane link opening made number connection others → IsCarried place order lane link made number connection others
carried place order lane link opening made number connection others h =
    let commands : List Tagged = sent_on place order lane in
    let can : CanHave (sent_on place order lane) (replies_on number made) =
    subst (λ (cs : List Tagged). CanHave cs (replies_on number made)) (sym h.commands)
    (can-append (commands_on number made) others (replies_on number made) (can_on number opening made h.made)) in
    let back : replies_text (sent_on place order lane) lane.replies ++ (link.unread ++ connection.output) ≡ replies_text (sent_on place order lane)
    (replies_on number made) =
    sym (append_assoc (replies_text (sent_on place order lane) lane.replies) link.unread connection.output)
    ∙ ap (λ (bytes : List ℕ). bytes ++ connection.output) (sym h.lane.came)
    ∙ h.connection.answered
    ∙ told_on number opening made h.made
    ∙ sym (replies_text-append (commands_on number made) others (replies_on number made) (can_on number opening made h.made))
    ∙ ap (λ (cs : List Tagged). replies_text cs (replies_on number made)) (sym h.commands) in
    let front = told_front (sent_on place order lane) lane.replies (replies_on number made) (link.unread ++ connection.output) h.good h.lane.can can back in
    record {
      reads = reads_others opening number lane.out link.output lane.came made connection others h.connection
          (h.lane.put ∙ ap (λ (cs : List Tagged). spelled cs) h.commands)
          (ap (λ (cs : List Tagged). list_all is_good cs) (sym h.commands) ∙ h.good);
      front = front;
      never_strange = λ strange. not_strange (drop (length lane.replies) (sent_on place order lane)) front.later link.unread connection.output
          (good_after (length lane.replies) (sent_on place order lane) h.good) front.can front.bytes_are
          (subst (λ (ws : List Waiting). HasStrange ws link.unread) h.lane.waiting strange);
    }
