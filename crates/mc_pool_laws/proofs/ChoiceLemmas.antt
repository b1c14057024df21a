-- What an answer shows by the choice for lost commands.
use Rattle.std.proofs.Common.{◌≡◌, ◌≢◌, ◌∙◌, ℕ, ℤ, suc, ◌⊎◌, inl, inr, Bool, true, false, if◌then◌else◌, List, [], ◌∷◌, ◌++◌, Option, codes, refl, sym, ap, subst}
use Rattle.std.proofs.lemmas.Bool.{true≢false}
use Rattle.mc_request.specs.Hides.{hides_of}
use Rattle.mc_request.specs.declared.meta.MetaCommand.TheVariants as metas
use Rattle.mc_request.specs.declared.meta.MetaForm.{MetaForm}
use Rattle.mc_request.specs.declared.meta.MetaGet.{MetaGet}
use Rattle.mc_request.specs.declared.parts.Atom.TheVariants as atoms
use Rattle.mc_request.specs.declared.parts.Request.{Request}
use Rattle.mc_request.specs.declared.parts.Request.TheVariants.{Get, Meta}
use Rattle.mc_request.specs.declared.parts.Parsed.{Parsed}
use Rattle.mc_request.specs.declared.parts.Parsed.TheVariants.{Whole}
use Rattle.mc_reply.specs.MetaSpelling.{meta_spelling}
use Rattle.mc_reply.specs.Spelling.{answer_of, end_line}
use Rattle.mc_reply.specs.declared.replies.Reply.{Reply as AReply}
use Rattle.mc_reply.specs.declared.replies.Reply.TheVariants.{Hit}
use Rattle.mc_ring.specs.Rings.{RingState}
use Rattle.mc_route.specs.Joins.{has_lost, lost_line, outcome_part, replies_in}
use Rattle.mc_route.specs.Losses.{blocks_by, hides_any, is_retrieval, joined_with}
use Rattle.mc_route.specs.Routes.{owner_in, route_of_taken, to_owner}
use Rattle.mc_route.specs.declared.losses.Losses.{Losses}
use Rattle.mc_route.specs.declared.losses.Losses.TheVariants.{Missed, Told}
use Rattle.mc_route.specs.declared.outcomes.Outcome.{Outcome}
use Rattle.mc_route.specs.declared.outcomes.Outcome.TheVariants.{Awaited, Lost, Reply}
use Rattle.mc_route.specs.declared.routes.Routed.{Routed}
use Rattle.mc_route.proofs.LossLemmas.{joined-items, joined-meta_lost, joined-unlost}
use Rattle.mc_link.specs.declared.turns.Tag.{Tag}
use Rattle.mc_proxy.specs.Emits.{answer_by}
use Rattle.mc_proxy.specs.Sending.{tag_of}
use Rattle.mc_history.specs.declared.entries.Entry.{Entry}
use Rattle.mc_history.specs.Histories.{HasReply}
use Rattle.mc_world.specs.Accounts.{WasNeverSentOrLost}
use Rattle.mc_world.specs.Homes.{Homes}
use Rattle.mc_world.specs.Logs.{Log}
use Rattle.mc_pool_laws.specs.Choices.{HaveReplies, ShowReplies, ShowsReply}
use Rattle.mc_pool_laws.specs.Outcomes.{HaveOutcomesBy, IsAnswerTo, HasOutcomeBy}

-- what is shown for a key
shown_part : (home : Homes) (histories : ℕ → List Entry) (log : Log) (tag : Tag) (command : Routed) (key : List ℕ) (outcome : Outcome) → HasOutcomeBy home histories log tag command outcome
    → (outcome_part key outcome ≡ []) ⊎ ShowsReply histories tag command key (outcome_part key outcome)
shown_part home histories log tag command key (Reply (Hit flags cas value)) told = inr (record { flags = flags; cas = cas; value = value; shown = refl; replied = told })
shown_part home histories log tag command key (Reply other) told = inl refl
shown_part home histories log tag command key Lost told = inl refl
shown_part home histories log tag command key Awaited told = inl refl

shown_blocks : (home : Homes) (histories : ℕ → List Entry) (log : Log) (client request at : ℕ) (commands : List Routed) (outcomes : List Outcome) (keys : List (List ℕ))
    → HaveOutcomesBy home histories log client request at commands outcomes → ShowReplies histories client request at commands keys (blocks_by keys outcomes)
shown_blocks home histories log client request at [] [] [] told = refl
shown_blocks home histories log client request at [] [] (key ∷ keys) told = refl
shown_blocks home histories log client request at [] (o ∷ os) keys told = absurd told
shown_blocks home histories log client request at (c ∷ cs) [] keys told = absurd told
shown_blocks home histories log client request at (c ∷ cs) (o ∷ os) [] told = refl
shown_blocks home histories log client request at (c ∷ cs) (o ∷ os) (key ∷ keys) told = (
  outcome_part key o,
  blocks_by keys os,
  refl,
  shown_part home histories log (tag_of client request at) c key o told.0,
  shown_blocks home histories log client request (suc at) cs os keys told.1,
)

abbrev Shows : (ℕ → List Entry) → ℕ → ℕ → List Routed → List (List ℕ) → List ℕ → Type 0
Shows histories client request commands keys answer =
    (shown : List ℕ) × (answer ≡ shown ++ end_line) × ShowReplies histories client request 0 commands keys shown

-- the bytes of an answer to a whole request
bytes_of : (home : Homes) (losses : Losses) (ring : RingState) (texts : ℕ → List ℕ) (histories : ℕ → List Entry) (log : Log) (client request : ℕ) (answer : List ℕ)
    → (h : IsAnswerTo home losses ring texts histories log client request answer) → (what : Request) → h.what ≡ Whole what → answer ≡ joined_with losses what h.outcomes
bytes_of home losses ring texts histories log client request answer h what is = h.bytes ∙ ap (λ (t : Parsed). answer_by losses t h.outcomes) is

pub shown_missed : (home : Homes) (ring : RingState) (texts : ℕ → List ℕ) (histories : ℕ → List Entry) (log : Log) (client request : ℕ) (answer : List ℕ)
    → (h : IsAnswerTo home Missed ring texts histories log client request answer) → (keys : List (List ℕ)) (exptime : Option ℤ) (with_cas : Bool) → h.what ≡ Whole (Get keys exptime with_cas)
    → Shows histories client request (route_of_taken h.ring h.what) keys answer
shown_missed home ring texts histories log client request answer h keys exptime with_cas is = (
  blocks_by keys h.outcomes,
  bytes_of home Missed ring texts histories log client request answer h (Get keys exptime with_cas) is ∙ joined-items keys exptime with_cas h.outcomes,
  shown_blocks home histories log client request 0 (route_of_taken h.ring h.what) h.outcomes keys h.told,
)

-- if no command was lost, the choice plays no part
same_unlost : (what : Request) (outcomes : List Outcome) → has_lost outcomes ≡ false → joined_with Told what outcomes ≡ joined_with Missed what outcomes
same_unlost what outcomes none = joined-unlost Told what outcomes none ∙ sym (joined-unlost Missed what outcomes none)

-- otherwise, with `Told`, the answer is the line of a lost link
told_line : (what : Request) (outcomes : List Outcome) → has_lost outcomes ≡ true → joined_with Told what outcomes ≡ lost_line
told_line what outcomes lost = rw lost refl

told_unlost : (what : Request) (outcomes : List Outcome) (answer : List ℕ) → answer ≡ joined_with Told what outcomes → answer ≢ lost_line → has_lost outcomes ≡ false
told_unlost what outcomes answer is differ =
    (elim (has_lost outcomes) as (λ v. has_lost outcomes ≡ v → has_lost outcomes ≡ false) [
      | true ↦ λ lost. absurd (differ (is ∙ told_line what outcomes lost))
      | false ↦ λ none. none
    ]) refl

pub shown_told : (home : Homes) (ring : RingState) (texts : ℕ → List ℕ) (histories : ℕ → List Entry) (log : Log) (client request : ℕ) (answer : List ℕ)
    → (h : IsAnswerTo home Told ring texts histories log client request answer) → (keys : List (List ℕ)) (exptime : Option ℤ) (with_cas : Bool) → h.what ≡ Whole (Get keys exptime with_cas)
    → answer ≢ lost_line → Shows histories client request (route_of_taken h.ring h.what) keys answer
shown_told home ring texts histories log client request answer h keys exptime with_cas is differ =
    let bytes = bytes_of home Told ring texts histories log client request answer h (Get keys exptime with_cas) is in
    let none = told_unlost (Get keys exptime with_cas) h.outcomes answer bytes differ in (
      blocks_by keys h.outcomes,
      bytes ∙ same_unlost (Get keys exptime with_cas) h.outcomes none ∙ joined-items keys exptime with_cas h.outcomes,
      shown_blocks home histories log client request 0 (route_of_taken h.ring h.what) h.outcomes keys h.told,
    )

-- what an `mg` shows
abbrev ShowsMeta : Homes → RingState → (ℕ → List Entry) → Log → ℕ → ℕ → List ℕ → MetaGet → MetaForm (List (List ℕ)) → List ℕ → Type 0
ShowsMeta home ring histories log client request key get form answer =
    ((reply : AReply (List ℕ)) × (answer ≡ answer_of (Meta (metas.Get key get) form) (reply ∷ []))
    × HasReply (histories (owner_in ring key)) (tag_of client request 0) (meta_spelling reply))
    ⊎ ((answer ≡ (if form.quiet then [] else codes "EN\r\n")) × WasNeverSentOrLost home (owner_in ring key) (tag_of client request 0) (histories (owner_in ring key)) log)

meta_by : (home : Homes) (ring : RingState) (histories : ℕ → List Entry) (log : Log) (client request : ℕ) (key : List ℕ) (get : MetaGet) (form : MetaForm (List (List ℕ)))
    (outcomes : List Outcome) → HaveOutcomesBy home histories log client request 0 (to_owner ring key (atoms.Meta (metas.Get key get)) ∷ []) outcomes
    → ShowsMeta home ring histories log client request key get form (joined_with Missed (Meta (metas.Get key get) form) outcomes)
meta_by home ring histories log client request key get form [] told = absurd told
meta_by home ring histories log client request key get form (Reply reply ∷ []) told = inl (reply, refl, told.0)
meta_by home ring histories log client request key get form (Lost ∷ []) told = inr (joined-meta_lost key get form [], told.0)
meta_by home ring histories log client request key get form (Awaited ∷ []) told = absurd told.0
meta_by home ring histories log client request key get form (o ∷ q ∷ os) told = absurd told.1

pub shown_meta_missed : (home : Homes) (ring : RingState) (texts : ℕ → List ℕ) (histories : ℕ → List Entry) (log : Log) (client request : ℕ) (answer : List ℕ)
    → (h : IsAnswerTo home Missed ring texts histories log client request answer) → (key : List ℕ) (get : MetaGet) (form : MetaForm (List (List ℕ)))
    → h.what ≡ Whole (Meta (metas.Get key get) form) → ShowsMeta home h.ring histories log client request key get form answer
shown_meta_missed home ring texts histories log client request answer h key get form is =
    subst (λ (bytes : List ℕ). ShowsMeta home h.ring histories log client request key get form bytes)
    (sym (bytes_of home Missed ring texts histories log client request answer h (Meta (metas.Get key get) form) is))
    (meta_by home h.ring histories log client request key get form h.outcomes
    (subst (λ (t : Parsed). HaveOutcomesBy home histories log client request 0 (route_of_taken h.ring t) h.outcomes) is h.told))

-- if no command was lost, each has a reply
all_replied : (home : Homes) (histories : ℕ → List Entry) (log : Log) (client request at : ℕ) (commands : List Routed) (outcomes : List Outcome) → has_lost outcomes ≡ false
    → HaveOutcomesBy home histories log client request at commands outcomes → HaveReplies histories client request at commands (replies_in outcomes)
all_replied home histories log client request at [] [] none told = tt
all_replied home histories log client request at [] (o ∷ os) none told = absurd told
all_replied home histories log client request at (c ∷ cs) [] none told = absurd told
all_replied home histories log client request at (c ∷ cs) (Reply reply ∷ os) none told = (told.0, all_replied home histories log client request (suc at) cs os none told.1)
all_replied home histories log client request at (c ∷ cs) (Lost ∷ os) none told = absurd (true≢false none)
all_replied home histories log client request at (c ∷ cs) (Awaited ∷ os) none told = absurd (true≢false none)

abbrev IsReplied : (ℕ → List Entry) → ℕ → ℕ → List Routed → Request → List ℕ → Type 0
IsReplied histories client request commands what answer =
    (replies : List (AReply (List ℕ))) × (answer ≡ answer_of what replies) × HaveReplies histories client request 0 commands replies

replied_unlost : (home : Homes) (losses : Losses) (ring : RingState) (texts : ℕ → List ℕ) (histories : ℕ → List Entry) (log : Log) (client request : ℕ) (answer : List ℕ)
    → (h : IsAnswerTo home losses ring texts histories log client request answer) → (what : Request) → h.what ≡ Whole what → has_lost h.outcomes ≡ false
    → IsReplied histories client request (route_of_taken h.ring h.what) what answer
replied_unlost home losses ring texts histories log client request answer h what is none = (
  replies_in h.outcomes,
  bytes_of home losses ring texts histories log client request answer h what is ∙ joined-unlost losses what h.outcomes none,
  all_replied home histories log client request 0 (route_of_taken h.ring h.what) h.outcomes none h.told,
)

pub done_told : (home : Homes) (ring : RingState) (texts : ℕ → List ℕ) (histories : ℕ → List Entry) (log : Log) (client request : ℕ) (answer : List ℕ)
    → (h : IsAnswerTo home Told ring texts histories log client request answer) → (what : Request) → h.what ≡ Whole what → answer ≢ lost_line
    → IsReplied histories client request (route_of_taken h.ring h.what) what answer
done_told home ring texts histories log client request answer h what is differ =
    replied_unlost home Told ring texts histories log client request answer h what is
    (told_unlost what h.outcomes answer (bytes_of home Told ring texts histories log client request answer h what is) differ)

-- if a command was lost, the answer with `Missed` to a request that is no retrieval is that line,
-- or empty
missed_line : (what : Request) (outcomes : List Outcome) → is_retrieval what ≡ false → has_lost outcomes ≡ true
    → joined_with Missed what outcomes ≡ (if hides_any (hides_of what) then [] else lost_line)
missed_line what outcomes other lost = rw (lost, other) refl

line_or_nothing : (hidden : Bool) (answer : List ℕ) → answer ≡ (if hidden then [] else lost_line) → answer ≢ lost_line → answer ≢ [] → ⊥
line_or_nothing true answer is differ some = some is
line_or_nothing false answer is differ some = differ is

missed_unlost : (what : Request) (outcomes : List Outcome) (answer : List ℕ) → answer ≡ joined_with Missed what outcomes → is_retrieval what ≡ false
    → answer ≢ lost_line → answer ≢ [] → has_lost outcomes ≡ false
missed_unlost what outcomes answer is other differ some =
    (elim (has_lost outcomes) as (λ v. has_lost outcomes ≡ v → has_lost outcomes ≡ false) [
      | true ↦ λ lost. absurd (line_or_nothing (hides_any (hides_of what)) answer (is ∙ missed_line what outcomes other lost) differ some)
      | false ↦ λ none. none
    ]) refl

pub done_missed : (home : Homes) (ring : RingState) (texts : ℕ → List ℕ) (histories : ℕ → List Entry) (log : Log) (client request : ℕ) (answer : List ℕ)
    → (h : IsAnswerTo home Missed ring texts histories log client request answer) → (what : Request) → h.what ≡ Whole what → is_retrieval what ≡ false
    → answer ≢ lost_line → answer ≢ [] → IsReplied histories client request (route_of_taken h.ring h.what) what answer
done_missed home ring texts histories log client request answer h what is other differ some =
    replied_unlost home Missed ring texts histories log client request answer h what is
    (missed_unlost what h.outcomes answer (bytes_of home Missed ring texts histories log client request answer h what is) other differ some)
