-- The answer to a request that lost a command, by the site's choice.
use Rattle.std.proofs.Common.{◌≡◌, ◌≢◌, ℕ, ℤ, Bool, true, false, map, List, [], ◌∷◌, ◌++◌, Option, codes, if◌then◌else◌, not, ◌||◌, refl, sym, ap}
use Rattle.mc_request.specs.Hides.{hides_of}
use Rattle.mc_request.specs.declared.hides.Hides.TheVariants.{Nothing}
use Rattle.mc_request.specs.declared.meta.MetaCommand.TheVariants as metas
use Rattle.mc_request.specs.declared.meta.MetaForm.{MetaForm}
use Rattle.mc_request.specs.declared.meta.MetaGet.{MetaGet}
use Rattle.mc_request.specs.declared.parts.Request.{Request}
use Rattle.mc_request.specs.declared.parts.Request.TheVariants.{Get, Meta}
use Rattle.mc_reply.specs.declared.replies.Reply.{Reply}
use Rattle.mc_reply.specs.declared.replies.Reply.TheVariants as replies
use Rattle.mc_reply.specs.Spelling.{key_part, end_line, blocks_of, answer_of}
use Rattle.mc_route.specs.declared.losses.Losses.{Losses}
use Rattle.mc_route.specs.declared.losses.Losses.TheVariants.{Told, Missed}
use Rattle.mc_route.specs.declared.outcomes.Outcome.{Outcome}
use Rattle.mc_route.specs.declared.outcomes.Outcome.TheVariants as outcomes
use Rattle.mc_route.specs.Joins.{has_lost, lost_line, outcome_part, replies_in}
use Rattle.mc_route.specs.Losses.{blocks_by, hides_any, is_missed, is_retrieval, is_silent, joined_with, reply_or_miss}
use Rattle.mc_route.proofs.JoinLemmas.{replies_told}

-- if nothing was lost, the choice plays no part
pub joined-unlost : (losses : Losses) (request : Request) (outcomes : List Outcome) → has_lost outcomes ≡ false → joined_with losses request outcomes ≡ answer_of request (replies_in outcomes)
joined-unlost losses request outcomes none = rw none refl

-- whatever was lost, a retrieval that counts losses as misses is answered by its replies and these
missed_by : (losses : Losses) (request : Request) (outcomes : List Outcome) (lost : Bool) → has_lost outcomes ≡ lost → is_missed losses request ≡ true
    → joined_with losses request outcomes ≡ answer_of request (map reply_or_miss outcomes)
missed_by losses request outcomes true is missed = rw (is, missed) refl
missed_by losses request outcomes false is missed = rw is (ap (λ (rs : List (Reply (List ℕ))). answer_of request rs) (sym (replies_told outcomes is)))

pub joined-missed : (losses : Losses) (request : Request) (outcomes : List Outcome) → is_missed losses request ≡ true
    → joined_with losses request outcomes ≡ answer_of request (map reply_or_miss outcomes)
joined-missed losses request outcomes missed = missed_by losses request outcomes (has_lost outcomes) refl missed

-- which requests are answered by replies, and which are not
answered_by : (losses : Losses) (request : Request) (outcomes : List Outcome) (lost : Bool) → has_lost outcomes ≡ lost → (not lost || is_missed losses request) ≡ true
    → joined_with losses request outcomes ≡ answer_of request (map reply_or_miss outcomes)
answered_by losses request outcomes true is missed = rw (is, missed) refl
answered_by losses request outcomes false is answered = rw is (ap (λ (rs : List (Reply (List ℕ))). answer_of request rs) (sym (replies_told outcomes is)))

pub joined_answered : (losses : Losses) (request : Request) (outcomes : List Outcome) → (not (has_lost outcomes) || is_missed losses request) ≡ true
    → joined_with losses request outcomes ≡ answer_of request (map reply_or_miss outcomes)
joined_answered losses request outcomes answered = answered_by losses request outcomes (has_lost outcomes) refl answered

unanswered_by : (losses : Losses) (request : Request) (outcomes : List Outcome) (lost : Bool) → has_lost outcomes ≡ lost → (not lost || is_missed losses request) ≡ false
    → joined_with losses request outcomes ≡ (if is_silent losses request then [] else lost_line)
unanswered_by losses request outcomes true is missed = rw (is, missed) refl
unanswered_by losses request outcomes false is never = absurd cc

pub joined_unanswered : (losses : Losses) (request : Request) (outcomes : List Outcome) → (not (has_lost outcomes) || is_missed losses request) ≡ false
    → joined_with losses request outcomes ≡ (if is_silent losses request then [] else lost_line)
joined_unanswered losses request outcomes never = unanswered_by losses request outcomes (has_lost outcomes) refl never

-- a loss looks like a miss
like_a_miss : (front back : List Outcome) → map reply_or_miss (front ++ outcomes.Lost ∷ back) ≡ map reply_or_miss (front ++ outcomes.Reply replies.Miss ∷ back)
like_a_miss [] back = refl
like_a_miss (outcome ∷ front) back = ap (λ (rs : List (Reply (List ℕ))). reply_or_miss outcome ∷ rs) (like_a_miss front back)

pub joined-like_a_miss : (request : Request) (front back : List Outcome) → is_retrieval request ≡ true
    → joined_with Missed request (front ++ outcomes.Lost ∷ back) ≡ joined_with Missed request (front ++ outcomes.Reply replies.Miss ∷ back)
joined-like_a_miss request front back retrieval =
    rw (joined-missed Missed request (front ++ outcomes.Lost ∷ back) retrieval, joined-missed Missed request (front ++ outcomes.Reply replies.Miss ∷ back) retrieval, like_a_miss front back) refl

-- the items that are shown are those of the replies
blocks-by : (keys : List (List ℕ)) (outcomes : List Outcome) → blocks_of keys (map reply_or_miss outcomes) ≡ blocks_by keys outcomes
blocks-by [] outcomes = refl
blocks-by (key ∷ keys) [] = refl
blocks-by (key ∷ keys) (outcomes.Reply reply ∷ others) = ap (λ (bytes : List ℕ). key_part key reply ++ bytes) (blocks-by keys others)
blocks-by (key ∷ keys) (outcomes.Lost ∷ others) = blocks-by keys others
blocks-by (key ∷ keys) (outcomes.Awaited ∷ others) = blocks-by keys others

pub joined-items : (keys : List (List ℕ)) (exptime : Option ℤ) (with_cas : Bool) (outcomes : List Outcome)
    → joined_with Missed (Get keys exptime with_cas) outcomes ≡ blocks_by keys outcomes ++ end_line
joined-items keys exptime with_cas outcomes =
    rw (joined-missed Missed (Get keys exptime with_cas) outcomes refl) (ap (λ (bytes : List ℕ). bytes ++ end_line) (blocks-by keys outcomes))

pub shown-hit : (key : List ℕ) (outcome : Outcome) → outcome_part key outcome ≢ []
    → (flags : ℕ) × (cas : Option ℕ) × (value : List ℕ) × (outcome ≡ outcomes.Reply (replies.Hit flags cas value))
shown-hit key outcomes.Lost shown = absurd (shown refl)
shown-hit key outcomes.Awaited shown = absurd (shown refl)
shown-hit key (outcomes.Reply (replies.Hit flags cas value)) shown = (flags, cas, value, refl)
shown-hit key (outcomes.Reply replies.Stored) shown = absurd (shown refl)
shown-hit key (outcomes.Reply replies.NotStored) shown = absurd (shown refl)
shown-hit key (outcomes.Reply replies.Exists) shown = absurd (shown refl)
shown-hit key (outcomes.Reply replies.NotFound) shown = absurd (shown refl)
shown-hit key (outcomes.Reply replies.Deleted) shown = absurd (shown refl)
shown-hit key (outcomes.Reply replies.Touched) shown = absurd (shown refl)
shown-hit key (outcomes.Reply replies.Flushed) shown = absurd (shown refl)
shown-hit key (outcomes.Reply (replies.Number number)) shown = absurd (shown refl)
shown-hit key (outcomes.Reply replies.Miss) shown = absurd (shown refl)
shown-hit key (outcomes.Reply (replies.Meta marks value)) shown = absurd (shown refl)
shown-hit key (outcomes.Reply (replies.Fault fault)) shown = absurd (shown refl)

pub joined-meta : (key : List ℕ) (get : MetaGet) (form : MetaForm (List (List ℕ))) (outcomes : List Outcome)
    → joined_with Missed (Meta (metas.Get key get) form) outcomes ≡ answer_of (Meta (metas.Get key get) form) (map reply_or_miss outcomes)
joined-meta key get form outcomes = joined-missed Missed (Meta (metas.Get key get) form) outcomes refl

-- the answer is `EN`, or nothing
meta_lost_by : (quiet : Bool) (key : List ℕ) (get : MetaGet) (form : MetaForm (List (List ℕ))) (others : List Outcome) → form.quiet ≡ quiet
    → joined_with Missed (Meta (metas.Get key get) form) (outcomes.Lost ∷ others) ≡ (if quiet then [] else codes "EN\r\n")
meta_lost_by true key get form others is = rw is refl
meta_lost_by false key get form others is = rw is refl

pub joined-meta_lost : (key : List ℕ) (get : MetaGet) (form : MetaForm (List (List ℕ))) (others : List Outcome)
    → joined_with Missed (Meta (metas.Get key get) form) (outcomes.Lost ∷ others) ≡ (if form.quiet then [] else codes "EN\r\n")
joined-meta_lost key get form others = meta_lost_by form.quiet key get form others refl

-- no other request is confirmed
never_missed : (losses : Losses) (request : Request) → is_retrieval request ≡ false → is_missed losses request ≡ false
never_missed Told request other = refl
never_missed Missed request other = other

never_silent : (losses : Losses) (request : Request) → hides_of request ≡ Nothing → is_silent losses request ≡ false
never_silent Told request open_one = refl
never_silent Missed request open_one = rw open_one refl

pub joined-line : (losses : Losses) (request : Request) (outcomes : List Outcome) → is_retrieval request ≡ false → hides_of request ≡ Nothing → has_lost outcomes ≡ true
    → joined_with losses request outcomes ≡ lost_line
joined-line losses request outcomes other open_one lost = rw (lost, never_missed losses request other, never_silent losses request open_one) refl

pub joined-silent : (request : Request) (outcomes : List Outcome) → is_retrieval request ≡ false → hides_any (hides_of request) ≡ true → has_lost outcomes ≡ true
    → joined_with Missed request outcomes ≡ []
joined-silent request outcomes other hidden lost = rw (lost, other, hidden) refl
