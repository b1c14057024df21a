-- The answer to a request, by the outcomes of its commands.
use Rattle.std.proofs.Common.{◌≡◌, ℕ, zero, suc, ◌≤◌, min, true, false, map, List, [], ◌∷◌, ◌++◌, Some, length, drop, refl, sym, ap, append-nil, arith}
use Rattle.mc_request.specs.Atoms.{atoms_of}
use Rattle.mc_request.specs.declared.parts.Request.{Request}
use Rattle.mc_request.specs.declared.parts.Request.TheVariants.{Get, Update, Meta, MetaNoop, Version, Quit}
use Rattle.mc_reply.specs.declared.replies.Reply.{Reply}
use Rattle.mc_reply.specs.Parts.{part_of}
use Rattle.mc_reply.specs.Spelling.{key_part, end_line, blocks_of, answer_of}
use Rattle.mc_route.specs.declared.outcomes.Outcome.{Outcome}
use Rattle.mc_route.specs.declared.outcomes.Outcome.TheVariants as outcomes
use Rattle.mc_route.specs.Joins.{has_lost, replies_in, joined_answer, lost_line}
use Rattle.mc_route.specs.Losses.{reply_or_miss}

-- if there is one command, its reply's part is the whole answer
pub one_part : (request : Request) (reply : Reply (List ℕ)) (replies : List (Reply (List ℕ))) → length (atoms_of request) ≡ 1
    → part_of request 0 (Some reply) ≡ answer_of request (reply ∷ replies)
one_part (Get [] exptime with_cas) reply replies one = absurd (omega arith)
one_part (Get (key ∷ []) exptime with_cas) reply replies one = ap (λ (part : List ℕ). part ++ end_line) (sym (append-nil (key_part key reply)))
one_part (Get (key ∷ other ∷ keys) exptime with_cas) reply replies one = absurd (omega arith)
one_part (Update update noreply) reply replies one = refl
one_part (Meta command form) reply replies one = refl
one_part MetaNoop reply replies one = absurd (omega arith)
one_part Version reply replies one = absurd (omega arith)
one_part Quit reply replies one = absurd (omega arith)

-- without replies no item is shown
blocks_of-none : (keys : List (List ℕ)) → blocks_of keys [] ≡ []
blocks_of-none [] = refl
blocks_of-none (key ∷ keys) = refl

-- past the last key or the last reply, nothing is left
pub blocks_past : (keys : List (List ℕ)) (outcomes : List Outcome) (n : ℕ) → min (length keys) (length outcomes) ≤ n
    → blocks_of (drop n keys) (map reply_or_miss (drop n outcomes)) ≡ []
blocks_past [] outcomes zero past = refl
blocks_past [] outcomes (suc n) past = refl
blocks_past (key ∷ keys) [] zero past = refl
blocks_past (key ∷ keys) [] (suc n) past = blocks_of-none (drop n keys)
blocks_past (key ∷ keys) (outcome ∷ outcomes) zero past = absurd (omega arith)
blocks_past (key ∷ keys) (outcome ∷ outcomes) (suc n) past = blocks_past keys outcomes n (omega arith)

-- if each reply has arrived, none of them is a miss for a loss
pub replies_told : (outcomes : List Outcome) → has_lost outcomes ≡ false → map reply_or_miss outcomes ≡ replies_in outcomes
replies_told [] came = refl
replies_told (outcomes.Reply reply ∷ others) came = ap (λ (rs : List (Reply (List ℕ))). reply ∷ rs) (replies_told others came)
replies_told (outcomes.Lost ∷ others) came = absurd cc
replies_told (outcomes.Awaited ∷ others) came = absurd cc

-- ---- the laws

none_lost : (replies : List (Reply (List ℕ))) → has_lost (map (λ reply. outcomes.Reply reply) replies) ≡ false
none_lost [] = refl
none_lost (reply ∷ replies) = none_lost replies

all_came : (replies : List (Reply (List ℕ))) → replies_in (map (λ reply. outcomes.Reply reply) replies) ≡ replies
all_came [] = refl
all_came (reply ∷ replies) = ap (λ (others : List (Reply (List ℕ))). reply ∷ others) (all_came replies)

pub joined-came : (request : Request) (replies : List (Reply (List ℕ))) → joined_answer request (map (λ reply. outcomes.Reply reply) replies) ≡ answer_of request replies
joined-came request replies = rw (none_lost replies, all_came replies) refl

one_lost : (front back : List Outcome) → has_lost (front ++ outcomes.Lost ∷ back) ≡ true
one_lost [] back = refl
one_lost (outcomes.Lost ∷ front) back = refl
one_lost (outcomes.Awaited ∷ front) back = refl
one_lost (outcomes.Reply reply ∷ front) back = one_lost front back

pub joined-lost : (request : Request) (front back : List Outcome) → joined_answer request (front ++ outcomes.Lost ∷ back) ≡ lost_line
joined-lost request front back = rw (one_lost front back) refl
