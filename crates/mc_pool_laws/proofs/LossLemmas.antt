-- Commands whose links are lost, or hold.
use Rattle.std.proofs.Common.{◌≡◌, ◌≢◌, ◌∙◌, ⊎_elim, ℕ, ◌<◌, ◌⊎◌, inl, inr, List, Some, slice_get, refl, sym, ap, arith}
use Rattle.std.proofs.lemmas.Bool.{cases_lt, true≢false}
use Rattle.mc_reply.specs.declared.replies.Reply.{Reply as AReply}
use Rattle.mc_ring.specs.Rings.{RingState}
use Rattle.mc_route.specs.declared.losses.Losses.{Losses}
use Rattle.mc_route.specs.Routes.{to_place}
use Rattle.mc_route.specs.declared.outcomes.Outcome.{Outcome}
use Rattle.mc_route.specs.declared.outcomes.Outcome.TheVariants.{Awaited, Lost, Reply}
use Rattle.mc_route.specs.declared.routes.Routed.{Routed}
use Rattle.mc_link.specs.declared.turns.Tag.{Tag}
use Rattle.mc_cache.specs.CacheState.{CacheState}
use Rattle.mc_account.specs.Lookups.{IsBefore, command_at, outcome_at}
use Rattle.mc_account.specs.Orders.{Order}
use Rattle.mc_history.specs.declared.entries.Entry.{Entry}
use Rattle.mc_history.specs.Histories.{tag_in}
use Rattle.mc_world.specs.Accounts.{Accounts, NotAnswered, WasNeverSentOrLost, up_when_taken}
use Rattle.mc_world.specs.Homes.{Homes}
use Rattle.mc_world.specs.Logs.{Log, before, drops, is_up, loses, number_of, puts, serves, takes}
use Rattle.mc_world.proofs.Log.FollowLemmas.{nothing_lost, reply_known}
use Rattle.mc_world.proofs.Log.LogLemmas.{losses_few, number-before, stays_up}
use Rattle.mc_pool_laws.specs.Sent.{IsSent}
use Rattle.mc_pool_laws.specs.Outcomes.{HasEntry, HasOneEntry, HasOutcomeBy, LinkHeld, WasAnswered}
use Rattle.mc_pool_laws.proofs.PlaceLemmas.{before-front, earlier, puts_apart}
use Rattle.mc_pool_laws.proofs.SentLemmas.{entry_named, sent_command}
use Rattle.mc_pool_laws.proofs.OutcomeLemmas.{known_at, told_by}

-- the histories and the log show an entry of a command, or a loss
entry_or_loss : (home : Homes) (histories : ℕ → List Entry) (log : Log) (tag : Tag) (command : Routed) (outcome : Outcome) → HasOutcomeBy home histories log tag command outcome
    → HasEntry (histories command.server) tag ⊎ WasNeverSentOrLost home command.server tag (histories command.server) log
entry_or_loss home histories log tag command (Reply reply) told = inl (told.0, told.1, told.2, told.3)
entry_or_loss home histories log tag command Lost told = inr told
entry_or_loss home histories log tag command Awaited told = absurd told

pub executed_or_lost : (home : Homes) (losses : Losses) (ring : RingState) (opening : CacheState) (order : Order) (texts outs : ℕ → List ℕ) (histories : ℕ → List Entry) (log : Log)
    → Accounts home losses ring opening order texts outs histories log → (tag : Tag) (command : Routed) → IsSent home ring texts log tag command → WasAnswered tag log
    → HasEntry (histories command.server) tag ⊎ WasNeverSentOrLost home command.server tag (histories command.server) log
executed_or_lost home losses ring opening order texts outs histories log h tag command sent answered =
    let at = sent_command home losses ring opening order texts outs histories log h tag command sent in
    let known = known_at home losses ring opening order texts outs histories log h tag command at answered in
    entry_or_loss home histories log tag command known.0 (told_by home losses ring opening order texts outs histories log h tag command known.0 at known.1 known.2)

-- an entry is the only one of its command
pub only_entry : (home : Homes) (losses : Losses) (ring : RingState) (opening : CacheState) (order : Order) (texts outs : ℕ → List ℕ) (histories : ℕ → List Entry) (log : Log)
    → Accounts home losses ring opening order texts outs histories log → (place : ℕ) (tag : Tag) → HasEntry (histories place) tag → HasOneEntry histories place tag
only_entry home losses ring opening order texts outs histories log h place tag entry = (
  entry.0,
  entry.1,
  entry.2,
  entry.3,
  λ other j d at same. h.once other place j entry.0 d entry.1 at entry.2 (same ∙ sym entry.3),
)

pub executed_once : (home : Homes) (losses : Losses) (ring : RingState) (opening : CacheState) (order : Order) (texts outs : ℕ → List ℕ) (histories : ℕ → List Entry) (log : Log)
    → Accounts home losses ring opening order texts outs histories log → (tag : Tag) (command : Routed) → IsSent home ring texts log tag command → WasAnswered tag log
    → number_of (drops (home tag.session) command.server) log ≡ 0 → HasOneEntry histories command.server tag
executed_once home losses ring opening order texts outs histories log h tag command sent answered none =
    elim (executed_or_lost home losses ring opening order texts outs histories log h tag command sent answered) [
      | inl entry ↦ only_entry home losses ring opening order texts outs histories log h command.server tag entry
      | inr lost ↦ absurd (nothing_lost home command.server tag (histories command.server) log none lost)
    ]

-- if its link was not down before its answer, no command of an answered request is logged as lost
not_lost_before : (home : Homes) (losses : Losses) (ring : RingState) (opening : CacheState) (order : Order) (texts outs : ℕ → List ℕ) (histories : ℕ → List Entry) (log : Log)
    → Accounts home losses ring opening order texts outs histories log → (place : ℕ) (tag : Tag) → WasAnswered tag log
    → number_of (drops (home tag.session) place) (before (puts tag.session) tag.request log) ≡ 0 → WasNeverSentOrLost home place tag (histories place) log → ⊥
not_lost_before home losses ring opening order texts outs histories log h place tag answered none (inl down) =
    let front : Log = before (puts tag.session) tag.request log in
    let early = h.after tag.session tag.request answered in
    let same = before-front (takes tag.session) (puts tag.session) tag.request tag.request log early in
    let few = number-before (drops (home tag.session) place) (takes tag.session) tag.request (before (puts tag.session) tag.request log) in
    let held = stays_up (home tag.session) place (before (takes tag.session) tag.request (before (puts tag.session) tag.request log)) (omega (arith, none, few)) in
    true≢false (sym held ∙ ap (λ (l : Log). is_up (home tag.session) place l) (sym same) ∙ down.0)
not_lost_before home losses ring opening order texts outs histories log h place tag answered none (inr lost) =
    let few = losses_few (home tag.session) place (before (puts tag.session) tag.request log) in
    let first = earlier (puts tag.session) (loses (home tag.session) place) (puts_apart tag.session (home tag.session) place) tag.request lost.1.0 log answered (omega (arith, none, few)) in
    let later = lost.1.3 in
    omega (arith, first, later)

pub executed_where_held : (home : Homes) (losses : Losses) (ring : RingState) (opening : CacheState) (order : Order) (texts outs : ℕ → List ℕ) (histories : ℕ → List Entry) (log : Log)
    → Accounts home losses ring opening order texts outs histories log → (tag : Tag) (command : Routed) → IsSent home ring texts log tag command → WasAnswered tag log
    → number_of (drops (home tag.session) command.server) (before (puts tag.session) tag.request log) ≡ 0 → HasOneEntry histories command.server tag
executed_where_held home losses ring opening order texts outs histories log h tag command sent answered none =
    elim (executed_or_lost home losses ring opening order texts outs histories log h tag command sent answered) [
      | inl entry ↦ only_entry home losses ring opening order texts outs histories log h command.server tag entry
      | inr lost ↦ absurd (not_lost_before home losses ring opening order texts outs histories log h command.server tag answered none lost)
    ]

-- likewise if its link was up when it was taken, and held
pub executed_where_up : (home : Homes) (losses : Losses) (ring : RingState) (opening : CacheState) (order : Order) (texts outs : ℕ → List ℕ) (histories : ℕ → List Entry) (log : Log)
    → Accounts home losses ring opening order texts outs histories log → (tag : Tag) (command : Routed) → IsSent home ring texts log tag command → WasAnswered tag log
    → up_when_taken (home tag.session) command.server tag log → LinkHeld home command.server tag log → HasOneEntry histories command.server tag
executed_where_up home losses ring opening order texts outs histories log h tag command sent answered up held =
    elim (executed_or_lost home losses ring opening order texts outs histories log h tag command sent answered) [
      | inl entry ↦ only_entry home losses ring opening order texts outs histories log h command.server tag entry
      | inr lost ↦ elim lost [
        | inl down ↦ absurd (true≢false (sym up ∙ down.0))
        | inr went ↦ absurd (held went.1)
      ]
    ]

-- an entry whose link held has a reply
replied_by : (home : Homes) (histories : ℕ → List Entry) (log : Log) (order : Order) (place k : ℕ) (e : Entry) (command : Routed) (outcome : Outcome) → command.server ≡ place
    → slice_get (histories command.server) k ≡ Some e → LinkHeld home command.server (tag_in e) log → HasOutcomeBy home histories log (tag_in e) command outcome
    → outcome_at order (tag_in e) ≡ Some outcome → (reply : AReply (List ℕ)) × (outcome_at order (tag_in e) ≡ Some (Reply reply))
replied_by home histories log order place k e command (Reply reply) is at held told became = (reply, became)
replied_by home histories log order place k e command Lost is at held (inl down) became = absurd (down.1 k e at refl)
replied_by home histories log order place k e command Lost is at held (inr lost) became = absurd (held lost.1)
replied_by home histories log order place k e command Awaited is at held told became = absurd told

replied_at : (home : Homes) (losses : Losses) (ring : RingState) (opening : CacheState) (order : Order) (texts outs : ℕ → List ℕ) (histories : ℕ → List Entry) (log : Log)
    → Accounts home losses ring opening order texts outs histories log → (place k : ℕ) (e : Entry) → slice_get (histories place) k ≡ Some e → WasAnswered (tag_in e) log
    → LinkHeld home place (tag_in e) log → (reply : AReply (List ℕ)) × (outcome_at order (tag_in e) ≡ Some (Reply reply))
replied_at home losses ring opening order texts outs histories log h place k e at answered held =
    let atom = entry_named home losses ring opening order texts outs histories log h place k e at in
    let known = known_at home losses ring opening order texts outs histories log h (tag_in e) (to_place place atom.0) atom.1 answered in
    replied_by home histories log order place k e (to_place place atom.0) known.0 refl at held
    (told_by home losses ring opening order texts outs histories log h (tag_in e) (to_place place atom.0) known.0 atom.1 known.1 known.2) known.1

pub order_kept : (home : Homes) (losses : Losses) (ring : RingState) (opening : CacheState) (order : Order) (texts outs : ℕ → List ℕ) (histories : ℕ → List Entry) (log : Log)
    → Accounts home losses ring opening order texts outs histories log → (place j k : ℕ) (d e : Entry) → slice_get (histories place) j ≡ Some d
    → slice_get (histories place) k ≡ Some e → j < k → d.client ≡ e.client → WasAnswered (tag_in d) log → WasAnswered (tag_in e) log
    → LinkHeld home place (tag_in d) log → LinkHeld home place (tag_in e) log → IsBefore (tag_in d) (tag_in e)
order_kept home losses ring opening order texts outs histories log h place j k d e at also before same d_answered e_answered d_held e_held =
    let r = replied_at home losses ring opening order texts outs histories log h place j d at d_answered d_held in
    let q = replied_at home losses ring opening order texts outs histories log h place k e also e_answered e_held in
    h.ordered place j k d e r.0 q.0 at also before same r.1 q.1

pub answered_after : (home : Homes) (losses : Losses) (ring : RingState) (opening : CacheState) (order : Order) (texts outs : ℕ → List ℕ) (histories : ℕ → List Entry) (log : Log)
    → Accounts home losses ring opening order texts outs histories log → (place k : ℕ) (e : Entry) → slice_get (histories place) k ≡ Some e
    → LinkHeld home place (tag_in e) log → NotAnswered (tag_in e) (before (serves place) k log)
answered_after home losses ring opening order texts outs histories log h place k e at held =
    ⊎_elim
    (λ answered.
    let r = replied_at home losses ring opening order texts outs histories log h place k e at answered held in
    (h.placed place k e at).1 r.0 r.1)
    (λ later.
    let few = number-before (puts e.client) (serves place) k log in
    omega (arith, few, later))
    (cases_lt e.request (number_of (puts e.client) log))

-- if a proxy's link to a server was never down, no command on it is lost, and each of an answered request has a reply
pub never_lost : (home : Homes) (losses : Losses) (ring : RingState) (opening : CacheState) (order : Order) (texts outs : ℕ → List ℕ) (histories : ℕ → List Entry) (log : Log)
    → Accounts home losses ring opening order texts outs histories log → (tag : Tag) (command : Routed) → command_at order tag ≡ Some command
    → number_of (drops (home tag.session) command.server) log ≡ 0 → outcome_at order tag ≢ Some Lost
never_lost home losses ring opening order texts outs histories log h tag command at none lost =
    nothing_lost home command.server tag (histories command.server) log none (h.lost tag command.server command.atom at lost)

pub replied_without_loss : (home : Homes) (losses : Losses) (ring : RingState) (opening : CacheState) (order : Order) (texts outs : ℕ → List ℕ) (histories : ℕ → List Entry) (log : Log)
    → Accounts home losses ring opening order texts outs histories log → (tag : Tag) (command : Routed) → command_at order tag ≡ Some command
    → number_of (drops (home tag.session) command.server) log ≡ 0 → WasAnswered tag log → (reply : AReply (List ℕ)) × (outcome_at order tag ≡ Some (Reply reply))
replied_without_loss home losses ring opening order texts outs histories log h tag command at none answered =
    let known = known_at home losses ring opening order texts outs histories log h tag command at answered in
    let reply = reply_known known.0 known.2 (λ lost. never_lost home losses ring opening order texts outs histories log h tag command at none (known.1 ∙ ap (λ (o : Outcome). Some o) lost)) in
    (reply.0, known.1 ∙ ap (λ (o : Outcome). Some o) reply.1)
