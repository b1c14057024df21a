-- A run of which all clauses of an account hold except one: a command is executed after its request was answered by its
-- reply.
use Rattle.std.proofs.Common.{◌≡◌, ◌∙◌, ℕ, ◌<◌, ◌==◌, List, [], ◌∷◌, ◌++◌, Some, slice_get, refl, sym, ap, ap₂, arith}
use Rattle.std.proofs.lemmas.Bool.{false≢true}
use Rattle.mc_request.specs.declared.parts.Atom.{Atom}
use Rattle.mc_reply.specs.Spelling.{spelling_of}
use Rattle.mc_reply.specs.declared.replies.Reply.{Reply as AReply}
use Rattle.mc_reply.specs.declared.replies.Reply.TheVariants.{Flushed}
use Rattle.mc_route.specs.Routes.{route_of_taken, to_place}
use Rattle.mc_route.specs.declared.losses.Losses.{Losses}
use Rattle.mc_route.specs.declared.outcomes.Outcome.TheVariants as outcomes
use Rattle.mc_route.specs.declared.routes.Routed.{Routed}
use Rattle.mc_link.specs.declared.turns.Tag.{Tag}
use Rattle.mc_proxy.specs.Sending.{tag_of}
use Rattle.mc_account.specs.Lookups.{asked_at, command_at, outcome_at}
use Rattle.mc_account.specs.Orders.{TakenRequest, commands_to}
use Rattle.mc_history.specs.declared.entries.Entry.{Entry}
use Rattle.mc_history.specs.Histories.{HasReply, IsLegal, tag_in}
use Rattle.mc_history.specs.Named.{tags_of}
use Rattle.mc_world.specs.Accounts.{NotAnswered}
use Rattle.mc_world.specs.Homes.{of_proxy, tags_through}
use Rattle.mc_world.specs.Logs.{Log, before, drops, in_life, number_of, puts, serves, takes}
use Rattle.mc_pool_laws.specs.Outcomes.{LinkHeld}
use Rattle.mc_pool_laws.specs.Without.{AccountsBut, Allows, Unanswered}
use Rattle.mc_pool_laws.proofs.SentLemmas.{in_request}
use Rattle.mc_pool_laws.proofs.NeedLemmas.{a_cache, after_one, asked_by, asked_only, asked_text, complete_of, first_only, first_there, flush, flush_asked, flush_text, flushed, followed_one, follows_one, lives_of_first, moments_one, no_loss, numbered_one, once_in_one, one_here, one_home, one_outcome, one_server, outs_of, own_by, puts_one, serves_one, takes_one}
use Rattle.mc_pool_laws.proofs.OrderExample.{reply_in, tag_is}

abbrev replied : TakenRequest
replied = asked_by one_server flush_asked (outcomes.Reply Flushed ∷ [])

abbrev late_log : Log
late_log = takes_one ∷ puts_one ∷ serves_one ∷ []

late_legal : IsLegal (replied ∷ []) 0 a_cache (flushed ∷ [])
late_legal = (flush, refl, record { legal = λ h. absurd (false≢true h); refused = refl; reply = refl }, tt)

late_after : (client request : ℕ) → request < number_of (puts client) late_log → request < number_of (takes client) (before (puts client) request late_log)
late_after = after_one late_log (λ client. refl) (omega arith)

late_follows : (proxy place : ℕ) → number_of (drops proxy place) late_log ≡ 0 → (untaken : List Tag)
    × (tags_through one_home proxy (first_only (flushed ∷ []) place) ++ untaken ≡ tags_of (commands_to place (of_proxy one_home proxy (replied ∷ []))))
late_follows =
    followed_one (replied ∷ []) (first_only (flushed ∷ [])) late_log (λ place none. follows_one (0 == place) flushed (flush, tag_of 0 0 0) refl)

late_reply : (tag : Tag) (place : ℕ) (atom : Atom (List ℕ)) (reply : AReply (List ℕ)) → command_at (replied ∷ []) tag ≡ Some (to_place place atom)
    → outcome_at (replied ∷ []) tag ≡ Some (outcomes.Reply reply) → HasReply (first_only (flushed ∷ []) place) tag (spelling_of atom reply)
late_reply tag place atom reply at became =
    let found = in_request (asked_at (replied ∷ []) tag.session tag.request) tag.atom (to_place place atom) at in
    let o = asked_only replied tag.session tag.request found.0 refl found.1 in
    let routed = one_here (to_place 0 flush) tag.atom (to_place place atom) (ap (λ (x : TakenRequest). slice_get (route_of_taken x.ring x.what) tag.atom) (sym o.2) ∙ found.2) in
    let there : place ≡ 0 = ap (λ (c : Routed). c.server) routed.1 in
    let asked : atom ≡ flush = ap (λ (c : Routed). c.atom) routed.1 in
    let told : reply ≡ Flushed = ap reply_in (one_outcome one_server flush_asked (outcomes.Reply Flushed) tag (outcomes.Reply reply) became) in (
      0,
      flushed,
      ap (λ (p : ℕ). slice_get (first_only (flushed ∷ []) p) 0) there,
      tag_is tag 0 o.0 o.1 routed.0,
      ap₂ (λ (a : Atom (List ℕ)) (r : AReply (List ℕ)). spelling_of a r) (sym asked) (sym told),
    )

late_lives : (place life : ℕ) → IsLegal (replied ∷ []) place a_cache (in_life place life late_log (first_only (flushed ∷ []) place))
late_lives = lives_of_first (replied ∷ []) a_cache (flushed ∷ []) late_log (λ place. refl) late_legal

late_but : (losses : Losses) → AccountsBut Unanswered one_home losses one_server a_cache (replied ∷ []) flush_text (outs_of losses (replied ∷ []) late_log) (first_only (flushed ∷ [])) late_log
late_but losses =
    grind (arith, a_cache, asked_only, asked_text, complete_of, first_there, flush_asked, flushed, moments_one, no_loss, numbered_one, once_in_one, one_here, one_server, own_by, late_lives, late_reply, late_after, late_follows)

pub without_unanswered : Allows Unanswered (λ home ring opening texts outs histories log. (e : Entry) × (slice_get (histories 0) 0 ≡ Some e)
    × LinkHeld home 0 (tag_in e) log × (NotAnswered (tag_in e) (before (serves 0) 0 log) → ⊥))
without_unanswered losses = (
  one_home,
  one_server,
  a_cache,
  flush_text,
  outs_of losses (replied ∷ []) late_log,
  first_only (flushed ∷ []),
  late_log,
  (replied ∷ [], late_but losses),
  (flushed, refl, λ lost. (let inside = lost.1 in omega (arith, inside)), λ fresh. omega (arith, fresh)),
)
