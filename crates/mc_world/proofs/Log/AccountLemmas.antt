-- An empty log leaves a pool so; and if a log leaves a pool so, the account is given.
use Rattle.std.proofs.Common.{◌≡◌, ◌∙◌, ⊎_elim, ℕ, zero, suc, ◌<◌, inl, inr, List, [], length, map, take, Option, None, Some, slice_get, refl, sym, ap, subst, append-nil, arith}
use Rattle.std.specs.Prelude.{All}
use Rattle.std.proofs.lemmas.Bool.{cases_lt}
use Rattle.std.proofs.lemmas.List.Elements.{All-nil}
use Rattle.std.proofs.lemmas.Option.{none-some, same_Some}
use Rattle.mc_request.specs.declared.parts.Atom.{Atom}
use Rattle.mc_reply.specs.Spelling.{spelling_of}
use Rattle.mc_reply.specs.declared.replies.Reply.{Reply as AReply}
use Rattle.mc_ring.specs.Rings.{IsRing, RingState}
use Rattle.mc_route.specs.Routes.{to_place}
use Rattle.mc_route.specs.declared.routes.Routed.{Routed}
use Rattle.mc_route.specs.declared.losses.Losses.{Losses}
use Rattle.mc_route.specs.declared.outcomes.Outcome.TheVariants.{Lost, Reply}
use Rattle.mc_link.specs.declared.turns.Tag.{Tag}
use Rattle.mc_proxy.specs.ProxyState.{ProxyState}
use Rattle.mc_cache.specs.CacheState.{CacheState}
use Rattle.mc_account.specs.Lanes.{Lane}
use Rattle.mc_account.specs.Lookups.{IsBefore, IsRoutedWithin, command_at, command_in, outcome_at}
use Rattle.mc_account.specs.Orders.{HasChoice, Order, TakenRequest, answers_of, entries_of}
use Rattle.mc_account.proofs.StayingLemmas.{answers_nothing}
use Rattle.mc_account.proofs.WithinLemmas.{commands_within}
use Rattle.mc_history.specs.Histories.{HasReply, tag_in}
use Rattle.mc_history.specs.declared.entries.Entry.{Entry}
use Rattle.mc_world.specs.Accounts.{Accounts, NotAnswered, answers_by}
use Rattle.mc_world.specs.CourseHolds.{HaveNothingBefore, LivesHold}
use Rattle.mc_world.specs.Homes.{of_proxy}
use Rattle.mc_world.specs.LogHolds.{AreOrdered, IsFresh, IsPlaced, LogHolds}
use Rattle.mc_world.specs.Logs.{Log, before, number_of, puts, serves}
use Rattle.mc_world.specs.Pools.{PoolHolds}
use Rattle.mc_world.specs.WorldState.{PoolState, StaleState, histories_of, home_of, proxy_at}
use Rattle.mc_world.proofs.Homes.OrderLemmas.{command_own, entries_own, numbered_whole}
use Rattle.mc_world.proofs.PoolEvents.CommandLemmas.{commands_accounted}
use Rattle.mc_world.proofs.PoolEvents.ProxyLemmas.{proxy_past}
use Rattle.mc_world.proofs.Log.FollowLemmas.{followed}
use Rattle.mc_world.proofs.Log.LifeLemmas.{lives_legal}
use Rattle.mc_world.proofs.Log.EntryLemmas.{got_some, history_at}
use Rattle.mc_world.proofs.Log.PolicyLemmas.{answers_chosen}

none_at : {X : Type 0} (k : ℕ) → ◌≡◌ {A = Option X} (slice_get [] k) None
none_at zero = refl
none_at (suc k) = refl

-- no request has no command
no_command : (tag : Tag) → ◌≡◌ {A = Option Routed} (command_at [] tag) None
no_command tag = ap (λ (o : Option TakenRequest). command_in o tag.atom) (none_at tag.request)

pub log_begins : (opening : RingState) (pool : PoolState) → IsFresh opening pool → LogHolds opening [] (λ client. []) [] pool
log_begins opening pool h =
    let no_entry : (place k : ℕ) (e : Entry) → slice_get (histories_of pool.sites place) k ≡ Some e → ⊥ = λ place k e at.
    none-some e (sym (none_at k) ∙ ap (λ (es : List Entry). slice_get es k) (sym (h.histories place)) ∙ at) in
    record {
      servers = record {
        ring = h.ring;
        is_ring = λ proxy inside. subst (λ (r : RingState). IsRing r) (sym (h.ring proxy inside)) h.is_ring;
        linked = h.linked;
        sited = λ proxy. ⊎_elim
            (λ inside.
            let servers : length (proxy_at pool proxy).ring.servers ≡ length opening.servers = ap (λ (r : RingState). length r.servers) (h.ring proxy inside) in
            omega (arith, servers, h.linked proxy, h.sited))
            (λ past.
            let none : length (proxy_at pool proxy).links ≡ 0 = ap (λ (p : ProxyState). length p.links) (proxy_past proxy pool.proxies past) in
            omega (arith, none))
            (cases_lt proxy (length pool.proxies));
        ways = h.ways;
        links = λ proxy place inside. sym (h.ups proxy place inside);
        no_links = λ proxy place past. refl;
      };
      requests = record {
        turns = refl;
        rings = λ client request e at. absurd (none-some e (sym (none_at request) ∙ at));
        inside = λ proxy. All-nil (IsRoutedWithin (length (proxy_at pool proxy).links));
      };
      answers = record {
        put = λ client. answers_nothing client [];
        after = λ client request early. absurd (omega (arith, early));
        unanswered = h.unanswered;
      };
      histories = record {
        moments = λ place. ap (λ (es : List Entry). map (λ (e : Entry). e.moment) es) (h.histories place);
        placed = λ place k e at. absurd (no_entry place k e at);
        ordered = λ place j k d e first second lt. absurd (no_entry place j d first);
      };
      commands = record {
        told = λ tag place atom outcome command known. absurd (none-some (to_place place atom) (sym (no_command tag) ∙ command));
        untaken = λ place i j site way tag at way_at tag_at.
            absurd (none-some way (sym (none_at i) ∙ ap (λ (ways : List StaleState). slice_get ways i) (sym (h.none_lost place site at)) ∙ way_at));
      };
    }

-- a reply is no loss
reply_is_not_lost : (order : Order) (tag : Tag) (reply : AReply (List ℕ)) → outcome_at order tag ≡ Some (Reply reply) → outcome_at order tag ≡ Some Lost → ⊥
reply_is_not_lost order tag reply known lost =
    let same : Reply reply ≡ Lost = same_Some (Reply reply) Lost (sym known ∙ lost) in absurd cc

ordered_replies : (order : Order) (d e : Entry) (r q : AReply (List ℕ)) → AreOrdered order d e → d.client ≡ e.client → outcome_at order (tag_in d) ≡ Some (Reply r)
    → outcome_at order (tag_in e) ≡ Some (Reply q) → IsBefore (tag_in d) (tag_in e)
ordered_replies order d e r q h same first second = elim (h same) [
  | inl lost ↦ absurd (reply_is_not_lost order (tag_in d) r first lost)
  | inr k ↦ (elim k [
    | inl lost ↦ absurd (reply_is_not_lost order (tag_in e) q second lost)
    | inr earlier ↦ earlier
  ])
]

placed_reply : (order : Order) (log : Log) (e : Entry) (reply : AReply (List ℕ)) → IsPlaced order log e → outcome_at order (tag_in e) ≡ Some (Reply reply) → NotAnswered (tag_in e) log
placed_reply order log e reply h known = elim h.answered [
  | inl lost ↦ absurd (reply_is_not_lost order (tag_in e) reply known lost)
  | inr unanswered ↦ unanswered
]

-- a reply is that of its server's history
replied_at : (ring : RingState) (opening : CacheState) (texts sent : ℕ → List ℕ) (order : Order) (lanes : ℕ → ℕ → Lane) (outs : ℕ → List ℕ) (log : Log) (pool : PoolState)
    → PoolHolds opening texts sent order lanes pool → LogHolds ring order outs log pool → (tag : Tag) (place : ℕ) (atom : Atom (List ℕ)) (reply : AReply (List ℕ))
    → command_at order tag ≡ Some (to_place place atom) → outcome_at order tag ≡ Some (Reply reply) → HasReply (histories_of pool.sites place) tag (spelling_of atom reply)
replied_at ring opening texts sent order lanes outs log pool holds h tag place atom reply command known =
    let proxy : ℕ = home_of pool tag.session in
    let linked = commands_within (length (proxy_at pool proxy).links) (of_proxy (home_of pool) proxy order) (h.requests.inside proxy) tag (to_place place atom)
    (command_own (home_of pool) proxy order tag refl ∙ command) in
    let site = got_some pool.sites place (omega (arith, linked, h.servers.sited proxy)) in
    subst (λ (es : List Entry). HasReply es tag (spelling_of atom reply)) (sym (history_at pool.sites place site.0 site.1))
    ((holds.sites place site.0 site.1).replied tag atom reply command known)

-- no request has no answer
answers_none : (losses : Losses) (n : ℕ) → answers_of (take n []) ≡ answers_by losses (take n [])
answers_none losses zero = refl
answers_none losses (suc n) = refl

-- the answers to a client's first requests are by the choice of its proxy; no request of a client without a proxy was taken
chosen_at : (opening : CacheState) (texts sent : ℕ → List ℕ) (order : Order) (lanes : ℕ → ℕ → Lane) (pool : PoolState) (losses : Losses)
    → PoolHolds opening texts sent order lanes pool → ((proxy : ℕ) → proxy < length pool.proxies → (proxy_at pool proxy).losses ≡ losses) → (client n : ℕ)
    → answers_of (take n (entries_of client order)) ≡ answers_by losses (take n (entries_of client order))
chosen_at opening texts sent order lanes pool losses h same client n =
    let proxy : ℕ = home_of pool client in
    let mine : entries_of client (of_proxy (home_of pool) proxy order) ≡ entries_of client order = entries_own (home_of pool) proxy client order refl in
    subst (λ (es : Order). answers_of (take n es) ≡ answers_by losses (take n es)) mine
    (⊎_elim
    (λ inside. answers_chosen losses client n (of_proxy (home_of pool) proxy order)
    (subst (λ (l : Losses). All (HasChoice l) (of_proxy (home_of pool) proxy order)) (same proxy inside) (h.proxies proxy).chosen))
    (λ past.
    let none : (proxy_at pool proxy).admitted ≡ 0 = ap (λ (p : ProxyState). p.admitted) (proxy_past proxy pool.proxies past) in
    let nothing : entries_of client (of_proxy (home_of pool) proxy order) ≡ [] = ((h.proxies proxy).unused client (omega (arith, none))).nothing_taken in
    subst (λ (es : Order). answers_of (take n es) ≡ answers_by losses (take n es)) (sym nothing) (answers_none losses n))
    (cases_lt proxy (length pool.proxies)))

-- the whole account
pub log_accounts : (losses : Losses) (ring : RingState) (opening : CacheState) (texts sent : ℕ → List ℕ) (order : Order) (lanes : ℕ → ℕ → Lane) (outs : ℕ → List ℕ) (log : Log) (pool : PoolState)
    → PoolHolds opening texts sent order lanes pool → LogHolds ring order outs log pool → ((proxy : ℕ) → proxy < length pool.proxies → (proxy_at pool proxy).losses ≡ losses)
    → HaveNothingBefore (home_of pool) order lanes log → LivesHold opening order log pool.sites
    → Accounts (home_of pool) losses ring opening order texts outs (histories_of pool.sites) log
log_accounts losses ring opening texts sent order lanes outs log pool holds h same nothing lives =
    let commands = commands_accounted opening texts sent order lanes pool holds in
    record {
      asked = commands.asked;
      turns = h.requests.turns;
      numbered = numbered_whole (home_of pool) order (λ proxy. (holds.proxies proxy).numbered);
      rings = h.requests.rings;
      sized = commands.sized;
      legal = lives_legal ring opening order outs log pool h commands.legal lives;
      once = commands.once;
      replied = replied_at ring opening texts sent order lanes outs log pool holds h;
      lost = λ tag place atom command lost. h.commands.told tag place atom Lost command lost;
      ordered = λ place j k d e r q first second lt mine replied also. ordered_replies order d e r q (h.histories.ordered place j k d e first second lt) mine replied also;
      followed = followed ring opening texts sent order lanes outs log pool holds h nothing;
      answered = λ client. (h.answers.put client).complete;
      put = λ client.
          sym (append-nil (outs client)) ∙ (h.answers.put client).answers
          ∙ chosen_at opening texts sent order lanes pool losses holds same client (number_of (puts client) log);
      after = h.answers.after;
      moments = h.histories.moments;
      placed = λ place k e at.
          let p = h.histories.placed place k e at in
          (p.taken, λ reply known. placed_reply order (before (serves place) k log) e reply p known);
    }
