-- A proxy that dies: its clients go, and its links are lost.
use Rattle.std.proofs.Common.{◌≡◌, ◌≢◌, ◌∙◌, ⊎_elim, ℕ, ◌+◌, ◌<◌, ◌≤◌, ◌==◌, true, false, List, [], ◌∷◌, ◌++◌, length, Option, None, Some, refl, sym, ap, subst, arith}
use Rattle.std.specs.List.{list_all}
use Rattle.std.proofs.lemmas.Bool.{cases_lt}
use Rattle.std.proofs.lemmas.Bool.Decides.{eqb_tells}
use Rattle.std.proofs.lemmas.List.{length-set}
use Rattle.std.proofs.lemmas.Option.{none-some}
use Rattle.mc_link.specs.LinkState.{LinkState, down_link}
use Rattle.mc_account.proofs.CountLemmas.{answered-lost}
use Rattle.mc_account.proofs.LaneLemmas.{up_is_there}
use Rattle.mc_account.proofs.OpenSessions.{own_number}
use Rattle.mc_proxy.specs.LinkTurns.{lost_at}
use Rattle.mc_proxy.specs.SessionState.{SessionState}
use Rattle.mc_world.specs.declared.errors.Step.{Step}
use Rattle.mc_world.specs.declared.errors.Step.TheVariants.{Done, Nothing}
use Rattle.mc_world.specs.declared.events.Event.{Event}
use Rattle.mc_world.specs.declared.events.Event.TheVariants.{ClientGone, LinkLost}
use Rattle.mc_world.specs.Applies.{IsUp}
use Rattle.mc_world.specs.Courses.{CourseServes, IsDone}
use Rattle.mc_world.specs.Homes.{home_in}
use Rattle.mc_world.specs.Pools.{LosesLink}
use Rattle.mc_world.specs.ProxyRestarts.{HasNoClient, IsAnew, ProxyDies, is_of_restart}
use Rattle.mc_world.specs.Steps.{StepsTo}
use Rattle.mc_world.specs.WorldState.{PoolState, home_of, link_of, proxy_at, session_of}
use Rattle.mc_world.specs.Worlds.{CourseState}
use Rattle.mc_world.proofs.Course.CourseLemmas.{with_client-length}
use Rattle.mc_world.proofs.Drain.DrainLemmas.{all_append, done_append}
use Rattle.mc_world.proofs.Log.RequestLemmas.{WasOpen}
use Rattle.mc_world.proofs.Log.StillLemmas.{open_as_many, open_becomes, open_without}
use Rattle.mc_world.proofs.PoolEvents.ProxyLemmas.{link_becomes, link_elsewhere}

-- such events were done, and what they leave as it was
pub record IsDying (proxy : ℕ) (start now : CourseState) : Type 0 where
  pub dies : ProxyDies proxy start now
  pub homes : now.pool.homes ≡ start.pool.homes
  pub sites : length now.pool.sites ≡ length start.pool.sites
  pub clients : length now.clients ≡ length start.clients

pub dying_none : (proxy : ℕ) (c : CourseState) → IsDying proxy c c
dying_none proxy c = record { dies = record { events = []; all = refl; done = refl }; homes = refl; sites = refl; clients = refl }

-- one more of these events was done
dying_more : (proxy : ℕ) (event : Event (List ℕ)) (start now next : CourseState) → IsDying proxy start now → is_of_restart (home_of now.pool) proxy event ≡ true → IsDone event now next
    → next.pool.homes ≡ now.pool.homes → length next.pool.sites ≡ length now.pool.sites → length next.clients ≡ length now.clients → IsDying proxy start next
dying_more proxy event start now next h is done homes sites clients =
    let of_start : is_of_restart (home_of start.pool) proxy event ≡ true = ap (λ (hs : List ℕ). is_of_restart (home_in hs) proxy event) (sym h.homes) ∙ is in
    record {
      dies = record {
        events = h.dies.events ++ event ∷ [];
        all = all_append (is_of_restart (home_of start.pool) proxy) h.dies.events (event ∷ []) h.dies.all (grind (arith, of_start));
        done = done_append h.dies.events (event ∷ []) start now next h.dies.done (next, done, refl);
      };
      homes = homes ∙ h.homes;
      sites = sites ∙ h.sites;
      clients = clients ∙ h.clients;
    }

-- a closed session stays closed
abbrev pub StaysClosed : CourseState → CourseState → Type 0
StaysClosed now next = (client : ℕ) → session_of now.pool client ≡ None → session_of next.pool client ≡ None

closed_by : (client : ℕ) (old new : PoolState) (session : Option SessionState) → session_of new client ≡ session → WasOpen old new → session_of old client ≡ None → session ≡ None
closed_by client old new None is opens none = refl
closed_by client old new (Some session) is opens none = let was = opens client session is in absurd (none-some was.0 (sym none ∙ was.1))

stays_closed : (old new : CourseState) → WasOpen old.pool new.pool → StaysClosed old new
stays_closed old new opens client none = closed_by client old.pool new.pool (session_of new.pool client) refl opens none

-- a session that is not there is closed
not_there : (session : Option SessionState) → (session ≢ None → ⊥) → session ≡ None
not_there None gone = refl
not_there (Some session) gone = absurd (gone (λ none. none-some session (sym none)))

-- a client has gone, or had gone before
pub record HasGone (proxy client : ℕ) (start now next : CourseState) : Type 0 where
  pub dying : IsDying proxy start next
  pub gone : session_of next.pool client ≡ None
  pub closed : StaysClosed now next

pub goes : (proxy client : ℕ) (step : Step) (start now next : CourseState) → IsDying proxy start now → home_of now.pool client ≡ proxy → StepsTo (ClientGone client) step now next
    → HasGone proxy client start now next
goes proxy client Done start now next h own s = record {
  dying = dying_more proxy (ClientGone client) start now next h (subst (λ (n : ℕ). (home_of now.pool client == n) ≡ true) own (own_number (home_of now.pool client))) s.does s.does.pool.1.proxy.homes
      (ap (λ ss. length ss) s.does.pool.1.sites) (ap (λ cs. length cs) s.does.clients ∙ with_client-length client _ now.clients);
  gone = s.does.pool.1.not_open;
  closed = stays_closed now next (open_without client now.pool next.pool s.does.pool.1);
}
goes proxy client Nothing start now next h own s =
    let same : next ≡ now = s.does in
    record {
      dying = subst (λ (c : CourseState). IsDying proxy start c) (sym same) h;
      gone = ap (λ (c : CourseState). session_of c.pool client) same ∙ not_there (session_of now.pool client) (λ there. let clash : Nothing ≡ Done = s.applies.1 there in absurd cc);
      closed = λ other none. ap (λ (c : CourseState). session_of c.pool other) same ∙ none;
    }

-- a link that was lost
loss_opens : (proxy place : ℕ) (old new : PoolState) → LosesLink proxy place old new → WasOpen old new
loss_opens proxy place old new e =
    open_becomes proxy (lost_at place (proxy_at old proxy)) old new e.proxy (open_as_many (proxy_at old proxy) (lost_at place (proxy_at old proxy)) (answered-lost place (proxy_at old proxy)))

-- a link is lost, or was down before
pub record HasLostLink (proxy place : ℕ) (start now next : CourseState) : Type 0 where
  pub dying : IsDying proxy start next
  pub down : IsUp proxy place next.pool → ⊥
  pub closed : StaysClosed now next
  pub others : (other : ℕ) → (IsUp proxy other now.pool → ⊥) → IsUp proxy other next.pool → ⊥

loses_there : (proxy place : ℕ) (old new : PoolState) → LosesLink proxy place old new → IsUp proxy place new → ⊥
loses_there proxy place old new e up =
    let down = link_becomes proxy place (down_link (link_of old proxy place).generation) (lost_at place (proxy_at old proxy)) old new e.proxy refl (up_is_there place (proxy_at old proxy).links e.there.up) in
    let clash : false ≡ true = sym (ap (λ (l : LinkState). l.up) down) ∙ up in
    absurd cc

loses_others : (proxy place : ℕ) (old new : PoolState) → LosesLink proxy place old new → (other : ℕ) → (IsUp proxy other old → ⊥) → IsUp proxy other new → ⊥
loses_others proxy place old new e other down up = ⊎_elim
    (λ same. loses_there proxy place old new e (subst (λ (n : ℕ). IsUp proxy n new) (sym same.1) up))
    (λ differ. down (sym (ap (λ (l : LinkState). l.up)
    (link_elsewhere proxy place (down_link (link_of old proxy place).generation) (lost_at place (proxy_at old proxy)) old new e.proxy refl proxy other differ.1)) ∙ up))
    (eqb_tells place other)

pub loses_link : (proxy place : ℕ) (step : Step) (start now next : CourseState) → IsDying proxy start now → StepsTo (LinkLost proxy place) step now next → HasLostLink proxy place start now next
loses_link proxy place Done start now next h s = record {
  dying = dying_more proxy (LinkLost proxy place) start now next h (own_number proxy) s.does s.does.pool.proxy.homes
      (ap (λ ss. length ss) s.does.pool.there.sites ∙ length-set now.pool.sites place s.does.pool.there.now) (ap (λ cs. length cs) s.does.clients);
  down = loses_there proxy place now.pool next.pool s.does.pool;
  closed = stays_closed now next (loss_opens proxy place now.pool next.pool s.does.pool);
  others = loses_others proxy place now.pool next.pool s.does.pool;
}
loses_link proxy place Nothing start now next h s =
    let same : next ≡ now = s.does in
    record {
      dying = subst (λ (c : CourseState). IsDying proxy start c) (sym same) h;
      down = λ up. let clash : Nothing ≡ Done = s.applies.1 (subst (λ (c : CourseState). IsUp proxy place c.pool) same up) in absurd cc;
      closed = λ other none. ap (λ (c : CourseState). session_of c.pool other) same ∙ none;
      others = λ other down up. down (subst (λ (c : CourseState). IsUp proxy other c.pool) same up);
    }

-- the first clients of a proxy have gone; one more has; and all have
abbrev pub AreGone : ℕ → ℕ → PoolState → Type 0
AreGone proxy number pool = (client : ℕ) → client < number → home_of pool client ≡ proxy → session_of pool client ≡ None

pub gone_next : (proxy client : ℕ) (start now next : CourseState) → AreGone proxy client now.pool → next.pool.homes ≡ now.pool.homes → StaysClosed now next
    → (home_of now.pool client ≡ proxy → session_of next.pool client ≡ None) → AreGone proxy (client + 1) next.pool
gone_next proxy client start now next h homes closed one other below own =
    let was : home_of now.pool other ≡ proxy = ap (λ (hs : List ℕ). home_in hs other) (sym homes) ∙ own in
    ⊎_elim
    (λ same. subst (λ (n : ℕ). session_of next.pool n ≡ None) same.1 (one (ap (λ (n : ℕ). home_of now.pool n) same.1 ∙ was)))
    (λ differ. closed other (h other (apart_below client other below differ.1) was))
    (eqb_tells client other)
  where
    apart_below : (a b : ℕ) → b < a + 1 → a ≢ b → b < a
    apart_below a b below differ = ⊎_elim (λ inside. inside) (λ past. absurd (differ (omega (arith, below, past)))) (cases_lt b a)

pub all_gone : (proxy number : ℕ) (c : CourseState) → CourseServes c → length c.clients ≤ number → AreGone proxy number c.pool → HasNoClient proxy c.pool
all_gone proxy number c serves past h client own = by (session_of c.pool client) refl
  where
    by : (session : Option SessionState) → session_of c.pool client ≡ session → session_of c.pool client ≡ None
    by None is = is
    by (Some session) is =
        let inside = serves.clients client session is in
        h client (omega (arith, inside, past)) own

-- the first links of a proxy are down; one more is; and all are
abbrev pub AreDown : ℕ → ℕ → PoolState → Type 0
AreDown proxy number pool = (place : ℕ) → place < number → IsUp proxy place pool → ⊥

pub down_next : (proxy place : ℕ) (start now next : CourseState) → AreDown proxy place now.pool → HasLostLink proxy place start now next → AreDown proxy (place + 1) next.pool
down_next proxy place start now next h lost other below up = ⊎_elim
    (λ same. lost.down (subst (λ (n : ℕ). IsUp proxy n next.pool) (sym same.1) up))
    (λ differ. ⊎_elim
    (λ inside. lost.others other (h other inside) up)
    (λ past. differ.1 (omega (arith, below, past)))
    (cases_lt other place))
    (eqb_tells place other)

pub all_down : (proxy number : ℕ) (c : CourseState) → CourseServes c → length c.pool.sites ≤ number → AreDown proxy number c.pool → HasNoClient proxy c.pool → IsAnew proxy c.pool
all_down proxy number c serves past h gone = record {
  clients = gone;
  links = λ place up.
      let inside = up_is_there place (proxy_at c.pool proxy).links up in
      let few = serves.pool.sited proxy in
      h place (omega (arith, inside, few, past)) up;
}

-- a proxy without clients has none after a link was lost
pub still_none : (proxy : ℕ) {place : ℕ} (start now next : CourseState) → IsDying proxy start now → HasNoClient proxy now.pool → HasLostLink proxy place start now next → HasNoClient proxy next.pool
still_none proxy start now next h gone lost client own =
    lost.closed client (gone client (ap (λ (hs : List ℕ). home_in hs client) (h.homes ∙ sym lost.dying.homes) ∙ own))

-- events of one after events of the other
pub dies_then : (proxy : ℕ) (start mid end : CourseState) → ProxyDies proxy start mid → mid.pool.homes ≡ start.pool.homes → ProxyDies proxy mid end → ProxyDies proxy start end
dies_then proxy start mid end first homes second = record {
  events = first.events ++ second.events;
  all = all_append (is_of_restart (home_of start.pool) proxy) first.events second.events first.all
      (subst (λ (hs : List ℕ). list_all (is_of_restart (home_in hs) proxy) second.events ≡ true) homes second.all);
  done = done_append first.events second.events start mid end first.done second.done;
}
