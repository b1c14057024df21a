-- The caller's thread goes on: one lemma for each of its calls.
use Rattle.std.proofs.Common.{◌≡◌, ◌≢◌, ◌∙◌, ⊎_elim, ℕ, ◌<◌, ◌+◌, true, List, [], ◌∷◌, ◌++◌, length, drop, take, Option, Some, None, refl, sym, ap, subst, append_assoc, arith}
use Rattle.std.specs.Prelude.{All}
use Rattle.std.specs.Option.{option_map}
use Rattle.std.proofs.lemmas.Bool.Decides.{eqb_tells}
use Rattle.std.proofs.Math.Seq.{take-length}
use Rattle.std.proofs.lemmas.List.{take-append-drop}
use Rattle.std.proofs.lemmas.List.Elements.{All-append, All-cons, All-head, All-nil, All-push, All-tail}
use Rattle.rtrb.specs.Ring.{sent, received}
use Rattle.mc_ring.specs.Rings.{RingState}
use Rattle.mc_route.specs.Routes.{route_of_taken}
use Rattle.mc_route.specs.declared.outcomes.Outcome.{Outcome}
use Rattle.mc_route.specs.declared.outcomes.Outcome.TheVariants.{Reply}
use Rattle.mc_route.specs.declared.losses.Losses.{Losses}
use Rattle.mc_link.specs.LinkState.{LinkState}
use Rattle.mc_link.specs.declared.turns.Tag.{Tag}
use Rattle.mc_proxy.specs.Emits.{IsEmit}
use Rattle.mc_proxy.specs.SessionNoting.{set_outcome_in_session}
use Rattle.mc_proxy.specs.Sending.{handed}
use Rattle.mc_proxy.specs.SessionState.{SessionState, fresh_session, link_at, with_link}
use Rattle.mc_proxy.specs.SessionTurns.{IsFed, IsTurn, IsUnchanged}
use Rattle.mc_proxy.specs.declared.session_turns.Emit.{Emit}
use Rattle.mc_proxy.specs.declared.session_turns.Emit.TheVariants as emits
use Rattle.mc_proxy.specs.declared.session_turns.SessionTurn.{SessionTurn}
use Rattle.mc_proxy.specs.declared.session_turns.SessionTurn.TheVariants as turns
use Rattle.mc_proxy.specs.LinkTurns.{Answers}
use Rattle.mc_proxy.specs.Noting.{noted}
use Rattle.mc_proxy.specs.ProxyState.{ProxyState, Sessions, output_of, sent_by, session_at, session_in, updated, with_fresh}
use Rattle.mc_proxy.specs.Turns.{Alone, Steps}
use Rattle.mc_account.specs.Lanes.{Lane, LaneHolds, LinkHolds, replies_text}
use Rattle.mc_account.specs.Orders.{Order, TakenRequest, commands_from, commands_to, note, note_in}
use Rattle.mc_account.specs.Holds.{ProxyHolds, changed, grown}
use Rattle.mc_account.proofs.HandingLemmas.{handed_at, received_up}
use Rattle.mc_account.proofs.LaneLemmas.{link_other, link_own, up_is_there}
use Rattle.mc_account.proofs.LinkLemmas.{holds-replied}
use Rattle.mc_account.proofs.OpenSessions.{fresh_other, fresh_own, noted_other, noted_own, updated_other, updated_own}
use Rattle.mc_account.proofs.HoldsLemmas.{changed-other, changed-own, entry_taken, holds-admitted, holds-emitted, holds-fed, holds-idle_emit, holds-idle_turn, holds-sent, holds-took}
use Rattle.mc_threads.specs.Links.{Carries, IsMoved, pulled_at, pushed_at}
use Rattle.mc_threads.specs.Talks.{IsOpen, Talks}
use Rattle.mc_threads.specs.declared.links.Ends.{Ends}

-- the invariant holds by functions that are equal at each number
pub holds_as : (texts texts' sent sent' : ℕ → List ℕ) (order : Order) (lanes : ℕ → Lane) (proxy : ProxyState) → ((n : ℕ) → texts n ≡ texts' n) → ((n : ℕ) → sent n ≡ sent' n)
    → ProxyHolds texts sent order lanes proxy → ProxyHolds texts' sent' order lanes proxy
holds_as texts texts' sent sent' order lanes proxy text_is sent_is h =
    let text_same : texts ≡ texts' = λ i n. text_is n i in
    let sent_same : sent ≡ sent' = λ i n. sent_is n i in
    subst (λ (f : ℕ → List ℕ). ProxyHolds texts' f order lanes proxy) sent_same (subst (λ (f : ℕ → List ℕ). ProxyHolds f sent order lanes proxy) text_same h)

pub talks_as : (ring : RingState) (clients : ℕ) (texts texts' outs outs' went went' came came' : ℕ → List ℕ) (proxy : ProxyState) → ((n : ℕ) → texts n ≡ texts' n) → ((n : ℕ) → outs n ≡ outs' n)
    → ((n : ℕ) → went n ≡ went' n) → ((n : ℕ) → came n ≡ came' n) → Talks ring clients texts outs went came proxy → Talks ring clients texts' outs' went' came' proxy
talks_as ring clients texts texts' outs outs' went went' came came' proxy text_is out_is went_same came_same h = record {
  order = h.order;
  lanes = h.lanes;
  holds = holds_as texts texts' outs outs' h.order h.lanes proxy text_is out_is h.holds;
  is_ring = h.is_ring;
  rings = h.rings;
  ring_is = h.ring_is;
  losses_is = h.losses_is;
  admitted = h.admitted;
  is_open = h.is_open;
  bytes = λ n. subst (λ (t : List ℕ). All (λ b. b < 256) t) (text_is n) (h.bytes n);
  up = h.up;
  since = h.since;
  went_is = λ n. h.went_is n ∙ went_same n;
  came_is = λ n. h.came_is n ∙ came_same n;
}

-- open sessions stay open
open_stepped : (number : ℕ) (before after : SessionState) (old new : ProxyState) (client : ℕ) → session_at old number ≡ Some before → new.sessions ≡ updated number after old.sessions
    → IsOpen old client → IsOpen new client
open_stepped number before after old new client was is o =
    ⊎_elim
    (λ e. (after, ap (λ (ss : Sessions). session_in ss client) is ∙ ap (λ (n : ℕ). session_in (updated number after old.sessions) n) (sym e.1) ∙ updated_own number before after old.sessions was))
    (λ e. (o.0, ap (λ (ss : Sessions). session_in ss client) is ∙ updated_other number client after old.sessions e.1 ∙ o.1))
    (eqb_tells number client)

open_noted : (tag : Tag) (outcome : Outcome) (old new : ProxyState) (client : ℕ) → new.sessions ≡ noted tag outcome old.sessions → IsOpen old client → IsOpen new client
open_noted tag outcome old new client is o =
    ⊎_elim
    (λ e. (
      set_outcome_in_session tag outcome o.0,
      ap (λ (ss : Sessions). session_in ss client) is ∙ ap (λ (n : ℕ). session_in (noted tag outcome old.sessions) n) (sym e.1) ∙ noted_own tag outcome old.sessions
          ∙ ap (λ (n : ℕ). option_map (set_outcome_in_session tag outcome) (session_in old.sessions n)) e.1 ∙ ap (λ (s : Option SessionState). option_map (set_outcome_in_session tag outcome) s) o.1,
    ))
    (λ e. (o.0, ap (λ (ss : Sessions). session_in ss client) is ∙ noted_other tag outcome client old.sessions e.1 ∙ o.1))
    (eqb_tells tag.session client)

-- links stay up
up_relinked : (place server : ℕ) (link : LinkState) (links : List LinkState) → link.up ≡ true → (link_at links server).up ≡ true → (link_at (with_link place link links) server).up ≡ true
up_relinked place server link links own other =
    ⊎_elim
    (λ e. ap (λ (n : ℕ). (link_at (with_link place link links) n).up) (sym e.1)
    ∙ ap (λ (l : LinkState). l.up) (link_own place link links (up_is_there place links (ap (λ (n : ℕ). (link_at links n).up) e.1 ∙ other))) ∙ own)
    (λ e. ap (λ (l : LinkState). l.up) (link_other place server link links e.1) ∙ other)
    (eqb_tells place server)

up_handed : (session request server : ℕ) (e : TakenRequest) (links now : List LinkState) → now ≡ handed session request 0 (route_of_taken e.ring e.what) links → (link_at links server).up ≡ true → (link_at now server).up ≡ true
up_handed session request server e links now is up =
    ap (λ (ls : List LinkState). (link_at ls server).up) is
    ∙ ap (λ (l : LinkState). l.up) (handed_at server session request 0 (route_of_taken e.ring e.what) links
    ∙ received_up (commands_from server session request 0 (route_of_taken e.ring e.what)) (link_at links server) up)
    ∙ up

-- rings of an order in which an outcome is noted
rings_noted : (ring : RingState) (tag : Tag) (outcome : Outcome) (es : Order) → All (λ (e : TakenRequest). e.ring ≡ ring) es → All (λ (e : TakenRequest). e.ring ≡ ring) (note tag outcome es)
rings_noted ring tag outcome [] h = All-nil (λ (e : TakenRequest). e.ring ≡ ring)
rings_noted ring tag outcome (e ∷ es) h =
    All-cons (λ (x : TakenRequest). x.ring ≡ ring) (note_in tag outcome e) (note tag outcome es) (All-head (λ (x : TakenRequest). x.ring ≡ ring) e es h)
    (rings_noted ring tag outcome es (All-tail (λ (x : TakenRequest). x.ring ≡ ring) e es h))

-- `turn`
unchanged : (number : ℕ) (turn : SessionTurn) (ring : RingState) (losses : Losses) (links now : List LinkState) (before after : SessionState)
    → turn ≢ turns.Took
    → IsTurn number turn ring losses links now before after → IsUnchanged links now before after
unchanged number turns.Took ring losses links now before after differ step = absurd (differ refl)
unchanged number turns.Idle ring losses links now before after differ step = step.1
unchanged number turns.Waiting ring losses links now before after differ step = step.1
unchanged number turns.Closing ring losses links now before after differ step = step.1

talks_took : (ring : RingState) (clients : ℕ) (texts outs went came : ℕ → List ℕ) (number : ℕ) (old new : ProxyState) → Talks ring clients texts outs went came old
    → Steps number old new (IsTurn number turns.Took old.ring old.losses) → Talks ring clients texts outs went came new
talks_took ring clients texts outs went came number old new h steps = record {
  order = h.order ++ entry_taken steps ∷ [];
  lanes = h.lanes;
  holds = holds-took texts outs h.order h.lanes number old new h.holds steps;
  is_ring = h.is_ring;
  rings = All-push (λ (e : TakenRequest). e.ring ≡ ring) h.order (entry_taken steps) h.rings h.ring_is;
  ring_is = steps.ring ∙ h.ring_is;
  losses_is = steps.losses ∙ h.losses_is;
  admitted = steps.admitted ∙ h.admitted;
  is_open = λ client below. open_stepped number steps.before steps.after old new client steps.was steps.is (h.is_open client below);
  bytes = h.bytes;
  up = λ server below. up_handed number steps.before.taken server (entry_taken steps) old.links new.links steps.step.1.sent (h.up server below);
  since = h.since;
  went_is = h.went_is;
  came_is = h.came_is;
}

talks_idled : (ring : RingState) (clients : ℕ) (texts outs went came : ℕ → List ℕ) (number : ℕ) (turn : SessionTurn) (old new : ProxyState) → turn ≢ turns.Took
    → Talks ring clients texts outs went came old → Steps number old new (IsTurn number turn old.ring old.losses) → Talks ring clients texts outs went came new
talks_idled ring clients texts outs went came number turn old new differ h steps =
    let same = unchanged number turn old.ring old.losses old.links new.links steps.before steps.after differ steps.step in
    record {
      order = h.order;
      lanes = h.lanes;
      holds = holds-idle_turn texts outs h.order h.lanes number turn old new h.holds differ steps;
      is_ring = h.is_ring;
      rings = h.rings;
      ring_is = steps.ring ∙ h.ring_is;
      losses_is = steps.losses ∙ h.losses_is;
      admitted = steps.admitted ∙ h.admitted;
      is_open = λ client below. open_stepped number steps.before steps.after old new client steps.was steps.is (h.is_open client below);
      bytes = h.bytes;
      up = λ server below. ap (λ (ls : List LinkState). (link_at ls server).up) same.0 ∙ h.up server below;
      since = h.since;
      went_is = h.went_is;
      came_is = h.came_is;
    }

pub talks_turned : (ring : RingState) (clients : ℕ) (texts outs went came : ℕ → List ℕ) (number : ℕ) (turn : SessionTurn) (old new : ProxyState) → Talks ring clients texts outs went came old
    → Steps number old new (IsTurn number turn old.ring old.losses) → Talks ring clients texts outs went came new
talks_turned ring clients texts outs went came number turns.Took old new h steps = talks_took ring clients texts outs went came number old new h steps
talks_turned ring clients texts outs went came number turns.Idle old new h steps = talks_idled ring clients texts outs went came number turns.Idle old new (λ is. absurd cc) h steps
talks_turned ring clients texts outs went came number turns.Waiting old new h steps = talks_idled ring clients texts outs went came number turns.Waiting old new (λ is. absurd cc) h steps
talks_turned ring clients texts outs went came number turns.Closing old new h steps = talks_idled ring clients texts outs went came number turns.Closing old new (λ is. absurd cc) h steps

-- `emit`, and the bytes that it emitted are moved
emitted_alone : (ring : RingState) (clients : ℕ) (texts outs went came : ℕ → List ℕ) (number : ℕ) (emit : Emit) (old new : ProxyState) (h : Talks ring clients texts outs went came old)
    → Steps number old new (Alone (IsEmit emit)) → ProxyHolds texts outs h.order h.lanes new → Talks ring clients texts outs went came new
emitted_alone ring clients texts outs went came number emit old new h steps holds = record {
  order = h.order;
  lanes = h.lanes;
  holds = holds;
  is_ring = h.is_ring;
  rings = h.rings;
  ring_is = steps.ring ∙ h.ring_is;
  losses_is = steps.losses ∙ h.losses_is;
  admitted = steps.admitted ∙ h.admitted;
  is_open = λ client below. open_stepped number steps.before steps.after old new client steps.was steps.is (h.is_open client below);
  bytes = h.bytes;
  up = λ server below. ap (λ (ls : List LinkState). (link_at ls server).up) steps.step.0 ∙ h.up server below;
  since = h.since;
  went_is = h.went_is;
  came_is = h.came_is;
}

pub talks_emitted : (ring : RingState) (clients : ℕ) (texts outs went came : ℕ → List ℕ) (number : ℕ) (emit : Emit) (old new : ProxyState) → Talks ring clients texts outs went came old
    → Steps number old new (Alone (IsEmit emit)) → Talks ring clients texts outs went came new
talks_emitted ring clients texts outs went came number emits.Done old new h steps =
    emitted_alone ring clients texts outs went came number emits.Done old new h steps (holds-emitted texts outs h.order h.lanes number old new h.holds steps)
talks_emitted ring clients texts outs went came number emits.Idle old new h steps =
    emitted_alone ring clients texts outs went came number emits.Idle old new h steps (holds-idle_emit texts outs h.order h.lanes number old new h.holds steps)

-- of a session that was sent bytes
open_sent : (number count : ℕ) (session : Option SessionState) (old : ProxyState) (client : ℕ) → session_at old number ≡ session → IsOpen old client → IsOpen (sent_by number count session old) client
open_sent number count None old client was o = o
open_sent number count (Some before) old client was o =
    open_stepped number before (record before { output = drop count before.output }) old (sent_by number count (Some before) old) client was refl o

links_sent : (number count : ℕ) (session : Option SessionState) (old : ProxyState) → (sent_by number count session old).links ≡ old.links
links_sent number count None old = refl
links_sent number count (Some before) old = refl

ring_sent : (number count : ℕ) (session : Option SessionState) (old : ProxyState) → (sent_by number count session old).ring ≡ old.ring
ring_sent number count None old = refl
ring_sent number count (Some before) old = refl

losses_sent : (number count : ℕ) (session : Option SessionState) (old : ProxyState) → (sent_by number count session old).losses ≡ old.losses
losses_sent number count None old = refl
losses_sent number count (Some before) old = refl

admitted_sent : (number count : ℕ) (session : Option SessionState) (old : ProxyState) → (sent_by number count session old).admitted ≡ old.admitted
admitted_sent number count None old = refl
admitted_sent number count (Some before) old = refl

talks_sent : (ring : RingState) (clients : ℕ) (texts outs went came : ℕ → List ℕ) (number count : ℕ) (old : ProxyState) → Talks ring clients texts outs went came old
    → Talks ring clients texts (grown number (take count (output_of (session_at old number))) outs) went came (sent_by number count (session_at old number) old)
talks_sent ring clients texts outs went came number count old h = record {
  order = h.order;
  lanes = h.lanes;
  holds = holds-sent texts outs h.order h.lanes number count old h.holds;
  is_ring = h.is_ring;
  rings = h.rings;
  ring_is = ring_sent number count (session_at old number) old ∙ h.ring_is;
  losses_is = losses_sent number count (session_at old number) old ∙ h.losses_is;
  admitted = admitted_sent number count (session_at old number) old ∙ h.admitted;
  is_open = λ client below. open_sent number count (session_at old number) old client refl (h.is_open client below);
  bytes = h.bytes;
  up = λ server below. ap (λ (ls : List LinkState). (link_at ls server).up) (links_sent number count (session_at old number) old) ∙ h.up server below;
  since = h.since;
  went_is = h.went_is;
  came_is = h.came_is;
}

-- the bytes emitted to a client, at its own number and at another
changed_as : (number : ℕ) (now : List ℕ) (more : List ℕ) (outs : ℕ → List ℕ) → now ≡ outs number ++ more → (n : ℕ) → grown number more outs n ≡ changed number now outs n
changed_as number now more outs is n = ap (λ (bytes : List ℕ). changed number bytes outs n) (sym is)

pub talks_moved : (ring : RingState) (clients : ℕ) (texts outs went came : ℕ → List ℕ) (number : ℕ) (old new : ProxyState) (output grown_to : List ℕ) → Talks ring clients texts outs went came old
    → outs number ≡ output → IsMoved number old new output grown_to → Talks ring clients texts (changed number grown_to outs) went came new
talks_moved ring clients texts outs went came number old new output grown_to h is e =
    let more : List ℕ = output_of (session_at old number) in
    let all : grown_to ≡ outs number ++ take (length (output_of (session_at old number))) (output_of (session_at old number)) =
    e.moved ∙ ap (λ (bytes : List ℕ). bytes ++ output_of (session_at old number)) (sym is)
    ∙ ap (λ (bytes : List ℕ). outs number ++ bytes) (sym (take-length (output_of (session_at old number)))) in
    subst (λ (p : ProxyState). Talks ring clients texts (changed number grown_to outs) went came p) (sym e.sent)
    (talks_as ring clients texts texts (grown number (take (length (output_of (session_at old number))) (output_of (session_at old number))) outs) (changed number grown_to outs) went went came came
    (sent_by number (length (output_of (session_at old number))) (session_at old number) old)
    (λ n. refl) (changed_as number grown_to (take (length (output_of (session_at old number))) (output_of (session_at old number))) outs all) (λ n. refl) (λ n. refl)
    (talks_sent ring clients texts outs went came number (length (output_of (session_at old number))) old h))

-- the link of one place is replaced, with its lane
relinked : (texts sent : ℕ → List ℕ) (order : Order) (lanes : ℕ → Lane) (place : ℕ) (lane : Lane) (link : LinkState) (old : ProxyState) → place < length old.links
    → LinkHolds place order lane link → ProxyHolds texts sent order lanes old → ProxyHolds texts sent order (changed place lane lanes) (record old { links = with_link place link old.links })
relinked texts sent order lanes place lane link old inside own h = record {
  sized = h.sized;
  chosen = h.chosen;
  numbered = h.numbered;
  sessions = h.sessions;
  unused = h.unused;
  links = λ other. ⊎_elim
      (λ e. subst (λ (p : ℕ). LinkHolds p order (changed place lane lanes p) (link_at (with_link place link old.links) p)) e.1
      (subst (λ (l : Lane). LinkHolds place order l (link_at (with_link place link old.links) place)) (sym (changed-own place lane lanes))
      (subst (λ (l : LinkState). LinkHolds place order lane l) (sym (link_own place link old.links inside)) own)))
      (λ e. subst (λ (l : Lane). LinkHolds other order l (link_at (with_link place link old.links) other)) (sym (changed-other place other lane lanes e.1))
      (subst (λ (l : LinkState). LinkHolds other order (lanes other) l) (sym (link_other place other link old.links e.1)) (h.links other)))
      (eqb_tells place other);
}

-- what is read off a function that is changed at a place
read_changed : (f : Lane → List ℕ) (place : ℕ) (lane : Lane) (lanes : ℕ → Lane) (went : ℕ → List ℕ) (now : List ℕ) → ((n : ℕ) → f (lanes n) ≡ went n) → f lane ≡ now
    → (n : ℕ) → f (changed place lane lanes n) ≡ changed place now went n
read_changed f place lane lanes went now is own n =
    ⊎_elim
    (λ e. subst (λ (m : ℕ). f (changed place lane lanes m) ≡ changed place now went m) e.1
    (ap f (changed-own place lane lanes) ∙ own ∙ sym (changed-own place now went)))
    (λ e. ap f (changed-other place n lane lanes e.1) ∙ is n ∙ sym (changed-other place n now went e.1))
    (eqb_tells place n)

-- a function that stays at a place
read_same : (f : Lane → List ℕ) (place : ℕ) (lane : Lane) (lanes : ℕ → Lane) (went : ℕ → List ℕ) → ((n : ℕ) → f (lanes n) ≡ went n) → f lane ≡ f (lanes place)
    → (n : ℕ) → f (changed place lane lanes n) ≡ went n
read_same f place lane lanes went is own n =
    ⊎_elim
    (λ e. subst (λ (m : ℕ). f (changed place lane lanes m) ≡ went m) e.1 (ap f (changed-own place lane lanes) ∙ own ∙ is place))
    (λ e. ap f (changed-other place n lane lanes e.1) ∙ is n)
    (eqb_tells place n)

since_changed : (place : ℕ) (lane : Lane) (lanes : ℕ → Lane) → ((n : ℕ) → (lanes n).since ≡ 0) → lane.since ≡ 0 → (n : ℕ) → (changed place lane lanes n).since ≡ 0
since_changed place lane lanes is own n =
    ⊎_elim
    (λ e. subst (λ (m : ℕ). (changed place lane lanes m).since ≡ 0) e.1 (ap (λ (l : Lane). l.since) (changed-own place lane lanes) ∙ own))
    (λ e. ap (λ (l : Lane). l.since) (changed-other place n lane lanes e.1) ∙ is n)
    (eqb_tells place n)

-- a link sent bytes
talks_pushed : (ring : RingState) (clients : ℕ) (texts outs went came : ℕ → List ℕ) (place count : ℕ) (now : List ℕ) (old : ProxyState) → place < length ring.servers
    → now ≡ went place ++ take count (link_at old.links place).output → Talks ring clients texts outs went came old
    → Talks ring clients texts outs (changed place now went) came (pushed_at place count old)
talks_pushed ring clients texts outs went came place count now old below is h =
    let piece : List ℕ = take count (link_at old.links place).output in
    let after : LinkState = record (link_at old.links place) { output = drop count (link_at old.links place).output } in
    let lane : Lane = record (h.lanes place) { out = (h.lanes place).out ++ take count (link_at old.links place).output } in
    let up = h.up place below in
    let inside = up_is_there place old.links up in
    let holds = (h.holds.links place).0 up in
    let own : LaneHolds place h.order lane after = record {
      since = holds.since;
      put = append_assoc (h.lanes place).out piece (drop count (link_at old.links place).output)
          ∙ ap (λ (bytes : List ℕ). (h.lanes place).out ++ bytes) (take-append-drop count (link_at old.links place).output) ∙ holds.put;
      came = holds.came;
      can = holds.can;
      waiting = holds.waiting;
      outcomes = holds.outcomes;
      before = holds.before;
    } in
    record {
      order = h.order;
      lanes = changed place lane h.lanes;
      holds = relinked texts outs h.order h.lanes place lane after old inside (λ _. own, λ down. absurd (down up)) h.holds;
      is_ring = h.is_ring;
      rings = h.rings;
      ring_is = h.ring_is;
      losses_is = h.losses_is;
      admitted = h.admitted;
      is_open = h.is_open;
      bytes = h.bytes;
      up = λ server low. up_relinked place server after old.links up (h.up server low);
      since = since_changed place lane h.lanes h.since (h.since place);
      went_is = read_changed (λ (l : Lane). l.out) place lane h.lanes went now h.went_is (ap (λ (bytes : List ℕ). bytes ++ piece) (h.went_is place) ∙ sym is);
      came_is = read_same (λ (l : Lane). l.came) place lane h.lanes came h.came_is refl;
    }

-- a link received bytes
talks_pulled : (ring : RingState) (clients : ℕ) (texts outs went came : ℕ → List ℕ) (place : ℕ) (piece now : List ℕ) (old : ProxyState) → place < length ring.servers
    → now ≡ came place ++ piece → Talks ring clients texts outs went came old
    → Talks ring clients texts outs went (changed place now came) (pulled_at place piece old)
talks_pulled ring clients texts outs went came place piece now old below is h =
    let after : LinkState = record (link_at old.links place) { unread = (link_at old.links place).unread ++ piece } in
    let lane : Lane = record (h.lanes place) { came = (h.lanes place).came ++ piece } in
    let up = h.up place below in
    let inside = up_is_there place old.links up in
    let holds = (h.holds.links place).0 up in
    let own : LaneHolds place h.order lane after = record {
      since = holds.since;
      put = holds.put;
      came = ap (λ (bytes : List ℕ). bytes ++ piece) holds.came
          ∙ append_assoc (replies_text (commands_to place (drop (h.lanes place).since h.order)) (h.lanes place).replies) (link_at old.links place).unread piece;
      can = holds.can;
      waiting = holds.waiting;
      outcomes = holds.outcomes;
      before = holds.before;
    } in
    record {
      order = h.order;
      lanes = changed place lane h.lanes;
      holds = relinked texts outs h.order h.lanes place lane after old inside (λ _. own, λ down. absurd (down up)) h.holds;
      is_ring = h.is_ring;
      rings = h.rings;
      ring_is = h.ring_is;
      losses_is = h.losses_is;
      admitted = h.admitted;
      is_open = h.is_open;
      bytes = h.bytes;
      up = λ server low. up_relinked place server after old.links up (h.up server low);
      since = since_changed place lane h.lanes h.since (h.since place);
      went_is = read_same (λ (l : Lane). l.out) place lane h.lanes went h.went_is refl;
      came_is = read_changed (λ (l : Lane). l.came) place lane h.lanes came now h.came_is (ap (λ (bytes : List ℕ). bytes ++ piece) (h.came_is place) ∙ sym is);
    }

-- a reply was taken
pub talks_replied : (ring : RingState) (clients : ℕ) (texts outs went came : ℕ → List ℕ) (place : ℕ) (old new : ProxyState) → place < length ring.servers
    → Talks ring clients texts outs went came old → Answers place old new → Talks ring clients texts outs went came new
talks_replied ring clients texts outs went came place old new below h answers =
    let up = h.up place below in
    let lane : Lane = record (h.lanes place) { replies = (h.lanes place).replies ++ answers.reply ∷ [] } in
    record {
      order = note answers.tag (Reply answers.reply) h.order;
      lanes = changed place lane h.lanes;
      holds = holds-replied texts outs h.order h.lanes place old new h.holds up answers;
      is_ring = h.is_ring;
      rings = rings_noted ring answers.tag (Reply answers.reply) h.order h.rings;
      ring_is = answers.ring ∙ h.ring_is;
      losses_is = answers.losses ∙ h.losses_is;
      admitted = answers.admitted ∙ h.admitted;
      is_open = λ client low. open_noted answers.tag (Reply answers.reply) old new client answers.sessions (h.is_open client low);
      bytes = h.bytes;
      up = λ server low. ap (λ (ls : List LinkState). (link_at ls server).up) answers.links
          ∙ up_relinked place server answers.link old.links (ap (λ (link : LinkState). link.up) answers.takes.others ∙ up) (h.up server low);
      since = since_changed place lane h.lanes h.since (h.since place);
      went_is = read_same (λ (l : Lane). l.out) place lane h.lanes went h.went_is refl;
      came_is = read_same (λ (l : Lane). l.came) place lane h.lanes came h.came_is refl;
    }

pub talks_carried : (ring : RingState) (clients : ℕ) (texts outs went came : ℕ → List ℕ) (place : ℕ) (before after : Ends) (old new : ProxyState) → place < length ring.servers
    → went place ≡ sent before.to → came place ≡ received before.from → Talks ring clients texts outs went came old → Carries place before after old new
    → Talks ring clients texts outs (changed place (sent after.to) went) (changed place (received after.from) came) new
talks_carried ring clients texts outs went came place before after old new below went_was came_was h c =
    let pushed = talks_pushed ring clients texts outs went came place c.count (sent after.to) old below
    (c.went ∙ ap (λ (bytes : List ℕ). bytes ++ take c.count (link_at old.links place).output) (sym went_was)) h in
    let pulled = talks_pulled ring clients texts outs (changed place (sent after.to) went) came place c.piece (received after.from) (pushed_at place c.count old) below
    (c.came ∙ ap (λ (bytes : List ℕ). bytes ++ c.piece) (sym came_was)) pushed in
    subst (λ (p : ProxyState). Talks ring clients texts outs (changed place (sent after.to) went) (changed place (received after.from) came) p) (sym c.after_is) pulled

-- one more client is admitted
pub talks_admitted : (ring : RingState) (clients : ℕ) (texts outs went came : ℕ → List ℕ) (old : ProxyState) → session_at old old.admitted ≡ None
    → Talks ring clients texts outs went came old → Talks ring (clients + 1) texts outs went came (with_fresh old)
talks_admitted ring clients texts outs went came old none h = record {
  order = h.order;
  lanes = h.lanes;
  holds = holds-admitted texts outs h.order h.lanes old h.holds none;
  is_ring = h.is_ring;
  rings = h.rings;
  ring_is = h.ring_is;
  losses_is = h.losses_is;
  admitted = ap (λ (n : ℕ). n + 1) h.admitted;
  is_open = λ client low. ⊎_elim
      (λ e. (fresh_session, subst (λ (n : ℕ). session_at (with_fresh old) n ≡ Some fresh_session) e.1 (fresh_own old.admitted fresh_session old.sessions none)))
      (λ e. let differ : old.admitted ≢ client = e.1 in
      let was = h.is_open client (omega (arith, low, h.admitted, λ (same : client ≡ clients). differ (h.admitted ∙ sym same))) in
      (was.0, fresh_other old.admitted client fresh_session old.sessions differ ∙ was.1))
      (eqb_tells old.admitted client);
  bytes = h.bytes;
  up = h.up;
  since = h.since;
  went_is = h.went_is;
  came_is = h.came_is;
}

-- a piece of a client's text arrived
bytes_grown : (number : ℕ) (piece : List ℕ) (texts : ℕ → List ℕ) → ((n : ℕ) → All (λ b. b < 256) (texts n)) → All (λ b. b < 256) piece → (n : ℕ) → All (λ b. b < 256) (grown number piece texts n)
bytes_grown number piece texts h own n =
    ⊎_elim
    (λ e. subst (λ (m : ℕ). All (λ b. b < 256) (grown number piece texts m)) e.1
    (subst (λ (t : List ℕ). All (λ b. b < 256) t) (sym (changed-own number (texts number ++ piece) texts)) (All-append (λ (b : ℕ). b < 256) (texts number) piece (h number) own)))
    (λ e. subst (λ (t : List ℕ). All (λ b. b < 256) t) (sym (changed-other number n (texts number ++ piece) texts e.1)) (h n))
    (eqb_tells number n)

pub talks_fed : (ring : RingState) (clients : ℕ) (texts outs went came : ℕ → List ℕ) (number : ℕ) (piece : List ℕ) (old new : ProxyState) → All (λ b. b < 256) piece
    → Talks ring clients texts outs went came old → Steps number old new (Alone (IsFed piece)) → Talks ring clients (grown number piece texts) outs went came new
talks_fed ring clients texts outs went came number piece old new own h steps = record {
  order = h.order;
  lanes = h.lanes;
  holds = holds-fed texts outs h.order h.lanes number piece old new h.holds steps;
  is_ring = h.is_ring;
  rings = h.rings;
  ring_is = steps.ring ∙ h.ring_is;
  losses_is = steps.losses ∙ h.losses_is;
  admitted = steps.admitted ∙ h.admitted;
  is_open = λ client below. open_stepped number steps.before steps.after old new client steps.was steps.is (h.is_open client below);
  bytes = bytes_grown number piece texts h.bytes own;
  up = λ server below. ap (λ (ls : List LinkState). (link_at ls server).up) steps.step.0 ∙ h.up server below;
  since = h.since;
  went_is = h.went_is;
  came_is = h.came_is;
}
