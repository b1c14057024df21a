-- A proxy holds after calls for a session, and after calls for a link.
use Rattle.std.proofs.Common.{◌≡◌, ◌∙◌, ⊎_elim, ℕ, ◌≤◌, true, List, [], ◌∷◌, ◌++◌, length, map, take, drop, refl, sym, ap, subst, append_assoc}
use Rattle.std.proofs.lemmas.Bool.Decides.{eqb_tells}
use Rattle.std.proofs.lemmas.List.{append-nil}
use Rattle.mc_route.specs.declared.outcomes.Outcome.{Outcome}
use Rattle.mc_route.specs.declared.outcomes.Outcome.TheVariants.{Lost, Reply}
use Rattle.mc_link.specs.LinkState.{Waiting}
use Rattle.mc_link.specs.declared.turns.Tag.{Tag}
use Rattle.mc_proxy.specs.SessionState.{link_at, with_link}
use Rattle.mc_proxy.specs.declared.session_turns.SessionTurn.TheVariants as turns
use Rattle.mc_proxy.specs.ProxyState.{ProxyState, output_of, session_at}
use Rattle.mc_account.specs.Lanes.{Lane}
use Rattle.mc_account.specs.Orders.{Order, note, note_all}
use Rattle.mc_account.specs.Holds.{ProxyHolds, changed, grown}
use Rattle.mc_account.proofs.HoldsLemmas.{changed-other, changed-own, entry_taken, holds-emitted, holds-fed, holds-idle_emit, holds-idle_turn, holds-sent, holds-took}
use Rattle.mc_account.proofs.LinkLemmas.{holds-lost, holds-replied}
use Rattle.mc_proxy_pump.specs.Calls as sessions
use Rattle.mc_proxy_pump.specs.LinkCalls as links
use Rattle.mc_proxy_pump.specs.Laws.{AreOf, HoldsAfterClient, HoldsAfterLink, asked_in}

-- a proxy holds by equal texts, bytes and lanes at each number or place
holds_same : (texts texts' sent sent' : ℕ → List ℕ) (order : Order) (lanes lanes' : ℕ → Lane) (proxy : ProxyState)
    → ((n : ℕ) → texts' n ≡ texts n) → ((n : ℕ) → sent' n ≡ sent n) → ((place : ℕ) → lanes' place ≡ lanes place)
    → ProxyHolds texts sent order lanes proxy → ProxyHolds texts' sent' order lanes' proxy
holds_same texts texts' sent sent' order lanes lanes' proxy text_is sent_is lane_is h =
    let text_same : texts ≡ texts' = λ i n. sym (text_is n) i in
    let sent_same : sent ≡ sent' = λ i n. sym (sent_is n) i in
    let lane_same : lanes ≡ lanes' = λ i place. sym (lane_is place) i in
    subst (λ (f : ℕ → List ℕ). ProxyHolds f sent' order lanes' proxy) text_same
    (subst (λ (f : ℕ → List ℕ). ProxyHolds texts f order lanes' proxy) sent_same
    (subst (λ (f : ℕ → Lane). ProxyHolds texts sent order f proxy) lane_same h))

-- bytes that grow by none, and bytes that grow twice
grown_none : (number n : ℕ) (bytes : ℕ → List ℕ) → grown number [] bytes n ≡ bytes n
grown_none number n bytes =
    ⊎_elim
    (λ e. subst (λ (m : ℕ). grown number [] bytes m ≡ bytes m) e.1 (changed-own number (bytes number ++ []) bytes ∙ append-nil (bytes number)))
    (λ e. changed-other number n (bytes number ++ []) bytes e.1)
    (eqb_tells number n)

grown_twice : (number n : ℕ) (more yet : List ℕ) (bytes : ℕ → List ℕ) → grown number (more ++ yet) bytes n ≡ grown number yet (grown number more bytes) n
grown_twice number n more yet bytes =
    ⊎_elim
    (λ e. subst (λ (m : ℕ). grown number (more ++ yet) bytes m ≡ grown number yet (grown number more bytes) m) e.1
    (changed-own number (bytes number ++ (more ++ yet)) bytes
    ∙ sym (append_assoc (bytes number) more yet)
    ∙ ap (λ (xs : List ℕ). xs ++ yet) (sym (changed-own number (bytes number ++ more) bytes))
    ∙ sym (changed-own number (grown number more bytes number ++ yet) (grown number more bytes))))
    (λ e. changed-other number n (bytes number ++ (more ++ yet)) bytes e.1
    ∙ sym (changed-other number n (bytes number ++ more) bytes e.1)
    ∙ sym (changed-other number n (grown number more bytes number ++ yet) (grown number more bytes) e.1))
    (eqb_tells number n)

-- a lane that changes twice
changed_twice : (place at : ℕ) (first second : Lane) (lanes : ℕ → Lane) → changed place second lanes at ≡ changed place second (changed place first lanes) at
changed_twice place at first second lanes =
    ⊎_elim
    (λ e. subst (λ (p : ℕ). changed place second lanes p ≡ changed place second (changed place first lanes) p) e.1
    (changed-own place second lanes ∙ sym (changed-own place second (changed place first lanes))))
    (λ e. changed-other place at second lanes e.1 ∙ sym (changed-other place at first lanes e.1) ∙ sym (changed-other place at second (changed place first lanes) e.1))
    (eqb_tells place at)

-- a lane that changes to itself
changed_none : (place at : ℕ) (lanes : ℕ → Lane) → changed place (lanes place) lanes at ≡ lanes at
changed_none place at lanes =
    ⊎_elim
    (λ e. subst (λ (p : ℕ). changed place (lanes place) lanes p ≡ lanes p) e.1 (changed-own place (lanes place) lanes))
    (λ e. changed-other place at (lanes place) lanes e.1)
    (eqb_tells place at)

-- nothing was taken
after_none : (number : ℕ) (came went : List ℕ) (texts texts' sent sent' : ℕ → List ℕ) (order : Order) (lanes : ℕ → Lane) (new : ProxyState)
    → ((n : ℕ) → grown number came texts n ≡ texts' n) → ((n : ℕ) → grown number went sent n ≡ sent' n) → ProxyHolds texts' sent' order lanes new
    → HoldsAfterClient number came went texts sent order lanes new
after_none number came went texts texts' sent sent' order lanes new text_is sent_is h = record {
  more = [];
  own = tt;
  holds = subst (λ (es : Order). ProxyHolds (grown number came texts) (grown number went sent) es lanes new) (sym (append-nil order))
      (holds_same texts' (grown number came texts) sent' (grown number went sent) order lanes lanes new text_is sent_is (λ _. refl) h);
}

-- a proxy holds after a call for a session
after_call : (number : ℕ) (call : sessions.Call) (texts sent : ℕ → List ℕ) (order : Order) (lanes : ℕ → Lane) (old new : ProxyState)
    → ProxyHolds texts sent order lanes old → sessions.IsCall number call old new
    → HoldsAfterClient number (sessions.came_by call) (sessions.went_by call) texts sent order lanes new
after_call number (sessions.Fed came) texts sent order lanes old new h step =
    after_none number came [] texts (grown number came texts) sent sent order lanes new (λ _. refl) (λ n. grown_none number n sent)
    (holds-fed texts sent order lanes number came old new h step.0)
after_call number (sessions.Turned turns.Took work) texts sent order lanes old new h step = record {
  more = entry_taken step.0 ∷ [];
  own = (refl, tt);
  holds = holds_same texts (grown number [] texts) sent (grown number [] sent) (order ++ entry_taken step.0 ∷ []) lanes lanes new
      (λ n. grown_none number n texts) (λ n. grown_none number n sent) (λ _. refl) (holds-took texts sent order lanes number old new h step.0);
}
after_call number (sessions.Turned turns.Idle work) texts sent order lanes old new h step =
    after_none number [] [] texts texts sent sent order lanes new (λ n. grown_none number n texts) (λ n. grown_none number n sent)
    (holds-idle_turn texts sent order lanes number turns.Idle old new h (λ e. absurd cc) step.0)
after_call number (sessions.Turned turns.Waiting work) texts sent order lanes old new h step =
    after_none number [] [] texts texts sent sent order lanes new (λ n. grown_none number n texts) (λ n. grown_none number n sent)
    (holds-idle_turn texts sent order lanes number turns.Waiting old new h (λ e. absurd cc) step.0)
after_call number (sessions.Turned turns.Closing work) texts sent order lanes old new h step =
    after_none number [] [] texts texts sent sent order lanes new (λ n. grown_none number n texts) (λ n. grown_none number n sent)
    (holds-idle_turn texts sent order lanes number turns.Closing old new h (λ e. absurd cc) step.0)
after_call number (sessions.Emitted hides work) texts sent order lanes old new h step =
    after_none number [] [] texts texts sent sent order lanes new (λ n. grown_none number n texts) (λ n. grown_none number n sent)
    (holds-emitted texts sent order lanes number old new h step.0)
after_call number sessions.Rested texts sent order lanes old new h step =
    after_none number [] [] texts texts sent sent order lanes new (λ n. grown_none number n texts) (λ n. grown_none number n sent)
    (holds-idle_emit texts sent order lanes number old new h step.0)
after_call number (sessions.Sent count went) texts sent order lanes old new h step =
    let holds = holds-sent texts sent order lanes number count old h in
    let here = subst (λ (p : ProxyState). ProxyHolds texts (grown number (take count (output_of (session_at old number))) sent) order lanes p) (sym step.2) holds in
    let grown_by = subst (λ (bytes : List ℕ). ProxyHolds texts (grown number bytes sent) order lanes new) (sym step.1) here in
    after_none number [] went texts texts sent (grown number went sent) order lanes new (λ n. grown_none number n texts) (λ _. refl) grown_by

-- entries of one session, and more entries of it, are entries of it
own-append : (number : ℕ) (es fs : Order) → AreOf number es → AreOf number fs → AreOf number (es ++ fs)
own-append number [] fs h k = k
own-append number (e ∷ es) fs h k = (h.0, own-append number es fs h.1 k)

-- a proxy holds after calls for a session
pub after_calls : (texts sent : ℕ → List ℕ) (order : Order) (lanes : ℕ → Lane) (number : ℕ) (calls : List sessions.Call) (old new : ProxyState)
    → ProxyHolds texts sent order lanes old → sessions.Calls number calls old new
    → HoldsAfterClient number (sessions.came_of calls) (sessions.went_of calls) texts sent order lanes new
after_calls texts sent order lanes number [] old new h chain =
    after_none number [] [] texts texts sent sent order lanes new (λ n. grown_none number n texts) (λ n. grown_none number n sent)
    (subst (λ (p : ProxyState). ProxyHolds texts sent order lanes p) (sym chain) h)
after_calls texts sent order lanes number (call ∷ calls) old new h chain =
    let came = sessions.came_by call in
    let went = sessions.went_by call in
    let first = after_call number call texts sent order lanes old chain.0 h chain.1.0 in
    let others = after_calls (grown number came texts) (grown number went sent) (order ++ first.more) lanes number calls chain.0 new first.holds chain.1.1 in
    record {
      more = first.more ++ others.more;
      own = own-append number first.more others.more first.own others.own;
      holds = subst (λ (es : Order). ProxyHolds (grown number (came ++ sessions.came_of calls) texts) (grown number (went ++ sessions.went_of calls) sent) es lanes new)
          (append_assoc order first.more others.more)
          (holds_same (grown number (sessions.came_of calls) (grown number came texts)) (grown number (came ++ sessions.came_of calls) texts)
          (grown number (sessions.went_of calls) (grown number went sent)) (grown number (went ++ sessions.went_of calls) sent)
          ((order ++ first.more) ++ others.more) lanes lanes new
          (λ n. grown_twice number n came (sessions.came_of calls) texts) (λ n. grown_twice number n went (sessions.went_of calls) sent) (λ _. refl) others.holds);
    }

-- noting an outcome leaves what was asked
asked-note : (tag : Tag) (outcome : Outcome) (order : Order) → asked_in (note tag outcome order) ≡ asked_in order
asked-note tag outcome [] = refl
asked-note tag outcome (e ∷ es) = ap (λ (fs : Order). record e { outcomes = [] } ∷ fs) (asked-note tag outcome es)

asked-note_all : (tags : List Tag) (outcome : Outcome) (order : Order) → asked_in (note_all tags outcome order) ≡ asked_in order
asked-note_all [] outcome order = refl
asked-note_all (tag ∷ tags) outcome order = asked-note_all tags outcome (note tag outcome order) ∙ asked-note tag outcome order

-- how bytes sent to a server, and bytes received from one, keep the account
abbrev pub SentHolds : Type 0
SentHolds = (texts sent : ℕ → List ℕ) (order : Order) (lanes : ℕ → Lane) (place count : ℕ) (old : ProxyState)
    → ProxyHolds texts sent order lanes old → count ≤ length (link_at old.links place).output
    → ProxyHolds texts sent order
    (changed place (record (lanes place) { out = (lanes place).out ++ take count (link_at old.links place).output }) lanes)
    (record old {
      links = with_link place
          (record (link_at old.links place) { output = drop count (link_at old.links place).output }) old.links;
    })

abbrev pub FedHolds : Type 0
FedHolds = (texts sent : ℕ → List ℕ) (order : Order) (lanes : ℕ → Lane) (place : ℕ) (piece : List ℕ) (old : ProxyState)
    → ProxyHolds texts sent order lanes old → (link_at old.links place).up ≡ true
    → ProxyHolds texts sent order (changed place (record (lanes place) { came = (lanes place).came ++ piece }) lanes)
    (record old {
      links = with_link place
          (record (link_at old.links place) { unread = (link_at old.links place).unread ++ piece }) old.links;
    })

-- no byte passed
link_still : (place : ℕ) (texts sent : ℕ → List ℕ) (order order' : Order) (lanes : ℕ → Lane) (new : ProxyState) → asked_in order' ≡ asked_in order
    → ProxyHolds texts sent order' lanes new → HoldsAfterLink place [] [] texts sent order lanes new
link_still place texts sent order order' lanes new same h = record {
  order' = order';
  same = same;
  lane = lanes place;
  came_is = sym (append-nil (lanes place).came);
  out_is = sym (append-nil (lanes place).out);
  holds = holds_same texts texts sent sent order' lanes (changed place (lanes place) lanes) new (λ _. refl) (λ _. refl) (λ at. changed_none place at lanes) h;
}

-- a proxy holds after a call for a link
after_link_call : SentHolds → FedHolds → (place : ℕ) (call : links.LinkCall) (texts sent : ℕ → List ℕ) (order : Order) (lanes : ℕ → Lane) (old new : ProxyState)
    → ProxyHolds texts sent order lanes old → links.IsLinkCall place call old new
    → HoldsAfterLink place (links.came_by call) (links.went_by call) texts sent order lanes new
after_link_call sends feeds place (links.Fed came) texts sent order lanes old new h step =
    let lane : Lane = record (lanes place) { came = (lanes place).came ++ came } in
    record {
      order' = order;
      same = refl;
      lane = lane;
      came_is = refl;
      out_is = sym (append-nil (lanes place).out);
      holds = subst (λ (p : ProxyState). ProxyHolds texts sent order (changed place lane lanes) p) (sym step.1) (feeds texts sent order lanes place came old h step.0);
    }
after_link_call sends feeds place (links.Sent count went) texts sent order lanes old new h step =
    let lane : Lane = record (lanes place) { out = (lanes place).out ++ take count (link_at old.links place).output } in
    record {
      order' = order;
      same = refl;
      lane = lane;
      came_is = sym (append-nil (lanes place).came);
      out_is = ap (λ (bytes : List ℕ). (lanes place).out ++ bytes) (sym step.1.1);
      holds = subst (λ (p : ProxyState). ProxyHolds texts sent order (changed place lane lanes) p) (sym step.1.2) (sends texts sent order lanes place count old h step.1.0);
    }
after_link_call sends feeds place (links.Replied tag) texts sent order lanes old new h step =
    let answers = step.1.0 in
    record {
      order' = note answers.tag (Reply answers.reply) order;
      same = asked-note answers.tag (Reply answers.reply) order;
      lane = record (lanes place) { replies = (lanes place).replies ++ answers.reply ∷ [] };
      came_is = sym (append-nil (lanes place).came);
      out_is = sym (append-nil (lanes place).out);
      holds = holds-replied texts sent order lanes place old new h step.0 answers;
    }
after_link_call sends feeds place links.Rested texts sent order lanes old new h step =
    link_still place texts sent order order lanes new refl (subst (λ (p : ProxyState). ProxyHolds texts sent order lanes p) (sym step.1.1) h)
after_link_call sends feeds place links.Lost texts sent order lanes old new h step =
    let tags : List Tag = map (λ (w : Waiting). w.1) (link_at old.links place).waiting in
    link_still place texts sent order (note_all tags Lost order) lanes new (asked-note_all tags Lost order)
    (subst (λ (p : ProxyState). ProxyHolds texts sent (note_all tags Lost order) lanes p) (sym step.1.1) (holds-lost texts sent order lanes place old h step.0))

-- a proxy holds after calls for a link
pub after_link_calls : SentHolds → FedHolds → (texts sent : ℕ → List ℕ) (order : Order) (lanes : ℕ → Lane) (place : ℕ) (calls : List links.LinkCall) (old new : ProxyState)
    → ProxyHolds texts sent order lanes old → links.LinkCalls place calls old new
    → HoldsAfterLink place (links.came_of calls) (links.went_of calls) texts sent order lanes new
after_link_calls sends feeds texts sent order lanes place [] old new h chain =
    link_still place texts sent order order lanes new refl (subst (λ (p : ProxyState). ProxyHolds texts sent order lanes p) (sym chain) h)
after_link_calls sends feeds texts sent order lanes place (call ∷ calls) old new h chain =
    let came = links.came_by call in
    let went = links.went_by call in
    let first = after_link_call sends feeds place call texts sent order lanes old chain.0 h chain.1.0 in
    let others = after_link_calls sends feeds texts sent first.order' (changed place first.lane lanes) place calls chain.0 new first.holds chain.1.1 in
    let own : changed place first.lane lanes place ≡ first.lane = changed-own place first.lane lanes in
    record {
      order' = others.order';
      same = others.same ∙ first.same;
      lane = others.lane;
      came_is = others.came_is
          ∙ ap (λ (lane : Lane). lane.came ++ links.came_of calls) own
          ∙ ap (λ (bytes : List ℕ). bytes ++ links.came_of calls) first.came_is
          ∙ append_assoc (lanes place).came came (links.came_of calls);
      out_is = others.out_is
          ∙ ap (λ (lane : Lane). lane.out ++ links.went_of calls) own
          ∙ ap (λ (bytes : List ℕ). bytes ++ links.went_of calls) first.out_is
          ∙ append_assoc (lanes place).out went (links.went_of calls);
      holds = holds_same texts texts sent sent others.order' (changed place others.lane (changed place first.lane lanes)) (changed place others.lane lanes) new
          (λ _. refl) (λ _. refl) (λ at. changed_twice place at first.lane others.lane lanes) others.holds;
    }
