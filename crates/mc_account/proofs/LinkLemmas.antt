-- A proxy holds after each call of a link: one lemma for each.
use Rattle.std.proofs.Common.{◌≡◌, ◌≢◌, ◌∙◌, ⊎_elim, ℕ, ◌<◌, ◌≤◌, Bool, true, false, List, [], ◌∷◌, ◌++◌, length, map, Option, Some, None, refl, sym, ap, subst, arith}
use Rattle.std.specs.Prelude.{All}
use Rattle.std.specs.List.{list_all}
use Rattle.std.specs.Option.{option_map}
use Rattle.std.proofs.lemmas.Bool.{cases_lt}
use Rattle.std.proofs.lemmas.Bool.Decides.{eqb_tells}
use Rattle.std.proofs.lemmas.List.{get_or_append_left, get_or_past, get_or_push, length_push}
use Rattle.mc_reply.specs.declared.replies.Reply.{Reply as AReply}
use Rattle.mc_route.specs.declared.outcomes.Outcome.{Outcome}
use Rattle.mc_route.specs.declared.outcomes.Outcome.TheVariants.{Lost, Reply}
use Rattle.mc_route.specs.declared.losses.Losses.{Losses}
use Rattle.mc_link.specs.LinkState.{LinkState, Waiting, down_link}
use Rattle.mc_link.specs.declared.turns.Tag.{Tag}
use Rattle.mc_proxy.specs.Emits.{is_noted}
use Rattle.mc_proxy.specs.SessionNoting.{set_outcome_in_session}
use Rattle.mc_proxy.specs.SessionState.{SessionState, link_at, with_link}
use Rattle.mc_proxy.specs.Joins.{JoinsServer, joined_link}
use Rattle.mc_proxy.specs.LinkTurns.{Answers, lost_at}
use Rattle.mc_proxy.specs.Noting.{all_lost, noted}
use Rattle.mc_proxy.specs.ProxyState.{ProxyState, Sessions, session_in}
use Rattle.mc_account.specs.Lanes.{Lane, LinkHolds, fresh_lane}
use Rattle.mc_account.specs.Orders.{AreInOrder, IsSized, Order, entries_of, note, note_all, outcomes_to, HasChoice}
use Rattle.mc_account.specs.Holds.{IsUnused, ProxyHolds, SessionHoldsAt, changed}
use Rattle.mc_account.proofs.OpenSessions.{noted_other, noted_own}
use Rattle.mc_account.proofs.OrderLemmas.{entries-note, in_order-note, sized-note, chosen-note}
use Rattle.mc_account.proofs.TagLemmas.{owners, tag_once, incomplete_owners}
use Rattle.mc_account.proofs.LaneLemmas.{IsOldest, Pending, is_oldest, lane_fresh, lane_replied, link_other, link_other_noted, link_own, pending_none, pending_noted, pending_of, up_is_there}
use Rattle.mc_account.proofs.SessionLemmas.{left_noted, note_absent, owners_elsewhere, session_noted, session_same}
use Rattle.mc_account.proofs.HoldsLemmas.{changed-other, changed-own}

-- a proxy holds except for the link at one place, of which nothing is claimed
pub record HoldsBut (texts sent : ℕ → List ℕ) (order : Order) (lanes : ℕ → Lane) (place : ℕ) (losses : Losses) (sessions : Sessions) (admitted : ℕ) (links : List LinkState) : Type 0 where
  pub sized : All IsSized order
  pub chosen : All (HasChoice losses) order
  pub numbered : (number : ℕ) → AreInOrder (entries_of number order)
  pub each : (number : ℕ) → SessionHoldsAt number order (texts number) (sent number) (session_in sessions number)
  pub unused : (number : ℕ) → admitted ≤ number → IsUnused number order (texts number) (sent number) (session_in sessions number)
  pub others : (other : ℕ) → place ≢ other → LinkHolds other order (lanes other) (link_at links other)

holds_but : (texts sent : ℕ → List ℕ) (order : Order) (lanes : ℕ → Lane) (place : ℕ) (old : ProxyState) → ProxyHolds texts sent order lanes old
    → HoldsBut texts sent order lanes place old.losses old.sessions old.admitted old.links
holds_but texts sent order lanes place old h = record {
  sized = h.sized;
  chosen = h.chosen;
  numbered = h.numbered;
  each = h.sessions;
  unused = h.unused;
  others = λ other differ. h.links other;
}

-- it holds, if that link does too
holds_with : (texts sent : ℕ → List ℕ) (order : Order) (lanes lanes' : ℕ → Lane) (place : ℕ) (links : List LinkState) (new : ProxyState)
    → HoldsBut texts sent order lanes place new.losses new.sessions new.admitted links → LinkHolds place order (lanes' place) (link_at new.links place)
    → ((other : ℕ) → place ≢ other → lanes' other ≡ lanes other) → ((other : ℕ) → place ≢ other → link_at new.links other ≡ link_at links other)
    → ProxyHolds texts sent order lanes' new
holds_with texts sent order lanes lanes' place links new h own lane_is link_is = record {
  sized = h.sized;
  chosen = h.chosen;
  numbered = h.numbered;
  sessions = h.each;
  unused = h.unused;
  links = λ other. ⊎_elim
      (λ e. subst (λ (p : ℕ). LinkHolds p order (lanes' p) (link_at new.links p)) e.1 own)
      (λ e. subst (λ (link : LinkState). LinkHolds other order (lanes' other) link) (sym (link_is other e.1))
      (subst (λ (lane : Lane). LinkHolds other order lane (link_at links other)) (sym (lane_is other e.1)) (h.others other e.1)))
      (eqb_tells place other);
}

-- the session of a tag, open or not, after an outcome is noted that was pending
at_noted : (tag : Tag) (outcome : Outcome) (order : Order) (text sent : List ℕ) (session : Option SessionState) → AreInOrder (entries_of tag.session order)
    → owners tag order ≤ 1 → 1 ≤ incomplete_owners tag order → SessionHoldsAt tag.session order text sent session
    → SessionHoldsAt tag.session (note tag outcome order) text sent (option_map (set_outcome_in_session tag outcome) session)
at_noted tag outcome order text sent None numbered once open_one h = left_noted tag outcome order text sent once open_one h
at_noted tag outcome order text sent (Some session) numbered once open_one h = session_noted tag outcome order text sent session numbered once open_one h

-- what was taken of another session
noted_elsewhere : (tag : Tag) (outcome : Outcome) (number : ℕ) (order : Order) → tag.session ≢ number → entries_of number (note tag outcome order) ≡ entries_of number order
noted_elsewhere tag outcome number order differ =
    entries-note number tag outcome order ∙ note_absent tag outcome (entries_of number order) (owners_elsewhere tag number order differ)

-- a number that was not given yet stays so
still_none : (tag : Tag) (outcome : Outcome) (number : ℕ) (sessions : Sessions) → session_in sessions number ≡ None → session_in (noted tag outcome sessions) number ≡ None
still_none tag outcome number sessions none =
    ⊎_elim
    (λ e. subst (λ (n : ℕ). session_in sessions n ≡ None → session_in (noted tag outcome sessions) n ≡ None) e.1
    (λ own. noted_own tag outcome sessions ∙ ap (λ (s : Option SessionState). option_map (set_outcome_in_session tag outcome) s) own) none)
    (λ e. noted_other tag outcome number sessions e.1 ∙ none)
    (eqb_tells tag.session number)

-- an outcome of a command to that place is noted
but_noted : (texts sent : ℕ → List ℕ) (order : Order) (lanes : ℕ → Lane) (place : ℕ) (losses : Losses) (sessions : Sessions) (admitted : ℕ) (links : List LinkState) (tag : Tag) (outcome : Outcome)
    → is_noted outcome ≡ true → IsOldest place order tag → HoldsBut texts sent order lanes place losses sessions admitted links
    → HoldsBut texts sent (note tag outcome order) lanes place losses (noted tag outcome sessions) admitted links
but_noted texts sent order lanes place losses sessions admitted links tag outcome known oldest h =
    let once = tag_once tag order (h.numbered tag.session) in
    record {
      sized = sized-note tag outcome order h.sized;
      chosen = chosen-note losses tag outcome order h.chosen;
      numbered = λ number. subst (λ (es : Order). AreInOrder es) (sym (entries-note number tag outcome order)) (in_order-note tag outcome (entries_of number order) (h.numbered number));
      each = λ number. ⊎_elim
          (λ e. subst (λ (n : ℕ). SessionHoldsAt n (note tag outcome order) (texts n) (sent n) (session_in (noted tag outcome sessions) n)) e.1
          (subst (λ (s : Option SessionState). SessionHoldsAt tag.session (note tag outcome order) (texts tag.session) (sent tag.session) s) (sym (noted_own tag outcome sessions))
          (at_noted tag outcome order (texts tag.session) (sent tag.session) (session_in sessions tag.session) (h.numbered tag.session) once oldest.incomplete (h.each tag.session))))
          (λ e. subst (λ (s : Option SessionState). SessionHoldsAt number (note tag outcome order) (texts number) (sent number) s) (sym (noted_other tag outcome number sessions e.1))
          (session_same number order (note tag outcome order) (texts number) (texts number) (sent number) (sent number) (session_in sessions number)
          (noted_elsewhere tag outcome number order e.1) refl refl (h.each number)))
          (eqb_tells tag.session number);
      unused = λ number above.
          let u = h.unused number above in
          record {
            not_open = still_none tag outcome number sessions u.not_open;
            nothing_came = u.nothing_came;
            nothing_taken = entries-note number tag outcome order ∙ ap (λ (es : Order). note tag outcome es) u.nothing_taken;
            nothing_sent = u.nothing_sent;
          };
      others = λ other differ. link_other_noted place other tag outcome order (lanes other) (link_at links other) differ h.sized once known oldest (h.others other differ);
    }

-- `link_turn` that took a reply
pub holds-replied : (texts sent : ℕ → List ℕ) (order : Order) (lanes : ℕ → Lane) (place : ℕ) (old new : ProxyState)
    → ProxyHolds texts sent order lanes old → (link_at old.links place).up ≡ true → (answers : Answers place old new)
    → ProxyHolds texts sent (note answers.tag (Reply answers.reply) order)
    (changed place (record (lanes place) { replies = (lanes place).replies ++ answers.reply ∷ [] }) lanes) new
holds-replied texts sent order lanes place old new h up answers =
    let inside = up_is_there place old.links up in
    let once = tag_once answers.tag order (h.numbered answers.tag.session) in
    let lane = (h.links place).0 up in
    let pending = subst (λ (ws : List Waiting). Pending place (lanes place).since order (map (λ (reply : AReply (List ℕ)). Reply reply) (lanes place).replies) ws) answers.takes.oldest
    (pending_of place order (lanes place) (link_at old.links place) lane) in
    let oldest = is_oldest place (lanes place).since order (map (λ (reply : AReply (List ℕ)). Reply reply) (lanes place).replies) (answers.takes.head, answers.tag) answers.link.waiting h.sized pending in
    let but = but_noted texts sent order lanes place old.losses old.sessions old.admitted old.links answers.tag (Reply answers.reply) refl oldest (holds_but texts sent order lanes place old h) in
    let same_sessions = subst (λ (sessions : Sessions). HoldsBut texts sent (note answers.tag (Reply answers.reply) order) lanes place old.losses sessions old.admitted old.links) (sym answers.sessions) but in
    let same_losses = subst (λ (losses : Losses). HoldsBut texts sent (note answers.tag (Reply answers.reply) order) lanes place losses new.sessions old.admitted old.links) (sym answers.losses) same_sessions in
    let same_admitted = subst (λ (admitted : ℕ). HoldsBut texts sent (note answers.tag (Reply answers.reply) order) lanes place new.losses new.sessions admitted old.links) (sym answers.admitted) same_losses in
    let link_is : link_at new.links place ≡ answers.link = ap (λ (links : List LinkState). link_at links place) answers.links ∙ link_own place answers.link old.links inside in
    let stays_up : answers.link.up ≡ true = ap (λ (link : LinkState). link.up) answers.takes.others ∙ up in
    let own : LinkHolds place (note answers.tag (Reply answers.reply) order) (record (lanes place) { replies = (lanes place).replies ++ answers.reply ∷ [] }) answers.link = (
      λ _. lane_replied place order (lanes place) (link_at old.links place) answers.tag answers.reply answers.link h.sized once answers.takes lane,
      λ down. absurd (down stays_up),
    ) in
    holds_with texts sent (note answers.tag (Reply answers.reply) order) lanes (changed place (record (lanes place) { replies = (lanes place).replies ++ answers.reply ∷ [] }) lanes) place old.links new
    same_admitted
    (subst (λ (lane : Lane). LinkHolds place (note answers.tag (Reply answers.reply) order) lane (link_at new.links place))
    (sym (changed-own place (record (lanes place) { replies = (lanes place).replies ++ answers.reply ∷ [] }) lanes))
    (subst (λ (link : LinkState). LinkHolds place (note answers.tag (Reply answers.reply) order) (record (lanes place) { replies = (lanes place).replies ++ answers.reply ∷ [] }) link) (sym link_is) own))
    (λ other differ. changed-other place other (record (lanes place) { replies = (lanes place).replies ++ answers.reply ∷ [] }) lanes differ)
    (λ other differ. ap (λ (links : List LinkState). link_at links other) answers.links ∙ link_other place other answers.link old.links differ)

-- each pending command is lost
record IsLost (texts sent : ℕ → List ℕ) (order : Order) (lanes : ℕ → Lane) (place : ℕ) (losses : Losses) (sessions : Sessions) (admitted : ℕ) (links : List LinkState) : Type 0 where
  pub but : HoldsBut texts sent order lanes place losses sessions admitted links
  pub known : list_all is_noted (outcomes_to place order) ≡ true

lost_each : (texts sent : ℕ → List ℕ) (order : Order) (lanes : ℕ → Lane) (place since : ℕ) (known : List Outcome) (waiting : List Waiting) (losses : Losses) (sessions : Sessions) (admitted : ℕ) (links : List LinkState)
    → Pending place since order known waiting → HoldsBut texts sent order lanes place losses sessions admitted links
    → IsLost texts sent (note_all (map (λ (w : Waiting). w.1) waiting) Lost order) lanes place losses (all_lost waiting sessions) admitted links
lost_each texts sent order lanes place since known [] losses sessions admitted links pending h = record { but = h; known = pending_none place since order known pending }
lost_each texts sent order lanes place since known (w ∷ ws) losses sessions admitted links pending h =
    let once = tag_once w.1 order (h.numbered w.1.session) in
    let oldest = is_oldest place since order known w ws h.sized pending in
    lost_each texts sent (note w.1 Lost order) lanes place since (known ++ Lost ∷ []) ws losses (noted w.1 Lost sessions) admitted links
    (pending_noted place since order known w ws Lost h.sized once refl pending)
    (but_noted texts sent order lanes place losses sessions admitted links w.1 Lost refl oldest h)

-- `lost`
pub holds-lost : (texts sent : ℕ → List ℕ) (order : Order) (lanes : ℕ → Lane) (place : ℕ) (old : ProxyState)
    → ProxyHolds texts sent order lanes old → (link_at old.links place).up ≡ true
    → ProxyHolds texts sent (note_all (map (λ (w : Waiting). w.1) (link_at old.links place).waiting) Lost order) lanes (lost_at place old)
holds-lost texts sent order lanes place old h up =
    let inside = up_is_there place old.links up in
    let gone : LinkState = down_link (link_at old.links place).generation in
    let longer : Order = note_all (map (λ (w : Waiting). w.1) (link_at old.links place).waiting) Lost order in
    let lost = lost_each texts sent order lanes place (lanes place).since (map (λ (reply : AReply (List ℕ)). Reply reply) (lanes place).replies) (link_at old.links place).waiting
    old.losses old.sessions old.admitted old.links (pending_of place order (lanes place) (link_at old.links place) ((h.links place).0 up)) (holds_but texts sent order lanes place old h) in
    let link_is : link_at (with_link place (down_link (link_at old.links place).generation) old.links) place ≡ down_link (link_at old.links place).generation =
    link_own place (down_link (link_at old.links place).generation) old.links inside in
    let own : LinkHolds place longer (lanes place) gone = (
      λ is. absurd cc,
      λ _. record { nothing = refl; outcomes = lost.known },
    ) in
    holds_with texts sent longer lanes lanes place old.links (lost_at place old) lost.but
    (subst (λ (link : LinkState). LinkHolds place longer (lanes place) link) (sym link_is) own)
    (λ _ _. refl)
    (λ other differ. link_other place other (down_link (link_at old.links place).generation) old.links differ)

-- `join_server`: the links of the other places are as they were
link_pushed : (place other : ℕ) (link : LinkState) (links : List LinkState) → place ≡ length links → place ≢ other → link_at (links ++ link ∷ []) other ≡ link_at links other
link_pushed place other link links last differ =
    ⊎_elim (λ (below : other < length links). get_or_append_left links (link ∷ []) (down_link 0) other below)
    (λ (past : length links ≤ other).
    let far : length (links ++ link ∷ []) ≤ other = omega (arith, length_push links link, last, differ, past) in
    get_or_past (links ++ link ∷ []) other (down_link 0) far ∙ sym (get_or_past links other (down_link 0) past))
    (cases_lt other (length links))

joined_own : (place : ℕ) (order : Order) (up : Bool) → list_all is_noted (outcomes_to place order) ≡ true → LinkHolds place order (fresh_lane (length order)) (joined_link up)
joined_own place order true known = (λ _. lane_fresh place 1 order known, λ down. absurd (down refl))
joined_own place order false known = (λ up. absurd cc, λ _. record { nothing = refl; outcomes = known })

pub holds-joined : (texts sent : ℕ → List ℕ) (order : Order) (lanes : ℕ → Lane) (address : List ℕ) (up : Bool) (place : ℕ) (old new : ProxyState)
    → ProxyHolds texts sent order lanes old → length old.links ≡ length old.ring.servers → JoinsServer address up place old new
    → ProxyHolds texts sent order (changed place (fresh_lane (length order)) lanes) new
holds-joined texts sent order lanes address up place old new h sized joins =
    let last : place ≡ length old.links = joins.last ∙ sym sized in
    let none : link_at old.links place ≡ down_link 0 = get_or_past old.links place (down_link 0) (omega (arith, last)) in
    let off : (link_at old.links place).up ≢ true = λ on. let clash : false ≡ true = sym (ap (λ (link : LinkState). link.up) none) ∙ on in absurd cc in
    let known = ((h.links place).1 off).outcomes in
    let link_is : link_at new.links place ≡ joined_link up =
    ap (λ (links : List LinkState). link_at links place) joins.links ∙ get_or_push old.links (joined_link up) (down_link 0) place (sym last) in
    let but = subst (λ (losses : Losses). HoldsBut texts sent order lanes place losses new.sessions new.admitted old.links) (sym joins.losses)
    (subst (λ (sessions : Sessions). HoldsBut texts sent order lanes place old.losses sessions new.admitted old.links) (sym joins.sessions)
    (subst (λ (admitted : ℕ). HoldsBut texts sent order lanes place old.losses old.sessions admitted old.links) (sym joins.admitted) (holds_but texts sent order lanes place old h))) in
    holds_with texts sent order lanes (changed place (fresh_lane (length order)) lanes) place old.links new but
    (subst (λ (lane : Lane). LinkHolds place order lane (link_at new.links place)) (sym (changed-own place (fresh_lane (length order)) lanes))
    (subst (λ (link : LinkState). LinkHolds place order (fresh_lane (length order)) link) (sym link_is) (joined_own place order up known)))
    (λ other differ. changed-other place other (fresh_lane (length order)) lanes differ)
    (λ other differ. ap (λ (links : List LinkState). link_at links other) joins.links ∙ link_pushed place other (joined_link up) old.links last differ)
