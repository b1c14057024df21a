-- Calls for a link: none, one, and several in sequence; the parts of a round of its pump, and its pumps.
use Rattle.std.proofs.Common.{◌≡◌, ◌∙◌, inr, ℕ, ◌<◌, ◌≤◌, Bool, true, false, Result, Ok, Err, List, [], ◌∷◌, ◌++◌, length, take, drop, Option, Some, refl, sym, ap, subst, append_assoc, arith}
use Rattle.std.proofs.lemmas.List.{append-nil}
use Rattle.std.specs.Io.KnownBytes.{Appends}
use Rattle.std.specs.Prelude.{slice_get}
use Rattle.std.specs.Option.{option_map}
use Rattle.mc_link.specs.LinkState.{LinkState, Waiting}
use Rattle.mc_link.specs.Turns.{IsIdle}
use Rattle.mc_link.specs.declared.turns.Tag.{Tag}
use Rattle.mc_proxy.specs.SessionState.{link_at, with_link}
use Rattle.mc_proxy.specs.LinkTurns.{Answers, IsLinkTurn}
use Rattle.mc_proxy.specs.ProxyState.{ProxyState}
use Rattle.mc_proxy.specs.declared.turns.LinkStep.TheVariants as turns
use Rattle.mc_account.proofs.LaneLemmas.{link_own, up_is_there}
use Rattle.mc_stream.specs.Sides.{Brings, Carries, CarriesBy, HowItCame, HowItWent, IsStopOfSide, StopsRead}
use Rattle.mc_stream.specs.declared.outcomes.Pumped.{Pumped}
use Rattle.mc_stream.specs.declared.outcomes.Pumped.TheVariants.{Again, Blocked, Done, Failed}
use Rattle.mc_stream.proofs.SideLemmas.{came_any, carried_as, carried_then, carries_none, carries_sent, stop_of_read, went_any}
use Rattle.mc_proxy_pump.specs.LinkCalls.{LinkCall, Fed, Sent, Replied, Rested, Lost, IsLinkCall, LinkCalls, LinkStretch, came_by, came_of, went_by, went_of, with_woken, woken_by}
use Rattle.mc_proxy_pump.specs.Links.{LeavesLink, PumpsLink, is_done}
use Rattle.mc_proxy_pump.specs.LinkRounds.{HowItTurned, ReceivesLink, SendsLink, TakesReplies, TakesReply}

-- the bytes of calls after calls, and the sessions that they woke
came-append : (xs ys : List LinkCall) → came_of (xs ++ ys) ≡ came_of xs ++ came_of ys
came-append [] ys = refl
came-append (x ∷ xs) ys = ap (λ (bytes : List ℕ). came_by x ++ bytes) (came-append xs ys) ∙ sym (append_assoc (came_by x) (came_of xs) (came_of ys))

went-append : (xs ys : List LinkCall) → went_of (xs ++ ys) ≡ went_of xs ++ went_of ys
went-append [] ys = refl
went-append (x ∷ xs) ys = ap (λ (bytes : List ℕ). went_by x ++ bytes) (went-append xs ys) ∙ sym (append_assoc (went_by x) (went_of xs) (went_of ys))

woken-append : (xs ys : List LinkCall) (woken : List ℕ) → woken_by (xs ++ ys) woken ≡ woken_by ys (woken_by xs woken)
woken-append [] ys woken = refl
woken-append (Fed came ∷ xs) ys woken = woken-append xs ys woken
woken-append (Sent count went ∷ xs) ys woken = woken-append xs ys woken
woken-append (Replied tag ∷ xs) ys woken = woken-append xs ys (with_woken tag.session woken)
woken-append (Rested ∷ xs) ys woken = woken-append xs ys woken
woken-append (Lost ∷ xs) ys woken = woken-append xs ys woken

calls-append : (place : ℕ) (xs ys : List LinkCall) (a b c : ProxyState) → LinkCalls place xs a b → LinkCalls place ys b c → LinkCalls place (xs ++ ys) a c
calls-append place [] ys a b c h k = subst (λ (p : ProxyState). LinkCalls place ys p c) h k
calls-append place (x ∷ xs) ys a b c h k = (h.0, (h.1.0, calls-append place xs ys h.0 b c h.1.1 k))

-- no call, and one call
pub link_none : (place : ℕ) (s : ProxyState) (woken : List ℕ) → LinkStretch place s s [] [] woken woken
link_none place s woken = record { calls = []; chain = refl; came_is = refl; went_is = refl; woken_is = refl }

pub link_one : (place : ℕ) (call : LinkCall) (a b : ProxyState) (woken : List ℕ) → IsLinkCall place call a b
    → LinkStretch place a b (came_by call) (went_by call) woken (woken_by (call ∷ []) woken)
link_one place call a b woken h = record {
  calls = call ∷ [];
  chain = (b, (h, refl));
  came_is = append-nil (came_by call);
  went_is = append-nil (went_by call);
  woken_is = refl;
}

-- one stretch and then another
pub link_then : (place : ℕ) (a b c : ProxyState) (came more went yet first second third : List ℕ) → LinkStretch place a b came went first second → LinkStretch place b c more yet second third
    → LinkStretch place a c (came ++ more) (went ++ yet) first third
link_then place a b c came more went yet first second third h k = record {
  calls = h.calls ++ k.calls;
  chain = calls-append place h.calls k.calls a b c h.chain k.chain;
  came_is = came-append h.calls k.calls ∙ ap (λ (bytes : List ℕ). bytes ++ came_of k.calls) h.came_is ∙ ap (λ (bytes : List ℕ). came ++ bytes) k.came_is;
  went_is = went-append h.calls k.calls ∙ ap (λ (bytes : List ℕ). bytes ++ went_of k.calls) h.went_is ∙ ap (λ (bytes : List ℕ). went ++ bytes) k.went_is;
  woken_is = woken-append h.calls k.calls first ∙ ap (λ (woken : List ℕ). woken_by k.calls woken) h.woken_is ∙ k.woken_is;
}

-- the link after it was written back
link_is : (place : ℕ) (link : LinkState) (old new : ProxyState) → (link_at old.links place).up ≡ true → new ≡ record old { links = with_link place link old.links } → link_at new.links place ≡ link
link_is place link old new up is = ap (λ (p : ProxyState). link_at p.links place) is ∙ link_own place link old.links (up_is_there place old.links up)

-- nothing was sent
pub link_unsent : (place : ℕ) (side : Result Bool Pumped) (s : ProxyState) (written written' : Option (List ℕ)) → (link_at s.links place).up ≡ true
    → HowItWent side written written' [] (s ≡ s) → SendsLink place side s s written written'
link_unsent place side s written written' up how = record { went = []; stretch = λ woken. link_none place s woken; how = how; still_up = up }

-- the first bytes were sent
pub link_sent : (place count : ℕ) (output : List ℕ) (old new : ProxyState) (written written' : Option (List ℕ)) → (link_at old.links place).up ≡ true → output ≡ (link_at old.links place).output
    → count ≤ length output
    → new ≡ record old { links = with_link place (record (link_at old.links place) { output = drop count (link_at old.links place).output }) old.links }
    → Appends written written' (take count output) → SendsLink place (Ok true) old new written written'
link_sent place count output old new written written' up unsent few is appended =
    let bound : count ≤ length (link_at old.links place).output = subst (λ (bytes : List ℕ). count ≤ length bytes) unsent few in
    record {
      went = take count (link_at old.links place).output;
      stretch = λ woken. link_one place (Sent count (take count (link_at old.links place).output)) old new woken (up, (bound, refl, is));
      how = subst (λ (bytes : List ℕ). Appends written written' (take count bytes)) unsent appended;
      still_up = ap (λ (link : LinkState). link.up) (link_is place (record (link_at old.links place) { output = drop count (link_at old.links place).output }) old new up is) ∙ up;
    }

-- no byte arrived
pub link_unfed : (place : ℕ) (side : Result Bool Pumped) (s : ProxyState) (unread unread' : Option (List ℕ)) (ended' : Bool) → (link_at s.links place).up ≡ true
    → HowItCame side unread unread' ended' [] (s ≡ s) → ReceivesLink place side s s unread unread' ended'
link_unfed place side s unread unread' ended' up how = record { came = []; stretch = λ woken. link_none place s woken; how = how; still_up = up }

-- a piece arrived
pub link_fed : (place : ℕ) (piece : List ℕ) (old new : ProxyState) (unread unread' : Option (List ℕ)) (ended' : Bool) → (link_at old.links place).up ≡ true
    → new ≡ record old { links = with_link place (record (link_at old.links place) { unread = (link_at old.links place).unread ++ piece }) old.links }
    → Brings unread unread' ended' piece → ReceivesLink place (Ok true) old new unread unread' ended'
link_fed place piece old new unread unread' ended' up is brings = record {
  came = piece;
  stretch = λ woken. link_one place (Fed piece) old new woken (up, is);
  how = brings;
  still_up = ap (λ (link : LinkState). link.up) (link_is place (record (link_at old.links place) { unread = (link_at old.links place).unread ++ piece }) old new up is) ∙ up;
}

-- a turn matched a reply to its command
pub own_session : (place : ℕ) (old new : ProxyState) (answers : Answers place old new) (tag : Tag)
    → Some tag ≡ option_map (λ (w : Waiting). w.1) (slice_get (link_at old.links place).waiting 0) → tag.session ≡ answers.tag.session
own_session place old new answers tag e =
    let P : List Waiting → Type 0 = λ ws. Some tag ≡ option_map (λ (w : Waiting). w.1) (slice_get ws 0) in
    let there : Some tag ≡ Some answers.tag = subst P answers.takes.oldest e in
    let same : tag ≡ answers.tag = cc in
    ap (λ (t : Tag). t.session) same

pub reply_taken : (place session : ℕ) (old new : ProxyState) (woken woken' : List ℕ) (answers : Answers place old new) → (link_at old.links place).up ≡ true → session ≡ answers.tag.session
    → woken' ≡ with_woken session woken → TakesReply place (Ok true) old new woken woken'
reply_taken place session old new woken woken' answers up own is =
    let link_is_now : link_at new.links place ≡ answers.link =
    ap (λ (links : List LinkState). link_at links place) answers.links ∙ link_own place answers.link old.links (up_is_there place old.links up) in
    let one : LinkStretch place old new [] [] woken (with_woken answers.tag.session woken) = link_one place (Replied answers.tag) old new woken (up, (answers, refl)) in
    let same : with_woken answers.tag.session woken ≡ woken' = sym (is ∙ ap (λ (n : ℕ). with_woken n woken) own) in
    let stays_up : answers.link.up ≡ true = ap (λ (link : LinkState). link.up) answers.takes.others ∙ up in
    let P : LinkState → Type 0 = λ link. (link.up ≡ true) × (length link.waiting < length (link_at old.links place).waiting) in
    let less : length answers.link.waiting < length (link_at old.links place).waiting = rw answers.takes.oldest (omega arith) in
    record {
      stretch = subst (λ (ws : List ℕ). LinkStretch place old new [] [] woken ws) same one;
      how = subst P (sym link_is_now) (stays_up, less);
    }

-- a turn lost the link
pub reply_strange : (place : ℕ) (old new : ProxyState) (woken : List ℕ) → (link_at old.links place).up ≡ true → IsLinkTurn place turns.Strange old new → TakesReply place (Err Failed) old new woken woken
reply_strange place old new woken up turn = record {
  stretch = link_one place Lost old new woken (up, turn);
  how = refl;
}

-- turns and then turns
pub turns_then : (place : ℕ) (side : Result Bool Pumped) (a b c : ProxyState) (first second third : List ℕ) → LinkStretch place a b [] [] first second → TakesReply place side b c second third
    → LinkStretch place a c [] [] first third
turns_then place side a b c first second third h k = link_then place a b c [] [] [] [] first second third h k.stretch

-- how a turn ended, given its answer
pub turned_true : (more : Bool) (old new : LinkState) → more ≡ true → HowItTurned (Ok more) old new → new.up ≡ true
turned_true true old new e h = h.0
turned_true false old new e h = absurd cc

pub turned_false : (more : Bool) (old new : LinkState) → more ≡ false → HowItTurned (Ok more) old new → (new.up ≡ true) × IsIdle new.waiting new.unread
turned_false true old new e h = absurd cc
turned_false false old new e h = h

-- nothing was done yet
pub link_pumps_none : (place : ℕ) (s : ProxyState) (unread written : Option (List ℕ)) (woken : List ℕ) → (link_at s.links place).up ≡ true → PumpsLink place Again s s unread unread written written woken woken
link_pumps_none place s unread written woken up = record {
  came = [];
  went = [];
  stretch = link_none place s woken;
  carried = carries_none unread written false;
  left = up;
}

-- a pump that goes on
pub link_pumps_then : (place : ℕ) (pump : Pumped) (a b c : ProxyState) (unread middle unread' written between written' : Option (List ℕ)) (first second third : List ℕ)
    → PumpsLink place Again a b unread middle written between first second → PumpsLink place pump b c middle unread' between written' second third
    → PumpsLink place pump a c unread unread' written written' first third
link_pumps_then place pump a b c unread middle unread' written between written' first second third h k = record {
  came = h.came ++ k.came;
  went = h.went ++ k.went;
  stretch = link_then place a b c h.came k.came h.went k.went first second third h.stretch k.stretch;
  carried = carried_then pump unread middle unread' written between written' false false (is_done pump) h.came k.came h.went k.went h.carried k.carried;
  left = k.left;
}

-- how a link is left by a side that stops the pump
left_by_side : (pump : Pumped) (link : LinkState) → link.up ≡ true → IsStopOfSide pump → LeavesLink pump link
left_by_side Again link up h = up
left_by_side Blocked link up h = absurd h
left_by_side Done link up h = absurd h
left_by_side Failed link up h = tt

-- a write after which the pump goes on
pub link_pumps_sent : (place : ℕ) (moved : Bool) (a b : ProxyState) (unread written written' : Option (List ℕ)) (woken : List ℕ)
    → SendsLink place (Ok moved) a b written written' → PumpsLink place Again a b unread unread written written' woken woken
link_pumps_sent place moved a b unread written written' woken h = record {
  came = [];
  went = h.went;
  stretch = h.stretch woken;
  carried = carries_sent unread written written' false h.went (went_any moved written written' h.went (b ≡ a) h.how);
  left = h.still_up;
}

-- the bytes of a write that stopped the pump
carried_unsent : (pump : Pumped) (unread written written' : Option (List ℕ)) (went : List ℕ) → IsStopOfSide pump × Appends written written' went
    → CarriesBy pump unread unread written written' false (is_done pump) [] went
carried_unsent Again unread written written' went h = carries_sent unread written written' false went h.1
carried_unsent Blocked unread written written' went h = absurd h.0
carried_unsent Done unread written written' went h = absurd h.0
carried_unsent Failed unread written written' went h = ([], carries_sent unread written written' false went h.1)

-- a write that stopped the pump
pub link_pumps_unsent : (place : ℕ) (pump : Pumped) (a b : ProxyState) (unread written written' : Option (List ℕ)) (woken : List ℕ)
    → SendsLink place (Err pump) a b written written' → PumpsLink place pump a b unread unread written written' woken woken
link_pumps_unsent place pump a b unread written written' woken h = record {
  came = [];
  went = h.went;
  stretch = h.stretch woken;
  carried = carried_unsent pump unread written written' h.went h.how;
  left = left_by_side pump (link_at b.links place) h.still_up h.how.0;
}

-- a read brings these bytes; an end is not recorded
carries_read : (unread unread' written : Option (List ℕ)) (ended' : Bool) (came : List ℕ) → Brings unread unread' ended' came → Carries unread unread' written written false false came []
carries_read unread unread' written ended' came h =
    let none = carries_none unread' written false in
    record { consumed = h.consumed; appended = none.appended; still_ended = λ e. e; at_end = λ e. absurd cc }

-- the bytes of a read that stopped the pump
carried_unread : (pump : Pumped) (unread unread' written : Option (List ℕ)) (ended' : Bool) (came : List ℕ) → StopsRead pump unread unread' ended' came
    → CarriesBy pump unread unread' written written false (is_done pump) came []
carried_unread Again unread unread' written ended' came h = carries_read unread unread' written ended' came h
carried_unread Blocked unread unread' written ended' came h = absurd h
carried_unread Done unread unread' written ended' came h = absurd h
carried_unread Failed unread unread' written ended' came h = (h.0, carries_read unread unread' written ended' (came ++ h.0) h.1)

-- a read that stopped the pump
pub link_pumps_unheard : (place : ℕ) (pump : Pumped) (a b : ProxyState) (unread unread' written : Option (List ℕ)) (ended' : Bool) (woken : List ℕ)
    → ReceivesLink place (Err pump) a b unread unread' ended' → PumpsLink place pump a b unread unread' written written woken woken
link_pumps_unheard place pump a b unread unread' written ended' woken h = record {
  came = h.came;
  went = [];
  stretch = h.stretch woken;
  carried = carried_unread pump unread unread' written ended' h.came h.how;
  left = left_by_side pump (link_at b.links place) h.still_up (stop_of_read pump unread unread' ended' h.came h.how);
}

-- a read that went on, and turns; and how the pump then stops: done only at the end
pub link_pumps_turned : (place : ℕ) (pump : Pumped) (moved : Bool) (side : Result (Unit {0}) Pumped) (a b c : ProxyState) (unread unread' written : Option (List ℕ)) (ended' : Bool) (woken woken' : List ℕ)
    → ReceivesLink place (Ok moved) a b unread unread' ended' → TakesReplies place side b c woken woken' → (is_done pump ≡ true → ended' ≡ true) → LeavesLink pump (link_at c.links place)
    → PumpsLink place pump a c unread unread' written written woken woken'
link_pumps_turned place pump moved side a b c unread unread' written ended' woken woken' h k ends left =
    let brings = came_any moved unread unread' ended' h.came (b ≡ a) h.how in
    let none = carries_none unread' written false in
    let carries : Carries unread unread' written written false (is_done pump) h.came [] = record {
      consumed = brings.consumed;
      appended = none.appended;
      still_ended = λ e. absurd cc;
      at_end = λ e. inr (brings.at_end (ends e));
    } in
    let P : List ℕ → Type 0 = λ bytes. CarriesBy pump unread unread' written written false (is_done pump) bytes [] in
    record {
      came = h.came ++ [];
      went = [];
      stretch = link_then place a b c h.came [] [] [] woken woken woken' (h.stretch woken) k.stretch;
      carried = subst P (sym (append-nil h.came)) (carried_as pump unread unread' written written false (is_done pump) h.came [] carries);
      left = left;
    }

-- a pump that failed is not done
pub absurd_done : (pump : Pumped) {P : Type 0} → pump ≡ Failed → is_done pump ≡ true → P
absurd_done Again f e = absurd cc
absurd_done Blocked f e = absurd cc
absurd_done Done f e = absurd cc
absurd_done Failed f e = absurd cc

-- a round: a write, a read, and turns
pub link_round : (place : ℕ) (pump : Pumped) (sent came : Bool) (side : Result (Unit {0}) Pumped) (a b c d : ProxyState) (unread unread' written written' : Option (List ℕ)) (ended' : Bool) (woken woken' : List ℕ)
    → SendsLink place (Ok sent) a b written written' → ReceivesLink place (Ok came) b c unread unread' ended' → TakesReplies place side c d woken woken' → (is_done pump ≡ true → ended' ≡ true)
    → LeavesLink pump (link_at d.links place) → PumpsLink place pump a d unread unread' written written' woken woken'
link_round place pump sent came side a b c d unread unread' written written' ended' woken woken' h k l ends left =
    link_pumps_then place pump a b d unread unread unread' written written' written' woken woken woken' (link_pumps_sent place sent a b unread written written' woken h)
    (link_pumps_turned place pump came side b c d unread unread' written' ended' woken woken' k l ends left)
