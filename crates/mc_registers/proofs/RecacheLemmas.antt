-- Who fills an item anew: at most one client for each mark.
use Rattle.std.proofs.Common.{◌≡◌, ◌∙◌, ℕ, ◌+◌, ◌≤◌, ◌&&◌, ◌||◌, ℤ, inl, inr, Bool, true, false, cond, if◌then◌else◌, List, [], ◌∷◌, ◌++◌, Option, Some, None, Ok, Err, refl, sym, ap, arith, subst}
use Rattle.std.specs.Option.{option_map_or, is_some}
use Rattle.std.proofs.lemmas.Bool.{true≢false}
use Rattle.mc_item.specs.declared.bodies.Body.{Body}
use Rattle.mc_request.specs.declared.meta.MetaCommand.TheVariants as metas
use Rattle.mc_request.specs.declared.parts.Atom.{Atom}
use Rattle.mc_request.specs.declared.parts.Atom.TheVariants as atoms
use Rattle.mc_reply.specs.declared.replies.Marks.TheVariants.{Plain, Won}
use Rattle.mc_reply.specs.declared.replies.Reply.{Reply}
use Rattle.mc_reply.specs.declared.replies.Reply.TheVariants.{Stored, Miss}
use Rattle.mc_cache.specs.Settling.{is_dead_at}
use Rattle.mc_cache.specs.Showing.{marks_by, needs_filling}
use Rattle.mc_cache.specs.Step.{numbered, made_by}
use Rattle.mc_cache_laws.specs.OneMap.{KeyOutcome, as_meta}
use Rattle.mc_registers.specs.Registers.{Given, put_as, update_as, register_step, Done, turn, last_by, IsRun}
use Rattle.mc_registers.specs.Guarantees.{has_written, may_have_written, HaveNotWritten, IsSteadyRun}
use Rattle.mc_registers.specs.Recache.{is_win, has_won, wins, RecacheHasOneWinner, EachWinIsMarked}
use Rattle.mc_registers.proofs.LeftLemmas.{IsKept, IsLeft, kept-left, meta_reply_of-done, update-leaves}
use Rattle.mc_registers.proofs.GuaranteeLemmas.{held-kept, run-part}

-- the stored item was won; and likewise, if there is one
abbrev pub IsHeldWon : Option Body → Type 0
IsHeldWon None = ⊥
IsHeldWon (Some body) = body.won ≡ true

abbrev pub IsWon : Option Body → Type 0
IsWon None = Unit {0}
IsWon (Some body) = body.won ≡ true

won-held : (held : Option Body) → IsHeldWon held → IsWon held
won-held None won = absurd won
won-held (Some body) won = won

won-left : (held left : Option Body) → IsWon held → IsLeft held left → IsWon left
won-left held None won left = tt
won-left None (Some after) won left = absurd left
won-left (Some body) (Some after) won left = left.won won

won-found : (gone : Bool) (held : Option Body) → IsWon held → IsWon (cond gone None held)
won-found true held won = tt
won-found false held won = won

-- the marks of an item that was won, and of one that is won now
won-marks : (stale won needs : Bool) → won ≡ true → is_win (marks_by stale won needs) ≡ false
won-marks true true needs is = refl
won-marks false true needs is = refl
won-marks stale false needs is = absurd cc

win-marks : (stale won needs : Bool) → is_win (marks_by stale won needs) ≡ true → (won || needs) ≡ true
win-marks stale true needs is = refl
win-marks true false true is = refl
win-marks true false false is = absurd cc
win-marks false false true is = refl
win-marks false false false is = absurd cc

-- a client that is asked to fill an item leaves one that is marked as won
win-leaves : (given : Given) (held : Option Body) (atom : Atom (List ℕ)) (moment : ℕ) → has_won atom (register_step given held atom moment).1 ≡ true
    → IsHeldWon (register_step given held atom moment).0
win-leaves given held (atoms.Get key touch with_cas) moment won = absurd cc
win-leaves given held (atoms.Update update) moment won = absurd cc
win-leaves given None (atoms.Meta (metas.Get key get)) moment won = go get.create given won
  where
    go : (create : Option ℤ) (given : Given) → let o : KeyOutcome = option_map_or
        (λ create. as_meta get.show moment Won (put_as given None (numbered (made_by get.exptime create moment) 0) Stored)) create (None, Miss) in
        has_won (atoms.Meta (metas.Get key get)) o.1 ≡ true → IsHeldWon o.0
    go None given won = absurd cc
    go (Some create) (Err fault) won = absurd cc
    go (Some create) (Ok number) won = refl
win-leaves given (Some body) (atoms.Meta (metas.Get key get)) moment won = win-marks body.stale body.won (needs_filling get.recache moment body) won
win-leaves given held (atoms.Meta (metas.Update update show)) moment won = absurd cc

-- no other client is asked to fill it
won-shows : (given : Given) (body : Body) (atom : Atom (List ℕ)) (moment : ℕ) → body.won ≡ true → has_won atom (register_step given (Some body) atom moment).1 ≡ false
won-shows given body (atoms.Get key touch with_cas) moment won = refl
won-shows given body (atoms.Update update) moment won = refl
won-shows given body (atoms.Meta (metas.Get key get)) moment won = won-marks body.stale body.won (needs_filling get.recache moment body) won
won-shows given body (atoms.Meta (metas.Update update show)) moment won = refl

-- once the item is won, no client is asked while it stays
steady-won : (es : List Done) (last : ℕ) (held : Option Body) → IsHeldWon held → IsSteadyRun last held es → HaveNotWritten es → wins es ≡ 0
steady-won es last None won run none = absurd won
steady-won [] last (Some body) won run none = refl
steady-won (e ∷ es) last (Some body) won run none =
    let found : cond (false || is_dead_at (Some body) e.moment) None (Some body) ≡ Some body = ap (λ v. cond v None (Some body)) run.1 in
    let step : Option Body → KeyOutcome = λ held. register_step run.0 held e.atom e.moment in
    let replies : e.reply ≡ (step (Some body)).1 = run.2 ∙ ap (λ (held : Option Body). (step held).1) found in
    let shows : has_won e.atom e.reply ≡ false = ap (λ (r : Reply (List ℕ)). has_won e.atom r) replies ∙ won-shows run.0 body e.atom e.moment won in
    let kept : IsKept (Some body) (step (Some body)).0 =
    held-kept run.0 body e.atom e.moment (subst (λ (r : Reply (List ℕ)). has_written e.atom r ≡ false) replies none.0) in
    let here : ◌≡◌ {A = ℕ} (if has_won e.atom e.reply then 1 else 0) 0 = ap (λ (v : Bool). if v then 1 else 0) shows in
    let later : wins es ≡ 0 = (elim (turn false run.0 (Some body) e).0 as (λ (left : Option Body). IsKept (Some body) left → IsSteadyRun (last_by last left) left es → wins es ≡ 0) [
      | None ↦ λ kept rest. absurd kept
      | Some after ↦ λ kept rest. steady-won es after.cas (Some after) (kept.won won) rest none.1
    ]) (subst (λ (held : Option Body). IsKept (Some body) (step held).0) (sym found) kept) run.3 in
    omega (arith, here, later)

pub one_winner : (last : ℕ) (held : Option Body) → RecacheHasOneWinner last held
one_winner last held [] run none = omega arith
one_winner last held (e ∷ es) run none =
    let left : Option Body = (turn false run.0 held e).0 in
    let again = one_winner (last_by last left) left es run.3 none.1 in
    (elim (has_won e.atom e.reply) as (λ v. has_won e.atom e.reply ≡ v → (if v then 1 else 0) + wins es ≤ 1) [
      | true ↦ λ won.
          let after : IsHeldWon left = win-leaves run.0 (cond (false || is_dead_at held e.moment) None held) e.atom e.moment
          (subst (λ (r : Reply (List ℕ)). has_won e.atom r ≡ true) run.2 won) in
          let later = steady-won es (last_by last left) left after run.3 none.1 in
          omega (arith, later)
      | false ↦ λ lost. omega (arith, again)
    ]) refl

-- a command that did not write leaves an item that was won, or none; the item that an `mg` makes was won too
unwritten-won : (given : Given) (held : Option Body) (atom : Atom (List ℕ)) (moment : ℕ) → IsWon held → has_written atom (register_step given held atom moment).1 ≡ false
    → IsWon (register_step given held atom moment).0
unwritten-won given None (atoms.Get key touch with_cas) moment won none = tt
unwritten-won given None (atoms.Update update) moment won none =
    let o : KeyOutcome = update_as given None update moment in
    elim (update-leaves given None update moment) [
      | inl kept ↦ won-left None o.0 tt (kept-left None o.0 kept.0)
      | inr fresh ↦ absurd (true≢false (sym fresh.1 ∙ none))
    ]
unwritten-won given None (atoms.Meta (metas.Get key get)) moment won none = go get.create given
  where
    go : (create : Option ℤ) (given : Given) → let o : KeyOutcome = option_map_or
        (λ create. as_meta get.show moment Won (put_as given None (numbered (made_by get.exptime create moment) 0) Stored)) create (None, Miss) in IsWon o.0
    go None given = tt
    go (Some create) (Err fault) = tt
    go (Some create) (Ok number) = refl
unwritten-won given None (atoms.Meta (metas.Update update show)) moment won none =
    let o : KeyOutcome = update_as given None update moment in
    elim (update-leaves given None update moment) [
      | inl kept ↦ won-left None o.0 tt (kept-left None o.0 kept.0)
      | inr fresh ↦ absurd (true≢false (sym fresh.1 ∙ sym (meta_reply_of-done show moment Plain o.0 o.1) ∙ none))
    ]
unwritten-won given (Some body) atom moment won none =
    let left : Option Body = (register_step given (Some body) atom moment).0 in
    won-left (Some body) left won (kept-left (Some body) left (held-kept given body atom moment none))

unwritten-run : (between : List Done) (last : ℕ) (held : Option Body) (es : List Done) → IsWon held → HaveNotWritten between → IsRun last held (between ++ es)
    → (next : ℕ) × (left : Option Body) × IsWon left × IsRun next left es
unwritten-run [] last held es won none run = (last, held, won, run)
unwritten-run (e ∷ between) last held es won none run =
    let gone : Bool = run.0 || is_dead_at held e.moment in
    let left : Option Body = (turn run.0 run.1 held e).0 in
    let still : IsWon left = unwritten-won run.1 (cond gone None held) e.atom e.moment (won-found gone held won)
    (subst (λ (r : Reply (List ℕ)). has_written e.atom r ≡ false) run.3 none.0) in
    unwritten-run between (last_by last left) left es still none.1 run.4

-- a second client is asked only by an `mg` that makes an item
second-made : (given : Given) (held : Option Body) (atom : Atom (List ℕ)) (moment : ℕ) → IsWon held → has_won atom (register_step given held atom moment).1 ≡ true
    → may_have_written atom (register_step given held atom moment).1 ≡ true
second-made given held (atoms.Get key touch with_cas) moment won again = absurd cc
second-made given held (atoms.Update update) moment won again = absurd cc
second-made given None (atoms.Meta (metas.Get key get)) moment won again = go get.create refl given again
  where
    go : (create : Option ℤ) → get.create ≡ create → (given : Given) → let o : KeyOutcome = option_map_or
        (λ create. as_meta get.show moment Won (put_as given None (numbered (made_by get.exptime create moment) 0) Stored)) create (None, Miss) in
        has_won (atoms.Meta (metas.Get key get)) o.1 ≡ true → may_have_written (atoms.Meta (metas.Get key get)) o.1 ≡ true
    go None is given again = absurd cc
    go (Some create) is (Err fault) again = absurd cc
    go (Some create) is (Ok number) again = ap (λ (c : Option ℤ). is_some c && true) is
second-made given (Some body) (atoms.Meta (metas.Get key get)) moment won again =
    absurd (true≢false (sym again ∙ won-shows given body (atoms.Meta (metas.Get key get)) moment won))
second-made given held (atoms.Meta (metas.Update update show)) moment won again = absurd cc

pub each_win_is_marked : (last : ℕ) (held : Option Body) → EachWinIsMarked last held
each_win_is_marked last held front between back first second run wins_first wins_second none =
    let part = run-part front last held (first ∷ (between ++ second ∷ back)) run in
    let r = part.2 in
    let after : Option Body = (turn r.0 r.1 part.1 first).0 in
    let won : IsHeldWon after = win-leaves r.1 (cond (r.0 || is_dead_at part.1 first.moment) None part.1) first.atom first.moment
    (subst (λ (x : Reply (List ℕ)). has_won first.atom x ≡ true) r.3 wins_first) in
    let rest = unwritten-run between (last_by part.0 after) after (second ∷ back) (won-held after won) none r.4 in
    let q = rest.3 in
    let gone : Bool = q.0 || is_dead_at rest.1 second.moment in
    let again : has_won second.atom (register_step q.1 (cond gone None rest.1) second.atom second.moment).1 ≡ true =
    subst (λ (x : Reply (List ℕ)). has_won second.atom x ≡ true) q.3 wins_second in
    subst (λ (x : Reply (List ℕ)). may_have_written second.atom x ≡ true) (sym q.3)
    (second-made q.1 (cond gone None rest.1) second.atom second.moment (won-found gone rest.1 rest.2) again)

-- likewise for the first, if nothing was stored at first
pub first_win_is_marked : (last : ℕ) (front back : List Done) (first : Done) → IsRun last None (front ++ first ∷ back) → has_won first.atom first.reply ≡ true → HaveNotWritten front
    → may_have_written first.atom first.reply ≡ true
first_win_is_marked last front back first run wins none =
    let rest = unwritten-run front last None (first ∷ back) tt none run in
    let q = rest.3 in
    let gone : Bool = q.0 || is_dead_at rest.1 first.moment in
    let again : has_won first.atom (register_step q.1 (cond gone None rest.1) first.atom first.moment).1 ≡ true =
    subst (λ (x : Reply (List ℕ)). has_won first.atom x ≡ true) q.3 wins in
    subst (λ (x : Reply (List ℕ)). may_have_written first.atom x ≡ true) (sym q.3)
    (second-made q.1 (cond gone None rest.1) first.atom first.moment (won-found gone rest.1 rest.2) again)
