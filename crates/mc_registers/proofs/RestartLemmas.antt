-- A cache gives at most one number for each command. So no number that it showed fits a cache whose numbers begin
-- above it by the number of commands.
use Rattle.std.proofs.Common.{◌≡◌, ◌∙◌, ℕ, ◌+◌, ◌≤◌, ◌==◌, ◌||◌, ℤ, pos, negsuc, Bool, false, cond, List, [], ◌∷◌, ◌++◌, length, Option, Some, None, refl, sym, ap, arith, subst}
use Rattle.std.specs.Option.{option_map_or}
use Rattle.std.specs.Str.{bytes_eq}
use Rattle.std.specs.Cmp.Lexicographic.{same_text}
use Rattle.std.proofs.lemmas.Bool.{cond_both}
use Rattle.mc_item.specs.declared.bodies.Body.{Body}
use Rattle.mc_item.specs.Deadlines.{due_at, deadline_of}
use Rattle.mc_request.specs.declared.meta.MetaCommand.TheVariants as metas
use Rattle.mc_request.specs.declared.parts.Atom.{Atom}
use Rattle.mc_request.specs.declared.parts.Atom.TheVariants as atoms
use Rattle.mc_request.specs.declared.parts.Update.TheVariants.{Store, Touch, Delete, Count, FlushAll}
use Rattle.mc_reply.specs.declared.replies.Reply.{Reply}
use Rattle.mc_store.specs.Items.{body_at}
use Rattle.mc_cache.specs.CacheState.{CacheState, IsWithinBounds, opening_cache}
use Rattle.mc_cache.specs.Replay.{Command, command_step}
use Rattle.mc_cache.specs.Settling.{settled, emptied, flushed, is_due, is_dead_at}
use Rattle.mc_cache.specs.Step.{StepResult, flush_step, settled_step, step_of, atom_key}
use Rattle.mc_registers.specs.Registers.{Done, register_step, turn, last_by, IsRun}
use Rattle.mc_registers.specs.Guarantees.{number_shown}
use Rattle.mc_registers.specs.Laws.{done_by, done_on}
use Rattle.mc_registers.specs.Restarts.{CasLosesNothingAcrossRestarts}
use Rattle.mc_registers.proofs.TurnLemmas.{Turns, settled_step-turns}
use Rattle.mc_registers.proofs.RunLemmas.{Knows, flushed-knows, flush-knows, alive, alive-good, IsTurn, own-turn, other-knows, runs, opening-knows}
use Rattle.mc_registers.proofs.GuaranteeLemmas.{IsNumbered, old_numbers_do_not_fit}
use Rattle.mc_registers.proofs.NumberLemmas.{step-shows}

-- a flush gives no number
flushed-counter : (s : CacheState) (moment : ℕ) → (flushed s moment).counter ≡ s.counter
flushed-counter s moment = cond_both (is_due s.pending moment) (emptied s) s (λ (u : CacheState). u.counter ≡ s.counter) (λ due. refl) (λ waits. refl)

flush_step-counter : (s : CacheState) (delay : ℤ) (moment : ℕ) → (flush_step s delay moment).counter ≡ s.counter
flush_step-counter s (negsuc delay) moment = refl
flush_step-counter s (pos delay) moment =
    cond_both (delay == 0) (emptied s) (record s { pending = due_at (deadline_of (pos delay) moment) }) (λ (u : CacheState). u.counter ≡ s.counter) (λ now. refl) (λ later. refl)

flush-counter : (s : CacheState) (atom : Atom (List ℕ)) (moment : ℕ) (refused : Bool) → atom_key atom ≡ None → (step_of s atom moment refused).0.counter ≡ s.counter
flush-counter s (atoms.Get at exptime with_cas) moment refused none = absurd cc
flush-counter s (atoms.Update (Store mode compare at flags exptime block)) moment refused none = absurd cc
flush-counter s (atoms.Update (Touch at exptime)) moment refused none = absurd cc
flush-counter s (atoms.Update (Delete at compare invalidate)) moment refused none = absurd cc
flush-counter s (atoms.Update (Count at counting)) moment refused none = absurd cc
flush-counter s (atoms.Update (FlushAll delay)) moment refused none = flush_step-counter (flushed s moment) delay moment ∙ flushed-counter s moment
flush-counter s (atoms.Meta (metas.Get at get)) moment refused none = absurd cc
flush-counter s (atoms.Meta (metas.Update (Store mode compare at flags exptime block) show)) moment refused none = absurd cc
flush-counter s (atoms.Meta (metas.Update (Touch at exptime) show)) moment refused none = absurd cc
flush-counter s (atoms.Meta (metas.Update (Delete at compare invalidate) show)) moment refused none = absurd cc
flush-counter s (atoms.Meta (metas.Update (Count at counting) show)) moment refused none = absurd cc
flush-counter s (atoms.Meta (metas.Update (FlushAll delay) show)) moment refused none = flush_step-counter (flushed s moment) delay moment ∙ flushed-counter s moment

-- a command gives at most one number
keyed-next : (s : CacheState) (own key : List ℕ) (last : ℕ) (held : Option Body) (command : Command) → atom_key command.atom ≡ Some own → Knows s key last held
    → (command_step s command).0.counter ≤ s.counter + 1
keyed-next s own key last held command is knows =
    let atom : Atom (List ℕ) = command.atom in
    let moment : ℕ = command.moment in
    let u : CacheState = flushed s moment in
    let t : CacheState = alive u own moment in
    let settles : Knows u key last held = flushed-knows s key last held moment knows in
    let o : StepResult = settled_step t atom moment command.refused in
    let steps : command_step s command ≡ o = ap (λ (k : Option (List ℕ)). settled_step (settled s k moment) atom moment command.refused) is in
    let turns : Turns t own (λ given. register_step given (body_at own t.items) atom moment) o =
    settled_step-turns t atom moment command.refused own is (alive-good u own moment settles.within) in
    let next : o.0.counter ≤ u.counter + 1 = turns.next in
    let same : u.counter ≡ s.counter = flushed-counter s moment in
    subst (λ (x : StepResult). x.0.counter ≤ s.counter + 1) (sym steps) (omega (arith, next, same))

command-next : (s : CacheState) (key : List ℕ) (last : ℕ) (held : Option Body) (command : Command) → Knows s key last held → (command_step s command).0.counter ≤ s.counter + 1
command-next s key last held command knows =
    (elim (atom_key command.atom) as (λ (k : Option (List ℕ)). atom_key command.atom ≡ k → (command_step s command).0.counter ≤ s.counter + 1) [
      | None ↦ λ is. let same = flush-counter s command.atom command.moment command.refused is in omega (arith, same)
      | Some own ↦ λ is. keyed-next s own key last held command is knows
    ]) refl

-- replies that show no number above one
abbrev IsWithin : ℕ → Reply (List ℕ) → Type 0
IsWithin most reply = (number : ℕ) → number_shown reply ≡ Some number → number ≤ most

abbrev AreWithin : ℕ → List Done → Type 0
AreWithin most [] = Unit {0}
AreWithin most (e ∷ es) = IsWithin most e.reply × AreWithin most es

at-within : (front back : List Done) (e : Done) (most : ℕ) → AreWithin most (front ++ e ∷ back) → IsWithin most e.reply
at-within [] back e most all = all.0
at-within (d ∷ front) back e most all = at-within front back e most all.1

own-within : (s : CacheState) (key : List ℕ) (last : ℕ) (held : Option Body) (command : Command) (most : ℕ) → IsTurn s key last held command
    → (command_step s command).0.counter ≤ most → IsWithin most (command_step s command).1
own-within s key last held command most t fits number shows =
    let e : Done = done_by s command in
    let left : Option Body = (turn t.forgotten t.given held e).0 in
    let has : IsNumbered number left = step-shows t.given (cond (t.forgotten || is_dead_at held e.moment) None held) e.atom e.moment number
    (subst (λ (r : Reply (List ℕ)). number_shown r ≡ Some number) t.reply shows) in
    let after : last_by last left ≤ (command_step s command).0.counter = t.after.given in
    let own : has.0.cas ≤ (command_step s command).0.counter = subst (λ (h : Option Body). last_by last h ≤ (command_step s command).0.counter) has.1 after in
    omega (arith, own, has.2, fits)

all-within : (commands : List Command) (s : CacheState) (key : List ℕ) (last : ℕ) (held : Option Body) (most : ℕ) → Knows s key last held → s.counter + length commands ≤ most
    → AreWithin most (done_on key s commands)
all-within [] s key last held most knows fits = tt
all-within (command ∷ commands) s key last held most knows fits =
    let t : CacheState = (command_step s command).0 in
    let es : List Done = done_on key t commands in
    let next : t.counter ≤ s.counter + 1 = command-next s key last held command knows in
    let less : t.counter + length commands ≤ most = omega (arith, next, fits) in
    let again : (number : ℕ) (left : Option Body) → Knows t key number left → AreWithin most es = λ number left after. all-within commands t key number left most after less in
    (elim (atom_key command.atom) as (λ (k : Option (List ℕ)). atom_key command.atom ≡ k
    → AreWithin most (cond (option_map_or (λ own. bytes_eq own key) k false) (done_by s command ∷ es) es)) [
      | None ↦ λ is. again last held (flush-knows s key last held command.atom command.moment command.refused is knows)
      | Some own ↦ λ is. cond_both (bytes_eq own key) (done_by s command ∷ es) es (AreWithin most)
          (λ same.
          let its : IsTurn s key last held command = own-turn s key last held command (is ∙ ap (λ (k : List ℕ). Some k) (same_text own key (sym same))) knows in
          let left : Option Body = (turn its.forgotten its.given held (done_by s command)).0 in
          (own-within s key last held command most its (omega (arith, less)), again (last_by last left) left its.after))
          (λ differ. again last held (other-knows s own key last held command is differ knows))
    ]) refl

pub loses_nothing_across_restarts : (budget limit first : ℕ) → IsWithinBounds budget limit → (room most later : ℕ) → IsWithinBounds room most
    → CasLosesNothingAcrossRestarts (opening_cache budget limit first) (opening_cache room most later)
loses_nothing_across_restarts budget limit first bounds room most later limits commands anew key front back before after read cas update number above executed shows again updates needs =
    let all : AreWithin later (done_on key (opening_cache budget limit first) commands) =
    all-within commands (opening_cache budget limit first) key first None later (opening-knows budget limit first key bounds) above in
    let within : IsWithin later read.reply = at-within front back read later (subst (λ (es : List Done). AreWithin later es) executed all) in
    let run : IsRun later None (before ++ cas ∷ after) =
    subst (λ (es : List Done). IsRun later None es) again (runs anew (opening_cache room most later) key later None (opening-knows room most later key limits)) in
    old_numbers_do_not_fit later before after cas update number run (within number shows) updates needs
