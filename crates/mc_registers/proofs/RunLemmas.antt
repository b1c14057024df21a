-- The commands on one key that a cache executes are a run of the register.
use Rattle.std.proofs.Common.{◌≡◌, ◌∙◌, ℕ, ◌≤◌, ◌==◌, ◌||◌, ℤ, pos, negsuc, inl, inr, ◌⊎◌, Bool, true, false, cond, List, [], ◌∷◌, Option, Some, None, Ok, Err, refl, sym, ap, arith, subst}
use Rattle.std.specs.Option.{option_map_or}
use Rattle.std.specs.Str.{bytes_eq}
use Rattle.std.specs.Cmp.Lexicographic.{same_text}
use Rattle.std.proofs.lemmas.Bool.{cond_both}
use Rattle.std.proofs.lemmas.Bool.Decides.{nat_tests}
use Rattle.mc_item.specs.declared.bodies.Body.{Body}
use Rattle.mc_item.specs.Deadlines.{due_at, deadline_of}
use Rattle.mc_request.specs.declared.meta.MetaCommand.TheVariants as metas
use Rattle.mc_request.specs.declared.parts.Atom.{Atom}
use Rattle.mc_request.specs.declared.parts.Atom.TheVariants as atoms
use Rattle.mc_request.specs.declared.parts.Update.TheVariants.{Store, Touch, Delete, Count, FlushAll}
use Rattle.mc_store.specs.Items.{Items, body_at, without}
use Rattle.mc_cache.specs.CacheState.{CacheState, IsWithinBounds, IsHeldWithin, opening_cache}
use Rattle.mc_cache.specs.Laws.{IsSameOrGone}
use Rattle.mc_cache.specs.Replay.{Command, command_step}
use Rattle.mc_cache.specs.Settling.{settled, emptied, flushed, is_due, is_dead_at, without_dead}
use Rattle.mc_cache.specs.Step.{StepResult, flush_step, settled_step, step_of, atom_key}
use Rattle.mc_cache.proofs.HeldLemmas.{held-without}
use Rattle.mc_cache_laws.specs.OneMap.{KeyOutcome}
use Rattle.mc_cache_laws.proofs.OtherKeyLemmas.{leaves_other_keys}
use Rattle.mc_registers.specs.Registers.{Given, Done, register_step, turn, may_give, last_by, IsRun}
use Rattle.mc_registers.specs.Laws.{done_by, done_on}
use Rattle.mc_registers.proofs.TurnLemmas.{Turns, IsGood, settled_step-turns}

-- the item under a key is the one before, or is gone
abbrev pub IsKnown : List ℕ → Option Body → Items → Type 0
IsKnown key held items = (body_at key items ≡ held) ⊎ (body_at key items ≡ None)

-- a cache whose register of a key holds this item, and which gave that number last
pub record Knows (s : CacheState) (key : List ℕ) (last : ℕ) (held : Option Body) : Type 0 where
  pub within : IsHeldWithin s.budget s.limit s.items
  pub known : IsKnown key held s.items
  pub given : last ≤ s.counter
  pub number : last_by last held ≤ s.counter

-- a flush keeps the bounds
held-none : (budget limit : ℕ) → IsWithinBounds budget limit → IsHeldWithin budget limit []
held-none budget limit bounds = record { bounds = bounds; affordable = omega arith; few = omega arith; distinct = λ key. refl }

emptied-knows : (s : CacheState) (key : List ℕ) (last : ℕ) (held : Option Body) → Knows s key last held → Knows (emptied s) key last held
emptied-knows s key last held knows = record {
  within = held-none s.budget s.limit knows.within.bounds;
  known = inr refl;
  given = knows.given;
  number = knows.number;
}

pub flushed-knows : (s : CacheState) (key : List ℕ) (last : ℕ) (held : Option Body) (moment : ℕ) → Knows s key last held → Knows (flushed s moment) key last held
flushed-knows s key last held moment knows =
    cond_both (is_due s.pending moment) (emptied s) s (λ (u : CacheState). Knows u key last held) (λ due. emptied-knows s key last held knows) (λ waits. knows)

flush_step-knows : (s : CacheState) (key : List ℕ) (last : ℕ) (held : Option Body) (delay : ℤ) (moment : ℕ) → Knows s key last held → Knows (flush_step s delay moment) key last held
flush_step-knows s key last held (negsuc delay) moment knows = emptied-knows s key last held knows
flush_step-knows s key last held (pos delay) moment knows =
    cond_both (delay == 0) (emptied s) (record s { pending = due_at (deadline_of (pos delay) moment) }) (λ (u : CacheState). Knows u key last held)
    (λ now. emptied-knows s key last held knows)
    (λ later. record { within = knows.within; known = knows.known; given = knows.given; number = knows.number })

pub flush-knows : (s : CacheState) (key : List ℕ) (last : ℕ) (held : Option Body) (atom : Atom (List ℕ)) (moment : ℕ) (refused : Bool) → atom_key atom ≡ None → Knows s key last held
    → Knows (step_of s atom moment refused).0 key last held
flush-knows s key last held (atoms.Get at exptime with_cas) moment refused none knows = absurd cc
flush-knows s key last held (atoms.Update (Store mode compare at flags exptime block)) moment refused none knows = absurd cc
flush-knows s key last held (atoms.Update (Touch at exptime)) moment refused none knows = absurd cc
flush-knows s key last held (atoms.Update (Delete at compare invalidate)) moment refused none knows = absurd cc
flush-knows s key last held (atoms.Update (Count at counting)) moment refused none knows = absurd cc
flush-knows s key last held (atoms.Update (FlushAll delay)) moment refused none knows =
    flush_step-knows (flushed s moment) key last held delay moment (flushed-knows s key last held moment knows)
flush-knows s key last held (atoms.Meta (metas.Get at get)) moment refused none knows = absurd cc
flush-knows s key last held (atoms.Meta (metas.Update (Store mode compare at flags exptime block) show)) moment refused none knows = absurd cc
flush-knows s key last held (atoms.Meta (metas.Update (Touch at exptime) show)) moment refused none knows = absurd cc
flush-knows s key last held (atoms.Meta (metas.Update (Delete at compare invalidate) show)) moment refused none knows = absurd cc
flush-knows s key last held (atoms.Meta (metas.Update (Count at counting) show)) moment refused none knows = absurd cc
flush-knows s key last held (atoms.Meta (metas.Update (FlushAll delay) show)) moment refused none knows =
    flush_step-knows (flushed s moment) key last held delay moment (flushed-knows s key last held moment knows)

-- the cache that a command on a key finds, once a flush that is due was done
abbrev pub alive : CacheState → List ℕ → ℕ → CacheState
alive s key moment = record s { items = without_dead key moment s.items }

pub alive-good : (s : CacheState) (key : List ℕ) (moment : ℕ) → IsGood s → IsGood (alive s key moment)
alive-good s key moment good =
    cond_both (is_dead_at (body_at key s.items) moment) (without key s.items) s.items (λ (items : Items). IsHeldWithin s.budget s.limit items)
    (λ dead. held-without s.budget s.limit s.items (without key s.items) key refl good) (λ lives. good)

-- a register finds this item, whether it had forgotten it or not
abbrev pub Finds : List ℕ → ℕ → Option Body → Items → Type 0
Finds key moment held items = (forgotten : Bool) × (body_at key items ≡ cond (forgotten || is_dead_at held moment) None held)

lives-finds : (key : List ℕ) (moment : ℕ) (held : Option Body) (items : Items) → IsKnown key held items → is_dead_at (body_at key items) moment ≡ false → Finds key moment held items
lives-finds key moment held items (inl same) lives =
    let alive : is_dead_at held moment ≡ false = subst (λ (h : Option Body). is_dead_at h moment ≡ false) same lives in
    (false, same ∙ sym (ap (λ v. cond v None held) alive))
lives-finds key moment held items (inr gone) lives = (true, gone)

alive-finds : (s : CacheState) (key : List ℕ) (moment : ℕ) (held : Option Body) → IsKnown key held s.items → IsGood s → Finds key moment held (alive s key moment).items
alive-finds s key moment held known good =
    cond_both (is_dead_at (body_at key s.items) moment) (without key s.items) s.items (Finds key moment held)
    (λ dead. (true, good.distinct key)) (λ lives. lives-finds key moment held s.items known lives)

-- numbers that may be given
may-less : (low high : ℕ) (given : Given) → low ≤ high → may_give high given ≡ true → may_give low given ≡ true
may-less low high (Ok number) less may = grind (arith, nat_tests)
may-less low high (Err fault) less may = may

found-number : (gone : Bool) (held : Option Body) (last most : ℕ) → last_by last held ≤ most → last_by most (cond gone None held) ≤ most
found-number true held last most number = omega arith
found-number false None last most number = omega arith
found-number false (Some body) last most number = number

left-number : (left : Option Body) (last most : ℕ) → last ≤ most → last_by most left ≤ most → last_by last left ≤ most
left-number None last most less number = less
left-number (Some body) last most less number = number

-- a command on the key is a turn of its register
pub record IsTurn (s : CacheState) (key : List ℕ) (last : ℕ) (held : Option Body) (command : Command) : Type 0 where
  pub forgotten : Bool
  pub given : Given
  pub may : may_give last given ≡ true
  pub reply : (command_step s command).1 ≡ (turn forgotten given held (done_by s command)).1
  pub after : Knows (command_step s command).0 key (last_by last (turn forgotten given held (done_by s command)).0) (turn forgotten given held (done_by s command)).0

pub own-turn : (s : CacheState) (key : List ℕ) (last : ℕ) (held : Option Body) (command : Command) → atom_key command.atom ≡ Some key → Knows s key last held
    → IsTurn s key last held command
own-turn s key last held command is knows =
    let atom : Atom (List ℕ) = command.atom in
    let moment : ℕ = command.moment in
    let u : CacheState = flushed s moment in
    let t : CacheState = alive u key moment in
    let settles : Knows u key last held = flushed-knows s key last held moment knows in
    let finds : Finds key moment held t.items = alive-finds u key moment held settles.known settles.within in
    let found : Option Body = cond (finds.0 || is_dead_at held moment) None held in
    let o : StepResult = settled_step t atom moment command.refused in
    let steps : command_step s command ≡ o = ap (λ (k : Option (List ℕ)). settled_step (settled s k moment) atom moment command.refused) is in
    let turns : Turns t key (λ given. register_step given found atom moment) o =
    subst (λ (h : Option Body). Turns t key (λ given. register_step given h atom moment) o) finds.1
    (settled_step-turns t atom moment command.refused key is (alive-good u key moment settles.within)) in
    let left : KeyOutcome = register_step turns.given found atom moment in
    let before : last_by t.counter (body_at key t.items) ≤ t.counter =
    subst (λ (h : Option Body). last_by t.counter h ≤ t.counter) (sym finds.1) (found-number (finds.0 || is_dead_at held moment) held last t.counter settles.number) in
    let less : last ≤ o.0.counter = omega (arith, settles.given, turns.counter) in
    let next : last_by last left.0 ≤ o.0.counter = left-number left.0 last o.0.counter less (turns.last before) in
    let after : Knows o.0 key (last_by last left.0) left.0 = record {
      within = turns.within;
      known = inl turns.own;
      given = next;
      number = left-number left.0 (last_by last left.0) o.0.counter next (turns.last before);
    } in
    record {
      forgotten = finds.0;
      given = turns.given;
      may = may-less last t.counter turns.given settles.given turns.may;
      reply = ap (λ (x : StepResult). x.1) steps ∙ turns.reply;
      after = subst (λ (x : StepResult). Knows x.0 key (last_by last left.0) left.0) (sym steps) after;
    }

own-runs : (s : CacheState) (key : List ℕ) (last : ℕ) (held : Option Body) (command : Command) (es : List Done) → atom_key command.atom ≡ Some key → Knows s key last held
    → ((next : ℕ) (left : Option Body) → Knows (command_step s command).0 key next left → IsRun next left es) → IsRun last held (done_by s command ∷ es)
own-runs s key last held command es is knows again =
    let t : IsTurn s key last held command = own-turn s key last held command is knows in
    let left : Option Body = (turn t.forgotten t.given held (done_by s command)).0 in
    (t.forgotten, t.given, t.may, t.reply, again (last_by last left) left t.after)

-- a command on another key
known-after : (key : List ℕ) (held : Option Body) (before after : Items) → IsSameOrGone key before after → IsKnown key held before → IsKnown key held after
known-after key held before after (inr gone) known = inr gone
known-after key held before after (inl same) (inl was) = inl (same ∙ was)
known-after key held before after (inl same) (inr gone) = inr (same ∙ gone)

pub other-knows : (s : CacheState) (own key : List ℕ) (last : ℕ) (held : Option Body) (command : Command) → atom_key command.atom ≡ Some own → bytes_eq own key ≡ false → Knows s key last held
    → Knows (command_step s command).0 key last held
other-knows s own key last held command is differ knows =
    let atom : Atom (List ℕ) = command.atom in
    let moment : ℕ = command.moment in
    let u : CacheState = flushed s moment in
    let t : CacheState = alive u own moment in
    let settles : Knows u key last held = flushed-knows s key last held moment knows in
    let o : StepResult = settled_step t atom moment command.refused in
    let steps : command_step s command ≡ o = ap (λ (k : Option (List ℕ)). settled_step (settled s k moment) atom moment command.refused) is in
    let turns : Turns t own (λ given. register_step given (body_at own t.items) atom moment) o =
    settled_step-turns t atom moment command.refused own is (alive-good u own moment settles.within) in
    let known : IsKnown key held (command_step s command).0.items =
    known-after key held s.items (command_step s command).0.items (leaves_other_keys s atom moment command.refused own key is differ) knows.known in
    subst (λ (x : StepResult). Knows x.0 key last held) (sym steps) (record {
      within = turns.within;
      known = subst (λ (x : StepResult). IsKnown key held x.0.items) steps known;
      given = omega (arith, settles.given, turns.counter);
      number = omega (arith, settles.number, turns.counter);
    })

-- all commands
pub runs : (commands : List Command) (s : CacheState) (key : List ℕ) (last : ℕ) (held : Option Body) → Knows s key last held → IsRun last held (done_on key s commands)
runs [] s key last held knows = tt
runs (command ∷ commands) s key last held knows =
    let t : CacheState = (command_step s command).0 in
    let es : List Done = done_on key t commands in
    let again : (next : ℕ) (left : Option Body) → Knows t key next left → IsRun next left es = λ next left after. runs commands t key next left after in
    (elim (atom_key command.atom) as (λ (k : Option (List ℕ)). atom_key command.atom ≡ k
    → IsRun last held (cond (option_map_or (λ own. bytes_eq own key) k false) (done_by s command ∷ es) es)) [
      | None ↦ λ is. again last held (flush-knows s key last held command.atom command.moment command.refused is knows)
      | Some own ↦ λ is. cond_both (bytes_eq own key) (done_by s command ∷ es) es (IsRun last held)
          (λ same. own-runs s key last held command es (is ∙ ap (λ (k : List ℕ). Some k) (same_text own key (sym same))) knows again)
          (λ differ. again last held (other-knows s own key last held command is differ knows))
    ]) refl

pub opening-knows : (budget limit counter : ℕ) (key : List ℕ) → IsWithinBounds budget limit → Knows (opening_cache budget limit counter) key counter None
opening-knows budget limit counter key bounds = record {
  within = held-none budget limit bounds;
  known = inl refl;
  given = omega arith;
  number = omega arith;
}
