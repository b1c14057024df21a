-- One cache, and several, act as one map.
use Rattle.std.proofs.Common.{◌≡◌, ◌∙◌, ℕ, ◌==◌, Bool, true, false, cond, List, [], ◌∷◌, length, Option, Some, None, refl, sym, ap, arith, subst}
use Rattle.std.specs.Option.{option_map}
use Rattle.std.specs.Str.{bytes_eq}
use Rattle.std.specs.Cmp.Lexicographic.{same_text}
use Rattle.std.proofs.lemmas.Bool.{cond_both, eqb-true, eq-eqb, false_from_ne_true}
use Rattle.std.proofs.lemmas.List.Elements.{All-head, All-tail}
use Rattle.mc_item.specs.declared.bodies.Body.{Body}
use Rattle.mc_item.specs.Deadlines.{is_dead}
use Rattle.mc_request.specs.declared.meta.MetaCommand.TheVariants as metas
use Rattle.mc_request.specs.declared.parts.Atom.{Atom}
use Rattle.mc_request.specs.declared.parts.Atom.TheVariants as atoms
use Rattle.mc_request.specs.declared.parts.Update.TheVariants.{Store, Touch, Delete, Count, FlushAll}
use Rattle.mc_store.specs.Items.{Items, body_at, without}
use Rattle.mc_store.proofs.ItemLemmas.{without-absent, body_at-without}
use Rattle.mc_cache.specs.CacheState.{CacheState, IsHeldWithin, IsWithinBounds}
use Rattle.mc_cache.specs.Replay.{command_step, replay, replies}
use Rattle.mc_cache.specs.Settling.{settled, is_dead_at, without_dead}
use Rattle.mc_cache.specs.Step.{StepResult, settled_step, step_of, atom_key}
use Rattle.mc_cache.proofs.HeldLemmas.{held-without}
use Rattle.mc_cache_laws.specs.OneMap.{OneMap, KeyOutcome, key_step, found, map_with, map_step}
use Rattle.mc_cache_laws.specs.MapLaws.{is_of_map, is_refused_store, keeps_others, IsPlainStep, IsUnflushed, unnumbered, map_of, IsMap, IsMapStep, StepsAsMap}
use Rattle.mc_cache_laws.specs.Pools.{Executed, Caches, caches_with, pool_step, pool_after, pool_replies, map_replies, map_after, commands_at, IsAtOwner, ArePlainSteps, StepPlainly, replies_at, AreMap, AreUnflushed, opening_caches, empty_map, ActAsMap}
use Rattle.mc_cache_laws.proofs.MapStepLemmas.{Matches, settled_step-follows}

-- an item that is found has no number either
found-unnumbered : (moment : ℕ) (held : Option Body) → found moment (option_map unnumbered held) ≡ option_map unnumbered (found moment held)
found-unnumbered moment None = refl
found-unnumbered moment (Some body) =
    elim (is_dead body.expiry moment) as (λ v. cond v None (Some (unnumbered body)) ≡ option_map unnumbered (cond v None (Some body))) [ true ↦ refl | false ↦ refl ]

-- the cache that a command on a key finds
abbrev pub alive : CacheState → List ℕ → ℕ → CacheState
alive s key moment = record s { items = without_dead key moment s.items }

pub settled-alive : (s : CacheState) (key : List ℕ) (moment : ℕ) → s.pending ≡ None → settled s (Some key) moment ≡ alive s key moment
settled-alive s key moment none = grind arith

pub alive-unflushed : (s : CacheState) (key : List ℕ) (moment : ℕ) → IsUnflushed s → IsUnflushed (alive s key moment)
alive-unflushed s key moment good = record {
  within = cond_both (is_dead_at (body_at key s.items) moment) (without key s.items) s.items (λ (items : Items). IsHeldWithin s.budget s.limit items)
      (λ dead. held-without s.budget s.limit s.items (without key s.items) key refl good.within) (λ lives. good.within);
  pending = good.pending;
}

alive-own : (s : CacheState) (key : List ℕ) (moment : ℕ) → IsUnflushed s → map_of (alive s key moment).items key ≡ found moment (map_of s.items key)
alive-own s key moment good = grind (arith, found-unnumbered)

alive-others : (s : CacheState) (key other : List ℕ) (moment : ℕ) → bytes_eq key other ≡ false → body_at other (alive s key moment).items ≡ body_at other s.items
alive-others s key other moment differ = grind (arith, cond_both, body_at-without)

pub alive-many : (s : CacheState) (key : List ℕ) (moment : ℕ) → IsUnflushed s → length (without key (alive s key moment).items) ≡ length (without key s.items)
alive-many s key moment good = grind (arith, cond_both, without-absent)

-- a command of the map has a key
keyless : (atom : Atom (List ℕ)) → atom_key atom ≡ None → is_of_map atom ≡ false
keyless (atoms.Get key exptime with_cas) none = absurd cc
keyless (atoms.Update (Store mode compare key flags exptime block)) none = absurd cc
keyless (atoms.Update (Touch key exptime)) none = absurd cc
keyless (atoms.Update (Delete key compare invalidate)) none = absurd cc
keyless (atoms.Update (Count key counting)) none = absurd cc
keyless (atoms.Update (FlushAll delay)) none = refl
keyless (atoms.Meta (metas.Get key get)) none = absurd cc
keyless (atoms.Meta (metas.Update (Store mode compare key flags exptime block) show)) none = absurd cc
keyless (atoms.Meta (metas.Update (Touch key exptime) show)) none = absurd cc
keyless (atoms.Meta (metas.Update (Delete key compare invalidate) show)) none = absurd cc
keyless (atoms.Meta (metas.Update (Count key counting) show)) none = absurd cc
keyless (atoms.Meta (metas.Update (FlushAll delay) show)) none = refl

-- a step of a command on this key
step-at : (s : CacheState) → IsUnflushed s → (map : OneMap) → IsMap map s → (atom : Atom (List ℕ)) (moment : ℕ) (refused : Bool) → IsPlainStep s atom moment refused
    → (key : List ℕ) → atom_key atom ≡ Some key → IsMapStep map s atom moment refused
step-at s good map holds atom moment refused plain key is =
    let u : CacheState = alive s key moment in
    let o : StepResult = settled_step u atom moment refused in
    let steps : step_of s atom moment refused ≡ o =
    ap (λ (k : Option (List ℕ)). settled_step (settled s k moment) atom moment refused) is
    ∙ ap (λ (t : CacheState). settled_step t atom moment refused) (settled-alive s key moment good.pending) in
    let answered : is_refused_store o.1 ≡ false = subst (λ (x : StepResult). is_refused_store x.1 ≡ false) steps plain.answered in
    let keeps : keeps_others (Some key) s.items o.0.items ≡ true =
    subst (λ (k : Option (List ℕ)). keeps_others k s.items o.0.items ≡ true) is
    (subst (λ (x : StepResult). keeps_others (atom_key atom) s.items x.0.items ≡ true) steps plain.kept) in
    let many : length (without key o.0.items) ≡ length (without key u.items) =
    eqb-true (length (without key o.0.items)) (length (without key s.items)) keeps ∙ sym (alive-many s key moment good) in
    let m : Matches u key (key_step (map_of u.items key) atom moment) o =
    settled_step-follows u atom moment refused key plain.of_map is (alive-unflushed s key moment good) answered many in
    let finds : map_of u.items key ≡ found moment (map key) = alive-own s key moment good ∙ ap (found moment) (sym (holds key)) in
    let e : KeyOutcome = key_step (found moment (map key)) atom moment in
    let own : map_of o.0.items key ≡ e.0 = m.own ∙ ap (λ h. (key_step h atom moment).0) finds in
    let at_key : (other : List ℕ) → map_with key e.0 map other ≡ map_of o.0.items other = λ other.
    (elim (bytes_eq key other) as (λ v. bytes_eq key other ≡ v → cond v e.0 (map other) ≡ map_of o.0.items other) [
      | true ↦ λ same. subst (λ (k : List ℕ). e.0 ≡ map_of o.0.items k) (same_text key other (sym same)) (sym own)
      | false ↦ λ differ. holds other ∙ sym (ap (option_map unnumbered) (m.others other differ ∙ alive-others s key other moment differ))
    ]) refl in
    grind arith

pub steps_as_map : (s : CacheState) → IsUnflushed s → StepsAsMap s
steps_as_map s good map holds atom moment refused plain =
    (elim (atom_key atom) as (λ (k : Option (List ℕ)). atom_key atom ≡ k → IsMapStep map s atom moment refused) [
      | None ↦ λ none. absurd (let no : is_of_map atom ≡ false = keyless atom none in let yes : is_of_map atom ≡ true = plain.of_map in cc)
      | Some key ↦ λ is. step-at s good map holds atom moment refused plain key is
    ]) refl

-- the item under its key alone decides a command's reply; under another key the item stays
step-reply : (map other : OneMap) (atom : Atom (List ℕ)) (moment : ℕ) (key : List ℕ) → atom_key atom ≡ Some key → map key ≡ other key
    → (map_step map atom moment).1 ≡ (map_step other atom moment).1
step-reply map other atom moment key is same = grind arith

step-holds : (map other : OneMap) (atom : Atom (List ℕ)) (moment : ℕ) (key at : List ℕ) → atom_key atom ≡ Some key → map key ≡ other key → map at ≡ other at
    → (map_step map atom moment).0 at ≡ (map_step other atom moment).0 at
step-holds map other atom moment key at is same there = grind arith

step-other : (map : OneMap) (atom : Atom (List ℕ)) (moment : ℕ) (key at : List ℕ) → atom_key atom ≡ Some key → bytes_eq key at ≡ false
    → (map_step map atom moment).0 at ≡ map at
step-other map atom moment key at is differ = grind arith

-- the caches of several servers
with-own : (place at : ℕ) (s : CacheState) (caches : Caches) → (place == at) ≡ true → caches_with place s caches at ≡ s
with-own place at s caches same = ap (λ v. cond v s (caches at)) same

with-other : (place at : ℕ) (s : CacheState) (caches : Caches) → (place == at) ≡ false → caches_with place s caches at ≡ caches at
with-other place at s caches differ = ap (λ v. cond v s (caches at)) differ

-- a key of another owner is another key
other_owner : (owner : List ℕ → ℕ) (key at : List ℕ) (place : ℕ) → place ≡ owner key → (place == owner at) ≡ false → bytes_eq key at ≡ false
other_owner owner key at place owned differ =
    false_from_ne_true (bytes_eq key at) (λ same.
    let keys : key ≡ at = same_text key at (sym same) in
    let places : (place == owner at) ≡ true = eq-eqb place (owner at) (owned ∙ ap owner keys) in
    absurd cc)

-- one command of a pool
record IsPoolStep (owner : List ℕ → ℕ) (map : OneMap) (caches : Caches) (e : Executed) : Type 0 where
  reply : (pool_step caches e).1 ≡ (map_step map e.command.atom e.command.moment).1
  holds : AreMap owner (map_step map e.command.atom e.command.moment).0 (pool_step caches e).0
  unflushed : AreUnflushed (pool_step caches e).0

pool_step-at : (owner : List ℕ → ℕ) (map : OneMap) (caches : Caches) (e : Executed) (key : List ℕ) → atom_key e.command.atom ≡ Some key → e.place ≡ owner key
    → AreMap owner map caches → AreUnflushed caches → IsPlainStep (caches e.place) e.command.atom e.command.moment e.command.refused → IsPoolStep owner map caches e
pool_step-at owner map caches e key is owned holds good plain =
    let atom : Atom (List ℕ) = e.command.atom in
    let moment : ℕ = e.command.moment in
    let s : CacheState = caches e.place in
    let after : CacheState = (step_of s atom moment e.command.refused).0 in
    let its : OneMap = map_of s.items in
    let here : IsMapStep its s atom moment e.command.refused = steps_as_map s (good e.place) its (λ k. refl) atom moment e.command.refused plain in
    grind (arith, cond_both, eqb-true, step-reply, step-holds, step-other, other_owner)

pool_step-is : (owner : List ℕ → ℕ) (map : OneMap) (caches : Caches) (e : Executed) → IsAtOwner owner e
    → AreMap owner map caches → AreUnflushed caches → IsPlainStep (caches e.place) e.command.atom e.command.moment e.command.refused → IsPoolStep owner map caches e
pool_step-is owner map caches e at_owner holds good plain =
    (elim (atom_key e.command.atom) as (λ (k : Option (List ℕ)). atom_key e.command.atom ≡ k → IsPoolStep owner map caches e) [
      | None ↦ λ none. absurd (let no : is_of_map e.command.atom ≡ false = keyless e.command.atom none in let yes : is_of_map e.command.atom ≡ true = plain.of_map in cc)
      | Some key ↦ λ is. pool_step-at owner map caches e key is (at_owner key is) holds good plain
    ]) refl

-- the next caches, one of which has executed a command
abbrev next : Caches → Executed → Caches
next caches e = (pool_step caches e).0

next-own : (caches : Caches) (e : Executed) (place : ℕ) → (e.place == place) ≡ true → next caches e place ≡ (command_step (caches place) e.command).0
next-own caches e place own =
    with-own e.place place (command_step (caches e.place) e.command).0 caches own ∙ ap (λ p. (command_step (caches p) e.command).0) (eqb-true e.place place own)

-- a property of all commands holds of the first, and along the others
plain-first : (caches : Caches) (e : Executed) (es : List Executed) → ((place : ℕ) → ArePlainSteps (caches place) (commands_at place (e ∷ es)))
    → IsPlainStep (caches e.place) e.command.atom e.command.moment e.command.refused
plain-first caches e es plain =
    let own : (e.place == e.place) ≡ true = eq-eqb e.place e.place refl in
    (subst (λ v. ArePlainSteps (caches e.place) (cond v (e.command ∷ commands_at e.place es) (commands_at e.place es))) own (plain e.place)).0

plain-others : (caches : Caches) (e : Executed) (es : List Executed) → ((place : ℕ) → ArePlainSteps (caches place) (commands_at place (e ∷ es)))
    → (place : ℕ) → ArePlainSteps (next caches e place) (commands_at place es)
plain-others caches e es plain place = grind (arith, with-other, next-own)

-- what a server answers is what the pool answers there
pub own_replies : (caches : Caches) (es : List Executed) (place : ℕ) → replies (caches place) (commands_at place es) ≡ replies_at place es (pool_replies caches es)
own_replies caches [] place = refl
own_replies caches (e ∷ es) place =
    let rest : replies (next caches e place) (commands_at place es) ≡ replies_at place es (pool_replies (next caches e) es) = own_replies (next caches e) es place in
    grind (arith, eqb-true, with-other, next-own)

-- along commands
record ActTogether (owner : List ℕ → ℕ) (map : OneMap) (caches : Caches) (es : List Executed) : Type 0 where
  together : pool_replies caches es ≡ map_replies map es
  holds : AreMap owner (map_after map es) (pool_after caches es)
  unflushed : AreUnflushed (pool_after caches es)

act_together : (owner : List ℕ → ℕ) (map : OneMap) (caches : Caches) (es : List Executed) → AreMap owner map caches → AreUnflushed caches → StepPlainly owner caches es
    → ActTogether owner map caches es
act_together owner map caches [] holds good plain = record { together = refl; holds = holds; unflushed = good }
act_together owner map caches (e ∷ es) holds good plain =
    let step : IsPoolStep owner map caches e =
    pool_step-is owner map caches e (All-head (IsAtOwner owner) e es plain.at_owners) holds good (plain-first caches e es plain.plain) in
    let after : OneMap = (map_step map e.command.atom e.command.moment).0 in
    let rest : ActTogether owner after (next caches e) es =
    act_together owner after (next caches e) es step.holds step.unflushed
    (record { at_owners = All-tail (IsAtOwner owner) e es plain.at_owners; plain = plain-others caches e es plain.plain }) in
    grind arith

pub act_as_map : (owner : List ℕ → ℕ) (map : OneMap) (caches : Caches) (es : List Executed) → AreMap owner map caches → AreUnflushed caches → StepPlainly owner caches es
    → ActAsMap owner map caches es
act_as_map owner map caches es holds good plain =
    let act : ActTogether owner map caches es = act_together owner map caches es holds good plain in
    grind (arith, own_replies)

-- empty servers hold what the empty map holds
pub opening_are_map : (owner : List ℕ → ℕ) (budget limit counter : ℕ) → AreMap owner empty_map (opening_caches budget limit counter)
opening_are_map owner budget limit counter key = refl

pub opening_are_unflushed : (budget limit counter : ℕ) → IsWithinBounds budget limit → AreUnflushed (opening_caches budget limit counter)
opening_are_unflushed budget limit counter bounds place = grind arith

-- each server's cache is what its own commands leave
pub own_commands : (caches : Caches) (es : List Executed) (place : ℕ) → pool_after caches es place ≡ replay (caches place) (commands_at place es)
own_commands caches [] place = refl
own_commands caches (e ∷ es) place =
    let rest : pool_after (next caches e) es place ≡ replay (next caches e place) (commands_at place es) = own_commands (next caches e) es place in
    grind (arith, with-other, next-own)
