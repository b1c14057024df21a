-- Memory is refused only to commands that need it.
use Rattle.std.proofs.Common.{◌≡◌, ℕ, ℤ, ◌⊎◌, inl, inr, true, List, [], ◌∷◌, Option, None, Some, is_none, refl}
use Rattle.std.proofs.lemmas.Bool.{and_parts, false≢true}
use Rattle.mc_item.specs.declared.bodies.Body.{Body}
use Rattle.mc_request.specs.Parts.{key_in}
use Rattle.mc_request.specs.declared.meta.MetaCommand.TheVariants as metas
use Rattle.mc_request.specs.declared.meta.MetaGet.{MetaGet}
use Rattle.mc_request.specs.declared.parts.Atom.{Atom}
use Rattle.mc_request.specs.declared.parts.Atom.TheVariants as atoms
use Rattle.mc_request.specs.declared.parts.StoreMode.{StoreMode}
use Rattle.mc_request.specs.declared.parts.StoreMode.TheVariants.{Add, Append, Prepend, Replace, Set}
use Rattle.mc_request.specs.declared.parts.Update.{Update}
use Rattle.mc_request.specs.declared.parts.Update.TheVariants.{Count, Delete, FlushAll, Store, Touch}
use Rattle.mc_ring.specs.Rings.{RingState}
use Rattle.mc_cache.specs.CacheState.{CacheState}
use Rattle.mc_cache.specs.Memory.{get_may_refuse, may_refuse, mode_may_refuse, update_may_refuse}
use Rattle.mc_cache.specs.Settling.{settled}
use Rattle.mc_cache.specs.Step.{held_under, step_of, unstored}
use Rattle.mc_store.specs.Items.{body_at}
use Rattle.mc_history.specs.declared.entries.Entry.{Entry}
use Rattle.mc_world.specs.Homes.{Homes}
use Rattle.mc_world.specs.Logs.{Log}
use Rattle.mc_pool_laws.specs.Sent.{IsReplayed}
use Rattle.mc_pool_laws.specs.Wanted.{AreWanted, WantsMemory, may_lengthen, may_store}

-- a storage command, by the item under its key
by_mode : (mode : StoreMode) (held : Option Body) (compare : Option ℕ) (key : List ℕ) (flags : ℕ) (exptime : ℤ) (block : List ℕ) → mode_may_refuse mode held block ≡ true
    → (held ≡ None) ⊎ (may_lengthen (Store mode compare key flags exptime block) ≡ true)
by_mode mode None compare key flags exptime block h = inl refl
by_mode Append (Some body) compare key flags exptime block h = inr h
by_mode Prepend (Some body) compare key flags exptime block h = inr h
by_mode Set (Some body) compare key flags exptime block h = absurd (false≢true h)
by_mode Add (Some body) compare key flags exptime block h = absurd (false≢true h)
by_mode Replace (Some body) compare key flags exptime block h = absurd (false≢true h)

-- a command that may change the stored item, on a settled cache
record Wants (t : CacheState) (update : Update (List ℕ) (List ℕ)) : Type 0 where
  pub stores : may_store update ≡ true
  pub grows : (held_under (key_in update) t ≡ None) ⊎ (may_lengthen update ≡ true)

by_update : (t : CacheState) (update : Update (List ℕ) (List ℕ)) → update_may_refuse t update ≡ true → Wants t update
by_update t (Store mode compare key flags exptime block) h = record {
  stores = refl;
  grows = by_mode mode (body_at key t.items) compare key flags exptime block
      (and_parts (is_none (unstored compare mode (body_at key t.items))) (mode_may_refuse mode (body_at key t.items) block) h).1;
}
by_update t (Count key counting) h = record { stores = refl; grows = inr refl }
by_update t (Touch key exptime) h = absurd (false≢true h)
by_update t (Delete key compare invalidate) h = absurd (false≢true h)
by_update t (FlushAll delay) h = absurd (false≢true h)

by_get : (get : MetaGet) (held : Option Body) → get_may_refuse get held ≡ true → held ≡ None
by_get get None h = refl
by_get get (Some body) h = absurd (false≢true h)

wants : (s : CacheState) (atom : Atom (List ℕ)) (moment : ℕ) → may_refuse s atom moment ≡ true → WantsMemory s atom moment
wants s (atoms.Get key exptime with_cas) moment h = absurd (false≢true h)
wants s (atoms.Update update) moment h =
    let w = by_update (settled s (key_in update) moment) update h in
    record { exact = h; stores = w.stores; grows = w.grows }
wants s (atoms.Meta (metas.Get key get)) moment h =
    record { exact = h; stores = refl; grows = inl (by_get get (body_at key (settled s (Some key) moment).items) h) }
wants s (atoms.Meta (metas.Update update show)) moment h =
    let w = by_update (settled s (key_in update) moment) update h in
    record { exact = h; stores = w.stores; grows = w.grows }

-- this holds of each entry of a history
pub are_wanted : (home : Homes) (ring : RingState) (texts : ℕ → List ℕ) (log : Log) (place : ℕ) (s : CacheState) (es : List Entry) → IsReplayed home ring texts log place s es → AreWanted home ring texts log place s es
are_wanted home ring texts log place s [] h = tt
are_wanted home ring texts log place s (e ∷ es) h =
    (h.0, h.1, λ refused. wants s h.0 e.moment (h.2.legal refused), are_wanted home ring texts log place (step_of s h.0 e.moment e.refused).0 es h.3)
