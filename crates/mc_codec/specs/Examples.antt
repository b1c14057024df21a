-- Commands and texts of worked examples.
use Rattle.std.specs.Prelude.{ℕ, ◌-◌, true, false, List, take, None, pos, codes}
use Rattle.mc_request.specs.declared.meta.MetaCommand.TheVariants as metas
use Rattle.mc_request.specs.declared.parts.Atom.{Atom}
use Rattle.mc_request.specs.declared.parts.Atom.TheVariants as atoms
use Rattle.mc_request.specs.declared.parts.Direction.TheVariants.{Up}
use Rattle.mc_request.specs.declared.parts.StoreMode.TheVariants.{Set}
use Rattle.mc_request.specs.declared.parts.Update.TheVariants as updates
use Rattle.mc_codec.specs.NextReply.{IsBegun, IsStrange}

-- `get a`
abbrev pub get_of_a : Atom (Unit {0})
get_of_a = atoms.Get (codes "a") None false

-- `set a 0 0` and a length
abbrev pub set_of_a : Atom (Unit {0})
set_of_a = atoms.Update (updates.Store Set None (codes "a") 0 (pos 0) tt)

-- `incr a 1`
abbrev pub incr_of_a : Atom (Unit {0})
incr_of_a = atoms.Update (updates.Count (codes "a") (record { direction = Up; delta = 1; compare = None; create = None; exptime = None }))

-- `mg a v`
abbrev pub mg_of_a : Atom (Unit {0})
mg_of_a = atoms.Meta (metas.Get (codes "a") (record {
  show = record { cas = false; flags = false; size = false; left = false; value = true };
  exptime = None;
  create = None;
  recache = None;
}))

-- a text is a violation from its byte of this number on, counted from 1, and is the beginning of a reply up to it
abbrev pub IsStrangeFrom : Atom (Unit {0}) → ℕ → List ℕ → Type 0
IsStrangeFrom head count text = IsBegun head (take (count - 1) text) × IsStrange head (take count text)
