-- A storage command whose data block is borrowed, as the command that it is.
use Rattle.std.specs.Prelude.{ℕ, List}
use Rattle.mc_request.specs.declared.parts.Atom.{Atom}
use Rattle.mc_request.specs.declared.parts.Atom.TheVariants as atoms
use Rattle.mc_request.specs.declared.parts.Update.TheVariants.{Store}
use Rattle.mc_codec.specs.declared.lent_stores.LentStore.{LentStore}

-- the command
abbrev pub atom_of : LentStore → Atom (List ℕ)
atom_of store = atoms.Update (Store store.mode store.compare store.key store.flags store.exptime store.block.now)
