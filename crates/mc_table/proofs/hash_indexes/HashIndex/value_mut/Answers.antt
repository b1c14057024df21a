use Rattle.std.proofs.Common.{List, refl, ap, sym, ◌∙◌, length, ◌<◌, arith}
use Rattle.std.specs.Prelude.{slice_get}
use Rattle.std.specs.Map.{values_of}
use Rattle.mc_table.specs.Tables.{with_value}
use Rattle.mc_table.proofs.SlotLemmas.{length-entries_of}
use Rattle.mc_table.proofs.HashedLemmas.{hashed_lent, entries_lent, value_at}
use Rattle.mc_table.proofs.hash_indexes.HashIndex.value_mut.Goals as goal

pub invariant_of-self-lent : goal.invariant_of-self-lent
invariant_of-self-lent g c = λ w. hashed_lent _ _ _ c.self.inside.slots.items c.args.index _ w c.index_mut-slot.ensures.value c.self.invariant

pub returns : goal.returns
returns g c =
    let slots = c.self.inside.slots.items in
    let slot = c.index_mut-slot.result.now in
    let within : c.args.index < length slots = omega (arith, c.requires, ap length c.self.view_is, length-entries_of slots) in (
      (refl, λ w. entries_lent slots c.args.index slot w c.index_mut-slot.ensures.value ∙ ap (λ (l : List (g.row.K.Denot × g.row.V.Denot)). with_value l c.args.index w) c.self.view_is),
      record {
        writes_back = tt;
        value = ap (λ (l : List (g.row.K.Denot × g.row.V.Denot)). slice_get (values_of l) c.args.index) (sym c.self.view_is) ∙ value_at slots c.args.index slot within c.index_mut-slot.ensures.value;
      },
    )
