use Rattle.std.proofs.Common.{◌≡◌, get_or, subst}
use Rattle.mc_table.specs.Entries.{Numbering}
use Rattle.mc_table.proofs.RisesLemmas.{entry_there}
use Rattle.mc_table.proofs.numbered.Numbered.get.Goals as goal

-- what is at the place is the entry of the number
pub returns : goal.returns
returns g c =
    let own = c.index.result.now in
    let now = c.args.self.now in
    entry_there now.entries now.next c.args.number c.in_ok-place.place own c.place_of.ensures.rises c.in_ok-place.ensures.found
    (subst (λ (n : Numbering g.row.T.Denot). own ≡ get_or n.entries c.in_ok-place.place own) c.self.view_is c.index.ensures)
