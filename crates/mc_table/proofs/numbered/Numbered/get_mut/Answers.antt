use Rattle.std.proofs.Common.{◌∙◌, ℕ, Some, ap, inl, sym}
use Rattle.mc_table.proofs.RisesLemmas.{entry_at, set_there}
use Rattle.mc_table.proofs.numbered.Numbered.get_mut.Goals as goal

-- what is at the place is the entry of the number, and what is left there updates it
pub returns : goal.returns
returns g c =
    let now = c.args.self.now in
    let rises = c.place_of.ensures.rises in
    let at = c.in_ok-place.ensures.found in
    let default : ℕ × g.row.T.Denot = (0, c.at_mut.result.now) in (
      λ i. inl (
        c.at_mut.result.ghost_name,
        λ w. record { entries = set_there now.entries now.next c.args.number c.in_ok-place.place w rises at i; next = now.next },
      ),
      record {
        writes_back = tt;
        value = ap (λ (x : g.row.T.Denot). Some x) c.at_mut.ensures.value
            ∙ sym (entry_at 0 now.entries now.next c.args.number c.in_ok-place.place default rises at.inside (at.has_number default));
      },
    )
