use Rattle.std.proofs.Common.{◌≡◌, ◌∙◌, ◌-◌, length, take, refl, ap, arith}
use Rattle.mc_request_reader.specs.ApartFields.{set_with}
use Rattle.mc_request_reader.proofs.ApartLemmas.{first_beside}
use Rattle.mc_request_reader.proofs.apart.Apart.take_set.Goals as goal

pub returns-clause-first : goal.returns-clause-first
returns-clause-first c =
    let r = c.self.inside in
    let n : c.len.result ≡ length r.block = omega (arith, c.len.ensures, c.take-bytes.result.ok.0, ap length c.take-bytes.ensures) in
    let block : c.from.result ≡ take (length r.block - 2) r.block =
    c.from.ensures ∙ c.shrink_to_fit.ensures.items ∙ c.truncate.ensures.items ∙ rw (c.take-bytes.ensures, n) refl in
    let known = rw (c.as_slice.ensures.value, c.as_slice-2.ensures) at c.in_ok-set.ensures.set in
    rw (← c.self.view_is, block) (first_beside r.line.items r.block (set_with c.in_ok-set.set (take (length r.block - 2) r.block)) known refl)
