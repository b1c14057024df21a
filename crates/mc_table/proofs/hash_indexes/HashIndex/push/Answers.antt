use Rattle.std.proofs.Common.{◌≡◌, ℕ, ◌+◌, ◌<◌, ◌^◌, List, length, refl, sym, ap, ◌∙◌, subst, arith}
use Rattle.std.proofs.lemmas.List.{get_or_read}
use Rattle.mc_table.specs.Chains.{bucket_of}
use Rattle.mc_table.specs.Slots.{entries_of}
use Rattle.mc_table.specs.Tables.{IsNowhere}
use Rattle.mc_table.proofs.SlotLemmas.{length-entries_of}
use Rattle.mc_table.proofs.HashedLemmas.{hashed_pushed}
use Rattle.mc_table.proofs.hash_indexes.HashIndex.push.Goals as goal

pub invariant_of-self : goal.invariant_of-self
invariant_of-self g c =
    let slots = c.self.inside.slots.items in
    let heads = c.self.inside.heads.items in
    let count : c.len.result ≡ length heads = omega (arith, c.len.ensures, c.self.inside.heads.ok.0) in
    let bucket : c.bucket_of-bucket.result ≡ bucket_of (length heads) c.tag_of-tag.result = c.bucket_of-bucket.ensures.bucket ∙ ap (λ (n : ℕ). bucket_of n c.tag_of-tag.result) count in
    let next = get_or_read heads _ c.index.result.now (omega (arith, c.bucket_of-bucket.ensures.within)) c.index.ensures 0 in
    let absent : IsNowhere (g.K.PartialEq.eq c.args.key) (entries_of slots) = subst (λ (l : List (g.row.K.Denot × g.row.V.Denot)). IsNowhere (g.K.PartialEq.eq c.args.key) l) (sym c.self.view_is) c.requires.absent in
    let small : length slots + 1 < 2 ^ 32 = omega (arith, c.requires.small, ap length c.self.view_is, length-entries_of slots) in
    let all : c.len-in-Ok.result ≡ length c.push.new.self.items = omega (arith, c.len-in-Ok.ensures, c.push.new.self.ok.0) in
    hashed_pushed g.K.PartialEq.eq _ heads _ slots c.push.new.self.items _ _ c.len-in-Ok.result g.met.K.Eq.laws.symm c.self.invariant c.in-Ok.ensures.items c.tag_of-tag.ensures bucket next refl all absent small
