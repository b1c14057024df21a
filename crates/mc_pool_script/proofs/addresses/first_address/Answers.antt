use Rattle.std.proofs.Common.{◌≡◌, ◌∙◌}
use Rattle.mc_pool_script.specs.PoolScripts.{first_server}
use Rattle.mc_pool_script.proofs.AddressLemmas.{first_is_it, first_is_there}
use Rattle.mc_pool_script.proofs.addresses.first_address.Goals as goal

pub unreachable-requires : goal.unreachable-requires
unreachable-requires c =
    let text : c.as_slice.result.now ≡ first_server c.args.place = c.as_slice.ensures.value ∙ c.in_ok-text.ensures in
    first_is_there c.args.place c.as_slice.result.now c.in_ok-address.field-0 c.requires text c.in_ok-address.ensures.address c.in_default.is

pub returns-clause-address : goal.returns-clause-address
returns-clause-address c =
    let text : c.as_slice.result.now ≡ first_server c.args.place = c.as_slice.ensures.value ∙ c.in_ok-text.ensures in
    first_is_it c.args.place c.as_slice.result.now c.in-Some.address c.in_ok-address.field-0 c.requires text c.in_ok-address.ensures.address c.in-Some.is
