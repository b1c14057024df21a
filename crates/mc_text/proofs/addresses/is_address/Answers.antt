use Rattle.std.proofs.Common.{◌≡◌, true, take, drop, sym, ap, ◌∙◌}
use Rattle.mc_text.specs.Addresses.{is_host, is_port}
use Rattle.mc_text.proofs.AddressLemmas.{address_after_host}
use Rattle.mc_text.proofs.addresses.is_address.Goals as goal

pub returns-then-is_host : goal.returns-then-is_host
returns-then-is_host c =
    let host : is_host (take c.in-Some.place c.args.text.now) ≡ true = rw (← c.split_at.ensures.front) (sym c.is_host.ensures ∙ c.if-is_host.true) in
    let whole = address_after_host c.args.text.now c.in-Some.place (sym c.in-Some.ensures) host in
    c.is_port.ensures ∙ ap is_port (c.split_at-2.ensures.back ∙ ap (drop 1) c.split_at.ensures.back) ∙ sym whole
