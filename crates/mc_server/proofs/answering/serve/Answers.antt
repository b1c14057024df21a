use Rattle.std.proofs.Common.{sym}
use Rattle.mc_server.proofs.answering.serve.Goals as goal

pub returns-in-Get-clause-served : goal.returns-in-Get-clause-served
returns-in-Get-clause-served g c number = rw (c.in-Get.is, ← c.again-keys.ensures) (c.serve_keys.ensures.served number)

pub returns-in_ok-serve_update-in-Update-clause-served : goal.returns-in_ok-serve_update-in-Update-clause-served
returns-in_ok-serve_update-in-Update-clause-served g c number =
    let hides = rw c.in-Update.is at c.hides-hides.ensures in
    rw c.in-Update.is (c.in_ok-serve_update-in-Update.ensures.served number c.in-Update.noreply (sym hides))

pub returns-in_ok-serve_meta-in-Meta-clause-served : goal.returns-in_ok-serve_meta-in-Meta-clause-served
returns-in_ok-serve_meta-in-Meta-clause-served g c number =
    let hides = rw c.in-Meta.is at c.hides-hides.ensures in
    rw c.in-Meta.is (c.in_ok-serve_meta-in-Meta.ensures.served number (sym hides))
