use Rattle.std.proofs.Common.{inl, inr, arith}
use Rattle.mc_proxy.proofs.proxies.Proxy.admit.Goals as goal

-- there is room for a session, and a number
pub returns-clause-too_many : goal.returns-clause-too_many
returns-clause-too_many c = rw (← c.self.view_is) (
  λ is. absurd cc,
  λ either. elim either [
    | inl many ↦ absurd (omega (arith, many, c.if-is_full.false, c.len-is_full.ensures))
    | inr last ↦ absurd (omega (arith, last, c.if-next_number.false, c.next_number.ensures))
  ],
)
