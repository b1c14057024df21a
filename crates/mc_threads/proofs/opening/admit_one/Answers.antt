use Rattle.std.proofs.Common.{◌≡◌, ◌+◌, ◌∙◌, sym, subst, ℕ, None}
use Rattle.mc_account.specs.Holds.{grown}
use Rattle.mc_proxy.specs.ProxyState.{ProxyState, session_at}
use Rattle.mc_threads.specs.Accounts.{joined}
use Rattle.mc_threads.specs.Talks.{Talks}
use Rattle.mc_threads.proofs.TalkLemmas.{talks_admitted}
use Rattle.mc_threads.proofs.opening.admit_one.Goals as goal

pub returns : goal.returns
returns c = λ ring clients texts outs went came h.
    let none = subst (λ (n : ℕ). session_at c.args.proxy.now n ≡ None) c.in_ok-client.ensures.number c.in_ok-client.ensures.was_closed in
    let admitted : Talks ring (clients + 1) texts outs went came c.admit.new.self =
    subst (λ (p : ProxyState). Talks ring (clients + 1) texts outs went came p) (sym c.in_ok-client.ensures.admitted) (talks_admitted ring clients texts outs went came c.args.proxy.now none h) in
    subst (λ (n : ℕ). Talks ring (clients + 1) (grown n (joined c.args.pieces.now.items) texts) outs went came c.feed_all.new.proxy) (c.in_ok-client.ensures.number ∙ h.admitted)
    (c.in_ok-feed_all.ensures ring (clients + 1) texts outs went came admitted)
