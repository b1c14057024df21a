use Rattle.std.proofs.Common.{◌≡◌, ◌+◌, ◌∙◌, ℕ, [], length, refl, ap, sym, subst, arith}
use Rattle.mc_ring.specs.Rings.{RingState}
use Rattle.mc_account.specs.Holds.{grown}
use Rattle.mc_threads.specs.Accounts.{joined, texts_of}
use Rattle.mc_threads.specs.Talks.{Talks}
use Rattle.mc_threads.proofs.AtLemmas.{at_map, at_past, below, below_all, below_next, below_past}
use Rattle.mc_threads.proofs.TalkLemmas.{talks_as}
use Rattle.mc_threads.proofs.opening.opened_proxy.Goals as goal

pub loop-client-init : goal.loop-client-init
loop-client-init c =
    talks_as c.args.ring.now 0 (λ _. []) (below 0 (texts_of c.args.inputs.now)) (λ _. []) (λ _. []) (λ _. []) (λ _. []) (λ _. []) (λ _. []) c.in_ok-proxy.proxy
    (λ n. sym (below_past 0 (texts_of c.args.inputs.now) n (omega arith))) (λ n. refl) (λ n. refl) (λ n. refl)
    (subst (λ (r : RingState). Talks r 0 (λ _. []) (λ _. []) (λ _. []) (λ _. []) c.in_ok-proxy.proxy) c.in_ok-copy.ensures c.in_ok-proxy.ensures)

pub loop-client-preserved : goal.loop-client-preserved
loop-client-preserved c =
    let client = c.loop-client.client in
    let pieces = c.index-inputs-client.result in
    let text : texts_of c.args.inputs.now client ≡ joined pieces.items =
    at_map (λ (v : _). joined v.items) c.args.inputs.now client pieces c.loop-client-test.true ∙ ap (λ (v : _). joined v.items) (sym c.index-inputs-client.is) in
    talks_as c.args.ring.now (client + 1) (grown client (joined pieces.items) (below client (texts_of c.args.inputs.now))) (below (client + 1) (texts_of c.args.inputs.now))
    (λ _. []) (λ _. []) (λ _. []) (λ _. []) (λ _. []) (λ _. []) c.admit_one.new.proxy
    (below_next client (joined pieces.items) (texts_of c.args.inputs.now) text) (λ n. refl) (λ n. refl) (λ n. refl)
    (c.in_ok-admit_one.ensures c.args.ring.now client (below client (texts_of c.args.inputs.now)) (λ _. []) (λ _. []) (λ _. []) c.loop-client.invariant)

pub returns : goal.returns
returns c =
    let all : c.loop-client.client ≡ length c.args.inputs.now = omega (arith, c.loop-client-test.false, c.loop-client.auto.client-end) in
    let texts = texts_of c.args.inputs.now in
    let here : Talks c.args.ring.now (length c.args.inputs.now) (below (length c.args.inputs.now) (texts_of c.args.inputs.now)) (λ _. []) (λ _. []) (λ _. []) c.loop-client.proxy =
    subst (λ (n : ℕ). Talks c.args.ring.now n (below n (texts_of c.args.inputs.now)) (λ _. []) (λ _. []) (λ _. []) c.loop-client.proxy) all c.loop-client.invariant in
    talks_as c.args.ring.now (length c.args.inputs.now) (below (length c.args.inputs.now) (texts_of c.args.inputs.now)) (texts_of c.args.inputs.now)
    (λ _. []) (λ _. []) (λ _. []) (λ _. []) (λ _. []) (λ _. []) c.loop-client.proxy
    (below_all (length c.args.inputs.now) (texts_of c.args.inputs.now) (λ n past. at_past (λ (v : _). joined v.items) c.args.inputs.now n past)) (λ n. refl) (λ n. refl) (λ n. refl) here
