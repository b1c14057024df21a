use Rattle.std.proofs.Common.{rules, ◌≡◌, ◌+◌, ◌<◌, ◌∙◌, ◌++◌, [], length, take, refl, ap, sym}
use Rattle.std.proofs.lemmas.List.{take_all}
use Rattle.mc_account.specs.Holds.{grown}
use Rattle.mc_threads.specs.Accounts.{joined}
use Rattle.mc_threads.proofs.AtLemmas.{grown_nothing, grown_twice, joined_next}
use Rattle.mc_threads.proofs.TalkLemmas.{talks_as}
use Rattle.mc_threads.proofs.opening.feed_all.Goals as goal

pub loop-place-init : goal.loop-place-init
loop-place-init c = λ ring clients texts outs went came h.
    talks_as ring clients texts (grown c.args.client [] texts) outs outs went went came came c.args.proxy.now (grown_nothing c.args.client texts) (λ n. refl) (λ n. refl) (λ n. refl) h

pub loop-place-preserved : goal.loop-place-preserved
loop-place-preserved c = λ ring clients texts outs went came h.
    let front = joined (take c.loop-place.place c.args.pieces.now.items) in
    let low : c.loop-place.place < length c.args.pieces.now.items = search rules in
    let next : joined (take (c.loop-place.place + 1) c.args.pieces.now.items) ≡ front ++ c.as_slice.result.now =
    joined_next c.args.pieces.now.items c.loop-place.place c.index.result.now low c.index.ensures ∙ ap (λ t. front ++ t) (sym c.as_slice.ensures.value) in
    talks_as ring clients (grown c.args.client c.as_slice.result.now (grown c.args.client front texts)) (grown c.args.client (joined (take (c.loop-place.place + 1) c.args.pieces.now.items)) texts) outs outs went went came came c.feed_one.new.proxy
    (grown_twice c.args.client front c.as_slice.result.now (joined (take (c.loop-place.place + 1) c.args.pieces.now.items)) texts next) (λ n. refl) (λ n. refl) (λ n. refl)
    (c.in_ok-feed_one.ensures ring clients (grown c.args.client front texts) outs went came (c.loop-place.invariant ring clients texts outs went came h))

pub returns : goal.returns
returns c = λ ring clients texts outs went came h.
    let whole : joined (take c.loop-place.place c.args.pieces.now.items) ≡ joined c.args.pieces.now.items =
    ap joined (take_all c.loop-place.place c.args.pieces.now.items (search rules)) in
    talks_as ring clients (grown c.args.client (joined (take c.loop-place.place c.args.pieces.now.items)) texts) (grown c.args.client (joined c.args.pieces.now.items) texts) outs outs went went came came c.loop-place.proxy
    (λ n. ap (λ text. grown c.args.client text texts n) whole) (λ n. refl) (λ n. refl) (λ n. refl) (c.loop-place.invariant ring clients texts outs went came h)
