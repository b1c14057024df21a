use Rattle.std.proofs.Common.{rules, ◌≡◌, ◌<◌, ◌∙◌, length, vec_len, arith, refl, sym, ap, set}
use Rattle.rtrb.specs.Ring.{sent, received}
use Rattle.mc_account.specs.Holds.{changed}
use Rattle.mc_threads.specs.Talks.{came_from, went_to}
use Rattle.mc_threads.specs.declared.links.Ends.{Ends}
use Rattle.mc_threads.proofs.AtLemmas.{at_map, at_set}
use Rattle.mc_threads.proofs.ListLemmas.{rings_set, same_refl}
use Rattle.mc_threads.proofs.TalkLemmas.{talks_as, talks_carried}
use Rattle.mc_threads.proofs.rounds.carry_all.Goals as goal

pub loop-place-init : goal.loop-place-init
loop-place-init c = record {
  ends = search rules;
  rings = same_refl _ _ (search rules);
  carried = λ ring clients texts outs size h. h;
}

pub loop-place-preserved : goal.loop-place-preserved
loop-place-preserved c =
    let place = c.loop-place.place in
    let ends = c.loop-place.ends.items in
    let now = c.exchange.new.ends in
    let below : c.loop-place.place < vec_len c.args.ends.now = omega (arith, c.loop-place-test.true, c.len-place-end.ensures) in
    let low : c.loop-place.place < length c.loop-place.ends.items = search rules in
    let many : length c.args.ends.now.items ≡ vec_len c.args.ends.now = search rules in
    record {
      ends = search rules;
      rings = rings_set _ _ _ c.loop-place.place c.index_mut.result.now c.exchange.new.ends below low c.loop-place.invariant.rings c.index_mut.ensures.value c.exchange.ensures.rings;
      carried = λ ring clients texts outs size h.
          let inside : c.loop-place.place < length ring.servers = omega (arith, below, size, many) in
          let went_was : went_to ends place ≡ sent c.index_mut.result.now.to = at_map (λ (e : Ends). sent e.to) ends place c.index_mut.result.now low ∙ ap (λ (e : Ends). sent e.to) (sym c.index_mut.ensures.value) in
          let came_was : came_from ends place ≡ received c.index_mut.result.now.from = at_map (λ (e : Ends). received e.from) ends place c.index_mut.result.now low ∙ ap (λ (e : Ends). received e.from) (sym c.index_mut.ensures.value) in
          let carried =
          talks_as ring clients texts texts outs outs (changed place (sent now.to) (went_to ends)) (went_to (set ends place now)) (changed place (received now.from) (came_from ends)) (came_from (set ends place now)) c.exchange.new.proxy
          (λ n. refl) (λ n. refl) (λ n. sym (at_set (λ (e : Ends). sent e.to) ends place now low n)) (λ n. sym (at_set (λ (e : Ends). received e.from) ends place now low n))
          (talks_carried ring clients texts outs (went_to ends) (came_from ends) place c.index_mut.result.now now c.loop-place.proxy c.exchange.new.proxy inside went_was came_was
          (c.loop-place.invariant.carried ring clients texts outs size h) c.in_ok-exchange.ensures.carries) in
          c.in_ok-take_replies.ensures ring clients texts outs (went_to (set ends place now)) (came_from (set ends place now)) inside carried;
    }
