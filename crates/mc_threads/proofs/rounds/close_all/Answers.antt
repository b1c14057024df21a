use Rattle.std.proofs.Common.{rules, ◌≡◌, ◌≢◌, ◌<◌, ◌∙◌, ◌++◌, ⊎_elim, ℕ, List, length, vec_len, arith, refl, sym, ap, subst, set, codes}
use Rattle.std.proofs.lemmas.Bool.Decides.{eqb_tells}
use Rattle.rtrb.specs.Ring.{sent, received}
use Rattle.mc_threads.specs.Talks.{went_to}
use Rattle.mc_threads.specs.declared.links.Ends.{Ends}
use Rattle.mc_threads.proofs.AtLemmas.{at_map, at_set_other, at_set_own, at_set_same}
use Rattle.mc_threads.proofs.ListLemmas.{rings_set, same_refl}
use Rattle.mc_threads.proofs.rounds.close_all.Goals as goal

pub loop-place-init : goal.loop-place-init
loop-place-init g c = record {
  ends = search rules;
  rings = same_refl _ _ (search rules);
  quit = record { went = λ server low. absurd (omega (arith, low)); came = λ server. refl };
  others = λ server past. refl;
}

pub loop-place-preserved : goal.loop-place-preserved
loop-place-preserved g c =
    let was = c.loop-place.invariant in
    let place : ℕ = c.loop-place.place in
    let ends = c.loop-place.ends.items in
    let now = c.close_one.new.ends in
    let below : c.loop-place.place < vec_len c.args.ends.now = omega (arith, c.loop-place-test.true, c.len-place-end.ensures) in
    let low : c.loop-place.place < length c.loop-place.ends.items = search rules in
    let went_was : went_to ends place ≡ sent c.index_mut.result.now.to = at_map (λ (e : Ends). sent e.to) ends place c.index_mut.result.now low ∙ ap (λ (e : Ends). sent e.to) (sym c.index_mut.ensures.value) in
    record {
      ends = search rules;
      rings = rings_set _ _ _ c.loop-place.place c.index_mut.result.now c.close_one.new.ends below low c.loop-place.invariant.rings c.index_mut.ensures.value c.in_ok-close_one.ensures.rings;
      quit = record {
        went = λ server under. ⊎_elim
            (λ e. subst (λ (n : ℕ). went_to (set ends place now) n ≡ went_to c.args.ends.now.items n ++ codes "quit\r\n") e.1
            (at_set_own (λ (e : Ends). sent e.to) ends place now low ∙ c.in_ok-close_one.ensures.quit
            ∙ ap (λ (bytes : List ℕ). bytes ++ codes "quit\r\n") (sym went_was ∙ was.others place (omega arith))))
            (λ e. let differ : place ≢ server = e.1 in
            at_set_other (λ (e : Ends). sent e.to) ends place now low server differ ∙ was.quit.went server (omega (arith, under, differ)))
            (eqb_tells place server);
        came = λ server. at_set_same (λ (e : Ends). received e.from) ends place now c.index_mut.result.now low c.index_mut.ensures.value c.in_ok-close_one.ensures.came server ∙ was.quit.came server;
      };
      others = λ server past. at_set_other (λ (e : Ends). sent e.to) ends place now low server (λ same. omega (arith, same, past)) ∙ was.others server (omega (arith, past));
    }
