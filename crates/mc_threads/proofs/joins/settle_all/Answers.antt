use Rattle.std.proofs.Common.{rules, ◌≡◌, ℕ, ◌<◌, ◌+◌, Ok, Some, length, vec_len, get_or, get_or-set_other, arith, sym, ap, refl, subst, ◌∙◌}
use Rattle.mc_threads.specs.Starts.{AreEndsOf}
use Rattle.mc_threads.specs.declared.links.Ends.{Ends}
use Rattle.mc_threads.proofs.JoinLemmas.{first_left, settled_push}
use Rattle.mc_threads.proofs.ListLemmas.{tail_of}
use Rattle.mc_threads.proofs.joins.settle_all.Goals as goal

pub loop-joined-init : goal.loop-joined-init
loop-joined-init g c = record {
  ends = search rules;
  few = search rules;
  left = search rules;
  others = λ i e low. refl;
  len = search rules;
  settled = λ server low. absurd (omega (arith, low));
}

pub settle-requires : goal.settle-requires
settle-requires g c =
    let was = c.loop-joined.invariant in
    let steps = c.in-Some.ensures.steps in
    let place : ℕ = c.loop-joined.place in
    let end : Ends = c.index_mut.result.now in
    let joined_is : c.in-Some.joined ≡ Ok c.in_ok-done.done = search rules in
    let first = first_left c.args.results.items place c.in-Some.joined _ (sym was.left ∙ steps.0) in
    let is : end ≡ get_or c.args.ends.now.items place end = c.index_mut.ensures.value ∙ was.others place end (omega arith) in
    subst (λ (e : Ends). AreEndsOf e c.in_ok-done.done) (sym is) (c.requires.rings place c.in_ok-done.done end (first ∙ ap Some joined_is))

pub loop-joined-preserved : goal.loop-joined-preserved
loop-joined-preserved g c =
    let was = c.loop-joined.invariant in
    let steps = c.in-Some.ensures.steps in
    let place : ℕ = c.loop-joined.place in
    let end : Ends = c.index_mut.result.now in
    let joined_is : c.in-Some.joined ≡ Ok c.in_ok-done.done = search rules in
    let clocks_len : length c.loop-joined.clocks.items ≡ vec_len c.loop-joined.clocks = search rules in
    let inside : c.loop-joined.place < length c.args.ends.now.items = search rules in
    let first = first_left c.args.results.items place c.in-Some.joined _ (sym was.left ∙ steps.0) in
    let is : end ≡ get_or c.args.ends.now.items place end = c.index_mut.ensures.value ∙ was.others place end (omega arith) in
    record {
      ends = search rules;
      few = omega (arith, was.few, steps.1);
      left = tail_of c.args.results.items place c.in-Some.joined _ (sym was.left ∙ steps.0);
      others = λ i e past. get_or-set_other c.loop-joined.ends.items place i c.settle.new.ends e (λ same. omega (arith, same, past)) ∙ was.others i e (omega (arith, past));
      len = c.in_ok-add.ensures.len ∙ ap (λ m. m + 1) was.len;
      settled = settled_push g.C.Clock.times c.args.results.items place c.loop-joined.clocks.items c.add.new.list.items c.args.ends.now.items c.in_ok-done.done c.in_ok-clock.clock end
          (clocks_len ∙ was.len) c.in_ok-add.ensures.items c.in_ok-clock.ensures.clock (first ∙ ap Some joined_is) is inside c.in_ok-clock.ensures.went c.in_ok-clock.ensures.came was.settled;
    }
