use Rattle.std.proofs.Common.{rules, ◌≡◌, ◌<◌, ◌∙◌, length, refl, sym, ap, set}
use Rattle.mc_account.specs.Holds.{changed}
use Rattle.mc_threads.specs.Accounts.{Bytes, outs_of}
use Rattle.mc_threads.proofs.AtLemmas.{at_map, at_set}
use Rattle.mc_threads.proofs.TalkLemmas.{talks_as, talks_moved}
use Rattle.mc_threads.proofs.rounds.answer_all.Goals as goal

pub loop-client-preserved : goal.loop-client-preserved
loop-client-preserved c =
    let client = c.loop-client.client in
    let outs = c.loop-client.outputs.items in
    let low : c.loop-client.client < length c.loop-client.outputs.items = search rules in
    record {
      len = search rules;
      answered = λ ring clients texts went came h.
          let was : outs_of outs client ≡ c.index_mut.result.now.items =
          at_map (λ (v : Bytes). v.items) outs client c.index_mut.result.now low ∙ ap (λ (v : Bytes). v.items) (sym c.index_mut.ensures.value) in
          talks_as ring clients texts texts (changed client c.move_out.new.output.items (outs_of outs)) (outs_of (set outs client c.move_out.new.output)) went went came came c.move_out.new.proxy
          (λ n. refl) (λ n. sym (at_set (λ (v : Bytes). v.items) outs client c.move_out.new.output low n)) (λ n. refl) (λ n. refl)
          (talks_moved ring clients texts (outs_of outs) went came client c.answer_some.new.proxy c.move_out.new.proxy c.index_mut.result.now.items c.move_out.new.output.items
          (c.in_ok-answer_some.ensures ring clients texts (outs_of outs) went came (c.loop-client.invariant.answered ring clients texts went came h)) was c.in_ok-move_out.ensures);
    }
