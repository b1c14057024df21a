use Rattle.std.proofs.Common.{rules, ◌≡◌, ◌∙◌, length, vec_len, refl, sym, subst, arith, ℕ}
use Rattle.mc_threads.specs.Accounts.{outs_of}
use Rattle.mc_threads.specs.Links.{SameEnds}
use Rattle.mc_threads.specs.Starts.{Each2}
use Rattle.mc_threads.specs.Talks.{IsQuiet, came_from, went_to}
use Rattle.mc_threads.proofs.ListLemmas.{rings_trans, same_refl}
use Rattle.mc_threads.proofs.TalkLemmas.{talks_as}
use Rattle.mc_threads.proofs.rounds.talk.Goals as goal

pub rounds-init : goal.rounds-init
rounds-init g c = record { ends = search rules; outputs = search rules; rings = same_refl _ _ (search rules); talked = λ ring clients texts size h. h }

pub rounds-preserved : goal.rounds-preserved
rounds-preserved g c =
    let was = c.rounds.invariant in
    let many : length c.rounds.ends.items ≡ length c.args.ends.now.items = search rules in
    record {
      ends = search rules;
      outputs = search rules;
      rings = rings_trans _ _ _ _ was.rings (subst (λ (n : ℕ). Each2 SameEnds n c.rounds.ends.items c.round.new.ends.items) was.ends c.in_ok-round.ensures.rings);
      talked = λ ring clients texts size h. c.in_ok-round.ensures.round ring clients texts (many ∙ size) (was.talked ring clients texts size h);
    }

pub returns-then-is_quiet-clause-rings : goal.returns-then-is_quiet-clause-rings
returns-then-is_quiet-clause-rings g c =
    let was = c.rounds.invariant in
    let talked = rings_trans _ _ _ _ was.rings (subst (λ (n : ℕ). Each2 SameEnds n c.rounds.ends.items c.round.new.ends.items) was.ends c.in_ok-round.ensures.rings) in
    let many : vec_len c.round.new.ends ≡ vec_len c.args.ends.now = search rules in
    rings_trans _ _ _ _ talked (subst (λ (n : ℕ). Each2 SameEnds n c.round.new.ends.items c.close_all.new.ends.items) many c.in_ok-close_all.ensures.rings)

pub returns-then-is_quiet-clause-ended : goal.returns-then-is_quiet-clause-ended
returns-then-is_quiet-clause-ended g c = λ ring clients texts size outs h.
    let was = c.rounds.invariant in
    let before : length c.rounds.ends.items ≡ length c.args.ends.now.items = search rules in
    let many : vec_len c.args.ends.now ≡ length c.args.ends.now.items = search rules in
    let several : vec_len c.args.outputs.now ≡ length c.args.outputs.now.items = search rules in
    let here : vec_len c.round.new.ends ≡ vec_len c.args.ends.now = search rules in
    let others : vec_len c.round.new.outputs ≡ vec_len c.args.outputs.now = search rules in
    let after : vec_len c.round.new.ends ≡ length ring.servers = here ∙ many ∙ size in
    let quiet : IsQuiet (vec_len c.round.new.outputs) (vec_len c.round.new.ends) c.round.new.proxy = search rules in
    record {
      went = went_to c.round.new.ends.items;
      talks = talks_as ring clients texts texts (outs_of c.round.new.outputs.items) (outs_of c.round.new.outputs.items) (went_to c.round.new.ends.items) (went_to c.round.new.ends.items)
          (came_from c.round.new.ends.items) (came_from c.close_all.new.ends.items) c.round.new.proxy (λ n. refl) (λ n. refl) (λ n. refl) (λ n. sym (c.in_ok-close_all.ensures.quit.came n))
          (c.in_ok-round.ensures.round ring clients texts (before ∙ size) (was.talked ring clients texts size h));
      quiet = subst (λ (n : ℕ). IsQuiet n (length ring.servers) c.round.new.proxy) (others ∙ several ∙ outs)
          (subst (λ (n : ℕ). IsQuiet (vec_len c.round.new.outputs) n c.round.new.proxy) after quiet);
      quit = λ server low. c.in_ok-close_all.ensures.quit.went server (omega (arith, low, after));
    }
