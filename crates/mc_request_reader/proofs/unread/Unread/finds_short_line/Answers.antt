use Rattle.std.proofs.Common.{◌∙◌, ℕ, List, drop, sym, ap, arith}
use Rattle.mc_text.proofs.LineLemmas.{first_line_whole-size}
use Rattle.mc_request_reader.proofs.StepLemmas.{line_ends}
use Rattle.mc_request_reader.proofs.unread.Unread.finds_short_line.Goals as goal

pub overflow_sub-self : goal.overflow_sub-self
overflow_sub-self c = omega (arith, (first_line_whole-size c.split_at.result.1.now c.in-Whole.content.now c.in-Whole.taken (sym c.in-Whole.ensures.line)).0)

pub invariant_of-self : goal.invariant_of-self
invariant_of-self c =
    let unread_is = c.split_at.ensures.back ∙ ap (λ (xs : List ℕ). drop c.self.inside.start xs) c.deref.ensures.value in
    record {
      half = c.self.invariant.half;
      searched = rw (← unread_is) (line_ends c.split_at.result.1.now c.in-Whole.content.now c.in-Whole.taken (sym c.in-Whole.ensures.line));
      short = c.self.invariant.short;
      limit = c.self.invariant.limit;
      whole = c.self.invariant.whole;
      empty = c.self.invariant.empty;
      done = c.self.invariant.done;
    }
