use Rattle.std.proofs.Common.{◌≡◌, ◌∙◌, ◌≤◌, ℕ, List, [], ◌++◌, None, length, drop, refl, sym, ap, rules, arith}
use Rattle.std.proofs.lemmas.List.{append-nil}
use Rattle.mc_request_reader.specs.Reader.{ReaderState}
use Rattle.mc_request_reader.proofs.StepLemmas.{whole_from}
use Rattle.mc_request_reader.proofs.ReaderLemmas.{rest_drops, little_whole, half_of}
use Rattle.mc_request_reader.proofs.unread.Unread.advance.Goals as goal

-- the first is known to be whole
pub returns-then-self-2-clause-little : goal.returns-then-self-2-clause-little
returns-then-self-2-clause-little c =
    let unread_is = c.split_at.ensures.back ∙ ap (λ (xs : List ℕ). drop c.self.inside.start xs) c.deref.ensures.value in
    let unclosed = sym (ap (λ (s : ReaderState). s.closed) c.self.view_is) ∙ c.if-self.false in
    let kept : c.self.inside.dropping ≡ None = search rules in
    let none = sym (ap (λ (s : ReaderState). s.dropping) c.self.view_is) ∙ kept in
    let enough : c.self.inside.wanted ≤ length (drop c.self.inside.start c.self.inside.buffer.items ++ []) = rw (append-nil, ← unread_is) (omega arith) in
    let whole = c.self.invariant.whole c.if-self-2.true [] enough in
    let inside_is = ap (λ (s : ReaderState). s.unread) c.self.view_is in
    little_whole c.args.self.now unclosed none (rw (← c.self.view_is) (half_of c.self.inside c.self.invariant)) (rw (append-nil, inside_is) at whole)

-- what is whole stays so
pub invariant_of-self : goal.invariant_of-self
invariant_of-self c =
    let unread_is = c.split_at.ensures.back ∙ ap (λ (xs : List ℕ). drop c.self.inside.start xs) c.deref.ensures.value in
    let holds = rw (c.in-Whole.is, unread_is) at c.arrival_of.ensures in
    record {
      half = c.self.invariant.half;
      searched = holds.0;
      short = c.self.invariant.short;
      limit = c.self.invariant.limit;
      whole = λ known. whole_from (drop c.self.inside.start c.self.inside.buffer.items) c.self.inside.wanted holds.1;
      empty = c.self.invariant.empty;
      done = c.self.invariant.done;
    }

pub returns-in-Whole-clause-little : goal.returns-in-Whole-clause-little
returns-in-Whole-clause-little c =
    let unread_is = c.split_at.ensures.back ∙ ap (λ (xs : List ℕ). drop c.self.inside.start xs) c.deref.ensures.value in
    let holds = rw (c.in-Whole.is, unread_is) at c.arrival_of.ensures in
    let kept : c.self.inside.dropping ≡ None = search rules in
    little_whole _ c.if-self.false kept (half_of c.self.inside c.self.invariant) holds.1

-- the block is dropped from here on
pub returns-in-Drops-clause-rest : goal.returns-in-Drops-clause-rest
returns-in-Drops-clause-rest c =
    let s = c.args.self.now in
    let unread_is = c.split_at.ensures.back ∙ ap (λ (xs : List ℕ). drop c.self.inside.start xs) c.deref.ensures.value ∙ ap (λ (s : ReaderState). s.unread) c.self.view_is in
    let holds = rw (c.in-Drops.is, unread_is) at c.arrival_of.ensures in
    let unclosed = sym (ap (λ (s : ReaderState). s.closed) c.self.view_is) ∙ c.if-self.false in
    let kept : c.self.inside.dropping ≡ None = search rules in
    let none = sym (ap (λ (s : ReaderState). s.dropping) c.self.view_is) ∙ kept in
    rest_drops s _ c.in-Drops.fault c.in-Drops.size unclosed none c.if-self.false (rw unread_is refl) c.clear.ensures.items holds.0 holds.1 holds.2
