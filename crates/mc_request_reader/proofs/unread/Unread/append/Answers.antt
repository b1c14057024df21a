use Rattle.std.proofs.Common.{◌≡◌, ◌∙◌, ◌≤◌, ℕ, false, true, List, length, drop, ap, sym, arith, length-append}
use Rattle.std.proofs.lemmas.List.{drop-append-le}
use Rattle.mc_request_reader.proofs.ReaderLemmas.{piece_dropped, searched_more, short_more, sure_more}
use Rattle.mc_request_reader.proofs.unread.Unread.append.Goals as goal

-- the front of the piece is dropped
pub returns-in_ok-extend_from_slice-in-Some-clause-fed : goal.returns-in_ok-extend_from_slice-in-Some-clause-fed
returns-in_ok-extend_from_slice-in-Some-clause-fed c text =
    let empty = rw c.in-Some.is at c.self.invariant.empty in
    let len : length c.split_at.result.0.now ≡ c.min.result = c.split_at.ensures.front_len in
    let inside : c.self.inside.start ≤ length c.self.inside.buffer.items = omega (arith, c.self.invariant.half) in
    let new_is = ap (λ (xs : List ℕ). drop c.self.inside.start xs) c.in_ok-extend_from_slice-in-Some.ensures.items
    ∙ drop-append-le c.self.inside.start c.self.inside.buffer.items c.split_at.result.1.now inside in
    rw (← c.self.view_is, c.if-self.false, c.in-Some.is, len)
    (piece_dropped (drop c.self.inside.start c.self.inside.buffer.items) (drop c.self.inside.start c.extend_from_slice-in-Some.new.self.items) c.args.piece.now c.split_at.result.1.now
    c.in-Some.fault c.in-Some.left c.min.result text empty.1 c.min.ensures new_is (c.split_at.ensures.back))

-- what is known of the bytes stays so when more arrive
pub invariant_of-self : goal.invariant_of-self
invariant_of-self c =
    let u = drop c.self.inside.start c.self.inside.buffer.items in
    let inside : c.self.inside.start ≤ length c.self.inside.buffer.items = omega (arith, c.self.invariant.half) in
    let items = rw c.make_room.ensures at c.in_ok-extend_from_slice-in-None.ensures.items in
    let new_is = ap (λ (xs : List ℕ). drop c.self.inside.start xs) items
    ∙ drop-append-le c.self.inside.start c.self.inside.buffer.items c.args.piece.now inside in
    record {
      half = omega (arith, c.self.invariant.half, ap (λ (xs : List ℕ). length xs) items, length-append c.self.inside.buffer.items c.args.piece.now);
      searched = rw new_is (searched_more c.self.inside.searched u c.args.piece.now c.self.invariant.searched);
      short = rw new_is (short_more c.self.inside.wanted u c.args.piece.now c.self.invariant.short);
      limit = c.self.invariant.limit;
      whole = λ sure. rw new_is (sure_more c.self.inside.wanted u c.args.piece.now (c.self.invariant.whole sure));
      empty = rw c.in-None.is tt;
      done = λ closed. let never : false ≡ true = sym c.if-self.false ∙ closed in absurd cc;
    }

pub invariant_of-self-in-Some : goal.invariant_of-self-in-Some
invariant_of-self-in-Some c =
    let u = drop c.self.inside.start c.self.inside.buffer.items in
    let kept = c.split_at.result.1.now in
    let inside : c.self.inside.start ≤ length c.self.inside.buffer.items = omega (arith, c.self.invariant.half) in
    let new_is = ap (λ (xs : List ℕ). drop c.self.inside.start xs) c.in_ok-extend_from_slice-in-Some.ensures.items
    ∙ drop-append-le c.self.inside.start c.self.inside.buffer.items kept inside in
    let empty = rw c.in-Some.is at c.self.invariant.empty in
    record {
      half = omega (arith, c.self.invariant.half, c.in_ok-extend_from_slice-in-Some.ensures.len);
      searched = rw new_is (searched_more c.self.inside.searched u kept c.self.invariant.searched);
      short = rw new_is (short_more c.self.inside.wanted u kept c.self.invariant.short);
      limit = c.self.invariant.limit;
      whole = λ sure. rw new_is (sure_more c.self.inside.wanted u kept (c.self.invariant.whole sure));
      empty = (empty.0, λ more. rw new_is (let none : length u ≡ 0 = empty.1 (omega arith) in omega (arith, none, length-append u kept, c.split_at.ensures.front_len, c.split_at.ensures.back_len, c.min.ensures)));
      done = λ closed. let never : false ≡ true = sym c.if-self.false ∙ closed in absurd cc;
    }
