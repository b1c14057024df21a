use Rattle.std.proofs.Common.{◌∙◌, ℕ, List, [], drop, refl, sym, ap}
use Rattle.std.proofs.lemmas.List.{append-nil}
use Rattle.mc_request_reader.specs.Reader.{ReaderState}
use Rattle.mc_request.specs.LinesSeen.{asked_of}
use Rattle.mc_request_reader.proofs.ReaderLemmas.{shows_whole, none_yet}
use Rattle.mc_request.proofs.WellFormedLemmas.{next_request_good}
use Rattle.mc_request_reader.proofs.unread.Unread.peek_unread.Goals as goal

pub returns-then-unread-self-clause-seen : goal.returns-then-unread-self-clause-seen
returns-then-unread-self-clause-seen c =
    let s = c.args.self.now in
    let unread_is = c.split_at.ensures.back ∙ ap (λ (xs : List ℕ). drop c.self.inside.start xs) c.deref.ensures.value in
    let inside_is = ap (λ (s : ReaderState). s.unread) c.self.view_is in
    let none = c.self.invariant.short [] (rw (append-nil, ← unread_is) c.if-unread-self.true) in
    none_yet s s refl c.requires.open c.requires.whole (rw (← inside_is) (rw append-nil at none))

pub returns-in-Some-clause-seen : goal.returns-in-Some-clause-seen
returns-in-Some-clause-seen c =
    let unread_is = c.split_at.ensures.back ∙ ap (λ (xs : List ℕ). drop c.self.inside.start xs) c.deref.ensures.value ∙ ap (λ (s : ReaderState). s.unread) c.self.view_is in
    shows_whole c.args.self.now (asked_of c.in-Some.asked) (record { size = c.in-Some.size; closes = c.ends-closes.result }) c.requires.open c.requires.whole c.ends-closes.ensures
    (sym (rw (c.in-Some.is, unread_is) at c.first_asked.ensures))

pub returns-in-Some-clause-well_formed : goal.returns-in-Some-clause-well_formed
returns-in-Some-clause-well_formed c =
    let unread_is = c.split_at.ensures.back ∙ ap (λ (xs : List ℕ). drop c.self.inside.start xs) c.deref.ensures.value ∙ ap (λ (s : ReaderState). s.unread) c.self.view_is in
    next_request_good c.args.self.now.unread (asked_of c.in-Some.asked, c.in-Some.size) (sym (rw (c.in-Some.is, unread_is) at c.first_asked.ensures))

pub returns-in-None-clause-seen : goal.returns-in-None-clause-seen
returns-in-None-clause-seen c =
    let s = c.args.self.now in
    let unread_is = c.split_at.ensures.back ∙ ap (λ (xs : List ℕ). drop c.self.inside.start xs) c.deref.ensures.value ∙ ap (λ (s : ReaderState). s.unread) c.self.view_is in
    none_yet s s refl c.requires.open c.requires.whole (sym (rw (c.in-None.is, unread_is) at c.first_asked.ensures))
