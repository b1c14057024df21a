use Rattle.std.proofs.Common.{◌∙◌, ℕ, List, [], drop, refl, ap}
use Rattle.std.proofs.lemmas.List.{append-nil}
use Rattle.mc_request_reader.specs.Reader.{ReaderState}
use Rattle.mc_request_reader.proofs.ReaderLemmas.{look_by, look_good, none_yet}
use Rattle.mc_request_reader.proofs.unread.Unread.look_unread.Goals as goal

pub returns-then-unread-self-clause-seen : goal.returns-then-unread-self-clause-seen
returns-then-unread-self-clause-seen c =
    let s = c.args.self.now in
    let unread_is = c.split_at.ensures.back ∙ ap (λ (xs : List ℕ). drop c.self.inside.start xs) c.deref.ensures.value in
    let inside_is = ap (λ (s : ReaderState). s.unread) c.self.view_is in
    let none = c.self.invariant.short [] (rw (append-nil, ← unread_is) c.if-unread-self.true) in
    none_yet s s refl c.requires.open c.requires.whole (rw (← inside_is) (rw append-nil at none))

pub returns-clause-seen : goal.returns-clause-seen
returns-clause-seen c =
    let unread_is = c.split_at.ensures.back ∙ ap (λ (xs : List ℕ). drop c.self.inside.start xs) c.deref.ensures.value ∙ ap (λ (s : ReaderState). s.unread) c.self.view_is in
    look_by c.args.self.now c.first_look.result c.requires.open c.requires.whole (rw unread_is at c.first_look.ensures)

pub returns-clause-well_formed : goal.returns-clause-well_formed
returns-clause-well_formed c = look_good c.split_at.result.1.now c.first_look.result c.first_look.ensures
