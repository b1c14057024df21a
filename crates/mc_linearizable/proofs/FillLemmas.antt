-- One client fills an item.
use Rattle.std.proofs.Common.{◌≡◌, ◌∙◌, ℕ, suc, ◌<◌, ◌==◌, inl, inr, Bool, true, false, if◌then◌else◌, List, [], ◌∷◌, ◌++◌, length, codes, decimal, Option, None, Some, refl, sym, ap, subst, arith}
use Rattle.std.proofs.lemmas.Bool.Decides.{nat_tests}
use Rattle.mc_request.specs.declared.faults.Fault.TheVariants.{UnknownCommand, BadFormat, BadDelta, InvalidFlag, BadToken, BadDataChunk, LineTooLong, NonNumeric, TooLarge, CasUsedUp, OutOfMemory}
use Rattle.mc_request.specs.declared.meta.MetaCommand.TheVariants as metas
use Rattle.mc_request.specs.declared.meta.MetaGet.{MetaGet}
use Rattle.mc_request.specs.declared.parts.Atom.{Atom}
use Rattle.mc_request.specs.declared.parts.Atom.TheVariants as atoms
use Rattle.mc_reply.specs.MetaSpelling.{left_onto, marks_onto, meta_spelling, number_flag_onto}
use Rattle.mc_reply.specs.Spelling.{spelling_of}
use Rattle.mc_reply.specs.declared.replies.Marks.{Marks}
use Rattle.mc_reply.specs.declared.replies.Marks.TheVariants.{Plain, Won, WonStale, StaleSent, Sent}
use Rattle.mc_reply.specs.declared.replies.Shown.{Shown}
use Rattle.mc_reply.specs.declared.replies.Reply.{Reply as AReply}
use Rattle.mc_reply.specs.declared.replies.Reply.TheVariants.{Stored, NotStored, Exists, NotFound, Deleted, Touched, Flushed, Number, Miss, Hit, Meta, Fault}
use Rattle.mc_route.specs.declared.losses.Losses.{Losses}
use Rattle.mc_account.specs.Orders.{Order}
use Rattle.mc_history.specs.declared.entries.Entry.{Entry}
use Rattle.mc_registers.specs.Guarantees.{HaveNotWritten}
use Rattle.mc_registers.specs.Recache.{has_won, is_win}
use Rattle.mc_registers.specs.Registers.{Done}
use Rattle.mc_registers.specs.Records.{Records}
use Rattle.mc_registers.proofs.RecacheLemmas.{each_win_is_marked, first_win_is_marked}
use Rattle.mc_world.specs.Homes.{Homes}
use Rattle.mc_world.specs.Logs.{Log}
use Rattle.mc_linearizable.specs.Linearizable.{Executed, IsLinearizable, IsLinearizablePool}
use Rattle.mc_linearizable.specs.Clients.{OneClientFills, WasShownWin}
use Rattle.mc_linearizable.proofs.SpelledLemmas.{AreDigits, decimal_digits}
use Rattle.mc_linearizable.proofs.LifeRuns.{recorded-atom}
use Rattle.mc_linearizable.proofs.CutLemmas.{none_wrote, told_wrote}
use Rattle.mc_linearizable.proofs.ClientLemmas.{one_life, run_says}

-- W is in a line, before its end
abbrev has_w : List ℕ → Bool
has_w [] = false
has_w (b ∷ bs) = if b == 13 then false else if b == 87 then true else has_w bs

-- a number has no W
digit_passes : (d : ℕ) (rest : Bool) → 47 < d → d < 58 → (if d == 13 then false else if d == 87 then true else rest) ≡ rest
digit_passes d rest low high = grind (arith, nat_tests)

digits_pass : (ds xs : List ℕ) → AreDigits ds → has_w (ds ++ xs) ≡ has_w xs
digits_pass [] xs are = refl
digits_pass (d ∷ ds) xs are = digit_passes d (has_w (ds ++ xs)) are.0 are.1 ∙ digits_pass ds xs are.2

number_passes : (letter : ℕ) (number : Option ℕ) (rest : List ℕ) → ((xs : List ℕ) → has_w (letter ∷ xs) ≡ has_w xs)
    → has_w (number_flag_onto (32 ∷ letter ∷ []) number rest) ≡ has_w rest
number_passes letter None rest passes = refl
number_passes letter (Some number) rest passes = passes (decimal number ++ rest) ∙ digits_pass (decimal number) rest (decimal_digits number)

left_passes : (left : Option (Option ℕ)) (rest : List ℕ) → has_w (left_onto left rest) ≡ has_w rest
left_passes None rest = refl
left_passes (Some None) rest = refl
left_passes (Some (Some seconds)) rest = digits_pass (decimal seconds) rest (decimal_digits seconds)

-- marks show W
marks_show : (marks : Marks) (rest : List ℕ) → has_w (marks_onto marks (13 ∷ rest)) ≡ is_win marks
marks_show Plain rest = refl
marks_show Won rest = refl
marks_show WonStale rest = refl
marks_show StaleSent rest = refl
marks_show Sent rest = refl

flags_show : (shown : Shown) (rest : List ℕ)
    → has_w (number_flag_onto (codes " c") shown.cas (number_flag_onto (codes " f") shown.flags (number_flag_onto (codes " s") shown.size
    (left_onto shown.left (marks_onto shown.marks (13 ∷ rest)))))) ≡ is_win shown.marks
flags_show shown rest =
    let last : List ℕ = marks_onto shown.marks (13 ∷ rest) in
    let third : List ℕ = left_onto shown.left last in
    let second : List ℕ = number_flag_onto (codes " s") shown.size third in
    let first : List ℕ = number_flag_onto (codes " f") shown.flags second in
    number_passes 99 shown.cas first (λ xs. refl) ∙ number_passes 102 shown.flags second (λ xs. refl) ∙ number_passes 115 shown.size third (λ xs. refl)
    ∙ left_passes shown.left last ∙ marks_show shown.marks rest

-- the bytes of a reply to `mg` show whether its client has won
win_shows : (key : List ℕ) (get : MetaGet) (reply : AReply (List ℕ)) → has_w (meta_spelling reply) ≡ has_won (atoms.Meta (metas.Get key get)) reply
win_shows key get (Meta shown None) = flags_show shown (10 ∷ [])
win_shows key get (Meta shown (Some value)) =
    digits_pass (decimal (length value)) (number_flag_onto (codes " c") shown.cas (number_flag_onto (codes " f") shown.flags (number_flag_onto (codes " s") shown.size
    (left_onto shown.left (marks_onto shown.marks (13 ∷ 10 ∷ (value ++ codes "\r\n"))))))) (decimal_digits (length value))
    ∙ flags_show shown (10 ∷ (value ++ codes "\r\n"))
win_shows key get Stored = refl
win_shows key get NotStored = refl
win_shows key get Exists = refl
win_shows key get NotFound = refl
win_shows key get Deleted = refl
win_shows key get Touched = refl
win_shows key get Flushed = refl
win_shows key get (Number number) = refl
win_shows key get Miss = refl
win_shows key get (Hit flags cas value) = refl
win_shows key get (Fault UnknownCommand) = refl
win_shows key get (Fault BadFormat) = refl
win_shows key get (Fault BadDelta) = refl
win_shows key get (Fault InvalidFlag) = refl
win_shows key get (Fault BadToken) = refl
win_shows key get (Fault BadDataChunk) = refl
win_shows key get (Fault LineTooLong) = refl
win_shows key get (Fault NonNumeric) = refl
win_shows key get (Fault TooLarge) = refl
win_shows key get (Fault CasUsedUp) = refl
win_shows key get (Fault OutOfMemory) = refl

pub win_same : (key : List ℕ) (get : MetaGet) (own reply : AReply (List ℕ)) → meta_spelling own ≡ meta_spelling reply
    → has_won (atoms.Meta (metas.Get key get)) own ≡ has_won (atoms.Meta (metas.Get key get)) reply
win_same key get own reply same = sym (win_shows key get own) ∙ ap (λ (bytes : List ℕ). has_w bytes) same ∙ win_shows key get reply

win_read : (atom : Atom (List ℕ)) (own reply : AReply (List ℕ)) → spelling_of atom own ≡ spelling_of atom reply → has_won atom reply ≡ true → has_won atom own ≡ true
win_read (atoms.Get key touch with_cas) own reply same won = absurd cc
win_read (atoms.Update update) own reply same won = absurd cc
win_read (atoms.Meta (metas.Update update show)) own reply same won = absurd cc
win_read (atoms.Meta (metas.Get key get)) own reply same won = win_same key get own reply same ∙ won

-- a client that was shown W is shown it in its run
pub run_wins : (home : Homes) (counter : ℕ) (order : Order) (histories : ℕ → List Entry) (log : Log) (key : List ℕ) → IsLinearizable home counter order histories log key
    → (x : Executed order histories key) (done : Done) → Records order x.place x.entry done → WasShownWin log x → has_won done.atom done.reply ≡ true
run_wins home counter order histories log key h x done tells wins =
    let same : done.atom ≡ x.atom = recorded-atom order histories key x done tells in
    let won : has_won x.atom done.reply ≡ true =
    win_read x.atom done.reply wins.0 (run_says home counter order histories log key h x done wins.0 tells wins.1) wins.2 in
    subst (λ (a : Atom (List ℕ)). has_won a done.reply ≡ true) (sym same) won

pub one_client_fills : (home : Homes) (losses : Losses) (counter : ℕ) (order : Order) (texts outs : ℕ → List ℕ) (histories : ℕ → List Entry) (log : Log)
    → IsLinearizablePool home losses counter order texts outs histories log → (key : List ℕ) → OneClientFills order histories log key
one_client_fills home losses counter order texts outs histories log pool key first second wins also comes none =
    let h = pool.keys key in
    elim (one_life home losses counter order texts outs histories log pool key first second comes) [
      | inl both ↦ (let c = both.1 in
          let not : HaveNotWritten c.between =
          none_wrote order histories key first.place (suc first.number) second.number c.commands c.between c.rising c.told
          (λ x at from to. none x (inr (sym at, omega (arith, from)), inr (at ∙ sym both.0, to))) in
          let made = each_win_is_marked counter None c.front c.between c.back c.first c.last c.run
          (run_wins home counter order histories log key h first c.first c.first_tells wins) (run_wins home counter order histories log key h second c.last c.last_tells also) not in
          told_wrote order histories key second c.last c.last_tells made)
      | inr later ↦ (let c = later.1 in
          let not : HaveNotWritten c.front =
          none_wrote order histories key second.place later.0 second.number c.commands c.front c.rising c.told (λ x at from to. none x (later.2 x at from, inr (at, to))) in
          let made = first_win_is_marked counter c.front c.back c.done c.run (run_wins home counter order histories log key h second c.done c.tells also) not in
          told_wrote order histories key second c.done c.tells made)
    ]
