-- What a server's history in a pool records of its commands: this project's own.
use Rattle.std.specs.Prelude.{ℕ, ◌≡◌, List, [], ◌∷◌, Some, if◌then◌else◌}
use Rattle.mc_reply.specs.Spelling.{spelling_of}
use Rattle.mc_route.specs.Routes.{to_place}
use Rattle.mc_account.specs.Lookups.{command_at}
use Rattle.mc_account.specs.Orders.{Order}
use Rattle.mc_history.specs.declared.entries.Entry.{Entry}
use Rattle.mc_history.specs.Histories.{tag_in}
use Rattle.mc_registers.specs.Registers.{Done}
use Rattle.mc_registers.specs.Laws.{is_on}

-- an entry is of this command, at its moment, and its bytes are the encoding of this reply
pub record Records (order : Order) (place : ℕ) (e : Entry) (done : Done) : Type 0 where
  pub command : command_at order (tag_in e) ≡ Some (to_place place done.atom)
  pub moment : done.moment ≡ e.moment
  pub reply : e.reply ≡ spelling_of done.atom done.reply

-- each entry of a history records its command, in order
abbrev pub RecordEach : Order → ℕ → List Entry → List Done → Type 0
RecordEach order place [] [] = Unit {0}
RecordEach order place [] (done ∷ all) = ⊥
RecordEach order place (e ∷ es) [] = ⊥
RecordEach order place (e ∷ es) (done ∷ all) = Records order place e done × RecordEach order place es all

-- the commands on a key
abbrev pub on_key : List ℕ → List Done → List Done
on_key key [] = []
on_key key (done ∷ all) = if is_on key done.atom then done ∷ on_key key all else on_key key all
