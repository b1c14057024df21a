-- A line of the code, as definitions see it.
use Rattle.std.specs.Prelude.{Result, Ok, Err}
use Rattle.mc_request.specs.declared.faults.Fault.{Fault}
use Rattle.mc_request.specs.declared.parts.Request.TheVariants.{Get, Update, Meta, MetaNoop, Version, Quit}
use Rattle.mc_request.specs.declared.parts.Parsed.{Parsed}
use Rattle.mc_request.specs.declared.parts.Parsed.TheVariants.{Whole, Faulty}
use Rattle.mc_request.specs.declared.lines.PendingStore as lents
use Rattle.mc_request.specs.declared.lines.PendingStore.TheVariants as lent_kinds
use Rattle.mc_request.specs.declared.lines.RequestRef.{RequestRef}
use Rattle.mc_request.specs.declared.lines.RequestRef.TheVariants as asked
use Rattle.mc_request.specs.declared.lines.CommandLine.{CommandLine}
use Rattle.mc_request.specs.declared.lines.CommandLine.TheVariants as lines
use Rattle.mc_request.specs.Parts.{update_map, update_seen, meta_said, key_bytes}
use Rattle.mc_request.specs.Meanings.{Line, Lone, Meaning, PendingStore, Classic, MetaSet, Alone, Stores, Refuses}

-- what is borrowed, as the request or fault that it is
abbrev pub asked_of : RequestRef → Parsed
asked_of (asked.Get keys exptime with_cas) = Whole (Get keys exptime with_cas)
asked_of (asked.Update update noreply) = Whole (Update (update_seen update) noreply)
asked_of (asked.Meta command form) = Whole (Meta (meta_said form.coded command) form)
asked_of asked.MetaNoop = Whole MetaNoop
asked_of asked.Version = Whole Version
asked_of asked.Quit = Whole Quit
asked_of (asked.Faulty fault) = Faulty fault

-- a line that is well formed
abbrev pub line_of_taken : Parsed → Result Line Fault
line_of_taken (Whole request) = Ok (Lone request)
line_of_taken (Faulty fault) = Err fault

-- a storage command before its data block
abbrev pub storing_of : lents.PendingStore → PendingStore
storing_of (lent_kinds.Classic update noreply) = Classic (update_map (λ key. key.now) (λ block. block) update) noreply
storing_of (lent_kinds.Meta update show form) = MetaSet (update_map (λ word. key_bytes form.coded word.now) (λ block. block) update) show form

-- what a line asks for
abbrev pub meaning_of : CommandLine → Meaning
meaning_of (lines.Alone asked) = Alone (asked_of asked)
meaning_of (lines.Stores storing len) = Stores (storing_of storing) len
meaning_of (lines.Refuses fault len) = Refuses fault len
