-- What is kept of a request for its answer. All of it is this project's own.
use Rattle.std.specs.Prelude.{ℕ, List, []}
use Rattle.mc_request.specs.declared.meta.MetaCommand.{MetaCommand}
use Rattle.mc_request.specs.declared.parts.Request.{Request}
use Rattle.mc_request.specs.declared.parts.Request.TheVariants as requests
use Rattle.mc_request.specs.declared.parts.Update.{Update}
use Rattle.mc_request.specs.declared.parts.Parsed.{Parsed}
use Rattle.mc_request.specs.declared.parts.Parsed.TheVariants.{Whole, Faulty}
use Rattle.mc_request.specs.Parts.{update_map, meta_map}

-- an update with an empty data block, if it has one
abbrev pub emptied : Update (List ℕ) (List ℕ) → Update (List ℕ) (List ℕ)
emptied update = update_map (λ key. key) (λ block. []) update

-- a meta command with an empty data block, if it has one
abbrev pub emptied_meta : MetaCommand (List ℕ) (List ℕ) → MetaCommand (List ℕ) (List ℕ)
emptied_meta command = meta_map (λ key. key) (λ block. []) command

-- a request with an empty data block, if it has one
abbrev pub without_block : Request → Request
without_block (requests.Update update noreply) = requests.Update (emptied update) noreply
without_block (requests.Meta command form) = requests.Meta (emptied_meta command) form
without_block other = other

-- what was taken, with an empty data block, if it has one: a fault stays as it is
abbrev pub kept_of : Parsed → Parsed
kept_of (Whole request) = Whole (without_block request)
kept_of (Faulty fault) = Faulty fault
