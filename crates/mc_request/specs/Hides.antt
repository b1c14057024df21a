-- What a request hides of its answer.
use Rattle.std.specs.Prelude.{Bool, true, false}
use Rattle.mc_request.specs.declared.hides.Hides.{Hides}
use Rattle.mc_request.specs.declared.hides.Hides.TheVariants.{Nothing, ReplyLine, Misses, Success, SuccessAndMisses}
use Rattle.mc_request.specs.declared.meta.MetaCommand.{MetaCommand}
use Rattle.mc_request.specs.declared.meta.MetaCommand.TheVariants as metas
use Rattle.mc_request.specs.declared.parts.Update.{Update as AnUpdate}
use Rattle.mc_request.specs.declared.parts.Update.TheVariants.{Store, Delete, Count}
use Rattle.mc_request.specs.declared.parts.Request.{Request}
use Rattle.mc_request.specs.declared.parts.Request.TheVariants.{Update, Meta}
use Rattle.mc_request.specs.declared.parts.Parsed.{Parsed}
use Rattle.mc_request.specs.declared.parts.Parsed.TheVariants.{Whole, Faulty}

-- what a quiet update hides: that it was done, and for `md` and `ma` that the key is not stored
-- source: protocol.txt, "Meta Set", "Meta Delete", "Meta Arithmetic", flag q
abbrev pub hidden_update : {K B : Type 0} → AnUpdate K B → Hides
hidden_update (Store mode compare key flags exptime block) = Success
hidden_update (Delete key compare invalidate) = SuccessAndMisses
hidden_update (Count key counting) = SuccessAndMisses
hidden_update update = Nothing

-- what a meta command hides, quiet or not; `mg` that the key is not stored: source protocol.txt, "Meta Get", flag q
abbrev pub hidden_by : {K B : Type 0} → MetaCommand K B → Bool → Hides
hidden_by command false = Nothing
hidden_by (metas.Get key get) true = Misses
hidden_by (metas.Update update show) true = hidden_update update

-- an update with `noreply` hides the line of its reply: source protocol.txt, "Storage commands"
abbrev pub hides_of : Request → Hides
hides_of (Update update true) = ReplyLine
hides_of (Meta command form) = hidden_by command form.quiet
hides_of request = Nothing

-- what is no request hides nothing
abbrev pub hides_taken : Parsed → Hides
hides_taken (Whole request) = hides_of request
hides_taken (Faulty fault) = Nothing
