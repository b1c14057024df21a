-- What a server made of the commands that arrived.
use Rattle.std.specs.Prelude.{ℕ, ◌≡◌, ◌==◌, Bool, true, List, [], ◌∷◌, map, if◌then◌else◌}
use Rattle.mc_request.specs.declared.parts.Parsed.{Parsed}
use Rattle.mc_request.specs.declared.parts.Parsed.TheVariants.{Whole}
use Rattle.mc_reply.specs.CanHave.{can_have}
use Rattle.mc_reply.specs.Spelling.{spelling_of}
use Rattle.mc_reply.specs.declared.replies.Reply.{Reply as AReply}
use Rattle.mc_codec.specs.Spellings.{is_good_atom, request_of}
use Rattle.mc_cache.specs.CacheState.{CacheState}
use Rattle.mc_cache.specs.Memory.{may_refuse}
use Rattle.mc_cache.specs.Refusals.{is_refusal}
use Rattle.mc_cache.specs.Step.{step_of}
use Rattle.mc_server.specs.Served.{ServedRequest}
use Rattle.mc_account.specs.Orders.{Tagged}
use Rattle.mc_history.specs.declared.entries.Entry.{Entry}

-- a command that a server took: its connection, the command and its tag, the moment, whether memory was refused to it, and the reply
pub record Made : Type 0 where
  pub connection : ℕ
  pub command : Tagged
  pub moment : ℕ
  pub refused : Bool
  pub reply : AReply (List ℕ)

-- what a server reads when a command is spelled to it
abbrev pub read_as : Tagged → Parsed
read_as command = Whole (request_of command.0)

-- the command as the server's history has it, and as the world's has it
abbrev pub taking_of : Made → ServedRequest
taking_of m = record { connection = m.connection; what = read_as m.command; moment = m.moment; refused = m.refused }

abbrev pub entry_of : Made → Entry
entry_of m = record {
  client = m.command.1.session;
  request = m.command.1.request;
  atom = m.command.1.atom;
  moment = m.moment;
  refused = m.refused;
  reply = spelling_of m.command.0 m.reply;
}

-- what was made on a connection, its commands, and its replies
abbrev pub made_on : ℕ → List Made → List Made
made_on number [] = []
made_on number (m ∷ ms) = if m.connection == number then m ∷ made_on number ms else made_on number ms

abbrev pub commands_on : ℕ → List Made → List Tagged
commands_on number made = map (λ m. m.command) (made_on number made)

abbrev pub replies_on : ℕ → List Made → List (AReply (List ℕ))
replies_on number made = map (λ m. m.reply) (made_on number made)

-- a command was made in this state of the cache: it can be spelled; memory is refused only if that is possible, and exactly if the
-- reply says so; and the reply is that of the cache, and one that the command can have
pub record IsMade (s : CacheState) (m : Made) : Type 0 where
  pub good : is_good_atom m.command.0 ≡ true
  pub legal : m.refused ≡ true → may_refuse s m.command.0 m.moment ≡ true
  pub reply : m.reply ≡ (step_of s m.command.0 m.moment m.refused).1
  pub told : m.refused ≡ is_refusal m.reply
  pub can : can_have m.command.0 m.reply ≡ true

-- each command was made, from a cache on
abbrev pub AreMade : CacheState → List Made → Type 0
AreMade s [] = Unit {0}
AreMade s (m ∷ ms) = IsMade s m × AreMade (step_of s m.command.0 m.moment m.refused).0 ms

-- a property of each of a list
abbrev pub Each : {X : Type 0} → (X → Type 0) → List X → Type 0
Each P [] = Unit {0}
Each P (x ∷ xs) = P x × Each P xs
