-- Caches whose items can be shown; every command leaves a cache so: this project's own.
use Rattle.std.specs.Prelude.{◌≡◌, ℕ, ◌<◌, ◌≤◌, ◌^◌, Bool, true, List, length, IfSome}
use Rattle.std.specs.List.{All, AllZip}
use Rattle.mc_text.specs.declared.blocks.TheConstants.{VALUE_LIMIT}
use Rattle.mc_item.specs.declared.bodies.Body.{Body}
use Rattle.mc_request.specs.declared.parts.Atom.{Atom}
use Rattle.mc_reply.specs.declared.replies.Reply.{Reply}
use Rattle.mc_reply.specs.CanHave.{can_have}
use Rattle.mc_codec.specs.Spellings.{is_good_atom}
use Rattle.mc_cache.specs.CacheState.{CacheState}
use Rattle.mc_cache.specs.Replay.{Command, replay, replies}
use Rattle.mc_cache.specs.Step.{step_of}

-- a body whose flags, expiry and value are within their limits, and whose number was given already
pub record IsGoodBody (counter : ℕ) (body : Body) : Type 0 where
  pub flags : body.flags < 2 ^ 32
  pub expiry : body.expiry.moment < 2 ^ 64
  pub cas : body.cas ≤ counter
  pub value : length body.value ≤ VALUE_LIMIT

-- a cache that may hold an item, whose items all have good bodies, and whose last number has 64
-- bits
pub record IsGoodCache (s : CacheState) : Type 0 where
  pub some_items : 1 ≤ s.limit
  pub counter : s.counter < 2 ^ 64
  pub items : All (λ item. IsGoodBody s.counter item.1) s.items

-- a command that can be encoded, at a moment at which a deadline has 64 bits
pub record IsGoodCommand (command : Command) : Type 0 where
  pub atom : is_good_atom command.atom ≡ true
  pub moment : command.moment < 2 ^ 63

-- each command leaves the cache good, whether memory is refused or not
abbrev pub StaysGood : CacheState → Type 0
StaysGood s =
    (atom : Atom (List ℕ)) → is_good_atom atom ≡ true → (moment : ℕ) → moment < 2 ^ 63 → (refused : Bool)
    → IsGoodCache (step_of s atom moment refused).0

-- the reply to each command is one that the command can have
abbrev pub AnswersAsItCan : CacheState → Type 0
AnswersAsItCan s =
    (atom : Atom (List ℕ)) → is_good_atom atom ≡ true → (moment : ℕ) → moment < 2 ^ 63 → (refused : Bool)
    → can_have atom (step_of s atom moment refused).1 ≡ true

-- along commands: the cache after them is good, and each is answered by a reply that it can have
abbrev pub AnswersEachAsItCan : CacheState → List Command → Type 0
AnswersEachAsItCan s commands =
    IsGoodCache (replay s commands) × AllZip (λ (command : Command) (reply : Reply (List ℕ)). can_have command.atom reply ≡ true) commands (replies s commands)
