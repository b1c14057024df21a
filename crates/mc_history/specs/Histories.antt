-- When a server's history is legal, by the order in which a proxy took the requests.
use Rattle.std.specs.Prelude.{ℕ, ◌≡◌, ◌≢◌, true, List, [], ◌∷◌, Some, slice_get}
use Rattle.mc_request.specs.declared.parts.Atom.{Atom}
use Rattle.mc_reply.specs.Spelling.{spelling_of}
use Rattle.mc_route.specs.Routes.{to_place}
use Rattle.mc_link.specs.declared.turns.Tag.{Tag}
use Rattle.mc_proxy.specs.Sending.{tag_of}
use Rattle.mc_cache.specs.CacheState.{CacheState}
use Rattle.mc_cache.specs.Memory.{may_refuse}
use Rattle.mc_cache.specs.Refusals.{is_refusal}
use Rattle.mc_cache.specs.Step.{step_of}
use Rattle.mc_account.specs.Lookups.{command_at}
use Rattle.mc_account.specs.Orders.{Order}
use Rattle.mc_history.specs.declared.entries.Entry.{Entry}

-- the tag of an entry's command
abbrev pub tag_in : Entry → Tag
tag_in e = tag_of e.client e.request e.atom

-- what a server answers a command at its turn: memory is refused only if that is possible, and exactly if the reply says so
pub record IsAnswered (s : CacheState) (atom : Atom (List ℕ)) (e : Entry) : Type 0 where
  pub legal : e.refused ≡ true → may_refuse s atom e.moment ≡ true
  pub refused : e.refused ≡ is_refusal (step_of s atom e.moment e.refused).1
  pub reply : e.reply ≡ spelling_of atom (step_of s atom e.moment e.refused).1

-- A history is legal from a cache on: each of its entries is of a command of this server that was taken, and its answer is
-- what the cache replies in the state that the entry before has left.
abbrev pub IsLegal : Order → ℕ → CacheState → List Entry → Type 0
IsLegal order place s [] = Unit {0}
IsLegal order place s (e ∷ es) =
    (atom : Atom (List ℕ)) × (command_at order (tag_in e) ≡ Some (to_place place atom)) × IsAnswered s atom e
    × IsLegal order place (step_of s atom e.moment e.refused).0 es

-- a history has an entry of a command, with this reply; or has none of it
abbrev pub HasReply : List Entry → Tag → List ℕ → Type 0
HasReply history tag reply = (k : ℕ) × (e : Entry) × (slice_get history k ≡ Some e) × (tag_in e ≡ tag) × (e.reply ≡ reply)

abbrev pub HasNone : List Entry → Tag → Type 0
HasNone history tag = (k : ℕ) (e : Entry) → slice_get history k ≡ Some e → tag_in e ≢ tag
