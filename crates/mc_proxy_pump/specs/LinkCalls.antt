-- Calls for one link of a proxy, in sequence: this project's own.
use Rattle.std.specs.Prelude.{◌≡◌, ℕ, ◌-◌, ◌≤◌, ◌==◌, Bool, true, false, List, [], ◌∷◌, ◌++◌, length, take, drop, slice_get, if◌then◌else◌}
use Rattle.std.specs.Option.{option_map_or}
use Rattle.mc_link.specs.declared.turns.Tag.{Tag}
use Rattle.mc_proxy.specs.SessionState.{link_at, with_link}
use Rattle.mc_proxy.specs.LinkTurns.{Answers, IsLinkTurn}
use Rattle.mc_proxy.specs.ProxyState.{ProxyState}
use Rattle.mc_proxy.specs.declared.turns.LinkStep.TheVariants.{Idle, Strange}

-- a call for a link
pub data LinkCall : Type 0 where
  -- it is fed these bytes, which its server sent
  Fed : List ℕ → LinkCall
  -- the first bytes of its output are consumed, by their number and the bytes themselves: they were sent to its server
  Sent : ℕ → List ℕ → LinkCall
  -- a turn matches a reply to the command of this tag
  Replied : Tag → LinkCall
  -- a turn finds no whole reply
  Rested : LinkCall
  -- a turn finds a violation, and loses the link
  Lost : LinkCall

-- what a call for the link of a place does to the proxy
abbrev pub DoesCall : ℕ → LinkCall → ProxyState → ProxyState → Type 0
DoesCall place (Fed came) old new =
    new ≡ record old { links = with_link place (record (link_at old.links place) { unread = (link_at old.links place).unread ++ came }) old.links }
DoesCall place (Sent count went) old new =
    (count ≤ length (link_at old.links place).output) × (went ≡ take count (link_at old.links place).output)
    × (new ≡ record old { links = with_link place (record (link_at old.links place) { output = drop count (link_at old.links place).output }) old.links })
DoesCall place (Replied tag) old new = (answers : Answers place old new) × (answers.tag ≡ tag)
DoesCall place Rested old new = IsLinkTurn place Idle old new
DoesCall place Lost old new = IsLinkTurn place Strange old new

-- the link is up before each call
abbrev pub IsLinkCall : ℕ → LinkCall → ProxyState → ProxyState → Type 0
IsLinkCall place call old new = ((link_at old.links place).up ≡ true) × DoesCall place call old new

-- the calls in sequence, from a proxy to the state that they leave
abbrev pub LinkCalls : ℕ → List LinkCall → ProxyState → ProxyState → Type 0
LinkCalls place [] old new = new ≡ old
LinkCalls place (call ∷ calls) old new = (middle : ProxyState) × (IsLinkCall place call old middle × LinkCalls place calls middle new)

-- the bytes that arrived by a call, and those that were sent
abbrev pub came_by : LinkCall → List ℕ
came_by (Fed came) = came
came_by other = []

abbrev pub went_by : LinkCall → List ℕ
went_by (Sent count went) = went
went_by other = []

-- the bytes that arrived by calls, joined, and those that were sent
abbrev pub came_of : List LinkCall → List ℕ
came_of [] = []
came_of (call ∷ calls) = came_by call ++ came_of calls

abbrev pub went_of : List LinkCall → List ℕ
went_of [] = []
went_of (call ∷ calls) = went_by call ++ went_of calls

-- whether a number is the last of numbers
abbrev pub is_last : ℕ → List ℕ → Bool
is_last number numbers = option_map_or (λ last. last == number) (slice_get numbers (length numbers - 1)) false

-- numbers of sessions with one more appended, unless it is the last already
abbrev pub with_woken : ℕ → List ℕ → List ℕ
with_woken session woken = if is_last session woken then woken else woken ++ session ∷ []

-- the numbers of woken sessions after calls: each session whose command got its reply
abbrev pub woken_by : List LinkCall → List ℕ → List ℕ
woken_by [] woken = woken
woken_by (Replied tag ∷ calls) woken = woken_by calls (with_woken tag.session woken)
woken_by (other ∷ calls) woken = woken_by calls woken

-- calls for a link by which these bytes arrived and these were sent, and the sessions that they woke
pub record LinkStretch (place : ℕ) (old new : ProxyState) (came went woken woken' : List ℕ) : Type 0 where
  pub calls : List LinkCall
  pub chain : LinkCalls place calls old new
  pub came_is : came_of calls ≡ came
  pub went_is : went_of calls ≡ went
  pub woken_is : woken_by calls woken ≡ woken'
