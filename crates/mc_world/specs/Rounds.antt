-- The order in which a drain does what is left: this project's own.
use Rattle.std.specs.Prelude.{ℕ, zero, suc, ◌≡◌, length, Some, slice_get}
use Rattle.mc_world.specs.Acts.{IsIdle, IsRested, event_of}
use Rattle.mc_world.specs.Courses.{Applies, IsDone}
use Rattle.mc_world.specs.WorldState.{IsRising, SiteState}
use Rattle.mc_world.specs.Worlds.{CourseState}
use Rattle.mc_world.specs.declared.acts.Act.{Act}
use Rattle.mc_world.specs.declared.acts.Act.TheVariants.{PutAnswer, ReachProxy, ReachServer, SeeEnd, Serve, TakeBytes, TakeReply, TakeRequest}

-- this is done for each number below this one, from 0 on
abbrev pub InOrder : (ℕ → CourseState → CourseState → Type 0) → ℕ → CourseState → CourseState → Type 0
InOrder Does zero old new = new ≡ old
InOrder Does (suc number) old new = (mid : CourseState) × InOrder Does number old mid × Does number mid new

-- for each client; for each server
abbrev pub EachClient : (ℕ → CourseState → CourseState → Type 0) → CourseState → CourseState → Type 0
EachClient Does old new = InOrder Does (length old.clients) old new

abbrev pub EachServer : (ℕ → CourseState → CourseState → Type 0) → CourseState → CourseState → Type 0
EachServer Does old new = InOrder Does (length old.pool.sites) old new

-- for each proxy each of its servers
abbrev pub EachLink : (ℕ → ℕ → CourseState → CourseState → Type 0) → CourseState → CourseState → Type 0
EachLink Does old new = InOrder (λ proxy. EachServer (Does proxy)) (length old.pool.proxies) old new

-- this is done repeatedly, this number of times, until it is over
abbrev pub Until : (CourseState → Type 0) → (CourseState → CourseState → Type 0) → CourseState → CourseState → Type 0
Until Over Does old new = (times : ℕ) × InOrder (λ time. Does) times old new × Over new

-- two steps in sequence
abbrev pub Then : (CourseState → CourseState → Type 0) → (CourseState → CourseState → Type 0) → CourseState → CourseState → Type 0
Then One Other old new = (mid : CourseState) × One old mid × Other mid new

-- an act that applies is done
abbrev pub IsActed : ℕ → Act → CourseState → CourseState → Type 0
IsActed moment act old new = Applies (event_of act moment old.pool) old.pool × IsDone (event_of act moment old.pool) old new

-- an act is done as often as it applies
abbrev pub Repeats : ℕ → Act → CourseState → CourseState → Type 0
Repeats moment act old new = Until (λ c. IsIdle moment c.pool act) (IsActed moment act) old new

-- two acts are done in alternation, each as often as it applies, until neither does
abbrev pub Alternates : ℕ → Act → Act → CourseState → CourseState → Type 0
Alternates moment one other old new =
    Until (λ c. IsIdle moment c.pool one × IsIdle moment c.pool other) (Then (Repeats moment one) (Repeats moment other)) old new

-- A round. For each client its proxy takes every request that it can. On each proxy's link to each server, the server gets all bytes and takes every
-- request that it can, in alternation; then the proxy gets all its bytes and takes all replies, in alternation. Each client is sent every answer that is known and
-- takes all bytes, in alternation.
pub record IsRound (moment : ℕ) (old new : CourseState) : Type 0 where
  pub taken : CourseState
  pub served : CourseState
  pub requests : EachClient (λ client. Repeats moment (TakeRequest client)) old taken
  pub servers : EachLink (λ proxy place. Then (Alternates moment (ReachServer proxy place) (Serve proxy place))
      (Alternates moment (ReachProxy proxy place) (TakeReply proxy place))) taken served
  pub answers : EachClient (λ client. Alternates moment (PutAnswer client) (TakeBytes client)) served new

-- each server sees the ends of its lost generations, which rise for each proxy, from the first on
pub record SeesEnds (moment : ℕ) (old new : CourseState) : Type 0 where
  pub rising : (place : ℕ) (site : SiteState) → slice_get old.pool.sites place ≡ Some site → IsRising site.lost
  pub ends : EachServer (λ place. Repeats moment (SeeEnd place)) old new

-- a drain: servers see the ends of their lost generations, and then rounds follow, until no act applies
pub record DrainsInRounds (moment : ℕ) (old new : CourseState) : Type 0 where
  pub ended : CourseState
  pub ends : SeesEnds moment old ended
  pub rounds : Until (IsRested moment) (IsRound moment) ended new
