-- Commands of several servers in one order, by turns.
use Rattle.std.proofs.Common.{◌≡◌, ◌∙◌, ℕ, suc, ◌==◌, Bool, if◌then◌else◌, List, [], ◌∷◌, ◌++◌, length, drop, Some, refl, ap, arith}
use Rattle.std.specs.List.{All}
use Rattle.std.proofs.lemmas.Bool.{eq-eqb, eqb-true}
use Rattle.std.proofs.lemmas.List.Elements.{All-cons, All-nil}
use Rattle.mc_cache.specs.Replay.{Command}
use Rattle.mc_cache.specs.Step.{atom_key}
use Rattle.mc_cache_laws.specs.Pools.{Executed, IsAtOwner, commands_at}
use Rattle.mc_world.specs.declared.events.Event.TheVariants.{ServerTurn}
use Rattle.mc_world.specs.declared.logs.Logged.{Logged}
use Rattle.mc_world.specs.declared.logs.Logged.TheVariants.{Happened}
use Rattle.mc_world.specs.Logs.{Log, number_of, serves}
use Rattle.mc_pool_laws.specs.Executions.{after_turn, first_at, merged, turn_of, turns_of}

-- how many turns a place has
abbrev pub times : ℕ → List ℕ → ℕ
times place [] = 0
times place (other ∷ others) = if other == place then suc (times place others) else times place others

turn-one : (place : ℕ) (e : Logged) (others : List ℕ) → times place (turn_of e ++ others) ≡ (if serves place e then suc (times place others) else times place others)
turn-one place (Happened (ServerTurn proxy at generation moment)) others = refl
turn-one place other others = refl

pub turns-count : (place : ℕ) (log : Log) → times place (turns_of log) ≡ number_of (serves place) log
turns-count place [] = refl
turns-count place (e ∷ es) =
    turn-one place e (turns_of es) ∙ ap (λ (n : ℕ). if serves place e then suc n else n) (turns-count place es)

-- lists by their lengths
nothing : (cs : List Command) → length cs ≡ 0 → [] ≡ cs
nothing [] none = refl
nothing (c ∷ cs) none = absurd (omega (arith, none))

one-less : (cs : List Command) (n : ℕ) → length cs ≡ suc n → length (drop 1 cs) ≡ n
one-less [] n more = absurd (omega (arith, more))
one-less (c ∷ cs) n more = omega (arith, more)

record HasFirst (cs : List Command) : Type 0 where
  first : Command
  others : List Command
  is : cs ≡ first ∷ others

has-first : (cs : List Command) (n : ℕ) → length cs ≡ suc n → HasFirst cs
has-first [] n more = absurd (omega (arith, more))
has-first (c ∷ cs) n more = record { first = c; others = cs; is = refl }

-- Each server has as many commands as it has turns
abbrev pub HaveTurns : (ℕ → List Command) → List ℕ → Type 0
HaveTurns commands places = (place : ℕ) → length (commands place) ≡ times place places

turns-own : (commands : ℕ → List Command) (place : ℕ) (places : List ℕ) → HaveTurns commands (place ∷ places) → length (commands place) ≡ suc (times place places)
turns-own commands place places h = h place ∙ ap (λ (v : Bool). if v then suc (times place places) else times place places) (eq-eqb place place refl)

turns-after : (commands : ℕ → List Command) (place : ℕ) (places : List ℕ) → HaveTurns commands (place ∷ places) → HaveTurns (after_turn place commands) places
turns-after commands place places h other = grind (arith, one-less)

-- each of its commands is executed, in order
pub merged-own : (places : List ℕ) (commands : ℕ → List Command) → HaveTurns commands places → (place : ℕ) → commands_at place (merged commands places) ≡ commands place
merged-own [] commands h place = nothing (commands place) (h place)
merged-own (at ∷ places) commands h place =
    let f : HasFirst (commands at) = has-first (commands at) (times at places) (turns-own commands at places h) in
    let rest : List Executed = merged (after_turn at commands) places in
    let again : commands_at place rest ≡ after_turn at commands place = merged-own places (after_turn at commands) (turns-after commands at places h) place in
    grind (arith, eqb-true)

-- commands that a server executes as the owner of their keys
abbrev pub AreOwned : (List ℕ → ℕ) → ℕ → List Command → Type 0
AreOwned owner place [] = Unit {0}
AreOwned owner place (command ∷ commands) = ((key : List ℕ) → atom_key command.atom ≡ Some key → place ≡ owner key) × AreOwned owner place commands

owned-later : (owner : List ℕ → ℕ) (place : ℕ) (cs : List Command) → AreOwned owner place cs → AreOwned owner place (drop 1 cs)
owned-later owner place [] h = tt
owned-later owner place (c ∷ cs) h = h.1

owned-after : (owner : List ℕ → ℕ) (commands : ℕ → List Command) (at : ℕ) → ((place : ℕ) → AreOwned owner place (commands place))
    → (place : ℕ) → AreOwned owner place (after_turn at commands place)
owned-after owner commands at h place = grind (arith, owned-later)

owned-first : (owner : List ℕ → ℕ) (at : ℕ) (cs : List Command) (es : List Executed) → AreOwned owner at cs → All (IsAtOwner owner) es → All (IsAtOwner owner) (first_at at cs ++ es)
owned-first owner at [] es h hs = hs
owned-first owner at (c ∷ cs) es h hs = All-cons (IsAtOwner owner) (record { place = at; command = c }) es h.0 hs

pub merged-owned : (owner : List ℕ → ℕ) (places : List ℕ) (commands : ℕ → List Command) → ((place : ℕ) → AreOwned owner place (commands place))
    → All (IsAtOwner owner) (merged commands places)
merged-owned owner [] commands h = All-nil (IsAtOwner owner)
merged-owned owner (at ∷ places) commands h =
    grind (arith, owned-after, owned-first, merged-owned owner places (after_turn at commands) (owned-after owner commands at h))
