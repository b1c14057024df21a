-- Whether hosts' names may have to be looked up: this project's own.
use Rattle.std.specs.Prelude.{◌≡◌, ℕ, ◌⊎◌, List, [], ◌∷◌, Option, None, IfSome, IsSome, IsSomeAnd}
use Rattle.std.specs.Net.Grammar.{IsSocketV4Text}
use Rattle.std.specs.declared.net.socket_addr.SocketAddrV4.{SocketAddrV4}
use Rattle.mc_proxyd.specs.declared.servers.NamedServer.{NamedServer}

-- an address spells an IPv4 address and a port, by std's grammar; or it has a host's name
abbrev pub IsSpelled : List ℕ → Type 0
IsSpelled address = (spelled : SocketAddrV4) × IsSocketV4Text address spelled

abbrev pub HasName : List ℕ → Type 0
HasName address = (spelled : SocketAddrV4) → ¬ (IsSocketV4Text address spelled)

-- all of these addresses spell one; or one of them has a host's name
abbrev pub AreSpelled : List (List ℕ) → Type 0
AreSpelled [] = Unit {0}
AreSpelled (address ∷ addresses) = IsSpelled address × AreSpelled addresses

abbrev pub HaveName : List (List ℕ) → Type 0
HaveName [] = ⊥
HaveName (address ∷ addresses) = HasName address ⊎ HaveName addresses

-- No look-up is needed if there is no file, and all addresses are spelled, as is that of the server that joins. A file may have a name later.
abbrev pub NeedsNoLookUp : {A B : Type 0} → Option A → Option (NamedServer × B) → List (List ℕ) → Type 0
NeedsNoLookUp list join addresses = (list ≡ None) × IfSome join (λ joins. IsSpelled joins.0.address) × AreSpelled addresses

abbrev pub MayLookUp : {A B : Type 0} → Option A → Option (NamedServer × B) → List (List ℕ) → Type 0
MayLookUp list join addresses = IsSome list ⊎ IsSomeAnd join (λ joins. HasName joins.0.address) ⊎ HaveName addresses
