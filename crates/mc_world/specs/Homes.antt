-- Which proxy a client has, and what is a proxy's own: this project's own.
use Rattle.std.specs.Prelude.{ℕ, ◌==◌, List, [], ◌∷◌, slice_index_or, if◌then◌else◌}
use Rattle.mc_link.specs.declared.turns.Tag.{Tag}
use Rattle.mc_account.specs.Orders.{Order}
use Rattle.mc_history.specs.Histories.{tag_in}
use Rattle.mc_history.specs.declared.entries.Entry.{Entry}

-- the proxy of each client, by its number
abbrev pub Homes : Type 0
Homes = ℕ → ℕ

-- the proxy of a client, of a list by the clients' numbers: the first one if it is not listed
abbrev pub home_in : List ℕ → Homes
home_in homes client = slice_index_or homes client 0

-- the requests that a proxy took, in an order of the requests that all took
abbrev pub of_proxy : Homes → ℕ → Order → Order
of_proxy home proxy [] = []
of_proxy home proxy (e ∷ es) = if home e.session == proxy then e ∷ of_proxy home proxy es else of_proxy home proxy es

-- bytes by clients, of a proxy's clients alone
abbrev pub own_of : Homes → ℕ → (ℕ → List ℕ) → ℕ → List ℕ
own_of home proxy bytes client = if home client == proxy then bytes client else []

-- the tags of the entries that a proxy's clients caused
abbrev pub tags_through : Homes → ℕ → List Entry → List Tag
tags_through home proxy [] = []
tags_through home proxy (e ∷ es) = if home e.client == proxy then tag_in e ∷ tags_through home proxy es else tags_through home proxy es
