-- What happens to a server and its ways, as the contracts of its calls say.
use Rattle.std.specs.Prelude.{ℕ, ◌≡◌, ◌<◌, ◌+◌, ◌-◌, Bool, length, List, [], ◌∷◌, ◌++◌, take, drop, None, Some, slice_get, slice_set, remove}
use Rattle.mc_link.specs.declared.turns.Tag.{Tag}
use Rattle.mc_server.specs.ServerState.{ServerState, closed, connection_at, sent_by, with_fresh}
use Rattle.mc_server.specs.Turns.{Feeds, IsTurn, Steps}
use Rattle.mc_server.specs.declared.turns.Turn.TheVariants.{Took}
use Rattle.mc_world.specs.WorldState.{SiteState, StaleState, way_by, with_way}
use Rattle.mc_world.specs.declared.errors.Step.{Step}
use Rattle.mc_world.specs.declared.errors.Step.TheVariants.{Done, Nothing}
use Rattle.mc_history.specs.declared.entries.Entry.{Entry}

-- what a step promises, by whether it was done
abbrev pub Does : Step → Type 0 → Type 0 → Type 0
Does Done happens rests = happens
Does Nothing happens rests = rests

-- bytes arrive at the server of a proxy's living generation
pub record Arrives (proxy : ℕ) (piece : List ℕ) (old new : SiteState) : Type 0 where
  pub steps : Steps (way_by old proxy).connection old.server new.server (Feeds piece)
  pub all_else : new ≡ record old { server = new.server }

-- bytes of it leave the server
abbrev pub returned : ℕ → ℕ → SiteState → SiteState
returned proxy count s =
    record s { server = sent_by (way_by s proxy).connection count (connection_at s.server (way_by s proxy).connection) s.server }

-- a reply of it was taken
abbrev pub taken_one : ℕ → SiteState → SiteState
taken_one proxy s = record s { ways = with_way proxy (record (way_by s proxy) { ahead = (way_by s proxy).ahead - 1 }) s.ways }

-- the entry of a command of this tag
abbrev pub entry_of_tag : Tag → ℕ → Bool → List ℕ → Entry
entry_of_tag tag moment refused reply = record {
  client = tag.session;
  request = tag.request;
  atom = tag.atom;
  moment = moment;
  refused = refused;
  reply = reply;
}

-- the server takes a request of a connection, which is the command of this tag: the history records it with the bytes that the server
-- appended
pub record EntersOn (number moment : ℕ) (tag : Tag) (old new : ServerState) (before after : List Entry) : Type 0 where
  pub steps : Steps number old new (IsTurn number moment Took)
  pub reply : List ℕ
  pub appended : steps.after.output ≡ steps.before.output ++ reply
  pub history : after ≡ before ++ entry_of_tag tag moment steps.step.1.served.0 reply ∷ []

-- the server takes a request of a proxy's living generation
pub record Enters (proxy moment : ℕ) (tag : Tag) (old new : SiteState) : Type 0 where
  pub on : EntersOn (way_by old proxy).connection moment tag old.server new.server old.history new.history
  pub all_else : new ≡ record old {
    server = new.server;
    history = new.history;
    ways = with_way proxy (record (way_by old proxy) { ahead = (way_by old proxy).ahead + 1 }) old.ways;
  }

-- bytes of a lost generation arrive at the server, the first of those on their way
pub record ArrivesLate (i count : ℕ) (old new : SiteState) : Type 0 where
  pub way : StaleState
  pub way_at : slice_get old.lost i ≡ Some way
  pub steps : Steps way.connection old.server new.server (Feeds (take count way.going))
  pub all_else : new ≡ record old { server = new.server; lost = slice_set old.lost i (record way { going = drop count way.going }) }

-- the server takes a request of a lost generation: that of its first command that was not taken
pub record EntersLate (i moment : ℕ) (old new : SiteState) : Type 0 where
  pub way : StaleState
  pub tag : Tag
  pub tags : List Tag
  pub way_at : slice_get old.lost i ≡ Some way
  pub untaken : way.untaken ≡ tag ∷ tags
  pub on : EntersOn way.connection moment tag old.server new.server old.history new.history
  pub all_else : new ≡ record old { server = new.server; history = new.history; lost = slice_set old.lost i (record way { untaken = tags }) }

-- the server sees the end of a lost generation: its connection is closed, and its bytes are dropped
pub record Ends (i : ℕ) (old new : SiteState) : Type 0 where
  pub way : StaleState
  pub way_at : slice_get old.lost i ≡ Some way
  pub closes : new.server ≡ record old.server { connections = closed way.connection old.server.connections }
  pub not_open : connection_at new.server way.connection ≡ None
  pub all_else : new ≡ record old { server = new.server; lost = remove old.lost i }

-- a proxy's link comes up, as this generation: the server has admitted a connection for it
pub record ComesBack (proxy generation : ℕ) (old new : SiteState) : Type 0 where
  pub inside : proxy < length old.ways
  pub closed : connection_at old.server old.server.admitted ≡ None
  pub all_else : new ≡ record old {
    server = with_fresh old.server;
    ways = with_way proxy (record { generation = generation; connection = old.server.admitted; ahead = 0 }) old.ways;
  }
