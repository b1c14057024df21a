-- Reads straight into a data block.
use Rattle.std.proofs.Common.{◌≡◌, ◌∙◌, ℕ, List, Option, Some, refl, sym, ap}
use Rattle.mc_table.proofs.NumberedEntryLemmas.{updated_same}
use Rattle.mc_request_reader.specs.Reader.{ReaderState}
use Rattle.mc_request_reader.specs.Reads.{Comes}
use Rattle.mc_server.specs.ServerState.{ConnectionState, Connections, ServerState, connection_at, updated}
use Rattle.mc_server.specs.Turns.{Feeds, IsFed, Steps}

-- more has arrived at a connection's reader
pub fed_by : (old new : ReaderState) (output came : List ℕ) → Comes old new came → IsFed (record { reader = old; output = output }) came (record { reader = new; output = output })
fed_by old new output came h =
    let at : ReaderState → ConnectionState = λ s. record { reader = s; output = output } in
    record {
      rest = h.rest;
      closed = h.closed;
      after_end = λ e. ap at (h.after_end e);
      output = refl;
    }

-- a connection of a server is fed
pub steps_fed : (number : ℕ) (s : ServerState) (before after : ConnectionState) (came : List ℕ) → connection_at s number ≡ Some before → IsFed before came after
    → Steps number s (record s { connections = updated number after s.connections }) (Feeds came)
steps_fed number s before after came was fed = record {
  before = before;
  after = after;
  was = was;
  is = refl;
  admitted = refl;
  step = (refl, fed);
}

-- a connection that stays what it was
pub server_same : (number : ℕ) (s : ServerState) (before after : ConnectionState) → connection_at s number ≡ Some before → after ≡ before
    → record s { connections = updated number after s.connections } ≡ s
server_same number s before after was e =
    let at : Connections → ServerState = λ cs. record s { connections = cs } in
    ap at (ap (λ (c : ConnectionState). updated number c s.connections) e) ∙ ap at (updated_same number before s.connections was)
