-- What is known of a stream's input after an event and after a read. All of it is this project's own.
use Rattle.std.specs.Prelude.{ℕ, ◌&&◌, ◌||◌, Bool, false, not, nat_lt}
use Rattle.std.specs.declared.io.ErrorKind.{ErrorKind}
use Rattle.std.specs.declared.io.ErrorKind.TheVariants.{WouldBlock}
use Rattle.mio.specs.Event.{is_error, is_priority, is_read_closed, is_readable}
use Rattle.mio.specs.declared.event.event.Event.{Event}
use Rattle.mc_net.specs.declared.inputs.Readiness.{Readiness}

-- whether an event says that the peer will send no more, or has failed
abbrev pub has_ended : Event → Bool
has_ended event = is_read_closed event || is_error event

-- after an event
abbrev pub after_event : Readiness → Event → Readiness
after_event before event = record {
  would_block = before.would_block && not (has_ended event || is_readable event);
  peer_closed = before.peer_closed || has_ended event;
  urgent = before.urgent || is_priority event;
}

-- After a read that returned a number of bytes, of those asked for: fewer of them have emptied the socket, unless the end must still be
-- read, or an urgent byte may have ended the read.
-- source: tcp(7), "Sockets API"
abbrev pub after_read : Readiness → ℕ → ℕ → Readiness
after_read before count asked = record {
  would_block = nat_lt count asked && not before.peer_closed && not before.urgent;
  peer_closed = before.peer_closed;
  urgent = before.urgent;
}

-- after a read that failed by a kind of error: one that would block shows that the socket is empty, and that no urgent byte ended it
abbrev pub after_error : Readiness → ErrorKind → Readiness
after_error before WouldBlock = record { would_block = not before.peer_closed; peer_closed = before.peer_closed; urgent = false }
after_error before _ = before
