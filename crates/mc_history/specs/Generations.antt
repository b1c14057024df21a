-- One generation of a link: what its proxy's lane and its server's connection have in common.
use Rattle.std.specs.Prelude.{ℕ, ◌≡◌, Bool, true, List, ◌++◌, length, map, drop}
use Rattle.std.specs.List.{list_all}
use Rattle.mc_request.specs.Requests.{requests_of}
use Rattle.mc_request_reader.specs.Reader.{rest_of}
use Rattle.mc_reply.specs.declared.replies.Reply.{Reply as AReply}
use Rattle.mc_codec.specs.Spellings.{is_good_atom}
use Rattle.mc_link.specs.LinkState.{LinkState}
use Rattle.mc_link.specs.Turns.{HasStrange}
use Rattle.mc_server.specs.ServerState.{ConnectionState}
use Rattle.mc_server.specs.Holds.{Holds}
use Rattle.mc_cache.specs.CacheState.{CacheState}
use Rattle.mc_account.specs.Lanes.{CanHave, Lane, LaneHolds, replies_text, sent_on}
use Rattle.mc_account.specs.Orders.{Order, Tagged}
use Rattle.mc_history.specs.Made.{AreMade, Made, commands_on, read_as, replies_on, taking_of}

-- whether a command can be spelled
abbrev pub is_good : Tagged → Bool
is_good command = is_good_atom command.0

-- The first replies to some commands are the first of all replies: the same ones, and the bytes after them spell the later ones.
pub record IsFront (commands : List Tagged) (replies all : List (AReply (List ℕ))) (bytes : List ℕ) : Type 0 where
  pub later : List (AReply (List ℕ))
  pub all_is : all ≡ replies ++ later
  pub bytes_are : bytes ≡ replies_text (drop (length replies) commands) later
  pub can : CanHave (drop (length replies) commands) later

-- A link that is up and the server's connection at its other end, by what the server made of the commands that arrived, and which
-- others were sent. Both ways, the bytes that arrived are those that were sent.
pub record BothEndsAgree (place : ℕ) (order : Order) (passed : Lane) (link : LinkState) (opening : CacheState) (all : List Made) (number : ℕ) (end : ConnectionState) (others : List Tagged) : Type 0 where
  pub lane : LaneHolds place order passed link
  pub connection : Holds opening number passed.out (map taking_of all) passed.came end
  pub made : AreMade opening all
  pub commands : sent_on place order passed ≡ commands_on number all ++ others
  pub good : list_all is_good (sent_on place order passed) ≡ true

-- The server reads the other commands next, in order, and nothing else before what follows. The replies that the proxy took are the
-- first that the server gave to these commands, the bytes in flight back spell the later ones, and none of them is a violation.
pub record IsCarried (place : ℕ) (order : Order) (lane : Lane) (link : LinkState) (made : List Made) (number : ℕ) (connection : ConnectionState) (others : List Tagged) : Type 0 where
  pub reads : (more : List ℕ) → rest_of connection.reader (link.output ++ more) ≡ map read_as others ++ requests_of more
  pub front : IsFront (sent_on place order lane) lane.replies (replies_on number made) (link.unread ++ connection.output)
  pub never_strange : HasStrange link.waiting link.unread → ⊥
