-- A connection: its request so far, the bytes that were read and are not taken, and the unsent output.
use Rattle.std.specs.Prelude.{◌≡◌, ℕ, Bool, true, false, List, [], Option, Some, None}
use Rattle.mc_admin.specs.Requests.{InboxState, fresh_inbox, taking}
use Rattle.mc_admin.specs.AdminRequests.{Asks, ends}
use Rattle.mc_admin.specs.Answers.{answer_to, is_listed_on}
use Rattle.mc_admin.specs.declared.admin_requests.AdminRequest.{AdminRequest}
use Rattle.mc_admin.specs.declared.figures.Sheet.{Sheet}
use Rattle.mc_admin.specs.declared.hosts.Hosts.{Hosts}

-- a connection
pub record TalkState : Type 0 where
  pub inbox : InboxState
  pub unread : List ℕ
  pub output : List ℕ
  pub closing : Bool

-- a connection to which no byte has arrived
abbrev pub fresh_talk : TalkState
fresh_talk = record { inbox = fresh_inbox; unread = []; output = []; closing = false }

-- the rest of a request that was answered: all of it while it is answered further, else nothing
abbrev pub left_by : Bool → InboxState → InboxState
left_by true inbox = inbox
left_by false inbox = fresh_inbox

-- A turn: the request takes what was read until it ends. If it has ended, what it asks for is answered, and the next one begins, unless
-- this one is answered further; after some answers the connection is closed. Source: this project's own.
abbrev pub Turns : Hosts → Sheet → Option AdminRequest → TalkState → TalkState → Type 0
Turns hosts sheet (Some asked) before after =
    Asks hosts (taking before.inbox before.unread).0 (Some asked)
    × (after ≡ record {
      inbox = left_by (is_listed_on asked sheet) (taking before.inbox before.unread).0;
      unread = (taking before.inbox before.unread).1;
      output = answer_to asked sheet;
      closing = ends asked;
    })
Turns hosts sheet None before after =
    Asks hosts (taking before.inbox before.unread).0 None
    × (after ≡ record before { inbox = (taking before.inbox before.unread).0; unread = (taking before.inbox before.unread).1 })
