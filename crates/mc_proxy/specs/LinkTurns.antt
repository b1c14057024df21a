-- What a turn of a link does, and its loss.
use Rattle.std.specs.Prelude.{ℕ, ◌≡◌, List}
use Rattle.mc_reply.specs.declared.replies.Reply.{Reply as AReply}
use Rattle.mc_route.specs.declared.outcomes.Outcome.TheVariants.{Reply}
use Rattle.mc_link.specs.LinkState.{LinkState, down_link}
use Rattle.mc_link.specs.Turns.{Takes, IsIdle, HasStrange}
use Rattle.mc_link.specs.declared.turns.Tag.{Tag}
use Rattle.mc_proxy.specs.SessionState.{link_at, with_link}
use Rattle.mc_proxy.specs.ProxyState.{ProxyState}
use Rattle.mc_proxy.specs.Noting.{noted, all_lost}
use Rattle.mc_proxy.specs.declared.turns.LinkStep.{LinkStep}
use Rattle.mc_proxy.specs.declared.turns.LinkStep.TheVariants.{Took, Idle, Strange}

-- the link at a place is lost: each of its pending commands is lost, and its buffers are dropped
abbrev pub lost_at : ℕ → ProxyState → ProxyState
lost_at place p =
    let link = link_at p.links place in
    record p { sessions = all_lost link.waiting p.sessions; links = with_link place (down_link link.generation) p.links }

-- the oldest pending command of the link at a place gets its reply
pub record Answers (place : ℕ) (old new : ProxyState) : Type 0 where
  pub tag : Tag
  pub reply : AReply (List ℕ)
  pub link : LinkState
  pub takes : Takes (link_at old.links place) tag reply link
  pub links : new.links ≡ with_link place link old.links
  pub sessions : new.sessions ≡ noted tag (Reply reply) old.sessions
  pub ring : new.ring ≡ old.ring
  pub losses : new.losses ≡ old.losses
  pub admitted : new.admitted ≡ old.admitted

-- what a turn of the link at a place does
abbrev pub IsLinkTurn : ℕ → LinkStep → ProxyState → ProxyState → Type 0
IsLinkTurn place Took old new = Answers place old new
IsLinkTurn place Idle old new = IsIdle (link_at old.links place).waiting (link_at old.links place).unread × (new ≡ old)
IsLinkTurn place Strange old new = HasStrange (link_at old.links place).waiting (link_at old.links place).unread × (new ≡ lost_at place old)
