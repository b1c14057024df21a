-- The outcome of a command is recorded in its session.
use Rattle.std.specs.Prelude.{◌==◌, List, [], ◌∷◌, if◌then◌else◌}
use Rattle.mc_route.specs.declared.outcomes.Outcome.{Outcome}
use Rattle.mc_route.specs.declared.outcomes.Outcome.TheVariants.{Lost}
use Rattle.mc_link.specs.declared.turns.Tag.{Tag}
use Rattle.mc_link.specs.LinkState.{Waiting}
use Rattle.mc_proxy.specs.SessionNoting.{set_outcome_in_session}
use Rattle.mc_proxy.specs.ProxyState.{Sessions}

-- the outcome of a command, recorded in its session; if the session is gone, it is dropped
abbrev pub noted : Tag → Outcome → Sessions → Sessions
noted tag outcome [] = []
noted tag outcome (open_one ∷ others) =
    if open_one.0 == tag.session then (open_one.0, set_outcome_in_session tag outcome open_one.1) ∷ others else open_one ∷ noted tag outcome others

-- each of these commands is lost
abbrev pub all_lost : List Waiting → Sessions → Sessions
all_lost [] sessions = sessions
all_lost (waiting ∷ others) sessions = all_lost others (noted waiting.1 Lost sessions)
