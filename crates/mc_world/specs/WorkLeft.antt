-- How much is left to do in a pool: a number that each event of a drain reduces. This project's own.
use Rattle.std.specs.Prelude.{ℕ, suc, ◌+◌, ◌-◌, ◌*◌, List, [], ◌∷◌, length, if◌then◌else◌}
use Rattle.mc_request.specs.declared.parts.Parsed.{Parsed}
use Rattle.mc_request_reader.specs.Reader.{rest_of}
use Rattle.mc_ring.specs.Rings.{RingState}
use Rattle.mc_route.specs.Routes.{route_of_taken}
use Rattle.mc_link.specs.LinkState.{LinkState}
use Rattle.mc_server.specs.ServerState.{ServerState, connection_at, output_of}
use Rattle.mc_proxy.specs.SessionState.{SessionState}
use Rattle.mc_proxy.specs.ProxyState.{ProxyState, Sessions}
use Rattle.mc_world.specs.WorldState.{PoolState, SiteState, StaleState, WayState, way_by}

-- bytes that can be moved at once: one thing to do, if there are any
abbrev pub moves_of : List ℕ → ℕ
moves_of [] = 0
moves_of (b ∷ bs) = 1

-- requests that were not taken: for each its turn, its answer and the move of that; and four things for each of its commands, which
-- are its move to the server, its turn there, the move of the reply, and the reply's turn
abbrev pub work_of_requests : RingState → List Parsed → ℕ
work_of_requests ring [] = 0
work_of_requests ring (what ∷ others) = 3 + 4 * length (route_of_taken ring what) + work_of_requests ring others

-- a session: for each unanswered request also its answer and the move of that, and the move of the bytes that were emitted
abbrev pub work_of_session : RingState → SessionState → ℕ
work_of_session ring session = work_of_requests ring (rest_of session.reader []) + 2 * length session.unanswered + moves_of session.output

abbrev pub work_of_sessions : RingState → Sessions → ℕ
work_of_sessions ring [] = 0
work_of_sessions ring (open_one ∷ others) = work_of_session ring open_one.1 + work_of_sessions ring others

-- a link that is up: for each command that its server has not taken its turn there, the move of the reply and the reply's turn; for
-- each that was taken the reply's turn; and the moves of the bytes that are on their way
abbrev pub work_on : LinkState → WayState → ServerState → ℕ
work_on link way server =
    3 * (length link.waiting - way.ahead) + way.ahead + (moves_of link.output + moves_of (output_of (connection_at server way.connection)))

abbrev pub work_of_link : LinkState → WayState → ServerState → ℕ
work_of_link link way server = if link.up then work_on link way server else 0

-- the links of a proxy to these sites
abbrev pub work_of_links : ℕ → List LinkState → List SiteState → ℕ
work_of_links proxy [] sites = 0
work_of_links proxy (link ∷ links) [] = 0
work_of_links proxy (link ∷ links) (site ∷ sites) = work_of_link link (way_by site proxy) site.server + work_of_links proxy links sites

-- proxies, the first of which has this number: their sessions and links
abbrev pub work_of_proxies : ℕ → List ProxyState → List SiteState → ℕ
work_of_proxies from [] sites = 0
work_of_proxies from (p ∷ ps) sites =
    work_of_sessions p.ring p.sessions + work_of_links from p.links sites + work_of_proxies (suc from) ps sites

-- lost generations: for each its end, and the turns of the commands that were not taken
abbrev pub work_of_ways : List StaleState → ℕ
work_of_ways [] = 0
work_of_ways (way ∷ ways) = 1 + length way.untaken + work_of_ways ways

abbrev pub work_of_sites : List SiteState → ℕ
work_of_sites [] = 0
work_of_sites (site ∷ sites) = work_of_ways site.lost + work_of_sites sites

abbrev pub work_left : PoolState → ℕ
work_left pool = work_of_proxies 0 pool.proxies pool.sites + work_of_sites pool.sites
