-- Pool scripts. Source: this project's own.
use Rattle.std.specs.Prelude.{◌≡◌, nat_le, Bool, true, false, ℕ, ◌^◌, ◌+◌, ◌*◌, ◌==◌, ◌&&◌, ◌<◌, ◌≤◌, All, List, [], ◌∷◌, ◌++◌, length, map, slice_index_or, slice_set, Option, Some, None, is_some, Result, Ok, Err, option_and_then, codes, decimal, if◌then◌else◌}
use Rattle.std.specs.List.{flat_map, range_with_len, sum_by}
use Rattle.std.specs.Option.{option_map, option_map_or, unwrap_or}
use Rattle.std.specs.Str.{bytes_eq}
use Rattle.mc_ring.specs.Points.{pair_at, pairs_of}
use Rattle.mc_ring.specs.Refusals.{refusal_of, refusal_of_points}
use Rattle.mc_ring.specs.Rings.{RingState, Shows}
use Rattle.mc_ring.specs.declared.errors.RingError.{RingError}
use Rattle.mc_ring.specs.declared.points.Point.{Point}
use Rattle.mc_route.specs.declared.losses.Losses.{Losses}
use Rattle.mc_route.specs.declared.losses.Losses.TheVariants.{Told, Missed}
use Rattle.mc_script.specs.Escapes.{hex_value}
use Rattle.mc_script.specs.Lines.{lines_from, cut_at_space}
use Rattle.mc_script.specs.Numbers.{limit_of, place_of}
use Rattle.mc_script.specs.Scripts.{◌>>=◌}
use Rattle.mc_cache.specs.CacheState.{IsWithinBounds}
use Rattle.mc_pool_script.specs.PoolLines.{line_of, HasMoment}
use Rattle.mc_pool_script.specs.declared.lines.PoolLine.{PoolLine}
use Rattle.mc_pool_script.specs.declared.lines.PoolLine.TheVariants.{Join, Learn}

-- the content of a script
pub record PoolSeen : Type 0 where
  -- the number of servers at first, the number of clients of each proxy, and the number of proxies
  pub servers : ℕ
  pub clients : ℕ
  pub proxies : ℕ
  -- the limits of each server's cache
  pub budget : ℕ
  pub items : ℕ
  -- the points of the ring, if they are given
  pub points : List Point
  -- the choice for lost commands, if a line names it
  pub losses : Option Losses
  -- the lines after these, in order
  pub lines : List PoolLine

-- the address of a first server, by its place
unfoldable pub first_server : ℕ → List ℕ
first_server place = codes "127.0.0.1:" ++ decimal (11211 + place)

-- the addresses of the first servers
abbrev pub first_servers : ℕ → List (List ℕ)
first_servers count = map first_server (range_with_len 0 count)

-- the address of a new server
abbrev pub joined_by : PoolLine → List (List ℕ)
joined_by (Join proxy address) = address ∷ []
joined_by other = []

-- all servers once these lines were played
abbrev pub servers_of : PoolSeen → List (List ℕ)
servers_of seen = first_servers seen.servers ++ flat_map joined_by seen.lines

-- how many servers more a proxy knows after a line: one that joins at it, or that it learns
abbrev pub known_by : ℕ → PoolLine → ℕ
known_by proxy (Join at address) = if at == proxy then 1 else 0
known_by proxy (Learn at address) = if at == proxy then 1 else 0
known_by proxy other = 0

-- how many each proxy knows once these lines were played: at first all
abbrev pub known_of : PoolSeen → List ℕ
known_of seen = map (λ proxy. seen.servers + sum_by (known_by proxy) seen.lines) (range_with_len 0 seen.proxies)

-- how many each proxy knows after one more line, by how many it knows before
abbrev pub known_after : List ℕ → PoolLine → List ℕ
known_after known (Join proxy address) = slice_set known proxy (slice_index_or known proxy 0 + 1)
known_after known (Learn proxy address) = slice_set known proxy (slice_index_or known proxy 0 + 1)
known_after known other = known

-- the number of all clients
abbrev pub clients_of : PoolSeen → ℕ
clients_of seen = seen.clients * seen.proxies

-- the number of proxies, which may be left out, after a first line's last limit: an item limit, or that and a number of proxies
unfoldable pub last_limits_of : List ℕ → Option (ℕ × ℕ)
last_limits_of text = do
  items ← limit_of (2 ^ 24) (unwrap_or (cut_at_space text) (text, codes "1")).0
  proxies ← limit_of 64 (unwrap_or (cut_at_space text) (text, codes "1")).1
  Some (items, proxies)

-- the limits of a line `pool <servers> <clients> <budget> <items>`, or `pool <servers> <clients> <budget> <items> <proxies>`: servers, clients of each
-- proxy, budget, items, proxies. All proxies have at most 1,024 clients
unfoldable pub limits_of : List ℕ → Option (ℕ × ℕ × ℕ × ℕ × ℕ)
limits_of line = do
  command ← cut_at_space line
  counts ← cut_at_space command.1
  others ← cut_at_space counts.1
  limits ← cut_at_space others.1
  servers ← limit_of 64 counts.0
  clients ← limit_of 1024 others.0
  budget ← limit_of (2 ^ 40) limits.0
  last ← last_limits_of limits.1
  if bytes_eq command.0 (codes "pool") && nat_le (clients * last.1) 1024 then Some (servers, clients, budget, last.0, last.1) else None

-- a script of these limits alone
abbrev pub opening_script : ℕ × ℕ × ℕ × ℕ × ℕ → PoolSeen
opening_script limits = record {
  servers = limits.0;
  clients = limits.1;
  proxies = limits.4;
  budget = limits.2;
  items = limits.3;
  points = [];
  losses = None;
  lines = [];
}

-- the script of a first line
abbrev pub head_of : List ℕ → Option PoolSeen
head_of line = option_map opening_script (limits_of line)

-- a number with one more hexadecimal digit, if that is one
abbrev pub with_digit : Option ℕ → ℕ → Option ℕ
with_digit number digit = option_and_then (λ n. option_map (λ d. 16 * n + d) (hex_value digit)) number

-- the number of some hexadecimal digits, after those of another number
abbrev pub hex_from : Option ℕ → List ℕ → Option ℕ
hex_from number [] = number
hex_from number (digit ∷ digits) = hex_from (with_digit number digit) digits

-- the number of eight hexadecimal digits
abbrev pub hex_of : List ℕ → Option ℕ
hex_of word = if length word == 8 then hex_from (Some 0) word else None

-- the point of the text after the word `point` and a space: `<8 hexadecimal digits> <server>`, one of the first
-- servers
unfoldable pub point_of : ℕ → List ℕ → Option Point
point_of servers text = do
  words ← cut_at_space text
  point ← hex_of words.0
  place ← place_of servers words.1
  Some (pair_at place point)

-- the choice for lost commands that a word names
abbrev pub losses_named : List ℕ → Option Losses
losses_named word =
    if bytes_eq word (codes "told") then Some Told
    else if bytes_eq word (codes "missed") then Some Missed
    else None

-- the choice of a script: `told` if no line names it
abbrev pub losses_of : PoolSeen → Losses
losses_of seen = unwrap_or seen.losses Told

-- a script with one more point, with a choice for lost commands, or with one more line
abbrev pub pointed : PoolSeen → Point → PoolSeen
pointed seen point = record seen { points = seen.points ++ point ∷ [] }

abbrev pub chosen : PoolSeen → Losses → PoolSeen
chosen seen losses = record seen { losses = Some losses }

abbrev pub followed : PoolSeen → PoolLine → PoolSeen
followed seen line = record seen { lines = seen.lines ++ line ∷ [] }

-- likewise, if there is one
abbrev pub with_point : PoolSeen → Option Point → Option PoolSeen
with_point seen point = option_map (λ p. pointed seen p) point

-- a choice is named at most once
abbrev pub with_losses : PoolSeen → Option Losses → Option PoolSeen
with_losses seen losses = if is_some seen.losses then None else option_map (λ l. chosen seen l) losses

abbrev pub with_line : PoolSeen → Option PoolLine → Option PoolSeen
with_line seen line = option_map (λ l. followed seen l) line

-- a script with one more line: points, and a choice for lost commands, are before all else
unfoldable pub read_more : PoolSeen → List ℕ → Option PoolSeen
read_more seen line = do
  words ← cut_at_space line
  if bytes_eq words.0 (codes "point") && length seen.lines == 0
      then with_point seen (point_of seen.servers words.1)
      else if bytes_eq words.0 (codes "losses") && length seen.lines == 0
      then with_losses seen (losses_named words.1)
      else with_line seen (line_of (clients_of seen) (servers_of seen) (known_of seen) line)

-- a script with all lines that follow, or the number of the first of them that is bad
unfoldable pub read_all : PoolSeen → List (ℕ × List ℕ) → Result PoolSeen ℕ
read_all seen [] = Ok seen
read_all seen (line ∷ lines) = option_map_or (λ next. read_all next lines) (read_more seen line.1) (Err line.0)

-- the script of lines: the first one is the head, and if there is none, line 1 is bad
unfoldable pub pool_of_lines : List (ℕ × List ℕ) → Result PoolSeen ℕ
pool_of_lines [] = Err 1
pool_of_lines (line ∷ lines) = option_map_or (λ head. read_all head lines) (head_of line.1) (Err line.0)

-- the script that a text is, or the number of its first bad line
abbrev pub pool_script_of : List ℕ → Result PoolSeen ℕ
pool_script_of input = pool_of_lines (lines_from 1 input)

-- what holds of every script that is read
pub record IsPoolScript (seen : PoolSeen) : Type 0 where
  pub some_servers : 1 ≤ seen.servers
  pub few_servers : seen.servers ≤ 64
  pub some_clients : 1 ≤ seen.clients
  pub some_proxies : 1 ≤ seen.proxies
  pub few_proxies : seen.proxies ≤ 64
  pub few_clients : clients_of seen ≤ 1024
  pub bounds : IsWithinBounds seen.budget seen.items
  pub places : All (λ (p : Point). p.place < seen.servers) seen.points
  pub moments : All (λ line. HasMoment line (2 ^ 63)) seen.lines

-- whether a line was read: if so, this is the script with it, and otherwise the line is bad
abbrev pub Gives : Bool → Option PoolSeen → PoolSeen → Type 0
Gives true next new = next ≡ Some new
Gives false next new = next ≡ None

-- the pairs of a ring of these servers, with points that were given, or with the servers' own if none were
abbrev pub pairs_of_pool : List (List ℕ) → List Point → List Point
pairs_of_pool servers points = if length points == 0 then pairs_of servers else points

-- why such a ring does not exist
abbrev pub refusal_of_pool : List (List ℕ) → List Point → Option RingError
refusal_of_pool servers points = if length points == 0 then refusal_of servers else refusal_of_points servers points

-- the ring that a pool begins with
pub record IsOpeningRing (seen : PoolSeen) (ring : RingState) : Type 0 where
  pub servers : ring.servers ≡ first_servers seen.servers
  pub points : Shows (pairs_of_pool ring.servers seen.points) ring.points
