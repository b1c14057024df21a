-- Lines of a pool script, and the meaning of each. Source: this project's own.
use Rattle.std.specs.Prelude.{ℕ, ◌^◌, ◌+◌, ◌-◌, ◌<◌, ◌==◌, nat_lt, List, [], length, take, drop, position, slice_index_or, Option, Some, None, is_some, codes, if◌then◌else◌}
use Rattle.std.specs.Option.{option_map, option_or, unwrap_or}
use Rattle.std.specs.Str.{bytes_eq}
use Rattle.mc_text.specs.Numbers.{read_u64}
use Rattle.mc_text.specs.Addresses.{is_address}
use Rattle.mc_ring.specs.Refusals.{refusal_of_more}
use Rattle.mc_script.specs.Escapes.{text_of}
use Rattle.mc_script.specs.Lines.{cut_at_space}
use Rattle.mc_script.specs.Numbers.{moment_read, place_of}
use Rattle.mc_script.specs.Scripts.{◌>>=◌}
use Rattle.mc_pool_script.specs.Commands.{client_command, way_command, link_command}
use Rattle.mc_pool_script.specs.declared.commands.Command.{Command}
use Rattle.mc_pool_script.specs.declared.commands.Command.TheVariants.{Bytes, Gone, Turn, Emit, Takes, ToServer, Serve, ToProxy, Reply, Lost, Back, End, Join, Restart, ProxyRestart, Drain}
use Rattle.mc_pool_script.specs.declared.lines.PoolLine.{PoolLine}
use Rattle.mc_pool_script.specs.declared.lines.PoolLine.TheVariants.{Event, Join as Joins, Learn as Learns, Restart as Restarts, ProxyRestart as ProxyRestarts, Drain as Drains}
use Rattle.mc_world.specs.declared.events.Event.TheVariants.{ClientBytes, ClientGone, ProxyTurn, ToServer as ReachServer, ServerTurn, ToProxy as ReachProxy, ReplyTurn, Emit as PutOut, ClientTakes, LinkLost, LinkBack, ServerSeesEnd}

-- how many bytes: a number, or `all`, which stands for the greatest
abbrev pub count_of : List ℕ → Option ℕ
count_of word = if bytes_eq word (codes "all") then Some (2 ^ 64 - 1) else read_u64 word

-- `bytes <client> <text>`, by the text after the name; so do all definitions that follow
unfoldable pub bytes_line : ℕ → List ℕ → Option PoolLine
bytes_line clients text = do
  words ← cut_at_space text
  client ← place_of clients words.0
  bytes ← text_of words.1
  Some (Event (ClientBytes client bytes))

-- `takes <client> <count>`
unfoldable pub takes_line : ℕ → List ℕ → Option PoolLine
takes_line clients text = do
  words ← cut_at_space text
  client ← place_of clients words.0
  count ← count_of words.1
  Some (Event (ClientTakes client count))

-- the text before the first colon, and the text after it
unfoldable pub cut_at_colon : List ℕ → Option (List ℕ × List ℕ)
cut_at_colon text = option_map (λ end. (take end text, drop (end + 1) text)) (position (λ b. b == 58) text)

-- the words of a link, `<proxy>:<server>`: `<server>` alone is of proxy 0
abbrev pub words_of_link : List ℕ → List ℕ × List ℕ
words_of_link word = unwrap_or (cut_at_colon word) (codes "0", word)

-- a proxy and one of its servers, by how many servers each proxy knows
unfoldable pub link_of : List ℕ → List ℕ → Option (ℕ × ℕ)
link_of known word = do
  proxy ← place_of (length known) (words_of_link word).0
  server ← place_of (slice_index_or known proxy 0) (words_of_link word).1
  Some (proxy, server)

-- `toserver <link> <generation> <count>`
unfoldable pub to_server_line : List ℕ → List ℕ → Option PoolLine
to_server_line known text = do
  words ← cut_at_space text
  rest ← cut_at_space words.1
  link ← link_of known words.0
  generation ← read_u64 rest.0
  count ← count_of rest.1
  Some (Event (ReachServer link.0 link.1 generation count))

-- `serve <link> <generation> <moment>`
unfoldable pub serve_line : List ℕ → List ℕ → Option PoolLine
serve_line known text = do
  words ← cut_at_space text
  rest ← cut_at_space words.1
  link ← link_of known words.0
  generation ← read_u64 rest.0
  moment ← moment_read rest.1
  Some (Event (ServerTurn link.0 link.1 generation moment))

-- `toproxy <link> <count>`
unfoldable pub to_proxy_line : List ℕ → List ℕ → Option PoolLine
to_proxy_line known text = do
  words ← cut_at_space text
  link ← link_of known words.0
  count ← count_of words.1
  Some (Event (ReachProxy link.0 link.1 count))

-- `end <link> <generation>`
unfoldable pub end_line : List ℕ → List ℕ → Option PoolLine
end_line known text = do
  words ← cut_at_space text
  link ← link_of known words.0
  generation ← read_u64 words.1
  Some (Event (ServerSeesEnd link.0 link.1 generation))

-- the address that a text is
abbrev pub address_read : List ℕ → Option (List ℕ)
address_read text = if is_address text then Some text else None

-- a server of this address joins at a proxy that knows all servers, if a ring of these has room for it and does not have it
abbrev pub joins_at : List (List ℕ) → ℕ → List ℕ → Option PoolLine
joins_at servers proxy address = if is_some (refusal_of_more servers address) then None else Some (Joins proxy address)

-- a proxy learns the next server, which has this address
abbrev pub learns_at : List (List ℕ) → ℕ → ℕ → List ℕ → Option PoolLine
learns_at servers next proxy address = if bytes_eq (slice_index_or servers next []) address then Some (Learns proxy address) else None

-- a server of an address joins at a proxy: as a new one if the proxy knows all servers
abbrev pub joining : List (List ℕ) → ℕ → ℕ → List ℕ → Option PoolLine
joining servers next proxy address = if nat_lt next (length servers) then learns_at servers next proxy address else joins_at servers proxy address

-- the words of a join, `<proxy> <address>`: `<address>` alone is of proxy 0
abbrev pub words_of_join : List ℕ → List ℕ × List ℕ
words_of_join text = unwrap_or (cut_at_space text) (codes "0", text)

-- `join <address>`, or `join <proxy> <address>`
unfoldable pub join_line : List (List ℕ) → List ℕ → List ℕ → Option PoolLine
join_line servers known text = do
  proxy ← place_of (length known) (words_of_join text).0
  address ← address_read (words_of_join text).1
  joining servers (slice_index_or known proxy 0) proxy address

-- the line of a command whose words are numbers alone, by the text after its name: `gone <client>`, `turn <client>`,
-- `emit <client>`, `reply <link>`, `lost <link>`, `back <link>`, `restart <server>`, `proxyrestart <proxy>`, `drain <moment>`, and those above
abbrev pub numbers_line : ℕ → ℕ → List ℕ → Command → List ℕ → Option PoolLine
numbers_line clients servers known Gone text = option_map (λ client. Event (ClientGone client)) (place_of clients text)
numbers_line clients servers known Turn text = option_map (λ client. Event (ProxyTurn client)) (place_of clients text)
numbers_line clients servers known Emit text = option_map (λ client. Event (PutOut client)) (place_of clients text)
numbers_line clients servers known Takes text = takes_line clients text
numbers_line clients servers known ToServer text = to_server_line known text
numbers_line clients servers known Serve text = serve_line known text
numbers_line clients servers known ToProxy text = to_proxy_line known text
numbers_line clients servers known Reply text = option_map (λ link. Event (ReplyTurn link.0 link.1)) (link_of known text)
numbers_line clients servers known Lost text = option_map (λ link. Event (LinkLost link.0 link.1)) (link_of known text)
numbers_line clients servers known Back text = option_map (λ link. Event (LinkBack link.0 link.1)) (link_of known text)
numbers_line clients servers known End text = end_line known text
numbers_line clients servers known Restart text = option_map (λ server. Restarts server) (place_of servers text)
numbers_line clients servers known ProxyRestart text = option_map (λ proxy. ProxyRestarts proxy) (place_of (length known) text)
numbers_line clients servers known Drain text = option_map (λ moment. Drains moment) (moment_read text)
numbers_line clients servers known command text = None

-- the line of a command, by the text after its name
abbrev pub line_by : ℕ → List (List ℕ) → List ℕ → Command → List ℕ → Option PoolLine
line_by clients servers known Bytes text = bytes_line clients text
line_by clients servers known Join text = join_line servers known text
line_by clients servers known command text = numbers_line clients (length servers) known command text

-- the command of a name
abbrev pub command_of : List ℕ → Option Command
command_of name = option_or (client_command name) (option_or (way_command name) (link_command name))

-- the meaning of a line, if there are this many clients and these servers, and each proxy knows this many of them
unfoldable pub line_of : ℕ → List (List ℕ) → List ℕ → List ℕ → Option PoolLine
line_of clients servers known line = do
  words ← cut_at_space line
  command ← command_of words.0
  line_by clients servers known command words.1

-- the moment of a line, if it has one
abbrev pub HasMoment : PoolLine → ℕ → Type 0
HasMoment (Event (ServerTurn proxy server generation moment)) most = moment < most
HasMoment (Drains moment) most = moment < most
HasMoment other most = Unit {0}
