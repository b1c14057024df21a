-- The list of connected clients.
use Rattle.std.specs.Prelude.{ℕ, List, [], ◌++◌, codes, decimal, string_bytes, Option, Some, None}
use Rattle.std.specs.List.{flat_map}
use Rattle.mc_admin.specs.Pages.{end_line}
use Rattle.mc_admin.specs.declared.conns.Conn.{Conn}
use Rattle.mc_admin.specs.declared.conns.Part.{Part}

-- a line of a client at a place
-- source: memcached's protocol.txt, "Connection statistics"
abbrev pub conn_line : ℕ → List ℕ → List ℕ → List ℕ
conn_line place name value = (codes "STAT " ++ decimal place ++ codes ":" ++ name ++ codes " ") ++ value ++ codes "\r\n"

-- a line of a client, with an address
-- source: the same
abbrev pub address_line : ℕ → List ℕ → List ℕ → List ℕ
address_line place name address = conn_line place name (codes "tcp:" ++ address)

-- the lines of a client
-- source: the same; its age and its bytes are this project's own
unfoldable pub conn_lines : Conn → List ℕ
conn_lines c =
    address_line c.place (codes "addr") (string_bytes c.peer) ++ address_line c.place (codes "listen_addr") (string_bytes c.own)
    ++ conn_line c.place (codes "state") c.state.now ++ conn_line c.place (codes "secs_since_last_cmd") (decimal c.quiet)
    ++ conn_line c.place (codes "age") (decimal c.age) ++ conn_line c.place (codes "bytes_read") (decimal c.read)
    ++ conn_line c.place (codes "bytes_written") (decimal c.written)

-- the end of a part: the end of the list after the last one
abbrev pub part_end : Option ℕ → List ℕ
part_end None = end_line
part_end (Some place) = []

-- the text of a part of the list: empty while the part is missing
abbrev pub part_text : Option Part → List ℕ
part_text None = []
part_text (Some part) = flat_map conn_lines part.conns.now ++ part_end part.next
