-- Which protocol a connection speaks, by its first bytes. The openings are this project's own choice.
use Rattle.std.specs.Prelude.{ℕ, ◌==◌, List, [], ◌∷◌, Result, Ok, Err, codes, if◌then◌else◌}
use Rattle.mc_text.specs.Forms.{text_at, or_else, ◌>>=◌}
use Rattle.mc_text.specs.declared.unready.Unready.{Unready}
use Rattle.mc_text.specs.declared.unready.Unready.TheVariants.{More, Strange}
use Rattle.mc_net.specs.declared.openings.Stranger.TheVariants.{Http, Binary, Tls}
use Rattle.mc_net.specs.declared.openings.Opening.{Opening}
use Rattle.mc_net.specs.declared.openings.Opening.TheVariants.{Unsettled, Text, Strange as AStranger}

-- the bytes after a method of HTTP and a space
-- source: RFC 9110, section 9, and RFC 5789 for PATCH
abbrev pub method_at : List ℕ → Result (List ℕ) Unready
method_at bytes =
    or_else (text_at (codes "GET ") bytes) (or_else (text_at (codes "POST ") bytes) (or_else (text_at (codes "PUT ") bytes)
    (or_else (text_at (codes "HEAD ") bytes) (or_else (text_at (codes "DELETE ") bytes) (or_else (text_at (codes "PATCH ") bytes)
    (text_at (codes "OPTIONS ") bytes))))))

-- the bytes after the beginning of a target: of a path, or of an address in full
-- source: RFC 9112, section 3.2
abbrev pub target_at : List ℕ → Result (List ℕ) Unready
target_at bytes = or_else (text_at (codes "/") bytes) (text_at (codes "http") bytes)

-- the bytes after a method and the beginning of a target
abbrev pub request_at : List ℕ → Result (List ℕ) Unready
request_at bytes = method_at bytes >>= target_at

-- the bytes after the beginning of a request of HTTP; `OPTIONS` may have the target `*`
abbrev pub http_at : List ℕ → Result (List ℕ) Unready
http_at bytes = or_else (text_at (codes "OPTIONS *") bytes) (request_at bytes)

-- what the bytes are if they begin a request of HTTP, may begin one, or begin none
abbrev pub opening_by : Result (List ℕ) Unready → Opening
opening_by (Ok rest) = AStranger Http
opening_by (Err (More wanted)) = Unsettled
opening_by (Err Strange) = Text

-- The byte 0x80 begins the binary protocol, and 0x16 a greeting of TLS; for other bytes HTTP decides.
-- source: memcached's doc/protocol-binary.xml, and RFC 8446, section 5.1
unfoldable pub opening_of : List ℕ → Opening
opening_of [] = Unsettled
opening_of (byte ∷ rest) =
    if byte == 128 then AStranger Binary
    else if byte == 22 then AStranger Tls
    else opening_by (http_at (byte ∷ rest))
