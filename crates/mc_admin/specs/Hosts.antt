-- The hosts that a request of HTTP may name.
use Rattle.std.specs.Prelude.{ℕ, ◌==◌, ◌&&◌, ◌||◌, Bool, nat_lt, List, length, codes}
use Rattle.std.specs.List.{before_first}
use Rattle.http1.specs.Text.{eq_ignore_case}
use Rattle.mc_admin.specs.declared.hosts.Hosts.{Hosts}

-- a field Host without its port: the text before the first colon (58)
-- source: RFC 9110, section 7.2
unfoldable pub host_of : List ℕ → List ℕ
host_of value = before_first (λ b. b == 58) value

-- a text is localhost, the host that the listener was given, a name that was given, or the address at which the connection arrived,
-- in any case of letters
abbrev pub are_called : Hosts → List ℕ → Bool
are_called hosts host =
    eq_ignore_case host (codes "localhost") || eq_ignore_case host hosts.listen.now || eq_ignore_case host hosts.name.now
    || eq_ignore_case host hosts.own.now

-- a host is the program's own: a browser that was led here by another site names another host
-- source: this project's own, against DNS rebinding
unfoldable pub is_known : Hosts → List ℕ → Bool
is_known hosts host = nat_lt 0 (length host) && are_called hosts host
