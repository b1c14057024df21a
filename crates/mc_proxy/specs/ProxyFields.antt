-- How a proxy is represented.
use Rattle.std.specs.Prelude.{◌≡◌, [], length}
use Rattle.mc_proxy.specs.declared.proxies.Proxy.TheInside.{Inside}

pub record IsProxy (p : Inside) : Type 0 where
  -- a link for each server
  pub linked : length p.links.items ≡ length p.ring.servers
  -- no command of a turn is left in the queue
  pub emptied : p.queue.items ≡ []
