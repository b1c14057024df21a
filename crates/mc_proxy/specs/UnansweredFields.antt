-- What is counted of a request that was taken and is not answered.
use Rattle.std.specs.Prelude.{◌≡◌, ◌-◌, ◌^◌, min}
use Rattle.mc_proxy.specs.Emits.{awaited_in}
use Rattle.mc_proxy.specs.Held.{keys_len_of, kept_by_all}
use Rattle.mc_proxy.specs.declared.unanswered.Unanswered.TheInside.{Inside}

pub record IsCounted (u : Inside) : Type 0 where
  pub awaited : u.awaited ≡ awaited_in u.outcomes.items
  pub keys : u.keys ≡ min (keys_len_of u.what) (2 ^ 64 - 1)
  pub kept : u.kept ≡ min (kept_by_all u.outcomes.items) (2 ^ 64 - 1)
