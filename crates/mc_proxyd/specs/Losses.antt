-- The choice for lost commands by the word of `--lost`. Source: this project's own.
use Rattle.std.specs.Prelude.{ℕ, List, codes, if◌then◌else◌}
use Rattle.std.specs.Str.{bytes_eq}
use Rattle.mc_route.specs.declared.losses.Losses.{Losses}
use Rattle.mc_route.specs.declared.losses.Losses.TheVariants.{Told, Missed}

-- the choice of a word, and `told` of any other
abbrev pub losses_named : List ℕ → Losses
losses_named word = if bytes_eq word (codes "missed") then Missed else Told
