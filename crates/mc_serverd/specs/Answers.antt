-- The limit of an answer. Source: this project's own.
use Rattle.std.specs.Prelude.{ℕ, ◌-◌, min}
use Rattle.mc_serverd.specs.declared.settings.TheConstants.{REQUEST_ROOM}

-- the most bytes that an answer may have: no more than the operator allows, and no more than there can be room for beside its request
abbrev pub answer_within : (answer buffers : ℕ) → ℕ
answer_within answer buffers = min answer (buffers - REQUEST_ROOM)
