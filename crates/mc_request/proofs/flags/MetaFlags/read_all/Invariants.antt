use Rattle.std.proofs.Common.{◌≡◌}
use Rattle.mc_request.specs.Flags.{flags_from}
use Rattle.mc_request.proofs.flags.MetaFlags.read_all.Given as goal

abbrev pub invariant-loop-word : goal.invariant-loop-word
invariant-loop-word l = flags_from l.fn.name l.self l.word-iterator ≡ flags_from l.fn.name l.fn.self l.fn.words
