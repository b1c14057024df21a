-- What a server answers before commands are sent to it: this project's own, over protocol.txt's command `version`.
use Rattle.std.specs.Prelude.{ℕ, ◌==◌, ◌&&◌, ◌+◌, nat_le, nat_lt, Bool, List, codes, length, Result, Ok, Err, if◌then◌else◌}
use Rattle.mc_text.specs.Forms.{text_at}
use Rattle.mc_text.specs.Lines.{FirstLine, Whole, TooLong, Partial, first_line}
use Rattle.mc_text.specs.declared.unready.Unready.{Unready}
use Rattle.mc_text.specs.declared.unready.Unready.TheVariants as unready
use Rattle.mc_proxyd.specs.declared.limits.TheConstants.{PROBE_LIMIT}
use Rattle.mc_proxyd.specs.declared.probes.ProbeAnswer.{ProbeAnswer}
use Rattle.mc_proxyd.specs.declared.probes.ProbeAnswer.TheVariants as probes

-- a line is all of the bytes, it ends in CR LF, and it has 128 bytes at most
abbrev pub is_all : (count content taken : ℕ) → Bool
is_all count content taken = taken == count && (nat_le taken PROBE_LIMIT && (content + 2 == taken))

-- The line of an answer is whole if it is all of the bytes. It is partial if it has no line feed yet and fewer than 128 bytes. Anything else is
-- strange.
abbrev pub line_by : ℕ → FirstLine → ProbeAnswer
line_by count (Whole content taken) = if is_all count (length content) taken then probes.Whole else probes.Strange
line_by count Partial = if nat_lt count PROBE_LIMIT then probes.Partial else probes.Strange
line_by count TooLong = probes.Strange

-- after the text `VERSION ` the line decides; a part of that text is partial, and another one strange
abbrev pub answer_after : List ℕ → Result (List ℕ) Unready → ProbeAnswer
answer_after said (Ok rest) = line_by (length said) (first_line said)
answer_after said (Err (unready.More wanted)) = probes.Partial
answer_after said (Err unready.Strange) = probes.Strange

-- what bytes are of a server's answer to `version`
-- source: protocol.txt, "version": `VERSION <version>\r\n`
abbrev pub answer_by : List ℕ → ProbeAnswer
answer_by said = answer_after said (text_at (codes "VERSION ") said)
