use Rattle.std.proofs.Common.{◌∙◌}
use Rattle.mc_script.proofs.EscapeLemmas.{at_backslash, no_escape, reads_escape}
use Rattle.mc_script.proofs.escapes.read_front.Goals as goal

pub returns-in_default-byte_of_escape-clause-read : goal.returns-in_default-byte_of_escape-clause-read
returns-in_default-byte_of_escape-clause-read c =
    let rest = c.in_ok-rest.rest.now in
    let here = at_backslash rest c.in-len1-up.len_at_least c.in_ok-rest.ensures.over in
    no_escape c.args.bytes.now.items c.args.text.now c.read_run.new.bytes.items rest c.in_ok-rest.ensures.read (here ∙ c.in_default-byte_of_escape.ensures.byte)

pub returns-clause-read : goal.returns-clause-read
returns-clause-read c =
    let rest = c.in_ok-rest.rest.now in
    let here = at_backslash rest c.in-len1-up.len_at_least c.in_ok-rest.ensures.over in
    rw c.in_ok-push.ensures.items
    (reads_escape c.args.bytes.now.items c.args.text.now c.read_run.new.bytes.items rest c.in-Some.byte c.in-Some.after.now c.in_ok-rest.ensures.read
    (here ∙ c.in-Some.ensures.byte))
