use Rattle.mc_request.proofs.command_lines.line_named.Goals as goal

pub returns-in-FlushAll : goal.returns-in-FlushAll
returns-in-FlushAll c = rw c.in-FlushAll.is c.flush_line.ensures
