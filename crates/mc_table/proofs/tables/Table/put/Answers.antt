use Rattle.std.proofs.Common.{◌∙◌, sym}
use Rattle.mc_table.proofs.TableLemmas.{put_held, put_new}
use Rattle.mc_table.proofs.tables.Table.put.Goals as goal

pub returns-in-Some-clause-entries : goal.returns-in-Some-clause-entries
returns-in-Some-clause-entries g c =
    rw c.replace.ensures.after (put_held g.K.PartialEq.eq c.args.self.now c.args.k c.args.v _ c.in-Some.ensures.value)

pub returns-clause-entries : goal.returns-clause-entries
returns-clause-entries g c =
    c.in_ok-put_front.ensures.ok ∙ sym (put_new g.K.PartialEq.eq c.args.self.now c.args.k c.args.v c.in_default.ensures.value)
