use Rattle.std.proofs.Common.{arith}
use Rattle.mc_reply.proofs.MetaLemmas.{word_of-said}
use Rattle.mc_reply.proofs.answers.write_meta.Goals as goal

pub write_meta_by-requires-clause-word : goal.write_meta_by-requires-clause-word
write_meta_by-requires-clause-word c = (word_of-said c.args.form.now.coded c.args.word.now (λ i. let fits = c.type_inv.word i in omega arith) c.requires.key).1

pub returns-clause-ok : goal.returns-clause-ok
returns-clause-ok c =
    let word = (word_of-said c.args.form.now.coded c.args.word.now (λ i. let fits = c.type_inv.word i in omega arith) c.requires.key).0 in
    rw (word, ← c.again.ensures) c.write_meta_by.ensures.ok
