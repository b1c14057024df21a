use Rattle.std.proofs.Common.{sym}
use Rattle.mc_text.proofs.CodedLemmas.{length-coded_of}
use Rattle.mc_codec.proofs.spelled_words.coded_len.Goals as goal

pub returns-clause-len : goal.returns-clause-len
returns-clause-len c = rw c.as_bytes.ensures.bytes (sym (length-coded_of c.args.key.now))
