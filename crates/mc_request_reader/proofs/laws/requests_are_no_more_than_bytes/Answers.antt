use Rattle.mc_request_reader.proofs.CountLemmas.{no_more_than_bytes}
use Rattle.mc_request_reader.proofs.laws.requests_are_no_more_than_bytes.Goals as goal

pub returns : goal.returns
returns c = no_more_than_bytes
