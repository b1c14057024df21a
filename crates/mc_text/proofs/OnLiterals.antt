-- What a worked example unfolds to compute the keys that words say in base64.
use Rattle.std.specs.Prelude.{⊤}
use Rattle.base64.proofs.OnLiterals.{base64_on_literals}
use Rattle.mc_text.specs.CodedKeys.{coded_of, bytes_of_base64, coded_key}

unfoldable pub coded_on_literals : ⊤
unfolding coded_of bytes_of_base64 coded_key base64_on_literals
coded_on_literals = tt
