use Rattle.mc_request.specs.Parts.{meta_said}
use Rattle.mc_server.proofs.MetaLemmas.{good_meta_key}
use Rattle.mc_server.proofs.answering.room_for.Goals as goal

pub enough_for_value-requires : goal.enough_for_value-requires
enough_for_value-requires g c = good_meta_key (meta_said c.in-Meta.form.coded c.in-Meta.command) c.in-Meta.form (rw c.in-Meta.is at c.requires)
