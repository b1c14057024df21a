use Rattle.std.proofs.Common.{rules, ◌≡◌, ◌∙◌, length, refl, subst, arith}
use Rattle.std.proofs.lemmas.List.{get_or_default, get_or_read_under}
use Rattle.mc_world.specs.Happens.{Does}
use Rattle.mc_world.specs.Pools.{HearsClient}
use Rattle.mc_world.specs.Worlds.{client_at, nobody}
use Rattle.mc_world.specs.declared.errors.Step.{Step}
use Rattle.mc_world.specs.declared.errors.Step.TheVariants.{Done}
use Rattle.mc_world.proofs.Course.CourseLemmas.{with_text}
use Rattle.mc_world.proofs.courses.Course.hear.Goals as goal

-- the session and the client's text have the piece
pub returns-clause-happens : goal.returns-clause-happens
returns-clause-happens g c =
    let told : Does Done (HearsClient c.args.number c.args.bytes.now c.self.inside.pool c.hear.new.self) (c.hear.new.self ≡ c.self.inside.pool) =
    subst (λ (s : Step). Does s (HearsClient c.args.number c.args.bytes.now c.self.inside.pool c.hear.new.self) (c.hear.new.self ≡ c.self.inside.pool)) c.in-Done.is c.in_ok-hear.ensures.hears in
    let inside = c.in-Some.ensures.variant.0 refl in
    let kept = c.self.inside.clients.ok in
    let here : c.in-Some.client.now ≡ client_at c.self.inside.clients.items c.args.number =
    get_or_read_under c.self.inside.clients.items c.args.number (length c.self.inside.clients.items) c.in-Some.client.now nobody (search rules) (omega (arith, inside, kept)) refl in
    rw (← c.self.view_is) (record {
      pool = (λ k d below. let fits = c.type_inv.bytes k in let same = get_or_default c.args.bytes.now k d 0 below in omega (arith, fits, same), told);
      clients = with_text c.self.inside.clients.items c.args.number c.extend_from_slice.new.self.items c.client.inside.text.items c.client.inside.taken.items c.args.bytes.now (search rules)
          (c.client.view_is ∙ here);
      log = refl;
    })
