use Rattle.std.proofs.Common.{◌==◌, true, false, if◌then◌else◌, [], ◌∷◌, codes, refl}
use Rattle.std.specs.Fmt.{digits}
use Rattle.mc_cache.specs.CacheState.{opening_cache}
use Rattle.mc_cache_laws.specs.Pools.{ArePlainSteps}
use Rattle.mc_account.specs.Lookups.{command_at}
use Rattle.mc_pool_laws.specs.Executions.{commands_of}
use Rattle.mc_pool_laws.specs.MergeExamples.{entry_of, one_history, set_and_get}
use Rattle.mc_pool_laws.proofs.one_map_examples.a_set_and_a_get_are_plain.Goals as goal

both : ArePlainSteps (opening_cache 1000 2 0) (commands_of (command_at set_and_get) (one_history 0))
both = (record { of_map = refl; answered = refl; kept = refl }, (record { of_map = refl; answered = refl; kept = refl }, tt))

pub returns-clause-plain : goal.returns-clause-plain
returns-clause-plain c = record {
  unjoined = refl;
  alive = λ place. refl;
  plain = λ place.
      elim (place == 0) as (λ v. ArePlainSteps (opening_cache 1000 2 0) (commands_of (command_at set_and_get)
      (if v then entry_of 7 0 5 (codes "STORED\r\n") ∷ entry_of 8 0 6 (codes "VALUE k 0 1\r\nv\r\nEND\r\n") ∷ [] else []))) [
        | true ↦ both
        | false ↦ tt
      ];
}

pub returns-clause-told : goal.returns-clause-told
unfolding digits
returns-clause-told c = refl
