use Rattle.std.proofs.Common.{List, ℕ, ap}
use Rattle.lru.specs.LruCache.{LruCache}
use Rattle.mc_store.specs.declared.epoch_entries.EpochEntry.{EpochEntry}
use Rattle.mc_store.proofs.LruLemmas.{pops_last, pops_nothing}
use Rattle.mc_store.proofs.lru_recent.LruCacheKeyEpochEntryRecent.pop_lru.Goals as goal

pub returns-clause-last : goal.returns-clause-last
returns-clause-last g c = pops_last _ _ _ c.pop_lru.ensures.value (ap (λ (l : LruCache (List ℕ) EpochEntry). l.entries) c.pop_lru.ensures.entries)

pub returns-clause-empty : goal.returns-clause-empty
returns-clause-empty g c = pops_nothing _ _ _ c.pop_lru.ensures.value (ap (λ (l : LruCache (List ℕ) EpochEntry). l.entries) c.pop_lru.ensures.entries)
