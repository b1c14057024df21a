-- What is in a store of either kind. Source: this project's own.
use Rattle.mc_store.specs.Items.{LimitedItems}
use Rattle.mc_serverd.specs.declared.chosen.ChosenStore.{ChosenStore}
use Rattle.mc_serverd.specs.declared.chosen.ChosenStore.TheVariants.{Lru, Table}

-- the items of a store, and how many it may have
abbrev pub held_by : ChosenStore → LimitedItems
held_by (Table store) = store
held_by (Lru store) = store
