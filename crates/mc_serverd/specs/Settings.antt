-- The settings that a server shows to operators, each by a name and a value.
-- source: memcached's protocol.txt, "Settings statistics", of the names that it has; of the others this project's own
use Rattle.std.specs.Prelude.{ℕ, List, [], ◌∷◌, codes, decimal}
use Rattle.mc_admin.specs.Pages.{value_text}
use Rattle.mc_admin.specs.declared.figures.Setting.{Setting}
use Rattle.mc_server.specs.declared.servers.TheConstants.{MAX_CONNECTIONS}
use Rattle.mc_text.specs.declared.blocks.TheConstants.{VALUE_LIMIT}
use Rattle.mc_serverd.specs.declared.cas_from.CasFrom.{CasFrom}
use Rattle.mc_serverd.specs.declared.cas_from.CasFrom.TheVariants.{Last, Now}
use Rattle.mc_serverd.specs.declared.kinds.StoreKind.{StoreKind}
use Rattle.mc_serverd.specs.declared.kinds.StoreKind.TheVariants.{Lru, Table}
use Rattle.mc_serverd.specs.declared.settings.Settings.{Settings}

-- a setting as it is shown
abbrev pub shown : Setting → List ℕ × List ℕ
shown s = (s.name.now, value_text s.value)

-- the name of a kind of stores
abbrev pub store_word : StoreKind → List ℕ
store_word Table = codes "table"
store_word Lru = codes "lru"

-- the value of `--cas-from`: `now`, or a number
abbrev pub cas_from_word : CasFrom → List ℕ
cas_from_word (Last number) = decimal number
cas_from_word Now = codes "now"

-- the settings of a server
unfoldable pub settings_shown : Settings → List (List ℕ × List ℕ)
settings_shown s =
    (codes "maxbytes", decimal s.budget) ∷ (codes "maxconns", decimal MAX_CONNECTIONS) ∷ (codes "num_threads", decimal 1)
    ∷ (codes "item_size_max", decimal VALUE_LIMIT) ∷ (codes "evictions", codes "on") ∷ (codes "cas_enabled", codes "yes")
    ∷ (codes "idle_timeout", decimal s.service.terms.idle) ∷ (codes "items", decimal s.items) ∷ (codes "store", store_word s.kind)
    ∷ (codes "cas_from", cas_from_word s.cas_from) ∷ (codes "answer", decimal s.service.answer)
    ∷ (codes "buffers", decimal s.service.buffers)
    ∷ (codes "report", decimal s.service.terms.report) ∷ (codes "memory_exit", decimal s.service.memory_exit)
    ∷ (codes "reserve", decimal s.service.reserve) ∷ []
