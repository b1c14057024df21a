-- How many files a proxy has open beside its clients: this project's own.
use Rattle.std.specs.Prelude.{ℕ, ◌+◌, ◌*◌, Bool, if◌then◌else◌}
use Rattle.mc_proxyd.specs.declared.limits.TheConstants.{LISTING_FILES, LOOKUP_FILES, WAKING_FILES}
use Rattle.mc_ring.specs.declared.rings.TheConstants.{SERVER_LIMIT}
use Rattle.mc_program.specs.declared.descriptors.TheConstants.{OWN_FILES}

-- The sockets of a server: one of its link, or those of its look-up, after which its link begins. If a file lists the servers, the look-up of
-- an old address may go on beside the link to the new one.
abbrev pub files_of_each : (listed named : Bool) → ℕ
files_of_each listed named = if listed then 1 + LOOKUP_FILES else (if named then LOOKUP_FILES else 1)

-- how many servers there may be: the present ones, and the one that joins, if one does; or the most of a ring, if a file lists them
abbrev pub most_servers : ℕ → (joins listed : Bool) → ℕ
most_servers servers joins listed = if listed then SERVER_LIMIT else (servers + (if joins then 1 else 0))

-- its own, the one by which look-ups wake it, if a server may have a host's name, the file, if one lists the servers, and those of the servers
abbrev pub files_beside : ℕ → (joins listed named : Bool) → ℕ
files_beside servers joins listed named =
    OWN_FILES + (if named then WAKING_FILES else 0) + (if listed then LISTING_FILES else 0)
    + most_servers servers joins listed * files_of_each listed named
