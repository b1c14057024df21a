-- The order in which a server takes the commands of a client that arrived over a living generation.
use Rattle.std.proofs.Common.{◌≡◌, ◌∙◌, ⊎_elim, ℕ, ◌+◌, ◌-◌, true, List, ◌∷◌, ◌++◌, length, drop, take, Some, slice_get, sym, ap, subst, append_assoc, arith}
use Rattle.std.proofs.lemmas.Bool.{cases_lt}
use Rattle.std.proofs.lemmas.Bool.Decides.{eqb_tells}
use Rattle.std.proofs.lemmas.List.{take-append-drop}
use Rattle.mc_route.specs.Routes.{to_place}
use Rattle.mc_link.specs.LinkState.{LinkState}
use Rattle.mc_link.specs.declared.turns.Tag.{Tag}
use Rattle.mc_cache.specs.CacheState.{CacheState}
use Rattle.mc_account.specs.Lanes.{Lane, sent_on}
use Rattle.mc_account.specs.Lookups.{IsBefore, command_at}
use Rattle.mc_account.specs.Orders.{AreInOrder, Order, Tagged, commands_to, entries_of}
use Rattle.mc_account.proofs.OrderLemmas.{commands-append}
use Rattle.mc_account.proofs.RisingLemmas.{commands_rise, past_front}
use Rattle.mc_account.proofs.TagLemmas.{count_to, tag_once}
use Rattle.mc_account.proofs.ThereLemmas.{command_is_there}
use Rattle.mc_history.specs.Histories.{tag_in}
use Rattle.mc_history.specs.Made.{Made, commands_on, entry_of}
use Rattle.mc_history.specs.Named.{tags_made, tags_of}
use Rattle.mc_history.specs.declared.entries.Entry.{Entry}
use Rattle.mc_history.proofs.OutcomeLemmas.{named_made}
use Rattle.mc_world.specs.Homes.{Homes, of_proxy}
use Rattle.mc_world.specs.Sites.{SiteHolds}
use Rattle.mc_world.specs.WorldState.{SiteState, way_by}
use Rattle.mc_world.proofs.Homes.CommandLemmas.{times_other}
use Rattle.mc_world.proofs.Homes.OrderLemmas.{command_own, numbered_own}
use Rattle.mc_world.proofs.PoolEvents.CommandLemmas.{times-one, times_is_count}
use Rattle.mc_world.proofs.Log.EntryLemmas.{got_map, got_mapped}
use Rattle.mc_world.proofs.SiteEvents.SiteLemmas.{at_place}

-- the command of which an entry of a history was made
pub record IsMadeOf (place : ℕ) (order : Order) (made : List Made) (j : ℕ) (d : Entry) : Type 0 where
  pub m : Made
  pub at : slice_get made j ≡ Some m
  pub tag : m.command.1 ≡ tag_in d
  pub named : command_at order m.command.1 ≡ Some (to_place place m.command.0)

made_of_entry : (home : Homes) (place : ℕ) (order : Order) (lanes : ℕ → Lane) (links : ℕ → LinkState) (opening : CacheState) (site : SiteState)
    (h : SiteHolds home place order lanes links opening site) (j : ℕ) (d : Entry) → slice_get site.history j ≡ Some d → IsMadeOf place order (h.past ++ h.made) j d
made_of_entry home place order lanes links opening site h j d at =
    let m = got_mapped entry_of (h.past ++ h.made) j d (ap (λ (es : List Entry). slice_get es j) (sym h.history) ∙ at) in
    record {
      m = m.0;
      at = m.1;
      tag = ap (λ (e : Entry). tag_in e) m.2;
      named = named_made place order (h.past ++ h.made) j m.0 h.named m.1;
    }

-- the commands to a place: those sent before its living generation came up, those of it that the server took, and the others
pub commands_split : (place : ℕ) (order : Order) (lane : Lane) (made others : List Tagged) → sent_on place order lane ≡ made ++ others
    → commands_to place order ≡ (commands_to place (take lane.since order) ++ made) ++ others
commands_split place order lane made others is =
    ap (λ (es : Order). commands_to place es) (sym (take-append-drop lane.since order)) ∙ commands-append place (take lane.since order) (drop lane.since order)
    ∙ ap (λ (cs : List Tagged). commands_to place (take lane.since order) ++ cs) is
    ∙ sym (append_assoc (commands_to place (take lane.since order)) made others)

-- a command of the requests that a proxy took is of one of its clients
pub command_of_proxy : (home : Homes) (proxy place : ℕ) (order : Order) (i : ℕ) (command : Tagged) → slice_get (commands_to place (of_proxy home proxy order)) i ≡ Some command
    → home command.1.session ≡ proxy
command_of_proxy home proxy place order i command at = ⊎_elim
    (λ own. own.1)
    (λ other.
    let one = times-one command.1 (tags_of (commands_to place (of_proxy home proxy order))) i (got_map (λ (c : Tagged). c.1) (commands_to place (of_proxy home proxy order)) i command at) in
    let none = times_other home proxy place order command.1 other.1 in
    absurd (omega (arith, one, none)))
    (eqb_tells (home command.1.session) proxy)

-- a command that was made is not among those that the server has not taken
made_or_not : (home : Homes) (proxy place : ℕ) (order : Order) (lanes : ℕ → Lane) (links : ℕ → LinkState) (opening : CacheState) (site : SiteState) (up : (links proxy).up ≡ true)
    (h : SiteHolds home place order lanes links opening site) → ((number : ℕ) → AreInOrder (entries_of number order)) → (j k : ℕ) (m : Made)
    → slice_get (h.past ++ h.made) j ≡ Some m → slice_get (h.living proxy up).others k ≡ Some m.command → ⊥
made_or_not home proxy place order lanes links opening site up h numbered j k m made other =
    let living = h.living proxy up in
    let first = times-one m.command.1 (tags_made (h.past ++ h.made)) j (got_map (λ (x : Made). x.command.1) (h.past ++ h.made) j m made) in
    let second = times-one m.command.1 (tags_of living.others) k (got_map (λ (c : Tagged). c.1) living.others k m.command other) in
    let few = count_to m.command.1 place order in
    let one = tag_once m.command.1 order (numbered m.command.1.session) in
    let counted = times_is_count m.command.1 (commands_to place order) in
    let once = living.once m.command.1 in
    omega (arith, first, second, few, one, counted, once)

-- a command of a client that the server took was sent before the one that it takes next
pub made_before : (home : Homes) (proxy place : ℕ) (order : Order) (lanes : ℕ → Lane) (links : ℕ → LinkState) (opening : CacheState) (site : SiteState) (up : (links proxy).up ≡ true)
    (h : SiteHolds home place order lanes links opening site) → ((number : ℕ) → AreInOrder (entries_of number order)) → (command : Tagged) (after : List Tagged)
    → (h.living proxy up).others ≡ command ∷ after → (j : ℕ) (d : Entry) → slice_get site.history j ≡ Some d → d.client ≡ command.1.session → IsBefore (tag_in d) command.1
made_before home proxy place order lanes links opening site up h numbered command after is j d at same =
    let living = h.living proxy up in
    let mine : Order = of_proxy home proxy order in
    let since : ℕ = (lanes proxy).since in
    let own = numbered_own home proxy order numbered in
    let front : List Tagged = commands_to place (take since mine) ++ commands_on (way_by site proxy).connection h.made in
    let whole : commands_to place mine ≡ front ++ living.others =
    commands_split place mine (lanes proxy) (commands_on (way_by site proxy).connection h.made) living.others living.commands in
    let from = made_of_entry home place order lanes links opening site h j d at in
    let next : slice_get (commands_to place mine) (length front) ≡ Some command =
    ap (λ (cs : List Tagged). slice_get cs (length front)) (whole ∙ ap (λ (cs : List Tagged). front ++ cs) is)
    ∙ at_place front after command (length front) (omega arith) in
    let whose : from.m.command.1.session ≡ command.1.session = ap (λ (t : Tag). t.session) from.tag ∙ same in
    let through : home from.m.command.1.session ≡ proxy = ap (λ (n : ℕ). home n) whose ∙ command_of_proxy home proxy place order (length front) command next in
    let there = command_is_there place mine own from.m.command.1 from.m.command.0 (command_own home proxy order from.m.command.1 through ∙ from.named) in
    ⊎_elim
    (λ early.
    subst (λ (t : Tag). IsBefore t command.1) from.tag
    (commands_rise place mine own there.0 (length front) from.m.command command there.1 next early whose))
    (λ late.
    let number : there.0 ≡ length front + (there.0 - length front) = omega (arith, late) in
    let other : slice_get living.others (there.0 - length front) ≡ Some from.m.command =
    sym (past_front front living.others (there.0 - length front) there.0 number)
    ∙ ap (λ (cs : List Tagged). slice_get cs there.0) (sym whole) ∙ there.1 in
    absurd (made_or_not home proxy place order lanes links opening site up h numbered j (there.0 - length front) from.m from.at other))
    (cases_lt there.0 (length front))
