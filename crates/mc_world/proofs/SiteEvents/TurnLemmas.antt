-- A server takes a request of a connection on which it serves a proxy: what it appends, and what that shows.
use Rattle.std.proofs.Common.{◌≡◌, ◌∙◌, ℕ, ◌+◌, ◌<◌, ◌≤◌, ◌^◌, Bool, true, false, List, [], ◌∷◌, ◌++◌, length, drop, Option, Some, slice_get, slice_set, refl, sym, ap, subst, arith}
use Rattle.std.specs.Str.{bytes_eq}
use Rattle.std.proofs.lemmas.List.{length-append}
use Rattle.std.proofs.lemmas.Slice.Eq.{bytes_eq-Decides}
use Rattle.std.proofs.lemmas.Option.{none-some, same_Some}
use Rattle.std.proofs.Math.Seq.{drop-append_seam}
use Rattle.mc_request.specs.Faults.{fault_line}
use Rattle.mc_request.specs.declared.faults.Fault.TheVariants.{OutOfMemory}
use Rattle.mc_request_reader.specs.Peeks.{IsFirst}
use Rattle.mc_link.specs.declared.turns.Tag.{Tag}
use Rattle.mc_cache.specs.CacheState.{CacheState}
use Rattle.mc_cache_laws.proofs.GoodStepLemmas.{answers_as_it_can}
use Rattle.mc_server.specs.Served.{answer_after}
use Rattle.mc_server.specs.ServerState.{ConnectionState, ServerState, connection_at, output_of}
use Rattle.mc_server.specs.Turns.{IsTurn, Steps}
use Rattle.mc_server.specs.declared.turns.Turn.TheVariants.{Took}
use Rattle.mc_server.proofs.ConnectionLemmas.{updated_own}
use Rattle.mc_history.specs.declared.entries.Entry.{Entry}
use Rattle.mc_history.proofs.RefusalLemmas.{line_of_told, told_by_line}
use Rattle.mc_world.specs.Happens.{Enters, EntersLate, EntersOn, entry_of_tag}
use Rattle.mc_world.specs.Serving.{IsSpelled, ServesProxy}
use Rattle.mc_world.specs.WorldState.{SiteState, StaleState, way_by, with_way}
use Rattle.mc_world.proofs.SiteEvents.SiteLemmas.{same_end, taking_by}

-- the output of the connection before a step, and after it
pub output_before : (number : ℕ) (old new : ServerState) (Step : CacheState → CacheState → ConnectionState → ConnectionState → Type 0) (steps : Steps number old new Step)
    → output_of (connection_at old number) ≡ steps.before.output
output_before number old new Step steps = ap (λ (c : Option ConnectionState). output_of c) steps.was

pub output_after : (number : ℕ) (old new : ServerState) (Step : CacheState → CacheState → ConnectionState → ConnectionState → Type 0) (steps : Steps number old new Step)
    → output_of (connection_at new number) ≡ steps.after.output
output_after number old new Step steps =
    ap (λ (c : Option ConnectionState). output_of c)
    (ap (λ (cs : List (ℕ × ConnectionState)). connection_at (record new { connections = cs }) number) steps.is
    ∙ updated_own number steps.before steps.after old.connections steps.was)

-- the answer that a turn appends
abbrev pub answer_in : (number moment : ℕ) (old new : ServerState) → Steps number old new (IsTurn number moment Took) → List ℕ
answer_in number moment old new steps = answer_after old.cache (taking_by number steps.step.0 moment steps.step.1.served.0)

-- a turn appends to the output
pub output_grows : (number moment : ℕ) (old new : ServerState) → Steps number old new (IsTurn number moment Took)
    → length (output_of (connection_at old number)) ≤ length (output_of (connection_at new number))
output_grows number moment old new steps =
    let before : length (output_of (connection_at old number)) ≡ length steps.before.output =
    ap (λ (bytes : List ℕ). length bytes) (output_before number old new (IsTurn number moment Took) steps) in
    let after : length (output_of (connection_at new number)) ≡ length (steps.before.output ++ answer_in number moment old new steps) =
    ap (λ (bytes : List ℕ). length bytes) (output_after number old new (IsTurn number moment Took) steps ∙ steps.step.1.served.1.answered) in
    omega (arith, before, after, length-append steps.before.output (answer_in number moment old new steps))

-- two tests that hold in the same cases
same_test : (a b : Bool) → (a ≡ true → b ≡ true) → (b ≡ true → a ≡ true) → a ≡ b
same_test true b to from = sym (to refl)
same_test false true to from = from refl
same_test false false to from = refl

-- a turn of a server that serves a proxy: the appended bytes show whether memory was refused
pub entered : (number moment : ℕ) (tag : Tag) (old new : ServerState) (history : List Entry) (reply : List ℕ) (refused : Bool) → moment < 2 ^ 63 → ServesProxy number old
    → Steps number old new (IsTurn number moment Took) → reply ≡ drop (length (output_of (connection_at old number))) (output_of (connection_at new number))
    → refused ≡ bytes_eq reply (fault_line OutOfMemory)
    → EntersOn number moment tag old new history (history ++ entry_of_tag tag moment refused reply ∷ [])
entered number moment tag old new history reply refused below serves steps reply_is refused_is =
    let answer : List ℕ = answer_in number moment old new steps in
    let is_answer : reply ≡ answer_in number moment old new steps =
    reply_is
    ∙ ap (λ (bytes : List ℕ). drop (length bytes) (output_of (connection_at new number))) (output_before number old new (IsTurn number moment Took) steps)
    ∙ ap (λ (bytes : List ℕ). drop (length steps.before.output) bytes) (output_after number old new (IsTurn number moment Took) steps ∙ steps.step.1.served.1.answered)
    ∙ drop-append_seam steps.before.output (answer_in number moment old new steps) in
    let same = same_end steps.before serves.end (connection_at old number) steps.was serves.is_open in
    let spelled : IsSpelled steps.step.0 = serves.spelled steps.step.0 steps.after.reader
    (subst (λ (c : ConnectionState). IsFirst c.reader steps.step.0 steps.after.reader) same steps.step.1.first) in
    let can = answers_as_it_can old.cache serves.good_cache spelled.0 spelled.2 moment below steps.step.1.served.0 in
    let legal = steps.step.1.served.1.legal in
    let line : bytes_eq reply (fault_line OutOfMemory) ≡ steps.step.1.served.0 =
    same_test (bytes_eq reply (fault_line OutOfMemory)) steps.step.1.served.0
    (λ is. told_by_line old.cache (taking_by number steps.step.0 moment steps.step.1.served.0) spelled.0 spelled.1 spelled.2 can legal
    (sym is_answer ∙ (bytes_eq-Decides reply (fault_line OutOfMemory)).0 is))
    (λ is. (bytes_eq-Decides reply (fault_line OutOfMemory)).1
    (is_answer ∙ line_of_told old.cache (taking_by number steps.step.0 moment steps.step.1.served.0) spelled.0 spelled.1 spelled.2 can legal is)) in
    record {
      steps = steps;
      reply = reply;
      appended = steps.step.1.served.1.answered ∙ ap (λ (bytes : List ℕ). steps.before.output ++ bytes) (sym is_answer);
      history = ap (λ (v : Bool). history ++ entry_of_tag tag moment v reply ∷ []) (refused_is ∙ line);
    }

-- a turn of a proxy's living generation
pub entered_at : (proxy moment : ℕ) (tag : Tag) (old : SiteState) (server : ServerState) (history : List Entry) → EntersOn (way_by old proxy).connection moment tag old.server server old.history history
    → Enters proxy moment tag old
    (record old { server = server; history = history; ways = with_way proxy (record (way_by old proxy) { ahead = (way_by old proxy).ahead + 1 }) old.ways })
entered_at proxy moment tag old server history h = record { on = h; all_else = refl }

-- a turn of a proxy's living generation, with its entry
pub entered_site : (proxy moment : ℕ) (tag : Tag) (old new : SiteState) → (e : Enters proxy moment tag old new) → new ≡ record old {
  server = new.server;
  history = old.history ++ entry_of_tag tag moment e.on.steps.step.1.served.0 e.on.reply ∷ [];
  ways = with_way proxy (record (way_by old proxy) { ahead = (way_by old proxy).ahead + 1 }) old.ways;
}
entered_site proxy moment tag old new e =
    e.all_else
    ∙ ap (λ (es : List Entry). record old { server = new.server; history = es; ways = with_way proxy (record (way_by old proxy) { ahead = (way_by old proxy).ahead + 1 }) old.ways }) e.on.history

-- a turn of a lost generation
first_of : (tags : List Tag) (tag : Tag) → slice_get tags 0 ≡ Some tag → tags ≡ tag ∷ drop 1 tags
first_of [] tag is = absurd (none-some tag is)
first_of (t ∷ ts) tag is = ap (λ (x : Tag). x ∷ ts) (same_Some t tag is)

pub entered_late : (i moment : ℕ) (tag : Tag) (old : SiteState) (server : ServerState) (history : List Entry) (way : StaleState)
    → slice_get old.lost i ≡ Some way
    → slice_get way.untaken 0 ≡ Some tag → EntersOn way.connection moment tag old.server server old.history history
    → EntersLate i moment old (record old { server = server; history = history; lost = slice_set old.lost i (record way { untaken = drop 1 way.untaken }) })
entered_late i moment tag old server history way at next h = record {
  way = way;
  tag = tag;
  tags = drop 1 way.untaken;
  way_at = at;
  untaken = first_of way.untaken tag next;
  on = h;
  all_else = refl;
}

pub late_site : (i moment : ℕ) (old new : SiteState) → (e : EntersLate i moment old new) → new ≡ record old {
  server = new.server;
  history = old.history ++ entry_of_tag e.tag moment e.on.steps.step.1.served.0 e.on.reply ∷ [];
  lost = slice_set old.lost i (record e.way { untaken = e.tags });
}
late_site i moment old new e =
    e.all_else ∙ ap (λ (es : List Entry). record old { server = new.server; history = es; lost = slice_set old.lost i (record e.way { untaken = e.tags }) }) e.on.history

-- what holds of the way at an index
pub said_of_way : (P : StaleState → Type 0) (ways : List StaleState) (i : ℕ) (own : StaleState) → slice_get ways i ≡ Some own → P own → (way : StaleState) → slice_get ways i ≡ Some way → P way
said_of_way P ways i own at holds way also = subst P (same_Some own way (sym at ∙ also)) holds
