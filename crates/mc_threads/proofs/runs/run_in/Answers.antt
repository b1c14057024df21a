use Rattle.std.proofs.Common.{rules, inr, ◌≡◌, ◌∙◌, ℕ, ◌<◌, List, [], Result, Ok, Err, IfErr, arith, get_or, length, map, refl, vec_len, sym, ap, subst}
use Rattle.std.proofs.lemmas.Option.{get_or_from_slice_get, slice_get_within}
use Rattle.mc_cache.specs.CacheState.{opening_cache}
use Rattle.mc_cache_laws.proofs.GoodStepLemmas.{opening_is_good}
use Rattle.mc_threads.specs.Accounts.{at, outs_of, texts_of}
use Rattle.mc_threads.specs.Starts.{Each2, IsOf}
use Rattle.mc_threads.specs.Links.{SameEnds}
use Rattle.mc_threads.specs.Talks.{HasEnded, came_from, went_to}
use Rattle.mc_threads.specs.Workers.{IsWorked}
use Rattle.mc_threads.specs.Causes.{EndsRun}
use Rattle.mc_threads.specs.declared.errors.Ended.{Ended}
use Rattle.mc_threads.specs.declared.errors.Ended.TheVariants.{GateShut}
use Rattle.mc_threads.specs.declared.worker.Bounds.{Bounds}
use Rattle.rtrb.specs.Ring.{received, sent}
use Rattle.mc_threads.proofs.AtLemmas.{some_at}
use Rattle.mc_threads.proofs.JoinLemmas.{fresh_ends, let_at, refused_at, worked_at}
use Rattle.mc_threads.proofs.LeastLemmas.{least_ends, other_ends, went_well}
use Rattle.mc_threads.proofs.ListLemmas.{still_ends, still_of}
use Rattle.mc_threads.proofs.CompleteLemmas.{completes}
use Rattle.mc_threads.proofs.TalkLemmas.{talks_as}
use Rattle.mc_threads.proofs.runs.run_in.Goals as goal

pub settle_all-requires-clause-rings : goal.settle_all-requires-clause-rings
settle_all-requires-clause-rings g c server done e is =
    let results = c.join_all-2.new.results.items in
    let children = c.start_all-started.new.children.items in
    let size : length c.join_all-2.new.results.items ≡ vec_len c.join_all-2.new.results = search rules in
    let inside = slice_get_within results server (Ok done) is in
    let low : server < vec_len c.start_all-started.new.children = omega (arith, inside, size, c.join_all-2.ensures.len) in
    let k = (c.join_all-2.ensures.joined server (Ok done) low).1 in
    let kept = rw (get_or_from_slice_get results server (Ok done) (Ok done) is) at k.kept in
    let still : Each2 SameEnds (vec_len c.start_all-started.new.all) c.start_all-started.new.all.items c.talk-own.new.ends.items =
    went_well c.talk-own.result results _ c.in_ok-join_all-2.ensures.least c.talk-own.ensures.rings in
    let rings = still_of (λ h. h.promise) _ _ _ (vec_len c.start_all-started.new.children) (λ i x y lt. c.in_default.ensures.rings i x y (omega (arith, lt, c.in_default.ensures.lens.1)))
    (λ i x y lt. still i x y (omega (arith, lt, c.in_default.ensures.lens.0, c.in_default.ensures.lens.1))) in
    let own : IsOf (get_or c.talk-own.new.ends.items server e) k.handle.promise =
    subst (λ h. IsOf (get_or c.talk-own.new.ends.items server e) h.promise) (sym k.handle_is) (rings server e k.handle low) in
    still_ends (get_or c.talk-own.new.ends.items server e) k.handle.promise done own kept.0 kept.1

pub returns-clause-let_in : goal.returns-clause-let_in
returns-clause-let_in g c server low =
    let results = c.join_all-2.new.results.items in
    let clocks : length c.args.clocks.items ≡ vec_len c.args.clocks = search rules in
    let lens = c.in_default.ensures.lens in
    let below : server < vec_len c.join_all-2.new.results = omega (arith, low, lens.1, c.join_all-2.ensures.len) in
    let s = c.in_ok-clocks.ensures.settled server below in
    let k = (c.join_all-2.ensures.joined server (Ok s.done) (omega (arith, low, lens.1))).1 in
    let kept = rw (get_or_from_slice_get results server (Ok s.done) (Ok s.done) s.ended) at k.kept in
    let_at (λ h. h.promise) g.C.Clock.times g.G.Gate.lets g.G.Gate.knows c.args.gate.now (vec_len c.args.clocks) server c.start_all-started.new.children.items c.args.clocks.items k.handle _ (g.C.Clock.times s.done.clock)
    (omega (arith, clocks)) k.handle_is c.in_default.ensures.gates c.in_default.ensures.clocks low s.clock kept.3

pub returns-clause-account : goal.returns-clause-account
returns-clause-account g c =
    let ring = c.args.config.now.ring in
    let clients : ℕ = length c.args.inputs.now in
    let texts = texts_of c.args.inputs.now in
    let outputs = c.in_ok-outputs.outputs.items in
    let results = c.join_all-2.new.results.items in
    let began = c.start_all-started.new.all.items in
    let ends = c.talk-own.new.ends.items in
    let servers : vec_len c.args.clocks ≡ length c.args.config.now.ring.servers = c.requires.clocks in
    let lens = c.in_default.ensures.lens in
    let many : length c.start_all-started.new.all.items ≡ vec_len c.start_all-started.new.all = search rules in
    let handles : length c.start_all-started.new.children.items ≡ vec_len c.start_all-started.new.children = search rules in
    let clocks : length c.args.clocks.items ≡ vec_len c.args.clocks = search rules in
    let several : length c.in_ok-outputs.outputs.items ≡ vec_len c.in_ok-outputs.outputs = search rules in
    let fresh = fresh_ends c.start_all-started.new.all.items c.start_all-started.new.children.items (vec_len c.args.clocks) (many ∙ lens.0) (omega (arith, handles, lens.1)) c.in_default.ensures.fresh in
    let talks = talks_as ring clients texts texts (λ _. []) (outs_of outputs) (λ _. []) (went_to began) (λ _. []) (came_from began) c.in_ok-proxy.proxy
    (λ n. refl) (λ n. sym (c.in_ok-outputs.ensures.empty n)) (λ n. sym (fresh n).0) (λ n. sym (fresh n).1) c.in_ok-proxy.ensures in
    let talked : HasEnded c.in_ok-outputs.outputs.items c.talk-own.new.outputs.items c.start_all-started.new.all.items c.talk-own.new.ends.items c.in_ok-proxy.proxy c.talk-own.new.proxy =
    went_well c.talk-own.result results _ c.in_ok-join_all-2.ensures.least c.talk-own.ensures.ended in
    let ended = talked ring clients texts (many ∙ lens.0 ∙ servers) (several ∙ c.in_ok-outputs.ensures.len) talks in
    completes ring (opening_cache c.args.config.now.budget c.args.config.now.items 0) clients texts (outs_of c.talk-own.new.outputs.items) ended.went (came_from ends)
    (at (map g.C.Clock.times c.args.clocks.items)) (at (map g.C.Clock.times c.in_ok-clocks.clocks.items)) c.talk-own.new.proxy
    (opening_is_good c.args.config.now.budget c.args.config.now.items 0 c.requires.bounds.some_items (omega arith)) ended.talks ended.quiet
    (λ server low.
    let at_own : server < vec_len c.args.clocks = omega (arith, low, servers) in
    let below : server < vec_len c.join_all-2.new.results = omega (arith, low, servers, lens.1, c.join_all-2.ensures.len) in
    let s = c.in_ok-clocks.ensures.settled server below in
    let k = (c.join_all-2.ensures.joined server (Ok s.done) (omega (arith, low, servers, lens.1))).1 in
    let kept = rw (get_or_from_slice_get results server (Ok s.done) (Ok s.done) s.ended) at k.kept in
    let bounds : Bounds = record { budget = c.args.config.now.budget; items = c.args.config.now.items } in
    let w = worked_at (λ h. h.promise) g.C.Clock.times bounds (vec_len c.args.clocks) server c.start_all-started.new.children.items c.args.clocks.items k.handle
    (at (map g.C.Clock.times c.in_ok-clocks.clocks.items) server) (went_to ends server) (came_from ends server) (g.C.Clock.times s.done.clock) (received s.done.from) (sent s.done.to)
    (omega (arith, handles, lens.1)) (omega (arith, clocks))
    (ap (λ h. h.promise.bounds.value) k.handle_is ∙ c.in_default.ensures.bounds server (some_at c.start_all-started.new.all.items server (omega (arith, low, servers, many, lens.0))) k.handle at_own)
    k.handle_is c.in_default.ensures.clocks at_own s.clock (sym s.went) (sym s.came) kept.2 in (
      w.0,
      subst (λ (bytes : List ℕ). IsWorked (opening_cache c.args.config.now.budget c.args.config.now.items 0) (at (map g.C.Clock.times c.args.clocks.items) server)
          (at (map g.C.Clock.times c.in_ok-clocks.clocks.items) server) bytes (came_from ends server) w.0) (ended.quit server low) w.1,
    ))

-- if a worker ended by a shut gate, its gate refused it
pub returns-in_err-join_all-clause-cause : goal.returns-in_err-join_all-clause-cause
returns-in_err-join_all-clause-cause g c =
    let results = c.join_all.new.results.items in
    let children = c.start_all-started.new.children.items in
    let count : ℕ = vec_len c.start_all-started.new.children in
    let clocks : ℕ = vec_len c.args.clocks in
    let lets : ℕ → ℕ → Type 0 = g.G.Gate.lets c.args.gate.now in
    let refuses : ℕ → ℕ → Type 0 = g.G.Gate.refuses c.args.gate.now in
    let cause : Ended = c.in_err-join_all.field-0.0 in
    let same : c.from_residual-in_err-join_all.result ≡ Err cause = search rules in
    let size : length c.join_all.new.results.items ≡ vec_len c.join_all.new.results = search rules in
    let ends = least_ends clocks lets refuses (Err c.in-Err.ended) results cause c.in_err-join_all.ensures.least.0 c.in-Err.ensures.cause (λ server at.
    let inside = slice_get_within results server (Err GateShut) at in
    let low : server < vec_len c.start_all-started.new.children = omega (arith, inside, size, c.join_all.ensures.len) in
    let k = (c.join_all.ensures.joined server (Err GateShut) low).1 in
    let kept = rw (get_or_from_slice_get results server (Err GateShut) (Err GateShut) at) at k.kept in (
      server,
      omega (arith, low, c.start_all-started.ensures.few),
      refused_at (λ h. h.promise) g.G.Gate.lets g.G.Gate.refuses c.args.gate.now count server children k.handle k.handle_is c.start_all-started.ensures.started low kept,
    )) in
    subst (λ (r : Result _ Ended). IfErr r (λ one. EndsRun clocks lets refuses one)) (sym same) ends

pub returns-in_err-join_all-2-clause-cause : goal.returns-in_err-join_all-2-clause-cause
returns-in_err-join_all-2-clause-cause g c =
    let results = c.join_all-2.new.results.items in
    let children = c.start_all-started.new.children.items in
    let count : ℕ = vec_len c.start_all-started.new.children in
    let clocks : ℕ = vec_len c.args.clocks in
    let lets : ℕ → ℕ → Type 0 = g.G.Gate.lets c.args.gate.now in
    let refuses : ℕ → ℕ → Type 0 = g.G.Gate.refuses c.args.gate.now in
    let cause : Ended = c.in_err-join_all-2.field-0.0 in
    let same : c.from_residual-in_err-join_all-2.result ≡ Err cause = search rules in
    let size : length c.join_all-2.new.results.items ≡ vec_len c.join_all-2.new.results = search rules in
    let ends = least_ends clocks lets refuses c.talk-own.result results cause c.in_err-join_all-2.ensures.least.0 c.talk-own.ensures.cause (λ server at.
    let inside = slice_get_within results server (Err GateShut) at in
    let low : server < vec_len c.start_all-started.new.children = omega (arith, inside, size, c.join_all-2.ensures.len) in
    let k = (c.join_all-2.ensures.joined server (Err GateShut) low).1 in
    let kept = rw (get_or_from_slice_get results server (Err GateShut) (Err GateShut) at) at k.kept in (
      server,
      omega (arith, low, c.start_all-started.ensures.few),
      refused_at (λ h. h.promise) g.G.Gate.lets g.G.Gate.refuses c.args.gate.now count server children k.handle k.handle_is c.start_all-started.ensures.started low kept,
    )) in
    subst (λ (r : Result _ Ended). IfErr r (λ one. EndsRun clocks lets refuses one)) (sym same) ends

-- no worker ended by a cause, so none by a shut gate
pub returns-in_err-clocks-clause-cause : goal.returns-in_err-clocks-clause-cause
returns-in_err-clocks-clause-cause g c =
    let clocks : ℕ = vec_len c.args.clocks in
    let lets : ℕ → ℕ → Type 0 = g.G.Gate.lets c.args.gate.now in
    let refuses : ℕ → ℕ → Type 0 = g.G.Gate.refuses c.args.gate.now in
    let cause : Ended = c.in_err-clocks.field-0.0 in
    let same : c.from_residual-in_err-clocks.result ≡ Err cause = search rules in
    let ends = other_ends clocks lets refuses cause (λ is.
    let shut = c.in_err-clocks.ensures.shut (ap (λ (e : Ended). Err e) is) in
    c.in_ok-join_all-2.ensures.least GateShut (inr (shut.0, shut.1))) in
    subst (λ (r : Result _ Ended). IfErr r (λ one. EndsRun clocks lets refuses one)) (sym same) ends
