-- What the clients of a pool may rely on, from the runs of lives.
use Rattle.std.proofs.Common.{◌≡◌, ◌∙◌, ⊎_elim, ℕ, suc, ◌<◌, ◌≤◌, ◌⊎◌, inl, inr, ℤ, Bool, true, List, ◌∷◌, ◌++◌, length, append_assoc, Option, None, Some, sym, ap, ap₂, subst, arith}
use Rattle.std.proofs.lemmas.Bool.{cases_lt}
use Rattle.std.proofs.lemmas.List.{length-map}
use Rattle.std.proofs.lemmas.Option.{same_Some, slice_get_within}
use Rattle.mc_request.specs.declared.parts.Atom.{Atom}
use Rattle.mc_request.specs.declared.parts.Atom.TheVariants as atoms
use Rattle.mc_request.specs.declared.parts.StoreMode.{StoreMode}
use Rattle.mc_request.specs.declared.parts.Update.TheVariants.{Store}
use Rattle.mc_reply.specs.Spelling.{end_line, key_onto, spelling_of}
use Rattle.mc_reply.specs.declared.replies.Reply.{Reply as AReply}
use Rattle.mc_reply.specs.declared.replies.Reply.TheVariants.{Hit}
use Rattle.mc_route.specs.declared.losses.Losses.{Losses}
use Rattle.mc_route.specs.declared.outcomes.Outcome.{Outcome}
use Rattle.mc_route.specs.declared.outcomes.Outcome.TheVariants.{Reply}
use Rattle.mc_account.specs.Orders.{Order}
use Rattle.mc_history.specs.declared.entries.Entry.{Entry}
use Rattle.mc_history.specs.Histories.{tag_in}
use Rattle.mc_registers.specs.Guarantees.{is_done, update_in}
use Rattle.mc_registers.specs.Registers.{Done, IsRun}
use Rattle.mc_registers.specs.Records.{Records}
use Rattle.mc_registers.proofs.GuaranteeLemmas.{cas_loses_nothing, reads_see_own_writes}
use Rattle.mc_registers.proofs.HitLemmas.{quiet-misses, run-told, shown-fits}
use Rattle.mc_world.specs.Homes.{Homes}
use Rattle.mc_world.specs.Logs.{Log, number_of, serves, taken_before}
use Rattle.mc_world.proofs.Log.LifeLemmas.{IsOfLife, life_of}
use Rattle.mc_world.proofs.Log.LogLemmas.{moments-count}
use Rattle.mc_linearizable.specs.Linearizable.{Became, ComesFirst, Executed, IsLinearizable, IsLinearizablePool}
use Rattle.mc_linearizable.specs.Clients.{ClientsLoseNoCas, ClientsReadOwnWrites, ComesBetween, IsGet, IsInLife, MayHaveWritten, ShowsValue, StoresWhole, WasAnsweredBy, WasDone}
use Rattle.mc_linearizable.proofs.SpelledLemmas.{IsHit, hit_read, number_read, number_same, refused_apart}
use Rattle.mc_linearizable.proofs.LifeRuns.{life_run, recorded-atom, same-entry}
use Rattle.mc_linearizable.proofs.CutLemmas.{AreCut, IsCut, IsWriter, cut, cut_two, each_not, quiet_or_wrote}

-- a command that was answered by a reply has its bytes in the history
entry_says : (home : Homes) (counter : ℕ) (order : Order) (histories : ℕ → List Entry) (log : Log) (key : List ℕ) → IsLinearizable home counter order histories log key
    → (x : Executed order histories key) (reply : AReply (List ℕ)) → WasAnsweredBy order log (tag_in x.entry) reply → x.entry.reply ≡ spelling_of x.atom reply
entry_says home counter order histories log key h x reply answered =
    let told = h.told (tag_in x.entry) x.place x.atom x.command x.on answered.0 in
    let same : told.0 ≡ Reply reply = same_Some told.0 (Reply reply) (sym told.1 ∙ answered.1) in
    let became : Became home order histories log key (tag_in x.entry) x.place x.atom (Reply reply) =
    subst (λ (o : Outcome). Became home order histories log key (tag_in x.entry) x.place x.atom o) same told.2 in
    let once = h.once became.0 x became.1 in
    ap (λ (e : Entry). e.reply) (sym (same-entry order histories key became.0 x once.0 once.1)) ∙ became.2

-- the reply of the command in its run shows the same
pub run_says : (home : Homes) (counter : ℕ) (order : Order) (histories : ℕ → List Entry) (log : Log) (key : List ℕ) → IsLinearizable home counter order histories log key
    → (x : Executed order histories key) (done : Done) (reply : AReply (List ℕ)) → Records order x.place x.entry done → WasAnsweredBy order log (tag_in x.entry) reply
    → spelling_of x.atom done.reply ≡ spelling_of x.atom reply
run_says home counter order histories log key h x done reply tells answered =
    let same : done.atom ≡ x.atom = recorded-atom order histories key x done tells in
    ap (λ (a : Atom (List ℕ)). spelling_of a done.reply) (sym same) ∙ sym tells.reply ∙ entry_says home counter order histories log key h x reply answered

-- a `get` that was answered by a hit hits in its run
pub read_hits : (home : Homes) (counter : ℕ) (order : Order) (histories : ℕ → List Entry) (log : Log) (key : List ℕ) → IsLinearizable home counter order histories log key
    → (x : Executed order histories key) (done : Done) (at : List ℕ) (touch : Option ℤ) (with_cas : Bool) (flags : ℕ) (number : Option ℕ) (value : List ℕ)
    → Records order x.place x.entry done → x.atom ≡ atoms.Get at touch with_cas → WasAnsweredBy order log (tag_in x.entry) (Hit flags number value)
    → key_onto at done.reply end_line ≡ key_onto at (Hit flags number value) end_line
read_hits home counter order histories log key h x done at touch with_cas flags number value tells gets answered =
    subst (λ (a : Atom (List ℕ)). spelling_of a done.reply ≡ spelling_of a (Hit flags number value)) gets
    (run_says home counter order histories log key h x done (Hit flags number value) tells answered)

-- a store that was answered as done is done in its run
store_done : (home : Homes) (counter : ℕ) (order : Order) (histories : ℕ → List Entry) (log : Log) (key : List ℕ) → IsLinearizable home counter order histories log key
    → (x : Executed order histories key) (front back : List Done) (done : Done) (reply : AReply (List ℕ)) (mode : StoreMode) (compare : Option ℕ) (own : List ℕ) (flags : ℕ) (exptime : ℤ)
    (value : List ℕ) → Records order x.place x.entry done → IsRun counter None (front ++ done ∷ back)
    → update_in x.atom ≡ Some (Store mode compare own flags exptime value) → WasAnsweredBy order log (tag_in x.entry) reply → is_done reply ≡ true
    → (update_in done.atom ≡ Some (Store mode compare own flags exptime value)) × (is_done done.reply ≡ true)
store_done home counter order histories log key h x front back done reply mode compare own flags exptime value tells run stores answered is =
    let same : done.atom ≡ x.atom = recorded-atom order histories key x done tells in
    let updates : update_in done.atom ≡ Some (Store mode compare own flags exptime value) = ap (λ (a : Atom (List ℕ)). update_in a) same ∙ stores in (
      updates,
      elim (run-told front back done counter None mode compare own flags exptime value run updates) [
        | inl did ↦ did
        | inr refused ↦ absurd (refused_apart x.atom (Store mode compare own flags exptime value) done.reply reply stores refused is
            (run_says home counter order histories log key h x done reply tells answered))
      ],
    )

-- a command has a life, since a history has an entry for each turn of its server
pub lived : (home : Homes) (losses : Losses) (counter : ℕ) (order : Order) (texts outs : ℕ → List ℕ) (histories : ℕ → List Entry) (log : Log)
    → IsLinearizablePool home losses counter order texts outs histories log → (key : List ℕ) (x : Executed order histories key) → IsOfLife x.place x.number log
lived home losses counter order texts outs histories log h key x =
    let many : length (histories x.place) ≡ number_of (serves x.place) log =
    sym (length-map (histories x.place) (λ (e : Entry). e.moment)) ∙ ap (λ (ms : List ℕ). length ms) (h.moments x.place) ∙ moments-count x.place log in
    let inside = slice_get_within (histories x.place) x.number x.entry x.at in
    life_of x.place x.number log (omega (arith, many, inside))

-- Two commands in order are in one life, or the commands before the second in its life follow the first.
pub one_life : (home : Homes) (losses : Losses) (counter : ℕ) (order : Order) (texts outs : ℕ → List ℕ) (histories : ℕ → List Entry) (log : Log)
    → IsLinearizablePool home losses counter order texts outs histories log → (key : List ℕ) (a b : Executed order histories key) → ComesFirst a b
    → ((b.place ≡ a.place) × AreCut counter order histories key a b)
    ⊎ ((low : ℕ) × IsCut counter order histories key low b × ((x : Executed order histories key) → x.place ≡ b.place → low ≤ x.number → ComesFirst a x))
one_life home losses counter order texts outs histories log pool key a b comes =
    let h = pool.keys key in
    let of = lived home losses counter order texts outs histories log pool key b in
    let from = of.from in
    let to = of.to in
    let low : ℕ = taken_before b.place of.life log in
    let c = cut counter order histories log key of.life b (life_run home counter order histories log key h b.place of.life) (from, to) in
    elim comes [
      | inl lower ↦ inr (low, c, λ x at past. inl (omega (arith, lower, at)))
      | inr both ↦ (let less = both.1 in
          let same = both.0 in
          ⊎_elim
          (λ before. inr (low, c, λ x at past. inr (same ∙ sym at, omega (arith, before, past))))
          (λ within.
          let inside : IsInLife of.life log a =
          subst (λ (p : ℕ). (taken_before p of.life log ≤ a.number) × (a.number < taken_before p (suc of.life) log)) (sym same) (within, omega (arith, less, to)) in
          inl (sym same, cut_two counter order histories log key of.life a b (life_run home counter order histories log key h a.place of.life) (sym same) inside (from, to) less))
          (cases_lt a.number low))
    ]

-- another command between the two in the run is between them in the key's order
pub writer_between : (order : Order) (histories : ℕ → List Entry) (key : List ℕ) (a b : Executed order histories key) → b.place ≡ a.place
    → (w : IsWriter order histories key a.place (suc a.number) b.number) → ComesBetween a w.x b
writer_between order histories key a b same w =
    let from = w.from in
    (inr (sym w.at, omega (arith, from)), inr (w.at ∙ sym same, w.to))

-- a hit shows what was written before it in its life, or another command may have written between
abbrev IsOwnOrOther : (order : Order) (histories : ℕ → List Entry) (key : List ℕ) → Executed order histories key → Executed order histories key
    → ℕ → List ℕ → AReply (List ℕ) → Type 0
IsOwnOrOther order histories key write read flags value reply =
    ShowsValue read.atom reply flags value ⊎ ((other : Executed order histories key) × ComesBetween write other read × (other.place ≡ read.place) × MayHaveWritten other)

read_in_life : (home : Homes) (counter : ℕ) (order : Order) (histories : ℕ → List Entry) (log : Log) (key : List ℕ) → IsLinearizable home counter order histories log key
    → (write read : Executed order histories key) (flags : ℕ) (value : List ℕ) → StoresWhole write.atom flags value → WasDone order log (tag_in write.entry)
    → IsGet read.atom → (shown_flags : ℕ) (number : Option ℕ) (shown : List ℕ) → WasAnsweredBy order log (tag_in read.entry) (Hit shown_flags number shown)
    → read.place ≡ write.place → AreCut counter order histories key write read
    → IsOwnOrOther order histories key write read flags value (Hit shown_flags number shown)
read_in_life home counter order histories log key h write read flags value stores done gets shown_flags number shown answered same c =
    let w = store_done home counter order histories log key h write c.front (c.between ++ c.last ∷ c.back) c.first done.0 stores.mode stores.compare stores.key flags stores.exptime value
    c.first_tells c.run stores.stores done.1 done.2 in
    let hit : IsHit c.last.reply = hit_read gets.0 c.last.reply shown_flags number shown
    (read_hits home counter order histories log key h read c.last gets.0 gets.1 gets.2 shown_flags number shown c.last_tells gets.3 answered) in
    let reads : c.last.atom ≡ atoms.Get gets.0 gets.1 gets.2 = recorded-atom order histories key read c.last c.last_tells ∙ gets.3 in
    elim (quiet_or_wrote order histories key write.place (suc write.number) read.number c.commands c.between c.rising c.told) [
      | inl quiet ↦
          let both = reads_see_own_writes counter None c.front c.between c.back c.first c.last stores.mode stores.compare stores.key flags stores.exptime value
          c.run w.0 stores.whole w.1 quiet gets.0 gets.1 gets.2 reads hit.flags hit.cas hit.value hit.is in
          let shows : c.last.reply ≡ Hit flags hit.cas value = hit.is ∙ ap₂ (λ (f : ℕ) (v : List ℕ). Hit f hit.cas v) both.0 both.1 in
          inl (
            hit.cas,
            sym (run_says home counter order histories log key h read c.last (Hit shown_flags number shown) c.last_tells answered)
                ∙ ap (λ (reply : AReply (List ℕ)). spelling_of read.atom reply) shows,
          )
      | inr w ↦ inr (w.x, writer_between order histories key write read same w, w.at ∙ sym same, w.wrote)
    ]

-- a life begins with no item, so a hit in it is of a later command
read_after : (home : Homes) (counter : ℕ) (order : Order) (histories : ℕ → List Entry) (log : Log) (key : List ℕ) → IsLinearizable home counter order histories log key
    → (write read : Executed order histories key) (flags low : ℕ) (value : List ℕ) → IsGet read.atom → (shown_flags : ℕ) (number : Option ℕ) (shown : List ℕ)
    → WasAnsweredBy order log (tag_in read.entry) (Hit shown_flags number shown) → IsCut counter order histories key low read
    → ((x : Executed order histories key) → x.place ≡ read.place → low ≤ x.number → ComesFirst write x)
    → IsOwnOrOther order histories key write read flags value (Hit shown_flags number shown)
read_after home counter order histories log key h write read flags low value gets shown_flags number shown answered c later =
    let hit : IsHit c.done.reply = hit_read gets.0 c.done.reply shown_flags number shown
    (read_hits home counter order histories log key h read c.done gets.0 gets.1 gets.2 shown_flags number shown c.tells gets.3 answered) in
    let reads : c.done.atom ≡ atoms.Get gets.0 gets.1 gets.2 = recorded-atom order histories key read c.done c.tells ∙ gets.3 in
    elim (quiet_or_wrote order histories key read.place low read.number c.commands c.front c.rising c.told) [
      | inl quiet ↦ absurd (quiet-misses c.front c.back c.done counter gets.0 gets.1 gets.2 hit.flags hit.cas hit.value c.run quiet reads hit.is)
      | inr w ↦ inr (w.x, (later w.x w.at w.from, inr (w.at, w.to)), w.at, w.wrote)
    ]

-- of two commands at most one comes first
not_both : (order : Order) (histories : ℕ → List Entry) (key : List ℕ) (a b : Executed order histories key) → ComesFirst a b → ComesFirst b a → ⊥
not_both order histories key a b (inl low) (inl high) = omega (arith, low, high)
not_both order histories key a b (inl low) (inr high) = let at = high.0 in omega (arith, low, at)
not_both order histories key a b (inr low) (inl high) = let at = low.0 in omega (arith, at, high)
not_both order histories key a b (inr low) (inr high) =
    let early = low.1 in
    let late = high.1 in
    omega (arith, early, late)

pub read_own_writes : (home : Homes) (losses : Losses) (counter : ℕ) (order : Order) (texts outs : ℕ → List ℕ) (histories : ℕ → List Entry) (log : Log)
    → IsLinearizablePool home losses counter order texts outs histories log → (key : List ℕ) → ClientsReadOwnWrites home order histories log key
read_own_writes home losses counter order texts outs histories log pool key write read flags value stores done gets shown_flags number shown answered earlier along =
    let h = pool.keys key in
    let found : IsOwnOrOther order histories key write read flags value (Hit shown_flags number shown) =
    elim (one_life home losses counter order texts outs histories log pool key write read (h.in_time write read (done.0, done.1.1) earlier along)) [
      | inl c ↦ read_in_life home counter order histories log key h write read flags value stores done gets shown_flags number shown answered c.0 c.1
      | inr c ↦ read_after home counter order histories log key h write read flags c.0 value gets shown_flags number shown answered c.1 c.2
    ] in
    elim found [
      | inl shows ↦ inl shows
      | inr o ↦ inr (o.0, o.1, o.2, o.3, λ replied before_it goes. not_both order histories key write o.0 o.1.0 (h.in_time o.0 write replied before_it goes))
    ]

-- a command between two of one place
between_at : (order : Order) (histories : ℕ → List Entry) (key : List ℕ) (a x b : Executed order histories key) → a.place ≡ b.place → ComesFirst a x → ComesFirst x b
    → (x.place ≡ a.place) × (a.number < x.number) × (x.number < b.number)
between_at order histories key a x b same (inl low) (inl high) = absurd (omega (arith, same, low, high))
between_at order histories key a x b same (inl low) (inr high) = let at = high.0 in absurd (omega (arith, same, low, at))
between_at order histories key a x b same (inr low) (inl high) = let at = low.0 in absurd (omega (arith, same, at, high))
between_at order histories key a x b same (inr low) (inr high) = (sym low.0, low.1, high.1)

pub lose_no_cas : (home : Homes) (losses : Losses) (counter : ℕ) (order : Order) (texts outs : ℕ → List ℕ) (histories : ℕ → List Entry) (log : Log)
    → IsLinearizablePool home losses counter order texts outs histories log → (key : List ℕ) → ClientsLoseNoCas order histories log key
lose_no_cas home losses counter order texts outs histories log pool key read cas other gets flags number shown small answered compares done earlier life same inside also between =
    let h = pool.keys key in
    let less : read.number < cas.number = elim (h.in_time read cas (Hit flags (Some number) shown, answered.1) earlier (inr (inl (omega (arith, same))))) [
      | inl lower ↦ absurd (omega (arith, lower, same))
      | inr both ↦ both.1
    ] in
    let c = cut_two counter order histories log key life read cas (life_run home counter order histories log key h read.place life) (sym same) inside also less in
    let joined : IsRun counter None ((c.front ++ c.first ∷ c.between) ++ c.last ∷ c.back) =
    subst (λ (es : List Done). IsRun counter None es) (sym (append_assoc c.front (c.first ∷ c.between) (c.last ∷ c.back))) c.run in
    let w = store_done home counter order histories log key h cas (c.front ++ c.first ∷ c.between) c.back c.last done.0 compares.mode (Some number) compares.key compares.flags compares.exptime compares.value
    c.last_tells joined compares.stores done.1 done.2 in
    let bytes = read_hits home counter order histories log key h read c.first gets.0 gets.1 gets.2 flags (Some number) shown c.first_tells gets.3 answered in
    let hit : IsHit c.first.reply = hit_read gets.0 c.first.reply flags (Some number) shown bytes in
    let reads : c.first.atom ≡ atoms.Get gets.0 gets.1 gets.2 = recorded-atom order histories key read c.first c.first_tells ∙ gets.3 in
    let n = number_read gets.0 hit.flags flags hit.cas number hit.value shown (ap (λ (reply : AReply (List ℕ)). key_onto gets.0 reply end_line) (sym hit.is) ∙ bytes) in
    let hits : c.first.reply ≡ Hit hit.flags (Some n.0) hit.value = hit.is ∙ ap (λ (k : Option ℕ). Hit hit.flags k hit.value) n.1 in
    let fits = shown-fits c.front c.between c.back c.first c.last counter n.0 number None gets.0 gets.1 gets.2 hit.flags hit.value
    compares.mode compares.key compares.flags compares.exptime compares.value c.run reads hits w.0 w.1 in
    let is : n.0 ≡ number = number_same n.0 number fits small n.2 in
    let not = cas_loses_nothing counter None c.front c.between c.back c.first c.last compares.mode number compares.key compares.flags compares.exptime compares.value c.run
    gets.0 gets.1 gets.2 reads hit.flags hit.value (hits ∙ ap (λ (k : ℕ). Hit hit.flags (Some k) hit.value) is) w.0 w.1 in
    let at = between_at order histories key read other cas same between.0 between.1 in
    each_not order histories key read.place (suc read.number) cas.number c.commands c.between c.rising c.told not other at.0 (c.all other at.0 at.1 at.2)
