-- What a hit shows of the last store.
use Rattle.std.proofs.Common.{◌≡◌, ◌∙◌, ℕ, suc, ◌<◌, ◌≤◌, ◌||◌, ◌⊎◌, inl, inr, ℤ, Bool, true, false, cond, List, [], ◌∷◌, ◌++◌, append_assoc, Option, None, Some, IfSome, Ok, Err, refl, sym, ap, subst, arith}
use Rattle.std.specs.Bool.{then_some}
use Rattle.std.specs.Option.{option_map_or}
use Rattle.std.proofs.lemmas.Bool.{true≢false}
use Rattle.std.proofs.lemmas.Option.{none-some, same_Some}
use Rattle.mc_item.specs.declared.bodies.Body.{Body}
use Rattle.mc_request.specs.declared.meta.MetaCommand.TheVariants as metas
use Rattle.mc_request.specs.declared.meta.MetaGet.{MetaGet}
use Rattle.mc_request.specs.declared.meta.Show.{Show}
use Rattle.mc_request.specs.declared.parts.Atom.{Atom}
use Rattle.mc_request.specs.declared.parts.Atom.TheVariants as atoms
use Rattle.mc_request.specs.declared.parts.Update.{Update}
use Rattle.mc_request.specs.declared.parts.Update.TheVariants.{Store}
use Rattle.mc_reply.specs.MetaSpelling.{meta_spelling}
use Rattle.mc_reply.specs.Spelling.{spelling_of}
use Rattle.mc_reply.specs.declared.replies.Marks.TheVariants.{Won}
use Rattle.mc_reply.specs.declared.replies.Reply.{Reply as AReply}
use Rattle.mc_reply.specs.declared.replies.Reply.TheVariants.{Stored, NotStored, Exists, NotFound, Deleted, Touched, Flushed, Number, Miss, Hit, Meta, Fault}
use Rattle.mc_reply.specs.declared.replies.Shown.{Shown}
use Rattle.mc_route.specs.declared.losses.Losses.{Losses}
use Rattle.mc_account.specs.Orders.{Order}
use Rattle.mc_history.specs.declared.entries.Entry.{Entry}
use Rattle.mc_history.specs.Histories.{tag_in}
use Rattle.mc_cache.specs.Settling.{is_dead_at}
use Rattle.mc_cache.specs.Showing.{meta_reply_of}
use Rattle.mc_cache.specs.Step.{made_by, numbered}
use Rattle.mc_registers.specs.Guarantees.{AreQuiet, has_written, is_done, update_in}
use Rattle.mc_registers.specs.Recache.{is_win}
use Rattle.mc_registers.specs.Registers.{Done, Given, IsRun, get_as, last_by, meta_get_as, put_as, register_step, turn}
use Rattle.mc_registers.specs.Records.{Records}
use Rattle.mc_registers.proofs.GuaranteeLemmas.{reads_see_own_writes}
use Rattle.mc_registers.proofs.HitLemmas.{quiet-misses, run-told}
use Rattle.mc_world.specs.Homes.{Homes}
use Rattle.mc_world.specs.Logs.{Log, taken_before}
use Rattle.mc_linearizable.specs.Linearizable.{Executed, IsLinearizable, IsLinearizablePool}
use Rattle.mc_linearizable.specs.Clients.{AHitHasAWriter, AHitShowsTheLastStore, HasContent, HasWritten, HitsBy, StoresWhole, WasAnsweredBy}
use Rattle.mc_linearizable.proofs.SpelledLemmas.{IsHit, IsValue, hit_read, refused_apart, value_read}
use Rattle.mc_linearizable.proofs.LifeRuns.{life_run, recorded-atom}
use Rattle.mc_linearizable.proofs.CutLemmas.{cut, quiet_or_wrote}
use Rattle.mc_linearizable.proofs.ClientLemmas.{lived, one_life, read_hits, run_says, writer_between}
use Rattle.mc_linearizable.proofs.FillLemmas.{win_same}

-- the item that a command leaves, and its reply
abbrev Turned : Type 0
Turned = Option Body × AReply (List ℕ)

-- the value that a reply to `mg` shows
abbrev value_in : AReply (List ℕ) → Option (List ℕ)
value_in (Meta shown value) = value
value_in reply = None

abbrev flags_in : AReply (List ℕ) → Option ℕ
flags_in (Meta shown value) = shown.flags
flags_in reply = None

abbrev wins_in : AReply (List ℕ) → Bool
wins_in (Meta shown value) = is_win shown.marks
wins_in reply = false

then_same : (show : Bool) (x y : List ℕ) → Some y ≡ then_some show x → y ≡ x
then_same true x y same = same_Some y x same
then_same false x y same = absurd (none-some y (sym same))

if_shown : (show : Bool) (flags : ℕ) → IfSome (then_some show flags) (λ (own : ℕ). own ≡ flags)
if_shown true flags = refl
if_shown false flags = tt

-- an item that `mg` makes is shown with W
abbrev told_won : Show → ℕ → Turned → Turned
told_won show moment o = (o.0, meta_reply_of show moment Won o.0 o.1)

none_made : (create : Option ℤ) (given : Given) (get : MetaGet) (moment : ℕ) (shown : Shown) (value : List ℕ) → get.create ≡ create
    → let o : Turned = option_map_or
    (λ exptime. told_won get.show moment (put_as given None (numbered (made_by get.exptime exptime moment) 0) Stored)) create (None, Miss) in
    Meta shown (Some value) ≡ o.1 → (get.create ≡ None) ⊎ (is_win shown.marks ≡ false) → ⊥
none_made None given get moment shown value is says found = absurd cc
none_made (Some create) (Err fault) get moment shown value is says found = absurd cc
none_made (Some create) (Ok number) get moment shown value is says (inl none) = absurd cc
none_made (Some create) (Ok number) get moment shown value is says (inr lost) = true≢false (sym (ap (λ (r : AReply (List ℕ)). wins_in r) says) ∙ lost)

-- another value that `mg` shows was stored: a `get` in its place would hit
found_held : (given : Given) (held : Option Body) (get : MetaGet) (moment : ℕ) (shown : Shown) (value : List ℕ) → Meta shown (Some value) ≡ (meta_get_as given held get moment).1
    → (get.create ≡ None) ⊎ (is_win shown.marks ≡ false)
    → (flags : ℕ) × (Hit flags None value ≡ (get_as held None false moment).1) × IfSome shown.flags (λ (own : ℕ). own ≡ flags)
found_held given None get moment shown value says found = absurd (none_made get.create given get moment shown value refl says found)
found_held given (Some body) get moment shown value says found =
    let values : Some value ≡ then_some get.show.value body.value = ap (λ (r : AReply (List ℕ)). value_in r) says in
    let flags : shown.flags ≡ then_some get.show.flags body.flags = ap (λ (r : AReply (List ℕ)). flags_in r) says in
    let same : value ≡ body.value = then_same get.show.value body.value value values in (
      body.flags,
      ap (λ (v : List ℕ). Hit body.flags None v) same,
      subst (λ (o : Option ℕ). IfSome o (λ (own : ℕ). own ≡ body.flags)) (sym flags) (if_shown get.show.flags body.flags),
    )

abbrev get_at : ℕ → ℕ → List ℕ → Done
get_at moment flags value = record { atom = atoms.Get [] None false; moment = moment; reply = Hit flags None value }

found_run : (front : List Done) (read : Done) (back : List Done) (last : ℕ) (held : Option Body) (key : List ℕ) (get : MetaGet) (shown : Shown) (value : List ℕ)
    → IsRun last held (front ++ read ∷ back) → read.atom ≡ atoms.Meta (metas.Get key get) → read.reply ≡ Meta shown (Some value)
    → (get.create ≡ None) ⊎ (is_win shown.marks ≡ false)
    → (flags : ℕ) × IsRun last held (front ++ get_at read.moment flags value ∷ []) × IfSome shown.flags (λ (own : ℕ). own ≡ flags)
found_run [] read back last held key get shown value run reads replies found =
    let there : Option Body = cond (run.0 || is_dead_at held read.moment) None held in
    let steps : turn run.0 run.1 held read ≡ meta_get_as run.1 there get read.moment = ap (λ (a : Atom (List ℕ)). register_step run.1 there a read.moment) reads in
    let says : Meta shown (Some value) ≡ (meta_get_as run.1 there get read.moment).1 = sym replies ∙ run.3 ∙ ap (λ (o : Turned). o.1) steps in
    let shows = found_held run.1 there get read.moment shown value says found in
    (shows.0, (run.0, run.1, run.2, shows.1, tt), shows.2)
found_run (e ∷ front) read back last held key get shown value run reads replies found =
    let left : Option Body = (turn run.0 run.1 held e).0 in
    let rest = found_run front read back (last_by last left) left key get shown value run.4 reads replies found in
    (rest.0, (run.0, run.1, run.2, run.3, rest.1), rest.2)

-- a hit in a run, as one of `get`
record IsSeen (counter : ℕ) (front : List Done) (atom : Atom (List ℕ)) (hit : AReply (List ℕ)) : Type 0 where
  pub read : Done
  pub back : List Done
  pub key : List ℕ
  pub touch : Option ℤ
  pub with_cas : Bool
  pub flags : ℕ
  pub number : Option ℕ
  pub value : List ℕ
  pub run : IsRun counter None (front ++ read ∷ back)
  pub reads : read.atom ≡ atoms.Get key touch with_cas
  pub hits : read.reply ≡ Hit flags number value
  pub shown : AReply (List ℕ)
  pub same : spelling_of atom hit ≡ spelling_of atom shown
  pub has : HasContent shown flags value

seen_get : (home : Homes) (counter : ℕ) (order : Order) (histories : ℕ → List Entry) (log : Log) (key : List ℕ) → IsLinearizable home counter order histories log key
    → (x : Executed order histories key) (front back : List Done) (done : Done) (at : List ℕ) (touch : Option ℤ) (with_cas : Bool) (flags : ℕ) (number : Option ℕ) (value : List ℕ)
    → Records order x.place x.entry done → IsRun counter None (front ++ done ∷ back) → x.atom ≡ atoms.Get at touch with_cas
    → WasAnsweredBy order log (tag_in x.entry) (Hit flags number value) → IsSeen counter front x.atom (Hit flags number value)
seen_get home counter order histories log key h x front back done at touch with_cas flags number value tells run gets answered =
    let hit : IsHit done.reply = hit_read at done.reply flags number value
    (read_hits home counter order histories log key h x done at touch with_cas flags number value tells gets answered) in
    record {
      read = done;
      back = back;
      key = at;
      touch = touch;
      with_cas = with_cas;
      flags = hit.flags;
      number = hit.cas;
      value = hit.value;
      run = run;
      reads = recorded-atom order histories key x done tells ∙ gets;
      hits = hit.is;
      shown = done.reply;
      same = sym (run_says home counter order histories log key h x done (Hit flags number value) tells answered);
      has = subst (λ (r : AReply (List ℕ)). HasContent r hit.flags hit.value) (sym hit.is) (refl, refl);
    }

seen_mg : (home : Homes) (counter : ℕ) (order : Order) (histories : ℕ → List Entry) (log : Log) (key : List ℕ) → IsLinearizable home counter order histories log key
    → (x : Executed order histories key) (front back : List Done) (done : Done) (at : List ℕ) (get : MetaGet) (shown : Shown) (value : List ℕ)
    → Records order x.place x.entry done → IsRun counter None (front ++ done ∷ back) → x.atom ≡ atoms.Meta (metas.Get at get)
    → (get.create ≡ None) ⊎ (is_win shown.marks ≡ false) → WasAnsweredBy order log (tag_in x.entry) (Meta shown (Some value))
    → IsSeen counter front x.atom (Meta shown (Some value))
seen_mg home counter order histories log key h x front back done at get shown value tells run gets found answered =
    let says : spelling_of x.atom done.reply ≡ spelling_of x.atom (Meta shown (Some value)) =
    run_says home counter order histories log key h x done (Meta shown (Some value)) tells answered in
    let bytes : meta_spelling done.reply ≡ meta_spelling (Meta shown (Some value)) =
    subst (λ (a : Atom (List ℕ)). spelling_of a done.reply ≡ spelling_of a (Meta shown (Some value))) gets says in
    let own : IsValue done.reply = value_read done.reply shown value bytes in
    let wins : is_win own.shown.marks ≡ is_win shown.marks =
    win_same at get (Meta own.shown (Some own.value)) (Meta shown (Some value)) (ap (λ (r : AReply (List ℕ)). meta_spelling r) (sym own.is) ∙ bytes) in
    let not_made : (get.create ≡ None) ⊎ (is_win own.shown.marks ≡ false) = elim found [ inl none ↦ inl none | inr lost ↦ inr (wins ∙ lost) ] in
    let reads : done.atom ≡ atoms.Meta (metas.Get at get) = recorded-atom order histories key x done tells ∙ gets in
    let other = found_run front done back counter None at get own.shown own.value run reads own.is not_made in
    record {
      read = get_at done.moment other.0 own.value;
      back = [];
      key = [];
      touch = None;
      with_cas = false;
      flags = other.0;
      number = None;
      value = own.value;
      run = other.1;
      reads = refl;
      hits = refl;
      shown = done.reply;
      same = sym says;
      has = subst (λ (r : AReply (List ℕ)). HasContent r other.0 own.value) (sym own.is) (other.2, refl);
    }

-- the command and the reply of a hit
record IsGetHit (atom : Atom (List ℕ)) (hit : AReply (List ℕ)) : Type 0 where
  pub key : List ℕ
  pub touch : Option ℤ
  pub with_cas : Bool
  pub flags : ℕ
  pub number : Option ℕ
  pub value : List ℕ
  pub gets : atom ≡ atoms.Get key touch with_cas
  pub is : hit ≡ Hit flags number value

record IsMetaHit (atom : Atom (List ℕ)) (hit : AReply (List ℕ)) : Type 0 where
  pub key : List ℕ
  pub get : MetaGet
  pub shown : Shown
  pub value : List ℕ
  pub gets : atom ≡ atoms.Meta (metas.Get key get)
  pub is : hit ≡ Meta shown (Some value)
  pub found : (get.create ≡ None) ⊎ (is_win shown.marks ≡ false)

hit_kind : (atom : Atom (List ℕ)) (hit : AReply (List ℕ)) → HitsBy atom hit → IsGetHit atom hit ⊎ IsMetaHit atom hit
hit_kind (atoms.Get key touch with_cas) (Hit flags number value) by =
    inl (record { key = key; touch = touch; with_cas = with_cas; flags = flags; number = number; value = value; gets = refl; is = refl })
hit_kind (atoms.Get key touch with_cas) Stored by = absurd by
hit_kind (atoms.Get key touch with_cas) NotStored by = absurd by
hit_kind (atoms.Get key touch with_cas) Exists by = absurd by
hit_kind (atoms.Get key touch with_cas) NotFound by = absurd by
hit_kind (atoms.Get key touch with_cas) Deleted by = absurd by
hit_kind (atoms.Get key touch with_cas) Touched by = absurd by
hit_kind (atoms.Get key touch with_cas) Flushed by = absurd by
hit_kind (atoms.Get key touch with_cas) (Number number) by = absurd by
hit_kind (atoms.Get key touch with_cas) Miss by = absurd by
hit_kind (atoms.Get key touch with_cas) (Meta shown value) by = absurd by
hit_kind (atoms.Get key touch with_cas) (Fault fault) by = absurd by
hit_kind (atoms.Update update) hit by = absurd by
hit_kind (atoms.Meta (metas.Get key get)) (Meta shown (Some value)) by =
    inr (record { key = key; get = get; shown = shown; value = value; gets = refl; is = refl; found = by })
hit_kind (atoms.Meta (metas.Get key get)) (Meta shown None) by = absurd by
hit_kind (atoms.Meta (metas.Get key get)) Stored by = absurd by
hit_kind (atoms.Meta (metas.Get key get)) NotStored by = absurd by
hit_kind (atoms.Meta (metas.Get key get)) Exists by = absurd by
hit_kind (atoms.Meta (metas.Get key get)) NotFound by = absurd by
hit_kind (atoms.Meta (metas.Get key get)) Deleted by = absurd by
hit_kind (atoms.Meta (metas.Get key get)) Touched by = absurd by
hit_kind (atoms.Meta (metas.Get key get)) Flushed by = absurd by
hit_kind (atoms.Meta (metas.Get key get)) (Number number) by = absurd by
hit_kind (atoms.Meta (metas.Get key get)) Miss by = absurd by
hit_kind (atoms.Meta (metas.Get key get)) (Hit flags number value) by = absurd by
hit_kind (atoms.Meta (metas.Get key get)) (Fault fault) by = absurd by
hit_kind (atoms.Meta (metas.Update update show)) hit by = absurd by

seen : (home : Homes) (counter : ℕ) (order : Order) (histories : ℕ → List Entry) (log : Log) (key : List ℕ) → IsLinearizable home counter order histories log key
    → (x : Executed order histories key) (front back : List Done) (done : Done) (hit : AReply (List ℕ)) → Records order x.place x.entry done
    → IsRun counter None (front ++ done ∷ back) → HitsBy x.atom hit → WasAnsweredBy order log (tag_in x.entry) hit → IsSeen counter front x.atom hit
seen home counter order histories log key h x front back done hit tells run by answered =
    elim (hit_kind x.atom hit by) [
      | inl g ↦ subst (λ (r : AReply (List ℕ)). IsSeen counter front x.atom r) (sym g.is)
          (seen_get home counter order histories log key h x front back done g.key g.touch g.with_cas g.flags g.number g.value tells run g.gets
          (subst (λ (r : AReply (List ℕ)). WasAnsweredBy order log (tag_in x.entry) r) g.is answered))
      | inr m ↦ subst (λ (r : AReply (List ℕ)). IsSeen counter front x.atom r) (sym m.is)
          (seen_mg home counter order histories log key h x front back done m.key m.get m.shown m.value tells run m.gets m.found
          (subst (λ (r : AReply (List ℕ)). WasAnsweredBy order log (tag_in x.entry) r) m.is answered))
    ]

-- a store that has written was done in its run
wrote_done : (atom : Atom (List ℕ)) (update : Update (List ℕ) (List ℕ)) (reply : AReply (List ℕ)) → update_in atom ≡ Some update → has_written atom reply ≡ true → is_done reply ≡ true
wrote_done (atoms.Get key touch with_cas) update reply updates wrote = absurd cc
wrote_done (atoms.Update own) update reply updates wrote = wrote
wrote_done (atoms.Meta (metas.Get key get)) update reply updates wrote = absurd cc
wrote_done (atoms.Meta (metas.Update own show)) update reply updates wrote = wrote

stored_in_run : (counter : ℕ) (order : Order) (histories : ℕ → List Entry) (key : List ℕ) (x : Executed order histories key) (front back : List Done) (done : Done) (flags : ℕ)
    (value : List ℕ) (s : StoresWhole x.atom flags value) → Records order x.place x.entry done → IsRun counter None (front ++ done ∷ back) → HasWritten x
    → (update_in done.atom ≡ Some (Store s.mode s.compare s.key flags s.exptime value)) × (is_done done.reply ≡ true)
stored_in_run counter order histories key x front back done flags value s tells run wrote =
    let update : Update (List ℕ) (List ℕ) = Store s.mode s.compare s.key flags s.exptime value in
    let same : done.atom ≡ x.atom = recorded-atom order histories key x done tells in
    let updates : update_in done.atom ≡ Some (Store s.mode s.compare s.key flags s.exptime value) = ap (λ (a : Atom (List ℕ)). update_in a) same ∙ s.stores in
    let bytes : spelling_of x.atom done.reply ≡ spelling_of x.atom wrote.0 = ap (λ (a : Atom (List ℕ)). spelling_of a done.reply) (sym same) ∙ sym tells.reply ∙ wrote.1 in (
      updates,
      elim (run-told front back done counter None s.mode s.compare s.key flags s.exptime value run updates) [
        | inl did ↦ did
        | inr refused ↦ absurd (refused_apart x.atom update done.reply wrote.0 s.stores refused (wrote_done x.atom update wrote.0 s.stores wrote.2) bytes)
      ],
    )

pub hit_shows : (home : Homes) (losses : Losses) (counter : ℕ) (order : Order) (texts outs : ℕ → List ℕ) (histories : ℕ → List Entry) (log : Log)
    → IsLinearizablePool home losses counter order texts outs histories log → (key : List ℕ) → AHitShowsTheLastStore order histories log key
hit_shows home losses counter order texts outs histories log pool key store read flags value hit stores wrote by answered comes none =
    let h = pool.keys key in
    elim (one_life home losses counter order texts outs histories log pool key store read comes) [
      | inl both ↦ (let c = both.1 in
          let quiet : AreQuiet c.between = elim (quiet_or_wrote order histories key store.place (suc store.number) read.number c.commands c.between c.rising c.told) [
            | inl still ↦ still
            | inr w ↦ absurd (none w.x (writer_between order histories key store read both.0 w) w.wrote)
          ] in
          let joined : IsRun counter None ((c.front ++ c.first ∷ c.between) ++ c.last ∷ c.back) =
          subst (λ (es : List Done). IsRun counter None es) (sym (append_assoc c.front (c.first ∷ c.between) (c.last ∷ c.back))) c.run in
          let s = seen home counter order histories log key h read (c.front ++ c.first ∷ c.between) c.back c.last hit c.last_tells joined by answered in
          let apart : IsRun counter None (c.front ++ c.first ∷ (c.between ++ s.read ∷ s.back)) =
          subst (λ (es : List Done). IsRun counter None es) (append_assoc c.front (c.first ∷ c.between) (s.read ∷ s.back)) s.run in
          let w = stored_in_run counter order histories key store c.front (c.between ++ c.last ∷ c.back) c.first flags value stores c.first_tells c.run wrote in
          let same = reads_see_own_writes counter None c.front c.between s.back c.first s.read stores.mode stores.compare stores.key flags stores.exptime value
          apart w.0 stores.whole w.1 quiet s.key s.touch s.with_cas s.reads s.flags s.number s.value s.hits in (
            s.shown,
            s.same,
            subst (λ (v : List ℕ). HasContent s.shown flags v) same.1 (subst (λ (f : ℕ). HasContent s.shown f s.value) same.0 s.has),
          ))
      | inr later ↦ (let c = later.1 in
          let quiet : AreQuiet c.front = elim (quiet_or_wrote order histories key read.place later.0 read.number c.commands c.front c.rising c.told) [
            | inl still ↦ still
            | inr w ↦ absurd (none w.x (later.2 w.x w.at w.from, inr (w.at, w.to)) w.wrote)
          ] in
          let s = seen home counter order histories log key h read c.front c.back c.done hit c.tells c.run by answered in
          absurd (quiet-misses c.front s.back s.read counter s.key s.touch s.with_cas s.flags s.number s.value s.run quiet s.reads s.hits))
    ]

-- nothing is stored when a life begins, so before a hit a command may have written
pub hit_has_store : (home : Homes) (losses : Losses) (counter : ℕ) (order : Order) (texts outs : ℕ → List ℕ) (histories : ℕ → List Entry) (log : Log)
    → IsLinearizablePool home losses counter order texts outs histories log → (key : List ℕ) → AHitHasAWriter order histories log key
hit_has_store home losses counter order texts outs histories log pool key read hit by answered =
    let h = pool.keys key in
    let of = lived home losses counter order texts outs histories log pool key read in
    let from = of.from in
    let to = of.to in
    let low : ℕ = taken_before read.place of.life log in
    let c = cut counter order histories log key of.life read (life_run home counter order histories log key h read.place of.life) (from, to) in
    let s = seen home counter order histories log key h read c.front c.back c.done hit c.tells c.run by answered in
    elim (quiet_or_wrote order histories key read.place low read.number c.commands c.front c.rising c.told) [
      | inl quiet ↦ absurd (quiet-misses c.front s.back s.read counter s.key s.touch s.with_cas s.flags s.number s.value s.run quiet s.reads s.hits)
      | inr w ↦ (let after = w.from in
          let before = w.to in
          let inside : (taken_before read.place of.life log ≤ w.x.number) × (w.x.number < taken_before read.place (suc of.life) log) = (after, omega (arith, before, to)) in (
            w.x,
            of.life,
            w.at,
            subst (λ (p : ℕ). (taken_before p of.life log ≤ w.x.number) × (w.x.number < taken_before p (suc of.life) log)) (sym w.at) inside,
            (from, to),
            inr (w.at, w.to),
            w.wrote,
          ))
    ]
