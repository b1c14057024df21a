-- A run of a life, cut at one or two of its commands.
use Rattle.std.proofs.Common.{◌≡◌, ◌∙◌, ℕ, suc, ◌<◌, ◌≤◌, ◌⊎◌, inl, inr, true, false, List, [], ◌∷◌, ◌++◌, None, refl, sym, ap, subst, arith}
use Rattle.std.proofs.lemmas.Bool.{false_from_ne_true}
use Rattle.mc_request.specs.declared.parts.Atom.{Atom}
use Rattle.mc_reply.specs.Spelling.{spelling_of}
use Rattle.mc_account.specs.Orders.{Order}
use Rattle.mc_history.specs.declared.entries.Entry.{Entry}
use Rattle.mc_registers.specs.Guarantees.{AreQuiet, HaveNotWritten, has_written, may_have_written}
use Rattle.mc_registers.specs.Registers.{Done, IsRun}
use Rattle.mc_registers.specs.Records.{Records}
use Rattle.mc_world.specs.Logs.{Log, taken_before}
use Rattle.mc_linearizable.specs.Linearizable.{Executed}
use Rattle.mc_linearizable.specs.Clients.{AreRecorded, AreRising, HasNotWritten, HasRun, HasWritten, IsAmong, IsInLife, MayHaveWritten}
use Rattle.mc_linearizable.proofs.LifeRuns.{recorded-atom, same-recorded}

-- a number that is among others is not below the first
among-low : (order : Order) (histories : ℕ → List Entry) (key : List ℕ) (place low high number : ℕ) (xs : List (Executed order histories key)) → AreRising place low high xs
    → IsAmong number xs → low ≤ number
among-low order histories key place low high number [] rising among = absurd among
among-low order histories key place low high number (x ∷ xs) rising (inl is) = omega (arith, rising.1, is)
among-low order histories key place low high number (x ∷ xs) rising (inr later) =
    let past = among-low order histories key place (suc x.number) high number xs rising.3 later in
    omega (arith, rising.1, past)

-- commands and their records, split at one
record IsSplit (order : Order) (histories : ℕ → List Entry) (key : List ℕ) (place low high number : ℕ) (xs : List (Executed order histories key)) (run : List Done) : Type 0 where
  pub front : List (Executed order histories key)
  pub x : Executed order histories key
  pub back : List (Executed order histories key)
  pub before : List Done
  pub done : Done
  pub after : List Done
  pub whole : run ≡ before ++ done ∷ after
  pub at : x.place ≡ place
  pub is : x.number ≡ number
  pub tells : Records order x.place x.entry done
  pub front_rising : AreRising place low number front
  pub front_told : AreRecorded order front before
  pub back_rising : AreRising place (suc number) high back
  pub back_told : AreRecorded order back after
  pub earlier : (n : ℕ) → n < number → IsAmong n xs → IsAmong n front
  pub later : (n : ℕ) → number < n → IsAmong n xs → IsAmong n back

-- the split at the first command
split_here : (order : Order) (histories : ℕ → List Entry) (key : List ℕ) (place low high number : ℕ) (x : Executed order histories key) (xs : List (Executed order histories key))
    (done : Done) (run : List Done) → AreRising place low high (x ∷ xs) → AreRecorded order (x ∷ xs) (done ∷ run) → number ≡ x.number
    → IsSplit order histories key place low high number (x ∷ xs) (done ∷ run)
split_here order histories key place low high number x xs done run rising told is =
    record {
      front = [];
      x = x;
      back = xs;
      before = [];
      done = done;
      after = run;
      whole = refl;
      at = rising.0;
      is = sym is;
      tells = told.0;
      front_rising = tt;
      front_told = tt;
      back_rising = subst (λ (n : ℕ). AreRising place (suc n) high xs) (sym is) rising.3;
      back_told = told.1;
      earlier = none;
      later = all;
    }
  where
    none : (n : ℕ) → n < number → (n ≡ x.number) ⊎ IsAmong n xs → ⊥
    none n less (inl same) = absurd (omega (arith, less, same, is))
    none n less (inr past) =
        let low_is = among-low order histories key place (suc x.number) high n xs rising.3 past in
        absurd (omega (arith, less, low_is, is))

    all : (n : ℕ) → number < n → (n ≡ x.number) ⊎ IsAmong n xs → IsAmong n xs
    all n more (inl same) = absurd (omega (arith, more, same, is))
    all n more (inr past) = past

-- the split at a later command
split_later : (order : Order) (histories : ℕ → List Entry) (key : List ℕ) (place low high number : ℕ) (x : Executed order histories key) (xs : List (Executed order histories key))
    (done : Done) (run : List Done) → AreRising place low high (x ∷ xs) → AreRecorded order (x ∷ xs) (done ∷ run) → x.number < number
    → IsSplit order histories key place (suc x.number) high number xs run → IsSplit order histories key place low high number (x ∷ xs) (done ∷ run)
split_later order histories key place low high number x xs done run rising told past s =
    record {
      front = x ∷ s.front;
      x = s.x;
      back = s.back;
      before = done ∷ s.before;
      done = s.done;
      after = s.after;
      whole = ap (λ (es : List Done). done ∷ es) s.whole;
      at = s.at;
      is = s.is;
      tells = s.tells;
      front_rising = (rising.0, rising.1, past, s.front_rising);
      front_told = (told.0, s.front_told);
      back_rising = s.back_rising;
      back_told = s.back_told;
      earlier = keep;
      later = leave;
    }
  where
    keep : (n : ℕ) → n < number → (n ≡ x.number) ⊎ IsAmong n xs → (n ≡ x.number) ⊎ IsAmong n s.front
    keep n less (inl same) = inl same
    keep n less (inr there) = inr (s.earlier n less there)

    leave : (n : ℕ) → number < n → (n ≡ x.number) ⊎ IsAmong n xs → IsAmong n s.back
    leave n more (inl same) = absurd (omega (arith, more, same, past))
    leave n more (inr there) = s.later n more there

split : (order : Order) (histories : ℕ → List Entry) (key : List ℕ) (place low high number : ℕ) (xs : List (Executed order histories key)) (run : List Done)
    → AreRising place low high xs → AreRecorded order xs run → IsAmong number xs → IsSplit order histories key place low high number xs run
split order histories key place low high number [] run rising told among = absurd among
split order histories key place low high number (x ∷ xs) [] rising told among = absurd told
split order histories key place low high number (x ∷ xs) (done ∷ run) rising told (inl is) =
    split_here order histories key place low high number x xs done run rising told is
split order histories key place low high number (x ∷ xs) (done ∷ run) rising told (inr among) =
    let past = among-low order histories key place (suc x.number) high number xs rising.3 among in
    split_later order histories key place low high number x xs done run rising told (omega (arith, past))
    (split order histories key place (suc x.number) high number xs run rising.3 told.1 among)

-- the run of a life, cut at a command of it
pub record IsCut (counter : ℕ) (order : Order) (histories : ℕ → List Entry) (key : List ℕ) (low : ℕ) (a : Executed order histories key) : Type 0 where
  pub commands : List (Executed order histories key)
  pub front : List Done
  pub done : Done
  pub back : List Done
  pub run : IsRun counter None (front ++ done ∷ back)
  pub tells : Records order a.place a.entry done
  pub rising : AreRising a.place low a.number commands
  pub told : AreRecorded order commands front

pub cut : (counter : ℕ) (order : Order) (histories : ℕ → List Entry) (log : Log) (key : List ℕ) (life : ℕ) (a : Executed order histories key)
    → HasRun counter order histories log key a.place life → IsInLife life log a → IsCut counter order histories key (taken_before a.place life log) a
cut counter order histories log key life a h inside =
    let s = split order histories key a.place (taken_before a.place life log) (taken_before a.place (suc life) log) a.number h.commands h.run h.rising h.told (h.all a refl inside) in
    record {
      commands = s.front;
      front = s.before;
      done = s.done;
      back = s.after;
      run = subst (λ (es : List Done). IsRun counter None es) s.whole h.is_run;
      tells = same-recorded order histories key s.x a s.done s.at s.is s.tells;
      rising = s.front_rising;
      told = s.front_told;
    }

-- the run of a life, cut at two of its commands
pub record AreCut (counter : ℕ) (order : Order) (histories : ℕ → List Entry) (key : List ℕ) (a b : Executed order histories key) : Type 0 where
  pub commands : List (Executed order histories key)
  pub front : List Done
  pub first : Done
  pub between : List Done
  pub last : Done
  pub back : List Done
  pub run : IsRun counter None (front ++ first ∷ (between ++ last ∷ back))
  pub first_tells : Records order a.place a.entry first
  pub last_tells : Records order b.place b.entry last
  pub rising : AreRising a.place (suc a.number) b.number commands
  pub told : AreRecorded order commands between
  pub all : (x : Executed order histories key) → x.place ≡ a.place → a.number < x.number → x.number < b.number → IsAmong x.number commands

pub cut_two : (counter : ℕ) (order : Order) (histories : ℕ → List Entry) (log : Log) (key : List ℕ) (life : ℕ) (a b : Executed order histories key)
    → HasRun counter order histories log key a.place life → b.place ≡ a.place → IsInLife life log a → IsInLife life log b → a.number < b.number
    → AreCut counter order histories key a b
cut_two counter order histories log key life a b h same inside also less =
    let low : ℕ = taken_before a.place life log in
    let high : ℕ = taken_before a.place (suc life) log in
    let s = split order histories key a.place low high a.number h.commands h.run h.rising h.told (h.all a refl inside) in
    let t = split order histories key a.place (suc a.number) high b.number s.back s.after s.back_rising s.back_told (s.later b.number less (h.all b same also)) in
    record {
      commands = t.front;
      front = s.before;
      first = s.done;
      between = t.before;
      last = t.done;
      back = t.after;
      run = subst (λ (es : List Done). IsRun counter None es) (s.whole ∙ ap (λ (es : List Done). s.before ++ s.done ∷ es) t.whole) h.is_run;
      first_tells = same-recorded order histories key s.x a s.done s.at s.is s.tells;
      last_tells = same-recorded order histories key t.x b t.done (t.at ∙ sym same) t.is t.tells;
      rising = t.front_rising;
      told = t.front_told;
      all = λ x at more few. t.earlier x.number few (s.later x.number more (h.all x at (here x at more few)));
    }
  where
    here : (x : Executed order histories key) → x.place ≡ a.place → a.number < x.number → x.number < b.number → IsInLife life log x
    here x at more few =
        let high_is : b.number < taken_before a.place (suc life) log = subst (λ (p : ℕ). b.number < taken_before p (suc life) log) same also.1 in
        let low_is : taken_before a.place life log ≤ a.number = inside.0 in
        subst (λ (p : ℕ). (taken_before p life log ≤ x.number) × (x.number < taken_before p (suc life) log)) (sym at)
        (omega (arith, low_is, more), omega (arith, high_is, few))

-- one of the commands of a run may have written, or none may
pub record IsWriter (order : Order) (histories : ℕ → List Entry) (key : List ℕ) (place low high : ℕ) : Type 0 where
  pub x : Executed order histories key
  pub wrote : MayHaveWritten x
  pub at : x.place ≡ place
  pub from : low ≤ x.number
  pub to : x.number < high

pub told_wrote : (order : Order) (histories : ℕ → List Entry) (key : List ℕ) (x : Executed order histories key) (done : Done)
    → Records order x.place x.entry done
    → may_have_written done.atom done.reply ≡ true → MayHaveWritten x
told_wrote order histories key x done tells wrote =
    let same : done.atom ≡ x.atom = recorded-atom order histories key x done tells in (
      done.reply,
      tells.reply ∙ ap (λ (a : Atom (List ℕ)). spelling_of a done.reply) same,
      subst (λ (a : Atom (List ℕ)). may_have_written a done.reply ≡ true) same wrote,
    )

pub quiet_or_wrote : (order : Order) (histories : ℕ → List Entry) (key : List ℕ) (place low high : ℕ) (xs : List (Executed order histories key)) (run : List Done)
    → AreRising place low high xs → AreRecorded order xs run → AreQuiet run ⊎ IsWriter order histories key place low high
quiet_or_wrote order histories key place low high [] [] rising told = inl tt
quiet_or_wrote order histories key place low high [] (done ∷ run) rising told = absurd told
quiet_or_wrote order histories key place low high (x ∷ xs) [] rising told = absurd told
quiet_or_wrote order histories key place low high (x ∷ xs) (done ∷ run) rising told =
    let again = quiet_or_wrote order histories key place (suc x.number) high xs run rising.3 told.1 in
    (elim (may_have_written done.atom done.reply) as (λ v. may_have_written done.atom done.reply ≡ v
    → ((may_have_written done.atom done.reply ≡ false) × AreQuiet run) ⊎ IsWriter order histories key place low high) [
      | true ↦ λ wrote. inr (record { x = x; wrote = told_wrote order histories key x done told.0 wrote; at = rising.0; from = rising.1; to = rising.2 })
      | false ↦ λ quiet. elim again [
        | inl rest ↦ inl (quiet, rest)
        | inr w ↦ inr (let from = w.from in record { x = w.x; wrote = w.wrote; at = w.at; from = omega (arith, from, rising.1); to = w.to })
      ]
    ]) refl

-- if no command has written, none has in the run
pub told_has : (order : Order) (histories : ℕ → List Entry) (key : List ℕ) (x : Executed order histories key) (done : Done) → Records order x.place x.entry done
    → has_written done.atom done.reply ≡ true → HasWritten x
told_has order histories key x done tells wrote =
    let same : done.atom ≡ x.atom = recorded-atom order histories key x done tells in (
      done.reply,
      tells.reply ∙ ap (λ (a : Atom (List ℕ)). spelling_of a done.reply) same,
      subst (λ (a : Atom (List ℕ)). has_written a done.reply ≡ true) same wrote,
    )

pub none_wrote : (order : Order) (histories : ℕ → List Entry) (key : List ℕ) (place low high : ℕ) (xs : List (Executed order histories key)) (run : List Done)
    → AreRising place low high xs → AreRecorded order xs run
    → ((x : Executed order histories key) → x.place ≡ place → low ≤ x.number → x.number < high → HasWritten x → ⊥) → HaveNotWritten run
none_wrote order histories key place low high [] [] rising told never = tt
none_wrote order histories key place low high [] (done ∷ run) rising told never = absurd told
none_wrote order histories key place low high (x ∷ xs) [] rising told never = absurd told
none_wrote order histories key place low high (x ∷ xs) (done ∷ run) rising told never = (
  false_from_ne_true (has_written done.atom done.reply) (λ wrote. never x rising.0 rising.1 rising.2 (told_has order histories key x done told.0 wrote)),
  none_wrote order histories key place (suc x.number) high xs run rising.3 told.1 (λ y at from to. never y at (omega (arith, from, rising.1)) to),
)

-- if none of some commands has written, each of them has not
told_has_not : (order : Order) (histories : ℕ → List Entry) (key : List ℕ) (x : Executed order histories key) (done : Done) → Records order x.place x.entry done
    → has_written done.atom done.reply ≡ false → HasNotWritten x
told_has_not order histories key x done tells quiet =
    let same : done.atom ≡ x.atom = recorded-atom order histories key x done tells in (
      done.reply,
      tells.reply ∙ ap (λ (a : Atom (List ℕ)). spelling_of a done.reply) same,
      subst (λ (a : Atom (List ℕ)). has_written a done.reply ≡ false) same quiet,
    )

pub each_not : (order : Order) (histories : ℕ → List Entry) (key : List ℕ) (place low high : ℕ) (xs : List (Executed order histories key)) (run : List Done)
    → AreRising place low high xs → AreRecorded order xs run → HaveNotWritten run → (y : Executed order histories key) → y.place ≡ place → IsAmong y.number xs → HasNotWritten y
each_not order histories key place low high [] run rising told not y at among = absurd among
each_not order histories key place low high (x ∷ xs) [] rising told not y at among = absurd told
each_not order histories key place low high (x ∷ xs) (done ∷ run) rising told not y at (inl is) =
    told_has_not order histories key y done (same-recorded order histories key x y done (rising.0 ∙ sym at) (sym is) told.0) not.0
each_not order histories key place low high (x ∷ xs) (done ∷ run) rising told not y at (inr among) =
    each_not order histories key place (suc x.number) high xs run rising.3 told.1 not.1 y at among
