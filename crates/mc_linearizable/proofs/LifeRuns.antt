-- The commands on a key that a server executed in one life are a run of its register.
use Rattle.std.proofs.Common.{◌≡◌, ◌∙◌, ℕ, zero, suc, ◌+◌, ◌-◌, ◌<◌, ◌≤◌, ◌⊎◌, inl, inr, true, false, if◌then◌else◌, List, [], ◌∷◌, take, Some, slice_get, refl, sym, ap, subst, arith}
use Rattle.std.proofs.lemmas.Bool.{true≢false}
use Rattle.std.proofs.lemmas.Option.{none-some, same_Some}
use Rattle.mc_request.specs.declared.parts.Atom.{Atom}
use Rattle.mc_route.specs.Routes.{to_place}
use Rattle.mc_route.specs.declared.routes.Routed.{Routed}
use Rattle.mc_link.specs.declared.turns.Tag.{Tag}
use Rattle.mc_account.specs.Lookups.{command_at}
use Rattle.mc_account.specs.Orders.{Order}
use Rattle.mc_history.specs.declared.entries.Entry.{Entry}
use Rattle.mc_history.specs.Histories.{tag_in}
use Rattle.mc_registers.specs.Laws.{is_on}
use Rattle.mc_registers.specs.Registers.{Done}
use Rattle.mc_registers.specs.Records.{RecordEach, Records, on_key}
use Rattle.mc_world.specs.Homes.{Homes}
use Rattle.mc_world.specs.Logs.{Log, in_life, taken_before}
use Rattle.mc_world.proofs.Log.LifeLemmas.{IsOfLife, got_in_life}
use Rattle.mc_world.proofs.SiteEvents.SiteLemmas.{get_past}
use Rattle.mc_linearizable.specs.Linearizable.{Executed, IsLinearizable}
use Rattle.mc_linearizable.specs.Clients.{AreRecorded, AreRising, HasRun, IsAmong, IsInLife}

-- a command has one atom
same_atom : (order : Order) (tag : Tag) (p q : ℕ) (a b : Atom (List ℕ)) → command_at order tag ≡ Some (to_place p a) → command_at order tag ≡ Some (to_place q b) → a ≡ b
same_atom order tag p q a b first second = ap (λ (c : Routed). c.atom) (same_Some (to_place p a) (to_place q b) (sym first ∙ second))

-- the record of a command has its atom
pub recorded-atom : (order : Order) (histories : ℕ → List Entry) (key : List ℕ) (x : Executed order histories key) (done : Done) → Records order x.place x.entry done → done.atom ≡ x.atom
recorded-atom order histories key x done tells = same_atom order (tag_in x.entry) x.place x.place done.atom x.atom tells.command x.command

-- commands of one place and number are one
pub same-entry : (order : Order) (histories : ℕ → List Entry) (key : List ℕ) (x y : Executed order histories key) → x.place ≡ y.place → x.number ≡ y.number → x.entry ≡ y.entry
same-entry order histories key x y place number =
    let at : slice_get (histories y.place) x.number ≡ Some x.entry = subst (λ (p : ℕ). slice_get (histories p) x.number ≡ Some x.entry) place x.at in
    let also : slice_get (histories y.place) y.number ≡ Some x.entry = subst (λ (n : ℕ). slice_get (histories y.place) n ≡ Some x.entry) number at in
    same_Some x.entry y.entry (sym also ∙ y.at)

pub same-recorded : (order : Order) (histories : ℕ → List Entry) (key : List ℕ) (x y : Executed order histories key) (done : Done) → x.place ≡ y.place → x.number ≡ y.number
    → Records order x.place x.entry done → Records order y.place y.entry done
same-recorded order histories key x y done place number tells =
    let same : x.entry ≡ y.entry = same-entry order histories key x y place number in
    subst (λ (p : ℕ). Records order p y.entry done) place (subst (λ (e : Entry). Records order x.place e done) same tells)

-- the commands of some entries, by their records
record AreMade (order : Order) (histories : ℕ → List Entry) (key : List ℕ) (place low high : ℕ) (entries : List Entry) (run : List Done) : Type 0 where
  commands : List (Executed order histories key)
  rising : AreRising place low high commands
  told : AreRecorded order commands run
  all : (x : Executed order histories key) (k : ℕ) → x.place ≡ place → x.number ≡ low + k → slice_get entries k ≡ Some x.entry → IsAmong x.number commands

-- each entry is in the history, and below a number
abbrev AreThere : List Entry → ℕ → ℕ → List Entry → Type 0
AreThere history low high entries = (k : ℕ) (e : Entry) → slice_get entries k ≡ Some e → (slice_get history (low + k) ≡ Some e) × (low + k < high)

there_later : (history : List Entry) (low high : ℕ) (e : Entry) (es : List Entry) → AreThere history low high (e ∷ es) → AreThere history (suc low) high es
there_later history low high e es there k d at =
    let here = there (suc k) d at in
    let same : low + suc k ≡ suc low + k = omega arith in
    (ap (λ (n : ℕ). slice_get history n) (sym same) ∙ here.0, omega (arith, here.1, same))

more_rising : (order : Order) (histories : ℕ → List Entry) (key : List ℕ) (place low high : ℕ) (xs : List (Executed order histories key))
    → AreRising place (suc low) high xs → AreRising place low high xs
more_rising order histories key place low high [] rising = tt
more_rising order histories key place low high (x ∷ xs) rising = (rising.0, omega (arith, rising.1), rising.2, rising.3)

-- an entry on the key adds a command, and another adds none
made_on : (order : Order) (histories : ℕ → List Entry) (key : List ℕ) (place low high : ℕ) (e : Entry) (es : List Entry) (done : Done) (run : List Done)
    → Records order place e done → slice_get (histories place) low ≡ Some e → low < high → is_on key done.atom ≡ true
    → AreMade order histories key place (suc low) high es run → AreMade order histories key place low high (e ∷ es) (done ∷ run)
made_on order histories key place low high e es done run tells at below on made =
    let x : Executed order histories key =
    record { place = place; number = low; entry = e; atom = done.atom; at = at; command = tells.command; on = on } in
    record {
      commands = x ∷ made.commands;
      rising = (refl, omega arith, below, made.rising);
      told = (tells, made.told);
      all = λ y k same number there. among y k same number there;
    }
  where
    among : (y : Executed order histories key) (k : ℕ) → y.place ≡ place → y.number ≡ low + k → slice_get (e ∷ es) k ≡ Some y.entry
        → (y.number ≡ low) ⊎ IsAmong y.number made.commands
    among y zero same number there = inl (omega (arith, number))
    among y (suc k) same number there = inr (made.all y k same (omega (arith, number)) there)

made_off : (order : Order) (histories : ℕ → List Entry) (key : List ℕ) (place low high : ℕ) (e : Entry) (es : List Entry) (done : Done) (run : List Done)
    → Records order place e done → is_on key done.atom ≡ false
    → AreMade order histories key place (suc low) high es run → AreMade order histories key place low high (e ∷ es) run
made_off order histories key place low high e es done run tells off made =
    record {
      commands = made.commands;
      rising = more_rising order histories key place low high made.commands made.rising;
      told = made.told;
      all = λ y k same number there. among y k same number there;
    }
  where
    among : (y : Executed order histories key) (k : ℕ) → y.place ≡ place → y.number ≡ low + k → slice_get (e ∷ es) k ≡ Some y.entry → IsAmong y.number made.commands
    among y zero same number there =
        let its : e ≡ y.entry = same_Some e y.entry there in
        let atom : done.atom ≡ y.atom =
        same_atom order (tag_in y.entry) place y.place done.atom y.atom (ap (λ (d : Entry). command_at order (tag_in d)) (sym its) ∙ tells.command) y.command in
        absurd (true≢false (sym y.on ∙ ap (λ (a : Atom (List ℕ)). is_on key a) (sym atom) ∙ off))
    among y (suc k) same number there = made.all y k same (omega (arith, number)) there

make : (order : Order) (histories : ℕ → List Entry) (key : List ℕ) (place low high : ℕ) (entries : List Entry) (all : List Done) → RecordEach order place entries all
    → AreThere (histories place) low high entries → AreMade order histories key place low high entries (on_key key all)
make order histories key place low high [] [] tell there =
    record { commands = []; rising = tt; told = tt; all = λ y k same number at. absurd (nothing y k at) }
  where
    nothing : (y : Executed order histories key) (k : ℕ) → slice_get [] k ≡ Some y.entry → ⊥
    nothing y zero at = none-some y.entry at
    nothing y (suc k) at = none-some y.entry at
make order histories key place low high [] (done ∷ all) tell there = absurd tell
make order histories key place low high (e ∷ es) [] tell there = absurd tell
make order histories key place low high (e ∷ es) (done ∷ all) tell there =
    let rest = make order histories key place (suc low) high es all tell.1 (there_later (histories place) low high e es there) in
    let here = there 0 e refl in
    let same : low + 0 ≡ low = omega arith in
    let at : slice_get (histories place) low ≡ Some e = ap (λ (n : ℕ). slice_get (histories place) n) (sym same) ∙ here.0 in
    (elim (is_on key done.atom) as (λ v. is_on key done.atom ≡ v
    → AreMade order histories key place low high (e ∷ es) (if v then done ∷ on_key key all else on_key key all)) [
      | true ↦ λ on. made_on order histories key place low high e es done (on_key key all) tell.0 at (omega (arith, here.1, same)) on rest
      | false ↦ λ off. made_off order histories key place low high e es done (on_key key all) tell.0 off rest
    ]) refl

-- an element of a front is one of the list
in_front : {X : Type 0} (n : ℕ) (xs : List X) (k : ℕ) (x : X) → slice_get (take n xs) k ≡ Some x → (k < n) × (slice_get xs k ≡ Some x)
in_front zero [] zero x at = absurd (none-some x at)
in_front zero [] (suc k) x at = absurd (none-some x at)
in_front (suc n) [] zero x at = absurd (none-some x at)
in_front (suc n) [] (suc k) x at = absurd (none-some x at)
in_front zero (y ∷ ys) zero x at = absurd (none-some x at)
in_front zero (y ∷ ys) (suc k) x at = absurd (none-some x at)
in_front (suc n) (y ∷ ys) zero x at = (omega arith, at)
in_front (suc n) (y ∷ ys) (suc k) x at = let rest = in_front n ys k x at in (omega (arith, rest.0), rest.1)

there_in_life : (place life : ℕ) (log : Log) (history : List Entry)
    → AreThere history (taken_before place life log) (taken_before place (suc life) log) (in_life place life log history)
there_in_life place life log history k e at =
    let low : ℕ = taken_before place life log in
    let front = in_front (taken_before place (suc life) log) history (k + low) e (sym (get_past (take (taken_before place (suc life) log) history) low k) ∙ at) in
    let same : k + low ≡ low + k = omega arith in
    (ap (λ (n : ℕ). slice_get history n) (sym same) ∙ front.1, omega (arith, front.0, same))

pub life_run : (home : Homes) (counter : ℕ) (order : Order) (histories : ℕ → List Entry) (log : Log) (key : List ℕ) → IsLinearizable home counter order histories log key
    → (place life : ℕ) → HasRun counter order histories log key place life
life_run home counter order histories log key h place life =
    let low : ℕ = taken_before place life log in
    let high : ℕ = taken_before place (suc life) log in
    let own = h.lives place life in
    let m = make order histories key place low high (in_life place life log (histories place)) own.0 own.1 (there_in_life place life log (histories place)) in
    record {
      commands = m.commands;
      rising = m.rising;
      all = λ x same inside. m.all x (x.number - low) same (back_to x same inside) (there x same inside);
      run = on_key key own.0;
      told = m.told;
      is_run = own.2;
    }
  where
    back_to : (x : Executed order histories key) → x.place ≡ place → IsInLife life log x
        → x.number ≡ taken_before place life log + (x.number - taken_before place life log)
    back_to x same inside =
        let from : taken_before place life log ≤ x.number = subst (λ (p : ℕ). taken_before p life log ≤ x.number) same inside.0 in
        omega (arith, from)

    there : (x : Executed order histories key) → x.place ≡ place → IsInLife life log x
        → slice_get (in_life place life log (histories place)) (x.number - taken_before place life log) ≡ Some x.entry
    there x same inside =
        let of : IsOfLife place x.number log = record {
          life = life;
          from = subst (λ (p : ℕ). taken_before p life log ≤ x.number) same inside.0;
          to = subst (λ (p : ℕ). x.number < taken_before p (suc life) log) same inside.1;
        } in
        got_in_life place x.number log (histories place) of ∙ subst (λ (p : ℕ). slice_get (histories p) x.number ≡ Some x.entry) same x.at
