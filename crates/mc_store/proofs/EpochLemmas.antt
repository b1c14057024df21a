-- The live ones of entries of several epochs.
use Rattle.std.proofs.Common.{◌≡◌, ◌≢◌, ℕ, zero, suc, ◌+◌, ◌-◌, ◌<◌, ◌≤◌, List, [], ◌∷◌, ◌++◌, length, take, drop, Option, Some, None, IfSome, refl, sym, ap, ◌∙◌, subst, arith, append_assoc}
use Rattle.std.specs.Str.{bytes_eq}
use Rattle.std.specs.Map.{lookup, lookup_entry, remove_entry}
use Rattle.std.specs.Option.{option_map}
use Rattle.std.proofs.lemmas.List.{length_push}
use Rattle.mc_table.specs.Tables.{put_entry}
use Rattle.mc_item.specs.declared.bodies.Body.{Body}
use Rattle.mc_store.specs.declared.epoch_entries.EpochEntry.{EpochEntry}
use Rattle.mc_store.specs.Items.{Items, body_at, without}
use Rattle.mc_store.specs.Epochs.{Entries, live, AreDead, IsParted, HasRoom, IsLetGo, IsGivenBack}
use Rattle.mc_store.specs.Recents.{written}
use Rattle.mc_store.proofs.DeadLemmas.{dead_let_go, dead_without}
use Rattle.mc_store.proofs.HeldLemmas.{held_at, cut, lookup_is, remove_is, entry_is, set_is}

-- dead entries stay so if an entry is removed
dead_cut : (key : List ℕ) (epoch : ℕ) (entries : Entries) → AreDead epoch entries → AreDead epoch (cut key entries)
dead_cut key epoch [] dead = tt
dead_cut key epoch (entry ∷ entries) dead =
    let again : AreDead epoch (cut key entries) = dead_cut key epoch entries dead.1 in
    grind (arith, cut)

-- what is stored in dead entries is dead
dead_held : (key : List ℕ) (epoch : ℕ) (entries : Entries) (held : EpochEntry) → AreDead epoch entries → held_at key entries ≡ Some held → held.epoch < epoch
dead_held key epoch [] held dead at = absurd cc
dead_held key epoch (entry ∷ entries) held dead at =
    let again : held_at key entries ≡ Some held → held.epoch < epoch = dead_held key epoch entries held dead.1 in
    grind (arith, held_at)

-- the front of dead entries
dead_front : (epoch : ℕ) (front gone : Entries) → AreDead epoch (front ++ gone) → AreDead epoch front
dead_front epoch [] gone dead = tt
dead_front epoch (entry ∷ front) gone dead = (dead.0, dead_front epoch front gone dead.1)

dead_take : (epoch n : ℕ) (entries : Entries) → AreDead epoch entries → AreDead epoch (take n entries)
dead_take epoch zero entries dead = tt
dead_take epoch (suc n) [] dead = tt
dead_take epoch (suc n) (entry ∷ entries) dead = (dead.0, dead_take epoch n entries dead.1)

-- all entries are dead in the next epoch
dead_next : (epoch next : ℕ) (entries : Entries) → AreDead epoch entries → next ≡ epoch + 1 → AreDead next entries
dead_next epoch next [] dead is = tt
dead_next epoch next (entry ∷ entries) dead is = (omega (arith, dead.0), dead_next epoch next entries dead.1 is)

pub all_dead : (epoch count next : ℕ) (entries : Entries) → IsParted epoch count entries → next ≡ epoch + 1 → AreDead next entries
all_dead epoch zero next entries parted is = dead_next epoch next entries parted is
all_dead epoch (suc count) next [] parted is = tt
all_dead epoch (suc count) next (entry ∷ entries) parted is = grind (arith, all_dead epoch count next entries parted.1 is)

-- the number of the live ones
pub length-live : (epoch count : ℕ) (entries : Entries) → IsParted epoch count entries → length (live count entries) ≡ count
length-live epoch zero entries parted = refl
length-live epoch (suc count) [] parted = absurd parted
length-live epoch (suc count) (entry ∷ entries) parted = ap suc (length-live epoch count entries parted.1)

pub count-fits : (epoch count : ℕ) (entries : Entries) → IsParted epoch count entries → count ≤ length entries
count-fits epoch zero entries parted = omega arith
count-fits epoch (suc count) [] parted = absurd parted
count-fits epoch (suc count) (entry ∷ entries) parted = omega (arith, count-fits epoch count entries parted.1)

-- the same entries are live in a front that has them all
pub parted_front : (epoch count : ℕ) (front gone : Entries) → IsParted epoch count (front ++ gone) → count ≤ length front
    → IsParted epoch count front × (live count front ≡ live count (front ++ gone))
parted_front epoch zero front gone parted fits = (dead_front epoch front gone parted, refl)
parted_front epoch (suc count) [] gone parted fits = absurd (omega arith)
parted_front epoch (suc count) (entry ∷ front) gone parted fits =
    let again : IsParted epoch count front × (live count front ≡ live count (front ++ gone)) = parted_front epoch count front gone parted.1 (omega arith) in
    ((parted.0, again.0), ap (λ (is : Items). (entry.0, entry.1.body) ∷ is) again.1)

pub parted_take : (epoch count n : ℕ) (entries : Entries) → IsParted epoch count entries → count ≤ n
    → IsParted epoch count (take n entries) × (live count (take n entries) ≡ live count entries)
parted_take epoch zero n entries parted fits = (dead_take epoch n entries parted, refl)
parted_take epoch (suc count) zero entries parted fits = absurd (omega arith)
parted_take epoch (suc count) (suc n) [] parted fits = absurd parted
parted_take epoch (suc count) (suc n) (entry ∷ entries) parted fits =
    let again : IsParted epoch count (take n entries) × (live count (take n entries) ≡ live count entries) = parted_take epoch count n entries parted.1 (omega arith) in
    ((parted.0, again.0), ap (λ (is : Items). (entry.0, entry.1.body) ∷ is) again.1)

-- the live ones stay if an entry is removed whose key is not live
parted_cut : (key : List ℕ) (epoch count : ℕ) (entries : Entries) → IsParted epoch count entries → body_at key (live count entries) ≡ None
    → IsParted epoch count (cut key entries) × (live count (cut key entries) ≡ live count entries)
parted_cut key epoch zero entries parted absent = (dead_cut key epoch entries parted, refl)
parted_cut key epoch (suc count) [] parted absent = absurd parted
parted_cut key epoch (suc count) (entry ∷ entries) parted absent =
    let again : body_at key (live count entries) ≡ None → IsParted epoch count (cut key entries) × (live count (cut key entries) ≡ live count entries) =
    parted_cut key epoch count entries parted.1 in
    grind (arith, cut)

-- what is not stored is not live
absent_is : (key : List ℕ) (count : ℕ) (entries : Entries) → held_at key entries ≡ None → body_at key (live count entries) ≡ None
absent_is key zero entries none = refl
absent_is key (suc count) [] none = refl
absent_is key (suc count) (entry ∷ entries) none =
    let again : held_at key entries ≡ None → body_at key (live count entries) ≡ None = absent_is key count entries in
    grind (arith, held_at)

-- nor is what was put in another epoch
dead_is : (key : List ℕ) (epoch count : ℕ) (entries : Entries) (held : EpochEntry) → IsParted epoch count entries → held_at key entries ≡ Some held
    → held.epoch ≢ epoch → body_at key (live count entries) ≡ None
dead_is key epoch zero entries held parted at other = refl
dead_is key epoch (suc count) [] held parted at other = absurd parted
dead_is key epoch (suc count) (entry ∷ entries) held parted at other =
    let again : held_at key entries ≡ Some held → body_at key (live count entries) ≡ None = λ further. dead_is key epoch count entries held parted.1 further other in
    grind (arith, held_at)

-- a live entry, and what is left without it
pub record IsLiveAt (key : List ℕ) (epoch count : ℕ) (entries : Entries) (held : EpochEntry) : Type 0 where
  pub others : ℕ
  pub one_more : count ≡ suc others
  pub body : body_at key (live count entries) ≡ Some held.body
  pub parted : IsParted epoch others (cut key entries)
  pub left : live others (cut key entries) ≡ without key (live count entries)
  pub dead : drop others (cut key entries) ≡ drop count entries

live_is : (key : List ℕ) (epoch count : ℕ) (entries : Entries) (held : EpochEntry) → IsParted epoch count entries → held_at key entries ≡ Some held
    → held.epoch ≡ epoch → IsLiveAt key epoch count entries held
live_is key epoch zero entries held parted at now = absurd (omega (arith, dead_held key epoch entries held parted at, now))
live_is key epoch (suc count) [] held parted at now = absurd parted
live_is key epoch (suc count) (entry ∷ entries) held parted at now =
    let again : held_at key entries ≡ Some held → IsLiveAt key epoch count entries held = λ further. live_is key epoch count entries held parted.1 further now in
    grind (arith, held_at, cut)

-- what a look-up says of the live ones
pub looks_live : (key : List ℕ) (epoch count : ℕ) (entries : Entries) (held : EpochEntry) → IsParted epoch count entries
    → lookup (bytes_eq key) entries ≡ Some held → held.epoch ≡ epoch → IsLiveAt key epoch count entries held
looks_live key epoch count entries held parted found now = live_is key epoch count entries held parted (sym (lookup_is key entries) ∙ found) now

pub looks_dead : (key : List ℕ) (epoch count : ℕ) (entries : Entries) (held : EpochEntry) → IsParted epoch count entries
    → lookup (bytes_eq key) entries ≡ Some held → held.epoch ≢ epoch → body_at key (live count entries) ≡ None
looks_dead key epoch count entries held parted found other = dead_is key epoch count entries held parted (sym (lookup_is key entries) ∙ found) other

pub looks_none : (key : List ℕ) (count : ℕ) (entries : Entries) → lookup (bytes_eq key) entries ≡ None → body_at key (live count entries) ≡ None
looks_none key count entries none = absent_is key count entries (sym (lookup_is key entries) ∙ none)

-- what letting entries go leaves
pub leaves : (epoch count price : ℕ) (old new : Entries) → IsParted epoch count old → IsLetGo price count old new
    → IsParted epoch count new × (live count new ≡ live count old)
leaves epoch count price old new parted go = grind (arith, parted_front)

-- what a write to a live body leaves
pub record IsWritten (key : List ℕ) (epoch count : ℕ) (old new : Entries) (before after : Body) : Type 0 where
  pub parted : IsParted epoch count new
  pub held : body_at key (live count old) ≡ Some before
  pub items : live count new ≡ (key, after) ∷ without key (live count old)
  pub dead : drop count new ≡ drop count old

writes_held : (key : List ℕ) (epoch count : ℕ) (old : Entries) (held after : EpochEntry) → IsParted epoch count old
    → Some held ≡ lookup (bytes_eq key) old → held.epoch ≡ epoch → after.epoch ≡ epoch → IsWritten key epoch count old (written key old after) held.body after.body
writes_held key epoch count old held after parted found now still =
    let at : held_at key old ≡ Some held = sym (found ∙ lookup_is key old) in
    let there : IsLiveAt key epoch count old held = live_is key epoch count old held parted at now in
    grind (arith, cut, set_is)

pub writes : (key : List ℕ) (epoch count : ℕ) (old new : Entries) (held after : EpochEntry) → IsParted epoch count old
    → Some held ≡ lookup (bytes_eq key) old → held.epoch ≡ epoch → after.epoch ≡ epoch → new ≡ written key old after
    → IsWritten key epoch count old new held.body after.body
writes key epoch count old new held after parted found now still is = rw is (writes_held key epoch count old held after parted found now still)

-- what it leaves, once others were freed
pub record IsReplaced (key : List ℕ) (epoch count price : ℕ) (old new : Entries) (before after : Body) : Type 0 where
  pub parted : IsParted epoch count new
  pub held : body_at key (live count old) ≡ Some before
  pub items : live count new ≡ (key, after) ∷ without key (live count old)
  pub dead : IsLetGo price 0 (drop count old) (drop count new)

pub replaces : (key : List ℕ) (epoch count price : ℕ) (old mid new : Entries) (held after : EpochEntry) → IsParted epoch count old
    → Some held ≡ lookup (bytes_eq key) old → held.epoch ≡ epoch → after.epoch ≡ epoch → mid ≡ written key old after → IsLetGo price count mid new
    → IsReplaced key epoch count price old new held.body after.body
replaces key epoch count price old mid new held after parted found now still is go =
    let wrote = writes key epoch count old mid held after parted found now still is in
    let left = leaves epoch count price mid new wrote.parted go in
    record {
      parted = left.0;
      held = wrote.held;
      items = left.1 ∙ wrote.items;
      dead = subst (λ (es : Entries). IsLetGo price 0 es (drop count new)) wrote.dead (dead_let_go price count mid new go);
    }

-- what freeing a dead entry leaves that a look-up has promoted
pub lets_go : (key : List ℕ) (epoch count : ℕ) (old mid new : Entries) (held : EpochEntry) → IsParted epoch count old
    → Some held ≡ lookup (bytes_eq key) old → held.epoch ≢ epoch → mid ≡ written key old held → new ≡ drop 1 mid
    → IsParted epoch count new × (live count new ≡ live count old) × (body_at key (live count old) ≡ None)
lets_go key epoch count old mid new held parted found other promoted is =
    let at : held_at key old ≡ Some held = sym (found ∙ lookup_is key old) in
    let absent : body_at key (live count old) ≡ None = dead_is key epoch count old held parted at other in
    let left : new ≡ cut key old = is ∙ ap (λ (es : Entries). drop 1 es) (promoted ∙ set_is key old held held at) in
    let rest : IsParted epoch count (cut key old) × (live count (cut key old) ≡ live count old) = parted_cut key epoch count old parted absent in
    (rw left rest.0, rw left rest.1, absent)

-- what taking the entry out leaves
found_is : (key : List ℕ) (old : Entries) (entry : List ℕ × EpochEntry) → lookup_entry (bytes_eq key) old ≡ Some entry
    → (entry.0 ≡ key) × (held_at key old ≡ Some entry.1)
found_is key old entry found = grind (arith, held_at, entry_is)

pub record IsTaken (key : List ℕ) (epoch count less : ℕ) (old new : Entries) (entry : List ℕ × EpochEntry) : Type 0 where
  pub some : 0 < count
  pub own : entry.0 ≡ key
  pub body : body_at key (live count old) ≡ Some entry.1.body
  pub parted : IsParted epoch less new
  pub left : live less new ≡ without key (live count old)

pub takes : (key : List ℕ) (epoch count less : ℕ) (old new : Entries) (entry : List ℕ × EpochEntry) → IsParted epoch count old
    → lookup_entry (bytes_eq key) old ≡ Some entry → new ≡ remove_entry (bytes_eq key) old → entry.1.epoch ≡ epoch → less ≡ count - 1
    → IsTaken key epoch count less old new entry
takes key epoch count less old new entry parted found is now one_less =
    let there = found_is key old entry found in
    let at : IsLiveAt key epoch count old entry.1 = live_is key epoch count old entry.1 parted there.1 now in
    grind (arith, cut, remove_is)

pub takes_dead : (key : List ℕ) (epoch count : ℕ) (old new : Entries) (entry : List ℕ × EpochEntry) → IsParted epoch count old
    → lookup_entry (bytes_eq key) old ≡ Some entry → new ≡ remove_entry (bytes_eq key) old → entry.1.epoch ≢ epoch
    → IsParted epoch count new × (live count new ≡ live count old) × (body_at key (live count old) ≡ None)
takes_dead key epoch count old new entry parted found is other =
    let there = found_is key old entry found in
    let absent : body_at key (live count old) ≡ None = dead_is key epoch count old entry.1 parted there.1 other in
    let cuts : new ≡ cut key old = is ∙ remove_is key old in
    let rest : IsParted epoch count (cut key old) × (live count (cut key old) ≡ live count old) = parted_cut key epoch count old parted absent in
    (rw cuts rest.0, rw cuts rest.1, absent)

none_is : (key : List ℕ) (held : Option EpochEntry) → ◌≡◌ {A = Option (List ℕ × EpochEntry)} (option_map (λ (h : EpochEntry). (key, h)) held) None → held ≡ None
none_is key None none = refl
none_is key (Some held) none = absurd cc

pub takes_none : (key : List ℕ) (epoch count : ℕ) (old new : Entries) → IsParted epoch count old
    → lookup_entry (bytes_eq key) old ≡ None → new ≡ remove_entry (bytes_eq key) old
    → IsParted epoch count new × (live count new ≡ live count old) × (body_at key (live count old) ≡ None)
takes_none key epoch count old new parted none is =
    let nothing : held_at key old ≡ None = none_is key (held_at key old) (sym (entry_is key old) ∙ none) in
    let absent : body_at key (live count old) ≡ None = absent_is key count old nothing in
    let cuts : new ≡ cut key old = is ∙ remove_is key old in
    let rest : IsParted epoch count (cut key old) × (live count (cut key old) ≡ live count old) = parted_cut key epoch count old parted absent in
    (rw cuts rest.0, rw cuts rest.1, absent)

-- what inserting an entry leaves, once others were freed
cut_none : (key : List ℕ) (entries : Entries) → held_at key entries ≡ None → cut key entries ≡ entries
cut_none key [] none = refl
cut_none key (entry ∷ entries) none =
    let again : held_at key entries ≡ None → cut key entries ≡ entries = cut_none key entries in
    grind (arith, held_at, cut)

put_is : (key : List ℕ) (held : EpochEntry) (old : Entries) → put_entry bytes_eq key held old ≡ (key, held) ∷ cut key old
put_is key held old =
    (elim (held_at key old) as (λ (o : Option EpochEntry). held_at key old ≡ o → put_entry bytes_eq key held old ≡ (key, held) ∷ cut key old) [
      | None ↦ λ at. rw (entry_is key old, at, cut_none key old at) refl
      | Some before ↦ λ at. rw (entry_is key old, at, remove_is key old) refl
    ]) refl

pub record IsPut (key : List ℕ) (epoch count more price : ℕ) (old new : Entries) (body : Body) : Type 0 where
  pub parted : IsParted epoch more new
  pub items : live more new ≡ (key, body) ∷ live count old
  pub dead : IsGivenBack key price (drop count old) (drop more new)

pub puts : (key : List ℕ) (epoch count more price : ℕ) (old mid new : Entries) (held : EpochEntry) → IsParted epoch count old → IsLetGo price count old mid
    → body_at key (live count old) ≡ None → held.epoch ≡ epoch → more ≡ count + 1 → new ≡ put_entry bytes_eq key held mid
    → IsPut key epoch count more price old new held.body
puts key epoch count more price old mid new held parted go absent now one_more is =
    let left : IsParted epoch count mid × (live count mid ≡ live count old) = leaves epoch count price old mid parted go in
    let gone : body_at key (live count mid) ≡ None = ap (λ (is : Items). body_at key is) left.1 ∙ absent in
    let others : IsParted epoch count (cut key mid) × (live count (cut key mid) ≡ live count mid) = parted_cut key epoch count mid left.0 gone in
    let next : more ≡ suc count = omega arith in
    let put : new ≡ (key, held) ∷ cut key mid = is ∙ put_is key held mid in
    rw (next, put) (record {
      parted = (now, others.0);
      items = ap (λ (is : Items). (key, held.body) ∷ is) (others.1 ∙ left.1);
      dead = record {
        left = drop count mid;
        go = dead_let_go price count old mid go;
        own = dead_without key count mid gone ∙ sym (remove_is key (drop count mid));
      };
    })

-- the room is as before
pub same_room : (most : ℕ) (old new : Option ℕ) → HasRoom most old → new ≡ old → HasRoom most new
same_room most old new has is = rw is has

-- of entries that are all live the last is the last item
pops_live : (epoch : ℕ) (front : Entries) (last : List ℕ × EpochEntry) → IsParted epoch (length (front ++ last ∷ [])) (front ++ last ∷ [])
    → IsParted epoch (length front) front
    × (live (length (front ++ last ∷ [])) (front ++ last ∷ []) ≡ live (length front) front ++ (last.0, last.1.body) ∷ [])
pops_live epoch [] last parted = (tt, refl)
pops_live epoch (entry ∷ front) last parted =
    let again = pops_live epoch front last parted.1 in
    ((parted.0, again.0), ap (λ (is : Items). (entry.0, entry.1.body) ∷ is) again.1)

pub record IsPopped (epoch count less : ℕ) (old new : Entries) (last : List ℕ × EpochEntry) : Type 0 where
  pub some : 0 < count
  pub parted : IsParted epoch less new
  pub ends : live count old ≡ live less new ++ (last.0, last.1.body) ∷ []

pub pops : (epoch count less : ℕ) (old new : Entries) (last : List ℕ × EpochEntry) → IsParted epoch count old → length old ≡ count
    → old ≡ new ++ last ∷ [] → less ≡ count - 1 → IsPopped epoch count less old new last
pops epoch count less old new last parted all ends one_less =
    let whole : IsParted epoch (length (new ++ last ∷ [])) (new ++ last ∷ []) =
    subst (λ (es : Entries). IsParted epoch (length es) es) ends (subst (λ (n : ℕ). IsParted epoch n old) (sym all) parted) in
    grind (arith, length_push, pops_live)

-- one more entry that goes from the back
pub goes_one : (initial old new out : Entries) (last : List ℕ × EpochEntry) → initial ≡ old ++ out → old ≡ new ++ last ∷ []
    → (initial ≡ new ++ (last ∷ out)) × (length old ≡ length new + 1)
goes_one initial old new out last is ends =
    (is ∙ ap (λ (es : Entries). es ++ out) ends ∙ append_assoc new (last ∷ []) out, ap length ends ∙ length_push new last)

-- if all except the live ones are freed
length-all : (epoch count : ℕ) (entries : Entries) → IsParted epoch count entries → length (take count entries) ≡ count
length-all epoch zero entries parted = refl
length-all epoch (suc count) [] parted = absurd parted
length-all epoch (suc count) (entry ∷ entries) parted = ap suc (length-all epoch count entries parted.1)

pub leaves_all : (epoch count : ℕ) (old new : Entries) → IsParted epoch count old → new ≡ take count old
    → IsParted epoch count new × (live count new ≡ live count old) × (length new ≡ count)
leaves_all epoch count old new parted is =
    let rest : IsParted epoch count (take count old) × (live count (take count old) ≡ live count old) = parted_take epoch count count old parted (omega arith) in
    (rw is rest.0, rw is rest.1, rw is (length-all epoch count old parted))

-- if none is left
pub pops_none : (epoch count : ℕ) (old new : Entries) → IsParted epoch count old → old ≡ [] → new ≡ []
    → IsParted epoch count new × (live count new ≡ []) × (live count old ≡ [])
pops_none epoch count old new parted nothing still = grind (arith, count-fits)

-- if there is room for more live entries, there is room for one once others were freed
pub room_after : (count most left : ℕ) (old new : Option ℕ) → HasRoom most old → new ≡ old → IfSome old (λ entries. count < entries → left < entries) → count < most
    → IfSome new (λ entries. left < entries)
room_after count most left None new has is free fits = rw is tt
room_after count most left (Some entries) new has is free fits = rw is (free (omega (arith, has)))
