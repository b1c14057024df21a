-- Tables: what each call leaves of the entries in their order.
use Rattle.std.proofs.Common.{◌≡◌, ℕ, zero, suc, ◌+◌, ◌-◌, ◌<◌, ◌≤◌, ◌^◌, inl, inr, Bool, true, List, [], ◌∷◌, ◌++◌, length, drop, Option, Some, None, refl, sym, ap, ◌∙◌, subst, arith}
use Rattle.std.specs.Prelude.{slice_get, IfSome}
use Rattle.std.specs.Option.{option_map, option_map_or}
use Rattle.std.specs.Map.{values_of, lookup, lookup_entry, remove_entry, set_value}
use Rattle.std.specs.List.{swap_remove}
use Rattle.std.proofs.lemmas.Bool.{cases_eq}
use Rattle.std.proofs.lemmas.List.{length_push}
use Rattle.mc_table.proofs.OrderLemmas.{out_apart}
use Rattle.mc_table.specs.Places.{Member, Apart, AllApart, UpTo, first_of, last_from, last_of, left_out, renumbered, AreAll}
use Rattle.mc_table.specs.Tables.{with_value, in_order, promoted, put_entry, IsAt, IsNowhere, IsTable}
use Rattle.mc_table.proofs.PlaceLemmas.{renumbered-same, renumbered-between, Apart-out, UpTo-back, AllApart-cross_back, UpTo-member, SplitAt, split_at, member_apart}
use Rattle.mc_table.proofs.AllLemmas.{length_mid, AreAll-front, AreAll-more, AreAll-last_out, AreAll-other_out, split_last}
use Rattle.mc_table.proofs.EntryLemmas.{got, in_order-same, got_within, in_order-append, in_order-removed, in_order-more, length-renumbered, length-swap_remove, last_cut, left_out-last, left_out-head, nowhere_from, length-in_order, in_order-cons, entry_found, entry_none, remove_found, lookup_by_entry}

pub table_within : {X : Type 0} (es : List X) (ps : List ℕ) → IsTable es ps → UpTo (length es) ps
table_within es ps table = subst (λ (n : ℕ). UpTo n ps) table.same table.all.within

pub table_member : {X : Type 0} (es : List X) (ps : List ℕ) (i : ℕ) → IsTable es ps → i < length es → Member (suc i) ps
table_member es ps i table within = let same : length ps ≡ length es = table.same in table.all.all (suc i) (omega arith) (omega arith)

pub table_length : {X : Type 0} (es : List X) (ps : List ℕ) → IsTable es ps → length es ≡ length (in_order es ps)
table_length es ps table = sym (length-in_order es ps (table_within es ps table) ∙ table.same)

pub got-values : {K V : Type 0} (es : List (K × V)) (i : ℕ) (e : K × V) → slice_get es i ≡ Some e → slice_get (values_of es) i ≡ Some e.1
got-values [] i e is = absurd cc
got-values {K} {V} (x ∷ es) zero e is = let same : x ≡ e = cc in ap (λ (y : K × V). Some y.1) same
got-values (x ∷ es) (suc i) e is = got-values es i e is

-- what a look-up returns
pub peek_found : {K V : Type 0} (test : K → Bool) (es : List (K × V)) (ps : List ℕ) (i : ℕ) (value : V) → IsTable es ps → IsAt test es i
    → slice_get (values_of es) i ≡ Some value → Some value ≡ lookup test (in_order es ps)
peek_found {K} {V} test es ps i value table at is =
    let entry : lookup_entry test (in_order es ps) ≡ Some at.entry = entry_found test es i at ps (table_within es ps table) (table_member es ps i table at.within) in
    grind (arith, lookup_by_entry, got-values)

pub peek_none : {K V : Type 0} (test : K → Bool) (es : List (K × V)) (ps : List ℕ) → IsNowhere test es → None ≡ lookup test (in_order es ps)
peek_none {K} {V} test es ps nowhere =
    sym (lookup_by_entry test (in_order es ps) ∙ ap (λ (o : Option (K × V)). option_map (λ (e : K × V). e.1) o) (entry_none test es ps nowhere))

-- what a promotion leaves
pub promoted_found : {K V : Type 0} (test : K → Bool) (es : List (K × V)) (ps : List ℕ) (i place : ℕ) → IsTable es ps → IsAt test es i → place ≡ suc i
    → in_order es (place ∷ left_out place ps) ≡ promoted test (in_order es ps)
promoted_found {K} {V} test es ps i place table at same =
    let within = table_within es ps table in
    let held = table_member es ps i table at.within in
    let index : place - 1 ≡ i = omega arith in
    let own : slice_get es (place - 1) ≡ Some at.entry = ap (λ (n : ℕ). slice_get es n) index ∙ at.is in
    let rest : in_order es (left_out place ps) ≡ remove_entry test (in_order es ps) = ap (λ (n : ℕ). in_order es (left_out n ps)) same ∙ sym (remove_found test es i at ps within held) in
    in_order-cons es place (left_out place ps) at.entry own ∙ ap (λ (l : List (K × V)). at.entry ∷ l) rest
    ∙ ap (λ (o : Option (K × V)). option_map_or (λ (e : K × V). e ∷ remove_entry test (in_order es ps)) o (in_order es ps)) (sym (entry_found test es i at ps within held))

-- a place of a table
pub table_split : {X : Type 0} (es : List X) (ps : List ℕ) (place : ℕ) → IsTable es ps → 0 < place → place ≤ length es → SplitAt place ps
table_split es ps place table positive within = grind (arith, split_at)

pub left_length : (place : ℕ) (ps : List ℕ) → SplitAt place ps → length ps ≡ suc (length (left_out place ps))
left_length place ps cut = ap length cut.is ∙ length_mid cut.front place cut.back ∙ ap (λ (l : List ℕ). suc (length l)) (sym cut.others)

pub table_front : {X : Type 0} (es : List X) (ps : List ℕ) (place : ℕ) → IsTable es ps → 0 < place → place ≤ length es → IsTable es (place ∷ left_out place ps)
table_front es ps place table positive within =
    let cut = table_split es ps place table positive within in
    let count : length ps ≡ suc (length (left_out place ps)) = left_length place ps cut in
    record {
      all = AreAll-front place ps table.all cut;
      same = sym count ∙ table.same;
      small = omega (arith, table.small);
    }

-- what taking a place out leaves of a table
pub AreAll-renumbered : (place : ℕ) (ps : List ℕ) → AreAll ps → SplitAt place ps → AreAll (renumbered (length ps) place (left_out place ps))
AreAll-renumbered place ps all cut =
    elim (cases_eq place (length ps)) as (λ _. AreAll (renumbered (length ps) place (left_out place ps))) [
      | inl last ↦
          let same : renumbered (length ps) place (left_out place ps) ≡ left_out place ps = subst (λ (k : ℕ). renumbered k place (left_out place ps) ≡ left_out place ps) last (renumbered-same place (left_out place ps)) in
          subst (λ (l : List ℕ). AreAll l) (sym same) (AreAll-last_out place ps all cut last)
      | inr differ ↦
          let rest : SplitAt (length ps) (left_out place ps) = split_last place ps all cut differ in
          let once1 : AllApart (left_out place ps) = (AreAll-front place ps all cut).once.1 in
          let once : AllApart (rest.front ++ length ps ∷ rest.back) = subst (λ (l : List ℕ). AllApart l) rest.is once1 in
          let same : renumbered (length ps) place (left_out place ps) ≡ rest.front ++ place ∷ rest.back =
          ap (λ (l : List ℕ). renumbered (length ps) place l) rest.is ∙ renumbered-between (length ps) place rest.front rest.back (Apart-out (length ps) rest.front rest.back once) in
          subst (λ (l : List ℕ). AreAll l) (sym same) (AreAll-other_out place ps all cut differ rest)
    ]

pub table_removed : {X : Type 0} (es fs : List X) (ps : List ℕ) (i place : ℕ) (d : X) → IsTable es ps → i < length es → place ≡ suc i → fs ≡ swap_remove es i d
    → IsTable fs (renumbered (length ps) place (left_out place ps))
table_removed es fs ps i place d table within same is =
    grind (arith, length-renumbered, length-swap_remove, table_split, left_length, AreAll-renumbered)

pub removed_order : {X : Type 0} (es fs : List X) (ps : List ℕ) (i place : ℕ) (d : X) → IsTable es ps → i < length es → place ≡ suc i → fs ≡ swap_remove es i d
    → in_order fs (renumbered (length ps) place (left_out place ps)) ≡ in_order es (left_out place ps)
removed_order {X} es fs ps i place d table within same is =
    let cut = table_split es ps place table (omega arith) (omega arith) in
    let all : UpTo (length es) (place ∷ left_out place ps) = front_within in
    grind (arith, out_apart, in_order-removed)
  where
    front_within : UpTo (length es) (place ∷ left_out place ps)
    front_within = let front = table_front es ps place table (omega arith) (omega arith) in subst (λ (n : ℕ). UpTo n (place ∷ left_out place ps)) front.same front.all.within

pub removed_found : {K V : Type 0} (test : K → Bool) (es : List (K × V)) (ps : List ℕ) (i : ℕ) → IsTable es ps → IsAt test es i
    → in_order es (left_out (suc i) ps) ≡ remove_entry test (in_order es ps)
removed_found test es ps i table at = sym (remove_found test es i at ps (table_within es ps table) (table_member es ps i table at.within))

pub popped_found : {K V : Type 0} (test : K → Bool) (es : List (K × V)) (ps : List ℕ) (i : ℕ) → IsTable es ps → IsAt test es i
    → slice_get es i ≡ lookup_entry test (in_order es ps)
popped_found test es ps i table at = at.is ∙ sym (entry_found test es i at ps (table_within es ps table) (table_member es ps i table at.within))

-- the last of a table
pub record HasLast {X : Type 0} (es : List X) (ps : List ℕ) (place : ℕ) : Type 0 where
  pub positive : 0 < place
  pub within : place ≤ length es
  pub entry : X
  pub is : slice_get es (place - 1) ≡ Some entry
  pub ends : in_order es ps ≡ in_order es (left_out place ps) ++ entry ∷ []

pub table_last : {X : Type 0} (es : List X) (ps : List ℕ) (place : ℕ) → IsTable es ps → place ≡ last_of ps → (place ≡ 0 → ⊥) → HasLast es ps place
table_last es [] place table is some = absurd (some is)
table_last {X} es (p ∷ ps) place table is some =
    let cut = last_cut p ps in
    let whole : p ∷ ps ≡ cut.0 ++ place ∷ [] = cut.1 ∙ ap (λ (k : ℕ). cut.0 ++ k ∷ []) (sym is) in
    let within : UpTo (length es) (p ∷ ps) = table_within es (p ∷ ps) table in
    let within2 : UpTo (length es) (cut.0 ++ place ∷ []) = subst (λ (l : List ℕ). UpTo (length es) l) whole within in
    let own = UpTo-back (length es) cut.0 (place ∷ []) within2 in
    let once : AllApart (cut.0 ++ place ∷ []) = subst (λ (l : List ℕ). AllApart l) whole table.all.once in
    let apart : Apart place cut.0 = AllApart-cross_back place cut.0 (place ∷ []) once (inl refl) in
    let left : left_out place (p ∷ ps) ≡ cut.0 = ap (λ (l : List ℕ). left_out place l) whole ∙ left_out-last place cut.0 apart in
    let x = got es (place - 1) (less own.0 own.1) in
    record {
      positive = own.0;
      within = own.1;
      entry = x.0;
      is = x.1;
      ends = ap (λ (l : List ℕ). in_order es l) whole ∙ in_order-append es cut.0 (place ∷ []) ∙ ap (λ (l : List X). in_order es cut.0 ++ l) (in_order-cons es place [] x.0 x.1)
          ∙ ap (λ (l : List ℕ). in_order es l ++ x.0 ∷ []) (sym left);
    }
  where
    less : 0 < place → place ≤ length es → place - 1 < length es
    less low high = omega arith

pub last_taken : {X : Type 0} (es after : List X) (ps : List ℕ) (place : ℕ) (r : Option X) → HasLast es ps place → r ≡ slice_get es (place - 1)
    → after ≡ in_order es (left_out (suc (place - 1)) ps) → IfSome r (λ x. in_order es ps ≡ after ++ x ∷ [])
last_taken {X} es after ps place r last is left = grind arith
  where
    next : 0 < place → suc (place - 1) ≡ place
    next low = omega arith

-- a table of no entry
pub table_empty : {X : Type 0} (es : List X) (ps : List ℕ) → IsTable es ps → last_of ps ≡ 0 → ps ≡ []
table_empty es [] table is = refl
table_empty es (p ∷ ps) table is =
    let cut = last_cut p ps in
    let within2 : UpTo (length es) (cut.0 ++ last_from p ps ∷ []) = subst (λ (l : List ℕ). UpTo (length es) l) cut.1 (table_within es (p ∷ ps) table) in
    let own = UpTo-back (length es) cut.0 (last_from p ps ∷ []) within2 in
    absurd (never (last_from p ps) own.0 is)
  where
    never : (n : ℕ) → 0 < n → n ≡ 0 → ⊥
    never n low none = omega arith

-- the first of a table
pub record HasFirst {X : Type 0} (es : List X) (ps : List ℕ) (place : ℕ) : Type 0 where
  pub positive : 0 < place
  pub within : place ≤ length es
  pub entry : X
  pub is : slice_get es (place - 1) ≡ Some entry
  pub begins : in_order es ps ≡ entry ∷ in_order es (left_out place ps)

pub table_first : {X : Type 0} (es : List X) (ps : List ℕ) (place : ℕ) → IsTable es ps → place ≡ first_of ps → (place ≡ 0 → ⊥) → HasFirst es ps place
table_first es [] place table is some = absurd (some is)
table_first {X} es (p ∷ ps) place table is some =
    let within = table_within es (p ∷ ps) table in
    let x = got es (p - 1) (less within.0 within.1) in
    grind (arith, left_out-head, in_order-cons)
  where
    less : 0 < p → p ≤ length es → p - 1 < length es
    less low high = omega arith

pub first_is : {X : Type 0} (es : List X) (ps : List ℕ) (place : ℕ) → HasFirst es ps place → slice_get es (place - 1) ≡ slice_get (in_order es ps) 0
first_is {X} es ps place first = first.is ∙ sym (ap (λ (l : List X). slice_get l 0) first.begins)

pub first_left : {X : Type 0} (es after : List X) (ps : List ℕ) (place : ℕ) → HasFirst es ps place → after ≡ in_order es (left_out (suc (place - 1)) ps)
    → after ≡ drop 1 (in_order es ps)
first_left {X} es after ps place first left = grind arith
  where
    next : 0 < place → suc (place - 1) ≡ place
    next low = omega arith

pub first_empty : {X : Type 0} (es : List X) (ps : List ℕ) → IsTable es ps → first_of ps ≡ 0 → in_order es ps ≡ []
first_empty es [] table is = refl
first_empty es (p ∷ ps) table is = let low : 0 < p = table.all.within.0 in absurd (omega arith)

-- what putting an entry leaves
pub table_more : {X : Type 0} (es fs : List X) (ps : List ℕ) (x : X) → IsTable es ps → fs ≡ es ++ x ∷ [] → suc (length ps) < 2 ^ 32
    → IsTable fs (suc (length ps) ∷ ps)
table_more es fs ps x table is small =
    let size : length fs ≡ length es + 1 = ap length is ∙ length_push es x in
    record {
      all = AreAll-more ps table.all;
      same = omega (arith, table.same);
      small = omega arith;
    }

pub more_order : {X : Type 0} (es fs : List X) (ps : List ℕ) (x : X) → IsTable es ps → fs ≡ es ++ x ∷ [] → in_order fs (suc (length ps) ∷ ps) ≡ x ∷ in_order es ps
more_order {X} es fs ps x table is =
    ap (λ (l : List X). in_order l (suc (length ps) ∷ ps)) is ∙ ap (λ (n : ℕ). in_order (es ++ x ∷ []) (suc n ∷ ps)) table.same ∙ in_order-more es x ps (table_within es ps table)

pub table_nowhere : {K V : Type 0} (test : K → Bool) (es : List (K × V)) (ps : List ℕ) → IsTable es ps → lookup test (in_order es ps) ≡ None → IsNowhere test es
table_nowhere test es ps table none other e is =
    nowhere_from test es ps other e none (table_member es ps other table (got_within es other e is)) is

pub no_items : {X : Type 0} (es : List X) (ps : List ℕ) → IsTable es ps → last_of ps ≡ 0 → in_order es ps ≡ []
no_items es ps table is = ap (λ (l : List ℕ). in_order es l) (table_empty es ps table is)

-- a place that was put in front and is removed again
pub undone : (n : ℕ) (ps : List ℕ) → renumbered n n (left_out n (n ∷ ps)) ≡ ps
undone n ps = renumbered-same n (left_out n (n ∷ ps)) ∙ left_out-head n ps

pub undone_by : (new ps after : List ℕ) (first : ℕ) → new ≡ suc (length ps) ∷ ps → first ≡ first_of new → after ≡ renumbered (length new) first (left_out first new) → after ≡ ps
undone_by new ps after first is head made = grind (arith, undone)

-- what writing to the value of an entry leaves

got-written : {K V : Type 0} (es : List (K × V)) (i : ℕ) (e : K × V) (w : V) → slice_get es i ≡ Some e → slice_get (with_value es i w) i ≡ Some (e.0, w)
got-written [] i e w is = absurd cc
got-written {K} {V} (x ∷ es) zero e w is = let same : x ≡ e = cc in ap (λ (y : K × V). Some (y.0, w)) same
got-written (x ∷ es) (suc i) e w is = got-written es i e w is

got-written_other : {K V : Type 0} (es : List (K × V)) (i j : ℕ) (w : V) → (j ≡ i → ⊥) → slice_get (with_value es i w) j ≡ slice_get es j
got-written_other [] i j w apart = refl
got-written_other (x ∷ es) zero zero w apart = absurd (apart refl)
got-written_other (x ∷ es) zero (suc j) w apart = refl
got-written_other (x ∷ es) (suc i) zero w apart = refl
got-written_other (x ∷ es) (suc i) (suc j) w apart = got-written_other es i j w (λ same. apart (ap suc same))

length-with_value : {K V : Type 0} (es : List (K × V)) (i : ℕ) (w : V) → length (with_value es i w) ≡ length es
length-with_value [] i w = refl
length-with_value (e ∷ es) zero w = refl
length-with_value (e ∷ es) (suc i) w = ap suc (length-with_value es i w)

pub table_written : {K V : Type 0} (es : List (K × V)) (ps : List ℕ) (i : ℕ) (w : V) → IsTable es ps → IsTable (with_value es i w) ps
table_written es ps i w table =
    let size : length (with_value es i w) ≡ length es = length-with_value es i w in
    grind arith

pub written_order : {K V : Type 0} (test : K → Bool) (es : List (K × V)) (ps after : List ℕ) (i place : ℕ) (w : V) → IsTable es ps → IsAt test es i → place ≡ suc i
    → after ≡ place ∷ left_out place ps → in_order (with_value es i w) after ≡ set_value test (promoted test (in_order es ps)) w
written_order {K} {V} test es ps after i place w table at same is =
    let low : 0 < place = omega arith in
    let high : place ≤ length es = let within = at.within in omega arith in
    let cut = table_split es ps place table low high in
    let front = table_front es ps place table low high in
    let index : place - 1 ≡ i = omega arith in
    let apart : Apart place (left_out place ps) = out_apart place ps table.all.once cut in
    let own : slice_get (with_value es i w) (place - 1) ≡ Some (at.entry.0, w) = ap (λ (n : ℕ). slice_get (with_value es i w) n) index ∙ got-written es i at.entry w at.is in
    let old : slice_get es (place - 1) ≡ Some at.entry = ap (λ (n : ℕ). slice_get es n) index ∙ at.is in
    let rest : in_order (with_value es i w) (left_out place ps) ≡ in_order es (left_out place ps) =
    in_order-same es (with_value es i w) (left_out place ps)
    (λ p held. got-written_other es i (p - 1) w (differs p (UpTo-member (length (place ∷ left_out place ps)) p (place ∷ left_out place ps) front.all.within (inr held)).0 (member_apart place p (left_out place ps) apart held))) in
    let new : in_order (with_value es i w) (place ∷ left_out place ps) ≡ (at.entry.0, w) ∷ in_order es (left_out place ps) =
    in_order-cons (with_value es i w) place (left_out place ps) (at.entry.0, w) own ∙ ap (λ (l : List (K × V)). (at.entry.0, w) ∷ l) rest in
    let set : set_value test (at.entry ∷ in_order es (left_out place ps)) w ≡ (at.entry.0, w) ∷ in_order es (left_out place ps) = rw at.passes refl in
    let promoted_is : at.entry ∷ in_order es (left_out place ps) ≡ promoted test (in_order es ps) =
    sym (in_order-cons es place (left_out place ps) at.entry old) ∙ promoted_found test es ps i place table at same in
    ap (λ (l : List ℕ). in_order (with_value es i w) l) is ∙ new ∙ sym set ∙ ap (λ (l : List (K × V)). set_value test l w) promoted_is
  where
    differs : (p : ℕ) → 0 < p → (p ≡ place → ⊥) → p - 1 ≡ i → ⊥
    differs p positive other index = other (omega arith)

-- an entry put under any key

entry_passes : {K V : Type 0} (test : K → Bool) (es : List (K × V)) (e : K × V) → lookup_entry test es ≡ Some e → test e.0 ≡ true
entry_passes test [] e is = absurd cc
entry_passes {K} {V} test (x ∷ es) e is =
    let again : lookup_entry test es ≡ Some e → test e.0 ≡ true = entry_passes test es e in
    grind arith

entry_is_none : {K V : Type 0} (test : K → Bool) (es : List (K × V)) → lookup test es ≡ None → lookup_entry test es ≡ None
entry_is_none {K} {V} test es none = grind (arith, lookup_by_entry)

pub put_held : {K V : Type 0} (eq : K → K → Bool) (es : List (K × V)) (k : K) (v before : V) → Some before ≡ lookup (eq k) es
    → set_value (eq k) (promoted (eq k) es) v ≡ put_entry eq k v es
put_held {K} {V} eq es k v before held = grind (arith, lookup_by_entry, entry_passes)

pub put_new : {K V : Type 0} (eq : K → K → Bool) (es : List (K × V)) (k : K) (v : V) → None ≡ lookup (eq k) es → put_entry eq k v es ≡ (k, v) ∷ es
put_new {K} {V} eq es k v none =
    ap (λ (o : Option (K × V)). option_map_or (λ (e : K × V). (e.0, v) ∷ remove_entry (eq k) es) o ((k, v) ∷ es)) (entry_is_none (eq k) es (sym none))
