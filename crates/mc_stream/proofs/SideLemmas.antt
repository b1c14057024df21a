-- The two sides of a stream: what was carried, and then more; what one call of a side carried.
use Rattle.std.proofs.Common.{◌≡◌, ◌∙◌, inl, inr, ℕ, Bool, true, false, Result, Ok, Err, List, [], ◌∷◌, ◌++◌, take, Option, Some, None, refl, sym, ap, subst, append_assoc, arith}
use Rattle.std.proofs.lemmas.List.{append-nil}
use Rattle.std.proofs.KnownBytes.{Appends-nil, Appends-trans, Consumes-nil, Consumes-trans}
use Rattle.std.specs.Io.KnownBytes.{Appends, Consumes, Keeps}
use Rattle.mc_stream.specs.Sides.{IsAll, Carries, CarriesBy, Brings, HowItCame, HowItWent, IsStopOfSide, StopsRead, MovesNothing, Reads, Writes}
use Rattle.mc_stream.specs.declared.outcomes.Pumped.{Pumped}
use Rattle.mc_stream.specs.declared.outcomes.Pumped.TheVariants.{Again, Blocked, Done, Failed}

-- known bytes that are kept
pub keeps_consumes : (a b : Option (List ℕ)) → Keeps a b → Consumes a b []
keeps_consumes None b h = tt
keeps_consumes (Some a) None h = absurd h
keeps_consumes (Some a) (Some b) h = sym h

pub keeps_appends : (a b : Option (List ℕ)) → Keeps a b → Appends a b []
keeps_appends None b h = tt
keeps_appends (Some a) None h = absurd h
keeps_appends (Some a) (Some b) h = h ∙ sym (append-nil a)

-- all of known bytes arrived in two parts: in the first, or with the second
nothing_left : (xs ys zs : List ℕ) → xs ≡ (xs ++ ys) ++ zs → ys ≡ []
nothing_left [] [] zs e = refl
nothing_left [] (y ∷ ys) zs e = absurd cc
nothing_left (x ∷ xs) ys zs e =
    let again : xs ≡ (xs ++ ys) ++ zs → ys ≡ [] = nothing_left xs ys zs in
    again cc

all_before : (a b c : Option (List ℕ)) (xs ys : List ℕ) → IsAll a xs → Consumes a b xs → Consumes b c ys → IsAll a (xs ++ ys)
all_before None b c xs ys h k l = tt
all_before (Some a) None c xs ys h k l = absurd k
all_before (Some a) (Some b) None xs ys h k l = absurd l
all_before (Some a) (Some b) (Some c) xs ys h k l =
    let whole : xs ≡ (xs ++ ys) ++ c = h ∙ k ∙ ap (λ (bytes : List ℕ). xs ++ bytes) l ∙ sym (append_assoc xs ys c) in
    rw (nothing_left xs ys c whole) (append-nil xs ∙ h)

all_after : (a b : Option (List ℕ)) (xs ys : List ℕ) → Consumes a b xs → IsAll b ys → IsAll a (xs ++ ys)
all_after None b xs ys h k = tt
all_after (Some a) None xs ys h k = absurd h
all_after (Some a) (Some b) xs ys h k = rw k (sym h)

-- what was carried, and then more
carries_then : (unread middle unread' written between written' : Option (List ℕ)) (ended later ended' : Bool) (came more went yet : List ℕ)
    → Carries unread middle written between ended later came went → Carries middle unread' between written' later ended' more yet
    → Carries unread unread' written written' ended ended' (came ++ more) (went ++ yet)
carries_then unread middle unread' written between written' ended later ended' came more went yet h k = record {
  consumed = Consumes-trans unread middle unread' came more h.consumed k.consumed;
  appended = Appends-trans written between written' went yet h.appended k.appended;
  still_ended = λ e. k.still_ended (h.still_ended e);
  at_end = λ e. elim (k.at_end e) [
    | inl before ↦ elim (h.at_end before) [
      | inl first ↦ inl first
      | inr all ↦ inr (all_before unread middle unread' came more all h.consumed k.consumed)
    ]
    | inr all ↦ inr (all_after unread middle came more h.consumed all)
  ];
}

pub carried_then : (pump : Pumped) (unread middle unread' written between written' : Option (List ℕ)) (ended later ended' : Bool) (came more went yet : List ℕ)
    → Carries unread middle written between ended later came went → CarriesBy pump middle unread' between written' later ended' more yet
    → CarriesBy pump unread unread' written written' ended ended' (came ++ more) (went ++ yet)
carried_then Again unread middle unread' written between written' ended later ended' came more went yet h k = carries_then unread middle unread' written between written' ended later ended' came more went yet h k
carried_then Blocked unread middle unread' written between written' ended later ended' came more went yet h k = carries_then unread middle unread' written between written' ended later ended' came more went yet h k
carried_then Done unread middle unread' written between written' ended later ended' came more went yet h k = carries_then unread middle unread' written between written' ended later ended' came more went yet h k
carried_then Failed unread middle unread' written between written' ended later ended' came more went yet h k =
    let P : List ℕ → Type 0 = λ bytes. Carries unread unread' written written' ended ended' bytes (went ++ yet) in
    (k.0, subst P (sym (append_assoc came more k.0)) (carries_then unread middle unread' written between written' ended later ended' came (more ++ k.0) went yet h k.1))

pub carries_none : (unread written : Option (List ℕ)) (ended : Bool) → Carries unread unread written written ended ended [] []
carries_none unread written ended = record {
  consumed = Consumes-nil unread;
  appended = Appends-nil written;
  still_ended = λ e. e;
  at_end = λ e. inl e;
}

-- what was carried, however the pump ends: nothing was lost
pub carried_as : (pump : Pumped) (unread unread' written written' : Option (List ℕ)) (ended ended' : Bool) (came went : List ℕ)
    → Carries unread unread' written written' ended ended' came went → CarriesBy pump unread unread' written written' ended ended' came went
carried_as Again unread unread' written written' ended ended' came went h = h
carried_as Blocked unread unread' written written' ended ended' came went h = h
carried_as Done unread unread' written written' ended ended' came went h = h
carried_as Failed unread unread' written written' ended ended' came went h =
    let P : List ℕ → Type 0 = λ bytes. Carries unread unread' written written' ended ended' bytes went in
    ([], subst P (sym (append-nil came)) h)

-- what a read brought
pub carries_brought : (unread unread' written : Option (List ℕ)) (ended ended' : Bool) (came : List ℕ) → ended ≡ false → Brings unread unread' ended' came
    → Carries unread unread' written written ended ended' came []
carries_brought unread unread' written ended ended' came open_yet h = record {
  consumed = h.consumed;
  appended = Appends-nil written;
  still_ended = λ e. let clash : true ≡ false = sym e ∙ open_yet in absurd cc;
  at_end = λ e. inr (h.at_end e);
}

-- what a read carried that stopped the pump
pub carried_unheard : (pump : Pumped) (unread unread' written : Option (List ℕ)) (ended ended' : Bool) (came : List ℕ) → ended ≡ false → StopsRead pump unread unread' ended' came
    → CarriesBy pump unread unread' written written ended ended' came []
carried_unheard Again unread unread' written ended ended' came open_yet h = carries_brought unread unread' written ended ended' came open_yet h
carried_unheard Blocked unread unread' written ended ended' came open_yet h = absurd h
carried_unheard Done unread unread' written ended ended' came open_yet h = absurd h
carried_unheard Failed unread unread' written ended ended' came open_yet h = (h.0, carries_brought unread unread' written ended ended' (came ++ h.0) open_yet h.1)

pub stop_of_read : (pump : Pumped) (unread unread' : Option (List ℕ)) (ended' : Bool) (came : List ℕ) → StopsRead pump unread unread' ended' came → IsStopOfSide pump
stop_of_read Again unread unread' ended' came h = tt
stop_of_read Blocked unread unread' ended' came h = absurd h
stop_of_read Done unread unread' ended' came h = absurd h
stop_of_read Failed unread unread' ended' came h = tt

-- what a read carried after which the pump goes on
pub came_any : (moved : Bool) (unread unread' : Option (List ℕ)) (ended' : Bool) (came : List ℕ) (unmoved : Type 0) → HowItCame (Ok moved) unread unread' ended' came unmoved
    → Brings unread unread' ended' came
came_any true unread unread' ended' came unmoved h = h
came_any false unread unread' ended' came unmoved h = h.0

-- a read by which nothing arrived, and not the end
pub came_false : (moved : Bool) (unread unread' : Option (List ℕ)) (ended' : Bool) (came : List ℕ) (unmoved : Type 0) → moved ≡ false
    → HowItCame (Ok moved) unread unread' ended' came unmoved → (ended' ≡ false) × unmoved
came_false true unread unread' ended' came unmoved e h = absurd cc
came_false false unread unread' ended' came unmoved e h = (h.1, h.2)

-- what a write carried
pub carries_sent : (unread written written' : Option (List ℕ)) (ended : Bool) (went : List ℕ) → Appends written written' went → Carries unread unread written written' ended ended [] went
carries_sent unread written written' ended went h = record {
  consumed = Consumes-nil unread;
  appended = h;
  still_ended = λ e. e;
  at_end = λ e. inl e;
}

-- bytes arrived, and the input was not seen to end
pub brings_bytes : (a b : Option (List ℕ)) (ended : Bool) (came : List ℕ) → ended ≡ false → Consumes a b came → Brings a b ended came
brings_bytes a b ended came open_yet consumed = record {
  consumed = consumed;
  at_end = λ e. let clash : true ≡ false = sym e ∙ open_yet in absurd cc;
}

-- what a write carried, whether any or none
pub went_any : (moved : Bool) (written written' : Option (List ℕ)) (went : List ℕ) (unmoved : Type 0) → HowItWent (Ok moved) written written' went unmoved → Appends written written' went
went_any true written written' went unmoved h = h
went_any false written written' went unmoved h = h.0

-- a write of which nothing went
pub went_false : (moved : Bool) (written written' : Option (List ℕ)) (went : List ℕ) (unmoved : Type 0) → moved ≡ false → HowItWent (Ok moved) written written' went unmoved → unmoved
went_false true written written' went unmoved e h = absurd cc
went_false false written written' went unmoved e h = h.1

-- a read by which nothing arrived, or the end
pub came_none : (unread unread' : Option (List ℕ)) (ended' : Bool) (unmoved : Type 0) → Brings unread unread' ended' [] → unmoved → HowItCame (Ok ended') unread unread' ended' [] unmoved
came_none unread unread' true unmoved h u = h
came_none unread unread' false unmoved h u = (h, refl, u)

-- a write by whose error nothing went
pub writes_nothing : (side : Result ℕ Pumped) (output : List ℕ) (written written' : Option (List ℕ)) → MovesNothing side → Keeps written written' → Writes side output written written'
writes_nothing (Ok count) output written written' h kept = (omega (arith, h), rw h (keeps_appends written written' kept))
writes_nothing (Err pump) output written written' h kept = (h, kept)

-- a read that stopped the pump
unheard : (pump : Pumped) (unread unread' : Option (List ℕ)) (ended' : Bool) → IsStopOfSide pump → Brings unread unread' ended' [] → StopsRead pump unread unread' ended' []
unheard Again unread unread' ended' h brings = brings
unheard Blocked unread unread' ended' h brings = absurd h
unheard Done unread unread' ended' h brings = absurd h
unheard Failed unread unread' ended' h brings = ([], brings)

pub read_stops : (pump : Pumped) (piece' : List ℕ) (ended' : Bool) (unread unread' : Option (List ℕ)) → Reads (Err pump) piece' ended' unread unread' → StopsRead pump unread unread' ended' []
read_stops pump piece' ended' unread unread' h =
    unheard pump unread unread' ended' h.0 (brings_bytes unread unread' ended' [] h.1 (keeps_consumes unread unread' h.2))

-- a write that stopped the pump
pub write_stops : (pump : Pumped) (output : List ℕ) (written written' : Option (List ℕ)) (unmoved : Type 0) → Writes (Err pump) output written written' → HowItWent (Err pump) written written' [] unmoved
write_stops pump output written written' unmoved h = (h.0, keeps_appends written written' h.1)

-- a write and a read by which nothing moved
pub wrote_none : (count : ℕ) (output : List ℕ) (written written' : Option (List ℕ)) → count ≡ 0 → Writes (Ok count) output written written' → Appends written written' []
wrote_none count output written written' none h = subst (λ (n : ℕ). Appends written written' (take n output)) none h.1

pub read_none : (count : ℕ) (piece' : List ℕ) (ended' : Bool) (unread unread' : Option (List ℕ)) → count ≡ 0 → Reads (Ok count) piece' ended' unread unread' → Brings unread unread' ended' []
read_none count piece' ended' unread unread' none h = subst (λ (n : ℕ). Brings unread unread' ended' (take n piece')) none h.2
