-- Reads by which more of a text arrived.
use Rattle.std.proofs.Common.{◌≡◌, ◌∙◌, ℕ, zero, suc, ◌+◌, ◌-◌, ◌<◌, ◌≤◌, true, false, List, [], ◌∷◌, ◌++◌, length, take, drop, Option, Result, Ok, Err, refl, sym, ap, arith, append_assoc, length-drop}
use Rattle.std.specs.Prelude.{IfOk, OnErr}
use Rattle.std.specs.Io.{ReadsAtMost}
use Rattle.std.specs.Io.KnownBytes.{ReadConsumes}
use Rattle.std.proofs.lemmas.List.{length-take}
use Rattle.std.proofs.Math.Seq.{take-add}
use Rattle.mc_request.specs.Requests.{requests_of}
use Rattle.mc_request_reader.specs.ApartFields.{joined}
use Rattle.mc_request_reader.specs.Reads.{Comes, ReadsBy}

-- what was done with the bytes that arrived, stated in another way
pub reads_as : {E : Type 0} (read : Result ℕ E) (unread unread' : Option (List ℕ)) (Takes Does : List ℕ → Type 0) (unmoved still : Type 0)
    → ((came : List ℕ) → Takes came → Does came) → (unmoved → still) → ReadsBy read unread unread' Takes unmoved → ReadsBy read unread unread' Does still
reads_as (Ok count) unread unread' Takes Does unmoved still does keeps h = record {
  piece = h.piece;
  some = h.some;
  within = h.within;
  given = h.given;
  taken = does (take count h.piece) h.taken;
  stays = tt;
}
reads_as (Err error) unread unread' Takes Does unmoved still does keeps h = record {
  piece = h.piece;
  some = h.some;
  within = h.within;
  given = h.given;
  taken = tt;
  stays = keeps h.stays;
}

-- more has arrived at what is kept apart
pub comes_beside : (line old new came : List ℕ) → new ≡ old ++ came → Comes (joined line old) (joined line new) came
comes_beside line old new came e = rw e (record {
  rest = λ text. ap requests_of (append_assoc line (old ++ came) text ∙ ap (λ (bytes : List ℕ). line ++ bytes) (append_assoc old came text) ∙ sym (append_assoc line old (came ++ text)));
  closed = refl;
  after_end = λ is. let clash : false ≡ true = is in absurd cc;
})

-- the first of the first
take_of_take : (n m : ℕ) (xs : List ℕ) → n ≤ m → take n (take m xs) ≡ take n xs
take_of_take zero m xs few = refl
take_of_take (suc n) zero xs few = absurd (omega (arith, few))
take_of_take (suc n) (suc m) [] few = refl
take_of_take (suc n) (suc m) (x ∷ xs) few = ap (λ (ys : List ℕ). x ∷ ys) (take_of_take n m xs (omega (arith, few)))

-- a read behind what had arrived, into room that was made there
pub reads_behind : {E : Type 0} (read : Result ℕ E) (unread unread' : Option (List ℕ)) (come room count : ℕ) (old wide new : List ℕ)
    → 0 < room → come + room ≤ length wide → length new ≡ length wide → take come new ≡ take come wide → take come wide ≡ take come old
    → ReadsAtMost read (take room (drop come new)) → ReadConsumes unread unread' read (take room (drop come new))
    → IfOk read (λ n. count ≡ n) → OnErr read (count ≡ 0)
    → ReadsBy read unread unread' (λ came. take (come + count) new ≡ take come old ++ came) (take (come + count) new ≡ take come old)
reads_behind (Ok n) unread unread' come room count old wide new some inside same front kept within given is none =
    let few : n ≤ room = omega (arith, within.0, length-take room (drop come new)) in
    record {
      piece = take room (drop come new);
      some = omega (arith, some, inside, same, length-take room (drop come new), length-drop come new);
      within = within;
      given = given;
      taken = ap (λ (k : ℕ). take (come + k) new) is ∙ take-add come n new ∙ ap (λ (bytes : List ℕ). bytes ++ take n (drop come new)) (front ∙ kept)
          ∙ ap (λ (bytes : List ℕ). take come old ++ bytes) (sym (take_of_take n room (drop come new) few));
      stays = tt;
    }
reads_behind (Err error) unread unread' come room count old wide new some inside same front kept within given is none =
    let all : come + 0 ≡ come = omega arith in
    record {
      piece = take room (drop come new);
      some = omega (arith, some, inside, same, length-take room (drop come new), length-drop come new);
      within = within;
      given = given;
      taken = tt;
      stays = ap (λ (k : ℕ). take (come + k) new) none ∙ ap (λ (k : ℕ). take k new) all ∙ front ∙ kept;
    }
