-- Readings, as definitions see them.
use Rattle.std.proofs.Common.{◌≡◌, ℕ, Bool, true, false, List, Option, Some, Result, Ok, Err, refl, sym}
use Rattle.mc_text.specs.declared.unready.Unready.{Unready}
use Rattle.mc_text.specs.Forms.{Form, read, number_if, ◌>>=◌, text_at, number_at}
use Rattle.mc_text.specs.FormsSeen.{number_if_at}

bind_bind : {A B C : Type 0} (r : Result A Unready) (f : A → Result B Unready) (g : B → Result C Unready) → r >>= f >>= g ≡ r >>= (λ x. f x >>= g)
bind_bind (Ok x) f g = refl
bind_bind (Err e) f g = refl

bind_all : {A B C D : Type 0} (r : Result A Unready) (f : A → Result B Unready) (g : B → Result C Unready) (h : C → Result D Unready)
    → r >>= (λ x. f x >>= (λ y. g y >>= h)) ≡ r >>= (λ x. f x >>= g) >>= h
bind_all (Ok x) f g h = sym (bind_bind (f x) g h)
bind_all (Err e) f g h = refl

abbrev asked_for : ℕ × List ℕ → Result (Option ℕ × List ℕ) Unready
asked_for x = Ok (Some x.0, x.1)

-- a number that may have been asked for, and what is after it
pub read-number_if : {R : Type 0} (asked : Bool) (text : List ℕ) (most : ℕ) (f : Option ℕ → Form R) (u : List ℕ)
    → read (number_if asked text most f) u ≡ number_if_at asked text most u >>= (λ x. read (f x.0) x.1)
read-number_if true text most f u = bind_all (text_at text u) (λ rest. number_at most rest) asked_for (λ x. read (f x.0) x.1)
read-number_if false text most f u = refl
