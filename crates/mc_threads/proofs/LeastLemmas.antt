-- The least of several causes, as one more worker is joined.
use Rattle.std.proofs.Common.{◌≡◌, ◌⊎◌, inl, inr, ℕ, zero, suc, ◌<◌, ◌≤◌, List, [], ◌∷◌, ◌++◌, length, Result, Ok, Err, Some, slice_get, IfErr, refl, sym, subst, arith}
use Rattle.std.specs.Prelude.{OnOk}
use Rattle.std.proofs.lemmas.Option.{none-some, same_Some}
use Rattle.mc_threads.specs.Causes.{EndsCaller, EndsRun, IsCause, IsLeast, rank_of}
use Rattle.mc_threads.specs.Workers.{WasRefused}
use Rattle.mc_threads.specs.declared.errors.Ended.{Ended}
use Rattle.mc_threads.specs.declared.errors.Ended.TheVariants.{GateShut, EndsDiffer, StartFailed, Strange, Memory, Stopped}

-- the element at a number of a list to which one is added
at_pushed : {X : Type 0} (xs : List X) (x : X) (i : ℕ) (y : X) → slice_get (xs ++ x ∷ []) i ≡ Some y → (slice_get xs i ≡ Some y) ⊎ (x ≡ y)
at_pushed [] x zero y at = inr (same_Some x y at)
at_pushed [] x (suc i) y at = absurd (none-some y at)
at_pushed (z ∷ zs) x zero y at = inl at
at_pushed (z ∷ zs) x (suc i) y at = at_pushed zs x i y at

at_low : {X : Type 0} (xs : List X) (x : X) (i : ℕ) (y : X) → slice_get xs i ≡ Some y → slice_get (xs ++ x ∷ []) i ≡ Some y
at_low [] x zero y at = absurd (none-some y at)
at_low [] x (suc i) y at = absurd (none-some y at)
at_low (z ∷ zs) x zero y at = at
at_low (z ∷ zs) x (suc i) y at = at_low zs x i y at

at_last : {X : Type 0} (xs : List X) (x : X) → slice_get (xs ++ x ∷ []) (length xs) ≡ Some x
at_last [] x = refl
at_last (z ∷ zs) x = at_last zs x

cause_low : {T : Type 0} (own : Result (Unit {0}) Ended) (rs : List (Result T Ended)) (r : Result T Ended) (e : Ended) → IsCause own rs e → IsCause own (rs ++ r ∷ []) e
cause_low own rs r e (inl ours) = inl ours
cause_low own rs r e (inr there) = inr (there.0, at_low rs r there.0 (Err e) there.1)

cause_pushed : {T : Type 0} (own : Result (Unit {0}) Ended) (rs : List (Result T Ended)) (r : Result T Ended) (e : Ended) → IsCause own (rs ++ r ∷ []) e → IsCause own rs e ⊎ (r ≡ Err e)
cause_pushed own rs r e (inl ours) = inl (inl ours)
cause_pushed {T} own rs r e (inr there) = elim (at_pushed rs r there.0 (Err e) there.1) [
  | inl before ↦ inl (inr (there.0, before))
  | inr last ↦ inr last
]

-- a cause that is at most the least so far is at most any cause so far
no_more : {T : Type 0} (own : Result (Unit {0}) Ended) (rs : List (Result T Ended)) (least : Result (Unit {0}) Ended) (n : ℕ) (d : Ended) → IsLeast own rs least
    → IfErr least (λ one. n ≤ rank_of one) → IsCause own rs d → n ≤ rank_of d
no_more own rs (Ok nothing) n d is low cause = absurd (is d cause)
no_more own rs (Err one) n d is low cause = let more = is.1 d cause in omega (arith, more, low)

nothing_at : {X : Type 0} (i : ℕ) (x : X) → slice_get [] i ≡ Some x → ⊥
nothing_at zero x at = none-some x at
nothing_at (suc i) x at = none-some x at

least_of_own : (T : Type 0) (own : Result (Unit {0}) Ended) → IsLeast {T = T} own [] own
least_of_own T (Ok nothing) = λ e cause. elim cause [
  | inl ours ↦ absurd cc
  | inr there ↦ nothing_at there.0 (Err e) there.1
]
least_of_own T (Err one) = (
  inl refl,
  λ e cause. elim cause [
    | inl ours ↦ let same : one ≡ e = cc in subst (λ (c : Ended). rank_of one ≤ rank_of c) same (omega arith)
    | inr there ↦ absurd (nothing_at there.0 (Err e) there.1)
  ],
)

-- no worker was joined yet
pub least_new : {T : Type 0} (own : Result (Unit {0}) Ended) (rs : List (Result T Ended)) → rs ≡ [] → IsLeast own rs own
least_new {T} own rs none = subst (λ (xs : List (Result T Ended)). IsLeast own xs own) (sym none) (least_of_own T own)

-- one that ended well changes nothing; one that failed may be the least
pub least-ok : {T : Type 0} (own : Result (Unit {0}) Ended) (rs : List (Result T Ended)) (t : T) (least : Result (Unit {0}) Ended) → IsLeast own rs least → IsLeast own (rs ++ Ok t ∷ []) least
least-ok own rs t (Ok nothing) is = λ e cause. elim (cause_pushed own rs (Ok t) e cause) [
  | inl before ↦ is e before
  | inr same ↦ absurd cc
]
least-ok own rs t (Err one) is = (
  cause_low own rs (Ok t) one is.0,
  λ e cause. elim (cause_pushed own rs (Ok t) e cause) [
    | inl before ↦ is.1 e before
    | inr same ↦ absurd cc
  ],
)

pub least-err : {T : Type 0} (own : Result (Unit {0}) Ended) (rs : List (Result T Ended)) (e next : Ended) (least : Result (Unit {0}) Ended) → IsLeast own rs least
    → (next ≡ e) ⊎ (least ≡ Err next) → (rank_of next ≤ rank_of e) × IfErr least (λ one. rank_of next ≤ rank_of one) → IsLeast own (rs ++ Err e ∷ []) (Err next)
least-err {T} own rs e next least is one low = (
  elim one [
    | inl same ↦ subst (λ (c : Ended). IsCause own (rs ++ Err e ∷ []) c) (sym same) (inr (length rs, at_last rs (Err e)))
    | inr same ↦ let was : IsLeast own rs (Err next) = subst (λ (r : Result (Unit {0}) Ended). IsLeast own rs r) same is in cause_low own rs (Err e) next was.0
  ],
  λ d cause. elim (cause_pushed own rs (Err e) d cause) [
    | inl before ↦ no_more own rs least (rank_of next) d is low.1 before
    | inr last ↦ let same : e ≡ d = cc in subst (λ (c : Ended). rank_of next ≤ rank_of c) same low.0
  ],
)

-- no thread failed, so what holds if the caller's thread ended well holds
pub went_well : {T : Type 0} (own : Result (Unit {0}) Ended) (rs : List (Result T Ended)) (P : Type 0) → ((cause : Ended) → IsCause own rs cause → ⊥) → OnOk own P → P
went_well (Ok nothing) rs P none on = on
went_well (Err e) rs P none on = absurd (none e (inl refl))

-- a cause that is no gate's ends a run
pub other_ends : (servers : ℕ) (lets refuses : ℕ → ℕ → Type 0) (cause : Ended) → (cause ≡ GateShut → ⊥) → EndsRun servers lets refuses cause
other_ends servers lets refuses GateShut other = absurd (other refl)
other_ends servers lets refuses EndsDiffer other = tt
other_ends servers lets refuses StartFailed other = tt
other_ends servers lets refuses Strange other = tt
other_ends servers lets refuses Memory other = tt
other_ends servers lets refuses Stopped other = tt

-- the least of the threads' causes ends a run, if the gate refused each worker that ended by it
pub least_ends : {T : Type 0} (servers : ℕ) (lets refuses : ℕ → ℕ → Type 0) (own : Result (Unit {0}) Ended) (rs : List (Result T Ended)) (cause : Ended) → IsCause own rs cause
    → IfErr own (λ one. EndsCaller one)
    → ((server : ℕ) → slice_get rs server ≡ Some (Err GateShut) → (k : ℕ) × (k < servers) × WasRefused (lets k) (refuses k)) → EndsRun servers lets refuses cause
least_ends {T} servers lets refuses own rs GateShut is callers shut = elim is [
  | inl ours ↦ let none : EndsCaller GateShut = subst (λ (r : Result (Unit {0}) Ended). IfErr r (λ one. EndsCaller one)) ours callers in absurd none
  | inr there ↦ shut there.0 there.1
]
least_ends {T} servers lets refuses own rs EndsDiffer is callers shut = tt
least_ends {T} servers lets refuses own rs StartFailed is callers shut = tt
least_ends {T} servers lets refuses own rs Strange is callers shut = tt
least_ends {T} servers lets refuses own rs Memory is callers shut = tt
least_ends {T} servers lets refuses own rs Stopped is callers shut = tt
