-- Calls for a session: none, one, and several in sequence.
use Rattle.std.proofs.Common.{◌≡◌, ◌∙◌, ℕ, ◌-◌, true, false, List, [], ◌∷◌, ◌++◌, Option, Some, None, IsSome, refl, sym, ap, subst, append_assoc, arith}
use Rattle.std.proofs.lemmas.List.{append-nil}
use Rattle.mc_proxy.specs.SessionState.{SessionState}
use Rattle.mc_proxy.specs.ProxyState.{ProxyState, session_at}
use Rattle.mc_proxy_pump.specs.Calls.{Call, Calls, Fed, Turned, Emitted, Rested, Sent, IsCall, SessionStretch, Spends, came_by, came_of, missed_by, went_by, went_of, work_by}
use Rattle.mc_proxy_pump.specs.Tallies.{Counts, counted}

-- an open session
pub the_open : (o : Option SessionState) → IsSome o → (s : SessionState) × (o ≡ Some s)
the_open None h = let clash : false ≡ true = h in absurd cc
the_open (Some s) h = (s, refl)

pub is_open : (o : Option SessionState) (s : SessionState) → o ≡ Some s → IsSome o
is_open None s e = absurd cc
is_open (Some t) s e = refl

pub open_some : (o : Option SessionState) → (o ≡ None → ⊥) → IsSome o
open_some None some = absurd (some refl)
open_some (Some s) some = refl

-- the bytes of calls after calls, and the answers that they count
came-append : (xs ys : List Call) → came_of (xs ++ ys) ≡ came_of xs ++ came_of ys
came-append [] ys = refl
came-append (x ∷ xs) ys = ap (λ (bytes : List ℕ). came_by x ++ bytes) (came-append xs ys) ∙ sym (append_assoc (came_by x) (came_of xs) (came_of ys))

went-append : (xs ys : List Call) → went_of (xs ++ ys) ≡ went_of xs ++ went_of ys
went-append [] ys = refl
went-append (x ∷ xs) ys = ap (λ (bytes : List ℕ). went_by x ++ bytes) (went-append xs ys) ∙ sym (append_assoc (went_by x) (went_of xs) (went_of ys))

missed-append : (xs ys : List Call) (missed : Option ℕ) → missed_by (xs ++ ys) missed ≡ missed_by ys (missed_by xs missed)
missed-append [] ys missed = refl
missed-append (Fed came ∷ xs) ys missed = missed-append xs ys missed
missed-append (Turned turn work ∷ xs) ys missed = missed-append xs ys missed
missed-append (Emitted hides work ∷ xs) ys missed = missed-append xs ys (counted hides missed)
missed-append (Rested ∷ xs) ys missed = missed-append xs ys missed
missed-append (Sent count went ∷ xs) ys missed = missed-append xs ys missed

-- calls that spend work, and then more of them
spends-append : (xs ys : List Call) (left middle left' : ℕ) → Spends xs left middle → Spends ys middle left' → Spends (xs ++ ys) left left'
spends-append [] ys left middle left' h k = subst (λ (n : ℕ). Spends ys n left') h k
spends-append (x ∷ xs) ys left middle left' h k = (h.0, spends-append xs ys (left - work_by x) middle left' h.1 k)

-- a call that costs nothing
pub spends_none : (call : Call) (left : ℕ) → work_by call ≡ 0 → Spends (call ∷ []) left left
spends_none call left free = (λ costs. absurd (omega (arith, free, costs)), omega (arith, free))

-- calls and then calls
calls-append : (number : ℕ) (xs ys : List Call) (a b c : ProxyState) → Calls number xs a b → Calls number ys b c → Calls number (xs ++ ys) a c
calls-append number [] ys a b c h k = subst (λ (p : ProxyState). Calls number ys p c) h k
calls-append number (x ∷ xs) ys a b c h k = (h.0, (h.1.0, calls-append number xs ys h.0 b c h.1.1 k))

-- no call
pub stretch_none : (number : ℕ) (s : ProxyState) (counts : Counts) → IsSome (session_at s number) → SessionStretch number s s [] [] counts counts
stretch_none number s counts there = record { calls = []; chain = refl; came_is = refl; went_is = refl; missed_is = refl; spends = refl; still_open = there }

-- one call
pub stretch_one : (number : ℕ) (call : Call) (a b : ProxyState) (counts counts' : Counts) → IsCall number call a b → IsSome (session_at b number)
    → missed_by (call ∷ []) counts.0 ≡ counts'.0 → Spends (call ∷ []) counts.1 counts'.1
    → SessionStretch number a b (came_by call) (went_by call) counts counts'
stretch_one number call a b counts counts' h there missed spends = record {
  calls = call ∷ [];
  chain = (b, (h, refl));
  came_is = append-nil (came_by call);
  went_is = append-nil (went_by call);
  missed_is = missed;
  spends = spends;
  still_open = there;
}

-- one stretch and then another
pub stretch_then : (number : ℕ) (a b c : ProxyState) (came more went yet : List ℕ) (first second third : Counts) → SessionStretch number a b came went first second → SessionStretch number b c more yet second third
    → SessionStretch number a c (came ++ more) (went ++ yet) first third
stretch_then number a b c came more went yet first second third h k = record {
  calls = h.calls ++ k.calls;
  chain = calls-append number h.calls k.calls a b c h.chain k.chain;
  came_is = came-append h.calls k.calls ∙ ap (λ (bytes : List ℕ). bytes ++ came_of k.calls) h.came_is ∙ ap (λ (bytes : List ℕ). came ++ bytes) k.came_is;
  went_is = went-append h.calls k.calls ∙ ap (λ (bytes : List ℕ). bytes ++ went_of k.calls) h.went_is ∙ ap (λ (bytes : List ℕ). went ++ bytes) k.went_is;
  missed_is = missed-append h.calls k.calls first.0 ∙ ap (λ (missed : Option ℕ). missed_by k.calls missed) h.missed_is ∙ k.missed_is;
  spends = spends-append h.calls k.calls first.1 second.1 third.1 h.spends k.spends;
  still_open = k.still_open;
}
