-- What is read of a list at a place, after one place is replaced, and after one is added.
use Rattle.std.proofs.Common.{◌≡◌, ◌≢◌, ◌∙◌, ⊎_elim, ℕ, suc, ◌<◌, ◌≤◌, ◌+◌, Bool, if◌then◌else◌, List, [], ◌∷◌, ◌++◌, length, map, set, take, get_or, nat_lt, refl, sym, ap, subst, append_assoc, append-nil, arith, get_or-set_same, get_or-set_other, length-append}
use Rattle.std.proofs.Math.Seq.{take-suc}
use Rattle.std.proofs.lemmas.Bool.{cases_lt, le-ltb, lt-ltb}
use Rattle.std.proofs.lemmas.Bool.Decides.{eqb_tells}
use Rattle.std.proofs.lemmas.List.{get_or-map, get_or_append_left, get_or_at, get_or_past, length-map, map-append, map-set}
use Rattle.mc_account.specs.Holds.{changed, grown}
use Rattle.mc_account.proofs.HoldsLemmas.{changed-other, changed-own}
use Rattle.mc_threads.specs.Accounts.{Bytes, at, joined}

pub at_map : {X : Type 0} (f : X → List ℕ) (xs : List X) (i : ℕ) (d : X) → i < length xs → at (map f xs) i ≡ f (get_or xs i d)
at_map f xs i d low = get_or-map f xs i d [] low

pub at_past : {X : Type 0} (f : X → List ℕ) (xs : List X) (i : ℕ) → length xs ≤ i → at (map f xs) i ≡ []
at_past f xs i past = get_or_past (map f xs) i [] (omega (arith, length-map xs f, past))

-- the element of a place is replaced
pub at_set : {X : Type 0} (f : X → List ℕ) (xs : List X) (k : ℕ) (v : X) → k < length xs → (n : ℕ) → at (map f (set xs k v)) n ≡ changed k (f v) (at (map f xs)) n
at_set f xs k v low n =
    let size : length (map f xs) ≡ length xs = length-map xs f in
    ap (λ (ys : List (List ℕ)). at ys n) (map-set f xs k v)
    ∙ ⊎_elim
    (λ e. subst (λ (m : ℕ). at (set (map f xs) k (f v)) m ≡ changed k (f v) (at (map f xs)) m) e.1
    (get_or-set_same (map f xs) k (f v) [] (omega (arith, size, low)) ∙ sym (changed-own k (f v) (at (map f xs)))))
    (λ e. get_or-set_other (map f xs) k n (f v) [] (λ same. e.1 (sym same)) ∙ sym (changed-other k n (f v) (at (map f xs)) e.1))
    (eqb_tells k n)

pub at_set_own : {X : Type 0} (f : X → List ℕ) (xs : List X) (k : ℕ) (v : X) → k < length xs → at (map f (set xs k v)) k ≡ f v
at_set_own f xs k v low = at_set f xs k v low k ∙ changed-own k (f v) (at (map f xs))

pub at_set_other : {X : Type 0} (f : X → List ℕ) (xs : List X) (k : ℕ) (v : X) → k < length xs → (n : ℕ) → k ≢ n → at (map f (set xs k v)) n ≡ at (map f xs) n
at_set_other f xs k v low n differ = at_set f xs k v low n ∙ changed-other k n (f v) (at (map f xs)) differ

-- the element is replaced, and f does not distinguish the two
pub at_set_same : {X : Type 0} (f : X → List ℕ) (xs : List X) (k : ℕ) (v w : X) → k < length xs → w ≡ get_or xs k w → f v ≡ f w → (n : ℕ) → at (map f (set xs k v)) n ≡ at (map f xs) n
at_set_same f xs k v w low is same n =
    ⊎_elim
    (λ e. subst (λ (m : ℕ). at (map f (set xs k v)) m ≡ at (map f xs) m) e.1
    (at_set_own f xs k v low ∙ same ∙ ap f is ∙ sym (at_map f xs k w low)))
    (λ e. at_set_other f xs k v low n e.1)
    (eqb_tells k n)

-- one element is added
pub at_push_low : {X : Type 0} (f : X → List ℕ) (xs : List X) (v : X) (n : ℕ) → n < length xs → at (map f (xs ++ v ∷ [])) n ≡ at (map f xs) n
at_push_low f xs v n low =
    ap (λ (ys : List (List ℕ)). at ys n) (map-append f xs (v ∷ []))
    ∙ get_or_append_left (map f xs) (f v ∷ []) [] n (omega (arith, length-map xs f, low))

pub at_push_own : {X : Type 0} (f : X → List ℕ) (xs : List X) (v : X) (n : ℕ) → length xs ≡ n → at (map f (xs ++ v ∷ [])) n ≡ f v
at_push_own f xs v n is =
    ap (λ (ys : List (List ℕ)). at ys n) (map-append f xs (v ∷ []))
    ∙ get_or_at (map f xs) (f v) [] [] n (length-map xs f ∙ is)

-- pieces joined, and one more
pub joined-append : (ps qs : List Bytes) → joined (ps ++ qs) ≡ joined ps ++ joined qs
joined-append [] qs = refl
joined-append (p ∷ ps) qs = ap (λ (t : List ℕ). p.items ++ t) (joined-append ps qs) ∙ sym (append_assoc p.items (joined ps) (joined qs))

pub joined_next : (ps : List Bytes) (k : ℕ) (d : Bytes) → k < length ps → d ≡ get_or ps k d → joined (take (k + 1) ps) ≡ joined (take k ps) ++ d.items
joined_next ps k d low is =
    let next : suc k ≡ k + 1 = omega arith in
    ap (λ (n : ℕ). joined (take n ps)) (sym next)
    ∙ ap joined (take-suc ps k d low)
    ∙ joined-append (take k ps) (get_or ps k d ∷ [])
    ∙ ap (λ (t : List ℕ). joined (take k ps) ++ t) (append-nil (get_or ps k d).items ∙ ap (λ (p : Bytes). p.items) (sym is))

-- a text that grew twice
pub grown_twice : (client : ℕ) (first second both : List ℕ) (texts : ℕ → List ℕ) → both ≡ first ++ second → (n : ℕ) → grown client second (grown client first texts) n ≡ grown client both texts n
grown_twice client first second both texts is n =
    ⊎_elim
    (λ e. subst (λ (m : ℕ). grown client second (grown client first texts) m ≡ grown client both texts m) e.1
    (changed-own client (grown client first texts client ++ second) (grown client first texts)
    ∙ ap (λ (t : List ℕ). t ++ second) (changed-own client (texts client ++ first) texts)
    ∙ append_assoc (texts client) first second
    ∙ ap (λ (t : List ℕ). texts client ++ t) (sym is)
    ∙ sym (changed-own client (texts client ++ both) texts)))
    (λ e. changed-other client n (grown client first texts client ++ second) (grown client first texts) e.1
    ∙ changed-other client n (texts client ++ first) texts e.1
    ∙ sym (changed-other client n (texts client ++ both) texts e.1))
    (eqb_tells client n)

pub grown_nothing : (client : ℕ) (texts : ℕ → List ℕ) (n : ℕ) → texts n ≡ grown client [] texts n
grown_nothing client texts n =
    ⊎_elim
    (λ e. subst (λ (m : ℕ). texts m ≡ grown client [] texts m) e.1 (sym (append-nil (texts client)) ∙ sym (changed-own client (texts client ++ []) texts)))
    (λ e. sym (changed-other client n (texts client ++ []) texts e.1))
    (eqb_tells client n)

-- the first of some texts
abbrev pub below : ℕ → (ℕ → List ℕ) → ℕ → List ℕ
below count texts n = if nat_lt n count then texts n else []

pub below_low : (count : ℕ) (texts : ℕ → List ℕ) (n : ℕ) → n < count → below count texts n ≡ texts n
below_low count texts n low = ap (λ (v : Bool). if v then texts n else []) (lt-ltb n count low)

pub below_past : (count : ℕ) (texts : ℕ → List ℕ) (n : ℕ) → count ≤ n → below count texts n ≡ []
below_past count texts n past = ap (λ (v : Bool). if v then texts n else []) (le-ltb n count past)

pub below_next : (k : ℕ) (text : List ℕ) (texts : ℕ → List ℕ) → texts k ≡ text → (n : ℕ) → grown k text (below k texts) n ≡ below (k + 1) texts n
below_next k text texts is n =
    ⊎_elim
    (λ e. subst (λ (m : ℕ). grown k text (below k texts) m ≡ below (k + 1) texts m) e.1
    (changed-own k (below k texts k ++ text) (below k texts)
    ∙ ap (λ (t : List ℕ). t ++ text) (below_past k texts k (omega arith))
    ∙ sym is ∙ sym (below_low (k + 1) texts k (omega arith))))
    (λ e. let differ : k ≢ n = e.1 in
    changed-other k n (below k texts k ++ text) (below k texts) e.1
    ∙ ⊎_elim
    (λ (low : n < k). below_low k texts n low ∙ sym (below_low (k + 1) texts n (omega (arith, low))))
    (λ (past : k ≤ n). below_past k texts n past ∙ sym (below_past (k + 1) texts n (omega (arith, past, differ))))
    (cases_lt n k))
    (eqb_tells k n)

-- all texts
pub below_all : (count : ℕ) (texts : ℕ → List ℕ) → ((n : ℕ) → count ≤ n → texts n ≡ []) → (n : ℕ) → below count texts n ≡ texts n
below_all count texts none n =
    ⊎_elim
    (λ (low : n < count). below_low count texts n low)
    (λ (past : count ≤ n). below_past count texts n past ∙ sym (none n past))
    (cases_lt n count)

-- nothing is read if nothing is at any place, and if nothing is added
pub some_at : {X : Type 0} (xs : List X) (i : ℕ) → i < length xs → X
some_at [] i low = absurd (omega (arith, low))
some_at (x ∷ xs) i low = x

pub at_nothing : {X : Type 0} (f : X → List ℕ) (xs : List X) → ((i : ℕ) (d : X) → i < length xs → f (get_or xs i d) ≡ []) → (n : ℕ) → at (map f xs) n ≡ []
at_nothing {X} f xs each n =
    ⊎_elim
    (λ (low : n < length xs). let d : X = some_at xs n low in at_map f xs n d low ∙ each n d low)
    (λ (past : length xs ≤ n). at_past f xs n past)
    (cases_lt n (length xs))

pub at_push_nothing : {X : Type 0} (f : X → List ℕ) (xs ys : List X) (v : X) → ys ≡ xs ++ v ∷ [] → f v ≡ [] → ((n : ℕ) → at (map f xs) n ≡ []) → (n : ℕ) → at (map f ys) n ≡ []
at_push_nothing {X} f xs ys v grown none all n =
    ap (λ (zs : List X). at (map f zs) n) grown
    ∙ ⊎_elim
    (λ (low : n < length xs). at_push_low f xs v n low ∙ all n)
    (λ (past : length xs ≤ n). ⊎_elim
    (λ e. at_push_own f xs v n e.1 ∙ none)
    (λ e. let differ : length xs ≢ n = e.1 in at_past f (xs ++ v ∷ []) n (omega (arith, past, differ, length-append xs (v ∷ []))))
    (eqb_tells (length xs) n))
    (cases_lt n (length xs))
