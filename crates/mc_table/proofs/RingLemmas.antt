-- Rings: what unlinking a place and linking it before another leave.
use Rattle.std.proofs.Common.{◌≡◌, ℕ, ◌<◌, inl, inr, List, [], ◌∷◌, ◌++◌, length, refl, sym, ap, ◌∙◌, subst, arith}
use Rattle.std.proofs.lemmas.List.{append-nil}
use Rattle.mc_table.specs.declared.lru_nodes.LruNode.{LruNode}
use Rattle.mc_table.specs.Places.{Member, Apart, AllApart, first_of, last_from}
use Rattle.mc_table.specs.Rings.{link_at, joined, unlinked, linked_before, walk, places_of, Leads, IsRing}
use Rattle.mc_table.proofs.LinkLemmas.{length-joined, after-joined, after-joined_other, before-joined, before-joined_other}
use Rattle.mc_table.proofs.PlaceLemmas.{member_apart, Apart-front, Apart-back, AllApart-front, AllApart-back, AllApart-cross, AllApart-cross_back}

-- what is joined elsewhere leads on as it did
pub Leads-joined : (links : List LruNode) (b a from : ℕ) (ps : List ℕ) (to : ℕ) → b < length links → a < length links
    → (from ≡ b → ⊥) → Apart b ps → Apart a ps → (to ≡ a → ⊥) → Leads links from ps to → Leads (joined links b a) from ps to
Leads-joined links b a from [] to lb la fb pb pa ta leads =
    (after-joined_other links b a from lb la fb ∙ leads.0, before-joined_other links b a to lb la ta ∙ leads.1)
Leads-joined links b a from (p ∷ ps) to lb la fb pb pa ta leads =
    (after-joined_other links b a from lb la fb ∙ leads.0, before-joined_other links b a p lb la pa.0 ∙ leads.1, Leads-joined links b a p ps to lb la pb.0 pb.1 pa.1 ta leads.2)

-- places that are led through fall apart at each, and join again
pub Leads-front : (links : List LruNode) (from : ℕ) (xs : List ℕ) (p : ℕ) (ys : List ℕ) (to : ℕ) → Leads links from (xs ++ p ∷ ys) to → Leads links from xs p
Leads-front links from [] p ys to leads = (leads.0, leads.1)
Leads-front links from (x ∷ xs) p ys to leads = (leads.0, leads.1, Leads-front links x xs p ys to leads.2)

pub Leads-back : (links : List LruNode) (from : ℕ) (xs : List ℕ) (p : ℕ) (ys : List ℕ) (to : ℕ) → Leads links from (xs ++ p ∷ ys) to → Leads links p ys to
Leads-back links from [] p ys to leads = leads.2
Leads-back links from (x ∷ xs) p ys to leads = Leads-back links x xs p ys to leads.2

pub Leads-both : (links : List LruNode) (from : ℕ) (xs : List ℕ) (p : ℕ) (ys : List ℕ) (to : ℕ) → Leads links from xs p → Leads links p ys to → Leads links from (xs ++ p ∷ ys) to
Leads-both links from [] p ys to front back = (front.0, front.1, back)
Leads-both links from (x ∷ xs) p ys to front back = (front.0, front.1, Leads-both links x xs p ys to front.2 back)

-- the place after the one that they lead from
pub after_is : (links : List LruNode) (from : ℕ) (ps : List ℕ) → Leads links from ps 0 → (link_at links from).after ≡ first_of ps
after_is links from [] leads = leads.0
after_is links from (p ∷ ps) leads = leads.0

-- the place before the one that they lead to
pub before_is : (links : List LruNode) (from : ℕ) (ps : List ℕ) (to : ℕ) → Leads links from ps to → (link_at links to).before ≡ last_from from ps
before_is links from [] to leads = leads.1
before_is links from (p ∷ ps) to leads = before_is links p ps to leads.2

-- the place before the one that they lead to is among those on the way
pub before_held : (links : List LruNode) (from : ℕ) (ps : List ℕ) (to : ℕ) → Leads links from ps to → Member (link_at links to).before (from ∷ ps)
before_held links from [] to leads = inl (sym leads.1)
before_held links from (p ∷ ps) to leads = inr (before_held links p ps to leads.2)

-- joined to another place, they lead there
pub Leads-to : (links : List LruNode) (b a from : ℕ) (ps : List ℕ) (to : ℕ) → (link_at links to).before ≡ b → b < length links → a < length links
    → AllApart (from ∷ ps) → Apart a ps → Leads links from ps to → Leads (joined links b a) from ps a
Leads-to links b a from [] to is lb la apart other leads = grind (arith, after-joined, before-joined)
Leads-to links b a from (p ∷ ps) to is lb la apart other leads =
    grind (arith, after-joined_other, before-joined_other, member_apart, before_held, Leads-to links b a p ps to is lb la apart.1 other.1 leads.2)

-- each place, and 0, has a link
abbrev pub HaveLinks : List LruNode → List ℕ → Type 0
HaveLinks links places = (place : ℕ) → Member place (0 ∷ places) → place < length links

member_mid : (xs : List ℕ) (p : ℕ) (ys : List ℕ) → Member p (xs ++ p ∷ ys)
member_mid [] p ys = inl refl
member_mid (x ∷ xs) p ys = inr (member_mid xs p ys)

member_first : (q : ℕ) (xs ys : List ℕ) → Member q xs → Member q (xs ++ ys)
member_first q [] ys held = absurd held
member_first q (x ∷ xs) ys (inl here) = inl here
member_first q (x ∷ xs) ys (inr held) = inr (member_first q xs ys held)

-- a place that is unlinked is left out
pub Leads-unlinked : (links : List LruNode) (xs : List ℕ) (p : ℕ) (ys : List ℕ) → AllApart (0 ∷ (xs ++ p ∷ ys)) → HaveLinks links (xs ++ p ∷ ys)
    → Leads links 0 (xs ++ p ∷ ys) 0 → Leads (unlinked links p) 0 (xs ++ ys) 0
unfolding unlinked
Leads-unlinked links xs p [] apart have leads =
    let front = Leads-front links 0 xs p [] 0 leads in
    let back = Leads-back links 0 xs p [] 0 leads in
    let b : ℕ = (link_at links p).before in
    let a : ℕ = (link_at links p).after in
    let is : a ≡ 0 = back.0 in
    let held : Member b (0 ∷ xs) = before_held links 0 xs p front in
    let lb : b < length links = have b (member_first b (0 ∷ xs) (p ∷ []) held) in
    let la : a < length links = subst (λ (k : ℕ). k < length links) (sym is) (have 0 (inl refl)) in
    let fronts : AllApart (0 ∷ xs) = AllApart-front (0 ∷ xs) (p ∷ []) apart in
    grind (arith, append-nil, Leads-to)
Leads-unlinked links xs p (y ∷ ys) apart have leads =
    let front = Leads-front links 0 xs p (y ∷ ys) 0 leads in
    let back = Leads-back links 0 xs p (y ∷ ys) 0 leads in
    let b : ℕ = (link_at links p).before in
    let a : ℕ = (link_at links p).after in
    let is : a ≡ y = back.0 in
    let held : Member b (0 ∷ xs) = before_held links 0 xs p front in
    let lb : b < length links = have b (member_first b (0 ∷ xs) (p ∷ y ∷ ys) held) in
    let second : Member y (p ∷ y ∷ ys) = inr (inl refl) in
    let fronts : AllApart (0 ∷ xs) = AllApart-front (0 ∷ xs) (p ∷ y ∷ ys) apart in
    let backs : AllApart (p ∷ y ∷ ys) = AllApart-back (0 ∷ xs) (p ∷ y ∷ ys) apart in
    let other : Apart y (0 ∷ xs) = AllApart-cross_back y (0 ∷ xs) (p ∷ y ∷ ys) apart second in
    let cross : Apart b (p ∷ y ∷ ys) = AllApart-cross b (0 ∷ xs) (p ∷ y ∷ ys) apart held in
    let ly : y < length links = have y (inr (member_mid_at xs p y ys)) in
    grind (arith, Leads-joined, Leads-both, Leads-to)
  where
    member_mid_at : (xs : List ℕ) (p y : ℕ) (ys : List ℕ) → Member y (xs ++ p ∷ y ∷ ys)
    member_mid_at [] p y ys = inr (inl refl)
    member_mid_at (x ∷ xs) p y ys = inr (member_mid_at xs p y ys)

-- a place that is linked before another is there
pub Leads-linked : (links : List LruNode) (xs : List ℕ) (p : ℕ) (ys : List ℕ) → AllApart (0 ∷ (xs ++ ys)) → HaveLinks links (xs ++ ys)
    → p < length links → (p ≡ 0 → ⊥) → Apart p (xs ++ ys) → Leads links 0 (xs ++ ys) 0 → Leads (linked_before links p (first_of ys)) 0 (xs ++ p ∷ ys) 0
unfolding linked_before
Leads-linked links xs p [] apart0 have0 lp positive new0 leads0 =
    let nil : xs ++ [] ≡ xs = append-nil xs in
    let apart : AllApart (0 ∷ xs) = subst (λ (l : List ℕ). AllApart (0 ∷ l)) nil apart0 in
    let have : HaveLinks links xs = subst (λ (l : List ℕ). HaveLinks links l) nil have0 in
    grind (arith, length-joined, after-joined, before-joined, Leads-joined, Leads-both, before_held, Leads-to)
Leads-linked links xs p (y ∷ ys) apart have lp positive new leads =
    let front = Leads-front links 0 xs y ys 0 leads in
    let back = Leads-back links 0 xs y ys 0 leads in
    let b : ℕ = (link_at links y).before in
    let held : Member b (0 ∷ xs) = before_held links 0 xs y front in
    let lb : b < length links = have b (member_first b (0 ∷ xs) (y ∷ ys) held) in
    let ly : y < length links = have y (inr (member_mid xs y ys)) in
    let fronts : AllApart (0 ∷ xs) = AllApart-front (0 ∷ xs) (y ∷ ys) apart in
    let backs : AllApart (y ∷ ys) = AllApart-back (0 ∷ xs) (y ∷ ys) apart in
    let other : Apart y (0 ∷ xs) = AllApart-cross_back y (0 ∷ xs) (y ∷ ys) apart (inl refl) in
    let cross : Apart b (y ∷ ys) = AllApart-cross b (0 ∷ xs) (y ∷ ys) apart held in
    let newf : Apart p xs = Apart-front p xs (y ∷ ys) new in
    let newb : Apart p (y ∷ ys) = Apart-back p xs (y ∷ ys) new in
    grind (arith, length-joined, after-joined, before-joined, Leads-joined, Leads-both, Leads-to)

-- links that agree below a bound lead alike
pub Leads-same : (links others : List LruNode) (from : ℕ) (ps : List ℕ) (to : ℕ) → link_at others from ≡ link_at links from
    → link_at others to ≡ link_at links to
    → ((place : ℕ) → Member place ps → link_at others place ≡ link_at links place) → Leads links from ps to → Leads others from ps to
Leads-same links others from [] to first last same leads =
    (ap (λ (l : LruNode). l.after) first ∙ leads.0, ap (λ (l : LruNode). l.before) last ∙ leads.1)
Leads-same links others from (p ∷ ps) to first last same leads =
    (ap (λ (l : LruNode). l.after) first ∙ leads.0, ap (λ (l : LruNode). l.before) (same p (inl refl)) ∙ leads.1, Leads-same links others p ps to (same p (inl refl)) last (λ place held. same place (inr held)) leads.2)

-- a walk goes through the places that are led through
pub walk_is : (links : List LruNode) (from : ℕ) (ps : List ℕ) (to : ℕ) → Leads links from ps to → walk links (length ps) from ≡ ps
unfolding walk
walk_is links from [] to leads = refl
walk_is links from (p ∷ ps) to leads =
    let rest : walk links (length ps) p ≡ ps = walk_is links p ps to leads.2 in
    rw (leads.0, rest) refl

-- the places of a ring are its places
pub ring_places : (links : List LruNode) (places : List ℕ) → IsRing links places → places_of links ≡ places
unfolding places_of
ring_places links places ring = grind (arith, walk_is)
