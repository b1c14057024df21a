-- Orders: what each call leaves of a ring.
use Rattle.std.proofs.Common.{◌≡◌, ℕ, suc, ◌+◌, ◌-◌, ◌<◌, ◌≤◌, ◌^◌, inl, inr, true, eqb, List, [], ◌∷◌, ◌++◌, length, get_or, set, take, refl, sym, ap, ◌∙◌, subst, arith}
use Rattle.std.proofs.lemmas.List.{get_or_append_left, get_or-take, length-take-le, length_push, get_or_read, with_items_is}
use Rattle.std.specs.Prelude.{Vec}
use Rattle.std.specs.Vec.{with_items}
use Rattle.std.proofs.lemmas.Bool.{cases_eq}
use Rattle.std.proofs.lemmas.Bool.Decides.{nat_tests}
use Rattle.mc_table.specs.declared.lru_nodes.LruNode.{LruNode}
use Rattle.mc_table.specs.Places.{Member, Apart, AllApart, first_of, last_of, left_out, renumbered, AreAll}
use Rattle.mc_table.specs.Rings.{no_link, link_at, unlinked, linked_before, places_of, Leads, IsRing}
use Rattle.mc_table.proofs.LinkLemmas.{length-unlinked, length-linked_before}
use Rattle.mc_table.proofs.PlaceLemmas.{Apart-front, Apart-back, Apart-both, AllApart-out, AllApart-between, Apart-out, Apart-zero, Apart-beyond, UpTo-member, Member-out, Member-in, SplitAt, split_at, renumbered-same, renumbered-between}
use Rattle.mc_table.proofs.AllLemmas.{length_mid, member_mid, AreAll-more, AreAll-front, split_last, AreAll-last_out, AreAll-other_out}
use Rattle.mc_table.proofs.RingLemmas.{HaveLinks, Leads-unlinked, Leads-linked, Leads-back, Leads-same, after_is, before_is, ring_places}

-- links that lead around through places, each once
pub record IsLoop (links : List LruNode) (places : List ℕ) : Type 0 where
  pub leads : Leads links 0 places 0
  pub once : AllApart (0 ∷ places)
  pub have : HaveLinks links places

pub ring_loop : (links : List LruNode) (places : List ℕ) → IsRing links places → IsLoop links places
ring_loop links places ring = record {
  leads = ring.leads;
  once = (Apart-zero (length places) places ring.are_all.within, ring.are_all.once);
  have = λ place held. have_of place held;
}
  where
    have_of : (place : ℕ) → Member place (0 ∷ places) → place < length links
    have_of place (inl here) = omega (arith, ring.count)
    have_of place (inr held) = let bounds = UpTo-member (length places) place places ring.are_all.within held in let most : place ≤ length places = bounds.1 in omega (arith, ring.count)

-- the place after a place of a loop is one of its places, or 0
after_within : (links : List LruNode) (from : ℕ) (ps : List ℕ) (to q : ℕ) → Leads links from ps to → Member q (from ∷ ps) → Member (link_at links q).after (to ∷ ps)
after_within links from [] to q leads (inl here) = inl (sym (subst (λ (k : ℕ). (link_at links k).after ≡ to) here leads.0))
after_within links from [] to q leads (inr held) = absurd held
after_within links from (p ∷ ps) to q leads (inl here) = inr (inl (sym (subst (λ (k : ℕ). (link_at links k).after ≡ p) here leads.0)))
after_within links from (p ∷ ps) to q leads (inr held) = grind (arith, after_within links p ps to q leads.2 held)

-- likewise the place before it
before_within : (links : List LruNode) (from : ℕ) (ps : List ℕ) (to q : ℕ) → Leads links from ps to → Member q (to ∷ ps) → Member (link_at links q).before (from ∷ ps)
before_within links from [] to q leads (inl here) = inl (sym (subst (λ (k : ℕ). (link_at links k).before ≡ from) here leads.1))
before_within links from [] to q leads (inr held) = absurd held
before_within links from (p ∷ ps) to q leads (inl here) = inr (before_within links p ps to q leads.2 (inl here))
before_within links from (p ∷ ps) to q leads (inr (inl here)) = inl (sym (subst (λ (k : ℕ). (link_at links k).before ≡ from) here leads.1))
before_within links from (p ∷ ps) to q leads (inr (inr held)) = inr (before_within links p ps to q leads.2 (inr held))

-- a place of a loop and what is on its sides have links
pub record HasSides (links : List LruNode) (place : ℕ) : Type 0 where
  pub own : place < length links
  pub before : (link_at links place).before < length links
  pub after : (link_at links place).after < length links

pub loop_sides : (links : List LruNode) (places : List ℕ) (place : ℕ) → IsLoop links places → Member place (0 ∷ places) → HasSides links place
loop_sides links places place loop held = record {
  own = loop.have place held;
  before = loop.have (link_at links place).before (before_within links 0 places 0 place loop.leads held);
  after = loop.have (link_at links place).after (after_within links 0 places 0 place loop.leads held);
}

-- the place after 0 in a loop has neighbours too
pub first_sides : (links : List LruNode) (places : List ℕ) (place : ℕ) → IsLoop links places → Member place (0 ∷ places) → HasSides links (link_at links place).after
first_sides links places place loop held =
    loop_sides links places (link_at links place).after loop (after_within links 0 places 0 place loop.leads held)

loop_unlinked : (links : List LruNode) (xs : List ℕ) (p : ℕ) (ys : List ℕ) → IsLoop links (xs ++ p ∷ ys) → IsLoop (unlinked links p) (xs ++ ys)
loop_unlinked links xs p ys loop = record {
  leads = Leads-unlinked links xs p ys loop.once loop.have loop.leads;
  once = AllApart-out p (0 ∷ xs) ys loop.once;
  have = λ place held. subst (λ (n : ℕ). place < n) (sym (length-unlinked links p)) (loop.have place (Member-in p place (0 ∷ xs) ys held));
}

loop_linked : (links : List LruNode) (xs : List ℕ) (p : ℕ) (ys : List ℕ) → IsLoop links (xs ++ ys) → p < length links → (p ≡ 0 → ⊥) → Apart p (xs ++ ys)
    → IsLoop (linked_before links p (first_of ys)) (xs ++ p ∷ ys)
loop_linked links xs p ys loop own positive new = record {
  leads = Leads-linked links xs p ys loop.once loop.have own positive new loop.leads;
  once = AllApart-between p (0 ∷ xs) ys loop.once (λ same. positive (sym same), new);
  have = λ place held. subst (λ (n : ℕ). place < n) (sym (length-linked_before links p (first_of ys))) (have_of place held);
}
  where
    have_of : (place : ℕ) → Member place (0 ∷ (xs ++ p ∷ ys)) → place < length links
    have_of place held =
        elim (cases_eq place p) as (λ _. place < length links) [
          | inl same ↦ subst (λ (k : ℕ). k < length links) (sym same) own
          | inr other ↦ loop.have place (Member-out p place (0 ∷ xs) ys other held)
        ]

-- a place of a ring, by its number
pub ring_split : (links : List LruNode) (places : List ℕ) (place : ℕ) → IsRing links places → 0 < place → place ≤ length places → SplitAt place places
ring_split links places place ring positive within = split_at place places ring.are_all.once (ring.are_all.all place positive within)

-- a ring without one of its places
pub ring_unlinked : (links : List LruNode) (places : List ℕ) (place : ℕ) → IsRing links places → SplitAt place places → IsLoop (unlinked links place) (left_out place places)
ring_unlinked links places place ring cut =
    subst (λ (l : List ℕ). IsLoop (unlinked links place) l) (sym cut.others)
    (loop_unlinked links cut.front place cut.back (subst (λ (l : List ℕ). IsLoop links l) cut.is (ring_loop links places ring)))

pub out_apart : (place : ℕ) (places : List ℕ) → AllApart places → SplitAt place places → Apart place (left_out place places)
out_apart place places once cut =
    subst (λ (l : List ℕ). Apart place l) (sym cut.others) (Apart-out place cut.front cut.back (subst (λ (l : List ℕ). AllApart l) cut.is once))

-- the place in front again
pub ring_brought : (links : List LruNode) (places : List ℕ) (place first : ℕ) → IsRing links places → 0 < place → SplitAt place places
    → first ≡ (link_at (unlinked links place) 0).after → IsRing (linked_before (unlinked links place) place first) (place ∷ left_out place places)
ring_brought links places place first ring positive cut is =
    let loop : IsLoop (unlinked links place) (left_out place places) = ring_unlinked links places place ring cut in
    let held : Member place places = subst (λ (l : List ℕ). Member place l) (sym cut.is) (member_mid cut.front place cut.back) in
    let own : place < length links = (ring_loop links places ring).have place (inr held) in
    let own2 : place < length (unlinked links place) = subst (λ (n : ℕ). place < n) (sym (length-unlinked links place)) own in
    let head : first ≡ first_of (left_out place places) = is ∙ after_is (unlinked links place) 0 (left_out place places) loop.leads in
    let nonzero : place ≡ 0 → ⊥ = λ same. omega arith in
    let after : IsLoop (linked_before (unlinked links place) place (first_of (left_out place places))) (place ∷ left_out place places) =
    loop_linked (unlinked links place) [] place (left_out place places) loop own2 nonzero (out_apart place places ring.are_all.once cut) in
    let size : length (linked_before (unlinked links place) place first) ≡ length links = length-linked_before (unlinked links place) place first ∙ length-unlinked links place in
    let count : length (place ∷ left_out place places) ≡ length places = sym (ap length cut.is ∙ length_mid cut.front place cut.back ∙ ap (λ (l : List ℕ). suc (length l)) (sym cut.others)) in
    record {
      leads = subst (λ (k : ℕ). Leads (linked_before (unlinked links place) place k) 0 (place ∷ left_out place places) 0) (sym head) after.leads;
      are_all = AreAll-front place places ring.are_all cut;
      count = size ∙ ring.count ∙ ap suc (sym count);
      small = subst (λ (n : ℕ). n ≤ 2 ^ 32) (sym size) ring.small;
    }

test_self : (p : ℕ) → eqb p p ≡ true
test_self p = grind (arith, nat_tests)

-- a place that is first already
pub first_is : (links : List LruNode) (places : List ℕ) (place : ℕ) → IsRing links places → 0 < place → (link_at links 0).after ≡ place → places ≡ place ∷ left_out place places
first_is links places place ring positive first = of places (sym (after_is links 0 places ring.leads) ∙ first)
  where
    of : (ps : List ℕ) → first_of ps ≡ place → ps ≡ place ∷ left_out place ps
    of [] is = absurd (omega arith)
    of (p ∷ ps) is = subst (λ (k : ℕ). p ∷ ps ≡ k ∷ left_out k (p ∷ ps)) is (rw (test_self p) refl)

-- a ring with one more place in front
pub ring_more : (links : List LruNode) (places : List ℕ) (first : ℕ) → IsRing links places → length links < 2 ^ 32
    → first ≡ (link_at (links ++ no_link ∷ []) 0).after → IsRing (linked_before (links ++ no_link ∷ []) (length links) first) (suc (length places) ∷ places)
ring_more links places first ring room is =
    let more : List LruNode = links ++ no_link ∷ [] in
    let size : length more ≡ length links + 1 = length_push links no_link in
    let old : IsLoop links places = ring_loop links places ring in
    let same : (q : ℕ) → q < length links → link_at more q ≡ link_at links q = λ q within. get_or_append_left links (no_link ∷ []) no_link q within in
    let loop : IsLoop more places = record {
      leads = Leads-same links more 0 places 0 (same 0 (old.have 0 (inl refl))) (same 0 (old.have 0 (inl refl))) (λ q held. same q (old.have q (inr held))) old.leads;
      once = old.once;
      have = λ q held. let within : q < length links = old.have q held in omega arith;
    } in
    let head : first ≡ first_of places = is ∙ after_is more 0 places loop.leads in
    let number : length links ≡ suc (length places) = ring.count in
    let own : length links < length more = omega arith in
    let nonzero : length links ≡ 0 → ⊥ = λ zero. omega arith in
    let apart : Apart (length links) places = Apart-beyond (length places) (length links) places (omega arith) ring.are_all.within in
    let after : IsLoop (linked_before more (length links) (first_of places)) (length links ∷ places) = loop_linked more [] (length links) places loop own nonzero apart in
    let leads : Leads (linked_before more (length links) (first_of places)) 0 (suc (length places) ∷ places) 0 =
    subst (λ (k : ℕ). Leads (linked_before more (length links) (first_of places)) 0 (k ∷ places) 0) number after.leads in
    let sizes : length (linked_before more (length links) first) ≡ length more = length-linked_before more (length links) first in
    record {
      leads = subst (λ (k : ℕ). Leads (linked_before more (length links) k) 0 (suc (length places) ∷ places) 0) (sym head) leads;
      are_all = AreAll-more places ring.are_all;
      count = omega arith;
      small = omega arith;
    }

-- a ring whose last link goes
dropped_last : (links : List LruNode) (places : List ℕ) → IsLoop links places → AreAll places → length links ≡ suc (suc (length places)) → length links ≤ 2 ^ 32
    → IsRing (take (length links - 1) links) places
dropped_last links places loop all count small =
    let size : length (take (length links - 1) links) ≡ length links - 1 = length-take-le (length links - 1) links (omega arith) in
    let same : (q : ℕ) → q < length links - 1 → link_at (take (length links - 1) links) q ≡ link_at links q = λ q within. get_or-take (length links - 1) links q no_link within in
    let zero_in : 0 < length links - 1 = omega arith in
    record {
      leads = Leads-same links (take (length links - 1) links) 0 places 0 (same 0 zero_in) (same 0 zero_in)
          (λ q held. let bounds = UpTo-member (length places) q places all.within held in let most : q ≤ length places = bounds.1 in same q (omega arith)) loop.leads;
      are_all = all;
      count = omega arith;
      small = omega arith;
    }

-- the last place is removed
pub ring_last_out : (links : List LruNode) (places : List ℕ) (place : ℕ) → IsRing links places → SplitAt place places → place ≡ length places
    → IsRing (take (length (unlinked links place) - 1) (unlinked links place)) (renumbered (length places) place (left_out place places))
ring_last_out links places place ring cut last =
    let loop : IsLoop (unlinked links place) (left_out place places) = ring_unlinked links places place ring cut in
    let all : AreAll (left_out place places) = AreAll-last_out place places ring.are_all cut last in
    let size : length (unlinked links place) ≡ length links = length-unlinked links place in
    let count : length places ≡ suc (length (left_out place places)) = ap length cut.is ∙ length_mid cut.front place cut.back ∙ ap (λ (l : List ℕ). suc (length l)) (sym cut.others) in
    let number : length links ≡ suc (length places) = ring.count in
    let small : length links ≤ 2 ^ 32 = ring.small in
    let after = dropped_last (unlinked links place) (left_out place places) loop all (omega arith) (omega arith) in
    grind (arith, renumbered-same)

-- another place is removed, and the last takes its number
pub ring_other_out : (links : List LruNode) (places : List ℕ) (place next : ℕ) → IsRing links places → 0 < place → SplitAt place places → (place ≡ length places → ⊥)
    → next ≡ (link_at (unlinked links place) (length places)).after → (after : List LruNode) → after ≡ linked_before (unlinked (unlinked links place) (length places)) place next
    → IsRing (take (length after - 1) after) (renumbered (length places) place (left_out place places))
ring_other_out links places place next ring positive cut differ is after made =
    let one : List LruNode = unlinked links place in
    let two : List LruNode = unlinked one (length places) in
    let loop : IsLoop one (left_out place places) = ring_unlinked links places place ring cut in
    let rest : SplitAt (length places) (left_out place places) = split_last place places ring.are_all cut differ in
    let loop1 : IsLoop one (rest.front ++ length places ∷ rest.back) = subst (λ (l : List ℕ). IsLoop one l) rest.is loop in
    let loop2 : IsLoop two (rest.front ++ rest.back) = loop_unlinked one rest.front (length places) rest.back loop1 in
    let head : next ≡ first_of rest.back = is ∙ after_is one (length places) rest.back (Leads-back one 0 rest.front (length places) rest.back 0 loop1.leads) in
    let size1 : length one ≡ length links = length-unlinked links place in
    let size2 : length two ≡ length one = length-unlinked one (length places) in
    let number : length links ≡ suc (length places) = ring.count in
    let small : length links ≤ 2 ^ 32 = ring.small in
    let held : Member place places = subst (λ (l : List ℕ). Member place l) (sym cut.is) (member_mid cut.front place cut.back) in
    let own : place < length links = (ring_loop links places ring).have place (inr held) in
    let own2 : place < length two = omega arith in
    let nonzero : place ≡ 0 → ⊥ = λ zero. omega arith in
    let apart1 : Apart place (rest.front ++ length places ∷ rest.back) = subst (λ (l : List ℕ). Apart place l) rest.is (out_apart place places ring.are_all.once cut) in
    let apart : Apart place (rest.front ++ rest.back) =
    Apart-both place rest.front rest.back (Apart-front place rest.front (length places ∷ rest.back) apart1) (Apart-back place rest.front (length places ∷ rest.back) apart1).1 in
    let loop3 : IsLoop (linked_before two place (first_of rest.back)) (rest.front ++ place ∷ rest.back) = loop_linked two rest.front place rest.back loop2 own2 nonzero apart in
    let same_links : linked_before two place (first_of rest.back) ≡ after = ap (λ (k : ℕ). linked_before two place k) (sym head) ∙ sym made in
    let loop4 : IsLoop after (rest.front ++ place ∷ rest.back) = subst (λ (l : List LruNode). IsLoop l (rest.front ++ place ∷ rest.back)) same_links loop3 in
    let size3 : length after ≡ length two = ap length made ∙ length-linked_before two place next in
    let all : AreAll (rest.front ++ place ∷ rest.back) = AreAll-other_out place places ring.are_all cut differ rest in
    let count1 : length places ≡ suc (length (left_out place places)) = ap length cut.is ∙ length_mid cut.front place cut.back ∙ ap (λ (l : List ℕ). suc (length l)) (sym cut.others) in
    let count2 : length (left_out place places) ≡ suc (length (rest.front ++ rest.back)) = ap length rest.is ∙ length_mid rest.front (length places) rest.back in
    let count3 : length (rest.front ++ place ∷ rest.back) ≡ suc (length (rest.front ++ rest.back)) = length_mid rest.front place rest.back in
    let ring2 : IsRing (take (length after - 1) after) (rest.front ++ place ∷ rest.back) = dropped_last after (rest.front ++ place ∷ rest.back) loop4 all (omega arith) (omega arith) in
    let onlylast : Apart (length places) (rest.front ++ rest.back) = Apart-out (length places) rest.front rest.back loop1.once.1 in
    grind (arith, renumbered-between)

-- links that are a ring are the ring of their places
pub ring_own : (links : List LruNode) (places : List ℕ) → IsRing links places → IsRing links (places_of links)
ring_own links places ring = subst (λ (l : List ℕ). IsRing links l) (sym (ring_places links places ring)) ring

pub ring_last : (links : List LruNode) → IsRing links (places_of links) → (link_at links 0).before ≡ last_of (places_of links)
ring_last links ring = before_is links 0 (places_of links) 0 ring.leads

-- the link of 0 alone is a ring of no place
pub ring_none : IsRing (no_link ∷ []) []
ring_none = grind arith

-- likewise for the code, which has what each call left

pub own_split : (links : List LruNode) (place : ℕ) → IsRing links (places_of links) → 0 < place → place ≤ length (places_of links) → SplitAt place (places_of links)
own_split links place ring positive within = ring_split links (places_of links) place ring positive within

pub own_sides : (links : List LruNode) (place : ℕ) → IsRing links (places_of links) → 0 < place → place ≤ length (places_of links) → HasSides links place
own_sides links place ring positive within =
    loop_sides links (places_of links) place (ring_loop links (places_of links) ring) (inr (ring.are_all.all place positive within))

unlinked_loop : (links one : List LruNode) (place : ℕ) → IsRing links (places_of links) → 0 < place → place ≤ length (places_of links)
    → one ≡ unlinked links place
    → IsLoop one (left_out place (places_of links))
unlinked_loop links one place ring positive within is =
    subst (λ (l : List LruNode). IsLoop l (left_out place (places_of links))) (sym is) (ring_unlinked links (places_of links) place ring (own_split links place ring positive within))

-- what is first once a place is unlinked
pub brought_sides : (links one : List LruNode) (place : ℕ) → IsRing links (places_of links) → 0 < place → place ≤ length (places_of links) → one ≡ unlinked links place
    → HasSides one (link_at one 0).after
brought_sides links one place ring positive within is =
    first_sides one (left_out place (places_of links)) 0 (unlinked_loop links one place ring positive within is) (inl refl)

pub brought_ring : (links one two : List LruNode) (place : ℕ) → IsRing links (places_of links) → 0 < place → place ≤ length (places_of links) → one ≡ unlinked links place
    → two ≡ linked_before one place (link_at one 0).after → IsRing two (place ∷ left_out place (places_of links))
brought_ring links one two place ring positive within is made =
    let ring2 = ring_brought links (places_of links) place (link_at (unlinked links place) 0).after ring positive (own_split links place ring positive within) refl in
    grind arith

-- the last place, if another is unlinked
pub last_sides : (links one : List LruNode) (place last : ℕ) → IsRing links (places_of links) → 0 < place → place ≤ length (places_of links) → one ≡ unlinked links place
    → last ≡ length one - 1 → (last ≡ place → ⊥) → HasSides one last
last_sides links one place last ring positive within is at differ =
    let loop = unlinked_loop links one place ring positive within is in
    let cut = own_split links place ring positive within in
    let size : length one ≡ length links = ap length is ∙ length-unlinked links place in
    let number : length links ≡ suc (length (places_of links)) = ring.count in
    let lastly : last ≡ length (places_of links) = omega arith in
    let rest : SplitAt (length (places_of links)) (left_out place (places_of links)) = split_last place (places_of links) ring.are_all cut (λ same. differ (lastly ∙ sym same)) in
    grind (arith, member_mid, loop_sides)

-- the place after it, once that is unlinked too
pub next_sides : (links one two : List LruNode) (place last next : ℕ) → IsRing links (places_of links) → 0 < place → place ≤ length (places_of links) → one ≡ unlinked links place
    → last ≡ length one - 1 → (last ≡ place → ⊥) → two ≡ unlinked one last → next ≡ (link_at one last).after → HasSides two next
next_sides links one two place last next ring positive within is at differ made after =
    let loop = unlinked_loop links one place ring positive within is in
    let cut = own_split links place ring positive within in
    let size : length one ≡ length links = ap length is ∙ length-unlinked links place in
    let lastly : last ≡ length (places_of links) = omega arith in
    let rest0 : SplitAt (length (places_of links)) (left_out place (places_of links)) = split_last place (places_of links) ring.are_all cut (λ same. differ (lastly ∙ sym same)) in
    let rest : SplitAt last (left_out place (places_of links)) = subst (λ (k : ℕ). SplitAt k (left_out place (places_of links))) (sym lastly) rest0 in
    let loop1 : IsLoop one (rest.front ++ last ∷ rest.back) = subst (λ (l : List ℕ). IsLoop one l) rest.is loop in
    let loop2 : IsLoop two (rest.front ++ rest.back) = subst (λ (l : List LruNode). IsLoop l (rest.front ++ rest.back)) (sym made) (loop_unlinked one rest.front last rest.back loop1) in
    let head : next ≡ first_of rest.back = after ∙ after_is one last rest.back (Leads-back one 0 rest.front last rest.back 0 loop1.leads) in
    loop_sides two (rest.front ++ rest.back) next loop2 (subst (λ (k : ℕ). Member k (0 ∷ (rest.front ++ rest.back))) (sym head) (first_held rest.front rest.back))
  where
    first_held : (xs ys : List ℕ) → Member (first_of ys) (0 ∷ (xs ++ ys))
    first_held xs [] = inl refl
    first_held [] (y ∷ ys) = inr (inl refl)
    first_held (x ∷ xs) (y ∷ ys) = inr (inr (member_mid xs y ys))

pub other_ring : (links one two three : List LruNode) (place last next : ℕ) → IsRing links (places_of links) → 0 < place → place ≤ length (places_of links) → one ≡ unlinked links place
    → last ≡ length one - 1 → (last ≡ place → ⊥) → two ≡ unlinked one last → next ≡ (link_at one last).after → three ≡ linked_before two place next
    → IsRing (take (length three - 1) three) (renumbered (length (places_of links)) place (left_out place (places_of links)))
other_ring links one two three place last next ring positive within is at differ made after ends =
    let cut = own_split links place ring positive within in
    let size : length one ≡ length links = ap length is ∙ length-unlinked links place in
    let lastly : last ≡ length (places_of links) = omega arith in
    let nextly : next ≡ (link_at (unlinked links place) (length (places_of links))).after =
    after ∙ ap (λ (k : ℕ). (link_at one k).after) lastly ∙ ap (λ (l : List LruNode). (link_at l (length (places_of links))).after) is in
    let all : three ≡ linked_before (unlinked (unlinked links place) (length (places_of links))) place next =
    ends ∙ ap (λ (l : List LruNode). linked_before l place next) (made ∙ ap (λ (k : ℕ). unlinked one k) lastly ∙ ap (λ (l : List LruNode). unlinked l (length (places_of links))) is) in
    ring_other_out links (places_of links) place next ring positive cut (λ same. differ (lastly ∙ sym same)) nextly three all

pub last_ring : (links one : List LruNode) (place last : ℕ) → IsRing links (places_of links) → 0 < place → place ≤ length (places_of links) → one ≡ unlinked links place
    → last ≡ length one - 1 → last ≡ place → IsRing (take (length one - 1) one) (renumbered (length (places_of links)) place (left_out place (places_of links)))
last_ring links one place last ring positive within is at same =
    let cut = own_split links place ring positive within in
    let size : length one ≡ length links = ap length is ∙ length-unlinked links place in
    let lastly : place ≡ length (places_of links) = omega arith in
    subst (λ (l : List LruNode). IsRing (take (length l - 1) l) (renumbered (length (places_of links)) place (left_out place (places_of links)))) (sym is)
    (ring_last_out links (places_of links) place ring cut lastly)

-- the items of a `Vec` that are a ring

pub ring_at : (items links : List LruNode) (places : List ℕ) → items ≡ links → IsRing links places → IsRing items (places_of items)
ring_at items links places is ring = subst (λ (l : List LruNode). IsRing l (places_of l)) (sym is) (ring_own links places ring)

pub places_at : (items links : List LruNode) (places : List ℕ) → items ≡ links → IsRing links places → places_of items ≡ places
places_at items links places is ring = ap places_of is ∙ ring_places links places ring

pub refilled : {Z : Type 0} (v : Vec LruNode Z) (links : List LruNode) → length links ≡ length v.items → (with_items v links).items ≡ links
refilled v links same = with_items_is v links (omega (arith, v.ok.0))

-- what is read at 0
pub zero_read : (links : List LruNode) (places : List ℕ) (link : LruNode) → IsRing links places → link ≡ get_or links 0 link → link ≡ link_at links 0
zero_read links places link ring read = let some : 0 < length links = omega (arith, ring.count) in get_or_read links 0 link some read no_link

pub more_sides : (old new : List LruNode) (places : List ℕ) → IsRing old places → new ≡ old ++ no_link ∷ [] → HasSides new (link_at new 0).after
more_sides old new places ring is =
    let loop : IsLoop new places = more_loop old new places ring is in
    first_sides new places 0 loop (inl refl)
  where
    more_loop : (old new : List LruNode) (places : List ℕ) → IsRing old places → new ≡ old ++ no_link ∷ [] → IsLoop new places
    more_loop links more places ring is =
        let old : IsLoop links places = ring_loop links places ring in
        let size : length more ≡ length links + 1 = ap length is ∙ length_push links no_link in
        let same : (q : ℕ) → q < length links → link_at more q ≡ link_at links q = λ q within. ap (λ (l : List LruNode). link_at l q) is ∙ get_or_append_left links (no_link ∷ []) no_link q within in
        record {
          leads = Leads-same links more 0 places 0 (same 0 (old.have 0 (inl refl))) (same 0 (old.have 0 (inl refl))) (λ q held. same q (old.have q (inr held))) old.leads;
          once = old.once;
          have = λ q held. let within : q < length links = old.have q held in omega arith;
        }

pub more_ring : (old new after : List LruNode) (places : List ℕ) (place : ℕ) → IsRing old places → place ≡ length old → place < 2 ^ 32
    → new ≡ old ++ no_link ∷ []
    → after ≡ linked_before new place (link_at new 0).after → IsRing after (suc (length places) ∷ places)
more_ring old new after places place ring at room is made =
    let room2 : length old < 2 ^ 32 = subst (λ (n : ℕ). n < 2 ^ 32) at room in
    let ring2 = ring_more old places (link_at (old ++ no_link ∷ []) 0).after ring room2 refl in
    grind arith

-- the last link is popped
pub popped : {Z : Type 0} (v : Vec LruNode Z) (after items : List LruNode) → length after ≡ length v.items → items ≡ take (v.len - 1) (with_items v after).items
    → items ≡ take (length after - 1) after
popped v after items same is = grind (arith, refilled)

pub linked_length : (links after : List LruNode) (place next : ℕ) → after ≡ linked_before links place next → length after ≡ length links
linked_length links after place next is = ap length is ∙ length-linked_before links place next

-- a ring has fewer places than 2^32
pub ring_small : (links : List LruNode) → IsRing links (places_of links) → length (places_of links) < 2 ^ 32
ring_small links ring = let count : length links ≡ suc (length (places_of links)) = ring.count in let small : length links ≤ 2 ^ 32 = ring.small in omega arith

-- the one link that is left is that of 0
pub cleared : (old links : List LruNode) → 0 < length old → links ≡ take 1 old → set links 0 no_link ≡ no_link ∷ []
cleared [] links some is = absurd (omega arith)
cleared (l ∷ old) links some is = ap (λ (k : List LruNode). set k 0 no_link) is
