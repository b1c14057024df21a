-- Elements of lists that grow, and of the sites of a pool after the one of a place is replaced.
use Rattle.std.proofs.Common.{◌≡◌, ◌≢◌, ◌∙◌, ⊎_elim, ℕ, zero, suc, ◌<◌, ◌⊎◌, inl, inr, List, [], ◌∷◌, ◌++◌, length, map, Some, slice_get, slice_set, refl, sym, ap, subst, arith}
use Rattle.std.specs.Prelude.{remove}
use Rattle.std.proofs.lemmas.Bool.Decides.{eqb_tells}
use Rattle.std.proofs.lemmas.Option.{none-some, same_Some}
use Rattle.mc_link.specs.declared.turns.Tag.{Tag}
use Rattle.mc_account.specs.Lookups.{asked_at}
use Rattle.mc_account.specs.Orders.{Order, TakenRequest, entries_of}
use Rattle.mc_account.proofs.OrderLemmas.{entries_push_other, entries_push_own}
use Rattle.mc_world.specs.WorldState.{SiteState, StaleState, begun_of, histories_of}

-- an element of a list is inside it
pub got_inside : {X : Type 0} (xs : List X) (k : ℕ) (x : X) → slice_get xs k ≡ Some x → k < length xs
got_inside [] zero x at = absurd (none-some x at)
got_inside [] (suc k) x at = absurd (none-some x at)
got_inside (y ∷ ys) zero x at = omega arith
got_inside (y ∷ ys) (suc k) x at = omega (arith, got_inside ys k x at)

-- an element of a list with one more at its end
pub got_pushed : {X : Type 0} (xs : List X) (x : X) (k : ℕ) (y : X) → slice_get (xs ++ x ∷ []) k ≡ Some y → (slice_get xs k ≡ Some y) ⊎ ((k ≡ length xs) × (y ≡ x))
got_pushed [] x zero y at = inr (refl, sym (same_Some x y at))
got_pushed [] x (suc zero) y at = absurd (none-some y at)
got_pushed [] x (suc (suc k)) y at = absurd (none-some y at)
got_pushed (z ∷ zs) x zero y at = inl at
got_pushed (z ∷ zs) x (suc k) y at = elim (got_pushed zs x k y at) [
  | inl h ↦ inl h
  | inr h ↦ inr (ap suc h.0, h.1)
]

-- an element of a list after the one of an index is replaced
pub got_set : {X : Type 0} (xs : List X) (i : ℕ) (x : X) (j : ℕ) (y : X) → slice_get (slice_set xs i x) j ≡ Some y → ((i ≡ j) × (y ≡ x)) ⊎ ((i ≢ j) × (slice_get xs j ≡ Some y))
got_set [] i x zero y at = absurd (none-some y at)
got_set [] i x (suc j) y at = absurd (none-some y at)
got_set (z ∷ zs) zero x zero y at = inl (refl, sym (same_Some x y at))
got_set (z ∷ zs) zero x (suc j) y at = inr (λ same. omega (arith, same), at)
got_set (z ∷ zs) (suc i) x zero y at = inr (λ same. omega (arith, same), at)
got_set (z ∷ zs) (suc i) x (suc j) y at = elim (got_set zs i x j y at) [
  | inl h ↦ inl (ap suc h.0, h.1)
  | inr h ↦ inr (λ same. h.0 (omega (arith, same)), h.1)
]

-- an element of a list stays when more are appended
pub got_there : {X : Type 0} (xs ys : List X) (k : ℕ) (x : X) → slice_get xs k ≡ Some x → slice_get (xs ++ ys) k ≡ Some x
got_there [] ys zero x at = absurd (none-some x at)
got_there [] ys (suc k) x at = absurd (none-some x at)
got_there (y ∷ ys) zs zero x at = at
got_there (y ∷ ys) zs (suc k) x at = got_there ys zs k x at

-- a list has an element at each index
pub got_some : {X : Type 0} (xs : List X) (k : ℕ) → k < length xs → (x : X) × (slice_get xs k ≡ Some x)
got_some [] k h = absurd (omega (arith, h))
got_some (x ∷ xs) zero h = (x, refl)
got_some (x ∷ xs) (suc k) h = got_some xs k (omega (arith, h))

-- an element of a mapped list
pub got_map : {X Y : Type 0} (f : X → Y) (xs : List X) (k : ℕ) (x : X) → slice_get xs k ≡ Some x → slice_get (map f xs) k ≡ Some (f x)
got_map f [] zero x at = absurd (none-some x at)
got_map f [] (suc k) x at = absurd (none-some x at)
got_map f (y ∷ ys) zero x at = ap (λ z. Some (f z)) (same_Some y x at)
got_map f (y ∷ ys) (suc k) x at = got_map f ys k x at

pub got_mapped : {X Y : Type 0} (f : X → Y) (xs : List X) (k : ℕ) (y : Y) → slice_get (map f xs) k ≡ Some y → (x : X) × (slice_get xs k ≡ Some x) × (f x ≡ y)
got_mapped f [] zero y at = absurd (none-some y at)
got_mapped f [] (suc k) y at = absurd (none-some y at)
got_mapped f (x ∷ xs) zero y at = (x, refl, same_Some (f x) y at)
got_mapped f (x ∷ xs) (suc k) y at = got_mapped f xs k y at

-- a request of a client after one more was taken: it was taken before, or is that one
pub asked_pushed : (order : Order) (e : TakenRequest) (client request : ℕ) (d : TakenRequest) → asked_at (order ++ e ∷ []) client request ≡ Some d
    → (asked_at order client request ≡ Some d) ⊎ ((e.session ≡ client) × (request ≡ length (entries_of client order)) × (d ≡ e))
asked_pushed order e client request d at =
    ⊎_elim
    (λ own. elim (got_pushed (entries_of client order) e request d (ap (λ (es : Order). slice_get es request) (sym (entries_push_own client order e own.1)) ∙ at)) [
      | inl h ↦ inl h
      | inr h ↦ inr (own.1, h.0, h.1)
    ])
    (λ other. inl (ap (λ (es : Order). slice_get es request) (sym (entries_push_other client order e other.1)) ∙ at))
    (eqb_tells e.session client)

-- the history of a place is that of its site
pub history_at : (sites : List SiteState) (place : ℕ) (site : SiteState) → slice_get sites place ≡ Some site → histories_of sites place ≡ site.history
history_at [] zero site at = absurd (none-some site at)
history_at [] (suc place) site at = absurd (none-some site at)
history_at (s ∷ ss) zero site at = ap (λ (x : SiteState). x.history) (same_Some s site at)
history_at (s ∷ ss) (suc place) site at = history_at ss place site at

-- the beginning of its life is that of its site
pub begun_at : (sites : List SiteState) (place : ℕ) (site : SiteState) → slice_get sites place ≡ Some site → begun_of sites place ≡ site.begun
begun_at [] zero site at = absurd (none-some site at)
begun_at [] (suc place) site at = absurd (none-some site at)
begun_at (s ∷ ss) zero site at = ap (λ (x : SiteState). x.begun) (same_Some s site at)
begun_at (s ∷ ss) (suc place) site at = begun_at ss place site at

-- one site is replaced
pub history_own : (sites : List SiteState) (place : ℕ) (site now : SiteState) → slice_get sites place ≡ Some site → histories_of (slice_set sites place now) place ≡ now.history
history_own [] zero site now at = absurd (none-some site at)
history_own [] (suc place) site now at = absurd (none-some site at)
history_own (s ∷ ss) zero site now at = refl
history_own (s ∷ ss) (suc place) site now at = history_own ss place site now at

pub history_other : (sites : List SiteState) (place : ℕ) (now : SiteState) (other : ℕ) → place ≢ other → histories_of (slice_set sites place now) other ≡ histories_of sites other
history_other [] place now other differ = refl
history_other (s ∷ ss) zero now zero differ = absurd (differ refl)
history_other (s ∷ ss) zero now (suc other) differ = refl
history_other (s ∷ ss) (suc place) now zero differ = refl
history_other (s ∷ ss) (suc place) now (suc other) differ = history_other ss place now other (λ same. differ (ap suc same))

pub begun_own : (sites : List SiteState) (place : ℕ) (site now : SiteState) → slice_get sites place ≡ Some site → begun_of (slice_set sites place now) place ≡ now.begun
begun_own [] zero site now at = absurd (none-some site at)
begun_own [] (suc place) site now at = absurd (none-some site at)
begun_own (s ∷ ss) zero site now at = refl
begun_own (s ∷ ss) (suc place) site now at = begun_own ss place site now at

pub begun_other : (sites : List SiteState) (place : ℕ) (now : SiteState) (other : ℕ) → place ≢ other → begun_of (slice_set sites place now) other ≡ begun_of sites other
begun_other [] place now other differ = refl
begun_other (s ∷ ss) zero now zero differ = absurd (differ refl)
begun_other (s ∷ ss) zero now (suc other) differ = refl
begun_other (s ∷ ss) (suc place) now zero differ = refl
begun_other (s ∷ ss) (suc place) now (suc other) differ = begun_other ss place now other (λ same. differ (ap suc same))

pub history_still : (sites : List SiteState) (place : ℕ) (site now : SiteState) → slice_get sites place ≡ Some site → now.history ≡ site.history
    → (other : ℕ) → histories_of (slice_set sites place now) other ≡ histories_of sites other
history_still sites place site now at same other =
    ⊎_elim
    (λ own. subst (λ (p : ℕ). histories_of (slice_set sites place now) p ≡ histories_of sites p) own.1
    (history_own sites place site now at ∙ same ∙ sym (history_at sites place site at)))
    (λ differ. history_other sites place now other differ.1)
    (eqb_tells place other)

-- a command of a lost generation that its server has not taken
pub record HasUntaken (ways : List StaleState) (tag : Tag) : Type 0 where
  pub i : ℕ
  pub j : ℕ
  pub way : StaleState
  pub way_at : slice_get ways i ≡ Some way
  pub tag_at : slice_get way.untaken j ≡ Some tag

-- a command of a lost generation at a place that its server has not taken
pub record HasUntakenAt (sites : List SiteState) (place : ℕ) (tag : Tag) : Type 0 where
  pub site : SiteState
  pub at : slice_get sites place ≡ Some site
  pub has : HasUntaken site.lost tag

-- one site is replaced
pub untaken_set : (sites : List SiteState) (place : ℕ) (now : SiteState) (other : ℕ) (tag : Tag) → HasUntakenAt (slice_set sites place now) other tag
    → ((place ≡ other) × HasUntaken now.lost tag) ⊎ HasUntakenAt sites other tag
untaken_set sites place now other tag h = elim (got_set sites place now other h.site h.at) [
  | inl k ↦ inl (k.0, subst (λ (s : SiteState). HasUntaken s.lost tag) k.1 h.has)
  | inr k ↦ inr (record { site = h.site; at = k.1; has = h.has })
]

-- the new site has none that the one before did not have
pub untaken_still : (sites : List SiteState) (place : ℕ) (site now : SiteState) → slice_get sites place ≡ Some site → ((tag : Tag) → HasUntaken now.lost tag → HasUntaken site.lost tag)
    → (other : ℕ) (tag : Tag) → HasUntakenAt (slice_set sites place now) other tag → HasUntakenAt sites other tag
untaken_still sites place site now at fewer other tag h = elim (untaken_set sites place now other tag h) [
  | inl k ↦ subst (λ (p : ℕ). HasUntakenAt sites p tag) k.0 (record { site = site; at = at; has = fewer tag k.1 })
  | inr k ↦ k
]

-- one generation has fewer of them, and one is gone
pub untaken_fewer : (ways : List StaleState) (i : ℕ) (way now : StaleState) (tag : Tag) → slice_get ways i ≡ Some way
    → ((j : ℕ) → slice_get now.untaken j ≡ Some tag → (k : ℕ) × (slice_get way.untaken k ≡ Some tag)) → HasUntaken (slice_set ways i now) tag → HasUntaken ways tag
untaken_fewer ways i way now tag at fewer h = elim (got_set ways i now h.i h.way h.way_at) [
  | inl k ↦ (
      let old = fewer h.j (ap (λ (w : StaleState). slice_get w.untaken h.j) (sym k.1) ∙ h.tag_at) in
      record { i = i; j = old.0; way = way; way_at = at; tag_at = old.1 })
  | inr k ↦ record { i = h.i; j = h.j; way = h.way; way_at = k.1; tag_at = h.tag_at }
]

got_kept : {X : Type 0} (xs : List X) (i k : ℕ) (x : X) → slice_get (remove xs i) k ≡ Some x → (j : ℕ) × (slice_get xs j ≡ Some x)
got_kept [] zero zero x at = absurd (none-some x at)
got_kept [] zero (suc k) x at = absurd (none-some x at)
got_kept [] (suc i) zero x at = absurd (none-some x at)
got_kept [] (suc i) (suc k) x at = absurd (none-some x at)
got_kept (y ∷ ys) zero k x at = (suc k, at)
got_kept (y ∷ ys) (suc i) zero x at = (0, at)
got_kept (y ∷ ys) (suc i) (suc k) x at = let j = got_kept ys i k x at in (suc j.0, j.1)

pub untaken_removed : (ways : List StaleState) (i : ℕ) (tag : Tag) → HasUntaken (remove ways i) tag → HasUntaken ways tag
untaken_removed ways i tag h = let k = got_kept ways i h.i h.way h.way_at in record { i = k.0; j = h.j; way = h.way; way_at = k.1; tag_at = h.tag_at }
