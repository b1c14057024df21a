-- What links say after two places are joined.
use Rattle.std.proofs.Common.{◌≡◌, ◌≢◌, ℕ, ◌<◌, List, length, set, ap, ◌∙◌, get_or-set_other, get_or-set_same, arith}
use Rattle.std.proofs.lemmas.Bool.{cases_eq}
use Rattle.std.proofs.lemmas.List.{length-set}
use Rattle.mc_table.specs.declared.lru_nodes.LruNode.{LruNode}
use Rattle.mc_table.specs.Rings.{no_link, link_at, with_after, with_before, joined, unlinked, linked_before}

-- one write: what it leaves at its place and elsewhere

written_same : (links : List LruNode) (place : ℕ) (link : LruNode) → place < length links → link_at (set links place link) place ≡ link
written_same links place link within = get_or-set_same links place link no_link within

written_other : (links : List LruNode) (place other : ℕ) (link : LruNode) → other ≢ place → link_at (set links place link) other ≡ link_at links other
written_other links place other link apart = get_or-set_other links place other link no_link apart

after-with_after : (links : List LruNode) (place next : ℕ) → place < length links → (link_at (with_after links place next) place).after ≡ next
after-with_after links place next within = ap (λ (l : LruNode). l.after) (written_same links place (record { before = (link_at links place).before; after = next }) within)

before-with_before : (links : List LruNode) (place previous : ℕ) → place < length links → (link_at (with_before links place previous) place).before ≡ previous
before-with_before links place previous within = ap (λ (l : LruNode). l.before) (written_same links place (record { before = previous; after = (link_at links place).after }) within)

-- a write of the one side leaves the other as it is
before-with_after : (links : List LruNode) (place next other : ℕ) → place < length links → (link_at (with_after links place next) other).before ≡ (link_at links other).before
before-with_after links place next other within = grind (arith, cases_eq, written_same, written_other)

after-with_before : (links : List LruNode) (place previous other : ℕ) → place < length links → (link_at (with_before links place previous) other).after ≡ (link_at links other).after
after-with_before links place previous other within = grind (arith, cases_eq, written_same, written_other)

after-with_after_other : (links : List LruNode) (place next other : ℕ) → other ≢ place → (link_at (with_after links place next) other).after ≡ (link_at links other).after
after-with_after_other links place next other apart = ap (λ (l : LruNode). l.after) (written_other links place other (record { before = (link_at links place).before; after = next }) apart)

before-with_before_other : (links : List LruNode) (place previous other : ℕ) → other ≢ place → (link_at (with_before links place previous) other).before ≡ (link_at links other).before
before-with_before_other links place previous other apart = ap (λ (l : LruNode). l.before) (written_other links place other (record { before = previous; after = (link_at links place).after }) apart)

pub length-with_after : (links : List LruNode) (place next : ℕ) → length (with_after links place next) ≡ length links
length-with_after links place next = length-set links place (record { before = (link_at links place).before; after = next })

pub length-with_before : (links : List LruNode) (place previous : ℕ) → length (with_before links place previous) ≡ length links
length-with_before links place previous = length-set links place (record { before = previous; after = (link_at links place).after })

-- two places that are joined

pub length-joined : (links : List LruNode) (b a : ℕ) → length (joined links b a) ≡ length links
unfolding joined
length-joined links b a = length-with_before (with_after links b a) a b ∙ length-with_after links b a

pub length-unlinked : (links : List LruNode) (place : ℕ) → length (unlinked links place) ≡ length links
unfolding unlinked
length-unlinked links place = length-joined links (link_at links place).before (link_at links place).after

pub length-linked_before : (links : List LruNode) (place next : ℕ) → length (linked_before links place next) ≡ length links
unfolding linked_before
length-linked_before links place next =
    length-joined (joined links (link_at links next).before place) place next ∙ length-joined links (link_at links next).before place

pub after-joined : (links : List LruNode) (b a : ℕ) → b < length links → a < length links → (link_at (joined links b a) b).after ≡ a
unfolding joined
after-joined links b a lb la = grind (arith, after-with_after, after-with_before, length-with_after)

pub after-joined_other : (links : List LruNode) (b a other : ℕ) → b < length links → a < length links → other ≢ b → (link_at (joined links b a) other).after ≡ (link_at links other).after
unfolding joined
after-joined_other links b a other lb la apart = grind (arith, after-with_before, after-with_after_other, length-with_after)

pub before-joined : (links : List LruNode) (b a : ℕ) → b < length links → a < length links → (link_at (joined links b a) a).before ≡ b
unfolding joined
before-joined links b a lb la = grind (arith, before-with_before, length-with_after)

pub before-joined_other : (links : List LruNode) (b a other : ℕ) → b < length links → a < length links → other ≢ a → (link_at (joined links b a) other).before ≡ (link_at links other).before
unfolding joined
before-joined_other links b a other lb la apart =
    before-with_before_other (with_after links b a) a b other apart ∙ before-with_after links b a other lb

pub ruleset lengths = (length-joined, length-unlinked, length-linked_before)
