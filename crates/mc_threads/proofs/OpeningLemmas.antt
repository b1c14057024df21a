-- A proxy before its first round.
use Rattle.std.proofs.Common.{◌≡◌, ⊎_elim, ◌⊎◌, inl, inr, ℕ, zero, suc, ◌<◌, true, [], length, refl, sym, subst, arith}
use Rattle.std.specs.Prelude.{replicate}
use Rattle.std.proofs.lemmas.List.Elements.{All-nil}
use Rattle.mc_request.specs.Requests.{requests_of, requests_within}
use Rattle.mc_ring.specs.Rings.{IsRing, RingState}
use Rattle.mc_route.specs.declared.losses.Losses.TheVariants.{Told}
use Rattle.mc_link.specs.LinkState.{LinkState, down_link, up_link}
use Rattle.mc_proxy.specs.SessionState.{link_at}
use Rattle.mc_account.specs.Lanes.{LinkHolds, fresh_lane}
use Rattle.mc_account.specs.Orders.{HasChoice, TakenRequest, IsSized}
use Rattle.mc_account.proofs.LaneLemmas.{lane_fresh}
use Rattle.mc_threads.specs.Talks.{Talks}

-- a link that is up, or none
up_or_none : (n place : ℕ) → (link_at (replicate n (up_link 1)) place ≡ up_link 1) ⊎ (link_at (replicate n (up_link 1)) place ≡ down_link 0)
up_or_none zero place = inr refl
up_or_none (suc n) zero = inl refl
up_or_none (suc n) (suc place) = up_or_none n place

up_inside : (n place : ℕ) → place < n → (link_at (replicate n (up_link 1)) place).up ≡ true
up_inside zero place inside = absurd (omega (arith, inside))
up_inside (suc n) zero inside = refl
up_inside (suc n) (suc place) inside = up_inside n place (omega (arith, inside))

link_opens : (n place : ℕ) → LinkHolds place [] (fresh_lane 0) (link_at (replicate n (up_link 1)) place)
link_opens n place =
    ⊎_elim
    (λ up. subst (λ (l : LinkState). LinkHolds place [] (fresh_lane 0) l) (sym up) (λ _. lane_fresh place 1 [] refl, λ down. absurd (down refl)))
    (λ none. subst (λ (l : LinkState). LinkHolds place [] (fresh_lane 0) l) (sym none) (λ up. absurd cc, λ _. record { nothing = refl; outcomes = refl }))
    (up_or_none n place)

pub no_requests : requests_of [] ≡ []
unfolding requests_of requests_within
no_requests = refl

pub talks_opens : (ring : RingState) → IsRing ring
    → Talks ring 0 (λ _. []) (λ _. []) (λ _. []) (λ _. []) (record { losses = Told; ring = ring; sessions = []; admitted = 0; links = replicate (length ring.servers) (up_link 1) })
talks_opens ring is_ring = record {
  order = [];
  lanes = λ _. fresh_lane 0;
  holds = record {
    sized = All-nil IsSized;
    chosen = All-nil (HasChoice Told);
    numbered = λ number. refl;
    sessions = λ number. record { untaken = []; rest = sym no_requests; done = []; incomplete = []; split = refl; complete = refl; unsent = []; answered = refl };
    unused = λ number above. record { not_open = refl; nothing_came = refl; nothing_taken = refl; nothing_sent = refl };
    links = λ place. link_opens (length ring.servers) place;
  };
  is_ring = is_ring;
  rings = All-nil (λ (e : TakenRequest). e.ring ≡ ring);
  ring_is = refl;
  losses_is = refl;
  admitted = refl;
  is_open = λ client low. absurd (omega (arith, low));
  bytes = λ client. All-nil (λ (b : ℕ). b < 256);
  up = λ server low. up_inside (length ring.servers) server low;
  since = λ server. refl;
  went_is = λ server. refl;
  came_is = λ server. refl;
}
