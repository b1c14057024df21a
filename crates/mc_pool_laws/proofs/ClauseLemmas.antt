-- The clauses that are left out one by one are those of the account.
use Rattle.std.proofs.Common.{◌≡◌, ◌≢◌, ◌∙◌, ◌↔◌, ℕ, Bool, true, false, List, refl, sym, ap}
use Rattle.std.proofs.lemmas.Bool.{true≢false}
use Rattle.mc_ring.specs.Rings.{RingState}
use Rattle.mc_route.specs.declared.losses.Losses.{Losses}
use Rattle.mc_cache.specs.CacheState.{CacheState}
use Rattle.mc_account.specs.Orders.{Order}
use Rattle.mc_history.specs.declared.entries.Entry.{Entry}
use Rattle.mc_world.specs.Accounts.{Accounts}
use Rattle.mc_world.specs.Homes.{Homes}
use Rattle.mc_world.specs.Logs.{Log}
use Rattle.mc_pool_laws.specs.Without.{AccountsBut, After, Answered, Asked, Clause, Followed, Legal, Lost, Moments, Numbered, Once, Ordered, Placed, Put, Replied, Rings, Sized, Turns, Unanswered}

abbrev is_asked : Clause → Bool
is_asked Asked = true
is_asked other = false

others_apart : (one : Clause) → is_asked one ≡ false → Asked ≢ one
others_apart one is same = true≢false (ap is_asked same ∙ is)

pub each_clause : (home : Homes) (losses : Losses) (ring : RingState) (opening : CacheState) (order : Order) (texts outs : ℕ → List ℕ) (histories : ℕ → List Entry) (log : Log)
    → Accounts home losses ring opening order texts outs histories log ↔ ((one : Clause) → AccountsBut one home losses ring opening order texts outs histories log)
each_clause home losses ring opening order texts outs histories log = (
  λ h one. record {
    asked = λ keeps. h.asked;
    turns = λ keeps. h.turns;
    numbered = λ keeps. h.numbered;
    rings = λ keeps. h.rings;
    sized = λ keeps. h.sized;
    legal = λ keeps. h.legal;
    once = λ keeps. h.once;
    replied = λ keeps. h.replied;
    lost = λ keeps. h.lost;
    ordered = λ keeps. h.ordered;
    followed = λ keeps. h.followed;
    answered = λ keeps. h.answered;
    put = λ keeps. h.put;
    after = λ keeps. h.after;
    moments = λ keeps. h.moments;
    placed = λ keeps place k e at. (h.placed place k e at).0;
    unanswered = λ keeps place k e at. (h.placed place k e at).1;
  },
  λ h. record {
    asked = (h Turns).asked (λ same. others_apart Turns refl (sym same));
    turns = (h Asked).turns (others_apart Turns refl);
    numbered = (h Asked).numbered (others_apart Numbered refl);
    rings = (h Asked).rings (others_apart Rings refl);
    sized = (h Asked).sized (others_apart Sized refl);
    legal = (h Asked).legal (others_apart Legal refl);
    once = (h Asked).once (others_apart Once refl);
    replied = (h Asked).replied (others_apart Replied refl);
    lost = (h Asked).lost (others_apart Lost refl);
    ordered = (h Asked).ordered (others_apart Ordered refl);
    followed = (h Asked).followed (others_apart Followed refl);
    answered = (h Asked).answered (others_apart Answered refl);
    put = (h Asked).put (others_apart Put refl);
    after = (h Asked).after (others_apart After refl);
    moments = (h Asked).moments (others_apart Moments refl);
    placed = λ place k e at. ((h Asked).placed (others_apart Placed refl) place k e at, (h Asked).unanswered (others_apart Unanswered refl) place k e at);
  },
)
