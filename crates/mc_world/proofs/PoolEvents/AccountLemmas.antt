-- The account of a run.
use Rattle.std.proofs.Common.{◌≡◌, ◌∙◌, ℕ, zero, suc, List, [], ◌∷◌, ◌++◌, length, map, take, drop, refl, sym, ap, subst, arith}
use Rattle.std.proofs.lemmas.Option.{none-some}
use Rattle.std.proofs.lemmas.List.{drop-map}
use Rattle.std.proofs.lemmas.List.Elements.{All-nil}
use Rattle.std.proofs.Math.Seq.{drop-append_seam}
use Rattle.mc_request.specs.Requests.{requests_of, requests_within}
use Rattle.mc_ring.specs.Rings.{RingState}
use Rattle.mc_reply.specs.Spelling.{spelling_of}
use Rattle.mc_reply.specs.declared.replies.Reply.{Reply as AReply}
use Rattle.mc_route.specs.declared.losses.Losses.{Losses}
use Rattle.mc_link.specs.LinkState.{LinkState}
use Rattle.mc_cache.specs.CacheState.{CacheState}
use Rattle.mc_cache.specs.Refusals.{is_refusal}
use Rattle.mc_cache.specs.Step.{step_of}
use Rattle.mc_account.specs.Lanes.{Lane}
use Rattle.mc_account.specs.Orders.{IsSized, Order}
use Rattle.mc_history.specs.declared.entries.Entry.{Entry}
use Rattle.mc_world.specs.Accounts.{Accounts}
use Rattle.mc_history.specs.Histories.{IsLegal}
use Rattle.mc_history.specs.Made.{AreMade, Each, Made, entry_of}
use Rattle.mc_world.specs.Homes.{Homes}
use Rattle.mc_world.specs.Sites.{SiteHolds}
use Rattle.mc_world.specs.WorldState.{SiteState}
use Rattle.mc_history.specs.Named.{IsNamed}
use Rattle.mc_history.proofs.NamedLemmas.{each_back}
use Rattle.mc_world.specs.Logs.{Log, in_life, taken_before}

no_requests : requests_of [] ≡ []
unfolding requests_of requests_within
no_requests = refl

-- each part of an empty list is legal
none_in : (n m : ℕ) → ◌≡◌ {A = List Entry} (drop n (take m [])) []
none_in zero zero = refl
none_in zero (suc m) = refl
none_in (suc n) zero = refl
none_in (suc n) (suc m) = refl

legal_none : (place life : ℕ) (order : Order) (opening : CacheState) (log : Log) → IsLegal order place opening (in_life place life log [])
legal_none place life order opening log =
    subst (λ (es : List Entry). IsLegal order place opening es) (sym (none_in (taken_before place life log) (taken_before place (suc life) log))) tt

-- the history of named commands that a server made is legal
pub legal_history : (place : ℕ) (order : Order) (s : CacheState) (made : List Made) → AreMade s made → Each (λ (m : Made). IsNamed place order m.command) made
    → IsLegal order place s (map entry_of made)
legal_history place order s [] h named = tt
legal_history place order s (m ∷ ms) h named = (
  m.command.0,
  named.0,
  record { legal = h.0.legal; refused = h.0.told ∙ ap (λ (r : AReply (List ℕ)). is_refusal r) h.0.reply; reply = ap (λ (r : AReply (List ℕ)). spelling_of m.command.0 r) h.0.reply },
  legal_history place order (step_of s m.command.0 m.moment m.refused).0 ms h.1 named.1,
)

pub legal_site : (home : Homes) (place : ℕ) (order : Order) (lanes : ℕ → Lane) (links : ℕ → LinkState) (opening : CacheState) (site : SiteState)
    → SiteHolds home place order lanes links opening site → IsLegal order place opening (drop site.begun site.history)
legal_site home place order lanes links opening site h =
    let now : drop site.begun site.history ≡ map entry_of h.made =
    ap (λ (n : ℕ). drop n site.history) (sym h.begun) ∙ ap (λ (es : List Entry). drop (length h.past) es) h.history
    ∙ drop-map entry_of (length h.past) (h.past ++ h.made) ∙ ap (λ (ms : List Made). map entry_of ms) (drop-append_seam h.past h.made) in
    subst (λ (es : List Entry). IsLegal order place opening es) (sym now)
    (legal_history place order opening h.made h.answers (each_back (λ (m : Made). IsNamed place order m.command) h.past h.made h.named))

pub nothing_accounts : (home : Homes) (losses : Losses) (ring : RingState) (opening : CacheState) → Accounts home losses ring opening [] (λ _. []) (λ _. []) (λ _. []) []
nothing_accounts home losses ring opening = record {
  asked = λ client. ([], sym no_requests);
  turns = refl;
  numbered = λ client. refl;
  rings = λ client request e at. absurd (none-some e at);
  sized = All-nil IsSized;
  legal = λ place life. legal_none place life [] opening [];
  once = λ r s j k d e at. absurd (none-some d at);
  replied = λ tag place atom reply at. absurd (none-some _ at);
  lost = λ tag place atom at. absurd (none-some _ at);
  ordered = λ place j k d e r q at. absurd (none-some d at);
  followed = λ proxy place never. ([], refl);
  answered = λ client. refl;
  put = λ client. refl;
  after = λ client request early. absurd (omega (arith, early));
  moments = λ place. refl;
  placed = λ place k e at. absurd (none-some e at);
}
