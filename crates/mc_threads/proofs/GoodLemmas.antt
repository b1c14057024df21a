-- The commands that were sent can be encoded, since clients' texts have no others.
use Rattle.std.proofs.Common.{◌≡◌, ◌∙◌, ℕ, ◌<◌, ◌==◌, Bool, true, false, if◌then◌else◌, List, [], ◌∷◌, map, refl, sym, ap}
use Rattle.std.specs.Prelude.{All}
use Rattle.std.specs.List.{list_all}
use Rattle.std.proofs.lemmas.Bool.{and_parts}
use Rattle.mc_request.specs.Requests.{requests_of}
use Rattle.mc_request.specs.declared.parts.Parsed.{Parsed}
use Rattle.mc_codec.specs.Spellings.{can_be_spelled}
use Rattle.mc_codec.proofs.SayLemmas.{requests_can_be_spelled}
use Rattle.mc_account.specs.Orders.{Order, TakenRequest, commands_in, commands_to, entries_of, taken_of}
use Rattle.mc_account.proofs.OrderLemmas.{passes_joined}
use Rattle.mc_account.proofs.OpenSessions.{own_number}
use Rattle.mc_history.specs.Generations.{is_good}
use Rattle.mc_history.proofs.GoodLemmas.{good_in}

-- requests that can be encoded, of each client, go to each server in commands that can be
pub good_to : (server : ℕ) (es : Order) → ((client : ℕ) → list_all can_be_spelled (taken_of client es) ≡ true) → list_all is_good (commands_to server es) ≡ true
good_to server [] spelled = refl
good_to server (e ∷ es) spelled =
    let own : list_all can_be_spelled (e.what ∷ taken_of e.session es) ≡ true =
    ap (λ (v : Bool). list_all can_be_spelled (map (λ (x : TakenRequest). x.what) (if v then e ∷ entries_of e.session es else entries_of e.session es))) (sym (own_number e.session)) ∙ spelled e.session in
    let others = λ (client : ℕ). (elim (e.session == client) as (λ v.
    list_all can_be_spelled (map (λ (x : TakenRequest). x.what) (if v then e ∷ entries_of client es else entries_of client es)) ≡ true → list_all can_be_spelled (taken_of client es) ≡ true) [
      | true ↦ λ h. (and_parts (can_be_spelled e.what) (list_all can_be_spelled (taken_of client es)) h).1
      | false ↦ λ h. h
    ]) (spelled client) in
    passes_joined is_good (commands_in server e) (commands_to server es) (good_in server e (and_parts (can_be_spelled e.what) (list_all can_be_spelled (taken_of e.session es)) own).0)
    (good_to server es others)

-- likewise for the requests of texts that are bytes
pub good_texts : (server : ℕ) (es : Order) (texts : ℕ → List ℕ) → ((client : ℕ) → All (λ b. b < 256) (texts client)) → ((client : ℕ) → taken_of client es ≡ requests_of (texts client))
    → list_all is_good (commands_to server es) ≡ true
good_texts server es texts bytes asked =
    good_to server es (λ client. ap (λ (ts : List Parsed). list_all can_be_spelled ts) (asked client) ∙ requests_can_be_spelled (texts client) (bytes client))
