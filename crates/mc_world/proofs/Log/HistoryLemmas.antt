-- The histories of servers after an event that is logged.
use Rattle.std.proofs.Common.{◌≡◌, ◌≢◌, ◌∙◌, ⊎_elim, ℕ, ◌<◌, inl, inr, Bool, if◌then◌else◌, List, [], ◌∷◌, ◌++◌, length, map, Some, slice_get, sym, ap, subst, append-nil, arith}
use Rattle.std.proofs.lemmas.Bool.Decides.{eqb_tells}
use Rattle.std.proofs.lemmas.List.{length-map, map-append}
use Rattle.mc_route.specs.declared.outcomes.Outcome.TheVariants.{Lost}
use Rattle.mc_link.specs.declared.turns.Tag.{Tag}
use Rattle.mc_account.specs.Lookups.{outcome_at}
use Rattle.mc_account.specs.Orders.{Order}
use Rattle.mc_account.proofs.OpenSessions.{other_number, own_number}
use Rattle.mc_history.specs.Histories.{tag_in}
use Rattle.mc_history.specs.declared.entries.Entry.{Entry}
use Rattle.mc_world.specs.LogHolds.{AreOrdered, HistoriesHold, IsPlaced}
use Rattle.mc_world.specs.Logs.{Log, before, moment_of, moments_of, number_of, serves}
use Rattle.mc_world.specs.declared.events.Event.TheVariants.{ServerTurn}
use Rattle.mc_world.specs.declared.logs.Logged.{Logged}
use Rattle.mc_world.specs.declared.logs.Logged.TheVariants.{Happened}
use Rattle.mc_world.proofs.Log.EntryLemmas.{got_inside, got_pushed}
use Rattle.mc_world.proofs.Log.LogLemmas.{before-last, before-stays, moments-count, moments-push}

-- a history has an entry for each turn of its server
pub as_many : (order : Order) (log : Log) (histories : ℕ → List Entry) (place : ℕ) → HistoriesHold order log histories → length (histories place) ≡ number_of (serves place) log
as_many order log histories place h =
    sym (length-map (histories place) (λ (e : Entry). e.moment)) ∙ ap (λ (ms : List ℕ). length ms) (h.moments place) ∙ moments-count place log

-- an order that keeps what was lost
abbrev pub KeepsLost : Order → Order → Type 0
KeepsLost order order' = (tag : Tag) → outcome_at order tag ≡ Some Lost → outcome_at order' tag ≡ Some Lost

placed_kept : (order order' : Order) (log : Log) (e : Entry) → KeepsLost order order' → IsPlaced order log e → IsPlaced order' log e
placed_kept order order' log e lost h = record {
  taken = h.taken;
  answered = elim h.answered [
    | inl k ↦ inl (lost (tag_in e) k)
    | inr k ↦ inr k
  ];
}

ordered_kept : (order order' : Order) (d e : Entry) → KeepsLost order order' → AreOrdered order d e → AreOrdered order' d e
ordered_kept order order' d e lost h same = elim (h same) [
  | inl k ↦ inl (lost (tag_in d) k)
  | inr k ↦ (elim k [
    | inl l ↦ inr (inl (lost (tag_in e) l))
    | inr l ↦ inr (inr l)
  ])
]

-- an earlier entry stays placed
placed_stays : (order order' : Order) (log : Log) (x : Logged) (histories : ℕ → List Entry) (place k : ℕ) (e : Entry) → KeepsLost order order' → HistoriesHold order log histories
    → slice_get (histories place) k ≡ Some e → IsPlaced order' (before (serves place) k (log ++ x ∷ [])) e
placed_stays order order' log x histories place k e lost h at =
    let early : k < number_of (serves place) log = omega (arith, got_inside (histories place) k e at, as_many order log histories place h) in
    subst (λ (l : Log). IsPlaced order' l e) (sym (before-stays (serves place) k log x early))
    (placed_kept order order' (before (serves place) k log) e lost (h.placed place k e at))

-- no server takes a request
pub histories_go : (order order' : Order) (log : Log) (x : Logged) (histories now : ℕ → List Entry) → ((place : ℕ) → moment_of place x ≡ []) → KeepsLost order order'
    → ((place : ℕ) → now place ≡ histories place) → HistoriesHold order log histories → HistoriesHold order' (log ++ x ∷ []) now
histories_go order order' log x histories now none lost same h = record {
  moments = λ place.
      ap (λ (es : List Entry). map (λ (e : Entry). e.moment) es) (same place) ∙ h.moments place
      ∙ sym (moments-push place log x ∙ ap (λ (ms : List ℕ). moments_of place log ++ ms) (none place) ∙ append-nil (moments_of place log));
  placed = λ place k e at. placed_stays order order' log x histories place k e lost h (ap (λ (es : List Entry). slice_get es k) (sym (same place)) ∙ at);
  ordered = λ place j k d e first second lt.
      ordered_kept order order' d e lost
      (h.ordered place j k d e (ap (λ (es : List Entry). slice_get es j) (sym (same place)) ∙ first) (ap (λ (es : List Entry). slice_get es k) (sym (same place)) ∙ second) lt);
}

-- the server of a place takes one
histories_serve_own : (order : Order) (log : Log) (proxy place generation : ℕ) (e : Entry) (histories now : ℕ → List Entry) → now place ≡ histories place ++ e ∷ []
    → IsPlaced order log e → HistoriesHold order log histories → (k : ℕ) (d : Entry) → slice_get (now place) k ≡ Some d
    → IsPlaced order (before (serves place) k (log ++ Happened (ServerTurn proxy place generation e.moment) ∷ [])) d
histories_serve_own order log proxy place generation e histories now is placed h k d at =
    elim (got_pushed (histories place) e k d (ap (λ (es : List Entry). slice_get es k) (sym is) ∙ at)) [
      | inl l ↦ placed_stays order order log (Happened (ServerTurn proxy place generation e.moment)) histories place k d (λ tag lost. lost) h l
      | inr l ↦ (
          let last : before (serves place) k (log ++ Happened (ServerTurn proxy place generation e.moment) ∷ []) ≡ log =
          ap (λ (n : ℕ). before (serves place) n (log ++ Happened (ServerTurn proxy place generation e.moment) ∷ [])) (l.0 ∙ as_many order log histories place h)
          ∙ before-last (serves place) log (Happened (ServerTurn proxy place generation e.moment)) (own_number place) in
          subst (λ (x : Entry). IsPlaced order (before (serves place) k (log ++ Happened (ServerTurn proxy place generation e.moment) ∷ [])) x) (sym l.1)
          (subst (λ (l' : Log). IsPlaced order l' e) (sym last) placed))
    ]

histories_serve_ordered : (order : Order) (place : ℕ) (e : Entry) (histories : ℕ → List Entry) (log : Log) → ((j : ℕ) (d : Entry) → slice_get (histories place) j ≡ Some d → AreOrdered order d e)
    → HistoriesHold order log histories → (j k : ℕ) (d f : Entry) → slice_get (histories place ++ e ∷ []) j ≡ Some d → slice_get (histories place ++ e ∷ []) k ≡ Some f → j < k
    → AreOrdered order d f
histories_serve_ordered order place e histories log ordered h j k d f first second lt =
    elim (got_pushed (histories place) e j d first) [
      | inl l ↦ (elim (got_pushed (histories place) e k f second) [
        | inl m ↦ h.ordered place j k d f l m lt
        | inr m ↦ subst (λ (x : Entry). AreOrdered order d x) (sym m.1) (ordered j d l)
      ])
      | inr l ↦ (elim (got_pushed (histories place) e k f second) [
        | inl m ↦ absurd (omega (arith, lt, l.0, got_inside (histories place) k f m))
        | inr m ↦ absurd (omega (arith, lt, l.0, m.0))
      ])
    ]

pub histories_serve : (order : Order) (log : Log) (proxy place generation : ℕ) (e : Entry) (histories now : ℕ → List Entry) → now place ≡ histories place ++ e ∷ []
    → ((other : ℕ) → place ≢ other → now other ≡ histories other) → IsPlaced order log e → ((j : ℕ) (d : Entry) → slice_get (histories place) j ≡ Some d → AreOrdered order d e)
    → HistoriesHold order log histories → HistoriesHold order (log ++ Happened (ServerTurn proxy place generation e.moment) ∷ []) now
histories_serve order log proxy place generation e histories now is others placed ordered h =
    let own : map (λ (d : Entry). d.moment) (now place) ≡ moments_of place (log ++ Happened (ServerTurn proxy place generation e.moment) ∷ []) =
    ap (λ (es : List Entry). map (λ (d : Entry). d.moment) es) is ∙ map-append (λ (d : Entry). d.moment) (histories place) (e ∷ [])
    ∙ ap (λ (ms : List ℕ). ms ++ e.moment ∷ []) (h.moments place)
    ∙ ap (λ (v : Bool). moments_of place log ++ (if v then e.moment ∷ [] else [])) (sym (own_number place))
    ∙ sym (moments-push place log (Happened (ServerTurn proxy place generation e.moment))) in
    record {
      moments = λ other. ⊎_elim
          (λ same. subst (λ (p : ℕ). map (λ (d : Entry). d.moment) (now p) ≡ moments_of p (log ++ Happened (ServerTurn proxy place generation e.moment) ∷ [])) same.1 own)
          (λ differ. ap (λ (es : List Entry). map (λ (d : Entry). d.moment) es) (others other differ.1) ∙ h.moments other
          ∙ sym (moments-push other log (Happened (ServerTurn proxy place generation e.moment))
          ∙ ap (λ (v : Bool). moments_of other log ++ (if v then e.moment ∷ [] else [])) (other_number place other differ.1) ∙ append-nil (moments_of other log)))
          (eqb_tells place other);
      placed = λ other k d at. ⊎_elim
          (λ same. subst (λ (p : ℕ). IsPlaced order (before (serves p) k (log ++ Happened (ServerTurn proxy place generation e.moment) ∷ [])) d) same.1
          (histories_serve_own order log proxy place generation e histories now is placed h k d (ap (λ (p : ℕ). slice_get (now p) k) same.1 ∙ at)))
          (λ differ. placed_stays order order log (Happened (ServerTurn proxy place generation e.moment)) histories other k d (λ tag lost. lost) h
          (ap (λ (es : List Entry). slice_get es k) (sym (others other differ.1)) ∙ at))
          (eqb_tells place other);
      ordered = λ other j k d f first second lt. ⊎_elim
          (λ same.
          let to_own : now other ≡ histories place ++ e ∷ [] = ap (λ (p : ℕ). now p) (sym same.1) ∙ is in
          histories_serve_ordered order place e histories log ordered h j k d f (ap (λ (es : List Entry). slice_get es j) (sym to_own) ∙ first) (ap (λ (es : List Entry). slice_get es k) (sym to_own) ∙ second) lt)
          (λ differ. h.ordered other j k d f (ap (λ (es : List Entry). slice_get es j) (sym (others other differ.1)) ∙ first) (ap (λ (es : List Entry). slice_get es k) (sym (others other differ.1)) ∙ second) lt)
          (eqb_tells place other);
    }
