-- A read straight into a data block that the server keeps apart.
use Rattle.std.proofs.Common.{◌≡◌, ℕ, suc, zero, ◌<◌, ◌==◌, ◌||◌, nat_lt, Bool, true, false, Result, Ok, Err, List, [], length, take, Option, None, Some, IsSome, refl, sym, subst, arith}
use Rattle.std.proofs.lemmas.Bool.Decides.{nat_tests}
use Rattle.std.specs.Prelude.{IfOk, IfErr}
use Rattle.mc_request_reader.specs.Reads.{ReadsBy}
use Rattle.mc_server.specs.ServerState.{ServerState, connection_at, output_of}
use Rattle.mc_server.specs.Turns.{Feeds, Steps}
use Rattle.std.specs.Io.KnownBytes.{Keeps}
use Rattle.mc_stream.specs.Sides.{Brings, HowItCame, MovesNothing, Reads, StopsRead}
use Rattle.mc_stream.specs.declared.outcomes.Pumped.{Pumped}
use Rattle.mc_stream.specs.declared.outcomes.Pumped.TheVariants.{Again}
use Rattle.mc_stream.proofs.SideLemmas.{read_none, read_stops}
use Rattle.mc_pump.specs.Counts.{Counted}
use Rattle.mc_pump.specs.Rounds.{Receives, moved_of}
use Rattle.mc_pump.specs.declared.limits.TheConstants.{UNSENT_MARK}
use Rattle.mc_pump.proofs.RoundLemmas.{receives_still}
use Rattle.mc_pump.proofs.StretchLemmas.{fed_takes_none, stretch_fed}

-- bytes arrived, or the end
how_read : (count : ℕ) (unread unread' : Option (List ℕ)) (ended' : Bool) (came : List ℕ) (unmoved : Type 0) → ended' ≡ (count == 0) → Brings unread unread' ended' came
    → HowItCame (moved_of (Ok count) ended') unread unread' ended' came unmoved
how_read zero unread unread' ended' came unmoved e brings =
    let P : Bool → Type 0 = λ v. Brings unread unread' v came → HowItCame (Ok v) unread unread' v came unmoved in
    subst P (sym e) (λ b. b) brings
how_read (suc k) unread unread' ended' came unmoved e brings = let more : nat_lt 0 (suc k) ≡ true = grind (arith, nat_tests) in rw more brings

-- nothing arrived
how_unread : (side : Result ℕ Pumped) (piece : List ℕ) (unread unread' : Option (List ℕ)) (ended' : Bool) (unmoved : Type 0) → MovesNothing side → ended' ≡ false → unmoved
    → Reads side piece ended' unread unread' → HowItCame (moved_of side ended') unread unread' ended' [] unmoved
how_unread (Ok count) piece unread unread' ended' unmoved none e still reads =
    let brings : Brings unread unread' ended' [] = read_none count piece ended' unread unread' none reads in
    let P : ℕ → Bool → Type 0 = λ n v. Brings unread unread' v [] → HowItCame (Ok (nat_lt 0 n || v)) unread unread' v [] unmoved in
    let Q : Bool → Type 0 = λ v. P count v in
    subst Q (sym e) (subst (λ (n : ℕ). P n false) (sym none) (λ b. (b, refl, still))) brings
how_unread (Err pump) piece unread unread' ended' unmoved none e still reads = read_stops pump piece ended' unread unread' reads

-- what a connection is fed by such a read
pub receives_read : {E : Type 0} (number moment : ℕ) (count : Counted) (read : Result ℕ E) (side : Result ℕ Pumped) (old new : ServerState) (unread unread' : Option (List ℕ)) (ended' : Bool)
    → IsSome (connection_at old number) → length (output_of (connection_at old number)) < UNSENT_MARK
    → (h : ReadsBy read unread unread' (λ came. Steps number old new (Feeds came)) (new ≡ old)) → Reads side h.piece ended' unread unread'
    → IfOk read (λ n. (side ≡ Ok n) × (ended' ≡ (n == 0))) → IfErr read (λ error. MovesNothing side × (ended' ≡ false))
    → Receives number moment (moved_of side ended') old new unread unread' ended' count count
receives_read number moment count (Ok n) side old new unread unread' ended' there below h reads ok err =
    let came = take n h.piece in
    let S : Result ℕ Pumped → Type 0 = λ s. Reads s h.piece ended' unread unread' in
    let brought = subst S ok.0 reads in
    let R : Result ℕ Pumped → Type 0 = λ s. Receives number moment (moved_of s ended') old new unread unread' ended' count count in
    subst R (sym ok.0) (record {
      came = came;
      stretch = stretch_fed number moment came old new h.taken below;
      untaken = fed_takes_none number moment came old new h.taken below;
      uncounted = refl;
      how = how_read n unread unread' ended' came (new ≡ old) ok.1 brought.2;
    })
receives_read number moment count (Err error) side old new unread unread' ended' there below h reads ok err =
    let R : ServerState → Type 0 = λ s. Receives number moment (moved_of side ended') old s unread unread' ended' count count in
    subst R (sym h.stays) (receives_still number moment count (moved_of side ended') old unread unread' ended' there
    (how_unread side h.piece unread unread' ended' (old ≡ old) err.0 err.1 refl reads))

-- nothing was read
keeps_itself : (unread : Option (List ℕ)) → Keeps unread unread
keeps_itself None = tt
keeps_itself (Some bytes) = refl

pub reads_nothing : (unread : Option (List ℕ)) (ended : Bool) → ended ≡ false → StopsRead Again unread unread ended []
reads_nothing unread ended goes_on = read_stops Again [] ended unread unread (tt, goes_on, keeps_itself unread)
