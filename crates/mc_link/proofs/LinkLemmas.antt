-- What is known of the oldest reply stays true as bytes arrive, and room stays as bytes are consumed.
use Rattle.std.proofs.Common.{ℕ, ◌≡◌, ◌∙◌, ◌*◌, ◌≤◌, List, [], ◌∷◌, ◌++◌, length, drop, refl, sym, ap, subst, append_assoc, length-drop, inl, inr, arith}
use Rattle.mc_request.specs.declared.parts.Atom.{Atom}
use Rattle.std.specs.Prelude.{◌↔◌, ◌<◌, slice_index_or}
use Rattle.std.proofs.lemmas.Bool.{cases_lt}
use Rattle.mc_codec.specs.NextReply.{HasReply as IsNext}
use Rattle.mc_link.specs.LinkState.{LinkState, Waiting}
use Rattle.mc_link.specs.LinkFields.{IsShortOf}
use Rattle.mc_link.specs.Turns.{HasReply}

-- with more bytes, fewer are missing
pub short_of_more : (wanted : ℕ) (waiting : List Waiting) (unread piece : List ℕ) → IsShortOf wanted waiting unread → IsShortOf wanted waiting (unread ++ piece)
short_of_more wanted [] unread piece short = short
short_of_more wanted (oldest ∷ others) unread piece short = λ more below.
    let same : (unread ++ piece) ++ more ≡ unread ++ (piece ++ more) = append_assoc unread piece more in
    rw same (short (piece ++ more) (rw (← same) below))

-- no more bytes are kept than before
pub kept_is_no_longer : (start left : ℕ) (bytes kept : List ℕ) → start ≤ length bytes → left ≤ length kept → drop left kept ≡ drop start bytes
    → 2 * left ≤ length kept → (2 * start ≤ length bytes → (kept ≡ bytes) × (left ≡ start)) → length kept ≤ length bytes
kept_is_no_longer start left bytes kept inside within same half little = elim (cases_lt (length bytes) (2 * start)) [
  | inl most ↦ omega (arith, ap length same, length-drop left kept, length-drop start bytes)
  | inr few ↦ omega (arith, ap length (little few).0)
]

-- a command without its data block
abbrev Head : Type 0
Head = Atom (Unit {0})

-- a whole reply is next, and is to the oldest command
pub next_if : (link : LinkState) (oldest : Waiting) (others : List Waiting) → link.waiting ≡ oldest ∷ others → IsNext oldest.0 link.unread ↔ HasReply link
next_if link oldest others is = (
  λ next. record {
    tag = oldest.1;
    reply = next.reply;
    after = record link { waiting = others; unread = next.rest };
    takes = record { head = oldest.0; oldest = is; can = next.can; spelled = next.spelled; others = refl };
  },
  λ has.
      let same : oldest ∷ others ≡ (has.takes.head, has.tag) ∷ has.after.waiting = sym is ∙ has.takes.oldest in
      let head : has.takes.head ≡ oldest.0 = cc in
      subst (λ (h : Head). IsNext h link.unread) head (record { reply = has.reply; can = has.takes.can; rest = has.after.unread; spelled = has.takes.spelled }),
)

-- what is in front is the first of them
pub front_is : (waiting : List Waiting) (oldest : Waiting) → 0 < length waiting → oldest ≡ slice_index_or waiting 0 oldest → waiting ≡ oldest ∷ drop 1 waiting
front_is [] oldest some is = absurd (omega (arith, some))
front_is (first ∷ others) oldest some is = ap (λ (w : Waiting). w ∷ others) (sym is)
