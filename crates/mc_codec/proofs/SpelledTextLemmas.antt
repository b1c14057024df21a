-- Texts of spelled commands, and what is read of them.
use Rattle.std.proofs.Common.{◌≡◌, ℕ, true, false, List, [], ◌∷◌, ◌++◌, length, drop, map, Some, codes, refl, sym, ap, ◌∙◌, append_assoc, arith}
use Rattle.std.proofs.Math.Seq.{drop-append_seam}
use Rattle.std.proofs.lemmas.Bool.{and_parts}
use Rattle.std.specs.List.{list_all}
use Rattle.mc_text.specs.Lines.{line_end, first_line}
use Rattle.mc_text.specs.Words.{words}
use Rattle.mc_request.specs.declared.parts.Atom.{Atom}
use Rattle.mc_request.specs.declared.parts.Atom.TheVariants as atoms
use Rattle.mc_request.specs.declared.parts.Request.{Request}
use Rattle.mc_request.specs.declared.parts.Request.TheVariants.{Quit}
use Rattle.mc_request.specs.declared.parts.Parsed.{Parsed}
use Rattle.mc_request.specs.declared.parts.Parsed.TheVariants.{Whole}
use Rattle.mc_request.specs.Atoms.{atoms_of}
use Rattle.mc_request.specs.Names.{name_of}
use Rattle.mc_request.specs.Requests.{next_request, ends, requests_within, requests_of}
use Rattle.mc_request.proofs.RequestLemmas.{requests-step}
use Rattle.mc_codec.specs.Spellings.{spelling_of_atom, spellings_of, request_of, is_good_atom}
use Rattle.mc_codec.proofs.SpellingClassicLemmas.{first-get, first-update}
use Rattle.mc_codec.proofs.MetaSpellingLemmas.{first-meta}

-- each spelling is the first request of its text
pub first_spelled : (atom : Atom (List ℕ)) (more : List ℕ) → is_good_atom atom ≡ true
    → next_request (spelling_of_atom atom ++ more) ≡ Some (Whole (request_of atom), length (spelling_of_atom atom))
first_spelled (atoms.Get key exptime with_cas) more h = grind (arith, and_parts, first-get)
first_spelled (atoms.Update update) more h = grind (arith, and_parts, first-update)
first_spelled (atoms.Meta command) more h = grind (arith, and_parts, first-meta)

goes_on : (atom : Atom (List ℕ)) → ends (Whole (request_of atom)) ≡ false
goes_on (atoms.Get key exptime with_cas) = refl
goes_on (atoms.Update update) = refl
goes_on (atoms.Meta command) = refl

-- after it the other requests are read
pub requests-spelled : (atom : Atom (List ℕ)) (more : List ℕ) → is_good_atom atom ≡ true
    → requests_of (spelling_of_atom atom ++ more) ≡ Whole (request_of atom) ∷ requests_of more
requests-spelled atom more h =
    requests-step (spelling_of_atom atom ++ more) ∙ rw (first_spelled atom more h, goes_on atom, drop-append_seam (spelling_of_atom atom) more) refl

-- the command of its request
pub one_atom : (atom : Atom (List ℕ)) → atoms_of (request_of atom) ≡ atom ∷ []
one_atom (atoms.Get key exptime with_cas) = refl
one_atom (atoms.Update update) = refl
one_atom (atoms.Meta command) = refl

taken_same : (x y : Parsed × ℕ) → Some x ≡ Some y → x ≡ y
taken_same x y e = cc

request_same : (a b : Request) (m n : ℕ) → ◌≡◌ {A = Parsed × ℕ} (Whole a, m) (Whole b, n) → a ≡ b
request_same a b m n e = let whole : Whole a ≡ Whole b = ap (λ (x : Parsed × ℕ). x.0) e in cc

head_same : (a b : Atom (List ℕ)) → a ∷ [] ≡ b ∷ [] → a ≡ b
head_same a b e = cc

-- equal texts begin with the same command, and go on in the same way
pub apart : (a b : Atom (List ℕ)) (xs ys : List ℕ) → is_good_atom a ≡ true → is_good_atom b ≡ true
    → spelling_of_atom a ++ xs ≡ spelling_of_atom b ++ ys → (a ≡ b) × (xs ≡ ys)
apart a b xs ys g h e =
    let first = sym (first_spelled a xs g) ∙ ap next_request e ∙ first_spelled b ys h in
    let requests : request_of a ≡ request_of b =
    request_same (request_of a) (request_of b) (length (spelling_of_atom a)) (length (spelling_of_atom b)) (taken_same _ _ first) in
    let same : a ≡ b = head_same a b (sym (one_atom a) ∙ ap atoms_of requests ∙ one_atom b) in
    let texts : spelling_of_atom b ++ xs ≡ spelling_of_atom b ++ ys = rw same at e in
    let rests = sym (drop-append_seam (spelling_of_atom b) xs) ∙ ap (drop (length (spelling_of_atom b))) texts ∙ drop-append_seam (spelling_of_atom b) ys in
    (same, rests)

abbrev pub taken_of : Atom (List ℕ) → Parsed
taken_of atom = Whole (request_of atom)

-- what is read of spellings in sequence
pub all_spelled : (commands : List (Atom (List ℕ))) (more : List ℕ) → list_all is_good_atom commands ≡ true
    → requests_of (spellings_of commands ++ more) ≡ map taken_of commands ++ requests_of more
all_spelled [] more h = refl
all_spelled (atom ∷ commands) more h =
    let parts = and_parts (is_good_atom atom) (list_all is_good_atom commands) h in
    ap requests_of (append_assoc (spelling_of_atom atom) (spellings_of commands) more) ∙ requests-spelled atom (spellings_of commands ++ more) parts.0
    ∙ ap (λ (ts : List Parsed). taken_of atom ∷ ts) (all_spelled commands more parts.1)

quit_alone : requests_of (codes "quit\r\n") ≡ Whole Quit ∷ []
unfolding words line_end first_line name_of next_request requests_within requests_of
quit_alone = refl

pub quit_after : (commands : List (Atom (List ℕ))) → list_all is_good_atom commands ≡ true
    → requests_of (spellings_of commands ++ codes "quit\r\n") ≡ map taken_of commands ++ Whole Quit ∷ []
quit_after commands h = all_spelled commands (codes "quit\r\n") h ∙ rw quit_alone refl
