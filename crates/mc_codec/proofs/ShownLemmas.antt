-- What is shown: from a path of its form to its spelling, and back.
use Rattle.std.proofs.Common.{◌≡◌, ℕ, ◌≤◌, Bool, true, false, List, ◌++◌, length, Option, Some, None, codes, inl, inr, refl, sym, ap, ◌∙◌, arith}
use Rattle.std.specs.Fmt.{decimal}
use Rattle.mc_text.specs.declared.blocks.TheConstants.{VALUE_LIMIT}
use Rattle.mc_text.specs.Forms.{Form, Path, word, meant, number_if}
use Rattle.mc_text.proofs.CoverLaws.{Spells}
use Rattle.mc_request.specs.WellFormed.{is_good_block, is_u64, is_where_some}
use Rattle.mc_request.specs.declared.meta.Show.{Show}
use Rattle.mc_reply.specs.CanHave.{is_as_asked, is_shown_by, is_size, is_u32, is_unmarked}
use Rattle.mc_reply.specs.MetaSpelling.{number_flag_onto, left_onto, marks_onto, meta_spelling}
use Rattle.mc_reply.specs.declared.replies.Marks.{Marks}
use Rattle.mc_reply.specs.declared.replies.Marks.TheVariants.{Plain, Won, WonStale, StaleSent, Sent}
use Rattle.mc_reply.specs.declared.replies.Shown.{Shown}
use Rattle.mc_reply.specs.declared.replies.Reply.TheVariants as replies
use Rattle.mc_codec.specs.ReplyForms.{Answer}
use Rattle.mc_codec.specs.MetaForms.{left_if, end_if, shown_by, after_line, shown_form}
use Rattle.mc_codec.specs.declared.limits.TheConstants.{FLAGS_LIMIT, NUMBER_LIMIT}
use Rattle.mc_codec.proofs.LimitLemmas.{u64_fits, fits_u64, u32_fits, fits_u32, size_fits, fits_size, block_fits, fits_block, all_four, four_of}

-- what is shown after the code of a line or its size, in canonical order, and what follows the line
abbrev pub shown_onto : Shown → List ℕ → List ℕ
shown_onto shown rest =
    number_flag_onto (codes " c") shown.cas (number_flag_onto (codes " f") shown.flags (number_flag_onto (codes " s") shown.size
    (left_onto shown.left (marks_onto shown.marks (codes "\r\n" ++ rest)))))

-- whether there may be marks
abbrev pub may_mark : Bool → Marks → Bool
may_mark true marks = true
may_mark false marks = is_unmarked marks

-- FROM A PATH

pub record NumberOf (asked : Bool) (test : ℕ → Bool) (text : List ℕ) (f : Option ℕ → Form Answer) (r : Answer) (s : List ℕ) : Type 0 where
  pub number : Option ℕ
  pub shown : is_as_asked test asked number ≡ true
  pub rest : List ℕ
  pub after : Spells (f number) r rest
  pub spelled : s ≡ number_flag_onto text number rest

pub of_number : (asked : Bool) (test : ℕ → Bool) (text : List ℕ) (most : ℕ) (f : Option ℕ → Form Answer) → ((n : ℕ) → n ≤ most → test n ≡ true)
    → (p : Path (number_if asked text most f)) → NumberOf asked test text f (meant (number_if asked text most f) p) (word (number_if asked text most f) p)
of_number true test text most f fits p = grind arith
of_number false test text most f fits p = grind arith

record LeftOf (asked : Bool) (f : Option (Option ℕ) → Form Answer) (r : Answer) (s : List ℕ) : Type 0 where
  pub left : Option (Option ℕ)
  pub shown : is_as_asked (is_where_some is_u64) asked left ≡ true
  pub rest : List ℕ
  pub after : Spells (f left) r rest
  pub spelled : s ≡ left_onto left rest

of_left : (asked : Bool) (f : Option (Option ℕ) → Form Answer) (p : Path (left_if asked f)) → LeftOf asked f (meant (left_if asked f) p) (word (left_if asked f) p)
of_left true f (inl p) = grind arith
of_left true f (inr p) = grind (arith, u64_fits)
of_left false f p = grind arith

record MarksOf (marked : Bool) (f : Marks → Form Answer) (r : Answer) (s : List ℕ) : Type 0 where
  pub marks : Marks
  pub shown : may_mark marked marks ≡ true
  pub rest : List ℕ
  pub after : Spells (f marks) r rest
  pub spelled : s ≡ marks_onto marks (codes "\r\n" ++ rest)

marks_of : (marked : Bool) (f : Marks → Form Answer) (marks : Marks) → may_mark marked marks ≡ true → (p : Path (f marks))
    → MarksOf marked f (meant (f marks) p) (marks_onto marks (codes "\r\n" ++ word (f marks) p))
marks_of marked f marks shown p = grind arith

of_end : (marked : Bool) (f : Marks → Form Answer) (p : Path (end_if marked f)) → MarksOf marked f (meant (end_if marked f) p) (word (end_if marked f) p)
of_end true f (inl p) = marks_of true f Plain refl p
of_end true f (inr (inl p)) = marks_of true f Won refl p
of_end true f (inr (inr (inl p))) = marks_of true f WonStale refl p
of_end true f (inr (inr (inr (inl p)))) = marks_of true f StaleSent refl p
of_end true f (inr (inr (inr (inr p)))) = marks_of true f Sent refl p
of_end false f p = marks_of false f Plain refl p

record ShownOf (marked : Bool) (show : Show) (f : Shown → Form Answer) (r : Answer) (s : List ℕ) : Type 0 where
  pub shown : Shown
  pub fits : is_shown_by show shown ≡ true
  pub marks : may_mark marked shown.marks ≡ true
  pub rest : List ℕ
  pub after : Spells (f shown) r rest
  pub spelled : s ≡ shown_onto shown rest

of_shown : (marked : Bool) (show : Show) (f : Shown → Form Answer) (p : Path (shown_by marked show f))
    → ShownOf marked show f (meant (shown_by marked show f) p) (word (shown_by marked show f) p)
of_shown marked show f p =
    let cas = of_number show.cas is_u64 (codes " c") NUMBER_LIMIT _ u64_fits p in
    let flags = of_number show.flags is_u32 (codes " f") FLAGS_LIMIT _ u32_fits cas.after.path in
    let size = of_number show.size is_size (codes " s") VALUE_LIMIT _ size_fits flags.after.path in
    let left = of_left show.left _ size.after.path in
    let marks = of_end marked _ left.after.path in
    grind (arith, codes, all_four)

-- what a path of a meta form stands for
pub record MetaOf (marked : Bool) (show : Show) (with_value : Bool) (p : Path (shown_form marked show with_value)) : Type 0 where
  pub shown : Shown
  pub value : Option (List ℕ)
  pub means : meant (shown_form marked show with_value) p ≡ replies.Meta shown value
  pub fits : is_shown_by show shown ≡ true
  pub marks : may_mark marked shown.marks ≡ true
  pub has_value : is_as_asked is_good_block with_value value ≡ true
  pub spelled : word (shown_form marked show with_value) p ≡ meta_spelling (replies.Meta shown value)

pub of_meta : (marked : Bool) (show : Show) (with_value : Bool) (p : Path (shown_form marked show with_value)) → MetaOf marked show with_value p
of_meta marked show false p =
    let shown = of_shown marked show (after_line None) p in
    grind (arith, codes)
of_meta marked show true p =
    let size = p.0 in
    let shown = of_shown marked show (after_line (Some size)) p.2 in
    let value = shown.after.path in
    record {
      shown = shown.shown;
      value = Some value.0;
      means = sym shown.after.means;
      fits = shown.fits;
      marks = shown.marks;
      has_value = block_fits value.0 size p.1 value.1;
      spelled = ap (λ (w : List ℕ). codes "VA " ++ w)
          (ap (λ (w : List ℕ). decimal size ++ w) (shown.spelled ∙ ap (shown_onto shown.shown) (sym shown.after.spelled))
          ∙ ap (λ (n : ℕ). decimal n ++ shown_onto shown.shown (value.0 ++ codes "\r\n")) (sym value.1));
    }

-- TO A PATH

pub to_number : (asked : Bool) (test : ℕ → Bool) (text : List ℕ) (most : ℕ) (f : Option ℕ → Form Answer) → ((n : ℕ) → test n ≡ true → n ≤ most)
    → (number : Option ℕ) → is_as_asked test asked number ≡ true → (p : Path (f number))
    → Spells (number_if asked text most f) (meant (f number) p) (number_flag_onto text number (word (f number) p))
to_number true test text most f fits (Some n) shown p = record { path = (n, fits n shown, p); means = refl; spelled = refl }
to_number true test text most f fits None shown p = absurd (cc)
to_number false test text most f fits (Some n) shown p = absurd (cc)
to_number false test text most f fits None shown p = record { path = p; means = refl; spelled = refl }

to_left_if : (asked : Bool) (f : Option (Option ℕ) → Form Answer) (left : Option (Option ℕ)) → is_as_asked (is_where_some is_u64) asked left ≡ true → (p : Path (f left))
    → Spells (left_if asked f) (meant (f left) p) (left_onto left (word (f left) p))
to_left_if true f (Some None) shown p = record { path = inl p; means = refl; spelled = refl }
to_left_if true f (Some (Some n)) shown p = record { path = inr (n, fits_u64 n shown, p); means = refl; spelled = refl }
to_left_if true f None shown p = absurd (cc)
to_left_if false f (Some left) shown p = absurd (cc)
to_left_if false f None shown p = record { path = p; means = refl; spelled = refl }

to_end : (marked : Bool) (f : Marks → Form Answer) (marks : Marks) → may_mark marked marks ≡ true → (p : Path (f marks))
    → Spells (end_if marked f) (meant (f marks) p) (marks_onto marks (codes "\r\n" ++ word (f marks) p))
to_end true f Plain shown p = record { path = inl p; means = refl; spelled = refl }
to_end true f Won shown p = record { path = inr (inl p); means = refl; spelled = refl }
to_end true f WonStale shown p = record { path = inr (inr (inl p)); means = refl; spelled = refl }
to_end true f StaleSent shown p = record { path = inr (inr (inr (inl p))); means = refl; spelled = refl }
to_end true f Sent shown p = record { path = inr (inr (inr (inr p))); means = refl; spelled = refl }
to_end false f Plain shown p = record { path = p; means = refl; spelled = refl }
to_end false f Won shown p = absurd (cc)
to_end false f WonStale shown p = absurd (cc)
to_end false f StaleSent shown p = absurd (cc)
to_end false f Sent shown p = absurd (cc)

to_shown : (marked : Bool) (show : Show) (f : Shown → Form Answer) (shown : Shown) → is_shown_by show shown ≡ true → may_mark marked shown.marks ≡ true → (p : Path (f shown))
    → Spells (shown_by marked show f) (meant (f shown) p) (shown_onto shown (word (f shown) p))
to_shown marked show f shown fits mark p =
    let fit = four_of (is_as_asked is_u64 show.cas shown.cas) (is_as_asked is_u32 show.flags shown.flags) (is_as_asked is_size show.size shown.size)
    (is_as_asked (is_where_some is_u64) show.left shown.left) fits in
    let marks = to_end marked (λ marks. f (record { cas = shown.cas; flags = shown.flags; size = shown.size; left = shown.left; marks = marks })) shown.marks mark p in
    let left = to_left_if show.left (λ left. end_if marked (λ marks. f (record { cas = shown.cas; flags = shown.flags; size = shown.size; left = left; marks = marks }))) shown.left fit.3 marks.path in
    let size = to_number show.size is_size (codes " s") VALUE_LIMIT (λ size. left_if show.left (λ left. end_if marked (λ marks. f (record { cas = shown.cas; flags = shown.flags; size = size; left = left; marks = marks })))) fits_size shown.size fit.2 left.path in
    let flags = to_number show.flags is_u32 (codes " f") FLAGS_LIMIT (λ flags. number_if show.size (codes " s") VALUE_LIMIT (λ size. left_if show.left (λ left. end_if marked (λ marks. f (record { cas = shown.cas; flags = flags; size = size; left = left; marks = marks }))))) fits_u32 shown.flags fit.1 size.path in
    let cas = to_number show.cas is_u64 (codes " c") NUMBER_LIMIT (λ cas. number_if show.flags (codes " f") FLAGS_LIMIT (λ flags. number_if show.size (codes " s") VALUE_LIMIT (λ size. left_if show.left (λ left. end_if marked (λ marks. f (record { cas = cas; flags = flags; size = size; left = left; marks = marks })))))) fits_u64 shown.cas fit.0 flags.path in
    record {
      path = cas.path;
      means = cas.means ∙ flags.means ∙ size.means ∙ left.means ∙ marks.means;
      spelled = cas.spelled ∙ ap (number_flag_onto (codes " c") shown.cas) (flags.spelled ∙ ap (number_flag_onto (codes " f") shown.flags)
          (size.spelled ∙ ap (number_flag_onto (codes " s") shown.size) (left.spelled ∙ ap (left_onto shown.left) marks.spelled)));
    }

pub to_meta : (marked : Bool) (show : Show) (with_value : Bool) (shown : Shown) (value : Option (List ℕ))
    → is_shown_by show shown ≡ true → may_mark marked shown.marks ≡ true → is_as_asked is_good_block with_value value ≡ true
    → Spells (shown_form marked show with_value) (replies.Meta shown value) (meta_spelling (replies.Meta shown value))
to_meta marked show false shown None fits marks has_value =
    let p = to_shown marked show (after_line None) shown fits marks tt in
    record { path = p.path; means = p.means; spelled = ap (λ (w : List ℕ). codes "HD" ++ w) p.spelled }
to_meta marked show true shown (Some value) fits marks has_value =
    let p = to_shown marked show (after_line (Some (length value))) shown fits marks (value, refl, tt) in
    record { path = (length value, fits_block value has_value, p.path); means = p.means; spelled = ap (λ (w : List ℕ). codes "VA " ++ (decimal (length value) ++ w)) p.spelled }
to_meta marked show false shown (Some value) fits marks has_value = absurd (cc)
to_meta marked show true shown None fits marks has_value = absurd (cc)
