use Rattle.std.proofs.Common.{◌≡◌, ◌≢◌, ◌++◌, ◌∙◌, drop, length, List, ℕ, sym, ap}
use Rattle.std.proofs.lemmas.Bool.{false≢true}
use Rattle.std.proofs.lemmas.Bool.Decides.{Decides-eqb}
use Rattle.std.proofs.lemmas.Slice.Eq.{strip_prefix_is, starts_is}
use Rattle.mc_text.specs.Forms.{text_at}
use Rattle.mc_text.proofs.FieldLemmas.{text_whole, text_cut, text_strange}
use Rattle.mc_text.proofs.fields.text.Goals as goal

pub returns-in-Some : goal.returns-in-Some
returns-in-Some c =
    let stripped = strip_prefix_is Decides-eqb c.args.unread.now c.args.text.now c.strip_prefix.result c.strip_prefix.ensures.cases in
    let same : c.args.unread.now ≡ c.args.text.now ++ c.in-Some.rest.now = rw c.in-Some.is at stripped in
    sym (ap (text_at c.args.text.now) same ∙ text_whole c.args.text.now c.in-Some.rest.now)

pub returns-then-starts_with : goal.returns-then-starts_with
returns-then-starts_with c =
    let stripped = strip_prefix_is Decides-eqb c.args.unread.now c.args.text.now c.strip_prefix.result c.strip_prefix.ensures.cases in
    let never : (rest : List ℕ) → c.args.unread.now ≢ c.args.text.now ++ rest = rw c.in-None.is at stripped in
    let starts = starts_is Decides-eqb c.args.text.now c.args.unread.now c.starts_with.result c.starts_with.ensures.value in
    sym (text_cut c.args.text.now c.args.unread.now (drop (length c.args.unread.now) c.args.text.now) (starts.0 c.if-starts_with.true) never)

pub returns-else-starts_with : goal.returns-else-starts_with
returns-else-starts_with c =
    let stripped = strip_prefix_is Decides-eqb c.args.unread.now c.args.text.now c.strip_prefix.result c.strip_prefix.ensures.cases in
    let never : (rest : List ℕ) → c.args.unread.now ≢ c.args.text.now ++ rest = rw c.in-None.is at stripped in
    let starts = starts_is Decides-eqb c.args.text.now c.args.unread.now c.starts_with.result c.starts_with.ensures.value in
    sym (text_strange c.args.text.now c.args.unread.now never (λ z e. false≢true (sym c.if-starts_with.false ∙ starts.1 z e)))
