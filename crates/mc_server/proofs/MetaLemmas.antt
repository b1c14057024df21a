-- A meta command, by what the cache replied.
use Rattle.std.proofs.Common.{◌≡◌, ◌∙◌, ℕ, ◌&&◌, Bool, true, false, List, ◌++◌, refl, sym, ap}
use Rattle.std.specs.Borrow.{Bor}
use Rattle.mc_request.specs.Parts.{key_bytes, meta_said, word_in_meta}
use Rattle.mc_request.specs.Hides.{hides_of}
use Rattle.mc_request.specs.declared.hides.Hides.{Hides}
use Rattle.mc_text.specs.Keys.{is_key}
use Rattle.mc_request.specs.WellFormed.{is_good_request, is_good_meta, is_good_block, is_meta_key, has_meta_key}
use Rattle.mc_request.specs.declared.meta.MetaCommand.{MetaCommand}
use Rattle.mc_request.specs.declared.meta.MetaCommand.TheVariants as metas
use Rattle.mc_request.specs.declared.parts.Update.TheVariants.{Store, Touch, Delete, Count, FlushAll}
use Rattle.mc_request.specs.declared.meta.MetaForm.{MetaForm}
use Rattle.mc_request.specs.declared.parts.Atom.TheVariants as atoms
use Rattle.mc_request.specs.declared.parts.Request.TheVariants as requests
use Rattle.mc_request.specs.declared.parts.Parsed.TheVariants.{Whole}
use Rattle.mc_reply.specs.declared.replies.Reply.{Reply}
use Rattle.mc_reply.specs.Replies.{filled}
use Rattle.mc_reply.specs.Spelling.{is_hidden, shown_meta, meta_key}
use Rattle.mc_reply.specs.MetaSpelling.{meta_line}
use Rattle.mc_cache.specs.CacheState.{CacheState}
use Rattle.mc_cache.specs.Memory.{may_refuse}
use Rattle.mc_cache.specs.Refusals.{is_refusal}
use Rattle.mc_cache.specs.Step.{step_of, StepResult}
use Rattle.mc_server.specs.Served.{IsServed}
use Rattle.mc_server.proofs.UpdateLemmas.{is_hidden-filled, is_refusal-filled, or_nothing}

-- what is shown of a reply
pub meta_shown : {V : Type 0} (hides : Hides) (form : MetaForm (List (List ℕ))) (key : List ℕ) (reply : Reply V) (value : List ℕ) → is_hidden hides reply ≡ false
    → shown_meta hides form key (filled reply value) ≡ meta_line form key (filled reply value)
meta_shown hides form key reply value shown = rw (is_hidden-filled hides reply value, shown) refl

-- the cache made the command, and what is shown of its reply was written
pub meta_served : {V : Type 0} (number moment : ℕ) (s t : CacheState) (command : MetaCommand (List ℕ) (List ℕ)) (form : MetaForm (List (List ℕ))) (hides : Hides) (reply : Reply V) (value : List ℕ) (before after : List ℕ)
    → step_of s (atoms.Meta command) moment (is_refusal reply) ≡ (t, filled reply value)
    → (is_refusal reply ≡ true → may_refuse s (atoms.Meta command) moment ≡ true)
    → hides_of (requests.Meta command form) ≡ hides → after ≡ before ++ shown_meta hides form (meta_key command) (filled reply value)
    → IsServed number s (Whole (requests.Meta command form)) moment t before after
meta_served number moment s t command form hides reply value before after outcome allowed hides_is after_is =
    let made : (step_of s (atoms.Meta command) moment (is_refusal reply)).0 ≡ t = ap (λ (o : StepResult). o.0) outcome in
    let told : (step_of s (atoms.Meta command) moment (is_refusal reply)).1 ≡ filled reply value = ap (λ (o : StepResult). o.1) outcome in (
      is_refusal reply,
      record {
        legal = ((allowed, tt), sym (or_nothing (is_refusal (step_of s (atoms.Meta command) moment (is_refusal reply)).1) ∙ ap (λ (r : Reply (List ℕ)). is_refusal r) told ∙ is_refusal-filled reply value));
        cache = sym made;
        answered = after_is ∙ rw (hides_is, told) refl;
      },
    )

first : (a b : Bool) → (a && b) ≡ true → a ≡ true
first true b h = refl
first false b h = absurd cc

-- a key of a meta command is a key
meta_key_is : (coded : Bool) (key : List ℕ) → is_meta_key coded key ≡ true → is_key key ≡ true
meta_key_is true key h = h
meta_key_is false key h = first (is_key key) _ h

has_key_by : (command : MetaCommand (List ℕ) (List ℕ)) (coded : Bool) → is_good_meta (is_meta_key coded) is_good_block command ≡ true → has_meta_key command ≡ true
has_key_by (metas.Get key get) coded h = meta_key_is coded key (first (is_meta_key coded key) _ h)
has_key_by (metas.Update (Store mode compare key flags exptime block) show) coded h =
    let k = is_meta_key coded key in
    meta_key_is coded key (first k _ (first (k && _) _ (first ((k && _) && _) _ (first (((k && _) && _) && _) _ h))))
has_key_by (metas.Update (Touch key exptime) show) coded h = meta_key_is coded key (first (is_meta_key coded key) _ h)
has_key_by (metas.Update (Delete key compare invalidate) show) coded h = meta_key_is coded key (first (is_meta_key coded key) _ h)
has_key_by (metas.Update (Count key counting) show) coded h = meta_key_is coded key (first (is_meta_key coded key) _ h)
has_key_by (metas.Update (FlushAll delay) show) coded h = refl

-- a good meta command has a key, if it has one at all
pub good_meta_key : (command : MetaCommand (List ℕ) (List ℕ)) (form : MetaForm (List (List ℕ))) → is_good_request (requests.Meta command form) ≡ true → has_meta_key command ≡ true
good_meta_key command form h = has_key_by command form.coded (first (is_good_meta (is_meta_key form.coded) is_good_block command) _ h)

second : (a b : Bool) → (a && b) ≡ true → b ≡ true
second true b h = h
second false b h = absurd cc

-- the word of a good meta command stands for its key
pub word_is_key : (command : MetaCommand (Bor (List ℕ)) (Bor (List ℕ))) (form : MetaForm (List (List ℕ))) → is_good_request (requests.Meta (meta_said form.coded command) form) ≡ true
    → (is_key (key_bytes form.coded (word_in_meta command)) ≡ true) × (meta_key (meta_said form.coded command) ≡ key_bytes form.coded (word_in_meta command))
word_is_key (metas.Get key get) form h = (good_meta_key (meta_said form.coded (metas.Get key get)) form h, refl)
word_is_key (metas.Update (Store mode compare key flags exptime block) show) form h = (good_meta_key (meta_said form.coded (metas.Update (Store mode compare key flags exptime block) show)) form h, refl)
word_is_key (metas.Update (Touch key exptime) show) form h = (good_meta_key (meta_said form.coded (metas.Update (Touch key exptime) show)) form h, refl)
word_is_key (metas.Update (Delete key compare invalidate) show) form h = (good_meta_key (meta_said form.coded (metas.Update (Delete key compare invalidate) show)) form h, refl)
word_is_key (metas.Update (Count key counting) show) form h = (good_meta_key (meta_said form.coded (metas.Update (Count key counting) show)) form h, refl)
word_is_key (metas.Update (FlushAll delay) show) form h =
    let never : false ≡ true = second (is_good_meta (is_meta_key form.coded) is_good_block (meta_said form.coded (metas.Update (FlushAll delay) show))) false h in absurd cc
