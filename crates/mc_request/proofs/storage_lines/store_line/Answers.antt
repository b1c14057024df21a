use Rattle.std.proofs.Common.{◌≡◌, ◌∙◌, ℕ, Bool, List, ◌∷◌, Option, Result, Err, sym, ap}
use Rattle.mc_text.specs.Numbers.{read_len}
use Rattle.mc_request.specs.declared.faults.Fault.{Fault}
use Rattle.mc_request.specs.Faults.{◌>>=◌}
use Rattle.mc_request.specs.Meanings.{meaning_from, storing_by}
use Rattle.mc_request.proofs.LineLemmas.{store_line_by}
use Rattle.mc_request.proofs.storage_lines.store_line.Goals as goal

pub returns-in-Err : goal.returns-in-Err
returns-in-Err c =
    let w = c.in-Some-Some-Some-Some in
    let words : c.args.words ≡ w.key.now ∷ w.flags.now ∷ w.exptime.now ∷ w.len.now ∷ c.next-4.new.self =
    w.ensures.steps ∙ ap (λ (ws : List (List ℕ)). w.key.now ∷ ws) (w.ensures'.steps ∙ ap (λ (ws : List (List ℕ)). w.flags.now ∷ ws) (w.ensures''.steps
    ∙ ap (λ (ws : List (List ℕ)). w.exptime.now ∷ ws) w.ensures'''.steps)) in
    let line = store_line_by c.args.mode c.args.compares w.key.now w.flags.now w.exptime.now w.len.now c.next-4.new.self c.args.words c.after_length.result words c.after_length.ensures in
    c.refused.ensures
    ∙ ap (λ (n : Option ℕ). meaning_from n (Err c.in-Err.fault)) c.read_len-announced.ensures
    ∙ sym (line ∙ ap (λ (r : Result (Option ℕ × Bool) Fault). meaning_from (read_len w.len.now) (r >>= (λ r. storing_by c.args.mode r.0 w.key.now w.flags.now w.exptime.now (read_len w.len.now) r.1))) c.in-Err.is)

pub returns : goal.returns
returns c =
    let w = c.in-Some-Some-Some-Some in
    let words : c.args.words ≡ w.key.now ∷ w.flags.now ∷ w.exptime.now ∷ w.len.now ∷ c.next-4.new.self =
    w.ensures.steps ∙ ap (λ (ws : List (List ℕ)). w.key.now ∷ ws) (w.ensures'.steps ∙ ap (λ (ws : List (List ℕ)). w.flags.now ∷ ws) (w.ensures''.steps
    ∙ ap (λ (ws : List (List ℕ)). w.exptime.now ∷ ws) w.ensures'''.steps)) in
    let line = store_line_by c.args.mode c.args.compares w.key.now w.flags.now w.exptime.now w.len.now c.next-4.new.self c.args.words c.after_length.result words c.after_length.ensures in
    c.stored_line.ensures
    ∙ ap (λ (n : Option ℕ). meaning_from n (storing_by c.args.mode c.in-Ok.rest.0 w.key.now w.flags.now w.exptime.now n c.in-Ok.rest.1)) c.read_len-announced.ensures
    ∙ sym (line ∙ ap (λ (r : Result (Option ℕ × Bool) Fault). meaning_from (read_len w.len.now) (r >>= (λ r. storing_by c.args.mode r.0 w.key.now w.flags.now w.exptime.now (read_len w.len.now) r.1))) c.in-Ok.is)
