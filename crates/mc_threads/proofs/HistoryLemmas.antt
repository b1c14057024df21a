-- A worker's history of the bytes that its link sent: the link's commands, and `quit`.
use Rattle.std.proofs.Common.{◌≡◌, ◌∙◌, ℕ, ◌<◌, ◌^◌, ◌==◌, true, false, if◌then◌else◌, List, [], ◌∷◌, ◌++◌, map, codes, refl, sym, ap, subst, append-nil}
use Rattle.std.specs.List.{All, list_all}
use Rattle.std.proofs.lemmas.Bool.{and_parts}
use Rattle.std.proofs.lemmas.List.{map-append}
use Rattle.std.proofs.lemmas.List.Elements.{All-head, All-tail}
use Rattle.mc_request.specs.Requests.{requests_of}
use Rattle.mc_request.specs.declared.parts.Request.TheVariants.{Quit}
use Rattle.mc_request.specs.declared.parts.Parsed.{Parsed}
use Rattle.mc_request.specs.declared.parts.Parsed.TheVariants.{Whole}
use Rattle.mc_reply.specs.declared.replies.Reply.{Reply as AReply}
use Rattle.mc_codec.proofs.SpelledTextLemmas.{quit_after}
use Rattle.mc_cache.specs.CacheState.{CacheState}
use Rattle.mc_cache.specs.Replay.{AreAllowed, Command}
use Rattle.mc_cache.specs.Step.{step_of}
use Rattle.mc_cache_laws.specs.GoodCaches.{IsGoodCache}
use Rattle.mc_cache_laws.proofs.GoodStepLemmas.{answers_as_it_can, stays_good}
use Rattle.mc_server.specs.Served.{IsLegalAt, ServedRequest, answer_after, cache_after}
use Rattle.mc_server.specs.Histories.{IsLegalHistory, answers_to, replayed, taken_of}
use Rattle.mc_server.proofs.HistoryLemmas.{answers-append}
use Rattle.mc_account.specs.Lanes.{replies_text, spelled}
use Rattle.mc_account.specs.Orders.{Tagged}
use Rattle.mc_history.specs.Generations.{is_good}
use Rattle.mc_history.specs.Made.{AreMade, Made, commands_on, read_as, replies_on, taking_of}
use Rattle.mc_history.proofs.GenerationLemmas.{read_spelled}
use Rattle.mc_history.proofs.MadeLemmas.{cache_made, commands_made, told_on}
use Rattle.mc_history.proofs.RefusalLemmas.{entry_refused}
use Rattle.mc_threads.specs.Workers.{IsWorked, moments_of}

-- all commands are of the one connection
abbrev pub AreFirst : List Made → Type 0
AreFirst [] = Unit {0}
AreFirst (m ∷ ms) = (m.connection ≡ 0) × AreFirst ms

-- the commands that a worker made of the bytes that its link sent: the link's commands in order, and `quit`; the
-- bytes that it sent give the replies
pub record IsServed (opening : CacheState) (began ended : List ℕ) (commands : List Tagged) (sent : List ℕ) : Type 0 where
  pub made : List Made
  pub made_is : AreMade opening made
  pub commands_are : map (λ (m : Made). m.command) made ≡ commands
  pub told_is : sent ≡ replies_text commands (map (λ (m : Made). m.reply) made)
  pub quit : ℕ
  pub clocked : ended ≡ began ++ (map (λ (m : Made). m.moment) made ++ quit ∷ [])

-- the command of an entry that took it, as it was made
abbrev made_of : CacheState → Tagged → ServedRequest → Made
made_of s c e = record { connection = 0; command = c; moment = e.moment; refused = e.refused; reply = (step_of s c.0 e.moment e.refused).1 }

-- a history that took these commands, and `quit`
record Tells (s : CacheState) (commands : List Tagged) (history : List ServedRequest) : Type 0 where
  pub made : List Made
  pub last : ServedRequest
  pub history_is : history ≡ map taking_of made ++ last ∷ []
  pub commands_are : map (λ (m : Made). m.command) made ≡ commands
  pub last_is : last.what ≡ Whole Quit
  pub made_is : AreMade s made
  pub first : AreFirst made

-- the requests that were taken of the one connection are all
all_taken : (history : List ServedRequest) → All (λ e. e.connection ≡ 0) history → taken_of 0 history ≡ map (λ (e : ServedRequest). e.what) history
all_taken [] only = refl
all_taken (e ∷ es) only =
    let own = All-head (λ (x : ServedRequest). x.connection ≡ 0) e es only in
    rw own (ap (λ (ts : List Parsed). e.what ∷ ts) (all_taken es (All-tail (λ (x : ServedRequest). x.connection ≡ 0) e es only)))

head_of_two : (x y : Parsed) (xs ys : List Parsed) → x ∷ xs ≡ y ∷ ys → x ≡ y
head_of_two x y xs ys e = cc

tail_of_two : (x y : Parsed) (xs ys : List Parsed) → x ∷ xs ≡ y ∷ ys → xs ≡ ys
tail_of_two x y xs ys e = cc

entry_is : (e : ServedRequest) (what : Parsed) → e.connection ≡ 0 → e.what ≡ what
    → e ≡ record { connection = 0; what = what; moment = e.moment; refused = e.refused }
entry_is e what own same =
    let at : ℕ → ServedRequest = λ n. record { connection = n; what = e.what; moment = e.moment; refused = e.refused } in
    let of : Parsed → ServedRequest = λ t. record { connection = 0; what = t; moment = e.moment; refused = e.refused } in
    ap at own ∙ ap of same

tells : (s : CacheState) (commands : List Tagged) (history : List ServedRequest) → IsGoodCache s → map (λ (e : ServedRequest). e.what) history ≡ map read_as commands ++ Whole Quit ∷ []
    → All (λ e. e.connection ≡ 0) history → All (λ e. e.moment < 2 ^ 63) history → IsLegalHistory s history → list_all is_good commands ≡ true → Tells s commands history
tells s [] [] good_cache same only early legal good = absurd cc
tells s [] (e ∷ []) good_cache same only early legal good = record {
  made = [];
  last = e;
  history_is = refl;
  commands_are = refl;
  last_is = head_of_two e.what (Whole Quit) [] [] same;
  made_is = tt;
  first = tt;
}
tells s [] (e ∷ f ∷ es) good_cache same only early legal good =
    let clash : map (λ (x : ServedRequest). x.what) (f ∷ es) ≡ [] =
    tail_of_two e.what (Whole Quit) (map (λ (x : ServedRequest). x.what) (f ∷ es)) [] same in absurd cc
tells s (c ∷ cs) [] good_cache same only early legal good = absurd cc
tells s (c ∷ cs) (e ∷ es) good_cache same only early legal good =
    let what : e.what ≡ read_as c = head_of_two e.what (read_as c) (map (λ (x : ServedRequest). x.what) es) (map read_as cs ++ Whole Quit ∷ []) same in
    let parts = and_parts (is_good c) (list_all is_good cs) good in
    let m : Made = made_of s c e in
    let own : e.connection ≡ 0 = All-head (λ (x : ServedRequest). x.connection ≡ 0) e es only in
    let soon : e.moment < 2 ^ 63 = All-head (λ (x : ServedRequest). x.moment < 2 ^ 63) e es early in
    let is : e ≡ taking_of m = entry_is e (read_as c) own what in
    let at_once : IsLegalAt s (taking_of m) = subst (λ (x : ServedRequest). IsLegalAt s x) is legal.0 in
    let allowed : AreAllowed s ((record { atom = c.0; moment = e.moment; refused = e.refused }) ∷ []) = subst (λ (xs : List Command). AreAllowed s xs) (commands_made m) at_once.0 in
    let after : cache_after s e ≡ (step_of s c.0 e.moment e.refused).0 = ap (λ (x : ServedRequest). cache_after s x) is ∙ cache_made s m in
    let others = tells (step_of s c.0 e.moment e.refused).0 cs es (stays_good s good_cache c.0 parts.0 e.moment soon e.refused)
    (tail_of_two e.what (read_as c) (map (λ (x : ServedRequest). x.what) es) (map read_as cs ++ Whole Quit ∷ []) same)
    (All-tail (λ (x : ServedRequest). x.connection ≡ 0) e es only) (All-tail (λ (x : ServedRequest). x.moment < 2 ^ 63) e es early)
    (subst (λ (t : CacheState). IsLegalHistory t es) after legal.1) parts.1 in
    record {
      made = m ∷ others.made;
      last = others.last;
      history_is = ap (λ (x : ServedRequest). x ∷ es) is ∙ ap (λ (xs : List ServedRequest). taking_of m ∷ xs) others.history_is;
      commands_are = ap (λ (xs : List Tagged). c ∷ xs) others.commands_are;
      last_is = others.last_is;
      made_is = (
        record {
          good = parts.0;
          legal = allowed.0;
          reply = refl;
          told = entry_refused s e c.0 what legal.0;
          can = answers_as_it_can s good_cache c.0 parts.0 e.moment soon e.refused;
        },
        others.made_is,
      );
      first = (refl, others.first);
    }

-- all commands were made on the one connection
commands_first : (made : List Made) → AreFirst made → commands_on 0 made ≡ map (λ (m : Made). m.command) made
commands_first [] h = refl
commands_first (m ∷ ms) h = rw h.0 (ap (λ (xs : List Tagged). m.command ∷ xs) (commands_first ms h.1))

replies_first : (made : List Made) → AreFirst made → replies_on 0 made ≡ map (λ (m : Made). m.reply) made
replies_first [] h = refl
replies_first (m ∷ ms) h = rw h.0 (ap (λ (xs : List (AReply (List ℕ))). m.reply ∷ xs) (replies_first ms h.1))

-- `quit` has an empty answer
quit_silent : (s : CacheState) (e : ServedRequest) → e.what ≡ Whole Quit → answer_after s e ≡ []
quit_silent s e h = rw h refl

moments_made : (made : List Made) → moments_of (map taking_of made) ≡ map (λ (m : Made). m.moment) made
moments_made [] = refl
moments_made (m ∷ ms) = ap (λ (ts : List ℕ). m.moment ∷ ts) (moments_made ms)

last_silent : (s : CacheState) (e : ServedRequest) → e.what ≡ Whole Quit → answers_to 0 s (e ∷ []) ≡ []
last_silent s e h =
    (elim (e.connection == 0) as (λ v. (if v then answer_after s e else []) ++ [] ≡ []) [
      | true ↦ append-nil (answer_after s e) ∙ quit_silent s e h
      | false ↦ refl
    ])

pub served : (opening : CacheState) (began ended received sent : List ℕ) (history : List ServedRequest) (commands : List Tagged) → IsGoodCache opening → IsWorked opening began ended received sent history
    → received ≡ spelled commands ++ codes "quit\r\n" → list_all is_good commands ≡ true → IsServed opening began ended commands sent
served opening began ended received sent history commands good_cache h came good =
    let read : map (λ (e : ServedRequest). e.what) history ≡ map read_as commands ++ Whole Quit ∷ [] =
    sym (all_taken history h.only) ∙ h.taken ∙ ap requests_of came ∙ read_spelled commands (codes "quit\r\n") good
    ∙ ap (λ (ts : List Parsed). map read_as commands ++ ts) (quit_after [] refl) in
    let t = tells opening commands history good_cache read h.only h.early h.legal good in
    record {
      made = t.made;
      made_is = t.made_is;
      commands_are = t.commands_are;
      told_is = h.answered ∙ ap (λ (es : List ServedRequest). answers_to 0 opening es) t.history_is
          ∙ answers-append 0 opening (map taking_of t.made) (t.last ∷ [])
          ∙ ap (λ (bytes : List ℕ). answers_to 0 opening (map taking_of t.made) ++ bytes) (last_silent (replayed opening (map taking_of t.made)) t.last t.last_is)
          ∙ append-nil (answers_to 0 opening (map taking_of t.made))
          ∙ told_on 0 opening t.made t.made_is
          ∙ ap (λ (cs : List Tagged). replies_text cs (replies_on 0 t.made)) (commands_first t.made t.first ∙ t.commands_are)
          ∙ ap (λ (rs : List (AReply (List ℕ))). replies_text commands rs) (replies_first t.made t.first);
      quit = t.last.moment;
      clocked = h.clocked ∙ ap (λ (es : List ServedRequest). began ++ moments_of es) t.history_is
          ∙ ap (λ (ts : List ℕ). began ++ ts) (map-append (λ (e : ServedRequest). e.moment) (map taking_of t.made) (t.last ∷ []))
          ∙ ap (λ (ts : List ℕ). began ++ (ts ++ t.last.moment ∷ [])) (moments_made t.made);
    }
