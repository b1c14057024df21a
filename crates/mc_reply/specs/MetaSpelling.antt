-- How a reply to a meta command is spelled.
use Rattle.std.specs.Prelude.{ℕ, Bool, true, false, List, [], ◌∷◌, ◌++◌, length, codes, Option, Some, None}
use Rattle.std.specs.Fmt.{decimal}
use Rattle.mc_text.specs.CodedKeys.{coded_of}
use Rattle.mc_request.specs.Faults.{fault_line}
use Rattle.mc_request.specs.Flags.{flag_of}
use Rattle.mc_request.specs.declared.flags.Flag.{Flag}
use Rattle.mc_request.specs.declared.flags.Flag.TheVariants.{Cas, ClientFlags, Key, Opaque, Size, Left}
use Rattle.mc_request.specs.declared.meta.MetaForm.{MetaForm}
use Rattle.mc_reply.specs.declared.replies.Marks.{Marks}
use Rattle.mc_reply.specs.declared.replies.Marks.TheVariants.{Plain, Won, WonStale, StaleSent, Sent}
use Rattle.mc_reply.specs.declared.replies.Shown.{Shown}
use Rattle.mc_reply.specs.declared.replies.Reply.{Reply}
use Rattle.mc_reply.specs.declared.replies.Reply.TheVariants.{NotStored, Exists, NotFound, Miss, Meta, Fault}
use Rattle.mc_reply.specs.Replies.{nothing_shown}

-- a key as the command's line has it: by itself, or in base64: source protocol.txt, "Meta Commands", flag b
abbrev pub key_word : Bool → List ℕ → List ℕ
key_word false key = key
key_word true key = coded_of key

-- a key that is returned, by its word, and what follows: source protocol.txt, "Meta Get", flags k and b
abbrev pub key_flag_onto : Bool → List ℕ → List ℕ → List ℕ
key_flag_onto false word rest = codes " k" ++ (word ++ rest)
key_flag_onto true word rest = codes " k" ++ (word ++ (codes " b" ++ rest))

-- a number after its letter, if it is shown, and what follows: source protocol.txt, "Meta Get", flags c, f and s
abbrev pub number_flag_onto : List ℕ → Option ℕ → List ℕ → List ℕ
number_flag_onto letter None rest = rest
number_flag_onto letter (Some number) rest = letter ++ (decimal number ++ rest)

-- the seconds left, if they are shown, and what follows: source protocol.txt, "Meta Get", flag t
abbrev pub left_onto : Option (Option ℕ) → List ℕ → List ℕ
left_onto None rest = rest
left_onto (Some None) rest = codes " t-1" ++ rest
left_onto (Some (Some seconds)) rest = codes " t" ++ (decimal seconds ++ rest)

-- what a flag returns, and what follows; `word` is that of the key, and `flag` the flag's own
-- source: protocol.txt, "Meta Get", "Meta Set", "Meta Delete", "Meta Arithmetic"
abbrev pub given_onto : Bool → List ℕ → Shown → List ℕ → Option Flag → List ℕ → List ℕ
given_onto coded word shown flag (Some Cas) rest = number_flag_onto (codes " c") shown.cas rest
given_onto coded word shown flag (Some ClientFlags) rest = number_flag_onto (codes " f") shown.flags rest
given_onto coded word shown flag (Some Size) rest = number_flag_onto (codes " s") shown.size rest
given_onto coded word shown flag (Some Left) rest = left_onto shown.left rest
given_onto coded word shown flag (Some Key) rest = key_flag_onto coded word rest
given_onto coded word shown flag (Some Opaque) rest = codes " " ++ (flag ++ rest)
given_onto coded word shown flag other rest = rest

-- what a flag returns by its word, which begins with its letter, and what follows
abbrev pub flag_onto : Bool → List ℕ → Shown → List ℕ → List ℕ → List ℕ
flag_onto coded word shown [] rest = rest
flag_onto coded word shown (letter ∷ token) rest = given_onto coded word shown (letter ∷ token) (flag_of letter) rest

-- what the flag words return, in the order asked, and what follows: source protocol.txt, "Meta Commands"
abbrev pub flags_onto : Bool → List ℕ → Shown → List (List ℕ) → List ℕ → List ℕ
flags_onto coded word shown [] rest = rest
flags_onto coded word shown (flag ∷ flags) rest = flag_onto coded word shown flag (flags_onto coded word shown flags rest)

-- the marks, and what follows: source protocol.txt, "Meta Get", W, X and Z; which of them occur together, and that
-- they are last, is this project's own
abbrev pub marks_onto : Marks → List ℕ → List ℕ
marks_onto Plain rest = rest
marks_onto Won rest = codes " W" ++ rest
marks_onto WonStale rest = codes " W X" ++ rest
marks_onto StaleSent rest = codes " X Z" ++ rest
marks_onto Sent rest = codes " Z" ++ rest

-- a reply by the flag words and the word of the key; what is no reply to a meta command has no spelling
-- source: protocol.txt, "Meta Get", "Meta Set", "Meta Delete", "Meta Arithmetic"; that a miss returns no flag, and that
-- other failures return the opaque and the key alone, is this project's own
abbrev pub meta_by : Bool → List ℕ → List (List ℕ) → Reply (List ℕ) → List ℕ
meta_by coded word flags (Meta shown None) =
    codes "HD" ++ flags_onto coded word shown flags (marks_onto shown.marks (codes "\r\n"))
meta_by coded word flags (Meta shown (Some value)) =
    codes "VA " ++ (decimal (length value) ++ flags_onto coded word shown flags (marks_onto shown.marks
    (codes "\r\n" ++ (value ++ codes "\r\n"))))
meta_by coded word flags Miss = codes "EN\r\n"
meta_by coded word flags NotStored = codes "NS" ++ flags_onto coded word nothing_shown flags (codes "\r\n")
meta_by coded word flags Exists = codes "EX" ++ flags_onto coded word nothing_shown flags (codes "\r\n")
meta_by coded word flags NotFound = codes "NF" ++ flags_onto coded word nothing_shown flags (codes "\r\n")
meta_by coded word flags (Fault fault) = fault_line fault
meta_by coded word flags other = []

-- the answer to a meta command on a key
abbrev pub meta_line : MetaForm (List (List ℕ)) → List ℕ → Reply (List ℕ) → List ℕ
meta_line form key reply = meta_by form.coded (key_word form.coded key) form.flags reply

-- the flags of a canonical spelling: neither the key nor an opaque is returned
-- source: this project's own
abbrev pub canonical_flags : List (List ℕ)
canonical_flags = codes "c" ∷ codes "f" ∷ codes "s" ∷ codes "t" ∷ []

-- the canonical spelling of a reply to a meta command
abbrev pub meta_spelling : Reply (List ℕ) → List ℕ
meta_spelling reply = meta_by false [] canonical_flags reply
