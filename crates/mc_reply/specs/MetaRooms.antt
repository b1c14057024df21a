-- How much room the answer to a meta command needs.
use Rattle.std.specs.Prelude.{ℕ, ◌+◌, max, List, [], ◌∷◌, length, Option, Some}
use Rattle.mc_request.specs.Flags.{flag_of}
use Rattle.mc_request.specs.declared.flags.Flag.{Flag}
use Rattle.mc_request.specs.declared.flags.Flag.TheVariants.{Cas, ClientFlags, Key, Opaque, Size, Left}
use Rattle.mc_request.specs.declared.parts.Request.{Request}
use Rattle.mc_request.specs.declared.parts.Request.TheVariants.{Meta}
use Rattle.mc_reply.specs.declared.answers.TheConstants.{PART_ROOM}
use Rattle.mc_reply.specs.declared.flag_appends.TheConstants.{NUMBER_FLAG_ROOM, KEY_FLAG_ROOM}
use Rattle.mc_reply.specs.declared.meta_appends.TheConstants.{BESIDE_FLAGS_ROOM}

-- how many bytes a flag returns at most, by how many its word has
abbrev pub given_room : ℕ → Option Flag → ℕ
given_room len (Some Cas) = NUMBER_FLAG_ROOM
given_room len (Some ClientFlags) = NUMBER_FLAG_ROOM
given_room len (Some Size) = NUMBER_FLAG_ROOM
given_room len (Some Left) = NUMBER_FLAG_ROOM
given_room len (Some Key) = KEY_FLAG_ROOM
given_room len (Some Opaque) = len + 1
given_room len other = 0

abbrev pub word_room : List ℕ → ℕ
word_room [] = 0
word_room (letter ∷ token) = given_room (length (letter ∷ token)) (flag_of letter)

-- how many bytes flag words return at most
abbrev pub flags_room : List (List ℕ) → ℕ
flags_room [] = 0
flags_room (flag ∷ flags) = word_room flag + flags_room flags

-- how many bytes one reply adds to a request's answer at most, beside the value that it shows. If the flag words of a
-- meta command are those that a reader takes, this too is PART_ROOM
abbrev pub part_room : Request → ℕ
part_room (Meta command form) = max PART_ROOM (flags_room form.flags + BESIDE_FLAGS_ROOM)
part_room other = PART_ROOM
