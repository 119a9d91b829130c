-- What a line is read as. A line tells some values by its places, whatever stands there; it is of its form exactly where they are
-- in their ranges and it is what is written of them.
use Rattle.std.specs.Prelude.{ℕ, ◌+◌, ◌-◌, ◌*◌, ◌^◌, Bool, true, false, not, ◌&&◌, ◌||◌, List, [], ◌∷◌, length, take, drop, Option, Some, None, is_some, slice_index, nat_le, nat_lt, if◌then◌else◌, ◌==◌}
use Rattle.msg_frame.specs.declared.framing.Framing.TheVariants as framing
use Rattle.text_lines.specs.Written.{if_written}
use Rattle.schedule_file.specs.Terms.{MAX_ITEMS, Ask, Calloc, Malloc, Realloc, is_calloc, replaced, Framing, behind_digits, first_number, number_from, second_number, Finish, Head, Line, MAX_WINDOW, VERSION}
use Rattle.schedule_file.specs.Lines.{head_line, line_text, end_line}

-- the number that a lower-case hexadecimal digit stands for
abbrev pub hex_value : ℕ → ℕ
hex_value byte =
    if nat_le 48 byte && nat_le byte 57 then byte - 48 else
    if nat_le 97 byte && nat_le byte 102 then byte - 87 else
    0

-- the number of some hexadecimal digits, which stand behind others of this number
abbrev pub hex_from : ℕ → List ℕ → ℕ
hex_from number [] = number
hex_from number (digit ∷ digits) = hex_from (16 * number + hex_value digit) digits

-- ---- the first line

-- the framing, by the second letter of its name
abbrev pub frame_told : List ℕ → Framing
frame_told behind = if slice_index behind 8 == 105 then framing.Line else if slice_index behind 8 == 101 then framing.Length else framing.Whole

-- what stands behind the version, and behind ` window `
abbrev pub window_part : List ℕ → List ℕ
window_part line = drop 8 (behind_digits (drop 10 line))

abbrev pub head_told : List ℕ → Head
head_told line =
    record { version = number_from 0 (drop 10 line); window = number_from 0 (window_part line); frame = frame_told (behind_digits (window_part line)) }

abbrev pub is_head : Head → Bool
is_head head = (nat_le 1 head.version && nat_le head.version VERSION) && (nat_le 1 head.window && nat_le head.window MAX_WINDOW)

abbrev pub written_head : Head → List ℕ
written_head head = head_line head.version head.window head.frame

unfoldable pub head_of : List ℕ → Option Head
head_of line = if_written is_head written_head (head_told line) line

-- ---- an answer of the allocator

-- the number of eight hexadecimal digits at a place, 0 where so many bytes don't stand there
abbrev pub hex_at : ℕ → List ℕ → ℕ
hex_at place line = if nat_lt (length (drop place line)) 8 then 0 else hex_from 0 (take 8 (drop place line))

-- what was asked, by the letter in front
abbrev pub ask_told : List ℕ → Ask
ask_told line =
    if slice_index line 0 == 109 then Malloc (hex_at 13 line) else
    if slice_index line 0 == 99 then Calloc (hex_at 13 line) (hex_at 22 line) else
    Realloc (hex_at 13 line) (hex_at 22 line)

abbrev pub asked_told : ℕ → List ℕ → Option Ask
asked_told version line = if version == 1 then None else Some (ask_told line)

abbrev pub line_told : ℕ → List ℕ → Line
line_told version line = record { ask = asked_told version line; at = hex_at 2 line; zeroed = slice_index line 11 == 122; carried = hex_at 31 line }

abbrev pub is_ask : Ask → Bool
is_ask (Malloc size) = nat_lt size (2 ^ 32)
is_ask (Calloc count size) = nat_lt count (2 ^ 32) && nat_lt size (2 ^ 32)
is_ask (Realloc old size) = nat_lt old (2 ^ 32) && nat_lt size (2 ^ 32)

abbrev pub is_ask_of : ℕ → Option Ask → Bool
is_ask_of version None = version == 1
is_ask_of version (Some ask) = (version == 2) && is_ask ask

abbrev pub was_calloc : Option Ask → Bool
was_calloc None = false
was_calloc (Some ask) = is_calloc ask

-- null isn't zeroed, and a block that calloc asked for is
abbrev pub is_marked : Bool → ℕ → Bool → Bool
is_marked calloc address zeroed = if address == 0 then not zeroed else zeroed || not calloc

abbrev pub was_replacing : Option Ask → Bool
was_replacing None = false
was_replacing (Some ask) = is_some (replaced ask)

-- bytes are carried only to a block that stands in place of another one
abbrev pub is_carrying : Bool → ℕ → ℕ → Bool
is_carrying replacing address carried = if carried == 0 then true else nat_lt carried (2 ^ 32) && (not (address == 0) && replacing)

abbrev pub is_answer : ℕ → Line → Bool
is_answer version line =
    is_ask_of version line.ask
    && (nat_lt line.at (2 ^ 32) && (is_marked (was_calloc line.ask) line.at line.zeroed && is_carrying (was_replacing line.ask) line.at line.carried))

unfoldable pub answer_of : ℕ → List ℕ → Option Line
answer_of version line = if_written (is_answer version) line_text (line_told version line) line

-- ---- the last line

abbrev pub end_told : List ℕ → Finish
end_told line = record { steps = first_number (drop 4 line); taken = second_number (drop 4 line) }

abbrev pub is_end : Finish → Bool
is_end finish = nat_lt finish.steps (2 ^ 63) && nat_le finish.taken MAX_ITEMS

abbrev pub written_end : Finish → List ℕ
written_end finish = end_line finish.steps finish.taken

unfoldable pub end_of : List ℕ → Option Finish
end_of line = if_written is_end written_end (end_told line) line
