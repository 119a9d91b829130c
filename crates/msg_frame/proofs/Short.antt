-- How long messages and rests are.
use Rattle.std.proofs.lemmas.List.Elements.{All-append}
use Rattle.msg_frame.proofs.Terms.{List, None, Option, Some, [], ap, arith, drop, eqb, inl, inr, leb, length, length-append, length-drop, ltb, refl, rules, ℕ, ◌++◌, ◌+◌, ◌-◌, ◌<◌, ◌∷◌, ◌≡◌, ◌≤◌, cases_lt, cond_both, leb-false, ltb-false, ltb-true, take-append-le, All, Framing, Length, Line, Whole, LINE_FEED, MAX_MESSAGE, NUMBER_BYTES, Parts, announced, announced_parts, behind, cut, cut_all, cut_bytes, cut_whole, length_byte, line_byte, little_number, no_message, one_message, then_cut, IsRest, MessagesAreShort}

abbrev pub IsShort : List ℕ → Type 0
IsShort message = length message ≤ MAX_MESSAGE

-- messages that are short, before a rest that a fact holds of
abbrev pub Keeps : (List ℕ → Type 0) → Option Parts → Type 0
Keeps P None = Unit {0}
Keeps P (Some parts) = All IsShort parts.messages × P parts.rest

none_short : All IsShort []
none_short k d h = absurd (omega arith)

one_short : (message : List ℕ) → IsShort message → All IsShort (message ∷ [])
one_short message h = search (rules)

keeps_behind : (P : List ℕ → Type 0) (messages : List (List ℕ)) (parts : Option Parts) → All IsShort messages → Keeps P parts → Keeps P (behind messages parts)
keeps_behind P messages None short h = tt
keeps_behind P messages (Some parts) short h = (All-append IsShort messages parts.messages short h.0, h.1)

keeps_then : (P : List ℕ → Type 0) (parts : Option Parts) (f : List ℕ → Option Parts) → Keeps P parts → ((rest : List ℕ) → P rest → Keeps P (f rest)) → Keeps P (then_cut parts f)
keeps_then P None f h next = tt
keeps_then P (Some parts) f h next = keeps_behind P parts.messages (f parts.rest) h.0 (next parts.rest h.1)

cut_bytes_keeps : (P : List ℕ → Type 0) (add : List ℕ → ℕ → Option Parts) (rest bytes : List ℕ) → ((rest : List ℕ) (byte : ℕ) → P rest → Keeps P (add rest byte)) → P rest → Keeps P (cut_bytes add rest bytes)
unfolding cut_bytes
cut_bytes_keeps P add rest [] step h = (none_short, h)
cut_bytes_keeps P add rest (byte ∷ bytes) step h =
    keeps_then P (add rest byte) (λ more. cut_bytes add more bytes) (step rest byte h) (λ more g. cut_bytes_keeps P add more bytes step g)

line_byte_keeps : (rest : List ℕ) (byte : ℕ) → IsRest Line rest → Keeps (IsRest Line) (line_byte rest byte)
unfolding line_byte
line_byte_keeps rest byte h =
    let bytes : List ℕ = rest ++ byte ∷ [] in
    let longer : length bytes ≡ length rest + 1 = length-append rest (byte ∷ []) in
    cond_both (leb MAX_MESSAGE (length rest)) None _ (Keeps (IsRest Line)) (λ _. tt)
    (λ low. let less : length rest < MAX_MESSAGE = leb-false _ _ low in
    cond_both (eqb byte LINE_FEED) (one_message bytes) (no_message bytes) (Keeps (IsRest Line))
    (λ _. (one_short bytes (omega arith), omega arith))
    (λ _. (none_short, omega arith)))

-- the number before a message stays when bytes come behind it
pub announced-append : (rest bytes : List ℕ) → NUMBER_BYTES ≤ length rest → announced (rest ++ bytes) ≡ announced rest
announced-append rest bytes h = ap little_number (take-append-le NUMBER_BYTES rest bytes h)

-- a message behind its number has at most as many bytes as are missing
last_byte_fits : (rest : List ℕ) (byte : ℕ) → IsRest Length rest → announced (rest ++ byte ∷ []) ≤ MAX_MESSAGE → length (drop NUMBER_BYTES (rest ++ byte ∷ [])) ≤ MAX_MESSAGE
last_byte_fits rest byte h small =
    let bytes : List ℕ = rest ++ byte ∷ [] in
    let longer : length bytes ≡ length rest + 1 = length-append rest (byte ∷ []) in
    let left : length (drop NUMBER_BYTES bytes) ≡ length bytes - NUMBER_BYTES = length-drop NUMBER_BYTES bytes in
    elim (cases_lt (length rest) NUMBER_BYTES) [
      | inl few ↦ omega arith
      | inr number ↦ let same : announced bytes ≡ announced rest = announced-append rest (byte ∷ []) number in omega (arith, h number)
    ]

announced_parts_keeps : (rest : List ℕ) (byte : ℕ) → IsRest Length rest → Keeps (IsRest Length) (announced_parts (rest ++ byte ∷ []))
unfolding announced_parts
announced_parts_keeps rest byte h =
    let bytes : List ℕ = rest ++ byte ∷ [] in
    let longer : length bytes ≡ length rest + 1 = length-append rest (byte ∷ []) in
    cond_both (ltb (length bytes) NUMBER_BYTES) (no_message bytes) _ (Keeps (IsRest Length))
    (λ few. let less : length bytes < NUMBER_BYTES = ltb-true _ _ few in (none_short, λ g. absurd (omega arith)))
    (λ enough. let number : NUMBER_BYTES ≤ length bytes = ltb-false _ _ enough in
    cond_both (ltb MAX_MESSAGE (announced bytes)) None _ (Keeps (IsRest Length)) (λ _. tt)
    (λ low. let small : announced bytes ≤ MAX_MESSAGE = ltb-false _ _ low in
    cond_both (ltb (length bytes) (NUMBER_BYTES + announced bytes)) (no_message bytes) (one_message (drop NUMBER_BYTES bytes)) (Keeps (IsRest Length))
    (λ some. let missing : length bytes < NUMBER_BYTES + announced bytes = ltb-true _ _ some in (none_short, λ g. (small, missing)))
    (λ _. (one_short (drop NUMBER_BYTES bytes) (last_byte_fits rest byte h small), λ g. absurd (omega arith)))))

cut_whole_keeps : (piece : List ℕ) → Keeps (IsRest Whole) (cut_whole piece)
unfolding cut_whole
cut_whole_keeps [] = (none_short, refl)
cut_whole_keeps (byte ∷ bytes) =
    cond_both (ltb MAX_MESSAGE (length (byte ∷ bytes))) None (one_message (byte ∷ bytes)) (Keeps (IsRest Whole)) (λ _. tt)
    (λ low. (one_short (byte ∷ bytes) (ltb-false _ _ low), refl))

-- a piece behind a rest of a message makes short messages, and leaves such a rest
pub cut_keeps : (framing : Framing) (rest piece : List ℕ) → IsRest framing rest → Keeps (IsRest framing) (cut framing rest piece)
unfolding cut
cut_keeps Line rest piece h = cut_bytes_keeps (IsRest Line) line_byte rest piece line_byte_keeps h
cut_keeps Length rest piece h = cut_bytes_keeps (IsRest Length) length_byte rest piece announced_parts_keeps h
cut_keeps Whole rest piece h = cut_whole_keeps piece

cut_all_keeps : (framing : Framing) (rest : List ℕ) (pieces : List (List ℕ)) → IsRest framing rest → Keeps (IsRest framing) (cut_all framing rest pieces)
cut_all_keeps framing rest [] h = (none_short, h)
cut_all_keeps framing rest (piece ∷ pieces) h =
    keeps_then (IsRest framing) (cut framing rest piece) (λ more. cut_all framing more pieces) (cut_keeps framing rest piece h) (λ more g. cut_all_keeps framing more pieces g)

pub rest_is_short : (framing : Framing) (rest : List ℕ) → IsRest framing rest → length rest ≤ MAX_MESSAGE + NUMBER_BYTES
rest_is_short Line rest h = omega (arith, h)
rest_is_short Length rest h = elim (cases_lt (length rest) NUMBER_BYTES) [ inl few ↦ omega arith | inr number ↦ omega (arith, h number) ]
rest_is_short Whole rest h = rw h (omega arith)

pub no_rest : (framing : Framing) → IsRest framing []
no_rest Line = omega arith
no_rest Length = λ h. absurd (omega arith)
no_rest Whole = refl

-- messages and a rest that fit are short
pub at_parts : (framing : Framing) (cut : Option Parts) (parts : Parts) → cut ≡ Some parts → Keeps (IsRest framing) cut → All IsShort parts.messages × IsRest framing parts.rest
at_parts framing cut parts is h = rw is at h

pub messages_are_short : MessagesAreShort
messages_are_short framing pieces parts is =
    let found = at_parts framing (cut_all framing [] pieces) parts is (cut_all_keeps framing [] pieces (no_rest framing)) in
    (found.0, rest_is_short framing parts.rest found.1)
