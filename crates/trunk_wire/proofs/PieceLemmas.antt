-- Frames of output: whole ones and cut ones.
use Rattle.trunk_wire.proofs.Terms.{Bool, List, None, Some, [], ap, append-nil, arith, drop, false, if◌then◌else◌, length, length-append, nat_lt, refl, subst, sym, ℕ, ◌++◌, ◌<◌, ◌∙◌, ◌∷◌, ◌≡◌, lt-ltb, nat_tests, Prefix, Piece, cut_entries, pieces_in, BYTES, FitsTwoBytes, from_two_bytes, high_byte, low_byte, piece_frame, put_bytes, cut_piece, piece_reader, whole_piece}
use Rattle.trunk_wire.proofs.GrammarLemmas.{ended, two_bytes_back}
use Rattle.trunk_wire.proofs.ProgressLemmas.{IsSteady, put_bytes-part, put_bytes-whole}

abbrev piece_of : ℕ → List ℕ → Piece
piece_of conn bytes = record { conn = conn; bytes = bytes; gone = false }

short_payload : (count conn : ℕ) (payload more : List ℕ) → (if nat_lt (length (payload ++ more)) count then None else Some (piece_of conn (payload ++ more))) ≡ None
    → (if nat_lt (length payload) count then None else Some (piece_of conn payload)) ≡ None
short_payload count conn payload more none = grind (arith, nat_tests, length-append {A = ℕ})

piece_steady : (state : Unit {0}) (bytes more : List ℕ) → whole_piece (bytes ++ more) ≡ None → whole_piece bytes ≡ None
piece_steady state [] more none = refl
piece_steady state (_ ∷ []) more none = refl
piece_steady state (_ ∷ _ ∷ []) more none = refl
piece_steady state (_ ∷ _ ∷ _ ∷ []) more none = refl
piece_steady state (_ ∷ _ ∷ _ ∷ _ ∷ []) more none = refl
piece_steady state (kind ∷ conn_low ∷ conn_high ∷ length_low ∷ length_high ∷ payload) more none =
    short_payload (from_two_bytes length_low length_high) (from_two_bytes conn_low conn_high) payload more none

pub pieces_steady : IsSteady piece_reader
pieces_steady = record { fronts = piece_steady }

-- five bytes with a count and a connection, and some payload behind them
abbrev headed : ℕ → ℕ → List ℕ → List ℕ
headed conn count payload = BYTES ∷ low_byte conn ∷ high_byte conn ∷ low_byte count ∷ high_byte count ∷ payload

headed_piece : (conn count : ℕ) (payload : List ℕ) → FitsTwoBytes conn → FitsTwoBytes count
    → whole_piece (headed conn count payload) ≡ (if nat_lt (length payload) count then None else Some (piece_of conn payload))
headed_piece conn count payload conn_few few =
    ap (λ n. if nat_lt (length payload) (from_two_bytes (low_byte count) (high_byte count)) then None else Some (piece_of n payload)) (two_bytes_back conn conn_few)
    ∙ ap (λ n. if nat_lt (length payload) n then None else Some (piece_of conn payload)) (two_bytes_back count few)

headed_short : (conn count : ℕ) (payload : List ℕ) → FitsTwoBytes conn → FitsTwoBytes count → length payload < count → whole_piece (headed conn count payload) ≡ None
headed_short conn count payload conn_few few short =
    headed_piece conn count payload conn_few few ∙ ap (λ (b : Bool). if b then None else Some (piece_of conn payload)) (lt-ltb (length payload) count short)

not_less : (n : ℕ) → nat_lt n n ≡ false
not_less n = grind (arith, nat_tests)

headed_whole : (conn : ℕ) (payload : List ℕ) → FitsTwoBytes conn → FitsTwoBytes (length payload) → whole_piece (headed conn (length payload) payload) ≡ Some (piece_of conn payload)
headed_whole conn payload conn_few few =
    headed_piece conn (length payload) payload conn_few few ∙ ap (λ (b : Bool). if b then None else Some (piece_of conn payload)) (not_less (length payload))

-- a piece's frame is that piece, and nothing but it
pub put_bytes-piece : (conn : ℕ) (bytes : List ℕ) (before : List Piece) → FitsTwoBytes conn → FitsTwoBytes (length bytes)
    → put_bytes piece_reader (record { whole = before; state = tt; part = [] }) (piece_frame conn bytes) ≡ record { whole = before ++ piece_of conn bytes ∷ []; state = tt; part = [] }
put_bytes-piece conn [] before conn_few few =
    put_bytes-whole piece_reader pieces_steady before tt (BYTES ∷ low_byte conn ∷ high_byte conn ∷ 0 ∷ []) 0 (piece_of conn []) refl (headed_whole conn [] conn_few few)
put_bytes-piece conn (byte ∷ bytes) before conn_few few =
    let end = ended byte bytes in
    let all : length end.first < length (byte ∷ bytes) = omega (arith, ap length end.is, length-append end.first (end.last ∷ [])) in
    ap (λ l. put_bytes piece_reader (record { whole = before; state = tt; part = [] }) (headed conn (length (byte ∷ bytes)) l)) end.is
    ∙ put_bytes-whole piece_reader pieces_steady before tt (headed conn (length (byte ∷ bytes)) end.first) end.last (piece_of conn (byte ∷ bytes))
    (headed_short conn (length (byte ∷ bytes)) end.first conn_few few all)
    (ap (λ l. whole_piece (headed conn (length (byte ∷ bytes)) l)) (sym end.is) ∙ headed_whole conn (byte ∷ bytes) conn_few few)

-- what stands behind the pieces before, after a front of a frame: what it has of the payload
abbrev pub WritesCut : List Piece → ℕ → List ℕ → List ℕ → Type 0
WritesCut before conn bytes front = Prefix (drop 5 front) bytes
    × ((put_bytes piece_reader (record { whole = before; state = tt; part = [] }) front).whole ++ cut_piece (put_bytes piece_reader (record { whole = before; state = tt; part = [] }) front).part
    ≡ before ++ pieces_in (cut_entries conn (drop 5 front)))

cut_payload : (conn count : ℕ) (payload : List ℕ) → FitsTwoBytes conn → cut_piece (headed conn count payload) ≡ pieces_in (cut_entries conn payload)
cut_payload conn count [] conn_few = refl
cut_payload conn count (byte ∷ bytes) conn_few = ap (λ n. piece_of n (byte ∷ bytes) ∷ []) (two_bytes_back conn conn_few)

whole_payload : (conn : ℕ) (bytes : List ℕ) → 0 < length bytes → piece_of conn bytes ∷ [] ≡ pieces_in (cut_entries conn bytes)
whole_payload conn [] some = absurd (omega arith)
whole_payload conn (byte ∷ bytes) some = refl

headed_cut : (before : List Piece) (conn : ℕ) (bytes payload rest : List ℕ) → FitsTwoBytes conn → FitsTwoBytes (length bytes) → 0 < length bytes → payload ++ rest ≡ bytes
    → WritesCut before conn bytes (headed conn (length bytes) payload)
headed_cut before conn bytes payload [] conn_few few some whole =
    let same : payload ≡ bytes = sym (append-nil payload) ∙ whole in
    let G : List ℕ → Type 0 = λ l. WritesCut before conn bytes (headed conn (length bytes) l) in
    subst G (sym same) (
      ([], append-nil bytes),
      ap (λ progress. progress.whole ++ cut_piece progress.part) (put_bytes-piece conn bytes before conn_few few)
          ∙ append-nil (before ++ piece_of conn bytes ∷ []) ∙ ap (λ l. before ++ l) (whole_payload conn bytes some),
    )
headed_cut before conn bytes payload (byte ∷ rest) conn_few few some whole =
    let short : length payload < length bytes = omega (arith, ap length whole, length-append payload (byte ∷ rest)) in (
      (byte ∷ rest, whole),
      ap (λ progress. progress.whole ++ cut_piece progress.part)
          (put_bytes-part piece_reader pieces_steady before tt [] (headed conn (length bytes) payload) (headed_short conn (length bytes) payload conn_few few short))
          ∙ ap (λ l. before ++ l) (cut_payload conn (length bytes) payload conn_few),
    )

-- a front of a piece's frame is what it has of the payload
pub put_bytes-cut : (before : List Piece) (conn : ℕ) (bytes front rest : List ℕ) → FitsTwoBytes conn → FitsTwoBytes (length bytes) → 0 < length bytes → front ++ rest ≡ piece_frame conn bytes → WritesCut before conn bytes front
put_bytes-cut before conn bytes [] rest conn_few few some whole = ((bytes, refl), refl)
put_bytes-cut before conn bytes (_ ∷ []) rest conn_few few some whole = ((bytes, refl), refl)
put_bytes-cut before conn bytes (_ ∷ _ ∷ []) rest conn_few few some whole = ((bytes, refl), refl)
put_bytes-cut before conn bytes (_ ∷ _ ∷ _ ∷ []) rest conn_few few some whole = ((bytes, refl), refl)
put_bytes-cut before conn bytes (_ ∷ _ ∷ _ ∷ _ ∷ []) rest conn_few few some whole = ((bytes, refl), refl)
put_bytes-cut before conn bytes (kind ∷ conn_low ∷ conn_high ∷ length_low ∷ length_high ∷ payload) rest conn_few few some whole =
    let behind : payload ++ rest ≡ bytes = cc in
    let same : headed conn (length bytes) payload ≡ kind ∷ conn_low ∷ conn_high ∷ length_low ∷ length_high ∷ payload = cc in
    subst (WritesCut before conn bytes) same (headed_cut before conn bytes payload rest conn_few few some behind)
