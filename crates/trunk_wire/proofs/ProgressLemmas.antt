-- Bytes that are read one after another.
use Rattle.trunk_wire.proofs.Terms.{List, None, Some, [], ap, append-nil, append_assoc, refl, sym, ℕ, ◌++◌, ◌∙◌, ◌∷◌, ◌≡◌, Progress, Reader, put_byte, put_bytes, put_part}

-- what isn't whole with more bytes behind it isn't whole without them
pub record IsSteady {S X : Type 0} (reader : Reader S X) : Type 0 where
  pub fronts : (state : S) (front more : List ℕ) → reader.whole_of state (front ++ more) ≡ None → reader.whole_of state front ≡ None

pub put_bytes-append : {S X : Type 0} (reader : Reader S X) (progress : Progress S X) (bytes more : List ℕ)
    → put_bytes reader progress (bytes ++ more) ≡ put_bytes reader (put_bytes reader progress bytes) more
put_bytes-append reader progress [] more = refl
put_bytes-append reader progress (byte ∷ bytes) more = put_bytes-append reader (put_byte reader progress byte) bytes more

-- a part that is read on stays a part
pub put_bytes-part : {S X : Type 0} (reader : Reader S X) → IsSteady reader → (whole : List X) (state : S) (part bytes : List ℕ) → reader.whole_of state (part ++ bytes) ≡ None
    → put_bytes reader (record { whole = whole; state = state; part = part }) bytes ≡ record { whole = whole; state = state; part = part ++ bytes }
put_bytes-part reader steady whole state part [] none = ap (λ l. record { whole = whole; state = state; part = l }) (sym (append-nil part))
put_bytes-part {S} {X} reader steady whole state part (byte ∷ bytes) none =
    let longer : reader.whole_of state ((part ++ byte ∷ []) ++ bytes) ≡ None = rw append_assoc none in
    let here : reader.whole_of state (part ++ byte ∷ []) ≡ None = steady.fronts state (part ++ byte ∷ []) bytes longer in
    ap (λ found. put_bytes reader (put_part reader (record { whole = whole; state = state; part = part }) (part ++ byte ∷ []) found) bytes) here
    ∙ put_bytes-part reader steady whole state (part ++ byte ∷ []) bytes longer
    ∙ ap (λ l. record { whole = whole; state = state; part = l }) (append_assoc part (byte ∷ []) bytes)

-- a part whose last byte makes it whole
pub put_bytes-whole : {S X : Type 0} (reader : Reader S X) → IsSteady reader → (whole : List X) (state : S) (part : List ℕ) (byte : ℕ) (one : X) → reader.whole_of state part ≡ None
    → reader.whole_of state (part ++ byte ∷ []) ≡ Some one
    → put_bytes reader (record { whole = whole; state = state; part = [] }) (part ++ byte ∷ []) ≡ record { whole = whole ++ one ∷ []; state = reader.after one state; part = [] }
put_bytes-whole reader steady whole state part byte one none is_whole =
    put_bytes-append reader _ part (byte ∷ [])
    ∙ ap (λ progress. put_byte reader progress byte) (put_bytes-part reader steady whole state [] part none)
    ∙ ap (λ found. put_part reader (record { whole = whole; state = state; part = part }) (part ++ byte ∷ []) found) is_whole
