-- The grammar of the trunk: whole frames, cut ones and refused ones.
use Rattle.links.specs.declared.journal.LinkEvent.TheVariants as event
use Rattle.trunk_wire.proofs.Terms.{Bool, List, None, Option, Some, [], ap, append-nil, arith, false, if◌then◌else◌, length, length-append, nat_lt, not, refl, subst, sym, take, true, ℕ, ◌&&◌, ◌++◌, ◌<◌, ◌==◌, ◌∙◌, ◌∷◌, ◌≡◌, take-append_seam, eqb-true, lt-ltb, ltb-true, nat_tests, nil_from_length, CONNECTIONS, LinkEvent, IsInOrder, Open, Phases, Unopened, phases_after, Header, BYTES, CLOSE, OPEN, SETTLE, FitsTwoBytes, IsFrame, IsFrameOf, frame, from_two_bytes, header_bytes, header_of, high_byte, low_byte, Bad, Part, Whole, event_of, front, front_accepted, front_behind, front_by, header_refusal, is_extra, is_known, is_not_open, is_reopened, put_bytes, event_reader, whole_event}
use Rattle.trunk_wire.proofs.ProgressLemmas.{IsSteady, put_bytes-whole}

-- behind an accepted header, a payload that is too short with more bytes is too short without them
short_front : (header : Header) (payload more : List ℕ) → whole_event (front_accepted header (payload ++ more)) ≡ None → whole_event (front_accepted header payload) ≡ None
short_front header payload more none = grind (arith, nat_tests, length-append {A = ℕ})

by_refusal : (refusal : Option ℕ) (header : Header) (payload more : List ℕ) → whole_event (front_by refusal (front_accepted header (payload ++ more))) ≡ None
    → whole_event (front_by refusal (front_accepted header payload)) ≡ None
by_refusal None header payload more none = short_front header payload more none
by_refusal (Some kind) header payload more none = refl

front_steady : (phases : Phases) (bytes more : List ℕ) → whole_event (front phases (bytes ++ more)) ≡ None → whole_event (front phases bytes) ≡ None
front_steady phases [] more none = refl
front_steady phases (_ ∷ []) more none = refl
front_steady phases (_ ∷ _ ∷ []) more none = refl
front_steady phases (_ ∷ _ ∷ _ ∷ []) more none = refl
front_steady phases (_ ∷ _ ∷ _ ∷ _ ∷ []) more none = refl
front_steady phases (kind ∷ conn_low ∷ conn_high ∷ length_low ∷ length_high ∷ payload) more none =
    by_refusal (header_refusal phases (header_of kind conn_low conn_high length_low length_high)) (header_of kind conn_low conn_high length_low length_high) payload more none

pub events_steady : IsSteady event_reader
events_steady = record { fronts = front_steady }

-- a refused header is refused whatever follows it
bad_by : (refusal : Option ℕ) (kind : ℕ) (header : Header) (payload more : List ℕ) → front_by refusal (front_accepted header payload) ≡ Bad kind
    → front_by refusal (front_accepted header (payload ++ more)) ≡ Bad kind
bad_by None kind header payload more bad = not_bad (nat_lt (length payload) header.length) bad
  where
    not_bad : (short : Bool) → (if short then Part else Whole (event_of header (take header.length payload))) ≡ Bad kind → front_accepted header (payload ++ more) ≡ Bad kind
    not_bad true bad = cc
    not_bad false bad = cc
bad_by (Some other) kind header payload more bad = bad

pub front-bad : (phases : Phases) (bytes more : List ℕ) (kind : ℕ) → front phases bytes ≡ Bad kind → front phases (bytes ++ more) ≡ Bad kind
front-bad phases [] more kind bad = cc
front-bad phases (_ ∷ []) more kind bad = cc
front-bad phases (_ ∷ _ ∷ []) more kind bad = cc
front-bad phases (_ ∷ _ ∷ _ ∷ []) more kind bad = cc
front-bad phases (_ ∷ _ ∷ _ ∷ _ ∷ []) more kind bad = cc
front-bad phases (number ∷ conn_low ∷ conn_high ∷ length_low ∷ length_high ∷ payload) more kind bad =
    bad_by (header_refusal phases (header_of number conn_low conn_high length_low length_high)) kind (header_of number conn_low conn_high length_low length_high) payload more bad

-- a number is that of its two bytes
pub two_bytes_back : (n : ℕ) → FitsTwoBytes n → from_two_bytes (low_byte n) (high_byte n) ≡ n
two_bytes_back n few = omega arith

-- a header that is read back is itself
pub front-header : (phases : Phases) (header : Header) (payload : List ℕ) → FitsTwoBytes header.conn → FitsTwoBytes header.length
    → front phases (header_bytes header ++ payload) ≡ front_behind phases header payload
front-header phases header payload conn_few few =
    ap (λ conn. front_behind phases (record { kind = header.kind; conn = conn; length = from_two_bytes (low_byte header.length) (high_byte header.length) }) payload) (two_bytes_back header.conn conn_few)
    ∙ ap (λ length. front_behind phases (record { kind = header.kind; conn = header.conn; length = length }) payload) (two_bytes_back header.length few)

-- a header that isn't refused passes each test
pub record Passes (phases : Phases) (header : Header) : Type 0 where
  pub known : is_known header ≡ true
  pub below : nat_lt header.conn CONNECTIONS ≡ true
  pub no_extra : is_extra header ≡ false
  pub not_reopened : is_reopened phases header ≡ false
  pub open_now : is_not_open phases header ≡ false

abbrev by_tests : Bool → Bool → Bool → Bool → Bool → Option ℕ
by_tests a b c d e = if not a then Some 1 else if not b then Some 2 else if c then Some 6 else if d then Some 3 else if e then Some 4 else None

five_tests : (a b c d e : Bool) → by_tests a b c d e ≡ None → (a ≡ true) × (b ≡ true) × (c ≡ false) × (d ≡ false) × (e ≡ false)
five_tests false b c d e none = cc
five_tests true false c d e none = cc
five_tests true true true d e none = cc
five_tests true true false true e none = cc
five_tests true true false false true none = cc
five_tests true true false false false none = (refl, refl, refl, refl, refl)

pub passes_all : (phases : Phases) (header : Header) → header_refusal phases header ≡ None → Passes phases header
passes_all phases header none =
    let all = five_tests (is_known header) (nat_lt header.conn CONNECTIONS) (is_extra header) (is_reopened phases header) (is_not_open phases header) none in
    record { known = all.0; below = all.1; no_extra = all.2; not_reopened = all.3; open_now = all.4 }

passed : (phases : Phases) (header : Header) → Passes phases header → header_refusal phases header ≡ None
passed phases header all = rw (all.known, all.below, all.no_extra, all.not_reopened, all.open_now) refl

last_kind : (n : ℕ) → (not (nat_lt n OPEN) && not (nat_lt SETTLE n)) ≡ true → (n == OPEN) ≡ false → (n == BYTES) ≡ false → (n == CLOSE) ≡ false → n ≡ SETTLE
last_kind n known not_open not_bytes not_close = grind (arith, nat_tests)

-- a frame without payload that passes has none
no_payload : (phases : Phases) (header : Header) (payload : List ℕ) → Passes phases header → (header.kind == BYTES) ≡ false → length payload ≡ header.length → payload ≡ []
no_payload phases header payload all other counted = nil_from_length payload (counted ∙ zero_length (header.kind == BYTES) (header.length == 0) other all.no_extra refl)
  where
    zero_length : (a b : Bool) → a ≡ false → (not a && not b) ≡ false → (header.length == 0) ≡ b → header.length ≡ 0
    zero_length true b other none is = cc
    zero_length false true other none is = eqb-true header.length 0 is
    zero_length false false other none is = cc

bytes_of_frame : (header : Header) (kind : ℕ) (payload : List ℕ) → header.kind ≡ kind → length payload ≡ header.length → header_bytes header ++ payload ≡ frame kind header.conn payload
bytes_of_frame header kind payload same counted =
    ap (λ n. header_bytes (record { kind = n; conn = header.conn; length = header.length }) ++ payload) same
    ∙ ap (λ n. header_bytes (record { kind = kind; conn = header.conn; length = n }) ++ payload) (sym counted)

is_frame : (phases : Phases) (header : Header) (kind : ℕ) (payload : List ℕ) → Passes phases header → FitsTwoBytes header.length → header.kind ≡ kind → length payload ≡ header.length
    → IsFrame kind header.conn payload (header_bytes header ++ payload)
is_frame phases header kind payload all few same counted = record {
  is = bytes_of_frame header kind payload same counted;
  below = ltb-true header.conn CONNECTIONS all.below;
  few = omega (arith, counted);
}

is_frame_without : (phases : Phases) (header : Header) (kind : ℕ) (payload : List ℕ) → Passes phases header → FitsTwoBytes header.length → (header.kind == BYTES) ≡ false → header.kind ≡ kind → length payload ≡ header.length
    → IsFrame kind header.conn [] (header_bytes header ++ payload)
is_frame_without phases header kind payload all few other same counted =
    let none : payload ≡ [] = no_payload phases header payload all other counted in
    let P : List ℕ → Type 0 = λ l. IsFrame kind header.conn l (header_bytes header ++ payload) in
    subst P none (is_frame phases header kind payload all few same counted)

not_other : (n kind other : ℕ) → (n == kind) ≡ true → (kind == other) ≡ false → (n == other) ≡ false
not_other n kind other is differs = rw (eqb-true n kind is) differs

-- a header that passes, with its whole payload, is the frame of its event
pub frame-passes : (phases : Phases) (header : Header) (payload : List ℕ) → Passes phases header → FitsTwoBytes header.length → length payload ≡ header.length
    → IsFrameOf (event_of header payload) (header_bytes header ++ payload)
frame-passes phases header payload all few counted = by_kind (header.kind == OPEN) (header.kind == BYTES) (header.kind == CLOSE) refl refl refl
  where
    by_kind : (opens bytes closes : Bool) → (header.kind == OPEN) ≡ opens → (header.kind == BYTES) ≡ bytes → (header.kind == CLOSE) ≡ closes
        → IsFrameOf (if opens then event.Opens header.conn else if bytes then event.Piece header.conn payload else if closes then event.Closes header.conn else event.Settles) (header_bytes header ++ payload)
    by_kind true bytes closes is_open_kind is_bytes is_close =
        is_frame_without phases header OPEN payload all few (not_other header.kind OPEN BYTES is_open_kind refl) (eqb-true header.kind OPEN is_open_kind) counted
    by_kind false true closes is_open_kind is_bytes is_close = is_frame phases header BYTES payload all few (eqb-true header.kind BYTES is_bytes) counted
    by_kind false false true is_open_kind is_bytes is_close =
        is_frame_without phases header CLOSE payload all few is_bytes (eqb-true header.kind CLOSE is_close) counted
    by_kind false false false is_open_kind is_bytes is_close =
        (header.conn, is_frame_without phases header SETTLE payload all few is_bytes (last_kind header.kind all.known is_open_kind is_bytes is_close) counted)

-- the header of an event's frame passes where the event is in order
passes_kind : (phases : Phases) (kind conn count : ℕ) → nat_lt conn CONNECTIONS ≡ true → is_known (record { kind = kind; conn = conn; length = count }) ≡ true
    → is_extra (record { kind = kind; conn = conn; length = count }) ≡ false → is_reopened phases (record { kind = kind; conn = conn; length = count }) ≡ false
    → is_not_open phases (record { kind = kind; conn = conn; length = count }) ≡ false → header_refusal phases (record { kind = kind; conn = conn; length = count }) ≡ None
passes_kind phases kind conn count below known no_extra not_reopened open_now =
    passed phases (record { kind = kind; conn = conn; length = count }) (record { known = known; below = below; no_extra = no_extra; not_reopened = not_reopened; open_now = open_now })

passes_opens : (phases : Phases) (conn : ℕ) → conn < CONNECTIONS → phases conn ≡ Unopened → header_refusal phases (record { kind = OPEN; conn = conn; length = 0 }) ≡ None
passes_opens phases conn below unopened = passes_kind phases OPEN conn 0 (lt-ltb conn CONNECTIONS below) refl refl (rw unopened refl) refl

passes_bytes : (phases : Phases) (conn count : ℕ) → conn < CONNECTIONS → phases conn ≡ Open → header_refusal phases (record { kind = BYTES; conn = conn; length = count }) ≡ None
passes_bytes phases conn count below open_now = passes_kind phases BYTES conn count (lt-ltb conn CONNECTIONS below) refl refl refl (rw open_now refl)

passes_closes : (phases : Phases) (conn : ℕ) → conn < CONNECTIONS → phases conn ≡ Open → header_refusal phases (record { kind = CLOSE; conn = conn; length = 0 }) ≡ None
passes_closes phases conn below open_now = passes_kind phases CLOSE conn 0 (lt-ltb conn CONNECTIONS below) refl refl refl (rw open_now refl)

passes_settles : (phases : Phases) (conn : ℕ) → conn < CONNECTIONS → header_refusal phases (record { kind = SETTLE; conn = conn; length = 0 }) ≡ None
passes_settles phases conn below = passes_kind phases SETTLE conn 0 (lt-ltb conn CONNECTIONS below) refl refl refl refl

-- bytes are a frame that its header lets pass
pub record IsAccepted (phases : Phases) (event : LinkEvent) (bytes : List ℕ) : Type 0 where
  pub header : Header
  pub payload : List ℕ
  pub bytes_are : bytes ≡ header_bytes header ++ payload
  pub conn_few : FitsTwoBytes header.conn
  pub few : FitsTwoBytes header.length
  pub counted : length payload ≡ header.length
  pub passes : header_refusal phases header ≡ None
  pub event_is : event ≡ event_of header payload

accepted_frame : (phases : Phases) (event : LinkEvent) (kind conn : ℕ) (payload bytes : List ℕ) → IsFrame kind conn payload bytes
    → header_refusal phases (record { kind = kind; conn = conn; length = length payload }) ≡ None → event ≡ event_of (record { kind = kind; conn = conn; length = length payload }) payload
    → IsAccepted phases event bytes
accepted_frame phases event kind conn payload bytes is passes same = record {
  header = record { kind = kind; conn = conn; length = length payload };
  payload = payload;
  bytes_are = is.is;
  conn_few = omega (arith, is.below);
  few = omega (arith, is.few);
  counted = refl;
  passes = passes;
  event_is = same;
}

pub frame-accepted : (phases : Phases) (event : LinkEvent) (bytes : List ℕ) → IsFrameOf event bytes → IsInOrder phases event → IsAccepted phases event bytes
frame-accepted phases (event.Opens conn) bytes is order = accepted_frame phases _ OPEN conn [] bytes is (passes_opens phases conn order.0 order.1) refl
frame-accepted phases (event.Piece conn payload) bytes is order = accepted_frame phases _ BYTES conn payload bytes is (passes_bytes phases conn (length payload) order.0 order.1) refl
frame-accepted phases (event.Closes conn) bytes is order = accepted_frame phases _ CLOSE conn [] bytes is (passes_closes phases conn order.0 order.1) refl
frame-accepted phases event.Settles bytes is order = accepted_frame phases _ SETTLE is.0 [] bytes is.1 (passes_settles phases is.0 is.1.below) refl
frame-accepted phases event.Ends bytes is order = absurd is

whole_behind : (phases : Phases) (header : Header) (payload more : List ℕ) → header_refusal phases header ≡ None → length payload ≡ header.length
    → front_behind phases header (payload ++ more) ≡ Whole (event_of header payload)
whole_behind phases header payload more passes counted =
    ap (λ refusal. front_by refusal (front_accepted header (payload ++ more))) passes ∙ long_enough (nat_lt (length (payload ++ more)) header.length) refl
  where
    taken : take header.length (payload ++ more) ≡ payload
    taken = ap (λ n. take n (payload ++ more)) (sym counted) ∙ take-append_seam payload more

    long_enough : (short : Bool) → nat_lt (length (payload ++ more)) header.length ≡ short
        → (if short then Part else Whole (event_of header (take header.length (payload ++ more)))) ≡ Whole (event_of header payload)
    long_enough true is =
        let less : length (payload ++ more) < header.length = ltb-true (length (payload ++ more)) header.length is in
        absurd (omega (arith, length-append payload more))
    long_enough false is = ap (λ l. Whole (event_of header l)) taken

-- a frame comes whole, with whatever is behind it
pub front-accepted : (phases : Phases) (event : LinkEvent) (bytes more : List ℕ) → IsAccepted phases event bytes → front phases (bytes ++ more) ≡ Whole event
front-accepted phases event bytes more is =
    ap (λ l. front phases (l ++ more)) is.bytes_are
    ∙ front-header phases is.header (is.payload ++ more) is.conn_few is.few
    ∙ whole_behind phases is.header is.payload more is.passes is.counted
    ∙ ap Whole (sym is.event_is)

cut_behind : (phases : Phases) (header : Header) (payload : List ℕ) → header_refusal phases header ≡ None → length payload < header.length → front_behind phases header payload ≡ Part
cut_behind phases header payload passes short =
    ap (λ refusal. front_by refusal (front_accepted header payload)) passes
    ∙ ap (λ (b : Bool). if b then Part else Whole (event_of header (take header.length payload))) (lt-ltb (length payload) header.length short)

-- a frame whose payload is cut short is a part
pub front-cut : (phases : Phases) (header : Header) (payload : List ℕ) → FitsTwoBytes header.conn → FitsTwoBytes header.length → header_refusal phases header ≡ None → length payload < header.length
    → front phases (header_bytes header ++ payload) ≡ Part
front-cut phases header payload conn_few few passes short = front-header phases header payload conn_few few ∙ cut_behind phases header payload passes short

pub front-refused : (phases : Phases) (header : Header) (kind : ℕ) → FitsTwoBytes header.conn → FitsTwoBytes header.length → header_refusal phases header ≡ Some kind → front phases (header_bytes header ++ []) ≡ Bad kind
front-refused phases header kind conn_few few refused =
    front-header phases header [] conn_few few ∙ ap (λ refusal. front_by refusal (front_accepted header [])) refused

-- the last element of a list with one
pub record Ended {X : Type 0} (list : List X) : Type 0 where
  pub first : List X
  pub last : X
  pub is : list ≡ first ++ last ∷ []

pub ended : {X : Type 0} (x : X) (xs : List X) → Ended (x ∷ xs)
ended x [] = record { first = []; last = x; is = refl }
ended x (y ∷ ys) = let rest = ended y ys in record { first = x ∷ rest.first; last = rest.last; is = ap (λ l. x ∷ l) rest.is }

-- the frame of an event brings that event, and nothing but it
read_accepted : (phases : Phases) (header : Header) (payload : List ℕ) (before : List LinkEvent) → FitsTwoBytes header.conn → FitsTwoBytes header.length → header_refusal phases header ≡ None → length payload ≡ header.length
    → put_bytes event_reader (record { whole = before; state = phases; part = [] }) (header_bytes header ++ payload)
    ≡ record { whole = before ++ event_of header payload ∷ []; state = phases_after (event_of header payload) phases; part = [] }
read_accepted phases header [] before conn_few few passes counted =
    put_bytes-whole event_reader events_steady before phases
    (header.kind ∷ low_byte header.conn ∷ high_byte header.conn ∷ low_byte header.length ∷ []) (high_byte header.length) (event_of header []) refl
    (ap whole_event (front-header phases header [] conn_few few ∙ whole_behind phases header [] [] passes counted))
read_accepted phases header (byte ∷ bytes) before conn_few few passes counted =
    let end = ended byte bytes in
    let all : length end.first < header.length = omega (arith, ap length end.is, length-append end.first (end.last ∷ []), counted) in
    let whole_end : front phases ((header_bytes header ++ end.first) ++ end.last ∷ []) ≡ Whole (event_of header (byte ∷ bytes)) =
    ap (λ l. front phases (header_bytes header ++ l)) (sym end.is)
    ∙ ap (λ l. front phases (header_bytes header ++ l)) (sym (append-nil (byte ∷ bytes)))
    ∙ front-header phases header ((byte ∷ bytes) ++ []) conn_few few ∙ whole_behind phases header (byte ∷ bytes) [] passes counted in
    ap (λ l. put_bytes event_reader (record { whole = before; state = phases; part = [] }) (header_bytes header ++ l)) end.is
    ∙ put_bytes-whole event_reader events_steady before phases (header_bytes header ++ end.first) end.last (event_of header (byte ∷ bytes))
    (ap whole_event (front-cut phases header end.first conn_few few passes all)) (ap whole_event whole_end)

pub put_bytes-frame : (phases : Phases) (event : LinkEvent) (bytes : List ℕ) (before : List LinkEvent) → IsAccepted phases event bytes
    → put_bytes event_reader (record { whole = before; state = phases; part = [] }) bytes ≡ record { whole = before ++ event ∷ []; state = phases_after event phases; part = [] }
put_bytes-frame phases event bytes before is =
    ap (λ l. put_bytes event_reader (record { whole = before; state = phases; part = [] }) l) is.bytes_are
    ∙ read_accepted phases is.header is.payload before is.conn_few is.few is.passes is.counted
    ∙ ap (λ e. record { whole = before ++ e ∷ []; state = phases_after e phases; part = [] }) (sym is.event_is)
