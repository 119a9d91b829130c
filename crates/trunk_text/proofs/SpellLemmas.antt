-- Frames of lines that become lines again.
use Rattle.std.specs.Prelude.{◌*◌}
use Rattle.trunk_text.proofs.Terms.{List, None, Some, [], ap, append-nil, append_assoc, arith, flat_map, inl, inr, length, length-append, refl, sym, ℕ, ◌++◌, ◌+◌, ◌<◌, ◌∙◌, ◌∷◌, ◌≡◌, ◌⊎◌, All-head, All-tail, All, BYTES, CLOSE, OPEN, SETTLE, two_bytes_back, FitsTwoBytes, frame, from_two_bytes, header_of, high_byte, low_byte, Flaw, Line, Closes, Nothing, Opens, Piece, Settles, Finished, text_of, IsFrameOf, frame_of, Pair, Turned, Frames, framing, IsBadFrame, IsCut, header_flaw, says_of, unframing, FramesAreTaken, IsSound, LinesComeBack, PlainComeBack, Respells, Runs, reframing, respelling, spelling}
use Rattle.trunk_text.proofs.TurnLemmas.{turned_nothing}
use Rattle.trunk_text.proofs.UnframingLemmas.{flaw_back}
use Rattle.trunk_text.proofs.ReturnLemmas.{froms, tos, Each, each_head, each_tail, frames_come_back, turned_cons}
use Rattle.trunk_text.proofs.SoundLemmas.{read_sound}

-- bytes are the frame of what a line says, by its kind
record Framed (says : Line) (bytes : List ℕ) : Type 0 where
  kind : ℕ
  conn : ℕ
  payload : List ℕ
  is : bytes ≡ frame kind conn payload
  narrow : FitsTwoBytes conn
  few : FitsTwoBytes (length payload)
  says_is : says_of kind conn payload ≡ says
  passes : header_flaw (record { kind = kind; conn = conn; length = length payload }) ≡ None

framed_of : (says : Line) (bytes : List ℕ) → IsFrameOf says bytes → Framed says bytes
framed_of (Opens conn) bytes f = record { kind = OPEN; conn = conn; payload = []; is = f.is; narrow = f.narrow; few = f.few; says_is = refl; passes = refl }
framed_of (Piece conn payload) bytes f = record { kind = BYTES; conn = conn; payload = payload; is = f.is; narrow = f.narrow; few = f.few; says_is = refl; passes = refl }
framed_of (Closes conn) bytes f = record { kind = CLOSE; conn = conn; payload = []; is = f.is; narrow = f.narrow; few = f.few; says_is = refl; passes = refl }
framed_of Settles bytes (conn, f) = record { kind = SETTLE; conn = conn; payload = []; is = f.is; narrow = f.narrow; few = f.few; says_is = refl; passes = refl }
framed_of Nothing bytes f = absurd f

frame_is : (says : Line) → IsSound says → (says ≡ Nothing → ⊥) → IsFrameOf says (frame_of says)
frame_is (Opens conn) sound some = record { is = refl; narrow = sound; few = omega arith }
frame_is (Piece conn bytes) sound some = record { is = refl; narrow = sound.0; few = sound.1 }
frame_is (Closes conn) sound some = record { is = refl; narrow = sound; few = omega arith }
frame_is Settles sound some = (0, record { is = refl; narrow = omega arith; few = omega arith })
frame_is Nothing sound some = absurd (some refl)

-- two frames in front of the same bytes are the same
same_cut : (p q x y : List ℕ) → length p ≡ length q → p ++ x ≡ q ++ y → (p ≡ q) × (x ≡ y)
same_cut [] [] x y counted same = (refl, same)
same_cut [] (b ∷ q) x y counted same = absurd (omega arith)
same_cut (a ∷ p) [] x y counted same = absurd (omega arith)
same_cut (a ∷ p) (b ∷ q) x y counted same =
    let rest = same_cut p q x y (omega arith) (cc) in
    let is : p ≡ q = rest.0 in (cc, rest.1)

same_number : (a b : ℕ) → FitsTwoBytes a → FitsTwoBytes b → low_byte a ≡ low_byte b → high_byte a ≡ high_byte b → a ≡ b
same_number a b first second low high = omega arith

frames_cut : (says said : Line) (k l c d : ℕ) (p q x y : List ℕ) → FitsTwoBytes c → FitsTwoBytes d → FitsTwoBytes (length p) → FitsTwoBytes (length q) → says_of k c p ≡ says → says_of l d q ≡ said
    → frame k c p ++ x ≡ frame l d q ++ y → (said ≡ says) × (x ≡ y)
frames_cut says said k l c d p q x y narrow narrow_too few few_too first second same =
    let kinds : k ≡ l = cc in
    let conns : c ≡ d = same_number c d narrow narrow_too (cc) (cc) in
    let counts : length p ≡ length q = same_number (length p) (length q) few few_too (cc) (cc) in
    let cut = same_cut p q x y counts (cc) in
    (sym second ∙ ap (λ n. says_of n d q) (sym kinds) ∙ ap (λ n. says_of k n q) (sym conns) ∙ ap (says_of k c) (sym cut.0) ∙ first, cut.1)

framed_cut : (says said : Line) (a b x y : List ℕ) → Framed says a → Framed said b → a ++ x ≡ b ++ y → (said ≡ says) × (x ≡ y)
framed_cut says said a b x y f g same =
    let heads : frame f.kind f.conn f.payload ++ x ≡ frame g.kind g.conn g.payload ++ y = ap (λ l. l ++ x) (sym f.is) ∙ same ∙ ap (λ l. l ++ y) g.is in
    frames_cut says said f.kind g.kind f.conn g.conn f.payload g.payload x y f.narrow g.narrow f.few g.few f.says_is g.says_is heads

-- no frame stands in front of these bytes
abbrev NoFrame : List ℕ → Type 0
NoFrame tail = (says : Line) (a rest : List ℕ) → Framed says a → a ++ rest ≡ tail → ⊥

spelling_is : (says : Line) → (says ≡ Nothing → ⊥) → spelling says ≡ text_of says ++ 10 ∷ []
spelling_is (Opens conn) some = refl
spelling_is (Piece conn bytes) some = refl
spelling_is (Closes conn) some = refl
spelling_is Settles some = refl
spelling_is Nothing some = absurd (some refl)

says_some : (says : Line) → (says ≡ Nothing) ⊎ (says ≡ Nothing → ⊥)
says_some (Opens conn) = inr (λ same. cc)
says_some (Piece conn bytes) = inr (λ same. cc)
says_some (Closes conn) = inr (λ same. cc)
says_some Settles = inr (λ same. cc)
says_some Nothing = inl refl

-- the frames behind that of a line, and the lines of all
record Behind (says : Line) (frames : List Pair) (rest tail : List ℕ) : Type 0 where
  behind : List Pair
  each : Each unframing behind
  lines : tos frames ≡ spelling says ++ tos behind
  bytes : rest ≡ froms behind ++ tail

behind_by : (says : Line) (frames : List Pair) (rest tail : List ℕ) → (says ≡ Nothing) ⊎ (says ≡ Nothing → ⊥) → IsSound says → Each unframing frames → NoFrame tail → frame_of says ++ rest ≡ froms frames ++ tail
    → Behind says frames rest tail
behind_by says frames rest tail (inl none) sound are stops same = record {
  behind = frames;
  each = are;
  lines = ap (λ l. l ++ tos frames) (sym (ap spelling none));
  bytes = ap (λ l. l ++ rest) (sym (ap frame_of none)) ∙ same;
}
behind_by says [] rest tail (inr some) sound are stops same = absurd (stops says (frame_of says) rest (framed_of says (frame_of says) (frame_is says sound some)) same)
behind_by says (frame ∷ frames) rest tail (inr some) sound are stops same =
    let one = each_head unframing frame frames are in
    let cut = framed_cut says one.0 (frame_of says) frame.from rest (froms frames ++ tail) (framed_of says (frame_of says) (frame_is says sound some)) (framed_of one.0 frame.from one.1)
    (same ∙ append_assoc frame.from (froms frames) tail) in
    record {
      behind = frames;
      each = each_tail unframing frame frames are;
      lines = ap (λ l. l ++ tos frames) (one.2 ∙ ap (λ l. text_of l ++ 10 ∷ []) cut.0 ∙ sym (spelling_is says some));
      bytes = cut.1;
    }

-- lines come back as they are spelled
record Back (lines : List Pair) (more again : List ℕ) : Type 0 where
  spelled : List ℕ
  last : List ℕ
  turned : Turned respelling (froms lines) spelled
  ended : Respells more last
  all : again ≡ spelled ++ last

no_frames : (frames : List Pair) → Each unframing frames → [] ≡ froms frames ++ [] → tos frames ≡ []
no_frames [] are same = refl
no_frames (frame ∷ frames) are same =
    let one = each_head unframing frame frames are in
    let f = framed_of one.0 frame.from one.1 in
    absurd (omega (arith, length-append (frame.from ++ froms frames) [], length-append frame.from (froms frames), ap length f.is, ap length same))

all_back : (lines frames : List Pair) (more out : List ℕ) → Each framing lines → Frames more out → Each unframing frames → NoFrame [] → tos lines ++ out ≡ froms frames ++ [] → Back lines more (tos frames)
all_back [] frames more out fed (says, is, line_is, framed) are stops same =
    let first = behind_by says frames [] [] (says_some says) (read_sound more says line_is) are stops (append-nil (frame_of says) ∙ sym framed ∙ same) in
    record {
      spelled = [];
      last = spelling says;
      turned = turned_nothing respelling;
      ended = (says, is, line_is, refl);
      all = first.lines ∙ ap (λ l. spelling says ++ l) (no_frames first.behind first.each first.bytes) ∙ append-nil (spelling says);
    }
all_back (line ∷ lines) frames more out fed last are stops same =
    let one = each_head framing line lines fed in
    let says = one.2.0 in
    let first = behind_by says frames (tos lines ++ out) [] (says_some says) (read_sound one.0 says one.2.2) are stops
    (ap (λ l. l ++ (tos lines ++ out)) (sym {a = line.to} one.2.3) ∙ sym (append_assoc line.to (tos lines) out) ∙ same) in
    let rest = all_back lines first.behind more out (each_tail framing line lines fed) last first.each stops first.bytes in
    record {
      spelled = spelling says ++ rest.spelled;
      last = rest.last;
      turned = turned_cons respelling (record { from = line.from; to = spelling says }) (froms lines) rest.spelled (one.0, one.1, (says, one.2.1, one.2.2, refl)) rest.turned;
      ended = rest.ended;
      all = first.lines ∙ ap (λ l. spelling says ++ l) rest.all ∙ sym (append_assoc (spelling says) rest.spelled rest.last);
    }

empty_stops : NoFrame []
empty_stops says a rest f same = omega (arith, length-append a rest, ap length f.is, ap length same)

pub lines_come_back : LinesComeBack
lines_come_back lines bytes again left behind (from, to, turned, (more, out, last, ended, (input, output))) (seen, made, framed, (seen_more, made_more, none, seen_ended, (seen_input, seen_output))) =
    let same : tos turned.pairs ++ out ≡ froms framed.pairs ++ [] =
    ap (λ l. l ++ out) (sym turned.to_is) ∙ output ∙ seen_input ∙ ap (λ l. (seen ++ seen_more) ++ l) seen_ended ∙ append-nil (seen ++ seen_more) ∙ ap (λ l. seen ++ l) none.0 ∙ ap (λ l. l ++ []) framed.from_is in
    let back = all_back turned.pairs framed.pairs more out turned.each last framed.each empty_stops same in (
      from,
      back.spelled,
      record { pairs = back.turned.pairs; each = back.turned.each; from_is = turned.from_is ∙ back.turned.from_is; to_is = back.turned.to_is },
      (more, back.last, back.ended, ended, (input, sym back.all ∙ sym framed.to_is ∙ sym (append-nil made) ∙ ap (λ l. made ++ l) (sym none.1) ∙ seen_output)),
    )

-- no frame of a line is refused
header_taken : (kind conn : ℕ) (payload rest : List ℕ) (k cl ch ll lh : ℕ) (left : List ℕ) (flaw : Flaw) → FitsTwoBytes conn → FitsTwoBytes (length payload)
    → header_flaw (record { kind = kind; conn = conn; length = length payload }) ≡ None → header_flaw (header_of k cl ch ll lh) ≡ Some flaw → frame kind conn payload ++ rest ≡ (k ∷ cl ∷ ch ∷ ll ∷ lh ∷ []) ++ left → ⊥
header_taken kind conn payload rest k cl ch ll lh left flaw narrow few passes refused same =
    let a : k ≡ kind = cc in
    let b : cl ≡ low_byte conn = cc in
    let c : ch ≡ high_byte conn = cc in
    let d : ll ≡ low_byte (length payload) = cc in
    let e : lh ≡ high_byte (length payload) = cc in
    let heads : header_of k cl ch ll lh ≡ header_of kind (low_byte conn) (high_byte conn) (low_byte (length payload)) (high_byte (length payload)) = cc in
    let agree : Some flaw ≡ None = sym refused ∙ ap header_flaw heads ∙ flaw_back kind conn (length payload) few ∙ passes in
    cc

cut_taken : (bad : List ℕ) (kind conn : ℕ) (payload rest : List ℕ) → FitsTwoBytes (length payload) → IsCut bad → frame kind conn payload ++ rest ≡ bad → ⊥
cut_taken [] kind conn payload rest few cut same = cc
cut_taken (_ ∷ []) kind conn payload rest few cut same = cc
cut_taken (_ ∷ _ ∷ []) kind conn payload rest few cut same = cc
cut_taken (_ ∷ _ ∷ _ ∷ []) kind conn payload rest few cut same = cc
cut_taken (_ ∷ _ ∷ _ ∷ _ ∷ []) kind conn payload rest few cut same = cc
cut_taken (k ∷ cl ∷ ch ∷ ll ∷ lh ∷ bytes) kind conn payload rest few cut same =
    let d : ll ≡ low_byte (length payload) = cc in
    let e : lh ≡ high_byte (length payload) = cc in
    let count : from_two_bytes ll lh ≡ length payload = ap (λ n. n + 256 * lh) d ∙ ap (λ n. low_byte (length payload) + 256 * n) e ∙ two_bytes_back (length payload) few in
    let behind : payload ++ rest ≡ bytes = cc in
    omega (arith, cut.1, count, length-append payload rest, ap length behind)

frame_taken : (left bad : List ℕ) (flaw : Flaw) (says : Line) (a rest : List ℕ) → Framed says a → IsBadFrame (left ≡ []) flaw bad → a ++ rest ≡ bad ++ left → ⊥
frame_taken left (k ∷ cl ∷ ch ∷ ll ∷ lh ∷ []) flaw says a rest f (inl refused) same = header_taken f.kind f.conn f.payload rest k cl ch ll lh left flaw f.narrow f.few f.passes refused (ap (λ l. l ++ rest) (sym f.is) ∙ same)
frame_taken left other flaw says a rest f (inl refused) same = absurd refused
frame_taken left bad flaw says a rest f (inr (is, cut, some, ended)) same =
    cut_taken bad f.kind f.conn f.payload rest f.few cut (ap (λ l. l ++ rest) (sym f.is) ∙ same ∙ ap (λ l. bad ++ l) ended ∙ append-nil bad)

bad_some : (left bad : List ℕ) (flaw : Flaw) → IsBadFrame (left ≡ []) flaw bad → 0 < length bad
bad_some left [] flaw (inl refused) = absurd refused
bad_some left (byte ∷ bad) flaw (inl refused) = omega arith
bad_some left bad flaw (inr (is, cut, some, ended)) = some

all_taken : (lines frames : List Pair) (more out tail : List ℕ) → Each framing lines → Frames more out → Each unframing frames → NoFrame tail → 0 < length tail → tos lines ++ out ≡ froms frames ++ tail → ⊥
all_taken [] frames more out tail fed (says, is, line_is, framed) are stops some same =
    let first = behind_by says frames [] tail (says_some says) (read_sound more says line_is) are stops (append-nil (frame_of says) ∙ sym framed ∙ same) in
    omega (arith, length-append (froms first.behind) tail, ap length first.bytes)
all_taken (line ∷ lines) frames more out tail fed last are stops some same =
    let one = each_head framing line lines fed in
    let says = one.2.0 in
    let first = behind_by says frames (tos lines ++ out) tail (says_some says) (read_sound one.0 says one.2.2) are stops
    (ap (λ l. l ++ (tos lines ++ out)) (sym {a = line.to} one.2.3) ∙ sym (append_assoc line.to (tos lines) out) ∙ same) in
    all_taken lines first.behind more out tail (each_tail framing line lines fed) last first.each stops some first.bytes

pub frames_are_taken : FramesAreTaken
frames_are_taken lines bytes again left behind flaw offset (from, to, turned, (more, out, last, ended, (input, output))) (seen, made, framed, (bad, refused, at, (seen_input, seen_output))) =
    all_taken turned.pairs framed.pairs more out (bad ++ behind) turned.each last framed.each (λ says a rest f same. frame_taken behind bad flaw says a rest f refused same)
    (omega (arith, length-append bad behind, bad_some behind bad flaw refused))
    (ap (λ l. l ++ out) (sym turned.to_is) ∙ output ∙ seen_input ∙ append_assoc seen bad behind ∙ ap (λ l. l ++ (bad ++ behind)) framed.from_is)

-- frames of lines become themselves
plain_by : (says : Line) (lines : List Line) (frames : List Pair) → (says ≡ Nothing) ⊎ (says ≡ Nothing → ⊥) → IsSound says → Each reframing frames
    → ((behind : List Pair) → Each reframing behind → flat_map frame_of lines ≡ froms behind → tos behind ≡ flat_map frame_of lines)
    → frame_of says ++ flat_map frame_of lines ≡ froms frames → tos frames ≡ frame_of says ++ flat_map frame_of lines
plain_by says lines frames (inl none) sound are later same =
    let gone : frame_of says ++ flat_map frame_of lines ≡ flat_map frame_of lines = ap (λ l. frame_of l ++ flat_map frame_of lines) none in
    later frames are (sym gone ∙ same) ∙ sym gone
plain_by says lines [] (inr some) sound are later same =
    absurd (empty_stops says (frame_of says) (flat_map frame_of lines) (framed_of says (frame_of says) (frame_is says sound some)) same)
plain_by says lines (frame ∷ frames) (inr some) sound are later same =
    let one = each_head reframing frame frames are in
    let cut = framed_cut says one.0 (frame_of says) frame.from (flat_map frame_of lines) (froms frames) (framed_of says (frame_of says) (frame_is says sound some)) (framed_of one.0 frame.from one.1) same in
    ap (λ l. l ++ tos frames) (one.2 ∙ ap frame_of cut.0) ∙ ap (λ l. frame_of says ++ l) (later frames (each_tail reframing frame frames are) cut.1)

plain_back : (lines : List Line) (frames : List Pair) → All IsSound lines → Each reframing frames → flat_map frame_of lines ≡ froms frames → tos frames ≡ flat_map frame_of lines
plain_back [] [] sound are same = refl
plain_back [] (frame ∷ frames) sound are same =
    let one = each_head reframing frame frames are in
    let f = framed_of one.0 frame.from one.1 in
    absurd (omega (arith, length-append frame.from (froms frames), ap length f.is, ap length same))
plain_back (says ∷ lines) frames sound are same =
    plain_by says lines frames (says_some says) (All-head IsSound says lines sound) are (λ behind each later. plain_back lines behind (All-tail IsSound says lines sound) each later) same

plain_all : (bytes again left : List ℕ) (says : List Line) → All IsSound says → bytes ≡ flat_map frame_of says → Runs reframing bytes left again Finished → again ≡ bytes
plain_all bytes again left says sound are (from, to, turned, (more, out, none, ended, (input, output))) =
    let whole : bytes ≡ from = input ∙ ap (λ l. (from ++ more) ++ l) ended ∙ append-nil (from ++ more) ∙ ap (λ l. from ++ l) none.0 ∙ append-nil from in
    sym output ∙ ap (λ l. to ++ l) none.1 ∙ append-nil to ∙ turned.to_is ∙ plain_back says turned.pairs sound turned.each (sym are ∙ whole ∙ turned.from_is) ∙ sym are

pub plain_come_back : PlainComeBack
plain_come_back bytes lines again left behind (says, sound, are) first second = plain_all bytes again left says sound are (frames_come_back bytes lines again left behind first second)
