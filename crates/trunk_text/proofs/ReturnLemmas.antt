-- Lines of frames that become frames again.
use Rattle.std.specs.List.{All}
use Rattle.trunk_text.proofs.Terms.{Bool, Err, List, Ok, [], ap, append-nil, append_assoc, arith, false, flat_map, inl, inr, length, length-append, not, refl, subst, sym, true, ℕ, ◌&&◌, ◌++◌, ◌<◌, ◌==◌, ◌∙◌, ◌∷◌, ◌≡◌, nat_tests, nil_from_length, All-cons, All-head, All-tail, Flaw, Line, Closes, Nothing, Opens, Piece, Settles, line_of, text_of, IsFrameOf, frame_of, Pair, Turned, Way, Frames, FramesFed, IsBadLine, framing, is_bare, Unframes, unframing, FramesComeBack, IsSound, LinesAreTaken, Reframes, reframing}
use Rattle.trunk_text.proofs.TurnLemmas.{turned_nothing}
use Rattle.trunk_text.proofs.LineLemmas.{lines_read_back}

-- bytes without a line feed, and where the first one stands
bare_by : (byte : ℕ) (is rest : Bool) → (byte == 10) ≡ is → (not is && rest) ≡ true → (byte ≡ 10 → ⊥) × (rest ≡ true)
bare_by byte true rest feed both = cc
bare_by byte false rest feed both = ((λ same. grind (arith, nat_tests)), both)

bare_cons : (byte : ℕ) (rest : List ℕ) → is_bare (byte ∷ rest) ≡ true → (byte ≡ 10 → ⊥) × (is_bare rest ≡ true)
bare_cons byte rest bare = bare_by byte (byte == 10) (is_bare rest) refl bare

pub feed_cut : (a b x y : List ℕ) → is_bare a ≡ true → is_bare b ≡ true → a ++ 10 ∷ x ≡ b ++ 10 ∷ y → (a ≡ b) × (x ≡ y)
feed_cut [] [] x y first second same = (refl, cc)
feed_cut [] (byte ∷ b) x y first second same = absurd ((bare_cons byte b second).0 (cc))
feed_cut (byte ∷ a) [] x y first second same = absurd ((bare_cons byte a first).0 (cc))
feed_cut (byte ∷ a) (other ∷ b) x y first second same =
    let rest : (a ≡ b) × (x ≡ y) = feed_cut a b x y (bare_cons byte a first).1 (bare_cons other b second).1 (cc) in
    let is : a ≡ b = rest.0 in (cc, rest.1)

front_feed : (a b x left : List ℕ) → is_bare b ≡ true → length a < length b → b ++ left ≡ a ++ 10 ∷ x → ⊥
front_feed a [] x left bare longer same = omega arith
front_feed [] (byte ∷ b) x left bare longer same = (bare_cons byte b bare).0 (cc)
front_feed (other ∷ a) (byte ∷ b) x left bare longer same = front_feed a b x left (bare_cons byte b bare).1 (omega arith) (cc)

feed_not_bare : (a x b : List ℕ) → is_bare b ≡ true → a ++ 10 ∷ x ≡ b → ⊥
feed_not_bare a x b bare same =
    front_feed a b x [] bare (omega (arith, length-append a (10 ∷ x), ap length same)) (append-nil b ∙ sym same)

-- the line of a frame
pub sound_of : (says : Line) (from : List ℕ) → IsFrameOf says from → IsSound says
sound_of (Opens conn) from is = is.narrow
sound_of (Piece conn bytes) from is = (is.narrow, is.few)
sound_of (Closes conn) from is = is.narrow
sound_of Settles from is = tt
sound_of Nothing from is = tt

pub turned_cons : (way : Way) (pair : Pair) (from to : List ℕ) → way.Turns pair.from pair.to → Turned way from to → Turned way (pair.from ++ from) (pair.to ++ to)
turned_cons way pair from to one turned = record {
  pairs = pair ∷ turned.pairs;
  each = All-cons (λ (pair : Pair). way.Turns pair.from pair.to) pair turned.pairs one turned.each;
  from_is = ap (λ l. pair.from ++ l) turned.from_is;
  to_is = ap (λ l. pair.to ++ l) turned.to_is;
}

-- a line that is written, behind which bytes stand
line_behind : (text from rest : List ℕ) → from ≡ text ++ 10 ∷ [] → from ++ rest ≡ text ++ 10 ∷ rest
line_behind text from rest is = ap (λ l. l ++ rest) is ∙ append_assoc text (10 ∷ []) rest

-- the line of a frame is read as what the frame says
one_back : (from line to fed rest more : List ℕ) → Unframes from line → FramesFed fed to → line ++ rest ≡ fed ++ more → Reframes from to × (rest ≡ more)
one_back from line to fed rest more (says, is, written) (read, fed_is, (said, read_is, line_is, framed)) same =
    let back = lines_read_back says (sound_of says from is) in
    let cut = feed_cut (text_of says) read rest more back.0.bare read_is.bare (sym (line_behind (text_of says) line rest written) ∙ same ∙ line_behind read fed more fed_is) in
    let agree : Ok says ≡ Ok said = sym back.1 ∙ ap line_of cut.0 ∙ line_is in
    let is_said : said ≡ says = cc in
    ((says, is, framed ∙ ap frame_of is_said), cut.1)

-- what all pairs were, and what they became
abbrev pub froms : List Pair → List ℕ
froms pairs = flat_map (λ (pair : Pair). pair.from) pairs

abbrev pub tos : List Pair → List ℕ
tos pairs = flat_map (λ (pair : Pair). pair.to) pairs

abbrev pub Each : Way → List Pair → Type 0
Each way pairs = All (λ (pair : Pair). way.Turns pair.from pair.to) pairs

pub each_head : (way : Way) (pair : Pair) (pairs : List Pair) → Each way (pair ∷ pairs) → way.Turns pair.from pair.to
each_head way pair pairs each = All-head (λ (pair : Pair). way.Turns pair.from pair.to) pair pairs each

pub each_tail : (way : Way) (pair : Pair) (pairs : List Pair) → Each way (pair ∷ pairs) → Each way pairs
each_tail way pair pairs each = All-tail (λ (pair : Pair). way.Turns pair.from pair.to) pair pairs each

-- no line is left where no frame is
nothing_back : (line to : List ℕ) → line ≡ [] → Frames line to → to ≡ []
nothing_back line to none (says, is, line_is, framed) =
    let agree : Ok Nothing ≡ Ok says = ap line_of (sym none) ∙ line_is in
    let is_nothing : says ≡ Nothing = cc in
    framed ∙ ap frame_of is_nothing

all_back : (frames lines : List Pair) (more out : List ℕ) → Each unframing frames → Each framing lines → Frames more out → tos frames ≡ froms lines ++ more
    → Turned reframing (froms frames) (tos lines ++ out)
all_back [] [] more out are fed last same = subst (λ l. Turned reframing [] l) (sym (nothing_back more out (sym same) last)) (turned_nothing reframing)
all_back [] (line ∷ lines) more out are fed last same =
    let one = each_head framing line lines fed in
    absurd (omega (arith, length-append (line.from ++ froms lines) more, length-append line.from (froms lines), length-append one.0 (10 ∷ []), ap length one.1, ap length same))
all_back (frame ∷ frames) [] more out are fed last same =
    let one = each_head unframing frame frames are in
    absurd (feed_not_bare (text_of one.0) (tos frames) more last.1.bare (sym (line_behind (text_of one.0) frame.to (tos frames) one.2) ∙ same))
all_back (frame ∷ frames) (line ∷ lines) more out are fed last same =
    let one = one_back frame.from frame.to line.to line.from (tos frames) (froms lines ++ more) (each_head unframing frame frames are) (each_head framing line lines fed)
    (same ∙ append_assoc line.from (froms lines) more) in
    let rest = all_back frames lines more out (each_tail unframing frame frames are) (each_tail framing line lines fed) last one.1 in
    subst (λ l. Turned reframing (frame.from ++ froms frames) l) (sym (append_assoc line.to (tos lines) out))
    (turned_cons reframing (record { from = frame.from; to = line.to }) (froms frames) (tos lines ++ out) one.0 rest)

pub frames_come_back : FramesComeBack
frames_come_back bytes lines again left behind (from, to, turned, (more, out, none, ended, (input, output))) (fed, made, framed, (last, last_out, last_is, last_ended, (fed_input, fed_output))) =
    let same : tos turned.pairs ≡ froms framed.pairs ++ last =
    sym turned.to_is ∙ sym (append-nil to) ∙ ap (λ l. to ++ l) (sym none.1) ∙ output ∙ fed_input ∙ ap (λ l. (fed ++ last) ++ l) last_ended ∙ append-nil (fed ++ last) ∙ ap (λ l. l ++ last) framed.from_is in
    let back = all_back turned.pairs framed.pairs last last_out turned.each framed.each last_is same in (
      from,
      again,
      record {
        pairs = back.pairs;
        each = back.each;
        from_is = turned.from_is ∙ back.from_is;
        to_is = sym fed_output ∙ ap (λ l. l ++ last_out) framed.to_is ∙ back.to_is;
      },
      (more, [], (none.0, refl), ended, (input, append-nil again)),
    )

-- no line of a frame is refused
one_taken : (line rest more left : List ℕ) (from : List ℕ) (flaw : Flaw) → Unframes from line → IsBadLine (left ≡ []) flaw more → line ++ rest ≡ more ++ left → ⊥
one_taken line rest more left from flaw (says, is, written) (inl (read, read_is, refused, inl fed)) same =
    let back = lines_read_back says (sound_of says from is) in
    let cut = feed_cut (text_of says) read rest left back.0.bare read_is.bare (sym (line_behind (text_of says) line rest written) ∙ same ∙ line_behind read more left fed) in
    let agree : Ok says ≡ Err flaw = sym back.1 ∙ ap line_of cut.0 ∙ refused in
    cc
one_taken line rest more left from flaw (says, is, written) (inl (read, read_is, refused, inr (last, ended))) same =
    feed_not_bare (text_of says) rest read read_is.bare
    (sym (line_behind (text_of says) line rest written) ∙ same ∙ ap (λ l. more ++ l) (ended) ∙ append-nil more ∙ last)
one_taken line rest more left from flaw (says, is, written) (inr (long, bare, many)) same =
    let back = lines_read_back says (sound_of says from is) in
    front_feed (text_of says) more rest left bare (omega (arith, back.0.short)) (sym same ∙ line_behind (text_of says) line rest written)

none_taken : (more left : List ℕ) (flaw : Flaw) → IsBadLine (left ≡ []) flaw more → [] ≡ more ++ left → ⊥
none_taken more left flaw (inl (read, read_is, refused, inl fed)) same = omega (arith, length-append more left, length-append read (10 ∷ []), ap length fed, ap length same)
none_taken more left flaw (inl (read, read_is, refused, inr (last, ended))) same =
    let empty : more ≡ [] = nil_from_length more (omega (arith, length-append more left, ap length same)) in
    let agree : Ok Nothing ≡ Err flaw = ap line_of (sym empty ∙ last) ∙ refused in
    cc
none_taken more left flaw (inr (long, bare, many)) same = omega (arith, length-append more left, ap length same)

all_taken : (frames lines : List Pair) (more left : List ℕ) (flaw : Flaw) → Each unframing frames → Each framing lines → IsBadLine (left ≡ []) flaw more → tos frames ≡ froms lines ++ (more ++ left) → ⊥
all_taken [] [] more left flaw are fed bad same = none_taken more left flaw bad same
all_taken [] (line ∷ lines) more left flaw are fed bad same =
    let one = each_head framing line lines fed in
    omega (arith, length-append (line.from ++ froms lines) (more ++ left), length-append line.from (froms lines), length-append one.0 (10 ∷ []), ap length one.1, ap length same)
all_taken (frame ∷ frames) [] more left flaw are fed bad same =
    one_taken frame.to (tos frames) more left frame.from flaw (each_head unframing frame frames are) bad same
all_taken (frame ∷ frames) (line ∷ lines) more left flaw are fed bad same =
    let one = one_back frame.from frame.to line.to line.from (tos frames) (froms lines ++ (more ++ left)) (each_head unframing frame frames are) (each_head framing line lines fed)
    (same ∙ append_assoc line.from (froms lines) (more ++ left)) in
    all_taken frames lines more left flaw (each_tail unframing frame frames are) (each_tail framing line lines fed) bad one.1

pub lines_are_taken : LinesAreTaken
lines_are_taken bytes lines again left behind flaw offset (from, to, turned, (more, out, none, ended, (input, output))) (fed, made, framed, (last, bad, at, (fed_input, fed_output))) =
    all_taken turned.pairs framed.pairs last behind flaw turned.each framed.each bad
    (sym turned.to_is ∙ sym (append-nil to) ∙ ap (λ l. to ++ l) (sym none.1) ∙ output ∙ fed_input ∙ append_assoc fed last behind ∙ ap (λ l. l ++ (last ++ behind)) framed.from_is)
