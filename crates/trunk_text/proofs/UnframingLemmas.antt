-- A frame that was taken, by its header and its payload.
use Rattle.std.proofs.lemmas.Bool.{eqb-true}
use Rattle.rx_base.specs.declared.fault.IoFault.TheVariants as io
use Rattle.trunk_wire.specs.Calls.{Behind}
use Rattle.trunk_text.proofs.Terms.{Bool, Err, List, None, Ok, Option, Result, Some, [], ap, append_assoc, arith, false, if◌then◌else◌, inl, inr, length, nat_lt, not, refl, subst, sym, true, ℕ, ◌&&◌, ◌++◌, ◌+◌, ◌<◌, ◌==◌, ◌∙◌, ◌∷◌, ◌≡◌, nat_tests, nil_from_length, Appends, IoFault, gave_nothing, took_more, took_nothing, Stream, Took, Header, BYTES, CLOSE, OPEN, SETTLE, two_bytes_back, FitsTwoBytes, header_bytes, header_of, high_byte, low_byte, is_extra, is_known, Flaw, Cut, Kind, Payload, Line, Closes, Opens, Piece, Settles, Turn, Ends, More, Read, End, Wrong, text_of, IsFrame, IsFrameOf, Breaks, Loses, Moved, TurnsBy, GivesSome, GivesText, IsCut, TakesFrame, header_flaw, says_of, unframing}
use Rattle.trunk_text.specs.declared.turning.Ended.TheVariants as ended
use Rattle.trunk_text.specs.declared.unframing.Read.TheVariants.{Whole}

-- a header that is read back has the same flaw
pub flaw_back : (kind conn count : ℕ) → FitsTwoBytes count → header_flaw (header_of kind (low_byte conn) (high_byte conn) (low_byte count) (high_byte count)) ≡ header_flaw (record { kind = kind; conn = conn; length = count })
flaw_back kind conn count few = ap (λ n. if not (not (nat_lt kind OPEN) && not (nat_lt SETTLE kind)) then Some Kind else if not (kind == BYTES) && not (n == 0) then Some Payload else None) (two_bytes_back count few)

pub bad_header : (kind conn count : ℕ) (flaw : Flaw) (source : Option Stream) (drained : Type 0) → FitsTwoBytes count → header_flaw (record { kind = kind; conn = conn; length = count }) ≡ Some flaw
    → TakesFrame (Behind (header_bytes (record { kind = kind; conn = conn; length = count })) (Took source source)) drained (Ok (Wrong flaw))
bad_header kind conn count flaw source drained few refused =
    (header_bytes (record { kind = kind; conn = conn; length = count }) ++ [], inl (flaw_back kind conn count few ∙ refused), ([], refl, took_nothing source))

cut_behind : (kind conn count : ℕ) (part : List ℕ) → FitsTwoBytes count → header_flaw (record { kind = kind; conn = conn; length = count }) ≡ None → length part < count
    → IsCut (header_bytes (record { kind = kind; conn = conn; length = count }) ++ part)
cut_behind kind conn count part few passes short = (flaw_back kind conn count few ∙ passes, subst (λ n. length part < n) (sym (two_bytes_back count few)) short)

pub cut_payload : (kind conn count : ℕ) (part : List ℕ) (Takes : List ℕ → Type 0) (drained : Type 0) → FitsTwoBytes count → header_flaw (record { kind = kind; conn = conn; length = count }) ≡ None → length part < count
    → Takes part → drained → TakesFrame (Behind (header_bytes (record { kind = kind; conn = conn; length = count })) Takes) drained (Ok (Wrong Cut))
cut_payload kind conn count part Takes drained few passes short taken end =
    (header_bytes (record { kind = kind; conn = conn; length = count }) ++ part, inr (refl, cut_behind kind conn count part few passes short, omega arith, end), (part, refl, taken))

pub lost_payload : (kind conn count : ℕ) (Takes : List ℕ → Type 0) (fault : IoFault) → FitsTwoBytes count → header_flaw (record { kind = kind; conn = conn; length = count }) ≡ None
    → Loses (λ part. length part < count) Takes fault → Loses IsCut (Behind (header_bytes (record { kind = kind; conn = conn; length = count })) Takes) fault
lost_payload kind conn count Takes io.Failed few passes (part, short, taken) =
    (header_bytes (record { kind = kind; conn = conn; length = count }) ++ part, cut_behind kind conn count part few passes short, (part, refl, taken))
lost_payload kind conn count Takes io.Memory few passes (part, more, short, one, taken) = (
  header_bytes (record { kind = kind; conn = conn; length = count }) ++ part,
  more,
  cut_behind kind conn count part few passes short,
  one,
  (part ++ more, append_assoc (header_bytes (record { kind = kind; conn = conn; length = count })) part more, taken),
)

-- fewer than five bytes are a part of a frame
pub short_cut : (bytes : List ℕ) → length bytes < 5 → IsCut bytes
short_cut [] few = tt
short_cut (_ ∷ []) few = tt
short_cut (_ ∷ _ ∷ []) few = tt
short_cut (_ ∷ _ ∷ _ ∷ []) few = tt
short_cut (_ ∷ _ ∷ _ ∷ _ ∷ []) few = tt
short_cut (_ ∷ _ ∷ _ ∷ _ ∷ _ ∷ rest) few = absurd (omega arith)

pub lost_header : (Takes : List ℕ → Type 0) (fault : IoFault) → Loses (λ part. length part < 5) Takes fault → Loses IsCut Takes fault
lost_header Takes io.Failed (part, short, taken) = (part, short_cut part short, taken)
lost_header Takes io.Memory (part, more, short, one, taken) = (part, more, short_cut part short, one, taken)

two_tests : (a b : Bool) → (if not a then Some Kind else if b then Some Payload else None) ≡ None → (a ≡ true) × (b ≡ false)
two_tests false b none = cc
two_tests true true none = cc
two_tests true false none = (refl, refl)

last_kind : (n : ℕ) → (not (nat_lt n OPEN) && not (nat_lt SETTLE n)) ≡ true → (n == OPEN) ≡ false → (n == BYTES) ≡ false → (n == CLOSE) ≡ false → n ≡ SETTLE
last_kind n known not_open not_bytes not_close = grind (arith, nat_tests)

not_bytes : (n kind : ℕ) → (n == kind) ≡ true → (kind == BYTES) ≡ false → (n == BYTES) ≡ false
not_bytes n kind is differs = rw (eqb-true n kind is) differs

zero_length : (n : ℕ) (a b : Bool) → a ≡ false → (not a && not b) ≡ false → (n == 0) ≡ b → n ≡ 0
zero_length n true b other none is = cc
zero_length n false true other none is = eqb-true n 0 is
zero_length n false false other none is = cc

-- a frame without payload, and one of a piece
bare_frame : (kind conn count number : ℕ) (payload : List ℕ) → FitsTwoBytes conn → length payload ≡ count → is_extra (record { kind = kind; conn = conn; length = count }) ≡ false → (kind == BYTES) ≡ false
    → kind ≡ number → IsFrame number conn [] (header_bytes (record { kind = kind; conn = conn; length = count }) ++ payload)
bare_frame kind conn count number payload narrow counted no_extra other same =
    let zero : count ≡ 0 = zero_length count (kind == BYTES) (count == 0) other no_extra refl in
    let none : payload ≡ [] = nil_from_length payload (counted ∙ zero) in record {
      is = ap (λ n. header_bytes (record { kind = n; conn = conn; length = count }) ++ payload) same ∙ ap (λ n. header_bytes (record { kind = number; conn = conn; length = n }) ++ payload) zero
          ∙ ap (λ l. header_bytes (record { kind = number; conn = conn; length = 0 }) ++ l) none;
      narrow = narrow;
      few = omega arith;
    }

frame_by : (kind conn count : ℕ) (payload : List ℕ) (o b c : Bool) → FitsTwoBytes conn → FitsTwoBytes count → length payload ≡ count → is_known (record { kind = kind; conn = conn; length = count }) ≡ true
    → is_extra (record { kind = kind; conn = conn; length = count }) ≡ false → (kind == OPEN) ≡ o → (kind == BYTES) ≡ b → (kind == CLOSE) ≡ c
    → IsFrameOf (if o then Opens conn else if b then Piece conn payload else if c then Closes conn else Settles) (header_bytes (record { kind = kind; conn = conn; length = count }) ++ payload)
frame_by kind conn count payload true b c narrow few counted known no_extra is_open is_bytes is_close =
    bare_frame kind conn count OPEN payload narrow counted no_extra (not_bytes kind OPEN is_open refl) (eqb-true kind OPEN is_open)
frame_by kind conn count payload false true c narrow few counted known no_extra is_open is_bytes is_close = record {
  is = ap (λ n. header_bytes (record { kind = n; conn = conn; length = count }) ++ payload) (eqb-true kind BYTES is_bytes)
      ∙ ap (λ n. header_bytes (record { kind = BYTES; conn = conn; length = n }) ++ payload) (sym counted);
  narrow = narrow;
  few = omega (arith, counted);
}
frame_by kind conn count payload false false true narrow few counted known no_extra is_open is_bytes is_close =
    bare_frame kind conn count CLOSE payload narrow counted no_extra is_bytes (eqb-true kind CLOSE is_close)
frame_by kind conn count payload false false false narrow few counted known no_extra is_open is_bytes is_close =
    (conn, bare_frame kind conn count SETTLE payload narrow counted no_extra is_bytes (last_kind kind known is_open is_bytes is_close))

pub whole_frame : (kind conn count : ℕ) (payload : List ℕ) (Takes : List ℕ → Type 0) (drained : Type 0) → FitsTwoBytes conn → FitsTwoBytes count → length payload ≡ count
    → header_flaw (record { kind = kind; conn = conn; length = count }) ≡ None → Takes payload
    → TakesFrame (Behind (header_bytes (record { kind = kind; conn = conn; length = count })) Takes) drained (Ok (Whole (says_of kind conn payload) (5 + count)))
whole_frame kind conn count payload Takes drained narrow few counted passes taken =
    let tests = two_tests (is_known (record { kind = kind; conn = conn; length = count })) (is_extra (record { kind = kind; conn = conn; length = count })) passes in (
      header_bytes (record { kind = kind; conn = conn; length = count }) ++ payload,
      frame_by kind conn count payload (kind == OPEN) (kind == BYTES) (kind == CLOSE) narrow few counted tests.0 tests.1 refl refl refl,
      omega (arith, counted),
      (payload, refl, taken),
      omega arith,
    )

-- what was taken is told in another way
pub takes_frame_as : (M N : List ℕ → Type 0) (drained : Type 0) (result : Result Read IoFault) → ((from : List ℕ) → M from → N from) → (M [] → ⊥) → TakesFrame M drained result → TakesFrame N drained result
takes_frame_as M N drained (Ok (Whole says count)) as_other some (from, is, counted, taken, forward) = (from, is, counted, as_other from taken, forward)
takes_frame_as M N drained (Ok End) as_other some taken = absurd (some taken.0)
takes_frame_as M N drained (Ok (Wrong flaw)) as_other some (from, is, taken) = (from, is, as_other from taken)
takes_frame_as M N drained (Err io.Failed) as_other some (part, is, taken) = (part, is, as_other part taken)
takes_frame_as M N drained (Err io.Memory) as_other some (part, more, is, few, taken) = (part, more, is, few, as_other (part ++ more) taken)

-- behind a header there is no empty list
nothing_behind : (header : Header) (Takes : List ℕ → Type 0) → Behind (header_bytes header) Takes [] → ⊥
nothing_behind header Takes (rest, is, taken) = cc

-- a header was taken, and then what is behind it
pub took_behind : (old mid new : Option Stream) (first bytes : List ℕ) → Took old mid first → Behind first (Took mid new) bytes → Took old new bytes
took_behind old mid new first bytes took (rest, is, more) = subst (Took old new) (sym is) (took_more old mid new first rest took more)

-- a whole frame was taken, and its line was written, or some of it
frame_breaks : (old_in new_in : Option Stream) (old_out new_out : Option (List ℕ)) (says : Line) (from : List ℕ) → IsFrameOf says from → Took old_in new_in from → GivesSome (Appends old_out new_out) says
    → Breaks unframing (Moved old_in new_in old_out new_out)
frame_breaks old_in new_in old_out new_out says from is took (front, begins, wrote) = (from, text_of says ++ 10 ∷ [], front, inl (says, is, refl), begins, record { took = took; wrote = wrote })

pub frame_turns : (old_in new_in : Option Stream) (old_out new_out : Option (List ℕ)) (d : Type 0) (at count : ℕ) (says : Line) (turn : Turn) → TakesFrame (Took old_in new_in) d (Ok (Whole says count))
    → GivesText (Appends old_out new_out) says at count turn → TurnsBy unframing (Moved old_in new_in old_out new_out) d at turn
frame_turns old_in new_in old_out new_out d at count says (More now) (from, is, counted, took, forward) (on, wrote) =
    (from, text_of says ++ 10 ∷ [], (says, is, refl), on ∙ ap (λ n. at + n) (sym counted), record { took = took; wrote = wrote })
frame_turns old_in new_in old_out new_out d at count says (Ends ended.Finished) taken gives = absurd gives
frame_turns old_in new_in old_out new_out d at count says (Ends (ended.Refused flaw offset)) taken gives = absurd gives
frame_turns old_in new_in old_out new_out d at count says (Ends ended.ReadFault) taken gives = absurd gives
frame_turns old_in new_in old_out new_out d at count says (Ends ended.WriteFault) (from, is, counted, took, forward) gives = frame_breaks old_in new_in old_out new_out says from is took gives
frame_turns old_in new_in old_out new_out d at count says (Ends ended.Limit) (from, is, counted, took, forward) (past, wrote) = (from, omega (arith, past, counted), record { took = took; wrote = wrote })
frame_turns old_in new_in old_out new_out d at count says (Ends ended.Memory) (from, is, counted, took, forward) gives = inr (frame_breaks old_in new_in old_out new_out says from is took gives)

pub wrong_turns : (old_in new_in : Option Stream) (sink : Option (List ℕ)) (d : Type 0) (at : ℕ) (flaw : Flaw) → TakesFrame (Took old_in new_in) d (Ok (Wrong flaw))
    → TurnsBy unframing (Moved old_in new_in sink sink) d at (Ends (ended.Refused flaw at))
wrong_turns old_in new_in sink d at flaw (from, is, took) = (from, is, refl, record { took = took; wrote = gave_nothing sink })

pub end_turns : (old_in new_in : Option Stream) (sink : Option (List ℕ)) (d : Type 0) (at : ℕ) → TakesFrame (Took old_in new_in) d (Ok End) → TurnsBy unframing (Moved old_in new_in sink sink) d at (Ends ended.Finished)
end_turns old_in new_in sink d at (took, drained) = ([], [], (refl, refl), drained, record { took = took; wrote = gave_nothing sink })

-- a header was taken, and the rest of its frame
pub header_taken : (old mid new : Option Stream) (d : Type 0) (bytes : List ℕ) (header : Header) (result : Result Read IoFault) → bytes ≡ header_bytes header → Took old mid bytes
    → TakesFrame (Behind (header_bytes header) (Took mid new)) d result → TakesFrame (Took old new) d result
header_taken old mid new d bytes header result is took taken =
    takes_frame_as (Behind (header_bytes header) (Took mid new)) (Took old new) d result (λ from behind. took_behind old mid new (header_bytes header) from (subst (Took old mid) is took) behind) (nothing_behind header (Took mid new)) taken
