-- One call on a trunk, as a part of how it goes on.
use Rattle.links.specs.declared.journal.Given.TheVariants.{All as Whole}
use Rattle.links.specs.declared.journal.LinkEvent.TheVariants as event
use Rattle.trunk_wire.proofs.Terms.{Bool, Err, List, Ok, Result, Some, [], append-nil, false, is_ok, length, refl, subst, sym, true, ℕ, ◌++◌, ◌<◌, ◌^◌, ◌∙◌, ◌∷◌, ◌≡◌, All-cons, All-nil, CONNECTIONS, IsDrained, Prefix, Given, Gone, LinkEvent, LinkFault, Memory, ReadFault, Refused, WriteFault, Enters, IsInOrder, Piece, phases_after, IsFrameOf, piece_frame, HasOffset, Reads, TakesBy, Writes, WritesBy, count_after, count_nothing, refusal_in, Intake, IsCut, IsFramed, IsTail, Output, TookFrames, WroteFrames}

-- the frame of an event was taken
took_frame : (old new : Intake) (event : LinkEvent) (bytes : List ℕ) → new.takes ≡ true → Reads old.told new.told old.took new.took bytes → IsFrameOf event bytes → IsInOrder old.phases event
    → ((conn : ℕ) → new.phases conn ≡ phases_after event old.phases conn) → TookFrames old new
took_frame old new event bytes takes read is order after = record {
  events = event ∷ [];
  whole = bytes;
  tail = [];
  order = (order, tt);
  phases = after;
  are = (bytes, [], sym (append-nil bytes), is, refl);
  reads = subst (Reads old.told new.told old.took new.took) (sym (append-nil bytes)) read;
  is_tail = subst (λ b. IsTail (phases_after event old.phases) (IsDrained new.told) (count_after old.took (length bytes)) b new.refused []) (sym takes) refl;
}

-- bytes were taken behind no event
took_tail : (old new : Intake) (takes : Bool) (result : Result LinkEvent LinkFault) (bytes : List ℕ) → new.takes ≡ takes → new.refused ≡ refusal_in result → Reads old.told new.told old.took new.took bytes
    → IsTail old.phases (IsDrained new.told) old.took takes (refusal_in result) bytes → ((conn : ℕ) → new.phases conn ≡ old.phases conn) → TookFrames old new
took_tail old new takes result bytes takes_is refused_is read is_tail after = record {
  events = [];
  whole = [];
  tail = bytes;
  order = tt;
  phases = after;
  are = refl;
  reads = read;
  is_tail = subst (λ count. IsTail old.phases (IsDrained new.told) count new.takes new.refused bytes) (count_nothing old.took)
      (subst (λ b. IsTail old.phases (IsDrained new.told) old.took b new.refused bytes) (sym takes_is)
      (subst (λ refused. IsTail old.phases (IsDrained new.told) old.took takes refused bytes) (sym refused_is) is_tail));
}

-- what a `next` takes
pub next_took : (old new : Intake) (result : Result LinkEvent LinkFault) → new.takes ≡ is_ok result → new.refused ≡ refusal_in result
    → TakesBy old.phases (Reads old.told new.told old.took new.took) (IsDrained new.told) result → Enters old.phases new.phases result → HasOffset old.took result → TookFrames old new
next_took old new (Ok (event.Opens conn)) takes refused taken order offset = took_frame old new (event.Opens conn) taken.0 takes taken.1 taken.2 order.0 order.1
next_took old new (Ok (event.Piece conn bytes)) takes refused taken order offset = took_frame old new (event.Piece conn bytes) taken.0 takes taken.1 taken.2 order.0 order.1
next_took old new (Ok (event.Closes conn)) takes refused taken order offset = took_frame old new (event.Closes conn) taken.0 takes taken.1 taken.2 order.0 order.1
next_took old new (Ok event.Settles) takes refused taken order offset = took_frame old new event.Settles taken.0 takes taken.1 taken.2 order.0 order.1
next_took old new (Ok event.Ends) takes refused taken order offset = took_tail old new true (Ok event.Ends) taken.0 takes refused taken.1 taken.2.0 order.1
next_took old new (Err (Refused kind offset)) takes refused taken order at_offset = took_tail old new false (Err (Refused kind offset)) taken.0 takes refused taken.1 (at_offset, taken.2) order
next_took old new (Err ReadFault) takes refused taken order offset = took_tail old new false (Err ReadFault) taken.0 takes refused taken.1 taken.2 order
next_took old new (Err Memory) takes refused taken order offset = took_tail old new false (Err Memory) taken.0 takes refused taken.1 taken.2 order
next_took old new (Err WriteFault) takes refused taken order offset = absurd taken

-- a frame was written
wrote_frame : (old new : Output) (piece : Piece) → IsFramed piece → new.gives ≡ true → Writes old.told new.told old.wrote new.wrote (piece_frame piece.conn piece.bytes) → WroteFrames old new
wrote_frame old new piece framed gives wrote = record {
  pieces = piece ∷ [];
  tail = [];
  framed = All-cons IsFramed piece [] framed (All-nil IsFramed);
  writes = subst (Writes old.told new.told old.wrote new.wrote) (sym (append-nil (piece_frame piece.conn piece.bytes)) ∙ sym (append-nil (piece_frame piece.conn piece.bytes ++ []))) wrote;
  cut = subst (λ b. IsCut b new.handed []) (sym gives) refl;
}

-- a first part of a frame was written
wrote_cut : (old new : Output) (piece : Piece) → IsFramed piece → new.gives ≡ false → new.handed ≡ Some (record { conn = piece.conn; length = length piece.bytes }) → (front : List ℕ) × Prefix front (piece_frame piece.conn piece.bytes) × Writes old.told new.told old.wrote new.wrote front → WroteFrames old new
wrote_cut old new piece framed gives handed (front, whole, wrote) = record {
  pieces = [];
  tail = front;
  framed = All-nil IsFramed;
  writes = wrote;
  cut = subst (λ b. IsCut b new.handed front) (sym gives) (piece, framed, whole, handed);
}

-- what a `give` writes
pub give_wrote : (old new : Output) (conn : ℕ) (bytes : List ℕ) (result : Result Given LinkFault) → conn < CONNECTIONS → 0 < length bytes → length bytes < 2 ^ 16 → new.gives ≡ is_ok result → new.handed ≡ Some (record { conn = conn; length = length bytes })
    → WritesBy (Writes old.told new.told old.wrote new.wrote) conn bytes result → WroteFrames old new
give_wrote old new conn bytes result below some few gives handed written = by_answer result gives written
  where
    piece : Piece
    piece = record { conn = conn; bytes = bytes; gone = false }

    framed : IsFramed piece
    framed = record { below = below; some = some; few = few; whole = refl }

    by_answer : (result : Result Given LinkFault) → new.gives ≡ is_ok result → WritesBy (Writes old.told new.told old.wrote new.wrote) conn bytes result → WroteFrames old new
    by_answer (Ok Whole) gives written = wrote_frame old new piece framed gives written
    by_answer (Ok (Gone count)) gives written = absurd written
    by_answer (Err WriteFault) gives written = wrote_cut old new piece framed gives handed written
    by_answer (Err Memory) gives written = wrote_cut old new piece framed gives handed written
    by_answer (Err ReadFault) gives written = absurd written
    by_answer (Err (Refused kind offset)) gives written = absurd written
