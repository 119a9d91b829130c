-- What a trunk wrote is a first part of the frames of the sends of its run.
use Rattle.links.specs.declared.journal.Given.{Given}
use Rattle.links.specs.declared.journal.Given.TheVariants.{All, Gone}
use Rattle.links.specs.declared.journal.LinkFault.{LinkFault}
use Rattle.links.specs.declared.journal.LinkFault.TheVariants.{Refused, ReadFault, WriteFault, Memory}
use Rattle.rx_base.proofs.Composing.{gave_more}
use Rattle.routes.proofs.Terms.{Bool, List, None, Option, Some, [], ap, append-nil, append_assoc, false, option_map, refl, subst, sym, true, ℕ, ◌++◌, ◌∙◌, ◌∷◌, ◌≡◌, flat_map-append, map-append, Err, Ok, Result, Stream, Prefix, Send, Grew, Piece, Told, pieces_in, TrunkLink, Writes, WritesBy, frames, piece_frame, GivesOn, Output, WroteFrames, told_nothing, told_pieces, TrunkWent, output_of, seen_of, told_of, AreGiven, BreaksOff, piece_of, WritesWhole, WritesFirst, WritesFront, WritesSends, sent_pieces}
use Rattle.routes.proofs.WriteLemmas.{Short}
use Rattle.routes.proofs.ServeLemmas.{writes_whole}
use Rattle.routes.proofs.SendLemmas.{sends_written}

-- what one call wrote
first_of : (old new : Option (List ℕ)) (before now : ℕ) (frame front : List ℕ) → Prefix front frame → Writes old new before now front → WritesFirst old new frame
first_of None new before now frame front first wrote = tt
first_of (Some bytes) new before now frame front first wrote = (front, first, wrote.wrote)

pub gave_first : (old new : Option (List ℕ)) (before now conn : ℕ) (bytes : List ℕ) (result : Result Given LinkFault) → WritesBy (Writes old new before now) conn bytes result → WritesFirst old new (piece_frame conn bytes)
gave_first old new before now conn bytes (Ok All) wrote = first_of old new before now (piece_frame conn bytes) (piece_frame conn bytes) ([], append-nil (piece_frame conn bytes)) wrote
gave_first old new before now conn bytes (Ok (Gone count)) wrote = absurd wrote
gave_first old new before now conn bytes (Err WriteFault) wrote = first_of old new before now (piece_frame conn bytes) wrote.0 wrote.1 wrote.2
gave_first old new before now conn bytes (Err Memory) wrote = first_of old new before now (piece_frame conn bytes) wrote.0 wrote.1 wrote.2
gave_first old new before now conn bytes (Err ReadFault) wrote = absurd wrote
gave_first old new before now conn bytes (Err (Refused kind offset)) wrote = absurd wrote

-- the frames of sends are a first part of themselves
front_all : (sink later : Option (List ℕ)) (sends : List Send) → WritesSends sink later sends → WritesFront sink later sends
front_all None later sends wrote = tt
front_all (Some bytes) later sends wrote = (frames (sent_pieces sends), ([], append-nil (frames (sent_pieces sends))), wrote)

-- the frames of sends with one more
frames_more : (sends : List Send) (last : Send) → frames (sent_pieces (sends ++ last ∷ [])) ≡ frames (sent_pieces sends) ++ piece_frame last.conn last.bytes
frames_more sends last =
    ap frames (map-append (λ (s : Send). piece_of s.conn s.bytes false) sends (last ∷ []))
    ∙ flat_map-append (λ (piece : Piece). piece_frame piece.conn piece.bytes) (sent_pieces sends) (piece_of last.conn last.bytes false ∷ [])
    ∙ ap (λ l. frames (sent_pieces sends) ++ l) (append-nil (piece_frame last.conn last.bytes))

-- a first part of one more frame behind the frames of all sends before it
front_more : (sink mid later : Option (List ℕ)) (sends : List Send) (last : Send) → WritesSends sink mid sends → WritesFirst mid later (piece_frame last.conn last.bytes) → WritesFront sink later (sends ++ last ∷ [])
front_more None mid later sends last wrote first = tt
front_more (Some bytes) None later sends last wrote first = absurd wrote
front_more (Some bytes) (Some more) later sends last wrote (front, (rest, whole), gave) = (
  frames (sent_pieces sends) ++ front,
  (rest, append_assoc (frames (sent_pieces sends)) front rest ∙ ap (λ l. frames (sent_pieces sends) ++ l) whole ∙ sym (frames_more sends last)),
  gave_more (Some bytes) (Some more) later (frames (sent_pieces sends)) front wrote gave,
)

-- where giving broke off
broken_front : (out mid : Output) (later : Option (List ℕ)) (list : List Piece) (before sends : List Send) (last : Send) → out.wrote ≡ 0 → Short mid.told → WroteFrames out mid → mid.gives ≡ true
    → Grew (option_map (λ _. []) out.told) (told_pieces mid.told mid.wrote mid.gives) list → AreGiven before list → WritesFirst mid.told later (piece_frame last.conn last.bytes) → sends ≡ before ++ last ∷ []
    → WritesFront out.told later sends
broken_front out mid later list before sends last none short wrote still grew given gave are =
    subst (WritesFront out.told later) (sym are)
    (front_more out.told mid.told later before last (sends_written out.told mid.told before list given (writes_whole out mid list none short wrote still grew)) gave)

module _ {S K F G : Type 0} (source_fixed : S → F) (source_told : S → Option Stream) (source_faults : S → ℕ) (sink_fixed : K → G) (sink_told : K → Option (List ℕ)) (sink_faults : K → ℕ) where
  pub broken_off : (began later : TrunkLink S K) (sends : List Send) → began.wrote ≡ 0 → began.gives ≡ true → ((sink : K) → Short (sink_told sink))
      → told_of source_told sink_told began ≡ told_nothing (source_told began.source) (sink_told began.sink)
      → BreaksOff (seen_of source_told source_faults sink_told sink_faults) (TrunkWent source_fixed source_told sink_fixed sink_told) (λ old new conn bytes. WritesFirst (sink_told old.sink) (sink_told new.sink) (piece_frame conn bytes)) began later sends
      → WritesFront (sink_told began.sink) (sink_told later.sink) sends
  broken_off began later sends none gives short start broke =
      let wrote : WroteFrames (output_of sink_told began) (output_of sink_told broke.mid) = subst (λ b. GivesOn b (output_of sink_told began) (output_of sink_told broke.mid)) gives broke.went.given in
      let grew = subst (λ (told : Told). Grew told.pieces (told_of source_told sink_told broke.mid).pieces (pieces_in broke.last.entries)) start broke.last.tells.pieces in
      broken_front (output_of sink_told began) (output_of sink_told broke.mid) (sink_told later.sink) (pieces_in broke.last.entries) broke.last.before sends broke.last.last none (short broke.mid.sink) wrote broke.gives_still grew
      broke.last.given broke.last.gave broke.last.are

-- what was written in either case
pub front_by : (sink later : Option (List ℕ)) (sends : List Send) (list : List Piece) (gives : Bool) → (gives ≡ true → AreGiven sends list) → (gives ≡ false → WritesFront sink later sends) → (gives ≡ true → WritesWhole sink later list)
    → WritesFront sink later sends
front_by sink later sends list true given last whole = front_all sink later sends (sends_written sink later sends list (given refl) (whole refl))
front_by sink later sends list false given last whole = last refl
