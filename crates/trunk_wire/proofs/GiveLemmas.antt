-- What a trunk tells after a piece was given.
use Rattle.links.specs.declared.journal.Entry.TheVariants as entry
use Rattle.trunk_wire.proofs.Terms.{Bool, Err, IfSome, List, None, Ok, Option, Result, Some, [], ap, append-nil, arith, drop, false, if◌then◌else◌, is_ok, length, length-append, nat_le, option_map, refl, subst, sym, true, ℕ, ◌++◌, ◌+◌, ◌-◌, ◌<◌, ◌^◌, ◌∙◌, ◌∷◌, ◌≡◌, ◌≤◌, drop-length, and_parts, le-leb, leb-true, Stream, Prefix, Entry, Given, All, Gone, LinkEvent, LinkFault, Memory, ReadFault, Refused, WriteFault, grew_nothing, Cuts, Gives, Grew, IsFresh, Phases, Piece, Tells, cut_entries, events_in, pieces_in, FitsTwoBytes, piece_frame, last_bytes, put_bytes, cut_piece, events, fresh, piece_reader, pieces, read_from, written, Writes, WritesBy, count_after, is_empty, is_whole, told_events, told_nothing, told_pieces, trunk_told}
use Rattle.trunk_wire.proofs.PieceLemmas.{WritesCut, put_bytes-piece, put_bytes-cut}
use Rattle.trunk_wire.proofs.ProgressLemmas.{put_bytes-append}
use Rattle.trunk_wire.proofs.TellingLemmas.{InStep, in_step_to, last_bytes-append, empty_list}

-- a link is in step with its sink
pub record IsWhole (wrote : ℕ) (bytes : List ℕ) : Type 0 where
  pub within : wrote ≤ length bytes
  pub between : (written (last_bytes wrote bytes)).part ≡ []

whole_from : (wrote : ℕ) (bytes : List ℕ) → is_whole wrote true bytes ≡ true → IsWhole wrote bytes
whole_from wrote bytes is =
    let both = and_parts (nat_le wrote (length bytes)) (is_empty (written (last_bytes wrote bytes)).part) is in
    record { within = leb-true wrote (length bytes) both.0; between = empty_list (written (last_bytes wrote bytes)).part both.1 }

-- the pieces of bytes and of more of them, where the bytes are whole frames
written_more : (bytes more : List ℕ) → (written bytes).part ≡ [] → written (bytes ++ more) ≡ put_bytes piece_reader (record { whole = (written bytes).whole; state = tt; part = [] }) more
written_more bytes more between =
    put_bytes-append piece_reader (record { whole = []; state = tt; part = [] }) bytes more
    ∙ ap (λ l. put_bytes piece_reader (record { whole = (written bytes).whole; state = tt; part = l }) more) between

pieces_before : (bytes : List ℕ) → (written bytes).part ≡ [] → pieces bytes ≡ (written bytes).whole
pieces_before bytes between = ap (λ l. (written bytes).whole ++ cut_piece l) between ∙ append-nil (written bytes).whole

-- in step, and the pieces by so many more
record Grows (wrote now : ℕ) (gives : Bool) (bytes later : List ℕ) (more : List Piece) : Type 0 where
  in_step : is_whole now gives later ≡ true
  grown : pieces (last_bytes now later) ≡ pieces (last_bytes wrote bytes) ++ more

grow_whole : (wrote now conn : ℕ) (bytes piece : List ℕ) → FitsTwoBytes conn → FitsTwoBytes (length piece) → IsWhole wrote bytes → now ≡ wrote + length (piece_frame conn piece)
    → Grows wrote now true bytes (bytes ++ piece_frame conn piece) (record { conn = conn; bytes = piece; gone = false } ∷ [])
grow_whole wrote now conn bytes piece conn_few few step count =
    let last = last_bytes-append wrote now bytes (piece_frame conn piece) step.within count in
    let all = ap written last ∙ written_more (last_bytes wrote bytes) (piece_frame conn piece) step.between ∙ put_bytes-piece conn piece (written (last_bytes wrote bytes)).whole conn_few few in record {
      in_step = rw (le-leb now (length (bytes ++ piece_frame conn piece)) (omega (arith, count, step.within, length-append bytes (piece_frame conn piece))))
          (ap (λ progress. is_empty progress.part) all);
      grown = ap (λ progress. progress.whole ++ cut_piece progress.part) all
          ∙ append-nil ((written (last_bytes wrote bytes)).whole ++ record { conn = conn; bytes = piece; gone = false } ∷ [])
          ∙ ap (λ l. l ++ record { conn = conn; bytes = piece; gone = false } ∷ []) (sym (pieces_before (last_bytes wrote bytes) step.between));
    }

grow_cut : (wrote now conn : ℕ) (bytes piece front : List ℕ) → ((before : List Piece) → WritesCut before conn piece front) → IsWhole wrote bytes → now ≡ wrote + length front
    → Grows wrote now false bytes (bytes ++ front) (pieces_in (cut_entries conn (drop 5 front)))
grow_cut wrote now conn bytes piece front cut step count =
    let last = last_bytes-append wrote now bytes front step.within count in record {
      in_step = rw (le-leb now (length (bytes ++ front)) (omega (arith, count, step.within, length-append bytes front))) refl;
      grown = ap pieces last
          ∙ ap (λ progress. progress.whole ++ cut_piece progress.part) (written_more (last_bytes wrote bytes) front step.between)
          ∙ (cut (written (last_bytes wrote bytes)).whole).1
          ∙ ap (λ l. l ++ pieces_in (cut_entries conn (drop 5 front))) (sym (pieces_before (last_bytes wrote bytes) step.between));
    }

grew_by : (wrote now : ℕ) (gives : Bool) (bytes later : List ℕ) (more : List Piece) → (IsWhole wrote bytes → Grows wrote now gives bytes later more)
    → Grew (told_pieces (Some bytes) wrote true) (told_pieces (Some later) now gives) more
grew_by wrote now gives bytes later more grows = by_test (is_whole wrote true bytes) refl
  where
    by_test : (b : Bool) → is_whole wrote true bytes ≡ b → Grew (if b then Some (pieces (last_bytes wrote bytes)) else None) (told_pieces (Some later) now gives) more
    by_test true is = let step = grows (whole_from wrote bytes is) in rw step.in_step step.grown
    by_test false is = tt

counted_more : (wrote now : ℕ) (bytes later more : List ℕ) → wrote ≤ length bytes → later ≡ bytes ++ more → length later < 2 ^ 64 - 1 → now ≡ count_after wrote (length more) → now ≡ wrote + length more
counted_more wrote now bytes later more within is few count = omega (arith, ap length is, length-append bytes more)

pieces_whole : (old new : Option (List ℕ)) (wrote now conn : ℕ) (piece : List ℕ) → IfSome new (λ bytes. length bytes < 2 ^ 64 - 1) → FitsTwoBytes conn → FitsTwoBytes (length piece) → Writes old new wrote now (piece_frame conn piece)
    → Grew (told_pieces old wrote true) (told_pieces new now true) (record { conn = conn; bytes = piece; gone = false } ∷ [])
pieces_whole None new wrote now conn piece few conn_few piece_few wrote_it = tt
pieces_whole (Some old) None wrote now conn piece few conn_few piece_few wrote_it = absurd wrote_it.wrote
pieces_whole (Some old) (Some new) wrote now conn piece few conn_few piece_few wrote_it =
    grew_by wrote now true old new (record { conn = conn; bytes = piece; gone = false } ∷ [])
    (λ step. let P : List ℕ → Type 0 = λ l. Grows wrote now true old l (record { conn = conn; bytes = piece; gone = false } ∷ []) in
    subst P (sym wrote_it.wrote) (grow_whole wrote now conn old piece conn_few piece_few step
    (counted_more wrote now old new (piece_frame conn piece) step.within wrote_it.wrote few wrote_it.count)))

pieces_cut : (old new : Option (List ℕ)) (wrote now conn : ℕ) (piece front : List ℕ) → IfSome new (λ bytes. length bytes < 2 ^ 64 - 1) → ((before : List Piece) → WritesCut before conn piece front)
    → Writes old new wrote now front → Grew (told_pieces old wrote true) (told_pieces new now false) (pieces_in (cut_entries conn (drop 5 front)))
pieces_cut None new wrote now conn piece front few cut wrote_it = tt
pieces_cut (Some old) None wrote now conn piece front few cut wrote_it = absurd wrote_it.wrote
pieces_cut (Some old) (Some new) wrote now conn piece front few cut wrote_it =
    grew_by wrote now false old new (pieces_in (cut_entries conn (drop 5 front)))
    (λ step. let P : List ℕ → Type 0 = λ l. Grows wrote now false old l (pieces_in (cut_entries conn (drop 5 front))) in
    subst P (sym wrote_it.wrote) (grow_cut wrote now conn old piece front cut step
    (counted_more wrote now old new front step.within wrote_it.wrote few wrote_it.count)))

no_events : (conn : ℕ) (bytes : List ℕ) → events_in (cut_entries conn bytes) ≡ []
no_events conn [] = refl
no_events conn (byte ∷ bytes) = refl

tells_pieces : (events : Option (List LinkEvent)) (old new : Option (List Piece)) (entries : List Entry) → Grew old new (pieces_in entries) → events_in entries ≡ [] → Tells (trunk_told events old) (trunk_told events new) entries
tells_pieces events old new entries grown none = record {
  events = let P : List LinkEvent → Type 0 = λ l. Grew events events l in subst P (sym none) (grew_nothing events);
  pieces = grown;
  journal = tt;
}

cuts_told : (events : Option (List LinkEvent)) (old new : Option (List ℕ)) (wrote now conn : ℕ) (piece : List ℕ) → IfSome new (λ bytes. length bytes < 2 ^ 64 - 1) → FitsTwoBytes conn → FitsTwoBytes (length piece) → 0 < length piece
    → (front : List ℕ) × Prefix front (piece_frame conn piece) × Writes old new wrote now front
    → Cuts (trunk_told events (told_pieces old wrote true)) (trunk_told events (told_pieces new now false)) conn piece
cuts_told events old new wrote now conn piece few conn_few piece_few some (front, whole, wrote_it) =
    let cut = λ (before : List Piece). put_bytes-cut before conn piece front whole.0 conn_few piece_few some whole.1 in (
      drop 5 front,
      (cut []).0,
      tells_pieces events (told_pieces old wrote true) (told_pieces new now false) (cut_entries conn (drop 5 front)) (pieces_cut old new wrote now conn piece front few cut wrote_it) (no_events conn (drop 5 front)),
    )

-- what a trunk tells after a `give`
pub give_told : (events : Option (List LinkEvent)) (old new : Option (List ℕ)) (wrote now conn : ℕ) (piece : List ℕ) (result : Result Given LinkFault) → IfSome new (λ bytes. length bytes < 2 ^ 64 - 1) → FitsTwoBytes conn
    → 0 < length piece → length piece < 2 ^ 16 → WritesBy (Writes old new wrote now) conn piece result
    → Gives (trunk_told events (told_pieces old wrote true)) (trunk_told events (told_pieces new now (is_ok result))) conn piece result
give_told events old new wrote now conn piece (Ok All) few conn_few some piece_few wrote_it =
    tells_pieces events (told_pieces old wrote true) (told_pieces new now true) (entry.Gave conn piece false ∷ []) (pieces_whole old new wrote now conn piece few conn_few (omega arith) wrote_it) refl
give_told events old new wrote now conn piece (Ok (Gone count)) few conn_few some piece_few wrote_it = absurd wrote_it
give_told events old new wrote now conn piece (Err WriteFault) few conn_few some piece_few wrote_it = cuts_told events old new wrote now conn piece few conn_few (omega arith) some wrote_it
give_told events old new wrote now conn piece (Err Memory) few conn_few some piece_few wrote_it = cuts_told events old new wrote now conn piece few conn_few (omega arith) some wrote_it
give_told events old new wrote now conn piece (Err ReadFault) few conn_few some piece_few wrote_it = absurd wrote_it
give_told events old new wrote now conn piece (Err (Refused kind offset)) few conn_few some piece_few wrote_it = absurd wrote_it

pub no_bytes : (bytes : List ℕ) → last_bytes 0 bytes ≡ []
no_bytes bytes = let all : length bytes - 0 ≡ length bytes = omega arith in rw all (drop-length bytes)

-- where nothing was taken and nothing written, nothing is told
start_events : (source : Option Stream) (phases : Phases) → IsFresh phases → told_events source 0 phases true ≡ option_map (λ _. []) source
start_events None phases new = refl
start_events (Some stream) phases new =
    let step : InStep 0 phases stream.taken = record {
      within = omega arith;
      between = ap (λ l. (read_from fresh l).part) (no_bytes stream.taken);
      agree = record { same = λ conn below. ap (λ l. (read_from fresh l).state conn) (no_bytes stream.taken) ∙ sym (new conn) };
    } in
    rw (in_step_to 0 phases stream.taken step) (ap (λ l. Some (events fresh l)) (no_bytes stream.taken))

start_pieces : (sink : Option (List ℕ)) → told_pieces sink 0 true ≡ option_map (λ _. []) sink
start_pieces None = refl
start_pieces (Some bytes) =
    let whole : is_whole 0 true bytes ≡ true = rw (le-leb 0 (length bytes) (omega arith), no_bytes bytes) refl in
    rw whole (ap (λ l. Some (pieces l)) (no_bytes bytes))

pub start_told : (source : Option Stream) (sink : Option (List ℕ)) (phases : Phases) → IsFresh phases
    → trunk_told (told_events source 0 phases true) (told_pieces sink 0 true) ≡ told_nothing source sink
start_told source sink phases new = ap (λ events. trunk_told events (told_pieces sink 0 true)) (start_events source phases new) ∙ ap (λ pieces. trunk_told (option_map (λ _. []) source) pieces) (start_pieces sink)
