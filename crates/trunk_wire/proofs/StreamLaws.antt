-- Streams of frames: what pieces take out.
use Rattle.std.specs.List.{All, AllByRecursion}
use Rattle.trunk_wire.proofs.Terms.{List, [], ap, append-nil, append_assoc, arith, drop, false, length, sym, ℕ, ◌++◌, ◌<◌, ◌∙◌, ◌∷◌, ◌≡◌, All-head, All-tail, Prefix, Piece, cut_entries, pieces_in, FitsTwoBytes, frames, piece_frame, front, put_bytes, cut_piece, piece_reader, pieces, IsFramed}
use Rattle.trunk_wire.proofs.PieceLemmas.{put_bytes-piece, put_bytes-cut}
use Rattle.trunk_wire.proofs.ProgressLemmas.{put_bytes-append}

-- a piece that a frame holds, all of it
pub record IsSent (piece : Piece) : Type 0 where
  pub conn : FitsTwoBytes piece.conn
  pub few : FitsTwoBytes (length piece.bytes)
  pub whole : piece.gone ≡ false

-- what a trunk wrote are such pieces
pub framed_sent : (list : List Piece) → All IsFramed list → AllByRecursion IsSent list
framed_sent [] all = tt
framed_sent (piece ∷ list) all =
    let framed = All-head IsFramed piece list all in
    (record { conn = omega (arith, framed.below); few = omega (arith, framed.few); whole = framed.whole }, framed_sent list (All-tail IsFramed piece list all))

written_frames : (before list : List Piece) → AllByRecursion IsSent list → put_bytes piece_reader (record { whole = before; state = tt; part = [] }) (frames list) ≡ record { whole = before ++ list; state = tt; part = [] }
written_frames before [] all = ap (λ l. record { whole = l; state = tt; part = [] }) (sym (append-nil before))
written_frames before (piece ∷ list) all =
    put_bytes-append piece_reader (record { whole = before; state = tt; part = [] }) (piece_frame piece.conn piece.bytes) (frames list)
    ∙ ap (λ progress. put_bytes piece_reader progress (frames list)) (put_bytes-piece piece.conn piece.bytes before all.0.conn all.0.few)
    ∙ ap (λ gone. put_bytes piece_reader (record { whole = before ++ record { conn = piece.conn; bytes = piece.bytes; gone = gone } ∷ []; state = tt; part = [] }) (frames list)) (sym all.0.whole)
    ∙ written_frames (before ++ piece ∷ []) list all.1
    ∙ ap (λ l. record { whole = l; state = tt; part = [] }) (append_assoc before (piece ∷ []) list)

-- the frames of pieces are these pieces
pub pieces-frames : (list : List Piece) → AllByRecursion IsSent list → pieces (frames list) ≡ list
pieces-frames list all = ap (λ progress. progress.whole ++ cut_piece progress.part) (written_frames [] list all) ∙ append-nil list

-- and with a frame that is cut short behind them, what it has of its payload too
pub pieces-cut : (list : List Piece) (conn : ℕ) (bytes front : List ℕ) → AllByRecursion IsSent list → FitsTwoBytes conn → FitsTwoBytes (length bytes) → 0 < length bytes → Prefix front (piece_frame conn bytes)
    → pieces (frames list ++ front) ≡ list ++ pieces_in (cut_entries conn (drop 5 front))
pieces-cut list conn bytes front all conn_few few some (rest, whole) =
    ap (λ progress. progress.whole ++ cut_piece progress.part) (put_bytes-append piece_reader (record { whole = []; state = tt; part = [] }) (frames list) front)
    ∙ ap (λ progress. (put_bytes piece_reader progress front).whole ++ cut_piece (put_bytes piece_reader progress front).part) (written_frames [] list all)
    ∙ (put_bytes-cut list conn bytes front rest conn_few few some whole).1
