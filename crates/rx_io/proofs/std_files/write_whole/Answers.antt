use Rattle.std.proofs.Common.{ap, append_assoc, sym, take, take-append-drop, ◌++◌, ◌∙◌}
use Rattle.std.proofs.KnownBytes.{Appends-trans}
use Rattle.rx_io.proofs.std_files.write_whole.Goals as goal

-- what was written before, and then the piece
pub pieces-preserved : goal.pieces-preserved
pieces-preserved g c =
    let done = c.pieces.invariant.0 in
    let piece = take c.in-Ok.count c.pieces.rest.now in (
      done ++ piece,
      c.pieces.invariant.1 ∙ ap (λ l. done ++ l) (sym (take-append-drop c.in-Ok.count c.pieces.rest.now)) ∙ sym (append_assoc done piece _)
          ∙ ap (λ l. (done ++ piece) ++ l) (sym c.split_at.ensures.back),
      Appends-trans _ _ _ done piece c.pieces.invariant.2 c.in-Ok.ensures.bytes,
    )
