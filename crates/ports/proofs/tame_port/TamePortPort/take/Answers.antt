use Rattle.ports.proofs.Terms.{ap, arith, drop, false, length, refl, sym, ◌<◌, ◌∙◌, Stream, piece_len, input_stream, open_within}
use Rattle.ports.proofs.TameLemmas.{front_of, read_at, taken_at}
use Rattle.ports.proofs.tame_port.TamePortPort.take.Goals as goal

pub returns-clause-next : goal.returns-clause-next
returns-clause-next c =
    let self = c.args.self.now in
    let inside = open_within self.opened.items c.args.conn c.requires.connected in
    let same = self.begun_each in
    let less : c.args.conn < length self.begun.items = omega arith in
    taken_at self.begun.items c.args.conn (length c.next_piece-piece.result.now) self.most (length c.args.buf.now) c.index_mut-input.result.now c.advance.new.self _ less
    (read_at self.begun.items c.args.conn c.index_mut-input.result.now _ less c.index_mut-input.ensures.value) c.advance.ensures c.next_piece-piece.ensures.count self.goes_on c.requires.room
    (front_of c.next_piece-piece.result.now c.copy_from_slice.new.self (drop (length c.next_piece-piece.result.now) c.args.buf.now) (input_stream c.index_mut-input.result.now).left _
    c.copy_from_slice.ensures.after c.next_piece-piece.ensures.bytes c.next_piece-piece.ensures.count)

pub returns-clause-answer : goal.returns-clause-answer
returns-clause-answer c =
    let self = c.args.self.now in
    let inside = open_within self.opened.items c.args.conn c.requires.connected in
    let same = self.begun_each in
    let less : c.args.conn < length self.begun.items = omega arith in (
      refl,
      c.next_piece-piece.ensures.count ∙ ap (λ (s : Stream). piece_len self.most (length c.args.buf.now) s)
          (sym (read_at self.begun.items c.args.conn c.index_mut-input.result.now _ less c.index_mut-input.ensures.value)),
    )
