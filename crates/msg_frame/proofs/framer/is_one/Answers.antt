use Rattle.msg_frame.proofs.Terms.{arith, length, ◌≡◌, skipped}
use Rattle.msg_frame.proofs.Walking.{one_of}
use Rattle.msg_frame.proofs.framer.is_one.Goals as goal

pub returns-then-n-bytes : goal.returns-then-n-bytes
returns-then-n-bytes c =
    let none : skipped c.args.framing ≡ 0 = grind arith in
    let all : c.in-Within.n ≡ length c.args.bytes.now = grind arith in
    λ _. one_of c.args.framing c.args.bytes.now c.in-Within.n c.in-Within.ensures none all
