use Rattle.std.proofs.lemmas.Result.{err_from_is_err_and}
use Rattle.schedule_file.proofs.Terms.{Err, List, length, subst, sym, ◌+◌, Line, Refused, ReadsRecord}
use Rattle.schedule_file.proofs.Finished.{refuses_missing, refuses_too, reads_finished}
use Rattle.schedule_file.proofs.reading.read_record.Goals as goal

pub returns-in_err-read : goal.returns-in_err-read
returns-in_err-read c =
    let p = err_from_is_err_and c.from_residual.result c.from_residual.ensures.1 in
    rw (p.1, p.2) (refuses_too c.args.bytes.now c.in_err-read.field-0.0 c.in_err-read.ensures)

pub returns-in_default : goal.returns-in_default
returns-in_default c =
    subst (λ (lines : List Line). ReadsRecord c.args.bytes.now (Err (Refused (length lines + 2)))) (sym c.as_slice.ensures)
    (refuses_missing c.args.bytes.now c.in_ok-read.read c.in_ok-read.ensures c.in_default.is)

pub returns : goal.returns
returns c = reads_finished c.args.bytes.now c.in_ok-read.read c.in-Some.finish c.in_ok-read.ensures c.in-Some.is
