-- The status with which the program ends.
use Rattle.std.specs.Prelude.{ℕ, if◌then◌else◌, ◌==◌}
use Rattle.rx_serve.specs.Terms.{Answer, AsmRefused, BadWords, CountsRefused, ElfRefused, Exited, FileFault, Finished, GaveUp, InputRefused, LimitEvents, LimitItems, Memory, MessageTooLong, Mismatch, ReadFault, RecordRefused, ReportRefused, Short, TooLarge, WriteFault}

abbrev pub status_of : Answer → ℕ
status_of Finished = 0
status_of (Exited code) = if code == 0 then 0 else 1
status_of BadWords = 2
status_of (ElfRefused kind) = 3
status_of (AsmRefused kind line) = 3
status_of (RecordRefused line) = 3
status_of (ReportRefused line) = 3
status_of (CountsRefused line) = 3
status_of (Short conn) = 3
status_of (Mismatch step) = 3
status_of TooLarge = 3
status_of (InputRefused kind offset) = 4
status_of (MessageTooLong conn) = 4
status_of (GaveUp point cause) = 5
status_of LimitItems = 6
status_of LimitEvents = 6
status_of ReadFault = 7
status_of WriteFault = 8
status_of FileFault = 9
status_of Memory = 10
