-- What a command is held to whatever its words are.
use Rattle.std.specs.Prelude.{ℕ}
use Rattle.rx_serve.specs.declared.loading.TheConstants.{MAX_PROGRAM}
use Rattle.rx_serve.specs.declared.assembly.TheConstants.{MAX_SOURCE, ASSEMBLY_WINDOW}
use Rattle.rx_serve.specs.declared.replaying.TheConstants.{MAX_RECORD}
use Rattle.rx_serve.specs.declared.standby_files.TheConstants.{MAX_COUNTS}
use Rattle.rx_serve.specs.declared.resuming_files.TheConstants.{MAX_REPORT}

-- the greatest number of bytes of a program file
abbrev pub program_limit : ℕ
program_limit = MAX_PROGRAM

-- of a record
abbrev pub record_limit : ℕ
record_limit = MAX_RECORD

-- of a report
abbrev pub report_limit : ℕ
report_limit = MAX_REPORT

-- of how many bytes each client has
abbrev pub counts_limit : ℕ
counts_limit = MAX_COUNTS

-- and of an assembler's text
abbrev pub source_limit : ℕ
source_limit = MAX_SOURCE

-- the window that a text is assembled for
abbrev pub assembly_window : ℕ
assembly_window = ASSEMBLY_WINDOW
