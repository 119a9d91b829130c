-- Which call the registers make.
use Rattle.std.specs.Prelude.{ℕ, List, Result, Ok, Err, slice_index, if◌then◌else◌, ◌==◌}
use Rattle.block_book.specs.declared.choice.Ask.TheVariants.{Malloc, Calloc, Realloc}
use Rattle.run_history.specs.declared.answer.Cause.{Cause}
use Rattle.run_history.specs.declared.answer.Cause.TheVariants.{BadCall}
use Rattle.call_gate.specs.declared.call.Call.{Call}
use Rattle.call_gate.specs.declared.call.Call.TheVariants.{Recv, Send, Allocate, Free, Exit, Assert}

-- the call that the registers make: its number is in x17, its arguments from x10 on
abbrev pub called : List ℕ → Result Call Cause
called registers =
    if slice_index registers 17 == 1 then Ok (Recv (slice_index registers 10) (slice_index registers 11)) else
    if slice_index registers 17 == 2 then Ok (Send (slice_index registers 10) (slice_index registers 11) (slice_index registers 12)) else
    if slice_index registers 17 == 3 then Ok (Allocate (Malloc (slice_index registers 10))) else
    if slice_index registers 17 == 4 then Ok (Free (slice_index registers 10)) else
    if slice_index registers 17 == 5 then Ok (Exit (slice_index registers 10)) else
    if slice_index registers 17 == 6 then Ok (Assert (slice_index registers 10)) else
    if slice_index registers 17 == 7 then Ok (Allocate (Calloc (slice_index registers 10) (slice_index registers 11))) else
    if slice_index registers 17 == 8 then Ok (Allocate (Realloc (slice_index registers 10) (slice_index registers 11))) else
    Err BadCall
