-- What the files in memory tell.
use Rattle.std.specs.Prelude.{List, Some, unwrap_or, []}
use Rattle.rx_io.specs.Terms.{Plan, FileCall}
use Rattle.rx_io.specs.Named.{Contents}
use Rattle.rx_io.specs.Shelves.{found}
use Rattle.rx_io.specs.declared.memory_files.MemoryFiles.{MemoryFiles}
use Rattle.rx_io.specs.declared.tame_files.TameFiles.{TameFiles}

-- the files that are kept, by their names
abbrev pub memory_contents : MemoryFiles → Contents
memory_contents s = found s.files.files.items

-- which calls are to fail
abbrev pub memory_files_plan : MemoryFiles → Plan
memory_files_plan s = s.fails

-- the files that are there
abbrev pub tame_found : TameFiles → Contents
tame_found s = found s.files.files.items

-- each name is told as there, a missing one as empty
abbrev pub or_empty : Contents → Contents
or_empty files name = Some (unwrap_or (files name) [])

-- what is told of the files: a name that is missing has no byte
abbrev pub tame_contents : TameFiles → Contents
tame_contents s = or_empty (tame_found s)

-- all calls that were made
abbrev pub tame_file_calls : TameFiles → List FileCall
tame_file_calls s = s.calls.items
