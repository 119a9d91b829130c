-- What stands outside of a command at a moment, as far as it tells, and the faults that it has counted.
use Rattle.std.specs.Prelude.{◌≡◌, ℕ, List, Option}
use Rattle.run_history.specs.declared.answer.Answer.TheVariants as answer
use Rattle.rx_serve.specs.Terms.{Rose, Stream, FileCall, Contents, Answer}

-- what the files tell at a moment, their contents and the calls on them, what the input and the output tell, and how many instructions were counted
pub record Outside : Type 0 where
  pub files : Option Contents
  pub calls : Option (List FileCall)
  pub input : Option Stream
  pub output : Option (List ℕ)
  pub counter : ℕ

abbrev pub outside : Option Contents → Option (List FileCall) → Option Stream → Option (List ℕ) → ℕ → Outside
outside files calls input output counter = record { files = files; calls = calls; input = input; output = output; counter = counter }

-- nothing was read, written or counted; of the files and the calls on them nothing is said
abbrev pub IsUntouched : Outside → Outside → Type 0
IsUntouched old new = new ≡ record old { files = new.files; calls = new.calls }

-- how many faults the files, the input and the output have counted
pub record Faults : Type 0 where
  pub files : ℕ
  pub input : ℕ
  pub output : ℕ

abbrev pub faults : ℕ → ℕ → ℕ → Faults
faults files input output = record { files = files; input = input; output = output }

-- a fault is answered only where the count of that object's own faults rose
pub record HasFaults (old new : Faults) (answered : Answer) : Type 0 where
  pub file_fault : answered ≡ answer.FileFault → Rose old.files new.files
  pub read_fault : answered ≡ answer.ReadFault → Rose old.input new.input
  pub write_fault : answered ≡ answer.WriteFault → Rose old.output new.output
