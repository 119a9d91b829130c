-- A session that begins: its program is loaded, its two files are started, and memory is taken for it.
use Rattle.std.specs.Prelude.{◌≡◌, ◌⊎◌, List, Option, Result, Ok, Err}
use Rattle.run_history.specs.declared.answer.Answer.TheVariants as answer
use Rattle.rx_serve.specs.Terms.{IoFault, FileCall, Calls, Contents, Image, Answer, CallsFront, IsBegun, SessionState, RunValue}
use Rattle.rx_serve.specs.Calling.{before_session}
use Rattle.rx_serve.specs.Loading.{HasImage, HasLoadCause}
use Rattle.rx_serve.specs.Noting.{IsFilesAnswer, StartsFiles}
use Rattle.rx_serve.specs.Settings.{options_of, window_of}

-- the program was read; then a fault or want of memory came as the two files were started; or they were started, and there was no memory for a session
pub record StartsBehind (value : RunValue) (files files_later : Option Contents) (end : Answer) : Type 0 where
  pub image : Image
  pub program : HasImage files value.program (window_of value) image
  pub starts :
      ((fault : IoFault) × (IsFilesAnswer fault end × StartsFiles value files files_later (Err fault)))
      ⊎ ((end ≡ answer.Memory) × StartsFiles value files files_later (Ok tt))

-- what the files have where no session began: nothing of them was touched; or the two were started, in part or whole, behind the program
abbrev pub StartsPartly : RunValue → Option Contents → Option Contents → Answer → Type 0
StartsPartly value files files_later end = (files_later ≡ files) ⊎ StartsBehind value files files_later end

-- the program has this image, both files have their first lines, and the session stands at the program's start under this access rule
pub record HasBegun {R : Type 0} (value : RunValue) (rule : R) (files files_later : Option Contents) (session : SessionState R) : Type 0 where
  pub image : Image
  pub program : HasImage files value.program (window_of value) image
  pub starts : StartsFiles value files files_later (Ok tt)
  pub begun : IsBegun image (options_of value) rule session

-- a session that has begun, or why there is none
abbrev pub BeginsSession : {R : Type 0} → RunValue → R → Option Contents → Option Contents → Result (SessionState R) Answer → Type 0
BeginsSession value rule files files_later (Ok session) = HasBegun value rule files files_later session
BeginsSession value rule files files_later (Err end) = HasLoadCause files value.program (window_of value) end × StartsPartly value files files_later end

-- the calls on the files until then
abbrev pub CallsBegin : {S : Type 0} → RunValue → Option (List FileCall) → Option (List FileCall) → Result S Answer → Type 0
CallsBegin value old new (Ok session) = Calls old new (before_session value)
CallsBegin value old new (Err end) = CallsFront old new (before_session value)
