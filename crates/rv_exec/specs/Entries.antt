-- Instructions that are done by the entries of a table.
use Rattle.std.specs.Prelude.{◌≡◌, ℕ, ◌+◌, ◌-◌, ◌%◌, ◌^◌, ◌<◌, ◌≤◌, ℤ, Bool, List, take, slice_index}
use Rattle.rv_exec.specs.Terms.{OnTrue, Heap, Entry, EntryOp, IsEntryOf, address, Regs, Windows, word_count, GuestPages, AreWindows}
use Rattle.rv_exec.specs.declared.entries.Next.{Next}
use Rattle.rv_exec.specs.declared.entries.Next.TheVariants.{Behind, To, Stops}
use Rattle.rv_exec.specs.Quick.{IsDone, IsStep, Ran, regs_of}

-- the registers that a guest sees: the last one takes what is written to register 0
abbrev pub seen : List ℕ → List ℕ
seen x = take 32 x

-- the program counter of a word, by its number among those from a start on, or behind the last one
abbrev pub counter : ℕ → ℕ → ℕ
counter start number = address start number % 2 ^ 32

-- the number of the entry that comes next
abbrev pub number_of : ℕ → Next → ℕ
number_of number Behind = number + 1
number_of number (To other) = other
number_of number Stops = number

-- the word that an entry was made of was done, and register 0 holds 0
pub record IsEntryDone (rule : Heap → ℕ → ℕ → Bool) (heap : Heap) (start number word : ℕ) (x : List ℕ) (space : GuestPages) (next : Next) (new_x : List ℕ) (new_space : GuestPages) : Type 0 where
  pub zero : slice_index new_x 0 ≡ 0
  pub done : IsDone rule heap word (regs_of (address start number) (seen x)) space (regs_of (counter start (number_of number next)) (seen new_x)) new_space

-- an entry was done, of whatever word it is; or nothing changed
abbrev pub EntryDone : (Heap → ℕ → ℕ → Bool) → Heap → ℕ → ℕ → Entry → List ℕ → GuestPages → Next → List ℕ → GuestPages → Type 0
EntryDone rule heap start number entry x space Stops new_x new_space = (new_x ≡ x) × (new_space ≡ space)
EntryDone rule heap start number entry x space next new_x new_space = (word : ℕ) → IsEntryOf start number word entry → IsEntryDone rule heap start number word x space next new_x new_space

-- an entry that is gone to is one of so many
abbrev pub IsAmong : ℕ → Next → Type 0
IsAmong count (To other) = other < count
IsAmong count _ = Unit

-- an entry of an operation with these operands
pub record IsWritten (op : EntryOp) (rs1 rs2 : ℕ) (imm : ℤ) (entry : Entry) : Type 0 where
  pub kind : entry.op ≡ op
  pub first : entry.rs1 ≡ rs1
  pub second : entry.rs2 ≡ rs2
  pub offset : entry.imm ≡ imm

-- a number among those of a memory's code, of so many words from a start on, or the one behind them
pub record IsAt (start count number : ℕ) (space : GuestPages) : Type 0 where
  pub start_is : start ≡ space.code.start
  pub count_is : count ≡ word_count space.code
  pub within : number ≤ count

-- the instruction at the program counter was done, or nothing changed
abbrev pub StepsOrStays : (Heap → ℕ → ℕ → Bool) → Heap → Regs → GuestPages → Next → Regs → GuestPages → Type 0
StepsOrStays rule heap regs space Stops new_regs new_space = (new_regs ≡ regs) × (new_space ≡ space)
StepsOrStays rule heap regs space next new_regs new_space = IsStep rule heap regs space new_regs new_space

-- what was done is an entry of a word, of so many
abbrev pub IsOfWord : ℕ → ℕ → Next → Type 0
IsOfWord count number Stops = Unit
IsOfWord count number next = number < count

-- the entry of a number was done, or nothing changed
pub record Entered (rule : Heap → ℕ → ℕ → Bool) (heap : Heap) (start count number : ℕ) (x : List ℕ) (space : GuestPages) (next : Next) (new_x : List ℕ) (new_space : GuestPages) : Type 0 where
  pub zero : slice_index new_x 0 ≡ 0
  pub place : IsAt start count (number_of number next) new_space
  pub word : IsOfWord count number next
  pub done : StepsOrStays rule heap (regs_of (counter start number) (seen x)) space next (regs_of (counter start (number_of number next)) (seen new_x)) new_space

-- so many entries were done one behind the other, and then the one behind these, or nothing more changed
pub record WentOn (rule : Heap → ℕ → ℕ → Bool) (heap : Heap) (start count number behind : ℕ) (x : List ℕ) (space : GuestPages) (next : Next) (new_x : List ℕ) (new_space : GuestPages) : Type 0 where
  pub mid_x : List ℕ
  pub mid_space : GuestPages
  pub ran : Ran rule heap behind (regs_of (counter start number) (seen x)) space (regs_of (counter start (number + behind)) (seen mid_x)) mid_space
  pub code : mid_space.code ≡ space.code
  pub last : Entered rule heap start count (number + behind) mid_x mid_space next new_x new_space

-- the limit that comes next: a jump from the entry of a number moves it
abbrev pub limit_of : ℕ → ℕ → Next → ℕ
limit_of limit number (To other) = limit - number - 1 + other
limit_of limit number _ = limit

-- how many steps an entry was
abbrev pub tried : Next → ℕ
tried Stops = 0
tried _ = 1

-- an entry of a number and what comes next are among those of so many words, or the one behind them
pub record Lands (count number : ℕ) (next : Next) : Type 0 where
  pub within : number ≤ count
  pub word : IsOfWord count number next
  pub there : number_of number next ≤ count

-- the number and the limit that come next
pub record GoesTo (number limit : ℕ) (next : Next) (new_number new_limit : ℕ) : Type 0 where
  pub number_is : new_number ≡ number_of number next
  pub limit_is : new_limit ≡ limit_of limit number next

-- something was done, and all up to the last entry may be done from there
pub record Goes (count number limit new_number new_limit : ℕ) : Type 0 where
  pub enough : count ≤ new_limit
  pub further : new_limit + number < limit + new_number

-- so many instructions were done from the entry of a number on, each counted, and so many fewer are left
pub record RanOn (rule : Heap → ℕ → ℕ → Bool) (heap : Heap) (start count number limit steps : ℕ) (x : List ℕ) (space : GuestPages) (new_number new_limit new_steps : ℕ) (new_x : List ℕ) (new_space : GuestPages) : Type 0 where
  pub done : ℕ
  pub ran : Ran rule heap done (regs_of (counter start number) (seen x)) space (regs_of (counter start new_number) (seen new_x)) new_space
  pub zero : slice_index new_x 0 ≡ 0
  pub place : IsAt start count new_number new_space
  pub code : new_space.code ≡ space.code
  pub left : new_limit + number + done ≡ limit + new_number
  pub inside : new_number ≤ new_limit
  pub counted : new_steps ≡ steps + done

-- the entry of a number may be done next, and all up to the last one from there
pub record MayRun (entries : List Entry) (start count number limit : ℕ) (x : List ℕ) (space : GuestPages) (windows : Windows) : Type 0 where
  pub code : entries ≡ space.code.entries
  pub place : IsAt start count number space
  pub zero : slice_index x 0 ≡ 0
  pub holds : AreWindows space windows
  pub enough : count ≤ limit
  pub room : limit + count < 2 ^ 64 + number

-- what was done from there, and whether the next entry may be done in the same way
pub record Runs (rule : Heap → ℕ → ℕ → Bool) (heap : Heap) (start count number limit steps : ℕ) (x : List ℕ) (space : GuestPages) (further : Bool) (new_number new_limit new_steps : ℕ) (new_x : List ℕ) (new_space : GuestPages) (new_windows : Windows) : Type 0 where
  pub ran : RanOn rule heap start count number limit steps x space new_number new_limit new_steps new_x new_space
  pub holds : AreWindows new_space new_windows
  pub goes : OnTrue further (Goes count number limit new_number new_limit)
