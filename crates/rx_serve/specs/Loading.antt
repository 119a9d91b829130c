-- The program file, by its name.
use Rattle.std.specs.Prelude.{◌≡◌, ℕ, ◌<◌, ◌≤◌, List, length, Option, Some, IfSome, IsSomeAnd, Result, Ok, Err, Vec}
use Rattle.rx_serve.specs.Terms.{Global, Contents, Image, IsImage, refusal, Answer, ElfRefused, FileFault, Memory, TooLarge}
use Rattle.rx_serve.specs.Limits.{program_limit}

-- the files say that a name has these bytes, if they tell
abbrev pub Has : Option Contents → List ℕ → List ℕ → Type 0
Has told name bytes = IfSome told (λ files. files name ≡ Some bytes)

-- the file of a name is no longer than so many bytes
pub record HasFile (told : Option Contents) (name : List ℕ) (limit : ℕ) (file : List ℕ) : Type 0 where
  pub has : Has told name file
  pub small : length file ≤ limit

-- it is longer
abbrev pub IsTooLarge : Option Contents → List ℕ → ℕ → Type 0
IsTooLarge told name limit = IfSome told (λ files. IsSomeAnd (files name) (λ bytes. limit < length bytes))

-- the bytes of a name, or why they weren't loaded
abbrev pub LoadsFile : Option Contents → List ℕ → ℕ → Result (Vec ℕ Global) Answer → Type 0
LoadsFile told name limit (Ok file) = HasFile told name limit file.items
LoadsFile told name limit (Err TooLarge) = IsTooLarge told name limit
LoadsFile told name limit (Err FileFault) = Unit {0}
LoadsFile told name limit (Err Memory) = Unit {0}
LoadsFile told name limit (Err _) = ⊥

-- the image of a program file in a window of so many bytes, or why it has none
abbrev pub ReadsImage : List ℕ → ℕ → Result Image Answer → Type 0
ReadsImage file window (Ok image) = IsImage file window image
ReadsImage file window (Err (ElfRefused kind)) = refusal file window ≡ Some kind
ReadsImage file window (Err Memory) = Unit {0}
ReadsImage file window (Err _) = ⊥

-- the file of a name is a program file with this image in a window of so many bytes
pub record HasImage (told : Option Contents) (name : List ℕ) (window : ℕ) (image : Image) : Type 0 where
  pub file : List ℕ
  pub has : Has told name file
  pub small : length file ≤ program_limit
  pub is : IsImage file window image

-- and here it is none, by the number of the first refusal that holds
pub record HasRefusal (told : Option Contents) (name : List ℕ) (window kind : ℕ) : Type 0 where
  pub file : List ℕ
  pub has : Has told name file
  pub small : length file ≤ program_limit
  pub refused : refusal file window ≡ Some kind

-- why there is no image: the file is refused, it is too large, or can't be read, or memory ran out
abbrev pub HasLoadCause : Option Contents → List ℕ → ℕ → Answer → Type 0
HasLoadCause told name window (ElfRefused kind) = HasRefusal told name window kind
HasLoadCause told name window TooLarge = IfSome told (λ files. IsSomeAnd (files name) (λ bytes. program_limit < length bytes))
HasLoadCause told name window FileFault = Unit {0}
HasLoadCause told name window Memory = Unit {0}
HasLoadCause told name window _ = ⊥

-- the image of the file of a name, or why it has none
abbrev pub LoadsImage : Option Contents → List ℕ → ℕ → Result Image Answer → Type 0
LoadsImage told name window (Ok image) = HasImage told name window image
LoadsImage told name window (Err answer) = HasLoadCause told name window answer
