-- Which values a report may have, its text, and what a reading of some bytes is.
use Rattle.std.specs.Prelude.{◌≡◌, ℕ, suc, ◌^◌, ◌<◌, ◌≤◌, Bool, true, false, ⊤, List, [], ◌∷◌, ◌++◌, length, All, IfSome, Option, None, Some, if◌then◌else◌}
use Rattle.report_reading.specs.Terms.{option_to_list, Cause, AssertFailed, BadAccess, BadCall, BadFree, BadInstruction, BadJump, Hang, Episode, Tried, Asks, Behind, Contradicts, Exits, Failed, Try, survives, Form, end_text, episode_text, head_text}
use Rattle.report_reading.specs.declared.reported.ReadReport.{ReadReport}
use Rattle.report_reading.specs.declared.reported.ReportEnd.{ReportEnd}
use Rattle.report_reading.specs.Cutting.{is_torn}

-- ---- ranges

abbrev pub IsCause : Cause → Type 0
IsCause BadAccess = ⊤
IsCause BadJump = ⊤
IsCause BadInstruction = ⊤
IsCause (AssertFailed code) = code < 2 ^ 32
IsCause Hang = ⊤
IsCause BadFree = ⊤
IsCause BadCall = ⊤

-- a report doesn't say that a trial ended itself: such a one stands there as one that asks for the next item
abbrev pub IsTried : Tried → Type 0
IsTried Asks = ⊤
IsTried (Exits code) = ⊥
IsTried (Failed cause) = IsCause cause
IsTried Contradicts = ⊤
IsTried Behind = ⊤

pub record IsTry (t : Try) : Type 0 where
  pub checkpoint : t.checkpoint < 2 ^ 64
  pub tried : IsTried t.tried

-- the numbers of an episode are in the ranges of their types, those of its trials too, which are counted from 0
pub record IsEpisode (e : Episode) : Type 0 where
  pub point : e.point < 2 ^ 64
  pub cause : IsCause e.cause
  pub pc : e.pc < 2 ^ 32
  pub tries : All IsTry e.tries
  pub few : length e.tries ≤ 2 ^ 64

pub record IsEnd (finish : ReportEnd) : Type 0 where
  pub status : finish.status < 2 ^ 8
  pub taken : finish.taken < 2 ^ 64
  pub steps : finish.steps < 2 ^ 64

-- ---- which trials survived

-- none of some trials
abbrev pub none_survived : List Try → Bool
none_survived [] = true
none_survived (t ∷ tries) = if survives t.tried then false else none_survived tries

-- no trial follows
abbrev pub ends : List Try → Bool
ends [] = true
ends (t ∷ tries) = false

-- the last one, and no earlier one
abbrev pub last_survived : List Try → Bool
last_survived [] = false
last_survived (t ∷ tries) = if survives t.tried then ends tries else last_survived tries

-- ---- order

-- points rise strictly, from this number on
abbrev pub RiseFrom : ℕ → List Episode → Type 0
RiseFrom least [] = ⊤
RiseFrom least (e ∷ episodes) = (least ≤ e.point) × RiseFrom (suc e.point) episodes

-- the least point that an episode behind these may have, where it is this one without them
abbrev pub least_behind : ℕ → List Episode → ℕ
least_behind least [] = least
least_behind least (e ∷ episodes) = least_behind (suc e.point) episodes

-- ---- reports

abbrev pub WasAdopted : Episode → Type 0
WasAdopted e = last_survived e.tries ≡ true

-- an episode behind those that were adopted, of which no trial survived
pub record HasFailed (adopted : List Episode) (e : Episode) : Type 0 where
  pub ranges : IsEpisode e
  pub rises : least_behind 0 adopted ≤ e.point
  pub none : none_survived e.tries ≡ true

pub record IsReport (value : ReadReport) : Type 0 where
  pub ranges : All IsEpisode value.adopted
  pub rise : RiseFrom 0 value.adopted
  pub adopted : All WasAdopted value.adopted
  pub failed : IfSome value.failed (HasFailed value.adopted)
  pub finish : IfSome value.end IsEnd

-- the texts of some episodes, numbered from this number on
abbrev pub episode_texts : Form → ℕ → List Episode → List ℕ
episode_texts form number [] = []
episode_texts form number (e ∷ episodes) = episode_text number e form ++ episode_texts form (suc number) episodes

-- the text of the end, if there is one
abbrev pub last_text : Form → Option ReportEnd → List ℕ
last_text form None = []
last_text form (Some finish) = end_text finish.status finish.taken finish.steps form

-- the first line, the adopted episodes, the failed one, and the end
abbrev pub text_of : ReadReport → List ℕ
text_of value =
    head_text value.form
    ++ (episode_texts value.form 0 value.adopted ++ (episode_texts value.form (length value.adopted) (option_to_list value.failed) ++ last_text value.form value.end))

-- a torn line behind a report: bytes without a line feed, and none where the end is there
abbrev pub IsTornBehind : Option ReportEnd → List ℕ → Type 0
IsTornBehind None torn = is_torn torn ≡ true
IsTornBehind (Some finish) torn = torn ≡ []

-- some bytes are the text of a report with a torn line behind it
pub record IsReading (bytes : List ℕ) (value : ReadReport) : Type 0 where
  pub is : IsReport value
  pub torn : List ℕ
  pub behind : IsTornBehind value.end torn
  pub whole : text_of value ++ torn ≡ bytes
